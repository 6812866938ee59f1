-- What a view of the lock's table is: what one pass knows of the book that all passes share.
use Rattle.std.specs.Prelude.{ℕ, List, [], ◌∷◌, ◌++◌, Option, Some, None}
use Rattle.record_rules.specs.Records.{Entry}
use Rattle.session_rules.specs.Passes.{Pass, joined}
use Rattle.session_rules.specs.Books.{Book, turn_between}

-- A seat that was split off has no number until it is named. A seat that was joined to another one is spent.
pub data Stage : Type 0 where
  unnamed : Stage
  named : Stage
  spent : Stage

-- what the holder of the turn keeps: the book as it found it, and the book as all are to find it next
pub record HeldBook : Type 0 where
  pub found : Book
  pub now : Book

pub record PassView : Type 0 where
  pub pass : Pass
  pub held : Option HeldBook
  pub olds : List (List Entry)
  pub stage : Stage

-- the view with which a book begins to be shared
abbrev pub first_view : Book → PassView
first_view book = record {
  pass = record { number = 1; seen = book.entries; known = 1; turns = []; faults = book.faults; fixed = book.fixed };
  held = None;
  olds = [];
  stage = named;
}

-- the turn was taken, and this book found
abbrev pub holding : Book → PassView → PassView
holding book v = record v { held = Some (record { found = book; now = book }) }

-- the holder has seen the book that it found
abbrev pub learned : HeldBook → PassView → PassView
learned h v = record v { pass = record v.pass { seen = h.now.entries; faults = h.now.faults } }

-- the holder left this book
abbrev pub committed : HeldBook → Book → PassView → PassView
committed h book v = record v { pass = record v.pass { seen = book.entries; faults = book.faults }; held = Some (record { found = h.found; now = book }) }

-- the turn was given
abbrev pub freed : HeldBook → PassView → PassView
freed h v = record v { pass = record v.pass { turns = v.pass.turns ++ turn_between h.found h.now ∷ [] }; held = None }

-- a seat that is split off
abbrev pub split_view : PassView → PassView
split_view v = record { pass = record v.pass { number = 0; turns = [] }; held = None; olds = []; stage = unnamed }

-- so many numbers were found given
abbrev pub looked : ℕ → PassView → PassView
looked k v = record v { pass = record v.pass { known = k } }

-- it got this number
abbrev pub named_view : ℕ → PassView → PassView
named_view k v = record v { pass = record v.pass { number = k; known = k }; stage = named }

-- another one was joined to it
abbrev pub both_views : PassView → PassView → PassView
both_views v w = record v { pass = joined v.pass w.pass; olds = v.pass.seen ∷ w.pass.seen ∷ [] }

-- a blank book and what a seat is left with
abbrev pub spent_view : PassView
spent_view = record { pass = record { number = 0; seen = []; known = 0; turns = []; faults = 0; fixed = [] }; held = None; olds = []; stage = spent }

-- What the first place of two statuses stands for.
use Rattle.record_model.specs.Seen.{chain_seen, chains_seen}
use Rattle.sync_plan.specs.FirstPlaces.{place_of, FirstOf}
use Rattle.sync_plan.specs.declared.places.FirstPlace.{FirstPlace}

abbrev pub first_seen : FirstPlace → FirstOf
first_seen f = record { place = place_of (chain_seen f.chain.now); local = f.local; remote = f.remote; ours = chains_seen f.ours.now; theirs = chains_seen f.theirs.now }

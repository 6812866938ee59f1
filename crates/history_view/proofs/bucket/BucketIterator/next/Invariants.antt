use Rattle.std.proofs.Common.{◌≡◌, length}
use Rattle.history_view.specs.Walk.{walked_in}
use Rattle.history_view.specs.Buckets.{bucket_in}
use Rattle.history_view.proofs.bucket.BucketIterator.next.Given as goal

abbrev pub invariant-loop-walked : goal.invariant-loop-walked
invariant-loop-walked l = bucket_in l.self ≡ bucket_in l.initial.self

abbrev pub decreases-loop-walked : goal.decreases-loop-walked
decreases-loop-walked l = length (walked_in l.self.newest.inner)

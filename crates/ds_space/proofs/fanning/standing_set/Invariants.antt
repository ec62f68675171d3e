use Rattle.std.proofs.Common.{◌≡◌, map}
use Rattle.std.specs.Map.Iter.{deref}
use Rattle.std.specs.BTreeSet as sorted
use Rattle.pv_value.specs.Plain.{Plain}
use Rattle.pv_value.specs.Order.{order}
use Rattle.ds_space.specs.Changes.{among}
use Rattle.ds_space.proofs.fanning.standing_set.Given as goal

abbrev pub invariant-loop-value : goal.invariant-loop-value
invariant-loop-value l = (q : Plain) → sorted.contains order l.set q ≡ among q (map deref l.yielded)

use Rattle.std.proofs.Common.{◌≡◌, map}
use Rattle.std.specs.Map.Iter.{deref}
use Rattle.std.specs.BTreeMap as tree
use Rattle.pv_value.specs.Plain.{Plain}
use Rattle.pv_value.specs.Order.{order}
use Rattle.ds_skeleton.specs.Places.{stands, count}
use Rattle.ds_skeleton.specs.Leaves.{number}
use Rattle.ds_skeleton.proofs.capturing.captures_in.Given as goal

-- those so far
abbrev pub invariant-loop-value : goal.invariant-loop-value
invariant-loop-value l =
    (c : Plain) → number (tree.get order l.counts c) ≡ count (stands l.outline l.constants c) (map deref l.yielded)

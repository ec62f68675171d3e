use Rattle.std.proofs.Common.{◌≡◌, map}
use Rattle.std.specs.List.{list_any}
use Rattle.std.specs.Map.Iter.{deref}
use Rattle.std.specs.BTreeMap as tree
use Rattle.std.specs.BTreeSet as sorted
use Rattle.pv_value.specs.Plain.{Plain}
use Rattle.pv_value.specs.Order.{order}
use Rattle.ds_space.specs.Wants.{gives}
use Rattle.ds_space.proofs.collecting.collected.Given as goal

abbrev pub invariant-loop-observe : goal.invariant-loop-observe
invariant-loop-observe l =
    (q : Plain) → sorted.contains order l.keys q
    ≡ list_any (λ o. list_any (gives q o) (tree.values l.rows)) (map deref l.yielded)

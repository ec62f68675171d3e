use Rattle.std.proofs.Common.{◌≡◌, map, ◌||◌}
use Rattle.std.specs.List.{list_any}
use Rattle.std.specs.Map.Iter.{deref}
use Rattle.std.specs.BTreeSet as sorted
use Rattle.pv_value.specs.Plain.{Plain}
use Rattle.pv_value.specs.Order.{order}
use Rattle.dp_pattern.specs.Matching.{matched}
use Rattle.ds_space.specs.Wants.{is_key}
use Rattle.ds_space.proofs.collecting.put_captured.Given as goal

abbrev pub invariant-loop-value : goal.invariant-loop-value
invariant-loop-value l =
    (q : Plain) → sorted.contains order l.keys q
    ≡ (sorted.contains order l.initial.keys q
    || list_any (λ v. is_key q l.observe (matched l.pattern v)) (map deref l.yielded))

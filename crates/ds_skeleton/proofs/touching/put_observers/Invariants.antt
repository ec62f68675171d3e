use Rattle.std.proofs.Common.{◌≡◌, map, ◌&&◌, ◌||◌}
use Rattle.std.specs.List.{list_any}
use Rattle.std.specs.Map.Iter.{deref}
use Rattle.pv_value.specs.declared.Entry.{Entry}
use Rattle.pv_words.specs.Parts.{same}
use Rattle.ds_skeleton.specs.Keys.{has_key}
use Rattle.ds_skeleton.proofs.touching.put_observers.Given as goal

abbrev pub invariant-loop-observer : goal.invariant-loop-observer
invariant-loop-observer l =
    (q : Entry) → has_key l.keys.items q
    ≡ (has_key l.initial.keys.items q
    || (same l.captures q.value && list_any (same q.key) (map deref l.yielded)))

use Rattle.std.proofs.Common.{◌≡◌, ◌||◌, drop}
use Rattle.std.specs.List.{list_any}
use Rattle.pv_value.specs.declared.Entry.{Entry}
use Rattle.ds_skeleton.specs.Keys.{has_key}
use Rattle.ds_skeleton.specs.Indexes.{touched}
use Rattle.ds_skeleton.proofs.touching.keys_with.Given as goal

-- those so far, and the rest
abbrev pub invariant-loop-shape : goal.invariant-loop-shape
invariant-loop-shape l =
    (q : Entry) → (has_key l.keys.items q || list_any (touched l.value q) (drop l.shape-index l.shapes))
    ≡ list_any (touched l.value q) l.shapes

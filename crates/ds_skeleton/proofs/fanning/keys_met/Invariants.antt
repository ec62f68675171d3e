use Rattle.std.proofs.Common.{◌≡◌, ◌||◌, drop}
use Rattle.std.specs.List.{list_any}
use Rattle.pv_value.specs.declared.Entry.{Entry}
use Rattle.ds_skeleton.specs.Keys.{has_key}
use Rattle.ds_skeleton.specs.Indexes.{met}
use Rattle.ds_skeleton.proofs.fanning.keys_met.Given as goal

-- those so far, and the rest
abbrev pub invariant-loop-shape : goal.invariant-loop-shape
invariant-loop-shape l =
    (q : Entry) → (has_key l.keys.items q || list_any (met l.message q) (drop l.shape-index l.shapes))
    ≡ list_any (met l.message q) l.shapes

use Rattle.std.proofs.Common.{◌≡◌, ℕ, map, ltb, ◌&&◌, ◌||◌}
use Rattle.std.specs.List.{list_any}
use Rattle.std.specs.Map.Iter.{deref_pair}
use Rattle.pv_value.specs.Plain.{Plain}
use Rattle.pv_value.specs.declared.Entry.{Entry}
use Rattle.pv_words.specs.Parts.{same}
use Rattle.ds_skeleton.specs.Keys.{has_key}
use Rattle.ds_skeleton.proofs.touching.put_captured.Given as goal

abbrev pub invariant-loop-captures : goal.invariant-loop-captures
invariant-loop-captures l =
    (q : Entry) → has_key l.keys.items q
    ≡ (has_key l.initial.keys.items q
    || (same l.observer q.key
    && list_any (λ (e : Plain × ℕ). same q.value e.0 && ltb 0 e.1) (map deref_pair l.yielded)))

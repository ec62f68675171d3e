-- A list that is written in place stands as one that is put in at its number.
use Rattle.std.proofs.Common.{◌≡◌, ℕ, ◌<◌, List, [], ◌∷◌, true, is_some, arith}
use Rattle.std.proofs.lemmas.Bool.Decides.{nat_tests}
use Rattle.std.proofs.lemmas.Map.Keys.{sorted_head, sorted_tail}
use Rattle.std.specs.BTreeMap.{is_at}
use Rattle.std.specs.Map.{set_value}
use Rattle.std.specs.Ordering.{nat_cmp}
use Rattle.ac_world.specs.Lemmas.Entries.{KeysAscend, above_lower, entry_of_above}
use Rattle.ac_world.specs.Worlds.{entry_of, with_entry}

pub set_with : {X : Type 0} (k : ℕ) (v : X) (es : List (ℕ × X)) → KeysAscend es → is_some (entry_of k es) ≡ true
    → set_value (is_at (nat_cmp k)) es v ≡ with_entry k v es
set_with k v [] s there = absurd cc
set_with k v (e ∷ es) s there =
    grind (
      arith,
      nat_tests,
      there,
      set_with k v es (sorted_tail nat_cmp _ _ s),
      λ (l : k < e.0). entry_of_above k es (above_lower k e.0 _ l (sorted_head nat_cmp _ _ s)),
    )

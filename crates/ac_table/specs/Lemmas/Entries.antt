-- What is found in a map of numbers, as entries come, change and go.
use Rattle.std.proofs.Common.{◌≡◌, ℕ, Bool, true, false, not, ◌==◌, cond, List, [], ◌∷◌, filter, refl, arith, ◌∙◌}
use Rattle.std.proofs.Common.{Some, None, Option, subst}
use Rattle.std.specs.BTreeMap.{is_at, insert_entry}
use Rattle.std.specs.Map.{remove_entry, set_value}
use Rattle.std.specs.Ordering.{nat_cmp}
use Rattle.ac_table.specs.Maps.{value_at, is_key}

pub is_at_same : (a k : ℕ) → is_at (nat_cmp a) k ≡ (k == a)
is_at_same a k = grind arith

pub lookup-insert : {X : Type 0} (q n : ℕ) (x : X) (es : List (ℕ × X))
    → value_at q (insert_entry nat_cmp es n x) ≡ cond (is_at (nat_cmp n) q) (Some x) (value_at q es)
lookup-insert q n x [] = grind (arith, is_at_same q n, is_at_same n q)
lookup-insert q n x (e ∷ es) = grind (arith, is_at_same q n, is_at_same n q, is_at_same q e.0, lookup-insert q n x es)

none_either : {X : Type 0} (b : Bool) → ◌≡◌ {A = Option X} None (cond b None None)
none_either true = refl
none_either false = refl

pub lookup-filter : {X : Type 0} (q : ℕ) (gs : List ℕ) (es : List (ℕ × X))
    → value_at q (filter (λ e. not (is_key e.0 gs)) es) ≡ cond (is_key q gs) None (value_at q es)
lookup-filter q gs [] = none_either (is_key q gs)
lookup-filter q gs (e ∷ es) = by (is_at (nat_cmp q) e.0) (is_key e.0 gs) refl refl (lookup-filter q gs es)
  where
    by : (b c : Bool) → is_at (nat_cmp q) e.0 ≡ b → is_key e.0 gs ≡ c
        → value_at q (filter (λ e. not (is_key e.0 gs)) es) ≡ cond (is_key q gs) None (value_at q es)
        → value_at q (filter (λ e. not (is_key e.0 gs)) (e ∷ es)) ≡ cond (is_key q gs) None (value_at q (e ∷ es))
    by true true here gone later =
        let same : e.0 ≡ q = grind (arith, is_at_same q e.0, here) in
        let out : is_key q gs ≡ true = subst (λ (n : ℕ). is_key n gs ≡ true) same gone in
        rw (gone, here) (later ∙ rw (out) refl)
    by true false here kept later =
        let same : e.0 ≡ q = grind (arith, is_at_same q e.0, here) in
        let out : is_key q gs ≡ false = subst (λ (n : ℕ). is_key n gs ≡ false) same kept in
        rw (kept, here, out) refl
    by false true other gone later = rw (gone, other) later
    by false false other kept later = rw (kept, other) later

-- the value at a key becomes another where the map has one there
pub lookup-set_here : {X : Type 0} (a : ℕ) (x w : X) (es : List (ℕ × X)) → value_at a es ≡ Some x
    → value_at a (set_value (is_at (nat_cmp a)) es w) ≡ Some w
lookup-set_here a x w [] at = absurd cc
lookup-set_here a x w (e ∷ es) at = by (is_at (nat_cmp a) e.0) refl (lookup-set_here a x w es)
  where
    by : (b : Bool) → is_at (nat_cmp a) e.0 ≡ b
        → (value_at a es ≡ Some x → value_at a (set_value (is_at (nat_cmp a)) es w) ≡ Some w)
        → value_at a (set_value (is_at (nat_cmp a)) (e ∷ es) w) ≡ Some w
    by true here later = rw (here, here) refl
    by false other later = rw (other, other) (later (rw other at at))

pub lookup-set_other : {X : Type 0} (a b : ℕ) (w : X) (es : List (ℕ × X)) → (b == a) ≡ false
    → value_at b (set_value (is_at (nat_cmp a)) es w) ≡ value_at b es
lookup-set_other a b w [] apart = refl
lookup-set_other a b w (e ∷ es) apart =
    grind (arith, is_at_same a e.0, is_at_same b e.0, lookup-set_other a b w es apart)

pub lookup-remove_other : {X : Type 0} (a b : ℕ) (es : List (ℕ × X)) → (b == a) ≡ false
    → value_at b (remove_entry (is_at (nat_cmp a)) es) ≡ value_at b es
lookup-remove_other a b [] apart = refl
lookup-remove_other a b (e ∷ es) apart =
    grind (arith, is_at_same a e.0, is_at_same b e.0, lookup-remove_other a b es apart)

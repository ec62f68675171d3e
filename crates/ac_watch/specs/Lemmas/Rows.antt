-- A row more has its value more, and a row less its value less.
use Rattle.std.proofs.Common.{◌≡◌, ℕ, List, [], ◌∷◌, Bool, true, false, cond, ◌||◌, Some, None, refl, ap, sym, ◌∙◌, arith}
use Rattle.std.specs.List.{list_any}
use Rattle.std.specs.Map.{values_of, lookup, remove_entry}
use Rattle.std.specs.BTreeMap.{insert_entry, is_at}
use Rattle.std.specs.Ordering.{nat_cmp, match_ordering}
use Rattle.std.specs.declared.cmp.Ordering.{Ordering}
use Rattle.std.specs.declared.cmp.Ordering.TheVariants.{Less, Equal, Greater}
use Rattle.pv_value.specs.Plain.{Plain}
use Rattle.ds_space.specs.Spaces.{Rows}

-- what is in the longer list alone
abbrev pub IsLonger : Plain → List Plain → List Plain → Type 0
IsLonger v less more = (p : Plain → Bool) → list_any p more ≡ (p v || list_any p less)

turn : (a b c : Bool) → (a || (b || c)) ≡ (b || (a || c))
turn true true c = refl
turn true false c = refl
turn false b c = refl

pub longer_by_row : (h : ℕ) (v : Plain) (rows : Rows) → lookup (is_at (nat_cmp h)) rows ≡ None
    → IsLonger v (values_of rows) (values_of (insert_entry nat_cmp rows h v))
longer_by_row h v [] none p = refl
longer_by_row h v (r ∷ rs) none p = by (nat_cmp h r.0) refl none (longer_by_row h v rs)
  where
    by : (o : Ordering) → nat_cmp h r.0 ≡ o → lookup (is_at (nat_cmp h)) (r ∷ rs) ≡ None
        → (lookup (is_at (nat_cmp h)) rs ≡ None → IsLonger v (values_of rs) (values_of (insert_entry nat_cmp rs h v)))
        → list_any p (values_of (match_ordering o ((h, v) ∷ r ∷ rs) ((r.0, v) ∷ rs) (r ∷ insert_entry nat_cmp rs h v)))
        ≡ (p v || (p r.1 || list_any p (values_of rs)))
    by Less is none later = refl
    by Equal is none later =
        let found : lookup (is_at (nat_cmp h)) (r ∷ rs) ≡ Some r.1 = grind (arith, is) in
        let clash : None ≡ Some r.1 = sym none ∙ found in
        absurd cc
    by Greater is none later =
        let rest : lookup (is_at (nat_cmp h)) rs ≡ None = grind (arith, is, none) in
        ap (λ b. p r.1 || b) (later rest p) ∙ turn (p r.1) (p v) (list_any p (values_of rs))

pub longer_than_without : (h : ℕ) (v : Plain) (rows : Rows) → lookup (is_at (nat_cmp h)) rows ≡ Some v
    → IsLonger v (values_of (remove_entry (is_at (nat_cmp h)) rows)) (values_of rows)
longer_than_without h v [] found p = absurd cc
longer_than_without h v (r ∷ rs) found p = by (is_at (nat_cmp h) r.0) found (longer_than_without h v rs)
  where
    by : (b : Bool) → cond b (Some r.1) (lookup (is_at (nat_cmp h)) rs) ≡ Some v
        → (lookup (is_at (nat_cmp h)) rs ≡ Some v
        → IsLonger v (values_of (remove_entry (is_at (nat_cmp h)) rs)) (values_of rs))
        → (p r.1 || list_any p (values_of rs))
        ≡ (p v || list_any p (values_of (cond b rs (r ∷ remove_entry (is_at (nat_cmp h)) rs))))
    by true found later = let one : r.1 ≡ v = cc in ap (λ z. p z || list_any p (values_of rs)) one
    by false found later =
        ap (λ b. p r.1 || b) (later found p)
        ∙ turn (p r.1) (p v) (list_any p (values_of (remove_entry (is_at (nat_cmp h)) rs)))

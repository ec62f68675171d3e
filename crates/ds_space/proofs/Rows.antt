-- A row that came and goes again.
use Rattle.std.proofs.Common.{◌≡◌, ℕ, List, [], ◌∷◌, cond, Some, None, refl, ap, ◌∙◌}
use Rattle.std.specs.declared.cmp.Ordering.{Ordering}
use Rattle.std.specs.declared.cmp.Ordering.TheVariants.{Less, Equal, Greater}
use Rattle.std.specs.Ordering.{nat_cmp, is_eq, match_ordering}
use Rattle.std.specs.Map.{lookup, remove_entry}
use Rattle.std.specs.BTreeMap.{insert_entry, is_at}
use Rattle.std.proofs.lemmas.Cmp.{tied_itself, nat_cmp_total}
use Rattle.pv_value.specs.Plain.{Plain}

own : (n : ℕ) (o : Ordering) → o ≡ Equal → (v : Plain) (es : List (ℕ × Plain))
    → cond (is_eq o) es ((n, v) ∷ remove_entry (is_at (nat_cmp n)) es) ≡ es
own n Less e v es = cc
own n Equal e v es = refl
own n Greater e v es = cc

pub removed_again : (n : ℕ) (v : Plain) (es : List (ℕ × Plain)) → lookup (is_at (nat_cmp n)) es ≡ None
    → remove_entry (is_at (nat_cmp n)) (insert_entry nat_cmp es n v) ≡ es
removed_again n v [] l = own n (nat_cmp n n) (tied_itself nat_cmp_total n) v []
removed_again n v (e ∷ es) l = by (nat_cmp n e.0) refl l (removed_again n v es)
  where
    by : (o : Ordering) → nat_cmp n e.0 ≡ o → cond (is_eq o) (Some e.1) (lookup (is_at (nat_cmp n)) es) ≡ None
        → (lookup (is_at (nat_cmp n)) es ≡ None → remove_entry (is_at (nat_cmp n)) (insert_entry nat_cmp es n v) ≡ es)
        → remove_entry (is_at (nat_cmp n))
        (match_ordering o ((n, v) ∷ e ∷ es) ((e.0, v) ∷ es) (e ∷ insert_entry nat_cmp es n v)) ≡ e ∷ es
    by Less d l f = own n (nat_cmp n n) (tied_itself nat_cmp_total n) v (e ∷ es)
    by Equal d l f = absurd cc
    by Greater d l f =
        ap (λ o. cond (is_eq o) (insert_entry nat_cmp es n v)
        (e ∷ remove_entry (is_at (nat_cmp n)) (insert_entry nat_cmp es n v))) d
        ∙ ap (λ r. e ∷ r) (f l)

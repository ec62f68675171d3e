-- A row that came and goes again.
use Rattle.std.proofs.Common.{◌≡◌, ℕ, [], ◌∷◌, cond, Some, None, refl, ap, ◌∙◌}
use Rattle.std.specs.declared.cmp.Ordering.{Ordering}
use Rattle.std.specs.declared.cmp.Ordering.TheVariants.{Less, Equal, Greater}
use Rattle.std.specs.Ordering.{nat_cmp, is_eq, match_ordering}
use Rattle.std.specs.Map.{lookup, remove_entry}
use Rattle.std.specs.BTreeMap.{insert_entry, is_at}
use Rattle.std.proofs.lemmas.Cmp.{tied_itself, nat_cmp_total}
use Rattle.pv_value.specs.Plain.{Plain}
use Rattle.ds_rows.proofs.Counted.{Rows}

own : (h : ℕ) (o : Ordering) → o ≡ Equal → (v : Plain) (rows : Rows)
    → cond (is_eq o) rows ((h, v) ∷ remove_entry (is_at (nat_cmp h)) rows) ≡ rows
own h Less e v rows = cc
own h Equal e v rows = refl
own h Greater e v rows = cc

pub removed_again : (h : ℕ) (v : Plain) (rows : Rows) → lookup (is_at (nat_cmp h)) rows ≡ None
    → remove_entry (is_at (nat_cmp h)) (insert_entry nat_cmp rows h v) ≡ rows
removed_again h v [] none = own h (nat_cmp h h) (tied_itself nat_cmp_total h) v []
removed_again h v (r ∷ rs) none = by (nat_cmp h r.0) refl none (removed_again h v rs)
  where
    by : (o : Ordering) → nat_cmp h r.0 ≡ o → cond (is_eq o) (Some r.1) (lookup (is_at (nat_cmp h)) rs) ≡ None
        → (lookup (is_at (nat_cmp h)) rs ≡ None → remove_entry (is_at (nat_cmp h)) (insert_entry nat_cmp rs h v) ≡ rs)
        → remove_entry (is_at (nat_cmp h))
        (match_ordering o ((h, v) ∷ r ∷ rs) ((r.0, v) ∷ rs) (r ∷ insert_entry nat_cmp rs h v)) ≡ r ∷ rs
    by Less is none later = own h (nat_cmp h h) (tied_itself nat_cmp_total h) v (r ∷ rs)
    by Equal is none later = absurd cc
    by Greater is none later =
        ap (λ o. cond (is_eq o) (insert_entry nat_cmp rs h v)
        (r ∷ remove_entry (is_at (nat_cmp h)) (insert_entry nat_cmp rs h v))) is
        ∙ ap (λ rs. r ∷ rs) (later none)

-- Rows and their values.
use Rattle.std.proofs.Common.{◌≡◌, ℕ, zero, suc, ◌+◌, ◌<◌, List, ◌∷◌, Bool, true, false, cond, ◌&&◌, ◌||◌, not}
use Rattle.std.proofs.Common.{Option, Some, None, refl, ap, sym, ◌∙◌, arith, rules}
use Rattle.std.specs.List.{list_any}
use Rattle.std.specs.Option.{IsSome}
use Rattle.std.specs.Ordering.{nat_cmp}
use Rattle.std.specs.Map.{values_of, lookup, remove_entry}
use Rattle.std.specs.BTreeMap.{insert_entry, is_at}
use Rattle.pv_value.specs.Plain.{Plain}
use Rattle.pv_value.specs.declared.Entry.{Entry}
use Rattle.pv_words.specs.Lemmas.Same.{same_self}
use Rattle.pv_words.specs.Parts.{same}
use Rattle.ds_space.specs.Changes.{among}
use Rattle.ds_skeleton.specs.Places.{catches, count}
use Rattle.ds_skeleton.specs.Leaves.{kept}
use Rattle.ds_skeleton.specs.Indexes.{only_in}
use Rattle.ds_skeleton.proofs.Entries.{count-map, count-insert_entry, count-remove_entry}

around : (a b : ℕ) → b + a ≡ a + b
around a b = omega arith

pub rows_in : (f : Plain → Bool) (n : ℕ) (v : Plain) (rows new : List (ℕ × Plain)) → lookup (is_at (nat_cmp n)) rows
    ≡ None → new ≡ insert_entry nat_cmp rows n v → count f (v ∷ values_of rows) ≡ count f (values_of new)
rows_in f n v rows new none is =
    around (count f (values_of rows)) (cond (f v) 1 0)
    ∙ ap (λ k. k + cond (f v) 1 0) (count-map (λ (e : ℕ × Plain). e.1) f rows)
    ∙ sym (count-insert_entry nat_cmp (λ (e : ℕ × Plain). f e.1) n v rows none)
    ∙ sym (count-map (λ (e : ℕ × Plain). e.1) f (insert_entry nat_cmp rows n v))
    ∙ ap (λ (es : List (ℕ × Plain)). count f (values_of es)) (sym is)

pub rows_out : (f : Plain → Bool) (n : ℕ) (v : Plain) (rows new : List (ℕ × Plain)) → lookup (is_at (nat_cmp n)) rows
    ≡ Some v → new ≡ remove_entry (is_at (nat_cmp n)) rows → count f (values_of rows) ≡ count f (v ∷ values_of new)
rows_out f n v rows new some is =
    count-map (λ (e : ℕ × Plain). e.1) f rows
    ∙ count-remove_entry (is_at (nat_cmp n)) (λ (e : ℕ × Plain). f e.1) v (f v) rows (λ k t. refl) some
    ∙ ap (λ k. k + cond (f v) 1 0) (sym (count-map (λ (e : ℕ × Plain). e.1) f (remove_entry (is_at (nat_cmp n)) rows))
    ∙ ap (λ (es : List (ℕ × Plain)). count f (values_of es)) (sym is))
    ∙ sym (around (count f (values_of new)) (cond (f v) 1 0))

pub present : (o : Option ℕ) (v : Plain) (vs : List Plain) (m : ℕ) → o ≡ kept m → m ≡ count (same v) (v ∷ vs) → IsSome o
present o v vs m e f = by o m e (let i : m ≡ 1 + count (same v) vs = f ∙ ap (λ b. cond b 1 0 + count (same v) vs)
    (same_self v) in omega arith)
  where
    by : (o : Option ℕ) (m : ℕ) → o ≡ kept m → 0 < m → IsSome o
    by (Some x) m e h = search rules
    by None zero e h = absurd (omega arith)
    by None (suc m) e h = cc

nothing_lost : (a b x y : Bool) → ((a && b) && not ((x || a) && (y || b))) ≡ false
nothing_lost true true true true = refl
nothing_lost true true true false = refl
nothing_lost true true false true = refl
nothing_lost true true false false = refl
nothing_lost true false x y = refl
nothing_lost false b x y = refl

-- a value more takes no key away
pub none_lost : (v : Plain) (vs : List Plain) (q : Entry) → only_in vs (v ∷ vs) q ≡ false
none_lost v vs q = nothing_lost (among q.key vs) (list_any (catches q.key q.value) vs) (same q.key v)
    (catches q.key q.value v)

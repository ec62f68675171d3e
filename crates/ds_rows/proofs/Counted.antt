-- The counts of rows with one more, and with one fewer.
use Rattle.std.proofs.Common.{◌≡◌, ℕ, zero, suc, ◌+◌, ◌-◌, List, [], ◌∷◌, Bool, true, false, cond, ◌||◌}
use Rattle.std.proofs.Common.{Option, Some, None, is_some, refl, ap, sym, ◌∙◌, arith}
use Rattle.std.specs.Option.{unwrap_or}
use Rattle.std.specs.List.{list_any}
use Rattle.std.specs.Map.{values_of, lookup, remove_entry}
use Rattle.std.specs.BTreeMap.{insert_entry, is_at}
use Rattle.std.specs.Cmp.{eq_by_cmp_equiv}
use Rattle.std.specs.Ordering.{nat_cmp, match_ordering}
use Rattle.std.specs.declared.cmp.Ordering.{Ordering}
use Rattle.std.specs.declared.cmp.Ordering.TheVariants.{Less, Equal, Greater}
use Rattle.pv_value.specs.Plain.{Plain}
use Rattle.pv_value.specs.Lemmas.OrderLaws.{order_total}
use Rattle.pv_words.specs.Parts.{same}
use Rattle.pv_words.specs.Lemmas.Same.{same_is, same_self}
use Rattle.ds_rows.specs.Counts.{times, kept, count_at, AreCounted}

-- a value under each handle
abbrev pub Rows : Type 0
Rows = List (ℕ × Plain)

same_turns : (x y : Plain) → same x y ≡ same y x
same_turns x y = (eq_by_cmp_equiv order_total).symm x y

-- a count is kept for what is there
pub kept_among : (v : Plain) (vs : List Plain) → is_some (kept (times v vs)) ≡ list_any (same v) vs
kept_among v [] = refl
kept_among v (x ∷ xs) = by (same v x) (kept_among v xs)
  where
    by : (b : Bool) → is_some (kept (times v xs)) ≡ list_any (same v) xs
        → is_some (kept (cond b (suc (times v xs)) (times v xs))) ≡ (b || list_any (same v) xs)
    by true i = refl
    by false i = i

number_kept : (n : ℕ) → unwrap_or (kept n) 0 ≡ n
number_kept zero = refl
number_kept (suc n) = refl

-- ---- how often a value stands among the rows

abbrev and_one : Bool → ℕ → ℕ
and_one b n = cond b (suc n) n

turn : (a b : Bool) (n : ℕ) → and_one a (and_one b n) ≡ and_one b (and_one a n)
turn true true n = refl
turn true false n = refl
turn false b n = refl

times_more : (q : Plain) (h : ℕ) (v : Plain) (rows : Rows) → lookup (is_at (nat_cmp h)) rows ≡ None
    → times q (values_of (insert_entry nat_cmp rows h v)) ≡ times q (v ∷ values_of rows)
times_more q h v [] none = refl
times_more q h v (r ∷ rs) none = by (nat_cmp h r.0) refl none (times_more q h v rs)
  where
    by : (o : Ordering) → nat_cmp h r.0 ≡ o → lookup (is_at (nat_cmp h)) (r ∷ rs) ≡ None
        → (lookup (is_at (nat_cmp h)) rs ≡ None
        → times q (values_of (insert_entry nat_cmp rs h v)) ≡ times q (v ∷ values_of rs))
        → times q (values_of (match_ordering o ((h, v) ∷ r ∷ rs) ((r.0, v) ∷ rs) (r ∷ insert_entry nat_cmp rs h v)))
        ≡ times q (v ∷ r.1 ∷ values_of rs)
    by Less is none later = refl
    by Equal is none later =
        let found : lookup (is_at (nat_cmp h)) (r ∷ rs) ≡ Some r.1 = grind (arith, is) in
        let clash : None ≡ Some r.1 = sym none ∙ found in
        absurd cc
    by Greater is none later =
        let rest : lookup (is_at (nat_cmp h)) rs ≡ None = grind (arith, is, none) in
        ap (and_one (same q r.1)) (later rest) ∙ turn (same q r.1) (same q v) (times q (values_of rs))

times_less : (q : Plain) (h : ℕ) (v : Plain) (rows : Rows) → lookup (is_at (nat_cmp h)) rows ≡ Some v
    → times q (values_of rows) ≡ times q (v ∷ values_of (remove_entry (is_at (nat_cmp h)) rows))
times_less q h v [] found = absurd cc
times_less q h v (r ∷ rs) found = by (is_at (nat_cmp h) r.0) found (times_less q h v rs)
  where
    by : (b : Bool) → cond b (Some r.1) (lookup (is_at (nat_cmp h)) rs) ≡ Some v
        → (lookup (is_at (nat_cmp h)) rs ≡ Some v
        → times q (values_of rs) ≡ times q (v ∷ values_of (remove_entry (is_at (nat_cmp h)) rs)))
        → times q (r.1 ∷ values_of rs)
        ≡ times q (v ∷ values_of (cond b rs (r ∷ remove_entry (is_at (nat_cmp h)) rs)))
    by true found later = let one : r.1 ≡ v = cc in ap (λ z. times q (z ∷ values_of rs)) one
    by false found later =
        ap (and_one (same q r.1)) (later found)
        ∙ turn (same q r.1) (same q v) (times q (values_of (remove_entry (is_at (nat_cmp h)) rs)))

-- ---- the counts

-- what stands under v is this, and under each other value what stood there
abbrev pub Puts : Plain → Option ℕ → List (Plain × ℕ) → List (Plain × ℕ) → Type 0
Puts v w old new = (q : Plain) → count_at q new ≡ cond (same v q) w (count_at q old)

-- the rows but that of a handle
abbrev rest : ℕ → Rows → Rows
rest h rows = remove_entry (is_at (nat_cmp h)) rows

module _ (rows new : Rows) (h : ℕ) (v : Plain) (old news : List (Plain × ℕ)) (counted : AreCounted rows old) where
  pub counted_in : lookup (is_at (nat_cmp h)) rows ≡ None → new ≡ insert_entry nat_cmp rows h v
      → Puts v (Some (unwrap_or (count_at v old) 0 + 1)) old news → AreCounted new news
  counted_in none more puts q =
      puts q ∙ by (same v q) refl
      ∙ ap kept (sym (ap (λ (rs : Rows). times q (values_of rs)) more ∙ times_more q h v rows none))
    where
      one : (n m : ℕ) → n ≡ m → Some (n + 1) ≡ kept (suc m)
      one n m e = let i : n + 1 ≡ suc m = omega (arith, e) in ap Some i

      by : (b : Bool) → same v q ≡ b
          → cond b (Some (unwrap_or (count_at v old) 0 + 1)) (count_at q old) ≡ kept (times q (v ∷ values_of rows))
      by true e =
          one (unwrap_or (count_at v old) 0) (times q (values_of rows))
          (ap (λ o. unwrap_or o 0) (counted v) ∙ number_kept (times v (values_of rows))
          ∙ ap (λ z. times z (values_of rows)) (same_is v q e))
          ∙ ap (λ b. kept (and_one b (times q (values_of rows)))) (sym (same_turns q v ∙ e))
      by false e = counted q ∙ ap (λ b. kept (and_one b (times q (values_of rows)))) (sym (same_turns q v ∙ e))

  pub counted_out : lookup (is_at (nat_cmp h)) rows ≡ Some v → new ≡ remove_entry (is_at (nat_cmp h)) rows
      → Puts v (kept (unwrap_or (count_at v old) 0 - 1)) old news → AreCounted new news
  counted_out found less puts q =
      puts q ∙ by (same v q) refl ∙ ap (λ (rs : Rows). kept (times q (values_of rs))) (sym less)
    where
      fewer : (n m : ℕ) → n ≡ suc m → n - 1 ≡ m
      fewer n m e = omega (arith, e)

      by : (b : Bool) → same v q ≡ b
          → cond b (kept (unwrap_or (count_at v old) 0 - 1)) (count_at q old) ≡ kept (times q (values_of (rest h rows)))
      by true e =
          ap kept
          (fewer (unwrap_or (count_at v old) 0) (times v (values_of (rest h rows)))
          (ap (λ o. unwrap_or o 0) (counted v) ∙ number_kept (times v (values_of rows))
          ∙ times_less v h v rows found ∙ ap (λ b. and_one b (times v (values_of (rest h rows)))) (same_self v))
          ∙ ap (λ z. times z (values_of (rest h rows))) (same_is v q e))
      by false e =
          counted q
          ∙ ap kept
          (times_less q h v rows found ∙ ap (λ b. and_one b (times q (values_of (rest h rows)))) (same_turns q v ∙ e))

-- a value is there where a count stands under it
pub counted_among : (rows : Rows) (counts : List (Plain × ℕ)) → AreCounted rows counts → (v : Plain)
    → is_some (count_at v counts) ≡ list_any (same v) (values_of rows)
counted_among rows counts counted v = ap is_some (counted v) ∙ kept_among v (values_of rows)

-- Which values are wire references, by the list of their items.
use Rattle.std.proofs.Common.{◌≡◌, ℕ, zero, suc, pos, ◌<◌, ◌≤◌, ◌^◌, Bool, true, false, cond, nat_lt, nat_eq, Some}
use Rattle.std.proofs.Common.{None}
use Rattle.std.proofs.Common.{List, [], ◌∷◌, length, get_or, is_some, refl, sym, ap, ◌∙◌, arith}
use Rattle.std.proofs.lemmas.Bool.Decides.{nat_tests}
use Rattle.pv_value.specs.Plain.{Plain, integer, sequence, plains}
use Rattle.pv_words.specs.Words.{number, number_in}
use Rattle.rl_packet.specs.Grammar.{is_wire_reference}

number_at : (m n : ℕ) (b : Bool) → nat_lt m (2 ^ 63) ≡ b → Some n ≡ cond b (Some m) None → (m ≡ n) × (n < 2 ^ 63)
number_at m n true small is = let same : m ≡ n = cc in (same, grind (arith, nat_tests, small, same))
number_at m n false large is = absurd cc

-- a number that was found
pub number_found : (v : Plain) (n : ℕ) → Some n ≡ number_in v → (v ≡ number n) × (n < 2 ^ 63)
number_found (integer (pos m)) n is = let p = number_at m n (nat_lt m (2 ^ 63)) refl is in (ap number p.0, p.1)
number_found v n is = absurd cc

-- a number below 2 ^ 63 is found
pub number_finds : (n : ℕ) → n < 2 ^ 63 → number_in (number n) ≡ Some n
number_finds n h = grind (arith, nat_tests)

pub few_items : (xs : List Plain) → length xs < 2 → false ≡ is_wire_reference (sequence (plains xs))
few_items [] h = refl
few_items (integer (pos zero) ∷ []) h = refl
few_items (integer (pos (suc zero)) ∷ []) h = refl
few_items (x ∷ []) h = refl
few_items (x ∷ y ∷ ys) h = absurd (omega arith)

pub no_oid : (xs : List Plain) (oid : Plain) → 2 ≤ length xs → oid ≡ get_or xs 1 oid → is_some (number_in oid) ≡ false
    → false ≡ is_wire_reference (sequence (plains xs))
no_oid [] oid h is none = absurd (omega arith)
no_oid (x ∷ []) oid h is none = absurd (omega arith)
no_oid (integer (pos zero) ∷ y ∷ []) oid h is none = sym none ∙ ap (λ v. is_some (number_in v)) is
no_oid (integer (pos zero) ∷ y ∷ z ∷ zs) oid h is none = refl
no_oid (integer (pos (suc zero)) ∷ y ∷ ys) oid h is none = sym none ∙ ap (λ v. is_some (number_in v)) is
no_oid (x ∷ y ∷ ys) oid h is none = refl

not_two : (n : ℕ) → 2 < n → nat_eq n 2 ≡ false
not_two n h = grind (arith, nat_tests)

two_items : (x oid : Plain) (xs : List Plain) → x ≡ integer (pos 0) → is_some (number_in oid) ≡ true
    → nat_eq (length (x ∷ oid ∷ xs)) 2 ≡ is_wire_reference (sequence (plains (x ∷ oid ∷ xs)))
two_items x oid [] own some = sym some ∙ ap (λ v. is_wire_reference (sequence (plains (v ∷ oid ∷ [])))) (sym own)
two_items x oid (y ∷ ys) own some =
    not_two (length (x ∷ oid ∷ y ∷ ys)) (omega arith)
    ∙ ap (λ v. is_wire_reference (sequence (plains (v ∷ oid ∷ y ∷ ys)))) (sym own)

-- `[0 oid ..]`
pub by_count : (xs : List Plain) (kind oid : Plain) → 2 ≤ length xs → kind ≡ get_or xs 0 kind → oid ≡ get_or xs 1 oid
    → is_some (number_in oid) ≡ true → Some 0 ≡ number_in kind
    → nat_eq (length xs) 2 ≡ is_wire_reference (sequence (plains xs))
by_count [] kind oid h first second some own = absurd (omega arith)
by_count (x ∷ []) kind oid h first second some own = absurd (omega arith)
by_count (x ∷ y ∷ ys) kind oid h first second some own =
    two_items x y ys (sym first ∙ (number_found kind 0 own).0) (ap (λ v. is_some (number_in v)) (sym second) ∙ some)

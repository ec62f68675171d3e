-- A reference without caveats is read as its two numbers, and lets each value pass as it is.
use Rattle.std.proofs.Common.{◌≡◌, ℕ, ◌^◌, Bool, true, false, nat_lt, List, [], Option, Some}
use Rattle.std.proofs.Common.{None, refl, ap}
use Rattle.std.proofs.Common.{◌∷◌, length, option_map, option_and_then, pos, ◌<◌, arith}
use Rattle.std.proofs.lemmas.Bool.{lt-ltb}
use Rattle.std.proofs.lemmas.Bool.Decides.{nat_tests}
use Rattle.pv_value.specs.Plain.{Plain, integer, sequence, no_more, then_more, plains}
use Rattle.pv_words.specs.Words.{number_in}
use Rattle.pv_words.specs.Lemmas.Same.{same_self}
use Rattle.ps_schema.specs.declared.Definition.{Definition}
use Rattle.sr_caveat.specs.Caps.{cap_at, if_spelled}
use Rattle.ds_space.specs.declared.references.Reference.{Reference}
use Rattle.ds_space.specs.References.{reference_of}
use Rattle.ac_world.specs.Aims.{Aim, aim_at, aim_by, has_caveats}

pub is_longer : (xs : List Plain) → nat_lt 2 (length xs) ≡ has_caveats (sequence (plains xs))
is_longer [] = refl
is_longer (x ∷ []) = refl
is_longer (x ∷ y ∷ []) = refl
is_longer (x ∷ y ∷ z ∷ zs) = lt-ltb 2 (length (x ∷ y ∷ z ∷ zs)) (omega arith)

-- what arrives at an object, as it is
abbrev pub as_it_is : Plain → Option Reference → Option Aim
as_it_is v o = option_map (λ r. record { at = r; value = v }) o

-- the value of a reference without caveats
abbrev bare : ℕ → ℕ → Plain
bare m n = sequence (then_more (integer (pos m)) (then_more (integer (pos n)) no_more))

no_object : (o : Option ℕ) → cap_at o None [] ≡ None
no_object None = refl
no_object (Some m) = refl

with_numbers : (ds : List Definition) (v : Plain) (m n : ℕ)
    → aim_at ds v (bare m n) ≡ as_it_is v (reference_of (bare m n))
with_numbers ds v m n = by (nat_lt m (2 ^ 32)) refl (nat_lt n (2 ^ 63)) refl
  where
    by : (a : Bool) → nat_lt m (2 ^ 32) ≡ a → (b : Bool) → nat_lt n (2 ^ 63) ≡ b
        → aim_at ds v (bare m n) ≡ as_it_is v (reference_of (bare m n))
    by true small true low =
        let less : m < 2 ^ 32 = grind (arith, nat_tests, small) in
        rw (lt-ltb m (2 ^ 63) (omega (arith, less)), low, small, same_self (bare m n)) refl
    by true small false high =
        let less : m < 2 ^ 32 = grind (arith, nat_tests, small) in
        rw (lt-ltb m (2 ^ 63) (omega (arith, less)), high, small) refl
    by false large true low = rest (nat_lt m (2 ^ 63)) refl
      where
        rest : (c : Bool) → nat_lt m (2 ^ 63) ≡ c → aim_at ds v (bare m n) ≡ as_it_is v (reference_of (bare m n))
        rest true some = rw (some, low, large) refl
        rest false none = rw (none, large) refl
    by false large false high = rest (nat_lt m (2 ^ 63)) refl
      where
        rest : (c : Bool) → nat_lt m (2 ^ 63) ≡ c → aim_at ds v (bare m n) ≡ as_it_is v (reference_of (bare m n))
        rest true some = rw (some, high, large) refl
        rest false none = rw (none, large) refl

pub bare_aim : (ds : List Definition) (v r : Plain) → has_caveats r ≡ false → aim_at ds v r ≡ as_it_is v (reference_of r)
bare_aim ds v (sequence (then_more (integer (pos m)) (then_more (integer (pos n)) no_more))) h = with_numbers ds v m n
bare_aim ds v (sequence (then_more (integer (pos m)) (then_more e no_more))) h =
    ap (λ o. option_and_then (aim_by ds v)
    (option_and_then (if_spelled (sequence (then_more (integer (pos m)) (then_more e no_more)))) o))
    (no_object (number_in (integer (pos m))))
bare_aim ds v (sequence (then_more a (then_more e (then_more c cs)))) h = absurd cc
bare_aim ds v r h = refl

-- The number that a word is, by what is said of it.
use Rattle.std.proofs.Common.{◌≡◌, ℕ, ◌<◌, ◌^◌, List, Some, None, Bool, true, false, ◌&&◌, if◌then◌else◌, decimal}
use Rattle.std.proofs.Common.{nat_le, refl, sym, ap, ◌∙◌, subst, arith}
use Rattle.std.specs.Str.{bytes_eq}
use Rattle.std.specs.Str.Parse.{digits_value}
use Rattle.std.proofs.lemmas.Bool.{and_from, le-leb}
use Rattle.std.proofs.lemmas.Fmt.{decimal_is_IsNumeral}
use Rattle.std.proofs.lemmas.Slice.Eq.{bytes_eq-Decides}
use Rattle.dsd_top.specs.Numbers.{number_within, IsNumberWithin}

some_where : (b : Bool) (n : ℕ) → b ≡ true → Some n ≡ (if b then Some n else None)
some_where true n is = refl
some_where false n is = absurd (cc is)

module _ (least most : ℕ) (w : List ℕ) where
  abbrev is_it : ℕ → Bool
  is_it n = bytes_eq w (decimal n) && (nat_le least n && nat_le n most)

  so_it_is : (n : ℕ) → IsNumberWithin least most w n → is_it n ≡ true
  so_it_is n h =
      and_from (bytes_eq w (decimal n)) (nat_le least n && nat_le n most) ((bytes_eq-Decides w (decimal n)).1 h.2)
      (and_from (nat_le least n) (nat_le n most) (le-leb least n h.0) (le-leb n most h.1))

  -- a number below 2 ^ 64 is what its digits write
  pub within_is : most < 2 ^ 64 → (n : ℕ) → IsNumberWithin least most w n → Some n ≡ number_within least most w
  within_is few n h =
      let value : digits_value 10 w ≡ n =
      ap (digits_value 10) h.2 ∙ (decimal_is_IsNumeral n (omega (arith, few, h.1))).1 in
      subst (λ m. Some n ≡ (if is_it m then Some m else None)) (sym value) (some_where (is_it n) n (so_it_is n h))

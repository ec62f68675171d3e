-- What a scan tells, by what stands in the bytes.
use Rattle.std.proofs.Common.{◌≡◌, ◌⊎◌, inl, inr, ℕ, ◌-◌, List, length, drop, Result, Ok, Err, sym, ap, ◌∙◌, subst, ◌≤◌}
use Rattle.std.proofs.Common.{length-drop, arith, refl}
use Rattle.pv_value.specs.Plain.{Plain}
use Rattle.pv_read.specs.Results.{Fault}
use Rattle.pv_binary.specs.Reading.{value_at}
use Rattle.pv_binary.specs.Reads.{BeginsWith}
use Rattle.pv_binary.specs.Fronts.{truncated, Stands}
use Rattle.pv_binary.specs.OneOfThree.{IsFront, OneOfThreeHolds, ReadingTells}
use Rattle.pv_binary.specs.declared.faults.BinKind.{BinKind}
use Rattle.pv_binary.specs.declared.faults.BinKind.TheVariants as kind
use Rattle.pv_stream.specs.declared.stops.Scan.TheVariants as scan
use Rattle.pv_stream.specs.Scans.{Behind, past_value, stopped, scanned, scan_of}
use Rattle.pv_stream.specs.Laws.{IsPassedAlike, HasRepeat, ScanIsExact}
use Rattle.pv_stream.proofs.Alike.{passed_alike}
use Rattle.pv_stream.proofs.Stopping.{never_cut}

-- whether the kind is that of what repeats
kinds : (k : BinKind) → (k ≡ kind.Duplicate) ⊎ (k ≡ kind.Duplicate → ⊥)
kinds kind.Duplicate = inl refl
kinds kind.Truncated = inr (λ e. cc)
kinds kind.BadTag = inr (λ e. cc)
kinds kind.LongVarint = inr (λ e. cc)
kinds kind.LongInteger = inr (λ e. cc)
kinds kind.TooWide = inr (λ e. cc)
kinds kind.BadUtf8 = inr (λ e. cc)
kinds kind.TooDeep = inr (λ e. cc)

told_fault : (k : BinKind) (place : ℕ) → (k ≡ kind.Truncated → ⊥) → stopped k place ≡ scan.Fault k place
told_fault kind.Truncated place n = absurd (n refl)
told_fault k place n = refl

whole_same : (n m : ℕ) → scan.Whole n ≡ scan.Whole m → n ≡ m
whole_same n m e = cc

fault_same : (k l : BinKind) (p q : ℕ) → scan.Fault k p ≡ scan.Fault l q → (k ≡ l) × (p ≡ q)
fault_same k l p q e = (cc, cc)

module _ (bytes : List ℕ) (reads : ReadingTells bytes) where
  passes : (r : Result (Plain × List ℕ) (Fault BinKind)) → value_at (length bytes) 64 bytes ≡ r
      → IsPassedAlike r (past_value (length bytes) 64 bytes)
  passes r is =
      subst (λ (x : Result (Plain × List ℕ) (Fault BinKind)). IsPassedAlike x (past_value (length bytes) 64 bytes)) is
      (passed_alike (length bytes) 64 bytes)

  by_passing : (b : Behind) → past_value (length bytes) 64 bytes ≡ b → scan_of bytes ≡ scanned (length bytes) b
  by_passing b is = ap (λ (x : Behind). scanned (length bytes) x) is

  tells_value : (n : ℕ) (v : Plain) → BeginsWith bytes n v → scan_of bytes ≡ scan.Whole n
  tells_value n v begins =
      let few : n ≤ length bytes = begins.0 in
      let size : length bytes - length (drop n bytes) ≡ n = omega (arith, few, length-drop n bytes) in
      by_passing (Ok (drop n bytes)) (passes (Ok (v, drop n bytes)) (reads.value n v begins)) ∙ ap scan.Whole size

  tells_front : IsFront bytes → scan_of bytes ≡ scan.Part
  tells_front (path, front) =
      by_passing (Err (truncated bytes path))
      (passes (Err (truncated bytes path)) (reads.front path front) (λ e. cc))

  tells_fault : (f : Fault BinKind) → Stands bytes f → (f.kind ≡ kind.Duplicate → ⊥)
      → scan_of bytes ≡ scan.Fault f.kind f.place
  tells_fault f stands other =
      by_passing (Err f) (passes (Err f) (reads.fault f stands) other)
      ∙ told_fault f.kind f.place (never_cut bytes f stands)

  module _ (three : OneOfThreeHolds bytes) where
    repeats : (f : Fault BinKind) → Stands bytes f → f.kind ≡ kind.Duplicate → HasRepeat bytes
    repeats f stands e =
        (f.place, subst (λ (k : BinKind). Stands bytes (record { kind = k; place = f.place })) e stands)

    back_value : (n : ℕ) → scan_of bytes ≡ scan.Whole n → ((v : Plain) × BeginsWith bytes n v) ⊎ HasRepeat bytes
    back_value n is = elim three.0 [
      | inl x ↦
          let same : x.0 ≡ n = whole_same x.0 n (sym (tells_value x.0 x.1 x.2) ∙ is) in
          inl (x.1, subst (λ m. BeginsWith bytes m x.1) same x.2)
      | inr (inl x) ↦ let e = sym (tells_front x) ∙ is in absurd cc
      | inr (inr x) ↦ elim (kinds x.0.kind) [
        | inl e ↦ inr (repeats x.0 x.1 e)
        | inr n ↦ let e = sym (tells_fault x.0 x.1 n) ∙ is in absurd cc
      ]
    ]

    back_front : scan_of bytes ≡ scan.Part → IsFront bytes ⊎ HasRepeat bytes
    back_front is = elim three.0 [
      | inl x ↦ let e = sym (tells_value x.0 x.1 x.2) ∙ is in absurd cc
      | inr (inl x) ↦ inl x
      | inr (inr x) ↦ elim (kinds x.0.kind) [
        | inl e ↦ inr (repeats x.0 x.1 e)
        | inr n ↦ let e = sym (tells_fault x.0 x.1 n) ∙ is in absurd cc
      ]
    ]

    back_fault : (k : BinKind) (place : ℕ) → scan_of bytes ≡ scan.Fault k place
        → Stands bytes (record { kind = k; place = place }) ⊎ HasRepeat bytes
    back_fault k place is = elim three.0 [
      | inl x ↦ let e = sym (tells_value x.0 x.1 x.2) ∙ is in absurd cc
      | inr (inl x) ↦ let e = sym (tells_front x) ∙ is in absurd cc
      | inr (inr x) ↦ elim (kinds x.0.kind) [
        | inl e ↦ inr (repeats x.0 x.1 e)
        | inr n ↦
            let e = fault_same x.0.kind k x.0.place place (sym (tells_fault x.0 x.1 n) ∙ is) in
            inl (subst (λ (f : Fault BinKind). Stands bytes f)
            (λ i. record { kind = e.0 i; place = e.1 i }) x.1)
      ]
    ]

pub exact : (bytes : List ℕ) → OneOfThreeHolds bytes → ReadingTells bytes → ScanIsExact bytes
exact bytes three reads = record {
  value = tells_value bytes reads;
  front = tells_front bytes reads;
  fault = tells_fault bytes reads;
  is_value = back_value bytes reads three;
  is_front = back_front bytes reads three;
  is_fault = back_fault bytes reads three;
}

-- Each list of bytes is one of three: it begins with a value, is a front of one, or has a fault.
use Rattle.std.proofs.Common.{◌≡◌, ℕ, ◌-◌, ◌<◌, ◌≤◌, List, [], ◌∷◌, length, drop, Result, Ok, Err, refl, sym, ap, ◌∙◌}
use Rattle.std.proofs.Common.{inl, inr, arith, length-drop}
use Rattle.std.proofs.lemmas.List.Elements.{All-head, All-tail}
use Rattle.pv_value.specs.Plain.{Plain}
use Rattle.pv_read.specs.Results.{Fault}
use Rattle.pv_read.specs.Lemmas.Binds.{err_same}
use Rattle.pv_binary.specs.declared.faults.BinKind.{BinKind}
use Rattle.pv_binary.specs.declared.faults.BinKind.TheVariants as kind
use Rattle.pv_binary.specs.Reading.{value_at}
use Rattle.pv_binary.specs.Fronts.{Front, truncated, Open, FaultAt, too_deep, bad_tag, bad_atom, repeated, Stands}
use Rattle.pv_binary.specs.Reads.{BeginsWith, Stops}
use Rattle.pv_binary.specs.OneOfThree.{AreBytes, IsOneOfThree, ExcludeOneAnother, AreUnique, OneOfThreeHolds}
use Rattle.pv_binary.specs.OneOfThree.{ReadingTells}
use Rattle.pv_binary.proofs.Varints.{IsBytes}
use Rattle.pv_binary.proofs.Whole.{found_law, only_law, same_read}
use Rattle.pv_binary.proofs.Cuts.{never_cut}
use Rattle.pv_binary.proofs.Stops.{front_answered, fault_answered}
use Rattle.pv_binary.proofs.Exact.{exact_law}
use Rattle.pv_binary.proofs.Paths.{one_path}

are_below : (bytes : List ℕ) → AreBytes bytes → IsBytes bytes
are_below [] h = tt
are_below (b ∷ bs) h = (All-head (λ (x : ℕ). x < 256) b bs h, are_below bs (All-tail (λ (x : ℕ). x < 256) b bs h))

stops_one : (bytes : List ℕ) (f : Fault BinKind) → Stops bytes f → IsOneOfThree bytes
stops_one bytes f (inl s) = inr (inl (s.0, s.1))
stops_one bytes f (inr s) = inr (inr (f, s))

-- no fault that stands is that the bytes end
not_truncated : (front : List ℕ) (os : List Open) (tail : List ℕ) (k : BinKind) (place : ℕ)
    → FaultAt front os tail k place
    → k ≡ kind.Truncated → ⊥
not_truncated front os tail k place (too_deep f qs t r c l) e = cc
not_truncated front os tail k place (bad_tag f qs t r other due) e = cc
not_truncated front os tail k place (bad_atom f qs t r m w) e = never_cut _ r m w e
not_truncated front os tail k place (repeated f o qs r ends again) e = cc

module _ (bytes : List ℕ) (all : IsBytes bytes) where
  some : IsOneOfThree bytes
  some = by (value_at (length bytes) 64 bytes) refl
    where
      by : (o : Result (Plain × List ℕ) (Fault BinKind)) → value_at (length bytes) 64 bytes ≡ o → IsOneOfThree bytes
      by (Ok x) e =
          let f = found_law (length bytes) 64 bytes x.0 x.1 all e in
          inl (length bytes - length x.1, x.0, (omega arith, f.1, f.2))
      by (Err f) e = stops_one bytes f (exact_law bytes f all e)

  has_read : (n : ℕ) (v : Plain) → BeginsWith bytes n v → value_at (length bytes) 64 bytes ≡ Ok (v, drop n bytes)
  has_read n v h = only_law (length bytes) 64 bytes n v h.1 h.2

  -- a value that is read leaves room for neither
  not_read : (n : ℕ) (v : Plain) (f : Fault BinKind) → BeginsWith bytes n v → value_at (length bytes) 64 bytes ≡ Err f
      → ⊥
  not_read n v f b e = let w = sym (has_read n v b) ∙ e in cc

  answered : (f g : Fault BinKind) → value_at (length bytes) 64 bytes ≡ Err f → value_at (length bytes) 64 bytes ≡ Err g
      → f ≡ g
  answered f g e h = err_same {A = Plain × List ℕ} f g (sym e ∙ h)

  not_front : (path : List ℕ) (f : Fault BinKind) → Front bytes path → Stands bytes f → ⊥
  not_front path f s h =
      let same = answered f (truncated bytes path) (fault_answered bytes f all h) (front_answered bytes path all s) in
      not_truncated h.0 h.2 h.1 f.kind f.place h.5 (ap (λ (x : Fault BinKind). x.kind) same)

  exclude : ExcludeOneAnother bytes
  exclude = record {
    value_and_front = λ v f. not_read v.0 v.1 (truncated bytes f.0) v.2 (front_answered bytes f.0 all f.1);
    value_and_fault = λ v f. not_read v.0 v.1 f.0 v.2 (fault_answered bytes f.0 all f.1);
    front_and_fault = λ s f. not_front s.0 f.0 s.1 f.1;
  }

  one_value : (m n : ℕ) (v w : Plain) → BeginsWith bytes m v → BeginsWith bytes n w → (m ≡ n) × (v ≡ w)
  one_value m n v w g h =
      let p = same_read (length bytes) 64 bytes n w v (drop m bytes) h.0 h.1 h.2 (has_read m v g) in
      let l : m ≤ length bytes = g.0 in
      let s : length bytes - length (drop m bytes) ≡ n = p.1 in
      (omega (arith, length-drop m bytes), p.0)

  unique : AreUnique bytes
  unique = record {
    value = one_value;
    front = λ p q g h. one_path bytes p q all g h;
    fault = λ f g s t. answered f g (fault_answered bytes f all s) (fault_answered bytes g all t);
  }

pub one_holds : (bytes : List ℕ) → AreBytes bytes → OneOfThreeHolds bytes
one_holds bytes h = let all = are_below bytes h in (some bytes all, exclude bytes all, unique bytes all)

pub reading_tells : (bytes : List ℕ) → AreBytes bytes → ReadingTells bytes
reading_tells bytes h =
    let all = are_below bytes h in
    record {
      value = has_read bytes all;
      front = λ path s. front_answered bytes path all s;
      fault = λ f s. fault_answered bytes f all s;
    }

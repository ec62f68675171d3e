-- Where a fault stops the reading of a value: whether the bytes end there, and that its place lies in them.
use Rattle.std.proofs.Common.{◌≡◌, ℕ, ◌≤◌, List, ◌∷◌, length, ap, inl, inr}
use Rattle.std.proofs.Common.{length-append, arith}
use Rattle.std.specs.List.{concat}
use Rattle.pv_read.specs.Results.{Fault}
use Rattle.pv_binary.specs.Reads.{Stops}
use Rattle.pv_binary.specs.Fronts.{Open, Opens, AtomFault, FaultAt, too_deep, bad_tag, bad_atom, repeated, Stands}
use Rattle.pv_binary.specs.OneOfThree.{IsFront}
use Rattle.pv_binary.specs.declared.tag.Tag.{Tag}
use Rattle.pv_binary.specs.declared.tag.Tag.TheVariants as tag
use Rattle.pv_binary.specs.declared.faults.BinKind.{BinKind}
use Rattle.pv_binary.specs.declared.faults.BinKind.TheVariants as kind

-- ---- no fault that stands is that the bytes end

atom_not_cut : (t : Tag) (bytes : List ℕ) (k : BinKind) → AtomFault t bytes k → k ≡ kind.Truncated → ⊥
atom_not_cut tag.Double bytes kind.BadTag h e = cc
atom_not_cut tag.Integer bytes kind.LongVarint h e = cc
atom_not_cut tag.Integer bytes kind.TooWide h e = cc
atom_not_cut tag.Integer bytes kind.LongInteger h e = cc
atom_not_cut tag.String bytes kind.LongVarint h e = cc
atom_not_cut tag.String bytes kind.BadUtf8 h e = cc
atom_not_cut tag.ByteString bytes kind.LongVarint h e = cc
atom_not_cut tag.Symbol bytes kind.LongVarint h e = cc
atom_not_cut tag.Symbol bytes kind.BadUtf8 h e = cc
atom_not_cut t bytes k h e = absurd h

not_cut : (front : List ℕ) (os : List Open) (tail : List ℕ) (k : BinKind) (place : ℕ) → FaultAt front os tail k place
    → k ≡ kind.Truncated → ⊥
not_cut front os tail k place (too_deep f qs t r c l) e = cc
not_cut front os tail k place (bad_tag f qs t r other due) e = cc
not_cut front os tail k place (bad_atom f qs t r m w) e = atom_not_cut _ r m w e
not_cut front os tail k place (repeated f o qs r ends again) e = cc

pub front_stops : (bytes : List ℕ) (f : Fault BinKind) → Stops bytes f → f.kind ≡ kind.Truncated → IsFront bytes
front_stops bytes f (inl s) e = (s.0, s.1)
front_stops bytes f (inr s) e = absurd (not_cut s.0 s.2 s.1 f.kind f.place s.5 e)

pub fault_stops : (bytes : List ℕ) (f : Fault BinKind) → Stops bytes f → (f.kind ≡ kind.Truncated → ⊥) → Stands bytes f
fault_stops bytes f (inl s) n = absurd (n (ap (λ (x : Fault BinKind). x.kind) s.2))
fault_stops bytes f (inr s) n = s

pub never_cut : (bytes : List ℕ) (f : Fault BinKind) → Stands bytes f → f.kind ≡ kind.Truncated → ⊥
never_cut bytes f s e = not_cut s.0 s.2 s.1 f.kind f.place s.5 e

-- ---- the place of a fault that stands

at_most : (front : List ℕ) (os : List Open) (tail : List ℕ) (k : BinKind) (place : ℕ) → FaultAt front os tail k place
    → Opens front os → place ≤ length front
at_most front os tail k place (too_deep f qs t r c l) o = omega arith
at_most front os tail k place (bad_tag f qs t r other due) o = omega arith
at_most front os tail k place (bad_atom f qs t r m w) o = omega arith
at_most front os tail k place (repeated f o qs r ends again) w =
    omega (arith, w.3.place, ap length w.5, length-append w.0 (o.byte ∷ concat w.1))

pub within_bytes : (bytes : List ℕ) (f : Fault BinKind) → Stands bytes f → f.place ≤ length bytes
within_bytes bytes f s =
    omega (arith, at_most s.0 s.2 s.1 f.kind f.place s.5 s.4, ap length s.3, length-append s.0 s.1)

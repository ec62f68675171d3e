-- The reference that the words of `mint` ask for: an oid, a key in hexadecimal, and caveats.
use Rattle.std.specs.Prelude.{◌≡◌, ℕ, ◌≤◌, false, List, [], ◌∷◌, length, Result, Ok, Err}
use Rattle.hex.specs.Hex.{decode_of}
use Rattle.hex.specs.declared.error.FromHexError.{FromHexError}
use Rattle.hex.specs.declared.error.FromHexError.TheVariants as digits
use Rattle.pv_value.specs.Plain.{Plain}
use Rattle.pv_text.specs.Reads.{AreValuesOf}
use Rattle.pv_print.specs.Lines.{line}
use Rattle.sr_caveat.specs.Embedded.{has_embedded}
use Rattle.gk_sturdy.specs.Refs.{ref_value}
use Rattle.gk_sturdy.specs.declared.refs.SturdyRef.{SturdyRef}
use Rattle.gk_sturdy.specs.Chain.{minted, narrowed}
use Rattle.dsd_top.specs.Limits.{most_key}
use Rattle.dsd_top.specs.Asked.{Minting}
use Rattle.dsd_top.specs.declared.minting.WordsFault.{WordsFault}
use Rattle.dsd_top.specs.declared.minting.WordsFault.TheVariants.{Bad, NoMemory}

-- the text is one value, in which no value is embedded
abbrev pub IsPlainText : List ℕ → Plain → Type 0
IsPlainText text v = AreValuesOf text (v ∷ []) × (has_embedded v ≡ false)

-- the text is a key of at most 64 bytes, in pairs of hexadecimal digits of either case
abbrev pub IsKey : List ℕ → List ℕ → Type 0
IsKey text key = (decode_of text ≡ Ok key) × (length key ≤ most_key)

-- the reference with a caveat more for each text, behind the others
abbrev pub IsNarrowedBy : List (List ℕ) → SturdyRef → SturdyRef → Type 0
IsNarrowedBy [] r s = s ≡ r
IsNarrowedBy (t ∷ ts) r s = (c : Plain) × IsPlainText t c × IsNarrowedBy ts (narrowed c r) s

-- the reference to the oid, signed under the key, with the caveats
abbrev pub IsMintedBy : Minting → SturdyRef → Type 0
IsMintedBy m r =
    (oid : Plain) × (key : List ℕ) × IsPlainText m.oid oid × IsKey m.key key
    × IsNarrowedBy m.caveats (minted key oid) r

-- that reference printed, on a line
abbrev pub IsReferenceLine : Minting → List ℕ → Type 0
IsReferenceLine m text = (r : SturdyRef) × IsMintedBy m r × (text ≡ line (ref_value r))

-- ---- what is found

-- unless memory ran out, the answer, seen by view, is such; or nothing is
abbrev pub IsFound : {T A : Type 0} → (T → A) → (A → Type 0) → Result T WordsFault → Type 0
IsFound view Is (Ok x) = Is (view x)
IsFound {A = A} view Is (Err Bad) = (x : A) → Is x → ⊥
IsFound view Is (Err NoMemory) = Unit {0}

-- the list is one value, in which no value is embedded
abbrev pub IsLone : List Plain → Plain → Type 0
IsLone vs v = (vs ≡ v ∷ []) × (has_embedded v ≡ false)

-- the bytes are these, at most 64
abbrev pub IsShort : List ℕ → List ℕ → Type 0
IsShort bytes key = (key ≡ bytes) × (length key ≤ most_key)

-- why digits are no bytes
abbrev pub digits_fault : FromHexError → WordsFault
digits_fault digits.OutOfMemory = NoMemory
digits_fault digits.OddLength = Bad
digits_fault digits.InvalidStringLength = Bad
digits_fault (digits.InvalidHexCharacter c i) = Bad

-- Laws of the definitions.
use Rattle.std.specs.Prelude.{◌≡◌, ◌↔◌, ℕ, ◌≤◌, List, [], ◌∷◌, ◌++◌, length, Some}
use Rattle.pv_value.specs.Plain.{Plain}
use Rattle.pv_value.specs.Weight.{weight}
use Rattle.pv_canon.specs.Canonical.{canonical}
use Rattle.sr_caveat.specs.Caps.{Cap, cap_value}
use Rattle.sr_caveat.specs.Limits.{reference_caveats, reference_weight}
use Rattle.gk_sturdy.specs.Refs.{SturdyRef, ref_of}
use Rattle.gk_sturdy.specs.Chain.{link, chain, due, IsValidRef, minted, narrowed}
use Rattle.gk_sturdy.specs.Bindings.{Binding, binding_for}
use Rattle.gk_sturdy.specs.Answers.{Accepted, given_by, answer_of}

-- ---- signatures

-- each link has 16 bytes, and so has each chain
abbrev pub LinksHaveSixteenBytes : Type 0
LinksHaveSixteenBytes = (key oid : List ℕ) (cs : List (List ℕ)) → length (chain key oid cs) ≡ 16

-- what is minted under a key is valid under it
abbrev pub MintedIsValid : Type 0
MintedIsValid = (key : List ℕ) (oid : Plain) → IsValidRef key (minted key oid)

-- a valid reference with one caveat more is valid
abbrev pub NarrowedIsValid : Type 0
NarrowedIsValid = (key : List ℕ) (c : Plain) (r : SturdyRef) → IsValidRef key r → IsValidRef key (narrowed c r)

-- the reference with these caveats behind its own, one after the other
abbrev pub all_narrowed : List Plain → SturdyRef → SturdyRef
all_narrowed [] r = r
all_narrowed (c ∷ cs) r = all_narrowed cs (narrowed c r)

-- a reference is valid under a key exactly where it is what was minted under it for its oid, attenuated by its caveats
abbrev pub ValidIsMinted : Type 0
ValidIsMinted = (key : List ℕ) (r : SturdyRef) → (IsValidRef key r ↔ (r ≡ all_narrowed r.caveats (minted key r.oid)))

-- the same oid and caveats under another signature
abbrev pub signed_as : List ℕ → SturdyRef → SturdyRef
signed_as sig r = record { oid = r.oid; sig = sig; caveats = r.caveats }

-- the same with one caveat more behind the others, which this signature is to sign too
abbrev pub longer : List ℕ → Plain → SturdyRef → SturdyRef
longer sig c r = record { oid = r.oid; sig = sig; caveats = r.caveats ++ c ∷ [] }

-- a valid reference of which the last caveat was taken away: where r with the caveat c behind its own is valid under a
-- signature, r is valid under it exactly where the link before is the same 16 bytes as the last one
abbrev pub LastCaveatIsSigned : Type 0
LastCaveatIsSigned = (key sig : List ℕ) (c : Plain) (r : SturdyRef) → IsValidRef key (longer sig c r)
    → (IsValidRef key (signed_as sig r) ↔ (due key r ≡ link (due key r) (canonical c)))

-- ---- answers

-- a value gives this: it is a reference, its oid has a binding, it was signed under that one's key, and what the
-- binding gives, with the reference's caveats behind, is within the bounds
pub record IsGiven (bs : List Binding) (v : Plain) (c : Cap) : Type 0 where
  pub reference : SturdyRef
  pub binding : Binding
  pub is_read : ref_of v ≡ Some reference
  pub is_bound : binding_for reference.oid bs ≡ Some binding
  pub is_signed : IsValidRef binding.key reference
  pub is_what : c ≡ given_by binding reference
  pub is_short : length c.caveats ≤ reference_caveats
  pub is_light : weight (cap_value c) ≤ reference_weight

-- what is accepted is what is given, and it alone
abbrev pub AcceptedIsGiven : Type 0
AcceptedIsGiven = (bs : List Binding) (v : Plain) (c : Cap) → ((answer_of bs v ≡ Accepted c) ↔ IsGiven bs v c)

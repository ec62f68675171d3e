-- Signed references as values: `<ref {oid: any, sig: bytes, caveats: [Caveat ..]}>`. This form is this server's own.
use Rattle.std.specs.Prelude.{ℕ, List, [], ◌∷◌, ◌++◌, Option, Some, None, option_and_then, codes, if◌then◌else◌}
use Rattle.std.specs.Prelude.{◌≡◌, false}
use Rattle.pv_value.specs.Plain.{Plain, byte_string, symbol, record_of, sequence, dictionary, no_more, then_more}
use Rattle.pv_value.specs.Plain.{PlainPairs, plains, listed, pairs}
use Rattle.pv_words.specs.Words.{is_word, labelled}
use Rattle.pv_words.specs.Parts.{value_under}
use Rattle.sr_caveat.specs.Embedded.{has_embedded, any_embedded}
pub use Rattle.gk_sturdy.specs.declared.refs.SturdyRef.{SturdyRef}

-- ---- which values are references

-- what stands in a dictionary under a symbol
abbrev pub under : List ℕ → PlainPairs → Option Plain
under word ps = value_under ps (symbol word)

-- any value with nothing embedded in it
abbrev pub oid_in : Plain → Option Plain
oid_in v = if has_embedded v then None else Some v

abbrev pub sig_in : Plain → Option (List ℕ)
sig_in (byte_string s) = Some s
sig_in v = None

-- a list with nothing embedded in it; no list is the empty one
abbrev pub caveats_in : Option Plain → Option (List Plain)
caveats_in None = Some []
caveats_in (Some (sequence xs)) = if any_embedded xs then None else Some (listed xs)
caveats_in (Some v) = None

abbrev pub ref_with : Option Plain → Option (List ℕ) → Option (List Plain) → Option SturdyRef
ref_with (Some oid) (Some sig) (Some caveats) = Some (record { oid = oid; sig = sig; caveats = caveats })
ref_with (Some oid) (Some sig) None = None
ref_with (Some oid) None cs = None
ref_with None s cs = None

-- the reference of these entries, of which others may stand beside the three
abbrev pub ref_in : PlainPairs → Option SturdyRef
ref_in ps =
    ref_with (option_and_then oid_in (under (codes "oid") ps)) (option_and_then sig_in (under (codes "sig") ps))
    (caveats_in (under (codes "caveats") ps))

-- the reference that a value is
abbrev pub ref_of : Plain → Option SturdyRef
ref_of (record_of (symbol s) (then_more (dictionary ps) no_more)) = if is_word s (codes "ref") then ref_in ps else None
ref_of v = None

-- ---- the value of a reference

-- no caveats are left out
abbrev pub caveats_entry : List Plain → List (Plain × Plain)
caveats_entry [] = []
caveats_entry (c ∷ cs) = (symbol (codes "caveats"), sequence (plains (c ∷ cs))) ∷ []

abbrev pub ref_entries : SturdyRef → List (Plain × Plain)
ref_entries r =
    caveats_entry r.caveats ++ (symbol (codes "oid"), r.oid) ∷ (symbol (codes "sig"), byte_string r.sig) ∷ []

abbrev pub ref_value : SturdyRef → Plain
ref_value r = labelled (codes "ref") (dictionary (pairs (ref_entries r)) ∷ [])

-- what is read as a reference: nothing is embedded in its oid or in a caveat
abbrev pub IsReadable : SturdyRef → Type 0
IsReadable r = (has_embedded r.oid ≡ false) × (any_embedded (plains r.caveats) ≡ false)

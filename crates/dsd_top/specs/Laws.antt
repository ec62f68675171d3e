-- Laws of what the program prints.
use Rattle.std.specs.Prelude.{◌≡◌, ℕ, ◌≤◌, List, [], ◌∷◌, Some}
use Rattle.pv_value.specs.Depth.{depth}
use Rattle.pv_value.specs.WellFormed.{IsWellFormed}
use Rattle.pv_read.specs.Limits.{read_depth}
use Rattle.pv_text.specs.Reads.{AreValuesOf}
use Rattle.pv_print.specs.Lines.{line}
use Rattle.gk_sturdy.specs.Refs.{ref_of, ref_value}
use Rattle.gk_sturdy.specs.declared.refs.SturdyRef.{SturdyRef}
use Rattle.gk_sturdy.specs.Chain.{IsValidRef}
use Rattle.dsd_top.specs.Asked.{Minting}
use Rattle.dsd_top.specs.Minting.{IsKey, IsMintedBy}

-- the text is one value, which is read as this reference, and that is signed under the key
abbrev pub ReadsAsSigned : List ℕ → List ℕ → SturdyRef → Type 0
ReadsAsSigned key text r = AreValuesOf text (ref_value r ∷ []) × (ref_of (ref_value r) ≡ Some r) × IsValidRef key r

-- the line that `mint` prints reads back so under the key of its words, where it is of a value of the program, which is
-- well formed, and nests no deeper than is read
abbrev pub MintedReadBack : Type 0
MintedReadBack =
    (m : Minting) (key : List ℕ) (r : SturdyRef) → IsKey m.key key → IsMintedBy m r → IsWellFormed (ref_value r)
    → depth (ref_value r) ≤ read_depth → ReadsAsSigned key (line (ref_value r)) r

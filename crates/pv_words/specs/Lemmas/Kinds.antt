-- The kinds of atoms by their numbers, no two alike.
use Rattle.std.specs.Prelude.{◌≡◌, ℕ, zero, suc, refl}
use Rattle.std.proofs.Common.{ap, sym, ◌∙◌}
use Rattle.pv_words.specs.Kinds.{AtomKind, Boolean, Double, SignedInteger, String, ByteString, Symbol}

abbrev pub kind_number : AtomKind → ℕ
kind_number Boolean = 0
kind_number Double = 1
kind_number SignedInteger = 2
kind_number String = 3
kind_number ByteString = 4
kind_number Symbol = 5

abbrev kind_numbered : ℕ → AtomKind
kind_numbered zero = Boolean
kind_numbered (suc zero) = Double
kind_numbered (suc (suc zero)) = SignedInteger
kind_numbered (suc (suc (suc zero))) = String
kind_numbered (suc (suc (suc (suc zero)))) = ByteString
kind_numbered (suc (suc (suc (suc (suc n))))) = Symbol

numbered_number : (k : AtomKind) → kind_numbered (kind_number k) ≡ k
numbered_number Boolean = refl
numbered_number Double = refl
numbered_number SignedInteger = refl
numbered_number String = refl
numbered_number ByteString = refl
numbered_number Symbol = refl

pub kind_inj : (k l : AtomKind) → kind_number k ≡ kind_number l → k ≡ l
kind_inj k l e = sym (numbered_number k) ∙ ap kind_numbered e ∙ numbered_number l

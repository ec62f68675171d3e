-- Which words ask a question: `query`, an address, a signed reference, a pattern, and how many lines are to be written.
use Rattle.std.specs.Prelude.{◌≡◌, ℕ, Bool, true, false, List, [], ◌∷◌, codes, is_some}
use Rattle.std.specs.Str.{bytes_eq}
use Rattle.pv_value.specs.Plain.{Plain}
use Rattle.gk_sturdy.specs.Refs.{ref_of}
use Rattle.dp_pattern.specs.Written.{pattern_of}
use Rattle.dq_link.specs.declared.dialling.Question.{Question}
use Rattle.dsd_top.specs.Minting.{IsPlainText}
use Rattle.dsd_top.specs.Numbers.{IsNumberWithin}
use Rattle.dsd_query.specs.Limits.{most_lines}

-- what is asked, and where
pub record Query : Type 0 where
  pub address : List ℕ
  pub question : Question

-- the word is the text of a signed reference, in which no value is embedded
abbrev pub IsReferenceIn : List ℕ → Plain → Type 0
IsReferenceIn word v = IsPlainText word v × (is_some (ref_of v) ≡ true)

-- the word is the text of a pattern, in which no value is embedded
abbrev pub IsPatternIn : List ℕ → Plain → Type 0
IsPatternIn word v = IsPlainText word v × (is_some (pattern_of v) ≡ true)

-- these three words are the question's reference, its pattern, and from 1 to 1,000,000 lines
abbrev pub IsQuestion : List ℕ → List ℕ → List ℕ → Question → Type 0
IsQuestion reference pattern lines q =
    IsReferenceIn reference q.reference × IsPatternIn pattern q.pattern × IsNumberWithin 1 most_lines lines q.lines

-- the words ask this question at this address
pub record IsQuery (words : List (List ℕ)) (q : Query) : Type 0 where
  pub reference : List ℕ
  pub pattern : List ℕ
  pub lines : List ℕ
  pub words_are : words ≡ codes "query" ∷ q.address ∷ reference ∷ pattern ∷ lines ∷ []
  pub is : IsQuestion reference pattern lines q.question

abbrev pub AskAQuestion : List (List ℕ) → Type 0
AskAQuestion words = (q : Query) × IsQuery words q

-- the words ask a question, of which this holds
abbrev pub IfQuery : List (List ℕ) → (Query → Type 0) → Type 0
IfQuery words Is = (q : Query) × IsQuery words q × Is q

-- whether the first word is "query"
abbrev pub is_query : List (List ℕ) → Bool
is_query [] = false
is_query (w ∷ ws) = bytes_eq w (codes "query")

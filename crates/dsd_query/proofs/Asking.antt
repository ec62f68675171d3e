-- The words of a question, one by one and together.
use Rattle.std.proofs.Common.{◌≡◌, ℕ, List, [], ◌∷◌, length, slice_index_or, String, Global, codes, arith}
use Rattle.std.proofs.Common.{sym, subst, ◌∙◌}
use Rattle.std.specs.String.{string_bytes}
use Rattle.dq_link.specs.declared.dialling.Question.{Question}
use Rattle.dsd_top.specs.Asked.{texts}
use Rattle.dsd_query.specs.Queries.{Query, IsQuestion, IsQuery}

-- five words, each of which is found at its place
pub five_words : (ws : List (String Global)) → length ws ≡ 5 → (w a r p n : String Global) → w ≡ slice_index_or ws 0 w
    → a ≡ slice_index_or ws 1 a → r ≡ slice_index_or ws 2 r → p ≡ slice_index_or ws 3 p → n ≡ slice_index_or ws 4 n
    → texts ws ≡ string_bytes w ∷ string_bytes a ∷ string_bytes r ∷ string_bytes p ∷ string_bytes n ∷ []
five_words [] e w a r p n f g h i j = absurd (omega (arith, e))
five_words (v ∷ []) e w a r p n f g h i j = absurd (omega (arith, e))
five_words (v ∷ x ∷ []) e w a r p n f g h i j = absurd (omega (arith, e))
five_words (v ∷ x ∷ y ∷ []) e w a r p n f g h i j = absurd (omega (arith, e))
five_words (v ∷ x ∷ y ∷ z ∷ []) e w a r p n f g h i j = absurd (omega (arith, e))
five_words (v ∷ x ∷ y ∷ z ∷ u ∷ []) e w a r p n f g h i j = cc (f, g, h, i, j)
five_words (v ∷ x ∷ y ∷ z ∷ u ∷ o ∷ os) e w a r p n f g h i j = absurd (omega (arith, e))

module _ (ws : List (List ℕ)) (w a r p n : List ℕ) (are : ws ≡ w ∷ a ∷ r ∷ p ∷ n ∷ []) where
  pub asked : w ≡ codes "query" → (q : Question) → IsQuestion r p n q
      → IsQuery ws (record { address = a; question = q })
  asked first q is = record { reference = r; pattern = p; lines = n; words_are = cc (are, first); is = is }

  pub unasked : ((q : Question) → IsQuestion r p n q → ⊥) → (q : Query) → IsQuery ws q → ⊥
  unasked none q is =
      let same : w ∷ a ∷ r ∷ p ∷ n ∷ [] ≡ codes "query" ∷ q.address ∷ is.reference ∷ is.pattern ∷ is.lines ∷ [] =
      sym are ∙ is.words_are in
      let R : List ℕ → Type 0 = λ x. IsQuestion x is.pattern is.lines q.question in
      let P : List ℕ → Type 0 = λ x. IsQuestion r x is.lines q.question in
      let N : List ℕ → Type 0 = λ x. IsQuestion r p x q.question in
      let first : is.reference ≡ r = cc same in
      let second : is.pattern ≡ p = cc same in
      let third : is.lines ≡ n = cc same in
      none q.question (subst N third (subst P second (subst R first is.is)))

-- words that are the same as these
pub words_are : (ws : List (List ℕ)) (w a r p n b s q m : List ℕ) → ws ≡ w ∷ a ∷ r ∷ p ∷ n ∷ [] → b ≡ a → s ≡ r
    → q ≡ p → m ≡ n → ws ≡ w ∷ b ∷ s ∷ q ∷ m ∷ []
words_are ws w a r p n b s q m e f g h i = cc (e, f, g, h, i)

-- Five words, one after another.
use Rattle.std.proofs.Common.{◌≡◌, ℕ, List, [], ◌∷◌, length, slice_index_or, String, Global, decimal, sym, ap, ◌∙◌}
use Rattle.std.proofs.Common.{arith}
use Rattle.std.proofs.lemmas.List.{length-map}
use Rattle.std.specs.String.{string_bytes}
use Rattle.dsd_top.specs.Commands.{texts}
use Rattle.dsd_serve.specs.Serving.{Serving, words_for, AskToServeBy}

pub five_words : (ws : List (String Global)) → length ws ≡ 5 → (w a c k n : String Global) → w ≡ slice_index_or ws 0 w
    → a ≡ slice_index_or ws 1 a → c ≡ slice_index_or ws 2 c → k ≡ slice_index_or ws 3 k → n ≡ slice_index_or ws 4 n
    → texts ws ≡ string_bytes w ∷ string_bytes a ∷ string_bytes c ∷ string_bytes k ∷ string_bytes n ∷ []
five_words [] e w a c k n p q r s t = absurd (omega (arith, e))
five_words (v ∷ []) e w a c k n p q r s t = absurd (omega (arith, e))
five_words (v ∷ x ∷ []) e w a c k n p q r s t = absurd (omega (arith, e))
five_words (v ∷ x ∷ y ∷ []) e w a c k n p q r s t = absurd (omega (arith, e))
five_words (v ∷ x ∷ y ∷ z ∷ []) e w a c k n p q r s t = absurd (omega (arith, e))
five_words (v ∷ x ∷ y ∷ z ∷ u ∷ []) e w a c k n p q r s t = cc (p, q, r, s, t)
five_words (v ∷ x ∷ y ∷ z ∷ u ∷ o ∷ os) e w a c k n p q r s t = absurd (omega (arith, e))

pub words_are : (ws : List (List ℕ)) (first w a c k n : List ℕ) (s : Serving) → ws ≡ w ∷ a ∷ c ∷ k ∷ n ∷ []
    → w ≡ first → a ≡ s.address → c ≡ s.file → k ≡ decimal s.workers → n ≡ decimal s.connections
    → ws ≡ words_for first s
words_are ws first w a c k n s e p q r t u = cc (e, p, q, r, t, u)

-- where there are more or fewer, nothing is asked
pub never_five : (ws : List (String Global)) (first : List ℕ) → (length ws ≡ 5 → ⊥) → AskToServeBy first (texts ws) → ⊥
never_five ws first others a =
    others (sym (length-map ws (λ w. string_bytes w)) ∙ ap length a.1.words_are)

-- nor where the first is another
pub never_other : (ws : List (String Global)) (first : List ℕ) (w : String Global) → w ≡ slice_index_or ws 0 w
    → (string_bytes w ≡ first → ⊥) → AskToServeBy first (texts ws) → ⊥
never_other [] first w p other a = absurd (cc a.1.words_are)
never_other (v ∷ vs) first w p other a = other (cc (p, a.1.words_are))

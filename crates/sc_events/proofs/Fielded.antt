-- Records that write no event, by how many fields they have and by their words.
use Rattle.std.proofs.Common.{◌≡◌, ◌≢◌, ℕ, List, [], ◌∷◌, length, refl, Bool, true, false, None, codes}
use Rattle.std.proofs.lemmas.Slice.Eq.{bytes_eq-Decides}
use Rattle.pv_value.specs.Plain.{Plain, plains}
use Rattle.pv_words.specs.Words.{is_word}
use Rattle.sc_events.specs.Events.{event_of_four, event_of_record}

pub no_record : (word : List ℕ) (fs : List Plain) → length fs ≢ 1 → length fs ≢ 2 → length fs ≢ 4
    → None ≡ event_of_record word (plains fs)
no_record word [] p q r = refl
no_record word (a ∷ []) p q r = absurd (p refl)
no_record word (a ∷ b ∷ []) p q r = absurd (q refl)
no_record word (a ∷ b ∷ c ∷ []) p q r = refl
no_record word (a ∷ b ∷ c ∷ d ∷ []) p q r = absurd (r refl)
no_record word (a ∷ b ∷ c ∷ d ∷ e ∷ fs) p q r = refl

not_word : (word : List ℕ) (other : List ℕ) → word ≢ other → is_word word other ≡ false
not_word word other p = by (is_word word other) (bytes_eq-Decides word other).0 where
  by : (b : Bool) → (b ≡ true → word ≡ other) → b ≡ false
  by true q = absurd (p (q refl))
  by false q = refl

pub no_word_of_four : (word : List ℕ) (f g h i : Plain) → word ≢ codes "bind" → word ≢ codes "watch"
    → None ≡ event_of_four word f g h i
no_word_of_four word f g h i p q = rw (not_word word _ p, not_word word _ q)

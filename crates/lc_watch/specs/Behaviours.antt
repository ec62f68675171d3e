-- Behaviours of watchers: what a name makes of a list of captures.
use Rattle.std.specs.Prelude.{ℕ, ◌≤◌, Bool, ◌||◌, List, [], ◌∷◌, codes, length, take, if◌then◌else◌}
use Rattle.pv_value.specs.Plain.{Plain}
use Rattle.pv_words.specs.Words.{is_word, labelled, number}

-- whether a name has a behaviour
abbrev pub is_behaviour : List ℕ → Bool
is_behaviour name = is_word name (codes "each") || is_word name (codes "tuple") || is_word name (codes "size")

-- The first eight captures; one record of all captures; or one record of how many they are. A name without a behaviour
-- makes nothing.
abbrev pub behave : List ℕ → List Plain → List Plain
behave name cs =
    if is_word name (codes "each") then take 8 cs
    else if is_word name (codes "tuple") then labelled (codes "tuple") cs ∷ []
    else if is_word name (codes "size") then labelled (codes "size") (number (length cs) ∷ []) ∷ []
    else []

-- ---- a law

abbrev pub MakesEightAtMost : Type 0
MakesEightAtMost = (name : List ℕ) (cs : List Plain) → length (behave name cs) ≤ 8

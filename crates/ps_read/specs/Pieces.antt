-- The pieces of a list between the elements that pass a test. There is one more than there are such elements.
use Rattle.std.specs.Prelude.{Bool, List, [], ◌∷◌, if◌then◌else◌}

-- one more element of the first piece
abbrev pub begun_with : {A : Type 0} → A → List (List A) → List (List A)
begun_with x [] = (x ∷ []) ∷ []
begun_with x (xs ∷ rest) = (x ∷ xs) ∷ rest

abbrev pub pieces : {A : Type 0} → (A → Bool) → List A → List (List A)
pieces test [] = [] ∷ []
pieces test (x ∷ xs) = if test x then [] ∷ pieces test xs else begun_with x (pieces test xs)

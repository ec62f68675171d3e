-- Which call does words: the first of them picks it.
use Rattle.std.specs.Prelude.{◌≡◌, ◌⊎◌, ℕ, List, ◌∷◌, codes}
use Rattle.dsd_program.specs.declared.word.Word.{Word}
use Rattle.dsd_program.specs.declared.word.Word.TheVariants.{Query, Bindings, ServeKept, Main}

-- the first word is this one
abbrev pub BeginWith : List ℕ → List (List ℕ) → Type 0
BeginWith name words = (rest : List (List ℕ)) × (words ≡ name ∷ rest)

-- three names pick a call each, and what begins with none of them goes to the main one
abbrev pub Pick : List (List ℕ) → Word → Type 0
Pick words Query = BeginWith (codes "query") words
Pick words Bindings = BeginWith (codes "bindings") words
Pick words ServeKept = BeginWith (codes "serve-kept") words
Pick words Main =
    BeginWith (codes "query") words ⊎ BeginWith (codes "bindings") words ⊎ BeginWith (codes "serve-kept") words → ⊥

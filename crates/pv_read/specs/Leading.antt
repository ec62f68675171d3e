-- Values one behind another: To says of bytes that they begin with a value, after which a rest is left.
use Rattle.std.specs.Prelude.{◌≡◌, ℕ, List, [], ◌∷◌}

-- the bytes begin with these values, after which the rest is left
abbrev pub LeadsOver : {V : Type 0} → (List ℕ → V → List ℕ → Type 0) → List ℕ → List V → List ℕ → Type 0
LeadsOver To bytes [] rest = bytes ≡ rest
LeadsOver To bytes (v ∷ vs) rest = (more : List ℕ) × To bytes v more × LeadsOver To more vs rest

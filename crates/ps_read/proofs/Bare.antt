-- Records with fields are no bare words.
use Rattle.std.proofs.Common.{◌≡◌, ℕ, ◌≤◌, List, [], ◌∷◌, length, false, refl, arith}
use Rattle.pv_value.specs.Plain.{Plain, symbol, record_of, plains}
use Rattle.ps_read.specs.Written.{is_bare}

pub bare_not : (w : List ℕ) (l : Plain) (fs : List Plain) → 1 ≤ length fs
    → false ≡ is_bare w (record_of l (plains fs))
bare_not w l [] h = absurd (omega arith)
bare_not w (symbol s) (f ∷ fs) h = refl
bare_not w l (f ∷ fs) h = refl

-- Values one behind another: one more, and how many bytes they take.
use Rattle.std.proofs.Common.{ℕ, ◌≤◌, List, [], ◌∷◌, ◌++◌, length, refl, sym, ap, subst, arith}
use Rattle.pv_read.specs.Leading.{LeadsOver}

module _ {V : Type 0} (To : List ℕ → V → List ℕ → Type 0) where
  -- one value more
  pub leads_more : (bytes : List ℕ) (vs : List V) (rest : List ℕ) (v : V) (more : List ℕ) → LeadsOver To bytes vs rest
      → To rest v more → LeadsOver To bytes (vs ++ v ∷ []) more
  leads_more bytes [] rest v more e h = (more, subst (λ b. To b v more) (sym e) h, refl)
  leads_more bytes (w ∷ ws) rest v more (r, t, l) h = (r, t, leads_more r ws rest v more l h)

  -- where each value takes bytes, what is left is no longer
  pub leads_shorter : ((bytes : List ℕ) (v : V) (more : List ℕ) → To bytes v more → length more ≤ length bytes)
      → (bytes : List ℕ) (vs : List V) (rest : List ℕ) → LeadsOver To bytes vs rest → length rest ≤ length bytes
  leads_shorter less bytes [] rest e = omega (arith, ap (λ (b : List ℕ). length b) e)
  leads_shorter less bytes (v ∷ vs) rest (more, t, l) =
      omega (arith, less bytes v more t, leads_shorter less more vs rest l)

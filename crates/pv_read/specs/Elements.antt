-- What stands in a compound: elements, one behind another, up to the character that closes it.
use Rattle.std.specs.Prelude.{ℕ, zero, suc, ◌==◌, List, [], ◌∷◌, if◌then◌else◌, Result, Ok, Err}
use Rattle.pv_read.specs.Results.{◌>>=◌}

-- before each element and before the close, skip passes over what counts for nothing; at_end is what the end of the
-- bytes is there; k is at least the number of the bytes
abbrev pub elements_at : {A E : Type 0} → (List ℕ → List ℕ) → ℕ → E → (List ℕ → Result (A × List ℕ) E) → ℕ → List ℕ
    → Result (List A × List ℕ) E
elements_at skip close at_end element zero bytes = Err at_end
elements_at skip close at_end element (suc k) bytes = elim (skip bytes) [
  | [] ↦ Err at_end
  | b ∷ bs ↦ if b == close then Ok ([], bs)
      else (element (b ∷ bs) >>= λ x. elements_at skip close at_end element k x.1 >>= λ xs. Ok (x.0 ∷ xs.0, xs.1))
]

-- What is noted, and what follows of it.
use Rattle.std.proofs.Common.{◌≡◌, Bool, true, false, inl, inr, Result, Ok, Err, IfOk}
use Rattle.row_cases.specs.Findings.{IsNoted}
use Rattle.row_cases.specs.declared.tally.Findings.{Findings}

pub noted_so : (is_case : Bool) (Holds More : Type 0) (old new : Findings) → is_case ≡ true → (Holds → More)
    → IsNoted true Holds old new → IsNoted is_case More old new
noted_so is_case Holds More old new is so (inl h) = let never : true ≡ false = h.0 in absurd cc
noted_so is_case Holds More old new is so (inr (inl h)) = inr (inl (is, so h.1, h.2))
noted_so is_case Holds More old new is so (inr (inr h)) = inr (inr (is, h.1, h.2))

pub weakened : {A E : Type 0} (r : Result A E) (P Q : A → Type 0) → ((x : A) → P x → Q x) → IfOk r P → IfOk r Q
weakened (Ok x) P Q so h = so x h
weakened (Err e) P Q so h = tt

-- A sum, modulo 2 ^ 64, that answers each step with what it has come to.
use Rattle.std.specs.Prelude.{◌≡◌, ℕ, zero, suc, ◌+◌, ◌%◌, ◌^◌, Bool, cond, nat_le, nat_lt, Option, Some, None}
use Rattle.std.specs.Prelude.{List, [], ◌∷◌}
use mathlib.Core.Option.{some}
use lib.ListN.{get_elem?}
use Rattle.turn_gate.specs.declared.view.Entry.{Entry}
use Rattle.turn_gate.specs.History.{IsLegal}
use Rattle.gate_tests.specs.declared.sums.Sum.{Sum}
use Rattle.gate_tests.specs.declared.sums.UpTo.{UpTo}

abbrev pub sum_next : Sum → ℕ → Sum × ℕ
sum_next t s = let n : ℕ = (t.total + s) % 2 ^ 64 in (record { total = n }, n)

-- whether the sum has come to so much
abbrev pub sum_over : Sum → ℕ → Bool
sum_over t n = nat_le n t.total

-- below the limit one more step comes
abbrev pub further_up_to : UpTo → ℕ → Option ℕ
further_up_to course n = cond (nat_lt n course.limit) (Some course.step) None

-- the sum of the steps up to this place, with the one that stands there
abbrev pub sum_up_to : ℕ → List (Entry ℕ ℕ) → ℕ
sum_up_to p [] = 0
sum_up_to zero (e ∷ es) = e.step
sum_up_to (suc p) (e ∷ es) = e.step + sum_up_to p es

-- in a legal list each reply is the sum of the steps of a front of the list, above what the gate was opened with
abbrev pub RepliesAreSums : Type 0
RepliesAreSums = (a : ℕ) (es : List (Entry ℕ ℕ)) (p : ℕ) (e : Entry ℕ ℕ)
    → IsLegal sum_next (record { total = a }) es → get_elem? es p ≡ some e → e.reply ≡ (a + sum_up_to p es) % 2 ^ 64

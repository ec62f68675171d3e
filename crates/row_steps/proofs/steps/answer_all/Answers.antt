use Rattle.std.proofs.Common.{◌≡◌, ℕ, suc, ◌+◌, Option, Some, None, refl, subst, arith}
use Rattle.std.specs.Option.{option_or}
use Rattle.pv_value.specs.Plain.{Plain}
use Rattle.row_steps.specs.Hands.{Hand, hand_of}
use Rattle.row_steps.specs.Rows.{AnswersOnce, AnswersSo}
use Rattle.row_steps.proofs.steps.answer_all.Goals as goal

neither : {T : Type 0} (a b : Option T) → option_or a b ≡ None → (a ≡ None) × (b ≡ None)
neither None b is = (refl, is)
neither (Some x) b is = absurd cc

once_more : (n : ℕ) (asked wanted : Plain) (old mid new : Hand) → AnswersSo n asked wanted old mid
    → AnswersOnce asked wanted mid new → AnswersSo (n + 1) asked wanted old new
once_more n asked wanted old mid new before once =
    let next : suc n ≡ n + 1 = omega arith in
    subst (λ k. AnswersSo k asked wanted old new) next (mid, before, once)

pub loop-preserved : goal.loop-preserved
loop-preserved c none =
    let both = neither c.loop.first c.in_ok-after.difference (rw c.or-first.ensures at none) in
    once_more c.loop.counter c.args.case.now.asked c.args.case.now.wanted (hand_of c.args.machine)
    (hand_of c.loop.machine) (hand_of c.in_ok-after.after) (c.loop.invariant both.0) (c.in_ok-after.ensures both.1)

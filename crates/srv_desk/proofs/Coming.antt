-- The number of a connection that comes.
use Rattle.std.proofs.Common.{◌≡◌, ℕ, ◌+◌, ◌^◌, ◌≤◌, ◌<◌, nat_le, Bool, true, false, ◌||◌, Option, None, Some}
use Rattle.std.proofs.Common.{if◌then◌else◌, List, [], ◌∷◌, ◌++◌, length, refl, subst, arith}
use Rattle.std.proofs.lemmas.Bool.Decides.{nat_tests}
use Rattle.hub_machine.specs.State.{State}
use Rattle.hub_machine.specs.Machine.{done, unchanged, is_worn, arrive_unless}
use Rattle.hub_machine.specs.declared.steps.Step.TheVariants.{Arrive}
use Rattle.hub_machine.specs.declared.steps.Reply.{Reply}
use Rattle.hub_machine.specs.declared.steps.Reply.TheVariants.{Worn, Barred, Halted, Full, Opened, Gone, Refused, Idle}
use Rattle.hub_machine.specs.declared.steps.Reply.TheVariants.{Sent, Ran, Taken}
use Rattle.srv_turns.specs.Replies.{CanBeReplied}
use Rattle.srv_turns.specs.Rounds.{Pair}
use Rattle.srv_desk.specs.Desks.{IsAnswered, HasCome, number_in}

-- where none comes the reply gives no number, and else the next one
next_number : (s : State) (stopped full : Bool) (k : ℕ)
    → (arrive_unless (if stopped then Some Halted else if full then Some Full else None) 0 s).reply ≡ Opened k
    → k ≡ s.world.opened + 1
next_number s true full k e = absurd (cc e)
next_number s false true k e = absurd (cc e)
next_number s false false k e = cc e

not_worn : (handles opened : ℕ) → (nat_le (2 ^ 62) handles || nat_le (2 ^ 31) opened) ≡ false → opened < 2 ^ 31
not_worn handles opened e = grind (arith, nat_tests)

few_unless : (s : State) (worn : Bool) (k : ℕ) → is_worn s (Arrive 0) ≡ worn
    → (if worn then unchanged s Worn else done s (Arrive 0)).reply ≡ Opened k → k ≤ 2 ^ 31
few_unless s true k is e = absurd (cc e)
few_unless s false k is e =
    let next = next_number s s.stopped (nat_le 32 (length s.connections)) k e in
    omega (arith, next, not_worn s.world.table.next s.world.opened is)

few : (k : ℕ) → CanBeReplied (Arrive 0) (Opened k) → k ≤ 2 ^ 31
few k (s, is) = few_unless s (is_worn s (Arrive 0)) k refl is

opened_for : (r : Reply) (k : ℕ) → number_in r ≡ Some k → r ≡ Opened k
opened_for (Opened n) k is = cc is
opened_for Worn k is = absurd (cc is)
opened_for Barred k is = absurd (cc is)
opened_for Halted k is = absurd (cc is)
opened_for Full k is = absurd (cc is)
opened_for Gone k is = absurd (cc is)
opened_for (Refused f) k is = absurd (cc is)
opened_for Idle k is = absurd (cc is)
opened_for (Sent p) k is = absurd (cc is)
opened_for Ran k is = absurd (cc is)
opened_for Taken k is = absurd (cc is)

come_by : (o : Option ℕ) (r : Reply) (before now : List Pair) (spent : Bool) → number_in r ≡ o
    → IsAnswered (Arrive 0) (Some r) before now spent → CanBeReplied (Arrive 0) r → HasCome o before now spent
come_by None r before now spent is done may = (Some r, is, done)
come_by (Some k) r before now spent is done may =
    let e = opened_for r k is in (
      subst (λ a. now ≡ before ++ (Arrive 0, a) ∷ []) e done,
      few k (subst (λ a. CanBeReplied (Arrive 0) a) e may),
    )

pub has_come : (r : Reply) (before now : List Pair) (spent : Bool) → IsAnswered (Arrive 0) (Some r) before now spent
    → CanBeReplied (Arrive 0) r → HasCome (number_in r) before now spent
has_come r before now spent done may = come_by (number_in r) r before now spent refl done may

pub none_came : (before now : List Pair) (spent : Bool) → IsAnswered (Arrive 0) None before now spent
    → HasCome None before now spent
none_came before now spent done = (None, refl, done)

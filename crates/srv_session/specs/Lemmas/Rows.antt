-- A row of a gate over the hub is one of the machine's steps.
use Rattle.std.proofs.Common.{◌≡◌, ℕ, zero, suc, List, [], ◌∷◌, ◌++◌, map, Option, None, Some, option_map}
use Rattle.std.proofs.Common.{refl, ap, subst}
use Rattle.std.specs.Prelude.{Result, Ok, Err, MatchResult}
use Rattle.std.specs.List.{AllByRecursion}
use Rattle.turn_gate.specs.declared.view.View.{View}
use Rattle.turn_gate.specs.declared.gate.GateFault.{GateFault}
use Rattle.turn_gate.specs.Rows.{GoesOn, StopsIn, IsRow, IsCutRow, AreCommitted, HasDone}
use Rattle.hub_machine.specs.declared.steps.Step.{Step}
use Rattle.hub_machine.specs.declared.steps.Step.TheVariants as steps
use Rattle.hub_machine.specs.declared.steps.Reply.{Reply}
use Rattle.hub_machine.specs.declared.steps.Reply.TheVariants as reply
use Rattle.srv_turns.specs.declared.committing.Behind.{Behind}
use Rattle.srv_turns.specs.declared.committing.Behind.TheVariants.{Work, Turns}
use Rattle.srv_turns.specs.Rows.{further_behind, replies_of, CanAllBeReplied}
use Rattle.srv_session.specs.Served.{served_next, served_behind}
use Rattle.srv_session.specs.Seats.{step_pairs}
use Rattle.srv_session.specs.Lemmas.Replied.{replied}
use Rattle.srv_session.specs.declared.served.Served.{Served}
use Rattle.srv_session.specs.declared.served.ServedStep.{ServedStep}

abbrev step_of : Option ServedStep → Option Step
step_of o = option_map (λ (s : ServedStep). s.step) o

-- what comes next is the same step
next_is : (b : Behind) (r : Reply) → step_of (served_behind b r) ≡ further_behind b r
next_is Work reply.Taken = refl
next_is Work reply.Ran = refl
next_is Work reply.Worn = refl
next_is Work reply.Barred = refl
next_is Work reply.Halted = refl
next_is Work reply.Full = refl
next_is Work (reply.Opened k) = refl
next_is Work reply.Gone = refl
next_is Work (reply.Refused f) = refl
next_is Work reply.Idle = refl
next_is Work (reply.Sent p) = refl
next_is (Turns a) reply.Taken = refl
next_is (Turns a) reply.Ran = refl
next_is (Turns a) reply.Worn = refl
next_is (Turns a) reply.Barred = refl
next_is (Turns a) reply.Halted = refl
next_is (Turns a) reply.Full = refl
next_is (Turns a) (reply.Opened k) = refl
next_is (Turns a) reply.Gone = refl
next_is (Turns a) (reply.Refused f) = refl
next_is (Turns a) reply.Idle = refl
next_is (Turns a) (reply.Sent p) = refl

pub goes_on : (b : Behind) (n : ℕ) (o : Option ServedStep) (ps : List (ServedStep × Reply))
    → GoesOn (served_behind b) n o ps → GoesOn (further_behind b) n (step_of o) (step_pairs ps)
goes_on b n None ps is = ap step_pairs is
goes_on b zero (Some s) ps is = ap step_pairs is
goes_on b (suc n) (Some s) [] is = is
goes_on b (suc n) (Some s) (p ∷ ps) is = (
  ap (λ (t : ServedStep). t.step) is.0,
  subst (λ o. GoesOn (further_behind b) n o (step_pairs ps)) (next_is b p.1)
      (goes_on b n (served_behind b p.1) ps is.1),
)

pub stops_in : (b : Behind) (n : ℕ) (o : Option ServedStep) (ps : List (ServedStep × Reply))
    → StopsIn (served_behind b) n o ps → StopsIn (further_behind b) n (step_of o) (step_pairs ps)
stops_in b n None ps is = absurd is
stops_in b zero (Some s) ps is = absurd is
stops_in b (suc n) (Some s) [] is = tt
stops_in b (suc n) (Some s) (p ∷ ps) is = (
  ap (λ (t : ServedStep). t.step) is.0,
  subst (λ o. StopsIn (further_behind b) n o (step_pairs ps)) (next_is b p.1)
      (stops_in b n (served_behind b p.1) ps is.1),
)

-- what is replied in it can be
pub all_replied : {X Y Z : Type 0} (h : Served X Y Z) (v w : View (Served X Y Z) ServedStep Reply)
    (ps : List (ServedStep × Reply)) → AreCommitted served_next h v ps w → CanAllBeReplied (step_pairs ps)
all_replied h v w [] done = tt
all_replied h v w (p ∷ ps) done =
    (replied h v done.0 p.0 p.0.step p.1 done.1 refl, all_replied h done.0 w ps done.2)

-- ---- what a row adds

pub pairs_added : (ps qs : List (ServedStep × Reply)) → step_pairs (ps ++ qs) ≡ step_pairs ps ++ step_pairs qs
pairs_added [] qs = refl
pairs_added (p ∷ ps) qs = ap (λ rest. (p.0.step, p.1) ∷ rest) (pairs_added ps qs)

pub same_replies : (ps : List (ServedStep × Reply)) → map (λ p. p.1) ps ≡ replies_of (step_pairs ps)
same_replies [] = refl
same_replies (p ∷ ps) = ap (λ rest. p.1 ∷ rest) (same_replies ps)

-- a row at the gate is one of the machine's steps, whether it went to its end or not, and its replies can be
pub row_done : {X Y Z U : Type 0} (h : Served X Y Z) (b : Behind) (n : ℕ) (s : ServedStep) (e : Step)
    (v w : View (Served X Y Z) ServedStep Reply) (result : Result U GateFault) (ps : List (ServedStep × Reply))
    → s.step ≡ e → HasDone served_next h (served_behind b) n v s result ps w
    → MatchResult result (λ done. IsRow (further_behind b) n e (step_pairs ps))
    (λ f. IsCutRow (further_behind b) n e (step_pairs ps))
    × CanAllBeReplied (step_pairs ps)
row_done h b n s e v w (Ok u) ps same done = (
  subst (λ a. GoesOn (further_behind b) n (Some a) (step_pairs ps)) same (goes_on b n (Some s) ps done.0),
  all_replied h v w ps done.1,
)
row_done h b n s e v w (Err f) ps same done = (
  subst (λ a. StopsIn (further_behind b) n (Some a) (step_pairs ps)) same (stops_in b n (Some s) ps done.0),
  all_replied h v done.1.0 ps done.1.1,
)

-- What a gate over the hub replies to a step is what the machine replies to it in some state.
use Rattle.std.proofs.Common.{◌≡◌, List, [], ◌∷◌, ◌++◌, sym, ap, ◌∙◌, subst}
use Rattle.turn_gate.specs.declared.view.Entry.{Entry}
use Rattle.turn_gate.specs.declared.view.View.{View}
use Rattle.turn_gate.specs.History.{after, IsLegal}
use Rattle.turn_gate.specs.Passes.{Committed}
use Rattle.hub_machine.specs.Machine.{step}
use Rattle.hub_machine.specs.declared.steps.Step.{Step}
use Rattle.hub_machine.specs.declared.steps.Reply.{Reply}
use Rattle.srv_turns.specs.Replies.{CanBeReplied}
use Rattle.srv_session.specs.Served.{served_next}
use Rattle.srv_session.specs.declared.served.Served.{Served}
use Rattle.srv_session.specs.declared.served.ServedStep.{ServedStep}

module _ {X Y Z : Type 0} where
  last_replied : (h : Served X Y Z) (es : List (Entry ServedStep Reply)) (e : Entry ServedStep Reply)
      → IsLegal served_next h (es ++ e ∷ []) → e.reply ≡ (step (after served_next h es).hub e.step.step).reply
  last_replied h [] e legal = legal.0
  last_replied h (x ∷ es) e legal = last_replied (served_next h x.step).0 es e legal.1

  pub replied : (h : Served X Y Z) (v w : View (Served X Y Z) ServedStep Reply) (s : ServedStep) (e : Step) (r : Reply)
      → Committed served_next h v s r w → s.step ≡ e → CanBeReplied e r
  replied h v w s e r done same =
      let x : Entry ServedStep Reply = record { name = v.name; step = s; reply = r } in
      let legal = subst (IsLegal served_next h) done.ends done.legal in (
        (after served_next h done.before).hub,
        sym (last_replied h done.before x legal
            ∙ ap (λ (a : Step). (step (after served_next h done.before).hub a).reply) same),
      )

-- A legal history over the hub is a run of the machine.
use Rattle.std.proofs.Common.{◌≡◌, List, [], ◌∷◌, ◌++◌, refl, ap, ◌∙◌}
use Rattle.turn_gate.specs.declared.view.Entry.{Entry}
use Rattle.turn_gate.specs.History.{after, IsLegal, replies_of}
use Rattle.hub_machine.specs.State.{State, opening}
use Rattle.hub_machine.specs.Machine.{step, IsAllowed}
use Rattle.hub_machine.specs.Replays.{run_from}
use Rattle.hub_machine.specs.declared.steps.Step.{Step}
use Rattle.hub_machine.specs.declared.steps.Step.TheVariants.{Bind, Watch, Arrive, Packet, Bad, Close, Turn, Work, Stop}
use Rattle.hub_machine.specs.declared.steps.Reply.{Reply}
use Rattle.hub_laws.specs.Laws.{AreAllowed}
use Rattle.srv_session.specs.Served.{served_next}
use Rattle.srv_session.specs.Laws.{machine_steps, replies_from}
use Rattle.srv_session.specs.declared.served.Served.{Served}
use Rattle.srv_session.specs.declared.served.ServedStep.{ServedStep}

-- what is allowed at one state is allowed at each
anywhere : (s t : State) (e : Step) → IsAllowed s e → IsAllowed t e
anywhere s t (Bind b) may = may
anywhere s t (Watch x) may = may
anywhere s t (Arrive space) may = may
anywhere s t (Packet k turn) may = may
anywhere s t (Bad k f) may = may
anywhere s t (Close k) may = may
anywhere s t (Turn a) may = may
anywhere s t Work may = may
anywhere s t Stop may = may

pub runs : {X Y Z : Type 0} (h : Served X Y Z) (s : State) (es : List (Entry ServedStep Reply)) → h.hub ≡ s
    → IsLegal served_next h es
    → ((after served_next h es).hub ≡ run_from s (machine_steps es))
    × AreAllowed s (machine_steps es)
    × (replies_of es ≡ replies_from s (machine_steps es))
runs h s [] is legal = (is, tt, refl)
runs h s (e ∷ es) is legal =
    let rest : _ = runs (served_next h e.step).0 (step s e.step.step).state es
    (ap (λ t. (step t e.step.step).state) is) legal.1 in (
      rest.0,
      (anywhere (opening []) s e.step.step e.step.allowed, rest.1),
      (λ i. (legal.0 ∙ ap (λ t. (step t e.step.step).reply) is) i ∷ rest.2 i),
    )

-- the steps before, and then these
pub run_from-behind : (s : State) (es fs : List Step) → run_from s (es ++ fs) ≡ run_from (run_from s es) fs
run_from-behind s [] fs = refl
run_from-behind s (e ∷ es) fs = run_from-behind (step s e).state es fs

pub allowed_behind : (s : State) (es fs : List Step) → AreAllowed s es → AreAllowed (run_from s es) fs
    → AreAllowed s (es ++ fs)
allowed_behind s [] fs all more = more
allowed_behind s (e ∷ es) fs all more = (all.0, allowed_behind (step s e).state es fs all.1 more)

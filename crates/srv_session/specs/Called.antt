-- Whom a step over the hub calls: the classes of those who look again behind it.
use Rattle.std.specs.Prelude.{◌≡◌, ◌⊎◌, ℕ, ◌≤◌, true, List, [], ◌∷◌, ◌++◌, Option, None, Some}
use Rattle.ps_schema.specs.declared.Definition.{Definition}
use Rattle.hub_machine.specs.State.{State, opening}
use Rattle.hub_machine.specs.Machine.{step}
use Rattle.hub_machine.specs.Replays.{replay}
use Rattle.hub_machine.specs.declared.steps.Step.{Step}
use Rattle.hub_machine.specs.declared.steps.Step.TheVariants.{Close}
use Rattle.hub_laws.specs.Laws.{AreAllowed}
use Rattle.hub_core.specs.Work.{class_of, has_work}
use Rattle.srv_session.specs.News.{IsIdle, HasTurn, HasWork}

-- the class that is called whatever the step leaves: that of a connection which it closes
abbrev pub called_by : Step → Option ℕ
called_by (Close k) = Some (class_of k)
called_by e = None

-- a class is called behind a step that leaves this state
abbrev pub IsCalled : ℕ → Step → State → Type 0
IsCalled p e after = (called_by e ≡ Some p) ⊎ (has_work p after ≡ true)

-- behind a step from this state, a connection that had nothing to do before it and has something to do is called, and
-- so are the system's actors where they have something to do
pub record CallsThoseWithNews (s : State) (e : Step) : Type 0 where
  pub connections : (k : ℕ) → 1 ≤ k → IsIdle k s → HasTurn k (step s e).state
      → IsCalled (class_of k) e (step s e).state
  pub workers : HasWork (step s e).state → has_work 0 (step s e).state ≡ true

-- so it is behind each step of each run
abbrev pub NewsAreCalled : Type 0
NewsAreCalled =
    (ds : List Definition) (es : List Step) (e : Step) → AreAllowed (opening ds) (es ++ e ∷ [])
    → CallsThoseWithNews (replay ds es) e

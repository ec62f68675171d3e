-- What a desk at a gate has done, by its own steps and the replies that it got.
use Rattle.std.specs.Prelude.{◌≡◌, ℕ, zero, ◌≤◌, nat_le, Bool, true, List, [], ◌∷◌, ◌++◌, Option, None, Some}
use Rattle.std.specs.List.{flat_map}
use Rattle.turn_gate.specs.declared.view.View.{View}
use Rattle.turn_gate.specs.Limits.{most_steps}
use Rattle.turn_gate.specs.Passes.{own_pairs}
use Rattle.hub_machine.specs.Limits.{worn_connections}
use Rattle.hub_machine.specs.declared.steps.Step.{Step}
use Rattle.hub_machine.specs.declared.steps.Step.TheVariants.{Arrive, Close}
use Rattle.hub_machine.specs.declared.steps.Reply.{Reply}
use Rattle.hub_machine.specs.declared.steps.Reply.TheVariants.{Opened}
use Rattle.srv_turns.specs.Rounds.{Pair}
use Rattle.srv_session.specs.Seats.{step_pairs}
use Rattle.srv_session.specs.declared.served.Served.{Served}
use Rattle.srv_session.specs.declared.served.ServedStep.{ServedStep}
use Rattle.srv_loop.specs.Links.{Deeds}

-- ---- one step

-- the steps of a pass, and their replies, in order
abbrev pub pairs_by : {X Y Z : Type 0} → View (Served X Y Z) ServedStep Reply → List Pair
pairs_by v = step_pairs (own_pairs v)

-- as many steps stand as a gate takes
abbrev pub is_spent : {T S R : Type 0} → View T S R → Bool
is_spent v = nat_le most_steps v.floor

-- a step was done and got this reply, or nothing was done and the gate is spent
abbrev pub IsAnswered : Step → Option Reply → List Pair → List Pair → Bool → Type 0
IsAnswered e (Some r) before now spent = now ≡ before ++ (e, r) ∷ []
IsAnswered e None before now spent = (now ≡ before) × (spent ≡ true)

-- a step was done, whatever its reply, or the gate is spent
abbrev pub IsDone : Step → List Pair → List Pair → Bool → Type 0
IsDone e before now spent = (answer : Option Reply) × IsAnswered e answer before now spent

-- the number of the connection that came, by the reply to its arrival
abbrev pub number_in : Reply → Option ℕ
number_in (Opened k) = Some k
number_in r = None

abbrev pub number_of : Option Reply → Option ℕ
number_of (Some r) = number_in r
number_of None = None

-- a connection of this number came to the gatekeeper; or the arrival got another reply, or the gate is spent
abbrev pub HasCome : Option ℕ → List Pair → List Pair → Bool → Type 0
HasCome (Some k) before now spent = (now ≡ before ++ (Arrive 0, Opened k) ∷ []) × (k ≤ worn_connections)
HasCome None before now spent =
    (answer : Option Reply) × (number_of answer ≡ None) × IsAnswered (Arrive 0) answer before now spent

-- ---- all steps

abbrev pub listed : Option ℕ → List ℕ
listed (Some k) = k ∷ []
listed None = []

-- the number of a connection that came to the gatekeeper
abbrev pub opened_by : Step → Reply → List ℕ
opened_by (Arrive zero) r = listed (number_in r)
opened_by e r = []

-- the number of a connection that was closed
abbrev pub closed_by : Step → List ℕ
closed_by (Close k) = k ∷ []
closed_by e = []

abbrev pub opened_in : List Pair → List ℕ
opened_in ps = flat_map (λ p. opened_by p.0 p.1) ps

abbrev pub closed_in : List Pair → List ℕ
closed_in ps = flat_map (λ p. closed_by p.0) ps

-- with these steps, so many links that it didn't open, and a gate that is spent or isn't
abbrev pub deeds_of : List Pair → ℕ → Bool → Deeds
deeds_of ps full spent =
    record { opened = opened_in ps; full = full; dismissed = closed_in ps; spent = spent }

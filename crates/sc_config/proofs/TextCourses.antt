-- The course of a text: how it goes on with each value that is read and done, and how it ends or stops.
use Rattle.std.proofs.Common.{◌≡◌, ℕ, ◌+◌, ◌≤◌, Bool, true, false, List, [], ◌∷◌, ◌++◌, length, Option, Some, None}
use Rattle.std.proofs.Common.{sym, ap, ◌∙◌, subst}
use Rattle.pv_value.specs.Plain.{Plain}
use Rattle.ps_schema.specs.declared.Definition.{Definition}
use Rattle.hub_machine.specs.State.{State, opening}
use Rattle.sc_events.specs.declared.inputs.Form.TheVariants.{Text}
use Rattle.sc_events.specs.declared.inputs.Values.{Values}
use Rattle.sc_events.specs.Events.{event_of}
use Rattle.sc_events.specs.Readings.{AreReadAs}
use Rattle.sc_events.specs.SoFar.{AreSoFar}
use Rattle.sc_schema.specs.Courses.{Doing, after_value}
use Rattle.sc_schema.specs.Firsts.{text_in, IsVerdict}
use Rattle.sc_schema.specs.Lemmas.Done as input
use Rattle.sc_config.specs.declared.faults.ConfigFault.{ConfigFault}
use Rattle.sc_config.specs.declared.faults.ConfigFault.TheVariants as fault
use Rattle.sc_config.specs.Courses.{Setting, Cause, beginning, doing, cause_in}
use Rattle.sc_config.specs.Configs.{IsConfigured, IsRefusedFor, IsRefusedAs}
use Rattle.sc_config.specs.Keeping.{IsAt, SetsAs, StopsAs}

-- there is one way of doing a text
abbrev alone : Unit {0} → Doing Setting Cause
alone i = doing

pub begun : (ds : List Definition) (s : State) → s ≡ opening ds → IsAt (beginning ds) s
begun ds s is = record { allowed = tt; set_up = tt; state = is; schema = ap (λ (t : State). t.world.schema) is }

-- so many values of the text are read and done, one at least, under the schema that the first one gives
abbrev pub IsDone : List ℕ → ℕ → Values → State → Type 0
IsDone text place values s = input.IsDone alone Text text place values (λ c. IsAt c s)

-- what a fault tells is why the text is refused, but for want of memory
pub by_told : (text : List ℕ) (f g : ConfigFault) (Q : Type 0) → ((f ≡ fault.NoMemory → ⊥) → (f ≡ g) × Q)
    → (Q → IsRefusedAs text g) → IsRefusedAs text f
by_told text (fault.Bad k) g Q told stop =
    let t = told (λ e. cc) in
    subst (IsRefusedAs text) (sym t.0) (stop t.1)
by_told text fault.NoMemory g Q told stop = tt

module _ (text : List ℕ) where
  refused : (o : Option Cause) → input.StopsWith alone Text text o → IsRefusedFor text o
  refused None stop = tt
  refused (Some cause) stop = stop tt

  -- no value is there
  pub none_there : (ds : List Definition) (s : State) → ds ≡ [] → s ≡ opening ds → AreReadAs Text text [] true
      → IsConfigured text s
  none_there ds s none is read =
      let at = begun [] s (is ∙ ap opening none) in
      (beginning [], input.none_there alone Text text read tt, at.allowed, at.set_up, at.state)

  pub none_read : AreReadAs Text text [] false → IsRefusedAs text (fault.Bad 0)
  none_read read = input.none_read alone Text text read tt

  -- the first value is read
  module _ (values : Values) (v : Plain) (read : AreSoFar Text text (v ∷ []) values) where
    pub first_done : (ds : List Definition) (s now : State) → IsVerdict (text_in (event_of v)) (Some ds)
        → IsAt (beginning ds) s → SetsAs s (after_value doing 0 (event_of v)) now → IsDone text 1 values now
    first_done ds s now verdict at one =
        input.first_done alone Text text values v read ds verdict (λ c. IsAt c s) (λ i. at) (λ c. IsAt c now) (λ i. one)

    -- the text is read on in some way
    module _ (on : (ws : List Plain) × (whole : Bool) × AreReadAs Text text (v ∷ ws) whole) where
      -- the first value's schema can't be had, for this fault
      pub first_at_fault : (f : ConfigFault)
          → ((f ≡ fault.NoMemory → ⊥) → (f ≡ fault.Bad 0) × IsVerdict (text_in (event_of v)) None)
          → IsRefusedAs text f
      first_at_fault f told =
          by_told text f (fault.Bad 0) _ told (λ none. input.first_refused alone Text text values v read on none tt)

      pub first_stops : (ds : List Definition) (s : State) → IsVerdict (text_in (event_of v)) (Some ds)
          → IsAt (beginning ds) s → (f : ConfigFault) → StopsAs s (after_value doing 0 (event_of v)) f
          → IsRefusedAs text f
      first_stops ds s verdict at f one =
          refused (cause_in f) (input.first_stops alone Text text values v read on ds (cause_in f) verdict
          (λ i. one (beginning ds) at))

  -- value n is read
  module _ (n : ℕ) (values next : Values) (s : State) (v : Plain) (done : IsDone text n values s)
      (read : (vs : List Plain) → AreSoFar Text text vs values → AreSoFar Text text (vs ++ v ∷ []) next) where
    pub is_few : n + 1 ≤ length text
    is_few = input.is_few alone Text text n values next (λ c. IsAt c s) v done read

    pub one_done : (now : State) → SetsAs s (after_value doing n (event_of v)) now → IsDone text (n + 1) next now
    one_done now one =
        input.one_done alone Text text n values next (λ c. IsAt c s) v done read (λ c. IsAt c now) (λ i. one)

    -- the text is read on in some way
    module _ (on : (vs : List Plain) → AreSoFar Text text vs next
        → (ws : List Plain) × (whole : Bool) × AreReadAs Text text (vs ++ ws) whole) where
      pub one_stops : (f : ConfigFault) → StopsAs s (after_value doing n (event_of v)) f → IsRefusedAs text f
      one_stops f one =
          refused (cause_in f) (input.one_stops alone Text text n values next (λ c. IsAt c s) v done read on
          (cause_in f) (λ i. one))

  -- no value is left
  module _ (n : ℕ) (values : Values) (s : State) (done : IsDone text n values s) where
    pub all_done : ((vs : List Plain) → AreSoFar Text text vs values → AreReadAs Text text vs true)
        → IsConfigured text s
    all_done read =
        let r = input.all_done alone Text text n values (λ c. IsAt c s) done read tt in
        (r.0, r.1, r.2.allowed, r.2.set_up, r.2.state)

    pub cut_off : ((vs : List Plain) → AreSoFar Text text vs values → AreReadAs Text text vs false)
        → IsRefusedAs text (fault.Bad n)
    cut_off read = input.cut_off alone Text text n values (λ c. IsAt c s) done read tt

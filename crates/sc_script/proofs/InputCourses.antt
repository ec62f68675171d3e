-- The course of an input: how it goes on with each value that is read and done, and how it ends or stops.
use Rattle.std.proofs.Common.{◌≡◌, ℕ, ◌+◌, ◌≤◌, Bool, true, false, List, [], ◌∷◌, ◌++◌, length, Option, Some, None}
use Rattle.std.proofs.Common.{inr, sym, subst}
use Rattle.pv_value.specs.Plain.{Plain}
use Rattle.ps_schema.specs.declared.Definition.{Definition}
use Rattle.rl_stream.specs.Nexts.{Decider, Decides}
use Rattle.sc_events.specs.Limits.{most_input}
use Rattle.sc_events.specs.declared.inputs.Form.{Form}
use Rattle.sc_events.specs.declared.inputs.Values.{Values}
use Rattle.sc_events.specs.Events.{event_of}
use Rattle.sc_events.specs.Readings.{AreReadAs}
use Rattle.sc_events.specs.SoFar.{AreSoFar}
use Rattle.sc_schema.specs.Courses.{Doing, after_value}
use Rattle.sc_schema.specs.Firsts.{text_in, IsVerdict}
use Rattle.sc_schema.specs.Lemmas.Done as input
use Rattle.sc_script.specs.declared.faults.ScriptFault.{ScriptFault}
use Rattle.sc_script.specs.declared.faults.ScriptFault.TheVariants as fault
use Rattle.sc_script.specs.Runs.{Running, Cause, beginning, doing, cause_in}
use Rattle.sc_script.specs.Keeping.{RunState, IsAt, RanAs, RunsAs, StopsAs}
use Rattle.sc_script.specs.Scripts.{StopsWith, StopsAt}

-- an input is done over every decider
abbrev OfDecider : Type 0
OfDecider = (N : Decider) × Decides N

abbrev by : OfDecider → Doing Running Cause
by i = doing i.0

-- so many values of the input are read and done, one at least, under the schema that the first one gives
abbrev pub IsDone : Form → List ℕ → ℕ → Values → RunState → Type 0
IsDone form bytes place values s = input.IsDone by form bytes place values (λ r. IsAt r s)

-- what a fault tells is why the input stops, but for want of memory
pub by_told : (form : Form) (bytes : List ℕ) (f g : ScriptFault) (Q : Type 0)
    → ((f ≡ fault.NoMemory → ⊥) → (f ≡ g) × Q) → (Q → StopsAt form bytes g) → StopsAt form bytes f
by_told form bytes (fault.Bad k) g Q told stop =
    let t = told (λ e. cc) in
    subst (StopsAt form bytes) (sym t.0) (stop t.1)
by_told form bytes (fault.Limit w) g Q told stop =
    let t = told (λ e. cc) in
    subst (StopsAt form bytes) (sym t.0) (stop t.1)
by_told form bytes (fault.Schema k) g Q told stop =
    let t = told (λ e. cc) in
    subst (StopsAt form bytes) (sym t.0) (stop t.1)
by_told form bytes fault.NoMemory g Q told stop = tt

module _ (form : Form) (bytes : List ℕ) where
  -- no value is there
  pub none_there : (s : RunState) → length bytes ≤ most_input → AreReadAs form bytes [] true → IsAt (beginning []) s
      → RanAs form bytes s
  none_there s short read at N d = (beginning [], inr (short, input.none_there by form bytes read (N, d)), at)

  pub none_read : length bytes ≤ most_input → AreReadAs form bytes [] false → StopsAt form bytes (fault.Bad 0)
  none_read short read N d = inr (short, input.none_read by form bytes read (N, d))

  stopped : length bytes ≤ most_input → (o : Option Cause) → input.StopsWith by form bytes o → StopsWith form bytes o
  stopped short None stop = tt
  stopped short (Some c) stop = λ N d. inr (short, stop (N, d))

  -- the first value is read
  module _ (values : Values) (v : Plain) (read : AreSoFar form bytes (v ∷ []) values) where
    module _ (ds : List Definition) (verdict : IsVerdict (text_in (event_of v)) (Some ds)) (s : RunState)
        (at : IsAt (beginning ds) s) where
      pub first_done : (now : RunState) → RunsAs s (λ N. after_value (doing N) 0 (event_of v)) now
          → IsDone form bytes 1 values now
      first_done now one =
          input.first_done by form bytes values v read ds verdict (λ r. IsAt r s) (λ i. at) (λ r. IsAt r now)
          (λ i. one i.0 i.1)

    -- the input is read on in some way
    module _ (short : length bytes ≤ most_input)
        (on : (ws : List Plain) × (whole : Bool) × AreReadAs form bytes (v ∷ ws) whole) where
      first_refused : IsVerdict (text_in (event_of v)) None → StopsAt form bytes (fault.Schema 0)
      first_refused refused N d = inr (short, input.first_refused by form bytes values v read on refused (N, d))

      -- the first value's schema can't be had, for this fault
      pub first_at_fault : (f : ScriptFault)
          → ((f ≡ fault.NoMemory → ⊥) → (f ≡ fault.Schema 0) × IsVerdict (text_in (event_of v)) None)
          → StopsAt form bytes f
      first_at_fault f told = by_told form bytes f (fault.Schema 0) _ told first_refused

      pub first_stops : (ds : List Definition) (s : RunState) → IsVerdict (text_in (event_of v)) (Some ds)
          → IsAt (beginning ds) s → (f : ScriptFault) → StopsAs s (λ N. after_value (doing N) 0 (event_of v)) f
          → StopsAt form bytes f
      first_stops ds s verdict at f one =
          stopped short (cause_in f) (input.first_stops by form bytes values v read on ds (cause_in f) verdict
          (λ i. one i.0 i.1 (beginning ds) at))

  -- value n is read
  module _ (n : ℕ) (values next : Values) (s : RunState) (v : Plain) (done : IsDone form bytes n values s)
      (read : (vs : List Plain) → AreSoFar form bytes vs values → AreSoFar form bytes (vs ++ v ∷ []) next) where
    pub is_few : n + 1 ≤ length bytes
    is_few = input.is_few by form bytes n values next (λ r. IsAt r s) v done read

    pub one_done : (now : RunState) → RunsAs s (λ N. after_value (doing N) n (event_of v)) now
        → IsDone form bytes (n + 1) next now
    one_done now one =
        input.one_done by form bytes n values next (λ r. IsAt r s) v done read (λ r. IsAt r now) (λ i. one i.0 i.1)

    -- the input is read on in some way
    module _ (short : length bytes ≤ most_input)
        (on : (vs : List Plain) → AreSoFar form bytes vs next
        → (ws : List Plain) × (whole : Bool) × AreReadAs form bytes (vs ++ ws) whole) where
      pub one_stops : (f : ScriptFault) → StopsAs s (λ N. after_value (doing N) n (event_of v)) f
          → StopsAt form bytes f
      one_stops f one =
          stopped short (cause_in f) (input.one_stops by form bytes n values next (λ r. IsAt r s) v done read on
          (cause_in f) (λ i. one i.0 i.1))

  -- no value is left
  module _ (n : ℕ) (values : Values) (s : RunState) (done : IsDone form bytes n values s)
      (short : length bytes ≤ most_input) where
    pub all_done : ((vs : List Plain) → AreSoFar form bytes vs values → AreReadAs form bytes vs true)
        → RanAs form bytes s
    all_done read N d =
        let r = input.all_done by form bytes n values (λ t. IsAt t s) done read (N, d) in
        (r.0, inr (short, r.1), r.2)

    pub cut_off : ((vs : List Plain) → AreSoFar form bytes vs values → AreReadAs form bytes vs false)
        → StopsAt form bytes (fault.Bad n)
    cut_off read N d = inr (short, input.cut_off by form bytes n values (λ t. IsAt t s) done read (N, d))

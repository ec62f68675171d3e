-- Courses: how the rest of one goes on with each part that is done, and how it ends or stops.
use Rattle.std.proofs.Common.{◌≡◌, ℕ, zero, suc, refl, sym, ap, ◌∙◌, subst, Option, Some, None}
use Rattle.hub_machine.specs.Replays.{lowest}
use Rattle.sc_script.specs.declared.faults.ScriptFault.{ScriptFault}
use Rattle.sc_script.specs.declared.faults.ScriptFault.TheVariants as fault
use Rattle.sc_script.specs.Runs.{Running, Course, goes, stops, goes_on, state_of, turned, turned_where, drained}
use Rattle.sc_script.specs.Keeping.{RunState, IsAt, HasRun, IsStopped}

-- the course as a whole goes on from the state in this way
abbrev pub GoesOn : Course → (Running → Course) → RunState → Type 0
GoesOn whole rest s = (r : Running) × IsAt r s × (whole ≡ rest r)

goes_from : (whole : Course) (later : Running → Course) (c : Course) (s : RunState) → whole ≡ goes_on later c
    → HasRun c s → GoesOn whole later s
goes_from whole later (goes r) s is h = (r, h, is)
goes_from whole later (stops c) s is h = absurd h

stops_from : (whole : Course) (later : Running → Course) (c : Course) (f : ScriptFault) → whole ≡ goes_on later c
    → IsStopped c f → IsStopped whole f
stops_from whole later c (fault.Bad n) is h = is ∙ ap (goes_on later) h
stops_from whole later c (fault.Limit w) is h = is ∙ ap (goes_on later) h
stops_from whole later c (fault.Schema n) is h = is ∙ ap (goes_on later) h
stops_from whole later c fault.NoMemory is h = tt

module _ (whole : Course) (rest : Running → Course) (s : RunState) (g : GoesOn whole rest s) where
  pub course_ends : ((r : Running) → IsAt r s → rest r ≡ goes r) → HasRun whole s
  course_ends is = subst (λ c. HasRun c s) (sym (g.2 ∙ is g.0 g.1)) g.1

  -- by a first part of what is left
  module _ (part later : Running → Course) (is : (r : Running) → IsAt r s → rest r ≡ goes_on later (part r)) where
    pub part_goes : (now : RunState) → ((r : Running) → IsAt r s → HasRun (part r) now) → GoesOn whole later now
    part_goes now next = goes_from whole later (part g.0) now (g.2 ∙ is g.0 g.1) (next g.0 g.1)

    pub part_stops : (f : ScriptFault) → ((r : Running) → IsAt r s → IsStopped (part r) f) → IsStopped whole f
    part_stops f next = stops_from whole later (part g.0) f (g.2 ∙ is g.0 g.1) (next g.0 g.1)

-- ---- turns of a drain

lowest_at : (r : Running) (s : RunState) (a : Option ℕ) → lowest s.state ≡ a → IsAt r s → lowest (state_of r) ≡ a
lowest_at r s a is at = ap lowest (sym at.state) ∙ is

pub lowest_of : {s t : RunState} → s ≡ t → lowest t.state ≡ lowest s.state
lowest_of is = ap (λ s. lowest s.state) (sym is)

pub turn_first : (m k a : ℕ) (s : RunState) → m ≡ suc k → lowest s.state ≡ Some a → (r : Running) → IsAt r s
    → drained m r ≡ goes_on (drained k) (turned a r)
turn_first m k a s more is r at =
    ap (λ i. drained i r) more
    ∙ ap (λ o. goes_on (drained k) (turned_where o r)) (lowest_at r s (Some a) is at)

none_left : (m : ℕ) (r : Running) → lowest (state_of r) ≡ None → drained m r ≡ goes r
none_left zero r h = refl
none_left (suc m) r h = ap (λ o. goes_on (drained m) (turned_where o r)) h ∙ none_left m r h

pub drain_ends : (m : ℕ) (s : RunState) → lowest s.state ≡ None → (r : Running) → IsAt r s
    → drained m r ≡ goes r
drain_ends m s is r at = none_left m r (lowest_at r s None is at)

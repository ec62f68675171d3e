-- The course of an input: its values are judged one after another, under the schema that the first one gives, up to the
-- end or the first cause that stops it. What is done with each event is told from above.
use Rattle.std.specs.Prelude.{◌≡◌, ℕ, ◌+◌, List, [], ◌∷◌, length, Bool, Option, Some, None, if◌then◌else◌}
use Rattle.pv_value.specs.Plain.{Plain}
use Rattle.ps_schema.specs.declared.Definition.{Definition}
use Rattle.sc_events.specs.declared.inputs.Form.{Form}
use Rattle.sc_events.specs.declared.events.ScriptEvent.{ScriptEvent}
use Rattle.sc_events.specs.Events.{event_of}
use Rattle.sc_events.specs.Readings.{AreReadAs}
use Rattle.sc_schema.specs.Firsts.{first_text, IsVerdict}

-- it goes as far as this, or stops for a cause
pub data CourseOf (S C : Type 0) : Type 0 where
  goes : (s : S) → CourseOf S C
  stops : (c : C) → CourseOf S C

-- one part after another
abbrev pub goes_on : {S C : Type 0} → (S → CourseOf S C) → CourseOf S C → CourseOf S C
goes_on more (goes s) = more s
goes_on more (stops c) = stops c

-- what is done: from where, under a schema; with an event that has this number; and the causes for which a value with
-- this number is none, or no event, and for which the first one gives what is no schema
pub record Doing (S C : Type 0) : Type 0 where
  pub beginning : List Definition → S
  pub after_event : ℕ → ScriptEvent → S → CourseOf S C
  pub bad : ℕ → C
  pub no_schema : C

abbrev pub after_value : {S C : Type 0} → Doing S C → ℕ → Option ScriptEvent → S → CourseOf S C
after_value d n None s = stops (d.bad n)
after_value d n (Some e) s = d.after_event n e s

-- the values from number n on
abbrev pub after_values : {S C : Type 0} → Doing S C → ℕ → List Plain → S → CourseOf S C
after_values d n [] s = goes s
after_values d n (v ∷ vs) s = goes_on (after_values d (n + 1) vs) (after_value d n (event_of v) s)

-- behind the values comes the end of the input, or what is no value
abbrev pub ended : {S C : Type 0} → Doing S C → Bool → ℕ → S → CourseOf S C
ended d whole n s = if whole then goes s else stops (d.bad n)

-- the course of all values, where the first one, if it gives a schema, gives this one
abbrev pub course_of : {S C : Type 0} → Doing S C → Option (List Definition) → List Plain → Bool → CourseOf S C
course_of d None vs whole = stops d.no_schema
course_of d (Some ds) vs whole = goes_on (ended d whole (length vs)) (after_values d 0 vs (d.beginning ds))

-- the values of the input have this course
abbrev pub IsCourseOfValues : {S C : Type 0} → Doing S C → Form → List ℕ → CourseOf S C → Type 0
IsCourseOfValues d form bytes c =
    (vs : List Plain) × (whole : Bool) × AreReadAs form bytes vs whole
    × (o : Option (List Definition)) × IsVerdict (first_text vs) o × (c ≡ course_of d o vs whole)

-- ---- what is promised of a course

-- it goes to where this holds
abbrev pub GoesTo : {S C : Type 0} → (S → Type 0) → CourseOf S C → Type 0
GoesTo Is (goes s) = Is s
GoesTo Is (stops c) = ⊥

-- it stops for this cause; of no cause nothing is said
abbrev pub StopsFor : {S C : Type 0} → CourseOf S C → Option C → Type 0
StopsFor course None = Unit {0}
StopsFor course (Some c) = course ≡ stops c

-- An input whose values are read and done one by one: how its course goes on with each, and how it ends or stops. Several
-- ways of doing them may be promised at once, which differ in what decides.
use Rattle.std.proofs.Common.{◌≡◌, ℕ, ◌+◌, ◌≤◌, Bool, true, false, List, [], ◌∷◌, ◌++◌, length, Option, Some, None}
use Rattle.std.proofs.Common.{refl, sym, ap, ◌∙◌, subst, arith, length-append}
use Rattle.pv_value.specs.Plain.{Plain}
use Rattle.ps_schema.specs.declared.Definition.{Definition}
use Rattle.sc_events.specs.declared.inputs.Form.{Form}
use Rattle.sc_events.specs.declared.inputs.Values.{Values}
use Rattle.sc_events.specs.Events.{event_of}
use Rattle.sc_events.specs.Readings.{AreReadAs}
use Rattle.sc_events.specs.SoFar.{AreSoFar}
use Rattle.sc_events.specs.Lemmas.Reading.{few_so_far}
use Rattle.sc_schema.specs.Firsts.{text_in, first_text, IsVerdict}
use Rattle.sc_schema.specs.Courses.{CourseOf, goes, stops, goes_on, Doing, after_value, after_values, ended, course_of}
use Rattle.sc_schema.specs.Courses.{IsCourseOfValues, GoesTo, StopsFor}
use Rattle.sc_schema.specs.Lemmas.Courses.{in_parts, one_alone, one_more}

-- the first value stays the first
first_stays : (vs ws : List Plain) → 1 ≤ length vs → first_text (vs ++ ws) ≡ first_text vs
first_stays [] ws some = absurd (omega (arith, some))
first_stays (v ∷ vs) ws some = refl

module _ {S C : Type 0} where
  part_goes : (part : S → CourseOf S C) (c : CourseOf S C) (Is Now : S → Type 0) → GoesTo Is c
      → ((s : S) → Is s → GoesTo Now (part s)) → GoesTo Now (goes_on part c)
  part_goes part (goes s) Is Now at next = next s at
  part_goes part (stops c) Is Now at next = absurd at

  part_stops : (part : S → CourseOf S C) (c : CourseOf S C) (Is : S → Type 0) (o : Option C) → GoesTo Is c
      → ((s : S) → Is s → StopsFor (part s) o) → StopsFor (goes_on part c) o
  part_stops part (goes s) Is o at next = next s at
  part_stops part (stops c) Is o at next = absurd at

module _ {I S C : Type 0} (does : I → Doing S C) (form : Form) (bytes : List ℕ) where
  -- the input stops for this cause, in whichever way it is done; of no cause nothing is said
  abbrev pub StopsWith : Option C → Type 0
  StopsWith None = Unit {0}
  StopsWith (Some c) = (i : I) → IsCourseOfValues (does i) form bytes (stops c)

  -- so many values of the input are read and done, one at least, under the schema that the first one gives
  pub record IsDone (place : ℕ) (values : Values) (Is : S → Type 0) : Type 0 where
    pub vs : List Plain
    pub some : 1 ≤ length vs
    pub counted : place ≡ length vs
    pub read : AreSoFar form bytes vs values
    pub schema : List Definition
    pub verdict : IsVerdict (first_text vs) (Some schema)
    pub goes : (i : I) → GoesTo Is (after_values (does i) 0 vs ((does i).beginning schema))

  -- no value is there
  pub none_there : AreReadAs form bytes [] true → (i : I)
      → IsCourseOfValues (does i) form bytes (goes ((does i).beginning []))
  none_there read i = ([], true, read, Some [], refl, refl)

  pub none_read : AreReadAs form bytes [] false → (i : I)
      → IsCourseOfValues (does i) form bytes (stops ((does i).bad 0))
  none_read read i = ([], false, read, Some [], refl, refl)

  -- the first value is read
  module _ (values : Values) (v : Plain) (read : AreSoFar form bytes (v ∷ []) values) where
    pub is_first : 1 ≤ length bytes
    is_first = omega (arith, few_so_far form bytes (v ∷ []) values read)

    module _ (ds : List Definition) (verdict : IsVerdict (text_in (event_of v)) (Some ds)) (Is : S → Type 0)
        (at : (i : I) → Is ((does i).beginning ds)) where
      pub first_done : (Now : S → Type 0)
          → ((i : I) (s : S) → Is s → GoesTo Now (after_value (does i) 0 (event_of v) s)) → IsDone 1 values Now
      first_done Now one = record {
        vs = v ∷ [];
        some = omega arith;
        counted = refl;
        read = read;
        schema = ds;
        verdict = verdict;
        goes = λ i. subst (GoesTo Now) (sym (one_alone (does i) 0 v ((does i).beginning ds)))
            (one i ((does i).beginning ds) (at i));
      }

    -- the input is read on in some way
    module _ (on : (ws : List Plain) × (whole : Bool) × AreReadAs form bytes (v ∷ ws) whole) where
      pub first_refused : IsVerdict (text_in (event_of v)) None → (i : I)
          → IsCourseOfValues (does i) form bytes (stops (does i).no_schema)
      first_refused refused i = (v ∷ on.0, on.1, on.2, None, refused, refl)

      pub first_stops : (ds : List Definition) (o : Option C) → IsVerdict (text_in (event_of v)) (Some ds)
          → ((i : I) → StopsFor (after_value (does i) 0 (event_of v) ((does i).beginning ds)) o) → StopsWith o
      first_stops ds None verdict stop = tt
      first_stops ds (Some c) verdict stop = λ i.
          let is : after_values (does i) 0 (v ∷ on.0) ((does i).beginning ds) ≡ stops c =
          ap (goes_on (after_values (does i) 1 on.0)) (stop i) in (
            v ∷ on.0,
            on.1,
            on.2,
            Some ds,
            verdict,
            sym (ap (goes_on (ended (does i) on.1 (length (v ∷ on.0)))) is),
          )

  -- value n is read
  module _ (n : ℕ) (values next : Values) (Is : S → Type 0) (v : Plain) (done : IsDone n values Is)
      (read : (vs : List Plain) → AreSoFar form bytes vs values → AreSoFar form bytes (vs ++ v ∷ []) next) where
    abbrev all : List Plain
    all = done.vs ++ v ∷ []

    abbrev begin : I → S
    begin i = (does i).beginning done.schema

    all_counted : n + 1 ≡ length all
    all_counted = omega (arith, length-append done.vs (v ∷ []), done.counted)

    pub is_few : n + 1 ≤ length bytes
    is_few = omega (arith, few_so_far form bytes all next (read done.vs done.read), all_counted)

    pub one_done : (Now : S → Type 0)
        → ((i : I) (s : S) → Is s → GoesTo Now (after_value (does i) n (event_of v) s)) → IsDone (n + 1) next Now
    one_done Now one = record {
      vs = all;
      some = omega (arith, length-append done.vs (v ∷ []));
      counted = all_counted;
      read = read done.vs done.read;
      schema = done.schema;
      verdict = subst (λ t. IsVerdict t (Some done.schema)) (sym (first_stays done.vs (v ∷ []) done.some)) done.verdict;
      goes = λ i. subst (GoesTo Now) (sym (one_more (does i) n done.vs v (begin i) done.counted))
          (part_goes (after_value (does i) n (event_of v)) (after_values (does i) 0 done.vs (begin i)) Is Now
          (done.goes i) (one i));
    }

    -- the input is read on in some way
    module _ (on : (vs : List Plain) → AreSoFar form bytes vs next
        → (ws : List Plain) × (whole : Bool) × AreReadAs form bytes (vs ++ ws) whole) where
      stops_there : (o : Option C) → ((i : I) → StopsFor (after_values (does i) 0 all (begin i)) o) → StopsWith o
      stops_there None stop = tt
      stops_there (Some c) stop = λ i.
          let r = on all (read done.vs done.read) in
          let us = all ++ r.0 in
          let is : after_values (does i) 0 us (begin i) ≡ stops c =
          in_parts (does i) 0 all r.0 (begin i)
          ∙ ap (goes_on (after_values (does i) (0 + length all) r.0)) (stop i) in
          let first : first_text us ≡ first_text done.vs =
          first_stays all r.0 (omega (arith, length-append done.vs (v ∷ [])))
          ∙ first_stays done.vs (v ∷ []) done.some in (
            us,
            r.1,
            r.2,
            Some done.schema,
            subst (λ t. IsVerdict t (Some done.schema)) (sym first) done.verdict,
            sym (ap (goes_on (ended (does i) r.1 (length us))) is),
          )

      pub one_stops : (o : Option C)
          → ((i : I) (s : S) → Is s → StopsFor (after_value (does i) n (event_of v) s) o) → StopsWith o
      one_stops o one = stops_there o (λ i.
          subst (λ c. StopsFor c o) (sym (one_more (does i) n done.vs v (begin i) done.counted))
          (part_stops (after_value (does i) n (event_of v)) (after_values (does i) 0 done.vs (begin i)) Is o
          (done.goes i) (one i)))

  -- no value is left
  module _ (n : ℕ) (values : Values) (Is : S → Type 0) (done : IsDone n values Is) where
    abbrev begun : I → S
    begun i = (does i).beginning done.schema

    ends_at : (i : I) (c : CourseOf S C) → AreReadAs form bytes done.vs true
        → after_values (does i) 0 done.vs (begun i) ≡ c → GoesTo Is c
        → (s : S) × IsCourseOfValues (does i) form bytes (goes s) × Is s
    ends_at i (goes s) read is at = (
      s,
      (
        done.vs,
        true,
        read,
        Some done.schema,
        done.verdict,
        sym (ap (goes_on (ended (does i) true (length done.vs))) is),
      ),
      at,
    )
    ends_at i (stops c) read is at = absurd at

    pub all_done : ((vs : List Plain) → AreSoFar form bytes vs values → AreReadAs form bytes vs true) → (i : I)
        → (s : S) × IsCourseOfValues (does i) form bytes (goes s) × Is s
    all_done read i =
        ends_at i (after_values (does i) 0 done.vs (begun i)) (read done.vs done.read) refl (done.goes i)

    bad_behind : (i : I) (c : CourseOf S C) → after_values (does i) 0 done.vs (begun i) ≡ c → GoesTo Is c
        → stops ((does i).bad n) ≡ course_of (does i) (Some done.schema) done.vs false
    bad_behind i (goes s) is at =
        ap (λ m. stops ((does i).bad m)) done.counted
        ∙ sym (ap (goes_on (ended (does i) false (length done.vs))) is)
    bad_behind i (stops c) is at = absurd at

    pub cut_off : ((vs : List Plain) → AreSoFar form bytes vs values → AreReadAs form bytes vs false) → (i : I)
        → IsCourseOfValues (does i) form bytes (stops ((does i).bad n))
    cut_off read i = (
      done.vs,
      false,
      read done.vs done.read,
      Some done.schema,
      done.verdict,
      bad_behind i (after_values (does i) 0 done.vs (begun i)) refl (done.goes i),
    )

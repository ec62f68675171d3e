-- What is kept of an input decides what comes of all of it.
use Rattle.std.proofs.Common.{ℕ, ◌+◌, ◌<◌, ◌≤◌, List, length, inl, inr, subst, arith}
use Rattle.std.proofs.lemmas.List.{take_all, length-take}
use Rattle.pv_value.specs.Plain.{Plain}
use Rattle.rl_stream.specs.Nexts.{Decider}
use Rattle.sc_events.specs.Limits.{most_input}
use Rattle.sc_events.specs.declared.inputs.Form.{Form as Input}
use Rattle.sc_events.specs.declared.inputs.Form.TheVariants as input
use Rattle.sc_schema.specs.Courses.{IsCourseOfValues}
use Rattle.sc_script.specs.Runs.{Cause, Course, bad, limit, config, goes, stops, doing}
use Rattle.sc_script.specs.Scripts.{IsCourseOf}
use Rattle.dsd_top.specs.Forms.{in_form, verdict_by}
use Rattle.dsd_top.specs.Inputs.{kept_of}
use Rattle.dsd_top.specs.Makings.{IsReported, StopsFor, IsMadeOf, IsMalformedAt, IsTooLong, PassesLimit, IsUnschemedAt}
use Rattle.dsd_top.specs.Values.{IsBadAt, AreMade}
use Rattle.dsd_top.specs.Works.{IsAnswerBy, IsCauseBy, IsUnmadeFor, IsUnjudgedFor}
use Rattle.dsd_top.specs.declared.answers.Work.{Work}
use Rattle.dsd_top.specs.declared.answers.Work.TheVariants as work
use Rattle.dsd_top.specs.declared.faults.Fault.{Fault}
use Rattle.dsd_top.specs.declared.faults.Fault.TheVariants as fault
use Rattle.dsd_top.specs.declared.forms.Form.{Form}
use Rattle.dsd_top.specs.declared.forms.Form.TheVariants as form
use Rattle.dsd_top.specs.declared.words.Making.{Making}
use Rattle.dsd_top.specs.declared.words.Making.TheVariants.{Run, RunText, CanonicalForms, Printed, Written}

module _ (bytes : List ℕ) where
  -- where a byte too many is kept, all of it has too many
  long : most_input < length (kept_of bytes) → most_input < length bytes
  long more = omega (arith, length-take (most_input + 1) bytes, more)

  -- else all of it is kept: so what is said of what isn't too long stands of all of it
  whole : (P : List ℕ → Type 0) → length (kept_of bytes) ≤ most_input → P (kept_of bytes) → P bytes
  whole P few h =
      let short : length bytes ≤ most_input + 1 = omega (arith, length-take (most_input + 1) bytes, few) in
      subst P (take_all (most_input + 1) bytes short) h

  -- ---- values

  made : (input : Input) (make : Plain → List ℕ) (out : List ℕ) → AreMade input make (kept_of bytes) out
      → AreMade input make bytes out
  made input make out h = whole (λ b. AreMade input make b out) h.0 h

  bad_at : (input : Input) (n : ℕ) → IsBadAt input (kept_of bytes) n → IsBadAt input bytes n
  bad_at input n h = whole (λ b. IsBadAt input b n) h.0 h

  too_long : (w : ℕ) → IsTooLong (kept_of bytes) w → IsTooLong bytes w
  too_long w h = (h.0, long h.1)

  -- ---- scripts

  course : (N : Decider) (input : Input) (c : Course) → IsCourseOf N input (kept_of bytes) c
      → IsCourseOf N input bytes c
  course N input c (inl h) = inl (long h.0, h.1)
  course N input c (inr h) =
      inr (whole (λ b. (length b ≤ most_input) × IsCourseOfValues (doing N) input b c) h.0 h)

  stopped : (input : Input) (c : Cause) → StopsFor input (kept_of bytes) c → StopsFor input bytes c
  stopped input c h = λ N d. course N input (stops c) (h N d)

  reported : (input : Input) (form : Form) (out : List ℕ) → IsReported input form (kept_of bytes) out
      → IsReported input form bytes out
  reported input form out h = λ N d. let r = h N d in (r.0, course N input (goes r.0) r.1, r.2, r.3)

  -- ---- what is made, and why nothing is

  made_of : (m : Making) (out : List ℕ) → IsMadeOf m (kept_of bytes) out → IsMadeOf m bytes out
  made_of Run out h = reported input.Binary form.Written out h
  made_of RunText out h = reported input.Text form.Printed out h
  made_of CanonicalForms out h = made input.Binary (in_form form.Canonical) out h
  made_of Printed out h = made input.Binary (in_form form.Printed) out h
  made_of Written out h = made input.Text (in_form form.Written) out h

  malformed : (m : Making) (n : ℕ) → IsMalformedAt m (kept_of bytes) n → IsMalformedAt m bytes n
  malformed Run n h = stopped input.Binary (bad n) h
  malformed RunText n h = stopped input.Text (bad n) h
  malformed CanonicalForms n h = bad_at input.Binary n h
  malformed Printed n h = bad_at input.Binary n h
  malformed Written n h = bad_at input.Text n h

  passing : (m : Making) (w : ℕ) → PassesLimit m (kept_of bytes) w → PassesLimit m bytes w
  passing Run w h = stopped input.Binary (limit w) h
  passing RunText w h = stopped input.Text (limit w) h
  passing CanonicalForms w h = too_long w h
  passing Printed w h = too_long w h
  passing Written w h = too_long w h

  unschemed : (m : Making) (n : ℕ) → IsUnschemedAt m (kept_of bytes) n → IsUnschemedAt m bytes n
  unschemed Run n h = stopped input.Binary (config n) h
  unschemed RunText n h = stopped input.Text (config n) h
  unschemed CanonicalForms n h = h
  unschemed Printed n h = h
  unschemed Written n h = h

  unmade : (m : Making) (f : Fault) → IsUnmadeFor m (kept_of bytes) f → IsUnmadeFor m bytes f
  unmade m (fault.BadInput n) h = malformed m n h
  unmade m fault.BadWords h = h
  unmade m fault.ReadFailed h = h
  unmade m fault.WriteFailed h = h
  unmade m fault.NoMemory h = tt
  unmade m (fault.Limit w) h = passing m w h
  unmade m (fault.BadConfig n) h = unschemed m n h

  unjudged : (f : Fault) → IsUnjudgedFor (kept_of bytes) f → IsUnjudgedFor bytes f
  unjudged (fault.BadInput n) h = bad_at input.Text n h
  unjudged fault.BadWords h = h
  unjudged fault.ReadFailed h = h
  unjudged fault.WriteFailed h = h
  unjudged fault.NoMemory h = tt
  unjudged (fault.Limit w) h = too_long w h
  unjudged (fault.BadConfig n) h = h

  -- ---- works

  pub answer_of_all : (w : Work) (out : List ℕ) → IsAnswerBy w (kept_of bytes) out → IsAnswerBy w bytes out
  answer_of_all (work.Make m) out h = made_of m out h
  answer_of_all (work.Judge ds name) out h = made input.Text (verdict_by ds name.now) out h

  pub cause_of_all : (w : Work) (f : Fault) → IsCauseBy w (kept_of bytes) f → IsCauseBy w bytes f
  cause_of_all (work.Make m) f h = unmade m f h
  cause_of_all (work.Judge ds name) f h = unjudged f h

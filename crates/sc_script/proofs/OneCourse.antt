-- An input has some course, and one: its length is looked at first.
use Rattle.std.proofs.Common.{◌≡◌, ℕ, List, length, inl, inr, refl, sym, ◌∙◌, arith}
use Rattle.std.proofs.lemmas.Bool.Decides.{leb_tells}
use Rattle.pv_binary.specs.OneOfThree.{AreBytes}
use Rattle.rl_stream.specs.Nexts.{Decider}
use Rattle.sc_events.specs.Limits.{most_input}
use Rattle.sc_events.specs.declared.inputs.Form.{Form}
use Rattle.sc_schema.specs.Firsts.{HasFirstVerdict, OneVerdict, SomeVerdict}
use Rattle.sc_schema.specs.Lemmas.Courses as values
use Rattle.sc_schema.specs.Lemmas.Courses.{IsSomeReading, IsOneReading}
use Rattle.sc_script.specs.Runs.{Course, limit, stops, doing}
use Rattle.sc_script.specs.Scripts.{IsCourseOf}

pub some_course : IsSomeReading → SomeVerdict → (N : Decider) (form : Form) (bytes : List ℕ) → AreBytes bytes
    → HasFirstVerdict form bytes → (c : Course) × IsCourseOf N form bytes c
some_course some verdict N form bytes are has = elim (leb_tells (length bytes) most_input) [
  | inl l ↦ let c = values.some_course (doing N) form bytes some verdict are has in (c.0, inr (l.1, c.1))
  | inr l ↦ (stops (limit 1), inl (l.1, refl))
]

pub same_course : IsOneReading → OneVerdict → (N : Decider) (form : Form) (bytes : List ℕ)
    (c d : Course) → IsCourseOf N form bytes c → IsCourseOf N form bytes d → c ≡ d
same_course one verdict N form bytes c d (inl p) (inl q) = p.1 ∙ sym q.1
same_course one verdict N form bytes c d (inl p) (inr q) = absurd (omega (arith, p.0, q.0))
same_course one verdict N form bytes c d (inr p) (inl q) = absurd (omega (arith, p.0, q.0))
same_course one verdict N form bytes c d (inr p) (inr q) =
    values.same_course (doing N) form bytes one verdict c d p.1 q.1

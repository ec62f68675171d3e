-- Courses in parts, and that an input has some course, and one.
use Rattle.std.proofs.Common.{◌≡◌, ℕ, ◌+◌, List, [], ◌∷◌, ◌++◌, length, Bool}
use Rattle.std.proofs.Common.{refl, sym, ap, ◌∙◌, subst, arith}
use Rattle.pv_value.specs.Plain.{Plain}
use Rattle.pv_binary.specs.OneOfThree.{AreBytes}
use Rattle.sc_events.specs.declared.inputs.Form.{Form}
use Rattle.sc_events.specs.Events.{event_of}
use Rattle.sc_events.specs.Readings.{AreReadAs}
use Rattle.sc_schema.specs.Firsts.{first_text, IsVerdict, HasFirstVerdict, OneVerdict, SomeVerdict}
use Rattle.sc_schema.specs.Courses.{CourseOf, goes, stops, goes_on, Doing, after_value, after_values, course_of}
use Rattle.sc_schema.specs.Courses.{IsCourseOfValues}

module _ {S C : Type 0} where
  goes_with : (last later more : S → CourseOf S C) (c : CourseOf S C)
      → ((s : S) → more s ≡ goes_on last (later s)) → goes_on more c ≡ goes_on last (goes_on later c)
  goes_with last later more (goes s) same = same s
  goes_with last later more (stops c) same = refl

  goes_no_further : (more : S → CourseOf S C) (c : CourseOf S C) → ((s : S) → more s ≡ goes s) → goes_on more c ≡ c
  goes_no_further more (goes s) same = same s
  goes_no_further more (stops c) same = refl

  goes_so : (more later : S → CourseOf S C) (c : CourseOf S C) → ((s : S) → more s ≡ later s)
      → goes_on more c ≡ goes_on later c
  goes_so more later (goes s) same = same s
  goes_so more later (stops c) same = refl

  module _ (d : Doing S C) where
    pub in_parts : (n : ℕ) (vs ws : List Plain) (s : S)
        → after_values d n (vs ++ ws) s ≡ goes_on (after_values d (n + length vs) ws) (after_values d n vs s)
    in_parts n [] ws s = let none : n ≡ n + 0 = omega arith in ap (λ m. after_values d m ws s) none
    in_parts n (v ∷ vs) ws s =
        let all : (n + 1) + length vs ≡ n + length (v ∷ vs) = omega arith in
        goes_with (after_values d (n + length (v ∷ vs)) ws) (after_values d (n + 1) vs)
        (after_values d (n + 1) (vs ++ ws)) (after_value d n (event_of v) s)
        (λ t. in_parts (n + 1) vs ws t ∙ ap (λ m. goes_on (after_values d m ws) (after_values d (n + 1) vs t)) all)

    pub one_alone : (n : ℕ) (v : Plain) (s : S) → after_values d n (v ∷ []) s ≡ after_value d n (event_of v) s
    one_alone n v s = goes_no_further (after_values d (n + 1) []) (after_value d n (event_of v) s) (λ t. refl)

    pub one_more : (n : ℕ) (vs : List Plain) (v : Plain) (s : S) → n ≡ length vs
        → after_values d 0 (vs ++ v ∷ []) s ≡ goes_on (after_value d n (event_of v)) (after_values d 0 vs s)
    one_more n vs v s counted =
        let at : 0 + length vs ≡ n = omega arith in
        let last : (m : ℕ) → 0 + length vs ≡ m → after_values d 0 (vs ++ v ∷ []) s
        ≡ goes_on (after_values d m (v ∷ [])) (after_values d 0 vs s) =
        λ m is. in_parts 0 vs (v ∷ []) s ∙ ap (λ k. goes_on (after_values d k (v ∷ [])) (after_values d 0 vs s)) is in
        last n at
        ∙ goes_so (after_values d n (v ∷ [])) (after_value d n (event_of v)) (after_values d 0 vs s) (one_alone n v)

-- ---- an input has some course, and one, where it is read in some way, and in one

abbrev pub IsSomeReading : Type 0
IsSomeReading =
    (form : Form) (bytes : List ℕ) → AreBytes bytes → (vs : List Plain) × (whole : Bool) × AreReadAs form bytes vs whole

abbrev pub IsOneReading : Type 0
IsOneReading =
    (form : Form) (bytes : List ℕ) (vs ws : List Plain) (a b : Bool) → AreReadAs form bytes vs a
    → AreReadAs form bytes ws b → (vs ≡ ws) × (a ≡ b)

module _ {S C : Type 0} (d : Doing S C) (form : Form) (bytes : List ℕ) where
  pub some_course : IsSomeReading → SomeVerdict → AreBytes bytes → HasFirstVerdict form bytes
      → (c : CourseOf S C) × IsCourseOfValues d form bytes c
  some_course some verdict are has =
      let r = some form bytes are in
      let v = verdict (first_text r.0) (has r.0 r.1 r.2) in
      (course_of d v.0 r.0 r.1, (r.0, r.1, r.2, v.0, v.1, refl))

  pub same_course : IsOneReading → OneVerdict → (c e : CourseOf S C) → IsCourseOfValues d form bytes c
      → IsCourseOfValues d form bytes e → c ≡ e
  same_course one verdict c e p q =
      let r = one form bytes p.0 q.0 p.1 q.1 p.2 q.2 in
      let so : IsVerdict (first_text p.0) q.3 = subst (λ vs. IsVerdict (first_text vs) q.3) (sym r.0) q.4 in
      let v = verdict (first_text p.0) p.3 q.3 p.4 so in
      p.5 ∙ (λ i. course_of d (v i) (r.0 i) (r.1 i)) ∙ sym q.5

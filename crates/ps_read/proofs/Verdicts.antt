-- There is one way to read a text as values, and so as a schema.
use Rattle.std.proofs.Common.{◌≡◌, ℕ, List, [], ◌∷◌, Ok, Err, Result, false, length, refl, sym, ap, ◌∙◌, subst}
use Rattle.std.proofs.Common.{inl, inr}
use Rattle.pv_value.specs.Plain.{Plain}
use Rattle.pv_read.specs.Leading.{LeadsOver}
use Rattle.pv_read.specs.Results.{Fault}
use Rattle.pv_lex.specs.Gaps.{IsLastGap}
use Rattle.pv_lex.specs.declared.faults.TextKind.{TextKind}
use Rattle.pv_text.specs.Reads.{LeadsTo, NextStops, AreValuesOf}
use Rattle.pv_text.specs.OneWay.{OneWayHolds}
use Rattle.ps_schema.specs.Laws.{RefusedIsNone}
use Rattle.ps_schema.specs.Schemas.{IsSchema}
use Rattle.ps_schema.specs.declared.Definition.{Definition}
use Rattle.ps_schema.specs.declared.faults.SchemaFault.{SchemaFault as MadeFault}
use Rattle.ps_schema.specs.declared.faults.SchemaFault.TheVariants as m
use Rattle.ps_read.specs.Answers.{IsSchemaOf, WriteRefused}
use Rattle.ps_read.specs.Clauses.{definitions_of}
use Rattle.ps_read.specs.Laws.{OneSchema, NoFaultBeside}
use Rattle.ps_read.specs.declared.faults.Misfit.{Misfit}
use Rattle.ps_read.specs.declared.faults.SchemaFault.TheVariants as f

abbrev OneWay : Type 0
OneWay = (total : ℕ) (bytes : List ℕ) → OneWayHolds total bytes

abbrev Leads : List ℕ → List Plain → List ℕ → Type 0
Leads text vs rest = LeadsOver LeadsTo text vs rest

-- ---- values

same_values : OneWay → (text : List ℕ) (vs ws : List Plain) (r s : List ℕ) → Leads text vs r → IsLastGap false r
    → Leads text ws s → IsLastGap false s → vs ≡ ws
same_values one text [] [] r s a g b h = refl
same_values one text [] (w ∷ ws) r s a g b h =
    absurd ((one 0 text).1.end_and_value (subst (IsLastGap false) (sym a) g) (w, b.0, b.1))
same_values one text (v ∷ vs) [] r s a g b h =
    absurd ((one 0 text).1.end_and_value (subst (IsLastGap false) (sym b) h) (v, a.0, a.1))
same_values one text (v ∷ vs) (w ∷ ws) r s a g b h =
    let e = (one 0 text).2.value v w a.0 b.0 a.1 b.1 in
    let d : vs ≡ ws = same_values one a.0 vs ws r s a.2 g (subst (λ (t : List ℕ). Leads t ws s) (sym e.1) b.2) h in
    λ i. e.0 i ∷ d i

never_stops : OneWay → (total : ℕ) (text : List ℕ) (vs ws : List Plain) (r s : List ℕ) (k : Fault TextKind)
    → Leads text vs r → IsLastGap false r → Leads text ws s → NextStops total s k → ⊥
never_stops one total text [] [] r s k a g b h = h.0 (subst (IsLastGap false) (sym a ∙ b) g)
never_stops one total text [] (w ∷ ws) r s k a g b h =
    (one total text).1.end_and_value (subst (IsLastGap false) (sym a) g) (w, b.0, b.1)
never_stops one total text (v ∷ vs) [] r s k a g b h =
    (one total text).1.value_and_fault (v, a.0, a.1) (k, subst (λ (t : List ℕ). NextStops total t k) (sym b) h)
never_stops one total text (v ∷ vs) (w ∷ ws) r s k a g b h =
    let e = (one total text).2.value v w a.0 b.0 a.1 b.1 in
    never_stops one total a.0 vs ws r s k a.2 g (subst (λ (t : List ℕ). Leads t ws s) (sym e.1) b.2) h

are_same : OneWay → (text : List ℕ) (vs ws : List Plain) → AreValuesOf text vs → AreValuesOf text ws → vs ≡ ws
are_same one text vs ws a b = same_values one text vs ws a.1.0 b.1.0 a.1.1 a.1.2 b.1.1 b.1.2

-- ---- schemas

same_answer : OneWay → (text : List ℕ) (vs ws : List Plain) (x y : Result (List Definition) Misfit)
    → AreValuesOf text vs → AreValuesOf text ws → definitions_of vs ≡ x → definitions_of ws ≡ y → x ≡ y
same_answer one text vs ws x y a b d e = sym d ∙ ap definitions_of (are_same one text vs ws a b) ∙ e

abbrev fine : List Definition → Result (List Definition) Misfit
fine ds = Ok ds

fine_same : (ds es : List Definition) → fine ds ≡ fine es → ds ≡ es
fine_same ds es e = cc

inside : (ds es : List Definition) (x y : Result (List Definition) Misfit) → x ≡ y → x ≡ Ok ds → y ≡ Ok es → ds ≡ es
inside ds es x y h a b = fine_same ds es (sym a ∙ h ∙ b)

no_misfit : (ds : List Definition) (n : Misfit) → Ok ds ≡ Err n → ⊥
no_misfit ds n e = absurd cc

pub one_schema : OneWay → OneSchema
one_schema one text ds es a b =
    inside ds es (definitions_of a.0) (definitions_of b.0)
    (same_answer one text a.0 b.0 (definitions_of a.0) (definitions_of b.0) a.1 b.1 refl refl) a.2.0 b.2.0

-- what is refused is no schema
not_refused : OneWay → RefusedIsNone → (text : List ℕ) (ds : List Definition) (vs : List Plain) (e : MadeFault)
    → (e ≡ m.NoMemory → ⊥) → IsSchemaOf text ds → AreValuesOf text vs → WriteRefused vs e → ⊥
not_refused one law text ds vs e n a b w =
    law w.0 e n w.2 (subst IsSchema
    (inside ds w.0 (Ok ds) (Ok w.0) (same_answer one text a.0 vs (Ok ds) (Ok w.0) a.1 b a.2.0 w.1) refl refl) a.2.1)

pub no_fault_beside : OneWay → RefusedIsNone → NoFaultBeside
no_fault_beside one law text ds f.NoMemory n a b = n refl
no_fault_beside one law text ds (f.Text k p) n a (inl b) = b.0 a.1.0
no_fault_beside one law text ds (f.Text k p) n a (inr b) =
    never_stops one (length text) text a.0 b.1 a.1.1.0 b.2 (record { kind = k; place = p }) a.1.1.1 a.1.1.2 b.3 b.4
no_fault_beside one law text ds (f.BadSchema i) n a b =
    no_misfit ds _ (same_answer one text a.0 b.0 _ _ a.1 b.1 a.2.0 b.2)
no_fault_beside one law text ds (f.NotSupported i) n a b =
    no_misfit ds _ (same_answer one text a.0 b.0 _ _ a.1 b.1 a.2.0 b.2)
no_fault_beside one law text ds (f.NameTwice s) n a b =
    not_refused one law text ds b.0 (m.NameTwice s) (λ e. absurd cc) a b.1 b.2
no_fault_beside one law text ds (f.NoSuchName s) n a b =
    not_refused one law text ds b.0 (m.NoSuchName s) (λ e. absurd cc) a b.1 b.2
no_fault_beside one law text ds (f.Unguarded s) n a b =
    not_refused one law text ds b.0 (m.Unguarded s) (λ e. absurd cc) a b.1 b.2

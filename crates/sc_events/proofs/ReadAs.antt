-- An input in either form is read in some way, and in one.
use Rattle.std.proofs.Common.{◌≡◌, ℕ, Bool, true, false, List, [], ◌++◌, inl, inr, refl, sym, ◌∙◌, subst, append-nil}
use Rattle.std.specs.Str.{IsUtf8, is_utf8}
use Rattle.std.proofs.lemmas.Str.{IsUtf8-from_is_utf8, is_utf8-from_IsUtf8}
use Rattle.pv_value.specs.Plain.{Plain}
use Rattle.pv_binary.specs.OneOfThree.{AreBytes, OneOfThreeHolds}
use Rattle.pv_binary.specs.Lemmas.Begins.{IsUnique}
use Rattle.sc_events.specs.declared.inputs.Form.{Form}
use Rattle.sc_events.specs.declared.inputs.Form.TheVariants.{Binary, Text}
use Rattle.sc_events.specs.declared.inputs.Reading.{Reading}
use Rattle.sc_events.specs.declared.inputs.Reading.TheVariants as reading
use Rattle.sc_events.specs.declared.inputs.Values.{Values}
use Rattle.sc_events.specs.Readings.{AreReadAs}
use Rattle.sc_events.specs.SoFar.{form_of, AreReadTo, AreSoFar}
use Rattle.sc_events.proofs.Readings.{IsOneWay, read_same, reading_on, text_read_same, text_reading_on}

module _ (unique : IsUnique) (one_way : IsOneWay) where
  pub read_as_same : (form : Form) (bytes : List ℕ) (vs ws : List Plain) (a b : Bool) → AreReadAs form bytes vs a
      → AreReadAs form bytes ws b → (vs ≡ ws) × (a ≡ b)
  read_as_same Binary bytes vs ws a b p q = read_same unique bytes vs ws a b p q
  read_as_same Text bytes vs ws a b (inl p) (inl q) = text_read_same one_way bytes vs ws a b p.1 q.1
  read_as_same Text bytes vs ws a b (inl p) (inr q) = absurd (q.0 p.0)
  read_as_same Text bytes vs ws a b (inr p) (inl q) = absurd (p.0 q.0)
  read_as_same Text bytes vs ws a b (inr p) (inr q) = (p.1 ∙ sym q.1, p.2 ∙ sym q.2)

module _ (three : (bytes : List ℕ) → AreBytes bytes → OneOfThreeHolds bytes) (one_way : IsOneWay) where
  abbrev IsReadOn : Form → List ℕ → List Plain → Type 0
  IsReadOn form bytes vs = (ws : List Plain) × (whole : Bool) × AreReadAs form bytes (vs ++ ws) whole

  read_on : (how : Reading) (bytes : List ℕ) (vs : List Plain) (rest : List ℕ) → AreBytes bytes
      → AreReadTo how bytes vs rest → IsReadOn (form_of how) bytes vs
  read_on reading.Binary bytes vs rest p r = reading_on three bytes vs rest p r
  read_on reading.Text bytes vs rest p r =
      let on = text_reading_on one_way bytes vs rest r.1 in
      (on.0, on.1, inl (r.0, on.2))
  read_on reading.NoText bytes vs rest p r = ([], false, inr (r.0, append-nil vs ∙ r.1, refl))

  pub so_far_on : (form : Form) (bytes : List ℕ) (vs : List Plain) (values : Values) → AreBytes bytes
      → AreSoFar form bytes vs values → IsReadOn form bytes vs
  so_far_on form bytes vs values p s =
      subst (λ f. IsReadOn f bytes vs) s.form (read_on values.reading bytes vs values.rest.now p s.read)

  some_text : (text : List ℕ) (b : Bool) → is_utf8 text ≡ b → AreBytes text → IsReadOn Text text []
  some_text text true is p = read_on reading.Text text [] text p (IsUtf8-from_is_utf8 text is, refl)
  some_text text false is p =
      let no : IsUtf8 text → ⊥ = λ u. cc (sym is ∙ is_utf8-from_IsUtf8 text u) in
      read_on reading.NoText text [] text p (no, refl)

  pub some_read_as : (form : Form) (bytes : List ℕ) → AreBytes bytes → IsReadOn form bytes []
  some_read_as Binary bytes p = read_on reading.Binary bytes [] bytes p refl
  some_read_as Text bytes p = some_text bytes (is_utf8 bytes) refl p

-- How values one behind another are read: in one way, where each of them is; and in some way, where each is.
use Rattle.std.proofs.Common.{◌≡◌, ◌≢◌, ℕ, zero, suc, ◌<◌, Bool, true, false, List, [], ◌∷◌, ◌++◌, length, drop}
use Rattle.std.proofs.Common.{◌⊎◌, inl, inr}
use Rattle.std.proofs.Common.{refl, sym, ap, ◌∙◌, subst, arith}
use Rattle.std.proofs.lemmas.List.Elements.{All-drop}
use Rattle.pv_value.specs.Plain.{Plain}
use Rattle.pv_read.specs.Leading.{LeadsOver}
use Rattle.pv_binary.specs.OneOfThree.{AreBytes, OneOfThreeHolds}
use Rattle.pv_binary.specs.Reads.{Leads}
use Rattle.pv_binary.specs.Lemmas.Begins.{IsUnique, begins_same, nothing_begins, leads_less}
use Rattle.pv_lex.specs.Gaps.{IsLastGap}
use Rattle.pv_text.specs.OneWay.{OneWayHolds}
use Rattle.pv_text.specs.Reads.{LeadsTo}
use Rattle.pv_text.specs.Lemmas.Begins.{leads_shorter, leads_on}
use Rattle.sc_events.specs.Inputs.{AreRead, BeginNone}
use Rattle.sc_events.specs.TextInputs.{AreTextRead, BeginNoText}

-- ---- of any form

module _ {V : Type 0} (To : List ℕ → V → List ℕ → Type 0) where
  abbrev pub IsOne : Type 0
  IsOne = (bytes : List ℕ) (v w : V) (x y : List ℕ) → To bytes v x → To bytes w y → (v ≡ w) × (x ≡ y)

  -- no value comes next
  abbrev pub Ends : List ℕ → Type 0
  Ends rest = (v : V) (more : List ℕ) → To rest v more → ⊥

  pub same_values : IsOne → (bytes : List ℕ) (vs ws : List V) (x y : List ℕ) → LeadsOver To bytes vs x → Ends x
      → LeadsOver To bytes ws y → Ends y → (vs ≡ ws) × (x ≡ y)
  same_values one bytes [] [] x y l s m t = (refl, sym l ∙ m)
  same_values one bytes [] (w ∷ ws) x y l s m t = absurd (s w m.0 (subst (λ b. To b w m.0) l m.1))
  same_values one bytes (v ∷ vs) [] x y l s m t = absurd (t v l.0 (subst (λ b. To b v l.0) m l.1))
  same_values one bytes (v ∷ vs) (w ∷ ws) x y l s m t =
      let n = one bytes v w l.0 m.0 l.1 m.1 in
      let r = same_values one m.0 vs ws x y (subst (λ b. LeadsOver To b vs x) n.1 l.2) s m.2 t in
      ((λ i. n.0 i ∷ r.0 i), r.1)

  -- values, and others behind them
  pub leads_through : (bytes : List ℕ) (vs : List V) (rest : List ℕ) (ws : List V) (end : List ℕ)
      → LeadsOver To bytes vs rest → LeadsOver To rest ws end → LeadsOver To bytes (vs ++ ws) end
  leads_through bytes [] rest ws end l m = subst (λ b. LeadsOver To b ws end) (sym l) m
  leads_through bytes (v ∷ vs) rest ws end l m = (l.0, l.1, leads_through l.0 vs rest ws end l.2 m)

  -- where what is left has a property, and each such list stops so or goes on with a value
  module _ (P Stop : List ℕ → Type 0)
      (next : (bytes : List ℕ) → P bytes → Stop bytes ⊎ ((v : V) × (more : List ℕ) × To bytes v more × P more))
      (less : (bytes : List ℕ) (v : V) (more : List ℕ) → To bytes v more → length more < length bytes) where
    abbrev pub IsReadOver : List ℕ → Type 0
    IsReadOver bytes = (vs : List V) × (rest : List ℕ) × LeadsOver To bytes vs rest × Stop rest

    read_over : (k : ℕ) (bytes : List ℕ) → length bytes < k → P bytes → IsReadOver bytes
    read_over zero bytes small p = absurd (omega (arith, small))
    read_over (suc k) bytes small p = elim (next bytes p) [
      | inl s ↦ ([], bytes, refl, s)
      | inr x ↦
          let r = read_over k x.1 (omega (arith, small, less bytes x.0 x.1 x.2)) x.3 in
          (x.0 ∷ r.0, r.1, (x.1, x.2, r.2), r.3)
    ]

    pub some_values : (bytes : List ℕ) → P bytes → IsReadOver bytes
    some_values bytes p = read_over (suc (length bytes)) bytes (omega arith) p

-- ---- in binary

module _ (unique : IsUnique) where
  leads_one : IsOne Leads
  leads_one bytes v w x y a b =
      let s = begins_same unique bytes a.0 b.0 v w a.1 b.1 in
      (s.1, a.2 ∙ ap (λ n. drop n bytes) s.0 ∙ sym b.2)

  nothing_leads : Ends Leads []
  nothing_leads v more l = nothing_begins l.0 v l.1

  pub read_same : (bytes : List ℕ) (vs ws : List Plain) (a b : Bool) → AreRead bytes vs a → AreRead bytes ws b
      → (vs ≡ ws) × (a ≡ b)
  read_same bytes vs ws true true p q =
      ((same_values Leads leads_one bytes vs ws [] [] p nothing_leads q nothing_leads).0, refl)
  read_same bytes vs ws true false p q =
      absurd (q.2.0 (sym (same_values Leads leads_one bytes vs ws [] q.0 p nothing_leads q.1 q.2.1).1))
  read_same bytes vs ws false true p q =
      absurd (p.2.0 (same_values Leads leads_one bytes vs ws p.0 [] p.1 p.2.1 q nothing_leads).1)
  read_same bytes vs ws false false p q =
      ((same_values Leads leads_one bytes vs ws p.0 q.0 p.1 p.2.1 q.1 q.2.1).0, refl)

-- the bytes end, or go on with no value
abbrev IsStop : List ℕ → Type 0
IsStop bytes = (bytes ≡ []) ⊎ BeginNone bytes

module _ (three : (bytes : List ℕ) → AreBytes bytes → OneOfThreeHolds bytes) where
  next_binary : (bytes : List ℕ) → AreBytes bytes
      → IsStop bytes ⊎ ((v : Plain) × (more : List ℕ) × Leads bytes v more × AreBytes more)
  next_binary [] p = inl (inl refl)
  next_binary (b ∷ bs) p =
      let t = three (b ∷ bs) p in
      let some : b ∷ bs ≢ [] = λ e. cc e in
      elim t.0 [
        | inl x ↦ inr (x.1, drop x.0 (b ∷ bs), (x.0, x.2, refl), All-drop (λ n. n < 256) x.0 (b ∷ bs) p)
        | inr (inl f) ↦ inl (inr (some, λ v more l. t.1.value_and_front (l.0, v, l.1) f))
        | inr (inr f) ↦ inl (inr (some, λ v more l. t.1.value_and_fault (l.0, v, l.1) f))
      ]

  bytes_left : (bytes : List ℕ) (vs : List Plain) (rest : List ℕ) → AreBytes bytes → LeadsOver Leads bytes vs rest
      → AreBytes rest
  bytes_left bytes [] rest p l = subst AreBytes l p
  bytes_left bytes (v ∷ vs) rest p l =
      bytes_left l.0 vs rest (subst AreBytes (sym l.1.2) (All-drop (λ n. n < 256) l.1.0 bytes p)) l.2

  -- behind some values
  pub reading_on : (bytes : List ℕ) (vs : List Plain) (rest : List ℕ) → AreBytes bytes → LeadsOver Leads bytes vs rest
      → (ws : List Plain) × (whole : Bool) × AreRead bytes (vs ++ ws) whole
  reading_on bytes vs rest p l =
      let r = some_values Leads AreBytes IsStop next_binary leads_less rest (bytes_left bytes vs rest p l) in
      let all = leads_through Leads bytes vs rest r.0 r.1 l r.2 in
      elim r.3 [
        | inl e ↦ (r.0, true, subst (λ x. LeadsOver Leads bytes (vs ++ r.0) x) e all)
        | inr s ↦ (r.0, false, (r.1, all, s))
      ]

-- ---- in text

abbrev pub IsOneWay : Type 0
IsOneWay = (total : ℕ) (bytes : List ℕ) → OneWayHolds total bytes

module _ (one_way : IsOneWay) where
  leads_one_way : IsOne LeadsTo
  leads_one_way bytes v w x y a b = (one_way 0 bytes).2.value v w x y a b

  gap_ends : (rest : List ℕ) → IsLastGap false rest → Ends LeadsTo rest
  gap_ends rest g v more l = leads_on rest v more l g

  pub text_read_same : (text : List ℕ) (vs ws : List Plain) (a b : Bool) → AreTextRead text vs a → AreTextRead text ws b
      → (vs ≡ ws) × (a ≡ b)
  text_read_same text vs ws true true p q =
      ((same_values LeadsTo leads_one_way text vs ws p.0 q.0 p.1 (gap_ends p.0 p.2) q.1 (gap_ends q.0 q.2)).0, refl)
  text_read_same text vs ws true false p q =
      let r = same_values LeadsTo leads_one_way text vs ws p.0 q.0 p.1 (gap_ends p.0 p.2) q.1 q.2.1 in
      absurd (q.2.0.1.0 (subst (λ x. IsLastGap false x) r.1 p.2))
  text_read_same text vs ws false true p q =
      let r = same_values LeadsTo leads_one_way text vs ws p.0 q.0 p.1 p.2.1 q.1 (gap_ends q.0 q.2) in
      absurd (p.2.0.1.0 (subst (λ x. IsLastGap false x) (sym r.1) q.2))
  text_read_same text vs ws false false p q =
      ((same_values LeadsTo leads_one_way text vs ws p.0 q.0 p.1 p.2.1 q.1 q.2.1).0, refl)

  -- only a gap is left, or reading stops
  abbrev IsTextStop : ℕ → List ℕ → Type 0
  IsTextStop total bytes = IsLastGap false bytes ⊎ BeginNoText total bytes

  next_text : (total : ℕ) (bytes : List ℕ) → Unit {0}
      → IsTextStop total bytes ⊎ ((v : Plain) × (more : List ℕ) × LeadsTo bytes v more × Unit {0})
  next_text total bytes p =
      let t = one_way total bytes in
      elim t.0 [
        | inl g ↦ inl (inl g)
        | inr (inl x) ↦ inr (x.0, x.1, x.2, tt)
        | inr (inr f) ↦ inl (inr (f, λ v more l. t.1.value_and_fault (v, more, l) f))
      ]

  pub text_reading_on : (text : List ℕ) (vs : List Plain) (rest : List ℕ) → LeadsOver LeadsTo text vs rest
      → (ws : List Plain) × (whole : Bool) × AreTextRead text (vs ++ ws) whole
  text_reading_on text vs rest l =
      let r = some_values LeadsTo (λ b. Unit {0}) (IsTextStop (length text)) (next_text (length text)) leads_shorter
      rest tt in
      let all = leads_through LeadsTo text vs rest r.0 r.1 l r.2 in
      elim r.3 [
        | inl g ↦ (r.0, true, (r.1, all, g))
        | inr s ↦ (r.0, false, (r.1, all, s))
      ]

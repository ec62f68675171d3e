-- A text is judged as a whole: where it is UTF-8, so is what follows all that is read, and no fault is that it isn't.
use Rattle.std.proofs.Common.{◌≡◌, ◌≢◌, ℕ, zero, suc, ◌-◌, ◌<◌, Bool, true, false, eqb, List, [], ◌∷◌, ◌++◌, length}
use Rattle.std.proofs.Common.{Option, Some, None, Result, Ok, Err}
use Rattle.std.proofs.Common.{IsUtf8, refl, sym, ap, ◌∙◌, subst, append_assoc, inl, inr, arith}
use Rattle.std.specs.Prelude.{if◌then◌else◌}
use Rattle.std.proofs.lemmas.Bool.{eqb-true}
use Rattle.std.proofs.lemmas.Str.{IsUtf8-nil}
use Rattle.pv_value.specs.Plain.{Plain, boolean, double, integer, string, byte_string, symbol}
use Rattle.pv_value.specs.Sets.{set_from, dictionary_from}
use Rattle.pv_read.specs.Results.{Fault, ◌>>=◌, within}
use Rattle.pv_read.specs.Leading.{LeadsOver}
use Rattle.pv_read.specs.Elements.{elements_at}
use Rattle.pv_read.specs.Lemmas.Binds.{Told, told_cond, told_ok, told_err}
use Rattle.pv_lex.specs.Gaps.{after_blank}
use Rattle.pv_lex.specs.Lemmas.GapLaws.{gap_found, after_twice}
use Rattle.pv_lex.specs.declared.faults.TextKind.{TextKind}
use Rattle.pv_lex.specs.declared.faults.TextKind.TheVariants as fault
use Rattle.pv_lex.specs.declared.kinds.Mark.{Mark}
use Rattle.pv_lex.specs.declared.kinds.Mark.TheVariants as mark
use Rattle.pv_lex.specs.declared.kinds.AtomForm.{AtomForm}
use Rattle.pv_lex.specs.declared.kinds.AtomForm.TheVariants as form
use Rattle.pv_lex.specs.declared.kinds.Lexeme.{Lexeme}
use Rattle.pv_lex.specs.declared.kinds.Lexeme.TheVariants as lexeme
use Rattle.pv_lex.specs.Atoms.{IsAtomOf}
use Rattle.pv_lex.specs.Marks.{mark_text}
use Rattle.pv_lex.specs.Lexing.{lexeme_at}
use Rattle.pv_lex.specs.Lemmas.Lexemes.{atom_found, mark_found, fault_found}
use Rattle.pv_lex.specs.Lemmas.Seams.{at_seam, behind_byte, at_end_of_bare, gap_leaves}
use Rattle.pv_lex.specs.Lemmas.JudgedTokens.{tokens_judged}
use Rattle.pv_text.specs.Reading.{Reader, fault_at, unclosed, closed_at, colon_at, entry_at, or_duplicate, compound_at}
use Rattle.pv_text.specs.Reading.{opens, behind, core_at}
use Rattle.pv_text.specs.Reading.{due_at, behind_gap_at, value_at, deeper_at, no_value, first_at}
use Rattle.pv_text.specs.Stops.{TextStands}
use Rattle.pv_text.specs.Reads.{LeadsTo, ValuesStand}
use Rattle.pv_text.proofs.Readers.{list_is}
use Rattle.pv_text.proofs.Steps.{value_is}
use Rattle.pv_text.proofs.Whole.{first_read, first_fails}

-- a fault of another kind
abbrev IsOther : Fault TextKind → Type 0
IsOther f = f.kind ≢ fault.BadUtf8

-- what follows is UTF-8, or the fault is another
abbrev IsKept : {A : Type 0} → Result (A × List ℕ) (Fault TextKind) → Type 0
IsKept o = Told (λ x. IsUtf8 x.1) IsOther o

abbrev Keeps : {A : Type 0} → Reader A → Type 0
Keeps reader = (bytes : List ℕ) → IsUtf8 bytes → IsKept (reader bytes)

open_end : (total : ℕ) (bytes : List ℕ) → IsOther (unclosed total bytes)
open_end total bytes = λ e. cc

kept : {A B : Type 0} (o : Result (A × List ℕ) (Fault TextKind)) (f : A × List ℕ → Result (B × List ℕ) (Fault TextKind))
    → IsKept o
    → ((x : A × List ℕ) → IsUtf8 x.1 → IsKept (f x)) → IsKept (o >>= f)
kept (Ok x) f h g = g x h
kept (Err e) f h g = h

skip_keeps : (commas : Bool) (bytes : List ℕ) → IsUtf8 bytes → IsUtf8 (after_blank commas bytes)
skip_keeps commas bytes u = elim (list_is (after_blank commas bytes)) [
  | inl e ↦ subst IsUtf8 (sym e) IsUtf8-nil
  | inr (b, bs, e) ↦
      let g = gap_found commas bytes b bs e in
      subst IsUtf8 (sym e) (gap_leaves commas g.0 (b ∷ bs) g.2 (subst IsUtf8 g.1 u))
]

-- ---- tokens

behind_last : (t x r : List ℕ) (b : ℕ) → b < 128 → t ≡ x ++ b ∷ [] → IsUtf8 (t ++ r) → IsUtf8 r
behind_last t x r b small is u =
    (at_seam x r b small (subst IsUtf8 (ap (λ (y : List ℕ). y ++ r) is ∙ append_assoc x (b ∷ []) r) u)).2

behind_atom : (f : AtomForm) (t : List ℕ) (v : Plain) (r : List ℕ) → IsAtomOf f t v r → IsUtf8 (t ++ r) → IsUtf8 r
behind_atom form.False t (boolean false) r h u = behind_last t (35 ∷ []) r 102 (omega arith) h u
behind_atom form.True t (boolean true) r h u = behind_last t (35 ∷ []) r 116 (omega arith) h u
behind_atom form.Integer t (integer z) r h u = (at_end_of_bare t r h.2 u).1
behind_atom form.Symbol t (symbol s) r h u = (at_end_of_bare t r h.3 u).1
behind_atom form.QuotedSymbol t (symbol s) r h u = behind_last t (124 ∷ h.1.0) r 124 (omega arith) h.1.1 u
behind_atom form.String t (string s) r h u = behind_last t (34 ∷ h.1.0) r 34 (omega arith) h.1.1 u
behind_atom form.AsciiBytes t (byte_string s) r h u = behind_last t (35 ∷ 34 ∷ h.0) r 34 (omega arith) h.1 u
behind_atom form.HexBytes t (byte_string s) r h u = behind_last t (35 ∷ 120 ∷ 34 ∷ h.0) r 34 (omega arith) h.1 u
behind_atom form.Base64Bytes t (byte_string s) r h u = behind_last t (35 ∷ 91 ∷ h.0) r 93 (omega arith) h.1 u
behind_atom form.Double t (double n) r h u = behind_last t (35 ∷ 120 ∷ 100 ∷ 34 ∷ h.0) r 34 (omega arith) h.1 u
behind_atom f t v r h u = absurd h

behind_mark : (m : Mark) (r : List ℕ) → IsUtf8 (mark_text m ++ r) → IsUtf8 r
behind_mark mark.RecordOpen r u = behind_byte 60 r (omega arith) u
behind_mark mark.RecordClose r u = behind_byte 62 r (omega arith) u
behind_mark mark.SequenceOpen r u = behind_byte 91 r (omega arith) u
behind_mark mark.SequenceClose r u = behind_byte 93 r (omega arith) u
behind_mark mark.SetOpen r u = behind_byte 123 r (omega arith) (behind_byte 35 (123 ∷ r) (omega arith) u)
behind_mark mark.DictionaryOpen r u = behind_byte 123 r (omega arith) u
behind_mark mark.BraceClose r u = behind_byte 125 r (omega arith) u
behind_mark mark.Colon r u = behind_byte 58 r (omega arith) u
behind_mark mark.Comma r u = behind_byte 44 r (omega arith) u
behind_mark mark.Annotation r u = behind_byte 64 r (omega arith) u
behind_mark mark.Embedded r u = behind_byte 58 r (omega arith) (behind_byte 35 (58 ∷ r) (omega arith) u)

-- ---- what stands in a compound

module _ {A : Type 0} (commas : Bool) (close : ℕ) (at_end : Fault TextKind) (element : Reader A) (small : close < 128)
    (other : IsOther at_end)
    (keeps : Keeps element) where
  abbrev elements : ℕ → Reader (List A)
  elements k bytes = elements_at (after_blank commas) close at_end element k bytes

  elements_keep : (k : ℕ) → Keeps (elements k)
  elements_keep zero bytes u = other
  elements_keep (suc k) bytes u = by (after_blank commas bytes) (skip_keeps commas bytes u) (elements_keep k)
    where
      by : (rest : List ℕ) → IsUtf8 rest → Keeps (elements k)
          → IsKept (elim rest as (λ r. Result (List A × List ℕ) (Fault TextKind)) [
            | [] ↦ Err at_end
            | b ∷ bs ↦ if eqb b close then Ok ([], bs) else (element (b ∷ bs) >>= λ x. elements k x.1 >>= λ xs. Ok
                (x.0 ∷ xs.0, xs.1))
          ])
      by [] v again = other
      by (b ∷ bs) v again =
          told_cond (λ (x : List A × List ℕ). IsUtf8 x.1) IsOther (eqb b close) (Ok ([], bs))
          (element (b ∷ bs) >>= λ x. elements k x.1 >>= λ xs. Ok (x.0 ∷ xs.0, xs.1))
          (λ e. let is = eqb-true b close e in behind_byte b bs (omega (arith, is, small)) v)
          (λ e. kept (element (b ∷ bs)) _ (keeps (b ∷ bs) v) (λ x w. kept (elements k x.1) _ (again x.1 w) (λ xs z. z)))

  closed_keeps : Keeps (closed_at commas close at_end element)
  closed_keeps bytes u = elements_keep (length bytes) bytes u

module _ (total : ℕ) (inner : Reader Plain) (at_end : Fault TextKind) (other : IsOther at_end)
    (keeps : Keeps inner) where
  colon_keeps : (bytes : List ℕ) → IsUtf8 bytes → Told (λ r. IsUtf8 r) IsOther (colon_at total at_end bytes)
  colon_keeps bytes u = by (after_blank true bytes) (skip_keeps true bytes u)
    where
      by : (rest : List ℕ) → IsUtf8 rest
          → Told (λ r. IsUtf8 r) IsOther (elim rest as (λ r. Result (List ℕ) (Fault TextKind)) [
            | [] ↦ Err at_end
            | b ∷ bs ↦ if eqb b 58 then Ok bs else Err (fault_at total fault.Unexpected (b ∷ bs))
          ])
      by [] v = other
      by (b ∷ bs) v =
          told_cond (λ (r : List ℕ). IsUtf8 r) IsOther (eqb b 58) (Ok bs)
          (Err (fault_at total fault.Unexpected (b ∷ bs)))
          (λ e. let is = eqb-true b 58 e in behind_byte b bs (omega (arith, is)) v) (λ e q. cc)

  abbrev value_behind : Plain → List ℕ → Result ((Plain × Plain) × List ℕ) (Fault TextKind)
  value_behind k r = inner r >>= λ y. Ok ((k, y.0), y.1)

  entry_keeps : Keeps (entry_at total inner at_end)
  unfolding entry_at
  entry_keeps bytes u =
      kept (inner bytes) _ (keeps bytes u) (λ x v. behind_key x.0 (colon_at total at_end x.1) (colon_keeps x.1 v))
    where
      behind_key : (k : Plain) (o : Result (List ℕ) (Fault TextKind)) → Told (λ r. IsUtf8 r) IsOther o
          → IsKept (o >>= value_behind k)
      behind_key k (Ok r) v = kept (inner r) _ (keeps r v) (λ y w. w)
      behind_key k (Err f) n = n

made_keeps : (place : ℕ) (r : List ℕ) → IsUtf8 r → (o : Option Plain) → IsKept (or_duplicate place o >>= λ v. Ok (v, r))
made_keeps place r u (Some v) = u
made_keeps place r u None = λ e. cc

module _ (total : ℕ) (inner : Bool → Fault TextKind → Reader Plain) (keeps : (c : Bool) (at_end : Fault TextKind)
    → IsOther at_end → Keeps (inner c at_end)) where
  compound_keeps : (commas : Bool) (whole : List ℕ) (m : Mark) → Keeps (compound_at total inner commas whole m)
  unfolding compound_at
  compound_keeps commas whole mark.Embedded bytes u =
      kept (inner commas (unclosed total whole) bytes) _
      (keeps commas (unclosed total whole) (open_end total whole) bytes u) (λ x v. v)
  compound_keeps commas whole mark.RecordOpen bytes u =
      let e = unclosed total whole in
      kept (inner false e bytes) _ (keeps false e (open_end total whole) bytes u)
      (λ l v. kept (closed_at false 62 e (inner false e) l.1) _
      (closed_keeps false 62 e (inner false e) (omega arith) (open_end total whole)
      (keeps false e (open_end total whole)) l.1 v) (λ fs w. w))
  compound_keeps commas whole mark.SequenceOpen bytes u =
      let e = unclosed total whole in
      kept (closed_at true 93 e (inner true e) bytes) _
      (closed_keeps true 93 e (inner true e) (omega arith) (open_end total whole) (keeps true e (open_end total whole))
      bytes u) (λ xs v. v)
  compound_keeps commas whole mark.SetOpen bytes u =
      let e = unclosed total whole in
      kept (closed_at true 125 e (inner true e) bytes) _
      (closed_keeps true 125 e (inner true e) (omega arith) (open_end total whole) (keeps true e (open_end total whole))
      bytes u)
      (λ xs v. made_keeps (total - length whole) xs.1 v (set_from xs.0))
  compound_keeps commas whole mark.DictionaryOpen bytes u =
      let e = unclosed total whole in
      kept (closed_at true 125 e (entry_at total (inner true e) e) bytes) _
      (closed_keeps true 125 e (entry_at total (inner true e) e) (omega arith) (open_end total whole)
      (entry_keeps total (inner true e) e (open_end total whole) (keeps true e (open_end total whole))) bytes u)
      (λ ps v. made_keeps (total - length whole) ps.1 v (dictionary_from ps.0))
  compound_keeps commas whole m bytes u = λ e. cc

-- ---- where a value is due

module _ (total : ℕ) (commas : Bool) (deep : List ℕ → Mark → Reader Plain) (keeps : (whole : List ℕ) (m : Mark)
    → Keeps (deep whole m)) where
  core_keeps : (b : ℕ) (bs : List ℕ) → after_blank commas (b ∷ bs) ≡ b ∷ bs → IsUtf8 (b ∷ bs)
      → IsKept (core_at total deep (b ∷ bs))
  unfolding core_at behind
  core_keeps b bs stays u = by (lexeme_at (b ∷ bs)) refl
    where
      by : (o : Result (Lexeme × List ℕ) TextKind) → lexeme_at (b ∷ bs) ≡ o
          → IsKept (within (total - length (b ∷ bs)) o >>= λ x. behind total (deep (b ∷ bs)) (b ∷ bs) x)
      by (Err k) e = tokens_judged (b ∷ bs) k (fault_found commas b bs k stays e) u
      by (Ok (lexeme.Atom f v, r)) e =
          let h = atom_found (b ∷ bs) f v r e in
          behind_atom h.2.0 h.0 v r h.2.1 (subst IsUtf8 h.1 u)
      by (Ok (lexeme.Mark m, r)) e =
          told_cond (λ (x : Plain × List ℕ). IsUtf8 x.1) IsOther (opens m) (deep (b ∷ bs) m r)
          (Err (fault_at total fault.Unexpected (b ∷ bs)))
          (λ o. keeps (b ∷ bs) m r (behind_mark m r (subst IsUtf8 (mark_found (b ∷ bs) m r e) u))) (λ o q. cc)

  abbrev due : ℕ → Fault TextKind → List ℕ → Reader Plain
  due k at_end pending bytes = due_at total (core_at total deep) commas k at_end pending bytes

  due_keeps : (k : ℕ) (at_end : Fault TextKind) (pending bytes : List ℕ) → IsOther at_end
      → after_blank commas bytes ≡ bytes → IsUtf8 bytes
      → IsKept (due k at_end pending bytes)
  due_keeps zero at_end pending bytes other clear u = other
  due_keeps (suc k) at_end pending [] other clear u = other
  due_keeps (suc k) at_end pending (b ∷ bs) other clear u =
      told_cond (λ (x : Plain × List ℕ). IsUtf8 x.1) IsOther (eqb b 64) _ _
      (λ e. let is = eqb-true b 64 e in
      due_keeps k (unclosed total (b ∷ bs)) ((total - length (b ∷ bs)) ∷ pending) (after_blank commas bs)
      (open_end total (b ∷ bs)) (after_twice commas bs)
      (skip_keeps commas bs (behind_byte b bs (omega (arith, is)) u)))
      (λ e. kept (core_at total deep (b ∷ bs)) _ (core_keeps b bs clear u) (λ x v. next pending x v
      (λ p ps. due_keeps k (record { kind = fault.Unclosed; place = p }) ps (after_blank commas x.1) (λ q. cc)
      (after_twice commas x.1) (skip_keeps commas x.1 v))))
    where
      next : (pending : List ℕ) (x : Plain × List ℕ) → IsUtf8 x.1
          → ((p : ℕ) (ps : List ℕ)
          → IsKept (due k (record { kind = fault.Unclosed; place = p }) ps (after_blank commas x.1)))
          → IsKept (elim pending as (λ q. Result (Plain × List ℕ) (Fault TextKind)) [
            | [] ↦ Ok x
            | p ∷ ps ↦ due k (record { kind = fault.Unclosed; place = p }) ps (after_blank commas x.1)
          ])
      next [] x v again = v
      next (p ∷ ps) x v again = again p ps

  behind_gap_keeps : (at_end : Fault TextKind) → IsOther at_end
      → Keeps (behind_gap_at total (core_at total deep) commas at_end)
  behind_gap_keeps at_end other bytes u =
      due_keeps (length (after_blank commas bytes)) at_end [] (after_blank commas bytes) other
      (after_twice commas bytes) (skip_keeps commas bytes u)

-- ---- values

deeper_keeps : (total d : ℕ) (commas : Bool) (whole : List ℕ) (m : Mark) → Keeps (deeper_at total d commas whole m)
deeper_keeps total zero commas whole m bytes u = λ e. cc
deeper_keeps total (suc d) commas whole m bytes u =
    compound_keeps total (value_at total d)
    (λ c at_end other. subst (λ (r : Reader Plain). Keeps r) (value_is total d c at_end)
    (behind_gap_keeps total c (deeper_at total d c) (deeper_keeps total d c) at_end other))
    commas whole m bytes u

first_keeps : (total : ℕ) → Keeps (first_at total)
first_keeps total =
    subst (λ (r : Reader Plain). Keeps r) (value_is total 64 false (no_value total))
    (behind_gap_keeps total false (deeper_at total 64 false) (deeper_keeps total 64 false) (no_value total) (λ e. cc))

-- ---- whole texts

stops_other : (total : ℕ) (bytes : List ℕ) (f : Fault TextKind) → first_at total bytes ≡ Err f → IsUtf8 bytes
    → IsOther f
stops_other total bytes f e u =
    told_err (λ (x : Plain × List ℕ). IsUtf8 x.1) IsOther (first_at total bytes) f (first_keeps total bytes u) e

lead_on : (bytes : List ℕ) (vs : List Plain) (rest : List ℕ) → LeadsOver LeadsTo bytes vs rest → IsUtf8 bytes
    → IsUtf8 rest
lead_on bytes [] rest is u = subst IsUtf8 is u
lead_on bytes (v ∷ vs) rest (more, to, leads) u =
    lead_on more vs rest leads (told_ok (λ (x : Plain × List ℕ). IsUtf8 x.1) IsOther (first_at 0 bytes) (v, more)
    (first_keeps 0 bytes u) (first_read 0 bytes v more to))

pub first_judged : (text : List ℕ) (f : Fault TextKind) → TextStands text f → f.kind ≡ fault.BadUtf8 → (IsUtf8 text → ⊥)
    × (f.place ≡ 0)
first_judged text f (inl h) e = (h.0, ap (λ (x : Fault TextKind). x.place) h.1)
first_judged text f (inr h) e = absurd (stops_other (length text) text f (first_fails (length text) text f h.1) h.0 e)

pub all_judged : (text : List ℕ) (f : Fault TextKind) → ValuesStand text f → f.kind ≡ fault.BadUtf8 → (IsUtf8 text → ⊥)
    × (f.place ≡ 0)
all_judged text f (inl h) e = (h.0, ap (λ (x : Fault TextKind). x.place) h.1)
all_judged text f (inr (u, vs, rest, leads, stops)) e =
    absurd (stops_other (length text) rest f (first_fails (length text) rest f stops.1) (lead_on text vs rest leads u)
    e)

-- What a mark opens: records, sequences, sets, dictionaries and embedded values.
use Rattle.std.proofs.Common.{◌≡◌, ℕ, ◌-◌, Bool, true, false, List, ◌∷◌, ◌++◌, length, Option, Some, None, Ok, Err}
use Rattle.std.proofs.Common.{refl, sym, ap, ◌∙◌}
use Rattle.std.proofs.Common.{subst, append_assoc, inl, inr}
use Rattle.pv_value.specs.Plain.{Plain, record_of, sequence, set_of, dictionary, embedded, plains}
use Rattle.pv_value.specs.Sets.{set_from, dictionary_from}
use Rattle.pv_value.specs.Lemmas.SetFrom.{set_from_is}
use Rattle.pv_value.specs.Lemmas.DictionaryFrom.{dictionary_from_is}
use Rattle.pv_read.specs.Results.{Fault, ◌>>=◌}
use Rattle.pv_lex.specs.declared.faults.TextKind.{TextKind}
use Rattle.pv_lex.specs.declared.faults.TextKind.TheVariants.{Duplicate}
use Rattle.pv_lex.specs.declared.kinds.Mark.{Mark}
use Rattle.pv_lex.specs.declared.kinds.Mark.TheVariants as mark
use Rattle.pv_lex.specs.Marks.{mark_text}
use Rattle.pv_text.specs.Spells.{Spelling, IsClosed, IsEntry, IsCompound}
use Rattle.pv_text.specs.Stops.{Stopping, ElementsStop, EntryStops, CompoundStops, in_embedded, in_label, in_fields}
use Rattle.pv_text.specs.Stops.{in_sequence, in_set, in_dictionary, equal_elements, equal_keys}
use Rattle.pv_text.specs.Reading.{Reader, fault_at, unclosed, closed_at, entry_at, or_duplicate, opens, compound_at}
use Rattle.pv_text.specs.Reading.{core_at}
use Rattle.pv_text.specs.Lemmas.Begins.{BeginsUnannotated, unannotated, opening_begins}
use Rattle.pv_text.proofs.Readers.{Front, IsTrueOf, IsReader, SkipsGaps, and_then}
use Rattle.pv_text.proofs.Lists.{Closes, closed_reads}
use Rattle.pv_text.proofs.Entries.{entry_reads, entry_skips}
use Rattle.pv_text.proofs.Cores.{core_opens}

module _ (total : ℕ) (inner : Bool → Fault TextKind → Reader Plain) (Inner : Bool → Spelling Plain) (InnerStops : Bool
    → Fault TextKind → Stopping)
    (reads : (c : Bool) (e : Fault TextKind) → IsReader (inner c e) (Inner c) (InnerStops c e))
    (gaps : (c : Bool) (e : Fault TextKind) → SkipsGaps c e (inner c e) (Inner c)) (commas : Bool) where
  abbrev Compound : Spelling Plain
  Compound t v r = IsCompound Inner commas t v r

  abbrev Stopped : Stopping
  Stopped bytes f = CompoundStops total Inner InnerStops commas bytes f

  -- what stands in it up to the close
  items : (c : Bool) (close : ℕ) (e : Fault TextKind) → Closes close
      → IsReader (closed_at c close e (inner c e)) (IsClosed c close (Inner c))
      (ElementsStop c close (Inner c) (InnerStops c e))
  items c close e closes = closed_reads c close e (inner c e) (Inner c) (InnerStops c e) closes (reads c e) (gaps c e)

  entries : (e : Fault TextKind)
      → IsReader (closed_at true 125 e (entry_at total (inner true e) e)) (IsClosed true 125 (IsEntry (Inner true)))
      (ElementsStop true 125 (IsEntry (Inner true)) (EntryStops total (Inner true) (InnerStops true) e))
  entries e =
      closed_reads true 125 e (entry_at total (inner true e) e) (IsEntry (Inner true))
      (EntryStops total (Inner true) (InnerStops true) e) (inr (inr refl))
      (entry_reads total (inner true e) e (Inner true) (InnerStops true) (reads true e) (gaps true e))
      (entry_skips total (inner true e) e (Inner true) (InnerStops true) (reads true e) (gaps true e))

  -- ---- what is told is true

  abbrev IsSpelled : List ℕ → Plain × List ℕ → Type 0
  IsSpelled whole x = Front Compound whole x.0 x.1

  embedded_tells : (bs : List ℕ)
      → IsTrueOf Compound Stopped (35 ∷ 58 ∷ bs) (compound_at total inner commas (35 ∷ 58 ∷ bs) mark.Embedded bs)
  unfolding compound_at
  embedded_tells bs =
      and_then _ _ _ (reads commas (unclosed total (35 ∷ 58 ∷ bs))) (IsSpelled (35 ∷ 58 ∷ bs))
      (Stopped (35 ∷ 58 ∷ bs)) bs (λ x. Ok (embedded x.0, x.1))
      (λ x r h. (35 ∷ 58 ∷ h.0, ap (λ (y : List ℕ). 35 ∷ 58 ∷ y) h.1, (h.0, refl, h.2)))
      (λ f s. in_embedded bs f s)

  record_tells : (bs : List ℕ)
      → IsTrueOf Compound Stopped (60 ∷ bs) (compound_at total inner commas (60 ∷ bs) mark.RecordOpen bs)
  unfolding compound_at
  record_tells bs =
      let e = unclosed total (60 ∷ bs) in
      and_then _ _ _ (reads false e) (IsSpelled (60 ∷ bs)) (Stopped (60 ∷ bs)) bs
      (λ l. closed_at false 62 e (inner false e) l.1 >>= λ fs. Ok (record_of l.0 (plains fs.0), fs.1))
      (λ l m h. and_then _ _ _ (items false 62 e (inl refl)) (IsSpelled (60 ∷ bs)) (Stopped (60 ∷ bs)) m
      (λ fs. Ok (record_of l (plains fs.0), fs.1))
      (λ fs r k. fields_end l m h fs r k) (λ f s. fields_stop l m h f s))
      (λ f s. in_label bs f s)
    where
      fields_end : (l : Plain) (m : List ℕ) → Front (Inner false) bs l m → (fs : List Plain) (r : List ℕ)
          → Front (IsClosed false 62 (Inner false)) m fs r
          → Front Compound (60 ∷ bs) (record_of l (plains fs)) r
      fields_end l m (a, is, h) fs r (u, is', k) = (
        60 ∷ (a ++ u),
        ap (λ (y : List ℕ). 60 ∷ y) (is ∙ ap (λ (y : List ℕ). a ++ y) is' ∙ sym (append_assoc a u r)),
        (a, u, fs, refl, subst (λ (y : List ℕ). Inner false a l y) is' h, k, refl),
      )

      fields_stop : (l : Plain) (m : List ℕ) → Front (Inner false) bs l m → (f : Fault TextKind)
          → ElementsStop false 62 (Inner false) (InnerStops false (unclosed total (60 ∷ bs))) m f → Stopped (60 ∷ bs) f
      fields_stop l m (a, is, h) f s =
          subst (λ (y : List ℕ). Stopped (60 ∷ y) f) (sym is)
          (in_fields a m l f h (subst (λ (y : List ℕ). ElementsStop false 62 (Inner false)
          (InnerStops false (unclosed total (60 ∷ y))) m f) is s))

  sequence_tells : (bs : List ℕ)
      → IsTrueOf Compound Stopped (91 ∷ bs) (compound_at total inner commas (91 ∷ bs) mark.SequenceOpen bs)
  unfolding compound_at
  sequence_tells bs =
      and_then _ _ _ (items true 93 (unclosed total (91 ∷ bs)) (inr (inl refl))) (IsSpelled (91 ∷ bs))
      (Stopped (91 ∷ bs)) bs (λ xs. Ok (sequence (plains xs.0), xs.1))
      (λ xs r h. (91 ∷ h.0, ap (λ (y : List ℕ). 91 ∷ y) h.1, (h.0, xs, refl, h.2, refl)))
      (λ f s. in_sequence bs f s)

  set_tells : (bs : List ℕ)
      → IsTrueOf Compound Stopped (35 ∷ 123 ∷ bs) (compound_at total inner commas (35 ∷ 123 ∷ bs) mark.SetOpen bs)
  unfolding compound_at
  set_tells bs =
      let whole : List ℕ = 35 ∷ 123 ∷ bs in
      and_then _ _ _ (items true 125 (unclosed total whole) (inr (inr refl))) (IsSpelled whole) (Stopped whole) bs
      (λ xs. or_duplicate (total - length whole) (set_from xs.0) >>= λ v. Ok (v, xs.1))
      (λ xs r h. by xs r h (set_from xs) refl)
      (λ f s. in_set bs f s)
    where
      by : (xs : List Plain) (r : List ℕ) → Front (IsClosed true 125 (Inner true)) bs xs r → (o : Option Plain)
          → set_from xs ≡ o
          → IsTrueOf Compound Stopped (35 ∷ 123 ∷ bs) (or_duplicate (total - length (35 ∷ 123 ∷ bs)) o >>= λ v. Ok
          (v, r))
      by xs r (u, is, closed) (Some v) e =
          let (ys, moved, up, same) = set_from_is xs v e in
          subst (λ (x : Plain). Front Compound (35 ∷ 123 ∷ bs) x r) (sym same) (
            35 ∷ 123 ∷ u,
            ap (λ (y : List ℕ). 35 ∷ 123 ∷ y) is,
            (
              u,
              xs,
              refl,
              closed,
              e
                  ∙ ap (λ (x : Plain). Some x) same,
            ),
          )
      by xs r (u, is, closed) None e =
          subst (λ (y : List ℕ). Stopped (35 ∷ 123 ∷ y) (fault_at total Duplicate (35 ∷ 123 ∷ y))) (sym is)
          (equal_elements u r xs closed e)

  dictionary_tells : (bs : List ℕ)
      → IsTrueOf Compound Stopped (123 ∷ bs) (compound_at total inner commas (123 ∷ bs) mark.DictionaryOpen bs)
  unfolding compound_at
  dictionary_tells bs =
      let whole : List ℕ = 123 ∷ bs in
      and_then _ _ _ (entries (unclosed total whole)) (IsSpelled whole) (Stopped whole) bs
      (λ ps. or_duplicate (total - length whole) (dictionary_from ps.0) >>= λ v. Ok (v, ps.1))
      (λ ps r h. by ps r h (dictionary_from ps) refl)
      (λ f s. in_dictionary bs f s)
    where
      by : (ps : List (Plain × Plain)) (r : List ℕ) → Front (IsClosed true 125 (IsEntry (Inner true))) bs ps r
          → (o : Option Plain) → dictionary_from ps ≡ o
          → IsTrueOf Compound Stopped (123 ∷ bs) (or_duplicate (total - length (123 ∷ bs)) o >>= λ v. Ok (v, r))
      by ps r (u, is, closed) (Some v) e =
          let (qs, moved, up, same) = dictionary_from_is ps v e in
          subst (λ (x : Plain). Front Compound (123 ∷ bs) x r) (sym same)
          (123 ∷ u, ap (λ (y : List ℕ). 123 ∷ y) is, (u, ps, refl, closed, e ∙ ap (λ (x : Plain). Some x) same))
      by ps r (u, is, closed) None e =
          subst (λ (y : List ℕ). Stopped (123 ∷ y) (fault_at total Duplicate (123 ∷ y))) (sym is)
          (equal_keys u r ps closed e)

  pub compound_tells : (m : Mark) (bs : List ℕ) → opens m ≡ true → IsTrueOf Compound Stopped (mark_text m ++ bs)
      (compound_at total inner commas (mark_text m ++ bs) m bs)
  compound_tells mark.Embedded bs o = embedded_tells bs
  compound_tells mark.RecordOpen bs o = record_tells bs
  compound_tells mark.SequenceOpen bs o = sequence_tells bs
  compound_tells mark.SetOpen bs o = set_tells bs
  compound_tells mark.DictionaryOpen bs o = dictionary_tells bs
  compound_tells m bs o = cc o

  -- ---- what is true is told

  abbrev core : Reader Plain
  core = core_at total (compound_at total inner commas)

  -- by what is read behind the mark
  compound_is : (m : Mark) (t u r : List ℕ) (v : Plain) → opens m ≡ true → t ≡ mark_text m ++ u
      → compound_at total inner commas (mark_text m ++ (u ++ r)) m (u ++ r) ≡ Ok (v, r) → core (t ++ r) ≡ Ok (v, r)
  compound_is m t u r v o is e =
      ap core (ap (λ (y : List ℕ). y ++ r) is ∙ append_assoc (mark_text m) u r)
      ∙ core_opens total (compound_at total inner commas) m (u ++ r) o ∙ e

  pub compound_read : (t : List ℕ) (v : Plain) (r : List ℕ) → IsCompound Inner commas t v r
      → core_at total (compound_at total inner commas) (t ++ r) ≡ Ok (v, r)
  unfolding compound_at
  compound_read t (record_of l fs) r (a, u, vs, is, label, closed, same) =
      let bs : List ℕ = (a ++ u) ++ r in
      let e = unclosed total (60 ∷ bs) in
      let first : inner false e bs ≡ Ok (l, u ++ r) = ap (inner false e) (append_assoc a u r)
      ∙ (reads false e).read a l (u ++ r) label in
      compound_is mark.RecordOpen t (a ++ u) r (record_of l fs) refl is
      (rw (first, (items false 62 e (inl refl)).read u vs r closed, same))
  compound_read t (sequence xs) r (u, vs, is, closed, same) =
      compound_is mark.SequenceOpen t u r (sequence xs) refl is
      (rw ((items true 93 (unclosed total (91 ∷ (u ++ r))) (inr (inl refl))).read u vs r closed, same))
  compound_read t (set_of xs) r (u, vs, is, closed, made) =
      compound_is mark.SetOpen t u r (set_of xs) refl is
      (rw ((items true 125 (unclosed total (35 ∷ 123 ∷ (u ++ r))) (inr (inr refl))).read u vs r closed, made))
  compound_read t (dictionary es) r (u, ps, is, closed, made) =
      compound_is mark.DictionaryOpen t u r (dictionary es) refl is
      (rw ((entries (unclosed total (123 ∷ (u ++ r)))).read u ps r closed, made))
  compound_read t (embedded x) r (a, is, inside) =
      compound_is mark.Embedded t a r (embedded x) refl is
      (rw ((reads commas (unclosed total (35 ∷ 58 ∷ (a ++ r)))).read a x r inside))
  compound_read t v r h = absurd h

  compound_fails : (m : Mark) (bs : List ℕ) (f : Fault TextKind) → opens m ≡ true
      → compound_at total inner commas (mark_text m ++ bs) m bs ≡ Err f
      → (core (mark_text m ++ bs) ≡ Err f) × BeginsUnannotated commas (mark_text m ++ bs)
  compound_fails m bs f o e = (
    core_opens total (compound_at total inner commas) m bs o ∙ e,
    unannotated commas (mark_text m ++ bs)
        (opening_begins commas m bs o),
  )

  pub compound_told : (bytes : List ℕ) (f : Fault TextKind) → CompoundStops total Inner InnerStops commas bytes f
      → (core_at total (compound_at total inner commas) bytes ≡ Err f) × BeginsUnannotated commas bytes
  unfolding compound_at
  compound_told _ _ (in_embedded r f s) =
      compound_fails mark.Embedded r f refl (rw ((reads commas (unclosed total (35 ∷ 58 ∷ r))).told r f s))
  compound_told _ _ (in_label r f s) =
      compound_fails mark.RecordOpen r f refl (rw ((reads false (unclosed total (60 ∷ r))).told r f s))
  compound_told _ _ (in_fields a r l f label s) =
      let e = unclosed total (60 ∷ (a ++ r)) in
      compound_fails mark.RecordOpen (a ++ r) f refl
      (rw ((reads false e).read a l r label, (items false 62 e (inl refl)).told r f s))
  compound_told _ _ (in_sequence r f s) =
      compound_fails mark.SequenceOpen r f refl
      (rw ((items true 93 (unclosed total (91 ∷ r)) (inr (inl refl))).told r f s))
  compound_told _ _ (in_set r f s) =
      compound_fails mark.SetOpen r f refl
      (rw ((items true 125 (unclosed total (35 ∷ 123 ∷ r)) (inr (inr refl))).told r f s))
  compound_told _ _ (in_dictionary r f s) =
      compound_fails mark.DictionaryOpen r f refl (rw ((entries (unclosed total (123 ∷ r))).told r f s))
  compound_told _ _ (equal_elements u r vs closed none) =
      compound_fails mark.SetOpen (u ++ r) _ refl
      (rw ((items true 125 (unclosed total (35 ∷ 123 ∷ (u ++ r))) (inr (inr refl))).read u vs r closed, none))
  compound_told _ _ (equal_keys u r ps closed none) =
      compound_fails mark.DictionaryOpen (u ++ r) _ refl
      (rw ((entries (unclosed total (123 ∷ (u ++ r)))).read u ps r closed, none))

-- Where a value is due, behind a gap and annotations.
use Rattle.std.proofs.Common.{◌≡◌, ◌≢◌, ℕ, zero, suc, ◌-◌, ◌≤◌, Bool, List, [], ◌∷◌, ◌++◌, length, Result, Ok, Err}
use Rattle.std.proofs.Common.{refl, sym, ap, ◌∙◌}
use Rattle.std.proofs.Common.{subst, append_assoc, length-append, inl, inr, ◌⊎◌, arith}
use Rattle.std.proofs.lemmas.Bool.Decides.{eqb_tells}
use Rattle.pv_value.specs.Plain.{Plain}
use Rattle.pv_read.specs.Results.{Fault}
use Rattle.pv_read.specs.Lemmas.Binds.{told_ok, told_err}
use Rattle.pv_lex.specs.Gaps.{IsGap, after_blank}
use Rattle.pv_lex.specs.Lemmas.GapLaws.{gap_passed, gap_found, after_shorter, after_twice}
use Rattle.pv_lex.specs.declared.faults.TextKind.{TextKind}
use Rattle.pv_text.specs.Spells.{Spelling, BehindGap, Annotated, plainly, behind_annotation}
use Rattle.pv_text.specs.Stops.{Stopping, DueStops, ended, in_core, in_annotation, past_annotation, BehindGapStops}
use Rattle.pv_text.specs.Reading.{Reader, unclosed, due_at, behind_gap_at}
use Rattle.pv_text.specs.Lemmas.Begins.{CoreBegins, BeginsUnannotated, Starts, annotated_starts, behind_gap_begins}
use Rattle.pv_text.proofs.Steps.{inside, goes_on, due_fails, due_read}
use Rattle.pv_text.proofs.Readers.{result_is, Front, IsTrueOf, IsReader, SkipsGaps}

-- how values without annotations are read, where no gap and no annotation stands first
pub record ReadsCores (commas : Bool) (core : Reader Plain) (Core : Spelling Plain) (Stop : Stopping) : Type 0 where
  pub begins : CoreBegins commas Core
  pub tells : (b : ℕ) (bs : List ℕ) → after_blank commas (b ∷ bs) ≡ b ∷ bs → b ≢ 64
      → IsTrueOf Core Stop (b ∷ bs) (core (b ∷ bs))
  pub read : (t : List ℕ) (v : Plain) (r : List ℕ) → Core t v r → core (t ++ r) ≡ Ok (v, r)
  pub told : (bytes : List ℕ) (f : Fault TextKind) → Stop bytes f → (core bytes ≡ Err f)
      × BeginsUnannotated commas bytes

module _ (total : ℕ) (commas : Bool) (core : Reader Plain) (Core : Spelling Plain) (Stop : Stopping)
    (cores : ReadsCores commas core Core Stop) where
  abbrev due : ℕ → Fault TextKind → List ℕ → Reader Plain
  due k at_end pending bytes = due_at total core commas k at_end pending bytes

  abbrev Due : Spelling Plain
  Due t v r = Annotated Core commas t v r

  abbrev Stopped : Fault TextKind → Stopping
  Stopped at_end bytes f = DueStops total Core Stop commas at_end bytes f

  abbrev Answer : Type 0
  Answer = Result (Plain × List ℕ) (Fault TextKind)

  -- ---- what is told is true

  -- one value that is due stops, or it is spelled and this is so of what follows
  abbrev One : Fault TextKind → List ℕ → Answer → (Plain → List ℕ → Type 0) → Type 0
  One at_end bytes o Next =
      ((f : Fault TextKind) × Stopped at_end bytes f × (o ≡ Err f)) ⊎ ((w : Plain) × (m : List ℕ) × Front Due bytes w m
      × Next w m)

  -- the value that is due, and one for each of these places
  abbrev All : Fault TextKind → List ℕ → List ℕ → Answer → Type 0
  All at_end [] bytes o = One at_end bytes o (λ w m. o ≡ Ok (w, m))
  All at_end (p ∷ ps) bytes o = One at_end bytes o (λ w m. All (inside p) ps (after_blank commas m) o)

  starts : (a : List ℕ) (w : Plain) (m : List ℕ) → Due a w m → Starts commas (a ++ m) m
  starts = annotated_starts commas Core cores.begins

  -- the gap before a value
  gap_before : (bytes a : List ℕ) (w : Plain) (m : List ℕ) → after_blank commas bytes ≡ a ++ m → Due a w m
      → (g : List ℕ) × (bytes ≡ g ++ (a ++ m)) × IsGap commas g
  gap_before bytes a w m e h =
      let s = starts a w m h in
      let g = gap_found commas bytes s.first s.more (e ∙ s.is) in
      (g.0, g.1 ∙ ap (λ (y : List ℕ). g.0 ++ y) (sym s.is), g.2)

  -- an annotation and the value behind it are one value
  noted : (bs : List ℕ) (w : Plain) (m : List ℕ) (v : Plain) (r : List ℕ) → Front Due (after_blank commas bs) w m
      → Front Due (after_blank commas m) v r
      → Front Due (64 ∷ bs) v r
  noted bs w m v r (a, is, an) (t, is', more) =
      let g = gap_before bs a w m is an in
      let h = gap_before m t v r is' more in
      let inner : bs ≡ (g.0 ++ (a ++ (h.0 ++ t))) ++ r = g.1 ∙ ap (λ (y : List ℕ). g.0 ++ (a ++ y)) h.1
      ∙ sym (simp append_assoc) in (
        64 ∷ (g.0 ++ (a ++ (h.0 ++ t))),
        ap (λ (y : List ℕ). 64 ∷ y) inner,
        behind_annotation g.0 a h.0 t w v r g.2
            (subst (λ (y : List ℕ). Annotated Core commas a w y) h.1 an) h.2 more,
      )

  stopped_past : (at_end f : Fault TextKind) (bs : List ℕ) (w : Plain) (m : List ℕ)
      → Front Due (after_blank commas bs) w m
      → Stopped (unclosed total (64 ∷ bs)) (after_blank commas m) f → Stopped at_end (64 ∷ bs) f
  stopped_past at_end f bs w m (a, is, an) s =
      let g = gap_before bs a w m is an in
      subst (λ (y : List ℕ). Stopped at_end (64 ∷ y) f) (sym g.1)
      (past_annotation at_end f g.0 a m w g.2 an
      (subst (λ (y : List ℕ). Stopped (unclosed total (64 ∷ y)) (after_blank commas m) f) g.1 s))

  mark_one : (at_end : Fault TextKind) (bs : List ℕ) (o : Answer) (Next : Plain → List ℕ → Type 0)
      → One (unclosed total (64 ∷ bs)) (after_blank commas bs) o
      (λ w m. One (unclosed total (64 ∷ bs)) (after_blank commas m) o Next)
      → One at_end (64 ∷ bs) o Next
  mark_one at_end bs o Next (inl (f, s, q)) = inl (f, in_annotation at_end f bs s, q)
  mark_one at_end bs o Next (inr (w, m, front, inl (f, s, q))) = inl (f, stopped_past at_end f bs w m front s, q)
  mark_one at_end bs o Next (inr (w, m, front, inr (v, r, front', next))) =
      inr (v, r, noted bs w m v r front front', next)

  mark_all : (at_end : Fault TextKind) (pending bs : List ℕ) (o : Answer)
      → All (unclosed total (64 ∷ bs)) ((total - length (64 ∷ bs)) ∷ pending) (after_blank commas bs) o
      → All at_end pending (64 ∷ bs) o
  mark_all at_end [] bs o h = mark_one at_end bs o (λ w m. o ≡ Ok (w, m)) h
  mark_all at_end (p ∷ ps) bs o h = mark_one at_end bs o (λ w m. All (inside p) ps (after_blank commas m) o) h

  first_stops : (at_end f : Fault TextKind) (pending bytes : List ℕ) (o : Answer) → Stopped at_end bytes f → o ≡ Err f
      → All at_end pending bytes o
  first_stops at_end f [] bytes o s e = inl (f, s, e)
  first_stops at_end f (p ∷ ps) bytes o s e = inl (f, s, e)

  tells_all : (k : ℕ) (at_end : Fault TextKind) (pending bytes : List ℕ) → length bytes ≤ k
      → after_blank commas bytes ≡ bytes
      → All at_end pending bytes (due k at_end pending bytes)
  tells_all zero at_end pending [] l clear = first_stops at_end at_end pending [] (Err at_end) (ended at_end) refl
  tells_all zero at_end pending (b ∷ bs) l clear = absurd (omega arith)
  tells_all (suc k) at_end pending [] l clear = first_stops at_end at_end pending [] (Err at_end) (ended at_end) refl
  tells_all (suc k) at_end pending (b ∷ bs) l clear = elim (eqb_tells b 64) [
    | inl (t, c) ↦
        let rest = tells_all k (unclosed total (64 ∷ bs)) ((total - length (64 ∷ bs)) ∷ pending) (after_blank commas bs)
        (omega (arith, after_shorter commas bs, l)) (after_twice commas bs) in
        subst (λ (x : ℕ). All at_end pending (x ∷ bs) (due (suc k) at_end pending (x ∷ bs))) (sym c)
        (mark_all at_end pending bs (due k (unclosed total (64 ∷ bs)) ((total - length (64 ∷ bs)) ∷ pending)
        (after_blank commas bs)) rest)
    | inr (t, n) ↦ elim (result_is (core (b ∷ bs))) [
      | inr (f, c) ↦
          first_stops at_end f pending (b ∷ bs) _
          (in_core at_end f (b ∷ bs) (told_err _ _ (core (b ∷ bs)) f (cores.tells b bs clear n) c))
          (due_fails total commas core k at_end f pending b bs n c)
      | inl (x, c) ↦
          let front = told_ok _ _ (core (b ∷ bs)) x (cores.tells b bs clear n) c in
          let less = (cores.begins front.0 x.0 x.1 front.2).1 in
          behind pending x.0 x.1 (front.0, front.1, plainly front.0 x.0 x.1 front.2)
          (λ e ps. tells_all k e ps (after_blank commas x.1)
          (omega (arith, after_shorter commas x.1, less, ap length front.1, l)) (after_twice commas x.1))
          (due_read total commas core k at_end pending b bs x.0 x.1 n c)
    ]
  ]
    where
      behind : (pending : List ℕ) (v : Plain) (r : List ℕ) → Front Due (b ∷ bs) v r
          → ((e : Fault TextKind) (ps : List ℕ) → All e ps (after_blank commas r) (due k e ps (after_blank commas r)))
          → due (suc k) at_end pending (b ∷ bs) ≡ goes_on total commas core k pending v r
          → All at_end pending (b ∷ bs) (due (suc k) at_end pending (b ∷ bs))
      behind [] v r front again e = inr (v, r, front, e)
      behind (p ∷ ps) v r front again e =
          inr (
            v,
            r,
            front,
            subst (λ (o : Answer). All (inside p) ps (after_blank commas r) o) (sym e)
                (again (inside p) ps),
          )

  tells : (at_end : Fault TextKind) (bytes : List ℕ)
      → IsTrueOf (BehindGap commas Due) (BehindGapStops total Core Stop commas at_end) bytes
      (behind_gap_at total core commas at_end bytes)
  tells at_end bytes =
      by (behind_gap_at total core commas at_end bytes) (tells_all (length (after_blank commas bytes)) at_end []
      (after_blank commas bytes) (omega arith) (after_twice commas bytes))
    where
      by : (o : Answer) → All at_end [] (after_blank commas bytes) o
          → IsTrueOf (BehindGap commas Due) (BehindGapStops total Core Stop commas at_end) bytes o
      by o (inl (f, s, e)) =
          subst (λ (x : Answer). IsTrueOf (BehindGap commas Due) (BehindGapStops total Core Stop commas at_end) bytes
          x) (sym e) s
      by o (inr (v, r, (a, is, an), e)) =
          let g = gap_before bytes a v r is an in
          subst (λ (x : Answer). IsTrueOf (BehindGap commas Due) (BehindGapStops total Core Stop commas at_end) bytes
          x) (sym e)
          (g.0 ++ a, g.1 ∙ sym (append_assoc g.0 a r), (g.0, a, refl, g.2, an))

  -- ---- what is true is told

  skipped : (g a : List ℕ) (v : Plain) (r : List ℕ) → IsGap commas g → Due a v r
      → after_blank commas (g ++ (a ++ r)) ≡ a ++ r
  skipped g a v r gap h =
      let s = starts a v r h in
      gap_passed commas g (a ++ r) gap ∙ ap (after_blank commas) s.is ∙ s.stays ∙ sym s.is

  abbrev ComesTo : ℕ → Fault TextKind → List ℕ → List ℕ → Plain → List ℕ → Type 0
  ComesTo k at_end pending bytes v r =
      (j : ℕ) × (length r ≤ j) × (due k at_end pending bytes ≡ goes_on total commas core j pending v r)

  -- an annotation that is read, and then the value behind it
  past_mark : (k : ℕ) (at_end : Fault TextKind) (pending inner a : List ℕ) (w : Plain) (m : List ℕ) (v : Plain)
      (r : List ℕ) → after_blank commas inner ≡ a ++ m
      → ComesTo k (unclosed total (64 ∷ inner)) ((total - length (64 ∷ inner)) ∷ pending) (a ++ m) w m
      → ((j : ℕ) → length m ≤ j → ComesTo j (unclosed total (64 ∷ inner)) pending (after_blank commas m) v r)
      → ComesTo (suc k) at_end pending (64 ∷ inner) v r
  past_mark k at_end pending inner a w m v r e (j, l, is) next =
      let two = next j l in (
        two.0,
        two.1,
        ap (λ (y : List ℕ). due k (unclosed total (64 ∷ inner)) ((total - length (64 ∷ inner)) ∷ pending)
            y) e ∙ is ∙ two.2,
      )

  -- a value that is spelled is read, and what is due behind it goes on
  comes : (k : ℕ) (at_end : Fault TextKind) (pending a : List ℕ) (v : Plain) (r : List ℕ) → Due a v r
      → length (a ++ r) ≤ k → ComesTo k at_end pending (a ++ r) v r
  comes zero at_end pending a v r h l = absurd (omega (arith, (starts a v r h).shorter, l))
  comes (suc k) at_end pending a v r (plainly s w q c) l =
      let (b, less) = cores.begins s w q c in (
        k,
        omega (arith, less, l),
        ap (due (suc k) at_end pending) b.2
            ∙ due_read total commas core k at_end pending b.0 b.1 w q b.4 (ap core (sym b.2) ∙ cores.read s w q c),
      )
  comes (suc k) at_end pending t v r (behind_annotation g a h s w x q gap an gap' more) l =
      let shape : (g ++ (a ++ (h ++ s))) ++ q ≡ g ++ (a ++ (h ++ (s ++ q))) = simp append_assoc in
      past_mark k at_end pending ((g ++ (a ++ (h ++ s))) ++ q) a w (h ++ (s ++ q)) x q (ap (after_blank commas) shape
      ∙ skipped g a w (h ++ (s ++ q)) gap an)
      (comes k _ _ a w (h ++ (s ++ q)) an (omega (arith, ap length shape, length-append g (a ++ (h ++ (s ++ q))), l)))
      (λ j m. subst (λ (y : List ℕ). ComesTo j (unclosed total (64 ∷ ((g ++ (a ++ (h ++ s))) ++ q))) pending y x q)
      (sym (skipped h s x q gap' more)) (comes j (unclosed total (64 ∷ ((g ++ (a ++ (h ++ s))) ++ q))) pending s x q
      more (omega (arith, m, length-append h (s ++ q)))))

  nothing_due : (k : ℕ) (at_end : Fault TextKind) (pending : List ℕ) → due k at_end pending [] ≡ Err at_end
  nothing_due zero at_end pending = refl
  nothing_due (suc k) at_end pending = refl

  due_told : (k : ℕ) (at_end : Fault TextKind) (pending bytes : List ℕ) (f : Fault TextKind) → Stopped at_end bytes f
      → length bytes ≤ k → due k at_end pending bytes ≡ Err f
  due_told k at_end pending bytes f (ended ae) l = nothing_due k ae pending
  due_told zero at_end pending bytes f (in_core ae q by s) l =
      let h = cores.told by q s in absurd (omega (arith, ap length h.1.2, l))
  due_told (suc k) at_end pending bytes f (in_core ae q by s) l =
      let (e, b) = cores.told by q s in
      ap (due (suc k) ae pending) b.2 ∙ due_fails total commas core k ae q pending b.0 b.1 b.4 (ap core (sym b.2) ∙ e)
  due_told zero at_end pending bytes f (in_annotation ae q by d) l = absurd (omega (arith, l))
  due_told (suc k) at_end pending bytes f (in_annotation ae q by d) l =
      due_told k (unclosed total (64 ∷ by)) ((total - length (64 ∷ by)) ∷ pending) (after_blank commas by) q d
      (omega (arith, after_shorter commas by, l))
  due_told zero at_end pending bytes f (past_annotation ae q g a by w gap an d) l = absurd (omega (arith, l))
  due_told (suc k) at_end pending bytes f (past_annotation ae q g a by w gap an d) l =
      past_note k ae pending (g ++ (a ++ by)) a w by q (skipped g a w by gap an)
      (comes k _ _ a w by an (omega (arith, length-append g (a ++ by), l)))
      (λ j m. due_told j _ pending (after_blank commas by) q d (omega (arith, after_shorter commas by, m)))
    where
      past_note : (k : ℕ) (at_end : Fault TextKind) (pending inner a : List ℕ) (w : Plain) (m : List ℕ)
          (f : Fault TextKind) → after_blank commas inner ≡ a ++ m
          → ComesTo k (unclosed total (64 ∷ inner)) ((total - length (64 ∷ inner)) ∷ pending) (a ++ m) w m
          → ((j : ℕ) → length m ≤ j → due j (unclosed total (64 ∷ inner)) pending (after_blank commas m) ≡ Err f)
          → due (suc k) at_end pending (64 ∷ inner) ≡ Err f
      past_note k at_end pending inner a w m f e (j, l, is) next =
          ap (λ (y : List ℕ). due k (unclosed total (64 ∷ inner)) ((total - length (64 ∷ inner)) ∷ pending) y) e ∙ is
          ∙ next j l

  read : (at_end : Fault TextKind) (t : List ℕ) (v : Plain) (r : List ℕ) → BehindGap commas Due t v r
      → behind_gap_at total core commas at_end (t ++ r) ≡ Ok (v, r)
  read at_end t v r (g, a, is, gap, h) =
      let e : after_blank commas (t ++ r) ≡ a ++ r = ap (after_blank commas) (ap (λ (y : List ℕ). y ++ r) is
      ∙ append_assoc g a r) ∙ skipped g a v r gap h in
      ap (λ (y : List ℕ). due (length y) at_end [] y) e ∙ (comes (length (a ++ r)) at_end [] a v r h (omega arith)).2

  pub due_reads : (at_end : Fault TextKind) → IsReader (behind_gap_at total core commas at_end)
      (BehindGap commas (Annotated Core commas)) (BehindGapStops total Core Stop commas at_end)
  due_reads at_end = record {
    tells = tells at_end;
    read = read at_end;
    told = λ bytes f s. due_told (length (after_blank commas bytes)) at_end [] (after_blank commas bytes) f s
        (omega arith);
  }

  pub due_skips : (at_end : Fault TextKind) → SkipsGaps commas at_end (behind_gap_at total core commas at_end)
      (BehindGap commas (Annotated Core commas))
  due_skips at_end = record {
    skips = λ bytes. ap (λ (y : List ℕ). due (length y) at_end [] y) (after_twice commas bytes);
    ends = refl;
    begins = behind_gap_begins commas (Annotated Core commas) starts;
  }

-- Elements up to the close.
use Rattle.std.proofs.Common.{◌≡◌, ◌≢◌, ℕ, zero, suc, ◌≤◌, Bool, true, false, List, [], ◌∷◌, ◌++◌, length, Result, Ok}
use Rattle.std.proofs.Common.{Err, refl, sym, ap, ◌∙◌}
use Rattle.std.proofs.Common.{subst, append_assoc, append-nil, length-append, inl, inr, ◌⊎◌, arith}
use Rattle.std.proofs.lemmas.Bool.Decides.{eqb_tells}
use Rattle.pv_read.specs.Results.{Fault}
use Rattle.pv_read.specs.Elements.{elements_at}
use Rattle.pv_read.specs.Lemmas.Binds.{err, err_same}
use Rattle.pv_read.specs.Lemmas.Elements.{elements_none, elements_end, elements_first, elements_fail}
use Rattle.pv_read.specs.Lemmas.Fronts.{behind_front, behind_front_more}
use Rattle.pv_lex.specs.Gaps.{after_blank}
use Rattle.pv_lex.specs.Lemmas.GapLaws.{gap_passed, gap_found, after_shorter}
use Rattle.pv_lex.specs.declared.faults.TextKind.{TextKind}
use Rattle.pv_text.specs.Spells.{Spelling, Elements, IsClosed}
use Rattle.pv_text.specs.Stops.{Stopping, ElementsStop}
use Rattle.pv_text.specs.Reading.{Reader, closed_at}
use Rattle.pv_text.specs.Lemmas.Begins.{Begins}
use Rattle.pv_text.proofs.Readers.{list_is, result_is, Front, IsTrueOf, IsReader, SkipsGaps, found, stopped}

-- ---- what closes a compound

abbrev pub Closes : ℕ → Type 0
Closes close = (close ≡ 62) ⊎ ((close ≡ 93) ⊎ (close ≡ 125))

close_stays : (commas : Bool) (close : ℕ) (r : List ℕ) → Closes close → after_blank commas (close ∷ r) ≡ close ∷ r
close_stays commas close r h = elim h [
  | inl e ↦ at 62 (by commas refl refl) e
  | inr (inl e) ↦ at 93 (by commas refl refl) e
  | inr (inr e) ↦ at 125 (by commas refl refl) e
]
  where
    at : (n : ℕ) → after_blank commas (n ∷ r) ≡ n ∷ r → close ≡ n → after_blank commas (close ∷ r) ≡ close ∷ r
    at n s e = subst (λ (x : ℕ). after_blank commas (x ∷ r) ≡ x ∷ r) (sym e) s

    by : {n : ℕ} (c : Bool) → after_blank true (n ∷ r) ≡ n ∷ r → after_blank false (n ∷ r) ≡ n ∷ r
        → after_blank c (n ∷ r) ≡ n ∷ r
    by true p q = p
    by false p q = q

no_close : (commas : Bool) (close : ℕ) (bytes rest : List ℕ) → Closes close → (h : Begins commas bytes rest)
    → h.first ≢ close
no_close commas close bytes rest (inl e) h = λ q. h.open_record (q ∙ e)
no_close commas close bytes rest (inr (inl e)) h = λ q. h.open_sequence (q ∙ e)
no_close commas close bytes rest (inr (inr e)) h = λ q. h.open_set (q ∙ e)

module _ {A : Type 0} (commas : Bool) (close : ℕ) (at_end : Fault TextKind) (element : Reader A) (Element : Spelling A)
    (Stops : Stopping)
    (closes : Closes close) (reads : IsReader element Element Stops)
    (gaps : SkipsGaps commas at_end element Element) where
  abbrev elements : ℕ → Reader (List A)
  elements k bytes = elements_at (after_blank commas) close at_end element k bytes

  abbrev Closed : List ℕ → List A → List ℕ → Type 0
  Closed t xs r = IsClosed commas close Element t xs r

  abbrev Stopped : List ℕ → Fault TextKind → Type 0
  Stopped bytes f = ElementsStop commas close Element Stops bytes f

  -- the element behind the gap
  element_is : (bytes : List ℕ) (b : ℕ) (bs : List ℕ) → after_blank commas bytes ≡ b ∷ bs
      → element bytes ≡ element (b ∷ bs)
  element_is bytes b bs e = sym (gaps.skips bytes) ∙ ap element e

  -- ---- what is told is true

  stops_here : (bytes : List ℕ) (f : Fault TextKind) → ((r : List ℕ) → after_blank commas bytes ≡ close ∷ r → ⊥)
      → element bytes ≡ Err f → Stopped bytes f
  stops_here bytes f n e = ([], bytes, [], refl, refl, n, stopped element Element Stops reads bytes f e)

  closes_here : (bytes : List ℕ) (b : ℕ) (bs : List ℕ) → after_blank commas bytes ≡ b ∷ bs → b ≡ close
      → Front Closed bytes [] bs
  closes_here bytes b bs e c =
      let g = gap_found commas bytes b bs e in (
        g.0 ++ close ∷ [],
        g.1 ∙ ap (λ (x : ℕ). g.0 ++ x ∷ bs) c ∙ sym (append_assoc g.0 (close ∷ []) bs),
        ([], g.0, refl, g.2, refl),
      )

  one_more : (bytes : List ℕ) (x : A) (more : List ℕ) (xs : List A) (r : List ℕ) → Front Element bytes x more
      → Front Closed more xs r → Front Closed bytes (x ∷ xs) r
  one_more bytes x more xs r (a, is, e) (t, is', (u, g, shape, gap, es)) =
      let behind : more ≡ u ++ (g ++ close ∷ r) = is' ∙ ap (λ (y : List ℕ). y ++ r) shape ∙ simp append_assoc in (
        a ++ t,
        is ∙ ap (λ (y : List ℕ). a ++ y) is' ∙ sym (append_assoc a t r),
        (
          a ++ u,
          g,
          ap (λ (y : List ℕ). a ++ y) shape ∙ sym (append_assoc a u (g ++ close ∷ [])),
          gap,
          (a, u, refl, subst (λ (y : List ℕ). Element a x y) behind e, es),
        ),
      )

  stops_later : (bytes : List ℕ) (x : A) (more : List ℕ) (f : Fault TextKind) → Front Element bytes x more
      → Stopped more f → Stopped bytes f
  stops_later bytes x more f (a, is, e) (t, u, xs, is', es, n, s) = (
    a ++ t,
    u,
    x ∷ xs,
    is ∙ ap (λ (y : List ℕ). a ++ y) is'
        ∙ sym (append_assoc a t u),
    (a, t, refl, subst (λ (y : List ℕ). Element a x y) is' e, es),
    n,
    s,
  )

  later : (bytes : List ℕ) (x : A) (more : List ℕ) (o : Result (List A × List ℕ) (Fault TextKind))
      → Front Element bytes x more
      → IsTrueOf Closed Stopped more o → IsTrueOf Closed Stopped bytes (behind_front (x ∷ []) o)
  later bytes x more (Ok y) e h = one_more bytes x more y.0 y.1 e h
  later bytes x more (Err f) e h = stops_later bytes x more f e h

  tells : (k : ℕ) (bytes : List ℕ) → length bytes ≤ k → IsTrueOf Closed Stopped bytes (elements k bytes)
  tells zero [] l = stops_here [] at_end (λ r e. cc e) gaps.ends
  tells zero (b ∷ bs) l = absurd (omega arith)
  tells (suc k) bytes l = elim (list_is (after_blank commas bytes)) [
    | inl e ↦ so (Err at_end) (elements_none (after_blank commas) close at_end element (suc k) bytes e)
        (stops_here bytes at_end (λ r q. cc (sym e ∙ q)) (sym (gaps.skips bytes) ∙ ap element e ∙ gaps.ends))
    | inr (b, bs, e) ↦ elim (eqb_tells b close) [
      | inl (t, c) ↦ so (Ok ([], bs)) (elements_end (after_blank commas) close at_end element k bytes bs b e c)
          (closes_here bytes b bs e c)
      | inr (t, n) ↦ elim (result_is (element (b ∷ bs))) [
        | inr (f, c) ↦ so (Err f) (elements_fail (after_blank commas) close at_end element k bytes bs b f e n c)
            (stops_here bytes f (λ r q. n (cc (sym e ∙ q))) (element_is bytes b bs e ∙ c))
        | inl (x, c) ↦
            let front = found element Element Stops reads bytes x.0 x.1 (element_is bytes b bs e ∙ c) in
            let less = (gaps.begins front.0 x.0 x.1 front.2).shorter in
            so _ (elements_first (after_blank commas) close at_end element k bytes bs b x.0 x.1 e n c)
            (later bytes x.0 x.1 (elements k x.1) front (tells k x.1 (omega (arith, less, ap length front.1, l))))
      ]
    ]
  ]
    where
      so : (o : Result (List A × List ℕ) (Fault TextKind)) → elements (suc k) bytes ≡ o
          → IsTrueOf Closed Stopped bytes o → IsTrueOf Closed Stopped bytes (elements (suc k) bytes)
      so o e h = subst (λ (x : Result (List A × List ℕ) (Fault TextKind)). IsTrueOf Closed Stopped bytes x) (sym e) h

  -- ---- what is true is told

  -- elements that are spelled are read, and what follows them goes on
  past : (k : ℕ) (xs : List A) (t u : List ℕ) → Elements Element t xs u → length (t ++ u) ≤ k
      → (j : ℕ) × (length u ≤ j) × (elements k (t ++ u) ≡ behind_front xs (elements j u))
  past k [] t u is l =
      (k, omega (arith, length-append t u), ap (λ (y : List ℕ). elements k (y ++ u)) is ∙ none (elements k u))
    where
      none : (o : Result (List A × List ℕ) (Fault TextKind)) → o ≡ behind_front [] o
      none (Ok x) = refl
      none (Err f) = refl
  past zero (x ∷ xs) t u (a, w, is, e, more) l =
      let shape : t ++ u ≡ a ++ (w ++ u) = ap (λ (y : List ℕ). y ++ u) is ∙ append_assoc a w u in
      absurd (omega (arith, (gaps.begins a x (w ++ u) e).shorter, ap length shape, l))
  past (suc k) (x ∷ xs) t u (a, w, is, e, more) l =
      let shape : t ++ u ≡ a ++ (w ++ u) = ap (λ (y : List ℕ). y ++ u) is ∙ append_assoc a w u in
      let b = gaps.begins a x (w ++ u) e in
      let ahead : after_blank commas (t ++ u) ≡ b.first ∷ b.more = ap (after_blank commas) shape ∙ b.is in
      let one : element (b.first ∷ b.more) ≡ Ok (x, w ++ u) = sym (element_is (t ++ u) b.first b.more ahead)
      ∙ ap element shape ∙ reads.read a x (w ++ u) e in
      let first = elements_first (after_blank commas) close at_end element k (t ++ u) b.more b.first x (w ++ u) ahead
      (no_close commas close (a ++ (w ++ u)) (w ++ u) closes b) one in
      let rest = past k xs w u more (omega (arith, ap length shape, b.shorter, l)) in (
        rest.0,
        rest.1,
        first ∙ ap (λ (o : Result (List A × List ℕ) (Fault TextKind)). behind_front (x ∷ []) o) rest.2
            ∙ sym (behind_front_more (x ∷ []) xs (elements rest.0 u)),
      )

  read : (t : List ℕ) (xs : List A) (r : List ℕ) → Closed t xs r → closed_at commas close at_end element (t ++ r) ≡ Ok
      (xs, r)
  read t xs r (u, g, is, gap, es) =
      let shape : t ++ r ≡ u ++ (g ++ close ∷ r) = ap (λ (y : List ℕ). y ++ r) is ∙ simp append_assoc in
      let rest = past (length (t ++ r)) xs u (g ++ close ∷ r) es (omega (arith, ap length shape)) in
      ap (λ (y : List ℕ). elements (length (t ++ r)) y) shape ∙ rest.2 ∙ at_close rest.0 rest.1
    where
      at_close : (j : ℕ) → length (g ++ close ∷ r) ≤ j → behind_front xs (elements j (g ++ close ∷ r)) ≡ Ok (xs, r)
      at_close zero m = absurd (omega (arith, length-append g (close ∷ r)))
      at_close (suc j) m =
          ap (λ (o : Result (List A × List ℕ) (Fault TextKind)). behind_front xs o)
          (elements_end (after_blank commas) close at_end element j (g ++ close ∷ r) r close
          (gap_passed commas g (close ∷ r) gap ∙ close_stays commas close r closes) refl)
          ∙ ap (λ (ys : List A). Ok (ys, r)) (append-nil xs)

  told : (bytes : List ℕ) (f : Fault TextKind) → Stopped bytes f → closed_at commas close at_end element bytes ≡ Err f
  told bytes f (t, u, xs, is, es, n, s) =
      let rest = past (length bytes) xs t u es (omega (arith, ap length is)) in
      ap (λ (y : List ℕ). elements (length bytes) y) is ∙ rest.2
      ∙ ap (λ (o : Result (List A × List ℕ) (Fault TextKind)). behind_front xs o) (here rest.0 rest.1)
    where
      here : (k : ℕ) → length u ≤ k → elements k u ≡ Err f
      here k l = elim (list_is (after_blank commas u)) [
        | inl e ↦
            elements_none (after_blank commas) close at_end element k u e
            ∙ ap (λ (q : Fault TextKind). err {A = List A × List ℕ} q)
            (err_same {A = A × List ℕ} at_end f (sym (gaps.ends) ∙ ap element (sym e) ∙ gaps.skips u
            ∙ reads.told u f s))
        | inr (b, bs, e) ↦ by k b bs e l
      ]
        where
          by : (k b : ℕ) (bs : List ℕ) → after_blank commas u ≡ b ∷ bs → length u ≤ k → elements k u ≡ Err f
          by zero b bs e l = absurd (omega (arith, after_shorter commas u, ap length e, l))
          by (suc k) b bs e l =
              elements_fail (after_blank commas) close at_end element k u bs b f e
              (λ c. n bs (e ∙ ap (λ (x : ℕ). x ∷ bs) c)) (sym (element_is u b bs e) ∙ reads.told u f s)

  pub closed_reads : IsReader (closed_at commas close at_end element) (IsClosed commas close Element)
      (ElementsStop commas close Element Stops)
  closed_reads = record { tells = λ bytes. tells (length bytes) bytes (omega arith); read = read; told = told }

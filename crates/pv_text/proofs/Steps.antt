-- One step where a value is due, and the loop that takes these steps.
use Rattle.std.specs.Prelude.{reverse}
use Rattle.std.proofs.lemmas.List.{reverse-append}
use Rattle.std.proofs.Common.{◌≡◌, ◌≢◌, ℕ, zero, suc, ◌+◌, ◌-◌, ◌<◌, Bool, List, [], ◌∷◌, ◌++◌, length, Result, Ok, Err}
use Rattle.std.proofs.Common.{refl, sym, ap, ◌∙◌, append-nil, arith}
use Rattle.std.proofs.lemmas.Bool.{ne_eqb}
use Rattle.pv_value.specs.Plain.{Plain}
use Rattle.pv_read.specs.Results.{Fault}
use Rattle.pv_read.specs.Elements.{elements_at}
use Rattle.pv_read.specs.Lemmas.Elements.{elements_none, elements_end, elements_fail, elements_step}
use Rattle.pv_read.specs.Lemmas.Fronts.{behind_front}
use Rattle.pv_lex.specs.Gaps.{after_blank}
use Rattle.pv_lex.specs.declared.faults.TextKind.{TextKind}
use Rattle.pv_lex.specs.declared.faults.TextKind.TheVariants.{Unclosed}
use Rattle.pv_text.specs.Reading.{Reader, unclosed, due_at, behind_gap_at, closed_at, core_at, deeper_at, value_at}

abbrev pub inside : ℕ → Fault TextKind
inside p = record { kind = Unclosed; place = p }

module _ (total : ℕ) (commas : Bool) (core : Reader Plain) where
  abbrev due : ℕ → Fault TextKind → List ℕ → Reader Plain
  due k at_end pending bytes = due_at total core commas k at_end pending bytes

  -- what comes behind a value that was due, before those that are due to these places
  abbrev pub goes_on : ℕ → List ℕ → Plain → List ℕ → Result (Plain × List ℕ) (Fault TextKind)
  goes_on k [] v r = Ok (v, r)
  goes_on k (p ∷ ps) v r = due_at total core commas k (inside p) ps (after_blank commas r)

  pub due_fails : (k : ℕ) (at_end f : Fault TextKind) (pending : List ℕ) (b : ℕ) (bs : List ℕ) → b ≢ 64
      → core (b ∷ bs) ≡ Err f
      → due (suc k) at_end pending (b ∷ bs) ≡ Err f
  due_fails k at_end f pending b bs n h = rw (due_at, ne_eqb b 64 n, h)

  pub due_read : (k : ℕ) (at_end : Fault TextKind) (pending : List ℕ) (b : ℕ) (bs : List ℕ) (v : Plain) (r : List ℕ)
      → b ≢ 64
      → core (b ∷ bs) ≡ Ok (v, r) → due (suc k) at_end pending (b ∷ bs) ≡ goes_on k pending v r
  due_read k at_end [] b bs v r n h = rw (due_at, ne_eqb b 64 n, h)
  due_read k at_end (p ∷ ps) b bs v r n h = rw (due_at, ne_eqb b 64 n, h)

-- a value is what is behind a gap and annotations
pub value_is : (total d : ℕ) (c : Bool) (at_end : Fault TextKind)
    → behind_gap_at total (core_at total (deeper_at total d c)) c at_end ≡ value_at total d c at_end
unfolding value_at
value_is total zero c at_end = refl
value_is total (suc d) c at_end = refl

pub no_items : {A : Type 0} (xs : List A) → length xs ≡ 0 → xs ≡ []
no_items [] e = refl
no_items (x ∷ xs) e = cc

-- ---- the loop of read_value, whose stack of places has its top at the end

module _ (total d : ℕ) (commas : Bool) (at_first : Fault TextKind) (bytes : List ℕ) where
  abbrev core : Reader Plain
  core = core_at total (deeper_at total d commas)

  -- what is left to do leads to the value
  abbrev pub Leads : ℕ → Fault TextKind → List ℕ → List ℕ → Type 0
  Leads n at_end pending whole =
      due_at total (core_at total (deeper_at total d commas)) commas n at_end (reverse pending) whole ≡ value_at total d
      commas at_first bytes

  pub leads_first : (n : ℕ) (whole : List ℕ) → n ≡ length whole → whole ≡ after_blank commas bytes
      → Leads n at_first [] whole
  leads_first n whole l e =
      ap (λ (k : ℕ). due_at total core commas k at_first [] whole) l
      ∙ ap (λ (y : List ℕ). due_at total core commas (length y) at_first [] y) e
      ∙ ap (λ (r : Reader Plain). r bytes) (value_is total d commas at_first)

  pub leads_to_end : (n : ℕ) (at_end : Fault TextKind) (pending whole : List ℕ) → Leads n at_end pending whole
      → length whole ≡ 0
      → value_at total d commas at_first bytes ≡ Err at_end
  leads_to_end n at_end pending whole i z =
      sym i ∙ ap (due_at total core commas n at_end (reverse pending)) (no_items whole z) ∙ none n
    where
      none : (n : ℕ) → due_at total core commas n at_end (reverse pending) [] ≡ Err at_end
      none zero = refl
      none (suc n) = refl

  pub leads_nowhere : (at_end : Fault TextKind) (pending whole : List ℕ) (n : ℕ) → Leads n at_end pending whole → n ≡ 0
      → value_at total d commas at_first bytes ≡ Err at_end
  leads_nowhere at_end pending whole zero i z = sym i
  leads_nowhere at_end pending whole (suc n) i z = cc

  pub leads_to_fault : (n : ℕ) (at_end : Fault TextKind) (pending whole after : List ℕ) (b : ℕ) (f : Fault TextKind)
      → Leads n at_end pending whole → 0 < n
      → whole ≡ b ∷ after → (b ≡ 64 → ⊥) → core_at total (deeper_at total d commas) whole ≡ Err f
      → value_at total d commas at_first bytes ≡ Err f
  leads_to_fault zero at_end pending whole after b f i h w t c = absurd (omega (arith, h))
  leads_to_fault (suc k) at_end pending whole after b f i h w t c =
      sym i ∙ ap (due_at total core commas (suc k) at_end (reverse pending)) w
      ∙ due_fails total commas core k at_end f (reverse pending) b after t (ap core (sym w) ∙ c)

  -- behind a value that was read
  pub leads_on : (n m : ℕ) (at_end : Fault TextKind) (pending whole after : List ℕ) (b : ℕ) (v : Plain) (r : List ℕ)
      → Leads n at_end pending whole → m + 1 ≡ n
      → whole ≡ b ∷ after → (b ≡ 64 → ⊥) → core_at total (deeper_at total d commas) whole ≡ Ok (v, r)
      → goes_on total commas core m (reverse pending) v r ≡ value_at total d commas at_first bytes
  leads_on zero m at_end pending whole after b v r i h w t c = absurd (omega (arith, h))
  leads_on (suc k) m at_end pending whole after b v r i h w t c =
      let same : m ≡ k = omega (arith, h) in
      ap (λ (x : ℕ). goes_on total commas core x (reverse pending) v r) same
      ∙ sym (due_read total commas core k at_end (reverse pending) b after v r t (ap core (sym w) ∙ c))
      ∙ ap (due_at total core commas (suc k) at_end (reverse pending)) (sym w) ∙ i

  pub leads_to_value : (m : ℕ) (pending : List ℕ) (v : Plain) (r : List ℕ)
      → goes_on total commas core m (reverse pending) v r ≡ value_at total d commas at_first bytes
      → pending ≡ [] → value_at total d commas at_first bytes ≡ Ok (v, r)
  leads_to_value m pending v r i p = sym i ∙ ap (λ (q : List ℕ). goes_on total commas core m (reverse q) v r) p

  pub leads_past_value : (m : ℕ) (pending less : List ℕ) (p : ℕ) (v : Plain) (r next : List ℕ)
      → goes_on total commas core m (reverse pending) v r ≡ value_at total d commas at_first bytes
      → pending ≡ less ++ p ∷ [] → next ≡ after_blank commas r
      → Leads m (inside p) less next
  leads_past_value m pending less p v r next i q e =
      let top : reverse pending ≡ p ∷ reverse less = ap reverse q ∙ reverse-append less (p ∷ []) in
      ap (due_at total core commas m (inside p) (reverse less)) e
      ∙ sym (ap (λ (x : List ℕ). goes_on total commas core m x v r) top) ∙ i

  pub leads_into_annotation : (n m : ℕ) (at_end : Fault TextKind) (pending more whole after next : List ℕ) (b p : ℕ)
      → Leads n at_end pending whole → m + 1 ≡ n
      → whole ≡ b ∷ after → b ≡ 64 → p ≡ total - length whole → more ≡ pending ++ p ∷ []
      → next ≡ after_blank commas after → Leads m (inside p) more next
  leads_into_annotation zero m at_end pending more whole after next b p i h w t is q e = absurd (omega (arith, h))
  leads_into_annotation (suc k) m at_end pending more whole after next b p i h w t is q e =
      let mark : whole ≡ 64 ∷ after = w ∙ ap (λ (x : ℕ). x ∷ after) t in
      let here : p ≡ total - length (64 ∷ after) = is ∙ ap (λ (x : List ℕ). total - length x) mark in
      let top : reverse more ≡ p ∷ reverse pending = ap reverse q ∙ reverse-append pending (p ∷ []) in
      let same : m ≡ k = omega (arith, h) in
      ap (due_at total core commas m (inside p) (reverse more)) e
      ∙ ap (λ (q : List ℕ). due_at total core commas m (inside p) q (after_blank commas after)) top
      ∙ ap (λ (x : ℕ). due_at total core commas m (inside x) (x ∷ reverse pending) (after_blank commas after)) here
      ∙ ap (λ (y : ℕ). due_at total core commas y (unclosed total (64 ∷ after))
      ((total - length (64 ∷ after)) ∷ reverse pending) (after_blank commas after)) same
      ∙ ap (due_at total core commas (suc k) at_end (reverse pending)) (sym mark) ∙ i

-- ---- the loops over elements

module _ {A : Type 0} (commas : Bool) (close : ℕ) (at_end : Fault TextKind) (element : Reader A) (bytes : List ℕ) where
  abbrev elements : ℕ → Reader (List A)
  elements n rest = elements_at (after_blank commas) close at_end element n rest

  -- what was read and what is left lead to what all is
  abbrev pub Gathers : ℕ → List A → List ℕ → Type 0
  Gathers n front rest =
      behind_front front (elements_at (after_blank commas) close at_end element n rest) ≡ closed_at commas close at_end
      element bytes

  pub gathers_end : (n : ℕ) (front : List A) (rest next : List ℕ) → Gathers n front rest
      → next ≡ after_blank commas rest → length next ≡ 0
      → closed_at commas close at_end element bytes ≡ Err at_end
  gathers_end n front rest next i e z =
      sym i ∙ ap (λ (o : Result (List A × List ℕ) (Fault TextKind)). behind_front front o)
      (elements_none (after_blank commas) close at_end element n rest (sym e ∙ no_items next z))

  pub gathers_all : (n : ℕ) (front : List A) (rest next after : List ℕ) (b : ℕ) → Gathers n front rest → 0 < n
      → next ≡ after_blank commas rest
      → next ≡ b ∷ after → b ≡ close → closed_at commas close at_end element bytes ≡ Ok (front, after)
  gathers_all zero front rest next after b i h e w c = absurd (omega (arith, h))
  gathers_all (suc k) front rest next after b i h e w c =
      sym i ∙ ap (λ (o : Result (List A × List ℕ) (Fault TextKind)). behind_front front o)
      (elements_end (after_blank commas) close at_end element k rest after b (sym e ∙ w) c)
      ∙ ap (λ (xs : List A). Ok (xs, after)) (append-nil front)

  pub gathers_fault : (n : ℕ) (front : List A) (rest next after : List ℕ) (b : ℕ) (f : Fault TextKind)
      → Gathers n front rest → 0 < n → next ≡ after_blank commas rest
      → next ≡ b ∷ after → (b ≡ close → ⊥) → element next ≡ Err f → closed_at commas close at_end element bytes ≡ Err f
  gathers_fault zero front rest next after b f i h e w n c = absurd (omega (arith, h))
  gathers_fault (suc k) front rest next after b f i h e w n c =
      sym i ∙ ap (λ (o : Result (List A × List ℕ) (Fault TextKind)). behind_front front o)
      (elements_fail (after_blank commas) close at_end element k rest after b f (sym e ∙ w) n (ap element (sym w) ∙ c))

  pub gathers_more : (n m : ℕ) (front new : List A) (rest next after : List ℕ) (b : ℕ) (x : A) (more : List ℕ)
      → Gathers n front rest → m + 1 ≡ n
      → next ≡ after_blank commas rest → next ≡ b ∷ after → (b ≡ close → ⊥) → element next ≡ Ok (x, more)
      → new ≡ front ++ x ∷ [] → Gathers m new more
  gathers_more n m front new rest next after b x more i h e w c r is =
      elements_step (after_blank commas) close at_end element n m front new rest after b x more _ i h (sym e ∙ w) c
      (ap element (sym w) ∙ r) is

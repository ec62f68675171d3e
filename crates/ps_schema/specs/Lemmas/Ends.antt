-- How many names a walk has not seen, and that each way at one value ends.
use Rattle.std.specs.Prelude.{◌≡◌, ◌≤◌, ◌<◌, ℕ, zero, suc, Bool, true, false, ◌||◌, List, [], ◌∷◌, ◌++◌, length}
use Rattle.std.specs.Prelude.{Option, Some, None, refl, cond}
use Rattle.std.proofs.Common.{arith, ap, sym, ◌∙◌}
use Rattle.std.specs.Str.{bytes_eq}
use Rattle.std.proofs.lemmas.Slice.Eq.{bytes_eq-Decides}
use Rattle.ps_schema.specs.Patterns.{PlainPattern, reference}
use Rattle.ps_schema.specs.Patterns.{one_of, all_of, PlainPatterns, no_patterns, then_pattern}
use Rattle.ps_schema.specs.Names.{knows, pattern_under, first_of, missing, missing_in_all, missing_from}
use Rattle.ps_schema.specs.Schemas.{asks, one_asks, asked_by, leads, IsWay, IsSchema}
use Rattle.ps_schema.specs.Seen.{among, one_unless, unseen}
use Rattle.ps_schema.specs.Laws.{EndsWithin, WaysEnd}
use Rattle.ps_schema.specs.declared.Definition.{Definition}

-- ---- tests

pub decide : (b : Bool) (P : Type 0) → (b ≡ true → P) → (b ≡ false → P) → P
decide true P f g = f refl
decide false P f g = g refl

pub either_side : (a b : Bool) → (a || b) ≡ true → a ≡ false → b ≡ true
either_side true b h n = absurd cc
either_side false b h n = h

pub no_is_not_yes : (b : Bool) → b ≡ true → b ≡ false → ⊥
no_is_not_yes b y n = cc

pub same_name : (a b : List ℕ) → bytes_eq a b ≡ true → a ≡ b
same_name a b e = (bytes_eq-Decides a b).0 e

pub its_own_name : (a : List ℕ) → bytes_eq a a ≡ true
its_own_name a = (bytes_eq-Decides a a).1 refl

-- ---- how many names are not seen

no_more_unless : (b c : Bool) → (b ≡ true → c ≡ true) → one_unless c ≤ one_unless b
no_more_unless true true f = omega arith
no_more_unless false true f = omega arith
no_more_unless true false f = let e : false ≡ true = f refl in absurd cc
no_more_unless false false f = omega arith

pub unseen_no_more : (ds : List Definition) (bs cs : List (List ℕ))
    → ((a : List ℕ) → among bs a ≡ true → among cs a ≡ true) → unseen ds cs ≤ unseen ds bs
unseen_no_more [] bs cs f = omega arith
unseen_no_more (d ∷ ds) bs cs f =
    omega (arith, no_more_unless (among bs d.name) (among cs d.name) (f d.name), unseen_no_more ds bs cs f)

pub unseen_less : (ds : List Definition) (bs cs : List (List ℕ))
    → ((a : List ℕ) → among bs a ≡ true → among cs a ≡ true)
    → (a : List ℕ) → among bs a ≡ false → among cs a ≡ true → knows ds a ≡ true → unseen ds cs < unseen ds bs
unseen_less [] bs cs f a n y k = absurd cc
unseen_less (d ∷ ds) bs cs f a n y k =
    decide (bytes_eq d.name a) (unseen (d ∷ ds) cs < unseen (d ∷ ds) bs)
    (λ e. omega (
      arith,
      ap one_unless (ap (among cs) (same_name d.name a e) ∙ y),
      ap one_unless (ap (among bs) (same_name d.name a e) ∙ n),
      unseen_no_more ds bs cs f,
    ))
    (λ e. omega (
      arith,
      no_more_unless (among bs d.name) (among cs d.name) (f d.name),
      unseen_less ds bs cs f a n y (either_side (bytes_eq d.name a) (knows ds a) k e),
    ))

pub unseen_at_most : (ds : List Definition) (bs : List (List ℕ)) → unseen ds bs ≤ length ds
unseen_at_most [] bs = omega arith
unseen_at_most (d ∷ ds) bs = omega (arith, unseen_at_most ds bs, one (among bs d.name))
  where
    one : (b : Bool) → one_unless b ≤ 1
    one true = omega arith
    one false = omega arith

-- ---- names that lead somewhere have definitions, and so have those to which they lead

pub known_by_pattern : (ds : List Definition) (a : List ℕ) (p : PlainPattern) → pattern_under ds a ≡ Some p
    → knows ds a ≡ true
known_by_pattern [] a p e = absurd cc
known_by_pattern (d ∷ ds) a p e =
    decide (bytes_eq d.name a) (knows (d ∷ ds) a ≡ true) (λ t. rw t refl)
    (λ t. rw t (known_by_pattern ds a p (rw t at e)))

pub first_none : (o q : Option (List ℕ)) → first_of o q ≡ None → (o ≡ None) × (q ≡ None)
first_none None q e = (refl, e)
first_none (Some a) q e = absurd cc

pub missing_none : (ds es : List Definition) (a : List ℕ) (p : PlainPattern) → missing_from ds es ≡ None
    → pattern_under es a ≡ Some p → missing ds p ≡ None
missing_none ds [] a p m e = absurd cc
missing_none ds (d ∷ es) a p m e =
    let both : (missing ds d.pattern ≡ None) × (missing_from ds es ≡ None) =
    first_none (missing ds d.pattern) (missing_from ds es) m in
    decide (bytes_eq d.name a) (missing ds p ≡ None)
    (λ t. let f : Some d.pattern ≡ Some p = rw t at e in
    let g : d.pattern ≡ p = cc in
    ap (missing ds) (sym g) ∙ both.0)
    (λ t. missing_none ds es a p both.1 (rw t at e))

known_unless : (b : Bool) (a : List ℕ) → cond {A = Option (List ℕ)} b None (Some a) ≡ None → b ≡ true
known_unless true a e = refl
known_unless false a e = absurd cc

mutual
  pub asked_known : (ds : List Definition) (p : PlainPattern) (a : List ℕ) → missing ds p ≡ None → asks p a ≡ true
      → knows ds a ≡ true
  asked_known ds (reference b) a m e =
      ap (knows ds) (sym (same_name b a e)) ∙ known_unless (knows ds b) b m
  asked_known ds (one_of ps) a m e = one_asked_known ds ps a m e
  asked_known ds (all_of ps) a m e = one_asked_known ds ps a m e
  asked_known ds p a m e = absurd cc

  one_asked_known : (ds : List Definition) (ps : PlainPatterns) (a : List ℕ) → missing_in_all ds ps ≡ None
      → one_asks ps a ≡ true → knows ds a ≡ true
  one_asked_known ds no_patterns a m e = absurd cc
  one_asked_known ds (then_pattern p ps) a m e =
      let both : (missing ds p ≡ None) × (missing_in_all ds ps ≡ None) =
      first_none (missing ds p) (missing_in_all ds ps) m in
      decide (asks p a) (knows ds a ≡ true) (λ t. asked_known ds p a both.0 t)
      (λ t. one_asked_known ds ps a both.1 (either_side (asks p a) (one_asks ps a) e t))

-- ---- ways

pub way_on : (ds : List Definition) (a : List ℕ) (cs : List (List ℕ)) (b c : List ℕ) → IsWay ds a cs b
    → leads ds b c ≡ true → IsWay ds a (cs ++ b ∷ []) c
way_on ds a [] b c w e = (w, e)
way_on ds a (d ∷ cs) b c w e = (w.0, way_on ds d cs b c w.1 e)

abbrev LeadAll : List Definition → List (List ℕ) → PlainPattern → Type 0
LeadAll ds bs p = (b c : List ℕ) → among bs b ≡ true → asks p c ≡ true → (cs : List (List ℕ)) × IsWay ds b cs c

-- names that lead to all that a pattern asks for lead, with the one asked for, to all that its own pattern asks for
lead_on : (ds : List Definition) (bs : List (List ℕ)) (p : PlainPattern) (a : List ℕ) (q : PlainPattern)
    → LeadAll ds bs p → asks p a ≡ true → pattern_under ds a ≡ Some q → LeadAll ds (a ∷ bs) q
lead_on ds bs p a q w e u b c m f = by (bytes_eq a b) refl
  where
    step : leads ds a c ≡ true
    step = ap (λ (o : Option PlainPattern). asked_by o c) u ∙ f

    by : (t : Bool) → bytes_eq a b ≡ t → (cs : List (List ℕ)) × IsWay ds b cs c
    by true t = ([], ap (λ (n : List ℕ). leads ds n c) (sym (same_name a b t)) ∙ step)
    by false t =
        let way = w b a (either_side (bytes_eq a b) (among bs b) m t) e in
        (way.0 ++ a ∷ [], way_on ds b way.0 a c way.1 step)

among_more : (a : List ℕ) (bs : List (List ℕ)) (b : List ℕ) → among bs b ≡ true → among (a ∷ bs) b ≡ true
among_more a bs b h = by (bytes_eq a b)
  where
    by : (t : Bool) → (t || among bs b) ≡ true
    by true = refl
    by false = h

among_first : (a : List ℕ) (bs : List (List ℕ)) → among (a ∷ bs) a ≡ true
among_first a bs = rw (its_own_name a) refl

-- one more name is seen, unless it leads back to itself
fewer : (ds : List Definition) → IsSchema ds → (bs : List (List ℕ)) (p : PlainPattern) (a : List ℕ)
    → LeadAll ds bs p → missing ds p ≡ None → asks p a ≡ true → unseen ds (a ∷ bs) < unseen ds bs
fewer ds s bs p a w m e = by (among bs a) refl
  where
    by : (t : Bool) → among bs a ≡ t → unseen ds (a ∷ bs) < unseen ds bs
    by true t = absurd (s.guarded a (w a a t e))
    by false t =
        unseen_less ds bs (a ∷ bs) (among_more a bs) a t (among_first a bs) (asked_known ds p a m e)

ends : (ds : List Definition) → IsSchema ds → (k : ℕ) (bs : List (List ℕ)) (p : PlainPattern) → LeadAll ds bs p
    → missing ds p ≡ None → unseen ds bs ≤ k → EndsWithin ds k p
ends ds s zero bs p w m h = λ a e. absurd (omega (arith, fewer ds s bs p a w m e))
ends ds s (suc k) bs p w m h = λ a q e u.
    ends ds s k (a ∷ bs) q (lead_on ds bs p a q w e u) (missing_none ds ds a q s.closed u)
    (omega (arith, fewer ds s bs p a w m e))

pub ways_end : WaysEnd
ways_end ds s a p u =
    ends ds s (length ds) [] p (λ b c m e. absurd (no_is_not_yes false m refl)) (missing_none ds ds a p s.closed u)
    (unseen_at_most ds [])

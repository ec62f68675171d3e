-- What the gatekeeper wants changes with the first row of a value that asks, and with the last.
use Rattle.std.proofs.Common.{◌≡◌, List, [], ◌∷◌, ◌++◌, map, Bool, true, false, cond, ◌&&◌, ◌||◌, not}
use Rattle.std.proofs.Common.{refl, ap, sym, ◌∙◌, subst}
use Rattle.std.specs.List.{filter}
use Rattle.std.specs.List.Sorted.{IsStrictlySortedBy}
use Rattle.std.proofs.lemmas.Map.Views.{any-filter_same}
use Rattle.pv_value.specs.Plain.{Plain}
use Rattle.pv_value.specs.Order.{order}
use Rattle.pv_value.specs.Sets.{ascending_by}
use Rattle.pv_value.specs.WellFormed.{Ascend}
use Rattle.pv_words.specs.Lemmas.Same.{same_is, same_self}
use Rattle.pv_words.specs.Parts.{same}
use Rattle.ds_space.specs.Changes.{among, without, changes}
use Rattle.ds_space.specs.declared.space.Change.TheVariants.{Left, Came}
use Rattle.ds_space.specs.Lemmas.Lists.{unique, ascending_any, in_order}
use Rattle.ac_watch.specs.Lemmas.Alone.{among_without, without_ascends, ascend_nothing}
use Rattle.ac_watch.specs.Lemmas.Rows.{IsLonger}
use Rattle.ac_world.specs.Behaviours.{asks}

abbrev pub asked : List Plain → List Plain
asked vs = ascending_by order (filter asks vs)

-- the keys are the values that ask
pub among_asked : (q : Plain) (vs : List Plain) → among q (asked vs) ≡ (asks q && among q vs)
among_asked q vs =
    ascending_any (same q) (filter asks vs)
    ∙ any-filter_same (same q) asks (asks q) (λ k e. ap asks (sym (same_is q k e))) vs

asked_ascends : (ks ls : List Plain) → Ascend (without (asked ks) (asked ls))
asked_ascends ks ls =
    without_ascends (asked ks) (asked ls) (in_order (filter asks ks)) (in_order (filter asks ls))

ascend_one : (v : Plain) (b : Bool) → Ascend (cond b (v ∷ []) [])
unfolding IsStrictlySortedBy
ascend_one v true = (tt, tt)
ascend_one v false = tt

-- ---- no value more or less

pub no_changes : (vs : List Plain) → changes (asked vs) (asked vs) ≡ []
no_changes vs = λ i. map Left (none i) ++ map Came (none i)
  where
    neither : (b : Bool) → (not b && b) ≡ false
    neither true = refl
    neither false = refl

    none : without (asked vs) (asked vs) ≡ []
    none =
        unique (without (asked vs) (asked vs)) [] (asked_ascends vs vs) ascend_nothing
        (λ q. among_without q (asked vs) (asked vs) ∙ neither (among q (asked vs)))

-- ---- a value more

module _ (v : Plain) (less more : List Plain) (longer : IsLonger v less more) where
  abbrev is_new : Bool
  is_new = asks v && not (among v less)

  none_less : without (asked less) (asked more) ≡ []
  none_less = unique (without (asked less) (asked more)) [] (asked_ascends less more) ascend_nothing (λ q. at q)
    where
      at : (q : Plain) → among q (without (asked less) (asked more)) ≡ false
      at q =
          among_without q (asked less) (asked more)
          ∙ (λ i. not ((among_asked q more ∙ ap (λ b. asks q && b) (longer (same q))) i) && among_asked q less i)
          ∙ by (asks q) (same q v) (among q less)
        where
          by : (a s b : Bool) → (not (a && (s || b)) && (a && b)) ≡ false
          by true true b = refl
          by true false true = refl
          by true false false = refl
          by false s b = refl

  one_more : without (asked more) (asked less) ≡ cond is_new (v ∷ []) []
  one_more =
      unique (without (asked more) (asked less)) (cond is_new (v ∷ []) []) (asked_ascends more less)
      (ascend_one v is_new) (λ q. at q)
    where
      at : (q : Plain) → among q (without (asked more) (asked less)) ≡ among q (cond is_new (v ∷ []) [])
      at q =
          among_without q (asked more) (asked less)
          ∙ (λ i. not (among_asked q less i) && (among_asked q more ∙ ap (λ b. asks q && b) (longer (same q))) i)
          ∙ by (same q v) refl
        where
          other : (a b : Bool) → (not (a && b) && (a && b)) ≡ false
          other true true = refl
          other true false = refl
          other false b = refl

          itself : (a b : Bool) → (not (a && b) && (a && true)) ≡ (a && not b)
          itself true true = refl
          itself true false = refl
          itself false b = refl

          shown : (b : Bool) → among v (cond b (v ∷ []) []) ≡ b
          shown true = ap (λ s. s || false) (same_self v)
          shown false = refl

          hidden : (b : Bool) → same q v ≡ false → among q (cond b (v ∷ []) []) ≡ false
          hidden true is = ap (λ s. s || false) is
          hidden false is = refl

          by : (s : Bool) → same q v ≡ s
              → (not (asks q && among q less) && (asks q && (same q v || among q less)))
              ≡ among q (cond is_new (v ∷ []) [])
          by true is =
              subst (λ z. (not (asks z && among z less) && (asks z && (same z v || among z less)))
              ≡ among z (cond is_new (v ∷ []) [])) (sym (same_is q v is))
              (ap (λ s. not (asks v && among v less) && (asks v && (s || among v less))) (same_self v)
              ∙ itself (asks v) (among v less) ∙ sym (shown is_new))
          by false is =
              ap (λ s. not (asks q && among q less) && (asks q && (s || among q less))) is
              ∙ other (asks q) (among q less) ∙ sym (hidden is_new is)

  pub came_changes : changes (asked less) (asked more) ≡ cond is_new (Came v ∷ []) []
  came_changes = (λ i. map Left (none_less i) ++ map Came (one_more i)) ∙ by is_new
    where
      by : (b : Bool) → map Left [] ++ map Came (cond b (v ∷ []) []) ≡ cond b (Came v ∷ []) []
      by true = refl
      by false = refl

  pub left_changes : changes (asked more) (asked less) ≡ cond is_new (Left v ∷ []) []
  left_changes = (λ i. map Left (one_more i) ++ map Came (none_less i)) ∙ by is_new
    where
      by : (b : Bool) → map Left (cond b (v ∷ []) []) ++ map Came [] ≡ cond b (Left v ∷ []) []
      by true = refl
      by false = refl

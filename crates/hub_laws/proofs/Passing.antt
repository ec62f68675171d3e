-- The keys of which what is wanted gets through.
use Rattle.std.proofs.Common.{◌≡◌, List, [], ◌∷◌, Bool, true, false, cond, ◌&&◌, is_some}
use Rattle.std.proofs.Common.{ap, sym, Less}
use Rattle.std.specs.List.{AllByRecursion}
use Rattle.std.specs.List.Sorted.{IsStrictlySortedBy}
use Rattle.std.proofs.lemmas.Map.Views.{any-filter_same}
use Rattle.pv_value.specs.Plain.{Plain}
use Rattle.pv_value.specs.Order.{order}
use Rattle.pv_value.specs.WellFormed.{Ascend}
use Rattle.pv_words.specs.Lemmas.Same.{same_is}
use Rattle.pv_words.specs.Parts.{same}
use Rattle.ds_space.specs.Changes.{among}
use Rattle.ac_world.specs.Behaviours.{Behaviour}
use Rattle.hub_laws.specs.Wanting.{passing}

pub among_passing : (y : Behaviour) (q : Plain) (ks : List Plain)
    → among q (passing y ks) ≡ (is_some (y.aim q) && among q ks)
among_passing y q ks =
    any-filter_same (same q) (λ k. is_some (y.aim k)) (is_some (y.aim q))
    (λ k e. ap (λ z. is_some (y.aim z)) (sym (same_is q k e))) ks

above_passing : (y : Behaviour) (x : Plain) (ks : List Plain) → AllByRecursion (λ k. order x k ≡ Less) ks
    → AllByRecursion (λ k. order x k ≡ Less) (passing y ks)
above_passing y x [] all = tt
above_passing y x (k ∷ ks) all = by (is_some (y.aim k)) (above_passing y x ks all.1)
  where
    by : (b : Bool) → AllByRecursion (λ k. order x k ≡ Less) (passing y ks)
        → AllByRecursion (λ k. order x k ≡ Less) (cond b (k ∷ passing y ks) (passing y ks))
    by true rest = (all.0, rest)
    by false rest = rest

pub passing_ascends : (y : Behaviour) (ks : List Plain) → Ascend ks → Ascend (passing y ks)
unfolding IsStrictlySortedBy
passing_ascends y [] s = tt
passing_ascends y (k ∷ ks) s = by (is_some (y.aim k)) (passing_ascends y ks s.1)
  where
    by : (b : Bool) → Ascend (passing y ks) → Ascend (cond b (k ∷ passing y ks) (passing y ks))
    by true rest = (above_passing y k ks s.0, rest)
    by false rest = rest

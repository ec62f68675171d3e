-- The keys of one list that aren't in another.
use Rattle.std.proofs.Common.{◌≡◌, List, [], ◌&&◌, not, ap, sym, subst}
use Rattle.std.specs.List.Sorted.{IsStrictlySortedBy}
use Rattle.std.proofs.lemmas.Map.Views.{any-filter_same}
use Rattle.pv_value.specs.Plain.{Plain}
use Rattle.pv_value.specs.WellFormed.{Ascend}
use Rattle.pv_words.specs.Lemmas.Same.{same_is}
use Rattle.pv_words.specs.Parts.{same}
use Rattle.ds_space.specs.Changes.{among, without}
use Rattle.ds_space.specs.Lemmas.Exact.{without_is}
use Rattle.ds_space.specs.Lemmas.Walks.{lacking_ascends}

pub among_without : (q : Plain) (ks ls : List Plain) → among q (without ks ls) ≡ (not (among q ls) && among q ks)
among_without q ks ls =
    any-filter_same (same q) (λ k. not (among k ls)) (not (among q ls))
    (λ k e. ap (λ z. not (among z ls)) (sym (same_is q k e))) ks

pub without_ascends : (ks ls : List Plain) → Ascend ks → Ascend ls → Ascend (without ks ls)
without_ascends ks ls s t = subst Ascend (without_is ks ls s t) (lacking_ascends ks ls s)

pub ascend_nothing : Ascend []
unfolding IsStrictlySortedBy
ascend_nothing = tt

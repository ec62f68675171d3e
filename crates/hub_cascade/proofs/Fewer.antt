-- With a row less no key is wanted that wasn't wanted before.
use Rattle.std.proofs.Common.{◌≡◌, ℕ, zero, suc, List, [], ◌∷◌, Bool, true, false, cond, ◌&&◌, ◌||◌, not, refl, sym, ◌∙◌}
use Rattle.std.proofs.Common.{Option, Some, None}
use Rattle.std.specs.List.{list_any, filter}
use Rattle.std.specs.BTreeMap.{is_at}
use Rattle.std.specs.Map.{values_of, remove_entry}
use Rattle.std.specs.Ordering.{nat_cmp}
use Rattle.pv_value.specs.Plain.{Plain}
use Rattle.pv_value.specs.WellFormed.{Ascend}
use Rattle.pv_words.specs.Parts.{same}
use Rattle.ps_schema.specs.declared.Definition.{Definition}
use Rattle.ds_space.specs.Changes.{among, without}
use Rattle.ds_space.specs.Lemmas.Lists.{unique, among_wants, in_order, wants_ascend}
use Rattle.ds_space.specs.Spaces.{Rows, changed}
use Rattle.ds_space.specs.Wants.{gives, wanted, wants}
use Rattle.ds_space.specs.declared.space.SpaceEvent.TheVariants.{Gone}
use Rattle.gk_sturdy.specs.declared.bound.Binding.{Binding}
use Rattle.ac_watch.specs.Lemmas.Keys.{among_keys, keys_ascend}
use Rattle.ac_watch.specs.Watching.{keys_over, watcher_keys}
use Rattle.ac_world.specs.Behaviours.{Behaviour, asks, other, behaviour_of}
use Rattle.ac_watch.specs.Lemmas.Alone.{among_without, without_ascends, ascend_nothing}
use Rattle.ac_world.specs.Lemmas.Asking.{asked, among_asked}
use Rattle.ac_world.specs.Watchers.{Task, task_at}
use Rattle.ac_world.specs.declared.watched.Watched.{Watched}

-- ---- tests of fewer values

any_weaker : {X : Type 0} (p q : X → Bool) (xs : List X) → ((x : X) → p x ≡ true → q x ≡ true)
    → list_any p xs ≡ true → list_any q xs ≡ true
any_weaker p q [] weaker is = absurd cc
any_weaker p q (x ∷ xs) weaker is = by (p x) (q x) (weaker x) is (any_weaker p q xs weaker)
  where
    by : (b c : Bool) → (b ≡ true → c ≡ true) → (b || list_any p xs) ≡ true
        → (list_any p xs ≡ true → list_any q xs ≡ true) → (c || list_any q xs) ≡ true
    by b true first is later = refl
    by true false first is later = let clash : false ≡ true = first refl in absurd cc
    by false false first is later = later is

or_later : (c d : Bool) → d ≡ true → (c || d) ≡ true
or_later true d is = refl
or_later false d is = is

or_weaker : (c d e : Bool) → (d ≡ true → e ≡ true) → (c || d) ≡ true → (c || e) ≡ true
or_weaker true d e weaker is = refl
or_weaker false d e weaker is = weaker is

-- what a test finds among the values without an entry, it finds among all
any_fewer : {K X : Type 0} (p : X → Bool) (test : K → Bool) (es : List (K × X))
    → list_any p (values_of (remove_entry test es)) ≡ true → list_any p (values_of es) ≡ true
any_fewer p test [] is = is
any_fewer {K = K} {X = X} p test (e ∷ es) is = by (test e.0) is (any_fewer p test es)
  where
    by : (b : Bool) → list_any p (values_of (cond b es (e ∷ remove_entry test es))) ≡ true
        → (list_any p (values_of (remove_entry test es)) ≡ true → list_any p (values_of es) ≡ true)
        → (p e.1 || list_any p (values_of es)) ≡ true
    by true is later = or_later (p e.1) (list_any p (values_of es)) is
    by false is later =
        or_weaker (p e.1) (list_any p (values_of (remove_entry test es))) (list_any p (values_of es)) later is

-- ---- keys

-- no key of the first list lacks in the second
abbrev AreAmong : List Plain → List Plain → Type 0
AreAmong ks ls = (q : Plain) → among q ks ≡ true → among q ls ≡ true

none_without : (ks ls : List Plain) → Ascend ks → Ascend ls → AreAmong ks ls → without ks ls ≡ []
none_without ks ls s t all =
    unique (without ks ls) [] (without_ascends ks ls s t) ascend_nothing
    (λ q. among_without q ks ls ∙ none (among q ks) (among q ls) (all q))
  where
    none : (b c : Bool) → (b ≡ true → c ≡ true) → (not c && b) ≡ false
    none b true up = refl
    none true false up = let clash : false ≡ true = up refl in absurd cc
    none false false up = refl

-- ---- who wants

abbrev pub WantsNoMore : Behaviour → Type 0
WantsNoMore y = (h : ℕ) (rows : Rows)
    → without (y.keys (values_of (changed rows (Gone h)))) (y.keys (values_of rows)) ≡ []

wanted_fewer : {K : Type 0} (test : K → Bool) (es : List (K × Plain)) (k : Plain)
    → wanted (values_of (remove_entry test es)) k ≡ true → wanted (values_of es) k ≡ true
wanted_fewer test es k is =
    any_weaker (λ o. list_any (gives k o) (values_of (remove_entry test es)))
    (λ o. list_any (gives k o) (values_of es)) (values_of es) (λ o. any_fewer (gives k o) test es)
    (any_fewer (λ o. list_any (gives k o) (values_of (remove_entry test es))) test es is)

space_wants_no_more : {K : Type 0} (test : K → Bool) (es : List (K × Plain))
    → without (wants (values_of (remove_entry test es))) (wants (values_of es)) ≡ []
space_wants_no_more test es =
    let less = values_of (remove_entry test es) in
    none_without (wants less) (wants (values_of es)) (wants_ascend less) (wants_ascend (values_of es))
    (λ q is. among_wants q (values_of es) ∙ wanted_fewer test es q (sym (among_wants q less) ∙ is))

asked_fewer : {K : Type 0} (test : K → Bool) (es : List (K × Plain))
    → without (asked (values_of (remove_entry test es))) (asked (values_of es)) ≡ []
asked_fewer test es =
    let less = values_of (remove_entry test es) in
    none_without (asked less) (asked (values_of es)) (in_order (filter asks less)) (in_order (filter asks (values_of es)))
    (λ q is. among_asked q (values_of es) ∙ by q (asks q) (sym (among_asked q less) ∙ is))
  where
    by : (q : Plain) (b : Bool) → (b && among q (values_of (remove_entry test es))) ≡ true
        → (b && among q (values_of es)) ≡ true
    by q true is = any_fewer (same q) test es is
    by q false is = absurd cc

watched_fewer : {K : Type 0} (name : List ℕ) (test : K → Bool) (es : List (K × Plain))
    → without (watcher_keys name (values_of (remove_entry test es))) (watcher_keys name (values_of es)) ≡ []
watched_fewer name test es =
    let less = values_of (remove_entry test es) in
    none_without (watcher_keys name less) (watcher_keys name (values_of es)) (keys_ascend name less)
    (keys_ascend name (values_of es))
    (λ q is. among_keys q name (values_of es)
    ∙ any_fewer (λ v. among q (keys_over name v)) test es (sym (among_keys q name less) ∙ is))

other_wants_no_more : (ds : List Definition) (o : Option Task) → WantsNoMore (other ds o)
other_wants_no_more ds None h rows = space_wants_no_more (is_at (nat_cmp h)) rows
other_wants_no_more ds (Some task) h rows = watched_fewer task.name (is_at (nat_cmp h)) rows

pub wants_no_more : (ds : List Definition) (bs : List Binding) (ws : List Watched) (a : ℕ)
    → WantsNoMore (behaviour_of ds bs ws a)
wants_no_more ds bs ws zero h rows = asked_fewer (is_at (nat_cmp h)) rows
wants_no_more ds bs ws (suc a) h rows = other_wants_no_more ds (task_at (suc a) ws) h rows

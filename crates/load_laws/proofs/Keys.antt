-- What a dataspace wants more when an item of a load comes: one key at most; and nothing when a value goes.
use Rattle.std.proofs.Common.{◌≡◌, ℕ, ◌⊎◌, inl, inr, List, [], ◌∷◌, Bool, true, false, cond, ◌||◌, not}
use Rattle.std.proofs.Common.{refl, sym, ap, ◌∙◌, subst}
use Rattle.std.specs.Cmp.{eq_by_cmp_equiv}
use Rattle.std.specs.Prelude.{Contains}
use Rattle.std.specs.Ordering.{is_eq}
use Rattle.std.specs.declared.cmp.Ordering.TheVariants.{Less}
use Rattle.std.specs.List.{AllByRecursion}
use Rattle.std.specs.List.Sorted.{IsStrictlySortedBy}
use Rattle.std.proofs.lemmas.Cmp.{tied_itself}
use Rattle.std.proofs.lemmas.Map.Views.{list_any-from_Contains, Contains-from_any}
use Rattle.pv_value.specs.Plain.{Plain}
use Rattle.pv_value.specs.Order.{order}
use Rattle.pv_value.specs.WellFormed.{Ascend}
use Rattle.pv_value.specs.Lemmas.OrderLaws.{order_total}
use Rattle.pv_words.specs.Parts.{same}
use Rattle.pv_words.specs.Lemmas.Same.{same_is}
use Rattle.ds_space.specs.Wants.{wants, key_of}
use Rattle.ds_space.specs.Changes.{among, without}
use Rattle.ds_space.specs.Laws.{IsOfTheRule}
use Rattle.ds_space.specs.Lemmas.Lists.{of_the_rule, by_the_rule, wants_ascend}
use Rattle.load_laws.proofs.Captures.{IsOf, IsItem, key_for, capture_of}

-- ---- members

-- what is true of all is true of a member
pub among_all : (P : Plain → Type 0) (q : Plain) (xs : List Plain) → AllByRecursion P xs → among q xs ≡ true → P q
among_all P q [] all e = absurd cc
among_all P q (x ∷ xs) all e = by (same q x) refl e (among_all P q xs all.1)
  where
    by : (b : Bool) → same q x ≡ b → (b || among q xs) ≡ true → (among q xs ≡ true → P q) → P q
    by true s found later = subst P (sym (same_is q x s)) all.0
    by false s found later = later found

is_among : (q : Plain) (xs : List Plain) → Contains xs q → among q xs ≡ true
is_among q xs c = list_any-from_Contains (eq_by_cmp_equiv order_total) q xs c

contained : (q : Plain) (xs : List Plain) → among q xs ≡ true → Contains xs q
contained q xs e = Contains-from_any same_is q xs e

-- ---- keys that are new

-- keys that ascend, of which one alone isn't among others
no_key : (key k : Plain) (ls ks : List Plain) → k ≡ key → AllByRecursion (λ z. order k z ≡ Less) ks
    → AllByRecursion (λ z. among z ls ≡ false → z ≡ key) ks → without ks ls ≡ []
no_key key k ls [] is above all = refl
no_key key k ls (z ∷ zs) is above all = by (among z ls) refl (no_key key k ls zs is above.1 all.1)
  where
    by : (b : Bool) → among z ls ≡ b → without zs ls ≡ []
        → cond (not b) (z ∷ without zs ls) (without zs ls) ≡ []
    by true e later = later
    by false e later =
        let one : z ≡ k = all.0 e ∙ sym is in
        let self : order k k ≡ Less = subst (λ y. order k y ≡ Less) one above.0 in
        let tied = tied_itself order_total k in
        absurd cc

pub one_key : (key : Plain) (ls ks : List Plain) → Ascend ks → AllByRecursion (λ z. among z ls ≡ false → z ≡ key) ks
    → (without ks ls ≡ []) ⊎ (without ks ls ≡ key ∷ [])
unfolding IsStrictlySortedBy
one_key key ls [] s all = inl refl
one_key key ls (k ∷ ks) s all = by (among k ls) refl (one_key key ls ks s.1 all.1)
  where
    by : (b : Bool) → among k ls ≡ b → (without ks ls ≡ []) ⊎ (without ks ls ≡ key ∷ [])
        → (cond (not b) (k ∷ without ks ls) (without ks ls) ≡ [])
        ⊎ (cond (not b) (k ∷ without ks ls) (without ks ls) ≡ key ∷ [])
    by true e later = later
    by false e later =
        let is = all.0 e in
        let none = no_key key k ls ks is s.0 all.1 in
        inr (λ i. is i ∷ none i)

-- what is true of each member is true of all
pub all_of : (P : Plain → Type 0) (xs : List Plain) → ((x : Plain) → among x xs ≡ true → P x) → AllByRecursion P xs
all_of P xs holds = go xs (λ x e. holds x e)
  where
    also : (x y : Plain) (ys : List Plain) → among x ys ≡ true → among x (y ∷ ys) ≡ true
    also x y ys e = by (same x y)
      where
        by : (b : Bool) → (b || among x ys) ≡ true
        by true = refl
        by false = e

    here : (y : Plain) (ys : List Plain) → among y (y ∷ ys) ≡ true
    here y ys = is_self (same y y) (contained_self y)
      where
        contained_self : (z : Plain) → same z z ≡ true
        contained_self z = ap is_eq (tied_itself order_total z)

        is_self : (b : Bool) → b ≡ true → (b || among y ys) ≡ true
        is_self true e = refl
        is_self false e = absurd cc

    go : (ys : List Plain) → ((x : Plain) → among x ys ≡ true → P x) → AllByRecursion P ys
    go [] f = tt
    go (y ∷ ys) f = (f y (here y ys), go ys (λ x e. f x (also x y ys e)))

-- ---- a value comes

module _ (start n i : ℕ) (v : Plain) (own : IsOf start i v) (olds news : List Plain)
    (all : AllByRecursion (λ x. (x ≡ v) ⊎ (among x olds ≡ true)) news)
    (items : AllByRecursion (IsItem start n) olds) where
  new_key : (k : Plain) → among k (wants news) ≡ true → among k (wants olds) ≡ false → k ≡ key_for start i
  new_key k here gone =
      let r = of_the_rule news k (contained k (wants news) here) in
      by r (among_all _ r.observation news all (is_among r.observation news r.observes))
      (among_all _ r.value news all (is_among r.value news r.stands))
    where
      by : (r : IsOfTheRule news k) → (r.observation ≡ v) ⊎ (among r.observation olds ≡ true)
          → (r.value ≡ v) ⊎ (among r.value olds ≡ true) → k ≡ key_for start i
      by r (inl o) (inl w) =
          let c = capture_of start i i r.observation r.value r.pattern r.captures (subst (IsOf start i) (sym o) own)
          (subst (IsOf start i) (sym w) own) r.is_pattern r.captured in
          r.key ∙ (λ j. key_of (c.0 j) (c.3 j))
      by r (inl o) (inr w) =
          let item = among_all (IsItem start n) r.value olds items w in
          let c = capture_of start i item.0 r.observation r.value r.pattern r.captures
          (subst (IsOf start i) (sym o) own) item.2 r.is_pattern r.captured in
          r.key ∙ (λ j. key_of (c.0 j) (c.3 j))
      by r (inr o) (inl w) =
          let item = among_all (IsItem start n) r.observation olds items o in
          let c = capture_of start item.0 i r.observation r.value r.pattern r.captures item.2
          (subst (IsOf start i) (sym w) own) r.is_pattern r.captured in
          r.key ∙ (λ j. key_of (c.0 j) (c.3 j)) ∙ ap (key_for start) c.2
      by r (inr o) (inr w) =
          let was : among k (wants olds) ≡ true =
          is_among k (wants olds) (by_the_rule olds k (record {
            observation = r.observation;
            observes = contained r.observation olds o;
            pattern = r.pattern;
            is_pattern = r.is_pattern;
            value = r.value;
            stands = contained r.value olds w;
            captures = r.captures;
            captured = r.captured;
            key = r.key;
          })) in
          absurd cc

  pub keys_come : (without (wants news) (wants olds) ≡ []) ⊎ (without (wants news) (wants olds) ≡ key_for start i ∷ [])
  keys_come =
      one_key (key_for start i) (wants olds) (wants news) (wants_ascend news)
      (all_of (λ k. among k (wants olds) ≡ false → k ≡ key_for start i) (wants news) new_key)

-- ---- a value goes

none_without : (ks ls : List Plain) → AllByRecursion (λ k. among k ls ≡ true) ks → without ks ls ≡ []
none_without [] ls all = refl
none_without (k ∷ ks) ls all = rw all.0 (none_without ks ls all.1)

-- no key is wanted that wasn't
pub keys_stay : (olds news : List Plain) → AllByRecursion (λ x. among x olds ≡ true) news
    → without (wants news) (wants olds) ≡ []
keys_stay olds news all =
    none_without (wants news) (wants olds) (all_of (λ k. among k (wants olds) ≡ true) (wants news) was)
  where
    was : (k : Plain) → among k (wants news) ≡ true → among k (wants olds) ≡ true
    was k here =
        let r = of_the_rule news k (contained k (wants news) here) in
        is_among k (wants olds) (by_the_rule olds k (record {
          observation = r.observation;
          observes = contained r.observation olds
              (among_all _ r.observation news all (is_among r.observation news r.observes));
          pattern = r.pattern;
          is_pattern = r.is_pattern;
          value = r.value;
          stands = contained r.value olds (among_all _ r.value news all (is_among r.value news r.stands));
          captures = r.captures;
          captured = r.captured;
          key = r.key;
        }))

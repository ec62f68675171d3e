-- Finding all that stand below a facet.
use Rattle.std.proofs.Common.{◌≡◌, ℕ, suc, ◌≤◌, Bool, true, false, not, ◌==◌, ◌&&◌, ◌||◌, nat_lt}
use Rattle.std.proofs.Common.{List, [], ◌∷◌, refl, ap, arith, sym, ◌∙◌, subst, length}
use Rattle.std.specs.BTreeMap.{is_at}
use Rattle.std.specs.List.Sorted.{IsStrictlySortedBy}
use Rattle.std.specs.Ordering.{nat_cmp, eq_by_cmp}
use Rattle.std.specs.Cmp.{IsEquivalence}
use Rattle.std.proofs.lemmas.Bool.Decides.{nat_tests}
use Rattle.std.proofs.lemmas.Map.Keys.{IsDistinct-from_sorted}
use Rattle.std.proofs.lemmas.Cmp.{eq_by_cmp_equiv, nat_cmp_total}
use Rattle.std.proofs.lemmas.Map.Steps.{length-le_from_keys}
use Rattle.ac_table.specs.Facets.{Tree, is_facet, above, climbed, IsBelow, IsTree, AreBelow}
use Rattle.ac_table.specs.Maps.{is_key}
use Rattle.ac_table.specs.Placed.{is_child}
use Rattle.ac_table.specs.Lemmas.Entries.{is_at_same}
use Rattle.ac_table.proofs.Trees.{all_found}

-- what is found stands below, and what stands right below something that was looked at is found
pub record IsSearching (f : ℕ) (t : Tree) (found left : List ℕ) : Type 0 where
  pub start : is_key f found ≡ true
  pub sound : (g : ℕ) → is_key g found ≡ true → (is_facet g t ≡ true) × IsBelow f g t
  pub looked : (p : ℕ) → is_key p found ≡ true → is_key p left ≡ false → (g : ℕ) → is_child g p t ≡ true
      → is_key g found ≡ true
  pub left_found : (p : ℕ) → is_key p left ≡ true → is_key p found ≡ true

or_parts : (a b : Bool) → (a || b) ≡ true → a ≡ false → b ≡ true
or_parts true b is none = absurd cc
or_parts false b is none = is

or_left : (a b : Bool) → a ≡ true → (a || b) ≡ true
or_left a b is = rw is refl

or_right : (a b : Bool) → b ≡ true → (a || b) ≡ true
or_right true b is = refl
or_right false b is = is

and_parts : (a b c : Bool) → (a && (b && c)) ≡ true → (a ≡ true) × (b ≡ true) × (c ≡ true)
and_parts true true true is = (refl, refl, refl)
and_parts true true false is = absurd cc
and_parts true false c is = absurd cc
and_parts false b c is = absurd cc

eq_from : (g n : ℕ) → (g == n) ≡ true → g ≡ n
eq_from g n is = grind (arith, nat_tests, is)

-- at the start the facet itself is found, and is left to look at
one_key : (f g : ℕ) (ks : List ℕ) (b : Bool) → is_key g ks ≡ (b || g == f) → b ≡ false → is_key g ks ≡ (g == f)
one_key f g ks b is none = is ∙ ap (λ c. c || g == f) none

pub search_begins : (f : ℕ) (t : Tree) (found left : List ℕ) → is_facet f t ≡ true
    → ((g : ℕ) → is_key g found ≡ (g == f)) → ((g : ℕ) → is_key g left ≡ (g == f)) → IsSearching f t found left
search_begins f t found left there one other = record {
  start = one f ∙ grind (arith, nat_tests);
  sound = λ g have. sound g (eq_from g f (sym (one g) ∙ have));
  looked = λ p have out. absurd (clash p have out);
  left_found = λ p have. one p ∙ sym (other p) ∙ have;
}
  where
    sound : (g : ℕ) → g ≡ f → (is_facet g t ≡ true) × IsBelow f g t
    sound g same = (subst (λ (n : ℕ). is_facet n t ≡ true) (sym same) there, (0, same))

    clash : (p : ℕ) → is_key p found ≡ true → is_key p left ≡ false → ⊥
    clash p have out = let no : true ≡ false = sym have ∙ one p ∙ sym (other p) ∙ out in absurd cc

-- one step: the next one's children are found
pub search_goes_on : (f next : ℕ) (t : Tree) (found left rest more after : List ℕ) → IsSearching f t found left
    → left ≡ next ∷ rest
    → ((g : ℕ) → is_key g more ≡ (is_key g found || is_child g next t))
    → ((g : ℕ) → is_key g after ≡ (is_key g rest || (not (is_key g found) && is_child g next t)))
    → IsSearching f t more after
search_goes_on f next t found left rest more after s is more_is after_is = record {
  start = more_is f ∙ or_left (is_key f found) (is_child f next t) s.start;
  sound = λ g have. sound g (is_key g found) refl (sym (more_is g) ∙ have);
  looked = λ p have out g child. looked p (is_key p found) refl have out g child;
  left_found = λ p have. left_found p (is_key p rest) refl have;
}
  where
    next_found : is_key next found ≡ true
    next_found =
        let here : is_at (nat_cmp next) next ≡ true = grind (arith, is_at_same next next) in
        let first : is_key next (next ∷ rest) ≡ true = rw here refl in
        s.left_found next (ap (is_key next) is ∙ first)

    in_rest : (p : ℕ) → is_key p rest ≡ true → is_key p left ≡ true
    in_rest p have = ap (is_key p) is ∙ or_right (is_at (nat_cmp p) next) (is_key p rest) have

    sound : (g : ℕ) (b : Bool) → is_key g found ≡ b → (is_key g found || is_child g next t) ≡ true
        → (is_facet g t ≡ true) × IsBelow f g t
    sound g true old have = s.sound g old
    sound g false new have =
        let child = or_parts (is_key g found) (is_child g next t) have new in
        let parts = and_parts (nat_lt 0 g) (is_facet g t) (above g t == next) child in
        let up : above g t ≡ next = eq_from (above g t) next parts.2 in
        let below = (s.sound next next_found).1 in
        (parts.1, (suc below.0, ap (λ (p : ℕ). climbed below.0 p t) up ∙ below.1))

    not_left : (p : ℕ) → is_key p rest ≡ false → p ≡ next → (g : ℕ) → is_child g p t ≡ true → is_key g more ≡ true
    not_left p out same g child =
        more_is g ∙ or_right (is_key g found) (is_child g next t)
        (subst (λ (n : ℕ). is_child g n t ≡ true) same child)

    after_rest : (p : ℕ) → is_key p after ≡ false → is_key p rest ≡ false
    after_rest p out = by (is_key p rest) refl
      where
        by : (b : Bool) → is_key p rest ≡ b → is_key p rest ≡ false
        by false none = none
        by true some =
            let clash : false ≡ true = sym out ∙ after_is p
            ∙ or_left (is_key p rest) (not (is_key p found) && is_child p next t) some in absurd cc

    looked : (p : ℕ) (b : Bool) → is_key p found ≡ b → is_key p more ≡ true → is_key p after ≡ false
        → (g : ℕ) → is_child g p t ≡ true → is_key g more ≡ true
    looked p true old have out g child = by (is_at (nat_cmp p) next) refl
      where
        by : (b : Bool) → is_at (nat_cmp p) next ≡ b → is_key g more ≡ true
        by true here =
            let same : p ≡ next = grind (arith, is_at_same p next, here) in
            not_left p (after_rest p out) same g child
        by false other =
            let none : is_key p left ≡ false =
            ap (is_key p) is ∙ rw other (after_rest p out) in
            more_is g ∙ or_left (is_key g found) (is_child g next t) (s.looked p old none g child)
    looked p false new have out g child =
        let now = or_parts (is_key p found) (is_child p next t) (sym (more_is p) ∙ have) new in
        let clash : false ≡ true = sym out ∙ after_is p
        ∙ or_right (is_key p rest) (not (is_key p found) && is_child p next t) (rw (new, now) refl) in absurd cc

    left_found : (p : ℕ) (b : Bool) → is_key p rest ≡ b → is_key p after ≡ true → is_key p more ≡ true
    left_found p true some have =
        more_is p ∙ or_left (is_key p found) (is_child p next t) (s.left_found p (in_rest p some))
    left_found p false none have =
        let new = or_parts (is_key p rest) (not (is_key p found) && is_child p next t) (sym (after_is p) ∙ have) none in
        more_is p ∙ or_right (is_key p found) (is_child p next t)
        (second (not (is_key p found)) (is_child p next t) new)
      where
        second : (a b : Bool) → (a && b) ≡ true → b ≡ true
        second true b is = is
        second false b is = absurd cc

-- nothing is left to look at
pub search_ends : (f : ℕ) (t : Tree) (found left : List ℕ) → IsTree t → IsSearching f t found left → left ≡ []
    → AreBelow f t found
search_ends f t found left tree s none = all_found f t found tree (record {
  start = s.start;
  sound = s.sound;
  closed = λ p have g child. s.looked p have (ap (is_key p) none) g child;
})

-- no more are found than there are
pub found_fit : (f : ℕ) (t : Tree) (found left : List ℕ) → IsSearching f t found left
    → IsStrictlySortedBy nat_cmp found → length found ≤ length t
found_fit f t found left s sorted =
    length-le_from_keys at_laws found t (IsDistinct-from_sorted nat_cmp found sorted) (λ q have. (s.sound q have).0)
  where
    at_laws : IsEquivalence (eq_by_cmp nat_cmp)
    at_laws = eq_by_cmp_equiv nat_cmp_total

pub one_at_first : (f : ℕ) (none found : List ℕ) → none ≡ []
    → ((g : ℕ) → is_key g found ≡ (is_key g none || g == f)) → (g : ℕ) → is_key g found ≡ (g == f)
one_at_first f none found empty is g = is g ∙ ap (λ ks. is_key g ks || g == f) empty

pub one_left : (f : ℕ) (none nothing left : List ℕ) → none ≡ [] → nothing ≡ []
    → ((g : ℕ) → is_key g left ≡ (is_key g nothing || (not (is_key f none) && g == f)))
    → (g : ℕ) → is_key g left ≡ (g == f)
one_left f none nothing left empty nil is g =
    is g ∙ (λ i. is_key g (nil i) || (not (is_key f (empty i)) && g == f))

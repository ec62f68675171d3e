-- The map of the places of names, as it grows from the last definition to the first.
use Rattle.std.proofs.Common.{◌≡◌, ◌+◌, ◌<◌, ℕ, suc, Bool, true, false, ◌||◌, List, [], ◌∷◌, length, get_or}
use Rattle.std.proofs.Common.{drop, Option, Some, None, is_some, MatchOption, cond, refl, sym, ap, subst, ◌∙◌, arith}
use Rattle.std.proofs.lemmas.List.{drop_more}
use Rattle.std.proofs.lemmas.Map.Text.{is_eq-slice_cmp}
use Rattle.std.specs.BTreeMap.{BTreeMap, UpdatesBy}
use Rattle.std.specs.Map.{KeepsOthers}
use Rattle.std.specs.Cmp.{eq_by_cmp_equiv}
use Rattle.std.specs.Cmp.Lexicographic.{slice_cmp, nat_list_cmp_total}
use Rattle.std.specs.Ordering.{nat_cmp, is_eq}
use Rattle.std.specs.Str.{bytes_eq}
use Rattle.std.specs.declared.vec.Vec.{Vec}
use Rattle.ps_schema.specs.Names.{knows, pattern_under, named_twice}
use Rattle.ps_schema.specs.Places.{IsPlace, place_from, place_of, place_at, IsIndexFrom}
use Rattle.ps_schema.specs.Lemmas.Ends.{decide, same_name, its_own_name, no_is_not_yes}
use Rattle.ps_schema.specs.declared.Definition.{Definition}

-- ---- places

pub known_place : (i : ℕ) (ds : List Definition) (a : List ℕ) → is_some (place_from i ds a) ≡ knows ds a
known_place i [] a = refl
known_place i (d ∷ ds) a = by (bytes_eq d.name a) (known_place (suc i) ds a)
  where
    by : (t : Bool) → is_some (place_from (suc i) ds a) ≡ knows ds a
        → is_some (cond {A = Option ℕ} t (Some i) (place_from (suc i) ds a)) ≡ (t || knows ds a)
    by true e = refl
    by false e = e

place_behind : (k i : ℕ) (ds : List Definition) (a : List ℕ) → place_from k ds a ≡ Some i
    → (j : ℕ) × (i ≡ k + j) × IsPlace ds a j
place_behind k i [] a e = absurd cc
place_behind k i (d ∷ ds) a e =
    decide (bytes_eq d.name a) ((j : ℕ) × (i ≡ k + j) × IsPlace (d ∷ ds) a j)
    (λ t. let f : Some k ≡ Some i = rw t at e in
    let g : k ≡ i = cc in (
      0,
      omega (arith, g),
      record {
        inside = omega arith;
        named = same_name d.name a t;
        under = λ x. rw t refl;
      },
    ))
    (λ t. let r = place_behind (suc k) i ds a (rw t at e) in (
      suc r.0,
      omega (arith, r.1),
      record {
        inside = let h = r.2.inside in omega (arith, h);
        named = r.2.named;
        under = λ x. rw t (r.2.under x);
      },
    ))

pub is_place : (i : ℕ) (ds : List Definition) (a : List ℕ) → place_of ds a ≡ Some i → IsPlace ds a i
is_place i ds a e =
    let r = place_behind 0 i ds a e in
    let f : r.0 ≡ i = omega (arith, r.1) in
    subst (λ (j : ℕ). IsPlace ds a j) f r.2

pub unknown : (ds : List Definition) (a : List ℕ) → knows ds a ≡ false → pattern_under ds a ≡ None
unknown [] a n = refl
unknown (d ∷ ds) a n =
    decide (bytes_eq d.name a) (pattern_under (d ∷ ds) a ≡ None) (λ t. absurd (no_is_not_yes true refl (rw t at n)))
    (λ t. rw t (unknown ds a (rw t at n)))

pub found_place : (o : Option ℕ) (ds : List Definition) (a : List ℕ) → o ≡ place_of ds a
    → MatchOption o (pattern_under ds a ≡ None) (IsPlace ds a)
found_place None ds a e = unknown ds a (sym (known_place 0 ds a) ∙ ap is_some (sym e))
found_place (Some i) ds a e = is_place i ds a (sym e)

-- ---- one definition more, before the others

apart : {A : Type 0} (b a : List ℕ) (k : Vec ℕ A) → bytes_eq b a ≡ false
    → is_eq (slice_cmp nat_cmp b k.items) ≡ true → is_eq (slice_cmp nat_cmp a k.items) ≡ false
apart b a k n y = by (bytes_eq a k.items) refl
  where
    at_key : bytes_eq b k.items ≡ true
    at_key = sym (is_eq-slice_cmp b k.items) ∙ y

    by : (t : Bool) → bytes_eq a k.items ≡ t → is_eq (slice_cmp nat_cmp a k.items) ≡ false
    by false e = is_eq-slice_cmp a k.items ∙ e
    by true e =
        let f : b ≡ a = same_name b k.items at_key ∙ sym (same_name a k.items e) in
        absurd (no_is_not_yes (bytes_eq b a) (ap (bytes_eq b) (sym f) ∙ its_own_name b) n)

-- what a map that changed at one name has at another
at_other : {A : Type 0} (b a : List ℕ) (old new : List (Vec ℕ A × ℕ))
    → KeepsOthers (λ x y. is_eq (slice_cmp nat_cmp x.items y.items)) (λ k. is_eq (slice_cmp nat_cmp b k.items)) old new
    → bytes_eq b a ≡ false → place_at new a ≡ place_at old a
unfolding KeepsOthers
at_other b a old new h n =
    h (λ k. is_eq (slice_cmp nat_cmp a k.items))
    (λ x y. (eq_by_cmp_equiv nat_list_cmp_total).congr a x.items y.items) (λ k. apart b a k n)

here : (i : ℕ) (ds : List Definition) (d : Definition) → i < length ds → d ≡ get_or ds i d
    → drop i ds ≡ d ∷ drop (suc i) ds
here i ds d h e =
    let f : i + 1 ≡ suc i = omega arith in
    drop_more ds i d h
    ∙ ap (λ (l : ℕ). get_or ds i d ∷ drop l ds) f ∙ ap (λ (x : Definition). x ∷ drop (suc i) ds) (sym e)

pub indexed_more : {A : Type 0} (n i : ℕ) (ds : List Definition) (d : Definition) (k : Vec ℕ A)
    (old new : BTreeMap (Vec ℕ A) ℕ) → n ≡ suc i → i < length ds → d ≡ get_or ds i d → k.items ≡ d.name
    → IsIndexFrom n (drop n ds) old.entries
    → UpdatesBy (λ x y. slice_cmp nat_cmp x.items y.items) (λ y. slice_cmp nat_cmp k.items y.items) old new (Some i)
    → IsIndexFrom i (drop i ds) new.entries
indexed_more n i ds d k old new m h e j f u =
    let P : List Definition → Type 0 = λ es. IsIndexFrom i es new.entries in
    let Q : ℕ → Type 0 = λ l. IsIndexFrom l (drop l ds) old.entries in
    let g : IsIndexFrom (suc i) (drop (suc i) ds) old.entries = subst Q m f in
    subst P (sym (here i ds d h e)) (λ a.
    decide (bytes_eq d.name a) (place_at new.entries a ≡ place_from i (d ∷ drop (suc i) ds) a)
    (λ t. let x : k.items ≡ a = j ∙ same_name d.name a t in rw t (ap (place_at new.entries) (sym x) ∙ u.1))
    (λ t. let x : bytes_eq k.items a ≡ false = ap (λ (b : List ℕ). bytes_eq b a) j ∙ t in
    rw t (at_other k.items a old.entries new.entries u.3 x ∙ g a)))

-- whether the name of one definition more has another one behind
known_behind : {A : Type 0} (n i : ℕ) (ds : List Definition) (d : Definition) (k : Vec ℕ A) (old : List (Vec ℕ A × ℕ))
    → n ≡ suc i → k.items ≡ d.name → IsIndexFrom n (drop n ds) old
    → is_some (place_at old k.items) ≡ knows (drop (suc i) ds) d.name
known_behind n i ds d k old m j f =
    ap is_some (f k.items) ∙ known_place n (drop n ds) k.items
    ∙ ap (λ (l : ℕ). knows (drop l ds) k.items) m ∙ ap (knows (drop (suc i) ds)) j

pub twice_here : {A : Type 0} (n i : ℕ) (ds : List Definition) (d : Definition) (k : Vec ℕ A) (old : List (Vec ℕ A × ℕ))
    → n ≡ suc i → i < length ds → d ≡ get_or ds i d → k.items ≡ d.name → IsIndexFrom n (drop n ds) old
    → is_some (place_at old k.items) ≡ true → Some d.name ≡ named_twice (drop i ds)
twice_here n i ds d k old m h e j f y =
    let P : List Definition → Type 0 = λ es. Some d.name ≡ named_twice es in
    let t : knows (drop (suc i) ds) d.name ≡ true = sym (known_behind n i ds d k old m j f) ∙ y in
    subst P (sym (here i ds d h e)) (rw t refl)

pub twice_behind : {A : Type 0} (n i : ℕ) (ds : List Definition) (d : Definition) (k : Vec ℕ A) (old : List (Vec ℕ A × ℕ))
    (o : Option (List ℕ)) → n ≡ suc i → i < length ds → d ≡ get_or ds i d → k.items ≡ d.name
    → IsIndexFrom n (drop n ds) old → is_some (place_at old k.items) ≡ false → o ≡ named_twice (drop n ds)
    → o ≡ named_twice (drop i ds)
twice_behind n i ds d k old o m h e j f y g =
    let P : List Definition → Type 0 = λ es. o ≡ named_twice es in
    let t : knows (drop (suc i) ds) d.name ≡ false = sym (known_behind n i ds d k old m j f) ∙ y in
    subst P (sym (here i ds d h e)) (rw t (g ∙ ap (λ (l : ℕ). named_twice (drop l ds)) m))

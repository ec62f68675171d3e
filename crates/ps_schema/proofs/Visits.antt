-- What walks over names see, and what it tells of ways.
use Rattle.std.proofs.Common.{◌≡◌, ◌+◌, ◌-◌, ◌*◌, ◌≤◌, ◌<◌, ◌⊎◌, ℕ, zero, suc, Bool, true, false, ◌||◌, List, [], ◌∷◌}
use Rattle.std.proofs.Common.{◌++◌, length, get_or}
use Rattle.std.proofs.Common.{take, Result, Ok, Err, OnOk, drop, Option, Some, None, inl, inr, refl, sym, ap, subst}
use Rattle.std.proofs.Common.{◌∙◌, arith}
use Rattle.std.proofs.lemmas.List.{drop_more, drop_all, take_more, take_all, take-append-le, length-append}
use Rattle.std.proofs.lemmas.Slice.Eq.{bytes_eq-Decides}
use Rattle.std.specs.Bool.{Decides}
use Rattle.std.specs.Str.{bytes_eq}
use Rattle.ps_schema.specs.Patterns.{PlainPattern, patterns}
use Rattle.ps_schema.specs.Names.{knows, pattern_under}
use Rattle.ps_schema.specs.Schemas.{asks, one_asks, asked_by, leads, IsWay, LeadsBack, IsFirstBack}
use Rattle.ps_schema.specs.Seen.{among, IsReached, Sees, Walked, unseen, NoneBack}
use Rattle.ps_schema.specs.Laws.{RefusedIsNone}
use Rattle.ps_schema.specs.Lemmas.Ends.{decide, either_side, no_is_not_yes, same_name, its_own_name, unseen_no_more}
use Rattle.ps_schema.specs.Lemmas.Ends.{way_on}
use Rattle.ps_schema.specs.Lemmas.Ends.{unseen_less, known_by_pattern}
use Rattle.ps_schema.specs.declared.Definition.{Definition}
use Rattle.ps_schema.specs.declared.faults.SchemaFault.TheVariants.{NoMemory, Unguarded, NoSuchName, NameTwice}

left_side : (a b : Bool) → a ≡ true → (a || b) ≡ true
left_side true b h = refl
left_side false b h = absurd cc

right_side : (a b : Bool) → b ≡ true → (a || b) ≡ true
right_side true b h = refl
right_side false b h = h

-- ---- one more name

pub or_no : (t : Bool) → (t || false) ≡ t
or_no true = refl
or_no false = refl

pub or_first : (t u v : Bool) → (t || (u || v)) ≡ ((t || u) || v)
or_first true u v = refl
or_first false u v = refl

among_push : (bs : List (List ℕ)) (a b : List ℕ) → among (bs ++ a ∷ []) b ≡ (among bs b || bytes_eq a b)
among_push [] a b = or_no (bytes_eq a b)
among_push (c ∷ bs) a b =
    ap (λ t. bytes_eq c b || t) (among_push bs a b) ∙ or_first (bytes_eq c b) (among bs b) (bytes_eq a b)

push_keeps : (bs : List (List ℕ)) (a b : List ℕ) → among bs b ≡ true → among (bs ++ a ∷ []) b ≡ true
push_keeps bs a b h = among_push bs a b ∙ left_side (among bs b) (bytes_eq a b) h

push_adds : (bs : List (List ℕ)) (a : List ℕ) → among (bs ++ a ∷ []) a ≡ true
push_adds bs a = among_push bs a a ∙ right_side (among bs a) (bytes_eq a a) (its_own_name a)

-- ---- looking at patterns

sees_nothing : (ds : List Definition) (f : List ℕ → Bool) (bs : List (List ℕ))
    → ((b : List ℕ) → f b ≡ true → knows ds b ≡ true → among bs b ≡ true) → Sees ds f bs bs
sees_nothing ds f bs h = record {
  begins = λ n l. refl;
  longer = omega arith;
  kept = λ b y. y;
  reached = h;
  sound = λ b y. inl y;
  fewer = omega arith;
}

pub sees_none : (ds : List Definition) (f : List ℕ → Bool) (bs : List (List ℕ))
    → ((b : List ℕ) → f b ≡ false) → Sees ds f bs bs
sees_none ds f bs n = sees_nothing ds f bs (λ b h k. absurd (no_is_not_yes (f b) h (n b)))

pub sees_seen : (ds : List Definition) (a : List ℕ) (bs : List (List ℕ)) → among bs a ≡ true
    → Sees ds (bytes_eq a) bs bs
sees_seen ds a bs s = sees_nothing ds (bytes_eq a) bs (λ b h k. ap (among bs) (sym (same_name a b h)) ∙ s)

pub sees_unknown : (ds : List Definition) (a : List ℕ) (bs : List (List ℕ)) → knows ds a ≡ false
    → Sees ds (bytes_eq a) bs bs
sees_unknown ds a bs n =
    sees_nothing ds (bytes_eq a) bs
    (λ b h k. absurd (no_is_not_yes (knows ds b) k (ap (knows ds) (sym (same_name a b h)) ∙ n)))

pub sees_named : (ds : List Definition) (a : List ℕ) (bs es : List (List ℕ)) → among bs a ≡ false
    → knows ds a ≡ true → es ≡ bs ++ a ∷ [] → Sees ds (bytes_eq a) bs es
sees_named ds a bs es n k e =
    let P : List (List ℕ) → Type 0 = λ cs. Sees ds (bytes_eq a) bs cs in
    let l = length-append bs (a ∷ []) in
    let u = unseen_less ds bs (bs ++ a ∷ []) (push_keeps bs a) a n (push_adds bs a) k in
    subst P (sym e) (record {
      begins = λ m h. take-append-le m bs (a ∷ []) h;
      longer = omega (arith, l);
      kept = push_keeps bs a;
      reached = λ b h j. ap (among (bs ++ a ∷ [])) (sym (same_name a b h)) ∙ push_adds bs a;
      sound = λ b y. decide (among bs b) ((among bs b ≡ true) ⊎ (bytes_eq a b ≡ true)) (λ t. inl t)
          (λ t. inr (either_side (among bs b) (bytes_eq a b) (sym (among_push bs a b) ∙ y) t));
      fewer = omega (arith, l, u);
    })

either_of : (f g : List ℕ → Bool) (bs cs : List (List ℕ)) (b : List ℕ)
    → (among bs b ≡ true) ⊎ (f b ≡ true) → (among bs b ≡ true) ⊎ ((f b || g b) ≡ true)
either_of f g bs cs b (inl y) = inl y
either_of f g bs cs b (inr e) = inr (left_side (f b) (g b) e)

from_both : (f g : List ℕ → Bool) (bs cs : List (List ℕ)) (b : List ℕ)
    → (among cs b ≡ true → (among bs b ≡ true) ⊎ (f b ≡ true)) → (among cs b ≡ true) ⊎ (g b ≡ true)
    → (among bs b ≡ true) ⊎ ((f b || g b) ≡ true)
from_both f g bs cs b u (inl y) = either_of f g bs cs b (u y)
from_both f g bs cs b u (inr e) = inr (right_side (f b) (g b) e)

pub sees_both : (ds : List Definition) (f g : List ℕ → Bool) (bs cs es : List (List ℕ)) → Sees ds f bs cs
    → Sees ds g cs es → Sees ds (λ b. f b || g b) bs es
sees_both ds f g bs cs es u v = record {
  begins = λ n h. let l : n ≤ length cs = omega (arith, u.longer) in v.begins n l ∙ u.begins n h;
  longer = omega (arith, u.longer, v.longer);
  kept = λ b h. v.kept b (u.kept b h);
  reached = λ b h k. decide (f b) (among es b ≡ true) (λ t. v.kept b (u.reached b t k))
      (λ t. v.reached b (either_side (f b) (g b) h t) k);
  sound = λ b y. from_both f g bs cs b (u.sound b) (v.sound b y);
  fewer = omega (arith, u.fewer, v.fewer);
}

pub asks_push : (ps : List PlainPattern) (p : PlainPattern) (b : List ℕ)
    → (one_asks (patterns ps) b || asks p b) ≡ one_asks (patterns (ps ++ p ∷ [])) b
asks_push [] p b = sym (or_no (asks p b))
asks_push (q ∷ ps) p b =
    sym (or_first (asks q b) (one_asks (patterns ps) b) (asks p b)) ∙ ap (λ t. asks q b || t) (asks_push ps p b)

-- one pattern of a list more is looked at
pub sees_next : (ds : List Definition) (all : List PlainPattern) (i : ℕ) (p : PlainPattern)
    (bs cs es : List (List ℕ)) → i < length all → p ≡ get_or all i p
    → Sees ds (one_asks (patterns (take i all))) bs cs → Sees ds (asks p) cs es
    → Sees ds (one_asks (patterns (take (i + 1) all))) bs es
sees_next ds all i p bs cs es h e u v =
    let P : (List ℕ → Bool) → Type 0 = λ f. Sees ds f bs es in
    let Q : List PlainPattern → Type 0 = λ ps. Sees ds (one_asks (patterns ps)) bs es in
    subst Q (sym (take_more all i p h ∙ ap (λ (q : PlainPattern). take i all ++ q ∷ []) (sym e)))
    (subst P (λ j b. asks_push (take i all) p b j)
    (sees_both ds (one_asks (patterns (take i all))) (asks p) bs cs es u v))

pub on_ok : {T E : Type 0} (r : Result T E) (P Q : Type 0) → (P → Q) → OnOk r P → OnOk r Q
on_ok (Ok x) P Q f h = f h
on_ok (Err e) P Q f h = tt

pub sees_behind : (ds : List Definition) (a : List ℕ) (p : PlainPattern) (bs cs : List (List ℕ))
    → pattern_under ds a ≡ Some p → Sees ds (asks p) bs cs → Sees ds (leads ds a) bs cs
sees_behind ds a p bs cs u s =
    let P : Option PlainPattern → Type 0 = λ o. Sees ds (asked_by o) bs cs in subst P (sym u) s

pub sees_none_behind : (ds : List Definition) (a : List ℕ) (bs : List (List ℕ)) → pattern_under ds a ≡ None
    → Sees ds (leads ds a) bs bs
sees_none_behind ds a bs u =
    sees_none ds (leads ds a) bs (λ b. ap (λ (o : Option PlainPattern). asked_by o b) u)

-- ---- what a whole walk tells

pub leads_known : (ds : List Definition) (a b : List ℕ) → leads ds a b ≡ true → knows ds a ≡ true
leads_known ds a b l = by (pattern_under ds a) refl
  where
    by : (o : Option PlainPattern) → pattern_under ds a ≡ o → knows ds a ≡ true
    by (Some p) e = known_by_pattern ds a p e
    by None e =
        absurd (no_is_not_yes (leads ds a b) l (ap (λ (o : Option PlainPattern). asked_by o b) e))

way_known : (ds : List Definition) (a : List ℕ) (cs : List (List ℕ)) (b : List ℕ) → IsWay ds a cs b
    → knows ds a ≡ true
way_known ds a [] b w = leads_known ds a b w
way_known ds a (c ∷ cs) b w = leads_known ds a c w.0

-- ---- walks

-- the names that were asked for
pub walk_begins : (ds : List Definition) (f : List ℕ → Bool) (bs : List (List ℕ)) → Sees ds f [] bs
    → Walked ds f 0 bs
walk_begins ds f bs s = record {
  reached = s.reached;
  closed = λ b c y l k. absurd (no_is_not_yes false y refl);
  sound = λ b y. asked (s.sound b y);
}
  where
    asked : {b : List ℕ} → (false ≡ true) ⊎ (f b ≡ true) → IsReached ds f b
    asked (inl y) = absurd (no_is_not_yes false y refl)
    asked (inr e) = inl e

among_at : (bs : List (List ℕ)) (i : ℕ) (a : List ℕ) → i < length bs → a ≡ get_or bs i a → among bs a ≡ true
among_at [] i a h e = absurd (omega arith)
among_at (b ∷ bs) zero a h e = left_side (bytes_eq b a) (among bs a) ((bytes_eq-Decides b a).1 (sym e))
among_at (b ∷ bs) (suc i) a h e = right_side (bytes_eq b a) (among bs a) (among_at bs i a (omega arith) e)

reached_next : (ds : List Definition) (f : List ℕ → Bool) (a b : List ℕ) → leads ds a b ≡ true
    → IsReached ds f a → IsReached ds f b
reached_next ds f a b l (inl e) = inr (a, [], e, l)
reached_next ds f a b l (inr w) = inr (w.0, w.1 ++ a ∷ [], w.2, way_on ds w.0 w.1 a b w.3 l)

reached_on : (ds : List Definition) (f : List ℕ → Bool) (bs : List (List ℕ)) (a b : List ℕ)
    → ((c : List ℕ) → among bs c ≡ true → IsReached ds f c) → among bs a ≡ true
    → (among bs b ≡ true) ⊎ (leads ds a b ≡ true) → IsReached ds f b
reached_on ds f bs a b s y (inl z) = s b z
reached_on ds f bs a b s y (inr l) = reached_next ds f a b l (s a y)

-- it looks behind one name more
pub walk_on : (ds : List Definition) (f : List ℕ → Bool) (i : ℕ) (a : List ℕ) (bs cs : List (List ℕ))
    → i < length bs → a ≡ get_or bs i a → Walked ds f i bs → Sees ds (leads ds a) bs cs → Walked ds f (i + 1) cs
walk_on ds f i a bs cs h e w s =
    let l : i + 1 ≤ length bs = omega arith in
    let t : take (i + 1) cs ≡ take i bs ++ a ∷ [] =
    s.begins (i + 1) l ∙ take_more bs i a h ∙ ap (λ (b : List ℕ). take i bs ++ b ∷ []) (sym e) in
    record {
      reached = λ b y k. s.kept b (w.reached b y k);
      closed = λ b c y m k.
          let z : (among (take i bs) b || bytes_eq a b) ≡ true =
          sym (among_push (take i bs) a b) ∙ ap (λ (es : List (List ℕ)). among es b) (sym t) ∙ y in
          decide (among (take i bs) b) (among cs c ≡ true) (λ u. s.kept c (w.closed b c u m k))
          (λ u. s.reached c (ap (λ (n : List ℕ). leads ds n c)
          (same_name a b (either_side (among (take i bs) b) (bytes_eq a b) z u)) ∙ m) k);
      sound = λ b y. reached_on ds f bs a b w.sound (among_at bs i a h e) (s.sound b y);
    }

-- what is left to look behind
pub walk_falls : (ds : List Definition) (f : List ℕ → Bool) (i : ℕ) (bs cs : List (List ℕ)) → i < length bs
    → Sees ds f bs cs → 2 * unseen ds cs + (length cs - (i + 1)) < 2 * unseen ds bs + (length bs - i)
walk_falls ds f i bs cs h s = omega (arith, s.fewer, s.longer, unseen_no_more ds bs cs s.kept)

onward : (ds : List Definition) (f : List ℕ → Bool) (n : ℕ) (bs : List (List ℕ)) → Walked ds f n bs
    → take n bs ≡ bs → (cs : List (List ℕ)) (a b : List ℕ) → among bs a ≡ true → IsWay ds a cs b
    → knows ds b ≡ true → among bs b ≡ true
onward ds f n bs v t [] a b y w k = v.closed a b (ap (λ (es : List (List ℕ)). among es a) t ∙ y) w k
onward ds f n bs v t (c ∷ cs) a b y w k =
    onward ds f n bs v t cs c b
    (v.closed a c (ap (λ (es : List (List ℕ)). among es a) t ∙ y) w.0 (way_known ds c cs b w.1)) w.1 k

back_of : (ds : List Definition) (a : List ℕ) → IsReached ds (leads ds a) a → LeadsBack ds a
back_of ds a (inl e) = ([], e)
back_of ds a (inr w) = (w.0 ∷ w.1, (w.2, w.3))

seen_back : (ds : List Definition) (a : List ℕ) (n : ℕ) (bs : List (List ℕ)) → Walked ds (leads ds a) n bs
    → take n bs ≡ bs → (cs : List (List ℕ)) → IsWay ds a cs a → among bs a ≡ true
seen_back ds a n bs v t [] w = v.reached a w (leads_known ds a a w)
seen_back ds a n bs v t (c ∷ cs) w =
    onward ds (leads ds a) n bs v t cs c a (v.reached c w.0 (way_known ds c cs a w.1)) w.1 (leads_known ds a c w.0)

pub walk_decides : (ds : List Definition) (a : List ℕ) (n : ℕ) (bs : List (List ℕ))
    → Walked ds (leads ds a) n bs → length bs ≤ n → Decides (among bs a) (LeadsBack ds a)
walk_decides ds a n bs v h = (
  λ y. back_of ds a (v.sound a y),
  λ w. seen_back ds a n bs v (take_all n bs h) w.0 w.1,
)

-- ---- definitions in their order

pub none_on : (ds es : List Definition) (i : ℕ) (d : Definition) → i < length es → d ≡ get_or es i d
    → Decides false (LeadsBack ds d.name) → NoneBack ds (drop (i + 1) es) → NoneBack ds (drop i es)
none_on ds es i d h e n m =
    let back : LeadsBack ds d.name → ⊥ = λ w. no_is_not_yes false (n.1 w) refl in
    let P : List Definition → Type 0 = λ fs. NoneBack ds fs in
    subst P (sym (drop_more es i d h ∙ ap (λ (f : Definition). f ∷ drop (i + 1) es) (sym e))) (back, m)

pub first_on : (ds es : List Definition) (i : ℕ) (d : Definition) (a : List ℕ) → i < length es → d ≡ get_or es i d
    → Decides false (LeadsBack ds d.name) → IsFirstBack ds (drop (i + 1) es) a → IsFirstBack ds (drop i es) a
first_on ds es i d a h e n m =
    let back : LeadsBack ds d.name → ⊥ = λ w. no_is_not_yes false (n.1 w) refl in
    let P : List Definition → Type 0 = λ fs. IsFirstBack ds fs a in
    subst P (sym (drop_more es i d h ∙ ap (λ (f : Definition). f ∷ drop (i + 1) es) (sym e))) (inr (back, m))

pub first_here : (ds es : List Definition) (i : ℕ) (d : Definition) → i < length es → d ≡ get_or es i d
    → Decides true (LeadsBack ds d.name) → IsFirstBack ds (drop i es) d.name
first_here ds es i d h e y =
    let P : List Definition → Type 0 = λ fs. IsFirstBack ds fs d.name in
    subst P (sym (drop_more es i d h ∙ ap (λ (f : Definition). f ∷ drop (i + 1) es) (sym e)))
    (inl (y.0 refl, refl))

pub none_at_end : (ds es : List Definition) (i : ℕ) → length es ≤ i → NoneBack ds (drop i es)
none_at_end ds es i h =
    let P : List Definition → Type 0 = λ fs. NoneBack ds fs in subst P (sym (drop_all i es h)) tt

none_for : (ds es : List Definition) → NoneBack ds es → (a : List ℕ) → knows es a ≡ true → LeadsBack ds a → ⊥
none_for ds [] n a k w = cc
none_for ds (d ∷ es) n a k w =
    decide (bytes_eq d.name a) ⊥
    (λ t. let P : List ℕ → Type 0 = λ b. LeadsBack ds b in n.0 (subst P (sym (same_name d.name a t)) w))
    (λ t. none_for ds es n.1 a (either_side (bytes_eq d.name a) (knows es a) k t) w)

pub none_back : (ds : List Definition) → NoneBack ds ds → (a : List ℕ) → LeadsBack ds a → ⊥
none_back ds n a w = none_for ds ds n a (way_known ds a w.0 a w.1) w

first_leads : (ds es : List Definition) (a : List ℕ) → IsFirstBack ds es a → LeadsBack ds a
first_leads ds [] a f = absurd f
first_leads ds (d ∷ es) a (inl f) =
    let P : List ℕ → Type 0 = λ b. LeadsBack ds b in subst P f.1 f.0
first_leads ds (d ∷ es) a (inr f) = first_leads ds es a f.1

pub refused_is_none : RefusedIsNone
refused_is_none ds NoMemory n r s = n refl
refused_is_none ds (NameTwice a) n r s = let e = s.each_once in cc
refused_is_none ds (NoSuchName a) n r s = let e = s.closed in let f = r.1 in cc
refused_is_none ds (Unguarded a) n r s = s.guarded _ (first_leads ds ds _ r.2)

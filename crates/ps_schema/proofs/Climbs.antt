-- Ways along which ranks rise, and never fall.
use Rattle.std.proofs.Common.{◌≡◌, ◌+◌, ◌≤◌, ◌<◌, ℕ, true, false, ◌||◌, List, [], ◌∷◌, ◌++◌, length, get_or}
use Rattle.std.proofs.Common.{take, Option, Some, refl, sym, ap, subst, ◌∙◌, arith}
use Rattle.std.proofs.lemmas.List.{take_more, take_all}
use Rattle.std.specs.Bool.{Decides}
use Rattle.std.specs.Str.{bytes_eq}
use Rattle.ps_schema.specs.Patterns.{PlainPattern, patterns}
use Rattle.ps_schema.specs.Names.{knows, pattern_under}
use Rattle.ps_schema.specs.Schemas.{asks, one_asks, asked_by, IsWay, LeadsBack}
use Rattle.ps_schema.specs.Rising.{rank, AreAbove, Rises}
use Rattle.ps_schema.specs.Lemmas.Ends.{decide, either_side, no_is_not_yes, same_name}
use Rattle.ps_schema.proofs.Visits.{asks_push, or_no, or_first, leads_known}
use Rattle.ps_schema.specs.declared.Definition.{Definition}

-- ---- patterns

pub above_name : (ds : List Definition) (ranks : List ℕ) (least : ℕ) (a : List ℕ) → least ≤ rank ds ranks a
    → AreAbove ds ranks least (bytes_eq a)
above_name ds ranks least a h b e = let f = ap (rank ds ranks) (same_name a b e) in omega (arith, h, f)

pub above_next : (ds : List Definition) (ranks : List ℕ) (least : ℕ) (all : List PlainPattern) (i : ℕ) (p : PlainPattern)
    → i < length all → p ≡ get_or all i p → AreAbove ds ranks least (one_asks (patterns (take i all)))
    → AreAbove ds ranks least (asks p) → AreAbove ds ranks least (one_asks (patterns (take (i + 1) all)))
above_next ds ranks least all i p h e u v =
    let Q : List PlainPattern → Type 0 = λ ps. AreAbove ds ranks least (one_asks (patterns ps)) in
    subst Q (sym (take_more all i p h ∙ ap (λ (q : PlainPattern). take i all ++ q ∷ []) (sym e)))
    (λ b w. decide (one_asks (patterns (take i all)) b) (least ≤ rank ds ranks b) (u b)
    (λ t. v b (either_side (one_asks (patterns (take i all)) b) (asks p b) (asks_push (take i all) p b ∙ w) t)))

pub rises_by : (ds : List Definition) (ranks : List ℕ) (by least : ℕ) (a : List ℕ) (p : PlainPattern)
    → pattern_under ds a ≡ Some p → least ≡ rank ds ranks a + by → AreAbove ds ranks least (asks p)
    → Rises ds ranks by a
rises_by ds ranks by least a p u e f b l =
    let h = f b (sym (ap (λ (o : Option PlainPattern). asked_by o b) u) ∙ l) in omega (arith, h, e)

-- ---- definitions in their order

knows_push : (ds : List Definition) (d : Definition) (a : List ℕ)
    → knows (ds ++ d ∷ []) a ≡ (knows ds a || bytes_eq d.name a)
knows_push [] d a = or_no (bytes_eq d.name a)
knows_push (e ∷ ds) d a =
    ap (λ t. bytes_eq e.name a || t) (knows_push ds d a) ∙ or_first (bytes_eq e.name a) (knows ds a) (bytes_eq d.name a)

abbrev pub NoneFalls : List Definition → List ℕ → List Definition → Type 0
NoneFalls ds ranks es = (a : List ℕ) → knows es a ≡ true → Rises ds ranks 0 a

pub none_falls_next : (ds : List Definition) (ranks : List ℕ) (es : List Definition) (i : ℕ) (d : Definition)
    → i < length es → d ≡ get_or es i d → NoneFalls ds ranks (take i es) → Rises ds ranks 0 d.name
    → NoneFalls ds ranks (take (i + 1) es)
none_falls_next ds ranks es i d h e f r =
    let Q : List Definition → Type 0 = λ xs. NoneFalls ds ranks xs in
    let P : List ℕ → Type 0 = λ a. Rises ds ranks 0 a in
    subst Q (sym (take_more es i d h ∙ ap (λ (x : Definition). take i es ++ x ∷ []) (sym e)))
    (λ a k. decide (knows (take i es) a) (Rises ds ranks 0 a) (f a)
    (λ t. subst P (same_name d.name a (either_side (knows (take i es) a) (bytes_eq d.name a)
    (sym (knows_push (take i es) d a) ∙ k) t)) r))

pub none_falls : (ds : List Definition) (ranks : List ℕ) (i : ℕ) → length ds ≤ i → NoneFalls ds ranks (take i ds)
    → (a : List ℕ) → Rises ds ranks 0 a
none_falls ds ranks i h f a b l =
    f a (ap (λ (es : List Definition). knows es a) (take_all i ds h) ∙ leads_known ds a b l) b l

-- ---- ways

along : (ds : List Definition) (ranks : List ℕ) → ((a : List ℕ) → Rises ds ranks 0 a) → (a : List ℕ) (cs : List (List ℕ))
    (b : List ℕ) → IsWay ds a cs b → rank ds ranks a ≤ rank ds ranks b
along ds ranks f a [] b w = let h = f a b w in omega (arith, h)
along ds ranks f a (c ∷ cs) b w =
    let h = f a c w.0 in
    let g = along ds ranks f c cs b w.1 in omega (arith, h, g)

not_back : (ds : List Definition) (ranks : List ℕ) → ((a : List ℕ) → Rises ds ranks 0 a) → (a : List ℕ)
    → Rises ds ranks 1 a → (cs : List (List ℕ)) → IsWay ds a cs a → ⊥
not_back ds ranks f a r [] w = let h = r a w in omega (arith, h)
not_back ds ranks f a r (c ∷ cs) w =
    let h = r c w.0 in
    let g = along ds ranks f c cs a w.1 in omega (arith, h, g)

-- a name from which ranks rise doesn't lead back to itself
pub stays : (ds : List Definition) (ranks : List ℕ) → ((a : List ℕ) → Rises ds ranks 0 a) → (a : List ℕ)
    → Rises ds ranks 1 a → Decides false (LeadsBack ds a)
stays ds ranks f a r = (
  λ y. absurd (no_is_not_yes false y refl),
  λ w. absurd (not_back ds ranks f a r w.0 w.1),
)

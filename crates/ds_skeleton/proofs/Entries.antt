-- Counts over the entries of a map, after a change of one.
use Rattle.std.proofs.Common.{◌≡◌, ℕ, ◌+◌, List, [], ◌∷◌, map, Bool, true, false, cond, ◌||◌, Option, Some, None, refl}
use Rattle.std.proofs.Common.{ap, sym, ◌∙◌, arith}
use Rattle.std.specs.declared.cmp.Ordering.{Ordering}
use Rattle.std.specs.declared.cmp.Ordering.TheVariants.{Less, Equal, Greater}
use Rattle.std.specs.Ordering.{is_eq, match_ordering}
use Rattle.std.specs.Option.{is_some}
use Rattle.std.specs.List.{list_any}
use Rattle.std.specs.Map.{keys_of, lookup, remove_entry}
use Rattle.std.specs.BTreeMap.{insert_entry, is_at}
use Rattle.pv_value.specs.Plain.{Plain}
use Rattle.ds_skeleton.specs.Places.{count}

pub count-map : {X : Type 0} (g : X → Plain) (f : Plain → Bool) (xs : List X) → count f (map g xs) ≡ count
    (λ x. f (g x)) xs
count-map g f [] = refl
count-map g f (x ∷ xs) = ap (λ n. cond (f (g x)) 1 0 + n) (count-map g f xs)

swap : (a b n m : ℕ) → n ≡ m + b → a + n ≡ a + m + b
swap a b n m e = omega arith

front : (a n : ℕ) → a + n ≡ n + a
front a n = omega arith

pub count-insert_entry : {K X : Type 0} (cmp : K → K → Ordering) (h : K × X → Bool) (k : K) (x : X) (es : List (K × X))
    → lookup (is_at (cmp k)) es ≡ None → count h (insert_entry cmp es k x) ≡ count h es + cond (h (k, x)) 1 0
count-insert_entry cmp h k x [] e = front (cond (h (k, x)) 1 0) 0
count-insert_entry {K} {X} cmp h k x (p ∷ ps) e = by (cmp k p.0) refl e (λ n. count-insert_entry cmp h k x ps n)
  where
    by : (o : Ordering) → cmp k p.0 ≡ o → cond {A = Option X} (is_eq o) (Some p.1) (lookup (is_at (cmp k)) ps) ≡ None
        → (lookup (is_at (cmp k)) ps ≡ None → count h (insert_entry cmp ps k x) ≡ count h ps + cond (h (k, x)) 1 0)
        → count h (match_ordering o ((k, x) ∷ p ∷ ps) ((p.0, x) ∷ ps) (p ∷ insert_entry cmp ps k x)) ≡ count h (p ∷ ps)
        + cond (h (k, x)) 1 0
    by Less is none i = front (cond (h (k, x)) 1 0) (count h (p ∷ ps))
    by Equal is none i = cc
    by Greater is none i = swap (cond (h p) 1 0) (cond (h (k, x)) 1 0) (count h (insert_entry cmp ps k x)) (count h ps)
        (i none)

pub some_is : {X : Type 0} (a b : X) → Some a ≡ Some b → a ≡ b
some_is a b e = cc

pub count-remove_entry : {K X : Type 0} (test : K → Bool) (h : K × X → Bool) (x : X) (b : Bool) (es : List (K × X))
    → ((k : K) → test k ≡ true → h (k, x) ≡ b) → lookup test es ≡ Some x → count h es ≡ count h (remove_entry test es)
    + cond b 1 0
count-remove_entry test h x b [] t e = cc
count-remove_entry {K} {X} test h x b (p ∷ ps) t e = by (test p.0) refl e (λ n. count-remove_entry test h x b ps t n)
  where
    here : (y : X) → y ≡ x → h (p.0, x) ≡ b → h (p.0, y) ≡ b
    here y e i = ap (λ z. h (p.0, z)) e ∙ i

    by : (d : Bool) → test p.0 ≡ d → cond {A = Option X} d (Some p.1) (lookup test ps) ≡ Some x
        → (lookup test ps ≡ Some x → count h ps ≡ count h (remove_entry test ps) + cond b 1 0)
        → count h (p ∷ ps) ≡ count h (cond d ps (p ∷ remove_entry test ps)) + cond b 1 0
    by true is f i = ap (λ (d : Bool). cond {A = ℕ} d 1 0 + count h ps) (here p.1 (some_is p.1 x f) (t p.0 is)) ∙ front
        (cond b 1 0) (count h ps)
    by false is f i = swap (cond (h p) 1 0) (cond b 1 0) (count h ps) (count h (remove_entry test ps)) (i f)

pub any-keys : {K X : Type 0} (test : K → Bool) (es : List (K × X)) → list_any test (keys_of es) ≡ is_some
    (lookup test es)
any-keys test [] = refl
any-keys {K} {X} test (p ∷ ps) = by (test p.0) (any-keys test ps)
  where
    by : (b : Bool) → list_any test (keys_of ps) ≡ is_some (lookup test ps) → (b || list_any test (keys_of ps))
        ≡ is_some (cond {A = Option X} b (Some p.1) (lookup test ps))
    by true i = refl
    by false i = i

pub keys_in : {X : Type 0} (cmp : Plain → Plain → Ordering) (f : Plain → Bool) (v : Plain) (x : X)
    (es fs : List (Plain × X)) → lookup (is_at (cmp v)) es ≡ None → fs ≡ insert_entry cmp es v x → count f (keys_of fs)
    ≡ count f (keys_of es) + cond (f v) 1 0
keys_in {X} cmp f v x es fs none is =
    ap (λ (gs : List (Plain × X)). count f (keys_of gs)) is
    ∙ count-map (λ (e : Plain × X). e.0) f (insert_entry cmp es v x)
    ∙ count-insert_entry cmp (λ (e : Plain × X). f e.0) v x es none
    ∙ ap (λ n. n + cond (f v) 1 0) (sym (count-map (λ (e : Plain × X). e.0) f es))

pub keys_out : {X : Type 0} (test : Plain → Bool) (f : Plain → Bool) (v : Plain) (x : X) (es fs : List (Plain × X))
    → ((k : Plain) → test k ≡ true → v ≡ k) → lookup test es ≡ Some x → fs ≡ remove_entry test es → count f (keys_of es)
    ≡ count f (keys_of fs) + cond (f v) 1 0
keys_out {X} test f v x es fs one some is =
    count-map (λ (e : Plain × X). e.0) f es
    ∙ count-remove_entry test (λ (e : Plain × X). f e.0) x (f v) es (λ k t. ap f (sym (one k t))) some
    ∙ ap (λ n. n + cond (f v) 1 0) (sym (count-map (λ (e : Plain × X). e.0) f (remove_entry test es)))
    ∙ ap (λ (gs : List (Plain × X)). count f (keys_of gs) + cond (f v) 1 0) (sym is)

pub no_key : {X : Type 0} (test : Plain → Bool) (es : List (Plain × X)) → lookup test es ≡ None → list_any test
    (keys_of es) ≡ false
no_key test es e = any-keys test es ∙ ap is_some e

pub at_some : {X : Type 0} {P : Type 0} (o : Option X) → is_some o ≡ true → ((x : X) → o ≡ Some x → P) → P
at_some None e f = absurd (by e)
  where
    by : false ≡ true → ⊥
    by h = cc
at_some (Some x) e f = f x refl

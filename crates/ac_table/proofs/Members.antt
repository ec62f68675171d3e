-- Sets of numbers, seen by what they have.
use Rattle.std.proofs.Common.{◌≡◌, ℕ, Bool, true, false, not, ◌==◌, ◌&&◌, ◌||◌, cond, List, [], ◌∷◌, ◌++◌, map}
use Rattle.std.proofs.Common.{refl, ap, arith, sym, ◌∙◌, filter, Bor, Result, Ok, Err, OnErr, OnOk}
use Rattle.std.proofs.Common.{is_err, subst, Less}
use Rattle.std.specs.Bool.{OnFalse}
use Rattle.std.specs.BTreeMap.{is_at}
use Rattle.std.specs.List.{list_any, AllByRecursion}
use Rattle.std.specs.List.Sorted.{IsStrictlySortedBy}
use Rattle.std.specs.Map.{keys_of, remove_entry}
use Rattle.std.specs.Map.Iter.{deref}
use Rattle.std.specs.Ordering.{nat_cmp}
use Rattle.std.proofs.lemmas.Bool.Decides.{nat_tests}
use Rattle.std.proofs.lemmas.Map.Keys.{sorted_head, sorted_tail}
use Rattle.ac_table.specs.Maps.{is_key, KeysAscend, SetChangesAt}
use Rattle.ac_table.specs.Lemmas.Entries.{is_at_same}

pub on_err : {X E : Type 0} (P : Type 0) (r : Result X E) → P → OnErr r P
on_err P (Ok x) p = tt
on_err P (Err e) p = p

pub at_same : (a k : ℕ) → is_at (nat_cmp a) k ≡ true → a ≡ k
at_same a k is = grind (arith, is_at_same a k, is)

pub any_push : {X : Type 0} (test : X → Bool) (xs : List (Bor X)) (y : Bor X)
    → list_any test (map deref (xs ++ y ∷ [])) ≡ (list_any test (map deref xs) || test y.now)
any_push test [] y = last (test y.now)
  where
    last : (b : Bool) → (b || false) ≡ (false || b)
    last true = refl
    last false = refl
any_push test (x ∷ xs) y = ap (λ b. test x.now || b) (any_push test xs y)
    ∙ apart (test x.now) (list_any test (map deref xs)) (test y.now)
  where
    apart : (a b c : Bool) → (a || (b || c)) ≡ ((a || b) || c)
    apart true b c = refl
    apart false b c = refl

at_either : (q y : ℕ) → is_at (nat_cmp y) q ≡ is_at (nat_cmp q) y
at_either q y = grind (arith, is_at_same q y, is_at_same y q)

-- one more, or less, of those that were gone through
pub more_step : (q : ℕ) (base cur new : Bool) (xs : List (Bor ℕ)) (y : Bor ℕ)
    → new ≡ cond (is_at (nat_cmp y.now) q) true cur → cur ≡ (base || is_key q (map deref xs))
    → new ≡ (base || is_key q (map deref (xs ++ y ∷ [])))
more_step q base cur new xs y now was =
    now ∙ rw (at_either q y.now, was) (by (is_at (nat_cmp q) y.now) base (is_key q (map deref xs)))
    ∙ ap (λ b. base || b) (sym (any_push (is_at (nat_cmp q)) xs y))
  where
    by : (a b c : Bool) → cond a true (b || c) ≡ (b || (c || a))
    by true true c = refl
    by true false true = refl
    by true false false = refl
    by false true c = refl
    by false false true = refl
    by false false false = refl

pub less_step : (q : ℕ) (base cur new : Bool) (xs : List (Bor ℕ)) (y : Bor ℕ)
    → new ≡ cond (is_at (nat_cmp y.now) q) false cur → cur ≡ (base && not (is_key q (map deref xs)))
    → new ≡ (base && not (is_key q (map deref (xs ++ y ∷ []))))
less_step q base cur new xs y now was =
    now ∙ rw (at_either q y.now, was) (by (is_at (nat_cmp q) y.now) base (is_key q (map deref xs)))
    ∙ ap (λ b. base && not b) (sym (any_push (is_at (nat_cmp q)) xs y))
  where
    by : (a b c : Bool) → cond a false (b && not c) ≡ (b && not (c || a))
    by true true true = refl
    by true true false = refl
    by true false c = refl
    by false true true = refl
    by false true false = refl
    by false false c = refl

pub or_from : (n : ℕ) (ks more : List ℕ) → SetChangesAt n true ks more
    → (g : ℕ) → is_key g more ≡ (is_key g ks || g == n)
or_from n ks more set g = set g ∙ rw (is_at_same n g) (by (g == n) (is_key g ks))
  where
    by : (b c : Bool) → cond b true c ≡ (c || b)
    by true true = refl
    by true false = refl
    by false true = refl
    by false false = refl

pub left_same : (n : ℕ) (was : Bool) (ls : List ℕ) → was ≡ true
    → (g : ℕ) → is_key g ls ≡ (is_key g ls || (not was && g == n))
left_same n was ls is g = rw is (by (is_key g ls))
  where
    by : (b : Bool) → b ≡ (b || false)
    by true = refl
    by false = refl

pub left_more : (n : ℕ) (was : Bool) (ls more : List ℕ) → was ≡ false → SetChangesAt n true ls more
    → (g : ℕ) → is_key g more ≡ (is_key g ls || (not was && g == n))
left_more n was ls more is set g = rw is (or_from n ls more set g)

-- ---- entries that go

pub filter-all : {X : Type 0} (es : List X) → filter (λ e. true) es ≡ es
filter-all [] = refl
filter-all (e ∷ es) = ap (λ t. e ∷ t) (filter-all es)

without-above : {X : Type 0} (k : ℕ) (es : List (ℕ × X)) → AllByRecursion (λ q. nat_cmp k q ≡ Less) (keys_of es)
    → filter (λ e. not (e.0 == k)) es ≡ es
without-above k [] a = refl
without-above k (e ∷ es) a = grind (arith, a.0, without-above k es a.1)

pub remove-filter : {X : Type 0} (k : ℕ) (es : List (ℕ × X)) → KeysAscend es
    → remove_entry (is_at (nat_cmp k)) es ≡ filter (λ e. not (e.0 == k)) es
remove-filter k [] s = refl
remove-filter k (e ∷ es) s =
    grind (
      arith,
      is_at_same k e.0,
      remove-filter k es (sorted_tail nat_cmp _ _ s),
      λ (same : e.0 ≡ k). without-above k es (rw (sym same) (sorted_head nat_cmp _ _ s)),
    )

filter-push : {X : Type 0} (xs : List (Bor ℕ)) (y : Bor ℕ) (es : List (ℕ × X))
    → filter (λ e. not (e.0 == y.now)) (filter (λ e. not (is_key e.0 (map deref xs))) es)
    ≡ filter (λ e. not (is_key e.0 (map deref (xs ++ y ∷ [])))) es
filter-push xs y [] = refl
filter-push xs y (e ∷ es) = by (is_key e.0 (map deref xs)) (e.0 == y.now) refl refl (filter-push xs y es)
  where
    here : (e.0 == y.now) ≡ is_at (nat_cmp e.0) y.now
    here = grind (arith, is_at_same e.0 y.now)

    by : (b c : Bool) → is_key e.0 (map deref xs) ≡ b → (e.0 == y.now) ≡ c
        → filter (λ e. not (e.0 == y.now)) (filter (λ e. not (is_key e.0 (map deref xs))) es)
        ≡ filter (λ e. not (is_key e.0 (map deref (xs ++ y ∷ [])))) es
        → filter (λ e. not (e.0 == y.now)) (filter (λ e. not (is_key e.0 (map deref xs))) (e ∷ es))
        ≡ filter (λ e. not (is_key e.0 (map deref (xs ++ y ∷ [])))) (e ∷ es)
    by true c was at later =
        let out : is_key e.0 (map deref (xs ++ y ∷ [])) ≡ true = any_push (is_at (nat_cmp e.0)) xs y ∙ rw was refl in
        rw (was, out) later
    by false true was at later =
        let at_y : is_at (nat_cmp e.0) y.now ≡ true = sym here ∙ at in
        let out : is_key e.0 (map deref (xs ++ y ∷ [])) ≡ true =
        any_push (is_at (nat_cmp e.0)) xs y ∙ rw (was, at_y) refl in
        rw (was, at, out) later
    by false false was at later =
        let at_y : is_at (nat_cmp e.0) y.now ≡ false = sym here ∙ at in
        let out : is_key e.0 (map deref (xs ++ y ∷ [])) ≡ false =
        any_push (is_at (nat_cmp e.0)) xs y ∙ rw (was, at_y) refl in
        rw (was, at, out) (ap (λ t. e ∷ t) later)

pub gone_step : {X : Type 0} (xs : List (Bor ℕ)) (y : Bor ℕ) (old cur new : List (ℕ × X)) → KeysAscend cur
    → cur ≡ filter (λ e. not (is_key e.0 (map deref xs))) old → new ≡ remove_entry (is_at (nat_cmp y.now)) cur
    → new ≡ filter (λ e. not (is_key e.0 (map deref (xs ++ y ∷ [])))) old
gone_step xs y old cur new s was now =
    now ∙ remove-filter y.now cur s ∙ ap (filter (λ e. not (e.0 == y.now))) was ∙ filter-push xs y old

-- ---- two sets that have the same

none_below : (k : ℕ) (ks : List ℕ) → AllByRecursion (λ q. nat_cmp k q ≡ Less) ks → is_key k ks ≡ false
none_below k [] a = refl
none_below k (x ∷ xs) a = grind (arith, is_at_same k x, a.0, none_below k xs a.1)

-- a key behind the first is above it
behind : (x q : ℕ) (xs : List ℕ) → AllByRecursion (λ q. nat_cmp x q ≡ Less) xs → is_key q xs ≡ true
    → nat_cmp x q ≡ Less
behind x q [] a is = absurd cc
behind x q (y ∷ ys) a is = split (is_at (nat_cmp q) y) refl (behind x q ys a.1)
  where
    split : (b : Bool) → is_at (nat_cmp q) y ≡ b → (is_key q ys ≡ true → nat_cmp x q ≡ Less) → nat_cmp x q ≡ Less
    split true here later =
        let same : y ≡ q = grind (arith, is_at_same q y, here) in
        subst (λ (n : ℕ). nat_cmp x n ≡ Less) same a.0
    split false other later = later (rw other at is)

no_circle : (x y : ℕ) → nat_cmp x y ≡ Less → nat_cmp y x ≡ Less → ⊥
no_circle x y down up = grind arith

pub first_has : (x : ℕ) (xs : List ℕ) → is_key x (x ∷ xs) ≡ true
first_has x xs = let here : is_at (nat_cmp x) x ≡ true = grind (arith, is_at_same x x) in rw here refl

pub sorted_same : (xs ys : List ℕ) → IsStrictlySortedBy nat_cmp xs → IsStrictlySortedBy nat_cmp ys
    → ((q : ℕ) → is_key q xs ≡ is_key q ys) → xs ≡ ys
sorted_same [] [] s t same = refl
sorted_same [] (y ∷ ys) s t same =
    let clash : false ≡ true = same y ∙ first_has y ys in absurd cc
sorted_same (x ∷ xs) [] s t same =
    let clash : true ≡ false = sym (first_has x xs) ∙ same x in absurd cc
sorted_same (x ∷ xs) (y ∷ ys) s t same =
    λ i. first i ∷ sorted_same xs ys (sorted_tail nat_cmp _ _ s) (sorted_tail nat_cmp _ _ t) rest i
  where
    in_ys : is_key x (y ∷ ys) ≡ true
    in_ys = sym (same x) ∙ first_has x xs

    in_xs : is_key y (x ∷ xs) ≡ true
    in_xs = same y ∙ first_has y ys

    first : x ≡ y
    first = by (is_at (nat_cmp x) y) refl (is_at (nat_cmp y) x) refl
      where
        by : (b : Bool) → is_at (nat_cmp x) y ≡ b → (c : Bool) → is_at (nat_cmp y) x ≡ c → x ≡ y
        by true here c is = at_same x y here
        by false other true is = sym (at_same y x is)
        by false other false is =
            let up : nat_cmp y x ≡ Less = behind y x ys (sorted_head nat_cmp _ _ t) (rw other at in_ys) in
            let down : nat_cmp x y ≡ Less = behind x y xs (sorted_head nat_cmp _ _ s) (rw is at in_xs) in
            absurd (no_circle x y down up)

    rest : (q : ℕ) → is_key q xs ≡ is_key q ys
    rest q = by (is_at (nat_cmp q) x) (is_at (nat_cmp q) y) refl refl
      where
        by : (b c : Bool) → is_at (nat_cmp q) x ≡ b → is_at (nat_cmp q) y ≡ c → is_key q xs ≡ is_key q ys
        by true c here is =
            let at_x : x ≡ q = grind (arith, is_at_same q x, here) in
            let at_y : y ≡ q = sym first ∙ at_x in
            subst (λ (n : ℕ). is_key n xs ≡ false) at_x (none_below x xs (sorted_head nat_cmp _ _ s))
            ∙ sym (subst (λ (n : ℕ). is_key n ys ≡ false) at_y (none_below y ys (sorted_head nat_cmp _ _ t)))
        by false true other here =
            let at_y : y ≡ q = grind (arith, is_at_same q y, here) in
            let at_x : x ≡ q = first ∙ at_y in
            subst (λ (n : ℕ). is_key n xs ≡ false) at_x (none_below x xs (sorted_head nat_cmp _ _ s))
            ∙ sym (subst (λ (n : ℕ). is_key n ys ≡ false) at_y (none_below y ys (sorted_head nat_cmp _ _ t)))
        by false false a b = rw b at (rw a at (same q))

pub or_false : (b : Bool) → (b || false) ≡ b
or_false true = refl
or_false false = refl

pub and_true : (b : Bool) → (b && true) ≡ b
and_true true = refl
and_true false = refl

pub and_false : (b : Bool) → (b && false) ≡ false
and_false true = refl
and_false false = refl

pub on_ok : {X E : Type 0} (P : Type 0) (r : Result X E) → is_err r ≡ false → OnOk r P → P
on_ok P (Ok x) is p = p
on_ok P (Err e) is p = absurd cc

pub on_error : {X E : Type 0} (P : Type 0) (r : Result X E) → is_err r ≡ true → OnErr r P → P
on_error P (Ok x) is p = absurd cc
on_error P (Err e) is p = p

-- what was put in is taken out again
pub taken_back : (old put gone : Bool) → (gone ≡ true → old ≡ false) → (put ≡ true → gone ≡ true)
    → ((old || put) && not gone) ≡ old
taken_back true true true apart within = let clash : true ≡ false = apart refl in absurd cc
taken_back true false true apart within = let clash : true ≡ false = apart refl in absurd cc
taken_back false put true apart within = and_false (false || put)
taken_back true put false apart within = refl
taken_back false true false apart within = let clash : false ≡ true = within refl in absurd cc
taken_back false false false apart within = refl

pub in_front : (n : ℕ) (xs ts all : List ℕ) → all ≡ xs ++ ts → is_key n xs ≡ true → is_key n all ≡ true
in_front n xs ts all is have = ap (is_key n) is ∙ front xs have
  where
    front : (xs : List ℕ) → is_key n xs ≡ true → is_key n (xs ++ ts) ≡ true
    front [] have = absurd cc
    front (x ∷ xs) have = by (is_at (nat_cmp n) x) refl (front xs)
      where
        by : (b : Bool) → is_at (nat_cmp n) x ≡ b → (is_key n xs ≡ true → is_key n (xs ++ ts) ≡ true)
            → is_key n (x ∷ xs ++ ts) ≡ true
        by true here later = rw here refl
        by false other later = rw other (later (rw other at have))

-- ---- what is found among those that were gone through

eq_from : (g n : ℕ) → (g == n) ≡ true → g ≡ n
eq_from g n is = grind (arith, nat_tests, is)

pub found_step : (g n : ℕ) (base cur new child : Bool) (xs : List (Bor ℕ)) (y : Bor ℕ) → y.now ≡ n
    → new ≡ (cur || (g == n && child)) → cur ≡ (base || (is_key g (map deref xs) && child))
    → new ≡ (base || (is_key g (map deref (xs ++ y ∷ [])) && child))
found_step g n base cur new child xs y item now was =
    now ∙ ap (λ b. b || (g == n && child)) was
    ∙ by base (is_key g (map deref xs)) (g == n) child
    ∙ ap (λ b. base || ((is_key g (map deref xs) || b) && child)) at
    ∙ ap (λ b. base || (b && child)) (sym (any_push (is_at (nat_cmp g)) xs y))
  where
    at : (g == n) ≡ is_at (nat_cmp g) y.now
    at = grind (arith, is_at_same g y.now, is_at_same y.now g, item)

    by : (a b c d : Bool) → ((a || (b && d)) || (c && d)) ≡ (a || ((b || c) && d))
    by true b c d = refl
    by false true c true = refl
    by false true true false = refl
    by false true false false = refl
    by false false c d = refl

pub left_step : (g n : ℕ) (base kept cur new : Bool) (found : List ℕ) (child : Bool) (xs : List (Bor ℕ)) (y : Bor ℕ)
    → y.now ≡ n → new ≡ (cur || (not (is_key n found) && (g == n && child)))
    → cur ≡ (kept || (not base && (is_key g (map deref xs) && child)))
    → is_key g found ≡ (base || (is_key g (map deref xs) && child))
    → new ≡ (kept || (not base && (is_key g (map deref (xs ++ y ∷ [])) && child)))
left_step g n base kept cur new found child xs y item now was in_found =
    now ∙ split (g == n) refl
    ∙ ap (λ b. kept || (not base && ((is_key g (map deref xs) || b) && child))) at
    ∙ ap (λ b. kept || (not base && (b && child))) (sym (any_push (is_at (nat_cmp g)) xs y))
  where
    at : (g == n) ≡ is_at (nat_cmp g) y.now
    at = grind (arith, is_at_same g y.now, is_at_same y.now g, item)

    here : (k b s c : Bool)
        → ((k || (not b && (s && c))) || (not (b || (s && c)) && c)) ≡ (k || (not b && ((s || true) && c)))
    here true b s c = refl
    here false true s c = refl
    here false false true true = refl
    here false false true false = refl
    here false false false true = refl
    here false false false false = refl

    other : (k b s c u : Bool) → ((k || (not b && (s && c))) || (u && false)) ≡ (k || (not b && ((s || false) && c)))
    other true b s c u = refl
    other false true s c u = and_false u
    other false false true true u = refl
    other false false true false u = and_false u
    other false false false c u = and_false u

    split : (b : Bool) → (g == n) ≡ b → (cur || (not (is_key n found) && (g == n && child)))
        ≡ (kept || (not base && ((is_key g (map deref xs) || (g == n)) && child)))
    split true same =
        let number : g ≡ n = eq_from g n same in
        let f : is_key n found ≡ (base || (is_key g (map deref xs) && child)) =
        subst (λ (m : ℕ). is_key m found ≡ (base || (is_key g (map deref xs) && child))) number in_found in
        rw (same, was, f) (here kept base (is_key g (map deref xs)) child)
    split false apart =
        rw (apart, was) (other kept base (is_key g (map deref xs)) child (not (is_key n found)))

pub on_result : {X E : Type 0} (P Q : Type 0) (r : Result X E) → OnOk r P → (P → Q) → OnOk r Q
on_result P Q (Ok x) p f = f p
on_result P Q (Err e) p f = tt

pub on_false : (b : Bool) (P : Type 0) → b ≡ false → OnFalse b P → P
on_false true P is p = absurd cc
on_false false P is p = p

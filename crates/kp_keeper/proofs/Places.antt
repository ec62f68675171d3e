-- Where the record of an oid stands among records that ascend, or is to be put, and what they are with it or without it.
use Rattle.std.proofs.Common.{◌≡◌, ℕ, zero, suc, ◌+◌, ◌<◌, ◌≤◌, List, [], ◌∷◌, ◌++◌, length, take, drop, map}
use Rattle.std.proofs.Common.{slice_index_or, Bool, true, false, ◌||◌, cond, not, Result, Ok, Err, MatchResult, refl, ap}
use Rattle.std.proofs.Common.{sym, ◌∙◌, subst, arith}
use Rattle.std.specs.declared.cmp.Ordering.{Ordering}
use Rattle.std.specs.declared.cmp.Ordering.TheVariants.{Less, Equal, Greater}
use Rattle.std.specs.Cmp.{IsTotalOrder}
use Rattle.std.specs.Ordering.{is_eq, is_lt, ordering_index, ordering_reverse, match_ordering}
use Rattle.std.specs.List.{AllByRecursion, AllAdjacentBelow, HoldsAt, IsAllAdjacentAnswer, insert, remove, filter}
use Rattle.std.specs.List.Sorted.{IsStrictlySortedBy, IsPartitionPoint, IsSearchInRange, IsBinarySearchResult}
use Rattle.std.specs.Str.{bytes_eq}
use Rattle.std.proofs.lemmas.List.{take-append-drop}
use Rattle.std.proofs.lemmas.Cmp.{nat_list_cmp_total}
use Rattle.std.proofs.lemmas.Map.Text.{is_eq-slice_cmp}
use Rattle.kp_keeper.specs.Places.{IsThere, IsGap}
use Rattle.kp_keeper.specs.Records.{Record, Ascend, byte_order, is_kept, with_record, without}

abbrev oids : List Record → List (List ℕ)
oids rs = map (λ r. r.oid) rs

abbrev Comes : List ℕ → List (List ℕ) → Type 0
Comes x ys = AllByRecursion (λ y. byte_order x y ≡ Less) ys

-- ---- the order of oids

total : IsTotalOrder byte_order
total = nat_list_cmp_total

flip : (a b : List ℕ) → byte_order a b ≡ Less → byte_order b a ≡ Greater
flip a b e = total.antisymm b a ∙ ap ordering_reverse e

pub flop : (a b : List ℕ) → byte_order a b ≡ Greater → byte_order b a ≡ Less
flop a b e = total.antisymm b a ∙ ap ordering_reverse e

apart : (a b : List ℕ) (c : Ordering) → is_eq c ≡ false → byte_order a b ≡ c → bytes_eq a b ≡ false
apart a b c f e = sym (is_eq-slice_cmp a b) ∙ ap is_eq e ∙ f

together : (a b : List ℕ) → byte_order a b ≡ Equal → bytes_eq a b ≡ true
together a b e = sym (is_eq-slice_cmp a b) ∙ ap is_eq e

-- ---- what is searched rises

less_first : (a b c : List ℕ) → byte_order a b ≡ Less
    → ordering_index (byte_order a c) ≤ ordering_index (byte_order b c)
less_first a b c e = by (byte_order b c) refl
  where
    at_most : (o : Ordering) → ordering_index o ≤ 2
    at_most Less = omega arith
    at_most Equal = omega arith
    at_most Greater = omega arith

    below : (o : Ordering) (n : ℕ) → o ≡ Less → ordering_index o ≤ n
    below o n f = subst (λ p. ordering_index p ≤ n) (sym f) (omega arith)

    by : (o : Ordering) → byte_order b c ≡ o → ordering_index (byte_order a c) ≤ ordering_index o
    by Less f = below (byte_order a c) 0 (total.trans a b c e f)
    by Equal f =
        below (byte_order a c) 1
        (total.antisymm a c ∙ ap ordering_reverse (sym (total.congr b c a f)) ∙ sym (total.antisymm a b) ∙ e)
    by Greater f = at_most (byte_order a c)

all_at : (P : List ℕ → Type 0) (xs : List Record) (k : ℕ) (d : Record) → AllByRecursion P (oids xs) → k < length xs
    → P (slice_index_or xs k d).oid
all_at P [] k d a h = absurd (omega arith)
all_at P (x ∷ xs) zero d a h = a.0
all_at P (x ∷ xs) (suc k) d a h = all_at P xs k d a.1 (omega arith)

rises : (oid : List ℕ) (xs : List Record) → Ascend xs → (i j : ℕ) (d : Record) → i ≤ j → j < length xs
    → ordering_index (byte_order (slice_index_or xs i d).oid oid)
    ≤ ordering_index (byte_order (slice_index_or xs j d).oid oid)
unfolding IsStrictlySortedBy
rises oid [] s i j d le lt = absurd (omega arith)
rises oid (x ∷ xs) s zero zero d le lt = omega arith
rises oid (x ∷ xs) s zero (suc j) d le lt =
    less_first x.oid (slice_index_or xs j d).oid oid (all_at (λ y. byte_order x.oid y ≡ Less) xs j d s.0 (omega arith))
rises oid (x ∷ xs) s (suc i) zero d le lt = absurd (omega arith)
rises oid (x ∷ xs) s (suc i) (suc j) d le lt = rises oid xs s.1 i j d (omega arith) (omega arith)

-- ---- what stands before and behind a place

abbrev Below : List ℕ → List Record → Type 0
Below oid xs = AllByRecursion (λ x. byte_order x.oid oid ≡ Less) xs

abbrev Above : List ℕ → List Record → Type 0
Above oid xs = AllByRecursion (λ x. byte_order x.oid oid ≡ Greater) xs

all_taken : (P : Record → Type 0) (xs : List Record) (i : ℕ)
    → ((k : ℕ) (d : Record) → 0 ≤ k → k < i → P (slice_index_or xs k d)) → AllByRecursion P (take i xs)
all_taken P xs zero h = tt
all_taken P [] (suc i) h = tt
all_taken P (x ∷ xs) (suc i) h =
    (h zero x (omega arith) (omega arith), all_taken P xs i (λ k d l m. h (suc k) d (omega arith) (omega arith)))

all_left : (P : Record → Type 0) (xs : List Record) (i : ℕ)
    → ((k : ℕ) (d : Record) → i ≤ k → k < length xs → P (slice_index_or xs k d)) → AllByRecursion P (drop i xs)
all_left P [] zero h = tt
all_left P (x ∷ xs) zero h =
    (h zero x (omega arith) (omega arith), all_left P xs zero (λ k d l m. h (suc k) d (omega arith) (omega arith)))
all_left P [] (suc i) h = tt
all_left P (x ∷ xs) (suc i) h = all_left P xs i (λ k d l m. h (suc k) d (omega arith) (omega arith))

split_at : (xs : List Record) (i : ℕ) (d : Record) → i < length xs
    → xs ≡ take i xs ++ slice_index_or xs i d ∷ drop (suc i) xs
split_at [] i d h = absurd (omega arith)
split_at (x ∷ xs) zero d h = refl
split_at (x ∷ xs) (suc i) d h = ap (λ l. x ∷ l) (split_at xs i d (omega arith))

all_above : (oid : List ℕ) (y : Record) (back : List Record) → byte_order y.oid oid ≡ Equal → Comes y.oid (oids back)
    → Above oid back
all_above oid y [] e a = tt
all_above oid y (x ∷ xs) e a =
    (flip oid x.oid (sym (total.congr y.oid oid x.oid e) ∙ a.0), all_above oid y xs e a.1)

one_in : (P : List ℕ → Type 0) (front : List Record) (y : Record) (back : List Record)
    → AllByRecursion P (oids (front ++ y ∷ back)) → P y.oid
one_in P [] y back a = a.0
one_in P (x ∷ xs) y back a = one_in P xs y back a.1

less_so : (x y oid : List ℕ) → byte_order y oid ≡ Equal → byte_order x y ≡ Less → byte_order x oid ≡ Less
less_so x y oid e f = flop oid x (sym (total.congr y oid x e) ∙ flip x y f)

around : (oid : List ℕ) (front : List Record) (y : Record) (back : List Record) → byte_order y.oid oid ≡ Equal
    → Ascend (front ++ y ∷ back) → Below oid front × Above oid back
unfolding IsStrictlySortedBy
around oid [] y back e s = (tt, all_above oid y back e s.0)
around oid (x ∷ xs) y back e s =
    let r = around oid xs y back e s.1 in
    ((less_so x.oid y.oid oid e (one_in (λ z. byte_order x.oid z ≡ Less) xs y back s.0), r.0), r.1)

-- ---- with a record, and without one

put_between : (r : Record) (front back : List Record) → Below r.oid front → Above r.oid back
    → with_record r (front ++ back) ≡ front ++ r ∷ back
put_between r [] [] b a = refl
put_between r [] (y ∷ ys) b a =
    ap (λ o. match_ordering {X = List Record} o (r ∷ y ∷ ys) (y ∷ ys) (y ∷ with_record r ys)) (flop y.oid r.oid a.0)
put_between r (x ∷ xs) back b a =
    ap
    (λ o. match_ordering {X = List Record} o (r ∷ x ∷ (xs ++ back)) (x ∷ (xs ++ back))
    (x ∷ with_record r (xs ++ back)))
    (flip x.oid r.oid b.0)
    ∙ ap (λ l. x ∷ l) (put_between r xs back b.1 a)

none_of : (c : Ordering) → is_eq c ≡ false → (oid : List ℕ) (xs : List Record)
    → AllByRecursion (λ x. byte_order x.oid oid ≡ c) xs → is_kept oid xs ≡ false
none_of c f oid [] a = refl
none_of c f oid (x ∷ xs) a = ap (λ b. b || is_kept oid xs) (apart x.oid oid c f a.0) ∙ none_of c f oid xs a.1

all_stay : (c : Ordering) → is_eq c ≡ false → (oid : List ℕ) (xs : List Record)
    → AllByRecursion (λ x. byte_order x.oid oid ≡ c) xs → without oid xs ≡ xs
all_stay c f oid [] a = refl
all_stay c f oid (x ∷ xs) a =
    ap (λ b. cond {A = List Record} (not b) (x ∷ without oid xs) (without oid xs)) (apart x.oid oid c f a.0)
    ∙ ap (λ l. x ∷ l) (all_stay c f oid xs a.1)

none_between : (oid : List ℕ) (front back : List Record) → Below oid front → Above oid back
    → is_kept oid (front ++ back) ≡ false
none_between oid [] back b a = none_of Greater refl oid back a
none_between oid (x ∷ xs) back b a =
    ap (λ t. t || is_kept oid (xs ++ back)) (apart x.oid oid Less refl b.0) ∙ none_between oid xs back b.1 a

stay_between : (oid : List ℕ) (front back : List Record) → Below oid front → Above oid back
    → without oid (front ++ back) ≡ front ++ back
stay_between oid [] back b a = all_stay Greater refl oid back a
stay_between oid (x ∷ xs) back b a =
    ap (λ t. cond {A = List Record} (not t) (x ∷ without oid (xs ++ back)) (without oid (xs ++ back)))
    (apart x.oid oid Less refl b.0)
    ∙ ap (λ l. x ∷ l) (stay_between oid xs back b.1 a)

or_true : (b : Bool) → (b || true) ≡ true
or_true true = refl
or_true false = refl

kept_at : (oid : List ℕ) (front : List Record) (y : Record) (back : List Record) → byte_order y.oid oid ≡ Equal
    → is_kept oid (front ++ y ∷ back) ≡ true
kept_at oid [] y back e = ap (λ b. b || is_kept oid back) (together y.oid oid e)
kept_at oid (x ∷ xs) y back e =
    ap (λ b. bytes_eq x.oid oid || b) (kept_at oid xs y back e) ∙ or_true (bytes_eq x.oid oid)

gone_at : (oid : List ℕ) (front : List Record) (y : Record) (back : List Record) → byte_order y.oid oid ≡ Equal
    → Below oid front → Above oid back → without oid (front ++ y ∷ back) ≡ front ++ back
gone_at oid [] y back e b a =
    ap (λ t. cond {A = List Record} (not t) (y ∷ without oid back) (without oid back)) (together y.oid oid e)
    ∙ all_stay Greater refl oid back a
gone_at oid (x ∷ xs) y back e b a =
    ap
    (λ t. cond {A = List Record} (not t) (x ∷ without oid (xs ++ y ∷ back)) (without oid (xs ++ y ∷ back)))
    (apart x.oid oid Less refl b.0)
    ∙ ap (λ l. x ∷ l) (gone_at oid xs y back e b.1 a)

-- ---- what ascends goes on to

comes_with : (x : List ℕ) (r : Record) → byte_order x r.oid ≡ Less → (ys : List Record) → Comes x (oids ys)
    → Comes x (oids (with_record r ys))
comes_with x r d [] a = (d, tt)
comes_with x r d (y ∷ ys) a = by (byte_order r.oid y.oid) (comes_with x r d ys a.1)
  where
    by : (o : Ordering) → Comes x (oids (with_record r ys))
        → Comes x (oids (match_ordering o (r ∷ y ∷ ys) (y ∷ ys) (y ∷ with_record r ys)))
    by Less h = (d, a)
    by Equal h = a
    by Greater h = (a.0, h)

comes_on : (x y : List ℕ) (zs : List (List ℕ)) → byte_order x y ≡ Less → Comes y zs → Comes x zs
comes_on x y [] d a = tt
comes_on x y (z ∷ zs) d a = (total.trans x y z d a.0, comes_on x y zs d a.1)

pub ascend_with : (r : Record) (xs : List Record) → Ascend xs → Ascend (with_record r xs)
unfolding IsStrictlySortedBy
ascend_with r [] s = (tt, tt)
ascend_with r (x ∷ xs) s = by (byte_order r.oid x.oid) refl (ascend_with r xs s.1)
  where
    by : (o : Ordering) → byte_order r.oid x.oid ≡ o → Ascend (with_record r xs)
        → Ascend (match_ordering o (r ∷ x ∷ xs) (x ∷ xs) (x ∷ with_record r xs))
    by Less e h = ((e, comes_on r.oid x.oid (oids xs) e s.0), s)
    by Equal e h = s
    by Greater e h = (comes_with x.oid r (flop r.oid x.oid e) xs s.0, h)

comes_without : (x : List ℕ) (p : Record → Bool) (ys : List Record) → Comes x (oids ys) → Comes x (oids (filter p ys))
comes_without x p [] a = tt
comes_without x p (y ∷ ys) a = by (p y) (comes_without x p ys a.1)
  where
    by : (b : Bool) → Comes x (oids (filter p ys)) → Comes x (oids (cond b (y ∷ filter p ys) (filter p ys)))
    by true h = (a.0, h)
    by false h = h

ascend_filtered : (p : Record → Bool) (xs : List Record) → Ascend xs → Ascend (filter p xs)
unfolding IsStrictlySortedBy
ascend_filtered p [] s = tt
ascend_filtered p (x ∷ xs) s = by (p x) (ascend_filtered p xs s.1)
  where
    by : (b : Bool) → Ascend (filter p xs) → Ascend (cond b (x ∷ filter p xs) (filter p xs))
    by true h = (comes_without x.oid p xs s.0, h)
    by false h = h

pub ascend_without : (oid : List ℕ) (xs : List Record) → Ascend xs → Ascend (without oid xs)
ascend_without oid xs s = ascend_filtered (λ r. not (bytes_eq r.oid oid)) xs s

-- ---- what a search finds

search_there : (oid : List ℕ) (xs : List Record) (i : ℕ) (d : Record) → Ascend xs → i < length xs
    → byte_order (slice_index_or xs i d).oid oid ≡ Equal → IsThere oid xs i
search_there oid xs i d s lt e =
    let y = slice_index_or xs i d in
    let front = take i xs in
    let back = drop (suc i) xs in
    let split = split_at xs i d lt in
    let parts = around oid front y back e (subst Ascend split s) in
    let others : without oid xs ≡ remove xs i = ap (without oid) split ∙ gone_at oid front y back e parts.0 parts.1 in
    record {
      below = lt;
      kept = ap (is_kept oid) split ∙ kept_at oid front y back e;
      others = others;
      ascend = subst Ascend others (ascend_without oid xs s);
    }

search_there_in : (oid : List ℕ) (xs : List Record) (i : ℕ) → Ascend xs → i < length xs
    → HoldsAt (λ x. byte_order x.oid oid ≡ Equal) xs i → IsThere oid xs i
search_there_in oid [] i s lt h = absurd (omega arith)
search_there_in oid (x ∷ xs) i s lt h = search_there oid (x ∷ xs) i x s lt (h x)

search_gap : (oid : List ℕ) (xs : List Record) (i : ℕ) → Ascend xs → i ≤ length xs
    → IsPartitionPoint (λ x. byte_order x.oid oid ≡ Less) (λ x. byte_order x.oid oid ≡ Greater) xs i → IsGap oid xs i
search_gap oid xs i s le p =
    let front = take i xs in
    let back = drop i xs in
    let below = all_taken (λ x. byte_order x.oid oid ≡ Less) xs i p.0 in
    let above = all_left (λ x. byte_order x.oid oid ≡ Greater) xs i p.1 in
    let split = sym (take-append-drop i xs) in
    let filled : (r : Record) → r.oid ≡ oid → with_record r xs ≡ insert xs i r =
    λ r e. ap (with_record r) split ∙ put_between r front back (subst (λ o. Below o front) (sym e) below)
    (subst (λ o. Above o back) (sym e) above) in
    record {
      within = le;
      free = ap (is_kept oid) split ∙ none_between oid front back below above;
      same = ap (without oid) split ∙ stay_between oid front back below above ∙ take-append-drop i xs;
      filled = filled;
      ascend = λ r e. subst Ascend (filled r e) (ascend_with r xs s);
    }

pub searched : (oid : List ℕ) (xs : List Record) (r : Result ℕ ℕ) → Ascend xs → IsSearchInRange r (length xs)
    → IsBinarySearchResult (λ x. byte_order x.oid oid) xs r → MatchResult r (IsThere oid xs) (IsGap oid xs)
searched oid xs (Ok i) s range h = search_there_in oid xs i s range h
searched oid xs (Err i) s range h = search_gap oid xs i s range (h (rises oid xs s))

-- ---- each before the next

lt_less : (o : Ordering) → true ≡ is_lt o → o ≡ Less
lt_less Less e = refl
lt_less Equal e = cc
lt_less Greater e = cc

-- each is less than the one behind it
abbrev Steps : List Record → Type 0
Steps xs = (k : ℕ) (d : Record) → suc k < length xs
    → true ≡ is_lt (byte_order (slice_index_or xs k d).oid (slice_index_or xs (suc k) d).oid)

next : (k : ℕ) → k + 1 ≡ suc k
next k = omega arith

steps : (xs : List Record) → AllAdjacentBelow (λ a b. true ≡ is_lt (byte_order a.oid b.oid)) xs (length xs) → Steps xs
steps xs a k d lt =
    subst (λ n. true ≡ is_lt (byte_order (slice_index_or xs k d).oid (slice_index_or xs n d).oid)) (next k)
    (a k d (omega arith))

comes_from : (x : Record) (ys : List Record) → Steps (x ∷ ys) → Ascend ys → Comes x.oid (oids ys)
unfolding IsStrictlySortedBy
comes_from x [] a s = tt
comes_from x (y ∷ ys) a s =
    let d = lt_less (byte_order x.oid y.oid) (a zero x (omega arith)) in
    (d, comes_on x.oid y.oid (oids ys) d s.0)

ascend_from : (xs : List Record) → Steps xs → Ascend xs
unfolding IsStrictlySortedBy
ascend_from [] a = tt
ascend_from (x ∷ xs) a =
    let s = ascend_from xs (λ k d lt. a (suc k) d (omega arith)) in
    (comes_from x xs a s, s)

next_comes : (xs : List Record) → Ascend xs → (k : ℕ) (d : Record) → suc k < length xs
    → byte_order (slice_index_or xs k d).oid (slice_index_or xs (suc k) d).oid ≡ Less
unfolding IsStrictlySortedBy
next_comes [] s k d lt = absurd (omega arith)
next_comes (x ∷ xs) s zero d lt = all_at (λ y. byte_order x.oid y ≡ Less) xs 0 d s.0 (omega arith)
next_comes (x ∷ xs) s (suc k) d lt = next_comes xs s.1 k d (omega arith)

not_ascending : (xs : List Record) (k : ℕ) → k + 1 < length xs
    → ((d : Record) → false ≡ is_lt (byte_order (slice_index_or xs k d).oid (slice_index_or xs (k + 1) d).oid))
    → Ascend xs → ⊥
not_ascending [] k lt h s = omega arith
not_ascending (x ∷ xs) k lt h s =
    let f : false ≡ is_lt (byte_order (slice_index_or (x ∷ xs) k x).oid (slice_index_or (x ∷ xs) (suc k) x).oid)
    = subst
    (λ n. false ≡ is_lt (byte_order (slice_index_or (x ∷ xs) k x).oid (slice_index_or (x ∷ xs) n x).oid)) (next k)
    (h x) in
    let e : false ≡ true = f ∙ ap is_lt (next_comes (x ∷ xs) s k x (omega arith)) in cc

clash : false ≡ true → ⊥
clash e = cc

-- whether each comes before the next is whether they ascend
pub tested : (xs : List Record) (b : Bool)
    → IsAllAdjacentAnswer (λ x y t. t ≡ is_lt (byte_order x.oid y.oid)) xs b
    → (b ≡ true → Ascend xs) × (Ascend xs → b ≡ true)
tested xs true h = (λ e. ascend_from xs (steps xs h), λ s. refl)
tested xs false h = (λ e. absurd (clash e), λ s. absurd (not_ascending xs h.0 h.1 h.2 s))

pub ascend_none : (xs : List Record) → xs ≡ [] → Ascend xs
unfolding IsStrictlySortedBy
ascend_none xs e = subst Ascend (sym e) tt

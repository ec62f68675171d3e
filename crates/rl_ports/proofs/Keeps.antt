-- Exports stay kept as one comes or goes.
use Rattle.std.proofs.Common.{◌≡◌, ℕ, ◌+◌, ◌<◌, ◌≤◌, ◌==◌, ◌^◌, ◌||◌, ◌&&◌, List, [], ◌∷◌, ◌++◌, length, not}
use Rattle.std.proofs.Common.{Bool, true, false, cond, filter, Option, Some, None, Less, refl, ap, sym, ◌∙◌, arith, subst}
use Rattle.std.proofs.Common.{length-append, map, drop, get_or, drop-cons, zero, suc}
use Rattle.std.proofs.lemmas.Bool.Decides.{nat_tests}
use Rattle.std.proofs.lemmas.Map.Keys.{sorted_head, sorted_tail}
use Rattle.std.proofs.lemmas.Map.Entries.{lookup_head, lookup_tail}
use Rattle.std.specs.Prelude.{nat_lt, nat_le}
use Rattle.std.specs.BTreeMap.{is_at}
use Rattle.std.specs.List.{AllByRecursion}
use Rattle.std.specs.List.Sorted.{IsStrictlySortedBy}
use Rattle.std.specs.Map.{lookup, remove_entry, keys_of, values_of}
use Rattle.std.specs.Option.{option_or}
use Rattle.std.specs.Ordering.{nat_cmp}
use Rattle.pv_value.specs.Plain.{Plain}
use Rattle.pv_value.specs.Order.{order}
use Rattle.pv_value.specs.Weight.{weight}
use Rattle.pv_words.specs.Parts.{same}
use Rattle.pv_words.specs.Lemmas.Same.{same_is}
use Rattle.rl_ports.specs.Limits.{most_exports, most_exports_weight}
use Rattle.rl_ports.specs.Ports.{ExportTable, AreNumbered, with_export, place_of, weight_of, told, export_fault}
use Rattle.rl_ports.specs.Ports.{IsWhy, PortsFault, Exports, Weight, NoMemory}
use Rattle.rl_ports.specs.Kept.{Export, number_at, AreOnce, IsKept, fault_of, IsFirstPinned, is_idle, is_idle_where}
use Rattle.rl_ports.specs.Kept.{released_where, table_of, at_number, at_numbers}
use Rattle.rl_ports.proofs.Entries.{all_append, all_from, all_both, all_removed, filter_same, filter_all, below_more}
use Rattle.rl_ports.proofs.Entries.{all_map_back, all_map_on, keys_append, values_append, ascend_none, ascend_cons}
use Rattle.rl_ports.proofs.Entries.{ascend_last, length_values}
use Rattle.rl_ports.proofs.Marks.{is_at_same, found, KeepsReference, shown_marked}
use Rattle.rl_ports.proofs.Places.{where_it, place-append, same_turns, once_push, once_without, place_without}
use Rattle.rl_ports.proofs.Weights.{weight_of-append, told_sum, weight_without, length_without}

-- the map that has this number at the reference, and at each other one what it had
abbrev pub Puts : List (Plain × ℕ) → List (Plain × ℕ) → Plain → Option ℕ → Type 0
Puts old new r n = (q : Plain) → number_at q new ≡ cond (is_at (order r) q) n (number_at q old)

abbrev Numbers : List (Plain × ℕ) → List (ℕ × Plain) → Type 0
Numbers numbers xs = (q : Plain) → number_at q numbers ≡ place_of q xs

test_turns : (q r : Plain) → is_at (order r) q ≡ same q r
test_turns q r = same_turns r q

or_none : (o : Option ℕ) → option_or o None ≡ o
or_none (Some k) = refl
or_none None = refl

-- where it is the last one, or isn't
at_last : (q r : Plain) (o : Option ℕ) (b : Bool) (n : ℕ) → same q r ≡ b → (q ≡ r → o ≡ None)
    → option_or o (where_it b n) ≡ cond b (Some n) o
at_last q r o true n same last = rw (last (same_is q r same)) refl
at_last q r o false n same last = or_none o

-- the number of each reference, where one is added that has none
place_pushed : (q r : Plain) (n : ℕ) (xs : List (ℕ × Plain)) → place_of r xs ≡ None
    → place_of q (xs ++ (n, r) ∷ []) ≡ cond (is_at (order r) q) (Some n) (place_of q xs)
place_pushed q r n xs new = place-append q r n xs
    ∙ at_last q r (place_of q xs) (same q r) n refl (λ e. ap (λ x. place_of x xs) e ∙ new)
    ∙ ap (λ b. cond b (Some n) (place_of q xs)) (sym (test_turns q r))

numbers_push : (old new : List (Plain × ℕ)) (r : Plain) (n : ℕ) (xs : List (ℕ × Plain)) → Numbers old xs
    → place_of r xs ≡ None → Puts old new r (Some n) → Numbers new (xs ++ (n, r) ∷ [])
numbers_push old new r n xs numbers absent puts q = puts q
    ∙ ap (cond (is_at (order r) q) (Some n)) (numbers q)
    ∙ sym (place_pushed q r n xs absent)

-- ---- the first one

pub kept_first : (r : Plain) (old new : List (Plain × ℕ)) (sum : ℕ) → sum ≡ told (weight r)
    → ((q : Plain) → number_at q old ≡ None) → Puts old new r (Some 0)
    → IsKept (record { in_force = (0, r) ∷ []; next = 1 }) new sum
kept_first r old new sum is none puts = record {
  few = omega arith;
  once = (refl, tt);
  order = record { ascending = ascend_cons 0 [] tt ascend_none; given = (omega arith, tt); few = omega arith };
  numbered = numbers_push old new r 0 [] none refl puts;
  sum_is = omega (arith, is);
  light = λ many. absurd (omega (arith, many));
}

-- ---- one more

-- what they weigh together with one more, as it is told
heavier : (x : ExportTable) (numbers : List (Plain × ℕ)) (sum : ℕ) (r : Plain) → IsKept x numbers sum
    → told (sum + told (weight r)) ≡ told (weight_of (values_of x.in_force ++ r ∷ []))
heavier x numbers sum r k =
    ap (λ (n : ℕ). told (n + told (weight r))) k.sum_is
    ∙ told_sum (weight_of (values_of x.in_force)) (weight r)
    ∙ ap told (sym (weight_of-append (values_of x.in_force) r))

numbered_push : (x : ExportTable) (r : Plain) → x.next + 1 < 2 ^ 63 → AreNumbered x → AreNumbered (with_export r x)
numbered_push x r small n =
    let keys = keys_append x.in_force ((x.next, r) ∷ []) in record {
      ascending = subst (IsStrictlySortedBy nat_cmp) (sym keys)
          (ascend_last (keys_of x.in_force) x.next n.given n.ascending);
      given = subst (AllByRecursion (λ k. k < x.next + 1)) (sym keys)
          (all_append _ (keys_of x.in_force) (x.next ∷ [])
          (below_more x.next (x.next + 1) (keys_of x.in_force) (omega arith) n.given) (omega arith, tt));
      few = omega (arith, small);
    }

pub kept_push : (x : ExportTable) (numbers numbers' : List (Plain × ℕ)) (sum sum' : ℕ) (r : Plain)
    → IsKept x numbers sum → place_of r x.in_force ≡ None → length x.in_force < most_exports → x.next + 1 < 2 ^ 63
    → Puts numbers numbers' r (Some x.next) → sum' ≡ told (sum + told (weight r)) → sum' ≤ most_exports_weight
    → IsKept (with_export r x) numbers' sum'
kept_push x numbers numbers' sum sum' r k absent few small puts sum_is light =
    let values = values_append x.in_force ((x.next, r) ∷ []) in
    let total : sum' ≡ told (weight_of (values_of (x.in_force ++ (x.next, r) ∷ []))) =
    sum_is ∙ heavier x numbers sum r k ∙ ap (λ (vs : List Plain). told (weight_of vs)) (sym values) in
    record {
      few = omega (arith, few, length-append x.in_force ((x.next, r) ∷ []));
      once = once_push r x.next x.in_force k.once absent;
      order = numbered_push x r small k.order;
      numbered = numbers_push numbers numbers' r x.next x.in_force k.numbered absent puts;
      sum_is = total;
      light = λ many. omega (arith, total, light);
    }

-- ---- one less

numbers_less : (old new : List (Plain × ℕ)) (r : Plain) (test : ℕ → Bool) (xs : List (ℕ × Plain)) → Numbers old xs
    → AreOnce xs → lookup test xs ≡ Some r → Puts old new r None → Numbers new (remove_entry test xs)
numbers_less old new r test xs numbers once is puts q = puts q
    ∙ ap (cond (is_at (order r) q) None) (numbers q)
    ∙ ap (λ b. cond b None (place_of q xs)) (test_turns q r)
    ∙ sym (place_without q r test xs once is)

pub weight_goes : (x : ExportTable) (numbers : List (Plain × ℕ)) (sum : ℕ) (r : Plain) (test : ℕ → Bool)
    → IsKept x numbers sum → lookup test x.in_force ≡ Some r → 1 < length x.in_force
    → sum ≡ told (weight_of (values_of (remove_entry test x.in_force))) + told (weight r)
weight_goes x numbers sum r test k is many =
    omega (arith, k.sum_is, k.light many, weight_without r test x.in_force is)

pub kept_less : (x : ExportTable) (numbers numbers' : List (Plain × ℕ)) (sum sum' : ℕ) (r : Plain) (test : ℕ → Bool)
    → IsKept x numbers sum → lookup test x.in_force ≡ Some r → 1 < length x.in_force → Puts numbers numbers' r None
    → sum ≡ sum' + told (weight r) → IsStrictlySortedBy nat_cmp (keys_of (remove_entry test x.in_force))
    → IsKept (record { in_force = remove_entry test x.in_force; next = x.next }) numbers' sum'
kept_less x numbers numbers' sum sum' r test k is many puts sum_is ascend =
    let shorter = length_without r test x.in_force is in
    let lighter = weight_without r test x.in_force is in
    record {
      few = omega (arith, shorter, k.few);
      once = once_without test x.in_force k.once;
      order = record {
        ascending = ascend;
        given = all_map_on (λ n. n < x.next) (remove_entry test x.in_force)
            (all_removed _ test x.in_force (all_map_back (λ n. n < x.next) x.in_force k.order.given));
        few = k.order.few;
      };
      numbered = numbers_less numbers numbers' r test x.in_force k.numbered k.once is puts;
      sum_is = omega (arith, weight_goes x numbers sum r test k is many, sum_is);
      light = λ more. omega (arith, lighter, k.light many);
    }

-- the next number is a lower one, where no export has a number from there on
pub kept_lower : (x : ExportTable) (numbers : List (Plain × ℕ)) (sum m : ℕ) → IsKept x numbers sum → m ≤ x.next
    → AllByRecursion (λ k. k < m) (keys_of x.in_force)
    → IsKept (record { in_force = x.in_force; next = m }) numbers sum
kept_lower x numbers sum m k l below = record {
  few = k.few;
  once = k.once;
  order = record { ascending = k.order.ascending; given = below; few = omega (arith, l, k.order.few) };
  numbered = k.numbered;
  sum_is = k.sum_is;
  light = k.light;
}

-- the map of numbers answers the same
pub kept_numbers : (x : ExportTable) (numbers numbers' : List (Plain × ℕ)) (sum : ℕ) → IsKept x numbers sum
    → ((q : Plain) → number_at q numbers' ≡ number_at q numbers) → IsKept x numbers' sum
kept_numbers x numbers numbers' sum k alike = record {
  few = k.few;
  once = k.once;
  order = k.order;
  numbered = λ q. alike q ∙ k.numbered q;
  sum_is = k.sum_is;
  light = k.light;
}

-- ---- the last number

-- above m and below the next one there is nothing
nothing_between : (m k : ℕ) → (nat_cmp m k ≡ Less) × (k < m + 1) → ⊥
nothing_between m k h = grind (arith, nat_tests, h.0, h.1)

pub below_without : {X : Type 0} (m : ℕ) (es : List (ℕ × X)) → IsStrictlySortedBy nat_cmp (keys_of es)
    → AllByRecursion (λ k. k < m + 1) (keys_of es)
    → AllByRecursion (λ k. k < m) (keys_of (remove_entry (is_at (nat_cmp m)) es))
below_without m [] ascend below = tt
below_without {X = X} m (e ∷ es) ascend below =
    by (is_at (nat_cmp m) e.0) refl (below_without m es (sorted_tail nat_cmp _ _ ascend) below.1)
  where
    by : (b : Bool) → is_at (nat_cmp m) e.0 ≡ b
        → AllByRecursion (λ k. k < m) (keys_of (remove_entry (is_at (nat_cmp m)) es))
        → AllByRecursion (λ k. k < m) (keys_of (cond b es (e ∷ remove_entry (is_at (nat_cmp m)) es)))
    by true here rest =
        let at : m ≡ e.0 = grind (arith, nat_tests, here) in
        let above = subst (λ j. AllByRecursion (λ k. nat_cmp j k ≡ Less) (keys_of es)) (sym at)
        (sorted_head nat_cmp _ _ ascend) in
        all_from _ (λ k. k < m) (λ k h. absurd (nothing_between m k h)) (keys_of es)
        (all_both _ _ (keys_of es) above below.1)
    by false there rest =
        let apart : e.0 < m = grind (arith, nat_tests, there, below.0) in (apart, rest)

above_alike : (m k : ℕ) → nat_cmp m k ≡ Less → nat_lt k (m + 1) ≡ nat_lt k m
above_alike m k h = grind (arith, nat_tests, h)

-- those below m + 1 without m are those below m
pub below_one_less : {X : Type 0} (m : ℕ) (es : List (ℕ × X)) → IsStrictlySortedBy nat_cmp (keys_of es)
    → remove_entry (is_at (nat_cmp m)) (filter (λ e. nat_lt e.0 (m + 1)) es) ≡ filter (λ e. nat_lt e.0 m) es
below_one_less m [] ascend = refl
below_one_less {X = X} m (e ∷ es) ascend =
    by (nat_lt e.0 (m + 1)) (nat_lt e.0 m) (is_at (nat_cmp m) e.0) refl refl refl
    (below_one_less m es (sorted_tail nat_cmp _ _ ascend))
  where
    last : m ≡ e.0 → filter (λ (e : ℕ × X). nat_lt e.0 (m + 1)) es ≡ filter (λ e. nat_lt e.0 m) es
    last at =
        let above = subst (λ j. AllByRecursion (λ k. nat_cmp j k ≡ Less) (keys_of es)) (sym at)
        (sorted_head nat_cmp _ _ ascend) in
        filter_same _ _ es (all_map_back (λ k. nat_lt k (m + 1) ≡ nat_lt k m) es
        (all_from _ _ (above_alike m) (keys_of es) above))

    by : (b c d : Bool) → nat_lt e.0 (m + 1) ≡ b → nat_lt e.0 m ≡ c → is_at (nat_cmp m) e.0 ≡ d
        → remove_entry (is_at (nat_cmp m)) (filter (λ e. nat_lt e.0 (m + 1)) es) ≡ filter (λ e. nat_lt e.0 m) es
        → remove_entry (is_at (nat_cmp m))
        (cond b (e ∷ filter (λ e. nat_lt e.0 (m + 1)) es) (filter (λ e. nat_lt e.0 (m + 1)) es))
        ≡ cond c (e ∷ filter (λ e. nat_lt e.0 m) es) (filter (λ e. nat_lt e.0 m) es)
    by true true true low lower at rest = absurd (grind (arith, nat_tests, lower, at))
    by true true false low lower at rest = rw at (ap (λ t. e ∷ t) rest)
    by true false true low lower at rest = rw at (last (grind (arith, nat_tests, at)))
    by true false false low lower at rest = absurd (grind (arith, nat_tests, low, lower, at))
    by false true d low lower at rest = absurd (grind (arith, nat_tests, low, lower))
    by false false d low lower at rest = rest

-- ---- those that are idle

pub released_same : (t u : ℕ → Bool) (kept : List (ℕ × Export)) → AllByRecursion (λ k. t k ≡ u k) (keys_of kept)
    → released_where t kept ≡ released_where u kept
released_same t u kept same =
    filter_same _ _ kept (all_from _ _ (λ e is. ap (λ b. not (b && is_idle e.1)) is) kept
    (all_map_back (λ k. t k ≡ u k) kept same))

pub released_none : (kept : List (ℕ × Export)) → released_where (λ n. false) kept ≡ kept
released_none [] = refl
released_none (e ∷ es) = ap (λ t. e ∷ t) (released_none es)

-- one after the other
pub released_both : (t u : ℕ → Bool) (kept : List (ℕ × Export))
    → released_where u (released_where t kept) ≡ released_where (λ n. t n || u n) kept
released_both t u [] = refl
released_both t u (e ∷ es) = by (t e.0) (u e.0) (is_idle e.1) refl refl (released_both t u es)
  where
    by : (a b c : Bool) → u e.0 ≡ b → is_idle e.1 ≡ c
        → released_where u (released_where t es) ≡ released_where (λ n. t n || u n) es
        → released_where u (cond (not (a && c)) (e ∷ released_where t es) (released_where t es))
        ≡ cond (not ((a || b) && c)) (e ∷ released_where (λ n. t n || u n) es) (released_where (λ n. t n || u n) es)
    by true b true ub idle rest = rest
    by true true false ub idle rest = rw ub (rw idle (ap (λ x. e ∷ x) rest))
    by true false false ub idle rest = rw ub (ap (λ x. e ∷ x) rest)
    by false true true ub idle rest = rw ub (rw idle rest)
    by false true false ub idle rest = rw ub (rw idle (ap (λ x. e ∷ x) rest))
    by false false c ub idle rest = rw ub (ap (λ x. e ∷ x) rest)

none_idle : (n : ℕ) (kept : List (ℕ × Export)) → found n kept ≡ None → released_where (λ m. n == m) kept ≡ kept
none_idle n [] none = refl
none_idle n (e ∷ es) none = by (n == e.0) refl (none_idle n es)
  where
    by : (b : Bool) → (n == e.0) ≡ b → (found n es ≡ None → released_where (λ m. n == m) es ≡ es)
        → released_where (λ m. n == m) (e ∷ es) ≡ e ∷ es
    by true is rest =
        let h : Some e.1 ≡ None = sym (lookup_head (is_at (nat_cmp n)) e es (is_at_same n e.0 ∙ is)) ∙ none in absurd cc
    by false is rest =
        rw is (ap (λ (t : List (ℕ × Export)). e ∷ t) (rest
        (sym (lookup_tail (is_at (nat_cmp n)) e es (is_at_same n e.0 ∙ is)) ∙ none)))

-- none of the others has its number
others : (n : ℕ) (es : List (ℕ × Export)) → AllByRecursion (λ k. nat_cmp n k ≡ Less) (keys_of es)
    → found n es ≡ None
others n [] above = refl
others n (e ∷ es) above = rw above.0 (others n es above.1)

pub one_released : (n : ℕ) (x : Export) (kept : List (ℕ × Export)) → IsStrictlySortedBy nat_cmp (keys_of kept)
    → found n kept ≡ Some x → is_idle x ≡ true
    → remove_entry (is_at (nat_cmp n)) kept ≡ released_where (λ m. n == m) kept
one_released n x [] ascend is idle = absurd cc
one_released n x (e ∷ es) ascend is idle =
    by (n == e.0) refl (λ found_x. one_released n x es (sorted_tail nat_cmp _ _ ascend) found_x idle)
  where
    test : ℕ → Bool
    test = is_at (nat_cmp n)

    by : (b : Bool) → (n == e.0) ≡ b
        → (found n es ≡ Some x → remove_entry test es ≡ released_where (λ m. n == m) es)
        → remove_entry test (e ∷ es) ≡ released_where (λ m. n == m) (e ∷ es)
    by true equal later =
        let here : test e.0 ≡ true = is_at_same n e.0 ∙ equal in
        let value : Some e.1 ≡ Some x = sym (lookup_head test e es here) ∙ is in
        let export : e.1 ≡ x = cc in
        let is_x : is_idle e.1 ≡ true = ap is_idle export ∙ idle in
        let at : n ≡ e.0 = grind (arith, nat_tests, equal) in
        let rest = others n es (subst (λ j. AllByRecursion (λ k. nat_cmp j k ≡ Less) (keys_of es)) (sym at)
        (sorted_head nat_cmp _ _ ascend)) in
        rw (here, equal, is_x) (sym (none_idle n es rest))
    by false other later =
        let there : test e.0 ≡ false = is_at_same n e.0 ∙ other in
        rw (there, other) (ap (λ (t : List (ℕ × Export)). e ∷ t) (later (sym (lookup_tail test e es there) ∙ is)))

pub one_stays : (n : ℕ) (kept : List (ℕ × Export)) → IsStrictlySortedBy nat_cmp (keys_of kept)
    → is_idle_where (found n kept) ≡ false → released_where (λ m. n == m) kept ≡ kept
one_stays n [] ascend busy = refl
one_stays n (e ∷ es) ascend busy = by (n == e.0) refl (one_stays n es (sorted_tail nat_cmp _ _ ascend))
  where
    test : ℕ → Bool
    test = is_at (nat_cmp n)

    by : (b : Bool) → (n == e.0) ≡ b
        → (is_idle_where (found n es) ≡ false → released_where (λ m. n == m) es ≡ es)
        → released_where (λ m. n == m) (e ∷ es) ≡ e ∷ es
    by true equal later =
        let here : test e.0 ≡ true = is_at_same n e.0 ∙ equal in
        let is_busy : is_idle e.1 ≡ false = sym (ap is_idle_where (lookup_head test e es here)) ∙ busy in
        let at : n ≡ e.0 = grind (arith, nat_tests, equal) in
        let rest = others n es (subst (λ j. AllByRecursion (λ k. nat_cmp j k ≡ Less) (keys_of es)) (sym at)
        (sorted_head nat_cmp _ _ ascend)) in
        rw (equal, is_busy) (ap (λ (t : List (ℕ × Export)). e ∷ t) (none_idle n es rest))
    by false other later =
        let there : test e.0 ≡ false = is_at_same n e.0 ∙ other in
        rw other (ap (λ (t : List (ℕ × Export)). e ∷ t)
        (later (sym (ap is_idle_where (lookup_tail test e es there)) ∙ busy)))

-- ---- the limits

pub within : (count sum : ℕ) → fault_of count sum ≡ None → (count ≤ most_exports) × (sum ≤ most_exports_weight)
within count sum none = (grind (arith, nat_tests), grind (arith, nat_tests))

pub fault_is : (x : ExportTable) (numbers : List (Plain × ℕ)) (sum count told_sum : ℕ) (r : Plain)
    → IsKept x numbers sum → count ≡ length x.in_force → told_sum ≡ told (sum + told (weight r))
    → fault_of (count + 1) told_sum ≡ export_fault (values_of x.in_force ++ r ∷ [])
fault_is x numbers sum count told_sum r k count_is told_is =
    let one_more : count + 1 ≡ length (values_of x.in_force ++ r ∷ []) = omega (
      arith,
      length-append (values_of x.in_force) (r ∷ []),
      length_values x.in_force,
      count_is,
    ) in
    ap (λ n. fault_of n told_sum) one_more
    ∙ ap (fault_of (length (values_of x.in_force ++ r ∷ []))) (told_is ∙ heavier x numbers sum r k)

pub why_is : (why : Option PortsFault) (f : PortsFault) → why ≡ Some f → IsWhy why f
why_is why (Exports n) e = e
why_is why (Weight n) e = e
why_is why NoMemory e = tt

pub released_alike : (t u : ℕ → Bool) (kept : List (ℕ × Export)) → ((n : ℕ) → t n ≡ u n)
    → released_where t kept ≡ released_where u kept
released_alike t u [] same = refl
released_alike t u (e ∷ es) same =
    λ i. cond (not (same e.0 i && is_idle e.1)) (e ∷ released_alike t u es same i) (released_alike t u es same i)

-- ---- export 0

pub first_stays : (e : ℕ × Export) (kept : List (ℕ × Export)) → IsFirstPinned kept → IsFirstPinned (kept ++ e ∷ [])
first_stays e [] first = absurd first
first_stays e (x ∷ xs) first = first

-- one of another number isn't the only one
pub not_alone : (n : ℕ) (x : Export) (kept : List (ℕ × Export)) → IsFirstPinned kept → 0 < n → found n kept ≡ Some x
    → 1 < length kept
not_alone n x [] first above is = absurd first
not_alone n x (e ∷ []) first above is =
    let other : is_at (nat_cmp n) e.0 ≡ false = grind (arith, nat_tests, first.0, above) in
    let h : None ≡ Some x = sym (lookup_tail (is_at (nat_cmp n)) e [] other) ∙ is in absurd cc
not_alone n x (e ∷ d ∷ es) first above is = omega arith

pub first_without : (n : ℕ) (kept : List (ℕ × Export)) → IsFirstPinned kept → 0 < n
    → IsFirstPinned (remove_entry (is_at (nat_cmp n)) kept)
first_without n [] first above = absurd first
first_without n (e ∷ es) first above =
    let other : is_at (nat_cmp n) e.0 ≡ false = grind (arith, nat_tests, first.0, above) in rw other first

-- export 0 isn't idle
pub idle_above : (n : ℕ) (kept : List (ℕ × Export)) → IsFirstPinned kept → is_idle_where (found n kept) ≡ true → 0 < n
idle_above n [] first idle = absurd first
idle_above n (e ∷ es) first idle = by (is_at (nat_cmp n) e.0) refl idle
  where
    by : (b : Bool) → is_at (nat_cmp n) e.0 ≡ b → is_idle_where (cond b (Some e.1) (found n es)) ≡ true → 0 < n
    by true here is = absurd (busy e.1.pinned first.1 is)
      where
        busy : (p : Bool) → p ≡ true → (not p && e.1.mentions == 0) ≡ true → ⊥
        busy true is idle = absurd cc
        busy false is idle = absurd cc
    by false there is = grind (arith, nat_tests, there, first.0)

-- what is idle is found
pub idle_released : (n : ℕ) (kept : List (ℕ × Export)) → IsStrictlySortedBy nat_cmp (keys_of kept)
    → is_idle_where (found n kept) ≡ true
    → remove_entry (is_at (nat_cmp n)) kept ≡ released_where (λ m. n == m) kept
idle_released n kept ascend idle = by (found n kept) refl idle
  where
    by : (o : Option Export) → found n kept ≡ o → is_idle_where o ≡ true
        → remove_entry (is_at (nat_cmp n)) kept ≡ released_where (λ m. n == m) kept
    by None is idle = absurd cc
    by (Some x) is idle = one_released n x kept ascend is idle

-- a number that came and went, at a reference that had none
pub came_and_went : (r : Plain) (n : ℕ) (old more new : List (Plain × ℕ)) → number_at r old ≡ None
    → Puts old more r (Some n) → Puts more new r None → (q : Plain) → number_at q new ≡ number_at q old
came_and_went r n old more new none came went q =
    went q ∙ ap (cond (is_at (order r) q) None) (came q) ∙ by (is_at (order r) q) (test_turns q r)
  where
    by : (b : Bool) → b ≡ same q r → cond b None (cond b (Some n) (number_at q old)) ≡ number_at q old
    by true is = sym (ap (λ x. number_at x old) (same_is q r (sym is)) ∙ none)
    by false is = refl

-- ---- marks

pub marked_kept : (f : Export → Export) → KeepsReference f → (ns : List ℕ) (kept : List (ℕ × Export)) (next : ℕ)
    (numbers : List (Plain × ℕ)) (sum : ℕ) → IsKept (table_of (record { kept = kept; next = next })) numbers sum
    → IsKept (table_of (record { kept = at_numbers f ns kept; next = next })) numbers sum
marked_kept f keeps ns kept next numbers sum k =
    subst (λ (es : List (ℕ × Plain)). IsKept (record { in_force = es; next = next }) numbers sum)
    (sym (shown_marked f keeps ns kept)) k

abbrev pub KeepsPin : (Export → Export) → Type 0
KeepsPin f = (e : Export) → e.pinned ≡ true → (f e).pinned ≡ true

first_one : (f : Export → Export) → KeepsPin f → (n : ℕ) (kept : List (ℕ × Export)) → IsFirstPinned kept
    → IsFirstPinned (map (at_number f n) kept)
first_one f keeps n [] first = absurd first
first_one f keeps n (e ∷ es) first = (first.0, by (n == e.0))
  where
    by : (b : Bool) → (cond b (f e.1) e.1).pinned ≡ true
    by true = keeps e.1 first.1
    by false = first.1

pub first_marked : (f : Export → Export) → KeepsPin f → (ns : List ℕ) (kept : List (ℕ × Export)) → IsFirstPinned kept
    → IsFirstPinned (at_numbers f ns kept)
first_marked f keeps [] kept first = first
first_marked f keeps (n ∷ ns) kept first =
    first_marked f keeps ns (map (at_number f n) kept) (first_one f keeps n kept first)

pub drop_end : {X : Type 0} (i : ℕ) (xs : List X) → length xs ≤ i → drop i xs ≡ []
drop_end zero [] l = refl
drop_end zero (x ∷ xs) l = absurd (omega (arith, l))
drop_end (suc i) [] l = refl
drop_end (suc i) (x ∷ xs) l = drop_end i xs (omega (arith, l))

-- ---- from a number on

pub none_from : (first : ℕ) (kept : List (ℕ × Export))
    → kept ≡ released_where (λ n. nat_le first n && nat_lt n first) kept
none_from first kept =
    sym (released_alike (λ n. nat_le first n && nat_lt n first) (λ n. false) kept
    (λ n. grind (arith, nat_tests)) ∙ released_none kept)

pub one_from : (first i : ℕ) (old kept : List (ℕ × Export)) → first ≤ i
    → kept ≡ released_where (λ n. nat_le first n && nat_lt n i) old
    → released_where (λ n. i == n) kept ≡ released_where (λ n. nat_le first n && nat_lt n (i + 1)) old
one_from first i old kept l is =
    ap (released_where (λ n. i == n)) is
    ∙ released_both (λ n. nat_le first n && nat_lt n i) (λ n. i == n) old
    ∙ released_alike (λ n. (nat_le first n && nat_lt n i) || i == n) (λ n. nat_le first n && nat_lt n (i + 1)) old
    (λ n. grind (arith, nat_tests, l))

pub all_from_on : (first i : ℕ) (old : List (ℕ × Export)) → AllByRecursion (λ k. k < i) (keys_of old)
    → released_where (λ n. nat_le first n && nat_lt n i) old ≡ released_where (nat_le first) old
all_from_on first i old below =
    released_same (λ n. nat_le first n && nat_lt n i) (nat_le first) old
    (all_from (λ k. k < i) (λ k. (nat_le first k && nat_lt k i) ≡ nat_le first k)
    (λ k l. grind (arith, nat_tests, l)) (keys_of old) below)

-- all are below the next one
pub all_low : (next : ℕ) (kept : List (ℕ × Export)) → AllByRecursion (λ k. k < next) (keys_of kept)
    → kept ≡ filter (λ e. nat_lt e.0 next) kept
all_low next kept below =
    sym (filter_all (λ e. nat_lt e.0 next) kept (all_map_back (λ k. nat_lt k next ≡ true) kept
    (all_from (λ k. k < next) (λ k. nat_lt k next ≡ true) (λ k l. grind (arith, nat_tests, l)) (keys_of kept) below)))

one_more : (i : ℕ) → suc i ≡ i + 1
one_more i = omega arith

-- the first of what is left
pub drop_first : {X : Type 0} (xs : List X) (i : ℕ) (d : X) → i < length xs
    → drop i xs ≡ get_or xs i d ∷ drop (i + 1) xs
drop_first xs i d l = drop-cons xs i d l ∙ ap (λ n. get_or xs i d ∷ drop n xs) (one_more i)

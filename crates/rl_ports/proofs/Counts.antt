-- Each export has the count of the notes that mention it, and those that are idle are known.
use Rattle.std.proofs.Common.{◌≡◌, ℕ, ◌+◌, ◌-◌, ◌^◌, ◌<◌, ◌≤◌, ◌==◌, ◌||◌, ◌&&◌, List, [], ◌∷◌, ◌++◌, length, not, map, filter}
use Rattle.std.proofs.Common.{Bool, true, false, cond, Option, Some, None, Ordering, Less, Equal, Greater, refl, ap, sym, ◌∙◌, arith, subst}
use Rattle.std.proofs.Common.{length-append}
use Rattle.std.proofs.lemmas.Bool.Decides.{nat_tests}
use Rattle.std.proofs.lemmas.Map.Keys.{sorted_head, sorted_tail}
use Rattle.std.proofs.lemmas.Map.Entries.{lookup_tail, sum_by-insert_entry, sum_by-remove_entry}
use Rattle.std.proofs.lemmas.List.Sums.{sum_by-cons}
use Rattle.std.specs.Cmp.{nat_cmp_total}
use Rattle.std.specs.Prelude.{nat_lt, nat_le, option_map, unwrap_or}
use Rattle.std.specs.BTreeMap.{is_at, insert_entry}
use Rattle.std.specs.List.{AllByRecursion, list_any}
use Rattle.std.specs.List.Sorted.{IsStrictlySortedBy}
use Rattle.std.specs.Map.{lookup, remove_entry, keys_of, values_of}
use Rattle.std.specs.Ordering.{nat_cmp, match_ordering}
use Rattle.pv_value.specs.Plain.{Plain}
use Rattle.rl_ports.specs.Ports.{has_number, is_mentioned, AreGiven}
use Rattle.rl_ports.specs.Kept.{Export, Listed, shown, pins, times, mentions, is_idle, is_left, released_where, at_numbers}
use Rattle.rl_ports.specs.Kept.{raised, lowered, with_pin, new_export, AreCounted}
use Rattle.rl_ports.proofs.Entries.{all_append, all_from, all_both, all_filter, all_removed, filter_same}
use Rattle.rl_ports.proofs.Entries.{all_map_back, all_map_on}
use Rattle.rl_ports.proofs.Weights.{length_without}
use Rattle.rl_ports.proofs.Marks.{all_step, raised_by, lowered_by, pinned_by, all_raised, all_lowered, all_pinned}
use Rattle.rl_ports.proofs.Marks.{MayRise, MayFall}

abbrev Notes : Type 0
Notes = List (ℕ × List ℕ)

-- ---- how often

none_more : (m : ℕ) → m ≡ 0 + m
none_more m = omega arith

pub times_has : (n : ℕ) (ns : List ℕ) → has_number n ns ≡ nat_lt 0 (times n ns)
times_has n [] = refl
times_has n (m ∷ ms) = by (m == n) (times_has n ms)
  where
    by : (b : Bool) → has_number n ms ≡ nat_lt 0 (times n ms)
        → (b || has_number n ms) ≡ nat_lt 0 (cond b 1 0 + times n ms)
    by true rest = grind (arith, nat_tests)
    by false rest = rest ∙ ap (nat_lt 0) (none_more (times n ms))

either_above : (a b : ℕ) → (nat_lt 0 a || nat_lt 0 b) ≡ nat_lt 0 (a + b)
either_above a b = grind (arith, nat_tests)

pub mentions_has : (n : ℕ) (notes : Notes) → is_mentioned n notes ≡ nat_lt 0 (mentions n notes)
mentions_has n [] = refl
mentions_has n (e ∷ es) =
    (λ i. times_has n e.1 i || mentions_has n es i) ∙ either_above (times n e.1) (mentions n es)
    ∙ ap (nat_lt 0) (sym (sum_by-cons (times n) e.1 (values_of es)))

none_above : (m : ℕ) (ms : List ℕ) → AllByRecursion (λ k. nat_cmp m k ≡ Less) ms → times m ms ≡ 0
none_above m [] above = refl
none_above m (k ∷ ks) above =
    let apart : (k == m) ≡ false = grind (arith, nat_tests, above.0) in
    rw apart (sym (none_more (times m ks)) ∙ none_above m ks above.1)

-- in ascending order each stands once
pub once_each : (ns : List ℕ) → IsStrictlySortedBy nat_cmp ns → (n : ℕ) → times n ns ≤ 1
once_each [] ascend n = omega arith
once_each (m ∷ ms) ascend n = by (m == n) refl (once_each ms (sorted_tail nat_cmp _ _ ascend) n)
  where
    by : (b : Bool) → (m == n) ≡ b → times n ms ≤ 1 → cond b 1 0 + times n ms ≤ 1
    by true is rest =
        let at : m ≡ n = grind (arith, nat_tests, is) in
        let none : times n ms ≡ 0 = subst (λ k. times k ms ≡ 0) at (none_above m ms (sorted_head nat_cmp _ _ ascend)) in
        omega (arith, none)
    by false is rest = omega (arith, rest)

pub few_mentions : (n : ℕ) (notes : Notes) → AllByRecursion (λ e. (k : ℕ) → times k e.1 ≤ 1) notes
    → mentions n notes ≤ length notes
few_mentions n [] once = omega arith
few_mentions n (e ∷ es) once =
    omega (arith, once.0 n, few_mentions n es once.1, sum_by-cons (times n) e.1 (values_of es))

none_given : (next n : ℕ) (ns : List ℕ) → next ≤ n → AreGiven next ns → times n ns ≡ 0
none_given next n [] l given = refl
none_given next n (m ∷ ms) l given =
    let apart : (m == n) ≡ false = grind (arith, nat_tests, l, given.0) in
    rw apart (sym (none_more (times n ms)) ∙ none_given next n ms l given.1)

pub none_mentioned : (next n : ℕ) (notes : Notes) → next ≤ n → AllByRecursion (λ e. AreGiven next e.1) notes
    → mentions n notes ≡ 0
none_mentioned next n [] l given = refl
none_mentioned next n (e ∷ es) l given =
    omega (
      arith,
      none_given next n e.1 l given.0,
      none_mentioned next n es l given.1,
      sum_by-cons (times n) e.1 (values_of es),
    )

pub given_more : (m n : ℕ) (ns : List ℕ) → m ≤ n → AreGiven m ns → AreGiven n ns
given_more m n ns l given = all_from (λ k. k < m) (λ k. k < n) (λ k is. omega (arith, l, is)) ns given

pub all_given_more : (m n : ℕ) (notes : Notes) → m ≤ n → AllByRecursion (λ e. AreGiven m e.1) notes
    → AllByRecursion (λ e. AreGiven n e.1) notes
all_given_more m n notes l given =
    all_from (λ (e : ℕ × List ℕ). AreGiven m e.1) (λ e. AreGiven n e.1) (λ e is. given_more m n e.1 l is) notes given

-- ---- counts

abbrev pub CountedBy : (ℕ → ℕ) → List (ℕ × Export) → Type 0
CountedBy c kept = AllByRecursion (λ e. e.1.mentions ≡ c e.0) kept

pub raised_counts : (c d : ℕ → ℕ) (ns : List ℕ) (kept : List (ℕ × Export)) → ((n : ℕ) → d n ≡ c n + times n ns)
    → CountedBy c kept → CountedBy d (at_numbers raised ns kept)
raised_counts c d ns kept more counted =
    subst (CountedBy d) (sym (all_raised ns kept))
    (all_step (λ e. e.1.mentions ≡ c e.0) (λ e. e.1.mentions ≡ d e.0) (raised_by ns)
    (λ e is. omega (arith, is, more e.0)) kept counted)

pub lowered_counts : (c d : ℕ → ℕ) (ns : List ℕ) (kept : List (ℕ × Export)) → ((n : ℕ) → d n + times n ns ≡ c n)
    → CountedBy c kept → CountedBy d (at_numbers lowered ns kept)
lowered_counts c d ns kept less counted =
    subst (CountedBy d) (sym (all_lowered ns kept))
    (all_step (λ e. e.1.mentions ≡ c e.0) (λ e. e.1.mentions ≡ d e.0) (lowered_by ns)
    (λ e is. omega (arith, is, less e.0)) kept counted)

pub pinned_counts : (c : ℕ → ℕ) (ns : List ℕ) (kept : List (ℕ × Export)) → CountedBy c kept
    → CountedBy c (at_numbers with_pin ns kept)
pinned_counts c ns kept counted =
    subst (CountedBy c) (sym (all_pinned ns kept))
    (all_step (λ e. e.1.mentions ≡ c e.0) (λ e. e.1.mentions ≡ c e.0) (pinned_by ns) (λ e is. is) kept counted)

pub may_all_rise : (most : ℕ) (c : ℕ → ℕ) (ns : List ℕ) (kept : List (ℕ × Export))
    → ((n : ℕ) → c n + times n ns < most) → CountedBy c kept → AllByRecursion (MayRise most ns) kept
may_all_rise most c ns kept few counted =
    all_from (λ e. e.1.mentions ≡ c e.0) (MayRise most ns) (λ e is. omega (arith, is, few e.0)) kept counted

pub may_all_fall : (c : ℕ → ℕ) (ns : List ℕ) (kept : List (ℕ × Export)) → ((n : ℕ) → times n ns ≤ c n)
    → CountedBy c kept → AllByRecursion (MayFall ns) kept
may_all_fall c ns kept enough counted =
    all_from (λ e. e.1.mentions ≡ c e.0) (MayFall ns) (λ e is. omega (arith, is, enough e.0)) kept counted

-- ---- a note comes or goes

abbrev pub earlier_times : ℕ → Option (List ℕ) → ℕ
earlier_times n o = unwrap_or (option_map (times n) o) 0

pub mentions_put : (n h : ℕ) (ns : List ℕ) (notes : Notes) → IsStrictlySortedBy nat_cmp (keys_of notes)
    → mentions n (insert_entry nat_cmp notes h ns) + earlier_times n (lookup (is_at (nat_cmp h)) notes)
    ≡ mentions n notes + times n ns
mentions_put n h ns notes ascend = sum_by-insert_entry (times n) nat_cmp_total notes h ns ascend

pub mentions_less : (n h : ℕ) (notes : Notes)
    → mentions n (remove_entry (is_at (nat_cmp h)) notes) + earlier_times n (lookup (is_at (nat_cmp h)) notes)
    ≡ mentions n notes
mentions_less n h notes = sum_by-remove_entry (times n) (is_at (nat_cmp h)) notes

-- ---- those that are idle

abbrev pub AreLeft : ℕ → List (List ℕ) → List (ℕ × Export) → Type 0
AreLeft settled dropped kept = AllByRecursion (λ e. is_idle e.1 ≡ true → is_left settled dropped e.0 ≡ true) kept

idle_raised : (p : Bool) (m t : ℕ) → (not p && m + t == 0) ≡ true → (not p && m == 0) ≡ true
idle_raised true m t idle = absurd cc
idle_raised false m t idle = grind (arith, nat_tests, idle)

pub left_raised : (settled : ℕ) (dropped : List (List ℕ)) (ns : List ℕ) (kept : List (ℕ × Export))
    → AreLeft settled dropped kept → AreLeft settled dropped (at_numbers raised ns kept)
left_raised settled dropped ns kept left =
    subst (AreLeft settled dropped) (sym (all_raised ns kept))
    (all_step (λ e. is_idle e.1 ≡ true → is_left settled dropped e.0 ≡ true)
    (λ e. is_idle e.1 ≡ true → is_left settled dropped e.0 ≡ true) (raised_by ns)
    (λ e is idle. is (idle_raised e.1.pinned e.1.mentions (times e.0 ns) idle)) kept left)

any_more : (n : ℕ) (dropped : List (List ℕ)) (ns : List ℕ)
    → list_any (has_number n) (dropped ++ ns ∷ []) ≡ (list_any (has_number n) dropped || has_number n ns)
any_more n [] ns = or_no (has_number n ns)
  where
    or_no : (b : Bool) → (b || false) ≡ b
    or_no true = refl
    or_no false = refl
any_more n (d ∷ ds) ns = by (has_number n d) (any_more n ds ns)
  where
    by : (b : Bool)
        → list_any (has_number n) (ds ++ ns ∷ []) ≡ (list_any (has_number n) ds || has_number n ns)
        → (b || list_any (has_number n) (ds ++ ns ∷ []))
        ≡ ((b || list_any (has_number n) ds) || has_number n ns)
    by true rest = refl
    by false rest = rest

idle_lowered : (p s d h : Bool) (m t : ℕ) → h ≡ nat_lt 0 t → ((not p && m == 0) ≡ true → (s || d) ≡ true)
    → (not p && m - t == 0) ≡ true → (s || (d || h)) ≡ true
idle_lowered true s d h m t has left idle = absurd cc
idle_lowered false true d h m t has left idle = refl
idle_lowered false false true h m t has left idle = refl
idle_lowered false false false true m t has left idle = refl
idle_lowered false false false false m t has left idle =
    let none : t ≡ 0 = grind (arith, nat_tests, has) in
    let zero : (m == 0) ≡ true = grind (arith, nat_tests, none, idle) in left zero

pub left_lowered : (settled : ℕ) (dropped : List (List ℕ)) (ns : List ℕ) (kept : List (ℕ × Export))
    → AreLeft settled dropped kept → AreLeft settled (dropped ++ ns ∷ []) (at_numbers lowered ns kept)
left_lowered settled dropped ns kept left =
    subst (AreLeft settled (dropped ++ ns ∷ [])) (sym (all_lowered ns kept))
    (all_step (λ e. is_idle e.1 ≡ true → is_left settled dropped e.0 ≡ true)
    (λ e. is_idle e.1 ≡ true → is_left settled (dropped ++ ns ∷ []) e.0 ≡ true) (lowered_by ns) one kept left)
  where
    one : (e : ℕ × Export) → (is_idle e.1 ≡ true → is_left settled dropped e.0 ≡ true)
        → is_idle (lowered_by ns e).1 ≡ true → is_left settled (dropped ++ ns ∷ []) e.0 ≡ true
    one e is idle = ap (λ b. nat_le settled e.0 || b) (any_more e.0 dropped ns)
        ∙ idle_lowered e.1.pinned (nat_le settled e.0) (list_any (has_number e.0) dropped) (has_number e.0 ns)
        e.1.mentions (times e.0 ns) (times_has e.0 ns) is idle

idle_pinned : (p h : Bool) (m : ℕ) → (not (p || h) && m == 0) ≡ true → (not p && m == 0) ≡ true
idle_pinned true h m idle = idle
idle_pinned false true m idle = absurd cc
idle_pinned false false m idle = idle

pub left_pinned : (settled : ℕ) (dropped : List (List ℕ)) (ns : List ℕ) (kept : List (ℕ × Export))
    → AreLeft settled dropped kept → AreLeft settled dropped (at_numbers with_pin ns kept)
left_pinned settled dropped ns kept left =
    subst (AreLeft settled dropped) (sym (all_pinned ns kept))
    (all_step (λ e. is_idle e.1 ≡ true → is_left settled dropped e.0 ≡ true)
    (λ e. is_idle e.1 ≡ true → is_left settled dropped e.0 ≡ true) (pinned_by ns)
    (λ e is idle. is (idle_pinned e.1.pinned (has_number e.0 ns) e.1.mentions idle)) kept left)

-- from a lower number on
lower_left : (s t n : ℕ) (b : Bool) → t ≤ s → (nat_le s n || b) ≡ true → (nat_le t n || b) ≡ true
lower_left s t n true l is = or_yes (nat_le t n)
  where
    or_yes : (b : Bool) → (b || true) ≡ true
    or_yes true = refl
    or_yes false = refl
lower_left s t n false l is = grind (arith, nat_tests, l, is)

pub left_lower : (s t : ℕ) (dropped : List (List ℕ)) (kept : List (ℕ × Export)) → t ≤ s → AreLeft s dropped kept
    → AreLeft t dropped kept
left_lower s t dropped kept l left =
    all_from (λ e. is_idle e.1 ≡ true → is_left s dropped e.0 ≡ true)
    (λ e. is_idle e.1 ≡ true → is_left t dropped e.0 ≡ true)
    (λ e is idle. lower_left s t e.0 (list_any (has_number e.0) dropped) l (is idle)) kept left

-- ---- after a sweep none is idle

stay_busy : (l i : Bool) → (i ≡ true → l ≡ true) → not (l && i) ≡ true → i ≡ false
stay_busy l false left stays = refl
stay_busy true true left stays = absurd cc
stay_busy false true left stays = absurd (no_yes (left refl))
  where
    no_yes : false ≡ true → ⊥
    no_yes e = absurd cc

pub none_idle_left : (settled : ℕ) (dropped : List (List ℕ)) (kept : List (ℕ × Export)) → AreLeft settled dropped kept
    → AllByRecursion (λ e. is_idle e.1 ≡ false) (released_where (is_left settled dropped) kept)
none_idle_left settled dropped [] left = tt
none_idle_left settled dropped (e ∷ es) left =
    by (not (is_left settled dropped e.0 && is_idle e.1)) refl (none_idle_left settled dropped es left.1)
  where
    by : (b : Bool) → not (is_left settled dropped e.0 && is_idle e.1) ≡ b
        → AllByRecursion (λ e. is_idle e.1 ≡ false) (released_where (is_left settled dropped) es)
        → AllByRecursion (λ e. is_idle e.1 ≡ false)
        (cond b (e ∷ released_where (is_left settled dropped) es) (released_where (is_left settled dropped) es))
    by true stays rest = (stay_busy _ _ left.0 stays, rest)
    by false goes rest = rest

pub left_none : (settled : ℕ) (dropped : List (List ℕ)) (kept : List (ℕ × Export))
    → AllByRecursion (λ e. is_idle e.1 ≡ false) kept → AreLeft settled dropped kept
left_none settled dropped kept busy =
    all_from (λ e. is_idle e.1 ≡ false) (λ e. is_idle e.1 ≡ true → is_left settled dropped e.0 ≡ true)
    (λ e is idle. absurd (no_yes (sym is ∙ idle))) kept busy
  where
    no_yes : false ≡ true → ⊥
    no_yes e = absurd cc

-- ---- pins

no_pin_above : (n : ℕ) (es : List (ℕ × Export)) → AllByRecursion (λ k. nat_cmp n k ≡ Less) (keys_of es)
    → has_number n (pins es) ≡ false
no_pin_above n [] above = refl
no_pin_above n (e ∷ es) above = by e.1.pinned (no_pin_above n es above.1)
  where
    apart : (e.0 == n) ≡ false
    apart = grind (arith, nat_tests, above.0)

    by : (b : Bool) → has_number n (pins es) ≡ false
        → has_number n (keys_of (cond b (e ∷ filter (λ e. e.1.pinned) es) (filter (λ e. e.1.pinned) es))) ≡ false
    by true rest = rw apart rest
    by false rest = rest

pub pins_has : (kept : List (ℕ × Export)) → IsStrictlySortedBy nat_cmp (keys_of kept)
    → AllByRecursion (λ e. has_number e.0 (pins kept) ≡ e.1.pinned) kept
pins_has [] ascend = tt
pins_has (e ∷ es) ascend = (
  first e.1.pinned refl,
  all_from _ _ later es (all_both _ _ es above (pins_has es (sorted_tail nat_cmp _ _ ascend))),
)
  where
    here : (e.0 == e.0) ≡ true
    here = grind (arith, nat_tests)

    first : (b : Bool) → e.1.pinned ≡ b
        → has_number e.0 (keys_of (cond b (e ∷ filter (λ e. e.1.pinned) es) (filter (λ e. e.1.pinned) es))) ≡ e.1.pinned
    first true is = rw here (sym is)
    first false is = no_pin_above e.0 es (sorted_head nat_cmp _ _ ascend) ∙ sym is

    above : AllByRecursion (λ (x : ℕ × Export). nat_cmp e.0 x.0 ≡ Less) es
    above = all_map_back (λ k. nat_cmp e.0 k ≡ Less) es (sorted_head nat_cmp _ _ ascend)

    later : (x : ℕ × Export) → (nat_cmp e.0 x.0 ≡ Less) × (has_number x.0 (pins es) ≡ x.1.pinned)
        → has_number x.0 (pins (e ∷ es)) ≡ x.1.pinned
    later x h = by e.1.pinned
      where
        apart : (e.0 == x.0) ≡ false
        apart = grind (arith, nat_tests, h.0)

        by : (b : Bool)
            → has_number x.0 (keys_of (cond b (e ∷ filter (λ e. e.1.pinned) es) (filter (λ e. e.1.pinned) es)))
            ≡ x.1.pinned
        by true = rw apart h.1
        by false = h.1

-- what changes no number and no pin
pins_alike : (f : ℕ × Export → ℕ × Export) → ((e : ℕ × Export) → (f e).0 ≡ e.0)
    → ((e : ℕ × Export) → (f e).1.pinned ≡ e.1.pinned) → (kept : List (ℕ × Export)) → pins (map f kept) ≡ pins kept
pins_alike f number pin [] = refl
pins_alike f number pin (e ∷ es) = ap (λ b. keys_of (cond b (f e ∷ filter (λ x. x.1.pinned) (map f es))
    (filter (λ x. x.1.pinned) (map f es)))) (pin e) ∙ one e.1.pinned (pins_alike f number pin es)
  where
    one : (b : Bool) → pins (map f es) ≡ pins es
        → keys_of (cond b (f e ∷ filter (λ x. x.1.pinned) (map f es)) (filter (λ x. x.1.pinned) (map f es)))
        ≡ keys_of (cond b (e ∷ filter (λ x. x.1.pinned) es) (filter (λ x. x.1.pinned) es))
    one true rest = λ i. number e i ∷ rest i
    one false rest = rest

pub pins_raised : (ns : List ℕ) (kept : List (ℕ × Export)) → pins (at_numbers raised ns kept) ≡ pins kept
pins_raised ns kept =
    ap pins (all_raised ns kept) ∙ pins_alike (raised_by ns) (λ e. refl) (λ e. refl) kept

pub pins_lowered : (ns : List ℕ) (kept : List (ℕ × Export)) → pins (at_numbers lowered ns kept) ≡ pins kept
pins_lowered ns kept =
    ap pins (all_lowered ns kept) ∙ pins_alike (lowered_by ns) (λ e. refl) (λ e. refl) kept

-- those that pass by what is known of each
pins_where : (g : ℕ → Bool) (ns : List ℕ) (kept : List (ℕ × Export))
    → AllByRecursion (λ e. g e.0 ≡ e.1.pinned) kept
    → pins (map (pinned_by ns) kept) ≡ filter (λ n. g n || has_number n ns) (keys_of (shown kept))
pins_where g ns [] known = refl
pins_where g ns (e ∷ es) known =
    one e.1.pinned (has_number e.0 ns) (pins_where g ns es known.1) ∙ ap (λ b. cond (b || has_number e.0 ns)
    (e.0 ∷ filter (λ n. g n || has_number n ns) (keys_of (shown es)))
    (filter (λ n. g n || has_number n ns) (keys_of (shown es)))) (sym known.0)
  where
    one : (b h : Bool)
        → pins (map (pinned_by ns) es) ≡ filter (λ n. g n || has_number n ns) (keys_of (shown es))
        → keys_of (cond (b || h) (pinned_by ns e ∷ filter (λ e. e.1.pinned) (map (pinned_by ns) es))
        (filter (λ e. e.1.pinned) (map (pinned_by ns) es)))
        ≡ cond (b || h) (e.0 ∷ filter (λ n. g n || has_number n ns) (keys_of (shown es)))
        (filter (λ n. g n || has_number n ns) (keys_of (shown es)))
    one true h rest = ap (λ t. e.0 ∷ t) rest
    one false true rest = ap (λ t. e.0 ∷ t) rest
    one false false rest = rest

pub pins_pinned : (ns : List ℕ) (kept : List (ℕ × Export)) → IsStrictlySortedBy nat_cmp (keys_of kept)
    → pins (at_numbers with_pin ns kept)
    ≡ filter (λ n. has_number n (pins kept) || has_number n ns) (keys_of (shown kept))
pins_pinned ns kept ascend =
    ap pins (all_pinned ns kept) ∙ pins_where (λ n. has_number n (pins kept)) ns kept (pins_has kept ascend)

pub pins_new : (n : ℕ) (r : Plain) (kept : List (ℕ × Export)) → pins (kept ++ (n, new_export false r) ∷ []) ≡ pins kept
pins_new n r [] = refl
pins_new n r (e ∷ es) = one e.1.pinned (pins_new n r es)
  where
    more : List (ℕ × Export)
    more = es ++ (n, new_export false r) ∷ []

    one : (b : Bool) → pins more ≡ pins es
        → keys_of (cond b (e ∷ filter (λ e. e.1.pinned) more) (filter (λ e. e.1.pinned) more))
        ≡ keys_of (cond b (e ∷ filter (λ e. e.1.pinned) es) (filter (λ e. e.1.pinned) es))
    one true rest = ap (λ t. e.0 ∷ t) rest
    one false rest = rest

-- without some that aren't pinned
pub pins_without : (test : ℕ × Export → Bool) (kept : List (ℕ × Export))
    → AllByRecursion (λ e. e.1.pinned ≡ true → test e ≡ true) kept → pins (filter test kept) ≡ pins kept
pins_without test [] stays = refl
pins_without test (e ∷ es) stays = one (test e) e.1.pinned refl refl (pins_without test es stays.1)
  where
    one : (t b : Bool) → test e ≡ t → e.1.pinned ≡ b → pins (filter test es) ≡ pins es
        → pins (cond t (e ∷ filter test es) (filter test es))
        ≡ keys_of (cond b (e ∷ filter (λ e. e.1.pinned) es) (filter (λ e. e.1.pinned) es))
    one true true is pinned rest = rw pinned (ap (λ x. e.0 ∷ x) rest)
    one true false is pinned rest = rw pinned rest
    one false true is pinned rest =
        let no : false ≡ true = sym is ∙ stays.0 pinned in absurd cc
    one false false is pinned rest = rest

pinned_busy : (t p : Bool) (m : ℕ) → p ≡ true → not (t && (not p && m == 0)) ≡ true
pinned_busy true true m is = refl
pinned_busy false p m is = refl
pinned_busy true false m is = absurd cc

all_busy : (t : ℕ → Bool) (kept : List (ℕ × Export))
    → AllByRecursion (λ e. e.1.pinned ≡ true → not (t e.0 && is_idle e.1) ≡ true) kept
all_busy t [] = tt
all_busy t (e ∷ es) = (pinned_busy (t e.0) e.1.pinned e.1.mentions, all_busy t es)

pub pins_released : (t : ℕ → Bool) (kept : List (ℕ × Export)) → pins (released_where t kept) ≡ pins kept
pins_released t kept = pins_without (λ e. not (t e.0 && is_idle e.1)) kept (all_busy t kept)

-- those that are pinned are below
pins_low : (next : ℕ) (kept : List (ℕ × Export)) → AreGiven next (pins kept)
    → AllByRecursion (λ e. e.1.pinned ≡ true → nat_lt e.0 next ≡ true) kept
pins_low next [] given = tt
pins_low next (e ∷ es) given = (here e.1.pinned given, pins_low next es (rest e.1.pinned given))
  where
    rest : (b : Bool)
        → AreGiven next (keys_of (cond b (e ∷ filter (λ e. e.1.pinned) es) (filter (λ e. e.1.pinned) es)))
        → AreGiven next (pins es)
    rest true all = all.1
    rest false all = all

    here : (b : Bool)
        → AreGiven next (keys_of (cond b (e ∷ filter (λ e. e.1.pinned) es) (filter (λ e. e.1.pinned) es)))
        → b ≡ true → nat_lt e.0 next ≡ true
    here true all is = grind (arith, nat_tests, all.0)
    here false all is = absurd cc

pub pins_below : (next : ℕ) (kept : List (ℕ × Export)) → AreGiven next (pins kept)
    → pins (filter (λ e. nat_lt e.0 next) kept) ≡ pins kept
pins_below next kept given = pins_without (λ e. nat_lt e.0 next) kept (pins_low next kept given)

pub pins_given : (next : ℕ) (kept : List (ℕ × Export)) → AllByRecursion (λ k. k < next) (keys_of kept)
    → AreGiven next (pins kept)
pins_given next kept given =
    all_map_on (λ k. k < next) (filter (λ e. e.1.pinned) kept)
    (all_filter _ (λ e. e.1.pinned) kept (all_map_back (λ k. k < next) kept given))

-- ---- the sweep

shown_filter : (g : ℕ → Bool) (kept : List (ℕ × Export))
    → filter (λ e. g e.0) (shown kept) ≡ shown (filter (λ e. g e.0) kept)
shown_filter g [] = refl
shown_filter g (e ∷ es) = by (g e.0) (shown_filter g es)
  where
    by : (b : Bool) → filter (λ e. g e.0) (shown es) ≡ shown (filter (λ e. g e.0) es)
        → cond b ((e.0, e.1.reference) ∷ filter (λ e. g e.0) (shown es)) (filter (λ e. g e.0) (shown es))
        ≡ shown (cond b (e ∷ filter (λ e. g e.0) es) (filter (λ e. g e.0) es))
    by true rest = ap (λ t. (e.0, e.1.reference) ∷ t) rest
    by false rest = rest

pub shown_below : (next : ℕ) (kept : List (ℕ × Export))
    → shown (filter (λ e. nat_lt e.0 next) kept) ≡ filter (λ e. nat_lt e.0 next) (shown kept)
shown_below next kept = sym (shown_filter (λ n. nat_lt n next) kept)

-- by the pin and the count, what stays isn't idle, or isn't looked at
stays_by : (p h l : Bool) (m : ℕ) → h ≡ nat_lt 0 m → ((not p && m == 0) ≡ true → l ≡ true)
    → (p || h) ≡ not (l && (not p && m == 0))
stays_by true h true m has left = refl
stays_by true h false m has left = refl
stays_by false h true m has left = grind (arith, nat_tests, has)
stays_by false h false m has left = by (m == 0) refl
  where
    by : (b : Bool) → (m == 0) ≡ b → h ≡ true
    by true is =
        let no : false ≡ true = left is in absurd cc
    by false is = grind (arith, nat_tests, has, is)

pub swept_is : (settled : ℕ) (dropped : List (List ℕ)) (notes : Notes) (kept : List (ℕ × Export))
    → IsStrictlySortedBy nat_cmp (keys_of kept) → CountedBy (λ n. mentions n notes) kept → AreLeft settled dropped kept
    → filter (λ e. has_number e.0 (pins kept) || is_mentioned e.0 notes) (shown kept)
    ≡ shown (released_where (is_left settled dropped) kept)
swept_is settled dropped notes kept ascend counted left =
    shown_filter (λ n. has_number n (pins kept) || is_mentioned n notes) kept
    ∙ ap shown (filter_same _ _ kept (all_from _ _ one kept
    (all_both _ _ kept (pins_has kept ascend) (all_both _ _ kept counted left))))
  where
    one : (e : ℕ × Export)
        → (has_number e.0 (pins kept) ≡ e.1.pinned)
        × ((e.1.mentions ≡ mentions e.0 notes) × (is_idle e.1 ≡ true → is_left settled dropped e.0 ≡ true))
        → (has_number e.0 (pins kept) || is_mentioned e.0 notes) ≡ not (is_left settled dropped e.0 && is_idle e.1)
    one e h = ap (λ b. b || is_mentioned e.0 notes) h.0
        ∙ stays_by e.1.pinned (is_mentioned e.0 notes) (is_left settled dropped e.0) e.1.mentions
        (mentions_has e.0 notes ∙ ap (nat_lt 0) (sym h.1.0)) h.1.1

-- ---- all of it, as an export comes

given_at : (next : ℕ) (notes : Notes) → AllByRecursion (λ e. AreGiven next e.1) notes
    → AllByRecursion (λ e. AreGiven (next + 1) e.1) notes
given_at next notes given = all_given_more next (next + 1) notes (omega arith) given

pub counted_new : (x : Listed) (notes : Notes) (settled : ℕ) (dropped : List (List ℕ)) (room : ℕ) (r : Plain)
    → AreCounted x notes settled dropped room
    → AreCounted (record { kept = x.kept ++ (x.next, new_export false r) ∷ []; next = x.next + 1 }) notes settled
    dropped room
counted_new x notes settled dropped room r c = record {
  counted = all_append (λ e. e.1.mentions ≡ mentions e.0 notes) x.kept ((x.next, new_export false r) ∷ []) c.counted
      (sym (none_mentioned x.next x.next notes (omega arith) c.given), tt);
  given = given_at x.next notes c.given;
  once = c.once;
  left = all_append (λ e. is_idle e.1 ≡ true → is_left settled dropped e.0 ≡ true) x.kept
      ((x.next, new_export false r) ∷ []) c.left (λ idle. new_left, tt);
  within = omega (arith, c.within);
  roomy = c.roomy;
}
  where
    new_left : is_left settled dropped x.next ≡ true
    new_left = let low = c.within in by (nat_le settled x.next) (grind (arith, nat_tests, low))
      where
        by : (b : Bool) → b ≡ true → (b || list_any (has_number x.next) dropped) ≡ true
        by true is = refl
        by false is = absurd cc

-- ---- the same as a note comes, or goes

all_above : {X : Type 0} (h k : ℕ) (es : List (ℕ × X)) → h < k
    → AllByRecursion (λ j. nat_cmp k j ≡ Less) (keys_of es) → lookup (is_at (nat_cmp h)) es ≡ None
all_above h k [] low above = refl
all_above h k (e ∷ es) low above =
    let other : is_at (nat_cmp h) e.0 ≡ false = grind (arith, nat_tests, low, above.0) in
    rw other (all_above h k es low above.1)

value_inserted : (P : List ℕ → Type 0) (h : ℕ) (ns : List ℕ) (notes : Notes) → P ns
    → AllByRecursion (λ e. P e.1) notes → AllByRecursion (λ e. P e.1) (insert_entry nat_cmp notes h ns)
value_inserted P h ns [] new all = (new, tt)
value_inserted P h ns (e ∷ es) new all = by (nat_cmp h e.0) (value_inserted P h ns es new all.1)
  where
    by : (o : Ordering) → AllByRecursion (λ e. P e.1) (insert_entry nat_cmp es h ns)
        → AllByRecursion (λ e. P e.1)
        (match_ordering o ((h, ns) ∷ e ∷ es) ((e.0, ns) ∷ es) (e ∷ insert_entry nat_cmp es h ns))
    by Less rest = (new, all)
    by Equal rest = (new, all.1)
    by Greater rest = (all.0, rest)

-- one entry more, where there was none of its number
length_inserted : (h : ℕ) (ns : List ℕ) (notes : Notes)
    → length (insert_entry nat_cmp notes h ns) ≤ length notes + 1
length_inserted h ns [] = omega arith
length_inserted h ns (e ∷ es) = by (nat_cmp h e.0) (length_inserted h ns es)
  where
    by : (o : Ordering) → length (insert_entry nat_cmp es h ns) ≤ length es + 1
        → length (match_ordering o ((h, ns) ∷ e ∷ es) ((e.0, ns) ∷ es) (e ∷ insert_entry nat_cmp es h ns))
        ≤ length (e ∷ es) + 1
    by Less rest = omega arith
    by Equal rest = omega arith
    by Greater rest = omega (arith, rest)

-- the same number of entries, where there was one
length_replaced : (h : ℕ) (ns old : List ℕ) (notes : Notes) → IsStrictlySortedBy nat_cmp (keys_of notes)
    → lookup (is_at (nat_cmp h)) notes ≡ Some old → length (insert_entry nat_cmp notes h ns) ≡ length notes
length_replaced h ns old [] ascend is = absurd cc
length_replaced h ns old (e ∷ es) ascend is =
    by (nat_cmp h e.0) refl (length_replaced h ns old es (sorted_tail nat_cmp _ _ ascend))
  where
    by : (o : Ordering) → nat_cmp h e.0 ≡ o
        → (lookup (is_at (nat_cmp h)) es ≡ Some old → length (insert_entry nat_cmp es h ns) ≡ length es)
        → length (match_ordering o ((h, ns) ∷ e ∷ es) ((e.0, ns) ∷ es) (e ∷ insert_entry nat_cmp es h ns))
        ≡ length (e ∷ es)
    by Less low rest =
        let there : is_at (nat_cmp h) e.0 ≡ false = grind (arith, nat_tests, low) in
        let none : lookup (is_at (nat_cmp h)) es ≡ None =
        all_above h e.0 es (grind (arith, nat_tests, low)) (sorted_head nat_cmp _ _ ascend) in
        let no : None ≡ Some old = sym none ∙ sym (lookup_tail (is_at (nat_cmp h)) e es there) ∙ is in absurd cc
    by Equal same rest = refl
    by Greater high rest =
        let there : is_at (nat_cmp h) e.0 ≡ false = grind (arith, nat_tests, high) in
        let later = rest (sym (lookup_tail (is_at (nat_cmp h)) e es there) ∙ is) in omega (arith, later)

pub lookup_times : (n h : ℕ) (ns : List ℕ) (notes : Notes) → lookup (is_at (nat_cmp h)) notes ≡ Some ns
    → mentions n (remove_entry (is_at (nat_cmp h)) notes) + times n ns ≡ mentions n notes
lookup_times n h ns notes is =
    ap (λ o. mentions n (remove_entry (is_at (nat_cmp h)) notes) + earlier_times n o) (sym is) ∙ mentions_less n h notes

-- a note that is among them counts
pub may_let_go : (x : Listed) (notes : Notes) (settled : ℕ) (dropped : List (List ℕ)) (room h : ℕ) (ns : List ℕ)
    → AreCounted x notes settled dropped room → lookup (is_at (nat_cmp h)) notes ≡ Some ns
    → AllByRecursion (MayFall ns) x.kept
may_let_go x notes settled dropped room h ns c is =
    may_all_fall (λ n. mentions n notes) ns x.kept (λ n. omega (arith, lookup_times n h ns notes is)) c.counted

pub counted_gone : (x : Listed) (notes : Notes) (settled : ℕ) (dropped : List (List ℕ)) (room more h : ℕ) (ns : List ℕ)
    → AreCounted x notes settled dropped room → lookup (is_at (nat_cmp h)) notes ≡ Some ns → room ≤ more
    → AreCounted (record { kept = at_numbers lowered ns x.kept; next = x.next })
    (remove_entry (is_at (nat_cmp h)) notes) settled (dropped ++ ns ∷ []) more
counted_gone x notes settled dropped room more h ns c is l = record {
  counted = lowered_counts (λ n. mentions n notes) (λ n. mentions n (remove_entry (is_at (nat_cmp h)) notes)) ns x.kept
      (λ n. lookup_times n h ns notes is) c.counted;
  given = all_removed (λ e. AreGiven x.next e.1) (is_at (nat_cmp h)) notes c.given;
  once = all_removed (λ e. (n : ℕ) → times n e.1 ≤ 1) (is_at (nat_cmp h)) notes c.once;
  left = left_lowered settled dropped ns x.kept c.left;
  within = c.within;
  roomy = omega (
    arith,
    l,
    c.roomy,
    length-append dropped (ns ∷ []),
    length_without ns (is_at (nat_cmp h)) notes is,
  );
}

-- a number more or less goes into a machine's number, where there are few notes
pub may_hold : (x : Listed) (notes : Notes) (settled : ℕ) (dropped : List (List ℕ)) (room : ℕ) (ns : List ℕ)
    → AreCounted x notes settled dropped room → length notes < 2 ^ 63 → IsStrictlySortedBy nat_cmp ns
    → AllByRecursion (MayRise (2 ^ 64) ns) x.kept
may_hold x notes settled dropped room ns c few ascend =
    may_all_rise (2 ^ 64) (λ n. mentions n notes) ns x.kept
    (λ n. omega (arith, few, few_mentions n notes c.once, once_each ns ascend n)) c.counted

put_new : (n h : ℕ) (ns : List ℕ) (notes : Notes) → IsStrictlySortedBy nat_cmp (keys_of notes)
    → lookup (is_at (nat_cmp h)) notes ≡ None
    → mentions n (insert_entry nat_cmp notes h ns) ≡ mentions n notes + times n ns
put_new n h ns notes ascend none =
    let put = mentions_put n h ns notes ascend in
    let zero : earlier_times n (lookup (is_at (nat_cmp h)) notes) ≡ 0 = ap (earlier_times n) none in
    omega (arith, put, zero)

put_again : (n h : ℕ) (ns old : List ℕ) (notes : Notes) → IsStrictlySortedBy nat_cmp (keys_of notes)
    → lookup (is_at (nat_cmp h)) notes ≡ Some old
    → mentions n (insert_entry nat_cmp notes h ns) + times n old ≡ mentions n notes + times n ns
put_again n h ns old notes ascend is =
    ap (λ o. mentions n (insert_entry nat_cmp notes h ns) + earlier_times n o) (sym is)
    ∙ mentions_put n h ns notes ascend

pub counted_held : (x : Listed) (notes : Notes) (settled : ℕ) (dropped : List (List ℕ)) (room more h : ℕ) (ns : List ℕ)
    → AreCounted x notes settled dropped room → IsStrictlySortedBy nat_cmp (keys_of notes)
    → lookup (is_at (nat_cmp h)) notes ≡ None → AreGiven x.next ns → IsStrictlySortedBy nat_cmp ns
    → length dropped + (length notes + 1) ≤ more
    → AreCounted (record { kept = at_numbers raised ns x.kept; next = x.next }) (insert_entry nat_cmp notes h ns)
    settled dropped more
counted_held x notes settled dropped room more h ns c ascend none given numbers l = record {
  counted = raised_counts (λ n. mentions n notes) (λ n. mentions n (insert_entry nat_cmp notes h ns)) ns x.kept
      (λ n. put_new n h ns notes ascend none) c.counted;
  given = value_inserted (AreGiven x.next) h ns notes given c.given;
  once = value_inserted (λ ms. (n : ℕ) → times n ms ≤ 1) h ns notes (once_each ns numbers) c.once;
  left = left_raised settled dropped ns x.kept c.left;
  within = c.within;
  roomy = omega (arith, l, length_inserted h ns notes);
}

pub may_replace : (x : Listed) (notes : Notes) (settled : ℕ) (dropped : List (List ℕ)) (room h : ℕ) (ns old : List ℕ)
    → AreCounted x notes settled dropped room → IsStrictlySortedBy nat_cmp (keys_of notes)
    → lookup (is_at (nat_cmp h)) notes ≡ Some old → AllByRecursion (MayFall old) (at_numbers raised ns x.kept)
may_replace x notes settled dropped room h ns old c ascend is =
    may_all_fall (λ n. mentions n notes + times n ns) old (at_numbers raised ns x.kept)
    (λ n. omega (arith, put_again n h ns old notes ascend is))
    (raised_counts (λ n. mentions n notes) (λ n. mentions n notes + times n ns) ns x.kept (λ n. refl) c.counted)

pub counted_replaced : (x : Listed) (notes : Notes) (settled : ℕ) (dropped : List (List ℕ)) (room more h : ℕ)
    (ns old : List ℕ) → AreCounted x notes settled dropped room → IsStrictlySortedBy nat_cmp (keys_of notes)
    → lookup (is_at (nat_cmp h)) notes ≡ Some old → AreGiven x.next ns → IsStrictlySortedBy nat_cmp ns
    → length dropped + (length notes + 1) ≤ more
    → AreCounted (record { kept = at_numbers lowered old (at_numbers raised ns x.kept); next = x.next })
    (insert_entry nat_cmp notes h ns) settled (dropped ++ old ∷ []) more
counted_replaced x notes settled dropped room more h ns old c ascend is given numbers l = record {
  counted = lowered_counts (λ n. mentions n notes + times n ns) (λ n. mentions n (insert_entry nat_cmp notes h ns)) old
      (at_numbers raised ns x.kept) (λ n. put_again n h ns old notes ascend is)
      (raised_counts (λ n. mentions n notes) (λ n. mentions n notes + times n ns) ns x.kept (λ n. refl) c.counted);
  given = value_inserted (AreGiven x.next) h ns notes given c.given;
  once = value_inserted (λ ms. (n : ℕ) → times n ms ≤ 1) h ns notes (once_each ns numbers) c.once;
  left = left_lowered settled dropped old (at_numbers raised ns x.kept) (left_raised settled dropped ns x.kept c.left);
  within = c.within;
  roomy = omega (arith, l, length-append dropped (old ∷ []), length_replaced h ns old notes ascend is);
}

pub counted_pinned : (x : Listed) (notes : Notes) (settled : ℕ) (dropped : List (List ℕ)) (room : ℕ) (ns : List ℕ)
    → AreCounted x notes settled dropped room
    → AreCounted (record { kept = at_numbers with_pin ns x.kept; next = x.next }) notes settled dropped room
counted_pinned x notes settled dropped room ns c = record {
  counted = pinned_counts (λ n. mentions n notes) ns x.kept c.counted;
  given = c.given;
  once = c.once;
  left = left_pinned settled dropped ns x.kept c.left;
  within = c.within;
  roomy = c.roomy;
}

-- ---- the same as exports go

pub counted_below : (x : Listed) (notes : Notes) (settled lower next : ℕ) (dropped : List (List ℕ)) (room : ℕ)
    → AreCounted x notes settled dropped room → AllByRecursion (λ e. AreGiven next e.1) notes → lower ≤ settled
    → lower ≤ next
    → AreCounted (record { kept = filter (λ e. nat_lt e.0 next) x.kept; next = next }) notes lower dropped room
counted_below x notes settled lower next dropped room c given l within = record {
  counted = all_filter _ (λ e. nat_lt e.0 next) x.kept c.counted;
  given = given;
  once = c.once;
  left = all_filter _ (λ e. nat_lt e.0 next) x.kept (left_lower settled lower dropped x.kept l c.left);
  within = within;
  roomy = c.roomy;
}

pub counted_swept : (x : Listed) (notes : Notes) (settled : ℕ) (dropped : List (List ℕ)) (room more : ℕ)
    → AreCounted x notes settled dropped room → room ≤ more
    → AreCounted (record { kept = released_where (is_left settled dropped) x.kept; next = x.next }) notes x.next [] more
counted_swept x notes settled dropped room more c l = record {
  counted = all_filter _ (λ e. not (is_left settled dropped e.0 && is_idle e.1)) x.kept c.counted;
  given = c.given;
  once = c.once;
  left = left_none x.next [] (released_where (is_left settled dropped) x.kept)
      (none_idle_left settled dropped x.kept c.left);
  within = omega arith;
  roomy = omega (arith, l, c.roomy);
}

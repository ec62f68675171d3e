-- Exports of some numbers that are marked, one after another.
use Rattle.std.proofs.Common.{◌≡◌, ℕ, ◌+◌, ◌-◌, ◌<◌, ◌≤◌, ◌==◌, ◌||◌, List, [], ◌∷◌, Bool, true, false, cond, map}
use Rattle.std.proofs.Common.{Option, Some, None, IfSome, refl, ap, sym, ◌∙◌, subst, arith}
use Rattle.std.specs.BTreeMap.{is_at}
use Rattle.std.specs.List.{AllByRecursion}
use Rattle.std.specs.List.Sorted.{IsStrictlySortedBy}
use Rattle.std.specs.Map.{lookup, set_value, keys_of}
use Rattle.std.specs.Ordering.{nat_cmp}
use Rattle.std.specs.Cmp.{eq_by_cmp_equiv, nat_cmp_total}
use Rattle.std.proofs.lemmas.Bool.Decides.{nat_tests}
use Rattle.std.proofs.lemmas.Map.{lookup-none}
use Rattle.std.proofs.lemmas.Map.Entries.{lookup_head, lookup_tail, none_past_head}
use Rattle.std.proofs.lemmas.Map.Keys.{sorted_tail, IsDistinct-from_sorted}
use Rattle.rl_ports.specs.Ports.{has_number}
use Rattle.rl_ports.specs.Kept.{Export, at_number, at_numbers, raised, lowered, with_pin, times, shown}

pub is_at_same : (n m : ℕ) → is_at (nat_cmp n) m ≡ (n == m)
is_at_same n m = grind (arith, nat_tests)

abbrev pub found : ℕ → List (ℕ × Export) → Option Export
found n kept = lookup (is_at (nat_cmp n)) kept

-- where there is none of this number, nothing changes
pub none_changes : (f : Export → Export) (n : ℕ) (kept : List (ℕ × Export)) → found n kept ≡ None
    → map (at_number f n) kept ≡ kept
none_changes f n [] none = refl
none_changes f n (e ∷ es) none = split (n == e.0) refl (none_changes f n es)
  where
    split : (b : Bool) → (n == e.0) ≡ b → (found n es ≡ None → map (at_number f n) es ≡ es)
        → map (at_number f n) (e ∷ es) ≡ e ∷ es
    split true is rest =
        let h : Some e.1 ≡ None = sym (lookup_head (is_at (nat_cmp n)) e es (is_at_same n e.0 ∙ is)) ∙ none in absurd cc
    split false is rest =
        rw is (ap (λ (t : List (ℕ × Export)). e ∷ t) (rest
        (sym (lookup_tail (is_at (nat_cmp n)) e es (is_at_same n e.0 ∙ is)) ∙ none)))

-- what is written at the export of this number
pub one_changes : (f : Export → Export) (n : ℕ) (x : Export) (kept : List (ℕ × Export))
    → IsStrictlySortedBy nat_cmp (keys_of kept) → found n kept ≡ Some x
    → set_value (is_at (nat_cmp n)) kept (f x) ≡ map (at_number f n) kept
one_changes f n x [] ascend is = absurd cc
one_changes f n x (e ∷ es) ascend is =
    split (n == e.0) refl (one_changes f n x es (sorted_tail nat_cmp _ _ ascend))
  where
    test : ℕ → Bool
    test = is_at (nat_cmp n)

    split : (b : Bool) → (n == e.0) ≡ b
        → (found n es ≡ Some x → set_value test es (f x) ≡ map (at_number f n) es)
        → set_value test (e ∷ es) (f x) ≡ map (at_number f n) (e ∷ es)
    split true same later =
        let here : test e.0 ≡ true = is_at_same n e.0 ∙ same in
        let value : Some e.1 ≡ Some x = sym (lookup_head test e es here) ∙ is in
        let distinct = IsDistinct-from_sorted nat_cmp _ ascend in
        let rest : found n es ≡ None =
        lookup-none test es (none_past_head (eq_by_cmp_equiv nat_cmp_total) n e es distinct here) in
        rw (here, same) (ap (λ (y : Export). (e.0, f y) ∷ es) (sym cc)
        ∙ ap (λ (t : List (ℕ × Export)). (e.0, f e.1) ∷ t) (sym (none_changes f n es rest)))
    split false other later =
        let there : test e.0 ≡ false = is_at_same n e.0 ∙ other in
        rw (there, other) (ap (λ (t : List (ℕ × Export)). e ∷ t) (later (sym (lookup_tail test e es there) ∙ is)))

-- numbers and references stay
abbrev pub KeepsReference : (Export → Export) → Type 0
KeepsReference f = (e : Export) → (f e).reference ≡ e.reference

at_number_reference : (f : Export → Export) → KeepsReference f → (b : Bool) (e : Export)
    → (cond b (f e) e).reference ≡ e.reference
at_number_reference f keeps true e = keeps e
at_number_reference f keeps false e = refl

shown_one : (f : Export → Export) → KeepsReference f → (n : ℕ) (kept : List (ℕ × Export))
    → shown (map (at_number f n) kept) ≡ shown kept
shown_one f keeps n [] = refl
shown_one f keeps n (e ∷ es) =
    ap (λ r. (e.0, r) ∷ shown (map (at_number f n) es)) (at_number_reference f keeps (n == e.0) e.1)
    ∙ ap (λ t. (e.0, e.1.reference) ∷ t) (shown_one f keeps n es)

pub shown_marked : (f : Export → Export) → KeepsReference f → (ns : List ℕ) (kept : List (ℕ × Export))
    → shown (at_numbers f ns kept) ≡ shown kept
shown_marked f keeps [] kept = refl
shown_marked f keeps (n ∷ ns) kept =
    shown_marked f keeps ns (map (at_number f n) kept) ∙ shown_one f keeps n kept

pub keys_one : (f : Export → Export) (n : ℕ) (kept : List (ℕ × Export))
    → keys_of (map (at_number f n) kept) ≡ keys_of kept
keys_one f n [] = refl
keys_one f n (e ∷ es) = ap (λ t. e.0 ∷ t) (keys_one f n es)

-- ---- one mark after another

pub all_step : (P Q : ℕ × Export → Type 0) (f : ℕ × Export → ℕ × Export) → ((e : ℕ × Export) → P e → Q (f e))
    → (kept : List (ℕ × Export)) → AllByRecursion P kept → AllByRecursion Q (map f kept)
all_step P Q f one [] all = tt
all_step P Q f one (e ∷ es) all = (one e all.0, all_step P Q f one es all.1)

abbrev pub MayRise : ℕ → List ℕ → ℕ × Export → Type 0
MayRise most ns e = e.1.mentions + times e.0 ns < most

abbrev pub MayFall : List ℕ → ℕ × Export → Type 0
MayFall ns e = times e.0 ns ≤ e.1.mentions

rise : (most n : ℕ) (ns : List ℕ) (e : ℕ × Export) → MayRise most (n ∷ ns) e → MayRise most ns (at_number raised n e)
rise most n ns e may = by (n == e.0) may
  where
    by : (b : Bool) → e.1.mentions + (cond b 1 0 + times e.0 ns) < most
        → (cond b (raised e.1) e.1).mentions + times e.0 ns < most
    by true may = omega (arith, may)
    by false may = omega (arith, may)

fall : (n : ℕ) (ns : List ℕ) (e : ℕ × Export) → MayFall (n ∷ ns) e → MayFall ns (at_number lowered n e)
fall n ns e may = by (n == e.0) may
  where
    by : (b : Bool) → cond b 1 0 + times e.0 ns ≤ e.1.mentions → times e.0 ns ≤ (cond b (lowered e.1) e.1).mentions
    by true may = omega (arith, may)
    by false may = omega (arith, may)

pub all_rise : (most n : ℕ) (ns : List ℕ) (kept : List (ℕ × Export)) → AllByRecursion (MayRise most (n ∷ ns)) kept
    → AllByRecursion (MayRise most ns) (map (at_number raised n) kept)
all_rise most n ns kept all = all_step (MayRise most (n ∷ ns)) (MayRise most ns) (at_number raised n) (rise most n ns)
    kept all

pub all_fall : (n : ℕ) (ns : List ℕ) (kept : List (ℕ × Export)) → AllByRecursion (MayFall (n ∷ ns)) kept
    → AllByRecursion (MayFall ns) (map (at_number lowered n) kept)
all_fall n ns kept all = all_step (MayFall (n ∷ ns)) (MayFall ns) (at_number lowered n) (fall n ns) kept all

-- what is true of the export of a number
pub at_found : (P : ℕ × Export → Type 0) (Q : Export → Type 0) (n : ℕ)
    → ((e : ℕ × Export) → (n == e.0) ≡ true → P e → Q e.1) → (kept : List (ℕ × Export)) → AllByRecursion P kept
    → IfSome (found n kept) Q
at_found P Q n one [] all = tt
at_found P Q n one (e ∷ es) all = by (is_at (nat_cmp n) e.0) (is_at_same n e.0) (at_found P Q n one es all.1)
  where
    by : (b : Bool) → b ≡ (n == e.0) → IfSome (found n es) Q → IfSome (cond b (Some e.1) (found n es)) Q
    by true is rest = one e (sym is) all.0
    by false is rest = rest

pub may_rise : (most n : ℕ) (ns : List ℕ) (kept : List (ℕ × Export)) → AllByRecursion (MayRise most (n ∷ ns)) kept
    → IfSome (found n kept) (λ e. e.mentions + 1 < most)
may_rise most n ns kept all = at_found (MayRise most (n ∷ ns)) (λ e. e.mentions + 1 < most) n one kept all
  where
    one : (e : ℕ × Export) → (n == e.0) ≡ true → MayRise most (n ∷ ns) e → e.1.mentions + 1 < most
    one e is may =
        let h : e.1.mentions + (cond true 1 0 + times e.0 ns) < most =
        subst (λ b. e.1.mentions + (cond b 1 0 + times e.0 ns) < most) is may in omega (arith, h)

pub may_fall : (n : ℕ) (ns : List ℕ) (kept : List (ℕ × Export)) → AllByRecursion (MayFall (n ∷ ns)) kept
    → IfSome (found n kept) (λ e. 1 ≤ e.mentions)
may_fall n ns kept all = at_found (MayFall (n ∷ ns)) (λ e. 1 ≤ e.mentions) n one kept all
  where
    one : (e : ℕ × Export) → (n == e.0) ≡ true → MayFall (n ∷ ns) e → 1 ≤ e.1.mentions
    one e is may =
        let h : cond true 1 0 + times e.0 ns ≤ e.1.mentions =
        subst (λ b. cond b 1 0 + times e.0 ns ≤ e.1.mentions) is may in omega (arith, h)

-- ---- all marks at once

abbrev pub raised_by : List ℕ → ℕ × Export → ℕ × Export
raised_by ns e = (e.0, record e.1 { mentions = e.1.mentions + times e.0 ns })

abbrev pub lowered_by : List ℕ → ℕ × Export → ℕ × Export
lowered_by ns e = (e.0, record e.1 { mentions = e.1.mentions - times e.0 ns })

abbrev pub pinned_by : List ℕ → ℕ × Export → ℕ × Export
pinned_by ns e = (e.0, record e.1 { pinned = e.1.pinned || has_number e.0 ns })

map_map_is : {A B C : Type 0} (f : A → B) (g : B → C) (h : A → C) → ((x : A) → g (f x) ≡ h x) → (xs : List A)
    → map g (map f xs) ≡ map h xs
map_map_is f g h same [] = refl
map_map_is f g h same (x ∷ xs) = λ i. same x i ∷ map_map_is f g h same xs i

map_is_same : {A : Type 0} (f : A → A) → ((x : A) → f x ≡ x) → (xs : List A) → map f xs ≡ xs
map_is_same f same [] = refl
map_is_same f same (x ∷ xs) = λ i. same x i ∷ map_is_same f same xs i

one_raised : (n : ℕ) (ns : List ℕ) (e : ℕ × Export) → raised_by ns (at_number raised n e) ≡ raised_by (n ∷ ns) e
one_raised n ns e = by (n == e.0)
  where
    by : (b : Bool) → raised_by ns (e.0, cond b (raised e.1) e.1)
        ≡ (e.0, record e.1 { mentions = e.1.mentions + (cond b 1 0 + times e.0 ns) })
    by true = λ i. (e.0, record e.1 { mentions = sum i })
      where
        sum : e.1.mentions + 1 + times e.0 ns ≡ e.1.mentions + (1 + times e.0 ns)
        sum = omega arith
    by false = λ i. (e.0, record e.1 { mentions = sum i })
      where
        sum : e.1.mentions + times e.0 ns ≡ e.1.mentions + (0 + times e.0 ns)
        sum = omega arith

pub all_raised : (ns : List ℕ) (kept : List (ℕ × Export)) → at_numbers raised ns kept ≡ map (raised_by ns) kept
all_raised [] kept = sym (map_is_same (raised_by []) (λ e. λ i. (e.0, record e.1 { mentions = zero_more e.1.mentions i }))
    kept)
  where
    zero_more : (m : ℕ) → m + 0 ≡ m
    zero_more m = omega arith
all_raised (n ∷ ns) kept = all_raised ns (map (at_number raised n) kept)
    ∙ map_map_is (at_number raised n) (raised_by ns) (raised_by (n ∷ ns)) (one_raised n ns) kept

one_lowered : (n : ℕ) (ns : List ℕ) (e : ℕ × Export) → lowered_by ns (at_number lowered n e) ≡ lowered_by (n ∷ ns) e
one_lowered n ns e = by (n == e.0)
  where
    by : (b : Bool) → lowered_by ns (e.0, cond b (lowered e.1) e.1)
        ≡ (e.0, record e.1 { mentions = e.1.mentions - (cond b 1 0 + times e.0 ns) })
    by true = λ i. (e.0, record e.1 { mentions = less i })
      where
        less : e.1.mentions - 1 - times e.0 ns ≡ e.1.mentions - (1 + times e.0 ns)
        less = omega arith
    by false = λ i. (e.0, record e.1 { mentions = less i })
      where
        less : e.1.mentions - times e.0 ns ≡ e.1.mentions - (0 + times e.0 ns)
        less = omega arith

pub all_lowered : (ns : List ℕ) (kept : List (ℕ × Export)) → at_numbers lowered ns kept ≡ map (lowered_by ns) kept
all_lowered [] kept =
    sym (map_is_same (lowered_by []) (λ e. λ i. (e.0, record e.1 { mentions = zero_less e.1.mentions i })) kept)
  where
    zero_less : (m : ℕ) → m - 0 ≡ m
    zero_less m = omega arith
all_lowered (n ∷ ns) kept = all_lowered ns (map (at_number lowered n) kept)
    ∙ map_map_is (at_number lowered n) (lowered_by ns) (lowered_by (n ∷ ns)) (one_lowered n ns) kept

one_pinned : (n : ℕ) (ns : List ℕ) (e : ℕ × Export) → pinned_by ns (at_number with_pin n e) ≡ pinned_by (n ∷ ns) e
one_pinned n ns e = by (n == e.0) e.1.pinned refl
  where
    by : (b p : Bool) → e.1.pinned ≡ p → pinned_by ns (e.0, cond b (with_pin e.1) e.1)
        ≡ (e.0, record e.1 { pinned = e.1.pinned || (b || has_number e.0 ns) })
    by true true is = rw is refl
    by true false is = rw is refl
    by false p is = refl

pub all_pinned : (ns : List ℕ) (kept : List (ℕ × Export)) → at_numbers with_pin ns kept ≡ map (pinned_by ns) kept
all_pinned [] kept = sym (map_is_same (pinned_by []) (λ e. λ i. (e.0, record e.1 { pinned = or_no e.1.pinned i })) kept)
  where
    or_no : (b : Bool) → (b || false) ≡ b
    or_no true = refl
    or_no false = refl
all_pinned (n ∷ ns) kept = all_pinned ns (map (at_number with_pin n) kept)
    ∙ map_map_is (at_number with_pin n) (pinned_by ns) (pinned_by (n ∷ ns)) (one_pinned n ns) kept

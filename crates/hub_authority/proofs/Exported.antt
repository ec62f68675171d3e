-- Exports in force by their numbers, as batches are told and what nothing mentions is released.
use Rattle.std.proofs.Common.{◌≡◌, ℕ, ◌+◌, ◌<◌, ◌==◌, ◌||◌, List, [], ◌∷◌, ◌++◌, Bool, true, false, cond, filter}
use Rattle.std.proofs.Common.{Some, Less, refl, ap, sym, ◌∙◌, subst, arith, is_some}
use Rattle.std.specs.Prelude.{if◌then◌else◌}
use Rattle.std.specs.BTreeMap.{is_at}
use Rattle.std.specs.List.{AllByRecursion}
use Rattle.std.specs.List.Sorted.{IsStrictlySortedBy}
use Rattle.std.specs.Map.{keys_of}
use Rattle.std.specs.Ordering.{nat_cmp}
use Rattle.std.proofs.lemmas.Bool.Decides.{nat_tests}
use Rattle.std.proofs.lemmas.Map.Keys.{sorted_head, sorted_tail}
use Rattle.pv_value.specs.Plain.{Plain, embedded}
use Rattle.pv_words.specs.Lemmas.Same.{same_is}
use Rattle.pv_words.specs.Parts.{same}
use Rattle.ac_table.specs.Lemmas.Lists.{all_weaker}
use Rattle.ac_table.specs.declared.batches.Batch.{Batch}
use Rattle.ac_table.specs.declared.batches.Event.{Event as Told}
use Rattle.ac_table.specs.declared.batches.Event.TheVariants as told
use Rattle.ac_world.specs.Worlds.{entry_of}
use Rattle.ac_world.specs.Lemmas.Entries.{KeysAscend, AreAbove, ascend_none, ascend_cons, ascend_push, all_append}
use Rattle.rl_ports.specs.Ports.{PortsState, ExportTable, ports_to, place_of, with_export, exported, with_exports}
use Rattle.rl_ports.specs.Ports.{has_number, is_mentioned, pinned_with, stays, swept}
use Rattle.rl_wire.specs.Crossing.{foreign_in, all_exported}
use Rattle.hub_machine.specs.Machine.{exporting_in, numbers_told, naming, all_named, names_after}
use Rattle.hub_valid.specs.Lemmas.Filtered.{all_kept}
use Rattle.hub_laws.proofs.Among.{or_left, or_right, all_among, same_number}
use Rattle.hub_authority.specs.Named.{told_names}

-- ---- entries by their numbers

-- what holds of each number holds of that of a reference
pub place_all : (P : ℕ → Type 0) (r : Plain) (es : List (ℕ × Plain)) (n : ℕ) → AllByRecursion P (keys_of es)
    → place_of r es ≡ Some n → P n
place_all P r [] n all is = absurd cc
place_all P r (e ∷ es) n all is = by (same r e.1) (place_all P r es n all.1) is
  where
    by : (b : Bool) → (place_of r es ≡ Some n → P n) → (if b then Some e.0 else place_of r es) ≡ Some n → P n
    by true rest one = let number : e.0 ≡ n = cc in subst P number all.0
    by false rest later = rest later

-- the number of a reference is its own
pub place_found : (r : Plain) (es : List (ℕ × Plain)) (n : ℕ) → KeysAscend es → place_of r es ≡ Some n
    → entry_of n es ≡ Some r
place_found r [] n ascend is = absurd cc
place_found r (e ∷ es) n ascend is =
    by (same r e.1) refl (place_found r es n (sorted_tail nat_cmp _ _ ascend)) is
  where
    above : AreAbove e.0 (keys_of es)
    above = sorted_head nat_cmp _ _ ascend

    by : (b : Bool) → same r e.1 ≡ b → (place_of r es ≡ Some n → entry_of n es ≡ Some r)
        → (if b then Some e.0 else place_of r es) ≡ Some n → entry_of n (e ∷ es) ≡ Some r
    by true here rest one =
        let number : e.0 ≡ n = cc in
        let own : is_at (nat_cmp e.0) e.0 ≡ true = grind (arith, nat_tests) in
        subst (λ m. entry_of m (e ∷ es) ≡ Some r) number
        (ap (λ b. cond b (Some e.1) (entry_of e.0 es)) own ∙ ap Some (sym (same_is r e.1 here)))
    by false other rest later =
        let higher : nat_cmp e.0 n ≡ Less = place_all (λ m. nat_cmp e.0 m ≡ Less) r es n above later in
        let not_here : is_at (nat_cmp n) e.0 ≡ false = grind (arith, nat_tests, higher) in
        ap (λ b. cond b (Some e.1) (entry_of n es)) not_here ∙ rest later

-- each entry is found under its number
found_higher : (e : ℕ × Plain) (es ds : List (ℕ × Plain)) → AreAbove e.0 (keys_of ds)
    → AllByRecursion (λ d. entry_of d.0 es ≡ Some d.1) ds → AllByRecursion (λ d. entry_of d.0 (e ∷ es) ≡ Some d.1) ds
found_higher e es [] above all = tt
found_higher e es (d ∷ ds) above all =
    let higher : nat_cmp e.0 d.0 ≡ Less = above.0 in
    let not_here : is_at (nat_cmp d.0) e.0 ≡ false = grind (arith, nat_tests, higher) in
    (ap (λ b. cond b (Some e.1) (entry_of d.0 es)) not_here ∙ all.0, found_higher e es ds above.1 all.1)

pub each_is_found : (es : List (ℕ × Plain)) → KeysAscend es → AllByRecursion (λ e. entry_of e.0 es ≡ Some e.1) es
each_is_found [] ascend = tt
each_is_found (e ∷ es) ascend =
    let own : is_at (nat_cmp e.0) e.0 ≡ true = grind (arith, nat_tests) in (
      ap (λ b. cond b (Some e.1) (entry_of e.0 es)) own,
      found_higher e es es (sorted_head nat_cmp _ _ ascend) (each_is_found es (sorted_tail nat_cmp _ _ ascend)),
    )

found_in_front : (n : ℕ) (r : Plain) (es ds : List (ℕ × Plain)) → entry_of n es ≡ Some r
    → entry_of n (es ++ ds) ≡ Some r
found_in_front n r [] ds is = absurd cc
found_in_front n r (e ∷ es) ds is = by (is_at (nat_cmp n) e.0) (found_in_front n r es ds) is
  where
    by : (b : Bool) → (entry_of n es ≡ Some r → entry_of n (es ++ ds) ≡ Some r)
        → cond b (Some e.1) (entry_of n es) ≡ Some r → cond b (Some e.1) (entry_of n (es ++ ds)) ≡ Some r
    by true rest here = here
    by false rest later = rest later

there_in_front : (n : ℕ) (es ds : List (ℕ × Plain)) → is_some (entry_of n es) ≡ true
    → is_some (entry_of n (es ++ ds)) ≡ true
there_in_front n [] ds is = absurd cc
there_in_front n (e ∷ es) ds is = by (is_at (nat_cmp n) e.0) (there_in_front n es ds) is
  where
    by : (b : Bool) → (is_some (entry_of n es) ≡ true → is_some (entry_of n (es ++ ds)) ≡ true)
        → is_some (cond b (Some e.1) (entry_of n es)) ≡ true
        → is_some (cond b (Some e.1) (entry_of n (es ++ ds))) ≡ true
    by true rest here = here
    by false rest later = rest later

-- where those stay whose numbers pass, such a one is found as before
found_left : (test : ℕ → Bool) (n : ℕ) (es : List (ℕ × Plain)) → test n ≡ true
    → entry_of n (filter (λ e. test e.0) es) ≡ entry_of n es
found_left test n [] passes = refl
found_left test n (e ∷ es) passes = by (test e.0) refl (found_left test n es passes)
  where
    gone : (b : Bool) → is_at (nat_cmp n) e.0 ≡ b → test e.0 ≡ false → entry_of n es ≡ cond b (Some e.1) (entry_of n es)
    gone true here out =
        let number : e.0 ≡ n = grind (arith, nat_tests, here) in
        absurd (let clash : false ≡ true = sym out ∙ ap test number ∙ passes in cc)
    gone false other out = refl

    by : (b : Bool) → test e.0 ≡ b → entry_of n (filter (λ d. test d.0) es) ≡ entry_of n es
        → entry_of n (cond b (e ∷ filter (λ d. test d.0) es) (filter (λ d. test d.0) es)) ≡ entry_of n (e ∷ es)
    by true stay rest = ap (cond (is_at (nat_cmp n) e.0) (Some e.1)) rest
    by false out rest = rest ∙ gone (is_at (nat_cmp n) e.0) refl out

-- what holds of all numbers holds of those that are left
keys_left : (P : ℕ → Type 0) (test : ℕ × Plain → Bool) (es : List (ℕ × Plain)) → AllByRecursion P (keys_of es)
    → AllByRecursion P (keys_of (filter test es))
keys_left P test [] all = tt
keys_left P test (e ∷ es) all = by (test e) (keys_left P test es all.1)
  where
    by : (b : Bool) → AllByRecursion P (keys_of (filter test es))
        → AllByRecursion P (keys_of (cond b (e ∷ filter test es) (filter test es)))
    by true rest = (all.0, rest)
    by false rest = rest

ascend_left : (test : ℕ × Plain → Bool) (es : List (ℕ × Plain)) → KeysAscend es → KeysAscend (filter test es)
ascend_left test [] ascend = ascend
ascend_left test (e ∷ es) ascend = by (test e) (ascend_left test es (sorted_tail nat_cmp _ _ ascend))
  where
    by : (b : Bool) → KeysAscend (filter test es) → KeysAscend (cond b (e ∷ filter test es) (filter test es))
    by true rest =
        ascend_cons e.0 (keys_of (filter test es))
        (keys_left (λ j. nat_cmp e.0 j ≡ Less) test es (sorted_head nat_cmp _ _ ascend)) rest
    by false rest = rest

each_passes : (test : ℕ × Plain → Bool) (es : List (ℕ × Plain))
    → AllByRecursion (λ e. test e ≡ true) (filter test es)
each_passes test [] = tt
each_passes test (e ∷ es) = by (test e) refl (each_passes test es)
  where
    by : (b : Bool) → test e ≡ b → AllByRecursion (λ d. test d ≡ true) (filter test es)
        → AllByRecursion (λ d. test d ≡ true) (cond b (e ∷ filter test es) (filter test es))
    by true passes rest = (passes, rest)
    by false fails rest = rest

-- the numbers are there
number_is_there : (n : ℕ) (es : List (ℕ × Plain)) → is_some (entry_of n es) ≡ true → has_number n (keys_of es) ≡ true
number_is_there n [] is = absurd cc
number_is_there n (e ∷ es) is = by (is_at (nat_cmp n) e.0) refl (number_is_there n es) is
  where
    by : (b : Bool) → is_at (nat_cmp n) e.0 ≡ b
        → (is_some (entry_of n es) ≡ true → has_number n (keys_of es) ≡ true)
        → is_some (cond b (Some e.1) (entry_of n es)) ≡ true
        → has_number n (e.0 ∷ keys_of es) ≡ true
    by true here rest found =
        let number : (e.0 == n) ≡ true = grind (arith, nat_tests, here) in
        or_left (e.0 == n) (has_number n (keys_of es)) number
    by false other rest later = or_right (e.0 == n) (has_number n (keys_of es)) (rest later)

has_left : (test : ℕ → Bool) (n : ℕ) (ns : List ℕ) → test n ≡ true → has_number n ns ≡ true
    → has_number n (filter test ns) ≡ true
has_left test n [] passes has = absurd cc
has_left test n (m ∷ ns) passes has = by (has_left test n ns passes) (test m) refl (m == n) refl has
  where
    by : (has_number n ns ≡ true → has_number n (filter test ns) ≡ true) → (b : Bool) → test m ≡ b → (c : Bool)
        → (m == n) ≡ c → (c || has_number n ns) ≡ true
        → has_number n (cond b (m ∷ filter test ns) (filter test ns)) ≡ true
    by rest true stay true one is = or_left (m == n) (has_number n (filter test ns)) one
    by rest true stay false other is = or_right (m == n) (has_number n (filter test ns)) (rest is)
    by rest false out true one is =
        let number : m ≡ n = grind (arith, nat_tests, one) in
        absurd (let clash : false ≡ true = sym out ∙ ap test number ∙ passes in cc)
    by rest false out false other is = rest is

keys_there : (es : List (ℕ × Plain)) → KeysAscend es
    → AllByRecursion (λ n. is_some (entry_of n es) ≡ true) (keys_of es)
keys_there es ascend = keys es (each_is_found es ascend)
  where
    keys : (ds : List (ℕ × Plain)) → AllByRecursion (λ e. entry_of e.0 es ≡ Some e.1) ds
        → AllByRecursion (λ n. is_some (entry_of n es) ≡ true) (keys_of ds)
    keys [] all = tt
    keys (d ∷ ds) all = (ap is_some all.0, keys ds all.1)

keys_push : (es : List (ℕ × Plain)) (n : ℕ) (r : Plain) → keys_of (es ++ (n, r) ∷ []) ≡ keys_of es ++ n ∷ []
keys_push [] n r = refl
keys_push (e ∷ es) n r = ap (λ (ns : List ℕ). e.0 ∷ ns) (keys_push es n r)

-- ---- what a connection names

-- The exports in force are by ascending numbers that were given, object 0 is the first, and what is pinned is in force.
pub record IsSettledBy (first : Plain) (p : PortsState) : Type 0 where
  pub ascend : KeysAscend p.exports.in_force
  pub given : AllByRecursion (λ n. n < p.exports.next) (keys_of p.exports.in_force)
  pub first_there : entry_of 0 p.exports.in_force ≡ Some first
  pub first_pinned : has_number 0 p.pinned ≡ true
  pub pinned_there : AllByRecursion (λ n. is_some (entry_of n p.exports.in_force) ≡ true) p.pinned

begins_settled : (first : Plain) → IsSettledBy first (ports_to first)
begins_settled first = record {
  ascend = ascend_cons 0 [] tt ascend_none;
  given = (omega arith, tt);
  first_there = refl;
  first_pinned = refl;
  pinned_there = (refl, tt);
}

one_exported : (first : Plain) (r : Plain) (p : PortsState) → IsSettledBy first p
    → IsSettledBy first (with_exports (exported r p.exports) p)
one_exported first r p settled = by (is_some (place_of r p.exports.in_force))
  where
    x : ExportTable
    x = p.exports

    keys : keys_of (x.in_force ++ (x.next, r) ∷ []) ≡ keys_of x.in_force ++ x.next ∷ []
    keys = keys_push x.in_force x.next r

    by : (b : Bool) → IsSettledBy first (with_exports (cond b x (with_export r x)) p)
    by true = record {
      ascend = settled.ascend;
      given = settled.given;
      first_there = settled.first_there;
      first_pinned = settled.first_pinned;
      pinned_there = settled.pinned_there;
    }
    by false = record {
      ascend = subst (IsStrictlySortedBy nat_cmp) (sym keys)
          (ascend_push (keys_of x.in_force) x.next settled.given settled.ascend);
      given = subst (AllByRecursion (λ n. n < x.next + 1)) (sym keys)
          (all_append (λ n. n < x.next + 1) (keys_of x.in_force) (x.next ∷ [])
          (all_weaker (λ n. n < x.next) (λ n. n < x.next + 1) (λ n l. omega (arith, l)) (keys_of x.in_force)
          settled.given) (omega arith, tt));
      first_there = found_in_front 0 first x.in_force ((x.next, r) ∷ []) settled.first_there;
      first_pinned = settled.first_pinned;
      pinned_there = all_weaker (λ n. is_some (entry_of n x.in_force) ≡ true) _
          (λ n is. there_in_front n x.in_force ((x.next, r) ∷ []) is) p.pinned settled.pinned_there;
    }

all_exported_settled : (first : Plain) (rs : List Plain) (p : PortsState) → IsSettledBy first p
    → IsSettledBy first (with_exports (all_exported p.exports rs) p)
all_exported_settled first [] p settled = record {
  ascend = settled.ascend;
  given = settled.given;
  first_there = settled.first_there;
  first_pinned = settled.first_pinned;
  pinned_there = settled.pinned_there;
}
all_exported_settled first (r ∷ rs) p settled =
    let one = one_exported first r p settled in
    all_exported_settled first rs (with_exports (exported r p.exports) p) one

pinning_settled : (first : Plain) (oids : List ℕ) (p : PortsState) → IsSettledBy first p
    → IsSettledBy first (pinned_with oids p)
pinning_settled first oids p settled =
    let numbers : List ℕ = keys_of p.exports.in_force in
    let test : ℕ → Bool = λ n. has_number n p.pinned || has_number n oids in
    record {
      ascend = settled.ascend;
      given = settled.given;
      first_there = settled.first_there;
      first_pinned = has_left test 0 numbers (or_left (has_number 0 p.pinned) (has_number 0 oids) settled.first_pinned)
          (number_is_there 0 p.exports.in_force (ap is_some settled.first_there));
      pinned_there = all_kept (λ n. is_some (entry_of n p.exports.in_force) ≡ true) test numbers
          (keys_there p.exports.in_force settled.ascend);
    }

naming_settled : (first : Plain) (k : ℕ) (e : Told) (p : PortsState) → IsSettledBy first p
    → IsSettledBy first (naming k e p)
naming_settled first k (told.Assert h entity v) p settled =
    let now = all_exported_settled first (foreign_in k v) p settled in
    record {
      ascend = now.ascend;
      given = now.given;
      first_there = now.first_there;
      first_pinned = now.first_pinned;
      pinned_there = now.pinned_there;
    }
naming_settled first k (told.Retract h entity) p settled = record {
  ascend = settled.ascend;
  given = settled.given;
  first_there = settled.first_there;
  first_pinned = settled.first_pinned;
  pinned_there = settled.pinned_there;
}
naming_settled first k (told.Message entity v) p settled =
    pinning_settled first (numbers_told k v p) (exporting_in k v p)
    (all_exported_settled first (foreign_in k v) p settled)
naming_settled first k (told.Sync entity peer) p settled =
    pinning_settled first (numbers_told k (embedded peer) p) (exporting_in k (embedded peer) p)
    (all_exported_settled first (foreign_in k (embedded peer)) p settled)

all_named_settled : (first : Plain) (k : ℕ) (es : List Told) (p : PortsState) → IsSettledBy first p
    → IsSettledBy first (all_named k es p)
all_named_settled first k [] p settled = settled
all_named_settled first k (e ∷ es) p settled =
    all_named_settled first k es (naming k e p) (naming_settled first k e p settled)

swept_settled : (first : Plain) (p : PortsState) → IsSettledBy first p → IsSettledBy first (swept p)
swept_settled first p settled = record {
  ascend = ascend_left (λ e. stays p e.0) es settled.ascend;
  given = keys_left (λ n. n < p.exports.next) (λ e. stays p e.0) es settled.given;
  first_there = found_left (stays p) 0 es (or_left (has_number 0 p.pinned) (is_mentioned 0 p.notes) settled.first_pinned)
      ∙ settled.first_there;
  first_pinned = settled.first_pinned;
  pinned_there = all_among (λ n. is_some (entry_of n es) ≡ true)
      (λ n. is_some (entry_of n (filter (λ e. stays p e.0) es)) ≡ true) p.pinned
      (λ n among is. ap is_some (found_left (stays p) n es
      (or_left (has_number n p.pinned) (is_mentioned n p.notes) (among (λ m. m == n) (same_number n)))) ∙ is)
      settled.pinned_there;
}
  where
    es : List (ℕ × Plain)
    es = p.exports.in_force

-- each that is in force is pinned or mentioned
abbrev pub AreNeeded : PortsState → Type 0
AreNeeded p = AllByRecursion (λ e. stays p e.0 ≡ true) p.exports.in_force

-- once batches are told, and what nothing mentions is released
pub told_settled : (first : Plain) (k : ℕ) (bs : List Batch) (p : PortsState) → IsSettledBy first p → AreNeeded p
    → IsSettledBy first (told_names k bs p) × AreNeeded (told_names k bs p)
told_settled first k [] p settled needed = (settled, needed)
told_settled first k (b ∷ bs) p settled needed =
    let q : PortsState = all_named k b.events p in
    told_settled first k bs (names_after k b p)
    (swept_settled first q (all_named_settled first k b.events p settled))
    (each_passes (λ e. stays q e.0) q.exports.in_force)

pub names_settled : (first : Plain) (k : ℕ) (bs : List Batch)
    → IsSettledBy first (told_names k bs (ports_to first)) × AreNeeded (told_names k bs (ports_to first))
names_settled first k bs = told_settled first k bs (ports_to first) (begins_settled first) (refl, tt)

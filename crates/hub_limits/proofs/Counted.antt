-- The live connections are those whose names are kept.
use Rattle.std.proofs.Common.{◌≡◌, ℕ, zero, suc, ◌-◌, ◌<◌, ◌≤◌, ◌==◌, ◌&&◌, List, [], ◌∷◌, Bool, true}
use Rattle.std.proofs.Common.{false, cond, Option, Some, None, refl, ap, sym, ◌∙◌, subst, arith, length, map, filter}
use Rattle.std.proofs.Common.{nat_lt, nat_le, is_some, Less}
use Rattle.std.proofs.lemmas.List.{length-map}
use Rattle.std.specs.BTreeMap.{is_at}
use Rattle.std.specs.List.{AllByRecursion}
use Rattle.std.specs.List.Sorted.{IsStrictlySortedBy}
use Rattle.std.specs.Map.{keys_of}
use Rattle.std.specs.Ordering.{nat_cmp}
use Rattle.std.proofs.lemmas.Bool.Decides.{nat_tests}
use Rattle.std.proofs.lemmas.Map.Keys.{sorted_head, sorted_tail}
use Rattle.ac_table.specs.Tables.{Actor, find_actor, is_live}
use Rattle.ac_world.specs.Worlds.{actor_of, entry_of}
use Rattle.ac_world.specs.Lemmas.Entries.{KeysAscend, ascend_none, ascend_cons}
use Rattle.hub_machine.specs.State.{State}
use Rattle.hub_machine.specs.Machine.{arrive_unless, unchanged, done, step}
use Rattle.hub_machine.specs.Replays.{replay}
use Rattle.hub_machine.specs.declared.steps.Step.TheVariants.{Arrive}
use Rattle.hub_machine.specs.declared.steps.Reply.TheVariants as reply
use Rattle.hub_laws.proofs.Kept.{IsHub}
use Rattle.hub_laws.proofs.Lists.{same_entries}
use Rattle.hub_laws.proofs.Opening.{replay_hub}
use Rattle.hub_limits.specs.Counting.{live_connections, HasNames, MayCome, AreCounted}
use Rattle.hub_limits.specs.Laws.{WhoIsCounted}
use Rattle.hub_limits.proofs.Few.{Names, replay_few}
use Rattle.hub_limits.proofs.Barred.{refused_by, is_unworn}

-- ---- numbers as entries

abbrev Marks : Type 0
Marks = List (ℕ × Bool)

-- an entry for each number
abbrev marks : List ℕ → Marks
marks ns = map (λ n. (n, true)) ns

marked_keys : (ns : List ℕ) → keys_of (marks ns) ≡ ns
marked_keys [] = refl
marked_keys (n ∷ ns) = ap (λ l. n ∷ l) (marked_keys ns)

abbrev mark_if : Bool → Option Bool
mark_if b = cond b (Some true) None

-- lists of numbers that ascend are the same, where the same are marked
same_numbers : (ms ns : List ℕ) → IsStrictlySortedBy nat_cmp ms → IsStrictlySortedBy nat_cmp ns
    → ((h : ℕ) → entry_of h (marks ms) ≡ entry_of h (marks ns)) → ms ≡ ns
same_numbers ms ns s t same =
    let entries : marks ms ≡ marks ns =
    same_entries (marks ms) (marks ns) (subst (IsStrictlySortedBy nat_cmp) (sym (marked_keys ms)) s)
    (subst (IsStrictlySortedBy nat_cmp) (sym (marked_keys ns)) t) same in
    sym (marked_keys ms) ∙ ap (λ (es : Marks). keys_of es) entries ∙ marked_keys ns

-- ---- live connections

abbrev numbers : List Actor → List ℕ
numbers xs = map (λ x. x.number) xs

abbrev connections_in : List Actor → List Actor
connections_in xs = filter (λ x. nat_le 17 x.number) xs

all_connections : (P : ℕ → Type 0) (xs : List Actor) → AllByRecursion P (numbers xs)
    → AllByRecursion P (numbers (connections_in xs))
all_connections P [] all = tt
all_connections P (x ∷ xs) all = split (nat_le 17 x.number) refl (all_connections P xs all.1)
  where
    split : (b : Bool) → nat_le 17 x.number ≡ b → AllByRecursion P (numbers (connections_in xs))
        → AllByRecursion P (numbers (connections_in (x ∷ xs)))
    split true is rest = rw is (all.0, rest)
    split false is rest = rw is rest

connections_ascend : (xs : List Actor) → IsStrictlySortedBy nat_cmp (numbers xs)
    → IsStrictlySortedBy nat_cmp (numbers (connections_in xs))
connections_ascend [] s = ascend_none
connections_ascend (x ∷ xs) s =
    split (nat_le 17 x.number) refl (connections_ascend xs (sorted_tail nat_cmp _ _ s))
  where
    split : (b : Bool) → nat_le 17 x.number ≡ b → IsStrictlySortedBy nat_cmp (numbers (connections_in xs))
        → IsStrictlySortedBy nat_cmp (numbers (connections_in (x ∷ xs)))
    split true is rest =
        rw is (ascend_cons x.number _ (all_connections _ xs (sorted_head nat_cmp _ _ s)) rest)
    split false is rest = rw is rest

-- a number is marked where it is a live connection's
marked_live : (h : ℕ) (xs : List Actor)
    → entry_of h (marks (numbers (connections_in xs))) ≡ mark_if (nat_le 17 h && is_some (find_actor h xs))
marked_live h [] = by (nat_le 17 h)
  where
    by : (b : Bool) → None ≡ mark_if (b && false)
    by true = refl
    by false = refl
marked_live h (x ∷ xs) = split (nat_le 17 x.number) (x.number == h) refl refl (marked_live h xs)
  where
    split : (b c : Bool) → nat_le 17 x.number ≡ b → (x.number == h) ≡ c
        → entry_of h (marks (numbers (connections_in xs))) ≡ mark_if (nat_le 17 h && is_some (find_actor h xs))
        → entry_of h (marks (numbers (connections_in (x ∷ xs))))
        ≡ mark_if (nat_le 17 h && is_some (find_actor h (x ∷ xs)))
    split true true high same rest =
        let here : is_at (nat_cmp h) x.number ≡ true = grind (arith, nat_tests, same) in
        let far : nat_le 17 h ≡ true = grind (arith, nat_tests, high, same) in
        rw (high, same, here, far) refl
    split true false high other rest =
        let past : is_at (nat_cmp h) x.number ≡ false = grind (arith, nat_tests, other) in
        rw (high, other, past) rest
    split false true low same rest =
        let near : nat_le 17 h ≡ false = grind (arith, nat_tests, low, same) in
        rw (low, near) (rest ∙ ap (λ b. mark_if (b && is_some (find_actor h xs))) near)
    split false false low other rest = rw (low, other) rest

-- ---- names that are kept

abbrev actors_named : Names → List ℕ
actors_named es = map actor_of (keys_of es)

named_above : (k : ℕ) (es : Names) → AllByRecursion (λ j. nat_cmp k j ≡ Less) (keys_of es)
    → AllByRecursion (λ j. nat_cmp (actor_of k) j ≡ Less) (actors_named es)
named_above k [] all = tt
named_above k (e ∷ es) all = (above k e.0 all.0, named_above k es all.1)
  where
    above : (i j : ℕ) → nat_cmp i j ≡ Less → nat_cmp (actor_of i) (actor_of j) ≡ Less
    above i j is = grind (arith, nat_tests, is)

named_ascend : (es : Names) → KeysAscend es → IsStrictlySortedBy nat_cmp (actors_named es)
named_ascend [] s = ascend_none
named_ascend (e ∷ es) s =
    ascend_cons (actor_of e.0) _ (named_above e.0 es (sorted_head nat_cmp _ _ s))
    (named_ascend es (sorted_tail nat_cmp _ _ s))

-- an actor is marked where names of its connection are kept
marked_names : (k : ℕ) (es : Names)
    → entry_of (actor_of k) (marks (actors_named es)) ≡ mark_if (is_some (entry_of k es))
marked_names k [] = refl
marked_names k (e ∷ es) = split (is_at (nat_cmp k) e.0) refl (marked_names k es)
  where
    split : (b : Bool) → is_at (nat_cmp k) e.0 ≡ b
        → entry_of (actor_of k) (marks (actors_named es)) ≡ mark_if (is_some (entry_of k es))
        → entry_of (actor_of k) (marks (actors_named (e ∷ es))) ≡ mark_if (is_some (entry_of k (e ∷ es)))
    split true is rest =
        let here : is_at (nat_cmp (actor_of k)) (actor_of e.0) ≡ true = grind (arith, nat_tests, is) in
        rw (is, here) refl
    split false is rest =
        let past : is_at (nat_cmp (actor_of k)) (actor_of e.0) ≡ false = grind (arith, nat_tests, is) in
        rw (is, past) rest

-- no system actor is
marked_none : (h : ℕ) (es : Names) → h < 16 → entry_of h (marks (actors_named es)) ≡ None
marked_none h [] low = refl
marked_none h (e ∷ es) low =
    let past : is_at (nat_cmp h) (actor_of e.0) ≡ false = elsewhere h e.0 low in
    rw past (marked_none h es low)
  where
    elsewhere : (i k : ℕ) → i < 16 → is_at (nat_cmp i) (actor_of k) ≡ false
    elsewhere i k l = grind (arith, nat_tests, l)

-- ---- both sides

module _ (s : State) (h : IsHub [] s) where
  has_names : (k : ℕ) → 1 ≤ k → is_live (actor_of k) s.world.table ≡ true → HasNames k s
  has_names k come live = h.named k come live

  is_live_named : (k : ℕ) → HasNames k s → is_live (actor_of k) s.world.table ≡ true
  is_live_named k names = by (is_live (actor_of k) s.world.table) refl
    where
      by : (b : Bool) → is_live (actor_of k) s.world.table ≡ b → b ≡ true
      by true live = refl
      by false dead = absurd (let clash : None ≡ Some names.0 = sym (h.nameless k dead) ∙ names.1 in cc)

  -- is some exactly where it's live
  as_live : (k : ℕ) → 1 ≤ k
      → is_some (find_actor (actor_of k) s.world.table.actors) ≡ is_some (entry_of k s.connections)
  as_live k come = by (is_live (actor_of k) s.world.table) refl
    where
      by : (b : Bool) → is_live (actor_of k) s.world.table ≡ b
          → is_live (actor_of k) s.world.table ≡ is_some (entry_of k s.connections)
      by true live = live ∙ sym (ap is_some (has_names k come live).1)
      by false dead = dead ∙ sym (ap is_some (h.nameless k dead))

  same_marks : (i : ℕ) → entry_of i (marks (numbers (live_connections s.world.table)))
      ≡ entry_of i (marks (actors_named s.connections))
  same_marks i = by (nat_lt i 16) refl
    where
      low : (j : ℕ) → j < 17 → nat_le 17 j ≡ false
      low j l = grind (arith, nat_tests, l)

      -- the actor 16 + k
      at : (k : ℕ) → entry_of (actor_of k) (marks (numbers (live_connections s.world.table)))
          ≡ entry_of (actor_of k) (marks (actors_named s.connections))
      at zero =
          marked_live 16 s.world.table.actors
          ∙ sym (marked_names 0 s.connections ∙ ap (λ o. mark_if (is_some o)) h.first)
      at (suc k) =
          let high : nat_le 17 (actor_of (suc k)) ≡ true = grind (arith, nat_tests) in
          marked_live (actor_of (suc k)) s.world.table.actors
          ∙ ap (λ b. mark_if (b && is_live (actor_of (suc k)) s.world.table)) high
          ∙ ap mark_if (as_live (suc k) (omega arith))
          ∙ sym (marked_names (suc k) s.connections)

      by : (b : Bool) → nat_lt i 16 ≡ b → entry_of i (marks (numbers (live_connections s.world.table)))
          ≡ entry_of i (marks (actors_named s.connections))
      by true is =
          let l : i < 16 = grind (arith, nat_tests, is) in
          marked_live i s.world.table.actors
          ∙ ap (λ b. mark_if (b && is_live i s.world.table)) (low i (omega (arith, l)))
          ∙ sym (marked_none i s.connections l)
      by false is =
          let l : 16 ≤ i = grind (arith, nat_tests, is) in
          let same : actor_of (i - 16) ≡ i = omega (arith, l) in
          subst (λ j. entry_of j (marks (numbers (live_connections s.world.table)))
          ≡ entry_of j (marks (actors_named s.connections))) same (at (i - 16))

  -- the numbers of the live connections are those of the names, one by one
  alike : numbers (live_connections s.world.table) ≡ actors_named s.connections
  alike =
      same_numbers (numbers (live_connections s.world.table)) (actors_named s.connections)
      (connections_ascend s.world.table.actors h.sound.table.actors_ascend) (named_ascend s.connections h.names_ascend)
      same_marks

  -- as many
  as_many : length (live_connections s.world.table) ≡ length s.connections
  as_many =
      sym (length-map (live_connections s.world.table) (λ x. x.number)) ∙ ap (λ (ns : List ℕ). length ns) alike
      ∙ length-map (keys_of s.connections) actor_of ∙ length-map s.connections (λ e. e.0)

  -- ---- one more

  module _ (few : length s.connections ≤ 32) (space : ℕ) (may : MayCome space s) where
    -- nothing but their number can be against it
    not_barred : nat_lt 8 space ≡ false
    not_barred = let near : space ≤ 8 = may.known in grind (arith, nat_tests, near)

    -- so its reply goes by their number
    reply_is : (step s (Arrive space)).reply
        ≡ (arrive_unless (refused_by false false (nat_le 32 (length s.connections))) space s).reply
    reply_is =
        ap (λ b. (cond b (unchanged s reply.Worn) (done s (Arrive space))).reply)
        (is_unworn s (Arrive space) (may.handles, may.numbers))
        ∙ ap (λ b. (arrive_unless (refused_by b s.stopped (nat_le 32 (length s.connections))) space s).reply) not_barred
        ∙ ap (λ b. (arrive_unless (refused_by false b (nat_le 32 (length s.connections))) space s).reply) may.goes_on

    is_full : (step s (Arrive space)).reply ≡ reply.Full → length (live_connections s.world.table) ≡ 32
    is_full full = by (nat_le 32 (length s.connections)) refl (sym reply_is ∙ full)
      where
        by : (b : Bool) → nat_le 32 (length s.connections) ≡ b
            → (arrive_unless (refused_by false false b) space s).reply ≡ reply.Full
            → length (live_connections s.world.table) ≡ 32
        by true many is =
            let l : 32 ≤ length s.connections = grind (arith, nat_tests, many) in
            let same = as_many in
            omega (arith, few, l, same)
        by false room is = absurd cc

    full_is : length (live_connections s.world.table) ≡ 32 → (step s (Arrive space)).reply ≡ reply.Full
    full_is many =
        let there : length s.connections ≡ 32 = sym as_many ∙ many in
        let is : nat_le 32 (length s.connections) ≡ true = grind (arith, nat_tests, there) in
        reply_is ∙ ap (λ b. (arrive_unless (refused_by false false b) space s).reply) is

counted : (s : State) → IsHub [] s → length s.connections ≤ 32 → AreCounted s
counted s h few = record {
  live = λ k come. (has_names s h k come, is_live_named s h k);
  from_one = h.first;
  once = h.names_ascend;
  alike = alike s h;
  few = subst (λ n. n ≤ 32) (sym (as_many s h)) few;
  full = λ space may. (is_full s h few space may, full_is s h few space may);
}

pub who_is_counted : WhoIsCounted
who_is_counted ds steps may =
    counted (replay ds steps) (replay_hub ds steps may) (replay_few ds steps).few

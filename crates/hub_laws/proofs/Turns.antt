-- A turn keeps the world sound, but for what those made who are to end.
use Rattle.std.proofs.Common.{◌≡◌, ◌≢◌, ℕ, ◌<◌, ◌≤◌, List, [], ◌∷◌, ◌++◌, Bool, true, false, Option, Some}
use Rattle.std.proofs.Common.{None}
use Rattle.std.proofs.Common.{refl, sym, ap, ◌∙◌, subst, arith, inl, inr, append_assoc}
use Rattle.std.specs.Prelude.{unwrap_or, slice_get}
use Rattle.std.specs.List.{AllByRecursion}
use Rattle.std.specs.List.Sorted.{IsStrictlySortedBy}
use Rattle.std.specs.Map.{keys_of}
use Rattle.std.specs.Ordering.{nat_cmp}
use Rattle.std.proofs.lemmas.Bool.Decides.{nat_tests}
use Rattle.std.proofs.lemmas.Map.Keys.{sorted_head, sorted_tail}
use Rattle.pv_value.specs.Plain.{Plain}
use Rattle.ds_space.specs.Spaces.{Rows}
use Rattle.ac_table.specs.declared.batches.Row.{Row}
use Rattle.ac_table.specs.declared.batches.Batch.{Batch}
use Rattle.ac_table.specs.declared.batches.Event.{Event}
use Rattle.ac_table.specs.Tables.{TableState, Actor, find_actor, find_row, is_live, first_batch, first_in}
use Rattle.ac_table.specs.Tables.{popped}
use Rattle.ac_table.specs.Lemmas.Lists.{all_weaker}
use Rattle.ac_world.specs.Turns.{After as TurnOf, Turning, begin_turn, all_turned, system_turn}
use Rattle.ac_world.specs.Worlds.{WorldState, Resident, resident_of, held_by, with_entry, is_system}
use Rattle.ac_world.specs.Worlds.{no_resident}
use Rattle.ac_world.specs.declared.turns.Turned.{Turned}
use Rattle.ac_world.specs.declared.turns.Turned.TheVariants as turned
use Rattle.ac_world.specs.Lemmas.Entries.{put_found, put_other, KeysAscend, ascend_none, ascend_cons, ascend_with}
use Rattle.ac_world.specs.Behaviours.{Behaviour, behaviour_of}
use Rattle.ac_world.specs.Watchers.{watcher_of}
use Rattle.hub_laws.specs.Standing.{stands, took_all, events_of, value_alone, at_object}
use Rattle.hub_laws.specs.Wanting.{IsMet}
use Rattle.hub_laws.proofs.Committing.{IsPlanned, IsQuiet, commit_sound, live_done}
use Rattle.hub_laws.proofs.Fresh.{all_turned_of_rows}
use Rattle.hub_laws.proofs.Good.{begin_good}
use Rattle.hub_laws.proofs.Kept.{is_in, IsExcused, IsNear, IsLawful, IsOfRow, IsFresh, IsMetIn, Runs}
use Rattle.hub_laws.proofs.Kept.{IsServedBy, FitsBatch}
use Rattle.hub_laws.proofs.Kept.{IsServed, IsSound, actors_in, made_in, IsLog}
use Rattle.hub_laws.proofs.Leaving.{one_or_not}
use Rattle.hub_laws.proofs.Lists.{took_all_append, near_took}
use Rattle.hub_laws.proofs.Logs.{system_log}
use Rattle.hub_laws.proofs.Moving.{begin_moves, made_in-append}
use Rattle.hub_laws.proofs.Owned.{met_kept}
use Rattle.hub_laws.proofs.Asked.{MetKept}
use Rattle.hub_laws.proofs.Packets.{met_others}
use Rattle.hub_laws.proofs.Posting.{posted_to, posted_table, live-popped, table-popped, found-popped}
use Rattle.hub_laws.proofs.Posting.{found-popped_other}
use Rattle.hub_laws.proofs.Turning.{turn_runs}
use Rattle.hub_laws.proofs.Serving.{served_after, all_before, all_behind}
use Rattle.hub_laws.proofs.Wanted.{lawful}

-- ---- who is near, with more to end, and one step further

more_excuse : (ends : List ℕ) (o : Option Row) → IsExcused [] o → IsExcused ends o
more_excuse ends None e = tt
more_excuse ends (Some r) e = absurd cc

near_any : {X : Type 0} (ends : List ℕ) (rows : List Row) (should kept : List (ℕ × X)) → IsNear [] rows should kept
    → IsNear ends rows should kept
near_any ends rows should kept n = record {
  should_ascends = n.should_ascends;
  kept_ascends = n.kept_ascends;
  near = λ h. elim (n.near h) [
    | inl same ↦ inl same
    | inr lost ↦ inr (lost.0, more_excuse ends (find_row h rows) lost.1)
  ];
}

near_both : {X : Type 0} (ends : List ℕ) (rows : List Row)
    (should full kept : List (ℕ × X)) → IsNear [] rows should full
    → IsNear ends rows full kept → IsNear ends rows should kept
near_both ends rows should full kept m n = record {
  should_ascends = m.should_ascends;
  kept_ascends = n.kept_ascends;
  near = λ h. elim (n.near h) [
    | inl same ↦ elim (m.near h) [
      | inl also ↦ inl (same ∙ also)
      | inr lost ↦ inr (same ∙ lost.0, more_excuse ends (find_row h rows) lost.1)
    ]
    | inr gone ↦ inr gone
  ];
}

near_self : {X : Type 0} (rows : List Row) (got : List (ℕ × X)) → KeysAscend got → IsNear [] rows got got
near_self rows got s = record { should_ascends = s; kept_ascends = s; near = λ h. inl refl }

served_any : {X : Type 0} (f : ℕ → Plain → X) (ends : List ℕ) (rows : List Row) (next a : ℕ)
    (got : List (ℕ × X)) (inbox : List Batch) → IsServedBy f [] rows next a got inbox
    → IsServedBy f ends rows next a got inbox
served_any f ends rows next a got inbox s =
    record { near = λ here. near_any ends rows _ _ (s.near refl); log = s.log; fits = s.fits }

-- the first of numbers that ascend
pub ascend_before : (xs ys : List ℕ) → IsStrictlySortedBy nat_cmp (xs ++ ys) → IsStrictlySortedBy nat_cmp xs
ascend_before [] ys s = ascend_none
ascend_before (x ∷ xs) ys s =
    ascend_cons x xs (all_before _ xs ys (sorted_head nat_cmp _ _ s)) (ascend_before xs ys (sorted_tail nat_cmp _ _ s))

-- the wants of a system actor, as endings and plans of others keep them
pub still_met : MetKept
still_met y o a resident old new k there back = met_kept y o a resident old new there back k

-- ---- the batch

-- the actor whose first batch this is
pub record HasFirst (a : ℕ) (t : TableState) (b : Batch) : Type 0 where
  pub actor : Actor
  pub found : find_actor a t.actors ≡ Some actor
  pub rest : List Batch
  pub inbox : actor.inbox ≡ b ∷ rest

first_of_inbox : (bs : List Batch) (b : Batch) → slice_get bs 0 ≡ Some b → (rest : List Batch) × (bs ≡ b ∷ rest)
first_of_inbox [] b is = absurd cc
first_of_inbox (c ∷ cs) b is = let same : c ≡ b = cc in (cs, ap (λ d. d ∷ cs) same)

pub has_first : (a : ℕ) (t : TableState) (b : Batch) → first_batch a t ≡ Some b → HasFirst a t b
has_first a t b is = by (find_actor a t.actors) refl is
  where
    by : (o : Option Actor) → find_actor a t.actors ≡ o → first_in o ≡ Some b → HasFirst a t b
    by None found is = absurd cc
    by (Some x) found is =
        let r = first_of_inbox x.inbox b is in record { actor = x; found = found; rest = r.0; inbox = r.1 }

abbrev pub without_first : ℕ → WorldState → WorldState
without_first a w = record w { table = popped a w.table }

-- ---- a system actor's turn

abbrev pub behaves : ℕ → WorldState → Behaviour
behaves a w = behaviour_of w.schema w.bindings w.watches a

-- a live system actor behaves as it may
pub live_lawful : (ends : List ℕ) (a : ℕ) (w : WorldState) → IsSound ends w → a < 17 → is_live a w.table ≡ true
    → IsLawful (behaves a w) a
live_lawful ends a w k low live = lawful w.schema w.bindings w.watches a k.watches (k.watchers a low live)

pub is_below : (a : ℕ) → is_system a ≡ true → a < 17
is_below a system = grind (arith, nat_tests, system)

abbrev pub turning_of : ℕ → Batch → WorldState → Turning
turning_of a b w = all_turned (behaves a w) a b.from b.events (begin_turn a (without_first a w))

abbrev pub system_after : ℕ → Batch → WorldState → WorldState
system_after a b w = record (without_first a w) { residents = with_entry a (turning_of a b w).resident w.residents }

pub system_runs : (a : ℕ) (b : Batch) (w : WorldState) → IsSound [] w → is_system a ≡ true
    → is_live a w.table ≡ true → first_batch a w.table ≡ Some b
    → Runs (behaves a w) (watcher_of a w.watches) a (popped a w.table)
    (took_all value_alone b.events (resident_of a w).got) (turning_of a b w)
system_runs a b w k system live is =
    let x = has_first a w.table b is in
    let served = in_system a w x.actor system (k.served a x.actor x.found) in
    let log = subst (λ bs. IsLog w.table.next (keys_of (resident_of a w).got) bs) x.inbox served.log in
    let front : IsStrictlySortedBy nat_cmp (keys_of (resident_of a w).got ++ made_in b.events) =
    ascend_before (keys_of (resident_of a w).got ++ made_in b.events) (made_in (events_of x.rest))
    (subst (IsStrictlySortedBy nat_cmp)
    (ap (λ hs. keys_of (resident_of a w).got ++ hs) (made_in-append b.events (events_of x.rest))
    ∙ sym (append_assoc (keys_of (resident_of a w).got) (made_in b.events) (made_in (events_of x.rest)))) log.0) in
    turn_runs (behaves a w) (watcher_of a w.watches) a (live_lawful [] a w k (is_below a system) live) b.from
    (popped a w.table) (resident_of a w).got (begin_turn a (without_first a w)) b.events
    (table-popped a w.table k.table) (live-popped a a w.table ∙ live) k.rows
    (subst (AllByRecursion (FitsBatch w.table.rows a)) x.inbox served.fits).0
    front
    (record {
      moves = begin_moves a (popped a w.table) (table-popped a w.table k.table);
      good = begin_good a (popped a w.table) k.rows;
      met = k.met a (is_below a system) live;
      near = λ stays. near_self w.table.rows (resident_of a w).got
          (ascend_before (keys_of (resident_of a w).got) (made_in b.events) front);
      ends = tt;
    })
  where
    in_system : (a : ℕ) (w : WorldState) (x : Actor) → is_system a ≡ true → IsServed [] a x.inbox w (is_system a)
        → IsServedBy value_alone [] w.table.rows w.table.next a (resident_of a w).got x.inbox
    in_system a w x is s = subst (IsServed [] a x.inbox w) is s

-- who is served in the world without the batch, as the actor leaves it
system_served_self : (ends : List ℕ) (a : ℕ) (b : Batch) (rest : List Batch) (w : WorldState) (full : Rows)
    (resident : Resident)
    → IsServedBy value_alone [] w.table.rows w.table.next a (resident_of a w).got (b ∷ rest)
    → (is_in ends a ≡ false → IsNear ends w.table.rows (took_all value_alone b.events (resident_of a w).got) resident.got)
    → IsLog w.table.next (keys_of resident.got) rest
    → IsServedBy value_alone ends w.table.rows w.table.next a resident.got rest
system_served_self ends a b rest w full resident s n log = record {
  near = λ here.
      near_both ends w.table.rows (stands value_alone a w.table.rows)
      (took_all value_alone (events_of rest) (took_all value_alone b.events (resident_of a w).got))
      (took_all value_alone (events_of rest) resident.got)
      (subst (IsNear [] w.table.rows (stands value_alone a w.table.rows))
      (took_all_append Plain value_alone b.events (events_of rest) (resident_of a w).got) (s.near refl))
      (near_took Plain value_alone ends w.table.rows (events_of rest) _ _ (n here));
  log = log;
  fits = s.fits.1;
}

-- another actor's part is what it was
resident_other : (a c : ℕ) (resident : Resident) (w : WorldState) → c ≢ a
    → resident_of c (record (without_first a w) { residents = with_entry a resident w.residents }) ≡ resident_of c w
resident_other a c resident w ne = ap (λ o. unwrap_or o no_resident) (put_other a c resident w.residents ne)

resident_self : (a : ℕ) (resident : Resident) (w : WorldState)
    → resident_of a (record (without_first a w) { residents = with_entry a resident w.residents }) ≡ resident
resident_self a resident w = ap (λ o. unwrap_or o no_resident) (put_found a resident w.residents)

system_served_other : (ends : List ℕ) (a c : ℕ) (resident : Resident) (w : WorldState) (inbox : List Batch) → c ≢ a
    → (s : Bool)
    → IsServed [] c inbox w s
    → IsServed ends c inbox (record (without_first a w) { residents = with_entry a resident w.residents }) s
system_served_other ends a c resident w inbox ne true s =
    subst (λ (z : Resident). IsServedBy value_alone ends w.table.rows w.table.next c z.got inbox)
    (sym (resident_other a c resident w ne)) (served_any value_alone ends _ _ c (resident_of c w).got inbox s)
system_served_other ends a c resident w inbox ne false s = served_any at_object ends _ _ c (held_by c w) inbox s

system_served : (ends : List ℕ) (a : ℕ) (b : Batch) (w : WorldState) (resident : Resident) → IsSound [] w
    → is_system a ≡ true → first_batch a w.table ≡ Some b
    → (is_in ends a ≡ false → IsNear ends w.table.rows (took_all value_alone b.events (resident_of a w).got) resident.got)
    → ((rest : List Batch) → IsLog w.table.next (keys_of (resident_of a w).got) (b ∷ rest)
    → IsLog w.table.next (keys_of resident.got) rest)
    → (c : ℕ) (x : Actor) → find_actor c (popped a w.table).actors ≡ Some x
    → IsServed ends c x.inbox (record (without_first a w) { residents = with_entry a resident w.residents })
    (is_system c)
system_served ends a b w resident k system is near log c x found = elim (one_or_not c a) [
  | inr ne ↦ system_served_other ends a c resident w x.inbox ne (is_system c)
      (k.served c x (sym (found-popped_other a c w.table ne) ∙ found))
  | inl same ↦
      (let y = found-popped a w.table b x is (ap (λ i. find_actor i (popped a w.table).actors) (sym same) ∙ found) in
      let s = subst (IsServed [] a y.0.inbox w) system (k.served a y.0 y.1) in
      let t = subst (λ bs. IsServedBy value_alone [] w.table.rows w.table.next a
      (resident_of a w).got bs) y.2 s in
      let u = system_served_self ends a b x.inbox w [] resident t near (log x.inbox t.log) in
      subst (λ i. IsServed ends i x.inbox (record (without_first a w) { residents = with_entry a resident w.residents })
      (is_system i))
      (sym same)
      (subst (IsServed ends a x.inbox (record (without_first a w) { residents = with_entry a resident w.residents }))
      (sym system)
      (subst (λ (z : Resident). IsServedBy value_alone ends w.table.rows w.table.next a z.got x.inbox)
      (sym (resident_self a resident w)) u)))
]

-- before the first connection comes a turn is one of another actor than the gatekeeper, or over no event
system_quiet : (a : ℕ) (b : Batch) (w : WorldState) → IsSound [] w → is_system a ≡ true
    → first_batch a w.table ≡ Some b → w.opened ≡ 0 → IsQuiet (system_after a b w) a (turning_of a b w).plan
system_quiet a b w k system is none =
    let f = k.fresh none in
    let x = has_first a w.table b is in
    let first : AllByRecursion IsOfRow b.events =
    all_before IsOfRow b.events (events_of x.rest)
    (subst (λ bs. AllByRecursion IsOfRow (events_of bs)) x.inbox (f.inboxes.of_rows a x.actor x.found)) in
    record {
      fresh = record {
        got = elim (one_or_not 0 a) [
          | inr ne ↦ ap (λ (r : Resident). r.got) (resident_other a 0 (turning_of a b w).resident w ne) ∙ f.got
          | inl same ↦ at_first x same f
        ];
        inboxes = record {
          none = λ y found. elim (one_or_not 0 a) [
            | inr ne ↦ f.inboxes.none y (sym (found-popped_other a 0 w.table ne) ∙ found)
            | inl same ↦
                (let z = found-popped a w.table b y is (at_popped y same found) in
                none_behind b.events (events_of y.inbox) (ap events_of (sym z.2)
                ∙ f.inboxes.none z.0 (ap (λ i. find_actor i w.table.actors) same ∙ z.1)))
          ];
          of_rows = λ c y found. elim (one_or_not c a) [
            | inr ne ↦ f.inboxes.of_rows c y (sym (found-popped_other a c w.table ne) ∙ found)
            | inl same ↦
                (let z = found-popped a w.table b y is (at_popped y same found) in
                all_behind IsOfRow b.events (events_of y.inbox)
                (subst (λ bs. AllByRecursion IsOfRow (events_of bs)) z.2 (f.inboxes.of_rows a z.0 z.1)))
          ];
        };
      };
      system = is_below a system;
      of_rows = all_turned_of_rows (behaves a w) a b.from b.events (begin_turn a (without_first a w)) first (λ c. tt);
    }
  where
    at_popped : {c : ℕ} (y : Actor) → c ≡ a → find_actor c (popped a w.table).actors ≡ Some y
        → find_actor a (popped a w.table).actors ≡ Some y
    at_popped y same found = ap (λ i. find_actor i (popped a w.table).actors) (sym same) ∙ found

    none_behind : (es ds : List Event) → es ++ ds ≡ [] → ds ≡ []
    none_behind [] ds e = e
    none_behind (x ∷ es) ds e = absurd cc

    none_before : (es ds : List Event) → es ++ ds ≡ [] → es ≡ []
    none_before [] ds e = refl
    none_before (x ∷ es) ds e = absurd cc

    at_first : HasFirst a w.table b → 0 ≡ a → IsFresh w → (resident_of 0 (system_after a b w)).got ≡ []
    at_first x same f =
        let empty : b.events ≡ [] = none_before b.events (events_of x.rest)
        (ap events_of (sym x.inbox) ∙ f.inboxes.none x.actor (ap (λ i. find_actor i w.table.actors) same ∙ x.found)) in
        ap (λ i. (resident_of i (system_after a b w)).got) same
        ∙ ap (λ (r : Resident). r.got) (resident_self a (turning_of a b w).resident w)
        ∙ ap (λ es. (all_turned (behaves a w) a b.from es (begin_turn a (without_first a w))).resident.got) empty
        ∙ ap (λ i. (resident_of i w).got) (sym same) ∙ f.got

system_planned : (a : ℕ) (b : Batch) (w : WorldState) → IsSound [] w → is_system a ≡ true
    → is_live a w.table ≡ true → first_batch a w.table ≡ Some b
    → IsPlanned (actors_in (turning_of a b w).spreads) (system_after a b w) a (turning_of a b w).plan
system_planned a b w k system live is =
    let u : Turning = turning_of a b w in
    let r = system_runs a b w k system live is in
    record {
      table = table-popped a w.table k.table;
      always = λ c l. live-popped a c w.table ∙ k.always c l;
      watchers = λ c l here. k.watchers c l (sym (live-popped a c w.table) ∙ here);
      watches = k.watches;
      numbers = λ c here. k.numbers c (sym (live-popped a c w.table) ∙ here);
      served = system_served (actors_in u.spreads) a b w u.resident k system is r.near
          (λ rest log. system_log (behaves a w) a w.table.next b rest (begin_turn a (without_first a w)) log);
      residents_ascend = ascend_with a u.resident w.residents k.residents_ascend;
      unkept = λ c dead.
          let before : is_live c w.table ≡ false = sym (live-popped a c w.table) ∙ dead in
          let ne : c ≢ a = λ same. absurd (let f : is_live c w.table ≡ true =
          ap (λ i. is_live i w.table) same ∙ live in cc) in
          put_other a c u.resident w.residents ne ∙ k.unkept c before;
      held_ascends = k.held_ascends;
      unheld = λ c dead. k.unheld c (sym (live-popped a c w.table) ∙ dead);
      system_unheld = k.system_unheld;
      moves = r.moves;
      good = r.good;
      met = λ c l here. elim (one_or_not c a) [
        | inl same ↦ subst (IsMetIn (system_after a b w) u.plan.table.rows) (sym same)
            (subst (λ (z : Resident). IsMet (behaves a w) (watcher_of a w.watches) a z u.plan.table.rows)
            (sym (resident_self a u.resident w)) r.met)
        | inr ne ↦ subst (λ (z : Resident). IsMet (behaves c w) (watcher_of c w.watches) c z u.plan.table.rows)
            (sym (resident_other a c u.resident w ne))
            (met_others still_met (behaves c w) (watcher_of c w.watches) a c (resident_of c w)
            (popped a w.table) u.plan ne
            r.moves (k.met c l (sym (live-popped a c w.table) ∙ here)))
      ];
      quiet = system_quiet a b w k system is;
    }

-- ---- what a turn keeps

abbrev pub ends_of : Turned → List ℕ
ends_of (turned.Ran xs) = actors_in xs
ends_of (turned.Taken b) = []
ends_of turned.Idle = []
ends_of turned.Gone = []

pub record IsTurned (w : WorldState) (t : TurnOf) : Type 0 where
  pub sound : IsSound (ends_of t.turned) t.world
  pub far : AllByRecursion (λ c. 9 ≤ c) (ends_of t.turned)
  pub lives : (b : ℕ) → is_live b t.world.table ≡ is_live b w.table

pub system_turned : (a : ℕ) (b : Batch) (w : WorldState) → IsSound [] w → is_system a ≡ true
    → is_live a w.table ≡ true → first_batch a w.table ≡ Some b → IsTurned w (system_turn a b (without_first a w))
system_turned a b w k system live is =
    let p = system_planned a b w k system live is in
    record {
      sound = commit_sound posted_to posted_table served_after (actors_in (turning_of a b w).spreads)
          (system_after a b w) a
          (turning_of a b w).plan p;
      far = all_weaker _ (λ c. 9 ≤ c) (λ c e. e.0) (actors_in (turning_of a b w).spreads)
          (system_runs a b w k system live is).ends;
      lives = λ c. live_done posted_table (system_after a b w) a c
          (turning_of a b w).plan p.moves ∙ live-popped a c w.table;
    }

-- A hub in which a watcher begins is sound.
use Rattle.std.proofs.Common.{◌≡◌, ◌≢◌, ℕ, zero, suc, ◌+◌, ◌<◌, ◌≤◌, ◌==◌, ◌||◌, not, List, [], ◌∷◌, ◌++◌, Bool}
use Rattle.std.proofs.Common.{true, false, cond, nat_lt, nat_le, length, Some, None, refl, sym, ap, ◌∙◌, subst}
use Rattle.std.proofs.Common.{arith, inl, inr}
use Rattle.std.specs.Prelude.{unwrap_or}
use Rattle.std.specs.List.{AllByRecursion}
use Rattle.std.proofs.lemmas.Bool.Decides.{nat_tests}
use Rattle.pv_value.specs.Plain.{Plain}
use Rattle.ps_schema.specs.declared.Definition.{Definition}
use Rattle.ac_table.specs.declared.batches.Row.{Row}
use Rattle.ac_table.specs.declared.batches.Event.TheVariants.{Assert}
use Rattle.ac_table.specs.declared.batches.Batch.{Batch}
use Rattle.ac_table.specs.Tables.{Actor, IsTable, find_actor, find_row, is_live, joined}
use Rattle.ac_table.specs.Lemmas.Lists.{all_weaker}
use Rattle.gk_sturdy.specs.declared.bound.Binding.{Binding}
use Rattle.ac_world.specs.declared.watched.Watched.{Watched}
use Rattle.ac_world.specs.Behaviours.{behaviour_of, other}
use Rattle.ac_world.specs.Limits.{most_watchers}
use Rattle.ac_world.specs.Outboxes.{Plan, plan_over, put}
use Rattle.ac_world.specs.Watchers.{next_watcher, watcher_of, observation_by}
use Rattle.ac_world.specs.Worlds.{WorldState, Resident, resident_of, is_system, is_space, actor_of, watching}
use Rattle.ac_world.specs.Worlds.{no_resident}
use Rattle.ac_world.specs.Lemmas.Entries.{all_append}
use Rattle.hub_machine.specs.State.{State}
use Rattle.hub_machine.specs.Machine.{is_unwatchable}
use Rattle.hub_valid.specs.Validity.{IsValid}
use Rattle.hub_laws.specs.Standing.{events_of, value_alone}
use Rattle.hub_laws.specs.Wanting.{IsMet}
use Rattle.hub_laws.proofs.Arriving.{none_stands, nothing_near}
use Rattle.hub_laws.proofs.Asked.{MetKept}
use Rattle.hub_laws.proofs.Committing.{IsPlanned, IsQuiet, commit_sound, live_done}
use Rattle.hub_laws.proofs.Finding.{find_row-asserted, row_next, found_owner}
use Rattle.hub_laws.proofs.Fresh.{told_of_rows}
use Rattle.hub_laws.proofs.Good.{begin_good, put_good}
use Rattle.hub_laws.proofs.Joining.{joined_is_table, joined_new, joined_other, joined_live, joined_live_other}
use Rattle.hub_laws.proofs.Kept.{Reaches, Moves, AreGood, IsServed, IsOfRow, IsWatch, IsMetIn, IsSound, IsHub}
use Rattle.hub_laws.proofs.Leaving.{one_or_not}
use Rattle.hub_laws.proofs.Moving.{begin_moves, put_moves}
use Rattle.hub_laws.proofs.Owned.{HasNoOthers, no_wants_met}
use Rattle.hub_laws.proofs.Packets.{met_others}
use Rattle.hub_laws.proofs.Posting.{posted_to, posted_table}
use Rattle.hub_laws.proofs.Serving.{served_after}
use Rattle.hub_laws.proofs.Wanted.{lawful}
use Rattle.hub_laws.proofs.Watching.{next_push, watcher_old, watcher_new, task_old}

-- ---- who may begin

-- what is so of one that the machine takes
pub record MayBegin (x : Watched) (w : WorldState) : Type 0 where
  pub first : w.opened ≡ 0
  pub few : next_watcher w.watches < 17
  pub is_watch : IsWatch x

space_is : (d : ℕ) → is_space d ≡ true → (1 ≤ d) × (d < 9)
space_is d is = (grind (arith, nat_tests, is), grind (arith, nat_tests, is))

none_of : (a b c d e f g : Bool) → (a || b || not c || not d || e || f || g) ≡ false
    → (a ≡ false) × (b ≡ false) × (c ≡ true) × (d ≡ true)
none_of true b c d e f g is = absurd cc
none_of false true c d e f g is = absurd cc
none_of false false false d e f g is = absurd cc
none_of false false true false e f g is = absurd cc
none_of false false true true e f g is = (refl, refl, refl, refl)

pub may_begin : (x : Watched) (s : State) → is_unwatchable x s ≡ false → MayBegin x s.world
may_begin x s is =
    let four = none_of (nat_lt 0 s.world.opened) (nat_le most_watchers (length s.world.watches)) (is_space x.from)
    (is_space x.to) _ _ _ is in
    record {
      first = none s.world.opened four.0;
      few = less (length s.world.watches) four.1;
      is_watch = record { from = space_is x.from four.2; to = space_is x.to four.3 };
    }
  where
    none : (n : ℕ) → nat_lt 0 n ≡ false → n ≡ 0
    none n is = grind (arith, nat_tests, is)

    less : (n : ℕ) → nat_le 8 n ≡ false → 9 + n < 17
    less n is = grind (arith, nat_tests, is)

-- nobody has its number yet
pub nobody_yet : (x : Watched) (w : WorldState) → IsSound [] w → MayBegin x w
    → is_live (next_watcher w.watches) w.table ≡ false
nobody_yet x w k may = by (is_live (next_watcher w.watches) w.table) refl
  where
    by : (b : Bool) → is_live (next_watcher w.watches) w.table ≡ b → is_live (next_watcher w.watches) w.table ≡ false
    by false is = is
    by true is = absurd (let l = k.watchers (next_watcher w.watches) may.few is in omega (arith, l))

-- ---- the behaviours of others stay

pub behaviour_old : (ds : List Definition) (bs : List Binding) (ws : List Watched) (x : Watched) (b : ℕ)
    → b < next_watcher ws → behaviour_of ds bs (ws ++ x ∷ []) b ≡ behaviour_of ds bs ws b
behaviour_old ds bs ws x zero l = refl
behaviour_old ds bs ws x (suc b) l = ap (other ds) (task_old (suc b) ws x l)

-- ---- the world, once it has begun

module _ (met_kept : MetKept) (x : Watched) (w : WorldState) (k : IsSound [] w) (may : MayBegin x w)
    (below : AllByRecursion (λ r. r.target < 17 → r.target < next_watcher w.watches) w.table.rows) where
  abbrev new : ℕ
  new = next_watcher w.watches

  abbrev joint : WorldState
  joint = record w { watches = w.watches ++ x ∷ []; table = joined new w.table }

  abbrev said : Plain
  said = observation_by new x.pattern

  abbrev plan : Plan
  plan = put new 0 x.from 0 said (plan_over joint.table)

  is_new : is_live new w.table ≡ false
  is_new = nobody_yet x w k may

  is_there : is_live new joint.table ≡ true
  is_there = joined_live new w.table is_new

  other_live : (b : ℕ) → b ≢ new → is_live b joint.table ≡ is_live b w.table
  other_live b ne = joined_live_other new b w.table ne

  pub dead_before : (b : ℕ) → is_live b joint.table ≡ false → is_live b w.table ≡ false
  dead_before b dead = elim (one_or_not b new) [
    | inl same ↦ absurd (let here : is_live b joint.table ≡ true = ap (λ i. is_live i joint.table) same ∙ is_there in cc)
    | inr ne ↦ sym (other_live b ne) ∙ dead
  ]

  has_nothing : resident_of new w ≡ no_resident
  has_nothing = ap (λ o. unwrap_or o no_resident) (k.unkept new is_new)

  -- nothing stands at it yet
  new_served : (s : Bool) → is_system new ≡ s → IsServed [] new [] joint s
  new_served false is = absurd (let l : new < 17 = may.few in grind (arith, nat_tests, is, l))
  new_served true is =
      nothing_near value_alone w.table.next new w.table.rows (resident_of new w).got
      (ap (λ (r : Resident). r.got) has_nothing)
      (none_stands value_alone new w.table.rows
      (all_weaker _ _ (λ r l. elsewhere r.target new may.few l) w.table.rows below))
    where
      elsewhere : (t n : ℕ) → n < 17 → (t < 17 → t < n) → (t == n) ≡ false
      elsewhere t n l under = grind (arith, nat_tests, l, under)

  old_served : (b : ℕ) (inbox : List Batch) (s : Bool) → IsServed [] b inbox w s → IsServed [] b inbox joint s
  old_served b inbox true s = s
  old_served b inbox false s = s

  joint_served : (b : ℕ) (y : Actor) → find_actor b joint.table.actors ≡ Some y
      → IsServed [] b y.inbox joint (is_system b)
  joint_served b y found = elim (one_or_not b new) [
    | inr ne ↦ old_served b y.inbox (is_system b) (k.served b y (sym (joined_other new b w.table ne) ∙ found))
    | inl same ↦
        (let is : record { number = new; inbox = [] } ≡ y =
        (let at = joined_new new w.table is_new in
        let here = ap (λ i. find_actor i joint.table.actors) (sym same) ∙ found in cc) in
        subst (λ (z : Actor). IsServed [] b z.inbox joint (is_system b)) is
        (subst (λ i. IsServed [] i [] joint (is_system i)) (sym same) (new_served (is_system new) refl)))
  ]

  table : IsTable joint.table
  table = joined_is_table new w.table is_new k.table

  reaches : Reaches new x.from
  reaches = record { far = λ low. absurd (omega (arith, low)); near = λ high low. may.is_watch.from }

  begun : Moves new joint.table (plan_over joint.table)
  begun = begin_moves new joint.table table

  pub moves : Moves new joint.table plan
  moves = put_moves new joint.table (plan_over joint.table) begun is_there 0 x.from 0 said

  good : AreGood new plan
  good =
      put_good new joint.table (plan_over joint.table) begun (begin_good new joint.table k.rows) 0 x.from 0 said reaches

  watches : AllByRecursion IsWatch joint.watches
  watches = all_append IsWatch w.watches (x ∷ []) k.watches (may.is_watch, tt)

  -- its observation is its only row
  first_row : Row
  first_row = row_next new 0 x.from 0 said joint.table

  found_rows : (h : ℕ) → find_row h plan.table.rows
      ≡ cond (w.table.next == h) (Some (row_next new 0 x.from 0 said joint.table)) (find_row h w.table.rows)
  found_rows h = find_row-asserted h new 0 x.from 0 said joint.table table

  only_one : HasNoOthers (Some x) new [] plan.table.rows
  only_one = (
    w.table.next,
    record {
      row = row_next new 0 x.from 0 said joint.table;
      stands = found_rows w.table.next ∙ ap (λ b. cond b (Some (row_next new 0 x.from 0 said joint.table))
          (find_row w.table.next w.table.rows)) (same_self w.table.next);
      owner = refl;
      target = refl;
      entity = refl;
      value = refl;
    },
    λ under. none_under under.0 under.1,
    λ h r found own other. absurd (no_more h r found own other (w.table.next == h) refl),
  )
    where
      same_self : (n : ℕ) → (n == n) ≡ true
      same_self n = grind (arith, nat_tests)

      none_under : (q : Plain) → None ≡ Some w.table.next → ⊥
      none_under q e = cc

      no_more : (h : ℕ) (r : Row) → find_row h plan.table.rows ≡ Some r → r.owner ≡ new → h ≢ w.table.next → (b : Bool)
          → (w.table.next == h) ≡ b → ⊥
      no_more h r found own ne true is = ne (grind (arith, nat_tests, is))
      no_more h r found own ne false is =
          let old : find_row h w.table.rows ≡ Some r =
          sym (found_rows h ∙ ap (λ b. cond b (Some (row_next new 0 x.from 0 said joint.table))
          (find_row h w.table.rows)) is) ∙ found in
          let live : is_live new w.table ≡ true =
          ap (λ c. is_live c w.table) (sym own) ∙ found_owner h w.table r k.table old in
          let clash : true ≡ false = sym live ∙ is_new in
          cc

  new_met : IsMetIn joint plan.table.rows new
  new_met =
      subst (λ o. IsMet (behaviour_of w.schema w.bindings joint.watches new) o new (resident_of new w) plan.table.rows)
      (sym (watcher_new w.watches x))
      (subst (λ (r : Resident). IsMet (behaviour_of w.schema w.bindings joint.watches new) (Some x) new r plan.table.rows)
      (sym has_nothing)
      (no_wants_met (behaviour_of w.schema w.bindings joint.watches new)
      (lawful w.schema w.bindings joint.watches new watches
      (let e = next_push w.watches x in omega (arith, e))).nothing (Some x) new plan.table.rows only_one))

  old_met : (b : ℕ) → b < 17 → b ≢ new → is_live b w.table ≡ true → IsMetIn joint plan.table.rows b
  old_met b low ne live =
      let l : b < new = k.watchers b low live in
      let y = behaviour_of w.schema w.bindings w.watches b in
      subst (λ z. IsMet z (watcher_of b joint.watches) b (resident_of b w) plan.table.rows)
      (sym (behaviour_old w.schema w.bindings w.watches x b l))
      (subst (λ o. IsMet y o b (resident_of b w) plan.table.rows) (sym (watcher_old b w.watches x l))
      (met_others met_kept y (watcher_of b w.watches) new b (resident_of b w) joint.table plan ne moves
      (k.met b low live)))

  begun_quiet : IsQuiet joint new plan
  begun_quiet =
      let f = k.fresh may.first in
      record {
        fresh = record {
          got = f.got;
          inboxes = record {
            none = λ y found. f.inboxes.none y
                (sym (joined_other new 0 w.table (λ same. absurd (omega (arith, same)))) ∙ found);
            of_rows = λ b y found. elim (one_or_not b new) [
              | inr ne ↦ f.inboxes.of_rows b y (sym (joined_other new b w.table ne) ∙ found)
              | inl same ↦
                  (let is : record { number = new; inbox = [] } ≡ y =
                  (let at = joined_new new w.table is_new in
                  let here = ap (λ i. find_actor i joint.table.actors) (sym same) ∙ found in cc) in
                  subst (λ (z : Actor). AllByRecursion IsOfRow (events_of z.inbox)) is tt)
            ];
          };
        };
        system = may.few;
        of_rows = told_of_rows x.from (Assert joint.table.next 0 said) [] tt (λ b. tt);
      }

  begins : IsPlanned [] joint new plan
  begins = record {
    table = table;
    always = λ b l. other_live b (λ same. absurd (omega (arith, l, same))) ∙ k.always b l;
    watchers = λ b l live. elim (one_or_not b new) [
      | inl same ↦ (let e = next_push w.watches x in omega (arith, e, same))
      | inr ne ↦
          (let before = k.watchers b l (sym (other_live b ne) ∙ live) in
          let e = next_push w.watches x in omega (arith, e, before))
    ];
    watches = watches;
    numbers = λ b live. elim (one_or_not b new) [
      | inl same ↦ (let low : new < 17 = may.few in omega (arith, same, low))
      | inr ne ↦ k.numbers b (sym (other_live b ne) ∙ live)
    ];
    served = joint_served;
    residents_ascend = k.residents_ascend;
    unkept = λ b dead. k.unkept b (dead_before b dead);
    held_ascends = k.held_ascends;
    unheld = λ b dead. k.unheld b (dead_before b dead);
    system_unheld = k.system_unheld;
    moves = moves;
    good = good;
    met = λ b l live. elim (one_or_not b new) [
      | inl same ↦ subst (IsMetIn joint plan.table.rows) (sym same) new_met
      | inr ne ↦ old_met b l ne (sym (other_live b ne) ∙ live)
    ];
    quiet = λ none. begun_quiet;
  }

  pub watching_sound : IsSound [] (watching x w)
  watching_sound = commit_sound posted_to posted_table served_after [] joint new plan begins

  -- who is live afterwards
  pub watching_live : (b : ℕ) → is_live b (watching x w).table ≡ is_live b joint.table
  watching_live b = live_done posted_table joint new b plan moves

  pub watching_other : (b : ℕ) → b ≢ new → is_live b (watching x w).table ≡ is_live b w.table
  watching_other b ne = watching_live b ∙ other_live b ne

-- ---- the hub

pub watching_hub : MetKept → (x : Watched) (s : State) → is_unwatchable x s ≡ false → IsValid s → IsHub [] s
    → IsHub [] (record s { world = watching x s.world })
watching_hub met_kept x s is valid h =
    let may = may_begin x s is in
    let below : AllByRecursion (λ r. r.target < 17 → r.target < next_watcher s.world.watches) s.world.table.rows =
    all_weaker _ _ (λ r v l. (v.1.2 l).0) s.world.table.rows valid.world.rows in
    record {
      sound = watching_sound met_kept x s.world h.sound may below;
      named = λ j since live.
          let ne : actor_of j ≢ next_watcher s.world.watches =
          λ same. (let low = may.few in omega (arith, since, low, same)) in
          h.named j since (sym (watching_other met_kept x s.world h.sound may below (actor_of j) ne) ∙ live);
      nameless = λ j dead.
          h.nameless j (dead_before met_kept x s.world h.sound may below (actor_of j)
          (sym (watching_live met_kept x s.world h.sound may below (actor_of j)) ∙ dead));
      first = h.first;
      names_ascend = h.names_ascend;
    }

-- A turn keeps a world valid, and the batch that a connection takes is valid.
use Rattle.std.proofs.Common.{◌≡◌, ℕ, zero, suc, List, [], ◌∷◌, Bool, true, false, cond, map, not, filter}
use Rattle.std.proofs.Common.{Option, Some, None, refl, ap, sym, subst, unwrap_or, nat_lt, length}
use Rattle.std.specs.List.{AllByRecursion}
use Rattle.std.specs.Map.{values_of}
use Rattle.pv_value.specs.Plain.{Plain, boolean, sequence, plains}
use Rattle.pv_value.specs.Order.{order}
use Rattle.pv_value.specs.Sets.{ascending_by}
use Rattle.pv_words.specs.Lemmas.Found.{If}
use Rattle.ds_space.specs.Limits.{most_wanted_weight}
use Rattle.ds_space.specs.Spaces.{Rows, changed, has_row}
use Rattle.ds_space.specs.declared.space.SpaceEvent.TheVariants.{Add, Gone}
use Rattle.ds_space.specs.declared.space.Change.{Change}
use Rattle.ds_space.specs.declared.space.Change.TheVariants.{Left, Came}
use Rattle.ds_space.specs.declared.space.Fanned.{Fanned}
use Rattle.ds_space.specs.Wants.{wants}
use Rattle.ds_space.specs.Changes.{without, among, changes}
use Rattle.gk_sturdy.specs.declared.bound.Binding.{Binding}
use Rattle.ac_table.specs.declared.batches.Event.{Event}
use Rattle.ac_table.specs.declared.batches.Event.TheVariants.{Assert, Retract, Message, Sync}
use Rattle.ac_table.specs.declared.batches.Batch.{Batch}
use Rattle.ac_table.specs.Tables.{is_live, first_batch, popped}
use Rattle.ps_schema.specs.declared.Definition.{Definition}
use Rattle.ac_world.specs.declared.spreads.Spread.{Spread}
use Rattle.ac_world.specs.declared.turns.Turned.TheVariants as turned
use Rattle.ac_world.specs.Outboxes.{Plan}
use Rattle.ac_world.specs.declared.watched.Watched.{Watched}
use Rattle.ac_world.specs.Watchers.{Task, task_at}
use Rattle.ac_world.specs.Worlds.{WorldState, Resident, Deliveries, entry_of, no_resident, resident_of, held_by}
use Rattle.ac_world.specs.Worlds.{is_system, is_space, delivered, all_delivered}
use Rattle.ac_world.specs.declared.aims.Aim.{Aim}
use Rattle.ac_world.specs.Aims.{aim_at, aim_for, aim_of}
use Rattle.ac_world.specs.Behaviours.{Behaviour, dataspace, asks, answer_for, gatekeeper, watcher, other, behaviour_of}
use Rattle.ac_world.specs.Behaviours.{fanned_weight}
use Rattle.ac_world.specs.Allocating.{allocated, released}
use Rattle.ac_world.specs.Turns.{Turning, handle_for, drop_met, releasing, row_gone, left, allocating, row_come, came_at}
use Rattle.ac_world.specs.Turns.{came}
use Rattle.ac_world.specs.Turns.{changed_by, all_changed, with_rows, regot, spreading, by_assertion}
use Rattle.ac_world.specs.Turns.{by_message, applied, taken_in, say_at, say_all, passed_on, answer_to, turned_by}
use Rattle.ac_world.specs.Turns.{all_turned, begin_turn, system_turn, deliver}
use Rattle.ac_world.specs.Turns.{connection_turn, After, turn_first, turn}
use Rattle.ac_world.specs.Lemmas.Entries.{values_pass, values_all, each_with, each_without, each_found}
use Rattle.hub_valid.specs.Lemmas.Filtered.{all_kept}
use Rattle.hub_valid.specs.Validity.{Lived, lived, IsObjectValue, HoldsObjects, IsValidEvent, IsValidBatch}
use Rattle.hub_valid.specs.Validity.{IsValidResident, IsValidWorld, IsValidDelivery, AreValidDeliveries, IsValidBinding}
use Rattle.hub_valid.specs.Validity.{IsValidWatch}
use Rattle.hub_valid.specs.Lemmas.Captured.{wants_hold, fan_holds}
use Rattle.hub_valid.specs.Lemmas.Aims.{IsAimed, sent_aims, told_aims, key_aims, answer_aims}
use Rattle.hub_valid.specs.Lemmas.Values.{all_weaker, all_append, all_ascending, sequence_holds}
use Rattle.hub_valid.specs.Lemmas.WorldTables.{popped_valid, first_valid}
use Rattle.hub_valid.specs.Lemmas.WorldPlans.{IsValidPlan, begin_valid, put_valid, dropped_valid, said_valid}
use Rattle.hub_valid.specs.Lemmas.WorldPlans.{with_trees_valid, committed_valid}
use Rattle.hub_valid.specs.Lemmas.Watchers.{watcher_aims, task_valid}
use Rattle.hub_valid.specs.Lemmas.Worlds.{table_of, world_with}

-- ---- what is known of each behaviour

-- an observation and what it captures hold objects
abbrev IsValidFanned : Lived → Fanned → Type 0
IsValidFanned n f = HoldsObjects n f.observe × AllByRecursion (HoldsObjects n) f.captures

-- over values that hold objects, what is wanted is aimed at objects and holds objects, and so does what is passed on
record IsSafe (n : Lived) (y : Behaviour) : Type 0 where
  aims : (vs : List Plain) → AllByRecursion (HoldsObjects n) vs
      → AllByRecursion (λ k. If (y.aim k) (IsAimed n)) (y.keys vs)
  fans : (vs : List Plain) (m : Plain) → AllByRecursion (HoldsObjects n) vs → HoldsObjects n m
      → AllByRecursion (IsValidFanned n) (y.fan vs m)

dataspace_safe : (ds : List Definition) (n : Lived) → IsSafe n (dataspace ds)
dataspace_safe ds n = record {
  aims = λ vs all.
      all_weaker (HoldsObjects n) (λ k. If (aim_of ds k) (IsAimed n)) (key_aims ds n) (wants vs) (wants_hold n vs all);
  fans = fan_holds n;
}

gatekeeper_safe : (ds : List Definition) (n : Lived) (bs : List Binding) → AllByRecursion (IsValidBinding n) bs
    → IsSafe n (gatekeeper ds bs)
gatekeeper_safe ds n bs bound = record {
  aims = λ vs all.
      all_weaker (HoldsObjects n) (λ k. If (answer_for ds bs k) (IsAimed n)) (answer_aims ds n bs bound)
      (ascending_by order (filter asks vs)) (all_ascending (HoldsObjects n) order (filter asks vs)
      (all_kept (HoldsObjects n) asks vs all));
  fans = λ vs m all holds. tt;
}

watcher_safe : (ds : List Definition) (n : Lived) (task : Task) → is_space task.to ≡ true → IsSafe n (watcher ds task)
watcher_safe ds n task to = record { aims = λ vs all. watcher_aims n task vs to all; fans = λ vs m all holds. tt }

other_safe : (ds : List Definition) (n : Lived) (o : Option Task) → If o (λ task. is_space task.to ≡ true)
    → IsSafe n (other ds o)
other_safe ds n None to = dataspace_safe ds n
other_safe ds n (Some task) to = watcher_safe ds n task to

behaviour_safe : (ds : List Definition) (n : Lived) (bs : List Binding) (ws : List Watched) (a : ℕ)
    → AllByRecursion (IsValidBinding n) bs → AllByRecursion IsValidWatch ws → IsSafe n (behaviour_of ds bs ws a)
behaviour_safe ds n bs ws zero bound watched = gatekeeper_safe ds n bs bound
behaviour_safe ds n bs ws (suc a) bound watched =
    other_safe ds n (task_at (suc a) ws) (task_valid (suc a) ws watched)

-- ---- a system actor's turn in the making

pub record IsValidTurning (n : Lived) (t : Turning) : Type 0 where
  pub got : AllByRecursion (HoldsObjects n) (values_of t.resident.got)
  pub plan : IsValidPlan n t.plan

-- ---- how its rows change

releasing_valid : (n : Lived) (a : ℕ) (g : Option Plain) (t : Turning) → IsValidTurning n t
    → IsValidTurning n (releasing a g t)
releasing_valid n a g t v = record {
  got = v.got;
  plan = with_trees_valid n (released a g t.resident.facets t.plan.table).trees t.plan v.plan;
}

allocating_valid : (n : Lived) (a : ℕ) (g : Option Plain) (t : Turning) → IsValidTurning n t
    → IsValidTurning n (allocating a g t)
allocating_valid n a g t v = record {
  got = v.got;
  plan = with_trees_valid n (allocated a g t.resident.facets t.plan.table).trees t.plan v.plan;
}

row_gone_valid : (n : Lived) (a : ℕ) (k : Plain) (t : Turning) → IsValidTurning n t → IsValidTurning n (row_gone a k t)
row_gone_valid n a k t v = record { got = v.got; plan = by (handle_for k t.resident.handles) }
  where
    by : (o : Option ℕ) → IsValidPlan n (drop_met a o t.plan)
    by None = v.plan
    by (Some h) = dropped_valid n a h t.plan v.plan

left_valid : (y : Behaviour) (n : Lived) (a : ℕ) (k : Plain) (t : Turning) → IsValidTurning n t
    → IsValidTurning n (left y a k t)
left_valid y n a k t v = releasing_valid n a (y.group k) (row_gone a k t) (row_gone_valid n a k t v)

row_come_valid : (n : Lived) (a facet : ℕ) (k : Plain) (aim : Aim) (t : Turning) → IsAimed n aim → IsValidTurning n t
    → IsValidTurning n (row_come a facet k aim t)
row_come_valid n a facet k aim t is v = record {
  got = v.got;
  plan = put_valid n a facet aim.at.actor aim.at.entity aim.value t.plan is.at is.value v.plan;
}

came_valid : (y : Behaviour) (n : Lived) (a : ℕ) (k : Plain) (t : Turning) → If (y.aim k) (IsAimed n) → IsValidTurning n t
    → IsValidTurning n (came y a k t)
came_valid y n a k t aims v = by (y.aim k) aims
  where
    by : (o : Option Aim) → If o (IsAimed n) → IsValidTurning n (came_at a (y.group k) k o t)
    by None is = v
    by (Some aim) is =
        row_come_valid n a (allocated a (y.group k) t.resident.facets t.plan.table).facet k aim
        (allocating a (y.group k) t)
        is (allocating_valid n a (y.group k) t v)

-- what a key that comes wants is aimed at an object and holds objects
abbrev IsValidChange : Behaviour → Lived → Change → Type 0
IsValidChange y n (Left k) = Unit {0}
IsValidChange y n (Came k) = If (y.aim k) (IsAimed n)

changed_by_valid : (y : Behaviour) (n : Lived) (a : ℕ) (c : Change) (t : Turning) → IsValidChange y n c
    → IsValidTurning n t
    → IsValidTurning n (changed_by y a c t)
changed_by_valid y n a (Left k) t holds v = left_valid y n a k t v
changed_by_valid y n a (Came k) t holds v = came_valid y n a k t holds v

all_changed_valid : (y : Behaviour) (n : Lived) (a : ℕ) (cs : List Change) (t : Turning)
    → AllByRecursion (IsValidChange y n) cs
    → IsValidTurning n t → IsValidTurning n (all_changed y a cs t)
all_changed_valid y n a [] t all v = v
all_changed_valid y n a (c ∷ cs) t all v =
    all_changed_valid y n a cs (changed_by y a c t) all.1 (changed_by_valid y n a c t all.0 v)

all_left : (y : Behaviour) (n : Lived) (ks : List Plain) → AllByRecursion (IsValidChange y n) (map Left ks)
all_left y n [] = tt
all_left y n (k ∷ ks) = (tt, all_left y n ks)

all_came : (y : Behaviour) (n : Lived) (ks : List Plain) → AllByRecursion (λ k. If (y.aim k) (IsAimed n)) ks
    → AllByRecursion (IsValidChange y n) (map Came ks)
all_came y n [] all = tt
all_came y n (k ∷ ks) all = (all.0, all_came y n ks all.1)

changes_valid : (y : Behaviour) (n : Lived) (before after : List Plain)
    → AllByRecursion (λ k. If (y.aim k) (IsAimed n)) after
    → AllByRecursion (IsValidChange y n) (changes before after)
changes_valid y n before after all =
    all_append (IsValidChange y n) (map Left (without before after)) (map Came (without after before))
    (all_left y n (without before after))
    (all_came y n (without after before)
    (all_kept (λ k. If (y.aim k) (IsAimed n)) (λ k. not (among k before)) after all))

regot_valid : (y : Behaviour) (n : Lived) (a : ℕ) → IsSafe n y → (rows : Rows) (t : Turning)
    → AllByRecursion (HoldsObjects n) (values_of rows) → IsValidTurning n t → IsValidTurning n (regot y a rows t)
regot_valid y n a safe rows t all v =
    all_changed_valid y n a (changes (y.keys (values_of t.resident.got)) (y.keys (values_of rows))) (with_rows rows t)
    (changes_valid y n (y.keys (values_of t.resident.got)) (y.keys (values_of rows))
    (safe.aims (values_of rows) all))
    (record { got = all; plan = v.plan })

-- ---- event by event

spreading_valid : (n : Lived) (change : List Spread → List Spread) (t : Turning) → IsValidTurning n t
    → IsValidTurning n (spreading change t)
spreading_valid n change t v = record { got = v.got; plan = v.plan }

added_holds : (n : Lived) (h : ℕ) (x : Plain) (rows : Rows) → HoldsObjects n x
    → AllByRecursion (HoldsObjects n) (values_of rows)
    → AllByRecursion (HoldsObjects n) (values_of (changed rows (Add h x)))
added_holds n h x rows holds all =
    values_all (HoldsObjects n) (changed rows (Add h x))
    (each_with (λ e. HoldsObjects n e.1) h x rows holds (values_pass (HoldsObjects n) rows all))

gone_holds : (n : Lived) (h : ℕ) (rows : Rows) → AllByRecursion (HoldsObjects n) (values_of rows)
    → AllByRecursion (HoldsObjects n) (values_of (changed rows (Gone h)))
gone_holds n h rows all =
    values_all (HoldsObjects n) (changed rows (Gone h))
    (each_without (λ e. HoldsObjects n e.1) h rows (values_pass (HoldsObjects n) rows all))

added_valid : (y : Behaviour) (n : Lived) (a from h : ℕ) → IsSafe n y → (x : Plain) (t : Turning) → HoldsObjects n x
    → IsValidTurning n t → IsValidTurning n (applied y a from (Add h x) t)
added_valid y n a from h safe x t holds v =
    by (nat_lt most_wanted_weight (y.weight (values_of (changed t.resident.got (Add h x)))))
  where
    by : (b : Bool) → IsValidTurning n (cond b
        (spreading (by_assertion t.plan.table a from (y.weight (values_of (changed t.resident.got (Add h x))))) t)
        (regot y a (changed t.resident.got (Add h x)) t))
    by true = spreading_valid n
        (by_assertion t.plan.table a from (y.weight (values_of (changed t.resident.got (Add h x))))) t v
    by false =
        regot_valid y n a safe (changed t.resident.got (Add h x)) t (added_holds n h x t.resident.got holds v.got) v

taken_in_valid : (y : Behaviour) (n : Lived) (a from h : ℕ) → IsSafe n y → (x : Plain) (t : Turning) → HoldsObjects n x
    → IsValidTurning n t → IsValidTurning n (taken_in y a from h x t)
taken_in_valid y n a from h safe x t holds v = by (has_row h t.resident.got)
  where
    by : (b : Bool) → IsValidTurning n (cond b t (applied y a from (Add h x) t))
    by true = v
    by false = added_valid y n a from h safe x t holds v

-- ---- what is only said

say_at_valid : (n : Lived) (o : Option Aim) (p : Plan) → If o (IsAimed n) → IsValidPlan n p → IsValidPlan n (say_at o p)
say_at_valid n None p is v = v
say_at_valid n (Some aim) p is v =
    said_valid n aim.at.actor (Message aim.at.entity aim.value) p (is.at.1, is.value) v

say_all_valid : (ds : List Definition) (n : Lived) (fs : List Fanned) (p : Plan) → AllByRecursion (IsValidFanned n) fs
    → IsValidPlan n p
    → IsValidPlan n (say_all ds fs p)
say_all_valid ds n [] p all v = v
say_all_valid ds n (f ∷ fs) p all v =
    say_all_valid ds n fs (say_at (aim_for ds (sequence (plains f.captures)) f.observe) p) all.1
    (say_at_valid n (aim_for ds (sequence (plains f.captures)) f.observe) p
    (told_aims ds n (sequence (plains f.captures)) f.observe (sequence_holds n f.captures all.0.1) all.0.0) v)

passed_on_valid : (ds : List Definition) (n : Lived) (from : ℕ) (fs : List Fanned) (t : Turning)
    → AllByRecursion (IsValidFanned n) fs
    → IsValidTurning n t → IsValidTurning n (passed_on ds from fs t)
passed_on_valid ds n from fs t all v = by (nat_lt most_wanted_weight (fanned_weight fs))
  where
    by : (b : Bool) → IsValidTurning n (cond b
        (spreading (by_message t.plan.table from (fanned_weight fs)) t) (record t { plan = say_all ds fs t.plan }))
    by true = spreading_valid n (by_message t.plan.table from (fanned_weight fs)) t v
    by false = record { got = v.got; plan = say_all_valid ds n fs t.plan all v.plan }

answer_valid : (ds : List Definition) (n : Lived) (peer : Plain) (p : Plan) → IsObjectValue n peer → IsValidPlan n p
    → IsValidPlan n (answer_to ds peer p)
answer_valid ds n peer p object v =
    say_at_valid n (aim_at ds (boolean true) peer) p (sent_aims ds n (boolean true) peer tt object) v

-- ---- all events

turned_by_valid : (y : Behaviour) (n : Lived) (next a from : ℕ) → IsSafe n y → (e : Event) (t : Turning)
    → IsValidEvent n next e → IsValidTurning n t → IsValidTurning n (turned_by y a from e t)
turned_by_valid y n next a from safe (Assert h entity x) t fits v = taken_in_valid y n a from h safe x t fits.2 v
turned_by_valid y n next a from safe (Retract h entity) t fits v =
    regot_valid y n a safe (changed t.resident.got (Gone h)) t (gone_holds n h t.resident.got v.got) v
turned_by_valid y n next a from safe (Message entity x) t fits v =
    passed_on_valid y.schema n from (y.fan (values_of t.resident.got) x) t
    (safe.fans (values_of t.resident.got) x v.got fits.1) v
turned_by_valid y n next a from safe (Sync entity peer) t fits v =
    record { got = v.got; plan = answer_valid y.schema n peer t.plan fits.1 v.plan }

all_turned_valid : (y : Behaviour) (n : Lived) (next a from : ℕ) → IsSafe n y → (es : List Event) (t : Turning)
    → AllByRecursion (IsValidEvent n next) es → IsValidTurning n t
    → IsValidTurning n (all_turned y a from es t)
all_turned_valid y n next a from safe [] t all v = v
all_turned_valid y n next a from safe (e ∷ es) t all v =
    all_turned_valid y n next a from safe es (turned_by y a from e t) all.1
    (turned_by_valid y n next a from safe e t all.0 v)

-- ---- what is delivered to a connection

delivered_valid : (n : Lived) (next : ℕ) (e : Event) (got : Deliveries) → IsValidEvent n next e
    → AllByRecursion (IsValidDelivery n) got → AllByRecursion (IsValidDelivery n) (delivered e got)
delivered_valid n next (Assert h entity x) got fits v =
    each_with (IsValidDelivery n) h (record { entity = entity; value = x }) got (fits.1, fits.2) v
delivered_valid n next (Retract h entity) got fits v = each_without (IsValidDelivery n) h got v
delivered_valid n next (Message entity x) got fits v = v
delivered_valid n next (Sync entity peer) got fits v = v

all_delivered_valid : (n : Lived) (next : ℕ) (es : List Event) (got : Deliveries)
    → AllByRecursion (IsValidEvent n next) es
    → AllByRecursion (IsValidDelivery n) got → AllByRecursion (IsValidDelivery n) (all_delivered es got)
all_delivered_valid n next [] got all v = v
all_delivered_valid n next (e ∷ es) got all v =
    all_delivered_valid n next es (delivered e got) all.1 (delivered_valid n next e got all.0 v)

held_valid : (n : Lived) (a : ℕ) (w : WorldState) → AllByRecursion (AreValidDeliveries n) w.held
    → AllByRecursion (IsValidDelivery n) (held_by a w)
held_valid n a w all = by (entry_of a w.held) refl
  where
    by : (o : Option Deliveries) → entry_of a w.held ≡ o → AllByRecursion (IsValidDelivery n) (unwrap_or o [])
    by None found = tt
    by (Some got) found = each_found (AreValidDeliveries n) a got w.held all found

deliver_valid : (a : ℕ) (b : Batch) (w : WorldState) → IsValidBatch (lived w) w.table.next b
    → IsValidWorld w → AllByRecursion (AreValidDeliveries (lived w)) (deliver a b.events w).held
deliver_valid a b w fits v =
    each_with (AreValidDeliveries (lived w)) a (all_delivered b.events (held_by a w)) w.held
    (all_delivered_valid (lived w) w.table.next b.events (held_by a w) fits
    (held_valid (lived w) a w v.held))
    v.held

-- ---- turns

resident_valid : (n : Lived) (a : ℕ) (w : WorldState) → AllByRecursion (IsValidResident n) w.residents
    → AllByRecursion (HoldsObjects n) (values_of (resident_of a w).got)
resident_valid n a w all = by (entry_of a w.residents) refl
  where
    by : (o : Option Resident) → entry_of a w.residents ≡ o
        → AllByRecursion (HoldsObjects n) (values_of (unwrap_or o no_resident).got)
    by None found = tt
    by (Some x) found = each_found (IsValidResident n) a x w.residents all found

-- w is the world without the batch
system_turn_valid : (a : ℕ) (b : Batch) (w : WorldState) → IsValidBatch (lived w) w.table.next b
    → IsValidWorld w → IsValidWorld (system_turn a b w).world
system_turn_valid a b w fits v =
    let y : Behaviour = behaviour_of w.schema w.bindings w.watches a in
    let t = all_turned_valid y (lived w) w.table.next a b.from
    (behaviour_safe w.schema (lived w) w.bindings w.watches a v.bound v.watched) b.events (begin_turn a w) fits
    (record {
      got = resident_valid (lived w) a w v.got;
      plan = begin_valid (lived w) w.table (table_of w v);
    }) in
    world_with (system_turn a b w).world
    (committed_valid (lived w) a (all_turned y a b.from b.events (begin_turn a w)).plan t.plan)
    (each_with (IsValidResident (lived w)) a (all_turned y a b.from b.events (begin_turn a w)).resident
    w.residents t.got v.got)
    v.held v.bound v.watched

connection_turn_valid : (a : ℕ) (b : Batch) (w : WorldState) → IsValidBatch (lived w) w.table.next b
    → IsValidWorld w → IsValidWorld (connection_turn a b w).world
connection_turn_valid a b w fits v =
    world_with (connection_turn a b w).world (table_of w v) v.got (deliver_valid a b w fits v) v.bound v.watched

-- the world without an actor's first batch
abbrev pub without_first : ℕ → WorldState → WorldState
without_first a w = record w { table = popped a w.table }

without_first_valid : (a : ℕ) (w : WorldState) → IsValidWorld w → IsValidWorld (without_first a w)
without_first_valid a w v = world_with (without_first a w)
    (popped_valid (lived w) a w.table (table_of w v)) v.got v.held v.bound v.watched

-- a turn by what was found out: whether the actor is a system actor, or live
abbrev turn_by : Bool → ℕ → Batch → WorldState → After
turn_by system a b w = cond system (system_turn a b w) (connection_turn a b w)

abbrev turn_where : Bool → ℕ → WorldState → After
turn_where live a w =
    cond live (turn_first a (first_batch a w.table) w) (record { world = w; turned = turned.Gone })

turn_by_valid : (system : Bool) (a : ℕ) (b : Batch) (w : WorldState)
    → IsValidBatch (lived w) w.table.next b → IsValidWorld w → IsValidWorld (turn_by system a b w).world
turn_by_valid true a b w fits v = system_turn_valid a b w fits v
turn_by_valid false a b w fits v = connection_turn_valid a b w fits v

pub turn_valid : (a : ℕ) (w : WorldState) → IsValidWorld w → IsValidWorld (turn a w).world
turn_valid a w v = by (is_live a w.table)
  where
    first : (o : Option Batch) → first_batch a w.table ≡ o → IsValidWorld (turn_first a o w).world
    first None is = v
    first (Some b) is =
        turn_by_valid (is_system a) a b (without_first a w)
        (first_valid (lived w) a w.table b (table_of w v) is) (without_first_valid a w v)

    by : (live : Bool) → IsValidWorld (turn_where live a w).world
    by true = first (first_batch a w.table) refl
    by false = v

-- who has come stays so
pub turn_opens_none : (a : ℕ) (w : WorldState) → (turn a w).world.opened ≡ w.opened
turn_opens_none a w = by (is_live a w.table)
  where
    opens : (system : Bool) (b : Batch)
        → (turn_by system a b (without_first a w)).world.opened ≡ w.opened
    opens true b = refl
    opens false b = refl

    first : (o : Option Batch) → (turn_first a o w).world.opened ≡ w.opened
    first None = refl
    first (Some b) = opens (is_system a) b

    by : (live : Bool) → (turn_where live a w).world.opened ≡ w.opened
    by true = first (first_batch a w.table)
    by false = refl

-- and so does who was made
pub turn_makes_none : (a : ℕ) (w : WorldState) → (turn a w).world.watches ≡ w.watches
turn_makes_none a w = by (is_live a w.table)
  where
    makes : (system : Bool) (b : Batch)
        → (turn_by system a b (without_first a w)).world.watches ≡ w.watches
    makes true b = refl
    makes false b = refl

    first : (o : Option Batch) → (turn_first a o w).world.watches ≡ w.watches
    first None = refl
    first (Some b) = makes (is_system a) b

    by : (live : Bool) → (turn_where live a w).world.watches ≡ w.watches
    by true = first (first_batch a w.table)
    by false = refl

pub turn_lives_on : (a : ℕ) (w : WorldState) → lived (turn a w).world ≡ lived w
turn_lives_on a w = λ i. record { opened = turn_opens_none a w i; watchers = length (turn_makes_none a w i) }

-- ---- the batch that a connection takes

-- it is the first that waited for it, and nothing else is done
pub record IsTaken (a : ℕ) (b : Batch) (w : WorldState) (first : Option Batch) (t : After) : Type 0 where
  pub is : first ≡ Some b
  pub same : t.world ≡ (connection_turn a b (without_first a w)).world

pub taken_is : (a : ℕ) (b : Batch) (w : WorldState) → (turn a w).turned ≡ turned.Taken b
    → IsTaken a b w (first_batch a w.table) (turn a w)
taken_is a b w is = by (is_live a w.table) is
  where
    taken : (system : Bool) (c : Batch)
        → (turn_by system a c (without_first a w)).turned ≡ turned.Taken b
        → IsTaken a b w (Some c) (turn_by system a c (without_first a w))
    taken true c is = absurd cc
    taken false c is =
        let same : c ≡ b = cc in
        record { is = ap Some same; same = ap (λ d. (connection_turn a d (without_first a w)).world) same }

    first : (o : Option Batch) → (turn_first a o w).turned ≡ turned.Taken b → IsTaken a b w o (turn_first a o w)
    first None is = absurd cc
    first (Some c) is = taken (is_system a) c is

    by : (live : Bool) → (turn_where live a w).turned ≡ turned.Taken b
        → IsTaken a b w (first_batch a w.table) (turn_where live a w)
    by true is = first (first_batch a w.table) is
    by false is = absurd cc

pub taken_valid : (a : ℕ) (w : WorldState) (b : Batch) → IsValidWorld w → (turn a w).turned ≡ turned.Taken b
    → IsValidBatch (lived w) w.table.next b
taken_valid a w b v is = first_valid (lived w) a w.table b (table_of w v) (taken_is a b w is).is

-- so it is in the world after the turn
pub taken_valid_after : (a : ℕ) (w : WorldState) (b : Batch) → IsValidWorld w → (turn a w).turned ≡ turned.Taken b
    → IsValidBatch (lived (turn a w).world) (turn a w).world.table.next b
taken_valid_after a w b v is =
    subst (λ (u : WorldState). IsValidBatch (lived u) u.table.next b) (sym (taken_is a b w is).same)
    (taken_valid a w b v is)

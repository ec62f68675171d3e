-- To whom messages go.
use Rattle.std.proofs.Common.{◌≡◌, ℕ, ◌≤◌, List, [], ◌∷◌, ◌++◌, Bool, true, false, cond, Option, Some, None, suc, zero}
use Rattle.std.proofs.Common.{refl, sym, ap, ◌∙◌, subst, arith}
use Rattle.std.specs.Prelude.{◌<◌, nat_lt, option_and_then, option_map}
use Rattle.std.specs.List.{flat_map}
use Rattle.std.specs.Map.{values_of}
use Rattle.std.proofs.lemmas.Bool.Decides.{nat_tests}
use Rattle.std.proofs.lemmas.List.{append-nil, append_assoc}
use Rattle.pv_value.specs.Plain.{Plain, boolean, sequence, plains}
use Rattle.pv_value.specs.Order.{order}
use Rattle.pv_value.specs.Sets.{ascending_by}
use Rattle.dp_pattern.specs.Patterns.{Pattern}
use Rattle.dp_pattern.specs.Matching.{matched}
use Rattle.ds_space.specs.Limits.{most_wanted_weight}
use Rattle.ds_space.specs.Wants.{observer_of, captured}
use Rattle.ds_space.specs.declared.space.Fanned.{Fanned}
use Rattle.ds_space.specs.Fans.{fan_for, fan_of, fan_weight}
use Rattle.ac_table.specs.declared.batches.Batch.{Batch}
use Rattle.ac_table.specs.declared.batches.Event.{Event}
use Rattle.ac_table.specs.declared.batches.Event.TheVariants.{Message}
use Rattle.ac_table.specs.Tables.{find_actor, is_live, first_batch, popped}
use Rattle.ps_schema.specs.declared.Definition.{Definition}
use Rattle.ac_world.specs.declared.aims.Aim.{Aim}
use Rattle.ac_world.specs.declared.turns.Turned.TheVariants as turned
use Rattle.ac_world.specs.Outboxes.{Plan, plan_over, told_to}
use Rattle.ac_world.specs.Turns.{After, Turning, spreading, by_message, say_at, say_all, all_turned, end_turn}
use Rattle.ac_world.specs.Turns.{passes_on, system_turn, turn_with}
use Rattle.ac_world.specs.Turns.{passed_on, answer_to, begin_turn, connection_turn, turn_first, turn}
use Rattle.ac_world.specs.Worlds.{WorldState, resident_of, is_space, is_system}
use Rattle.ac_world.specs.Aims.{aim_at, aim_for, observer_in}
use Rattle.ac_world.specs.Behaviours.{Behaviour, behaviour_of, other, dataspace, fanned_weight}
use Rattle.ac_world.specs.declared.watched.Watched.{Watched}
use Rattle.ac_world.specs.Watchers.{Task, task_of, watcher_of}
use Rattle.hub_valid.specs.Lemmas.Lists.{flat_map_append}
use Rattle.hub_laws.specs.Posting.{IsOutbox, grown}
use Rattle.hub_laws.specs.Saying.{message_aimed, message_by, messages_over, OnlySays, SaysMessages, AnswersSyncs}
use Rattle.hub_laws.specs.Saying.{MessagesArrive}
use Rattle.hub_laws.proofs.Moving.{told_to-told}
use Rattle.hub_laws.proofs.Posted.{posted_grown, told_outbox, are_outboxes}
use Rattle.hub_laws.proofs.Watching.{low_has_no_task}

-- ---- what is said adds to what is told

say_at_tells : (b : ℕ) (o : Option Aim) (p : Plan) → told_to b (say_at o p).out ≡ told_to b p.out ++ message_aimed b o
say_at_tells b None p = sym (append-nil (told_to b p.out))
say_at_tells b (Some aim) p = told_to-told b aim.at.actor (Message aim.at.entity aim.value) p.out

-- what one observation is told
abbrev pub fanned_to : List Definition → ℕ → Fanned → List Event
fanned_to ds b f = message_aimed b (aim_for ds (sequence (plains f.captures)) f.observe)

say_all_tells : (ds : List Definition) (b : ℕ) (fs : List Fanned) (p : Plan)
    → told_to b (say_all ds fs p).out ≡ told_to b p.out ++ flat_map (fanned_to ds b) fs
say_all_tells ds b [] p = sym (append-nil (told_to b p.out))
say_all_tells ds b (f ∷ fs) p =
    let aim : Option Aim = aim_for ds (sequence (plains f.captures)) f.observe in
    say_all_tells ds b fs (say_at aim p)
    ∙ ap (λ es. es ++ flat_map (fanned_to ds b) fs) (say_at_tells b aim p)
    ∙ append_assoc (told_to b p.out) (message_aimed b aim) (flat_map (fanned_to ds b) fs)

say_all_table : (ds : List Definition) (fs : List Fanned) (p : Plan) → (say_all ds fs p).table ≡ p.table
say_all_table ds [] p = refl
say_all_table ds (f ∷ fs) p =
    let aim : Option Aim = aim_for ds (sequence (plains f.captures)) f.observe in
    say_all_table ds fs (say_at aim p) ∙ one aim
  where
    one : (o : Option Aim) → (say_at o p).table ≡ p.table
    one None = refl
    one (Some aim) = refl

-- ---- by observation

observation_told : (ds : List Definition) (b : ℕ) (m o : Plain)
    → flat_map (fanned_to ds b) (fan_for o (captured o m)) ≡ message_by ds b m (observer_in o) (observer_of o)
observation_told ds b m o = by (observer_in o) (observer_of o) refl
  where
    aimed : Option Plain → Option (List Plain) → List Event
    aimed q None = []
    aimed q (Some cs) = message_aimed b (option_and_then (aim_at ds (sequence (plains cs))) q) ++ []

    fanned : (c : Option (List Plain)) → flat_map (fanned_to ds b) (fan_for o c) ≡ aimed (observer_in o) c
    fanned None = refl
    fanned (Some cs) = refl

    told : (r : Plain) (p : Pattern) (c : Option (List Plain)) → matched p m ≡ c
        → aimed (Some r) c ≡ message_by ds b m (Some r) (Some p)
    told r p None is = rw is refl
    told r p (Some cs) is = rw is refl

    none : (c : Option (List Plain)) → aimed None c ≡ []
    none None = refl
    none (Some cs) = refl

    by : (q : Option Plain) (p : Option Pattern) → observer_in o ≡ q
        → flat_map (fanned_to ds b) (fan_for o (option_and_then (λ d. matched d m) p)) ≡ message_by ds b m q p
    by None p is =
        fanned (option_and_then (λ d. matched d m) p)
        ∙ ap (λ r. aimed r (option_and_then (λ d. matched d m) p)) is
        ∙ none (option_and_then (λ d. matched d m) p)
    by (Some r) None is = refl
    by (Some r) (Some p) is =
        fanned (matched p m) ∙ ap (λ q. aimed q (matched p m)) is ∙ told r p (matched p m) refl

fan_told : (ds : List Definition) (b : ℕ) (m : Plain) (os : List Plain)
    → flat_map (fanned_to ds b) (flat_map (λ o. fan_for o (captured o m)) os)
    ≡ flat_map (λ o. message_by ds b m (observer_in o) (observer_of o)) os
fan_told ds b m [] = refl
fan_told ds b m (o ∷ os) =
    flat_map_append (fanned_to ds b) (fan_for o (captured o m)) (flat_map (λ x. fan_for x (captured x m)) os)
    ∙ (λ i. observation_told ds b m o i ++ fan_told ds b m os i)

-- ---- a message

passed_says : (ds : List Definition) (from : ℕ) (m : Plain) (t : Turning)
    → fan_weight (values_of t.resident.got) m ≤ most_wanted_weight
    → OnlySays (λ b. messages_over ds b (values_of t.resident.got) m) t.plan (passes_on (dataspace ds) from m t).plan
passed_says ds from m t light = by (nat_lt most_wanted_weight (fan_weight vs m)) refl
  where
    vs : List Plain
    vs = values_of t.resident.got

    by : (c : Bool) → nat_lt most_wanted_weight (fan_weight vs m) ≡ c
        → OnlySays (λ b. messages_over ds b vs m) t.plan
        (cond c (spreading (by_message t.plan.table from (fan_weight vs m)) t)
        (record t { plan = say_all ds (fan_of vs m) t.plan })).plan
    by true heavy = absurd (grind (arith, nat_tests, heavy, light))
    by false is = record {
      table = say_all_table ds (fan_of vs m) t.plan;
      told = λ b. say_all_tells ds b (fan_of vs m) t.plan
          ∙ ap (λ es. told_to b t.plan.out ++ es) (fan_told ds b m (ascending_by order vs));
    }

pub says_messages : SaysMessages
says_messages = (
  λ ds a from entity m t light. passed_says ds from m t light,
  λ ds bs a from entity m t. refl,
  λ ds task a from entity m t. refl,
)

answer_says : (ds : List Definition) (peer : Plain) (p : Plan)
    → OnlySays (λ b. message_aimed b (aim_at ds (boolean true) peer)) p (answer_to ds peer p)
answer_says ds peer p = record {
  table = one (aim_at ds (boolean true) peer);
  told = λ b. say_at_tells b (aim_at ds (boolean true) peer) p;
}
  where
    one : (o : Option Aim) → (say_at o p).table ≡ p.table
    one None = refl
    one (Some aim) = refl

pub answers_syncs : AnswersSyncs
answers_syncs y a from entity peer t = answer_says y.schema peer t.plan

-- ---- a turn over a message

say_at_outbox : (o : Option Aim) (p : Plan) → IsOutbox p.out → IsOutbox (say_at o p).out
say_at_outbox None p is = is
say_at_outbox (Some aim) p is = told_outbox aim.at.actor (Message aim.at.entity aim.value) p.out is

say_all_outbox : (ds : List Definition) (fs : List Fanned) (p : Plan) → IsOutbox p.out → IsOutbox (say_all ds fs p).out
say_all_outbox ds [] p is = is
say_all_outbox ds (f ∷ fs) p is =
    let aim : Option Aim = aim_for ds (sequence (plains f.captures)) f.observe in
    say_all_outbox ds fs (say_at aim p) (say_at_outbox aim p is)

passed_outbox : (ds : List Definition) (from : ℕ) (fs : List Fanned) (t : Turning) → IsOutbox t.plan.out
    → IsOutbox (passed_on ds from fs t).plan.out
passed_outbox ds from fs t is = by (nat_lt most_wanted_weight (fanned_weight fs))
  where
    by : (c : Bool) → IsOutbox
        (cond c (spreading (by_message t.plan.table from (fanned_weight fs)) t)
        (record t { plan = say_all ds fs t.plan })).plan.out
    by true = is
    by false = say_all_outbox ds fs t.plan is

at_space : (a from entity : ℕ) (m : Plain) (w : WorldState) → is_space a ≡ true → is_live a w.table ≡ true
    → first_batch a w.table ≡ Some (record { from = from; events = Message entity m ∷ [] })
    → fan_weight (values_of (resident_of a w).got) m ≤ most_wanted_weight → (b : ℕ)
    → find_actor b (turn a w).world.table.actors
    ≡ grown a (messages_over w.schema b (values_of (resident_of a w).got) m) (find_actor b (popped a w.table).actors)
at_space a from entity m w space live first light b = by (is_live a w.table) (first_batch a w.table) live first
  where
    u : WorldState
    u = record w { table = popped a w.table }

    batch : Batch
    batch = record { from = from; events = Message entity m ∷ [] }

    t : Turning
    t = passes_on (dataspace w.schema) from m (begin_turn a u)

    says : OnlySays (λ c. messages_over w.schema c (values_of (resident_of a w).got) m) (plan_over u.table) t.plan
    says = passed_says w.schema from m (begin_turn a u) light

    Arrives : After → Type 0
    Arrives x = find_actor b x.world.table.actors
        ≡ grown a (messages_over w.schema b (values_of (resident_of a w).got) m)
        (find_actor b (popped a w.table).actors)

    run : Arrives (end_turn a u t)
    run =
        posted_grown a b t.plan.out t.plan.table outbox.0 outbox.1
        ∙ (λ i. grown a (says.told b i) (find_actor b (says.table i).actors))
      where
        outbox : IsOutbox t.plan.out
        outbox =
            passed_outbox w.schema from (fan_of (values_of (resident_of a u).got) m) (begin_turn a u) are_outboxes.0

    -- a dataspace is a system actor, and behaves as one
    kinds : (d : ℕ) → is_space d ≡ true → is_system d ≡ true
    kinds d is = grind (arith, nat_tests, is)

    behaves : (d : ℕ) → is_space d ≡ true → behaviour_of w.schema w.bindings w.watches d ≡ dataspace w.schema
    behaves zero is = absurd cc
    behaves (suc d) is = ap (other w.schema) (low_has_no_task (suc d) w.watches (grind (arith, nat_tests, is)))

    here : Arrives (turn_with a batch u)
    here =
        subst (λ c. Arrives (cond c (system_turn a batch u) (connection_turn a batch u))) (sym (kinds a space))
        (subst (λ y. Arrives (end_turn a u (all_turned y a from (Message entity m ∷ []) (begin_turn a u))))
        (sym (behaves a space)) run)

    by : (c : Bool) (o : Option Batch) → c ≡ true → o ≡ Some batch
        → Arrives (cond c (turn_first a o w) (record { world = w; turned = turned.Gone }))
    by false o live first = absurd cc
    by true None live first = absurd cc
    by true (Some d) live first =
        let same : batch ≡ d = cc in
        subst (λ e. Arrives (turn_first a (Some e) w)) same here

at_gatekeeper : (from entity : ℕ) (m : Plain) (w : WorldState) → is_live 0 w.table ≡ true
    → first_batch 0 w.table ≡ Some (record { from = from; events = Message entity m ∷ [] }) → (b : ℕ)
    → find_actor b (turn 0 w).world.table.actors ≡ find_actor b (popped 0 w.table).actors
at_gatekeeper from entity m w live first b = by (is_live 0 w.table) (first_batch 0 w.table) live first
  where
    batch : Batch
    batch = record { from = from; events = Message entity m ∷ [] }

    Arrives : After → Type 0
    Arrives x = find_actor b x.world.table.actors ≡ find_actor b (popped 0 w.table).actors

    by : (c : Bool) (o : Option Batch) → c ≡ true → o ≡ Some batch
        → Arrives (cond c (turn_first 0 o w) (record { world = w; turned = turned.Gone }))
    by false o live first = absurd cc
    by true None live first = absurd cc
    by true (Some d) live first = let same : batch ≡ d = cc in subst (λ e. Arrives (turn_first 0 (Some e) w)) same refl

at_watcher : (a from entity : ℕ) (m : Plain) (w : WorldState) (x : Watched) → a < 17 → watcher_of a w.watches ≡ Some x
    → is_live a w.table ≡ true → first_batch a w.table ≡ Some (record { from = from; events = Message entity m ∷ [] })
    → (b : ℕ) → find_actor b (turn a w).world.table.actors ≡ find_actor b (popped a w.table).actors
at_watcher zero from entity m w x low is live first b = absurd cc
at_watcher (suc a) from entity m w x low is live first b =
    by (is_live (suc a) w.table) (first_batch (suc a) w.table) live first
  where
    u : WorldState
    u = record w { table = popped (suc a) w.table }

    batch : Batch
    batch = record { from = from; events = Message entity m ∷ [] }

    Arrives : After → Type 0
    Arrives t = find_actor b t.world.table.actors ≡ find_actor b (popped (suc a) w.table).actors

    run : Behaviour → After
    run y = end_turn (suc a) u (all_turned y (suc a) from (Message entity m ∷ []) (begin_turn (suc a) u))

    system : is_system (suc a) ≡ true
    system = grind (arith, nat_tests, low)

    here : Arrives (turn_with (suc a) batch u)
    here =
        subst (λ c. Arrives (cond c (system_turn (suc a) batch u) (connection_turn (suc a) batch u))) (sym system)
        (subst (λ (o : Option Task). Arrives (run (other w.schema o))) (sym (ap (option_map task_of) is)) refl)

    by : (c : Bool) (o : Option Batch) → c ≡ true → o ≡ Some batch
        → Arrives (cond c (turn_first (suc a) o w) (record { world = w; turned = turned.Gone }))
    by false o live first = absurd cc
    by true None live first = absurd cc
    by true (Some d) live first =
        let same : batch ≡ d = cc in subst (λ e. Arrives (turn_first (suc a) (Some e) w)) same here

pub messages_arrive : MessagesArrive
messages_arrive = (at_space, at_gatekeeper, at_watcher)

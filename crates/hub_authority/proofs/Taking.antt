-- A packet that is taken makes the rows and brings the messages for which its events ask.
use Rattle.std.proofs.Common.{◌≡◌, ℕ, List, [], ◌∷◌, ◌++◌, ◌==◌, ◌&&◌, not, Bool, true, false, cond, Option, Some, None}
use Rattle.std.proofs.Common.{refl, ap, sym, ◌∙◌, subst, filter, length}
use Rattle.std.specs.List.{AllByRecursion, list_any}
use Rattle.pv_value.specs.Plain.{Plain}
use Rattle.sr_caveat.specs.declared.caps.Cap.{Cap}
use Rattle.ps_schema.specs.declared.Definition.{Definition}
use Rattle.ac_table.specs.declared.batches.Row.{Row as TableRow}
use Rattle.ac_table.specs.Tables.{Actor, IsTable, find_actor, is_live}
use Rattle.ac_world.specs.Outboxes.{Plan, plan_over, told_to}
use Rattle.ac_world.specs.Worlds.{actor_of}
use Rattle.ac_world.specs.Lemmas.Entries.{KeysAscend, ascend_none}
use Rattle.rl_packet.specs.declared.packets.Event.{Event}
use Rattle.rl_packet.specs.declared.packets.Event.TheVariants.{Assert, Retract, Message, Sync}
use Rattle.rl_packet.specs.declared.packets.Turn.{Turn as TurnRecord}
use Rattle.rl_packet.specs.declared.packets.TurnEvent.{TurnEvent}
use Rattle.rl_packet.specs.declared.packets.Dialect.{Dialect}
use Rattle.rl_ports.specs.Ports.{PortsState, ExportTable, speaking}
use Rattle.hub_machine.specs.Limits.{most_events}
use Rattle.hub_machine.specs.declared.faults.Fault.{Fault}
use Rattle.hub_machine.specs.Faults.{over}
use Rattle.hub_machine.specs.State.{State, ports_of}
use Rattle.hub_machine.specs.Admission.{Admitting, Admitted, refused, admitted, before_all, unless, all_admitted}
use Rattle.hub_machine.specs.Admission.{turn_admission}
use Rattle.hub_machine.specs.Endings.{nameless, finished}
use Rattle.hub_machine.specs.Lemmas.Dialects.{by_dialect}
use Rattle.hub_machine.specs.Machine.{is_worn, unchanged, accepted, judged, packet_at, step}
use Rattle.hub_machine.specs.declared.steps.Step.TheVariants.{Packet}
use Rattle.hub_machine.specs.declared.steps.Reply.TheVariants.{Worn, Taken}
use Rattle.hub_valid.specs.Lemmas.Filtered.{all_kept}
use Rattle.hub_valid.specs.Lemmas.Values.{all_weaker, all_append}
use Rattle.hub_laws.proofs.Steps.{named_of}
use Rattle.hub_authority.specs.Asked.{takes_back, cap_under, let_in, row_of, row_asked, next_after, rows_asked}
use Rattle.hub_authority.specs.Asked.{takes_row, rows_left, messages_asked}
use Rattle.hub_laws.specs.Standing.{events_of}
use Rattle.hub_authority.specs.Asked.{messages_in}
use Rattle.hub_authority.specs.Laws.{DoesWhatIsAsked}
use Rattle.hub_valid.specs.Lemmas.Lives.{live_committed, rows_posted}
use Rattle.hub_authority.proofs.Asking.{StandBelow, plan_of, IsWalked, all_led}
use Rattle.hub_valid.specs.Lemmas.Lists.{filter_all, flat_map_append}
use Rattle.hub_valid.specs.Lemmas.Plans.{goes_on_all_acted}
use Rattle.hub_authority.proofs.Rows.{once_sorted}
use Rattle.hub_authority.proofs.Saying.{events_say, ascend_all_acted, posted_events}
use Rattle.hub_valid.specs.Lemmas.Sparing.{AreLive, spares_finished}
use Rattle.hub_authority.proofs.Sparing.{messages_finished}
use Rattle.hub_authority.proofs.Telling.{live_from_actors}

-- its table is one, and the handles that a connection has in use ascend, and stand for rows that have been made
abbrev pub IsOrderly : State → PortsState → Type 0
IsOrderly s ports = IsTable s.world.table × KeysAscend ports.handles × StandBelow s.world.table.next ports

-- the law, of any state that is so
abbrev pub TakenInOrder : Type 0
TakenInOrder =
    (s : State) (k : ℕ) (t : TurnRecord) (ports : PortsState) → IsOrderly s ports → ports_of k s ≡ Some ports
    → (step s (Packet k t)).reply ≡ Taken → DoesWhatIsAsked k ports t s (step s (Packet k t)).state

pub walked_from : (s : State) (ports : PortsState) → IsOrderly s ports
    → IsWalked s.world.table s.world.table.next ports
walked_from s ports orderly = record {
  next_is = refl;
  below = orderly.0.rows_below_next;
  once = once_sorted s.world.table.rows orderly.0.rows_ascend;
  ascend = orderly.1;
  stand = orderly.2;
}

-- ---- whose the rows are

row_owned : (k next : ℕ) (to : Cap) (gone : Bool) (o : Option Plain)
    → AllByRecursion (λ r. r.owner ≡ actor_of k) (row_of k next to gone o)
row_owned k next to gone None = tt
row_owned k next to true (Some v) = tt
row_owned k next to false (Some v) = (refl, tt)

asked_owned : (ds : List Definition) (exports : ExportTable) (k next : ℕ) (o : Option Cap) (e : Event)
    (later : List TurnEvent)
    → AllByRecursion (λ r. r.owner ≡ actor_of k) (row_asked ds exports k next o e later)
asked_owned ds exports k next None e later = tt
asked_owned ds exports k next (Some to) (Retract h) later = tt
asked_owned ds exports k next (Some to) (Message v) later = tt
asked_owned ds exports k next (Some to) (Sync peer) later = tt
asked_owned ds exports k next (Some to) (Assert v h) later =
    row_owned k next to (takes_back later h) (let_in ds exports k to v)

rows_owned : (ds : List Definition) (exports : ExportTable) (k next : ℕ) (es : List TurnEvent)
    → AllByRecursion (λ r. r.owner ≡ actor_of k) (rows_asked ds exports k next es)
rows_owned ds exports k next [] = tt
rows_owned ds exports k next (e ∷ es) =
    let to = cap_under exports e.oid in
    all_append _ (row_asked ds exports k next to e.event es) _ (asked_owned ds exports k next to e.event es)
    (rows_owned ds exports k (next_after ds exports k to e.event next) es)

-- ---- whatever the dialect

takes_alike : (d : Option Dialect) (ports : PortsState) (n : ℕ) (e : Event)
    → takes_row (speaking d ports) n e ≡ takes_row ports n e
takes_alike d ports n (Retract h) = refl
takes_alike d ports n (Assert v h) = refl
takes_alike d ports n (Message v) = refl
takes_alike d ports n (Sync peer) = refl

left_alike : (d : Option Dialect) (k : ℕ) (ports : PortsState) (es : List TurnEvent) (rows : List TableRow)
    → rows_left k (speaking d ports) es rows ≡ rows_left k ports es rows
left_alike d k ports es rows =
    λ i. filter (λ r. not ((r.owner == actor_of k) && list_any (λ e. takes_alike d ports r.handle e.event i) es)) rows

-- ---- a packet that is admitted

-- from s to the state before the step's end
pub record Made (k : ℕ) (ports : PortsState) (es : List TurnEvent) (s t : State) : Type 0 where
  pub rows : t.world.table.rows
      ≡ rows_left k ports es s.world.table.rows ++ rows_asked s.world.schema ports.exports k s.world.table.next es
  pub live : (a : ℕ) → is_live a t.world.table ≡ is_live a s.world.table
  pub messages : (b : ℕ) (x y : Actor) → find_actor b s.world.table.actors ≡ Some x
      → find_actor b t.world.table.actors ≡ Some y
      → messages_in (events_of y.inbox) ≡ messages_in
      (events_of x.inbox) ++ messages_asked s.world.schema ports.exports k b es

made : (k : ℕ) (ports : PortsState) (es : List TurnEvent) (s : State) (x : Admitting) → IsOrderly s ports
    → all_admitted k s.world es (before_all k ports s.world) ≡ admitted x
    → Made k ports es s (accepted k x (nameless k s))
made k ports es s x orderly is = record {
  rows =
      rows_posted (actor_of k) plan.out plan.table
      ∙ (all_led k s.world es start x (walked_from s ports orderly) is).rows;
  live = λ a. live_committed a (actor_of k) plan ∙ live_from_actors a plan.table s.world.table actors;
  messages = λ b y z old new.
      let got = posted_events (actor_of k) b plan.out plan.table y
      (ascend_all_acted (actor_of k) x.acts (plan_over s.world.table) ascend_none)
      (ap (find_actor b) actors ∙ old) in
      let found : Some got.actor ≡ Some z = sym got.found ∙ new in
      let one : got.actor ≡ z = cc in
      ap (λ (u : Actor). messages_in (events_of u.inbox)) (sym one)
      ∙ ap messages_in got.events
      ∙ flat_map_append _ (events_of y.inbox) (told_to b plan.out)
      ∙ ap (λ ds. messages_in (events_of y.inbox) ++ ds) (events_say k b s.world es start x is);
}
  where
    start : Admitting
    start = before_all k ports s.world

    plan : Plan
    plan = plan_of k s.world x

    actors : plan.table.actors ≡ s.world.table.actors
    actors = (goes_on_all_acted (actor_of k) x.acts (plan_over s.world.table)).actors

-- each row that is made has a live owner
made_live : (k : ℕ) (ports : PortsState) (es : List TurnEvent) (s t : State) → IsTable s.world.table
    → is_live (actor_of k) s.world.table ≡ true → Made k ports es s t → AreLive t.world.table
made_live k ports es s t table live made =
    filter_all _ t.world.table.rows
    (subst (AllByRecursion (λ r. is_live r.owner t.world.table ≡ true)) (sym made.rows)
    (all_append _ (rows_left k ports es s.world.table.rows)
    (rows_asked s.world.schema ports.exports k s.world.table.next es)
    (all_kept _ _ s.world.table.rows
    (all_weaker _ _ (λ r is. made.live r.owner ∙ is) s.world.table.rows table.owners_live))
    (all_weaker _ _ (λ r own. ap (λ a. is_live a t.world.table) own ∙ made.live (actor_of k) ∙ live)
    (rows_asked s.world.schema ports.exports k s.world.table.next es)
    (rows_owned s.world.schema ports.exports k s.world.table.next es))))

does : (k : ℕ) (ports : PortsState) (t : TurnRecord) (s u : State) → IsTable s.world.table
    → is_live (actor_of k) s.world.table ≡ true → Made k (speaking t.dialect ports) t.events s u
    → DoesWhatIsAsked k ports t s (finished [] u)
does k ports t s u table live made =
    let spares = spares_finished [] u (made_live k (speaking t.dialect ports) t.events s u table live made) in
    record {
      rows =
          spares.rows
          ∙ ap (filter (λ r. is_live r.owner (finished [] u).world.table))
          (made.rows
          ∙ ap (λ rows. rows ++ rows_asked s.world.schema ports.exports k s.world.table.next t.events)
          (left_alike t.dialect k ports t.events s.world.table.rows));
      messages = λ b x y old new.
          let had = messages_finished [] u b y new in
          had.same ∙ made.messages b x had.actor old had.found;
    }

-- ---- the step

-- where it is taken, it does so
abbrev TakenDoes : ℕ → PortsState → TurnRecord → State → Admitted → Type 0
TakenDoes k ports t s d =
    (judged k d (nameless k s)).reply ≡ Taken → DoesWhatIsAsked k ports t s (judged k d (nameless k s)).state

pub taken_does : TakenInOrder
taken_does s k t ports orderly there taken =
    worn (is_worn s (Packet k t)) taken
  where
    now : PortsState
    now = speaking t.dialect ports

    admit : (c : Option Fault)
        → TakenDoes k ports t s (unless c (all_admitted k s.world t.events (before_all k now s.world)))
    admit (Some f) is = absurd cc
    admit None is = events (all_admitted k s.world t.events (before_all k now s.world)) refl is
      where
        events : (d : Admitted) → all_admitted k s.world t.events (before_all k now s.world) ≡ d
            → TakenDoes k ports t s d
        events (refused f) is taken = absurd cc
        events (admitted x) is taken =
            does k ports t s (accepted k x (nameless k s)) orderly.0 (named_of k ports s there).live
            (made k now t.events s x orderly is)

    judge : TakenDoes k ports t s (turn_admission k ports s.world t)
    judge =
        by_dialect (TakenDoes k ports t s) k ports s.world t (λ is. absurd cc)
        (admit (over most_events 3 (length t.events)))

    worn : (b : Bool) → (cond b (unchanged s Worn) (packet_at k (ports_of k s) t s)).reply ≡ Taken
        → DoesWhatIsAsked k ports t s (cond b (unchanged s Worn) (packet_at k (ports_of k s) t s)).state
    worn true is = absurd cc
    worn false is =
        subst (λ o. (packet_at k o t s).reply ≡ Taken → DoesWhatIsAsked k ports t s (packet_at k o t s).state)
        (sym there) judge is

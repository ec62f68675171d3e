-- The rows after a packet: those that were there and aren't taken back, and then those for which its events ask.
use Rattle.std.proofs.Common.{◌≡◌, ℕ, ◌+◌, ◌<◌, ◌≤◌, List, [], ◌∷◌, ◌++◌, ◌==◌, ◌&&◌, ◌||◌, Bool, true, false, cond}
use Rattle.std.proofs.Common.{not, Option, Some, None, refl, ap, sym, ◌∙◌, subst, arith, filter, is_some}
use Rattle.std.specs.Prelude.{option_and_then, nat_lt, if◌then◌else◌}
use Rattle.std.proofs.lemmas.Bool.Decides.{nat_tests}
use Rattle.std.proofs.lemmas.List.{append-nil, append_assoc}
use Rattle.std.proofs.lemmas.List.Elements.{filter-append}
use Rattle.std.specs.List.{AllByRecursion, list_any}
use Rattle.std.specs.Option.{option_or}
use Rattle.pv_value.specs.Plain.{Plain}
use Rattle.sr_caveat.specs.declared.caps.Cap.{Cap}
use Rattle.sr_caveat.specs.Caps.{cap_of}
use Rattle.ps_schema.specs.declared.Definition.{Definition}
use Rattle.ac_table.specs.declared.batches.Row.{Row as TableRow}
use Rattle.ac_table.specs.Tables.{TableState, asserted}
use Rattle.ac_world.specs.declared.acts.Act.{Act}
use Rattle.ac_world.specs.declared.acts.Act.TheVariants as act
use Rattle.ac_world.specs.Outboxes.{Plan, plan_over, dropped, acted, all_acted}
use Rattle.ac_world.specs.Worlds.{WorldState, actor_of}
use Rattle.ac_world.specs.Lemmas.Entries.{KeysAscend, entry_of_with, entry_of_without, ascend_with, ascend_without}
use Rattle.rl_packet.specs.declared.packets.Event.{Event}
use Rattle.rl_packet.specs.declared.packets.Event.TheVariants.{Assert, Retract, Message, Sync}
use Rattle.rl_packet.specs.declared.packets.TurnEvent.{TurnEvent}
use Rattle.rl_packet.specs.Holding.{retracts}
use Rattle.rl_ports.specs.declared.ports.Inbound.{Inbound}
use Rattle.rl_ports.specs.declared.ports.Inbound.TheVariants.{Row, Refused}
use Rattle.rl_ports.specs.Ports.{PortsState, ExportTable, standing_of, export_of, inbound_of, is_in_use}
use Rattle.rl_ports.specs.Ports.{taken_into_use, freed}
use Rattle.hub_machine.specs.declared.faults.Fault.{Fault}
use Rattle.hub_machine.specs.declared.faults.Fault.TheVariants.{HandleInUse}
use Rattle.hub_machine.specs.Faults.{where_it_is}
use Rattle.hub_machine.specs.Admission.{Admitting, admitted, Aim, object, stale, unknown, aim_of, aimed, aim_at}
use Rattle.hub_machine.specs.Admission.{cause_of, cause_at, event_cause, stale_cause, peer_kept, after, after_at}
use Rattle.hub_machine.specs.Admission.{after_event, after_stale, after_assertion, after_message, after_sync}
use Rattle.hub_machine.specs.Admission.{after_retraction, unless}
use Rattle.hub_machine.specs.Admission.{all_admitted}
use Rattle.hub_valid.specs.Lemmas.Filtered.{all_kept}
use Rattle.hub_authority.specs.Asked.{takes_back, cap_under, let_in, row_of, row_asked, rows_asked, next_after}
use Rattle.hub_authority.specs.Asked.{stands_for, takes_row, rows_left}
use Rattle.hub_valid.specs.Lemmas.Values.{all_weaker, all_append}
use Rattle.hub_valid.specs.Lemmas.Lists.{any_same, filter_same, filter_filter, filter_all, all_from}
use Rattle.hub_authority.proofs.Rows.{AreOnce, once_push, once_filter, stays, rows_dropped, next_dropped}

-- rows that handles stand for have been made
abbrev pub StandBelow : ℕ → PortsState → Type 0
StandBelow next ports = (h n : ℕ) → inbound_of h ports ≡ Some (Row n) → n < next

-- ---- which rows events take back

-- whether one of the events takes back what stood for the row under n
abbrev pub takes : PortsState → List TurnEvent → ℕ → Bool
takes ports es n = list_any (λ e. takes_row ports n e.event) es

differ : (next n : ℕ) → n < next → (next == n) ≡ false
differ next n less = grind (arith, nat_tests, less)

itself : (n : ℕ) → (n == n) ≡ true
itself n = grind (arith, nat_tests)

one_number : (h g : ℕ) → (h == g) ≡ true → h ≡ g
one_number h g is = grind (arith, nat_tests, is)

-- a handle that comes into use stands for no row that was there
takes_new : (ports : PortsState) (h next n : ℕ) (e : Event) → n < next → inbound_of h ports ≡ None
    → takes_row (taken_into_use h (Row next) ports) n e ≡ takes_row ports n e
takes_new ports h next n (Assert v g) less free = refl
takes_new ports h next n (Message v) less free = refl
takes_new ports h next n (Sync peer) less free = refl
takes_new ports h next n (Retract g) less free =
    ap (stands_for n) (entry_of_with g h (Row next) ports.handles)
    ∙ by (h == g) (λ is. subst (λ j. inbound_of j ports ≡ None) (one_number h g is) free)
  where
    by : (b : Bool) → (b ≡ true → inbound_of g ports ≡ None)
        → stands_for n (cond b (Some (Row next)) (inbound_of g ports)) ≡ stands_for n (inbound_of g ports)
    by true none = differ next n less ∙ sym (ap (stands_for n) (none refl))
    by false none = refl

-- it alone stands for the new row
takes_made : (ports : PortsState) (h next : ℕ) (e : Event) → StandBelow next ports
    → takes_row (taken_into_use h (Row next) ports) next e ≡ retracts h e
takes_made ports h next (Assert v g) stand = refl
takes_made ports h next (Message v) stand = refl
takes_made ports h next (Sync peer) stand = refl
takes_made ports h next (Retract g) stand =
    ap (stands_for next) (entry_of_with g h (Row next) ports.handles)
    ∙ by (h == g) (inbound_of g ports) refl
    ∙ turned
  where
    turned : (h == g) ≡ (g == h)
    turned = grind (arith, nat_tests)

    by : (b : Bool) (o : Option Inbound) → inbound_of g ports ≡ o
        → stands_for next (cond b (Some (Row next)) o) ≡ b
    by true o is = itself next
    by false None is = refl
    by false (Some Refused) is = refl
    by false (Some (Row m)) is = let less = stand g m is in grind (arith, nat_tests, less)

-- a handle that goes out of use stands for nothing
takes_freed : (ports : PortsState) (h n : ℕ) (e : Event) → KeysAscend ports.handles
    → stands_for n (inbound_of h ports) ≡ false → takes_row (freed h ports) n e ≡ takes_row ports n e
takes_freed ports h n (Assert v g) ascend not_it = refl
takes_freed ports h n (Message v) ascend not_it = refl
takes_freed ports h n (Sync peer) ascend not_it = refl
takes_freed ports h n (Retract g) ascend not_it =
    ap (stands_for n) (entry_of_without g h ports.handles ascend)
    ∙ by (h == g) (λ is. subst (λ j. stands_for n (inbound_of j ports) ≡ false) (one_number h g is) not_it)
  where
    by : (b : Bool) → (b ≡ true → stands_for n (inbound_of g ports) ≡ false)
        → stands_for n (cond b None (inbound_of g ports)) ≡ stands_for n (inbound_of g ports)
    by true none = sym (none refl)
    by false none = refl

-- ---- where the events so far have led

-- what a connection's acts so far make of the world's table
abbrev pub plan_of : ℕ → WorldState → Admitting → Plan
plan_of k w x = all_acted (actor_of k) x.acts (plan_over w.table)

pub record IsWalked (t : TableState) (next : ℕ) (ports : PortsState) : Type 0 where
  pub next_is : t.next ≡ next
  pub below : AllByRecursion (λ r. r.handle < next) t.rows
  pub once : AreOnce t.rows
  pub ascend : KeysAscend ports.handles
  pub stand : StandBelow next ports

-- the rows that are left, and those that the events to come ask for
abbrev pub rows_then : List Definition → ℕ → TableState → ℕ → PortsState → List TurnEvent → List TableRow
rows_then ds k t next ports es = rows_left k ports es t.rows ++ rows_asked ds ports.exports k next es

pub all_acted_more : (a : ℕ) (xs : List Act) (x : Act) (p : Plan)
    → all_acted a (xs ++ x ∷ []) p ≡ acted a x (all_acted a xs p)
all_acted_more a [] x p = refl
all_acted_more a (y ∷ xs) x p = all_acted_more a xs x (acted a y p)

-- ---- a message and a sync

quiet_leads : (ds : List Definition) (k oid : ℕ) (to : Option Cap) (ev : Event) (es : List TurnEvent) (t : TableState)
    (next : ℕ)
    (ports : PortsState) → cap_under ports.exports oid ≡ to
    → row_asked ds ports.exports k next to ev es ≡ []
    → next_after ds ports.exports k to ev next ≡ next → ((n : ℕ) → takes_row ports n ev ≡ false)
    → rows_then ds k t next ports es ≡ rows_then ds k t next ports (record { oid = oid; event = ev } ∷ es)
quiet_leads ds k oid to ev es t next ports found none same silent = λ i. left i ++ asked i
  where
    left : rows_left k ports es t.rows ≡ rows_left k ports (record { oid = oid; event = ev } ∷ es) t.rows
    left =
        filter_same _ _ t.rows
        (all_from _ (λ r. ap (λ b. not ((r.owner == actor_of k) && (b || takes ports es r.handle)))
        (sym (silent r.handle))) t.rows)

    asked : rows_asked ds ports.exports k next es
        ≡ rows_asked ds ports.exports k next (record { oid = oid; event = ev } ∷ es)
    asked =
        sym (λ i. (ap (λ o. row_asked ds ports.exports k next o ev es) found ∙ none) i
        ++ rows_asked ds ports.exports k ((ap (λ o. next_after ds ports.exports k o ev next) found ∙ same) i) es)

-- ---- an assertion

abbrev new_row : ℕ → Cap → Plain → ℕ → TableRow
new_row k to v n = record {
  handle = n;
  owner = actor_of k;
  facet = 0;
  target = to.actor;
  entity = to.entity;
  value = v;
}

walked_made : (k h : ℕ) (to : Cap) (v : Plain) (t : TableState) (next : ℕ) (ports : PortsState)
    → IsWalked t next ports
    → IsWalked (asserted (actor_of k) 0 to.actor to.entity v t) (next + 1) (taken_into_use h (Row next) ports)
walked_made k h to v t next ports walked = record {
  next_is = ap (λ n. n + 1) walked.next_is;
  below = all_append _ t.rows (new_row k to v t.next ∷ [])
      (all_weaker _ _ (λ r l. omega (arith, l)) t.rows walked.below) (omega (arith, walked.next_is), tt);
  once = once_push t.rows (new_row k to v t.next)
      (subst (λ n. AllByRecursion (λ r. r.handle < n) t.rows) (sym walked.next_is) walked.below) walked.once;
  ascend = ascend_with h (Row next) ports.handles walked.ascend;
  stand = λ g n is.
      by g n (h == g) (inbound_of g ports) refl (sym (entry_of_with g h (Row next) ports.handles) ∙ is);
}
  where
    by : (g n : ℕ) (b : Bool) (o : Option Inbound) → inbound_of g ports ≡ o
        → cond b (Some (Row next)) o ≡ Some (Row n) → n < next + 1
    by g n true o found is = let same : next ≡ n = cc in omega (arith, same)
    by g n false o found is = let less = walked.stand g n (found ∙ is) in omega (arith, less)

-- what an assertion asks for, at the reference that is found
asked_at : (ds : List Definition) (k h oid : ℕ) (to : Cap) (v : Plain) (o : Option Plain) (es : List TurnEvent)
    (next : ℕ) (ports : PortsState)
    → cap_under ports.exports oid ≡ Some to → let_in ds ports.exports k to v ≡ o
    → rows_asked ds ports.exports k next (record { oid = oid; event = Assert v h } ∷ es)
    ≡ row_of k next to (takes_back es h) o
    ++ rows_asked ds ports.exports k (if is_some o then next + 1 else next) es
asked_at ds k h oid to v o es next ports found is =
    ap (λ c. row_asked ds ports.exports k next c (Assert v h) es
    ++ rows_asked ds ports.exports k (next_after ds ports.exports k c (Assert v h) next) es) found
    ∙ ap (λ p. row_of k next to (takes_back es h) p
    ++ rows_asked ds ports.exports k (if is_some p then next + 1 else next) es) is

-- of a value that gets through
assert_leads : (ds : List Definition) (k h oid : ℕ) (to : Cap) (v u : Plain) (es : List TurnEvent) (t : TableState)
    (next : ℕ)
    (ports : PortsState) → cap_under ports.exports oid ≡ Some to → let_in ds ports.exports k to v ≡ Some u
    → inbound_of h ports ≡ None → IsWalked t next ports
    → rows_then ds k (asserted (actor_of k) 0 to.actor to.entity u t) (next + 1) (taken_into_use h (Row next) ports) es
    ≡ rows_then ds k t next ports (record { oid = oid; event = Assert v h } ∷ es)
assert_leads ds k h oid to v u es t next ports found through free walked =
    ap (λ rows. rows ++ later) (filter-append _ t.rows (new t.next ∷ [])
    ∙ (λ i. old i ++ made i))
    ∙ append_assoc (rows_left k ports (record { oid = oid; event = Assert v h } ∷ es) t.rows)
    (row_of k next to (takes_back es h) (Some u)) later
    ∙ ap (λ rows. rows_left k ports (record { oid = oid; event = Assert v h } ∷ es) t.rows ++ rows)
    (sym (asked_at ds k h oid to v (Some u) es next ports found through))
  where
    after_it : PortsState
    after_it = taken_into_use h (Row next) ports

    later : List TableRow
    later = rows_asked ds ports.exports k (next + 1) es

    new : ℕ → TableRow
    new n = new_row k to u n

    old : rows_left k after_it es t.rows
        ≡ rows_left k ports (record { oid = oid; event = Assert v h } ∷ es) t.rows
    old =
        filter_same _ _ t.rows
        (all_weaker _ _ (λ r less. ap (λ b. not ((r.owner == actor_of k) && b))
        (any_same _ _ (λ e. takes_new ports h next r.handle e.event less free) es)) t.rows walked.below)

    stays_or_goes : (b c : Bool) → b ≡ true
        → cond (not (b && c)) (new next ∷ []) [] ≡ row_of k next to c (Some u)
    stays_or_goes true true is = refl
    stays_or_goes true false is = refl
    stays_or_goes false c is = absurd cc

    made : rows_left k after_it es (new t.next ∷ []) ≡ row_of k next to (takes_back es h) (Some u)
    made =
        ap (λ n. rows_left k after_it es (new n ∷ [])) walked.next_is
        ∙ ap (λ b. cond (not ((actor_of k == actor_of k) && b)) (new next ∷ []) [])
        (any_same _ _ (λ e. takes_made ports h next e.event walked.stand) es)
        ∙ stays_or_goes (actor_of k == actor_of k) (takes_back es h) (itself (actor_of k))

-- a handle that comes into use for no row takes no row
takes_noted : (ports : PortsState) (h n : ℕ) (e : Event) → inbound_of h ports ≡ None
    → takes_row (taken_into_use h Refused ports) n e ≡ takes_row ports n e
takes_noted ports h n (Assert v g) free = refl
takes_noted ports h n (Message v) free = refl
takes_noted ports h n (Sync peer) free = refl
takes_noted ports h n (Retract g) free =
    ap (stands_for n) (entry_of_with g h Refused ports.handles)
    ∙ by (h == g) (λ is. subst (λ j. inbound_of j ports ≡ None) (one_number h g is) free)
  where
    by : (b : Bool) → (b ≡ true → inbound_of g ports ≡ None)
        → stands_for n (cond b (Some Refused) (inbound_of g ports)) ≡ stands_for n (inbound_of g ports)
    by true none = sym (ap (stands_for n) (none refl))
    by false none = refl

-- of one that makes no row
noted_leads : (ds : List Definition) (k h oid : ℕ) (v : Plain) (es : List TurnEvent) (t : TableState) (next : ℕ)
    (ports : PortsState)
    → rows_asked ds ports.exports k next (record { oid = oid; event = Assert v h } ∷ es)
    ≡ rows_asked ds ports.exports k next es
    → inbound_of h ports ≡ None
    → rows_then ds k t next (taken_into_use h Refused ports) es
    ≡ rows_then ds k t next ports (record { oid = oid; event = Assert v h } ∷ es)
noted_leads ds k h oid v es t next ports asked free = λ i. left i ++ sym asked i
  where
    left : rows_left k (taken_into_use h Refused ports) es t.rows
        ≡ rows_left k ports (record { oid = oid; event = Assert v h } ∷ es) t.rows
    left =
        filter_same _ _ t.rows
        (all_from _ (λ r. ap (λ b. not ((r.owner == actor_of k) && b))
        (any_same _ _ (λ e. takes_noted ports h r.handle e.event free) es)) t.rows)

walked_noted : (h : ℕ) (t : TableState) (next : ℕ) (ports : PortsState) → IsWalked t next ports
    → IsWalked t next (taken_into_use h Refused ports)
walked_noted h t next ports walked = record {
  next_is = walked.next_is;
  below = walked.below;
  once = walked.once;
  ascend = ascend_with h Refused ports.handles walked.ascend;
  stand = λ g n is.
      by g n (h == g) (inbound_of g ports) refl (sym (entry_of_with g h Refused ports.handles) ∙ is);
}
  where
    by : (g n : ℕ) (b : Bool) (o : Option Inbound) → inbound_of g ports ≡ o → cond b (Some Refused) o ≡ Some (Row n)
        → n < next
    by g n true o found is = absurd cc
    by g n false o found is = walked.stand g n (found ∙ is)

-- ---- a retraction

abbrev retraction : ℕ → ℕ → TurnEvent
retraction oid h = record { oid = oid; event = Retract h }

-- wherever it is, it asks for no row
retracts_none : (ds : List Definition) (exports : ExportTable) (k next h : ℕ) (o : Option Cap) (es : List TurnEvent)
    → row_asked ds exports k next o (Retract h) es ≡ []
retracts_none ds exports k next h None es = refl
retracts_none ds exports k next h (Some to) es = refl

draws_none : (ds : List Definition) (exports : ExportTable) (k next h : ℕ) (o : Option Cap)
    → next_after ds exports k o (Retract h) next ≡ next
draws_none ds exports k next h None = refl
draws_none ds exports k next h (Some to) = refl

asked_alike : (ds : List Definition) (k oid h : ℕ) (es : List TurnEvent) (next : ℕ) (ports : PortsState)
    → rows_asked ds ports.exports k next es ≡ rows_asked ds ports.exports k next (retraction oid h ∷ es)
asked_alike ds k oid h es next ports =
    let to : Option Cap = cap_under ports.exports oid in
    sym (λ i. retracts_none ds ports.exports k next h to es i
    ++ rows_asked ds ports.exports k (draws_none ds ports.exports k next h to i) es)

-- a row for which the handle doesn't stand is taken back as before
taken_alike : (ports : PortsState) (h n : ℕ) (es : List TurnEvent) → KeysAscend ports.handles
    → stands_for n (inbound_of h ports) ≡ false
    → takes (freed h ports) es n ≡ (stands_for n (inbound_of h ports) || takes ports es n)
taken_alike ports h n es ascend not_it =
    any_same _ _ (λ e. takes_freed ports h n e.event ascend not_it) es
    ∙ ap (λ b. b || takes ports es n) (sym not_it)

walked_freed : (h : ℕ) (t u : TableState) (next : ℕ) (ports : PortsState) → IsWalked t next ports → u.next ≡ t.next
    → AllByRecursion (λ r. r.handle < next) u.rows → AreOnce u.rows → IsWalked u next (freed h ports)
walked_freed h t u next ports walked same below once = record {
  next_is = same ∙ walked.next_is;
  below = below;
  once = once;
  ascend = ascend_without h ports.handles walked.ascend;
  stand = λ g n is. by g n (h == g) (inbound_of g ports) refl
      (sym (entry_of_without g h ports.handles walked.ascend) ∙ is);
}
  where
    by : (g n : ℕ) (b : Bool) (o : Option Inbound) → inbound_of g ports ≡ o → cond b None o ≡ Some (Row n) → n < next
    by g n true o found is = absurd cc
    by g n false o found is = walked.stand g n (found ∙ is)

-- of a handle that stands for no row
refused_leads : (ds : List Definition) (k h oid : ℕ) (es : List TurnEvent) (t : TableState) (next : ℕ)
    (ports : PortsState) → inbound_of h ports ≡ Some Refused → IsWalked t next ports
    → rows_then ds k t next (freed h ports) es ≡ rows_then ds k t next ports (retraction oid h ∷ es)
refused_leads ds k h oid es t next ports stood walked =
    λ i. left i ++ asked_alike ds k oid h es next ports i
  where
    left : rows_left k (freed h ports) es t.rows ≡ rows_left k ports (retraction oid h ∷ es) t.rows
    left =
        filter_same _ _ t.rows
        (all_from _ (λ r. ap (λ b. not ((r.owner == actor_of k) && b))
        (taken_alike ports h r.handle es walked.ascend (ap (stands_for r.handle) stood))) t.rows)

-- of one that stands for a row
taken_leads : (ds : List Definition) (k h m oid : ℕ) (es : List TurnEvent) (t u : TableState) (next : ℕ)
    (ports : PortsState) → inbound_of h ports ≡ Some (Row m) → IsWalked t next ports
    → u.rows ≡ filter (stays (actor_of k) m) t.rows
    → rows_then ds k u next (freed h ports) es ≡ rows_then ds k t next ports (retraction oid h ∷ es)
taken_leads ds k h m oid es t u next ports stood walked less =
    λ i. left i ++ asked_alike ds k oid h es next ports i
  where
    each : (r : TableRow) (own same : Bool) → (m == r.handle) ≡ same → (r.handle == m) ≡ same
        → (not (same && own) && not (own && takes (freed h ports) es r.handle))
        ≡ not (own && (stands_for r.handle (inbound_of h ports) || takes ports es r.handle))
    each r false true is back = refl
    each r false false is back = refl
    each r true true is back =
        sym (ap (λ b. not (b || takes ports es r.handle)) (ap (stands_for r.handle) stood ∙ is))
    each r true false is back =
        ap not (taken_alike ports h r.handle es walked.ascend (ap (stands_for r.handle) stood ∙ is))

    turned : (r : TableRow) → (m == r.handle) ≡ (r.handle == m)
    turned r = grind (arith, nat_tests)

    left : rows_left k (freed h ports) es u.rows ≡ rows_left k ports (retraction oid h ∷ es) t.rows
    left =
        ap (rows_left k (freed h ports) es) less
        ∙ filter_filter _ (stays (actor_of k) m) t.rows
        ∙ filter_same _ _ t.rows
        (all_from _ (λ r. each r (r.owner == actor_of k) (r.handle == m) (turned r) refl) t.rows)

-- ---- any event

-- where the events so far have led, and that with one event more the same comes of all
pub record Leads (k : ℕ) (w : WorldState) (e : TurnEvent) (es : List TurnEvent) (x y : Admitting) : Type 0 where
  pub walked : IsWalked (plan_of k w y).table y.next y.ports
  pub later : x.next ≤ y.next
  pub same : rows_then w.schema k (plan_of k w y).table y.next y.ports es
      ≡ rows_then w.schema k (plan_of k w x).table x.next x.ports (e ∷ es)

or_none : (f g : Option Fault) → option_or f g ≡ None → (f ≡ None) × (g ≡ None)
or_none None g is = (refl, is)
or_none (Some f) g is = absurd cc

retraction_leads : (k oid h : ℕ) (w : WorldState) (es : List TurnEvent) (x : Admitting) (o : Option Inbound)
    → inbound_of h x.ports ≡ o → IsWalked (plan_of k w x).table x.next x.ports
    → Leads k w (retraction oid h) es x (after_retraction h o w x)
retraction_leads k oid h w es x None stood walked = record {
  walked = walked;
  later = omega arith;
  same = quiet_leads w.schema k oid (cap_under x.ports.exports oid) (Retract h) es (plan_of k w x).table x.next x.ports
      refl (retracts_none w.schema x.ports.exports k x.next h (cap_under x.ports.exports oid) es)
      (draws_none w.schema x.ports.exports k x.next h (cap_under x.ports.exports oid)) (λ n. ap (stands_for n) stood);
}
retraction_leads k oid h w es x (Some Refused) stood walked = record {
  walked =
      walked_freed h (plan_of k w x).table (plan_of k w x).table x.next x.ports walked refl walked.below walked.once;
  later = omega arith;
  same = refused_leads w.schema k h oid es (plan_of k w x).table x.next x.ports stood walked;
}
retraction_leads k oid h w es x (Some (Row m)) stood walked =
    let t : TableState = (plan_of k w x).table in
    let u : TableState = (plan_of k w (after_retraction h (Some (Row m)) w x)).table in
    let is : u ≡ (dropped (actor_of k) m (plan_of k w x)).table =
    ap (λ p. p.table) (all_acted_more (actor_of k) x.acts (act.Retract m) (plan_over w.table)) in
    let rows : u.rows ≡ filter (stays (actor_of k) m) t.rows =
    ap (λ v. v.rows) is ∙ rows_dropped (actor_of k) m (plan_of k w x) walked.once in
    record {
      walked = walked_freed h t u x.next x.ports walked
          (ap (λ v. v.next) is ∙ next_dropped (actor_of k) m (plan_of k w x))
          (subst (AllByRecursion (λ r. r.handle < x.next)) (sym rows)
          (all_kept _ (stays (actor_of k) m) t.rows walked.below))
          (subst AreOnce (sym rows) (once_filter (stays (actor_of k) m) t.rows walked.once));
      later = omega arith;
      same = taken_leads w.schema k h m oid es t u x.next x.ports stood walked rows;
    }

free_handle : (h : ℕ) (ports : PortsState) → where_it_is (is_in_use h ports) (HandleInUse h) ≡ None
    → inbound_of h ports ≡ None
free_handle h ports is = by (inbound_of h ports) is
  where
    by : (o : Option Inbound) → where_it_is (is_some o) (HandleInUse h) ≡ None → o ≡ None
    by None is = refl
    by (Some i) is = absurd cc

assertion_leads : (k oid h : ℕ) (w : WorldState) (to : Cap) (v : Plain) (o : Option Plain) (es : List TurnEvent)
    (x : Admitting) → cap_under x.ports.exports oid ≡ Some to → let_in w.schema x.ports.exports k to v ≡ o
    → inbound_of h x.ports ≡ None → IsWalked (plan_of k w x).table x.next x.ports
    → Leads k w (record { oid = oid; event = Assert v h }) es x (after_assertion w to o h x)
assertion_leads k oid h w to v None es x found through free walked = record {
  walked = walked_noted h (plan_of k w x).table x.next x.ports walked;
  later = omega arith;
  same = noted_leads w.schema k h oid v es (plan_of k w x).table x.next x.ports
      (asked_at w.schema k h oid to v None es x.next x.ports found through) free;
}
assertion_leads k oid h w to v (Some u) es x found through free walked =
    let is : (plan_of k w (after_assertion w to (Some u) h x)).table
    ≡ asserted (actor_of k) 0 to.actor to.entity u (plan_of k w x).table =
    ap (λ p. p.table) (all_acted_more (actor_of k) x.acts _ (plan_over w.table)) in
    record {
      walked = subst (λ t. IsWalked t (x.next + 1) (taken_into_use h (Row x.next) x.ports)) (sym is)
          (walked_made k h to u (plan_of k w x).table x.next x.ports walked);
      later = omega arith;
      same = ap (λ t. rows_then w.schema k t (x.next + 1) (taken_into_use h (Row x.next) x.ports) es) is
          ∙ assert_leads w.schema k h oid to v u es (plan_of k w x).table x.next x.ports found through free walked;
    }

message_leads : (k oid : ℕ) (w : WorldState) (to : Cap) (v : Plain) (o : Option Plain) (es : List TurnEvent)
    (x : Admitting) → cap_under x.ports.exports oid ≡ Some to → IsWalked (plan_of k w x).table x.next x.ports
    → Leads k w (record { oid = oid; event = Message v }) es x (after_message w to o x)
message_leads k oid w to v None es x found walked = record {
  walked = walked;
  later = omega arith;
  same = quiet_leads w.schema k oid (Some to) (Message v) es (plan_of k w x).table x.next x.ports found refl refl
      (λ n. refl);
}
message_leads k oid w to v (Some u) es x found walked =
    let is : (plan_of k w (after_message w to (Some u) x)).table ≡ (plan_of k w x).table =
    ap (λ p. p.table) (all_acted_more (actor_of k) x.acts _ (plan_over w.table)) in
    record {
      walked = subst (λ t. IsWalked t x.next x.ports) (sym is) walked;
      later = omega arith;
      same = ap (λ t. rows_then w.schema k t x.next x.ports es) is
          ∙ quiet_leads w.schema k oid (Some to) (Message v) es (plan_of k w x).table x.next x.ports found refl refl
          (λ n. refl);
    }

sync_leads : (k oid : ℕ) (w : WorldState) (to : Cap) (peer : Plain) (o : Option Plain) (es : List TurnEvent)
    (x : Admitting) → cap_under x.ports.exports oid ≡ Some to → IsWalked (plan_of k w x).table x.next x.ports
    → Leads k w (record { oid = oid; event = Sync peer }) es x (after_sync w to o x)
sync_leads k oid w to peer None es x found walked = record {
  walked = walked;
  later = omega arith;
  same = quiet_leads w.schema k oid (Some to) (Sync peer) es (plan_of k w x).table x.next x.ports found refl refl
      (λ n. refl);
}
sync_leads k oid w to peer (Some u) es x found walked =
    let is : (plan_of k w (after_sync w to (Some u) x)).table ≡ (plan_of k w x).table =
    ap (λ p. p.table) (all_acted_more (actor_of k) x.acts _ (plan_over w.table)) in
    record {
      walked = subst (λ t. IsWalked t x.next x.ports) (sym is) walked;
      later = omega arith;
      same = ap (λ t. rows_then w.schema k t x.next x.ports es) is
          ∙ quiet_leads w.schema k oid (Some to) (Sync peer) es (plan_of k w x).table x.next x.ports found refl refl
          (λ n. refl);
    }

-- of an event at a released export
stale_leads : (k oid : ℕ) (w : WorldState) (ev : Event) (es : List TurnEvent) (x : Admitting)
    → cap_under x.ports.exports oid ≡ None → stale_cause ev x ≡ None
    → IsWalked (plan_of k w x).table x.next x.ports
    → Leads k w (record { oid = oid; event = ev }) es x (after_stale w ev x)
stale_leads k oid w (Assert v h) es x found none walked =
    let ds : List Definition = w.schema in
    let exports : ExportTable = x.ports.exports in
    record {
      walked = walked_noted h (plan_of k w x).table x.next x.ports walked;
      later = omega arith;
      same = noted_leads ds k h oid v es (plan_of k w x).table x.next x.ports
          (ap (λ c. row_asked ds exports k x.next c (Assert v h) es
          ++ rows_asked ds exports k (next_after ds exports k c (Assert v h) x.next) es) found)
          (free_handle h x.ports (or_none _ _ (or_none _ _ none).1).0);
    }
stale_leads k oid w (Retract h) es x found none walked =
    retraction_leads k oid h w es x (inbound_of h x.ports) refl walked
stale_leads k oid w (Message v) es x found none walked = record {
  walked = walked;
  later = omega arith;
  same = quiet_leads w.schema k oid None (Message v) es (plan_of k w x).table x.next x.ports found refl refl (λ n. refl);
}
stale_leads k oid w (Sync peer) es x found none walked = record {
  walked = walked;
  later = omega arith;
  same = quiet_leads w.schema k oid None (Sync peer) es (plan_of k w x).table x.next x.ports found refl refl (λ n. refl);
}

event_leads : (k oid : ℕ) (w : WorldState) (to : Cap) (ev : Event) (es : List TurnEvent) (x : Admitting)
    → cap_under x.ports.exports oid ≡ Some to → event_cause k w to ev x ≡ None
    → IsWalked (plan_of k w x).table x.next x.ports
    → Leads k w (record { oid = oid; event = ev }) es x (after_event k w to ev x)
event_leads k oid w to (Assert v h) es x found none walked =
    assertion_leads k oid h w to v (let_in w.schema x.ports.exports k to v) es x found refl
    (free_handle h x.ports (or_none _ _ (or_none _ _ (or_none _ _ none).0).1).0) walked
event_leads k oid w to (Retract h) es x found none walked =
    retraction_leads k oid h w es x (inbound_of h x.ports) refl walked
event_leads k oid w to (Message v) es x found none walked =
    message_leads k oid w to v (let_in w.schema x.ports.exports k to v) es x found walked
event_leads k oid w to (Sync peer) es x found none walked =
    sync_leads k oid w to peer (peer_kept k peer x) es x found walked

-- ---- where an event is

abbrev pub cap_in : Aim → Option Cap
cap_in (object to) = Some to
cap_in stale = None
cap_in unknown = None

-- the reference at which an event is, is the export in force
pub under_aim : (oid : ℕ) (p : PortsState) → cap_in (aim_at oid p) ≡ cap_under p.exports oid
under_aim oid p = by (export_of oid p.exports) (nat_lt oid p.exports.next)
  where
    read : (o : Option Cap) → cap_in (aim_of o) ≡ o
    read None = refl
    read (Some to) = refl

    by : (o : Option Plain) (b : Bool) → cap_in (aimed (standing_of o b)) ≡ option_and_then cap_of o
    by (Some r) b = read (cap_of r)
    by None true = refl
    by None false = refl

-- ---- all events

all_left : (ds : List Definition) (k : ℕ) (t : TableState) (next : ℕ) (ports : PortsState)
    → rows_then ds k t next ports [] ≡ t.rows
all_left ds k t next ports =
    append-nil (rows_left k ports [] t.rows)
    ∙ filter_all _ t.rows (all_from _ (λ r. by (r.owner == actor_of k)) t.rows)
  where
    by : (b : Bool) → not (b && false) ≡ true
    by true = refl
    by false = refl

-- where all events have led, and the rows then
pub record HaveLed (k : ℕ) (w : WorldState) (es : List TurnEvent) (x y : Admitting) : Type 0 where
  pub walked : IsWalked (plan_of k w y).table y.next y.ports
  pub later : x.next ≤ y.next
  pub rows : (plan_of k w y).table.rows ≡ rows_then w.schema k (plan_of k w x).table x.next x.ports es

pub all_led : (k : ℕ) (w : WorldState) (es : List TurnEvent) (x y : Admitting)
    → IsWalked (plan_of k w x).table x.next x.ports → all_admitted k w es x ≡ admitted y → HaveLed k w es x y
all_led k w [] x y walked is =
    let same : x ≡ y = cc in
    subst (HaveLed k w [] x) same (record {
      walked = walked;
      later = omega arith;
      rows = sym (all_left w.schema k (plan_of k w x).table x.next x.ports);
    })
all_led k w (e ∷ es) x y walked is =
    by (cause_of k w e x) refl is (λ walked_on later. all_led k w es (after k w e x) y walked_on later)
  where
    at : (o : Aim) → aim_at e.oid x.ports ≡ o → cause_at k w o e x ≡ None
        → Leads k w e es x (after_at k w o e.event x)
    at (object to) is none =
        event_leads k e.oid w to e.event es x (sym (under_aim e.oid x.ports) ∙ ap cap_in is) none walked
    at stale is none = stale_leads k e.oid w e.event es x (sym (under_aim e.oid x.ports) ∙ ap cap_in is) none walked
    at unknown is none = absurd cc

    by : (c : Option Fault) → cause_of k w e x ≡ c → unless c (all_admitted k w es (after k w e x)) ≡ admitted y
        → (IsWalked (plan_of k w (after k w e x)).table (after k w e x).next (after k w e x).ports
        → all_admitted k w es (after k w e x) ≡ admitted y → HaveLed k w es (after k w e x) y)
        → HaveLed k w (e ∷ es) x y
    by None none is later =
        let l = at (aim_at e.oid x.ports) refl none in
        let led = later l.walked is in
        record { walked = led.walked; later = omega (arith, l.later, led.later); rows = led.rows ∙ l.same }
    by (Some f) some is later = absurd cc

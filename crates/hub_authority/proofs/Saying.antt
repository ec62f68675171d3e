-- The messages that a packet brings to an actor's inbox: those for which its events ask.
use Rattle.std.proofs.Common.{◌≡◌, ℕ, List, [], ◌∷◌, ◌++◌, ◌==◌, Bool, true, false, cond, Option, Some, None}
use Rattle.std.proofs.Common.{refl, ap, sym, ◌∙◌, subst, arith, Less}
use Rattle.std.proofs.lemmas.Bool.Decides.{nat_tests}
use Rattle.std.proofs.lemmas.List.{append-nil, append_assoc}
use Rattle.std.proofs.lemmas.Map.Keys.{sorted_head, sorted_tail}
use Rattle.std.specs.BTreeMap.{is_at}
use Rattle.std.specs.Prelude.{unwrap_or}
use Rattle.std.specs.List.{AllByRecursion}
use Rattle.std.specs.Map.{keys_of}
use Rattle.std.specs.Ordering.{nat_cmp}
use Rattle.pv_value.specs.Plain.{Plain}
use Rattle.sr_caveat.specs.declared.caps.Cap.{Cap}
use Rattle.ac_table.specs.declared.batches.Batch.{Batch}
use Rattle.ac_table.specs.declared.batches.Event.{Event as Told}
use Rattle.ac_table.specs.declared.batches.Event.TheVariants as told_event
use Rattle.ac_table.specs.declared.batches.Row.{Row as TableRow}
use Rattle.ac_table.specs.Tables.{Actor, TableState, find_actor, find_row, with_inbox, pushed}
use Rattle.ac_world.specs.declared.acts.Act.{Act}
use Rattle.ac_world.specs.declared.acts.Act.TheVariants as act
use Rattle.ac_world.specs.Outboxes.{Outbox, told_to, told, posted, Plan, plan_over, drop_row, drop_own, dropped, acted}
use Rattle.ac_world.specs.Outboxes.{all_acted, retractions}
use Rattle.ac_world.specs.Worlds.{WorldState, actor_of, entry_of}
use Rattle.ac_world.specs.Lemmas.Entries.{KeysAscend, ascend_with, entry_of_with, entry_of_above}
use Rattle.rl_packet.specs.declared.packets.Event.{Event}
use Rattle.rl_packet.specs.declared.packets.Event.TheVariants.{Assert, Retract, Message, Sync}
use Rattle.rl_packet.specs.declared.packets.TurnEvent.{TurnEvent}
use Rattle.rl_ports.specs.declared.ports.Inbound.{Inbound}
use Rattle.rl_ports.specs.declared.ports.Inbound.TheVariants.{Row, Refused}
use Rattle.rl_ports.specs.Ports.{inbound_of}
use Rattle.hub_machine.specs.declared.faults.Fault.{Fault}
use Rattle.hub_machine.specs.Admission.{Admitting, admitted, cause_of, cause_at, after, after_at, after_event}
use Rattle.hub_machine.specs.Admission.{after_assertion, after_message, after_retraction, unless, all_admitted}
use Rattle.hub_machine.specs.Admission.{Aim, object, stale, unknown, aim_at, peer_kept, after_stale, after_sync}
use Rattle.hub_valid.specs.Lemmas.Admitted.{exports_after}
use Rattle.hub_authority.specs.Asked.{cap_under, let_in, message_to, message_asked, messages_asked, message_in}
use Rattle.hub_laws.specs.Standing.{events_of}
use Rattle.hub_authority.specs.Asked.{messages_in}
use Rattle.hub_authority.proofs.Asking.{plan_of, all_acted_more, cap_in, under_aim}
use Rattle.hub_valid.specs.Lemmas.Lists.{flat_map_append}

-- ---- what is said in an outbox

-- the messages for actor b in an outbox
abbrev pub said_to : ℕ → Outbox → List Told
said_to b out = messages_in (told_to b out)

-- what one event adds to them
abbrev said_by : ℕ → ℕ → Told → List Told
said_by b target e = cond (target == b) (message_in e) []

said_told : (b target : ℕ) (e : Told) (out : Outbox) → said_to b (told target e out)
    ≡ said_to b out ++ said_by b target e
said_told b target e out =
    ap (λ o. messages_in (unwrap_or o [])) (entry_of_with b target (told_to target out ++ e ∷ []) out)
    ∙ by (target == b) refl
  where
    by : (c : Bool) → (target == b) ≡ c
        → messages_in (unwrap_or (cond c (Some (told_to target out ++ e ∷ [])) (entry_of b out)) [])
        ≡ said_to b out ++ cond c (message_in e) []
    by true is =
        let one : target ≡ b = grind (arith, nat_tests, is) in
        flat_map_append message_in (told_to target out) (e ∷ [])
        ∙ (λ i. said_to (one i) out ++ append-nil (message_in e) i)
    by false is = sym (append-nil (said_to b out))

-- what is no message adds nothing
said_nothing : (b target : ℕ) (e : Told) (out : Outbox) → message_in e ≡ [] → said_to b (told target e out)
    ≡ said_to b out
said_nothing b target e out none =
    said_told b target e out ∙ ap (λ es. said_to b out ++ es) (by (target == b)) ∙ append-nil (said_to b out)
  where
    by : (c : Bool) → cond c (message_in e) [] ≡ []
    by true = none
    by false = refl

said_dropped : (b a n : ℕ) (p : Plan) → said_to b (dropped a n p).out ≡ said_to b p.out
said_dropped b a n p = by (find_row n p.table.rows)
  where
    drops : (r : TableRow) (c : Bool) → said_to b (cond c (drop_row r p) p).out ≡ said_to b p.out
    drops r true = said_nothing b r.target (told_event.Retract r.handle r.entity) p.out refl
    drops r false = refl

    by : (o : Option TableRow) → said_to b (drop_own a o p).out ≡ said_to b p.out
    by None = refl
    by (Some r) = drops r (r.owner == a)

pub said_retractions : (b : ℕ) (rows : List TableRow) (out : Outbox) → said_to b (retractions rows out) ≡ said_to b out
said_retractions b [] out = refl
said_retractions b (r ∷ rs) out =
    said_retractions b rs (told r.target (told_event.Retract r.handle r.entity) out)
    ∙ said_nothing b r.target (told_event.Retract r.handle r.entity) out refl

-- ---- what is said by events

-- an assertion says nothing
assertion_says : (k b h : ℕ) (w : WorldState) (to : Cap) (o : Option Plain) (x : Admitting)
    → said_to b (plan_of k w (after_assertion w to o h x)).out ≡ said_to b (plan_of k w x).out
assertion_says k b h w to None x = refl
assertion_says k b h w to (Some v) x =
    ap (λ p. said_to b p.out) (all_acted_more (actor_of k) x.acts _ (plan_over w.table))
    ∙ said_nothing b to.actor _ (plan_of k w x).out refl

-- a message says what gets through
message_says : (k b : ℕ) (w : WorldState) (to : Cap) (o : Option Plain) (x : Admitting)
    → said_to b (plan_of k w (after_message w to o x)).out ≡ said_to b (plan_of k w x).out ++ message_to b to o
message_says k b w to None x = sym (append-nil (said_to b (plan_of k w x).out))
message_says k b w to (Some v) x =
    ap (λ p. said_to b p.out) (all_acted_more (actor_of k) x.acts _ (plan_over w.table))
    ∙ said_told b to.actor _ (plan_of k w x).out

-- a sync says nothing
sync_says : (k b : ℕ) (w : WorldState) (to : Cap) (o : Option Plain) (x : Admitting)
    → said_to b (plan_of k w (after_sync w to o x)).out ≡ said_to b (plan_of k w x).out
sync_says k b w to None x = refl
sync_says k b w to (Some v) x =
    ap (λ p. said_to b p.out) (all_acted_more (actor_of k) x.acts _ (plan_over w.table))
    ∙ said_nothing b to.actor _ (plan_of k w x).out refl

-- nor does a retraction
retraction_says : (k b h : ℕ) (w : WorldState) (o : Option Inbound) (x : Admitting)
    → said_to b (plan_of k w (after_retraction h o w x)).out ≡ said_to b (plan_of k w x).out
retraction_says k b h w None x = refl
retraction_says k b h w (Some Refused) x = refl
retraction_says k b h w (Some (Row n)) x =
    ap (λ p. said_to b p.out) (all_acted_more (actor_of k) x.acts (act.Retract n) (plan_over w.table))
    ∙ said_dropped b (actor_of k) n (plan_of k w x)

-- nor any event at a released export
stale_says : (k b : ℕ) (w : WorldState) (ev : Event) (x : Admitting)
    → said_to b (plan_of k w (after_stale w ev x)).out ≡ said_to b (plan_of k w x).out
stale_says k b w (Assert v h) x = refl
stale_says k b w (Retract h) x = retraction_says k b h w (inbound_of h x.ports) x
stale_says k b w (Message v) x = refl
stale_says k b w (Sync peer) x = refl

-- one event of a packet, at an export
event_says : (k b : ℕ) (w : WorldState) (to : Cap) (ev : Event) (x : Admitting)
    → said_to b (plan_of k w (after_event k w to ev x)).out
    ≡ said_to b (plan_of k w x).out ++ message_asked w.schema x.ports.exports k b (Some to) ev
event_says k b w to (Assert v h) x =
    assertion_says k b h w to (let_in w.schema x.ports.exports k to v) x ∙ sym (append-nil (said_to b
    (plan_of k w x).out))
event_says k b w to (Retract h) x =
    retraction_says k b h w (inbound_of h x.ports) x ∙ sym (append-nil (said_to b (plan_of k w x).out))
event_says k b w to (Message v) x = message_says k b w to (let_in w.schema x.ports.exports k to v) x
event_says k b w to (Sync peer) x =
    sync_says k b w to (peer_kept k peer x) x ∙ sym (append-nil (said_to b (plan_of k w x).out))

-- all events of a packet that is admitted
pub events_say : (k b : ℕ) (w : WorldState) (es : List TurnEvent) (x y : Admitting) → all_admitted k w es x ≡ admitted y
    → said_to b (plan_of k w y).out ≡ said_to b (plan_of k w x).out ++ messages_asked w.schema x.ports.exports k b es
events_say k b w [] x y is =
    let same : x ≡ y = cc in
    ap (λ z. said_to b (plan_of k w z).out) (sym same) ∙ sym (append-nil (said_to b (plan_of k w x).out))
events_say k b w (e ∷ es) x y is =
    by (cause_of k w e x) refl is (λ later. events_say k b w es (after k w e x) y later)
  where
    at : (o : Aim) → cause_at k w o e x ≡ None
        → said_to b (plan_of k w (after_at k w o e.event x)).out
        ≡ said_to b (plan_of k w x).out ++ message_asked w.schema x.ports.exports k b (cap_in o) e.event
    at (object to) none = event_says k b w to e.event x
    at stale none = stale_says k b w e.event x ∙ sym (append-nil (said_to b (plan_of k w x).out))
    at unknown none = absurd cc

    by : (c : Option Fault) → cause_of k w e x ≡ c → unless c (all_admitted k w es (after k w e x)) ≡ admitted y
        → (all_admitted k w es (after k w e x) ≡ admitted y → said_to b (plan_of k w y).out
        ≡ said_to b (plan_of k w (after k w e x)).out ++ messages_asked w.schema (after k w e x).ports.exports k b es)
        → said_to b (plan_of k w y).out
        ≡ said_to b (plan_of k w x).out ++ messages_asked w.schema x.ports.exports k b (e ∷ es)
    by None none is later =
        later is
        ∙ (λ i. at (aim_at e.oid x.ports) none i ++ messages_asked w.schema
        (exports_after k w (aim_at e.oid x.ports) e.event x i) k b es)
        ∙ ap (λ c. (said_to b (plan_of k w x).out ++ message_asked w.schema x.ports.exports k b c e.event)
        ++ messages_asked w.schema x.ports.exports k b es) (under_aim e.oid x.ports)
        ∙ append_assoc (said_to b (plan_of k w x).out)
        (message_asked w.schema x.ports.exports k b (cap_under x.ports.exports e.oid) e.event)
        (messages_asked w.schema x.ports.exports k b es)
    by (Some f) some is later = absurd cc

-- ---- the targets of an outbox ascend

ascend_dropped : (a n : ℕ) (p : Plan) → KeysAscend p.out → KeysAscend (dropped a n p).out
ascend_dropped a n p ascend = by (find_row n p.table.rows)
  where
    drops : (r : TableRow) (c : Bool) → KeysAscend (cond c (drop_row r p) p).out
    drops r true = ascend_with r.target _ p.out ascend
    drops r false = ascend

    by : (o : Option TableRow) → KeysAscend (drop_own a o p).out
    by None = ascend
    by (Some r) = drops r (r.owner == a)

ascend_acted : (a : ℕ) (x : Act) (p : Plan) → KeysAscend p.out → KeysAscend (acted a x p).out
ascend_acted a (act.Assert target entity v) p ascend = ascend_with target _ p.out ascend
ascend_acted a (act.Retract n) p ascend = ascend_dropped a n p ascend
ascend_acted a (act.Message target entity v) p ascend = ascend_with target _ p.out ascend
ascend_acted a (act.Sync target entity peer) p ascend = ascend_with target _ p.out ascend

pub ascend_all_acted : (a : ℕ) (xs : List Act) (p : Plan) → KeysAscend p.out → KeysAscend (all_acted a xs p).out
ascend_all_acted a [] p ascend = ascend
ascend_all_acted a (x ∷ xs) p ascend = ascend_all_acted a xs (acted a x p) (ascend_acted a x p ascend)

pub ascend_retractions : (rows : List TableRow) (out : Outbox) → KeysAscend out → KeysAscend (retractions rows out)
ascend_retractions [] out ascend = ascend
ascend_retractions (r ∷ rs) out ascend = ascend_retractions rs _ (ascend_with r.target _ out ascend)

-- ---- what is posted

-- an actor that has got these events behind its own
pub record HasGot (b : ℕ) (actors : List Actor) (before : List Batch) (es : List Told) : Type 0 where
  pub actor : Actor
  pub found : find_actor b actors ≡ Some actor
  pub events : events_of actor.inbox ≡ events_of before ++ es

found_pushed : (b : ℕ) (f : List Batch → List Batch) (xs : List Actor) (x : Actor) → find_actor b xs ≡ Some x
    → find_actor b (with_inbox b f xs) ≡ Some (record { number = x.number; inbox = f x.inbox })
found_pushed b f [] x is = absurd cc
found_pushed b f (y ∷ ys) x is = by (y.number == b) refl is (found_pushed b f ys x)
  where
    by : (c : Bool) → (y.number == b) ≡ c → cond c (Some y) (find_actor b ys) ≡ Some x
        → (find_actor b ys ≡ Some x
        → find_actor b (with_inbox b f ys) ≡ Some (record { number = x.number; inbox = f x.inbox }))
        → find_actor b (cond c (record { number = y.number; inbox = f y.inbox } ∷ ys) (y ∷ with_inbox b f ys))
        ≡ Some (record { number = x.number; inbox = f x.inbox })
    by true here is later =
        let same : y ≡ x = cc in
        ap (λ c. cond c (Some (record { number = y.number; inbox = f y.inbox })) (find_actor b ys)) here
        ∙ ap (λ (z : Actor). Some (record { number = z.number; inbox = f z.inbox })) same
    by false other is later = ap (λ c. cond c (Some y) (find_actor b (with_inbox b f ys))) other ∙ later is

found_other : (a b : ℕ) (f : List Batch → List Batch) (xs : List Actor) → (a == b) ≡ false
    → find_actor b (with_inbox a f xs) ≡ find_actor b xs
found_other a b f [] other = refl
found_other a b f (x ∷ xs) other = grind (arith, nat_tests, other, found_other a b f xs)

pub posted_events : (from b : ℕ) (out : Outbox) (t : TableState) (x : Actor) → KeysAscend out
    → find_actor b t.actors ≡ Some x → HasGot b (posted from out t).actors x.inbox (told_to b out)
posted_events from b [] t x ascend is =
    record { actor = x; found = is; events = sym (append-nil (events_of x.inbox)) }
posted_events from b (o ∷ os) t x ascend is =
    by (o.0 == b) refl
    (λ y found. posted_events from b os (pushed o.0 batch t) y (sorted_tail nat_cmp _ _ ascend) found)
  where
    batch : Batch
    batch = record { from = from; events = o.1 }

    push : List Batch → List Batch
    push bs = bs ++ batch ∷ []

    at_same : is_at (nat_cmp b) o.0 ≡ (o.0 == b)
    at_same = grind (arith, nat_tests)

    told_first : (c : Bool) → (o.0 == b) ≡ c → told_to b (o ∷ os) ≡ unwrap_or (cond c (Some o.1) (entry_of b os)) []
    told_first c is = ap (λ d. unwrap_or (cond d (Some o.1) (entry_of b os)) []) (at_same ∙ is)

    none_later : o.0 ≡ b → told_to b os ≡ []
    none_later same =
        ap (λ e. unwrap_or e []) (entry_of_above b os
        (subst (λ n. AllByRecursion (λ j. nat_cmp n j ≡ Less) (keys_of os)) same (sorted_head nat_cmp _ _ ascend)))

    by : (c : Bool) → (o.0 == b) ≡ c
        → ((y : Actor) → find_actor b (with_inbox o.0 push t.actors) ≡ Some y
        → HasGot b (posted from os (pushed o.0 batch t)).actors y.inbox (told_to b os))
        → HasGot b (posted from (o ∷ os) t).actors x.inbox (told_to b (o ∷ os))
    by true here later =
        let same : o.0 ≡ b = grind (arith, nat_tests, here) in
        let y : Actor = record { number = x.number; inbox = push x.inbox } in
        let got = later y (subst (λ n. find_actor b (with_inbox n push t.actors) ≡ Some y) (sym same)
        (found_pushed b push t.actors x is)) in
        record {
          actor = got.actor;
          found = got.found;
          events =
              got.events
              ∙ (λ i. flat_map_append (λ (d : Batch). d.events) x.inbox (batch ∷ []) i ++ none_later same i)
              ∙ append-nil (events_of x.inbox ++ (o.1 ++ []))
              ∙ ap (λ es. events_of x.inbox ++ es) (append-nil o.1)
              ∙ ap (λ es. events_of x.inbox ++ es) (sym (told_first true here));
        }
    by false other later =
        let got = later x (found_other o.0 b push t.actors other ∙ is) in
        record {
          actor = got.actor;
          found = got.found;
          events = got.events ∙ ap (λ es. events_of x.inbox ++ es) (sym (told_first false other));
        }

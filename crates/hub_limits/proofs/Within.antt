-- Each event of a packet against which there is no cause keeps what is summed what the rows weigh, and so do all.
use Rattle.std.proofs.Common.{◌≡◌, ℕ, ◌==◌, List, [], ◌∷◌, ◌++◌, Bool, true, false, cond, Option, Some, None}
use Rattle.std.proofs.Common.{refl, ap, sym, ◌∙◌, subst, arith, nat_lt}
use Rattle.std.specs.Option.{option_or}
use Rattle.std.proofs.lemmas.Bool.Decides.{nat_tests}
use Rattle.pv_value.specs.Plain.{Plain}
use Rattle.sr_caveat.specs.declared.caps.Cap.{Cap}
use Rattle.ac_table.specs.declared.batches.Row.{Row as TableRow}
use Rattle.ac_table.specs.Tables.{find_row, retracted}
use Rattle.ac_world.specs.declared.acts.Act.{Act}
use Rattle.ac_world.specs.declared.acts.Act.TheVariants as act
use Rattle.ac_world.specs.Outboxes.{Plan, plan_over, drop_row, drop_own, dropped, acted, all_acted}
use Rattle.ac_world.specs.Worlds.{WorldState, actor_of}
use Rattle.rl_packet.specs.declared.packets.Event.{Event}
use Rattle.rl_packet.specs.declared.packets.Event.TheVariants.{Assert, Retract, Message, Sync}
use Rattle.rl_packet.specs.declared.packets.TurnEvent.{TurnEvent}
use Rattle.rl_ports.specs.declared.ports.Inbound.{Inbound}
use Rattle.rl_ports.specs.declared.ports.Inbound.TheVariants.{Row, Refused}
use Rattle.rl_ports.specs.Ports.{inbound_of}
use Rattle.hub_machine.specs.declared.faults.Fault.{Fault}
use Rattle.hub_machine.specs.declared.faults.Fault.TheVariants.{Limit}
use Rattle.hub_machine.specs.Faults.{where_it_is}
use Rattle.hub_machine.specs.Admission.{Admitting, admitted, unless, all_admitted, Aim, object, stale, unknown, aim_at}
use Rattle.hub_machine.specs.Admission.{cause_of, cause_at, event_cause, row_cause, rows_with, weighed, load_with}
use Rattle.hub_machine.specs.Admission.{through, peer_kept, after, after_at, after_event, after_stale}
use Rattle.hub_machine.specs.Admission.{after_assertion, after_retraction, after_message, after_sync}
use Rattle.hub_machine.specs.Causes.{after_all, NoneAgainst}
use Rattle.hub_laws.proofs.Finding.{found_handle}
use Rattle.hub_limits.proofs.Weighed.{IsWeighed, refused_weighed, freed_weighed, said_weighed, made_weighed}
use Rattle.hub_limits.proofs.Weighed.{gone_weighed}

-- what the connection's acts so far make of the world's table
abbrev pub plan_of : ℕ → WorldState → Admitting → Plan
plan_of k w x = all_acted (actor_of k) x.acts (plan_over w.table)

-- so far what is summed is what the rows weigh
abbrev pub IsSoFar : ℕ → WorldState → Admitting → Type 0
IsSoFar k w x = IsWeighed k w x (plan_of k w x).table

-- ---- one act more

-- it is done after the others
one_more : (a : ℕ) (xs : List Act) (x : Act) (p : Plan) → all_acted a (xs ++ x ∷ []) p ≡ acted a x (all_acted a xs p)
one_more a [] x p = refl
one_more a (y ∷ xs) x p = one_more a xs x (acted a y p)

-- so is it in the table
table_more : (k : ℕ) (w : WorldState) (xs : List Act) (x : Act)
    → (all_acted (actor_of k) (xs ++ x ∷ []) (plan_over w.table)).table
    ≡ (acted (actor_of k) x (all_acted (actor_of k) xs (plan_over w.table))).table
table_more k w xs x = ap (λ (p : Plan). p.table) (one_more (actor_of k) xs x (plan_over w.table))

-- a row of the actor's goes
dropped_own : (a n : ℕ) (p : Plan) (r : TableRow) → find_row n p.table.rows ≡ Some r → r.owner ≡ a
    → (dropped a n p).table ≡ retracted n p.table
dropped_own a n p r found own =
    let mine : (r.owner == a) ≡ true = grind (arith, nat_tests, own) in
    ap (λ o. (drop_own a o p).table) found
    ∙ ap (λ b. (cond b (drop_row r p) p).table) mine
    ∙ ap (λ h. retracted h p.table) (found_handle n p.table.rows r found)

-- ---- causes

-- where there is neither of two causes, there is none
or_none : (f g : Option Fault) → option_or f g ≡ None → (f ≡ None) × (g ≡ None)
or_none None g is = (refl, is)
or_none (Some f) g is = absurd cc

-- where it is no cause, it isn't so
not_over : (b : Bool) (f : Fault) → where_it_is b f ≡ None → b ≡ false
not_over true f is = absurd cc
not_over false f is = refl

-- ---- one event

-- an assertion, of a value that gets through or that the caveats refuse
assertion_so_far : (k h : ℕ) (w : WorldState) (to : Cap) (o : Option Plain) (x : Admitting) → row_cause w to o x ≡ None
    → IsSoFar k w x → IsSoFar k w (after_assertion w to o h x)
assertion_so_far k h w to None x free i = refused_weighed k h w x (plan_of k w x).table i
assertion_so_far k h w to (Some v) x free i =
    let light : nat_lt 4194304 (rows_with (weighed v) x) ≡ false =
    not_over (nat_lt 4194304 (rows_with (weighed v) x)) (Limit 5 (rows_with (weighed v) x)) (or_none _ _ free).0 in
    subst (IsWeighed k w (after_assertion w to (Some v) h x))
    (sym (table_more k w x.acts (act.Assert to.actor to.entity v)))
    (made_weighed k h w to v x (plan_of k w x).table i light)

-- a retraction, of a handle that stands for a row or for none
retraction_so_far : (k h : ℕ) (w : WorldState) (o : Option Inbound) (x : Admitting) → inbound_of h x.ports ≡ o
    → IsSoFar k w x → IsSoFar k w (after_retraction h o w x)
retraction_so_far k h w None x is i = i
retraction_so_far k h w (Some Refused) x is i = freed_weighed k h w x (plan_of k w x).table i
retraction_so_far k h w (Some (Row n)) x is i =
    let s = i.stand h n is in
    subst (IsWeighed k w (after_retraction h (Some (Row n)) w x))
    (sym (table_more k w x.acts (act.Retract n) ∙ dropped_own (actor_of k) n (plan_of k w x) s.row s.found s.own))
    (gone_weighed k h n w x (plan_of k w x).table i is)

-- a message
message_so_far : (k : ℕ) (w : WorldState) (to : Cap) (o : Option Plain) (x : Admitting) → IsSoFar k w x
    → IsSoFar k w (after_message w to o x)
message_so_far k w to None x i = i
message_so_far k w to (Some v) x i =
    subst (IsWeighed k w (after_message w to (Some v) x))
    (sym (table_more k w x.acts (act.Message to.actor to.entity v)))
    (said_weighed k w (x.acts ++ act.Message to.actor to.entity v ∷ []) (load_with w to (weighed v) x) x
    (plan_of k w x).table i)

-- a sync
sync_so_far : (k : ℕ) (w : WorldState) (to : Cap) (o : Option Plain) (x : Admitting) → IsSoFar k w x
    → IsSoFar k w (after_sync w to o x)
sync_so_far k w to None x i = i
sync_so_far k w to (Some v) x i =
    subst (IsWeighed k w (after_sync w to (Some v) x))
    (sym (table_more k w x.acts (act.Sync to.actor to.entity v)))
    (said_weighed k w (x.acts ++ act.Sync to.actor to.entity v ∷ []) (load_with w to (weighed v) x) x
    (plan_of k w x).table i)

-- whatever the event
event_so_far : (k : ℕ) (w : WorldState) (to : Cap) (e : Event) (x : Admitting) → event_cause k w to e x ≡ None
    → IsSoFar k w x → IsSoFar k w (after_event k w to e x)
event_so_far k w to (Assert v h) x free i =
    assertion_so_far k h w to (through k w to v x) x (or_none _ _ free).1 i
event_so_far k w to (Retract h) x free i = retraction_so_far k h w (inbound_of h x.ports) x refl i
event_so_far k w to (Message v) x free i = message_so_far k w to (through k w to v x) x i
event_so_far k w to (Sync peer) x free i = sync_so_far k w to (peer_kept k peer x) x i

-- whatever the event is at a released export
stale_so_far : (k : ℕ) (w : WorldState) (e : Event) (x : Admitting) → IsSoFar k w x
    → IsSoFar k w (after_stale w e x)
stale_so_far k w (Assert v h) x i = refused_weighed k h w x (plan_of k w x).table i
stale_so_far k w (Retract h) x i = retraction_so_far k h w (inbound_of h x.ports) x refl i
stale_so_far k w (Message v) x i = i
stale_so_far k w (Sync peer) x i = i

-- ---- all events

-- each after those before it
pub all_so_far : (k : ℕ) (w : WorldState) (es : List TurnEvent) (x : Admitting) → NoneAgainst k w es x → IsSoFar k w x
    → IsSoFar k w (after_all k w es x)
all_so_far k w [] x free i = i
all_so_far k w (e ∷ es) x free i = all_so_far k w es (after k w e x) free.1 (at (aim_at e.oid x.ports) free.0)
  where
    at : (o : Aim) → cause_at k w o e x ≡ None → IsSoFar k w (after_at k w o e.event x)
    at (object to) none = event_so_far k w to e.event x none i
    at stale none = stale_so_far k w e.event x i
    at unknown none = absurd cc

-- against the events of a packet that is taken there is no cause, and they leave what it leaves
pub admitted_free : (k : ℕ) (w : WorldState) (es : List TurnEvent) (x y : Admitting)
    → all_admitted k w es x ≡ admitted y → NoneAgainst k w es x × (after_all k w es x ≡ y)
admitted_free k w [] x y is = let same : x ≡ y = cc in (tt, same)
admitted_free k w (e ∷ es) x y is =
    by (cause_of k w e x) refl is (admitted_free k w es (after k w e x) y)
  where
    by : (c : Option Fault) → cause_of k w e x ≡ c → unless c (all_admitted k w es (after k w e x)) ≡ admitted y
        → (all_admitted k w es (after k w e x) ≡ admitted y
        → NoneAgainst k w es (after k w e x) × (after_all k w es (after k w e x) ≡ y))
        → NoneAgainst k w (e ∷ es) x × (after_all k w (e ∷ es) x ≡ y)
    by None none is later = let l = later is in ((none, l.0), l.1)
    by (Some f) some is later = absurd cc

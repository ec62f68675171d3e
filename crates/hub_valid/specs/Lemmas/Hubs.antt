-- A valid state stays so: the first is valid, and each step of the hub keeps it so.
use Rattle.std.proofs.Common.{◌≡◌, ℕ, ◌+◌, ◌-◌, ◌^◌, ◌<◌, ◌≤◌, nat_lt, nat_le, List, [], ◌∷◌, ◌++◌, Bool}
use Rattle.std.proofs.Common.{◌==◌, ◌&&◌, ◌||◌, not, true, false, cond, Option, Some, None, refl, sym, subst, arith}
use Rattle.std.proofs.Common.{length, is_some}
use Rattle.std.proofs.lemmas.List.{length-append}
use Rattle.std.specs.List.{AllByRecursion, flat_map}
use Rattle.std.proofs.lemmas.Bool.Decides.{nat_tests}
use Rattle.pv_value.specs.Plain.{Plain}
use Rattle.ds_space.specs.declared.references.Reference.{Reference}
use Rattle.ds_space.specs.References.{reference_of}
use Rattle.sr_caveat.specs.Embedded.{has_embedded}
use Rattle.sr_caveat.specs.Caps.{cap_value, IsSound}
use Rattle.gk_sturdy.specs.declared.bound.Binding.{Binding}
use Rattle.gk_sturdy.specs.Bindings.{bound}
use Rattle.ac_table.specs.declared.batches.Event.{Event as Told}
use Rattle.ac_table.specs.declared.batches.Event.TheVariants as told
use Rattle.ac_table.specs.declared.batches.Batch.{Batch}
use Rattle.ac_table.specs.Tables.{is_live, lowest}
use Rattle.ac_world.specs.declared.spreads.Spread.{Spread}
use Rattle.ac_world.specs.declared.turns.Turned.{Turned}
use Rattle.ac_world.specs.declared.turns.Turned.TheVariants as turned
use Rattle.ac_world.specs.Limits.{most_watchers}
use Rattle.ac_world.specs.declared.watched.Watched.{Watched}
use Rattle.ac_world.specs.Worlds.{actor_of, entry_of, without_entry, is_system, is_space, binding, watching, arrived}
use Rattle.ac_world.specs.Worlds.{gone}
use Rattle.ac_world.specs.Turns.{turn}
use Rattle.ac_world.specs.Lemmas.Entries.{each_with, each_without, each_found}
use Rattle.rl_packet.specs.declared.packets.TurnEvent.{TurnEvent}
use Rattle.rl_packet.specs.declared.packets.Turn.{Turn as TurnRecord}
use Rattle.rl_packet.specs.Wired.{IsTurnEvent}
use Rattle.rl_ports.specs.Ports.{PortsState, ExportTable, speaking, ports_to, with_export, place_of, exported, stays}
use Rattle.rl_wire.specs.Crossing.{held_in, is_own, foreign_of, actor_at, all_exported}
use Rattle.hub_machine.specs.Limits.{most_connections, last_dataspace}
use Rattle.hub_machine.specs.declared.faults.Fault.{Fault}
use Rattle.hub_machine.specs.declared.faults.Fault.TheVariants.{BadPacket}
use Rattle.hub_machine.specs.Lemmas.Dialects.{by_dialect}
use Rattle.hub_machine.specs.Lemmas.Naming.{named_exports}
use Rattle.hub_machine.specs.State.{State, ports_of}
use Rattle.hub_machine.specs.Admission.{Admitted, refused, admitted, admission}
use Rattle.hub_machine.specs.Endings.{nameless, departed_for, closed, failed, finished}
use Rattle.hub_machine.specs.Machine.{is_to_space, is_barred, bind_unless, is_unwatchable, watch_unless}
use Rattle.hub_machine.specs.Machine.{unchanged, actor_reference, opened, refusal, arrive_unless, accepted, judged}
use Rattle.hub_machine.specs.Machine.{packet_at, bad_at}
use Rattle.hub_machine.specs.Machine.{close_at, told_value, foreign_told, foreign_to, telling_fault, exports_after}
use Rattle.hub_machine.specs.Machine.{all_named, names_after}
use Rattle.hub_machine.specs.Machine.{exporting, told_unless, tell, fault_for, tell_fault, after_turn, turn_of, rest}
use Rattle.hub_machine.specs.Machine.{work_by, is_worn, done, step, IsAllowed}
use Rattle.hub_machine.specs.declared.steps.Step.{Step}
use Rattle.hub_machine.specs.declared.steps.Step.TheVariants.{Bind, Watch, Arrive, Packet, Bad, Close, Turn, Work, Stop}
use Rattle.hub_machine.specs.declared.steps.Reply.{Reply}
use Rattle.hub_machine.specs.declared.steps.Reply.TheVariants.{Worn, Barred, Halted, Full, Idle}
use Rattle.hub_valid.specs.Validity.{Lived, lived, IsObjectAt, IsObjectValue, IsValidEvent, IsValidBatch}
use Rattle.hub_valid.specs.Validity.{IsValidEntry, AreValid, IsValid, StaysValid}
use Rattle.hub_valid.specs.Promises.{OpenedIsValid, AcceptedIsValid, NamelessIsValid, DepartedIsValid, TurnedIsValid}
use Rattle.hub_valid.specs.Promises.{TakenIsValid, ExportingIsValid, BindingIsValid, WatchingIsValid, DismissedIsValid}
use Rattle.hub_valid.specs.Lemmas.Admitted.{acts_are_valid, exports_stay}
use Rattle.hub_valid.specs.Lemmas.Filtered.{all_kept}
use Rattle.hub_valid.specs.Lemmas.Values.{all_flat, all_weaker, all_append, cap_is_object, IsWithin}
use Rattle.hub_valid.specs.Lemmas.Values.{later_inside}
use Rattle.hub_valid.specs.Lemmas.StepEnds.{finished_keeps}
use Rattle.hub_valid.specs.Lemmas.Watchers.{MayWatch, may_watch}
use Rattle.hub_valid.specs.Lemmas.Worlds.{beginning_valid, arrived_valid, sent_valid, gone_valid}
use Rattle.hub_valid.specs.Lemmas.Worlds.{binding_valid, watching_valid}
use Rattle.hub_valid.specs.Lemmas.Turns.{turn_valid, turn_opens_none, turn_makes_none, turn_lives_on, taken_valid}
use Rattle.hub_valid.specs.Lemmas.Turns.{taken_valid_after}

-- ---- what connections name

later_entry : (m n : Lived) (e : ℕ × PortsState) → IsWithin m n → IsValidEntry m e → IsValidEntry n e
later_entry m n e l v = (
  (v.0.0, omega (arith, l.0, v.0.1)),
  all_weaker (λ x. IsObjectValue m x.1) (λ x. IsObjectValue n x.1) (λ x. later_inside m n x.1 l) e.1.exports.in_force v.1,
)

-- the names that a live connection has
pub ports_valid : (k : ℕ) (ports : PortsState) (s : State) → IsValid s → ports_of k s ≡ Some ports
    → IsValidEntry (lived s.world) (k, ports)
ports_valid k ports s v is = by (is_live (actor_of k) s.world.table) is
  where
    by : (b : Bool) → cond b (entry_of k s.connections) None ≡ Some ports → IsValidEntry (lived s.world) (k, ports)
    by true found = each_found (IsValidEntry (lived s.world)) k ports s.connections v.named found
    by false found = absurd cc

-- ---- the promises

pub opened_is_valid : OpenedIsValid
opened_is_valid space s low few v = record {
  few = omega (arith, few);
  few_watchers = v.few_watchers;
  world = arrived_valid s.world v.world;
  named = each_with (IsValidEntry n) (s.world.opened + 1) (ports_to (actor_reference space)) s.connections
      ((omega arith, omega arith), (first, tt))
      (all_weaker (IsValidEntry (lived s.world)) (IsValidEntry n)
      (λ e. later_entry (lived s.world) n e (omega arith, omega arith)) s.connections v.named);
}
  where
    n : Lived
    n = lived (arrived s.world)

    first : IsObjectValue n (actor_reference space)
    first =
        cap_is_object n (record { actor = space; entity = 0; caveats = [] }) (omega (arith, low), omega arith, tt)
        (omega (arith, low), omega arith, λ system. (omega (arith, low), refl))

pub nameless_is_valid : NamelessIsValid
nameless_is_valid k s v = record {
  few = v.few;
  few_watchers = v.few_watchers;
  world = v.world;
  named = each_without (IsValidEntry (lived s.world)) k s.connections v.named;
}

pub dismissed_is_valid : DismissedIsValid
dismissed_is_valid a s v = by (is_live a s.world.table)
  where
    by : (b : Bool) → AreValid (cond b (gone a s.world) s.world) s.connections
    by true = record {
      few = v.few;
      few_watchers = v.few_watchers;
      world = gone_valid a s.world v.world;
      named = v.named;
    }
    by false = v

pub departed_is_valid : DepartedIsValid
departed_is_valid k s v = dismissed_is_valid (actor_of k) s v

pub turned_is_valid : TurnedIsValid
turned_is_valid a s v = record {
  few = subst (λ n. n ≤ 2 ^ 31) (sym (turn_opens_none a s.world)) v.few;
  few_watchers = subst (λ (ws : List Watched). length ws ≤ most_watchers) (sym (turn_makes_none a s.world))
      v.few_watchers;
  world = turn_valid a s.world v.world;
  named = subst (λ n. AllByRecursion (IsValidEntry n) s.connections) (sym (turn_lives_on a s.world)) v.named;
}

pub taken_is_valid : TakenIsValid
taken_is_valid a s b v is = taken_valid a s.world b v.world is

-- ---- a packet that is accepted

pub accepted_is_valid : AcceptedIsValid
accepted_is_valid k ports es x s v entry wired is = record {
  few = v.few;
  few_watchers = v.few_watchers;
  world = sent_valid (actor_of k) x.acts s.world (acts_are_valid k ports es x s v entry wired is) v.world;
  named = each_with (IsValidEntry (lived s.world)) k x.ports s.connections (
    entry.0,
    subst (λ (t : ExportTable). AllByRecursion (λ e. IsObjectValue (lived s.world) e.1) t.in_force)
        (sym (exports_stay k ports s.world es x is)) entry.1,
  )
      v.named;
}

-- ---- a batch that a connection is told of

foreign_object : (n : Lived) (actor : ℕ) (x : Plain) (o : Option Reference) → IsObjectValue n x
    → AllByRecursion (IsObjectValue n) (foreign_of actor x o)
foreign_object n actor x None object = tt
foreign_object n actor x (Some r) object = by (is_own actor x r)
  where
    by : (b : Bool) → AllByRecursion (IsObjectValue n) (cond b [] (x ∷ []))
    by true = tt
    by false = (object, tt)

foreign_objects : (n : Lived) (actor : ℕ) (xs : List Plain) → AllByRecursion (IsObjectValue n) xs
    → AllByRecursion (IsObjectValue n) (flat_map (λ x. foreign_of actor x (reference_of x)) xs)
foreign_objects n actor xs all =
    all_flat (IsObjectValue n) (IsObjectValue n) (λ x. foreign_of actor x (reference_of x))
    (λ x. foreign_object n actor x (reference_of x)) xs all

told_objects : (n : Lived) (next k : ℕ) (e : Told) → IsValidEvent n next e
    → AllByRecursion (IsObjectValue n) (foreign_told k (told_value e))
told_objects n next k (told.Assert h entity x) fits = foreign_objects n (actor_at k) (held_in x) fits.2
told_objects n next k (told.Retract h entity) fits = tt
told_objects n next k (told.Message entity x) fits = foreign_objects n (actor_at k) (held_in x) fits.1
told_objects n next k (told.Sync entity peer) fits = foreign_objects n (actor_at k) (peer ∷ []) (fits.1, tt)

exported_pass : (P : Plain → Type 0) (r : Plain) (exports : ExportTable) → P r
    → AllByRecursion (λ e. P e.1) exports.in_force → AllByRecursion (λ e. P e.1) (exported r exports).in_force
exported_pass P r exports p all = by (is_some (place_of r exports.in_force))
  where
    by : (b : Bool) → AllByRecursion (λ e. P e.1) (cond b exports (with_export r exports)).in_force
    by true = all
    by false = all_append (λ e. P e.1) exports.in_force _ all (p, tt)

all_exported_pass : (P : Plain → Type 0) (exports : ExportTable) (rs : List Plain)
    → AllByRecursion (λ e. P e.1) exports.in_force → AllByRecursion P rs
    → AllByRecursion (λ e. P e.1) (all_exported exports rs).in_force
all_exported_pass P exports [] all more = all
all_exported_pass P exports (r ∷ rs) all more =
    all_exported_pass P (exported r exports) rs (exported_pass P r exports more.0 all) more.1

pub exporting_is_valid : ExportingIsValid
exporting_is_valid k b ports s v entry fits = record {
  few = v.few;
  few_watchers = v.few_watchers;
  world = v.world;
  named = each_with (IsValidEntry (lived s.world)) k (names_after k b ports) s.connections (
    entry.0,
    all_kept (λ e. IsObjectValue (lived s.world) e.1) (λ e. stays told e.0) told.exports.in_force
        (subst (λ (t : ExportTable). AllByRecursion (λ e. IsObjectValue (lived s.world) e.1) t.in_force)
        (sym (named_exports k b.events ports)) objects),
  )
      v.named;
}
  where
    -- before what nothing mentions is released
    told : PortsState
    told = all_named k b.events ports

    objects : AllByRecursion (λ e. IsObjectValue (lived s.world) e.1) (exports_after k b ports).in_force
    objects =
        all_exported_pass (IsObjectValue (lived s.world)) ports.exports (foreign_to k b) entry.1
        (all_flat (IsValidEvent (lived s.world) s.world.table.next) (IsObjectValue (lived s.world))
        (λ e. foreign_told k (told_value e)) (told_objects (lived s.world) s.world.table.next k) b.events fits)

-- ---- who ends

failed_valid : (k : ℕ) (f : Fault) (s : State) → IsValid s → IsValid (failed k f s)
failed_valid k f s v = departed_is_valid k (nameless k s) (nameless_is_valid k s v)

-- the end of a step
pub finished_is_valid : (xs : List Spread) (s : State) → IsValid s → IsValid (finished xs s)
finished_is_valid xs s v =
    finished_keeps IsValid (λ k f t there valid. failed_valid k f t valid)
    (λ a t high low valid. dismissed_is_valid a t valid) xs s v

-- ---- arrivals

may_come : (space : ℕ) (s : State) → refusal space s ≡ None → space ≤ last_dataspace
may_come space s is = by (nat_lt last_dataspace space) refl is
  where
    by : (b : Bool) → nat_lt last_dataspace space ≡ b
        → cond b (Some Barred)
        (cond s.stopped (Some Halted) (cond (nat_le most_connections (length s.connections)) (Some Full) None)) ≡ None
        → space ≤ last_dataspace
    by true high is = absurd cc
    by false low is = grind (arith, nat_tests, low)

arrive_valid : (o : Option Reply) (space : ℕ) (s : State) → (o ≡ None → space ≤ 8) → s.world.opened < 2 ^ 31
    → IsValid s → IsValid (arrive_unless o space s).state
arrive_valid None space s low few v = finished_is_valid [] (opened space s) (opened_is_valid space s (low refl) few v)
arrive_valid (Some r) space s low few v = v

-- ---- packets

refused_valid : (k : ℕ) (f : Fault) (s : State) → IsValid s → IsValid (judged k (refused f) (nameless k s)).state
refused_valid k f s v = finished_is_valid [] (departed_for k f (nameless k s)) (failed_valid k f s v)

judged_valid : (k : ℕ) (ports : PortsState) (es : List TurnEvent) (d : Admitted) (s : State) → IsValid s
    → IsValidEntry (lived s.world) (k, ports) → AllByRecursion IsTurnEvent es → admission k ports s.world es ≡ d
    → IsValid (judged k d (nameless k s)).state
judged_valid k ports es (refused f) s v entry wired is = refused_valid k f s v
judged_valid k ports es (admitted x) s v entry wired is =
    finished_is_valid [] (accepted k x (nameless k s))
    (accepted_is_valid k ports es x (nameless k s) (nameless_is_valid k s v) entry wired is)

packet_valid : (k : ℕ) (o : Option PortsState) (t : TurnRecord) (s : State) → IsValid s → ports_of k s ≡ o
    → AllByRecursion IsTurnEvent t.events → IsValid (packet_at k o t s).state
packet_valid k None t s v is wired = v
packet_valid k (Some ports) t s v is wired =
    let named = speaking t.dialect ports in
    by_dialect (λ d. IsValid (judged k d (nameless k s)).state) k ports s.world t (refused_valid k BadPacket s v)
    (judged_valid k named t.events (admission k named s.world t.events) s v (ports_valid k ports s v is) wired refl)

bad_valid : (k : ℕ) (o : Option PortsState) (f : Fault) (s : State) → IsValid s → IsValid (bad_at k o f s).state
bad_valid k None f s v = v
bad_valid k (Some ports) f s v = finished_is_valid [] (failed k f s) (failed_valid k f s v)

close_valid : (k : ℕ) (o : Option PortsState) (s : State) → IsValid s → IsValid (close_at k o s).state
close_valid k None s v = v
close_valid k (Some ports) s v =
    finished_is_valid [] (closed k s) (departed_is_valid k (nameless k s) (nameless_is_valid k s v))

-- ---- turns

told_unless_valid : (o : Option Fault) (k : ℕ) (ports : PortsState) (b : Batch) (s : State) → IsValid s
    → IsValidEntry (lived s.world) (k, ports) → IsValidBatch (lived s.world) s.world.table.next b
    → IsValid (told_unless o k ports b s).state
told_unless_valid (Some f) k ports b s v entry fits = finished_is_valid [] (failed k f s) (failed_valid k f s v)
told_unless_valid None k ports b s v entry fits =
    finished_is_valid [] (exporting k b ports s) (exporting_is_valid k b ports s v entry fits)

tell_valid : (k : ℕ) (o : Option PortsState) (b : Batch) (s : State) → IsValid s → ports_of k s ≡ o
    → IsValidBatch (lived s.world) s.world.table.next b → IsValid (tell k o b s).state
tell_valid k None b s v is fits = finished_is_valid [] s v
tell_valid k (Some ports) b s v is fits =
    told_unless_valid (telling_fault k b ports) k ports b s v (ports_valid k ports s v is) fits

tell_fault_valid : (a : ℕ) (o : Option Fault) (s : State) → IsValid s → IsValid (tell_fault a o s).state
tell_fault_valid a None s v = v
tell_fault_valid a (Some f) s v = finished_is_valid [] (record s { faults = without_entry (a - 16) s.faults }) v

after_turn_valid : (a : ℕ) (t : Turned) (s : State) → IsValid s
    → ((b : Batch) → t ≡ turned.Taken b → IsValidBatch (lived s.world) s.world.table.next b)
    → IsValid (after_turn a t s).state
after_turn_valid a (turned.Ran xs) s v fits = finished_is_valid xs s v
after_turn_valid a (turned.Taken b) s v fits = tell_valid (a - 16) (ports_of (a - 16) s) b s v refl (fits b refl)
after_turn_valid a turned.Idle s v fits = v
after_turn_valid a turned.Gone s v fits = tell_fault_valid a (fault_for a s) s v

turn_of_valid : (a : ℕ) (s : State) → IsValid s → IsValid (turn_of a s).state
turn_of_valid a s v =
    after_turn_valid a (turn a s.world).turned (record s { world = (turn a s.world).world }) (turned_is_valid a s v)
    (λ b. taken_valid_after a s.world b v.world)

rest_valid : (s : State) → IsValid s → IsValid (rest s).state
rest_valid s v = by s.stopped
  where
    by : (b : Bool) → IsValid (cond b (unchanged s Halted) (unchanged s Idle)).state
    by true = v
    by false = v

work_valid : (o : Option ℕ) (s : State) → IsValid s → IsValid (work_by o s).state
work_valid None s v = rest_valid s v
work_valid (Some a) s v = by (is_system a)
  where
    by : (b : Bool) → IsValid (cond b (turn_of a s) (rest s)).state
    by true = turn_of_valid a s v
    by false = rest_valid s v

-- ---- bindings

-- a reference that the machine binds is to a dataspace itself
to_space : (b : Binding) (s : State) → is_barred b s ≡ false → is_to_space b.cap ≡ true
to_space b s free =
    third (nat_lt 0 s.world.opened) (bound b.oid s.world.bindings) (is_to_space b.cap) (has_embedded b.oid)
    (has_embedded (cap_value b.cap)) free
  where
    third : (x y c z w : Bool) → (x || y || not c || z || w) ≡ false → c ≡ true
    third x y true z w is = refl
    third true y false z w is = absurd cc
    third false true false z w is = absurd cc
    third false false false z w is = absurd cc

pub bound_is_valid : BindingIsValid
bound_is_valid b s sound free v = record {
  few = v.few;
  few_watchers = v.few_watchers;
  world = binding_valid b s.world (sound, object) v.world;
  named = v.named;
}
  where
    is : (is_space b.cap.actor && b.cap.entity == 0) ≡ true
    is = to_space b s free

    object : IsObjectAt (lived s.world) b.cap.actor b.cap.entity
    object =
        let low : b.cap.actor < 9 = grind (arith, nat_tests, is) in
        let none : b.cap.entity ≡ 0 = grind (arith, nat_tests, is) in
        (omega (arith, low), omega (arith, none), λ l. (omega (arith, low), none))

bind_valid : (c : Bool) (b : Binding) (s : State) → is_barred b s ≡ c → IsSound b.cap → IsValid s
    → IsValid (bind_unless c b s).state
bind_valid true b s is sound v = v
bind_valid false b s is sound v =
    finished_is_valid [] (record s { world = binding b s.world }) (bound_is_valid b s sound is v)

-- ---- watchers

pub watched_is_valid : WatchingIsValid
watched_is_valid x s free v = record {
  few = v.few;
  few_watchers = omega (arith, more, may.few);
  world = watching_valid x s.world may.few may.valid v.world;
  named = all_weaker (IsValidEntry (lived s.world)) (IsValidEntry n)
      (λ e. later_entry (lived s.world) n e (omega arith, omega (arith, more))) s.connections v.named;
}
  where
    n : Lived
    n = lived (watching x s.world)

    may : MayWatch x s
    may = may_watch x s free

    more : length (s.world.watches ++ x ∷ []) ≡ length s.world.watches + 1
    more = length-append s.world.watches (x ∷ [])

watch_valid : (c : Bool) (x : Watched) (s : State) → is_unwatchable x s ≡ c → IsValid s
    → IsValid (watch_unless c x s).state
watch_valid true x s is v = v
watch_valid false x s is v =
    finished_is_valid [] (record s { world = watching x s.world }) (watched_is_valid x s is v)

-- ---- steps

done_valid : (s : State) (e : Step) → is_worn s e ≡ false → IsValid s → IsAllowed s e → IsValid (done s e).state
done_valid s (Bind b) fresh v may = bind_valid (is_barred b s) b s refl may v
done_valid s (Watch x) fresh v may = watch_valid (is_unwatchable x s) x s refl v
done_valid s (Arrive space) fresh v may =
    let few : s.world.opened < 2 ^ 31 = grind (arith, nat_tests, fresh) in
    arrive_valid (refusal space s) space s (may_come space s) few v
done_valid s (Packet k t) fresh v may = packet_valid k (ports_of k s) t s v refl may
done_valid s (Bad k f) fresh v may = bad_valid k (ports_of k s) f s v
done_valid s (Close k) fresh v may = close_valid k (ports_of k s) s v
done_valid s (Turn a) fresh v may = turn_of_valid a s v
done_valid s Work fresh v may = work_valid (lowest s.world.table) s v
done_valid s Stop fresh v may = finished_is_valid [] (record s { stopped = true }) v

pub step_is_valid : (s : State) (e : Step) → IsValid s → IsAllowed s e → IsValid (step s e).state
step_is_valid s e v may = by (is_worn s e) refl
  where
    by : (b : Bool) → is_worn s e ≡ b → IsValid (cond b (unchanged s Worn) (done s e)).state
    by true worn = v
    by false fresh = done_valid s e fresh v may

pub stays_valid : StaysValid
stays_valid = (
  λ ds. record { few = omega arith; few_watchers = omega arith; world = beginning_valid ds; named = tt },
  step_is_valid,
)

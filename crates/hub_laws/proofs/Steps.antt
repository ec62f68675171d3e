-- Each step keeps the hub sound, and so does each run of allowed steps.
use Rattle.std.proofs.Common.{◌≡◌, ℕ, ◌-◌, ◌≤◌, List, [], ◌∷◌, Bool, true, false, cond, Option, Some, None, refl, sym}
use Rattle.std.proofs.Common.{nat_lt, suc, zero}
use Rattle.std.proofs.Common.{◌∙◌, ◌||◌, arith, ap}
use Rattle.std.proofs.lemmas.Bool.Decides.{nat_tests}
use Rattle.std.specs.List.{AllByRecursion}
use Rattle.std.specs.Map.{keys_of, values_of}
use Rattle.pv_value.specs.Plain.{Plain}
use Rattle.ds_space.specs.Spaces.{Rows}
use Rattle.gk_sturdy.specs.declared.bound.Binding.{Binding}
use Rattle.gk_sturdy.specs.Bindings.{with_binding}
use Rattle.ac_table.specs.declared.batches.Row.{Row}
use Rattle.ac_table.specs.declared.batches.Batch.{Batch}
use Rattle.ac_table.specs.Tables.{Actor, is_live, lowest}
use Rattle.ac_world.specs.declared.watched.Watched.{Watched}
use Rattle.ac_world.specs.Turns.{After as TurnOf, turn, handle_for}
use Rattle.ac_world.specs.Worlds.{WorldState, Resident, entry_of, without_entry, is_system, actor_of, binding}
use Rattle.ac_world.specs.Worlds.{watching, resident_of}
use Rattle.ac_world.specs.declared.turns.Turned.{Turned}
use Rattle.ac_world.specs.declared.turns.Turned.TheVariants as turned
use Rattle.ac_world.specs.Behaviours.{Behaviour, gatekeeper}
use Rattle.rl_packet.specs.declared.packets.Turn.{Turn as TurnRecord}
use Rattle.rl_ports.specs.Ports.{PortsState}
use Rattle.hub_machine.specs.declared.faults.Fault.{Fault}
use Rattle.hub_machine.specs.declared.steps.Reply.{Reply}
use Rattle.hub_machine.specs.declared.steps.Reply.TheVariants.{Worn, Halted, Idle}
use Rattle.hub_machine.specs.declared.steps.Step.{Step}
use Rattle.hub_machine.specs.declared.steps.Step.TheVariants.{Bind, Watch, Arrive, Packet, Bad, Close, Turn, Work, Stop}
use Rattle.hub_machine.specs.State.{State, ports_of}
use Rattle.hub_machine.specs.Admission.{Admitted, refused, admitted, turn_admission}
use Rattle.hub_machine.specs.Endings.{nameless, departed_for, closed, failed, finished}
use Rattle.hub_machine.specs.Machine.{unchanged, opened, refusal, arrive_unless, judged, packet_at, bad_at, bind_unless}
use Rattle.hub_machine.specs.Machine.{is_barred, is_unwatchable, watch_unless}
use Rattle.hub_machine.specs.Machine.{close_at, fault_for, tell_fault, after_turn, turn_of, rest, work_by, is_worn}
use Rattle.hub_machine.specs.Machine.{done, tell, telling_fault, told_unless, exporting, step, IsAllowed}
use Rattle.hub_machine.specs.Replays.{run_from}
use Rattle.hub_valid.specs.Validity.{IsValid}
use Rattle.hub_laws.specs.Laws.{AreAllowed}
use Rattle.hub_laws.proofs.Arriving.{opened_hub}
use Rattle.hub_laws.proofs.Beginning.{watching_hub}
use Rattle.hub_laws.proofs.EndingActors.{retractions_ascend, ended_table, served_after_end, others_found, others_keep}
use Rattle.hub_laws.proofs.Hubs.{finished_hub, failed_hub, closed_hub, with_names, with_faults, with_stop}
use Rattle.hub_laws.proofs.Kept.{IsHub, IsServed, IsSound, IsMetIn}
use Rattle.hub_laws.proofs.Leaving.{Endings}
use Rattle.hub_laws.proofs.OtherTurns.{turn_turned}
use Rattle.hub_laws.proofs.Packets.{accepted_hub}
use Rattle.hub_laws.proofs.Posting.{posted_to, posted_table}
use Rattle.hub_laws.proofs.Turns.{still_met, IsTurned, ends_of}
use Rattle.hub_valid.specs.Lemmas.Hubs.{stays_valid}
use Rattle.hub_laws.specs.Wanting.{passing, IsMet}

pub endings : Endings
endings = record {
  posted_to = posted_to;
  posted_table = posted_table;
  served_after_end = served_after_end;
  retractions_ascend = retractions_ascend;
  ended_table = ended_table;
  met_kept = still_met;
  others_found = others_found;
  others_keep = others_keep;
}

-- the end of a step in which nobody spread
ended_well : (s : State) → IsHub [] s → IsHub [] (finished [] s)
ended_well s h = finished_hub endings [] s tt h

-- ---- bindings

-- who has got nothing has the same rows whatever it would do with more
no_keys : (met : List (Plain × ℕ)) → keys_of met ≡ [] → met ≡ []
no_keys [] none = refl
no_keys (e ∷ es) none = absurd cc

met_by_none : (y z : Behaviour) (o : Option Watched) (a : ℕ) (resident : Resident) (rows : List Row)
    → y.keys [] ≡ [] → z.keys [] ≡ [] → resident.got ≡ [] → IsMet y o a resident rows → IsMet z o a resident rows
met_by_none y z o a resident rows y_none z_none empty m = record {
  keys = keys ∙ sym (nothing z z_none);
  rows_stand = λ k h e. absurd (let clash : None ≡ Some h =
      sym (ap (λ met. handle_for k met) (no_keys resident.handles keys)) ∙ e in cc);
  apart = m.apart;
  no_other = m.no_other;
}
  where
    nothing : (x : Behaviour) → x.keys [] ≡ [] → passing x (x.keys (values_of resident.got)) ≡ []
    nothing x none = ap (λ (got : Rows). passing x (x.keys (values_of got))) empty ∙ ap (passing x) none

    keys : keys_of resident.handles ≡ []
    keys = m.keys ∙ nothing y y_none

-- before a connection has come the gatekeeper has got nothing
bound_sound : (b : Binding) (w : WorldState) → w.opened ≡ 0 → IsSound [] w → IsSound [] (binding b w)
bound_sound b w none k = record {
  table = k.table;
  always = k.always;
  watchers = k.watchers;
  watches = k.watches;
  numbers = k.numbers;
  rows = k.rows;
  served = λ a x found. by a x (is_system a) (k.served a x found);
  met = λ a low live. met a (k.met a low live);
  fresh = λ is. record { got = (k.fresh is).got; inboxes = (k.fresh is).inboxes };
  residents_ascend = k.residents_ascend;
  unkept = k.unkept;
  held_ascends = k.held_ascends;
  unheld = k.unheld;
  system_unheld = k.system_unheld;
}
  where
    by : (a : ℕ) (x : Actor) (c : Bool) → IsServed [] a x.inbox w c → IsServed [] a x.inbox (binding b w) c
    by a x true s = s
    by a x false s = s

    met : (a : ℕ) → IsMetIn w w.table.rows a → IsMetIn (binding b w) w.table.rows a
    met zero m =
        met_by_none (gatekeeper w.schema w.bindings) (gatekeeper w.schema (with_binding b w.bindings)) None 0
        (resident_of 0 w) w.table.rows refl refl (k.fresh none).got m
    met (suc a) m = m

bind_hub : (c : Bool) (b : Binding) (s : State) → is_barred b s ≡ c → IsHub [] s → IsHub [] (bind_unless c b s).state
bind_hub true b s is h = h
bind_hub false b s is h =
    ended_well (record s { world = binding b s.world })
    (record {
      sound = bound_sound b s.world none h.sound;
      named = h.named;
      nameless = h.nameless;
      first = h.first;
      names_ascend = h.names_ascend;
    })
  where
    first_false : (x y c z w : Bool) → (x || y || c || z || w) ≡ false → x ≡ false
    first_false true y c z w e = absurd cc
    first_false false y c z w e = refl

    none : s.world.opened ≡ 0
    none = grind (arith, nat_tests, first_false (nat_lt 0 s.world.opened) _ _ _ _ is)

-- ---- watchers

watch_hub : (c : Bool) (x : Watched) (s : State) → is_unwatchable x s ≡ c → IsValid s → IsHub [] s
    → IsHub [] (watch_unless c x s).state
watch_hub true x s is valid h = h
watch_hub false x s is valid h =
    ended_well (record s { world = watching x s.world }) (watching_hub still_met x s is valid h)

-- ---- arrivals

arrive_hub : (o : Option Reply) (space : ℕ) (s : State) → IsValid s → IsHub [] s
    → IsHub [] (arrive_unless o space s).state
arrive_hub None space s valid h = ended_well (opened space s) (opened_hub space s valid h)
arrive_hub (Some r) space s valid h = h

-- ---- packets

-- who has names is live, and they are those kept
pub record IsNamed (k : ℕ) (p : PortsState) (s : State) : Type 0 where
  pub live : is_live (actor_of k) s.world.table ≡ true
  pub kept : entry_of k s.connections ≡ Some p

pub named_of : (k : ℕ) (p : PortsState) (s : State) → ports_of k s ≡ Some p → IsNamed k p s
named_of k p s is = by (is_live (actor_of k) s.world.table) refl is
  where
    by : (b : Bool) → is_live (actor_of k) s.world.table ≡ b → cond b (entry_of k s.connections) None ≡ Some p
        → IsNamed k p s
    by true live found = record { live = live; kept = found }
    by false dead found = absurd cc

-- it is a connection
pub come_of : (k : ℕ) (p : PortsState) (s : State) → IsHub [] s → IsNamed k p s → 1 ≤ k
come_of zero p s h n = absurd (let clash : None ≡ Some p = sym h.first ∙ n.kept in cc)
come_of (suc k) p s h n = omega arith

judged_hub : (k : ℕ) (p : PortsState) (d : Admitted) (s : State) → IsHub [] s → IsNamed k p s
    → IsHub [] (judged k d (nameless k s)).state
judged_hub k p (refused f) s h n = ended_well (departed_for k f (nameless k s)) (failed_hub endings [] k f s h)
judged_hub k p (admitted x) s h n = ended_well _ (accepted_hub still_met k x s (come_of k p s h n) n.live h)

packet_hub : (k : ℕ) (o : Option PortsState) (t : TurnRecord) (s : State) → IsHub [] s → ports_of k s ≡ o
    → IsHub [] (packet_at k o t s).state
packet_hub k None t s h is = h
packet_hub k (Some p) t s h is = judged_hub k p (turn_admission k p s.world t) s h (named_of k p s is)

bad_hub : (k : ℕ) (o : Option PortsState) (f : Fault) (s : State) → IsHub [] s → IsHub [] (bad_at k o f s).state
bad_hub k None f s h = h
bad_hub k (Some p) f s h = ended_well (failed k f s) (failed_hub endings [] k f s h)

close_hub : (k : ℕ) (o : Option PortsState) (s : State) → IsHub [] s → IsHub [] (close_at k o s).state
close_hub k None s h = h
close_hub k (Some p) s h = ended_well (closed k s) (closed_hub endings [] k s h)

-- ---- turns

fault_hub : (a : ℕ) (o : Option Fault) (s : State) → IsHub [] s → IsHub [] (tell_fault a o s).state
fault_hub a None s h = h
fault_hub a (Some f) s h =
    ended_well (record s { faults = without_entry (a - 16) s.faults }) (with_faults [] s _ h)

-- a connection is told of its batch, or it ends
unless_hub : (o : Option Fault) (k : ℕ) (p : PortsState) (b : Batch) (s : State) → IsHub [] s → IsNamed k p s
    → IsHub [] (told_unless o k p b s).state
unless_hub None k p b s h n = ended_well (exporting k b p s) (with_names [] k _ s (come_of k p s h n) n.live h)
unless_hub (Some f) k p b s h n = ended_well (failed k f s) (failed_hub endings [] k f s h)

tell_hub : (k : ℕ) (o : Option PortsState) (b : Batch) (s : State) → IsHub [] s → ports_of k s ≡ o
    → IsHub [] (tell k o b s).state
tell_hub k None b s h is = ended_well s h
tell_hub k (Some p) b s h is = unless_hub (telling_fault k b p) k p b s h (named_of k p s is)

-- the state in which the turn is done
turned_hub : (w : WorldState) (t : TurnOf) (s : State) → IsHub [] (record s { world = w }) → IsTurned w t
    → IsHub (ends_of t.turned) (record s { world = t.world })
turned_hub w t s h k = record {
  sound = k.sound;
  named = λ j since live. h.named j since (sym (k.lives (actor_of j)) ∙ live);
  nameless = λ j dead. h.nameless j (sym (k.lives (actor_of j)) ∙ dead);
  first = h.first;
  names_ascend = h.names_ascend;
}

after_hub : (a : ℕ) (t : Turned) (s : State) → AllByRecursion (λ c. 9 ≤ c) (ends_of t) → IsHub (ends_of t) s
    → IsHub [] (after_turn a t s).state
after_hub a (turned.Ran xs) s far h = finished_hub endings xs s far h
after_hub a (turned.Taken b) s far h = tell_hub (a - 16) (ports_of (a - 16) s) b s h refl
after_hub a turned.Idle s far h = h
after_hub a turned.Gone s far h = fault_hub a (fault_for a s) s h

turn_hub : (a : ℕ) (s : State) → IsHub [] s → IsHub [] (turn_of a s).state
turn_hub a s h =
    let k = turn_turned a s.world h.sound in
    after_hub a (turn a s.world).turned (record s { world = (turn a s.world).world }) k.far
    (turned_hub s.world (turn a s.world) s h k)

rest_hub : (b : Bool) (s : State) → IsHub [] s → IsHub [] (cond b (unchanged s Halted) (unchanged s Idle)).state
rest_hub true s h = h
rest_hub false s h = h

work_hub : (o : Option ℕ) (s : State) → IsHub [] s → IsHub [] (work_by o s).state
work_hub None s h = rest_hub s.stopped s h
work_hub (Some a) s h = by (is_system a)
  where
    by : (b : Bool) → IsHub [] (cond b (turn_of a s) (rest s)).state
    by true = turn_hub a s h
    by false = rest_hub s.stopped s h

-- ---- steps

done_hub : (s : State) (e : Step) → IsAllowed s e → IsValid s → IsHub [] s → IsHub [] (done s e).state
done_hub s (Bind b) may valid h = bind_hub (is_barred b s) b s refl h
done_hub s (Watch x) may valid h = watch_hub (is_unwatchable x s) x s refl valid h
done_hub s (Arrive space) may valid h = arrive_hub (refusal space s) space s valid h
done_hub s (Packet k t) may valid h = packet_hub k (ports_of k s) t s h refl
done_hub s (Bad k f) may valid h = bad_hub k (ports_of k s) f s h
done_hub s (Close k) may valid h = close_hub k (ports_of k s) s h
done_hub s (Turn a) may valid h = turn_hub a s h
done_hub s Work may valid h = work_hub (lowest s.world.table) s h
done_hub s Stop may valid h = ended_well (record s { stopped = true }) (with_stop [] s h)

pub step_hub : (s : State) (e : Step) → IsAllowed s e → IsValid s → IsHub [] s → IsHub [] (step s e).state
step_hub s e may valid h = by (is_worn s e)
  where
    by : (b : Bool) → IsHub [] (cond b (unchanged s Worn) (done s e)).state
    by true = h
    by false = done_hub s e may valid h

pub run_hub : (s : State) (es : List Step) → AreAllowed s es → IsValid s → IsHub [] s → IsHub [] (run_from s es)
run_hub s [] may valid h = h
run_hub s (e ∷ es) may valid h =
    run_hub (step s e).state es may.1 (stays_valid.1 s e valid may.0) (step_hub s e may.0 valid h)

-- Which watchers end in a step: those that its turn names.
use Rattle.std.proofs.Common.{◌≡◌, ◌≢◌, ℕ, ◌+◌, ◌-◌, ◌<◌, ◌==◌, List, [], Bool, true, false, cond, Option, Some}
use Rattle.std.proofs.Common.{None, inl, inr, refl, ap, sym, ◌∙◌, subst, arith, is_some}
use Rattle.gk_sturdy.specs.declared.bound.Binding.{Binding}
use Rattle.ac_table.specs.declared.batches.Batch.{Batch}
use Rattle.ac_table.specs.Tables.{is_live, lowest}
use Rattle.ac_world.specs.declared.spreads.Spread.{Spread as SpreadOf}
use Rattle.ac_world.specs.declared.turns.Turned.{Turned}
use Rattle.ac_world.specs.declared.turns.Turned.TheVariants as turned
use Rattle.ac_world.specs.declared.watched.Watched.{Watched}
use Rattle.ac_world.specs.Turns.{turn}
use Rattle.ac_world.specs.Worlds.{actor_of, entry_of, without_entry, is_system, binding, watching}
use Rattle.ac_world.specs.Lemmas.Entries.{put_other, out_other}
use Rattle.rl_packet.specs.declared.packets.Turn.{Turn as TurnRecord}
use Rattle.rl_ports.specs.Ports.{PortsState}
use Rattle.hub_machine.specs.declared.faults.Fault.{Fault}
use Rattle.hub_machine.specs.declared.faults.Fault.TheVariants.{Spread}
use Rattle.hub_machine.specs.State.{State, ports_of, is_there}
use Rattle.hub_machine.specs.Admission.{Admitted, refused, admitted, turn_admission}
use Rattle.hub_machine.specs.Endings.{nameless, closed, failed, dismissed, finished}
use Rattle.hub_machine.specs.Machine.{unchanged, bind_unless, is_barred, watch_unless, is_unwatchable, opened, refusal}
use Rattle.hub_machine.specs.Machine.{arrive_unless, accepted, judged, packet_at, bad_at, close_at, telling_fault}
use Rattle.hub_machine.specs.Machine.{exporting, told_unless, tell, fault_for, tell_fault, after_turn, turn_of, rest}
use Rattle.hub_machine.specs.Machine.{work_by, is_worn, done, step}
use Rattle.hub_machine.specs.Replays.{replay}
use Rattle.hub_machine.specs.declared.steps.Step.{Step}
use Rattle.hub_machine.specs.declared.steps.Step.TheVariants.{Bind, Watch, Arrive, Packet, Bad, Close, Turn, Work, Stop}
use Rattle.hub_machine.specs.declared.steps.Reply.{Reply}
use Rattle.hub_machine.specs.declared.steps.Reply.TheVariants.{Worn, Halted, Idle}
use Rattle.hub_valid.specs.Lemmas.Lasting.{lasts_sent, lasts_turn, stays_watching}
use Rattle.hub_valid.specs.Lemmas.Lives.{live_ended, stays_placed}
use Rattle.hub_valid.specs.Lemmas.StepEnds.{finished_keeps_for}
use Rattle.hub_laws.specs.Laws.{WhichWatchersEnd}
use Rattle.hub_laws.specs.Refusals.{spreads_in, spreads_by, spreads_of, is_named}
use Rattle.hub_laws.proofs.Leaving.{one_or_not}
use Rattle.hub_laws.proofs.Opening.{replay_hub}
use Rattle.hub_laws.proofs.WhoLeaves.{all_named}
use Rattle.std.proofs.lemmas.Bool.Decides.{nat_tests}

-- who is there has names
names_there : (k : ℕ) (s : State) → entry_of k s.connections ≡ None → is_there k s ≡ true → ⊥
names_there k s none there = by (is_live (actor_of k) s.world.table) (entry_of k s.connections) none there
  where
    by : (b : Bool) (o : Option PortsState) → o ≡ None → is_some (cond b o None) ≡ true → ⊥
    by true None none there = cc
    by true (Some p) none there = cc
    by false o none there = cc

-- so it isn't connection 0, where that has none
there_since : (k : ℕ) (s : State) → entry_of 0 s.connections ≡ None → is_there k s ≡ true → 0 ≢ k
there_since k s none there same =
    names_there k s (ap (λ i. entry_of i s.connections) (sym same) ∙ none) there

module _ (a : ℕ) (low : a < 17) where
  -- where the watcher isn't live, it is named; and there is no connection 0
  record IsDue (xs : List SpreadOf) (t : State) : Type 0 where
    first : entry_of 0 t.connections ≡ None
    due : is_live a t.world.table ≡ false → (w : ℕ) × (is_named xs (record { actor = a; weight = w }) ≡ true)

  still_live : (xs : List SpreadOf) (t : State) → entry_of 0 t.connections ≡ None → is_live a t.world.table ≡ true
      → IsDue xs t
  still_live xs t none live = record { first = none; due = λ dead. absurd cc }

  -- a connection ends
  other_live : (k : ℕ) (t : State) → 0 ≢ k → is_live a (closed k t).world.table ≡ is_live a t.world.table
  other_live k t ne =
      let apart = differ a k low ne in
      live_ended a (actor_of k) t.world ∙ ap (λ b. cond b false (is_live a t.world.table)) apart
    where
      differ : (b k : ℕ) → b < 17 → 0 ≢ k → (b == actor_of k) ≡ false
      differ b k l ne = grind (arith, nat_tests, l, ne)

  closed_due : (xs : List SpreadOf) (k : ℕ) (t : State) → is_there k t ≡ true → IsDue xs t → IsDue xs (closed k t)
  closed_due xs k t there was =
      let ne : 0 ≢ k = there_since k t was.first there in
      record {
        first = out_other k 0 t.connections ne ∙ was.first;
        due = λ dead. was.due (sym (other_live k t ne) ∙ dead);
      }

  failed_due : (xs : List SpreadOf) (k : ℕ) (f : Fault) (t : State) → is_there k t ≡ true → IsDue xs t
      → IsDue xs (failed k f t)
  failed_due xs k f t there was =
      let closed_is = closed_due xs k t there was in
      record { first = closed_is.first; due = closed_is.due }

  dismissed_due : (xs : List SpreadOf) (x : SpreadOf) (t : State) → is_named xs x ≡ true → IsDue xs t
      → IsDue xs (dismissed x.actor t)
  dismissed_due xs x t named was = record {
    first = was.first;
    due = λ dead. elim (one_or_not a x.actor) [
      | inl same ↦ (x.weight, subst (λ b. is_named xs (record { actor = b; weight = x.weight }) ≡ true) (sym same) named)
      | inr ne ↦
          was.due (sym (live_ended a x.actor t.world
          ∙ ap (λ b. cond b false (is_live a t.world.table)) (differ a x.actor ne)) ∙ dead)
    ];
  }
    where
      differ : (b c : ℕ) → b ≢ c → (b == c) ≡ false
      differ b c ne = grind (arith, nat_tests, ne)

  ends_due : (xs : List SpreadOf) (s : State) → IsDue xs s → IsDue xs (finished xs s)
  ends_due xs s is =
      finished_keeps_for (IsDue xs) (λ x. is_named xs x ≡ true)
      (λ x k t named at there was. failed_due xs k (Spread x.weight) t there was)
      (λ x t named high l was. dismissed_due xs x t named was)
      (λ k f t over there was. failed_due xs k f t there was)
      xs s (all_named xs xs (λ x is. is)) is

  -- ---- each step, in a state in which the watcher is live

  module _ (s : State) (first : entry_of 0 s.connections ≡ None) (live : is_live a s.world.table ≡ true) where
    stays : (xs : List SpreadOf) → IsDue xs s
    stays xs = still_live xs s first live

    there_of : (k : ℕ) (p : PortsState) (t : State) → ports_of k t ≡ Some p → is_there k t ≡ true
    there_of k p t is = ap is_some is

    bind_due : (c : Bool) (b : Binding) → IsDue [] (bind_unless c b s).state
    bind_due true b = stays []
    bind_due false b =
        ends_due [] (record s { world = binding b s.world })
        (still_live [] (record s { world = binding b s.world }) first live)

    watch_due : (c : Bool) (x : Watched) → IsDue [] (watch_unless c x s).state
    watch_due true x = stays []
    watch_due false x =
        ends_due [] (record s { world = watching x s.world })
        (still_live [] (record s { world = watching x s.world }) first (stays_watching a x s.world live))

    arrive_due : (o : Option Reply) (space : ℕ) → IsDue [] (arrive_unless o space s).state
    arrive_due (Some r) space = stays []
    arrive_due None space =
        ends_due [] (opened space s)
        (still_live [] (opened space s)
        (put_other (s.world.opened + 1) 0 _ s.connections (λ same. absurd (omega (arith, same))) ∙ first)
        (stays_placed a _ s.world.table.actors live))

    judged_due : (k : ℕ) (p : PortsState) (d : Admitted) → ports_of k s ≡ Some p
        → IsDue [] (judged k d (nameless k s)).state
    judged_due k p (refused f) is =
        ends_due [] (failed k f s) (failed_due [] k f s (there_of k p s is) (stays []))
    judged_due k p (admitted x) is =
        let ne : 0 ≢ k = there_since k s first (there_of k p s is) in
        ends_due [] (accepted k x (nameless k s))
        (still_live [] (accepted k x (nameless k s))
        (put_other k 0 x.ports (without_entry k s.connections) ne ∙ out_other k 0 s.connections ne ∙ first)
        ((lasts_sent (actor_of k) x.acts s.world).live a ∙ live))

    packet_due : (k : ℕ) (o : Option PortsState) (t : TurnRecord) → ports_of k s ≡ o
        → IsDue [] (packet_at k o t s).state
    packet_due k None t is = stays []
    packet_due k (Some p) t is = judged_due k p (turn_admission k p s.world t) is

    bad_due : (k : ℕ) (o : Option PortsState) (f : Fault) → ports_of k s ≡ o → IsDue [] (bad_at k o f s).state
    bad_due k None f is = stays []
    bad_due k (Some p) f is = ends_due [] (failed k f s) (failed_due [] k f s (there_of k p s is) (stays []))

    close_due : (k : ℕ) (o : Option PortsState) → ports_of k s ≡ o → IsDue [] (close_at k o s).state
    close_due k None is = stays []
    close_due k (Some p) is = ends_due [] (closed k s) (closed_due [] k s (there_of k p s is) (stays []))

    stop_due : IsDue [] (finished [] (record s { stopped = true }))
    stop_due = ends_due [] (record s { stopped = true }) (still_live [] (record s { stopped = true }) first live)

    unless_due : (o : Option Fault) (k : ℕ) (p : PortsState) (b : Batch) → is_there k s ≡ true
        → IsDue [] (told_unless o k p b s).state
    unless_due (Some f) k p b there = ends_due [] (failed k f s) (failed_due [] k f s there (stays []))
    unless_due None k p b there =
        ends_due [] (exporting k b p s)
        (still_live [] (exporting k b p s)
        (put_other k 0 _ s.connections (there_since k s first there) ∙ first) live)

    tell_due : (k : ℕ) (o : Option PortsState) (b : Batch) → ports_of k s ≡ o → IsDue [] (tell k o b s).state
    tell_due k None b is = ends_due [] s (stays [])
    tell_due k (Some p) b is = unless_due (telling_fault k b p) k p b (there_of k p s is)

    fault_due : (c : ℕ) (o : Option Fault) → IsDue [] (tell_fault c o s).state
    fault_due c None = stays []
    fault_due c (Some f) =
        ends_due [] (record s { faults = without_entry (c - 16) s.faults })
        (still_live [] (record s { faults = without_entry (c - 16) s.faults }) first live)

    after_due : (c : ℕ) (t : Turned) → IsDue (spreads_in t) (after_turn c t s).state
    after_due c (turned.Ran xs) = ends_due xs s (stays xs)
    after_due c (turned.Taken b) = tell_due (c - 16) (ports_of (c - 16) s) b refl
    after_due c turned.Idle = stays []
    after_due c turned.Gone = fault_due c (fault_for c s)

    rest_due : (xs : List SpreadOf) → IsDue xs (rest s).state
    rest_due xs = by s.stopped
      where
        by : (b : Bool) → IsDue xs (cond b (unchanged s Halted) (unchanged s Idle)).state
        by true = stays xs
        by false = stays xs

  turn_due : (c : ℕ) (s : State) → entry_of 0 s.connections ≡ None → is_live a s.world.table ≡ true
      → IsDue (spreads_in (turn c s.world).turned) (turn_of c s).state
  turn_due c s first live =
      after_due (record s { world = (turn c s.world).world }) first ((lasts_turn c s.world).live a ∙ live) c
      (turn c s.world).turned

  work_due : (o : Option ℕ) (s : State) → entry_of 0 s.connections ≡ None → is_live a s.world.table ≡ true
      → IsDue (spreads_by o s) (work_by o s).state
  work_due None s first live = rest_due s first live []
  work_due (Some c) s first live = by (is_system c)
    where
      by : (b : Bool) → IsDue (spreads_in (turn c s.world).turned) (cond b (turn_of c s) (rest s)).state
      by true = turn_due c s first live
      by false = rest_due s first live (spreads_in (turn c s.world).turned)

  done_due : (s : State) (e : Step) → entry_of 0 s.connections ≡ None → is_live a s.world.table ≡ true
      → IsDue (spreads_of e s) (done s e).state
  done_due s (Bind b) first live = bind_due s first live (is_barred b s) b
  done_due s (Watch x) first live = watch_due s first live (is_unwatchable x s) x
  done_due s (Arrive space) first live = arrive_due s first live (refusal space s) space
  done_due s (Packet k t) first live = packet_due s first live k (ports_of k s) t refl
  done_due s (Bad k f) first live = bad_due s first live k (ports_of k s) f refl
  done_due s (Close k) first live = close_due s first live k (ports_of k s) refl
  done_due s (Turn c) first live = turn_due c s first live
  done_due s Work first live = work_due (lowest s.world.table) s first live
  done_due s Stop first live = stop_due s first live

  step_due : (s : State) (e : Step) → entry_of 0 s.connections ≡ None → is_live a s.world.table ≡ true
      → IsDue (spreads_of e s) (step s e).state
  step_due s e first live = by (is_worn s e)
    where
      by : (b : Bool) → IsDue (spreads_of e s) (cond b (unchanged s Worn) (done s e)).state
      by true = still_live (spreads_of e s) s first live
      by false = done_due s e first live

pub which_watchers_end : WhichWatchersEnd
which_watchers_end ds steps may e a low live dead =
    let s : State = replay ds steps in
    (step_due a low s e (replay_hub ds steps may).first live).due dead

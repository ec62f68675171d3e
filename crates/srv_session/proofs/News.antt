-- Who has something to do after a step is known from the step and from the state that it leaves.
use Rattle.std.proofs.Common.{◌≡◌, ◌≢◌, ℕ, ◌-◌, ◌<◌, ◌≤◌, ◌||◌, List, [], Bool, true, false, cond, eqb}
use Rattle.std.proofs.Common.{Option, Some, None, ◌⊎◌, inl, inr, refl, ap, ◌∙◌, arith, is_some}
use Rattle.std.proofs.lemmas.Bool.Decides.{nat_tests}
use Rattle.gk_sturdy.specs.declared.bound.Binding.{Binding}
use Rattle.ac_table.specs.declared.batches.Batch.{Batch}
use Rattle.ac_table.specs.Tables.{is_live, first_batch, lowest}
use Rattle.ac_world.specs.declared.spreads.Spread.{Spread as SpreadOf}
use Rattle.ac_world.specs.declared.turns.Turned.{Turned}
use Rattle.ac_world.specs.declared.turns.Turned.TheVariants as turned
use Rattle.ac_world.specs.Turns.{After, turn_first, turn}
use Rattle.ac_world.specs.declared.watched.Watched.{Watched}
use Rattle.ac_world.specs.Worlds.{actor_of, entry_of, without_entry, is_system, binding, watching}
use Rattle.ac_world.specs.Lemmas.Entries.{put_found, put_other}
use Rattle.rl_packet.specs.declared.packets.Turn.{Turn as TurnRecord}
use Rattle.rl_ports.specs.Ports.{PortsState}
use Rattle.hub_machine.specs.declared.faults.Fault.{Fault}
use Rattle.hub_machine.specs.State.{State, ports_of}
use Rattle.hub_machine.specs.Admission.{Admitted, refused, admitted, turn_admission}
use Rattle.hub_machine.specs.Endings.{nameless, closed, failed, dismissed, finished}
use Rattle.hub_machine.specs.Machine.{unchanged, opened, refusal, arrive_unless, accepted, judged, packet_at}
use Rattle.hub_machine.specs.Machine.{bind_unless, is_barred, watch_unless, is_unwatchable}
use Rattle.hub_machine.specs.Machine.{bad_at, close_at, telling_fault, exporting, told_unless, tell, fault_for}
use Rattle.hub_machine.specs.Machine.{tell_fault, after_turn, turn_of, rest, work_by, is_worn, done, step}
use Rattle.hub_machine.specs.declared.steps.Step.{Step}
use Rattle.hub_machine.specs.declared.steps.Step.TheVariants.{Bind, Watch, Arrive, Packet, Bad, Close, Turn, Work, Stop}
use Rattle.hub_machine.specs.declared.steps.Reply.{Reply}
use Rattle.hub_machine.specs.declared.steps.Reply.TheVariants.{Worn, Halted, Idle}
use Rattle.hub_valid.specs.Lemmas.Lasting.{lasts_sent, lasts_turn, stays_watching}
use Rattle.hub_valid.specs.Lemmas.Lives.{live_ended, stays_placed}
use Rattle.hub_valid.specs.Lemmas.StepEnds.{finished_keeps}
use Rattle.srv_session.specs.News.{HasTurn, is_used_up, is_waited_for, is_some_system, closes}
use Rattle.srv_session.specs.News.{ConnectionsAreSeen, WorkIsSeen}

-- ---- where a turn is idle

-- a turn by what was found out: whether the actor is live, and what waits for it
abbrev turned_where : ℕ → State → Bool → Option Batch → After
turned_where a s live o = cond live (turn_first a o s.world) (record { world = s.world; turned = turned.Gone })

abbrev reply_where : ℕ → State → Bool → Bool → Option Batch → Reply
reply_where a s used live o =
    (cond used (unchanged s Worn) (after_turn a (turned_where a s live o).turned
    (record s { world = (turned_where a s live o).world }))).reply

fault_is_told : (a : ℕ) (o : Option Fault) (s : State) → (tell_fault a o s).reply ≢ Idle
fault_is_told a None s is = cc
fault_is_told a (Some f) s is = cc

-- its actor is live
idle_lives : (a : ℕ) (s : State) → (step s (Turn a)).reply ≡ Idle → is_live a s.world.table ≡ true
idle_lives a s is = by (is_used_up s) (is_live a s.world.table) is
  where
    by : (used live : Bool) → reply_where a s used live (first_batch a s.world.table) ≡ Idle → live ≡ true
    by true live is = absurd cc
    by false true is = refl
    by false false is = absurd (fault_is_told a (fault_for a s) s is)

-- and where nothing waits for a live one, and handles are left, it is
nothing_waits : (a : ℕ) (s : State) → is_used_up s ≡ false → is_live a s.world.table ≡ true
    → first_batch a s.world.table ≡ None → (step s (Turn a)).reply ≡ Idle
nothing_waits a s left live none =
    by (is_used_up s) (is_live a s.world.table) (first_batch a s.world.table) left live none
  where
    by : (used live : Bool) (o : Option Batch) → used ≡ false → live ≡ true → o ≡ None
        → reply_where a s used live o ≡ Idle
    by true live o left is none = absurd cc
    by false false o left is none = absurd cc
    by false true (Some b) left is none = absurd cc
    by false true None left is none = refl

-- ---- connection k is live, or its fault is kept

module _ (k : ℕ) (since : 1 ≤ k) where
  abbrev IsKnown : State → Type 0
  IsKnown s = (is_live (actor_of k) s.world.table || is_some (entry_of k s.faults)) ≡ true

  live_known : (s : State) → is_live (actor_of k) s.world.table ≡ true → IsKnown s
  live_known s live = ap (λ b. b || is_some (entry_of k s.faults)) live

  fault_known : (s : State) (f : Fault) → entry_of k s.faults ≡ Some f → IsKnown s
  fault_known s f found = by (is_live (actor_of k) s.world.table)
    where
      by : (b : Bool) → (b || is_some (entry_of k s.faults)) ≡ true
      by true = refl
      by false = ap is_some found

  -- so it is where neither changes
  same_known : (s t : State) → is_live (actor_of k) t.world.table ≡ is_live (actor_of k) s.world.table
      → entry_of k t.faults ≡ entry_of k s.faults → IsKnown s → IsKnown t
  same_known s t live fault known =
      ap (λ b. b || is_some (entry_of k t.faults)) live
      ∙ ap (λ o. is_live (actor_of k) s.world.table || is_some o) fault ∙ known

  -- where another actor ends it is as live as before
  spared : (a : ℕ) (s : State) → eqb (actor_of k) a ≡ false
      → is_live (actor_of k) (dismissed a s).world.table ≡ is_live (actor_of k) s.world.table
  spared a s apart =
      live_ended (actor_of k) a s.world ∙ ap (λ b. cond b false (is_live (actor_of k) s.world.table)) apart

  other_actor : (j : ℕ) → eqb k j ≡ false → eqb (actor_of k) (actor_of j) ≡ false
  other_actor j apart = grind (arith, nat_tests, apart)

  other_number : (j : ℕ) → eqb k j ≡ false → k ≢ j
  other_number j apart same = absurd (grind (arith, nat_tests, apart, same))

  fails_known : (j : ℕ) (f : Fault) (s : State) → IsKnown s → IsKnown (failed j f s)
  fails_known j f s known = by (eqb k j) refl
    where
      by : (b : Bool) → eqb k j ≡ b → IsKnown (failed j f s)
      by true is =
          let same : k ≡ j = grind (arith, nat_tests, is) in
          fault_known (failed j f s) f (ap (λ i. entry_of i (failed j f s).faults) same ∙ put_found j f s.faults)
      by false apart =
          same_known s (failed j f s) (spared (actor_of j) s (other_actor j apart))
          (put_other j k f s.faults (other_number j apart)) known

  dismisses_known : (a : ℕ) (s : State) → a < 17 → IsKnown s → IsKnown (dismissed a s)
  dismisses_known a s low known =
      let apart : eqb (actor_of k) a ≡ false = grind (arith, nat_tests, low, since) in
      same_known s (dismissed a s) (spared a s apart) refl known

  ends_known : (xs : List SpreadOf) (s : State) → IsKnown s → IsKnown (finished xs s)
  ends_known xs s known =
      finished_keeps IsKnown (λ j f t there was. fails_known j f t was)
      (λ a t high low was. dismisses_known a t low was) xs s known

  -- ---- what a step leaves of a connection that is live

  abbrev IsLive : State → Type 0
  IsLive s = is_live (actor_of k) s.world.table ≡ true

  live_ends : (xs : List SpreadOf) (s : State) → IsLive s → IsKnown (finished xs s)
  live_ends xs s live = ends_known xs s (live_known s live)

  live_fails : (j : ℕ) (f : Fault) (s : State) → IsLive s → IsKnown (finished [] (failed j f s))
  live_fails j f s live = ends_known [] (failed j f s) (fails_known j f s (live_known s live))

  bind_known : (c : Bool) (b : Binding) (s : State) → IsLive s → IsKnown (bind_unless c b s).state
  bind_known true b s live = live_known s live
  bind_known false b s live = live_ends [] (record s { world = binding b s.world }) live

  watch_known : (c : Bool) (x : Watched) (s : State) → IsLive s → IsKnown (watch_unless c x s).state
  watch_known true x s live = live_known s live
  watch_known false x s live =
      live_ends [] (record s { world = watching x s.world }) (stays_watching (actor_of k) x s.world live)

  arrive_known : (o : Option Reply) (space : ℕ) (s : State) → IsLive s → IsKnown (arrive_unless o space s).state
  arrive_known (Some r) space s live = live_known s live
  arrive_known None space s live =
      live_ends [] (opened space s) (stays_placed (actor_of k) _ s.world.table.actors live)

  judged_known : (j : ℕ) (d : Admitted) (s : State) → IsLive s → IsKnown (judged j d (nameless j s)).state
  judged_known j (refused f) s live = live_fails j f s live
  judged_known j (admitted x) s live =
      live_ends [] (accepted j x (nameless j s)) ((lasts_sent (actor_of j) x.acts s.world).live (actor_of k) ∙ live)

  packet_known : (j : ℕ) (o : Option PortsState) (t : TurnRecord) (s : State) → IsLive s
      → IsKnown (packet_at j o t s).state
  packet_known j None t s live = live_known s live
  packet_known j (Some ports) t s live = judged_known j (turn_admission j ports s.world t) s live

  bad_known : (j : ℕ) (o : Option PortsState) (f : Fault) (s : State) → IsLive s → IsKnown (bad_at j o f s).state
  bad_known j None f s live = live_known s live
  bad_known j (Some ports) f s live = live_fails j f s live

  -- it is closed, or stays live
  close_known : (j : ℕ) (o : Option PortsState) (s : State) → IsLive s
      → (eqb j k ≡ true) ⊎ IsKnown (close_at j o s).state
  close_known j None s live = inr (live_known s live)
  close_known j (Some ports) s live = by (eqb j k) refl
    where
      by : (b : Bool) → eqb j k ≡ b → (eqb j k ≡ true) ⊎ IsKnown (finished [] (closed j s))
      by true is = inl is
      by false is =
          let apart : eqb k j ≡ false = grind (arith, nat_tests, is) in
          inr (live_ends [] (closed j s) (spared (actor_of j) s (other_actor j apart) ∙ live))

  unless_known : (o : Option Fault) (j : ℕ) (ports : PortsState) (b : Batch) (s : State) → IsLive s
      → IsKnown (told_unless o j ports b s).state
  unless_known (Some f) j ports b s live = live_fails j f s live
  unless_known None j ports b s live = live_ends [] (exporting j b ports s) live

  tell_known : (j : ℕ) (o : Option PortsState) (b : Batch) (s : State) → IsLive s → IsKnown (tell j o b s).state
  tell_known j None b s live = live_ends [] s live
  tell_known j (Some ports) b s live = unless_known (telling_fault j b ports) j ports b s live

  fault_told : (a : ℕ) (o : Option Fault) (s : State) → IsLive s → IsKnown (tell_fault a o s).state
  fault_told a None s live = live_known s live
  fault_told a (Some f) s live = live_ends [] (record s { faults = without_entry (a - 16) s.faults }) live

  after_known : (a : ℕ) (t : Turned) (s : State) → IsLive s → IsKnown (after_turn a t s).state
  after_known a (turned.Ran xs) s live = live_ends xs s live
  after_known a (turned.Taken b) s live = tell_known (a - 16) (ports_of (a - 16) s) b s live
  after_known a turned.Idle s live = live_known s live
  after_known a turned.Gone s live = fault_told a (fault_for a s) s live

  turn_known : (a : ℕ) (s : State) → IsLive s → IsKnown (turn_of a s).state
  turn_known a s live =
      after_known a (turn a s.world).turned (record s { world = (turn a s.world).world })
      ((lasts_turn a s.world).live (actor_of k) ∙ live)

  rest_known : (s : State) → IsLive s → IsKnown (rest s).state
  rest_known s live = by s.stopped
    where
      by : (b : Bool) → IsKnown (cond b (unchanged s Halted) (unchanged s Idle)).state
      by true = live_known s live
      by false = live_known s live

  work_known : (o : Option ℕ) (s : State) → IsLive s → IsKnown (work_by o s).state
  work_known None s live = rest_known s live
  work_known (Some a) s live = by (is_system a)
    where
      by : (b : Bool) → IsKnown (cond b (turn_of a s) (rest s)).state
      by true = turn_known a s live
      by false = rest_known s live

  done_known : (s : State) (e : Step) → IsLive s → (closes k e ≡ true) ⊎ IsKnown (done s e).state
  done_known s (Bind b) live = inr (bind_known (is_barred b s) b s live)
  done_known s (Watch x) live = inr (watch_known (is_unwatchable x s) x s live)
  done_known s (Arrive space) live = inr (arrive_known (refusal space s) space s live)
  done_known s (Packet j t) live = inr (packet_known j (ports_of j s) t s live)
  done_known s (Bad j f) live = inr (bad_known j (ports_of j s) f s live)
  done_known s (Close j) live = close_known j (ports_of j s) s live
  done_known s (Turn a) live = inr (turn_known a s live)
  done_known s Work live = inr (work_known (lowest s.world.table) s live)
  done_known s Stop live = inr (live_ends [] (record s { stopped = true }) live)

  step_known : (s : State) (e : Step) → IsLive s → (closes k e ≡ true) ⊎ IsKnown (step s e).state
  step_known s e live = by (is_worn s e)
    where
      by : (b : Bool) → (closes k e ≡ true) ⊎ IsKnown (cond b (unchanged s Worn) (done s e)).state
      by true = inr (live_known s live)
      by false = done_known s e live

  -- ---- what tells of it

  known_waits : (s : State) → HasTurn k s → IsKnown s → is_waited_for k s ≡ true
  known_waits s news known =
      by (is_used_up s) (is_live (actor_of k) s.world.table) (first_batch (actor_of k) s.world.table)
      (entry_of k s.faults) refl refl refl known
    where
      by : (used live : Bool) (o : Option Batch) (f : Option Fault) → is_used_up s ≡ used
          → is_live (actor_of k) s.world.table ≡ live → first_batch (actor_of k) s.world.table ≡ o
          → (live || is_some f) ≡ true → (is_some o || is_some f || used) ≡ true
      by used live (Some b) f left is none known = refl
      by used live None (Some f) left is none known = refl
      by true live None None left is none known = refl
      by false true None None left is none known = absurd (news (nothing_waits (actor_of k) s left is none))
      by false false None None left is none known = absurd cc

pub connections_are_seen : ConnectionsAreSeen
connections_are_seen s e k since idle news =
    by (step_known k since s e (idle_lives (actor_of k) s idle))
  where
    by : (closes k e ≡ true) ⊎ IsKnown k since (step s e).state
        → (closes k e ≡ true) ⊎ (is_waited_for k (step s e).state ≡ true)
    by (inl is) = inl is
    by (inr known) = inr (known_waits k since (step s e).state news known)

-- ---- work

pub work_is_seen : WorkIsSeen
work_is_seen s news = by (is_used_up s) (lowest s.world.table) news
  where
    at_end : (b c : Bool) → (b || c || true) ≡ true
    at_end true c = refl
    at_end false true = refl
    at_end false false = refl

    rests : (b : Bool) → (cond b (unchanged s Halted) (unchanged s Idle)).reply ≢ Idle → (false || b || false) ≡ true
    rests true more = refl
    rests false more = absurd (more refl)

    works : (b : Bool) (a : ℕ) → (cond b (turn_of a s) (rest s)).reply ≢ Idle → (b || s.stopped || false) ≡ true
    works true a more = refl
    works false a more = rests s.stopped more

    by : (used : Bool) (o : Option ℕ) → (cond used (unchanged s Worn) (work_by o s)).reply ≢ Idle
        → (is_some_system o || s.stopped || used) ≡ true
    by true o more = at_end (is_some_system o) s.stopped
    by false None more = rests s.stopped more
    by false (Some a) more = works (is_system a) a more

-- Who ends in a step.
use Rattle.std.proofs.Common.{◌≡◌, ◌≢◌, ℕ, ◌-◌, ◌<◌, ◌≤◌, ◌==◌, ◌&&◌, ◌||◌, List, [], ◌∷◌, Bool, true, false, cond}
use Rattle.std.proofs.Common.{Option, Some, None, ◌⊎◌, inl, inr, refl, ap, sym, ◌∙◌, subst, arith, ◌+◌, is_some}
use Rattle.std.specs.Prelude.{nat_lt}
use Rattle.std.specs.Option.{option_or}
use Rattle.std.proofs.lemmas.Bool.Decides.{nat_tests}
use Rattle.std.specs.List.{AllByRecursion}
use Rattle.gk_sturdy.specs.declared.bound.Binding.{Binding}
use Rattle.ac_table.specs.declared.batches.Batch.{Batch}
use Rattle.ac_table.specs.Tables.{is_live, lowest}
use Rattle.ac_world.specs.declared.spreads.Spread.{Spread as SpreadOf}
use Rattle.ac_table.specs.declared.loads.Load.{Load}
use Rattle.ac_world.specs.declared.turns.Turned.{Turned}
use Rattle.ac_world.specs.declared.turns.Turned.TheVariants as turned
use Rattle.ac_table.specs.Sums.{top_load}
use Rattle.ac_world.specs.Sums.{deliveries}
use Rattle.ac_world.specs.Turns.{turn}
use Rattle.ac_world.specs.declared.watched.Watched.{Watched}
use Rattle.ac_world.specs.Worlds.{actor_of, entry_of, without_entry, is_system, binding, watching}
use Rattle.ac_world.specs.Lemmas.Entries.{put_found, put_other}
use Rattle.rl_packet.specs.declared.packets.Turn.{Turn as TurnRecord}
use Rattle.rl_ports.specs.Ports.{PortsState}
use Rattle.hub_machine.specs.Limits.{most_deliveries, most_deliveries_weight}
use Rattle.hub_machine.specs.declared.faults.Fault.{Fault}
use Rattle.hub_machine.specs.declared.faults.Fault.TheVariants.{Overrun, Spread}
use Rattle.hub_machine.specs.State.{State, ports_of, is_there}
use Rattle.hub_machine.specs.Admission.{Admitted, refused, admitted, turn_admission}
use Rattle.hub_machine.specs.Endings.{nameless, closed, failed, dismissed, overrun_by, finished}
use Rattle.hub_machine.specs.Machine.{After, unchanged, opened, refusal, arrive_unless, accepted, judged, packet_at}
use Rattle.hub_machine.specs.Machine.{bind_unless, is_barred, watch_unless, is_unwatchable}
use Rattle.hub_machine.specs.Machine.{bad_at, close_at, telling_fault, exporting, told_unless, tell, fault_for}
use Rattle.hub_machine.specs.Machine.{tell_fault, after_turn, turn_of, rest, work_by, is_worn, done, step}
use Rattle.hub_machine.specs.declared.steps.Step.{Step}
use Rattle.hub_machine.specs.declared.steps.Step.TheVariants.{Bind, Watch, Arrive, Packet, Bad, Close, Turn, Work, Stop}
use Rattle.hub_machine.specs.declared.steps.Reply.{Reply}
use Rattle.hub_machine.specs.declared.steps.Reply.TheVariants as reply
use Rattle.hub_valid.specs.Lemmas.Lasting.{lasts_sent, lasts_turn, stays_watching}
use Rattle.hub_valid.specs.Lemmas.Lives.{live_ended, stays_placed}
use Rattle.hub_valid.specs.Lemmas.StepEnds.{finished_keeps_for}
use Rattle.hub_laws.specs.Laws.{WhoEnds, EndsAtOnce}
use Rattle.hub_laws.specs.Refusals.{whose, IsDismissed, spreads_in, spreads_of, is_named, IsSpread, IsOverrun, HasFailed}
use Rattle.hub_laws.specs.Refusals.{spreads_by, IsOver}
use Rattle.hub_laws.proofs.Presence.{dead_itself}
use Rattle.hub_laws.proofs.Uncounted.{endings_spare_others}
use Rattle.hub_laws.proofs.Leaving.{one_or_not}
use Rattle.hub_laws.proofs.Staying.{taken_by_connection}

-- ---- the faults for which a step's end ends connections

overrun_is : (l : Load) (f : Fault) → overrun_by l ≡ Some f → IsOverrun f
overrun_is l f is = by (nat_lt most_deliveries l.count) (nat_lt most_deliveries_weight l.weight) refl refl is
  where
    by : (b c : Bool) → nat_lt most_deliveries l.count ≡ b → nat_lt most_deliveries_weight l.weight ≡ c
        → option_or (cond {A = Option Fault} b (Some (Overrun 1 l.count)) None)
        (cond {A = Option Fault} c (Some (Overrun 2 l.weight)) None) ≡ Some f → IsOverrun f
    by true c many heavy is = let same : Overrun 1 l.count ≡ f = cc in
        (l.count, inl (sym same, grind (arith, nat_tests, many)))
    by false true many heavy is = let same : Overrun 2 l.weight ≡ f = cc in
        (l.weight, inr (sym same, grind (arith, nat_tests, heavy)))
    by false false many heavy is = absurd cc

or_later : (b c : Bool) → c ≡ true → (b || c) ≡ true
or_later true c is = refl
or_later false c is = is

or_first : (b c : Bool) → b ≡ true → (b || c) ≡ true
or_first true c is = refl
or_first false c is = absurd cc

-- each of them is named
pub named_first : (y : SpreadOf) (ys : List SpreadOf) → is_named (y ∷ ys) y ≡ true
named_first y ys =
    let same : ((y.actor == y.actor) && (y.weight == y.weight)) ≡ true = grind (arith, nat_tests) in
    or_first ((y.actor == y.actor) && (y.weight == y.weight)) (is_named ys y) same

pub all_named : (xs ys : List SpreadOf) → ((x : SpreadOf) → is_named ys x ≡ true → is_named xs x ≡ true)
    → AllByRecursion (λ x. is_named xs x ≡ true) ys
all_named xs [] into = tt
all_named xs (y ∷ ys) into = (
  into y (named_first y ys),
  all_named xs ys
      (λ x is. into x (or_later ((y.actor == x.actor) && (y.weight == x.weight)) (is_named ys x) is)),
)

-- a connection stays live where another ends
live_others : (k j : ℕ) (s : State) → k ≢ j → is_live (actor_of k) (failed j (Spread 0) s).world.table
    ≡ is_live (actor_of k) s.world.table
live_others k j s ne =
    let apart : (actor_of k == actor_of j) ≡ false = by (actor_of k == actor_of j) refl in
    live_ended (actor_of k) (actor_of j) s.world
    ∙ ap (λ b. cond b false (is_live (actor_of k) s.world.table)) apart
  where
    by : (b : Bool) → (actor_of k == actor_of j) ≡ b → b ≡ false
    by false is = refl
    by true is =
        let same : actor_of k ≡ actor_of j = grind (arith, nat_tests, is) in absurd (ne (omega (arith, same)))

-- and where a watcher does
live_dismissed : (k a : ℕ) (s : State) → 1 ≤ k → a < 17
    → is_live (actor_of k) (dismissed a s).world.table ≡ is_live (actor_of k) s.world.table
live_dismissed k a s since low =
    let apart : (actor_of k == a) ≡ false = apart_from (actor_of k) a low (omega (arith, since)) in
    live_ended (actor_of k) a s.world ∙ ap (λ b. cond b false (is_live (actor_of k) s.world.table)) apart
  where
    apart_from : (b c : ℕ) → c < 17 → 17 ≤ b → (b == c) ≡ false
    apart_from b c l h = grind (arith, nat_tests, l, h)

module _ (k : ℕ) (since : 1 ≤ k) where
  -- where it isn't live, it has failed
  abbrev HasReason : List SpreadOf → State → Type 0
  HasReason xs t = is_live (actor_of k) t.world.table ≡ false → HasFailed xs k t

  -- a connection fails for a fault that is due to it
  with_reason : (xs : List SpreadOf) (j : ℕ) (f : Fault) (t : State)
      → IsSpread xs (actor_of j) f ⊎ IsOverrun f → HasReason xs t → HasReason xs (failed j f t)
  with_reason xs j f t due had dead = elim (one_or_not k j) [
    | inl same ↦
        subst (λ i. HasFailed xs i (failed j f t)) (sym same) (f, put_found j f t.faults, due)
    | inr ne ↦
        (let before = had (sym (live_others k j t ne) ∙ dead) in
        (before.0, put_other j k f t.faults ne ∙ before.1, before.2))
  ]

  ends_reasoned : (xs : List SpreadOf) (s : State) → is_live (actor_of k) s.world.table ≡ true
      → HasReason xs (finished xs s)
  ends_reasoned xs s live =
      finished_keeps_for (HasReason xs) (λ x. is_named xs x ≡ true)
      (λ x j t named at there had.
      with_reason xs j (Spread x.weight) t (inl (x.weight, spread_at x j named at, refl)) had)
      (λ x t named high low had dead. had (sym (live_dismissed k x.actor t since low) ∙ dead))
      (λ j f t over there had.
      with_reason xs j f t (inr (overrun_is (top_load (deliveries (actor_of j) t.world)) f over)) had)
      xs s (all_named xs xs (λ x is. is)) (λ dead. absurd cc)
    where
      spread_at : (x : SpreadOf) (j : ℕ) → is_named xs x ≡ true → actor_of j ≡ x.actor
          → is_named xs (record { actor = actor_of j; weight = x.weight }) ≡ true
      spread_at x j named at =
          subst (λ a. is_named xs (record { actor = a; weight = x.weight }) ≡ true) (sym at) named

  -- ---- steps

  -- connection k, live before, isn't after x, which is what step e does
  abbrev HasLeft : Step → List SpreadOf → After → Type 0
  HasLeft e xs x = is_live (actor_of k) x.state.world.table ≡ false
      → IsDismissed k e x.reply ⊎ HasFailed xs k x.state

  stays : (e : Step) (xs : List SpreadOf) (s : State) (r : Reply) → is_live (actor_of k) s.world.table ≡ true
      → HasLeft e xs (unchanged s r)
  stays e xs s r live dead = absurd cc

  ends_left : (e : Step) (xs : List SpreadOf) (s : State) (r : Reply) → is_live (actor_of k) s.world.table ≡ true
      → HasLeft e xs (record { state = finished xs s; reply = r })
  ends_left e xs s r live dead = inr (ends_reasoned xs s live dead)

  -- connection j fails, and the step replies so
  fails_left : (e : Step) (j : ℕ) (f : Fault) (s : State) → is_live (actor_of k) s.world.table ≡ true
      → whose e ≡ Some j → HasLeft e [] (record { state = finished [] (failed j f s); reply = reply.Refused f })
  fails_left e j f s live own = by (one_or_not k j)
    where
      by : (k ≡ j) ⊎ (k ≢ j)
          → HasLeft e [] (record { state = finished [] (failed j f s); reply = reply.Refused f })
      by (inl same) = λ dead. inl (inr (own ∙ ap Some (sym same), (f, refl)))
      by (inr ne) = ends_left e [] (failed j f s) (reply.Refused f) (live_others k j s ne ∙ live)

  -- ---- each step

  arrive_left : (e : Step) (o : Option Reply) (space : ℕ) (s : State) → is_live (actor_of k) s.world.table ≡ true
      → HasLeft e [] (arrive_unless o space s)
  arrive_left e (Some r) space s live = stays e [] s r live
  arrive_left e None space s live =
      ends_left e [] (opened space s) (reply.Opened (s.world.opened + 1))
      (stays_placed (actor_of k) _ s.world.table.actors live)

  judged_left : (e : Step) (j : ℕ) (d : Admitted) (s : State) → is_live (actor_of k) s.world.table ≡ true
      → whose e ≡ Some j → HasLeft e [] (judged j d (nameless j s))
  judged_left e j (refused f) s live own = fails_left e j f s live own
  judged_left e j (admitted x) s live own =
      ends_left e [] (accepted j x (nameless j s)) reply.Taken
      ((lasts_sent (actor_of j) x.acts s.world).live (actor_of k) ∙ live)

  packet_left : (e : Step) (j : ℕ) (o : Option PortsState) (t : TurnRecord) (s : State)
      → is_live (actor_of k) s.world.table ≡ true → whose e ≡ Some j → HasLeft e [] (packet_at j o t s)
  packet_left e j None t s live own = stays e [] s reply.Gone live
  packet_left e j (Some ports) t s live own = judged_left e j (turn_admission j ports s.world t) s live own

  bad_left : (e : Step) (j : ℕ) (o : Option PortsState) (f : Fault) (s : State)
      → is_live (actor_of k) s.world.table ≡ true → whose e ≡ Some j → HasLeft e [] (bad_at j o f s)
  bad_left e j None f s live own = stays e [] s reply.Gone live
  bad_left e j (Some ports) f s live own = fails_left e j f s live own

  close_left : (j : ℕ) (o : Option PortsState) (s : State) → is_live (actor_of k) s.world.table ≡ true
      → HasLeft (Close j) [] (close_at j o s)
  close_left j None s live = stays (Close j) [] s reply.Gone live
  close_left j (Some ports) s live = by (one_or_not k j)
    where
      by : (k ≡ j) ⊎ (k ≢ j) → HasLeft (Close j) [] (close_at j (Some ports) s)
      by (inl same) = λ dead. inl (inl (ap Close (sym same)))
      by (inr ne) = ends_left (Close j) [] (closed j s) reply.Taken (live_others k j s ne ∙ live)

  -- a turn, which in s is done in u
  unless_left : (e : Step) (o : Option Fault) (j : ℕ) (ports : PortsState) (b : Batch) (u : State)
      → is_live (actor_of k) u.world.table ≡ true → whose e ≡ Some j → HasLeft e [] (told_unless o j ports b u)
  unless_left e (Some f) j ports b u live own = fails_left e j f u live own
  unless_left e None j ports b u live own = ends_left e [] (exporting j b ports u) _ live

  tell_left : (e : Step) (j : ℕ) (o : Option PortsState) (b : Batch) (u : State)
      → is_live (actor_of k) u.world.table ≡ true → whose e ≡ Some j → HasLeft e [] (tell j o b u)
  tell_left e j None b u live own = ends_left e [] u reply.Ran live
  tell_left e j (Some ports) b u live own = unless_left e (telling_fault j b ports) j ports b u live own

  fault_left : (e : Step) (a : ℕ) (o : Option Fault) (u : State) → is_live (actor_of k) u.world.table ≡ true
      → HasLeft e [] (tell_fault a o u)
  fault_left e a None u live = stays e [] u reply.Gone live
  fault_left e a (Some f) u live =
      ends_left e [] (record u { faults = without_entry (a - 16) u.faults }) _ live

  after_left : (e : Step) (a : ℕ) (t : Turned) (u : State) → is_live (actor_of k) u.world.table ≡ true
      → ((b : Batch) → t ≡ turned.Taken b → whose e ≡ Some (a - 16))
      → HasLeft e (spreads_in t) (after_turn a t u)
  after_left e a (turned.Ran xs) u live own = ends_left e xs u reply.Ran live
  after_left e a (turned.Taken b) u live own = tell_left e (a - 16) (ports_of (a - 16) u) b u live (own b refl)
  after_left e a turned.Idle u live own = stays e [] u reply.Idle live
  after_left e a turned.Gone u live own = fault_left e a (fault_for a u) u live

  turn_left : (e : Step) (a : ℕ) (s : State) → is_live (actor_of k) s.world.table ≡ true
      → (is_system a ≡ false → whose e ≡ Some (a - 16)) → HasLeft e (spreads_in (turn a s.world).turned) (turn_of a s)
  turn_left e a s live own =
      after_left e a (turn a s.world).turned (record s { world = (turn a s.world).world })
      ((lasts_turn a s.world).live (actor_of k) ∙ live)
      (λ b taken. own (taken_by_connection a s.world b taken))

  rest_left : (e : Step) (xs : List SpreadOf) (s : State) → is_live (actor_of k) s.world.table ≡ true
      → HasLeft e xs (rest s)
  rest_left e xs s live = by s.stopped
    where
      by : (b : Bool) → HasLeft e xs (cond b (unchanged s reply.Halted) (unchanged s reply.Idle))
      by true = stays e xs s reply.Halted live
      by false = stays e xs s reply.Idle live

  work_left : (o : Option ℕ) (s : State) → is_live (actor_of k) s.world.table ≡ true
      → HasLeft Work (spreads_by o s) (work_by o s)
  work_left None s live = rest_left Work [] s live
  work_left (Some a) s live = by (is_system a) refl
    where
      by : (b : Bool) → is_system a ≡ b
          → HasLeft Work (spreads_in (turn a s.world).turned) (cond b (turn_of a s) (rest s))
      by true system = turn_left Work a s live (λ far. absurd cc)
      by false far = rest_left Work (spreads_in (turn a s.world).turned) s live

  bind_left : (c : Bool) (b : Binding) (s : State) → is_live (actor_of k) s.world.table ≡ true
      → HasLeft (Bind b) [] (bind_unless c b s)
  bind_left true b s live = stays (Bind b) [] s reply.Barred live
  bind_left false b s live = ends_left (Bind b) [] (record s { world = binding b s.world }) reply.Taken live

  watch_left : (c : Bool) (x : Watched) (s : State) → is_live (actor_of k) s.world.table ≡ true
      → HasLeft (Watch x) [] (watch_unless c x s)
  watch_left true x s live = stays (Watch x) [] s reply.Barred live
  watch_left false x s live =
      ends_left (Watch x) [] (record s { world = watching x s.world }) reply.Taken
      (stays_watching (actor_of k) x s.world live)

  done_left : (s : State) (e : Step) → is_live (actor_of k) s.world.table ≡ true → HasLeft e (spreads_of e s) (done s e)
  done_left s (Bind b) live = bind_left (is_barred b s) b s live
  done_left s (Watch x) live = watch_left (is_unwatchable x s) x s live
  done_left s (Arrive space) live = arrive_left (Arrive space) (refusal space s) space s live
  done_left s (Packet j t) live = packet_left (Packet j t) j (ports_of j s) t s live refl
  done_left s (Bad j f) live = bad_left (Bad j f) j (ports_of j s) f s live refl
  done_left s (Close j) live = close_left j (ports_of j s) s live
  done_left s (Turn a) live =
      turn_left (Turn a) a s live (λ far. ap (λ b. cond {A = Option ℕ} b None (Some (a - 16))) far)
  done_left s Work live = work_left (lowest s.world.table) s live
  done_left s Stop live = ends_left Stop [] (record s { stopped = true }) reply.Taken live

  step_left : (s : State) (e : Step) → is_live (actor_of k) s.world.table ≡ true → HasLeft e (spreads_of e s) (step s e)
  step_left s e live = by (is_worn s e)
    where
      by : (b : Bool) → HasLeft e (spreads_of e s) (cond b (unchanged s reply.Worn) (done s e))
      by true = stays e (spreads_of e s) s reply.Worn live
      by false = done_left s e live

pub who_ends : WhoEnds
who_ends s e k since live dead = step_left k since s e live dead

-- ---- what is counted at a step's end

live_there : (k : ℕ) (s : State) → is_there k s ≡ true → is_live (actor_of k) s.world.table ≡ true
live_there k s there = by (is_live (actor_of k) s.world.table) refl there
  where
    by : (b : Bool) → is_live (actor_of k) s.world.table ≡ b → is_some (cond b (entry_of k s.connections) None) ≡ true
        → is_live (actor_of k) s.world.table ≡ true
    by true live there = live
    by false dead there = absurd cc

module _ (k : ℕ) (since : 1 ≤ k) (xs : List SpreadOf) (s : State) where
  -- while connection k is live, as much counts of it as in s; and it ends where that is too much, or it spread
  record IsWeighed (t : State) : Type 0 where
    same : is_live (actor_of k) t.world.table ≡ true
        → deliveries (actor_of k) t.world ≡ deliveries (actor_of k) s.world
    due : is_live (actor_of k) t.world.table ≡ false
        → (f : Fault) × (entry_of k t.faults ≡ Some f) × (IsSpread xs (actor_of k) f ⊎ IsOver k s f)

  weighed_failed : (j : ℕ) (f : Fault) (t : State) → (k ≡ j → IsSpread xs (actor_of k) f ⊎ IsOver k s f) → IsWeighed t
      → IsWeighed (failed j f t)
  weighed_failed j f t why was = record {
    same = λ live. elim (one_or_not k j) [
      | inl one ↦
          absurd (let dead : is_live (actor_of k) (failed j f t).world.table ≡ false =
          ap (λ i. is_live (actor_of i) (failed j f t).world.table) one ∙ dead_itself (actor_of j) t.world in cc)
      | inr ne ↦
          endings_spare_others (actor_of j) (actor_of k) t.world (λ one. ne (omega (arith, one)))
          ∙ was.same (sym (live_others k j t ne) ∙ live)
    ];
    due = λ dead. elim (one_or_not k j) [
      | inl one ↦ (f, ap (λ i. entry_of i (failed j f t).faults) one ∙ put_found j f t.faults, why one)
      | inr ne ↦
          (let before = was.due (sym (live_others k j t ne) ∙ dead) in
          (before.0, put_other j k f t.faults ne ∙ before.1, before.2))
    ];
  }

  weighed_dismissed : (a : ℕ) (t : State) → a < 17 → IsWeighed t → IsWeighed (dismissed a t)
  weighed_dismissed a t low was = record {
    same = λ live.
        endings_spare_others a (actor_of k) t.world (λ one. absurd (omega (arith, one, low, since)))
        ∙ was.same (sym (live_dismissed k a t since low) ∙ live);
    due = λ dead. was.due (sym (live_dismissed k a t since low) ∙ dead);
  }

  weighed : is_live (actor_of k) s.world.table ≡ true → IsWeighed (finished xs s)
  weighed live =
      finished_keeps_for IsWeighed (λ x. is_named xs x ≡ true)
      (λ x j t named at there was.
      weighed_failed j (Spread x.weight) t (λ one. inl (x.weight, spread_at x j one named at, refl)) was)
      (λ x t named high low was. weighed_dismissed x.actor t low was)
      (λ j f t over there was. weighed_failed j f t (λ one. inr (over_at j f t one over there was)) was)
      xs s (all_named xs xs (λ x is. is)) (record { same = λ here. refl; due = λ dead. absurd cc })
    where
      spread_at : (x : SpreadOf) (j : ℕ) → k ≡ j → is_named xs x ≡ true → actor_of j ≡ x.actor
          → is_named xs (record { actor = actor_of k; weight = x.weight }) ≡ true
      spread_at x j one named at =
          subst (λ a. is_named xs (record { actor = a; weight = x.weight }) ≡ true) (sym (ap actor_of one ∙ at)) named

      over_at : (j : ℕ) (f : Fault) (t : State) → k ≡ j
          → overrun_by (top_load (deliveries (actor_of j) t.world)) ≡ Some f → is_there j t ≡ true → IsWeighed t
          → IsOver k s f
      over_at j f t one over there was =
          ap (λ d. overrun_by (top_load d)) (sym (was.same (live_there k t (ap (λ i. is_there i t) one ∙ there))))
          ∙ ap (λ i. overrun_by (top_load (deliveries (actor_of i) t.world))) one ∙ over

pub ends_at_once : EndsAtOnce
ends_at_once xs s k since live dead = (weighed k since xs s live).due dead

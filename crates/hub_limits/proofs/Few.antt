-- Names are kept of 32 connections at most: the one that would be the 33rd doesn't come.
use Rattle.std.proofs.Common.{◌≡◌, ℕ, ◌+◌, ◌-◌, ◌<◌, ◌≤◌, List, [], ◌∷◌, Bool, true, false, cond, Option, Some, None}
use Rattle.std.proofs.Common.{Ordering, Less, Equal, Greater, refl, subst, arith, length, nat_lt, nat_le}
use Rattle.std.specs.BTreeMap.{is_at}
use Rattle.std.specs.Ordering.{nat_cmp, match_ordering}
use Rattle.std.proofs.lemmas.Bool.Decides.{nat_tests}
use Rattle.gk_sturdy.specs.declared.bound.Binding.{Binding}
use Rattle.ps_schema.specs.declared.Definition.{Definition}
use Rattle.ac_table.specs.declared.batches.Batch.{Batch}
use Rattle.ac_table.specs.Tables.{lowest}
use Rattle.ac_world.specs.declared.spreads.Spread.{Spread as SpreadOf}
use Rattle.ac_world.specs.declared.turns.Turned.{Turned}
use Rattle.ac_world.specs.declared.turns.Turned.TheVariants as turned
use Rattle.ac_world.specs.Turns.{turn}
use Rattle.ac_world.specs.declared.watched.Watched.{Watched}
use Rattle.ac_world.specs.Worlds.{entry_of, with_entry, without_entry, is_system, binding, watching}
use Rattle.ac_world.specs.Lemmas.Entries.{KeysAscend, ascend_none, ascend_with, ascend_without, put_back}
use Rattle.rl_packet.specs.declared.packets.Turn.{Turn as TurnRecord}
use Rattle.rl_ports.specs.Ports.{PortsState, ports_to}
use Rattle.hub_machine.specs.declared.faults.Fault.{Fault}
use Rattle.hub_machine.specs.State.{State, opening, ports_of}
use Rattle.hub_machine.specs.Admission.{Admitted, refused, admitted, turn_admission}
use Rattle.hub_machine.specs.Endings.{nameless, closed, failed, finished}
use Rattle.hub_machine.specs.Machine.{opened, refusal, arrive_unless, accepted, judged, packet_at, bind_unless}
use Rattle.hub_machine.specs.Machine.{is_barred, is_unwatchable, watch_unless, bad_at, close_at, telling_fault}
use Rattle.hub_machine.specs.Machine.{exporting, names_after, told_unless, tell, fault_for, tell_fault, after_turn}
use Rattle.hub_machine.specs.Machine.{turn_of, rest, work_by, is_worn, done, step, unchanged, actor_reference}
use Rattle.hub_machine.specs.Replays.{run_from, replay}
use Rattle.hub_machine.specs.declared.steps.Step.{Step}
use Rattle.hub_machine.specs.declared.steps.Step.TheVariants.{Bind, Watch, Arrive, Packet, Bad, Close, Turn, Work, Stop}
use Rattle.hub_machine.specs.declared.steps.Reply.TheVariants as reply
use Rattle.hub_valid.specs.Lemmas.StepEnds.{finished_keeps}
use Rattle.hub_laws.proofs.Steps.{named_of}

-- ---- how many they are

length_with : {X : Type 0} (k : ℕ) (x : X) (es : List (ℕ × X)) → length (with_entry k x es) ≤ length es + 1
length_with k x [] = omega arith
length_with {X = X} k x (e ∷ es) = split (nat_cmp k e.0) (length_with k x es)
  where
    split : (o : Ordering) → length (with_entry k x es) ≤ length es + 1
        → length (match_ordering o ((k, x) ∷ e ∷ es) ((e.0, x) ∷ es) (e ∷ with_entry k x es)) ≤ length (e ∷ es) + 1
    split Less l = omega arith
    split Equal l = omega arith
    split Greater l = omega (arith, l)

length_without : {X : Type 0} (k : ℕ) (es : List (ℕ × X)) → length (without_entry k es) ≤ length es
length_without k [] = omega arith
length_without {X = X} k (e ∷ es) = split (is_at (nat_cmp k) e.0) (length_without k es)
  where
    split : (b : Bool) → length (without_entry k es) ≤ length es
        → length (cond b es (e ∷ without_entry k es)) ≤ length (e ∷ es)
    split true l = omega arith
    split false l = omega (arith, l)

-- where one is found, there is one less without it
length_less : {X : Type 0} (k : ℕ) (x : X) (es : List (ℕ × X)) → entry_of k es ≡ Some x
    → length (without_entry k es) + 1 ≤ length es
length_less k x [] found = absurd cc
length_less {X = X} k x (e ∷ es) found = split (is_at (nat_cmp k) e.0) found (length_less k x es)
  where
    split : (b : Bool) → cond b (Some e.1) (entry_of k es) ≡ Some x
        → (entry_of k es ≡ Some x → length (without_entry k es) + 1 ≤ length es)
        → length (cond b es (e ∷ without_entry k es)) + 1 ≤ length (e ∷ es)
    split true is later = omega arith
    split false is later = let l = later is in omega (arith, l)

-- ---- names

abbrev pub Names : Type 0
Names = List (ℕ × PortsState)

pub record AreFew (es : Names) : Type 0 where
  pub ascend : KeysAscend es
  pub few : length es ≤ 32

few_without : (k : ℕ) (es : Names) → AreFew es → AreFew (without_entry k es)
few_without k es f =
    let l = f.few in
    let less = length_without k es in
    record { ascend = ascend_without k es f.ascend; few = omega (arith, l, less) }

few_taken : (k : ℕ) (p old : PortsState) (es : Names) → entry_of k es ≡ Some old → AreFew es
    → AreFew (with_entry k p (without_entry k es))
few_taken k p old es found f =
    let l = f.few in
    let less = length_less k old es found in
    let more = length_with k p (without_entry k es) in
    record {
      ascend = ascend_with k p (without_entry k es) (ascend_without k es f.ascend);
      few = omega (arith, l, less, more);
    }

few_renamed : (k : ℕ) (p old : PortsState) (es : Names) → entry_of k es ≡ Some old → AreFew es
    → AreFew (with_entry k p es)
few_renamed k p old es found f = subst AreFew (put_back k p es f.ascend) (few_taken k p old es found f)

few_more : (k : ℕ) (p : PortsState) (es : Names) → length es < 32 → AreFew es → AreFew (with_entry k p es)
few_more k p es room f =
    let more = length_with k p es in
    record { ascend = ascend_with k p es f.ascend; few = omega (arith, room, more) }

-- ---- each step

abbrev IsFew : State → Type 0
IsFew s = AreFew s.connections

ends_few : (xs : List SpreadOf) (s : State) → IsFew s → IsFew (finished xs s)
ends_few xs s f =
    finished_keeps IsFew (λ k fault t there few. few_without k t.connections few) (λ a t high low few. few) xs s f

bind_few : (c : Bool) (b : Binding) (s : State) → IsFew s → IsFew (bind_unless c b s).state
bind_few true b s f = f
bind_few false b s f = ends_few [] (record s { world = binding b s.world }) f

watch_few : (c : Bool) (x : Watched) (s : State) → IsFew s → IsFew (watch_unless c x s).state
watch_few true x s f = f
watch_few false x s f = ends_few [] (record s { world = watching x s.world }) f

opened_few : (space : ℕ) (s : State) → nat_le 32 (length s.connections) ≡ false → IsFew s → IsFew (opened space s)
opened_few space s room f =
    few_more (s.world.opened + 1) (ports_to (actor_reference space)) s.connections (grind (arith, nat_tests, room)) f

arrive_few : (space : ℕ) (s : State) → IsFew s → IsFew (arrive_unless (refusal space s) space s).state
arrive_few space s f = by (nat_lt 8 space) s.stopped (nat_le 32 (length s.connections)) refl
  where
    by : (b c d : Bool) → nat_le 32 (length s.connections) ≡ d
        → IsFew (arrive_unless (cond b (Some reply.Barred) (cond c (Some reply.Halted)
        (cond d (Some reply.Full) None))) space s).state
    by true c d room = f
    by false true d room = f
    by false false true room = f
    by false false false room = ends_few [] (opened space s) (opened_few space s room f)

judged_few : (k : ℕ) (p : PortsState) (d : Admitted) (s : State) → entry_of k s.connections ≡ Some p → IsFew s
    → IsFew (judged k d (nameless k s)).state
judged_few k p (refused fault) s found f = ends_few [] (failed k fault s) (few_without k s.connections f)
judged_few k p (admitted x) s found f =
    ends_few [] (accepted k x (nameless k s)) (few_taken k x.ports p s.connections found f)

packet_few : (k : ℕ) (o : Option PortsState) (t : TurnRecord) (s : State) → ports_of k s ≡ o → IsFew s
    → IsFew (packet_at k o t s).state
packet_few k None t s is f = f
packet_few k (Some p) t s is f = judged_few k p (turn_admission k p s.world t) s (named_of k p s is).kept f

bad_few : (k : ℕ) (o : Option PortsState) (fault : Fault) (s : State) → IsFew s → IsFew (bad_at k o fault s).state
bad_few k None fault s f = f
bad_few k (Some p) fault s f = ends_few [] (failed k fault s) (few_without k s.connections f)

close_few : (k : ℕ) (o : Option PortsState) (s : State) → IsFew s → IsFew (close_at k o s).state
close_few k None s f = f
close_few k (Some p) s f = ends_few [] (closed k s) (few_without k s.connections f)

unless_few : (o : Option Fault) (k : ℕ) (p : PortsState) (b : Batch) (s : State) → entry_of k s.connections ≡ Some p
    → IsFew s → IsFew (told_unless o k p b s).state
unless_few (Some fault) k p b s found f = ends_few [] (failed k fault s) (few_without k s.connections f)
unless_few None k p b s found f =
    ends_few [] (exporting k b p s)
    (few_renamed k (names_after k b p) p s.connections found f)

tell_few : (k : ℕ) (o : Option PortsState) (b : Batch) (s : State) → ports_of k s ≡ o → IsFew s
    → IsFew (tell k o b s).state
tell_few k None b s is f = ends_few [] s f
tell_few k (Some p) b s is f = unless_few (telling_fault k b p) k p b s (named_of k p s is).kept f

fault_few : (a : ℕ) (o : Option Fault) (s : State) → IsFew s → IsFew (tell_fault a o s).state
fault_few a None s f = f
fault_few a (Some fault) s f = ends_few [] (record s { faults = without_entry (a - 16) s.faults }) f

after_few : (a : ℕ) (t : Turned) (s : State) → IsFew s → IsFew (after_turn a t s).state
after_few a (turned.Ran xs) s f = ends_few xs s f
after_few a (turned.Taken b) s f = tell_few (a - 16) (ports_of (a - 16) s) b s refl f
after_few a turned.Idle s f = f
after_few a turned.Gone s f = fault_few a (fault_for a s) s f

turn_few : (a : ℕ) (s : State) → IsFew s → IsFew (turn_of a s).state
turn_few a s f = after_few a (turn a s.world).turned (record s { world = (turn a s.world).world }) f

rest_few : (s : State) → IsFew s → IsFew (rest s).state
rest_few s f = by s.stopped
  where
    by : (c : Bool) → IsFew (cond c (unchanged s reply.Halted) (unchanged s reply.Idle)).state
    by true = f
    by false = f

work_few : (o : Option ℕ) (s : State) → IsFew s → IsFew (work_by o s).state
work_few None s f = rest_few s f
work_few (Some a) s f = by (is_system a)
  where
    by : (c : Bool) → IsFew (cond c (turn_of a s) (rest s)).state
    by true = turn_few a s f
    by false = rest_few s f

done_few : (s : State) (e : Step) → IsFew s → IsFew (done s e).state
done_few s (Bind b) f = bind_few (is_barred b s) b s f
done_few s (Watch x) f = watch_few (is_unwatchable x s) x s f
done_few s (Arrive space) f = arrive_few space s f
done_few s (Packet k t) f = packet_few k (ports_of k s) t s refl f
done_few s (Bad k fault) f = bad_few k (ports_of k s) fault s f
done_few s (Close k) f = close_few k (ports_of k s) s f
done_few s (Turn a) f = turn_few a s f
done_few s Work f = work_few (lowest s.world.table) s f
done_few s Stop f = ends_few [] (record s { stopped = true }) f

step_few : (s : State) (e : Step) → IsFew s → IsFew (step s e).state
step_few s e f = by (is_worn s e)
  where
    by : (c : Bool) → IsFew (cond c (unchanged s reply.Worn) (done s e)).state
    by true = f
    by false = done_few s e f

run_few : (s : State) (es : List Step) → IsFew s → IsFew (run_from s es)
run_few s [] f = f
run_few s (e ∷ es) f = run_few (step s e).state es (step_few s e f)

pub replay_few : (ds : List Definition) (steps : List Step) → AreFew (replay ds steps).connections
replay_few ds steps = run_few (opening ds) steps (record { ascend = ascend_none; few = omega arith })

-- What each step makes of what a connection names, and of what it is told.
use Rattle.std.proofs.Common.{◌≡◌, ◌≢◌, ℕ, ◌+◌, ◌-◌, ◌<◌, ◌≤◌, List, [], ◌∷◌, ◌==◌, Bool, true, false, cond}
use Rattle.std.proofs.Common.{Option, Some, None, ◌⊎◌, inl, inr, refl, ap, sym, ◌∙◌, subst, arith, nat_lt, length}
use Rattle.std.proofs.Common.{is_some}
use Rattle.std.specs.Prelude.{nat_le}
use Rattle.std.proofs.lemmas.Bool.Decides.{nat_tests}
use Rattle.pv_value.specs.Plain.{Plain}
use Rattle.gk_sturdy.specs.declared.bound.Binding.{Binding}
use Rattle.ac_table.specs.declared.batches.Batch.{Batch}
use Rattle.ac_table.specs.declared.batches.Event.{Event as Told}
use Rattle.ac_table.specs.declared.batches.Event.TheVariants as told_event
use Rattle.ac_table.specs.Tables.{Actor, TableState, is_live, first_batch, first_in, find_actor, popped, lowest}
use Rattle.ac_world.specs.declared.turns.Turned.TheVariants as turned
use Rattle.ac_world.specs.Outboxes.{plan_over, all_acted, committed}
use Rattle.ac_world.specs.Worlds.{WorldState, actor_of, entry_of, with_entry, without_entry, is_system, binding}
use Rattle.ac_world.specs.Worlds.{watching}
use Rattle.ac_world.specs.declared.watched.Watched.{Watched}
use Rattle.ac_world.specs.Turns.{After as TurnOf, Turning, turn_first, turn_with, begin_turn, all_turned, system_turn}
use Rattle.ac_world.specs.Turns.{connection_turn}
use Rattle.ac_world.specs.Lemmas.Entries.{put_found, put_other, out_other}
use Rattle.ac_world.specs.Behaviours.{Behaviour, behaviour_of}
use Rattle.rl_packet.specs.declared.packets.Turn.{Turn as TurnRecord}
use Rattle.rl_ports.specs.Ports.{PortsState, first_fixed, speaking, ports_to, swept}
use Rattle.hub_machine.specs.Limits.{most_connections, last_dataspace}
use Rattle.hub_machine.specs.declared.faults.Fault.{Fault}
use Rattle.hub_machine.specs.declared.faults.Fault.TheVariants.{BadPacket}
use Rattle.hub_machine.specs.Faults.{error_of}
use Rattle.hub_machine.specs.State.{State, ports_of}
use Rattle.hub_machine.specs.Admission.{Admitting, Admitted, refused, admitted}
use Rattle.hub_machine.specs.Admission.{admission}
use Rattle.hub_machine.specs.Endings.{nameless, failed, closed}
use Rattle.hub_machine.specs.Lemmas.Dialects.{by_dialect}
use Rattle.hub_machine.specs.Machine.{After, step, done, is_worn, unchanged, ends, opened, refusal, arrive_unless}
use Rattle.hub_machine.specs.Machine.{bind_unless, is_barred, is_unwatchable, watch_unless}
use Rattle.hub_machine.specs.Machine.{accepted, judged, packet_at, bad_at, close_at, telling_fault}
use Rattle.hub_machine.specs.Machine.{exporting, told_unless, tell, fault_for, tell_fault, after_turn, turn_of, rest}
use Rattle.hub_machine.specs.Machine.{work_by, actor_reference, naming, all_named, names_after}
use Rattle.hub_machine.specs.declared.steps.Step.{Step}
use Rattle.hub_machine.specs.declared.steps.Step.TheVariants.{Bind, Watch, Arrive, Packet, Bad, Close, Turn, Work, Stop}
use Rattle.hub_machine.specs.declared.steps.Reply.{Reply}
use Rattle.hub_machine.specs.declared.steps.Reply.TheVariants.{Worn, Barred, Halted, Full, Gone, Refused, Idle, Sent}
use Rattle.hub_machine.specs.declared.steps.Reply.TheVariants.{Ran, Taken}
use Rattle.hub_machine.specs.Lemmas.Naming.{dialect_after}
use Rattle.hub_valid.specs.Lemmas.Admitted.{names_of, names_stay}
use Rattle.hub_valid.specs.Lemmas.Lasting.{live_popped, lasts_sent, live_watching}
use Rattle.hub_authority.specs.Named.{batch_sent, told_by, first_by, opened_as, told_names}
use Rattle.hub_valid.specs.Lemmas.Lives.{live_placed, live_committed}
use Rattle.hub_valid.specs.Lemmas.Plans.{goes_on_all_turned}
use Rattle.hub_valid.specs.Lemmas.Watchers.{may_watch}
use Rattle.hub_authority.proofs.Dialects.{StaysFixed, dialect_stays}
use Rattle.hub_authority.proofs.Endings.{HadThem, Keeps, had_same, keeps_all, keeps_then, keeps_failed, keeps_closed}
use Rattle.hub_authority.proofs.Endings.{keeps_finished}
use Rattle.hub_authority.proofs.Exporting.{Tells, WasTold, CameWith, tells_nothing, tells_then}

-- ---- the world changes

-- where the names stay and the same are live
pub keeps_world : (k : ℕ) (s : State) (w : WorldState) → w.opened ≡ s.world.opened
    → is_live (actor_of k) w.table ≡ is_live (actor_of k) s.world.table → Keeps k s (record s { world = w })
keeps_world k s w same live = record {
  opened = same;
  live = λ is. live ∙ is;
  named = λ p is. had_same k s p (ap (λ b. cond b (entry_of k s.connections) None) (sym live) ∙ is);
}

pub live_from_actors : (a : ℕ) (t u : TableState) → t.actors ≡ u.actors → is_live a t ≡ is_live a u
live_from_actors a t u same = ap (λ xs. is_some (find_actor a xs)) same

-- ---- an arrival

pub named_with : (b : Bool) (o : Option PortsState) (q p : PortsState) → o ≡ Some q → cond b o None ≡ Some p → q ≡ p
named_with true o q p there is = let same : Some q ≡ Some p = sym there ∙ is in cc
named_with false o q p there is = absurd cc

same_names : (b c : Bool) (o q : Option PortsState) → b ≡ c → o ≡ q → cond c q None ≡ cond b o None
same_names b c o q live found = sym (λ i. cond (live i) (found i) None)

arrival_tells : (k space : ℕ) (s : State)
    → Tells k s (opened space s) [] (cond (s.world.opened + 1 == k) (Some (actor_reference space)) None)
arrival_tells k space s = record {
  opened = omega arith;
  live = λ l is. live_placed (actor_of k) _ s.world.table.actors (λ same. omega (arith, l, same)) ∙ is;
  silent = λ l is. (refl, ap (λ b. cond b (Some first) None) (later l));
  named = λ p is. by (s.world.opened + 1 == k) refl p is;
}
  where
    first : Plain
    first = actor_reference space

    later : s.world.opened + 1 < k → (s.world.opened + 1 == k) ≡ false
    later l = grind (arith, nat_tests, l)

    placed : k ≢ s.world.opened + 1 → is_live (actor_of k) (opened space s).world.table
        ≡ is_live (actor_of k) s.world.table
    placed apart = live_placed (actor_of k) _ s.world.table.actors (λ same. apart (omega (arith, same)))

    by : (b : Bool) → (s.world.opened + 1 == k) ≡ b → (p : PortsState) → ports_of k (opened space s) ≡ Some p
        → WasTold k s [] p ⊎ CameWith k s [] (cond b (Some first) None) p
    by true here p is =
        let one : s.world.opened + 1 ≡ k = grind (arith, nat_tests, here) in
        let found : entry_of k (opened space s).connections ≡ Some (ports_to first) =
        subst (λ n. entry_of k (with_entry n (ports_to first) s.connections) ≡ Some (ports_to first)) (sym one)
        (put_found k (ports_to first) s.connections) in
        inr (record {
          object = first;
          next = sym one;
          is_first = refl;
          untold = refl;
          names = ap names_of (sym (named_with _ _ (ports_to first) p found is));
        })
    by false other p is =
        let apart : k ≢ s.world.opened + 1 = λ same. grind (arith, nat_tests, other, same) in
        inl (record {
          before = p;
          there = same_names _ _ _ _ (placed apart)
              (put_other (s.world.opened + 1) k (ports_to first) s.connections apart) ∙ is;
          names = refl;
          fixed = λ d was. was;
        })

arrive_tells : (k space : ℕ) (s : State) → Tells k s (step s (Arrive space)).state [] (first_by k s (Arrive space))
arrive_tells k space s = worn (is_worn s (Arrive space))
  where
    quiet : Tells k s s [] None
    quiet = tells_nothing k s s (keeps_all k s)

    full : (b : Bool) → Tells k s (arrive_unless (cond b (Some Full) None) space s).state []
        (opened_as k space (arrive_unless (cond b (Some Full) None) space s).reply)
    full true = quiet
    full false =
        tells_then k s (opened space s) _ [] _ (arrival_tells k space s) (keeps_finished k [] (opened space s))

    halted : (b : Bool) → Tells k s
        (arrive_unless
        (cond b (Some Halted) (cond (nat_le most_connections (length s.connections)) (Some Full) None)) space s).state
        [] (opened_as k space
        (arrive_unless
        (cond b (Some Halted) (cond (nat_le most_connections (length s.connections)) (Some Full) None)) space s).reply)
    halted true = quiet
    halted false = full (nat_le most_connections (length s.connections))

    barred : (b : Bool) → Tells k s (arrive_unless (cond b (Some Barred)
        (cond s.stopped (Some Halted) (cond (nat_le most_connections (length s.connections)) (Some Full) None)))
        space s).state
        [] (opened_as k space (arrive_unless (cond b (Some Barred)
        (cond s.stopped (Some Halted) (cond (nat_le most_connections (length s.connections)) (Some Full) None)))
        space s).reply)
    barred true = quiet
    barred false = halted s.stopped

    worn : (b : Bool) → Tells k s (cond b (unchanged s Worn) (arrive_unless (refusal space s) space s)).state []
        (opened_as k space (cond b (unchanged s Worn) (arrive_unless (refusal space s) space s)).reply)
    worn true = quiet
    worn false = barred (nat_lt last_dataspace space)

-- ---- a packet

keeps_accepted : (k j : ℕ) (x : Admitting) (ports : PortsState) (s : State) → ports_of j s ≡ Some ports
    → names_of x.ports ≡ names_of ports → StaysFixed ports.dialect x.ports.dialect
    → Keeps k s (accepted j x (nameless j s))
keeps_accepted k j x ports s there same fixed = record {
  opened = refl;
  live = λ is. live ∙ is;
  named = λ p is. by (k == j) refl p is;
}
  where
    live : is_live (actor_of k) (committed (actor_of j) (all_acted (actor_of j) x.acts (plan_over s.world.table)))
        ≡ is_live (actor_of k) s.world.table
    live = (lasts_sent (actor_of j) x.acts s.world).live (actor_of k)

    by : (b : Bool) → (k == j) ≡ b → (p : PortsState) → ports_of k (accepted j x (nameless j s)) ≡ Some p
        → HadThem k s p
    by true here p is =
        let one : k ≡ j = grind (arith, nat_tests, here) in
        let found : entry_of k (accepted j x (nameless j s)).connections ≡ Some x.ports =
        subst (λ n. entry_of n (accepted j x (nameless j s)).connections ≡ Some x.ports) (sym one)
        (put_found j x.ports (without_entry j s.connections)) in
        record {
          before = ports;
          there = ap (λ n. ports_of n s) one ∙ there;
          same = ap names_of (sym (named_with _ _ x.ports p found is)) ∙ same;
          fixed = λ d was. ap (λ q. q.dialect) (sym (named_with _ _ x.ports p found is)) ∙ fixed d was;
        }
    by false other p is =
        let apart : k ≢ j = λ same. grind (arith, nat_tests, other, same) in
        had_same k s p
        (same_names _ _ _ _ live
        (put_other j k x.ports (without_entry j s.connections) apart ∙ out_other j k s.connections apart) ∙ is)

keeps_packet : (k j : ℕ) (t : TurnRecord) (s : State) → Keeps k s (packet_at j (ports_of j s) t s).state
keeps_packet k j t s = by (ports_of j s) refl
  where
    refuse : (f : Fault) → Keeps k s (judged j (refused f) (nameless j s)).state
    refuse f = keeps_then k s (failed j f s) _ (keeps_failed k j f s) (keeps_finished k [] (failed j f s))

    judge : (ports : PortsState) (d : Admitted) → ports_of j s ≡ Some ports
        → admission j (speaking t.dialect ports) s.world t.events ≡ d → Keeps k s (judged j d (nameless j s)).state
    judge ports (refused f) there is = refuse f
    judge ports (admitted x) there is =
        let now : PortsState = speaking t.dialect ports in
        keeps_then k s (accepted j x (nameless j s)) _
        (keeps_accepted k j x ports s there (names_stay j now s.world t.events x is)
        (λ d fixed. dialect_stays j now s.world t.events x is ∙ ap (λ o. first_fixed o t.dialect) fixed))
        (keeps_finished k [] (accepted j x (nameless j s)))

    by : (o : Option PortsState) → ports_of j s ≡ o → Keeps k s (packet_at j o t s).state
    by None is = keeps_all k s
    by (Some ports) is =
        by_dialect (λ d. Keeps k s (judged j d (nameless j s)).state) j ports s.world t (refuse BadPacket)
        (judge ports (admission j (speaking t.dialect ports) s.world t.events) is refl)

-- ---- a turn

-- a state of which connection k sees the same, where it is sent nothing
pub record IsQuiet (k : ℕ) (s : State) (x : After) : Type 0 where
  pub keeps : Keeps k s x.state
  pub unsent : (o : Option Batch) → batch_sent o x.reply ≡ []

quiet_end : (k : ℕ) (s t : State) (r : Reply) → Keeps k s t → ((o : Option Batch) → batch_sent o r ≡ [])
    → IsQuiet k s (ends [] t r)
quiet_end k s t r keeps unsent =
    record { keeps = keeps_then k s t _ keeps (keeps_finished k [] t); unsent = unsent }

quiet_same : (k : ℕ) (s : State) (r : Reply) → ((o : Option Batch) → batch_sent o r ≡ [])
    → IsQuiet k s (unchanged s r)
quiet_same k s r unsent = record { keeps = keeps_all k s; unsent = unsent }

none_gone : (o : Option Batch) → batch_sent o Gone ≡ []
none_gone None = refl
none_gone (Some b) = refl

none_idle : (o : Option Batch) → batch_sent o Idle ≡ []
none_idle None = refl
none_idle (Some b) = refl

none_halted : (o : Option Batch) → batch_sent o Halted ≡ []
none_halted None = refl
none_halted (Some b) = refl

none_worn : (o : Option Batch) → batch_sent o Worn ≡ []
none_worn None = refl
none_worn (Some b) = refl

none_ran : (o : Option Batch) → batch_sent o Ran ≡ []
none_ran None = refl
none_ran (Some b) = refl

none_refused : (f : Fault) (o : Option Batch) → batch_sent o (Refused f) ≡ []
none_refused f None = refl
none_refused f (Some b) = refl

-- what follows from a turn in s
abbrev follows : ℕ → State → TurnOf → After
follows a s t = after_turn a t.turned (record s { world = t.world })

-- a system actor's
quiet_system : (k a : ℕ) (b : Batch) (s : State) → is_system a ≡ true
    → IsQuiet k s (follows a s (turn_with a b (record s.world { table = popped a s.world.table })))
quiet_system k a b s system =
    subst (λ c. IsQuiet k s (follows a s (cond c (system_turn a b w) (connection_turn a b w)))) (sym system) quiet
  where
    w : WorldState
    w = record s.world { table = popped a s.world.table }

    y : Behaviour
    y = behaviour_of s.world.schema s.world.bindings s.world.watches a

    t : Turning
    t = all_turned y a b.from b.events (begin_turn a w)

    quiet : IsQuiet k s (follows a s (system_turn a b w))
    quiet = record {
      keeps = keeps_then k s (record s { world = (system_turn a b w).world }) (follows a s (system_turn a b w)).state
          (keeps_world k s (system_turn a b w).world refl
          (live_committed (actor_of k) a t.plan
          ∙ live_from_actors (actor_of k) t.plan.table w.table
          (goes_on_all_turned y a b.from b.events (begin_turn a w)).actors
          ∙ live_popped (actor_of k) a s.world.table))
          (keeps_finished k t.spreads (record s { world = (system_turn a b w).world }));
      unsent = none_ran;
    }

abbrev turn_is : ℕ → State → Bool → Option Batch → After
turn_is a s live o = follows a s (cond live (turn_first a o s.world) (record { world = s.world; turned = turned.Gone }))

quiet_system_turn : (k a : ℕ) (s : State) → is_system a ≡ true → IsQuiet k s (turn_of a s)
quiet_system_turn k a s system = by (is_live a s.world.table) (first_batch a s.world.table)
  where
    gone : (b : Bool) → b ≡ false → IsQuiet k s (tell_fault a (cond b (entry_of (a - 16) s.faults) None) s)
    gone true is = absurd cc
    gone false is = quiet_same k s Gone none_gone

    by : (live : Bool) (o : Option Batch) → IsQuiet k s (turn_is a s live o)
    by true None = quiet_same k s Idle none_idle
    by true (Some b) = quiet_system k a b s system
    by false o = gone (nat_le 17 a) (grind (arith, nat_tests, system))

-- what a turn of actor a, whose first batch is o, tells connection k
abbrev TurnTells : ℕ → ℕ → State → Option Batch → After → Type 0
TurnTells k a s o x = Tells k s x.state (cond (a == actor_of k) (batch_sent o x.reply) []) None

quiet_tells : (k a : ℕ) (s : State) (o : Option Batch) (x : After) → IsQuiet k s x → TurnTells k a s o x
quiet_tells k a s o x quiet =
    subst (λ bs. Tells k s x.state bs None) (sym (by (a == actor_of k))) (tells_nothing k s x.state quiet.keeps)
  where
    by : (b : Bool) → cond b (batch_sent o x.reply) [] ≡ []
    by true = quiet.unsent o
    by false = refl

-- where no batch waits, none is sent
no_batch_tells : (k a : ℕ) (s : State) (x : After) → Keeps k s x.state → TurnTells k a s None x
no_batch_tells k a s x keeps =
    subst (λ bs. Tells k s x.state bs None) (sym (by (a == actor_of k))) (tells_nothing k s x.state keeps)
  where
    by : (b : Bool) → cond b (batch_sent None x.reply) [] ≡ []
    by true = refl
    by false = refl

-- ---- a connection's turn

-- what it names of others doesn't rest on its handles or its dialect
naming_alike : (k : ℕ) (e : Told) (p : PortsState) → names_of (naming k e p) ≡ naming k e (names_of p)
naming_alike k (told_event.Assert h entity v) p = refl
naming_alike k (told_event.Retract h entity) p = refl
naming_alike k (told_event.Message entity v) p = refl
naming_alike k (told_event.Sync entity peer) p = refl

all_named_alike : (k : ℕ) (es : List Told) (p : PortsState)
    → names_of (all_named k es p) ≡ all_named k es (names_of p)
all_named_alike k [] p = refl
all_named_alike k (e ∷ es) p = all_named_alike k es (naming k e p) ∙ ap (all_named k es) (naming_alike k e p)

names_alike : (k : ℕ) (b : Batch) (p : PortsState) → names_of (names_after k b p) ≡ names_after k b (names_of p)
names_alike k b p = ap swept (all_named_alike k b.events p)

exporting_tells : (k j : ℕ) (b : Batch) (ports : PortsState) (s : State) (c : Bool) → ports_of j s ≡ Some ports
    → (c ≡ true → k ≡ j) → (c ≡ false → k ≢ j) → Tells k s (exporting j b ports s) (cond c (b ∷ []) []) None
exporting_tells k j b ports s true there one apart = record {
  opened = omega arith;
  live = λ l is. is;
  silent = λ l is. absurd (dead (is_live (actor_of j) s.world.table) (entry_of j s.connections) there
      (ap (λ n. is_live (actor_of n) s.world.table) (sym (one refl)) ∙ is));
  named = λ p is.
      let found : entry_of k (exporting j b ports s).connections ≡ Some after =
      subst (λ n. entry_of n (exporting j b ports s).connections ≡ Some after) (sym (one refl))
      (put_found j after s.connections) in
      inl (record {
        before = ports;
        there = ap (λ n. ports_of n s) (one refl) ∙ there;
        names =
            ap names_of (sym (named_with _ _ after p found is))
            ∙ names_alike j b ports
            ∙ ap (λ n. names_after n b (names_of ports)) (sym (one refl));
        fixed = λ d was.
            ap (λ q. q.dialect) (sym (named_with _ _ after p found is)) ∙ dialect_after j b ports ∙ was;
      });
}
  where
    after : PortsState
    after = names_after j b ports

    dead : (c : Bool) (o : Option PortsState) → cond c o None ≡ Some ports → c ≡ false → ⊥
    dead true o is not = cc
    dead false o is not = cc
exporting_tells k j b ports s false there one apart =
    tells_nothing k s (exporting j b ports s) (record {
      opened = refl;
      live = λ is. is;
      named = λ p is. had_same k s p
          (same_names _ _ _ _ refl (put_other j k _ s.connections (apart refl)) ∙ is);
    })

tells_after : (k : ℕ) (s t u : State) (told : List Batch) → Keeps k s t → Tells k t u told None → Tells k s u told None
tells_after k s t u told keeps tells = record {
  opened = subst (λ n. n ≤ u.world.opened) keeps.opened tells.opened;
  live = λ l is. tells.live l (keeps.live is);
  silent = λ l is. tells.silent l (keeps.live is);
  named = λ p is. by p (tells.named p is);
}
  where
    by : (p : PortsState) → WasTold k t told p ⊎ CameWith k t told None p
        → WasTold k s told p ⊎ CameWith k s told None p
    by p (inl w) =
        let h = keeps.named w.before w.there in
        inl (record {
          before = h.before;
          there = h.there;
          names = w.names ∙ ap (told_names k told) h.same;
          fixed = λ d was. w.fixed d (h.fixed d was);
        })
    by p (inr c) = let none : None ≡ Some c.object = c.is_first in absurd cc

connection_tells : (k a : ℕ) (b : Batch) (s t : State) (o : Option PortsState) → is_system a ≡ false → Keeps k s t
    → ports_of (a - 16) t ≡ o → TurnTells k a s (Some b) (tell (a - 16) o b t)
connection_tells k a b s t None system keeps there =
    quiet_tells k a s (Some b) (tell (a - 16) None b t) (quiet_end k s t Ran keeps none_ran)
connection_tells k a b s t (Some ports) system keeps there = by (telling_fault (a - 16) b ports)
  where
    by : (f : Option Fault) → TurnTells k a s (Some b) (told_unless f (a - 16) ports b t)
    by (Some f) =
        quiet_tells k a s (Some b) (told_unless (Some f) (a - 16) ports b t)
        (quiet_end k s (failed (a - 16) f t) (Refused f) (keeps_then k s t _ keeps (keeps_failed k (a - 16) f t))
        (none_refused f))
    by None =
        tells_then k s (exporting (a - 16) b ports t) _ _ _
        (tells_after k s t (exporting (a - 16) b ports t) _ keeps
        (exporting_tells k (a - 16) b ports t (a == actor_of k) there
        (λ is. grind (arith, nat_tests, is)) (λ is same. grind (arith, nat_tests, is, same, system))))
        (keeps_finished k [] (exporting (a - 16) b ports t))

turn_tells : (k a : ℕ) (s : State) → TurnTells k a s (first_batch a s.world.table) (turn_of a s)
turn_tells k a s = by (is_system a) refl
  where
    no_batch : (o : Option Actor) → is_some o ≡ false → first_in o ≡ None
    no_batch None is = refl
    no_batch (Some x) is = absurd cc

    told_of_fault : (f : Option Fault) → TurnTells k a s None (tell_fault a f s)
    told_of_fault None = no_batch_tells k a s (unchanged s Gone) (keeps_all k s)
    told_of_fault (Some f) =
        let t : State = record s { faults = without_entry (a - 16) s.faults } in
        let keeps : Keeps k s t = record {
          opened = refl;
          live = λ is. is;
          named = had_same k s;
        } in
        no_batch_tells k a s (ends [] t (Sent (error_of f))) (keeps_then k s t _ keeps (keeps_finished k [] t))

    with_batch : (b : Batch) → is_system a ≡ false
        → TurnTells k a s (Some b) (follows a s (turn_with a b (record s.world { table = popped a s.world.table })))
    with_batch b system =
        subst (λ c. TurnTells k a s (Some b) (follows a s (cond c (system_turn a b w) (connection_turn a b w))))
        (sym system)
        (connection_tells k a b s taken (ports_of (a - 16) taken) system
        (keeps_world k s (connection_turn a b w).world refl (live_popped (actor_of k) a s.world.table)) refl)
      where
        w : WorldState
        w = record s.world { table = popped a s.world.table }

        taken : State
        taken = record s { world = (connection_turn a b w).world }

    live : (o : Option Batch) → is_system a ≡ false → TurnTells k a s o (turn_is a s true o)
    live None system = quiet_tells k a s None (unchanged s Idle) (quiet_same k s Idle none_idle)
    live (Some b) system = with_batch b system

    one : (c : Bool) → is_live a s.world.table ≡ c → is_system a ≡ false
        → TurnTells k a s (first_batch a s.world.table) (turn_is a s c (first_batch a s.world.table))
    one true is system = live (first_batch a s.world.table) system
    one false is system =
        subst (λ o. TurnTells k a s o (turn_is a s false o))
        (sym (no_batch (find_actor a s.world.table.actors) is)) (told_of_fault (fault_for a s))

    by : (c : Bool) → is_system a ≡ c → TurnTells k a s (first_batch a s.world.table) (turn_of a s)
    by true system = quiet_tells k a s _ (turn_of a s) (quiet_system_turn k a s system)
    by false system = one (is_live a s.world.table) refl system

-- ---- any step

keeps_bad : (k j : ℕ) (o : Option PortsState) (f : Fault) (s : State) → Keeps k s (bad_at j o f s).state
keeps_bad k j None f s = keeps_all k s
keeps_bad k j (Some ports) f s =
    keeps_then k s (failed j f s) _ (keeps_failed k j f s) (keeps_finished k [] (failed j f s))

keeps_close : (k j : ℕ) (o : Option PortsState) (s : State) → Keeps k s (close_at j o s).state
keeps_close k j None s = keeps_all k s
keeps_close k j (Some ports) s =
    keeps_then k s (closed j s) _ (keeps_closed k j s) (keeps_finished k [] (closed j s))

keeps_rest : (k : ℕ) (s : State) → Keeps k s (rest s).state
keeps_rest k s = by s.stopped
  where
    by : (b : Bool) → Keeps k s (cond b (unchanged s Halted) (unchanged s Idle)).state
    by true = keeps_all k s
    by false = keeps_all k s

keeps_work : (k : ℕ) (o : Option ℕ) (s : State) → Keeps k s (work_by o s).state
keeps_work k None s = keeps_rest k s
keeps_work k (Some a) s = by (is_system a) refl
  where
    by : (b : Bool) → is_system a ≡ b → Keeps k s (cond b (turn_of a s) (rest s)).state
    by true system = (quiet_system_turn k a s system).keeps
    by false system = keeps_rest k s

keeps_stop : (k : ℕ) (s : State) → Keeps k s (ends [] (record s { stopped = true }) Taken).state
keeps_stop k s =
    keeps_then k s (record s { stopped = true }) _ (record { opened = refl; live = λ is. is; named = had_same k s })
    (keeps_finished k [] (record s { stopped = true }))

keeps_bind : (k : ℕ) (c : Bool) (b : Binding) (s : State) → Keeps k s (bind_unless c b s).state
keeps_bind k true b s = keeps_all k s
keeps_bind k false b s =
    let t : State = record s { world = binding b s.world } in
    keeps_then k s t _
    (record { opened = refl; live = λ is. is; named = had_same k s })
    (keeps_finished k [] t)

-- connections count from 1, and actor 16 is a watcher
keeps_watch : (k : ℕ) (c : Bool) (x : Watched) (s : State) → 1 ≤ k → is_unwatchable x s ≡ c
    → Keeps k s (watch_unless c x s).state
keeps_watch k true x s one is = keeps_all k s
keeps_watch k false x s one is =
    let few : length s.world.watches < 8 = (may_watch x s is).few in
    let t : State = record s { world = watching x s.world } in
    keeps_then k s t _
    (keeps_world k s (watching x s.world) refl
    (live_watching (actor_of k) x s.world (λ same. omega (arith, one, few, same))))
    (keeps_finished k [] t)

-- where it is done, unless numbers are used up
unless_worn : (k : ℕ) (s : State) (e : Step) → Keeps k s (done s e).state → Tells k s (step s e).state [] None
unless_worn k s e keeps = tells_nothing k s (step s e).state (by (is_worn s e))
  where
    by : (b : Bool) → Keeps k s (cond b (unchanged s Worn) (done s e)).state
    by true = keeps_all k s
    by false = keeps

turn_step_tells : (k a : ℕ) (s : State) → TurnTells k a s (first_batch a s.world.table) (step s (Turn a))
turn_step_tells k a s = by (is_worn s (Turn a))
  where
    by : (b : Bool) → TurnTells k a s (first_batch a s.world.table) (cond b (unchanged s Worn) (turn_of a s))
    by true = quiet_tells k a s (first_batch a s.world.table) (unchanged s Worn) (quiet_same k s Worn none_worn)
    by false = turn_tells k a s

pub step_tells : (k : ℕ) (s : State) (e : Step) → 1 ≤ k
    → Tells k s (step s e).state (told_by k s e) (first_by k s e)
step_tells k s (Bind b) one = unless_worn k s (Bind b) (keeps_bind k (is_barred b s) b s)
step_tells k s (Watch x) one = unless_worn k s (Watch x) (keeps_watch k (is_unwatchable x s) x s one refl)
step_tells k s (Arrive space) one = arrive_tells k space s
step_tells k s (Packet j t) one = unless_worn k s (Packet j t) (keeps_packet k j t s)
step_tells k s (Bad j f) one = unless_worn k s (Bad j f) (keeps_bad k j (ports_of j s) f s)
step_tells k s (Close j) one = unless_worn k s (Close j) (keeps_close k j (ports_of j s) s)
step_tells k s (Turn a) one = turn_step_tells k a s
step_tells k s Work one = unless_worn k s Work (keeps_work k (lowest s.world.table) s)
step_tells k s Stop one = unless_worn k s Stop (keeps_stop k s)

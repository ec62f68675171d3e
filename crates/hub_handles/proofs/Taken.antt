-- Whoever takes its turn, and is still live after it, has got all of its first batch.
use Rattle.std.proofs.Common.{◌≡◌, ◌≢◌, ℕ, ◌-◌, ◌==◌, List, [], ◌∷◌, ◌++◌, Bool, true, false, cond}
use Rattle.std.proofs.Common.{Option, Some, None, inl, inr, refl, sym, ap, ◌∙◌, subst, arith, is_some, drop}
use Rattle.std.proofs.Common.{append-nil, append_assoc}
use Rattle.std.specs.Prelude.{unwrap_or}
use Rattle.std.proofs.lemmas.Bool.Decides.{nat_tests}
use Rattle.ac_table.specs.declared.batches.Batch.{Batch}
use Rattle.ac_table.specs.declared.batches.Event.{Event}
use Rattle.ac_table.specs.Tables.{TableState, Actor, find_actor, is_live, first_batch, lowest, popped, ended, rows_of}
use Rattle.ac_world.specs.declared.spreads.Spread.{Spread as SpreadOf}
use Rattle.ac_world.specs.declared.turns.Turned.TheVariants as turned
use Rattle.ac_world.specs.Outboxes.{told_to, retractions}
use Rattle.ac_world.specs.Turns.{After as TurnOf, Turning, turn_first, turn, turn_with, system_turn, connection_turn}
use Rattle.ac_world.specs.Worlds.{WorldState, Resident, resident_of, no_resident, held_by, is_system, actor_of, gone}
use Rattle.ac_world.specs.Worlds.{ended_of, all_delivered}
use Rattle.ac_world.specs.Lemmas.Entries.{put_found, out_other}
use Rattle.rl_ports.specs.Ports.{PortsState}
use Rattle.hub_machine.specs.declared.faults.Fault.{Fault}
use Rattle.hub_machine.specs.declared.steps.Step.TheVariants.{Turn}
use Rattle.hub_machine.specs.declared.steps.Reply.TheVariants.{Worn}
use Rattle.hub_machine.specs.State.{State, ports_of}
use Rattle.hub_machine.specs.Endings.{failed, finished}
use Rattle.hub_machine.specs.Machine.{unchanged, telling_fault, told_unless, exporting, tell, after_turn, turn_of}
use Rattle.hub_machine.specs.Machine.{rest, work_by, is_worn}
use Rattle.hub_valid.specs.Lemmas.Lives.{live_ended}
use Rattle.hub_valid.specs.Lemmas.StepEnds.{finished_keeps}
use Rattle.hub_laws.proofs.Kept.{IsSound}
use Rattle.hub_laws.proofs.Leaving.{one_or_not}
use Rattle.hub_laws.proofs.EndingActors.{retractions_ascend, ended_other}
use Rattle.hub_laws.proofs.Posting.{posted_to, found-popped}
use Rattle.hub_laws.proofs.Presence.{dead_itself}
use Rattle.hub_laws.proofs.Promised.{IsPostedTo}
use Rattle.hub_laws.proofs.Staying.{ended_not_found}
use Rattle.hub_laws.proofs.Turns.{has_first, without_first, turning_of, system_runs}
use Rattle.hub_handles.specs.Taking.{HasGot, HasTaken, TakesAll}
use Rattle.hub_handles.proofs.Got.{turning_gets}

-- ---- what an actor that stays has got, whoever ends

-- actor a was found among these actors, and some batches may have come since
pub record WasThere (a : ℕ) (actors : List Actor) (y : Actor) : Type 0 where
  pub before : Actor
  pub found : find_actor a actors ≡ Some before
  pub came : List Batch
  pub inbox : y.inbox ≡ before.inbox ++ came

-- where it was there, and what may have come since, in two parts
there_since : (a : ℕ) (actors : List Actor) (z y : Actor) (came : List Batch) → y.inbox ≡ z.inbox ++ came
    → WasThere a actors z → WasThere a actors y
there_since a actors z y came is k = record {
  before = k.before;
  found = k.found;
  came = k.came ++ came;
  inbox = is ∙ ap (λ bs. bs ++ came) k.inbox ∙ append_assoc k.before.inbox k.came came;
}

-- what was posted to it came
what_came : (from : ℕ) (es : List Event) (old new : List Batch) → IsPostedTo from es old new
    → (came : List Batch) × (new ≡ old ++ came)
what_came from es old new (inl none) = ([], none.0 ∙ sym (append-nil old))
what_came from es old new (inr one) = (record { from = from; events = es } ∷ [], one)

-- actor a, where it is live in u, has got the same as in w, and what waited for it waits
pub record HasTheSame (a : ℕ) (w u : WorldState) : Type 0 where
  pub resident : is_live a u.table ≡ true → resident_of a u ≡ resident_of a w
  pub held : is_live a u.table ≡ true → held_by a u ≡ held_by a w
  pub waits : (y : Actor) → find_actor a u.table.actors ≡ Some y → WasThere a w.table.actors y

the_same : (a : ℕ) (w : WorldState) → HasTheSame a w w
the_same a w = record {
  resident = λ live. refl;
  held = λ live. refl;
  waits = λ y is. record { before = y; found = is; came = []; inbox = sym (append-nil y.inbox) };
}

-- an ending of another leaves what it has got
ended_resident : (a b : ℕ) (w : WorldState) → a ≢ b → resident_of a (ended_of b w) ≡ resident_of a w
ended_resident a b w apart = by (is_live b w.table)
  where
    by : (c : Bool) → resident_of a (cond c (gone b w) w) ≡ resident_of a w
    by true = ap (λ o. unwrap_or o no_resident) (out_other b a w.residents apart)
    by false = refl

ended_held : (a b : ℕ) (w : WorldState) → a ≢ b → held_by a (ended_of b w) ≡ held_by a w
ended_held a b w apart = by (is_live b w.table)
  where
    by : (c : Bool) → held_by a (cond c (gone b w) w) ≡ held_by a w
    by true = ap (λ o. unwrap_or o []) (out_other b a w.held apart)
    by false = refl

-- and what waits for it
ended_waits : (a b : ℕ) (w u : WorldState) (y : Actor) → a ≢ b → HasTheSame a w u
    → find_actor a (ended_of b u).table.actors ≡ Some y → WasThere a w.table.actors y
ended_waits a b w u y apart k = by (is_live b u.table)
  where
    by : (c : Bool) → find_actor a (cond c (gone b u) u).table.actors ≡ Some y → WasThere a w.table.actors y
    by true is =
        let z = posted_to b a (retractions (rows_of b u.table.rows) []) (ended b u.table) y
        (retractions_ascend b u.table.rows) is in
        let came = what_came b (told_to a (retractions (rows_of b u.table.rows) [])) z.0.inbox y.inbox z.2 in
        there_since a w.table.actors z.0 y came.0 came.1
        (k.waits z.0 (sym (ended_other b a u.table apart) ∙ z.1))
    by false is = k.waits y is

-- who is live after another's ending was before
live_before : (a b : ℕ) (w : WorldState) → a ≢ b → is_live a (ended_of b w).table ≡ true → is_live a w.table ≡ true
live_before a b w apart live =
    let other : (a == b) ≡ false = grind (arith, nat_tests, apart) in
    sym (live_ended a b w ∙ ap (λ c. cond c false (is_live a w.table)) other) ∙ live

ended_same : (a b : ℕ) (w u : WorldState) → HasTheSame a w u → HasTheSame a w (ended_of b u)
ended_same a b w u k = elim (one_or_not a b) [
  | inl one ↦
      (let dead : is_live a (ended_of b u).table ≡ false =
      ap (λ c. is_live c (ended_of b u).table) one ∙ dead_itself b u in
      record {
        resident = λ live. absurd (let clash : false ≡ true = sym dead ∙ live in cc);
        held = λ live. absurd (let clash : false ≡ true = sym dead ∙ live in cc);
        waits = λ y is.
            absurd (ended_not_found b u y (subst (λ c. find_actor c (ended_of b u).table.actors ≡ Some y) one is));
      })
  | inr apart ↦ record {
    resident = λ live. ended_resident a b u apart ∙ k.resident (live_before a b u apart live);
    held = λ live. ended_held a b u apart ∙ k.held (live_before a b u apart live);
    waits = λ y is. ended_waits a b w u y apart k is;
  }
]

finished_same : (a : ℕ) (w : WorldState) (xs : List SpreadOf) (s : State) → HasTheSame a w s.world
    → HasTheSame a w (finished xs s).world
finished_same a w xs s k =
    finished_keeps (λ t. HasTheSame a w t.world)
    (λ j f t there same. ended_same a (actor_of j) w t.world same)
    (λ b t high low same. ended_same a b w t.world same) xs s k

-- ---- what the hub makes of a turn

unless_same : (a : ℕ) (w : WorldState) (o : Option Fault) (k : ℕ) (ports : PortsState) (b : Batch) (s : State)
    → HasTheSame a w s.world → HasTheSame a w (told_unless o k ports b s).state.world
unless_same a w (Some f) k ports b s same =
    finished_same a w [] (failed k f s) (ended_same a (actor_of k) w s.world same)
unless_same a w None k ports b s same = finished_same a w [] (exporting k b ports s) same

tell_same : (a : ℕ) (w : WorldState) (k : ℕ) (o : Option PortsState) (b : Batch) (s : State) → HasTheSame a w s.world
    → HasTheSame a w (tell k o b s).state.world
tell_same a w k None b s same = finished_same a w [] s same
tell_same a w k (Some ports) b s same = unless_same a w (telling_fault k b ports) k ports b s same

-- ---- the turn

-- what the hub makes of a turn that is done in s
abbrev after_this : ℕ → State → TurnOf → State
after_this a s t = (after_turn a t.turned (record s { world = t.world })).state

-- what waited once the first batch was taken, and what came since
there_before : (a : ℕ) (b : Batch) (t : TableState) (x y : Actor) → first_batch a t ≡ Some b
    → find_actor a t.actors ≡ Some x → WasThere a (popped a t).actors y
    → (came : List Batch) × (y.inbox ≡ drop 1 x.inbox ++ came)
there_before a b t x y first is k =
    let z = found-popped a t b k.before first k.found in
    let one : Some z.0 ≡ Some x = sym z.1 ∙ is in
    let same : z.0 ≡ x = cc in
    let rest : k.before.inbox ≡ drop 1 x.inbox = sym (ap (drop 1) z.2) ∙ ap (λ (v : Actor). drop 1 v.inbox) same in
    (k.came, k.inbox ∙ ap (λ bs. bs ++ k.came) rest)

module _ (a : ℕ) (b : Batch) (s : State) (k : IsSound [] s.world) (first : first_batch a s.world.table ≡ Some b) where
  abbrev less : WorldState
  less = without_first a s.world

  lives : is_live a s.world.table ≡ true
  lives = ap is_some (has_first a s.world.table b first).found

  abbrev Took : Bool → State → Type 0
  Took c t = is_live a t.world.table ≡ true → HasGot c a b s.world t.world

  abbrev Waits : State → Type 0
  Waits t = (y : Actor) → find_actor a t.world.table.actors ≡ Some y → WasThere a less.table.actors y

  abbrev TookAndWaits : Bool → State → Type 0
  TookAndWaits c t = Took c t × Waits t

  -- what a system actor tells itself comes to its inbox, too
  system_took : is_system a ≡ true → TookAndWaits true (after_this a s (system_turn a b less))
  system_took system =
      let u : Turning = turning_of a b s.world in
      let moves = (system_runs a b s.world k system lives first).moves in
      let w : WorldState = (system_turn a b less).world in
      let same : HasTheSame a w (after_this a s (system_turn a b less)).world =
      finished_same a w u.spreads (record s { world = w }) (the_same a w) in (
        λ live.
            ap (λ (r : Resident). r.got)
            (same.resident live ∙ ap (λ o. unwrap_or o no_resident) (put_found a u.resident s.world.residents))
            ∙ turning_gets a b s.world k system first,
        λ y is.
            let v = same.waits y is in
            let z = posted_to a a u.plan.out u.plan.table v.before moves.out_ascends v.found in
            let came = what_came a (told_to a u.plan.out) z.0.inbox v.before.inbox z.2 in
            there_since a less.table.actors v.before y v.came v.inbox
            (record {
              before = z.0;
              found = ap (find_actor a) (sym moves.actors) ∙ z.1;
              came = came.0;
              inbox = came.1;
            }),
      )

  connection_took : TookAndWaits false (after_this a s (connection_turn a b less))
  connection_took =
      let w : WorldState = (connection_turn a b less).world in
      let u : State = record s { world = w } in
      let same : HasTheSame a w (after_this a s (connection_turn a b less)).world =
      tell_same a w (a - 16) (ports_of (a - 16) u) b u (the_same a w) in (
        λ live.
            same.held live
            ∙ ap (λ o. unwrap_or o []) (put_found a (all_delivered b.events (held_by a s.world)) s.world.held),
        same.waits,
      )

  kind_took : (c : Bool) → is_system a ≡ c
      → TookAndWaits c (after_this a s (cond c (system_turn a b less) (connection_turn a b less)))
  kind_took true system = system_took system
  kind_took false far = connection_took

  abbrev nothing : TurnOf
  nothing = record { world = s.world; turned = turned.Gone }

  -- a turn is one over the first batch
  turn_is : turn a s.world ≡ turn_with a b less
  turn_is =
      ap (λ c. cond c (turn_first a (first_batch a s.world.table) s.world) nothing) lives
      ∙ ap (λ o. turn_first a o s.world) first

  turn_took : HasTaken a b s (turn_of a s).state
  turn_took =
      let took : TookAndWaits (is_system a) (turn_of a s).state =
      subst (λ t. TookAndWaits (is_system a) (after_this a s t)) (sym turn_is) (kind_took (is_system a) refl) in
      record {
        got = took.0;
        rest = λ x y was is. there_before a b s.world.table x y first was (took.1 y is);
      }

  pub takes_all : is_worn s (Turn a) ≡ false → TakesAll a b s
  takes_all fresh = record {
    turn = subst (λ c. HasTaken a b s (cond c (unchanged s Worn) (turn_of a s)).state) (sym fresh) turn_took;
    work = λ system low.
        subst (λ c. HasTaken a b s (cond c (unchanged s Worn) (work_by (lowest s.world.table) s)).state) (sym fresh)
        (subst (λ o. HasTaken a b s (work_by o s).state) (sym low)
        (subst (λ c. HasTaken a b s (cond c (turn_of a s) (rest s)).state) (sym system) turn_took));
  }

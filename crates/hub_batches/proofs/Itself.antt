-- A turn over retractions tells its own actor nothing.
use Rattle.std.proofs.Common.{◌≡◌, ℕ, ◌<◌, ◌≤◌, ◌==◌, List, [], ◌∷◌, ◌++◌, Bool, true, false, cond, Option, Some, None}
use Rattle.std.proofs.Common.{refl, ap, sym, ◌∙◌, subst, arith, append-nil, is_some}
use Rattle.std.specs.Prelude.{nat_lt}
use Rattle.std.specs.List.{AllByRecursion, flat_map}
use Rattle.std.specs.Map.{values_of}
use Rattle.std.proofs.lemmas.Bool.Decides.{nat_tests}
use Rattle.pv_value.specs.Plain.{Plain}
use Rattle.ds_space.specs.Spaces.{Rows, changed}
use Rattle.ds_space.specs.declared.space.SpaceEvent.TheVariants.{Gone}
use Rattle.ac_table.specs.declared.batches.Batch.{Batch}
use Rattle.ac_table.specs.declared.batches.Event.{Event}
use Rattle.ac_table.specs.declared.batches.Event.TheVariants.{Assert, Retract, Message, Sync}
use Rattle.ac_table.specs.Tables.{first_batch, is_live}
use Rattle.ac_world.specs.declared.aims.Aim.{Aim}
use Rattle.ac_world.specs.Behaviours.{Behaviour}
use Rattle.ac_world.specs.Outboxes.{told_to}
use Rattle.ac_world.specs.Turns.{Turning, handle_for, begin_turn, turned_by, turn}
use Rattle.ac_world.specs.Worlds.{WorldState, is_system}
use Rattle.hub_machine.specs.State.{State}
use Rattle.hub_machine.specs.Replays.{replay}
use Rattle.hub_machine.specs.Machine.{step}
use Rattle.hub_machine.specs.declared.steps.Step.TheVariants.{Turn, Work}
use Rattle.hub_valid.specs.Lemmas.Lasting.{Lasts, lasts_turn}
use Rattle.hub_laws.proofs.Kept.{Reaches, IsAimed, IsLawful, IsSound}
use Rattle.hub_laws.proofs.Opening.{replay_hub}
use Rattle.hub_laws.proofs.Turns.{HasFirst, has_first, live_lawful, is_below}
use Rattle.hub_laws.proofs.Wanted.{came_aimed}
use Rattle.hub_cascade.specs.Laws.{TakesItsTurn}
use Rattle.hub_cascade.specs.Sparing.{IsRetraction, TakesBack, SparesAll}
use Rattle.hub_cascade.proofs.Retractions.{retractions_end_nobody}
use Rattle.hub_batches.specs.Laws.{RetractionsTellNothingBack}
use Rattle.hub_batches.specs.Taking.{inbox_at, less, behaving, turning_over, told_by, told_once, HasTaken, IsTurnOver}
use Rattle.hub_batches.specs.Taking.{IsLeft, HadBefore, OnlyEnds}
use Rattle.hub_batches.specs.Telling.{wanted_alone, taken_back, put_at, drawn, all_put, told_of_change, told_of}
use Rattle.hub_batches.specs.Telling.{said_to, all_told_of}
use Rattle.hub_batches.proofs.Ending.{steps_alike}
use Rattle.hub_batches.proofs.Inboxes.{live_inbox, first_waits}
use Rattle.hub_batches.proofs.InOrder.{turning_tells}
use Rattle.hub_batches.proofs.Taken.{turn_over}

-- ---- no row of an actor is at the actor itself

elsewhere : (a c : ℕ) → a < 17 → Reaches a c → (c == a) ≡ false
elsewhere a c low r = by (nat_lt a 9) refl
  where
    by : (d : Bool) → nat_lt a 9 ≡ d → (c == a) ≡ false
    by true is =
        let below : a < 9 = grind (arith, nat_tests, is) in
        let high : 9 ≤ c = r.far below in
        grind (arith, nat_tests, below, high)
    by false is =
        let high : 9 ≤ a = grind (arith, nat_tests, is) in
        let near = r.near high low in
        let below : c < 9 = near.1 in
        grind (arith, nat_tests, below, high)

module _ (y : Behaviour) (a : ℕ) (low : a < 17) where
  none_back : (h : Option ℕ) (o : Option Aim) → ((aim : Aim) → o ≡ Some aim → Reaches a aim.at.actor)
      → taken_back a h o ≡ []
  none_back None o reach = refl
  none_back (Some h) None reach = refl
  none_back (Some h) (Some aim) reach =
      ap (λ c. cond c (Retract h aim.at.entity ∷ []) []) (elsewhere a aim.at.actor low (reach aim refl))

  none_put : (n : ℕ) (o : Option Aim) → ((aim : Aim) → o ≡ Some aim → Reaches a aim.at.actor) → put_at a n o ≡ []
  none_put n None reach = refl
  none_put n (Some aim) reach =
      ap (λ c. cond c (Assert n aim.at.entity aim.value ∷ []) []) (elsewhere a aim.at.actor low (reach aim refl))

  all_none_back : (met : List (Plain × ℕ)) (ks : List Plain) → AllByRecursion (IsAimed y a) ks
      → flat_map (λ k. taken_back a (handle_for k met) (y.aim k)) ks ≡ []
  all_none_back met [] aimed = refl
  all_none_back met (k ∷ ks) aimed =
      λ i. none_back (handle_for k met) (y.aim k) aimed.0 i ++ all_none_back met ks aimed.1 i

  all_none_put : (n : ℕ) (ks : List Plain) → AllByRecursion (IsAimed y a) ks → all_put y a n ks ≡ []
  all_none_put n [] aimed = refl
  all_none_put n (k ∷ ks) aimed =
      λ i. none_put n (y.aim k) aimed.0 i ++ all_none_put (drawn n (y.aim k)) ks aimed.1 i

  change_tells_none : IsLawful y a → (rows : Rows) (t : Turning) → told_of_change y a rows t ≡ []
  change_tells_none law rows t =
      let back = all_none_back t.resident.handles (wanted_alone y t.resident.got rows)
      (came_aimed y a law (values_of t.resident.got) (y.keys (values_of rows))) in
      let put = all_none_put t.plan.table.next (wanted_alone y rows t.resident.got)
      (came_aimed y a law (values_of rows) (y.keys (values_of t.resident.got))) in
      λ i. back i ++ put i

  -- nor is anything told to it of retractions
  all_tell_none : (said : List Plain → Plain → List Event) (from : ℕ) (es : List Event) (t : Turning) → IsLawful y a
      → AllByRecursion IsRetraction es → all_told_of y said a a from es t ≡ []
  all_tell_none said from [] t law back = refl
  all_tell_none said from (e ∷ es) t law back =
      let first = one e back.0 in
      let rest = all_tell_none said from es (turned_by y a from e t) law back.1 in
      λ i. first i ++ rest i
    where
      one : (e : Event) → IsRetraction e → told_of y said a e t ≡ []
      one (Assert h entity v) is = absurd is
      one (Retract h entity) is = change_tells_none law (changed t.resident.got (Gone h)) t
      one (Message entity v) is = absurd is
      one (Sync entity peer) is = absurd is

-- ---- the turn

told_nothing : (a : ℕ) (d : Batch) (w : WorldState) → IsSound [] w → first_batch a w.table ≡ Some d → TakesBack d
    → told_by a d w a ≡ []
told_nothing a d w k first back = by (is_system a) refl
  where
    by : (c : Bool) → is_system a ≡ c → cond c (told_to a (turning_over a d w).plan.out) [] ≡ []
    by true system =
        let x : HasFirst a w.table d = has_first a w.table d first in
        let low : a < 17 = is_below a system in
        turning_tells a a d w k system first
        ∙ all_tell_none (behaving a w) a low (said_to w.schema a a) d.from d.events (begin_turn a (less a w))
        (live_lawful [] a w k low (ap is_some x.found)) back
    by false other = refl

-- the inbox has lost its first batch
at_once : (a : ℕ) (d : Batch) (rest : List Batch) (w : WorldState) → IsSound [] w → inbox_at a w.table ≡ Some (d ∷ rest)
    → TakesBack d → inbox_at a (turn a w).world.table ≡ Some rest
at_once a d rest w k is back =
    let taken : HasTaken a d rest w (turn a w).world =
    subst (λ o. IsTurnOver a o w (turn a w).world) is (turn_over a w) in
    taken.own ∙ ap (λ es. Some (told_once a es rest)) (told_nothing a d w k (first_waits a d rest w.table is) back)

-- ---- its step, in which nobody ends

module _ (a : ℕ) (rest : List Batch) (s t : State) (spares : SparesAll s t)
    (now : inbox_at a (turn a s.world).world.table ≡ Some rest) (only : OnlyEnds (turn a s.world).world t.world) where
  none_left : (ds : List Batch) → AllByRecursion (IsLeft (turn a s.world).world t.world) ds → ds ≡ []
  none_left [] left = refl
  none_left (d ∷ ds) left =
      let lasts : Lasts s.world (turn a s.world).world = lasts_turn a s.world in
      let stays : true ≡ false = sym left.0.was_live ∙ lasts.live d.from ∙ sym (spares d.from) ∙ left.0.ended in
      absurd cc

  still_there : is_live a t.world.table ≡ true
  still_there =
      let lasts : Lasts s.world (turn a s.world).world = lasts_turn a s.world in
      spares a ∙ sym (lasts.live a) ∙ sym (live_inbox a (turn a s.world).world.table) ∙ ap is_some now

  as_at_once : inbox_at a t.world.table ≡ Some rest
  as_at_once = by (inbox_at a t.world.table) refl (live_inbox a t.world.table ∙ still_there)
    where
      by : (o : Option (List Batch)) → inbox_at a t.world.table ≡ o → is_some o ≡ true
          → inbox_at a t.world.table ≡ Some rest
      by None is some = absurd cc
      by (Some bs) is some =
          let had : HadBefore (turn a s.world).world t.world a bs = only a bs is in
          let both : Some had.old ≡ Some rest = sym had.had ∙ now in
          let same : had.old ≡ rest = cc in
          is ∙ ap Some (had.behind ∙ ap (λ ds. had.old ++ ds) (none_left had.came had.left) ∙ append-nil had.old ∙ same)

pub retractions_tell_nothing_back : RetractionsTellNothingBack
retractions_tell_nothing_back ds steps may a d rest is back =
    let s : State = replay ds steps in
    let now : inbox_at a (turn a s.world).world.table ≡ Some rest =
    at_once a d rest s.world (replay_hub ds steps may).sound is back in
    let takes : TakesItsTurn a s =
    retractions_end_nobody ds steps may a d (first_waits a d rest s.world.table is) back in
    record {
      at_once = now;
      by_itself = λ fresh.
          as_at_once a rest s (step s (Turn a)).state takes.turn.all now (steps_alike a s fresh).by_itself;
      as_work = λ fresh first system.
          as_at_once a rest s (step s Work).state (takes.work first).all now
          ((steps_alike a s fresh).as_work first system);
    }

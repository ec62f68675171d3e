-- At the end of a step inboxes grow by what those leave who end there, and by nothing else.
use Rattle.std.proofs.Common.{◌≡◌, ◌≢◌, ℕ, ◌-◌, ◌==◌, List, [], ◌∷◌, ◌++◌, Bool, true, false, cond, Option}
use Rattle.std.proofs.Common.{Some, None, option_map, inl, inr, refl, ap, sym, ◌∙◌, subst, arith, is_some, append-nil}
use Rattle.std.proofs.Common.{append_assoc}
use Rattle.std.proofs.lemmas.Bool.Decides.{nat_tests}
use Rattle.std.specs.List.{AllByRecursion}
use Rattle.ac_table.specs.declared.batches.Batch.{Batch}
use Rattle.ac_table.specs.declared.batches.Event.{Event}
use Rattle.ac_table.specs.declared.batches.Event.TheVariants.{Retract}
use Rattle.ac_table.specs.declared.batches.Row.{Row}
use Rattle.ac_table.specs.Tables.{find_actor, is_live, rows_of, ended, lowest}
use Rattle.ac_table.specs.Lemmas.Lists.{all_weaker}
use Rattle.ac_world.specs.Allocating.{AreApart}
use Rattle.ac_world.specs.Lemmas.Entries.{all_append}
use Rattle.ac_world.specs.Outboxes.{Outbox, told, told_to, retractions}
use Rattle.ac_world.specs.Turns.{turn}
use Rattle.ac_world.specs.Worlds.{WorldState, actor_of, gone, ended_of, is_system, without_entry}
use Rattle.ac_world.specs.declared.spreads.Spread.{Spread}
use Rattle.ac_world.specs.declared.turns.Turned.{Turned}
use Rattle.ac_world.specs.declared.turns.Turned.TheVariants as turned
use Rattle.rl_ports.specs.Ports.{PortsState}
use Rattle.hub_machine.specs.declared.faults.Fault.{Fault}
use Rattle.hub_machine.specs.State.{State, ports_of}
use Rattle.hub_machine.specs.Endings.{failed, finished}
use Rattle.hub_machine.specs.Machine.{unchanged, telling_fault, exporting, told_unless, tell, fault_for, tell_fault}
use Rattle.hub_machine.specs.Machine.{after_turn, turn_of, rest, work_by, is_worn, done}
use Rattle.hub_machine.specs.declared.steps.Step.TheVariants.{Turn, Work}
use Rattle.hub_machine.specs.declared.steps.Reply.TheVariants.{Worn}
use Rattle.hub_valid.specs.Lemmas.Lives.{live_gone}
use Rattle.hub_valid.specs.Lemmas.StepEnds.{finished_keeps}
use Rattle.hub_laws.specs.Posting.{IsOutbox, grown}
use Rattle.hub_laws.proofs.EndingActors.{ended_other}
use Rattle.hub_laws.proofs.Leaving.{one_or_not}
use Rattle.hub_laws.proofs.Moving.{event_for, told_to-told}
use Rattle.hub_laws.proofs.Posted.{posted_grown, told_outbox, are_outboxes}
use Rattle.hub_cascade.specs.Sparing.{IsRetraction}
use Rattle.hub_batches.specs.Laws.{AStepTakesOneBatch}
use Rattle.hub_batches.specs.Taking.{inbox_at, told_once, IsLeft, makers, HadBefore, OnlyEnds}
use Rattle.hub_batches.proofs.Inboxes.{inbox_of, live_inbox, grown_inbox}

-- ---- one after the other

only_same : (w : WorldState) → OnlyEnds w w
only_same w b bs is = record { old = bs; had = is; came = []; behind = sym (append-nil bs); left = tt; once = tt }

-- nobody becomes live
pub live_before : (w u : WorldState) → OnlyEnds w u → (c : ℕ) → is_live c u.table ≡ true → is_live c w.table ≡ true
live_before w u only c live = by (inbox_at c u.table) refl (live_inbox c u.table ∙ live)
  where
    by : (o : Option (List Batch)) → inbox_at c u.table ≡ o → is_some o ≡ true → is_live c w.table ≡ true
    by None is some = absurd cc
    by (Some bs) is some = sym (live_inbox c w.table) ∙ ap is_some (only c bs is).had

dead_after : (w u : WorldState) → OnlyEnds w u → (c : ℕ) → is_live c w.table ≡ false → is_live c u.table ≡ false
dead_after w u only c dead = by (is_live c u.table) refl
  where
    by : (d : Bool) → is_live c u.table ≡ d → d ≡ false
    by true is = absurd (let was : is_live c w.table ≡ true = live_before w u only c is in cc)
    by false is = refl

-- what is true of each maker
makers_pass : (P : ℕ → Type 0) (es : List Batch) → AllByRecursion (λ e. P e.from) es → AllByRecursion P (makers es)
makers_pass P [] all = tt
makers_pass P (e ∷ es) all = (all.0, makers_pass P es all.1)

all_makers : (P : ℕ → Type 0) (ds es : List Batch) → AllByRecursion P (makers ds)
    → AllByRecursion (λ e. P e.from) es → AllByRecursion P (makers (ds ++ es))
all_makers P [] es first later = makers_pass P es later
all_makers P (d ∷ ds) es first later = (first.0, all_makers P ds es first.1 later)

apart_append : (ds es : List Batch) → AreApart (makers ds) → AreApart (makers es)
    → AllByRecursion (λ d. AllByRecursion (λ e. e.from ≢ d.from) es) ds → AreApart (makers (ds ++ es))
apart_append [] es first later others = later
apart_append (d ∷ ds) es first later others = (
  all_makers (λ g. g ≢ d.from) ds es first.0 others.0,
  apart_append ds es first.1 later others.1,
)

only_then : (w u v : WorldState) → OnlyEnds w u → OnlyEnds u v → OnlyEnds w v
only_then w u v first later b bs is =
    let after = later b bs is in
    let before = first b after.old after.had in
    record {
      old = before.old;
      had = before.had;
      came = before.came ++ after.came;
      behind = after.behind ∙ ap (λ xs. xs ++ after.came) before.behind
          ∙ append_assoc before.old before.came after.came;
      left = all_append (IsLeft w v) before.came after.came
          (all_weaker (IsLeft w u) (IsLeft w v) left_first before.came before.left)
          (all_weaker (IsLeft u v) (IsLeft w v) left_later after.came after.left);
      once = apart_append before.came after.came before.once after.once
          (all_others before.came after.came before.left after.left);
    }
  where
    apart : (d e : Batch) → IsLeft w u d → IsLeft u v e → e.from ≢ d.from
    apart d e gone there = λ same. absurd (let clash : true ≡ false =
        sym there.was_live ∙ ap (λ c. is_live c u.table) same ∙ gone.ended in cc)

    left_first : (d : Batch) → IsLeft w u d → IsLeft w v d
    left_first d l =
        record { was_live = l.was_live; ended = dead_after u v later d.from l.ended; back = l.back }

    left_later : (d : Batch) → IsLeft u v d → IsLeft w v d
    left_later d l =
        record { was_live = live_before w u first d.from l.was_live; ended = l.ended; back = l.back }

    -- who ended before doesn't end later
    all_others : (ds es : List Batch) → AllByRecursion (IsLeft w u) ds → AllByRecursion (IsLeft u v) es
        → AllByRecursion (λ d. AllByRecursion (λ e. e.from ≢ d.from) es) ds
    all_others [] es gone there = tt
    all_others (d ∷ ds) es gone there = (
      all_weaker (IsLeft u v) (λ e. e.from ≢ d.from) (λ e l. apart d e gone.0 l) es there,
      all_others ds es gone.1 there,
    )

-- ---- an actor ends

back_told : (b : ℕ) (rs : List Row) (out : Outbox) → AllByRecursion IsRetraction (told_to b out)
    → AllByRecursion IsRetraction (told_to b (retractions rs out))
back_told b [] out all = all
back_told b (r ∷ rs) out all =
    back_told b rs (told r.target (Retract r.handle r.entity) out)
    (subst (AllByRecursion IsRetraction) (sym (told_to-told b r.target (Retract r.handle r.entity) out))
    (all_append IsRetraction (told_to b out) (event_for b r.target (Retract r.handle r.entity)) all
    (one (r.target == b))))
  where
    one : (c : Bool) → AllByRecursion IsRetraction (cond c (Retract r.handle r.entity ∷ []) [])
    one true = (tt, tt)
    one false = tt

retractions_outbox : (rs : List Row) (out : Outbox) → IsOutbox out → IsOutbox (retractions rs out)
retractions_outbox [] out is = is
retractions_outbox (r ∷ rs) out is =
    retractions_outbox rs (told r.target (Retract r.handle r.entity) out)
    (told_outbox r.target (Retract r.handle r.entity) out is)

module _ (c : ℕ) (w : WorldState) where
  abbrev out : Outbox
  out = retractions (rows_of c w.table.rows) []

  dead_gone : is_live c (gone c w).table ≡ false
  dead_gone =
      let same : (c == c) ≡ true = grind (arith, nat_tests) in
      live_gone c c w ∙ ap (λ d. cond d false (is_live c w.table)) same

  other_inbox : (b : ℕ) → b ≢ c
      → inbox_at b (gone c w).table ≡ option_map (told_once c (told_to b out)) (inbox_at b w.table)
  other_inbox b apart =
      let is : IsOutbox out = retractions_outbox (rows_of c w.table.rows) [] are_outboxes.0 in
      ap inbox_of (posted_grown c b out (ended c w.table) is.0 is.1
      ∙ ap (grown c (told_to b out)) (ended_other c b w.table apart))
      ∙ grown_inbox c (told_to b out) (find_actor b w.table.actors)

  had_before : is_live c w.table ≡ true → (b : ℕ) (bs : List Batch) (es : List Event) (o : Option (List Batch))
      → AllByRecursion IsRetraction es → inbox_at b w.table ≡ o → option_map (told_once c es) o ≡ Some bs
      → HadBefore w (gone c w) b bs
  had_before live b bs es None back had is = absurd cc
  had_before live b bs [] (Some old) back had is =
      let same : old ≡ bs = cc in
      record {
        old = old;
        had = had;
        came = [];
        behind = sym same ∙ sym (append-nil old);
        left = tt;
        once = tt;
      }
  had_before live b bs (e ∷ es) (Some old) back had is =
      let batch : Batch = record { from = c; events = e ∷ es } in
      let same : old ++ batch ∷ [] ≡ bs = cc in
      record {
        old = old;
        had = had;
        came = batch ∷ [];
        behind = sym same;
        left = (record { was_live = live; ended = dead_gone; back = back }, tt);
        once = (tt, tt);
      }

  gone_only : is_live c w.table ≡ true → OnlyEnds w (gone c w)
  gone_only live b bs is = elim (one_or_not b c) [
    | inl same ↦ absurd (let there : is_live c (gone c w).table ≡ true =
        ap (λ i. is_live i (gone c w).table) (sym same) ∙ sym (live_inbox b (gone c w).table) ∙ ap is_some is in
        let dead = dead_gone in cc)
    | inr apart ↦
        had_before live b bs (told_to b out) (inbox_at b w.table) (back_told b (rows_of c w.table.rows) [] tt) refl
        (sym (other_inbox b apart) ∙ is)
  ]

  pub ended_only : OnlyEnds w (ended_of c w)
  ended_only = by (is_live c w.table) refl
    where
      by : (d : Bool) → is_live c w.table ≡ d → OnlyEnds w (cond d (gone c w) w)
      by true is = gone_only is
      by false is = only_same w

-- ---- the end of a step, which follows on the world u

module _ (u : WorldState) where
  abbrev Follows : State → Type 0
  Follows s = OnlyEnds u s.world

  fails : (k : ℕ) (f : Fault) (s : State) → Follows s → Follows (failed k f s)
  fails k f s p = only_then u s.world (ended_of (actor_of k) s.world) p (ended_only (actor_of k) s.world)

  ends_so : (xs : List Spread) (s : State) → Follows s → Follows (finished xs s)
  ends_so xs s p =
      finished_keeps Follows (λ k f t there q. fails k f t q)
      (λ a t high low q. only_then u t.world (ended_of a t.world) q (ended_only a t.world)) xs s p

  unless_so : (o : Option Fault) (k : ℕ) (ports : PortsState) (b : Batch) (s : State) → Follows s
      → Follows (told_unless o k ports b s).state
  unless_so (Some f) k ports b s p = ends_so [] (failed k f s) (fails k f s p)
  unless_so None k ports b s p = ends_so [] (exporting k b ports s) p

  tell_so : (k : ℕ) (o : Option PortsState) (b : Batch) (s : State) → Follows s → Follows (tell k o b s).state
  tell_so k None b s p = ends_so [] s p
  tell_so k (Some ports) b s p = unless_so (telling_fault k b ports) k ports b s p

  fault_so : (a : ℕ) (o : Option Fault) (s : State) → Follows s → Follows (tell_fault a o s).state
  fault_so a None s p = p
  fault_so a (Some f) s p = ends_so [] (record s { faults = without_entry (a - 16) s.faults }) p

  after_so : (a : ℕ) (t : Turned) (s : State) → Follows s → Follows (after_turn a t s).state
  after_so a (turned.Ran xs) s p = ends_so xs s p
  after_so a (turned.Taken b) s p = tell_so (a - 16) (ports_of (a - 16) s) b s p
  after_so a turned.Idle s p = p
  after_so a turned.Gone s p = fault_so a (fault_for a s) s p

turn_so : (a : ℕ) (s : State) → OnlyEnds (turn a s.world).world (turn_of a s).state.world
turn_so a s =
    after_so (turn a s.world).world a (turn a s.world).turned (record s { world = (turn a s.world).world })
    (only_same (turn a s.world).world)

-- ---- the step

pub steps_alike : AStepTakesOneBatch
steps_alike a s fresh = record {
  by_itself = stepped (is_worn s (Turn a)) fresh;
  as_work = λ first system. worked (is_worn s Work) fresh (lowest s.world.table) first system;
}
  where
    Ends : State → Type 0
    Ends t = OnlyEnds (turn a s.world).world t.world

    stepped : (c : Bool) → c ≡ false → Ends (cond c (unchanged s Worn) (done s (Turn a))).state
    stepped true is = absurd cc
    stepped false is = turn_so a s

    acting : (d : Bool) → d ≡ true → Ends (cond d (turn_of a s) (rest s)).state
    acting true is = turn_so a s
    acting false is = absurd cc

    by : (o : Option ℕ) → o ≡ Some a → is_system a ≡ true → Ends (work_by o s).state
    by None is system = absurd cc
    by (Some b) is system =
        let same : a ≡ b = cc in
        subst (λ i. Ends (work_by (Some i) s).state) same (acting (is_system a) system)

    worked : (c : Bool) → c ≡ false → (o : Option ℕ) → o ≡ Some a → is_system a ≡ true
        → Ends (cond c (unchanged s Worn) (work_by o s)).state
    worked true is o first system = absurd cc
    worked false is o first system = by o first system

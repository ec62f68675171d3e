-- Whatever is done, rows come under handles that weren't drawn yet.
use Rattle.std.proofs.Common.{◌≡◌, ℕ, ◌≤◌, ◌==◌, ◌<◌, List, [], ◌∷◌, ◌++◌, Bool, true, false, cond, not, Option, Some}
use Rattle.std.proofs.Common.{None, refl, sym, subst, nat_lt, ◌∙◌, arith, inl, inr}
use Rattle.std.specs.List.{AllByRecursion}
use Rattle.std.specs.Map.{values_of}
use Rattle.pv_value.specs.Plain.{boolean, sequence, plains}
use Rattle.ds_space.specs.Limits.{most_wanted_weight}
use Rattle.ds_space.specs.Spaces.{Rows, changed, has_row}
use Rattle.ds_space.specs.declared.space.SpaceEvent.TheVariants.{Add}
use Rattle.ds_space.specs.declared.space.Change.{Change}
use Rattle.ds_space.specs.declared.space.Change.TheVariants.{Left, Came}
use Rattle.ds_space.specs.declared.space.Fanned.{Fanned}
use Rattle.ps_schema.specs.declared.Definition.{Definition}
use Rattle.ac_table.specs.declared.batches.Row.{Row}
use Rattle.ac_table.specs.declared.batches.Batch.{Batch}
use Rattle.ac_table.specs.declared.batches.Event.{Event}
use Rattle.ac_table.specs.declared.batches.Event.TheVariants.{Assert, Retract, Message, Sync}
use Rattle.ac_table.specs.Tables.{TableState, find_row, is_live, first_batch, popped, rows_of, ended, joined}
use Rattle.ac_world.specs.declared.acts.Act.{Act}
use Rattle.ac_world.specs.declared.acts.Act.TheVariants as act
use Rattle.ac_world.specs.declared.aims.Aim.{Aim}
use Rattle.ac_world.specs.declared.turns.Turned.TheVariants as turned
use Rattle.ac_world.specs.Aims.{aim_at, aim_for}
use Rattle.ac_world.specs.Behaviours.{Behaviour, behaviour_of, fanned_weight}
use Rattle.ac_world.specs.Allocating.{allocated}
use Rattle.ac_world.specs.Outboxes.{Outbox, Plan, plan_over, drop_row, drop_own, acted, all_acted, posted, retractions}
use Rattle.ds_space.specs.Changes.{changes}
use Rattle.ac_world.specs.Turns.{After, Turning, handle_for, drop_met, came_at, changed_by, all_changed, with_rows, regot}
use Rattle.ac_world.specs.Turns.{say_at, say_all, turned_by, all_turned, begin_turn, system_turn, connection_turn}
use Rattle.ac_world.specs.Turns.{turn_with, turn_first, turn}
use Rattle.ac_world.specs.Watchers.{next_watcher, observation_by}
use Rattle.ac_world.specs.Worlds.{WorldState, is_system, actor_of, sent, gone, ended_of}
use Rattle.hub_machine.specs.State.{State}
use Rattle.hub_machine.specs.Replays.{run_from}
use Rattle.hub_machine.specs.declared.steps.Step.{Step}
use Rattle.hub_valid.specs.Lemmas.AnyStep.{Keeps, run_keeps}
use Rattle.hub_valid.specs.Lemmas.Lives.{rows_posted, next_posted}
use Rattle.hub_laws.proofs.Finding.{Ascend, found_all, found_handle, row_next}
use Rattle.hub_handles.specs.Once.{AreDrawnOnce}
use Rattle.hub_handles.proofs.Fresh.{IsAfter, after_itself, after_new, after_less}

module _ (n : ℕ) (old : List Row) where
  abbrev Follows : TableState → Type 0
  Follows t = IsAfter n old t.next t.rows

  -- ---- a plan

  drops : (a : ℕ) (o : Option Row) (p : Plan) → Follows p.table → Follows (drop_own a o p).table
  drops a None p k = k
  drops a (Some r) p k = by (r.owner == a)
    where
      by : (c : Bool) → Follows (cond c (drop_row r p) p).table
      by true = after_less (λ q. not (q.handle == r.handle)) n old p.table.next p.table.rows k
      by false = k

  acts : (a : ℕ) (x : Act) (p : Plan) → Follows p.table → Follows (acted a x p).table
  acts a (act.Assert target entity v) p k =
      after_new n old p.table.next p.table.rows (row_next a 0 target entity v p.table) refl k
  acts a (act.Retract h) p k = drops a (find_row h p.table.rows) p k
  acts a (act.Message target entity v) p k = k
  acts a (act.Sync target entity peer) p k = k

  all_acts : (a : ℕ) (xs : List Act) (p : Plan) → Follows p.table → Follows (all_acted a xs p).table
  all_acts a [] p k = k
  all_acts a (x ∷ xs) p k = all_acts a xs (acted a x p) (acts a x p k)

  -- what is posted leaves the rows
  posts : (from : ℕ) (out : Outbox) (t : TableState) → Follows t → Follows (posted from out t)
  posts from out t k =
      subst (λ rows. IsAfter n old (posted from out t).next rows) (sym (rows_posted from out t))
      (subst (λ next. IsAfter n old next t.rows) (sym (next_posted from out t)) k)

  sends : (a : ℕ) (xs : List Act) (w : WorldState) → Follows w.table → Follows (sent a xs w).table
  sends a xs w k =
      let p : Plan = all_acted a xs (plan_over w.table) in
      posts a p.out p.table (all_acts a xs (plan_over w.table) k)

  -- ---- a system actor's turn

  changes_on : (y : Behaviour) (a : ℕ) (c : Change) (u : Turning) → Follows u.plan.table
      → Follows (changed_by y a c u).plan.table
  changes_on y a (Left key) u k = by (handle_for key u.resident.handles)
    where
      by : (o : Option ℕ) → Follows (drop_met a o u.plan).table
      by None = k
      by (Some h) = drops a (find_row h u.plan.table.rows) u.plan k
  changes_on y a (Came key) u k = by (y.aim key)
    where
      by : (o : Option Aim) → Follows (came_at a (y.group key) key o u).plan.table
      by None = k
      by (Some aim) =
          let facet : ℕ = (allocated a (y.group key) u.resident.facets u.plan.table).facet in
          after_new n old u.plan.table.next u.plan.table.rows
          (row_next a facet aim.at.actor aim.at.entity aim.value u.plan.table) refl k

  all_change : (y : Behaviour) (a : ℕ) (cs : List Change) (u : Turning) → Follows u.plan.table
      → Follows (all_changed y a cs u).plan.table
  all_change y a [] u k = k
  all_change y a (c ∷ cs) u k = all_change y a cs (changed_by y a c u) (changes_on y a c u k)

  regets : (y : Behaviour) (a : ℕ) (rows : Rows) (u : Turning) → Follows u.plan.table
      → Follows (regot y a rows u).plan.table
  regets y a rows u k =
      all_change y a (changes (y.keys (values_of u.resident.got)) (y.keys (values_of rows))) (with_rows rows u) k

  says : (o : Option Aim) (p : Plan) → Follows p.table → Follows (say_at o p).table
  says None p k = k
  says (Some aim) p k = k

  all_say : (ds : List Definition) (fs : List Fanned) (p : Plan) → Follows p.table → Follows (say_all ds fs p).table
  all_say ds [] p k = k
  all_say ds (f ∷ fs) p k =
      let aim : Option Aim = aim_for ds (sequence (plains f.captures)) f.observe in
      all_say ds fs (say_at aim p) (says aim p k)

  either : (c : Bool) (u v : Turning) → Follows u.plan.table → Follows v.plan.table
      → Follows (cond c u v).plan.table
  either true u v k l = k
  either false u v k l = l

  turns_on : (y : Behaviour) (a from : ℕ) (e : Event) (u : Turning) → Follows u.plan.table
      → Follows (turned_by y a from e u).plan.table
  turns_on y a from (Assert h entity v) u k =
      either (has_row h u.resident.got) u _ k
      (either (nat_lt most_wanted_weight (y.weight (values_of (changed u.resident.got (Add h v))))) _ _ k
      (regets y a (changed u.resident.got (Add h v)) u k))
  turns_on y a from (Retract h entity) u k = regets y a _ u k
  turns_on y a from (Message entity v) u k =
      let fs : List Fanned = y.fan (values_of u.resident.got) v in
      either (nat_lt most_wanted_weight (fanned_weight fs)) _ _ k (all_say y.schema fs u.plan k)
  turns_on y a from (Sync entity peer) u k = says (aim_at y.schema (boolean true) peer) u.plan k

  all_turn : (y : Behaviour) (a from : ℕ) (es : List Event) (u : Turning) → Follows u.plan.table
      → Follows (all_turned y a from es u).plan.table
  all_turn y a from [] u k = k
  all_turn y a from (e ∷ es) u k = all_turn y a from es (turned_by y a from e u) (turns_on y a from e u k)

  -- ---- whoever takes its turn; popped leaves the rows

  abbrev less : ℕ → WorldState → WorldState
  less a w = record w { table = popped a w.table }

  with_turns : (a : ℕ) (b : Batch) (w : WorldState) → Follows w.table → Follows (turn_with a b (less a w)).world.table
  with_turns a b w k = by (is_system a)
    where
      u : Turning
      u = all_turned (behaviour_of w.schema w.bindings w.watches a) a b.from b.events (begin_turn a (less a w))

      done : Follows u.plan.table
      done =
          all_turn (behaviour_of w.schema w.bindings w.watches a) a b.from b.events (begin_turn a (less a w)) k

      by : (c : Bool) → Follows (cond c (system_turn a b (less a w)) (connection_turn a b (less a w))).world.table
      by true = posts a u.plan.out u.plan.table done
      by false = k

  turns : (a : ℕ) (w : WorldState) → Follows w.table → Follows (turn a w).world.table
  turns a w k = by (is_live a w.table) (first_batch a w.table)
    where
      none : After
      none = record { world = w; turned = turned.Gone }

      by : (c : Bool) (o : Option Batch) → Follows (cond c (turn_first a o w) none).world.table
      by true None = k
      by true (Some b) = with_turns a b w k
      by false o = k

  -- ---- an ending

  ends : (a : ℕ) (w : WorldState) → Follows w.table → Follows (ended_of a w).table
  ends a w k = by (is_live a w.table)
    where
      by : (c : Bool) → Follows (cond c (gone a w) w).table
      by true = posts a (retractions (rows_of a w.table.rows) []) (ended a w.table)
          (after_less (λ r. not (r.owner == a)) n old w.table.next w.table.rows k)
      by false = k

  -- ---- steps

  abbrev HasCome : State → Type 0
  HasCome s = Follows s.world.table

  keeps_coming : Keeps HasCome
  keeps_coming = record {
    binds = λ b s is k. k;
    watches = λ x s is k.
        let a : ℕ = next_watcher s.world.watches in
        sends a (act.Assert x.from 0 (observation_by a x.pattern) ∷ [])
        (record s.world { watches = s.world.watches ++ x ∷ []; table = joined a s.world.table }) k;
    opens = λ space s k. k;
    fails = λ j f s there k. ends (actor_of j) s.world k;
    dismisses = λ a s high low k. ends a s.world k;
    closes = λ j s there k. ends (actor_of j) s.world k;
    accepts = λ j x s there k. sends (actor_of j) x.acts s.world k;
    exports = λ j b p s there k. k;
    turns = λ a s k. turns a s.world k;
    tells = λ j s k. k;
    stops = λ s k. k;
  }

  pub run_comes : (s : State) (later : List Step) → HasCome s → HasCome (run_from s later)
  run_comes s later k = run_keeps HasCome keeps_coming s later k

-- the rows of a state ascend, and their handles were drawn
pub record AreInOrder (s : State) : Type 0 where
  pub ascend : Ascend s.world.table.rows
  pub below : AllByRecursion (λ r. r.handle < s.world.table.next) s.world.table.rows

-- whatever is done after s
pub after_run : (s : State) (later : List Step) → AreInOrder s
    → IsAfter s.world.table.next s.world.table.rows (run_from s later).world.table.next
    (run_from s later).world.table.rows
after_run s later k =
    run_comes s.world.table.next s.world.table.rows s later
    (after_itself s.world.table.next s.world.table.rows k.ascend k.below)

still_in_order : (s : State) (later : List Step) → AreInOrder s → AreInOrder (run_from s later)
still_in_order s later k =
    let after = after_run s later k in record { ascend = after.ascend; below = after.below }

-- the handle of a row that stands was drawn
was_drawn : (s : State) (h : ℕ) (r : Row) → AreInOrder s → find_row h s.world.table.rows ≡ Some r
    → h < s.world.table.next
was_drawn s h r k is =
    let low : r.handle < s.world.table.next =
    found_all (λ r. r.handle < s.world.table.next) h s.world.table.rows r k.below is in
    let same : r.handle ≡ h = found_handle h s.world.table.rows r is in
    omega (arith, low, same)

-- a row that stands under a handle that was drawn is an old one
old_row : (s : State) (later : List Step) (h : ℕ) (q : Row) → AreInOrder s → h < s.world.table.next
    → find_row h (run_from s later).world.table.rows ≡ Some q → find_row h s.world.table.rows ≡ Some q
old_row s later h q k drawn is = elim ((after_run s later k).anew h q is) [
  | inl was ↦ was
  | inr late ↦ absurd (omega (arith, drawn, late))
]

-- under a handle that was drawn, and has no row any more, none comes
none_comes : (s : State) (later : List Step) (h : ℕ) → AreInOrder s → h < s.world.table.next
    → find_row h s.world.table.rows ≡ None → find_row h (run_from s later).world.table.rows ≡ None
none_comes s later h k drawn none = by (find_row h (run_from s later).world.table.rows) refl
  where
    by : (o : Option Row) → find_row h (run_from s later).world.table.rows ≡ o → o ≡ None
    by None is = refl
    by (Some q) is =
        absurd (let clash : None ≡ Some q = sym none ∙ old_row s later h q k drawn is in cc)

pub drawn_once : (s : State) → AreInOrder s → AreDrawnOnce s
drawn_once s k = record {
  anew = λ later. (after_run s later k).anew;
  one = λ h r q later was is.
      let old : find_row h s.world.table.rows ≡ Some q = old_row s later h q k (was_drawn s h r k was) is in
      let same : Some q ≡ Some r = sym old ∙ was in
      cc;
  gone = λ h r later more was none.
      let drawn : h < s.world.table.next = was_drawn s h r k was in
      let rises : s.world.table.next ≤ (run_from s later).world.table.next = (after_run s later k).later in
      none_comes (run_from s later) more h (still_in_order s later k) (omega (arith, drawn, rises)) none;
}

-- What is only said: messages and answers to syncs change no row.
use Rattle.std.proofs.Common.{◌≡◌, ℕ, true, List, [], ◌∷◌, Option, Some, None, refl, ◌∙◌}
use Rattle.pv_value.specs.Plain.{Plain, sequence, plains, boolean}
use Rattle.ds_space.specs.declared.space.Fanned.{Fanned}
use Rattle.ac_table.specs.declared.batches.Event.TheVariants.{Message}
use Rattle.ac_table.specs.Tables.{TableState}
use Rattle.ps_schema.specs.declared.Definition.{Definition}
use Rattle.ac_world.specs.Outboxes.{Plan, said}
use Rattle.ac_world.specs.declared.aims.Aim.{Aim}
use Rattle.ac_world.specs.Turns.{say_at, say_all, answer_to}
use Rattle.ac_world.specs.Aims.{aim_at, aim_for}
use Rattle.hub_laws.proofs.Kept.{Moves, AreGood}
use Rattle.hub_laws.proofs.Good.{said_good}
use Rattle.hub_laws.proofs.Moving.{said_moves}

-- the plan new goes on from old, and has its table
pub record OnlySays (a : ℕ) (t : TableState) (old new : Plan) : Type 1 where
  pub moves : Moves a t new
  pub good : AreGood a new
  pub same : new.table ≡ old.table

said_only : (a : ℕ) (t : TableState) (p : Plan) (target entity : ℕ) (v : Plain)
    → Moves a t p → AreGood a p → OnlySays a t p (said target (Message entity v) p)
said_only a t p target entity v m g = record {
  moves = said_moves a t p m target (Message entity v) tt;
  good = said_good a p g target (Message entity v) tt;
  same = refl;
}

say_at_only : (a : ℕ) (t : TableState) (p : Plan) (o : Option Aim) → Moves a t p → AreGood a p
    → OnlySays a t p (say_at o p)
say_at_only a t p None m g = record { moves = m; good = g; same = refl }
say_at_only a t p (Some aim) m g = said_only a t p aim.at.actor aim.at.entity aim.value m g

pub answer_only : (ds : List Definition) (a : ℕ) (t : TableState) (p : Plan) (peer : Plain) → Moves a t p
    → AreGood a p → OnlySays a t p (answer_to ds peer p)
answer_only ds a t p peer m g = say_at_only a t p (aim_at ds (boolean true) peer) m g

pub say_all_only : (ds : List Definition) (a : ℕ) (t : TableState) (p : Plan) (fs : List Fanned) → Moves a t p
    → AreGood a p → OnlySays a t p (say_all ds fs p)
say_all_only ds a t p [] m g = record { moves = m; good = g; same = refl }
say_all_only ds a t p (f ∷ fs) m g =
    let aim : Option Aim = aim_for ds (sequence (plains f.captures)) f.observe in
    let one = say_at_only a t p aim m g in
    let next : Plan = say_at aim p in
    let rest = say_all_only ds a t next fs one.moves one.good in
    record { moves = rest.moves; good = rest.good; same = rest.same ∙ one.same }

-- What a turn does, in the making: rows come and go in the table, and the events that tell of it gather, a list for
-- each target. Syndicate Protocol, "turns".
use Rattle.std.specs.Prelude.{ℕ, List, [], ◌∷◌, ◌++◌, Option, Some, None, unwrap_or, if◌then◌else◌, ◌==◌, Bool, false}
use Rattle.std.specs.Map.{lookup}
use Rattle.std.specs.BTreeMap.{insert_entry, is_at}
use Rattle.std.specs.Ordering.{nat_cmp}
use Rattle.pv_value.specs.Plain.{Plain}
use Rattle.ac_table.specs.declared.batches.Row.{Row}
use Rattle.ac_table.specs.declared.batches.Event.{Event}
use Rattle.ac_table.specs.declared.batches.Event.TheVariants.{Assert, Retract, Message, Sync}
use Rattle.ac_table.specs.Facets.{Tree}
use Rattle.ac_table.specs.Tables.{TableState, find_row, asserted, retracted, pushed}
use Rattle.ac_world.specs.declared.acts.Act.{Act}
use Rattle.ac_world.specs.declared.acts.Act.TheVariants as act

-- the events for each target, the targets ascending
abbrev pub Outbox : Type 0
Outbox = List (ℕ × List Event)

-- what a target is told so far
abbrev pub told_to : ℕ → Outbox → List Event
told_to target out = unwrap_or (lookup (is_at (nat_cmp target)) out) []

-- one more event for a target, behind those that it is told so far
abbrev pub told : ℕ → Event → Outbox → Outbox
told target e out = insert_entry nat_cmp out target (told_to target out ++ e ∷ [])

-- each live target gets its events as one batch, the targets ascending; events for others are dropped
abbrev pub posted : ℕ → Outbox → TableState → TableState
posted from [] t = t
posted from (o ∷ os) t = posted from os (pushed o.0 (record { from = from; events = o.1 }) t)

pub record Plan : Type 0 where
  pub table : TableState
  pub out : Outbox

abbrev pub plan_over : TableState → Plan
plan_over t = record { table = t; out = [] }

-- a new row of the owner under the next handle, in one of its facets, and its assertion at the target
abbrev pub put : ℕ → ℕ → ℕ → ℕ → Plain → Plan → Plan
put owner facet target entity v p = record {
  table = asserted owner facet target entity v p.table;
  out = told target (Assert p.table.next entity v) p.out;
}

-- a row goes, and its retraction at the target
abbrev pub drop_row : Row → Plan → Plan
drop_row r p = record { table = retracted r.handle p.table; out = told r.target (Retract r.handle r.entity) p.out }

abbrev pub is_owned : ℕ → Option Row → Bool
is_owned owner None = false
is_owned owner (Some r) = r.owner == owner

-- whether the row under a handle is the owner's
abbrev pub owns : ℕ → ℕ → TableState → Bool
owns owner handle t = is_owned owner (find_row handle t.rows)

-- the row under a handle goes, where it is the owner's
abbrev pub drop_own : ℕ → Option Row → Plan → Plan
drop_own owner None p = p
drop_own owner (Some r) p = if r.owner == owner then drop_row r p else p

abbrev pub dropped : ℕ → ℕ → Plan → Plan
dropped owner handle p = drop_own owner (find_row handle p.table.rows) p

abbrev pub said : ℕ → Event → Plan → Plan
said target e p = record { table = p.table; out = told target e p.out }

-- what is done with all of a plan by its actor
abbrev pub committed : ℕ → Plan → TableState
committed from p = posted from p.out p.table

-- the actors' trees of facets change
abbrev pub with_trees : List (ℕ × Tree) → Plan → Plan
with_trees trees p = record { table = record p.table { trees = trees }; out = p.out }

-- ---- what a connection does, in facet 0

abbrev pub acted : ℕ → Act → Plan → Plan
acted a (act.Assert target entity v) p = put a 0 target entity v p
acted a (act.Retract handle) p = dropped a handle p
acted a (act.Message target entity v) p = said target (Message entity v) p
acted a (act.Sync target entity peer) p = said target (Sync entity peer) p

abbrev pub all_acted : ℕ → List Act → Plan → Plan
all_acted a [] p = p
all_acted a (x ∷ xs) p = all_acted a xs (acted a x p)

-- ---- an actor's ending

-- a retraction of each row, at its target
abbrev pub retractions : List Row → Outbox → Outbox
retractions [] out = out
retractions (r ∷ rs) out = retractions rs (told r.target (Retract r.handle r.entity) out)

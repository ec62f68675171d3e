-- A turn that takes a batch draws no handle, and lets nobody come; so the batch is valid after it.
use Rattle.std.proofs.Common.{◌≡◌, ℕ, ◌<◌, ◌≤◌, ◌^◌, Bool, true, false, Option, Some, None, refl, sym, ap, subst}
use Rattle.std.proofs.Common.{◌∙◌, arith}
use Rattle.std.proofs.lemmas.Bool.Decides.{nat_tests}
use Rattle.std.specs.Prelude.{if◌then◌else◌, nat_lt, nat_le, length}
use Rattle.ac_table.specs.declared.batches.Batch.{Batch}
use Rattle.ac_table.specs.Tables.{is_live, first_batch, popped}
use Rattle.ac_world.specs.Worlds.{WorldState, is_system}
use Rattle.ac_world.specs.Turns.{turn, turn_first, turn_with, system_turn, connection_turn}
use Rattle.ac_world.specs.declared.turns.Turned.{Turned}
use Rattle.ac_world.specs.declared.turns.Turned.TheVariants.{Ran, Taken, Idle, Gone}
use Rattle.hub_machine.specs.Limits.{last_dataspace, most_connections}
use Rattle.hub_machine.specs.State.{State}
use Rattle.hub_machine.specs.Machine.{refusal}
use Rattle.hub_machine.specs.declared.steps.Reply.TheVariants.{Barred, Halted, Full}
use Rattle.hub_valid.specs.Validity.{Lived, lived, IsValid, IsValidBatch}
use Rattle.hub_core.specs.Telling.{IsToldSoundly}
use Rattle.hub_valid.specs.Lemmas.Hubs.{taken_is_valid}

-- as many came and watch, and the next handle is the same
abbrev pub IsSame : WorldState → WorldState → Type 0
IsSame w x = (lived x ≡ lived w) × (x.table.next ≡ w.table.next)

same_with : (a : ℕ) (c b : Batch) (w : WorldState) → (turn_with a c w).turned ≡ Taken b
    → IsSame w (turn_with a c w).world
same_with a c b w is = by (is_system a) is
  where
    by : (x : Bool) → (if x then system_turn a c w else connection_turn a c w).turned ≡ Taken b
        → IsSame w (if x then system_turn a c w else connection_turn a c w).world
    by true is = absurd cc
    by false is = (refl, refl)

same_first : (a : ℕ) (o : Option Batch) (b : Batch) (w : WorldState) → (turn_first a o w).turned ≡ Taken b
    → IsSame w (turn_first a o w).world
same_first a None b w is = absurd cc
same_first a (Some c) b w is = same_with a c b (record w { table = popped a w.table }) is

same_taken : (a : ℕ) (b : Batch) (w : WorldState) → (turn a w).turned ≡ Taken b → IsSame w (turn a w).world
same_taken a b w is = by (is_live a w.table) (same_first a (first_batch a w.table) b w) is
  where
    by : (l : Bool)
        → ((turn_first a (first_batch a w.table) w).turned ≡ Taken b
        → IsSame w (turn_first a (first_batch a w.table) w).world)
        → (if l then turn_first a (first_batch a w.table) w else record { world = w; turned = Gone }).turned ≡ Taken b
        → IsSame w (if l then turn_first a (first_batch a w.table) w else record { world = w; turned = Gone }).world
    by true first is = first is
    by false first is = absurd cc

pub told_soundly : (a : ℕ) (s t : State) (d : Turned) → IsValid s → s.world.table.next < 2 ^ 62
    → t.world ≡ (turn a s.world).world → d ≡ (turn a s.world).turned → IsToldSoundly d t
told_soundly a s t (Ran xs) valid next world is = tt
told_soundly a s t Idle valid next world is = tt
told_soundly a s t Gone valid next world is = tt
told_soundly a s t (Taken b) valid next world is =
    let same = same_taken a b s.world (sym is) in
    let lives : lived t.world ≡ lived s.world = ap (λ (w : WorldState). lived w) world ∙ same.0 in
    let drawn : t.world.table.next ≡ s.world.table.next = ap (λ (w : WorldState). w.table.next) world ∙ same.1 in (
      omega (arith, drawn, next),
      subst (λ (n : Lived). IsValidBatch n t.world.table.next b) (sym lives)
          (subst (λ (n : ℕ). IsValidBatch (lived s.world) n b) (sym drawn)
          (taken_is_valid a s b valid (sym is))),
    )

-- where nothing is against it, the dataspace is one
pub is_let_in : (space : ℕ) (s : State) → refusal space s ≡ None → space ≤ 8
is_let_in space s is = by (nat_lt last_dataspace space) refl is
  where
    by : (b : Bool) → nat_lt last_dataspace space ≡ b → (if b then Some Barred
        else if s.stopped then Some Halted
        else if nat_le most_connections (length s.connections) then Some Full else None) ≡ None
        → space ≤ 8
    by true over is = absurd cc
    by false over is = grind (arith, nat_tests, over)

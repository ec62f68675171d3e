-- No cascade: after every list of steps whose callers saw to their conditions, whoever ends takes nobody along. The
-- limits on what is held and waits are this server's own.
use Rattle.std.specs.Prelude.{◌≡◌, ◌≢◌, ℕ, ◌≤◌, true, Some}
use Rattle.ac_table.specs.declared.batches.Batch.{Batch}
use Rattle.ac_table.specs.Tables.{is_live, first_batch, lowest}
use Rattle.ac_world.specs.Worlds.{actor_of}
use Rattle.rl_packet.specs.declared.packets.Turn.{Turn as TurnRecord}
use Rattle.hub_machine.specs.declared.faults.Fault.{Fault}
use Rattle.hub_machine.specs.State.{State}
use Rattle.hub_machine.specs.Machine.{step}
use Rattle.hub_machine.specs.declared.steps.Step.TheVariants.{Packet, Bad, Close, Turn, Work}
use Rattle.hub_machine.specs.declared.steps.Reply.TheVariants.{Refused, Taken}
use Rattle.hub_laws.specs.Laws.{AfterAll}
use Rattle.hub_cascade.specs.Sparing.{IsWithin, SparesAll, SparesOthers, EndsAlone, EndsNobody}
use Rattle.hub_cascade.specs.Sparing.{TakesBack, TellsBack}

-- between steps no more is held and waits for a live connection than may be; they count from 1
abbrev pub NobodyIsOver : Type 0
NobodyIsOver =
    AfterAll (λ s. (k : ℕ) → 1 ≤ k → is_live (actor_of k) s.world.table ≡ true → IsWithin (actor_of k) s.world)

-- in s connection k closes, sends what is no packet, or a packet that is refused
pub record EndsOne (k : ℕ) (s : State) : Type 0 where
  pub closed : (step s (Close k)).reply ≡ Taken → EndsAlone k s (step s (Close k)).state
  pub bad : (f : Fault) → (step s (Bad k f)).reply ≡ Refused f → EndsAlone k s (step s (Bad k f)).state
  pub refused : (t : TurnRecord) (f : Fault) → (step s (Packet k t)).reply ≡ Refused f
      → EndsAlone k s (step s (Packet k t)).state

abbrev pub AnEndingEndsOne : Type 0
AnEndingEndsOne = AfterAll (λ s. (k : ℕ) → EndsOne k s)

-- in s connection k takes its turn
pub record EndsAtMostItself (k : ℕ) (s : State) : Type 0 where
  pub others : SparesOthers (actor_of k) s (step s (Turn (actor_of k))).state
  pub told : TellsBack (actor_of k) s (step s (Turn (actor_of k))).state
  pub itself : ((f : Fault) → (step s (Turn (actor_of k))).reply ≢ Refused f)
      → SparesAll s (step s (Turn (actor_of k))).state

abbrev pub ATurnEndsAtMostItself : Type 0
ATurnEndsAtMostItself = AfterAll (λ s. (k : ℕ) → 1 ≤ k → EndsAtMostItself k s)

-- in s actor a takes its turn, by itself or as work
pub record TakesItsTurn (a : ℕ) (s : State) : Type 0 where
  pub turn : EndsNobody a s (step s (Turn a)).state
  pub work : lowest s.world.table ≡ Some a → EndsNobody a s (step s Work).state

-- a turn over retractions alone
abbrev pub RetractionsEndNobody : Type 0
RetractionsEndNobody =
    AfterAll (λ s. (a : ℕ) (b : Batch) → first_batch a s.world.table ≡ Some b → TakesBack b → TakesItsTurn a s)

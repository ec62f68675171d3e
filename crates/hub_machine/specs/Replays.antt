-- Whole runs of the machine: the state after some steps, what was sent in them, and what is pending.
use Rattle.std.specs.Prelude.{◌≡◌, ℕ, ◌+◌, min, List, [], ◌∷◌, ◌++◌, length, cond, ◌==◌, Option, Some, None, option_map}
use Rattle.std.specs.Prelude.{slice_get}
use Rattle.ps_schema.specs.declared.Definition.{Definition}
use Rattle.ac_table.specs.Tables.{waiting, lowest as lowest_waiting}
use Rattle.ac_world.specs.Worlds.{actor_of}
use Rattle.rl_packet.specs.declared.packets.Packet.{Packet}
use Rattle.hub_machine.specs.State.{State, opening}
use Rattle.hub_machine.specs.Machine.{step}
use Rattle.hub_machine.specs.declared.steps.Step.{Step}
use Rattle.hub_machine.specs.declared.steps.Step.TheVariants.{Turn}
use Rattle.hub_machine.specs.declared.steps.Reply.{Reply}
use Rattle.hub_machine.specs.declared.steps.Reply.TheVariants.{Sent}

-- the state after some steps
abbrev pub run_from : State → List Step → State
run_from s [] = s
run_from s (e ∷ es) = run_from (step s e).state es

-- the state after some steps from the beginning, where guards judge by this schema
abbrev pub replay : List Definition → List Step → State
replay ds es = run_from (opening ds) es

-- the packet that a turn of connection k sent
abbrev pub packet_in : Reply → List Packet
packet_in (Sent p) = p ∷ []
packet_in r = []

abbrev pub sent_by : ℕ → Step → Reply → List Packet
sent_by k (Turn a) r = cond (a == actor_of k) (packet_in r) []
sent_by k e r = []

abbrev pub sent_from : State → ℕ → List Step → List Packet
sent_from s k [] = []
sent_from s k (e ∷ es) = sent_by k e (step s e).reply ++ sent_from (step s e).state k es

-- the packets sent to connection k from the beginning on, in order
abbrev pub sent_to : List Definition → ℕ → List Step → List Packet
sent_to ds k es = sent_from (opening ds) k es

-- the number of batches that wait, and of faults that are to be told
abbrev pub pending : State → ℕ
pending s = waiting s.world.table + length s.faults

abbrev pub IsSettled : State → Type 0
IsSettled s = pending s ≡ 0

abbrev pub least : Option ℕ → Option ℕ → Option ℕ
least None n = n
least (Some m) None = Some m
least (Some m) (Some n) = Some (min m n)

-- the first connection of which a fault is to be told
abbrev pub first_failed : State → Option ℕ
first_failed s = option_map (λ e. e.0) (slice_get s.faults 0)

-- the lowest actor that has work
abbrev pub lowest : State → Option ℕ
lowest s = least (lowest_waiting s.world.table) (option_map actor_of (first_failed s))

-- The packets that connections were sent.
use Rattle.std.specs.Prelude.{ℕ, ◌-◌, List, [], ◌∷◌, ◌++◌, nat_le, Option, Some, None, unwrap_or, if◌then◌else◌}
use Rattle.ac_world.specs.Worlds.{entry_of, with_entry}
use Rattle.rl_packet.specs.declared.packets.Packet.{Packet}
use Rattle.hub_machine.specs.declared.steps.Step.{Step}
use Rattle.hub_machine.specs.declared.steps.Step.TheVariants as step
use Rattle.hub_machine.specs.declared.steps.Reply.{Reply}
use Rattle.hub_machine.specs.declared.steps.Reply.TheVariants.{Sent}

-- those of each connection, by its number, in order
abbrev pub OutsState : Type 0
OutsState = List (ℕ × List Packet)

abbrev pub sent_of : ℕ → OutsState → List Packet
sent_of k outs = unwrap_or (entry_of k outs) []

abbrev pub with_sent : ℕ → Packet → OutsState → OutsState
with_sent k p outs = with_entry k (sent_of k outs ++ p ∷ []) outs

-- the actor whose turn a step is
abbrev pub turning : Step → Option ℕ
turning (step.Turn a) = Some a
turning e = None

-- a packet of an actor's turn is kept for its connection, which is 16 below the actor
abbrev pub kept : Option ℕ → Packet → OutsState → OutsState
kept None p outs = outs
kept (Some a) p outs = if nat_le 16 a then with_sent (a - 16) p outs else outs

-- after a step and its reply
abbrev pub outs_after : Step → Reply → OutsState → OutsState
outs_after e (Sent p) outs = kept (turning e) p outs
outs_after e r outs = outs

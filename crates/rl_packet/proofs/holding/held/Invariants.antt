use Rattle.std.proofs.Common.{◌-◌, drop, length}
use Rattle.std.specs.List.{flat_map}
use Rattle.rl_packet.specs.Holding.{events_in}
use Rattle.rl_packet.specs.Kept.{IsKept}
use Rattle.rl_packet.proofs.holding.held.Given as goal

-- the last packets are seen to
abbrev pub invariant-loop-done : goal.invariant-loop-done
invariant-loop-done l = IsKept (flat_map (events_in) (drop (length l.packets - l.done) l.packets)) l.kept

use Rattle.std.proofs.Common.{◌≡◌, ℕ, List, length}
use Rattle.srv_turns.specs.Rounds.{Pair}
use Rattle.srv_turns.specs.Keeping.{IsReading}
use Rattle.srv_turns.proofs.reader.packets.Given as goal

-- some packets were read
abbrev pub invariant-loop-next : goal.invariant-loop-next
invariant-loop-next g l = record {
  reads : (b : List ℕ) (before : List Pair)
      → IsReading l.connection b l.initial.received.stream before (g.T.Turns.pairs l.initial.turns)
      → IsReading l.connection b l.received.stream before (g.T.Turns.pairs l.turns);
  taken : l.received.taken ≡ l.initial.received.taken;
}

abbrev pub decreases-loop-next : goal.decreases-loop-next
decreases-loop-next g l = length l.received.stream.rest

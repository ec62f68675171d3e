use Rattle.std.proofs.Common.{[]}
use Rattle.srv_turns.proofs.Writing.{nothing_written}
use Rattle.srv_turns.proofs.writer.write.Goals as goal

pub returns-in_default-clause-written : goal.returns-in_default-clause-written
returns-in_default-clause-written g c = (
  [],
  nothing_written c.args.connection (g.T.Turns.pairs c.args.turns.now) (g.T.Turns.spent c.args.turns.now)
      (g.W.Sink.held c.args.link.now),
)

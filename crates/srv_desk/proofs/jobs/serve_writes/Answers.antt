-- What the writer did stands, and behind it the close, where there is one.
use Rattle.std.proofs.Common.{rules}
use Rattle.srv_desk.proofs.jobs.serve_writes.Goals as goal

pub returns-then-eq-clause-written : goal.returns-then-eq-clause-written
returns-then-eq-clause-written g c =
    (c.serve_writer-end.ensures.written.0, _, _, c.serve_writer-end.ensures.written.1, search rules)

pub returns-else-eq-clause-written : goal.returns-else-eq-clause-written
returns-else-eq-clause-written g c =
    (c.serve_writer-end.ensures.written.0, _, _, c.serve_writer-end.ensures.written.1, search rules)

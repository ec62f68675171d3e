-- The counted index and the guards' schema go to other threads, and the host gave nothing before the links are served.
use denote.Param.Send.{sendable}
use Rattle.std.proofs.Common.{rules}
use Rattle.dsd_serve.specs.Serving.{rest_in}
use Rattle.dsd_serve.proofs.Accepting.{accepts}
use Rattle.dsd_serve.proofs.Sending.{skeleton_send, schema_send}
use Rattle.dsd_serve.proofs.serving.serve_hub.Goals as goal

pub serve-requires-send-S : goal.serve-requires-send-S
serve-requires-send-S g c = search (skeleton_send, sendable) depth 20

pub serve-requires-send-J : goal.serve-requires-send-J
serve-requires-send-J g c κs within = search (schema_send, sendable) depth 60 fits 20000

pub returns-in_err-write_tally-clause-cut : goal.returns-in_err-write_tally-clause-cut
returns-in_err-write_tally-clause-cut g c = λ e.
    let t = c.in_ok-tally.tally in let listened = c.listen.ensures.same in (
      t.served,
      rest_in t,
      accepts t c.args.serving.now.connections _ _ _ _ _ _ _ _ _ _ (search rules) listened.1 listened.2
          c.listen.ensures.lasting.2 c.in_ok-tally.ensures.ends c.in_ok-tally.ensures.links
          c.in_ok-tally.ensures.failed,
      c.in_err-write_tally.ensures.cut (search rules),
    )

pub returns-clause-done : goal.returns-clause-done
returns-clause-done g c =
    let t = c.in_ok-tally.tally in let listened = c.listen.ensures.same in (
      t.served,
      rest_in t,
      accepts t c.args.serving.now.connections _ _ _ _ _ _ _ _ _ _ (search rules) listened.1 listened.2
          c.listen.ensures.lasting.2 c.in_ok-tally.ensures.ends c.in_ok-tally.ensures.links
          c.in_ok-tally.ensures.failed,
      c.in_ok-write_tally.ensures.written,
    )

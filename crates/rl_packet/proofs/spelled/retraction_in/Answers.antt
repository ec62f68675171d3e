use Rattle.rl_packet.specs.Packets.{Retract}
use Rattle.rl_packet.proofs.Fronts.{event_begins, handle_field}
use Rattle.rl_packet.proofs.Missing.{no_retraction, handle_missing, handle_unended}
use Rattle.rl_packet.proofs.spelled.retraction_in.Goals as goal

pub returns-clause-event : goal.returns-clause-event
returns-clause-event c =
    λ d.
    event_begins d (Retract c.in-Some.handle) c.args.bytes.now c.in-Some-behind.rest.now
    (handle_field c.args.bytes.now c.in-Some.handle c.in-Some.end.now c.in-Some-behind.rest.now
    c.in-Some.ensures.found.1 c.in-Some-behind.ensures.found)

pub returns-in_default-clause-none : goal.returns-in_default-clause-none
returns-in_default-clause-none c =
    λ d. no_retraction d c.args.bytes.now (handle_missing c.args.bytes.now c.in_default.ensures.none)

pub returns-in_default-behind-clause-none : goal.returns-in_default-behind-clause-none
returns-in_default-behind-clause-none c =
    λ d.
    no_retraction d c.args.bytes.now
    (handle_unended c.args.bytes.now c.in-Some.handle c.in-Some.end.now c.in-Some.ensures.found.1
    c.in_default-behind.ensures.none)

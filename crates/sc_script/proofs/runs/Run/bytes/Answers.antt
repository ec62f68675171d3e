-- Bytes of a connection: its stream is taken out with them in it, and its packets are read from there on.
use Rattle.std.proofs.Common.{◌≡◌, false, sym, ap, ◌∙◌, subst}
use Rattle.hub_machine.specs.State.{is_there}
use Rattle.sc_script.specs.Keeping.{RunState, HasRun}
use Rattle.sc_script.proofs.Coming.{all_dropped, come_runs, come_stops}
use Rattle.sc_script.proofs.runs.Run.bytes.Goals as goal

pub returns-then-not-live-clause-run : goal.returns-then-not-live-clause-run
returns-then-not-live-clause-run g c = λ N d r at.
    let k = c.args.connection in
    let s : RunState = c.args.self in
    let gone : is_there k s.state ≡ false =
    ap (λ (x : RunState). is_there k x.state) (sym c.self.view_is) ∙ sym c.live.ensures.there ∙ c.if-not-live.true in
    subst (λ x. HasRun x s) (all_dropped N k c.args.bytes.now r s at gone) at

pub returns-clause-run : goal.returns-clause-run
returns-clause-run g c =
    come_runs c.args.connection c.args.bytes.now _ _ c.self.view_is (sym c.live.ensures.there ∙ c.if-not-live.false) _
    c.in_ok-stream.ensures.stream _ c.take.ensures.others c.read_packets.result c.read_packets.ensures.run

pub returns-clause-stop : goal.returns-clause-stop
returns-clause-stop g c =
    come_stops c.args.connection c.args.bytes.now _ _ c.self.view_is (sym c.live.ensures.there ∙ c.if-not-live.false) _
    c.in_ok-stream.ensures.stream _ c.take.ensures.others c.read_packets.result c.read_packets.ensures.stop

use Rattle.std.proofs.Common.{subst}
use Rattle.std.proofs.lemmas.Result.{IfOk-weaker}
use Rattle.pv_binary.specs.OneOfThree.{AreBytes}
use Rattle.rl_stream.specs.Streams.{StreamState}
use Rattle.rl_stream.proofs.Telling.{all_tell}
use Rattle.rl_stream.proofs.FoundPackets.{next_here}
use Rattle.rl_stream.proofs.streams.Stream.first.Goals as goal

pub returns-clause-next : goal.returns-clause-next
returns-clause-next c =
    next_here c.self.inside.feed c.args.self.now c.in_ok-found.found c.before-place.result c.as_packet.result
    c.self.view_is c.before-place.ensures c.in_ok-found.ensures.told c.as_packet.ensures

pub returns-clause-told : goal.returns-clause-told
returns-clause-told c =
    let st = c.args.self.now in
    let are = subst (λ (s : StreamState). AreBytes s.rest) c.self.view_is c.in_ok-found.ensures.bytes in
    let next =
    next_here c.self.inside.feed st c.in_ok-found.found c.before-place.result c.as_packet.result c.self.view_is
    c.before-place.ensures c.in_ok-found.ensures.told c.as_packet.ensures in
    IfOk-weaker c.as_packet.result _ _ (λ x is. all_tell c.one_next.ensures st.rest st.place x are is) next

use Rattle.std.proofs.Common.{subst}
use Rattle.std.proofs.lemmas.Result.{IfOk-weaker}
use Rattle.pv_binary.specs.OneOfThree.{AreBytes}
use Rattle.rl_stream.specs.Streams.{StreamState}
use Rattle.rl_stream.proofs.Telling.{all_tell_some}
use Rattle.rl_stream.proofs.FoundPackets.{turn_here}
use Rattle.rl_stream.proofs.streams.Stream.first_turn.Goals as goal

pub returns-clause-next : goal.returns-clause-next
returns-clause-next c =
    turn_here c.self.inside.feed c.args.self.now c.as_slice.result.now c.turn_next.result c.self.view_is
    c.as_slice.ensures.left c.turn_next.ensures

pub returns-clause-told : goal.returns-clause-told
returns-clause-told c =
    let st = c.args.self.now in
    let are = subst (λ (s : StreamState). AreBytes s.rest) c.self.view_is c.as_slice.ensures.bytes in
    let next =
    turn_here c.self.inside.feed st c.as_slice.result.now c.turn_next.result c.self.view_is c.as_slice.ensures.left
    c.turn_next.ensures in
    IfOk-weaker c.turn_next.result _ _ (λ o is. all_tell_some c.one_next.ensures st.rest st.place o are is) next

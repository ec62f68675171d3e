use Rattle.std.proofs.Common.{subst, IfOk}
use Rattle.std.specs.Prelude.{IfNone}
use Rattle.rl_packet.specs.Spelled.{NoTurn}
use Rattle.rl_packet.proofs.Spoken.{no_turn_in}
use Rattle.rl_packet.proofs.spelled.turn_in.Goals as goal

pub returns-in-None-clause-none : goal.returns-in-None-clause-none
returns-in-None-clause-none c =
    let bytes = c.args.bytes.now in
    let likely = c.likely_dialect-likely.result in
    let second = c.spoken_in-in-None.result in
    let not_first : NoTurn likely bytes =
    subst (λ o. IfNone o (NoTurn likely bytes)) c.in-None.is c.in_ok-found.ensures.none in
    no_turn_in bytes likely second not_first
    (subst (λ d. IfOk second (λ o. IfNone o (NoTurn d bytes))) c.other.ensures c.spoken_in-in-None.ensures.none)

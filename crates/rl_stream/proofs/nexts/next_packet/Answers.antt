use Rattle.std.proofs.Common.{Option, IfSome, subst}
use Rattle.rl_stream.specs.Nexts.{IsNext}
use Rattle.rl_stream.specs.declared.nexts.Next.{Next}
use Rattle.rl_stream.proofs.nexts.next_packet.Goals as goal

pub returns-in-Some : goal.returns-in-Some
returns-in-Some c =
    let rest = c.args.rest.now in
    let place = c.args.place in
    subst (λ (o : Option Next). IfSome o (IsNext rest place)) c.in-Some.is (c.in_ok-next.ensures place)

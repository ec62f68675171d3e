use Rattle.srv_session.specs.Lemmas.Replied.{replied}
use Rattle.srv_desk.proofs.gate_desk.GateDesk+Served+S+J+B.commit.Goals as goal

pub returns-in-Ok-clause-reply : goal.returns-in-Ok-clause-reply
returns-in-Ok-clause-reply g c =
    replied _ _ _ c.new.result c.args.step _ c.in-Ok.ensures.ok c.new.ensures

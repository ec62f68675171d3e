use Rattle.std.proofs.Common.{sym, ◌∙◌}
use Rattle.ps_check.proofs.Meanings.{one_meaning}
use Rattle.ps_check.proofs.checking.conforms.Goals as goal

pub judge_name-requires-clause-schema : goal.judge_name-requires-clause-schema
judge_name-requires-clause-schema c = c.definitions.ensures.schema

pub judge_name-requires-clause-right : goal.judge_name-requires-clause-right
judge_name-requires-clause-right c = c.new-found.ensures c.args.schema.now

pub returns-clause-meaning : goal.returns-clause-meaning
returns-clause-meaning c = λ named h.
    c.judge_name.ensures.same
    ∙ sym (one_meaning c.args.schema.now c.definitions.ensures.schema named h c.args.name.now c.args.value.now)

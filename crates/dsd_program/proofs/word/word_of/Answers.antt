-- The first word, where it has one of the names.
use Rattle.std.proofs.Common.{sym, ◌∙◌}
use Rattle.dsd_program.proofs.Picking.{begun}
use Rattle.dsd_program.proofs.word.word_of.Goals as goal

pub returns-in-query : goal.returns-in-query
returns-in-query c =
    begun c.args.words.now c.in-Some.first.now c.in-Some.ensures.value _ (sym c.as_str.ensures.value ∙ c.in-query.is)

pub returns-in-bindings : goal.returns-in-bindings
returns-in-bindings c =
    begun c.args.words.now c.in-Some.first.now c.in-Some.ensures.value _ (sym c.as_str.ensures.value ∙ c.in-bindings.is)

pub returns-in-text : goal.returns-in-text
returns-in-text c =
    begun c.args.words.now c.in-Some.first.now c.in-Some.ensures.value _ (sym c.as_str.ensures.value ∙ c.in-text.is)

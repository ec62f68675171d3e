use Rattle.std.proofs.Common.{◌+◌, ◌*◌}
use Rattle.ps_schema.specs.Patterns.{patterns}
use Rattle.ps_schema.specs.Lemmas.Measures.{measure, measure_all, measure_fields}
use Rattle.ps_schema.specs.View.{listed_fields}
use Rattle.ps_schema.proofs.asked.+ask.Given as goal

abbrev pub decreases-ask : goal.decreases-ask
decreases-ask l = 2 * measure l.pattern.now

abbrev pub decreases-ask_both : goal.decreases-ask_both
decreases-ask_both l = 2 * (measure l.first.now + measure l.second.now) + 1

abbrev pub decreases-ask_items : goal.decreases-ask_items
decreases-ask_items l = 2 * (measure_all (patterns l.items.now) + measure l.rest.now) + 1

abbrev pub decreases-ask_all : goal.decreases-ask_all
decreases-ask_all l = 2 * measure_all (patterns l.all.now)

abbrev pub decreases-ask_fields : goal.decreases-ask_fields
decreases-ask_fields l = 2 * measure_fields (listed_fields l.fields.now)

use Rattle.ps_schema.specs.Patterns.{patterns}
use Rattle.ps_schema.specs.Lemmas.Measures.{measure, measure_all}
use Rattle.ps_schema.proofs.ranks.+list_asked.Given as goal

abbrev pub decreases-list_asked : goal.decreases-list_asked
decreases-list_asked l = measure l.pattern.now

abbrev pub decreases-list_all_asked : goal.decreases-list_all_asked
decreases-list_all_asked l = measure_all (patterns l.all.now)

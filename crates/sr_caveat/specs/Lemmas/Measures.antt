-- What gets smaller from a pattern, a template or a caveat to each one inside it: measures of walks over them.
use Rattle.std.specs.Prelude.{ℕ, suc, ◌+◌}
use Rattle.sr_caveat.specs.Patterns.{Pattern, discard, of_kind, bind, all_of, none_of, literal, record_with}
use Rattle.sr_caveat.specs.Patterns.{sequence_with, dictionary_with, Patterns, no_patterns, then_pattern}
use Rattle.sr_caveat.specs.Patterns.{Template, attenuate, binding, constant, record_from, sequence_from, dictionary_of}
use Rattle.sr_caveat.specs.Patterns.{Templates, no_templates, then_template}
use Rattle.sr_caveat.specs.Patterns.{Caveat, rewrite, one_of, reject, guard, Caveats, no_caveats}
use Rattle.sr_caveat.specs.Patterns.{then_caveat, Rewrites, no_rewrites, then_rewrite}

abbrev mutual
  pub measure : Pattern → ℕ
  measure discard = 0
  measure (of_kind k) = 0
  measure (bind p) = suc (measure p)
  measure (all_of ps) = suc (measure_all ps)
  measure (none_of p) = suc (measure p)
  measure (literal u) = 0
  measure (record_with l ps) = suc (measure_all ps)
  measure (sequence_with ps) = suc (measure_all ps)
  measure (dictionary_with ks ps) = suc (measure_all ps)

  pub measure_all : Patterns → ℕ
  measure_all no_patterns = 0
  measure_all (then_pattern p ps) = suc (measure p + measure_all ps)

abbrev mutual
  pub measure_template : Template → ℕ
  measure_template (attenuate t cs) = suc (measure_template t + measure_caveats cs)
  measure_template (binding n) = 0
  measure_template (constant v) = 0
  measure_template (record_from l ts) = suc (measure_templates ts)
  measure_template (sequence_from ts) = suc (measure_templates ts)
  measure_template (dictionary_of ks ts) = suc (measure_templates ts)

  pub measure_templates : Templates → ℕ
  measure_templates no_templates = 0
  measure_templates (then_template t ts) = suc (measure_template t + measure_templates ts)

  pub measure_caveat : Caveat → ℕ
  measure_caveat (rewrite p t) = suc (suc (measure_template t))
  measure_caveat (one_of rs) = suc (measure_rewrites rs)
  measure_caveat (reject p) = 0
  measure_caveat (guard name) = 0

  pub measure_caveats : Caveats → ℕ
  measure_caveats no_caveats = 0
  measure_caveats (then_caveat c cs) = suc (measure_caveat c + measure_caveats cs)

  pub measure_rewrites : Rewrites → ℕ
  measure_rewrites no_rewrites = 0
  measure_rewrites (then_rewrite p t rs) = suc (suc (measure_template t) + measure_rewrites rs)

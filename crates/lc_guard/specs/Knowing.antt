-- Whether each guard in caveats is of a name that a schema defines, those in templates among them.
use Rattle.std.specs.Prelude.{Bool, true, ◌&&◌, List}
use Rattle.ps_schema.specs.Names.{knows}
use Rattle.ps_schema.specs.declared.Definition.{Definition}
use Rattle.sr_caveat.specs.Patterns.{Template, attenuate, binding, constant, record_from, sequence_from, dictionary_of}
use Rattle.sr_caveat.specs.Patterns.{Templates, no_templates, then_template}
use Rattle.sr_caveat.specs.Patterns.{Caveat, rewrite, one_of, reject, guard, Caveats, no_caveats, then_caveat}
use Rattle.sr_caveat.specs.Patterns.{Rewrites, no_rewrites, then_rewrite}

abbrev mutual
  pub known : List Definition → Caveat → Bool
  known ds (rewrite p t) = template_known ds t
  known ds (one_of rs) = rewrites_known ds rs
  known ds (reject p) = true
  known ds (guard name) = knows ds name

  pub all_known : List Definition → Caveats → Bool
  all_known ds no_caveats = true
  all_known ds (then_caveat c cs) = known ds c && all_known ds cs

  pub rewrites_known : List Definition → Rewrites → Bool
  rewrites_known ds no_rewrites = true
  rewrites_known ds (then_rewrite p t rs) = template_known ds t && rewrites_known ds rs

  pub template_known : List Definition → Template → Bool
  template_known ds (attenuate t cs) = template_known ds t && all_known ds cs
  template_known ds (binding n) = true
  template_known ds (constant v) = true
  template_known ds (record_from l ts) = templates_known ds ts
  template_known ds (sequence_from ts) = templates_known ds ts
  template_known ds (dictionary_of ks ts) = templates_known ds ts

  pub templates_known : List Definition → Templates → Bool
  templates_known ds no_templates = true
  templates_known ds (then_template t ts) = template_known ds t && templates_known ds ts

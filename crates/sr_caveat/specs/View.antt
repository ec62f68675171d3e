-- One level of a pattern, of a template and of a caveat, with each one inside already seen as its data.
use Rattle.std.specs.Prelude.{List, [], ◌∷◌, map}
use Rattle.pv_value.specs.Plain.{Plain, Plains, plains}
use Rattle.sr_caveat.specs.Patterns.{Pattern, discard, of_kind, bind, all_of, none_of, literal, record_with}
use Rattle.sr_caveat.specs.Patterns.{sequence_with, dictionary_with, Patterns, no_patterns, then_pattern}
use Rattle.sr_caveat.specs.Patterns.{Template, attenuate, binding, constant, record_from, sequence_from, dictionary_of}
use Rattle.sr_caveat.specs.Patterns.{Templates, no_templates, then_template}
use Rattle.sr_caveat.specs.Patterns.{Caveat, rewrite, one_of, reject, guard, caveats}
use Rattle.sr_caveat.specs.Patterns.{Rewrites, no_rewrites, then_rewrite}
use Rattle.sr_caveat.specs.declared.PatternForm.{PatternForm}
use Rattle.sr_caveat.specs.declared.PatternForm.TheVariants.{Discard, OfKind, Bind, And, Not, Lit, Rec, Arr, Dict}
use Rattle.sr_caveat.specs.declared.TemplateForm.{TemplateForm}
use Rattle.sr_caveat.specs.declared.TemplateForm.TheVariants as T
use Rattle.sr_caveat.specs.declared.TemplateForm.TheVariants.{Attenuate, Ref}
use Rattle.sr_caveat.specs.declared.Rewrite.{Rewrite}
use Rattle.sr_caveat.specs.declared.Rule.{Rule}
use Rattle.sr_caveat.specs.declared.Rule.TheVariants as R

abbrev pub listed_patterns : List Pattern → Patterns
listed_patterns [] = no_patterns
listed_patterns (p ∷ ps) = then_pattern p (listed_patterns ps)

-- the keys of a dictionary
abbrev pub keys_of : List (Plain × Plain) → Plains
keys_of ps = plains (map (λ (p : Plain × Plain). p.0) ps)

abbrev pub view_pattern : PatternForm → Pattern
view_pattern Discard = discard
view_pattern (OfKind k) = of_kind k
view_pattern (Bind p) = bind p.value
view_pattern (And ps) = all_of (listed_patterns ps.items)
view_pattern (Not p) = none_of p.value
view_pattern (Lit v) = literal v
view_pattern (Rec label ps) = record_with label (listed_patterns ps.items)
view_pattern (Arr ps) = sequence_with (listed_patterns ps.items)
view_pattern (Dict ks ps) = dictionary_with (keys_of ks) (listed_patterns ps.items)

abbrev pub listed_templates : List Template → Templates
listed_templates [] = no_templates
listed_templates (t ∷ ts) = then_template t (listed_templates ts)

abbrev pub view_template : TemplateForm → Template
view_template (Attenuate t cs) = attenuate t.value (caveats cs.items)
view_template (Ref n) = binding n
view_template (T.Lit v) = constant v
view_template (T.Rec label ts) = record_from label (listed_templates ts.items)
view_template (T.Arr ts) = sequence_from (listed_templates ts.items)
view_template (T.Dict ks ts) = dictionary_of (keys_of ks) (listed_templates ts.items)

abbrev pub listed_rewrites : List Rewrite → Rewrites
listed_rewrites [] = no_rewrites
listed_rewrites (r ∷ rs) = then_rewrite r.pattern r.template (listed_rewrites rs)

abbrev pub view_rule : Rule → Caveat
view_rule (R.Rewrite r) = rewrite r.pattern r.template
view_rule (R.Or rs) = one_of (listed_rewrites rs.items)
view_rule (R.Reject p) = reject p
view_rule (R.Guard name) = guard name

-- Each pattern, template and caveat inside another is smaller, and so is each one of a list.
use Rattle.std.specs.Prelude.{◌≡◌, ℕ, zero, suc, ◌+◌, ◌≤◌, ◌<◌, max, List, [], ◌∷◌, length}
use Rattle.std.proofs.Common.{arith, ap, get_or}
use denote.Param.Weighed.{most}
use Rattle.sr_caveat.specs.Patterns.{Pattern, Template, Caveat, caveats}
use Rattle.sr_caveat.specs.Lemmas.Measures.{measure, measure_all}
use Rattle.sr_caveat.specs.Lemmas.Measures.{measure_template, measure_templates}
use Rattle.sr_caveat.specs.Lemmas.Measures.{measure_caveat, measure_caveats, measure_rewrites}
use Rattle.sr_caveat.specs.View.{view_pattern, listed_patterns}
use Rattle.sr_caveat.specs.View.{view_template, listed_templates, view_rule, listed_rewrites}
use Rattle.sr_caveat.specs.declared.PatternForm.{PatternForm}
use Rattle.sr_caveat.specs.declared.PatternForm.TheVariants.{Discard, OfKind, Bind, And, Not, Lit, Rec, Arr, Dict}
use Rattle.sr_caveat.specs.declared.TemplateForm.{TemplateForm}
use Rattle.sr_caveat.specs.declared.TemplateForm.TheVariants as T
use Rattle.sr_caveat.specs.declared.Rewrite.{Rewrite}
use Rattle.sr_caveat.specs.declared.Rule.{Rule}
use Rattle.sr_caveat.specs.declared.Rule.TheVariants as R
use Rattle.sr_caveat.specs.declared.CPat.TheDeep.{deep-PatternForm}
use Rattle.sr_caveat.specs.declared.Caveat.TheDeep.{deep-TemplateForm, deep-Rule, deep-Rewrite}

-- ---- patterns

pub most_patterns : (ps : List Pattern) → most (λ p. measure p + 1) ps ≤ measure_all (listed_patterns ps)
most_patterns [] = omega arith
most_patterns (p ∷ ps) = omega (arith, most_patterns ps)

pub pattern_falls : (n : PatternForm) → max (deep-PatternForm n) 0 ≤ measure (view_pattern n)
pattern_falls Discard = omega arith
pattern_falls (OfKind k) = omega arith
pattern_falls (Bind p) = omega arith
pattern_falls (And ps) = omega (arith, most_patterns ps.items)
pattern_falls (Not p) = omega arith
pattern_falls (Lit v) = omega arith
pattern_falls (Rec l ps) = omega (arith, most_patterns ps.items)
pattern_falls (Arr ps) = omega (arith, most_patterns ps.items)
pattern_falls (Dict ks ps) = omega (arith, most_patterns ps.items)

-- ---- templates and caveats

pub most_templates : (ts : List Template) → most (λ t. measure_template t + 1) ts ≤ measure_templates
    (listed_templates ts)
most_templates [] = omega arith
most_templates (t ∷ ts) = omega (arith, most_templates ts)

pub most_caveats : (cs : List Caveat) → most (λ c. measure_caveat c + 1) cs ≤ measure_caveats (caveats cs)
most_caveats [] = omega arith
most_caveats (c ∷ cs) = omega (arith, most_caveats cs)

pub template_falls : (n : TemplateForm) → max (deep-TemplateForm n) 0 ≤ measure_template (view_template n)
template_falls (T.Attenuate t cs) = omega (arith, most_caveats cs.items)
template_falls (T.Ref n) = omega arith
template_falls (T.Lit v) = omega arith
template_falls (T.Rec l ts) = omega (arith, most_templates ts.items)
template_falls (T.Arr ts) = omega (arith, most_templates ts.items)
template_falls (T.Dict ks ts) = omega (arith, most_templates ts.items)

pub most_rewrites : (rs : List Rewrite) → most deep-Rewrite rs ≤ measure_rewrites (listed_rewrites rs)
most_rewrites [] = omega arith
most_rewrites (r ∷ rs) = omega (arith, most_rewrites rs)

pub rule_falls : (n : Rule) → max (deep-Rule n) 0 ≤ measure_caveat (view_rule n)
rule_falls (R.Rewrite r) = omega arith
rule_falls (R.Or rs) = omega (arith, most_rewrites rs.items)
rule_falls (R.Reject p) = omega arith
rule_falls (R.Guard name) = omega arith

-- ---- what stands in a list

pub pattern_at : (ps : List Pattern) (i : ℕ) (p : Pattern) → i < length ps → p ≡ get_or ps i p
    → measure p < measure_all (listed_patterns ps)
pattern_at [] i p h e = absurd (omega arith)
pattern_at (q ∷ qs) zero p h e = omega (arith, ap measure e)
pattern_at (q ∷ qs) (suc i) p h e = omega (arith, pattern_at qs i p (omega arith) e)

pub template_at : (ts : List Template) (i : ℕ) (t : Template) → i < length ts → t ≡ get_or ts i t
    → measure_template t < measure_templates (listed_templates ts)
template_at [] i t h e = absurd (omega arith)
template_at (u ∷ us) zero t h e = omega (arith, ap measure_template e)
template_at (u ∷ us) (suc i) t h e = omega (arith, template_at us i t (omega arith) e)

pub caveat_at : (cs : List Caveat) (i : ℕ) (c : Caveat) → i < length cs → c ≡ get_or cs i c
    → measure_caveat c < measure_caveats (caveats cs)
caveat_at [] i c h e = absurd (omega arith)
caveat_at (d ∷ ds) zero c h e = omega (arith, ap measure_caveat e)
caveat_at (d ∷ ds) (suc i) c h e = omega (arith, caveat_at ds i c (omega arith) e)

pub rewrite_at : (rs : List Rewrite) (i : ℕ) (r : Rewrite) → i < length rs → r ≡ get_or rs i r
    → measure_template r.template + 1 < measure_rewrites (listed_rewrites rs)
rewrite_at [] i r h e = absurd (omega arith)
rewrite_at (s ∷ ss) zero r h e = omega (arith, ap (λ (z : Rewrite). measure_template z.template) e)
rewrite_at (s ∷ ss) (suc i) r h e = omega (arith, rewrite_at ss i r (omega arith) e)

-- How the logic stores definitions.
use Rattle.std.specs.Prelude.{ℕ, List, refl}
use Rattle.std.specs.Coded.{Coded, code_by, coded×}
use Rattle.ps_schema.specs.Patterns.{PlainPattern}
use Rattle.ps_schema.specs.Lemmas.Coded.{pattern_code, text_code}
use Rattle.ps_schema.specs.declared.Definition.{Definition}

abbrev pub definition_code : Coded Definition
definition_code =
    code_by (List ℕ × PlainPattern) (coded× text_code pattern_code) (λ d. (d.name, d.pattern))
    (λ p. record { name = p.0; pattern = p.1 }) (λ _. refl)

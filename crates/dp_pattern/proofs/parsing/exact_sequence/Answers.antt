use Rattle.std.proofs.Common.{◌≡◌, length, sym, ap, ◌∙◌}
use Rattle.dp_pattern.specs.Patterns.{Exactly, InSequence, group}
use Rattle.dp_pattern.specs.View.{listed_fields}
use Rattle.dp_pattern.proofs.Shapes.{counted}
use Rattle.dp_pattern.proofs.parsing.exact_sequence.Goals as goal

pub returns : goal.returns
returns c =
    let count = ap length c.as_slice.ensures.value ∙ sym (counted c.args.fields.items) in
    c.form.ensures ∙ ap (λ n. group (InSequence (Exactly n)) (listed_fields c.args.fields.items)) count

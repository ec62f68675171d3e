use Rattle.dp_pattern.proofs.Shapes.{group_long}
use Rattle.dp_pattern.proofs.parsing.group_of.Goals as goal

pub returns-in_default-fields : goal.returns-in_default-fields
returns-in_default-fields c =
    rw (c.in-Some.ensures, group_long c.in-Some.word.now c.in-Some.fields.now c.in_default-fields.len_at_least)

-- Of what a first value gives there is one verdict, and some where its text has one.
use Rattle.std.proofs.Common.{[], Some, None, refl, sym, ap, ◌∙◌}
use Rattle.ps_read.specs.Laws.{OneSchema, NoFaultBeside}
use Rattle.sc_schema.specs.Firsts.{OneVerdict, SomeVerdict}

pub one_verdict : OneSchema → NoFaultBeside → OneVerdict
one_verdict one none None o q is so = is ∙ sym so
one_verdict one none (Some text) (Some ds) (Some es) is so = ap Some (one text ds es is so)
one_verdict one none (Some text) (Some ds) None is so = absurd (none text ds so.0 so.1 is so.2)
one_verdict one none (Some text) None (Some ds) is so = absurd (none text ds is.0 is.1 so is.2)
one_verdict one none (Some text) None None is so = refl

pub some_verdict : SomeVerdict
some_verdict None has = (Some [], refl)
some_verdict (Some text) has = has

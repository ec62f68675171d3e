use Rattle.std.proofs.Common.{ap, sym, ◌∙◌, arith, length}
use Rattle.pv_value.specs.View.{view_node}
use Rattle.ps_read.specs.Written.{is_bare}
use Rattle.ps_read.proofs.Bare.{bare_not}
use Rattle.ps_read.proofs.parsing.is_bare.Goals as goal

pub returns-in_default-as_slice : goal.returns-in_default-as_slice
returns-in_default-as_slice c =
    bare_not c.args.word.now c.in-Rec.rec.value.label c.in-Rec.rec.value.fields.items
    (omega (
      arith,
      c.in_default-as_slice.len_at_least,
      ap length c.as_slice.ensures.value,
      ap (λ r. length r.fields.items) c.deref.ensures,
    ))
    ∙ ap (is_bare c.args.word.now) (sym (ap view_node c.in-Rec.is) ∙ c.value.view_is)

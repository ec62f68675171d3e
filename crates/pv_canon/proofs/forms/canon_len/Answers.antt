use Rattle.std.proofs.Common.{◌∙◌, min, sym, ap, subst}
use Rattle.pv_value.specs.WellFormed.{IsWellFormed}
use Rattle.pv_canon.proofs.Lengths.{canonical_sized}
use Rattle.pv_canon.proofs.forms.canon_len.Goals as goal

pub returns : goal.returns
returns c =
    let whole : IsWellFormed c.args.v.now = subst IsWellFormed c.v.view_is c.v.invariant in
    c.canonical_size.ensures ∙ ap (λ n. min n 18446744073709551615) (sym (canonical_sized c.args.v.now whole))

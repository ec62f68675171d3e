use Rattle.std.proofs.Common.{◌≡◌, sym, subst}
use Rattle.pv_value.specs.WellFormed.{IsWellFormed}
use Rattle.pv_binary.specs.Spells.{Spells}
use Rattle.pv_binary.specs.Written.{written}
use Rattle.pv_binary.proofs.Written.{spelled}
use Rattle.pv_binary.proofs.writing.write.Goals as goal

pub returns-clause-spells : goal.returns-clause-spells
returns-clause-spells c =
    let whole : IsWellFormed c.args.v.now = subst IsWellFormed c.v.view_is c.v.invariant in
    let same : c.in_ok-spelling.spelling ≡ written c.args.v.now =
    cc (c.in_ok-write_into.ensures.written, c.in_ok-spelling.ensures) in
    subst (λ b. Spells b c.args.v.now) (sym same) (spelled c.args.v.now whole)

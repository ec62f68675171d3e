use Rattle.std.proofs.Common.{sym, subst, IfSome, IfNone}
use Rattle.kp_bound.specs.Spelled.{IsRecordOf, HasParts}
use Rattle.kp_bound.proofs.Reading.{parts_some, parts_none}
use Rattle.kp_bound.proofs.spelled.parts_within.Goals as goal

pub returns-clause-some : goal.returns-clause-some
returns-clause-some c =
    let r = c.args.one.now in
    let oid = rw c.as_slice.ensures.same at c.in_ok-oid.ensures.some in
    let caveats = rw c.as_slice-2.ensures.same at c.in_ok-caveats.ensures.some in
    subst (λ o. IfSome o (IsRecordOf r)) (sym c.parts_with.ensures)
    (parts_some r c.in_ok-oid.oid c.in_ok-caveats.caveats c.requires oid caveats)

pub returns-clause-none : goal.returns-clause-none
returns-clause-none c =
    let r = c.args.one.now in
    let oid = rw c.as_slice.ensures.same at c.in_ok-oid.ensures.none in
    let caveats = rw c.as_slice-2.ensures.same at c.in_ok-caveats.ensures.none in
    subst (λ o. IfNone o (HasParts r → ⊥)) (sym c.parts_with.ensures)
    (parts_none r c.in_ok-oid.oid c.in_ok-caveats.caveats oid caveats)

-- The numbers that are told were given; where memory runs out in the beginning, nothing has come.
use Rattle.std.proofs.Common.{Result, Ok, Err, OnErr, ◌∙◌, ap}
use Rattle.std.specs.Ordering.{nat_cmp}
use Rattle.pv_value.specs.Sets.{ascending_by}
use Rattle.rl_wire.specs.Changes.{others_in}
use Rattle.rl_wire.proofs.Exports.{not_grown, told_given}
use Rattle.rl_wire.proofs.outward.exported_and_crossed.Goals as goal

after_err : {T E : Type 0} (P : Type 0) (r : Result T E) → P → OnErr r P
after_err P (Ok x) holds = tt
after_err P (Err e) holds = holds

pub returns-in_err-held-clause-kept : goal.returns-in_err-held-clause-kept
returns-in_err-held-clause-kept c =
    after_err _ c.from_residual.result (not_grown c.args.ports.now c.next_oid.ensures.numbered)

pub returns-clause-given : goal.returns-clause-given
returns-clause-given c =
    told_given c.args.ports.now c.export_foreign.new.ports (others_in c.args.actor c.deref.result.now)
    c.in_ok-oids.oids c.next_oid-2.ensures.numbered c.in_ok-numbers.ensures.exports
    (c.in_ok-oids.ensures
    ∙ ap (ascending_by nat_cmp) (c.deref-2.ensures.value ∙ c.in_ok-numbers.ensures.numbers))

use Rattle.pv_value.specs.Plain.{plains, sequence}
use Rattle.kp_bound.proofs.Reading.{items_some, items_none}
use Rattle.kp_bound.proofs.forms.bare_items_of.Goals as goal

pub returns-in-Some-clause-some : goal.returns-in-Some-clause-some
returns-in-Some-clause-some c =
    items_some c.args.bytes.now c.in-Some.value c.items_of.result (rw c.in-Some.is at c.in_ok-found.ensures.some)
    c.items_of.ensures

pub returns-in-Some-clause-none : goal.returns-in-Some-clause-none
returns-in-Some-clause-none c =
    items_none c.args.bytes.now c.in-Some.value c.items_of.result (rw c.in-Some.is at c.in_ok-found.ensures.only)
    c.items_of.ensures

pub returns-in-None-clause-none : goal.returns-in-None-clause-none
returns-in-None-clause-none c =
    let none = rw c.in-None.is at c.in_ok-found.ensures.none in
    λ xs f. none (sequence (plains xs)) f

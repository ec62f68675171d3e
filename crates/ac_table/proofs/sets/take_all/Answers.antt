use Rattle.std.proofs.Common.{not, ◌&&◌, ◌∙◌, sym, ap}
use Rattle.std.specs.Map.Iter.{deref}
use Rattle.std.proofs.lemmas.Map.Iter.{iter_end}
use Rattle.ac_table.specs.Maps.{is_key}
use Rattle.ac_table.proofs.Members.{less_step, and_true}
use Rattle.ac_table.proofs.sets.take_all.Goals as goal

pub loop-number-init : goal.loop-number-init
loop-number-init c n = sym (and_true _)

pub loop-number-preserved : goal.loop-number-preserved
loop-number-preserved c n =
    less_step n _ _ _ c.loop-number.yielded c.in-Some.number (c.remove.ensures.updates.0 n)
    (c.loop-number.invariant n)

pub returns : goal.returns
returns c n =
    let end =
    iter_end deref c.args.numbers.now.keys c.loop-number.yielded _ _ _ _
    (c.into_iter-number-iterator.ensures.into_iter_gives ∙ c.iter-number-items.ensures.rest)
    c.loop-number.yielded_by c.in-None.is c.next.ensures.steps in
    c.loop-number.invariant n ∙ ap (λ ks. is_key n c.args.free.now.keys && not (is_key n ks)) end.0

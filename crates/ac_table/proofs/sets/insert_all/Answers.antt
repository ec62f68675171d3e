use Rattle.std.proofs.Common.{◌||◌, ◌∙◌, sym, ap}
use Rattle.std.specs.Map.Iter.{deref}
use Rattle.std.proofs.lemmas.Map.Iter.{iter_end}
use Rattle.ac_table.specs.Maps.{is_key}
use Rattle.ac_table.proofs.Members.{more_step, or_false}
use Rattle.ac_table.proofs.sets.insert_all.Goals as goal

pub loop-number-init : goal.loop-number-init
loop-number-init c = record { all = λ h. sym (or_false _); ordered = c.keeps_its_order.ensures.ordered }

pub loop-number-preserved : goal.loop-number-preserved
loop-number-preserved c = record {
  all = λ h. more_step h _ _ _ c.loop-number.yielded c.in-Some.number (c.in_ok-insert.ensures.updates.0 h)
      (c.loop-number.invariant.all h);
  ordered = c.insert.ensures.ordered;
}

pub returns-clause-all : goal.returns-clause-all
returns-clause-all c h =
    let end =
    iter_end deref c.args.more.now.keys c.loop-number.yielded _ _ _ _
    (c.into_iter-number-iterator.ensures.into_iter_gives ∙ c.iter-number-items.ensures.rest)
    c.loop-number.yielded_by c.in-None.is c.next.ensures.steps in
    c.loop-number.invariant.all h ∙ ap (λ ks. is_key h c.args.numbers.now.keys || is_key h ks) end.0

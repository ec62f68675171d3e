use Rattle.std.proofs.Common.{not, ◌&&◌, ◌∙◌, sym, ap}
use Rattle.std.specs.Map.Iter.{deref}
use Rattle.std.proofs.lemmas.Map.Iter.{iter_end}
use Rattle.ac_table.specs.Maps.{is_key}
use Rattle.ac_table.proofs.Members.{less_step, and_true}
use Rattle.ac_table.proofs.keeping.disown.Goals as goal

pub loop-handle-init : goal.loop-handle-init
loop-handle-init c = record { own = λ h. sym (and_true _); ordered = c.keeps_its_order.ensures.ordered }

pub loop-handle-preserved : goal.loop-handle-preserved
loop-handle-preserved c = record {
  own = λ h. less_step h _ _ _ c.loop-handle.yielded c.in-Some.handle (c.remove.ensures.updates.0 h)
      (c.loop-handle.invariant.own h);
  ordered = c.remove.ensures.ordered;
}

pub returns-clause-own : goal.returns-clause-own
returns-clause-own c h =
    let end =
    iter_end deref c.args.handles.now.keys c.loop-handle.yielded _ _ _ _
    (c.into_iter-handle-iterator.ensures.into_iter_gives ∙ c.iter-handle-items.ensures.rest)
    c.loop-handle.yielded_by c.in-None.is c.next.ensures.steps in
    c.loop-handle.invariant.own h ∙ ap (λ ks. is_key h c.args.own.now.keys && not (is_key h ks)) end.0

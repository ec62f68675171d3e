use Rattle.std.proofs.Common.{not, ◌∙◌, sym, ap, filter}
use Rattle.std.specs.Map.Iter.{deref}
use Rattle.std.proofs.lemmas.Map.Iter.{iter_end}
use Rattle.ac_table.specs.Maps.{is_key}
use Rattle.ac_table.proofs.Members.{gone_step, filter-all}
use Rattle.ac_table.proofs.sets.remove_all.Goals as goal

pub loop-number-init : goal.loop-number-init
loop-number-init g c = record { gone = sym (filter-all c.args.all.now.entries); ordered = c.requires }

pub loop-number-preserved : goal.loop-number-preserved
loop-number-preserved g c = record {
  gone = gone_step c.loop-number.yielded c.in-Some.number c.args.all.now.entries c.loop-number.all.entries
      c.remove.new.self.entries c.loop-number.invariant.ordered c.loop-number.invariant.gone c.remove.ensures.entries;
  ordered = c.remove.ensures.ordered;
}

pub loop-number-preserved-in-Some : goal.loop-number-preserved-in-Some
loop-number-preserved-in-Some g c = record {
  gone = gone_step c.loop-number.yielded c.in-Some.number c.args.all.now.entries c.loop-number.all.entries
      c.remove.new.self.entries c.loop-number.invariant.ordered c.loop-number.invariant.gone c.remove.ensures.entries;
  ordered = c.remove.ensures.ordered;
}

pub returns-clause-gone : goal.returns-clause-gone
returns-clause-gone g c =
    let end =
    iter_end deref c.args.numbers.now.keys c.loop-number.yielded _ _ _ _
    (c.into_iter-number-iterator.ensures.into_iter_gives ∙ c.iter-number-items.ensures.rest)
    c.loop-number.yielded_by c.in-None.is c.next.ensures.steps in
    c.loop-number.invariant.gone
    ∙ ap (λ ks. filter (λ e. not (is_key e.0 ks)) c.args.all.now.entries) end.0

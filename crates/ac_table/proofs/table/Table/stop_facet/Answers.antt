use Rattle.std.proofs.Common.{◌∙◌, sym, subst}
use Rattle.std.specs.List.Sorted.{IsStrictlySortedBy}
use Rattle.std.specs.Ordering.{nat_cmp}
use Rattle.ac_table.proofs.table.Table.stop_facet.Goals as goal

pub stopping-requires : goal.stopping-requires
stopping-requires c = sym c.has_facet.ensures ∙ c.if-not-has_facet.false

pub stop-requires : goal.stop-requires
stop-requires c = record {
  there = sym c.has_facet.ensures ∙ c.if-not-has_facet.false;
  stopping = c.in_ok-stopping.ensures.stopping;
  empty = c.in_ok-stopping.ensures.empty;
  room = c.in_ok-stopping.ensures.room;
}

pub returns-clause-ascending : goal.returns-clause-ascending
returns-clause-ascending c =
    subst (IsStrictlySortedBy nat_cmp) (sym c.in_ok-handles.ensures.told) c.in_ok-stopping.ensures.ascending

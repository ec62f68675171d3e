use Rattle.std.proofs.Common.{◌≡◌, ◌∙◌, sym, ap, subst, true}
use Rattle.std.specs.List.Sorted.{IsStrictlySortedBy}
use Rattle.std.specs.Map.{values_of}
use Rattle.std.specs.Ordering.{nat_cmp}
use Rattle.ac_table.specs.Facets.{is_facet, AreBelow}
use Rattle.ac_table.specs.Kept.{AreStopping}
use Rattle.ac_table.specs.Tables.{has_facet}
use Rattle.ac_table.proofs.Becomes.{tree_is}
use Rattle.ac_table.proofs.Removing.{ascend_from}
use Rattle.ac_table.proofs.Stopping.{gathered}
use Rattle.ac_table.proofs.table.Table.stopping.Goals as goal

pub all_below-requires : goal.all_below-requires
all_below-requires c = let i = c.self.inside in
    subst (λ t. is_facet c.args.facet t ≡ true)
    (tree_is c.args.actor i.next c.in-Some.it.now i.rows.entries i.actors.entries (sym c.in-Some.ensures.value))
    (ap (has_facet c.args.actor c.args.facet) c.self.view_is ∙ c.requires)

pub returns-clause-stopping : goal.returns-clause-stopping
returns-clause-stopping c = let i = c.self.inside in
    let s = c.in-Some.it.now in
    let was = sym c.in-Some.ensures.value in
    let k = c.self.invariant.kept in
    subst (AreStopping c.args.actor c.args.facet c.in_ok-facets.facets.keys c.in_ok-handles.handles.keys
    c.in_ok-told.told.items) c.self.view_is (record {
      below = subst (λ t. AreBelow c.args.facet t c.in_ok-facets.facets.keys)
          (sym (tree_is c.args.actor i.next s i.rows.entries i.actors.entries was)) c.in_ok-facets.ensures;
      rows = gathered c.args.actor c.in_ok-facets.facets.keys c.in_ok-handles.handles.keys s i.actors.entries
          (values_of i.rows.entries) c.self.invariant.standing was
          (ascend_from i.rows.entries k.keyed k.rows_ascend) c.in_ok-handles.ensures.ascending
          c.in_ok-handles.ensures.rows;
      same = c.in_ok-told.ensures;
    })

pub returns-clause-ascending : goal.returns-clause-ascending
returns-clause-ascending c =
    subst (IsStrictlySortedBy nat_cmp) (sym c.in_ok-told.ensures) c.in_ok-handles.ensures.ascending

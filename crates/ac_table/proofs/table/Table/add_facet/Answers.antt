use Rattle.std.proofs.Common.{◌≡◌, ◌∙◌, sym, ap, refl, subst, true, false}
use Rattle.ac_table.specs.Facets.{is_facet, IsLeastFree, least_free}
use Rattle.ac_table.specs.Placed.{tree_in, bare}
use Rattle.ac_table.specs.Tables.{is_live, has_facet, tree_of}
use Rattle.ac_table.proofs.Becomes.{faceted_is, tree_is}
use Rattle.ac_table.proofs.Finding.{ended_from}
use Rattle.ac_table.proofs.Freeing.{insert-tree}
use Rattle.ac_table.proofs.Renewing.{with_rows, whole_refaceted}
use Rattle.ac_table.proofs.Standing.{same_rows_from, rows_added}
use Rattle.ac_table.proofs.table.Table.add_facet.Goals as goal

pub returns-in_default-clause-fault : goal.returns-in_default-clause-fault
returns-in_default-clause-fault c = let i = c.self.inside in
    let gone = ended_from c.args.actor i.next i.rows.entries i.actors.entries (sym c.in_default.ensures.value) in
    let clash : false ≡ true = sym gone ∙ ap (is_live c.args.actor) c.self.view_is ∙ sym c.live.ensures
    ∙ c.if-not-live.false in
    absurd cc

pub add-requires : goal.add-requires
add-requires c = let i = c.self.inside in
    let there : has_facet c.args.actor c.args.parent c.args.self.now ≡ true =
    sym c.has_facet.ensures ∙ c.if-not-has_facet.false in
    subst (λ t. is_facet c.args.parent t ≡ true)
    (tree_is c.args.actor i.next c.in-Some.it.now i.rows.entries i.actors.entries (sym c.in-Some.ensures.value))
    (ap (has_facet c.args.actor c.args.parent) c.self.view_is ∙ there)

pub invariant_of-self-in_err-number : goal.invariant_of-self-in_err-number
invariant_of-self-in_err-number c = let i = c.self.inside in
    let s = c.in-Some.it.now in
    let t = with_rows s s.own s.row_weight c.add.new.self in
    whole_refaceted c.args.actor i.next s s.own c.add.new.self i.rows.entries i.actors (c.get_mut.follows.lender t)
    i.busy.keys i.waiting c.self.invariant (sym c.in-Some.ensures.value) (c.get_mut.follows.holds t) refl
    (same_rows_from s.facets c.add.new.self c.in_err-number.ensures.same)

pub invariant_of-self-2 : goal.invariant_of-self-2
invariant_of-self-2 c = let i = c.self.inside in
    let s = c.in-Some.it.now in
    let t = with_rows s s.own s.row_weight c.add.new.self in
    whole_refaceted c.args.actor i.next s s.own c.add.new.self i.rows.entries i.actors (c.get_mut.follows.lender t)
    i.busy.keys i.waiting c.self.invariant (sym c.in-Some.ensures.value) (c.get_mut.follows.holds t) refl
    (rows_added c.in_ok-number.number c.args.parent s.facets c.add.new.self c.in_ok-number.ensures.made
    c.in_ok-number.ensures.least.free)

pub returns-clause-made : goal.returns-clause-made
returns-clause-made c = let i = c.self.inside in
    let s = c.in-Some.it.now in
    let t = with_rows s s.own s.row_weight c.add.new.self in
    let new = c.get_mut.follows.lender t in
    let w = c.get_mut.follows.holds t in
    faceted_is c.args.actor c.args.parent c.in_ok-number.number i.next s t i.rows.entries i.actors.entries new.entries _
    c.self.view_is (sym c.in-Some.ensures.value) refl
    (ap tree_in c.in_ok-number.ensures.made ∙ insert-tree c.in_ok-number.number (bare c.args.parent) s.facets) w.0

pub returns-clause-least : goal.returns-clause-least
returns-clause-least c = let i = c.self.inside in
    subst (IsLeastFree c.in_ok-number.number)
    (sym (tree_is c.args.actor i.next c.in-Some.it.now i.rows.entries i.actors.entries
    (sym c.in-Some.ensures.value)) ∙ ap (tree_of c.args.actor) c.self.view_is) c.in_ok-number.ensures.least

pub returns-clause-number : goal.returns-clause-number
returns-clause-number c = let i = c.self.inside in
    c.in_ok-number.ensures.number
    ∙ ap least_free (sym (tree_is c.args.actor i.next c.in-Some.it.now i.rows.entries i.actors.entries
    (sym c.in-Some.ensures.value)) ∙ ap (tree_of c.args.actor) c.self.view_is)

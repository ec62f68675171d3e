use Rattle.std.proofs.Common.{◌≡◌, ◌+◌, ◌∙◌, sym, ap, refl, subst, ℕ, true, not, ◌&&◌, arith}
use Rattle.std.specs.Map.{values_of}
use Rattle.ac_table.specs.Facets.{is_facet, AreBelow}
use Rattle.ac_table.specs.Kept.{AreStopping, is_key, sum_of_rows}
use Rattle.ac_table.specs.Tables.{has_facet, handles, stands_in}
use Rattle.ac_table.proofs.Becomes.{tree_is, stopped_is}
use Rattle.ac_table.proofs.Counting.{counted_same}
use Rattle.ac_table.proofs.Freeing.{tree_of_less}
use Rattle.ac_table.proofs.Keeps.{renewed_from}
use Rattle.ac_table.proofs.Removing.{ascend_from}
use Rattle.ac_table.proofs.Renewing.{with_rows, whole_refaceted}
use Rattle.ac_table.proofs.Standing.{same_rows_from}
use Rattle.ac_table.proofs.Stopping.{IsStopping, kept_stopped, standing_stopped, weight_split}
use Rattle.ac_table.proofs.table.Table.stop.Goals as goal

pub remove-requires : goal.remove-requires
remove-requires c = let i = c.self.inside in
    let tree = tree_is c.args.actor i.next c.in-Some.it.now i.rows.entries i.actors.entries
    (sym c.in-Some.ensures.value) in
    let d = subst (AreStopping c.args.actor c.args.facet c.args.stopping.facets.keys c.args.stopping.handles.keys
    c.args.stopping.told.items) (sym c.self.view_is) c.requires.stopping in
    record {
      there = subst (λ t. is_facet c.args.facet t ≡ true) tree
          (ap (has_facet c.args.actor c.args.facet) c.self.view_is ∙ c.requires.there);
      below = subst (λ t. AreBelow c.args.facet t c.args.stopping.facets.keys) tree d.below;
    }

pub invariant_of-self-in_err-remove : goal.invariant_of-self-in_err-remove
invariant_of-self-in_err-remove c = let i = c.self.inside in
    let s = c.in-Some.it.now in
    let t = with_rows s s.own s.row_weight c.remove.new.self in
    whole_refaceted c.args.actor i.next s s.own c.remove.new.self i.rows.entries i.actors (c.get_mut.follows.lender t)
    i.busy.keys i.waiting c.self.invariant (sym c.in-Some.ensures.value) (c.get_mut.follows.holds t) refl
    (same_rows_from s.facets c.remove.new.self c.in_err-remove.ensures.same)

pub take_rows-taken-requires : goal.take_rows-taken-requires
take_rows-taken-requires c = record {
  keyed = c.self.invariant.kept.keyed;
  ordered = c.self.invariant.kept.rows_ascend;
  room = c.requires.room;
  empty = c.requires.empty;
}

pub take_off_all-requires : goal.take_off_all-requires
take_off_all-requires c = let i = c.self.inside in
    let gs = c.args.stopping.facets.keys in
    let d = subst (AreStopping c.args.actor c.args.facet gs c.args.stopping.handles.keys
    c.args.stopping.told.items) (sym c.self.view_is) c.requires.stopping in
    let taken = c.take_rows-taken.ensures.taken (stands_in c.args.actor gs) d.rows in
    let out = ap sum_of_rows taken.1 in
    let split = weight_split c.args.actor gs (values_of i.rows.entries) in
    let was = c.self.invariant.kept.weighed c.args.actor c.in-Some.it.now (sym c.in-Some.ensures.value) in
    let items = ap sum_of_rows c.deref.ensures.value in
    omega (arith, out, split, was, items)

pub invariant_of-self-2 : goal.invariant_of-self-2
invariant_of-self-2 c = let i = c.self.inside in
    let a = c.args.actor in
    let gs = c.args.stopping.facets.keys in
    let s = c.in-Some.it.now in
    let t = with_rows s c.disown.new.own c.take_off_all.new.row_weight c.remove.new.self in
    let new = c.get_mut.follows.lender t in
    let re = renewed_from a s t i.actors new (sym c.in-Some.ensures.value) (c.get_mut.follows.holds t) in
    let d = subst (AreStopping a c.args.facet gs c.args.stopping.handles.keys c.args.stopping.told.items)
    (sym c.self.view_is) c.requires.stopping in
    let taken = c.take_rows-taken.ensures.taken (stands_in a gs) d.rows in
    let k = c.self.invariant.kept in
    let less = c.take_rows-taken.new.rows.entries in
    let st : IsStopping a gs s t (values_of i.rows.entries) c.take_rows-taken.result.items = record {
      taken_is = taken.1;
      sorted = c.disown.ensures.ordered;
      own = λ h. c.disown.ensures.own h ∙ ap (λ ks. is_key h s.own.keys && not (is_key h ks))
          (d.rows ∙ ap handles (sym taken.1));
      weighs = ap (λ (n : ℕ). c.take_off_all.new.row_weight + n) (ap sum_of_rows (sym c.deref.ensures.value))
          ∙ c.take_off_all.ensures;
      inbox = refl;
      facets = c.in_ok-remove.ensures.gone;
    } in
    record {
      kept = kept_stopped a i.next gs s t i.rows.entries less i.actors.entries new.entries i.busy.keys
          c.take_rows-taken.result.items k re st c.take_rows-taken.ensures.keyed taken.0
          c.take_rows-taken.ensures.ordered;
      counted = counted_same a i.waiting s t i.actors.entries new.entries c.self.invariant.counted re.was
          (c.get_mut.follows.holds t).0 refl;
      standing = standing_stopped a gs s t i.actors.entries new.entries (values_of i.rows.entries) (values_of less)
          c.self.invariant.standing re (ascend_from i.rows.entries k.keyed k.rows_ascend) st.facets taken.0;
    }

pub returns-clause-stopped : goal.returns-clause-stopped
returns-clause-stopped c = let i = c.self.inside in
    let a = c.args.actor in
    let gs = c.args.stopping.facets.keys in
    let s = c.in-Some.it.now in
    let t = with_rows s c.disown.new.own c.take_off_all.new.row_weight c.remove.new.self in
    let new = c.get_mut.follows.lender t in
    let w = c.get_mut.follows.holds t in
    let d = subst (AreStopping a c.args.facet gs c.args.stopping.handles.keys c.args.stopping.told.items)
    (sym c.self.view_is) c.requires.stopping in
    let taken = c.take_rows-taken.ensures.taken (stands_in a gs) d.rows in
    record {
      facets = gs;
      below = c.requires.stopping.below;
      state = stopped_is a i.next gs s t i.rows.entries c.take_rows-taken.new.rows.entries i.actors.entries
          new.entries _ c.self.view_is (sym c.in-Some.ensures.value) refl
          (tree_of_less gs s.facets t.facets c.in_ok-remove.ensures.gone) taken.0 w.0;
      rows = c.requires.stopping.same ∙ c.requires.stopping.rows;
    }

use Rattle.std.proofs.Common.{◌∙◌, sym, ap, subst, List, ℕ}
use Rattle.ac_table.specs.Kept.{IsWhole, waiting_at}
use Rattle.ac_table.specs.declared.table.LiveActor.{LiveActor}
use Rattle.ac_table.specs.Tables.{is_live}
use Rattle.ac_table.proofs.Becomes.{joined_is}
use Rattle.ac_table.proofs.Counting.{waiting-insert}
use Rattle.ac_table.proofs.Finding.{none_from}
use Rattle.ac_table.proofs.Keeps.{kept_joined}
use Rattle.ac_table.proofs.Standing.{standing_joined}
use Rattle.std.specs.Map.{values_of}
use Rattle.ac_table.proofs.table.Table.add_actor.Goals as goal

pub invariant_of-self : goal.invariant_of-self
invariant_of-self c = let i = c.self.inside in
    subst (λ (actors : List (ℕ × LiveActor)). IsWhole i.next i.rows.entries actors i.busy.keys i.waiting)
    (sym c.in_err-insert.ensures.err) c.self.invariant

pub invariant_of-self-2 : goal.invariant_of-self-2
invariant_of-self-2 c = let i = c.self.inside in
    let none = none_from c.args.actor i.next i.rows.entries i.actors.entries (ap (is_live c.args.actor) c.self.view_is
    ∙ c.requires) in
    record {
      kept = kept_joined _ _ _ _ _ _ _ c.self.invariant.kept none c.new-2.ensures.empty c.none.ensures c.new-3.ensures
          c.in_ok-insert.ensures.updates.0 c.insert.ensures.ordered;
      counted = c.self.invariant.counted ∙ sym (ap waiting_at c.in_ok-insert.ensures.entries
          ∙ waiting-insert c.args.actor _ i.actors.entries none c.new-3.ensures);
      standing = standing_joined c.args.actor _ i.actors.entries c.insert.new.self.entries (values_of i.rows.entries)
          c.self.invariant.standing c.self.invariant.kept.owners none c.in_ok-facets.ensures
          c.in_ok-insert.ensures.updates.0;
    }

pub returns-clause-joined : goal.returns-clause-joined
returns-clause-joined c = let i = c.self.inside in
    let none = none_from c.args.actor i.next i.rows.entries i.actors.entries (ap (is_live c.args.actor) c.self.view_is
    ∙ c.requires) in
    joined_is _ _ _ _ _ _ _ c.self.view_is none c.new-3.ensures c.in_ok-facets.ensures c.in_ok-insert.ensures.entries

use Rattle.std.proofs.Common.{◌≡◌, true}
use Rattle.ac_table.specs.Tables.{is_live, has_facet}
use Rattle.ac_world.specs.Outboxes.{all_acted}
use Rattle.ac_world.proofs.plans.Plan.act_all.Given as goal

-- what is left to do leads to what all leads to, and its actor stays live and has facet 0
abbrev pub invariant-loop-act : goal.invariant-loop-act
invariant-loop-act l = record {
  left : all_acted l.actor l.act-iterator.rest.items l.self ≡ all_acted l.actor l.fn.acts.items l.fn.self;
  live : is_live l.actor l.self.table ≡ true;
  root : has_facet l.actor 0 l.self.table ≡ true;
}

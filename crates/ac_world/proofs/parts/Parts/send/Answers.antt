use Rattle.std.proofs.Common.{◌≡◌, ap, sym, ◌∙◌}
use Rattle.std.proofs.lemmas.Result.{on_ok_weaker}
use Rattle.ac_world.specs.Keeping.{residents_of}
use Rattle.ac_world.specs.Outboxes.{Plan, plan_over, all_acted, committed}
use Rattle.ac_world.proofs.OwnFacetsKept.{own_facets_sent}
use Rattle.ac_world.proofs.Numbers.{numbers-all_acted, world_sent}
use Rattle.ac_world.proofs.parts.Parts.send.Goals as goal

pub returns-clause-sound : goal.returns-clause-sound
returns-clause-sound g c =
    let p = c.args.self.now in
    let s = c.requires.sound in
    let a = c.args.actor in
    let acts = c.args.acts.items in
    let acted : Plan = all_acted a acts (plan_over p.plan.table) in
    on_ok_weaker c.commit.result (λ is.
    let done : c.commit.new.self ≡ plan_over (committed a acted) =
    is ∙ (λ i. plan_over (committed a ((c.in_ok-act_all.ensures ∙ ap (all_acted a acts) s.posted) i))) in
    let table : c.commit.new.self.table ≡ committed a acted = ap (λ (q : Plan). q.table) done in
    record {
      posted = done ∙ sym (ap (λ (q : Plan). plan_over q.table) done);
      numbered = world_sent a p.opened p.watches.items acted c.commit.new.self.table p.plan.table table
          (numbers-all_acted a acts (plan_over p.plan.table)) s.numbered;
      own_facets = own_facets_sent a acts p.plan.table c.commit.new.self.table (residents_of p) table s.own_facets;
      seated = s.seated;
    }) c.commit.ensures

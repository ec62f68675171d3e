use Rattle.std.proofs.Common.{◌≡◌, [], ap, sym, subst, ◌∙◌}
use Rattle.ac_world.specs.Behaviours.{Behaviour, other}
use Rattle.ac_world.specs.Keeping.{resident_by, residents_of, turning_over, Stands}
use Rattle.ac_world.specs.Others.{rows_in, task_in}
use Rattle.ac_world.specs.Outboxes.{Plan, plan_over}
use Rattle.ac_world.specs.Watchers.{task_at}
use Rattle.ac_world.specs.Worlds.{Resident, HaveOwnFacets, with_entry}
use Rattle.ac_world.specs.declared.turns.Turned.TheVariants as turned
use Rattle.ac_world.specs.Turns.{Turning}
use Rattle.ac_world.proofs.OwnFacetsKept.{own_facets_turned, stands_first}
use Rattle.ac_world.proofs.Numbers.{live_numbered, world_turned}
use Rattle.ac_world.proofs.Taken.{begun, resident_is, residents_put, other_turn_is, taken_seated, seated_put}
use Rattle.ac_world.proofs.parts.Parts.other_turn.Goals as goal

pub resident_or_new-requires : goal.resident_or_new-requires
resident_or_new-requires g c =
    let p = c.args.self.now in
    rw c.deref.ensures.value
    (taken_seated c.args.actor p.watches.items p.others.entries c.remove-kept.result c.remove-kept.ensures.value
    c.requires.sound.seated)

pub take_turn-requires : goal.take_turn-requires
take_turn-requires g c =
    let p = c.args.self.now in
    let s = c.requires.sound in
    let a = c.args.actor in
    let gate : Resident = resident_by (λ k. k.got) p.gatekeeper in
    let r : Resident = resident_by rows_in c.in_ok-resident.resident in
    subst (λ (q : Plan). Stands a (record { resident = r; plan = q; spreads = [] })) (sym s.posted)
    (stands_first a r p.plan.table (residents_of p) c.requires.system c.requires.live
    (resident_is p.opened (g.J.Judge.schema p.judge) p.gatekeeper.system.bindings p.watches.items p.plan.table gate
    p.others.entries p.held.entries a c.requires.other c.remove-kept.result c.in_ok-resident.resident
    c.remove-kept.ensures.value c.in_ok-resident.ensures.resident)
    s.own_facets)

pub returns-clause-sound : goal.returns-clause-sound
returns-clause-sound g c =
    let p = c.args.self.now in
    let s = c.requires.sound in
    let b = c.args.batch in
    let from = b.from in
    let es = b.events in
    let a = c.args.actor in
    let ws = p.watches.items in
    let gate : Resident = resident_by (λ k. k.got) p.gatekeeper in
    let y : Behaviour = other (g.J.Judge.schema p.judge) (task_in c.in_ok-resident.resident.system) in
    let r : Resident = resident_by rows_in c.in_ok-resident.resident in
    let task : task_in c.in_ok-resident.resident.system ≡ task_at a ws =
    c.in_ok-resident.ensures.task ∙ ap (task_at a) c.deref.ensures.value in
    let t : Turning = turning_over y a from es r p.plan in
    let is : t ≡ turning_over y a from es r (plan_over p.plan.table) = ap (turning_over y a from es r) s.posted in
    let after = c.take_turn.new.self in
    let it = c.in_ok-spreads.ensures.turned in
    let new : Plan = c.take_turn.new.plan in
    let table = ap (λ (q : Plan). q.table) it.plan in
    record {
      posted = it.plan ∙ sym (ap (λ (q : Plan). plan_over q.table) it.plan);
      numbered = world_turned y a from p.opened ws es r t new.table p.plan.table is table s.numbered;
      own_facets = subst (HaveOwnFacets new.table)
          (sym (residents_put p.opened (g.J.Judge.schema p.judge) p.gatekeeper.system.bindings ws p.plan.table gate
          p.others.entries p.held.entries a c.requires.other after
          c.remove-kept.new.self.entries c.insert.new.self.entries c.keeps_its_order.ensures
          c.remove-kept.ensures.entries
          c.in_ok-insert.ensures.entries))
          (subst (λ (x : Resident). HaveOwnFacets new.table (with_entry a x (residents_of p))) (sym it.resident)
          (own_facets_turned y a from es r p.plan.table t new.table is table (residents_of p) it.stands s.own_facets));
      seated = seated_put a ws after p.others.entries c.remove-kept.new.self.entries
          c.insert.new.self.entries c.remove-kept.ensures.entries c.in_ok-insert.ensures.entries
          (ap (λ l. l.task) c.in_ok-spreads.ensures.lasting ∙ task)
          ((live_numbered a p.opened ws p.plan.table s.numbered c.requires.live).1 c.requires.system) s.seated;
    }

pub returns-clause-world : goal.returns-clause-world
returns-clause-world g c =
    let p = c.args.self.now in
    let s = c.requires.sound in
    let a = c.args.actor in
    let b = c.args.batch in
    let from = b.from in
    let es = b.events in
    let gate : Resident = resident_by (λ k. k.got) p.gatekeeper in
    let y : Behaviour = other (g.J.Judge.schema p.judge) (task_in c.in_ok-resident.resident.system) in
    let r : Resident = resident_by rows_in c.in_ok-resident.resident in
    let task : task_in c.in_ok-resident.resident.system ≡ task_at a p.watches.items =
    c.in_ok-resident.ensures.task ∙ ap (task_at a) c.deref.ensures.value in
    let it = c.in_ok-spreads.ensures.turned in
    other_turn_is p.opened (g.J.Judge.schema p.judge) p.gatekeeper.system.bindings p.watches.items p.plan.table gate
    p.others.entries p.held.entries a c.requires.other b c.remove-kept.result
    c.in_ok-resident.resident c.take_turn.new.self (turning_over y a from es r p.plan)
    c.take_turn.new.plan.table c.remove-kept.new.self.entries c.insert.new.self.entries c.keeps_its_order.ensures
    c.remove-kept.ensures.entries c.remove-kept.ensures.value c.in_ok-resident.ensures.resident task
    (ap (turning_over y a from es r) s.posted) it.resident c.in_ok-insert.ensures.entries
    (ap (λ (q : Plan). q.table) it.plan)

pub returns-clause-turned : goal.returns-clause-turned
returns-clause-turned g c =
    let p = c.args.self.now in
    let a = c.args.actor in
    let b = c.args.batch in
    let from = b.from in
    let es = b.events in
    let gate : Resident = resident_by (λ k. k.got) p.gatekeeper in
    let y : Behaviour = other (g.J.Judge.schema p.judge) (task_in c.in_ok-resident.resident.system) in
    let r : Resident = resident_by rows_in c.in_ok-resident.resident in
    let task : task_in c.in_ok-resident.resident.system ≡ task_at a p.watches.items =
    c.in_ok-resident.ensures.task ∙ ap (task_at a) c.deref.ensures.value in
    ap turned.Ran (c.in_ok-spreads.ensures.turned.spreads ∙ ap (λ (t : Turning). t.spreads)
    (ap (turning_over y a from es r) c.requires.sound.posted
    ∙ begun p.opened (g.J.Judge.schema p.judge) p.gatekeeper.system.bindings p.watches.items p.plan.table gate
    p.others.entries p.held.entries a c.requires.other b c.remove-kept.result
    c.in_ok-resident.resident c.remove-kept.ensures.value c.in_ok-resident.ensures.resident task))

use Rattle.std.proofs.Common.{◌≡◌, [], ◌∷◌, refl, ap, arith, sym, subst, ◌∙◌}
use Rattle.ac_world.specs.Behaviours.{Behaviour, gatekeeper}
use Rattle.ac_world.specs.Keeping.{resident_by, residents_by, residents_of, turning_over, world_by, Stands}
use Rattle.ac_world.specs.Outboxes.{Plan, plan_over}
use Rattle.ac_world.specs.Worlds.{WorldState, Resident, HaveOwnFacets}
use Rattle.ac_world.specs.declared.turns.Turned.TheVariants as turned
use Rattle.ac_world.specs.Turns.{Turning, end_turn}
use Rattle.ac_world.proofs.OwnFacetsKept.{own_facets_turned, stands_first}
use Rattle.ac_world.proofs.Numbers.{world_turned}
use Rattle.ac_world.proofs.parts.Parts.gatekeeper_turn.Goals as goal

pub take_turn-requires : goal.take_turn-requires
take_turn-requires g c =
    let p = c.args.self.now in
    let s = c.requires.sound in
    let r : Resident = resident_by (λ k. k.got) p.gatekeeper in
    subst (λ (q : Plan). Stands 0 (record { resident = r; plan = q; spreads = [] })) (sym s.posted)
    (stands_first 0 r p.plan.table (residents_of p) (omega arith) c.requires.live refl s.own_facets)

pub returns-clause-sound : goal.returns-clause-sound
returns-clause-sound g c =
    let p = c.args.self.now in
    let s = c.requires.sound in
    let b = c.args.batch in
    let from = b.from in
    let es = b.events in
    let y : Behaviour = gatekeeper (g.J.Judge.schema p.judge) p.gatekeeper.system.bindings in
    let r : Resident = resident_by (λ k. k.got) p.gatekeeper in
    let t : Turning = turning_over y 0 from es r p.plan in
    let is : t ≡ turning_over y 0 from es r (plan_over p.plan.table) = ap (turning_over y 0 from es r) s.posted in
    let it = c.in_ok-spreads.ensures.turned in
    let new : Plan = c.take_turn.new.plan in
    let table = ap (λ (q : Plan). q.table) it.plan in
    record {
      posted = it.plan ∙ sym (ap (λ (q : Plan). plan_over q.table) it.plan);
      numbered = world_turned y 0 from p.opened p.watches.items es r t new.table p.plan.table is table s.numbered;
      own_facets = subst (λ (x : Resident). HaveOwnFacets new.table ((0, x) ∷ residents_by p.others.entries))
          (sym it.resident)
          (own_facets_turned y 0 from es r p.plan.table t new.table is table (residents_of p) it.stands s.own_facets);
      seated = s.seated;
    }

pub returns-clause-world : goal.returns-clause-world
returns-clause-world g c =
    let p = c.args.self.now in
    let s = c.requires.sound in
    let b = c.args.batch in
    let from = b.from in
    let es = b.events in
    let y : Behaviour = gatekeeper (g.J.Judge.schema p.judge) p.gatekeeper.system.bindings in
    let r : Resident = resident_by (λ k. k.got) p.gatekeeper in
    let w : WorldState = world_by g.J.Judge.schema p in
    let it = c.in_ok-spreads.ensures.turned in
    (λ j. record w {
      bindings = (c.in_ok-spreads.ensures.lasting j).bound;
      table = (it.plan j).table;
      residents = (0, it.resident j) ∷ residents_by p.others.entries;
    })
    ∙ ap (λ (q : Plan). (end_turn 0 w (turning_over y 0 from es r q)).world) s.posted

pub returns-clause-turned : goal.returns-clause-turned
returns-clause-turned g c =
    let p = c.args.self.now in
    let y : Behaviour = gatekeeper (g.J.Judge.schema p.judge) p.gatekeeper.system.bindings in
    let r : Resident = resident_by (λ k. k.got) p.gatekeeper in
    let from = c.args.batch.from in
    let es = c.args.batch.events in
    let it = c.in_ok-spreads.ensures.turned in
    ap turned.Ran (it.spreads ∙ ap (λ (q : Plan). (turning_over y 0 from es r q).spreads) c.requires.sound.posted)

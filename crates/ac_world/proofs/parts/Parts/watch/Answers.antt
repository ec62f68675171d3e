use Rattle.std.proofs.Common.{◌+◌, ◌<◌, [], ◌∷◌, ◌++◌, length, ap, subst, sym, ◌∙◌}
use Rattle.std.proofs.lemmas.Result.{on_ok_weaker}
use Rattle.ac_world.specs.declared.acts.Act.TheVariants as act
use Rattle.ac_world.specs.Keeping.{AreSound, world_by}
use Rattle.ac_world.specs.Limits.{most_watchers}
use Rattle.ac_world.specs.Watchers.{observation_by}
use Rattle.ac_world.specs.Worlds.{watching}
use Rattle.ac_world.proofs.Numbers.{joined_live}
use Rattle.ac_world.proofs.Sound.{watcher_new, sound_watched, watching_is}
use Rattle.ac_world.proofs.parts.Parts.watch.Goals as goal

pub add_actor-requires : goal.add_actor-requires
add_actor-requires g c =
    let s = subst (λ x. AreSound x) (sym c.self.view_is) c.requires.sound in
    let first = ap (λ x. x.opened) c.self.view_is ∙ c.requires.first in
    watcher_new _ s c.len.result c.len.ensures first

pub send-requires-clause-sound : goal.send-requires-clause-sound
send-requires-clause-sound g c =
    let s = subst (λ x. AreSound x) (sym c.self.view_is) c.requires.sound in
    let first = ap (λ x. x.opened) c.self.view_is ∙ c.requires.first in
    let few = subst (λ x. length x.watches.items < most_watchers) (sym c.self.view_is) c.requires.few in
    let kept = sound_watched _ s c.len.result c.len.ensures first c.args.given c.push-2.new.self.items
    c.add_actor.new.self c.in_ok-push-2.ensures.items c.in_ok-add_actor.ensures.joined few in
    record {
      posted = λ i. record { table = c.add_actor.new.self; out = (s.posted i).out };
      numbered = kept.0;
      own_facets = kept.1;
      seated = kept.2;
    }

pub send-requires-clause-live : goal.send-requires-clause-live
send-requires-clause-live g c =
    joined_live (9 + c.len.result) c.add_actor.new.self _ c.in_ok-add_actor.ensures.joined

pub returns-clause-world : goal.returns-clause-world
returns-clause-world g c =
    let s = subst (λ x. AreSound x) (sym c.self.view_is) c.requires.sound in
    let first = ap (λ x. x.opened) c.self.view_is ∙ c.requires.first in
    let x = c.args.given in
    let all = watching_is _ s c.len.result c.len.ensures first x c.push-2.new.self.items c.add_actor.new.self
    c.in_ok-push-2.ensures.items c.in_ok-add_actor.ensures.joined g.J.Judge.schema c.in_ok-observation.observation
    c.push.new.self.items
    (c.in_ok-observation.ensures ∙ ap (observation_by (9 + c.len.result)) c.in_ok-copy.ensures)
    (c.in_ok-push.ensures.items ∙ ap (λ l. l ++ act.Assert x.from 0 c.in_ok-observation.observation ∷ [])
    c.in_ok-acts.ensures.items) in
    on_ok_weaker c.send.result (λ is. is ∙ all ∙ ap (λ z. watching x (world_by g.J.Judge.schema z)) c.self.view_is)
    c.send.ensures.world

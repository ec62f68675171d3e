use Rattle.std.proofs.Common.{ap, subst, sym, ◌∙◌}
use Rattle.ac_world.specs.Keeping.{AreSound, world_by}
use Rattle.ac_world.specs.Outboxes.{retractions}
use Rattle.ac_world.specs.Worlds.{ended_of}
use Rattle.ac_world.proofs.Sound.{sound_ended, ended_is}
use Rattle.ac_world.proofs.parts.Parts.end.Goals as goal

pub returns-in_ok-post-in-Ok-clause-sound : goal.returns-in_ok-post-in-Ok-clause-sound
returns-in_ok-post-in-Ok-clause-sound g c =
    let s = subst (λ x. AreSound x) (sym c.self.view_is) c.requires.sound in
    let kept = sound_ended _ s c.args.actor c.requires.other c.retract_all.new.self c.end_actor.new.self
    c.post.new.table c.remove.new.self.entries c.in-Ok.ensures.ended c.in_ok-post-in-Ok.ensures
    c.remove.ensures.entries in
    record {
      posted = λ i. record { table = c.post.new.table; out = (s.posted i).out };
      numbered = kept.0;
      own_facets = kept.1;
      seated = kept.2;
    }

pub returns-in_ok-post-in-Ok-clause-world : goal.returns-in_ok-post-in-Ok-clause-world
returns-in_ok-post-in-Ok-clause-world g c =
    let s = subst (λ x. AreSound x) (sym c.self.view_is) c.requires.sound in
    let a = c.args.actor in
    ended_is _ s a c.requires.other c.retract_all.new.self c.end_actor.new.self c.post.new.table
    c.remove.new.self.entries c.in-Ok.ensures.ended c.in_ok-post-in-Ok.ensures c.remove.ensures.entries
    g.J.Judge.schema c.remove-in-Ok.new.self.entries c.in-Ok.ensures.fault
    (c.in_ok-retract_all-in-Ok.ensures
    ∙ (λ j. retractions ((c.deref.ensures.value ∙ c.in-Ok.ensures.rows) j) (c.new-out.ensures j)))
    c.remove-in-Ok.ensures.entries
    ∙ ap (λ x. ended_of a (world_by g.J.Judge.schema x)) c.self.view_is

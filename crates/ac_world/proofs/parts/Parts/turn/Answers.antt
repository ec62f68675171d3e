use Rattle.std.proofs.Common.{subst, sym}
use Rattle.ac_world.specs.Keeping.{AreSound}
use Rattle.ac_world.proofs.Sound.{sound_popped, taker_live}
use Rattle.ac_world.proofs.parts.Parts.turn.Goals as goal

pub turn_with-requires-clause-sound : goal.turn_with-requires-clause-sound
turn_with-requires-clause-sound g c =
    let s = subst (λ x. AreSound x) (sym c.self.view_is) c.requires in
    let kept = sound_popped _ s c.args.actor c.pop_batch.new.self c.in-Ok-Some.ensures.popped in
    record {
      posted = λ i. record { table = c.pop_batch.new.self; out = (s.posted i).out };
      numbered = kept.0;
      own_facets = kept.1;
      seated = kept.2;
    }

pub turn_with-requires-clause-live : goal.turn_with-requires-clause-live
turn_with-requires-clause-live g c =
    taker_live _ (subst (λ x. AreSound x) (sym c.self.view_is) c.requires) c.args.actor c.pop_batch.new.self
    c.in-Ok-Some.ensures.fault c.in-Ok-Some.ensures.popped

use Rattle.std.proofs.Common.{subst, sym}
use Rattle.ac_world.specs.Keeping.{AreSound}
use Rattle.ac_world.proofs.Sound.{number_is_new, sound_arrived}
use Rattle.ac_world.proofs.parts.Parts.arrive.Goals as goal

pub add_actor-requires : goal.add_actor-requires
add_actor-requires g c = number_is_new _ (subst (λ x. AreSound x) (sym c.self.view_is) c.requires.sound)

pub returns-clause-sound : goal.returns-clause-sound
returns-clause-sound g c =
    let s = subst (λ x. AreSound x) (sym c.self.view_is) c.requires.sound in
    let kept = sound_arrived _ s c.add_actor.new.self c.in_ok-add_actor.ensures.joined in
    record {
      posted = λ i. record { table = c.add_actor.new.self; out = (s.posted i).out };
      numbered = kept.0;
      own_facets = kept.1;
      seated = kept.2;
    }

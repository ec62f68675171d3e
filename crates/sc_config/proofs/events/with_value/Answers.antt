-- A value: the event that it writes binds a reference that is read back, where it binds one, and its course is the
-- value's.
use Rattle.std.proofs.Common.{◌≡◌, Some, sym, ap, ◌∙◌}
use Rattle.sc_events.specs.Events.{event_of}
use Rattle.sc_events.specs.Lemmas.Sound.{sound_event}
use Rattle.sc_schema.specs.Courses.{after_value}
use Rattle.sc_config.specs.Courses.{after_event, doing}
use Rattle.sc_config.proofs.Parts.{sets_so, stops_so}
use Rattle.sc_config.proofs.events.with_value.Goals as goal

pub with_event-requires : goal.with_event-requires
with_event-requires g c =
    sound_event c.args.value.now c.in-Some.event (sym c.in_ok-event.ensures ∙ c.in-Some.is)

pub returns-in-Some-clause-set : goal.returns-in-Some-clause-set
returns-in-Some-clause-set g c =
    let n = c.args.place in
    let is : Some c.in-Some.event ≡ event_of c.args.value.now = sym c.in-Some.is ∙ c.in_ok-event.ensures in
    sets_so c.args.hub (after_event n c.in-Some.event) (after_value doing n (event_of c.args.value.now))
    (λ d. ap (λ o. after_value doing n o d) is) c.with_event.result c.with_event.ensures.set

pub returns-in-Some-clause-stop : goal.returns-in-Some-clause-stop
returns-in-Some-clause-stop g c =
    let n = c.args.place in
    let is : Some c.in-Some.event ≡ event_of c.args.value.now = sym c.in-Some.is ∙ c.in_ok-event.ensures in
    stops_so c.args.hub (after_event n c.in-Some.event) (after_value doing n (event_of c.args.value.now))
    (λ d. ap (λ o. after_value doing n o d) is) c.with_event.result c.with_event.ensures.stop

use Rattle.load_laws.proofs.LoadEvents.{loads_of_events}
use Rattle.load_laws.proofs.loads_are_of_events.Goals as goal

pub returns : goal.returns
returns c = loads_of_events

-- What steps leave of the server, as a run tells it.
use Rattle.std.specs.Prelude.{ℕ, zero, suc, ◌+◌, ◌-◌, ◌^◌, min, List, [], ◌∷◌, ◌++◌}
use Rattle.ps_schema.specs.declared.Definition.{Definition}
use Rattle.rl_packet.specs.Holding.{held}
use Rattle.hub_machine.specs.State.{is_there}
use Rattle.hub_machine.specs.Replays.{replay, sent_to, pending}
use Rattle.hub_machine.specs.declared.steps.Step.{Step}
use Rattle.sc_report.specs.Reports.{ConnectionState, RanState}
use Rattle.sc_script.specs.Runs.{spelled}

abbrev pub connection_after : List Definition → List Step → ℕ → ConnectionState
connection_after ds steps k = record {
  live = is_there k (replay ds steps);
  out = spelled (sent_to ds k steps);
  held = held (sent_to ds k steps);
}

-- the connections 1 to n
abbrev pub connections_after : List Definition → List Step → ℕ → List ConnectionState
connections_after ds steps zero = []
connections_after ds steps (suc k) = connections_after ds steps k ++ connection_after ds steps (k + 1) ∷ []

-- a number that is told stops at the greatest of 64 bits
abbrev pub ran_of : List Definition → List Step → RanState
ran_of ds steps = record {
  pending = min (pending (replay ds steps)) (2 ^ 64 - 1);
  connections = connections_after ds steps (replay ds steps).world.opened;
}

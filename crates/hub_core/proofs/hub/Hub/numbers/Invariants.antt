-- The numbers are gone through in order.
use Rattle.std.proofs.Common.{◌≡◌, ◌++◌}
use Rattle.std.specs.Map.{keys_of}
use Rattle.hub_core.proofs.hub.Hub.numbers.Given as goal

-- those so far, and those that are left
abbrev pub invariant-loop-connection : goal.invariant-loop-connection
invariant-loop-connection g l = l.numbers.items ++ l.connection-iterator ≡ keys_of l.self.connections

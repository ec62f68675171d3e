use Rattle.std.proofs.Common.{◌≡◌, ◌≤◌, ◌^◌}
use Rattle.std.proofs.Math.Bridge.{le_prop}
use Rattle.rl_stream.specs.Streams.{StreamState}
use Rattle.dq_link.specs.declared.received.Received.{Received}
use Rattle.dq_link.proofs.received.Received.first.Goals as goal

abbrev received : (st : StreamState) (old : Received) → old.count ≤ 2 ^ 40 → Received
received st old few = record { stream = st; count = old.count; few = few }

all_same : (st : StreamState) (old : Received) (few : old.count ≤ 2 ^ 40) → st ≡ old.stream → received st old few ≡ old
all_same st old few same =
    λ i. record { stream = same i; count = old.count; few = le_prop few old.few i }

pub returns-clause-same : goal.returns-clause-same
returns-clause-same c = all_same c.first.new.self c.args.self.now _ c.first.ensures.same

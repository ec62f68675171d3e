-- Who is counted: the connections whose names are kept are those that are live, and they are 32 at most.
use Rattle.std.specs.Prelude.{◌≡◌, ◌↔◌, ℕ, ◌^◌, ◌<◌, ◌≤◌, true, false, List, filter, map, length, nat_le, Some, None}
use Rattle.std.specs.List.Sorted.{IsStrictlySortedBy}
use Rattle.std.specs.Map.{keys_of}
use Rattle.std.specs.Ordering.{nat_cmp}
use Rattle.ac_table.specs.Tables.{Actor, TableState, is_live}
use Rattle.ac_world.specs.Worlds.{actor_of, entry_of}
use Rattle.rl_ports.specs.Ports.{PortsState}
use Rattle.hub_machine.specs.State.{State}
use Rattle.hub_machine.specs.Machine.{step}
use Rattle.hub_machine.specs.declared.steps.Step.TheVariants.{Arrive}
use Rattle.hub_machine.specs.declared.steps.Reply.TheVariants.{Full}

-- the live connections, by number: actors from 17 on
abbrev pub live_connections : TableState → List Actor
live_connections t = filter (λ x. nat_le 17 x.number) t.actors

-- names of connection k are kept
abbrev pub HasNames : ℕ → State → Type 0
HasNames k s = (ports : PortsState) × (entry_of k s.connections ≡ Some ports)

-- nothing but the number of connections can be against an arrival: neither handles nor numbers of connections are used
-- up, what it asks for is the gatekeeper or a dataspace, and the server isn't to stop
pub record MayCome (space : ℕ) (s : State) : Type 0 where
  pub handles : s.world.table.next < 2 ^ 62
  pub numbers : s.world.opened < 2 ^ 31
  pub known : space ≤ 8
  pub goes_on : s.stopped ≡ false

pub record AreCounted (s : State) : Type 0 where
  -- a connection is live exactly where names of it are kept; they count from 1
  pub live : (k : ℕ) → 1 ≤ k → (is_live (actor_of k) s.world.table ≡ true) ↔ HasNames k s
  pub from_one : entry_of 0 s.connections ≡ None
  -- the numbers ascend, so that none is counted twice
  pub once : IsStrictlySortedBy nat_cmp (keys_of s.connections)
  -- and they are those of the live connections, one by one
  pub alike : map (λ x. x.number) (live_connections s.world.table) ≡ map actor_of (keys_of s.connections)
  pub few : length (live_connections s.world.table) ≤ 32
  -- one more is refused for their number exactly where there are 32
  pub full : (space : ℕ) → MayCome space s
      → ((step s (Arrive space)).reply ≡ Full) ↔ (length (live_connections s.world.table) ≡ 32)

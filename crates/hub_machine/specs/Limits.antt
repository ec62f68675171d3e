-- The limits on what connections do and what is kept of them, and where numbers are used up.
use Rattle.std.specs.Prelude.{ℕ, ◌^◌}

-- the most events of a packet
abbrev pub most_events : ℕ
most_events = 1024

-- the most handles that a connection has in use
abbrev pub most_handles : ℕ
most_handles = 4096

-- the most that all that a connection asserts weighs
abbrev pub most_rows_weight : ℕ
most_rows_weight = 4194304

-- the most events of a connection's that wait for the system's actors, and what they weigh together
abbrev pub most_backlog : ℕ
most_backlog = 65536

abbrev pub most_backlog_weight : ℕ
most_backlog_weight = 16777216

-- the most assertions and events that are held for a connection or wait for it, and what they weigh together
abbrev pub most_deliveries : ℕ
most_deliveries = 65536

abbrev pub most_deliveries_weight : ℕ
most_deliveries_weight = 16777216

-- the most live connections
abbrev pub most_connections : ℕ
most_connections = 32

-- the last dataspace; the first is 1
abbrev pub last_dataspace : ℕ
last_dataspace = 8

-- no step is done where this would be the next handle, or a greater one
abbrev pub worn_handle : ℕ
worn_handle = 2 ^ 62

-- no connection comes where so many were opened
abbrev pub worn_connections : ℕ
worn_connections = 2 ^ 31

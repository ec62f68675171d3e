-- The limit on packets.
use Rattle.std.specs.Prelude.{ℕ}
use Rattle.pv_stream.specs.Limits.{most_bytes}

-- the most bytes of a packet on the wire: as many as of a value in a stream
abbrev pub packet_bytes : ℕ
packet_bytes = most_bytes

-- What a run leaves, and its report: `<report pending [<conn k live|ended [<holds oid handle v> ..] out> ..]>`,
-- connections ascending, out the written spellings of all packets that were sent to it.
use Rattle.std.specs.Prelude.{ℕ, ◌+◌, Bool, List, [], ◌∷◌, map, codes, if◌then◌else◌}
use Rattle.pv_value.specs.Plain.{Plain, symbol, byte_string, sequence, plains}
use Rattle.pv_words.specs.Words.{labelled, number}
use Rattle.rl_packet.specs.declared.holding.Holding.{Holding}

-- of a connection: whether it is there, the bytes that it was sent, and what its peer holds by them
pub record ConnectionState : Type 0 where
  pub live : Bool
  pub out : List ℕ
  pub held : List Holding

-- how much is pending, and the connections from number 1 on
pub record RanState : Type 0 where
  pub pending : ℕ
  pub connections : List ConnectionState

-- ---- the report

abbrev pub holding_value : Holding → Plain
holding_value h = labelled (codes "holds") (number h.oid ∷ number h.handle ∷ h.value ∷ [])

abbrev pub status_word : Bool → List ℕ
status_word is_live = if is_live then codes "live" else codes "ended"

abbrev pub connection_value : ℕ → ConnectionState → Plain
connection_value k c =
    labelled (codes "conn") (number k ∷ symbol (status_word c.live) ∷ sequence (plains (map holding_value c.held))
    ∷ byte_string c.out ∷ [])

-- connections from number k on
abbrev pub connection_values : ℕ → List ConnectionState → List Plain
connection_values k [] = []
connection_values k (c ∷ cs) = connection_value k c ∷ connection_values (k + 1) cs

abbrev pub report_of : RanState → Plain
report_of r =
    labelled (codes "report") (number r.pending ∷ sequence (plains (connection_values 1 r.connections)) ∷ [])

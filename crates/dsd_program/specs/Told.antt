-- What is told of the outside world, before a call and after it.
use Rattle.std.specs.Prelude.{ℕ, Bool, List, Option}
use Rattle.out_ports.specs.Dialled.{ToldLink}
use Rattle.kp_keeper.specs.declared.records.Record.{Record}
use Rattle.dq_link.specs.Asked.{HostRest}

-- of a source: what it has left, whether it answered its end, and how often it failed
pub record ToldSource : Type 0 where
  pub left : Option (List ℕ)
  pub ended : Bool
  pub faults : ℕ

-- of a sink: what it holds, how often it was finished, and how often it failed
pub record ToldSink : Type 0 where
  pub held : Option (List ℕ)
  pub finishes : ℕ
  pub faults : ℕ

-- of a keeper: what it keeps, the name of the file that was opened last, and how often it failed
pub record ToldKeeper : Type 0 where
  pub kept : Option (List Record)
  pub file : Option (List ℕ)
  pub faults : ℕ

-- of the input, the output, standard error, the host (its one link, and the rest of it) and the keeper
pub record World : Type 0 where
  pub input : ToldSource
  pub out : ToldSink
  pub diag : ToldSink
  pub link : ToldLink
  pub rest : HostRest
  pub keeper : ToldKeeper

abbrev pub source_of : Option (List ℕ) → Bool → ℕ → ToldSource
source_of left ended faults = record { left = left; ended = ended; faults = faults }

abbrev pub sink_of : Option (List ℕ) → ℕ → ℕ → ToldSink
sink_of held finishes faults = record { held = held; finishes = finishes; faults = faults }

abbrev pub keeper_of : Option (List Record) → Option (List ℕ) → ℕ → ToldKeeper
keeper_of kept file faults = record { kept = kept; file = file; faults = faults }

abbrev pub world_of : ToldSource → ToldSink → ToldSink → ToldLink → HostRest → ToldKeeper → World
world_of input out diag link rest keeper =
    record { input = input; out = out; diag = diag; link = link; rest = rest; keeper = keeper }

-- What is done with an input once the files are read and judged, and what comes of that.
use Rattle.std.specs.Prelude.{◌≡◌, ℕ, true, List}
use Rattle.out_ports.specs.declared.ports.HostFault.{HostFault}
use Rattle.out_ports.specs.declared.ports.HostFault.TheVariants as host
use Rattle.ps_schema.specs.Names.{knows}
use Rattle.ps_read.specs.declared.faults.SchemaFault.{SchemaFault}
use Rattle.ps_read.specs.declared.faults.SchemaFault.TheVariants as schema
use Rattle.sc_events.specs.declared.inputs.Form.TheVariants as input
use Rattle.dsd_top.specs.Asked.{Checking}
use Rattle.dsd_top.specs.Forms.{verdict_by}
use Rattle.dsd_top.specs.Makings.{IsMadeOf, IsMalformedAt, IsTooLong, PassesLimit, IsUnschemedAt}
use Rattle.dsd_top.specs.Schemas.{Files, IsSchemaIn, IsBadFileAt, IsRefusedAt}
use Rattle.dsd_top.specs.Values.{IsBadAt, AreMade}
use Rattle.dsd_top.specs.declared.answers.Work.{Work}
use Rattle.dsd_top.specs.declared.answers.Work.TheVariants as work
use Rattle.dsd_top.specs.declared.faults.Fault.{Fault}
use Rattle.dsd_top.specs.declared.faults.Fault.TheVariants as fault
use Rattle.dsd_top.specs.declared.schemas.ConfigFault.{ConfigFault}
use Rattle.dsd_top.specs.declared.schemas.ConfigFault.TheVariants as config
use Rattle.dsd_top.specs.declared.words.Making.{Making}
use Rattle.dsd_top.specs.declared.words.Command.{Command}
use Rattle.dsd_top.specs.declared.words.Command.TheVariants.{Make, Check}

-- ---- files

abbrev pub from_host : HostFault → ConfigFault
from_host host.Failed = config.ReadFailed
from_host host.NoMemory = config.NoMemory

-- what a text is refused for, as a schema
abbrev pub refused_for : SchemaFault → ConfigFault
refused_for schema.NoMemory = config.NoMemory
refused_for (schema.BadSchema n) = config.Bad n
refused_for (schema.NotSupported n) = config.Bad n
refused_for fault = config.Bad 0

-- what a fault says of the text and the name
abbrev pub IsTextFaultOf : List ℕ → List ℕ → ConfigFault → Type 0
IsTextFaultOf text name config.ReadFailed = ⊥
IsTextFaultOf text name (config.Bad n) = IsRefusedAt text name n
IsTextFaultOf text name config.NoMemory = Unit {0}

-- what a fault says of the file
abbrev pub IsConfigFaultOf : Files → Checking → ConfigFault → Type 0
IsConfigFaultOf files k config.ReadFailed = Unit {0}
IsConfigFaultOf files k (config.Bad n) = IsBadFileAt files k n
IsConfigFaultOf files k config.NoMemory = Unit {0}

-- ---- works

-- the work is what the command says, over the schema that the file holds
abbrev pub IsReady : Files → Command → Work → Type 0
IsReady files (Make m) (work.Make n) = n ≡ m
IsReady files (Make m) (work.Judge ds name) = ⊥
IsReady files (Check k) (work.Make n) = ⊥
IsReady files (Check k) (work.Judge ds name) = IsSchemaIn files k ds × (name.now ≡ k.name)

-- a command has no work, for this cause
abbrev pub IsUnready : Files → Command → Fault → Type 0
IsUnready files (Check k) fault.ReadFailed = Unit {0}
IsUnready files (Check k) fault.NoMemory = Unit {0}
IsUnready files (Check k) (fault.BadConfig n) = IsBadFileAt files k n
IsUnready files c f = ⊥

-- a schema that judges knows the name
abbrev pub CanJudge : Work → Type 0
CanJudge (work.Make m) = Unit {0}
CanJudge (work.Judge ds name) = knows ds name.now ≡ true

abbrev pub IsAnswerBy : Work → List ℕ → List ℕ → Type 0
IsAnswerBy (work.Make m) bytes out = IsMadeOf m bytes out
IsAnswerBy (work.Judge ds name) bytes out = AreMade input.Text (verdict_by ds name.now) bytes out

-- nothing is made of the input, for this cause
abbrev pub IsUnmadeFor : Making → List ℕ → Fault → Type 0
IsUnmadeFor m bytes (fault.BadInput n) = IsMalformedAt m bytes n
IsUnmadeFor m bytes (fault.Limit w) = PassesLimit m bytes w
IsUnmadeFor m bytes (fault.BadConfig n) = IsUnschemedAt m bytes n
IsUnmadeFor m bytes fault.NoMemory = Unit {0}
IsUnmadeFor m bytes f = ⊥

-- the values aren't judged, for this cause
abbrev pub IsUnjudgedFor : List ℕ → Fault → Type 0
IsUnjudgedFor bytes (fault.BadInput n) = IsBadAt input.Text bytes n
IsUnjudgedFor bytes (fault.Limit w) = IsTooLong bytes w
IsUnjudgedFor bytes fault.NoMemory = Unit {0}
IsUnjudgedFor bytes f = ⊥

abbrev pub IsCauseBy : Work → List ℕ → Fault → Type 0
IsCauseBy (work.Make m) bytes f = IsUnmadeFor m bytes f
IsCauseBy (work.Judge ds name) bytes f = IsUnjudgedFor bytes f

-- What a status says of the words, the host's files, the input and what was written.
use Rattle.std.specs.Prelude.{◌≡◌, ◌≢◌, ℕ, List, [], ◌∷◌, Option, Some, None, Contains, IfSome}
use Rattle.out_ports.specs.Ports.{Appends, AppendsFront}
use Rattle.out_ports.specs.declared.streams.ReadFault.{ReadFault}
use Rattle.out_ports.specs.declared.streams.ReadFault.TheVariants as reading
use Rattle.ps_schema.specs.declared.Definition.{Definition}
use Rattle.sc_events.specs.declared.inputs.Form.TheVariants as input
use Rattle.sc_script.specs.declared.faults.ScriptFault.{ScriptFault}
use Rattle.sc_script.specs.declared.faults.ScriptFault.TheVariants as stopped
use Rattle.sc_script.specs.Runs as run
use Rattle.dsd_top.specs.Asked.{Checking}
use Rattle.dsd_top.specs.Commands.{IsOfTable, IsTextOf, HasText, IsRightlyAsked}
use Rattle.dsd_top.specs.Forms.{verdict_by}
use Rattle.dsd_top.specs.Loading.{StopsLoad}
use Rattle.dsd_top.specs.Makings.{IsMadeOf, IsMalformedAt, IsTooLong, PassesLimit, IsUnschemedAt}
use Rattle.dsd_top.specs.Schemas.{Files, IsSchemaIn, IsBadFileAt}
use Rattle.dsd_top.specs.Values.{IsBadAt, AreMade}
use Rattle.dsd_top.specs.declared.faults.Fault.{Fault}
use Rattle.dsd_top.specs.declared.faults.Fault.TheVariants as fault
use Rattle.dsd_top.specs.declared.minting.WordsFault.{WordsFault}
use Rattle.dsd_top.specs.declared.minting.WordsFault.TheVariants as words
use Rattle.dsd_top.specs.declared.schemas.ConfigFault.{ConfigFault}
use Rattle.dsd_top.specs.declared.schemas.ConfigFault.TheVariants as config
use Rattle.dsd_top.specs.declared.values.InputFault.{InputFault}
use Rattle.dsd_top.specs.declared.values.InputFault.TheVariants as unread
use Rattle.dsd_top.specs.declared.words.Making.{Making}
use Rattle.dsd_top.specs.declared.words.Making.TheVariants.{Run, RunText}
use Rattle.dsd_top.specs.declared.words.Command.{Command}
use Rattle.dsd_top.specs.declared.words.Command.TheVariants.{Make, Check}
use Rattle.dsd_top.specs.declared.words.Notice.{Notice}
use Rattle.dsd_top.specs.declared.words.Notice.TheVariants.{Usage, Version, Reference, Load}
use Rattle.dsd_top.specs.declared.words.Request.{Request}
use Rattle.dsd_top.specs.declared.words.Request.TheVariants.{Do, Tell}

-- ---- which statuses come

-- every status that comes
abbrev pub IsStatus : ℕ → Type 0
IsStatus n = Contains (0 ∷ 1 ∷ 2 ∷ 3 ∷ 4 ∷ 5 ∷ 6 ∷ 7 ∷ []) n

-- what is no schema comes of scripts alone
abbrev pub of_scripts : Making → List ℕ
of_scripts Run = 7 ∷ []
of_scripts RunText = 7 ∷ []
of_scripts m = []

-- those that come for a command
abbrev pub statuses_by : Command → List ℕ
statuses_by (Make m) = 0 ∷ 1 ∷ 3 ∷ 4 ∷ 5 ∷ 6 ∷ of_scripts m
statuses_by (Check k) = 0 ∷ 1 ∷ 3 ∷ 4 ∷ 5 ∷ 6 ∷ 7 ∷ []

-- those that come for a notice: one whose text is always the same takes no memory
abbrev pub statuses_told : Notice → List ℕ
statuses_told Usage = 0 ∷ 4 ∷ []
statuses_told Version = 0 ∷ 4 ∷ []
statuses_told (Reference m) = 0 ∷ 2 ∷ 4 ∷ 5 ∷ []
statuses_told (Load l) = 0 ∷ 4 ∷ 5 ∷ []

-- those that come for what the words ask for, and where they ask for nothing
abbrev pub statuses_of : Option Request → List ℕ
statuses_of None = 2 ∷ []
statuses_of (Some (Do c)) = statuses_by c
statuses_of (Some (Tell n)) = statuses_told n

-- ---- by the host's files, the command and the input

-- this holds of the command and the input, where the words ask for one and the input is told
abbrev pub IfTold : Option Command → Option (List ℕ) → (Command → List ℕ → Type 0) → Type 0
IfTold command left P = IfSome command (λ c. IfSome left (P c))

-- the file that a command reads
abbrev pub file_of : Option Command → Option (List ℕ)
file_of None = None
file_of (Some (Make m)) = None
file_of (Some (Check k)) = Some k.file

-- the file holds a schema that knows the name
abbrev pub HasSchema : Files → Checking → Type 0
HasSchema files k = (ds : List Definition) × IsSchemaIn files k ds

-- what the command makes of the input; `check` judges each value
abbrev pub IsAnswerOf : Files → Command → List ℕ → List ℕ → Type 0
IsAnswerOf files (Make m) bytes out = IsMadeOf m bytes out
IsAnswerOf files (Check k) bytes out =
    (ds : List Definition) × IsSchemaIn files k ds × AreMade input.Text (verdict_by ds k.name) bytes out

-- the file is refused, or what a script says of its schema, with this number
abbrev pub IsBadConfigAt : Files → Command → List ℕ → ℕ → Type 0
IsBadConfigAt files (Make m) bytes n = IsUnschemedAt m bytes n
IsBadConfigAt files (Check k) bytes n = IsBadFileAt files k n

-- value n of the input is malformed, where no file is refused
abbrev pub IsBadInputAt : Files → Command → List ℕ → ℕ → Type 0
IsBadInputAt files (Make m) bytes n = IsMalformedAt m bytes n
IsBadInputAt files (Check k) bytes n = HasSchema files k × IsBadAt input.Text bytes n

-- limit w is passed, where no file is refused
abbrev pub IsOverAt : Files → Command → List ℕ → ℕ → Type 0
IsOverAt files (Make m) bytes w = PassesLimit m bytes w
IsOverAt files (Check k) bytes w = HasSchema files k × IsTooLong bytes w

-- ---- for any command, and for notices

-- the command's answer was appended
abbrev pub IsAnswered : Files → Command → List ℕ → Option (List ℕ) → Option (List ℕ) → Type 0
IsAnswered files c bytes before now = (out : List ℕ) × IsAnswerOf files c bytes out × Appends before now out

-- a front of the command's answer was appended
abbrev pub IsCut : Files → Command → List ℕ → Option (List ℕ) → Option (List ℕ) → Type 0
IsCut files c bytes before now = (out : List ℕ) × IsAnswerOf files c bytes out × AppendsFront before now out

abbrev pub IsBadInput : Files → Command → List ℕ → Type 0
IsBadInput files c bytes = (n : ℕ) × IsBadInputAt files c bytes n

abbrev pub IsOver : Files → Command → List ℕ → Type 0
IsOver files c bytes = (w : ℕ) × IsOverAt files c bytes w

abbrev pub IsBadConfig : Files → Command → List ℕ → Type 0
IsBadConfig files c bytes = (n : ℕ) × IsBadConfigAt files c bytes n

-- the notice's text was appended
abbrev pub IsShown : Notice → Option (List ℕ) → Option (List ℕ) → Type 0
IsShown n before now = (text : List ℕ) × IsTextOf n text × Appends before now text

-- a front of it was appended
abbrev pub IsShownFront : Notice → Option (List ℕ) → Option (List ℕ) → Type 0
IsShownFront n before now = (text : List ℕ) × IsTextOf n text × AppendsFront before now text

-- ---- the causes of a status

abbrev pub status_of : Fault → ℕ
status_of (fault.BadInput n) = 1
status_of fault.BadWords = 2
status_of fault.ReadFailed = 3
status_of fault.WriteFailed = 4
status_of fault.NoMemory = 5
status_of (fault.Limit w) = 6
status_of (fault.BadConfig n) = 7

-- the causes of a command that come only behind the whole input: where a file is read it is judged before
abbrev pub IsBehindInput : Command → Fault → Type 0
IsBehindInput c f = (status_of f ≢ 3) × (status_of f ≢ 5) × (status_of f ≡ 7 → file_of (Some c) ≡ None)

-- what a notice runs stops for this cause
abbrev pub StopsTelling : Notice → run.Cause → Type 0
StopsTelling (Load l) c = StopsLoad l c
StopsTelling n c = ⊥

-- the words ask for a command, of which this holds with the input where that is told, or for a notice, of which that
-- holds
abbrev pub IfAsked : Option Request → Option (List ℕ) → (Command → List ℕ → Type 0) → (Notice → Type 0) → Type 0
IfAsked None left P Q = ⊥
IfAsked (Some (Do c)) left P Q = IfSome left (P c)
IfAsked (Some (Tell n)) left P Q = Q n

-- what a cause says of what is asked for, of the host's files and of the input, with its number
abbrev pub Stands : Option Request → Files → Option (List ℕ) → Fault → Type 0
Stands o files left (fault.BadInput n) =
    IfAsked o left (λ c bytes. IsBadInputAt files c bytes n) (λ t. StopsTelling t (run.bad n))
Stands o files left fault.BadWords = IsOfTable o → ⊥
Stands o files left fault.ReadFailed = Unit {0}
Stands o files left fault.WriteFailed = Unit {0}
Stands o files left fault.NoMemory = Unit {0}
Stands o files left (fault.Limit w) =
    IfAsked o left (λ c bytes. IsOverAt files c bytes w) (λ t. StopsTelling t (run.limit w))
Stands o files left (fault.BadConfig n) =
    IfAsked o left (λ c bytes. IsBadConfigAt files c bytes n) (λ t. StopsTelling t (run.config n))

-- what a cause says of a notice
abbrev pub IsToldFault : Notice → Fault → Type 0
IsToldFault n (fault.BadInput k) = StopsTelling n (run.bad k)
IsToldFault n fault.BadWords = IsRightlyAsked n → ⊥
IsToldFault n fault.ReadFailed = ⊥
IsToldFault n fault.WriteFailed = HasText n
IsToldFault n fault.NoMemory = Unit {0}
IsToldFault n (fault.Limit w) = StopsTelling n (run.limit w)
IsToldFault n (fault.BadConfig k) = StopsTelling n (run.config k)

-- a notice isn't told, for a cause of this status
abbrev pub IsUntold : ℕ → Notice → Type 0
IsUntold status n = (f : Fault) × (status_of f ≡ status) × IsToldFault n f

abbrev pub from_script : ScriptFault → Fault
from_script (stopped.Bad n) = fault.BadInput n
from_script (stopped.Limit w) = fault.Limit w
from_script (stopped.Schema n) = fault.BadConfig n
from_script stopped.NoMemory = fault.NoMemory

abbrev pub from_input : InputFault → Fault
from_input (unread.Bad n) = fault.BadInput n
from_input unread.TooLong = fault.Limit 1
from_input unread.NoMemory = fault.NoMemory

abbrev pub from_read : ReadFault → Fault
from_read reading.Failed = fault.ReadFailed
from_read reading.NoMemory = fault.NoMemory

abbrev pub from_config : ConfigFault → Fault
from_config config.ReadFailed = fault.ReadFailed
from_config (config.Bad n) = fault.BadConfig n
from_config config.NoMemory = fault.NoMemory

abbrev pub from_words : WordsFault → Fault
from_words words.Bad = fault.BadWords
from_words words.NoMemory = fault.NoMemory

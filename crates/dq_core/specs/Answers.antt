-- The client's answers, against what an event or a packet brings by the definitions. Of want of memory nothing is said.
use Rattle.std.specs.Prelude.{◌≡◌, Result, Ok, Err}
use Rattle.dq_core.specs.declared.client.Reaction.{Reaction}
use Rattle.dq_core.specs.declared.client.QueryFault.{QueryFault}
use Rattle.dq_core.specs.declared.client.QueryFault.TheVariants as fault
use Rattle.dq_core.specs.declared.hearing.Hearing.{Hearing}
use Rattle.dq_core.specs.States.{ClientState}

-- it is this fault, or memory ran out
abbrev pub IsFaultOf : {X : Type 0} → Result X QueryFault → QueryFault → Type 0
IsFaultOf brought fault.NoMemory = Unit {0}
IsFaultOf brought f = brought ≡ Err f

-- these are the client and the reaction that a packet brings
abbrev pub IsTaken : Result (ClientState × Reaction) QueryFault → ClientState × Reaction → Type 0
IsTaken brought x = brought ≡ Ok x

-- an event or a packet left this behind, or told the fault
abbrev pub Leaves : Result Hearing QueryFault → Result (Unit {0}) QueryFault → Hearing → Type 0
Leaves brought (Ok x) now = brought ≡ Ok now
Leaves brought (Err f) now = IsFaultOf brought f

-- How far a query is, as its parts promise it to one another.
use Rattle.std.specs.Prelude.{◌≡◌, ◌⊎◌, ℕ, ◌+◌, ◌^◌, ◌≤◌, ◌<◌, List, [], length, take, ⊤}
use Rattle.std.specs.Prelude.{Option, Result, Ok, Err}
use Rattle.out_ports.specs.Ports.{Rose, Appends, AppendsFront}
use Rattle.out_ports.specs.Dialled.{ToldHearing, ToldSaying, ToldLink, OnlyHearing, OnlySaying}
use Rattle.pv_binary.specs.OneOfThree.{AreBytes}
use Rattle.rl_packet.specs.declared.packets.Packet.{Packet}
use Rattle.rl_stream.specs.declared.nexts.Next.TheVariants as next
use Rattle.rl_stream.specs.Nexts.{IsNext}
use Rattle.rl_stream.specs.Streams.{StreamState, with_bytes}
use Rattle.rl_stream.specs.Courses.{StreamCourse, ArePacketsOf, AreRead}
use Rattle.dq_core.specs.declared.client.QueryFault.{QueryFault}
use Rattle.dq_core.specs.declared.client.QueryFault.TheVariants as fault
use Rattle.dq_core.specs.declared.client.Reaction.{Reaction}
use Rattle.dq_core.specs.States.{ClientState}
use Rattle.dq_core.specs.Lines.{lines_text}
use Rattle.dq_core.specs.Reactions.{told, heard, lines_in, asks_in, turn_in}
use Rattle.dq_link.specs.declared.dialling.QueryEnd.{QueryEnd}
use Rattle.dq_link.specs.declared.dialling.QueryEnd.TheVariants as end
use Rattle.dq_link.specs.declared.asker.Asker.{Asker}
use Rattle.dq_link.specs.declared.received.Received.{Received}
use Rattle.dq_link.specs.Asked.{to_write, to_say, spelled, EndsFor, Puts, is_whole, IsAtEnd}

-- bytes have a course
abbrev pub HaveCourses : Type 0
HaveCourses = (st : StreamState) → AreBytes st.rest → (c : StreamCourse) × ArePacketsOf st c

-- ---- what is told of the link

-- only saying changes, or only hearing, and its count doesn't fall
pub record OnlySaid (before now : ToldLink) : Type 0 where
  pub rest : OnlySaying before now
  pub lasting : before.said.faults ≤ now.said.faults

pub record OnlyHeard (before now : ToldLink) : Type 0 where
  pub rest : OnlyHearing before now
  pub lasting : before.heard.faults ≤ now.heard.faults

-- the same link, over which was heard and said
pub record SameLink (before now : ToldLink) : Type 0 where
  pub address : now.address ≡ before.address
  pub dial : now.dial_faults ≡ before.dial_faults
  pub hear : before.heard.faults ≤ now.heard.faults
  pub say : before.said.faults ≤ now.said.faults

-- ---- writing and saying

abbrev pub OutputEnds : QueryEnd → ℕ → ℕ → Type 0
OutputEnds end.OutputFailed faults now = Rose faults now
OutputEnds end.NoMemory faults now = ⊤
OutputEnds e faults now = ⊥

-- these bytes are written, or a front of them
abbrev pub Written : Result (Unit {0}) QueryEnd → Option (List ℕ) → Option (List ℕ) → List ℕ → ℕ → ℕ → Type 0
Written (Ok x) before now bytes faults risen = Appends before now bytes
Written (Err e) before now bytes faults risen = OutputEnds e faults risen × AppendsFront before now bytes

abbrev pub SayEnds : QueryEnd → ℕ → ℕ → Type 0
SayEnds end.SayFailed faults now = Rose faults now
SayEnds end.NoMemory faults now = ⊤
SayEnds e faults now = ⊥

-- these bytes are said, or a front of them
abbrev pub Said : Result (Unit {0}) QueryEnd → ToldSaying → ToldSaying → List ℕ → Type 0
Said (Ok x) before now bytes = Appends before.held now.held bytes
Said (Err e) before now bytes = SayEnds e before.faults now.faults × AppendsFront before.held now.held bytes

-- ---- a reaction, where so many lines are still to be written

-- all of it was written and said, and fewer lines are left to be written
pub record IsReacted (r : Reaction) (left now : ℕ) (wrote writes said says : Option (List ℕ)) : Type 0 where
  pub fewer : length r.lines + now ≡ left
  pub some : 0 < now
  pub writing : Appends wrote writes (lines_text r.lines)
  pub saying : Appends said says (spelled (turn_in r.ask))

-- a front of the lines was written; or all of them were, and a front of what is asked was said
abbrev pub IsCut : Reaction → ℕ → Option (List ℕ) → Option (List ℕ) → Option (List ℕ) → Option (List ℕ) → Type 0
IsCut r left wrote writes said says =
    (AppendsFront wrote writes (lines_text (take left r.lines)) × (says ≡ said))
    ⊎ ((length r.lines < left) × Appends wrote writes (lines_text r.lines)
    × AppendsFront said says (spelled (turn_in r.ask)))

-- the last lines were written, and nothing more was said
pub record IsLast (r : Reaction) (left : ℕ) (wrote writes said says : Option (List ℕ)) : Type 0 where
  pub enough : left ≤ length r.lines
  pub writing : Appends wrote writes (lines_text (take left r.lines))
  pub saying : says ≡ said

abbrev pub StopsAt : Reaction → ℕ → Option (List ℕ) → Option (List ℕ) → Option (List ℕ) → Option (List ℕ) → QueryEnd
    → Type 0
StopsAt r left wrote writes said says end.Done = IsLast r left wrote writes said says
StopsAt r left wrote writes said says end.SayFailed = IsCut r left wrote writes said says
StopsAt r left wrote writes said says end.OutputFailed = IsCut r left wrote writes said says
StopsAt r left wrote writes said says end.NoMemory = IsCut r left wrote writes said says
StopsAt r left wrote writes said says e = ⊥

abbrev pub Reacts : Reaction → ℕ → Result ℕ QueryEnd → Option (List ℕ) → Option (List ℕ) → Option (List ℕ)
    → Option (List ℕ) → Type 0
Reacts r left (Ok now) wrote writes said says = IsReacted r left now wrote writes said says
Reacts r left (Err e) wrote writes said says = StopsAt r left wrote writes said says e

-- ---- a packet

abbrev pub end_of : QueryFault → QueryEnd
end_of fault.Rejected = end.Rejected
end_of fault.ServerError = end.Left
end_of fault.BadServer = end.BadServer
end_of fault.NoMemory = end.NoMemory

-- the packet is at fault, or memory ran out
abbrev pub FaultEnds : Result (ClientState × Reaction) QueryFault → QueryEnd → Type 0
FaultEnds brought end.Rejected = brought ≡ Err fault.Rejected
FaultEnds brought end.Left = brought ≡ Err fault.ServerError
FaultEnds brought end.BadServer = brought ≡ Err fault.BadServer
FaultEnds brought end.NoMemory = ⊤
FaultEnds brought e = ⊥

abbrev pub Takes : Packet → Asker → Result Asker QueryEnd → Option (List ℕ) → Option (List ℕ) → Option (List ℕ)
    → Option (List ℕ) → Type 0
Takes p a (Ok b) wrote writes said says =
    (r : Reaction) × (heard p a.client ≡ Ok (b.client, r)) × IsReacted r a.left b.left wrote writes said says
Takes p a (Err e) wrote writes said says =
    ((x : ClientState × Reaction) × (heard p a.client ≡ Ok x) × StopsAt x.1 a.left wrote writes said says e)
    ⊎ (FaultEnds (heard p a.client) e × (writes ≡ wrote) × (says ≡ said))

-- ---- packets

-- from one state of the stream to another, these packets were taken, and all that they bring was written and said
pub record IsGoing (a : Asker) (st : StreamState) (b : Asker) (left : StreamState)
    (wrote writes said says : Option (List ℕ)) : Type 0 where
  pub packets : List Packet
  pub read : AreRead packets st left
  pub follows : (told packets a.client).ends ≡ Ok b.client
  pub fewer : length (lines_in (told packets a.client).reactions) + b.left ≡ a.left
  pub writing : Appends wrote writes (lines_text (lines_in (told packets a.client).reactions))
  pub saying : Appends said says (spelled (asks_in (told packets a.client).reactions))

-- the query ended for what is left of the stream
pub record HasGone (a : Asker) (st : StreamState) (wrote writes said says : Option (List ℕ)) (count : ℕ)
    (h : ToldHearing) (e : QueryEnd) : Type 0 where
  pub course : StreamCourse
  pub is : ArePacketsOf st course
  pub ends : EndsFor a.left (told course.packets a.client) course count h e
  pub writing : Puts (is_whole e) wrote writes (to_write a.left (told course.packets a.client))
  pub saying : Puts (is_whole e) said says (spelled (to_say a.left (told course.packets a.client)))

-- the end doesn't hang on the link
abbrev pub HasGoneAnyway : Asker → StreamState → Option (List ℕ) → Option (List ℕ) → Option (List ℕ)
    → Option (List ℕ) → QueryEnd → Type 0
HasGoneAnyway a st wrote writes said says e = (count : ℕ) (h : ToldHearing)
    → HasGone a st wrote writes said says count h e

abbrev pub GoesOn : Asker → Received → Received → Option (List ℕ) → Option (List ℕ) → Option (List ℕ)
    → Option (List ℕ) → Result Asker QueryEnd → Type 0
GoesOn a old new wrote writes said says (Ok b) =
    IsGoing a old.stream b new.stream wrote writes said says
    × IsNext new.stream.rest new.stream.place next.Waits × (new.count ≡ old.count)
GoesOn a old new wrote writes said says (Err e) = HasGoneAnyway a old.stream wrote writes said says e

-- ---- a piece

abbrev pub Hears : List ℕ → Received → Received → ToldHearing → Result (Unit {0}) QueryEnd → Type 0
Hears m old new h (Ok x) =
    (new.stream ≡ with_bytes m old.stream) × (new.count ≡ old.count + length m) × (old.count < new.count)
Hears m old new h (Err end.Spent) = (m ≡ []) × (old.count ≡ 2 ^ 40)
Hears m old new h (Err end.Left) = (m ≡ []) × IsAtEnd h
Hears m old new h (Err end.HearFailed) = m ≡ []
Hears m old new h (Err end.NoMemory) = ⊤
Hears m old new h (Err e) = ⊥

abbrev pub GoesRound : List ℕ → Asker → Received → Received → Option (List ℕ) → Option (List ℕ) → Option (List ℕ)
    → Option (List ℕ) → ToldHearing → Result Asker QueryEnd → Type 0
GoesRound m a old new wrote writes said says h (Ok b) =
    IsGoing a (with_bytes m old.stream) b new.stream wrote writes said says
    × (new.count ≡ old.count + length m) × (old.count < new.count)
GoesRound m a old new wrote writes said says h (Err e) =
    HasGone a (with_bytes m old.stream) wrote writes said says (old.count + length m) h e

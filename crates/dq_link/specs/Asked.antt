-- What a query writes and says for the bytes that a server sent, and why it ends.
--
-- The packets of the bytes bring lines and asks, up to the first packet that is at fault. The first lines are written,
-- as many as are asked for. The first turn is said, and then what is asked for each packet before the one with the last
-- of these lines.
use Rattle.std.specs.Prelude.{◌≡◌, ◌⊎◌, ℕ, ◌+◌, ◌-◌, ◌^◌, ◌≤◌, ◌<◌, Bool, true, false, List, ◌∷◌, ◌++◌, length, take, ⊤}
use Rattle.std.specs.Prelude.{Option, Some, IfSome, Err, is_ok}
use Rattle.std.specs.List.{flat_map}
use Rattle.out_ports.specs.Ports.{Rose, Appends, AppendsFront}
use Rattle.out_ports.specs.Dialled.{ToldHearing, ToldLink}
use Rattle.pv_binary.specs.Written.{written}
use Rattle.rl_packet.specs.Packets.{turn_value}
use Rattle.rl_packet.specs.declared.packets.Turn.{Turn as TurnRecord}
use Rattle.rl_stream.specs.Streams.{no_stream, with_bytes}
use Rattle.rl_stream.specs.Courses.{StreamCourse, ArePacketsOf, is_waiting}
use Rattle.dq_core.specs.declared.client.QueryFault.TheVariants as fault
use Rattle.dq_core.specs.States.{ClientState}
use Rattle.dq_core.specs.Lines.{lines_text}
use Rattle.dq_core.specs.Reactions.{Told, told, lines_in, asks_in, before_line}
use Rattle.dq_link.specs.declared.dialling.QueryEnd.{QueryEnd}
use Rattle.dq_link.specs.declared.dialling.QueryEnd.TheVariants as end

-- these bytes were heard: where the host tells what is left to be heard, they were the first of it; and they are
-- counted, as long as the count isn't at its end; where the link ended meanwhile, they were all of it
pub record AreHeard (b : List ℕ) (before now : ToldHearing) : Type 0 where
  pub told : IfSome before.left (λ bytes. (rest : List ℕ) × (bytes ≡ b ++ rest) × (now.left ≡ Some rest))
  pub counted : now.given < 2 ^ 64 - 1 → now.given ≡ before.given + length b
  pub all : before.ended ≡ false → now.ended ≡ true → IfSome before.left (λ bytes. bytes ≡ b)

-- ---- what is written and said, where n lines are asked for and the packets bring this

-- the text of the first n lines
abbrev pub to_write : ℕ → Told → List ℕ
to_write n t = lines_text (take n (lines_in t.reactions))

-- what is asked for the packets before the one with the n-th line
abbrev pub to_say : ℕ → Told → List TurnRecord
to_say n t = asks_in (before_line n t.reactions)

abbrev pub spelled : List TurnRecord → List ℕ
spelled ts = flat_map (λ t. written (turn_value t)) ts

-- ---- why a query ends

-- fewer than n lines are brought
abbrev pub AreFew : ℕ → Told → Type 0
AreFew n t = length (lines_in t.reactions) < n

-- all packets were taken without a fault, and more is to come
abbrev pub IsWaiting : ℕ → Told → StreamCourse → Type 0
IsWaiting n t c = AreFew n t × (is_ok t.ends ≡ true) × (is_waiting c.ends ≡ true)

-- all packets were taken without a fault, and behind them stands what is no packet
abbrev pub IsBroken : Told → StreamCourse → Type 0
IsBroken t c = (is_ok t.ends ≡ true) × (is_waiting c.ends ≡ false)

-- the link has ended
abbrev pub IsAtEnd : ToldHearing → Type 0
IsAtEnd h = h.ended ≡ true

-- n lines are asked for, the packets of this course bring this, and so many bytes were heard
abbrev pub EndsFor : ℕ → Told → StreamCourse → ℕ → ToldHearing → QueryEnd → Type 0
EndsFor n t c count h end.Done = n ≤ length (lines_in t.reactions)
EndsFor n t c count h end.DialFailed = count ≡ 0
EndsFor n t c count h end.Rejected = AreFew n t × (t.ends ≡ Err fault.Rejected)
EndsFor n t c count h end.Spent = IsWaiting n t c × (count ≡ 2 ^ 40)
EndsFor n t c count h end.Left = (AreFew n t × (t.ends ≡ Err fault.ServerError)) ⊎ (IsWaiting n t c × IsAtEnd h)
EndsFor n t c count h end.BadServer = AreFew n t × ((t.ends ≡ Err fault.BadServer) ⊎ IsBroken t c)
EndsFor n t c count h end.HearFailed = IsWaiting n t c
EndsFor n t c count h e = ⊤

-- an end before which all is written and said that is due; before the others a front of it is
abbrev pub is_whole : QueryEnd → Bool
is_whole end.DialFailed = false
is_whole end.SayFailed = false
is_whole end.OutputFailed = false
is_whole end.NoMemory = false
is_whole e = true

-- these bytes come behind those that were there before, all of them or a front
abbrev pub Puts : Bool → Option (List ℕ) → Option (List ℕ) → List ℕ → Type 0
Puts true before now bytes = Appends before now bytes
Puts false before now bytes = AppendsFront before now bytes

-- a client that says this turn first and wants n lines has heard these bytes: what was written before and now, what was
-- said before and now, what is told of hearing now, and why it ended
pub record HasAsked (first : TurnRecord) (client : ClientState) (n : ℕ) (b : List ℕ)
    (wrote writes said says : Option (List ℕ)) (h : ToldHearing) (e : QueryEnd) : Type 0 where
  pub course : StreamCourse
  pub is : ArePacketsOf (with_bytes b no_stream) course
  pub ends : EndsFor n (told course.packets client) course (length b) h e
  pub writing : Puts (is_whole e) wrote writes (to_write n (told course.packets client))
  pub saying : Puts (is_whole e) said says (spelled (first ∷ to_say n (told course.packets client)))

-- an end behind a dial that was answered
abbrev pub is_behind_dial : QueryEnd → Bool
is_behind_dial end.DialFailed = false
is_behind_dial end.NoMemory = false
is_behind_dial e = true

-- ---- counts of faults, of the link and of the output, before and now

-- which one rose
abbrev pub CauseOf : QueryEnd → ToldLink → ToldLink → ℕ → ℕ → Type 0
CauseOf end.DialFailed before now output outputs = Rose before.dial_faults now.dial_faults
CauseOf end.HearFailed before now output outputs = Rose before.heard.faults now.heard.faults
CauseOf end.SayFailed before now output outputs = Rose before.said.faults now.said.faults
CauseOf end.OutputFailed before now output outputs = Rose output outputs
CauseOf e before now output outputs = ⊤

-- none fell
pub record NoneFell (before now : ToldLink) (faults risen : ℕ) : Type 0 where
  pub dial : before.dial_faults ≤ now.dial_faults
  pub hear : before.heard.faults ≤ now.heard.faults
  pub say : before.said.faults ≤ now.said.faults
  pub output : faults ≤ risen

-- ---- what is told of a host besides the link that it dials

-- its files, where it accepts and whether it is closed, how many links it gave and how often it stopped, and how often a
-- file, a port and an accept failed
pub record HostRest : Type 0 where
  pub files : Option (List (List ℕ × List ℕ))
  pub address : Option (List ℕ)
  pub closed : Bool
  pub gave : ℕ
  pub stops : ℕ
  pub file_faults : ℕ
  pub port_faults : ℕ
  pub accept_faults : ℕ

abbrev pub rest_of : Option (List (List ℕ × List ℕ)) → Option (List ℕ) → Bool → ℕ → ℕ → ℕ → ℕ → ℕ → HostRest
rest_of files address closed gave stops file_faults port_faults accept_faults = record {
  files = files;
  address = address;
  closed = closed;
  gave = gave;
  stops = stops;
  file_faults = file_faults;
  port_faults = port_faults;
  accept_faults = accept_faults;
}

-- all of it stays, and no count of faults falls
pub record RestStays (before now : HostRest) : Type 0 where
  pub files : now.files ≡ before.files
  pub address : now.address ≡ before.address
  pub closed : now.closed ≡ before.closed
  pub gave : now.gave ≡ before.gave
  pub stops : now.stops ≡ before.stops
  pub file_lasting : before.file_faults ≤ now.file_faults
  pub port_lasting : before.port_faults ≤ now.port_faults
  pub accept_lasting : before.accept_faults ≤ now.accept_faults

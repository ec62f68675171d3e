-- A listener in memory: what it answers to an accept, and what it is then.
use Rattle.std.specs.Prelude.{ℕ, Bool, true, false, List, [], ◌∷◌, drop, if◌then◌else◌}
use Rattle.out_ports.specs.declared.ports.Accepted.{Accepted}
use Rattle.out_ports.specs.declared.ports.Accepted.TheVariants as accepted
use Rattle.out_ports.specs.declared.memory.links.MemLink.{MemLink}
use Rattle.out_ports.specs.Ports.{raised, gave_after, stops_after}
use Rattle.out_ports.specs.MemSource.{ToldSource}
use Rattle.out_ports.specs.MemSink.{ToldSink}
use Rattle.out_ports.specs.Calls.{CallCounts, before_calls, is_next_listed, after_call}

-- the links that are left, how many were given, how often it stopped, the calls, and whether it was closed
pub record ToldListen : Type 0 where
  pub links : List MemLink
  pub gave : ℕ
  pub stops : ℕ
  pub calls : CallCounts
  pub closed : Bool

-- a listener with these links, before the first accept
abbrev pub listener_of : List MemLink → List ℕ → ToldListen
listener_of links failing = record {
  links = links;
  gave = 0;
  stops = 0;
  calls = before_calls failing;
  closed = false;
}

-- the first link, or a stop where none is left
abbrev pub first_link : List MemLink → Accepted ToldSource ToldSink
first_link [] = accepted.Stopped
first_link (link ∷ links) = accepted.Link link.reads link.writes

-- the answer to an accept, where it isn't closed
abbrev pub open_answer : ToldListen → Accepted ToldSource ToldSink
open_answer listen = if is_next_listed listen.calls then accepted.Failed else first_link listen.links

-- the answer to an accept: one that is closed stops
abbrev pub accept_answer : ToldListen → Accepted ToldSource ToldSink
accept_answer listen = if listen.closed then accepted.Stopped else open_answer listen

-- the links that are left after an accept
abbrev pub links_after : Accepted ToldSource ToldSink → List MemLink → List MemLink
links_after (accepted.Link reads writes) links = drop 1 links
links_after accepted.Stopped links = links
links_after accepted.Nobody links = links
links_after accepted.Failed links = links
links_after accepted.NoMemory links = links

-- whether an accept failed
abbrev pub accept_failed : Accepted ToldSource ToldSink → Bool
accept_failed (accepted.Link reads writes) = false
accept_failed accepted.Stopped = false
accept_failed accepted.Nobody = false
accept_failed accepted.Failed = true
accept_failed accepted.NoMemory = false

-- the listener after one stop more, which is no call
abbrev pub after_stop : ToldListen → ToldListen
after_stop listen = record listen { stops = raised 1 listen.stops }

-- the listener after an accept, where it isn't closed
abbrev pub after_open_accept : Accepted ToldSource ToldSink → ToldListen → ToldListen
after_open_accept answer listen = record {
  links = links_after answer listen.links;
  gave = gave_after answer listen.gave;
  stops = stops_after answer listen.stops;
  calls = after_call (accept_failed answer) listen.calls;
  closed = listen.closed;
}

-- the listener after an accept
abbrev pub after_accept : Accepted ToldSource ToldSink → ToldListen → ToldListen
after_accept answer listen = if listen.closed then after_stop listen else after_open_accept answer listen

-- A host in memory: what it answers to an accept, for which files, ports and dials it fails, and what it is then.
use Rattle.std.specs.Prelude.{ℕ, Bool, false, ◌||◌, List, [], Option, None, Some, is_none, map, if◌then◌else◌}
use Rattle.std.specs.String.{string_bytes}
use Rattle.out_ports.specs.declared.ports.Accepted.{Accepted}
use Rattle.out_ports.specs.declared.ports.Accepted.TheVariants as accepted
use Rattle.out_ports.specs.declared.memory.host.MemFile.{MemFile}
use Rattle.out_ports.specs.Ports.{contents_of}
use Rattle.out_ports.specs.Dialled.{ToldLink}
use Rattle.out_ports.specs.MemSource.{ToldSource, source_of}
use Rattle.out_ports.specs.MemSink.{ToldSink, sink_of}
use Rattle.out_ports.specs.MemListen.{ToldListen, accept_answer, after_accept, after_stop}
use Rattle.out_ports.specs.Calls.{CallCounts, before_calls, is_next_listed, after_call}

-- the files' names and contents
abbrev pub told_files : List MemFile → List (List ℕ × List ℕ)
told_files files = map (λ file. (string_bytes file.name, file.bytes.items)) files

-- the files, the listener, where the port is, the address that was dialled last, what the dialled peer says and what was
-- said to it, and the calls of `file`, of `port` and of `dial`
pub record ToldHost : Type 0 where
  pub files : List (List ℕ × List ℕ)
  pub listen : ToldListen
  pub address : Option (List ℕ)
  pub file_calls : CallCounts
  pub port_calls : CallCounts
  pub dialled : Option (List ℕ)
  pub dial_calls : CallCounts
  pub hears : ToldSource
  pub says : ToldSink

-- a host without a port, before the first call, whose dials are answered by a peer that says and takes nothing
abbrev pub host_of : List (List ℕ × List ℕ) → ToldListen → List ℕ → List ℕ → ToldHost
host_of files listen failing_files failing_ports = record {
  files = files;
  listen = listen;
  address = None;
  file_calls = before_calls failing_files;
  port_calls = before_calls failing_ports;
  dialled = None;
  dial_calls = before_calls [];
  hears = source_of [] 1 [];
  says = sink_of 0 [];
}

-- the host whose dials fail at these calls, counted from now, and else are answered by a peer that says this and takes
-- what this sink has room for
abbrev pub with_peer : ToldSource → ToldSink → List ℕ → ToldHost → ToldHost
with_peer hears says failing host = record {
  files = host.files;
  listen = host.listen;
  address = host.address;
  file_calls = host.file_calls;
  port_calls = host.port_calls;
  dialled = host.dialled;
  dial_calls = before_calls failing;
  hears = hears;
  says = says;
}

-- what is told of the dialled link
abbrev pub link_of : ToldHost → ToldLink
link_of host = record {
  address = host.dialled;
  dial_faults = host.dial_calls.faults;
  heard = record {
    left = Some host.hears.left;
    given = host.hears.given;
    ended = host.hears.ended;
    faults = host.hears.calls.faults;
  };
  said = record { held = Some host.says.held; faults = host.says.calls.faults };
}

-- the answer to an accept: that of the listener, or a stop where there is no port
abbrev pub host_answer : Option (List ℕ) → ToldListen → Accepted ToldSource ToldSink
host_answer None listen = accepted.Stopped
host_answer (Some address) listen = accept_answer listen

-- the listener after an accept; without a port its links and its calls stay
abbrev pub listener_after : Option (List ℕ) → Accepted ToldSource ToldSink → ToldListen → ToldListen
listener_after None answer listen = after_stop listen
listener_after (Some address) answer listen = after_accept answer listen

-- the host after an accept
abbrev pub after_host_accept : Accepted ToldSource ToldSink → ToldHost → ToldHost
after_host_accept answer host = record host { listen = listener_after host.address answer host.listen }

-- whether `file` fails: the call is to fail, or no file has the name
abbrev pub file_fails : ToldHost → List ℕ → Bool
file_fails host name = is_next_listed host.file_calls || is_none (contents_of name host.files)

-- the host after a call of `file`
abbrev pub after_file : ToldHost → List ℕ → ToldHost
after_file host name = record host { file_calls = after_call (file_fails host name) host.file_calls }

-- the host after a call of `port`, which opened one or didn't; one that is open accepts, though it was closed before
abbrev pub after_port : ToldHost → List ℕ → Bool → ToldHost
after_port host address opened = record host {
  listen = if opened then record host.listen { closed = false } else host.listen;
  address = if opened then Some address else host.address;
  port_calls = after_call (is_next_listed host.port_calls) host.port_calls;
}

-- the host after a dial, which was answered or wasn't
abbrev pub after_dial : ToldHost → List ℕ → Bool → ToldHost
after_dial host address answered = record host {
  dialled = if answered then Some address else host.dialled;
  dial_calls = after_call (is_next_listed host.dial_calls) host.dial_calls;
}

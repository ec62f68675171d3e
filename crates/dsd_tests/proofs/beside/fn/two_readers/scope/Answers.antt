-- A reader may go to another thread: what it shares is the gate and the counts, and the hub in the gate crosses.
use denote.Param.Send.{sendable}
use Rattle.std.proofs.Crossing.{crosses}
use Rattle.srv_session.proofs.seated.Seated.TheSendSync as seated
use Rattle.srv_serve.proofs.Sending.{served_send, served_step_send}
use Rattle.dsd_tests.proofs.beside.Counts.TheSendSync as counts
use Rattle.dsd_tests.proofs.beside.Held.TheSendSync as held
use Rattle.dsd_tests.proofs.beside.Reader.TheSendSync as reader
use Rattle.dsd_tests.proofs.beside.fn.two_readers.scope.Goals as goal

pub start_in-requires-send-J : goal.start_in-requires-send-J
start_in-requires-send-J g c κs within =
    search (
      reader.the_send,
      held.the_send,
      counts.the_send,
      counts.the_sync,
      crosses,
      seated.the_send,
      served_send,
      served_step_send,
      sendable,
    ) depth 60 fits 20000

pub start_in-requires-2-send-J : goal.start_in-requires-2-send-J
start_in-requires-2-send-J g c κs within =
    search (
      reader.the_send,
      held.the_send,
      counts.the_send,
      counts.the_sync,
      crosses,
      seated.the_send,
      served_send,
      served_step_send,
      sendable,
    ) depth 60 fits 20000

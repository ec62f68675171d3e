-- The counted index goes to other threads.
use denote.Param.Send.{sendable}
use Rattle.dsd_serve.proofs.Sending.{skeleton_send}
use Rattle.dsd_tests.proofs.beside.both_get_on.Goals as goal

pub two_readers-requires-send-S : goal.two_readers-requires-send-S
two_readers-requires-send-S g c κs within = search (skeleton_send, sendable) depth 20

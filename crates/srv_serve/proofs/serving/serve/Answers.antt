-- A worker and a session may go to other threads: what they share is the gate, and the hub in it crosses.
use denote.Param.Send.{sendable}
use Rattle.srv_desk.proofs.jobs.Worker.TheSendSync as worker
use Rattle.srv_desk.proofs.jobs.Session.TheSendSync as session
use Rattle.srv_serve.proofs.Sending.{served_send, served_step_send}
use Rattle.srv_serve.proofs.serving.serve.Goals as goal

pub beside_workers-listener-requires-send-V : goal.beside_workers-listener-requires-send-V
beside_workers-listener-requires-send-V g c κs within =
    search (worker.the_send, served_send, served_step_send, sendable) depth 60 fits 20000

pub beside_workers-listener-requires-send-J : goal.beside_workers-listener-requires-send-J
beside_workers-listener-requires-send-J g c κs within =
    search (session.the_send, served_send, served_step_send, sendable) depth 60 fits 20000

use Rattle.std.proofs.Common.{[], sym}
use Rattle.std.proofs.lemmas.List.{append-nil}
use Rattle.srv_turns.proofs.worker.serve_worker.Goals as goal

pub returns-in_default : goal.returns-in_default
returns-in_default g c = ([], sym (append-nil _), tt)

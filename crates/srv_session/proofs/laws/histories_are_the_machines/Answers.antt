use Rattle.std.proofs.Common.{sym, ◌∙◌}
use Rattle.hub_machine.specs.State.{opening}
use Rattle.hub_machine.specs.Replays.{replay}
use Rattle.srv_session.specs.Laws.{machine_steps}
use Rattle.srv_session.proofs.Running.{runs, run_from-behind, allowed_behind}
use Rattle.srv_session.proofs.laws.histories_are_the_machines.Goals as goal

pub returns : goal.returns
returns g c ds before h es may is legal =
    let run : _ = runs h (replay ds before) es is legal in
    record {
      state = run.0 ∙ sym (run_from-behind (opening ds) before (machine_steps es));
      allowed = allowed_behind (opening ds) before (machine_steps es) may run.1;
      replies = run.2;
    }

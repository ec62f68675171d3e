-- What is left are those below the next number.
use Rattle.std.proofs.Common.{◌≡◌, ◌≤◌, filter}
use Rattle.std.specs.Prelude.{nat_lt}
use Rattle.rl_ports.proofs.export_list.ExportList.cut.Given as goal

abbrev pub invariant-loop-self : goal.invariant-loop-self
invariant-loop-self l =
    record {
      kept : l.self.kept ≡ filter (λ e. nat_lt e.0 l.self.next) l.fn.self.kept;
      above : l.next ≤ l.self.next;
    }

abbrev pub decreases-loop-self : goal.decreases-loop-self
decreases-loop-self l = l.self.next

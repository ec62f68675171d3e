-- Those that are idle of the numbers so far are gone; with those that are left all go.
use Rattle.std.proofs.Common.{◌≡◌, drop}
use Rattle.rl_ports.specs.Ports.{has_number}
use Rattle.rl_ports.specs.Kept.{released_where}
use Rattle.rl_ports.proofs.export_list.ExportList.release_all.Given as goal

abbrev pub invariant-loop-number : goal.invariant-loop-number
invariant-loop-number l =
    record {
      kept : released_where (λ n. has_number n (drop l.number-index l.numbers)) l.self.kept
          ≡ released_where (λ n. has_number n l.numbers) l.fn.self.kept;
      next : l.self.next ≡ l.fn.self.next;
    }

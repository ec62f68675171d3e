-- Those that are idle of the numbers so far are gone.
use Rattle.std.proofs.Common.{◌≡◌, ◌&&◌}
use Rattle.std.specs.Prelude.{nat_le, nat_lt}
use Rattle.rl_ports.specs.Kept.{released_where}
use Rattle.rl_ports.proofs.export_list.ExportList.release_from.Given as goal

abbrev pub invariant-loop-number : goal.invariant-loop-number
invariant-loop-number l =
    record {
      kept : l.self.kept ≡ released_where (λ n. nat_le l.first n && nat_lt n l.number) l.fn.self.kept;
      next : l.self.next ≡ l.fn.self.next;
    }

-- Those that are idle of the notes so far are gone; with those that are left all go.
use Rattle.std.proofs.Common.{◌≡◌, drop}
use Rattle.std.specs.List.{list_any}
use Rattle.rl_ports.specs.Ports.{has_number}
use Rattle.rl_ports.specs.Kept.{released_where}
use Rattle.rl_ports.proofs.export_list.ExportList.release_noted.Given as goal

abbrev pub invariant-loop-note : goal.invariant-loop-note
invariant-loop-note l =
    record {
      kept : released_where (λ n. list_any (has_number n) (drop l.note-index l.notes)) l.self.kept
          ≡ released_where (λ n. list_any (has_number n) l.notes) l.fn.self.kept;
      next : l.self.next ≡ l.fn.self.next;
    }

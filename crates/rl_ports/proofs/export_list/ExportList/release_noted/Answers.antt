-- One note more, and those that are left.
use Rattle.std.proofs.Common.{◌≡◌, ◌+◌, ◌∷◌, ◌∙◌, ap, sym, drop, ℕ, List}
use Rattle.std.specs.List.{list_any}
use Rattle.rl_ports.specs.Ports.{has_number}
use Rattle.rl_ports.specs.Kept.{Listed, released_where}
use Rattle.rl_ports.proofs.Keeps.{released_both, released_none, drop_end, drop_first}
use Rattle.rl_ports.proofs.export_list.ExportList.release_noted.Goals as goal

pub loop-note-preserved : goal.loop-note-preserved
loop-note-preserved c =
    let ns = c.args.notes.now in
    let i = c.loop-note.note-index in
    let x = c.note-item.result in
    let kept = c.loop-note.self.kept in
    let later = drop (i + 1) ns in
    let first : drop i ns ≡ x ∷ later =
    drop_first ns i x c.loop-note-test.true ∙ ap (λ (y : List ℕ). y ∷ later) (sym c.note-item.is) in
    record {
      kept = ap (λ (l : Listed). released_where (λ n. list_any (has_number n) later) l.kept)
          (c.release_all.ensures ∙ ap (λ (ms : List ℕ). record {
            kept = released_where (λ n. has_number n ms) kept;
            next = c.loop-note.self.next;
          }) c.as_slice.ensures.same)
          ∙ released_both (λ n. has_number n x) (λ n. list_any (has_number n) later) kept
          ∙ ap (λ (ms : List (List ℕ)). released_where (λ n. list_any (has_number n) ms) kept) (sym first)
          ∙ c.loop-note.invariant.kept;
      next = ap (λ (l : Listed). l.next) c.release_all.ensures ∙ c.loop-note.invariant.next;
    }

pub returns : goal.returns
returns c =
    let ns = c.args.notes.now in
    let i = c.loop-note.note-index in
    let kept = c.loop-note.self.kept in
    let is = sym (released_none kept)
    ∙ ap (λ (ms : List (List ℕ)). released_where (λ n. list_any (has_number n) ms) kept)
    (sym (drop_end i ns c.loop-note-test.false))
    ∙ c.loop-note.invariant.kept in
    λ j. record { kept = is j; next = c.loop-note.invariant.next j }

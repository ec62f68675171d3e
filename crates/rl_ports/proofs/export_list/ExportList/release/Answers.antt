-- An idle export of this number goes; where there is none nothing does.
use Rattle.std.proofs.Common.{◌≡◌, ◌==◌, ◌∙◌, sym, ap, subst, ℕ, List}
use Rattle.std.specs.BTreeMap.{is_at}
use Rattle.std.specs.Map.{remove_entry}
use Rattle.std.specs.Ordering.{nat_cmp}
use Rattle.rl_ports.specs.Kept.{Export, Listed, released_where}
use Rattle.rl_ports.proofs.Keeps.{idle_released, one_stays}
use Rattle.rl_ports.proofs.export_list.ExportList.release.Goals as goal

pub returns-then-is_idle : goal.returns-then-is_idle
returns-then-is_idle c =
    let i = c.self.inside in
    let n = c.args.number in
    let e = c.if-is_idle.ensures in
    let same = idle_released n i.kept.entries e.ordered (sym e.idle) in
    c.take.ensures ∙ subst (λ (l : Listed). record { kept = remove_entry (is_at (nat_cmp n)) l.kept; next = l.next }
    ≡ record { kept = released_where (λ m. n == m) l.kept; next = l.next }) c.self.view_is
    (ap (λ (es : List (ℕ × Export)). record { kept = es; next = i.next }) same)

pub returns-else-is_idle : goal.returns-else-is_idle
returns-else-is_idle c =
    let i = c.self.inside in
    let n = c.args.number in
    let e = c.if-is_idle.ensures in
    let same = one_stays n i.kept.entries e.ordered (sym e.idle) in
    subst (λ (l : Listed). l ≡ record { kept = released_where (λ m. n == m) l.kept; next = l.next }) c.self.view_is
    (ap (λ (es : List (ℕ × Export)). record { kept = es; next = i.next }) (sym same))

-- Marks change neither numbers nor references, and take no pin away.
use Rattle.std.proofs.Common.{sym, subst, refl, ℕ, List}
use Rattle.rl_ports.specs.Kept.{Export, raised, table_of, IsKept, IsFirstPinned}
use Rattle.rl_ports.proofs.Keeps.{marked_kept, first_marked}
use Rattle.rl_ports.proofs.export_list.ExportList.raise.Goals as goal

pub invariant_of-self : goal.invariant_of-self
invariant_of-self c =
    let i = c.self.inside in
    subst (λ (es : List (ℕ × Export)). IsKept (table_of (record { kept = es; next = i.next })) i.numbers.entries i.weight
    × IsFirstPinned es) (sym c.raise.ensures) (
      marked_kept raised (λ e. refl) c.args.numbers.now i.kept.entries i.next i.numbers.entries i.weight
          c.self.invariant.0,
      first_marked raised (λ e is. is) c.args.numbers.now i.kept.entries c.self.invariant.1,
    )

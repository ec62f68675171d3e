-- The last entry comes to those gathered behind it.
use Rattle.std.proofs.Common.{◌∙◌, sym, ap}
use Rattle.rl_wire.proofs.Gathers.{entries_onto, entries_all, entries_last}
use Rattle.rl_wire.proofs.gathering.gathered_by_keys.Goals as goal

pub loop-entry-init : goal.loop-entry-init
loop-entry-init c = rw c.new-gathered.ensures.empty (entries_all c.args.entries.items)

pub loop-entry-preserved : goal.loop-entry-preserved
loop-entry-preserved c =
    ap (λ ps. entries_onto ps c.pop.new.self.items) c.in_ok-put.ensures
    ∙ sym (entries_last c.loop-entry.gathered.entries c.pop.new.self.items c.in-Some.entry)
    ∙ ap (entries_onto c.loop-entry.gathered.entries) (sym c.in-Some.ensures.items)
    ∙ c.loop-entry.invariant

use Rattle.std.proofs.Common.{not, ap, sym, ◌∙◌}
use Rattle.ds_rows.proofs.Counted.{Rows, counted_out, counted_among}
use Rattle.ds_rows.proofs.rows.Rows.remove.Goals as goal

pub invariant_of-self-2 : goal.invariant_of-self-2
invariant_of-self-2 c =
    let rows : Rows = c.self.inside.by_handle.entries in
    counted_out rows c.remove.new.self.entries c.args.handle c.in_ok-value.value c.self.inside.by_value.entries
    c.count_out-last.new.counts.entries c.self.invariant (sym c.in_ok-value.ensures.value)
    c.in_ok-value.ensures.entries c.count_out-last.ensures.counts

pub returns-clause-last : goal.returns-clause-last
returns-clause-last c =
    let rows : Rows = c.self.inside.by_handle.entries in
    let v = c.in_ok-value.value in
    let left : Rows = c.remove.new.self.entries in
    let counts = c.count_out-last.new.counts.entries in
    c.count_out-last.ensures.last
    ∙ ap not
    (counted_among left counts
    (counted_out rows left c.args.handle v c.self.inside.by_value.entries counts c.self.invariant
    (sym c.in_ok-value.ensures.value) c.in_ok-value.ensures.entries c.count_out-last.ensures.counts) v)

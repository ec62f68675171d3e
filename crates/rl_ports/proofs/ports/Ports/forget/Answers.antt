-- What was exported since goes, with no note and no pin.
use Rattle.std.proofs.Common.{◌∙◌, ap, sym, subst, arith, filter}
use Rattle.std.specs.Prelude.{nat_lt, vec_capacity}
use Rattle.std.specs.List.{AllByRecursion}
use Rattle.rl_ports.specs.Ports.{PortsState, AreGiven, with_exports}
use Rattle.rl_ports.specs.Kept.{Listed, AreCounted, table_of, pins}
use Rattle.rl_ports.proofs.Counts.{counted_below, pins_below, shown_below}
use Rattle.rl_ports.proofs.ports.Ports.forget.Goals as goal

pub invariant_of-self : goal.invariant_of-self
invariant_of-self c =
    let i = c.self.inside in
    let n = c.args.next in
    subst (λ (l : Listed). AreCounted l i.notes.entries n i.dropped.items (vec_capacity i.dropped))
    (sym c.truncate.ensures)
    (counted_below i.exports i.notes.entries i.settled n n i.dropped.items (vec_capacity i.dropped) c.self.invariant
    (subst (λ (p : PortsState). AllByRecursion (λ e. AreGiven n e.1) p.notes) (sym c.self.view_is) c.requires.noted)
    (omega (arith, c.if-next-self.true)) (omega arith))

pub invariant_of-self-else-next-self : goal.invariant_of-self-else-next-self
invariant_of-self-else-next-self c =
    let i = c.self.inside in
    let n = c.args.next in
    subst (λ (l : Listed). AreCounted l i.notes.entries i.settled i.dropped.items (vec_capacity i.dropped))
    (sym c.truncate.ensures)
    (counted_below i.exports i.notes.entries i.settled i.settled n i.dropped.items (vec_capacity i.dropped)
    c.self.invariant
    (subst (λ (p : PortsState). AllByRecursion (λ e. AreGiven n e.1) p.notes) (sym c.self.view_is) c.requires.noted)
    (omega arith) (omega (arith, c.if-next-self.false)))

pub returns-then-next-self : goal.returns-then-next-self
returns-then-next-self c =
    let i = c.self.inside in
    let n = c.args.next in
    let kept = i.exports.kept in
    ap (λ (x : Listed). record {
      exports = table_of x;
      pinned = pins x.kept;
      notes = i.notes.entries;
      handles = i.handles.entries;
      dialect = i.dialect;
    }) c.truncate.ensures
    ∙ (λ j. record {
      exports = record { in_force = shown_below n kept j; next = n };
      pinned = pins_below n kept (subst (λ (p : PortsState). AreGiven n p.pinned) (sym c.self.view_is)
          c.requires.pinned) j;
      notes = i.notes.entries;
      handles = i.handles.entries;
      dialect = i.dialect;
    })
    ∙ ap (λ (p : PortsState).
    with_exports (record { in_force = filter (λ e. nat_lt e.0 n) p.exports.in_force; next = n }) p) c.self.view_is

pub returns-else-next-self : goal.returns-else-next-self
returns-else-next-self c =
    let i = c.self.inside in
    let n = c.args.next in
    let kept = i.exports.kept in
    ap (λ (x : Listed). record {
      exports = table_of x;
      pinned = pins x.kept;
      notes = i.notes.entries;
      handles = i.handles.entries;
      dialect = i.dialect;
    }) c.truncate.ensures
    ∙ (λ j. record {
      exports = record { in_force = shown_below n kept j; next = n };
      pinned = pins_below n kept (subst (λ (p : PortsState). AreGiven n p.pinned) (sym c.self.view_is)
          c.requires.pinned) j;
      notes = i.notes.entries;
      handles = i.handles.entries;
      dialect = i.dialect;
    })
    ∙ ap (λ (p : PortsState).
    with_exports (record { in_force = filter (λ e. nat_lt e.0 n) p.exports.in_force; next = n }) p) c.self.view_is

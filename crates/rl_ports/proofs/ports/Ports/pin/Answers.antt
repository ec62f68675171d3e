-- A pin changes no count, and comes to the pins that are there.
use Rattle.std.proofs.Common.{◌∙◌, ap, sym, subst, refl, ℕ, List}
use Rattle.std.specs.Prelude.{vec_capacity}
use Rattle.std.specs.List.Sorted.{IsStrictlySortedBy}
use Rattle.std.specs.Ordering.{nat_cmp}
use Rattle.rl_ports.specs.Ports.{pinned_with}
use Rattle.rl_ports.specs.Kept.{Listed, AreCounted, table_of, pins, with_pin}
use Rattle.rl_ports.proofs.Entries.{keys_shown}
use Rattle.rl_ports.proofs.Marks.{shown_marked}
use Rattle.rl_ports.proofs.Counts.{counted_pinned, pins_pinned}
use Rattle.rl_ports.proofs.ports.Ports.pin.Goals as goal

pub invariant_of-self : goal.invariant_of-self
invariant_of-self c =
    let i = c.self.inside in
    subst (λ (l : Listed). AreCounted l i.notes.entries i.settled i.dropped.items (vec_capacity i.dropped))
    (sym c.pin.ensures)
    (counted_pinned i.exports i.notes.entries i.settled i.dropped.items (vec_capacity i.dropped) c.as_slice.result.now
    c.self.invariant)

pub returns : goal.returns
returns c =
    let i = c.self.inside in
    let ns = c.as_slice.result.now in
    let kept = i.exports.kept in
    let ascend = subst (λ ks. IsStrictlySortedBy nat_cmp ks) (keys_shown kept) c.next.ensures.numbered.ascending in
    ap (λ (x : Listed). record {
      exports = table_of x;
      pinned = pins x.kept;
      notes = i.notes.entries;
      handles = i.handles.entries;
      dialect = i.dialect;
    }) c.pin.ensures
    ∙ (λ j. record {
      exports = record { in_force = shown_marked with_pin (λ e. refl) ns kept j; next = i.exports.next };
      pinned = pins_pinned ns kept ascend j;
      notes = i.notes.entries;
      handles = i.handles.entries;
      dialect = i.dialect;
    })
    ∙ ap (pinned_with ns) c.self.view_is
    ∙ ap (λ (ms : List ℕ). pinned_with ms c.args.self.now) c.as_slice.ensures.same

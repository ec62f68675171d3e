-- The counts fall by what the note mentioned, and the note is among those that went.
use Rattle.std.proofs.Common.{◌∙◌, ap, sym, subst, refl, ℕ, List}
use Rattle.std.specs.Prelude.{vec_capacity}
use Rattle.std.specs.BTreeMap.{is_at}
use Rattle.std.specs.List.{AllByRecursion}
use Rattle.std.specs.Map.{remove_entry}
use Rattle.std.specs.Ordering.{nat_cmp}
use Rattle.rl_ports.specs.Ports.{forgotten}
use Rattle.rl_ports.specs.Kept.{Listed, AreCounted, table_of, pins, at_numbers, lowered}
use Rattle.rl_ports.proofs.Marks.{MayFall, shown_marked}
use Rattle.rl_ports.proofs.Counts.{may_let_go, counted_gone, pins_lowered}
use Rattle.rl_ports.proofs.ports.Ports.let_go.Goals as goal

pub lower-requires : goal.lower-requires
lower-requires c =
    let i = c.self.inside in
    subst (λ (ns : List ℕ). AllByRecursion (MayFall ns) i.exports.kept) (sym c.as_slice.ensures.same)
    (may_let_go i.exports i.notes.entries i.settled i.dropped.items (vec_capacity i.dropped) c.args.handle c.in-Some.oids
    c.self.invariant (sym c.in-Some.ensures.value))

pub invariant_of-self : goal.invariant_of-self
invariant_of-self c =
    let i = c.self.inside in
    let h = c.args.handle in
    let oids = c.in-Some.oids in
    let more = vec_capacity c.drop_note.new.dropped in
    let lower_is = c.lower.ensures ∙ ap (λ (ns : List ℕ). record {
      kept = at_numbers lowered ns i.exports.kept;
      next = i.exports.next;
    }) c.as_slice.ensures.same in
    let core = counted_gone i.exports i.notes.entries i.settled i.dropped.items (vec_capacity i.dropped) more h oids
    c.self.invariant (sym c.in-Some.ensures.value) c.drop_note.ensures.room in
    subst (λ (x : Listed). AreCounted x c.remove.new.self.entries i.settled c.drop_note.new.dropped.items more)
    (sym lower_is)
    (subst (λ (ns : List (ℕ × List ℕ)). AreCounted (record {
      kept = at_numbers lowered oids i.exports.kept;
      next = i.exports.next;
    }) ns i.settled c.drop_note.new.dropped.items more) (sym c.remove.ensures.entries)
    (subst (λ (ds : List (List ℕ)). AreCounted (record {
      kept = at_numbers lowered oids i.exports.kept;
      next = i.exports.next;
    }) (remove_entry (is_at (nat_cmp h)) i.notes.entries) i.settled ds more) (sym c.drop_note.ensures.items) core))

pub returns-in-Some : goal.returns-in-Some
returns-in-Some c =
    let i = c.self.inside in
    let oids = c.in-Some.oids in
    let kept = i.exports.kept in
    let lower_is = c.lower.ensures ∙ ap (λ (ns : List ℕ). record {
      kept = at_numbers lowered ns i.exports.kept;
      next = i.exports.next;
    }) c.as_slice.ensures.same in
    ap (λ (x : Listed). record {
      exports = table_of x;
      pinned = pins x.kept;
      notes = c.remove.new.self.entries;
      handles = i.handles.entries;
      dialect = i.dialect;
    }) lower_is
    ∙ (λ j. record {
      exports = record { in_force = shown_marked lowered (λ e. refl) oids kept j; next = i.exports.next };
      pinned = pins_lowered oids kept j;
      notes = c.remove.ensures.entries j;
      handles = i.handles.entries;
      dialect = i.dialect;
    })
    ∙ ap (forgotten c.args.handle) c.self.view_is

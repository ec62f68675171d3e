-- The new note counts at what it mentions, and an earlier one counts no more.
use Rattle.std.proofs.Common.{◌≡◌, ◌^◌, ◌∷◌, ◌++◌, [], ◌∙◌, ap, sym, subst, arith, refl, Some, None, ℕ, List}
use Rattle.std.specs.Prelude.{vec_capacity}
use Rattle.std.specs.BTreeMap.{insert_entry}
use Rattle.std.specs.List.{AllByRecursion}
use Rattle.std.specs.Ordering.{nat_cmp}
use Rattle.rl_ports.specs.Ports.{noted, PortsState, AreGiven}
use Rattle.rl_ports.specs.Kept.{Listed, AreCounted, table_of, pins, at_numbers, raised, lowered, note_of}
use Rattle.rl_ports.proofs.Marks.{MayFall, MayRise, shown_marked}
use Rattle.rl_ports.proofs.Counts.{may_hold, may_replace, counted_held, counted_replaced, pins_raised, pins_lowered}
use Rattle.rl_ports.proofs.ports.Ports.hold.Goals as goal

same_note : (a b : List ℕ) → Some a ≡ Some b → a ≡ b
same_note a b e = cc

pub raise_noted-requires : goal.raise_noted-requires
raise_noted-requires c = λ ns is.
    let i = c.self.inside in
    let found : note_of c.args.handle c.insert.new.self.entries ≡ Some c.args.oids = c.in_ok-earlier.ensures.updates.1 in
    subst (λ (ms : List ℕ). AllByRecursion (MayRise (2 ^ 64) ms) i.exports.kept)
    (same_note c.args.oids ns (sym found ∙ is))
    (may_hold i.exports i.notes.entries i.settled i.dropped.items (vec_capacity i.dropped) c.args.oids c.self.invariant
    (omega (arith, c.len.ensures.len, c.len.ensures.small)) c.as_slice.ensures.ascending)

pub lower-requires : goal.lower-requires
lower-requires c =
    let i = c.self.inside in
    let found : note_of c.args.handle c.insert.new.self.entries ≡ Some c.args.oids = c.in_ok-earlier.ensures.updates.1 in
    let raised_is = c.raise_noted.ensures c.args.oids found in
    let old : note_of c.args.handle i.notes.entries ≡ Some c.in-Some.earlier =
    sym c.in_ok-earlier.ensures.old ∙ c.in-Some.is in
    subst (λ (ns : List ℕ). AllByRecursion (MayFall ns) c.raise_noted.new.exports.kept)
    (sym c.as_slice-in-Some.ensures.same)
    (subst (λ (l : Listed). AllByRecursion (MayFall c.in-Some.earlier) l.kept) (sym raised_is)
    (may_replace i.exports i.notes.entries i.settled i.dropped.items (vec_capacity i.dropped) c.args.handle c.args.oids
    c.in-Some.earlier c.self.invariant c.in_ok-earlier.ensures.was_ordered old))

pub invariant_of-self-in-Some : goal.invariant_of-self-in-Some
invariant_of-self-in-Some c =
    let i = c.self.inside in
    let h = c.args.handle in
    let oids = c.args.oids in
    let earlier = c.in-Some.earlier in
    let more = vec_capacity c.drop_note.new.dropped in
    let found : note_of h c.insert.new.self.entries ≡ Some oids = c.in_ok-earlier.ensures.updates.1 in
    let raised_is = c.raise_noted.ensures oids found in
    let old : note_of h i.notes.entries ≡ Some earlier = sym c.in_ok-earlier.ensures.old ∙ c.in-Some.is in
    let lower_is = c.lower.ensures
    ∙ ap (λ (ns : List ℕ). record {
      kept = at_numbers lowered ns c.raise_noted.new.exports.kept;
      next = c.raise_noted.new.exports.next;
    }) c.as_slice-in-Some.ensures.same
    ∙ ap (λ (l : Listed). record { kept = at_numbers lowered earlier l.kept; next = l.next }) raised_is in
    let given = subst (λ (p : PortsState). AreGiven p.exports.next oids) (sym c.self.view_is) c.requires in
    let core = counted_replaced i.exports i.notes.entries i.settled i.dropped.items (vec_capacity i.dropped) more h oids
    earlier c.self.invariant c.in_ok-earlier.ensures.was_ordered old given c.as_slice.ensures.ascending
    (omega (
      arith,
      c.len.ensures.len,
      c.in_ok-reserve.ensures.ok,
      c.in_ok-reserve.ensures.len,
      c.drop_note.ensures.room,
    )) in
    let new : Listed = record {
      kept = at_numbers lowered earlier (at_numbers raised oids i.exports.kept);
      next = i.exports.next;
    } in
    let dropped_is : c.drop_note.new.dropped.items ≡ i.dropped.items ++ earlier ∷ [] =
    c.drop_note.ensures.items ∙ ap (λ (ds : List (List ℕ)). ds ++ earlier ∷ []) c.in_ok-reserve.ensures.items in
    subst (λ (x : Listed). AreCounted x c.insert.new.self.entries i.settled c.drop_note.new.dropped.items more)
    (sym lower_is)
    (subst (λ (ns : List (ℕ × List ℕ)). AreCounted new ns i.settled c.drop_note.new.dropped.items more)
    (sym c.in_ok-earlier.ensures.entries)
    (subst (λ (ds : List (List ℕ)). AreCounted new (insert_entry nat_cmp i.notes.entries h oids) i.settled ds more)
    (sym dropped_is) core))

pub invariant_of-self-in_default : goal.invariant_of-self-in_default
invariant_of-self-in_default c =
    let i = c.self.inside in
    let h = c.args.handle in
    let oids = c.args.oids in
    let more = vec_capacity c.reserve.new.self in
    let found : note_of h c.insert.new.self.entries ≡ Some oids = c.in_ok-earlier.ensures.updates.1 in
    let raised_is = c.raise_noted.ensures oids found in
    let none : note_of h i.notes.entries ≡ None = sym c.in_ok-earlier.ensures.old ∙ c.in_default.is in
    let given = subst (λ (p : PortsState). AreGiven p.exports.next oids) (sym c.self.view_is) c.requires in
    let core = counted_held i.exports i.notes.entries i.settled i.dropped.items (vec_capacity i.dropped) more h oids
    c.self.invariant c.in_ok-earlier.ensures.was_ordered none given c.as_slice.ensures.ascending
    (omega (arith, c.len.ensures.len, c.in_ok-reserve.ensures.ok, c.in_ok-reserve.ensures.len)) in
    let new : Listed = record { kept = at_numbers raised oids i.exports.kept; next = i.exports.next } in
    subst (λ (x : Listed). AreCounted x c.insert.new.self.entries i.settled c.reserve.new.self.items more) (sym raised_is)
    (subst (λ (ns : List (ℕ × List ℕ)). AreCounted new ns i.settled c.reserve.new.self.items more)
    (sym c.in_ok-earlier.ensures.entries)
    (subst (λ (ds : List (List ℕ)). AreCounted new (insert_entry nat_cmp i.notes.entries h oids) i.settled ds more)
    (sym c.in_ok-reserve.ensures.items) core))

pub returns-in-Some-clause-done : goal.returns-in-Some-clause-done
returns-in-Some-clause-done c =
    let i = c.self.inside in
    let h = c.args.handle in
    let oids = c.args.oids in
    let earlier = c.in-Some.earlier in
    let kept = i.exports.kept in
    let found : note_of h c.insert.new.self.entries ≡ Some oids = c.in_ok-earlier.ensures.updates.1 in
    let raised_is = c.raise_noted.ensures oids found in
    let lower_is = c.lower.ensures
    ∙ ap (λ (ns : List ℕ). record {
      kept = at_numbers lowered ns c.raise_noted.new.exports.kept;
      next = c.raise_noted.new.exports.next;
    }) c.as_slice-in-Some.ensures.same
    ∙ ap (λ (l : Listed). record { kept = at_numbers lowered earlier l.kept; next = l.next }) raised_is in
    ap (λ (x : Listed). record {
      exports = table_of x;
      pinned = pins x.kept;
      notes = c.insert.new.self.entries;
      handles = i.handles.entries;
      dialect = i.dialect;
    }) lower_is
    ∙ (λ j. record {
      exports = record {
        in_force = (shown_marked lowered (λ e. refl) earlier (at_numbers raised oids kept)
            ∙ shown_marked raised (λ e. refl) oids kept) j;
        next = i.exports.next;
      };
      pinned = (pins_lowered earlier (at_numbers raised oids kept) ∙ pins_raised oids kept) j;
      notes = c.in_ok-earlier.ensures.entries j;
      handles = i.handles.entries;
      dialect = i.dialect;
    })
    ∙ ap (noted h oids) c.self.view_is

pub returns-in_default-clause-done : goal.returns-in_default-clause-done
returns-in_default-clause-done c =
    let i = c.self.inside in
    let h = c.args.handle in
    let oids = c.args.oids in
    let kept = i.exports.kept in
    let found : note_of h c.insert.new.self.entries ≡ Some oids = c.in_ok-earlier.ensures.updates.1 in
    let raised_is = c.raise_noted.ensures oids found in
    ap (λ (x : Listed). record {
      exports = table_of x;
      pinned = pins x.kept;
      notes = c.insert.new.self.entries;
      handles = i.handles.entries;
      dialect = i.dialect;
    }) raised_is
    ∙ (λ j. record {
      exports = record { in_force = shown_marked raised (λ e. refl) oids kept j; next = i.exports.next };
      pinned = pins_raised oids kept j;
      notes = c.in_ok-earlier.ensures.entries j;
      handles = i.handles.entries;
      dialect = i.dialect;
    })
    ∙ ap (noted h oids) c.self.view_is

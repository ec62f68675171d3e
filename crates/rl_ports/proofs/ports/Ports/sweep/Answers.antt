-- Those that are left to be looked at go where they are idle, and so all that are.
use Rattle.std.proofs.Common.{◌≡◌, ◌||◌, ◌∙◌, ap, sym, subst, arith, Bool, true, false, refl, ℕ, List}
use Rattle.std.specs.Prelude.{vec_capacity, nat_le}
use Rattle.std.specs.List.{list_any}
use Rattle.std.specs.List.Sorted.{IsStrictlySortedBy}
use Rattle.std.specs.Ordering.{nat_cmp}
use Rattle.rl_ports.specs.Ports.{has_number, swept}
use Rattle.rl_ports.specs.Kept.{Export, Listed, AreCounted, table_of, pins, is_left, released_where}
use Rattle.rl_ports.proofs.Entries.{keys_shown}
use Rattle.rl_ports.proofs.Keeps.{released_both, released_alike}
use Rattle.rl_ports.proofs.Counts.{counted_swept, pins_released, swept_is}
use Rattle.rl_ports.proofs.ports.Ports.sweep.Goals as goal

or_turns : (a b : Bool) → (a || b) ≡ (b || a)
or_turns true true = refl
or_turns true false = refl
or_turns false true = refl
or_turns false false = refl

-- what goes by notes, and then from a number on
both_go : (settled : ℕ) (dropped : List (List ℕ)) (kept : List (ℕ × Export))
    → released_where (nat_le settled) (released_where (λ n. list_any (has_number n) dropped) kept)
    ≡ released_where (is_left settled dropped) kept
both_go settled dropped kept =
    released_both (λ n. list_any (has_number n) dropped) (nat_le settled) kept
    ∙ released_alike (λ n. list_any (has_number n) dropped || nat_le settled n) (is_left settled dropped) kept
    (λ n. or_turns (list_any (has_number n) dropped) (nat_le settled n))

pub invariant_of-self : goal.invariant_of-self
invariant_of-self c =
    let i = c.self.inside in
    let kept = i.exports.kept in
    let ds = i.dropped.items in
    let room = vec_capacity c.clear.new.self in
    let is = c.release_from.ensures
    ∙ ap (λ (l : Listed). record { kept = released_where (nat_le i.settled) l.kept; next = l.next })
    (c.release_noted.ensures ∙ ap (λ (ns : List (List ℕ)). record {
      kept = released_where (λ n. list_any (has_number n) ns) kept;
      next = i.exports.next;
    }) c.as_slice.ensures.value)
    ∙ ap (λ (es : List (ℕ × Export)). record { kept = es; next = i.exports.next }) (both_go i.settled ds kept) in
    let core = counted_swept i.exports i.notes.entries i.settled ds (vec_capacity i.dropped) room c.self.invariant
    (omega (arith, c.clear.ensures.capacity)) in
    let new : Listed = record { kept = released_where (is_left i.settled ds) kept; next = i.exports.next } in
    subst (λ (l : Listed). AreCounted l i.notes.entries c.next-next.result c.clear.new.self.items room) (sym is)
    (subst (λ (n : ℕ). AreCounted new i.notes.entries n c.clear.new.self.items room) (sym c.next-next.ensures.same)
    (subst (λ (ns : List (List ℕ)). AreCounted new i.notes.entries i.exports.next ns room)
    (sym c.clear.ensures.items) core))

pub returns : goal.returns
returns c =
    let i = c.self.inside in
    let kept = i.exports.kept in
    let ds = i.dropped.items in
    let is = c.release_from.ensures
    ∙ ap (λ (l : Listed). record { kept = released_where (nat_le i.settled) l.kept; next = l.next })
    (c.release_noted.ensures ∙ ap (λ (ns : List (List ℕ)). record {
      kept = released_where (λ n. list_any (has_number n) ns) kept;
      next = i.exports.next;
    }) c.as_slice.ensures.value)
    ∙ ap (λ (es : List (ℕ × Export)). record { kept = es; next = i.exports.next }) (both_go i.settled ds kept) in
    let ascend = subst (λ ks. IsStrictlySortedBy nat_cmp ks) (keys_shown kept) c.next-next.ensures.numbered.ascending in
    ap (λ (x : Listed). record {
      exports = table_of x;
      pinned = pins x.kept;
      notes = i.notes.entries;
      handles = i.handles.entries;
      dialect = i.dialect;
    }) is
    ∙ (λ j. record {
      exports = record {
        in_force = sym (swept_is i.settled ds i.notes.entries kept ascend c.self.invariant.counted
            c.self.invariant.left) j;
        next = i.exports.next;
      };
      pinned = pins_released (is_left i.settled ds) kept j;
      notes = i.notes.entries;
      handles = i.handles.entries;
      dialect = i.dialect;
    })
    ∙ ap swept c.self.view_is

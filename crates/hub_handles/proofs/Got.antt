-- What a system actor gets in its turn: each assertion is new to it, and all is got in order.
use Rattle.std.proofs.Common.{◌≡◌, ℕ, List, [], ◌∷◌, ◌++◌, Bool, true, false, cond, Some, None, Less}
use Rattle.std.proofs.Common.{refl, sym, ap, ◌∙◌, subst, arith, append_assoc, is_some, nat_lt}
use Rattle.std.specs.List.Sorted.{IsStrictlySortedBy}
use Rattle.std.specs.Map.{keys_of, values_of}
use Rattle.std.specs.Ordering.{nat_cmp}
use Rattle.std.proofs.lemmas.Bool.Decides.{nat_tests}
use Rattle.std.proofs.lemmas.Map.Keys.{sorted_head, sorted_tail}
use Rattle.pv_value.specs.Plain.{Plain}
use Rattle.ds_space.specs.Limits.{most_wanted_weight}
use Rattle.ds_space.specs.Spaces.{Rows, has_row}
use Rattle.ac_table.specs.declared.batches.Batch.{Batch}
use Rattle.ac_table.specs.declared.batches.Event.{Event}
use Rattle.ac_table.specs.declared.batches.Event.TheVariants.{Assert, Retract, Message, Sync}
use Rattle.ac_table.specs.Tables.{first_batch}
use Rattle.ac_world.specs.Behaviours.{Behaviour, fanned_weight}
use Rattle.ac_world.specs.Turns.{Turning, turned_by, all_turned, begin_turn}
use Rattle.ac_world.specs.Worlds.{WorldState, resident_of, is_system, entry_of, with_entry, without_entry}
use Rattle.hub_laws.specs.Standing.{events_of, value_alone}
use Rattle.hub_laws.proofs.Kept.{made_by, made_in, IsLog, IsServed, IsServedBy, IsSound}
use Rattle.hub_laws.proofs.Logs.{one_of_all, got-regot, log_turned_by, turn_log}
use Rattle.hub_laws.proofs.Moving.{made_in-append}
use Rattle.hub_laws.proofs.Turns.{ascend_before, HasFirst, has_first, behaves, without_first, turning_of}
use Rattle.hub_handles.specs.Once.{turning_after}
use Rattle.hub_handles.specs.Taking.{is_too_much, got_with, got_with_all}

-- ---- a handle that is to come isn't got yet

not_yet : (h : ℕ) (es : Rows) (rest : List ℕ) → IsStrictlySortedBy nat_cmp (keys_of es ++ h ∷ rest)
    → entry_of h es ≡ None
not_yet h [] rest s = refl
not_yet h (e ∷ es) rest s =
    let lower : nat_cmp e.0 h ≡ Less =
    one_of_all (λ j. nat_cmp e.0 j ≡ Less) (keys_of es) h rest (sorted_head nat_cmp _ _ s) in
    grind (arith, nat_tests, lower, not_yet h es rest (sorted_tail nat_cmp _ _ s))

is_new : (h : ℕ) (es : Rows) (rest : List ℕ) → IsStrictlySortedBy nat_cmp (keys_of es ++ h ∷ rest)
    → has_row h es ≡ false
is_new h es rest s = ap is_some (not_yet h es rest s)

-- what a system actor has got, and then the assertions of its first batch, ascend
pub front_ascends : (a : ℕ) (b : Batch) (w : WorldState) → IsSound [] w → is_system a ≡ true
    → first_batch a w.table ≡ Some b
    → IsStrictlySortedBy nat_cmp (keys_of (resident_of a w).got ++ made_in b.events)
front_ascends a b w k system is =
    let x : HasFirst a w.table b = has_first a w.table b is in
    let served : IsServedBy value_alone [] w.table.rows w.table.next a (resident_of a w).got x.actor.inbox =
    subst (IsServed [] a x.actor.inbox w) system (k.served a x.actor x.found) in
    let log : IsLog w.table.next (keys_of (resident_of a w).got) (b ∷ x.rest) =
    subst (λ bs. IsLog w.table.next (keys_of (resident_of a w).got) bs) x.inbox served.log in
    ascend_before (keys_of (resident_of a w).got ++ made_in b.events) (made_in (events_of x.rest))
    (subst (IsStrictlySortedBy nat_cmp)
    (ap (λ hs. keys_of (resident_of a w).got ++ hs) (made_in-append b.events (events_of x.rest))
    ∙ sym (append_assoc (keys_of (resident_of a w).got) (made_in b.events) (made_in (events_of x.rest)))) log.0)

pub assertion_is_new : (a : ℕ) (b : Batch) (w : WorldState) → IsSound [] w → is_system a ≡ true
    → first_batch a w.table ≡ Some b → (before later : List Event) (h entity : ℕ) (v : Plain)
    → b.events ≡ before ++ Assert h entity v ∷ later
    → has_row h (turning_after a b before w).resident.got ≡ false
assertion_is_new a b w k system is before later h entity v parts =
    let got : List ℕ = keys_of (resident_of a w).got in
    let made : made_in b.events ≡ made_in before ++ h ∷ made_in later =
    ap made_in parts ∙ made_in-append before (Assert h entity v ∷ later) in
    is_new h (turning_after a b before w).resident.got (made_in later)
    (turn_log (behaves a w) a b.from (begin_turn a (without_first a w)) before (h ∷ made_in later)
    (subst (IsStrictlySortedBy nat_cmp)
    (ap (λ hs. got ++ hs) made ∙ sym (append_assoc got (made_in before) (h ∷ made_in later)))
    (front_ascends a b w k system is)))

-- ---- what is got

got_turned_by : (y : Behaviour) (a from : ℕ) (e : Event) (u : Turning) (rest : List ℕ)
    → IsStrictlySortedBy nat_cmp (keys_of u.resident.got ++ (made_by e ++ rest))
    → (turned_by y a from e u).resident.got ≡ got_with y e u.resident.got
got_turned_by y a from (Assert h entity v) u rest ascend =
    by (has_row h u.resident.got) (is_too_much y (with_entry h v u.resident.got)) _ _
    (is_new h u.resident.got rest ascend) refl (got-regot y a (with_entry h v u.resident.got) u)
  where
    by : (b c : Bool) (s t : Turning) → b ≡ false → s.resident.got ≡ u.resident.got
        → t.resident.got ≡ with_entry h v u.resident.got
        → (cond b u (cond c s t)).resident.got ≡ cond c u.resident.got (with_entry h v u.resident.got)
    by true c s t is passed got = absurd cc
    by false true s t is passed got = passed
    by false false s t is passed got = got
got_turned_by y a from (Retract h entity) u rest s = got-regot y a (without_entry h u.resident.got) u
got_turned_by y a from (Message entity v) u rest ascend =
    by (nat_lt most_wanted_weight (fanned_weight (y.fan (values_of u.resident.got) v))) _ _ refl refl
  where
    by : (c : Bool) (s t : Turning) → s.resident.got ≡ u.resident.got → t.resident.got ≡ u.resident.got
        → (cond c s t).resident.got ≡ u.resident.got
    by true s t first second = first
    by false s t first second = second
got_turned_by y a from (Sync entity peer) u rest s = refl

got_all_turned : (y : Behaviour) (a from : ℕ) (es : List Event) (u : Turning)
    → IsStrictlySortedBy nat_cmp (keys_of u.resident.got ++ made_in es)
    → (all_turned y a from es u).resident.got ≡ got_with_all y es u.resident.got
got_all_turned y a from [] u s = refl
got_all_turned y a from (e ∷ es) u s =
    got_all_turned y a from es (turned_by y a from e u) (log_turned_by y a from e u (made_in es) s)
    ∙ ap (got_with_all y es) (got_turned_by y a from e u (made_in es) s)

-- the whole batch
pub turning_gets : (a : ℕ) (b : Batch) (w : WorldState) → IsSound [] w → is_system a ≡ true
    → first_batch a w.table ≡ Some b
    → (turning_of a b w).resident.got ≡ got_with_all (behaves a w) b.events (resident_of a w).got
turning_gets a b w k system is =
    got_all_turned (behaves a w) a b.from b.events (begin_turn a (without_first a w))
    (front_ascends a b w k system is)

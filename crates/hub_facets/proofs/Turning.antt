-- A system actor's rows stand in their facets through its turn.
use Rattle.std.proofs.Common.{◌≡◌, ℕ, List, [], ◌∷◌, ◌++◌, map, Bool, true, false, cond, ◌&&◌, ◌||◌, not, Option, Some}
use Rattle.std.proofs.Common.{None, ◌⊎◌, inl, inr, refl, ap, sym, ◌∙◌, subst, nat_lt}
use Rattle.std.specs.Cmp.{eq_by_cmp_equiv}
use Rattle.std.specs.List.{IsDistinct}
use Rattle.std.specs.BTreeMap.{is_at}
use Rattle.std.specs.Map.{values_of, remove_entry}
use Rattle.std.specs.Ordering.{eq_by_cmp}
use Rattle.std.proofs.lemmas.List.Elements.{All-from_recursion}
use Rattle.std.proofs.lemmas.List.Folds.{list_any_none}
use Rattle.std.proofs.lemmas.Map.Keys.{IsDistinct-from_sorted, IsDistinct-head, IsDistinct-tail}
use Rattle.pv_value.specs.Plain.{Plain, boolean, sequence, plains}
use Rattle.pv_value.specs.Order.{order}
use Rattle.pv_value.specs.WellFormed.{Ascend}
use Rattle.pv_value.specs.Lemmas.OrderLaws.{order_total, order_same}
use Rattle.pv_words.specs.Parts.{same}
use Rattle.ds_space.specs.Changes.{among, without}
use Rattle.pv_words.specs.Lemmas.Same.{same_is, same_self}
use Rattle.ds_space.specs.Limits.{most_wanted_weight}
use Rattle.ds_space.specs.Spaces.{Rows, changed, has_row}
use Rattle.ds_space.specs.declared.space.SpaceEvent.{SpaceEvent}
use Rattle.ds_space.specs.declared.space.SpaceEvent.TheVariants.{Add, Gone}
use Rattle.ds_space.specs.declared.space.Change.{Change}
use Rattle.ds_space.specs.declared.space.Change.TheVariants.{Left, Came}
use Rattle.ds_space.specs.declared.space.Fanned.{Fanned}
use Rattle.ps_schema.specs.declared.Definition.{Definition}
use Rattle.ac_table.specs.declared.batches.Event.{Event}
use Rattle.ac_table.specs.declared.batches.Event.TheVariants.{Assert, Retract, Message, Sync}
use Rattle.ac_table.specs.Tables.{TableState}
use Rattle.ac_watch.specs.Lemmas.Alone.{among_without, without_ascends}
use Rattle.ac_world.specs.declared.aims.Aim.{Aim}
use Rattle.ac_world.specs.declared.spreads.Spread.{Spread}
use Rattle.ac_world.specs.Aims.{aim_at, aim_for}
use Rattle.ac_world.specs.Behaviours.{Behaviour, fanned_weight}
use Rattle.ac_world.specs.Allocating.{allocated}
use Rattle.ac_world.specs.Outboxes.{Plan}
use Rattle.ac_world.specs.Turns.{Turning, handle_for, drop_met, left, allocating, came, came_at, changed_by}
use Rattle.ac_world.specs.Turns.{all_changed, with_rows, regot, spreading, by_assertion, by_message, applied}
use Rattle.ac_world.specs.Turns.{say_at, say_all, passed_on, answer_to, turned_by, all_turned}
use Rattle.hub_laws.proofs.Keys.{lookup-insert_entry, lookup-without_entry}
use Rattle.hub_laws.proofs.Logs.{got-regot}
use Rattle.hub_facets.proofs.Dwelling.{Dwells, taken, given, rows_go, gone_dwells, released_dwells, HaveOwnFacetsIn}
use Rattle.hub_facets.proofs.Dwelling.{allocated_dwells, come_dwells}

-- an actor that behaves so dwells in its facets as its turn goes on
abbrev pub Lodges : Behaviour → ℕ → Turning → Type 0
Lodges y a u = Dwells y.group a None u.resident.handles u.resident.facets u.plan.table

-- ---- a key leaves

module _ (y : Behaviour) (a : ℕ) (k : Plain) (u : Turning) (d : Lodges y a u) where
  abbrev gone : TableState
  gone = (drop_met a (handle_for k u.resident.handles) u.plan).table

  left_lodges : Lodges y a (left y a k u)
  left_lodges =
      released_dwells y.group a (remove_entry (is_at (order k)) u.resident.handles) u.resident.facets gone (y.group k)
      (gone_dwells y.group a k u.resident.handles u.resident.facets u.plan.table gone d
      (rows_go a (handle_for k u.resident.handles) u.plan d.table (λ h r e found. d.own k h r e found)))

  left_kept : (q : Plain) (h : ℕ) → handle_for q (left y a k u).resident.handles ≡ Some h
      → (same k q ≡ false) × (handle_for q u.resident.handles ≡ Some h)
  left_kept q h e =
      taken (same k q) (handle_for q u.resident.handles) h
      (sym (lookup-without_entry order_total order_same q k u.resident.handles d.handles_ascend) ∙ e)

-- ---- a key comes

module _ (y : Behaviour) (a : ℕ) (k : Plain) (u : Turning) (d : Lodges y a u) where
  came_lodges_at : handle_for k u.resident.handles ≡ None → (o : Option Aim) → Lodges y a (came_at a (y.group k) k o u)
  came_lodges_at new None = d
  came_lodges_at new (Some aim) =
      let h : HaveOwnFacetsIn y.group a u.resident.handles u.resident.facets u.plan.table (y.group k)
      (allocated a (y.group k) u.resident.facets u.plan.table) =
      allocated_dwells y.group a u.resident.handles u.resident.facets u.plan.table d (y.group k) in
      come_dwells y.group a (allocated a (y.group k) u.resident.facets u.plan.table).facet aim.at.actor aim.at.entity
      aim.value k u.resident.handles (allocating a (y.group k) u).resident.facets (allocating a (y.group k) u).plan.table
      h.dwells h.home new

  came_lodges : handle_for k u.resident.handles ≡ None → Lodges y a (came y a k u)
  came_lodges new = came_lodges_at new (y.aim k)

  came_kept_at : (o : Option Aim) (q : Plain) (h : ℕ)
      → handle_for q (came_at a (y.group k) k o u).resident.handles ≡ Some h
      → (same k q ≡ true) ⊎ (handle_for q u.resident.handles ≡ Some h)
  came_kept_at None q h e = inr e
  came_kept_at (Some aim) q h e =
      elim (given (same k q) (handle_for q u.resident.handles) u.plan.table.next h
      (sym (lookup-insert_entry order_total order_same q k u.plan.table.next u.resident.handles) ∙ e)) [
        | inl one ↦ inl one.0
        | inr old ↦ inr old.1
      ]

  came_kept : (q : Plain) (h : ℕ) → handle_for q (came y a k u).resident.handles ≡ Some h
      → (same k q ≡ true) ⊎ (handle_for q u.resident.handles ≡ Some h)
  came_kept q h e = came_kept_at (y.aim k) q h e

-- ---- all that leave, and all that come

record HaveLeft (y : Behaviour) (a : ℕ) (ks : List Plain) (u v : Turning) : Type 0 where
  lodges : Lodges y a v
  kept : (q : Plain) (h : ℕ) → handle_for q v.resident.handles ≡ Some h
      → (among q ks ≡ false) × (handle_for q u.resident.handles ≡ Some h)

same_turned : (x z : Plain) → same x z ≡ same z x
same_turned x z = (eq_by_cmp_equiv order_total).symm x z

all_left : (y : Behaviour) (a : ℕ) (ks : List Plain) (u : Turning) → Lodges y a u
    → HaveLeft y a ks u (all_changed y a (map Left ks) u)
all_left y a [] u d = record { lodges = d; kept = λ q h e. (refl, e) }
all_left y a (k ∷ ks) u d =
    let rest = all_left y a ks (left y a k u) (left_lodges y a k u d) in
    record {
      lodges = rest.lodges;
      kept = λ q h e.
          let later = rest.kept q h e in
          let first = left_kept y a k u d q h later.1 in
          ((λ i. (same_turned q k ∙ first.0) i || later.0 i), first.1);
    }

record HaveCome (y : Behaviour) (a : ℕ) (ks : List Plain) (u v : Turning) : Type 0 where
  lodges : Lodges y a v
  kept : (q : Plain) (h : ℕ) → handle_for q v.resident.handles ≡ Some h
      → (among q ks ≡ true) ⊎ (handle_for q u.resident.handles ≡ Some h)

none_or_some : (o : Option ℕ) → ((h : ℕ) → o ≡ Some h → ⊥) → o ≡ None
none_or_some None never = refl
none_or_some (Some h) never = absurd (never h refl)

module _ (y : Behaviour) (a : ℕ) where
  abbrev AreNew : List Plain → Turning → Type 0
  AreNew ks u = (q : Plain) → among q ks ≡ true → handle_for q u.resident.handles ≡ None

  or_first : (b c : Bool) → b ≡ true → (b || c) ≡ true
  or_first true c is = refl
  or_first false c is = absurd cc

  or_later : (b c : Bool) → c ≡ true → (b || c) ≡ true
  or_later true c is = refl
  or_later false c is = is

  still_new : (k : Plain) (ks : List Plain) (u : Turning) (d : Lodges y a u) → IsDistinct (eq_by_cmp order) (k ∷ ks)
      → AreNew (k ∷ ks) u → AreNew ks (came y a k u)
  still_new k ks u d distinct new q is =
      none_or_some (handle_for q (came y a k u).resident.handles)
      (λ h e. elim (came_kept y a k u d q h e) [
        | inl one ↦ clash_at one
        | inr old ↦
            (let none : handle_for q u.resident.handles ≡ None = new q (or_later (same q k) (among q ks) is) in
            let clash : None ≡ Some h = sym none ∙ old in cc)
      ])
    where
      apart : among k ks ≡ false
      apart =
          list_any_none (same k) ks
          (All-from_recursion (λ z. same k z ≡ false) ks (IsDistinct-head (eq_by_cmp order) k ks distinct))

      clash_at : same k q ≡ true → ⊥
      clash_at one =
          let clash : true ≡ false = sym is ∙ ap (λ z. among z ks) (sym (same_is k q one)) ∙ apart in cc

  all_came : (ks : List Plain) (u : Turning) → IsDistinct (eq_by_cmp order) ks → AreNew ks u → Lodges y a u
      → HaveCome y a ks u (all_changed y a (map Came ks) u)
  all_came [] u distinct new d = record { lodges = d; kept = λ q h e. inr e }
  all_came (k ∷ ks) u distinct new d =
      let first : handle_for k u.resident.handles ≡ None =
      new k (or_first (same k k) (among k ks) (same_self k)) in
      let rest =
      all_came ks (came y a k u) (IsDistinct-tail (eq_by_cmp order) k ks distinct) (still_new k ks u d distinct new)
      (came_lodges y a k u d first) in
      record {
        lodges = rest.lodges;
        kept = λ q h e. elim (rest.kept q h e) [
          | inl later ↦ inl (or_later (same q k) (among q ks) later)
          | inr old ↦ elim (came_kept y a k u d q h old) [
            | inl one ↦ inl (or_first (same q k) (among q ks) (same_turned q k ∙ one))
            | inr before ↦ inr before
          ]
        ];
      }

-- ---- what the actor has got changes

all_changed-append : (y : Behaviour) (a : ℕ) (cs ds : List Change) (u : Turning)
    → all_changed y a (cs ++ ds) u ≡ all_changed y a ds (all_changed y a cs u)
all_changed-append y a [] ds u = refl
all_changed-append y a (c ∷ cs) ds u = all_changed-append y a cs ds (changed_by y a c u)

-- each key that is kept is wanted
abbrev pub AreWanted : Behaviour → Turning → Type 0
AreWanted y u = (q : Plain) (h : ℕ) → handle_for q u.resident.handles ≡ Some h
    → among q (y.keys (values_of u.resident.got)) ≡ true

abbrev pub KeysRise : Behaviour → Type 0
KeysRise y = (vs : List Plain) → Ascend (y.keys vs)

-- the turn so far
pub record Stays (y : Behaviour) (a : ℕ) (u : Turning) : Type 0 where
  pub lodges : Lodges y a u
  pub wanted : AreWanted y u

module _ (y : Behaviour) (a : ℕ) (rise : KeysRise y) where
  module _ (rows : Rows) (u : Turning) (s : Stays y a u) where
    abbrev before : List Plain
    before = y.keys (values_of u.resident.got)

    abbrev now : List Plain
    now = y.keys (values_of rows)

    abbrev gone_keys : List Plain
    gone_keys = without before now

    abbrev new_keys : List Plain
    new_keys = without now before

    abbrev mid : Turning
    mid = all_changed y a (map Left gone_keys) (with_rows rows u)

    have_left : HaveLeft y a gone_keys (with_rows rows u) mid
    have_left = all_left y a gone_keys (with_rows rows u) s.lodges

    wanted_before : (q : Plain) → among q new_keys ≡ true → among q before ≡ false
    wanted_before q is = by (among q before) (among q now) (sym (among_without q now before) ∙ is)
      where
        by : (b c : Bool) → (not b && c) ≡ true → b ≡ false
        by false c is = refl
        by true c is = absurd cc

    are_new : AreNew y a new_keys mid
    are_new q is =
        none_or_some (handle_for q mid.resident.handles)
        (λ h e. let clash : true ≡ false = sym (s.wanted q h (have_left.kept q h e).1) ∙ wanted_before q is in cc)

    have_come : HaveCome y a new_keys mid (all_changed y a (map Came new_keys) mid)
    have_come =
        all_came y a new_keys mid
        (IsDistinct-from_sorted order new_keys
        (without_ascends now before (rise (values_of rows)) (rise (values_of u.resident.got))))
        are_new have_left.lodges

    steps : regot y a rows u ≡ all_changed y a (map Came new_keys) mid
    steps = all_changed-append y a (map Left gone_keys) (map Came new_keys) (with_rows rows u)

    wanted_now : (q : Plain) (h : ℕ)
        → handle_for q (all_changed y a (map Came new_keys) mid).resident.handles ≡ Some h → among q now ≡ true
    wanted_now q h e = elim (have_come.kept q h e) [
      | inl new ↦ in_new (among q before) (among q now) (sym (among_without q now before) ∙ new)
      | inr kept ↦
          (let old = have_left.kept q h kept in
          in_old (among q now) (among q before) (s.wanted q h old.1) (sym (among_without q before now) ∙ old.0))
    ]
      where
        in_new : (b c : Bool) → (not b && c) ≡ true → c ≡ true
        in_new false c is = is
        in_new true c is = absurd cc

        in_old : (b c : Bool) → c ≡ true → (not b && c) ≡ false → b ≡ true
        in_old true c was stays = refl
        in_old false c was stays = absurd (let clash : true ≡ false = sym was ∙ stays in cc)

    regot_stays : Stays y a (regot y a rows u)
    regot_stays = record {
      lodges = subst (Lodges y a) (sym steps) have_come.lodges;
      wanted = λ q h e.
          ap (λ (got : Rows). among q (y.keys (values_of got))) (got-regot y a rows u)
          ∙ wanted_now q h (ap (λ (v : Turning). handle_for q v.resident.handles) (sym steps) ∙ e);
    }

  -- ---- events

  either : (b : Bool) (u v : Turning) → Stays y a u → Stays y a v → Stays y a (cond b u v)
  either true u v s t = s
  either false u v s t = t

  -- nothing of it changes but who is to end
  spreading_stays : (change : List Spread → List Spread) (u : Turning) → Stays y a u → Stays y a (spreading change u)
  spreading_stays change u s = record { lodges = s.lodges; wanted = s.wanted }

  -- nor by what is only said
  said_stays : (p : Plan) (u : Turning) → p.table ≡ u.plan.table → Stays y a u → Stays y a (record u { plan = p })
  said_stays p u is s = record {
    lodges = subst (Dwells y.group a None u.resident.handles u.resident.facets) (sym is) s.lodges;
    wanted = s.wanted;
  }

  say_at_table : (o : Option Aim) (p : Plan) → (say_at o p).table ≡ p.table
  say_at_table None p = refl
  say_at_table (Some aim) p = refl

  say_all_table : (ds : List Definition) (fs : List Fanned) (p : Plan) → (say_all ds fs p).table ≡ p.table
  say_all_table ds [] p = refl
  say_all_table ds (x ∷ xs) p =
      say_all_table ds xs (say_at (aim_for ds (sequence (plains x.captures)) x.observe) p)
      ∙ say_at_table (aim_for ds (sequence (plains x.captures)) x.observe) p

  applied_stays : (from : ℕ) (e : SpaceEvent) (u : Turning) → Stays y a u → Stays y a (applied y a from e u)
  applied_stays from (Add h v) u s =
      let weight : ℕ = y.weight (values_of (changed u.resident.got (Add h v))) in
      either (nat_lt most_wanted_weight weight) _ _ (spreading_stays (by_assertion u.plan.table a from weight) u s)
      (regot_stays (changed u.resident.got (Add h v)) u s)
  applied_stays from (Gone h) u s = regot_stays (changed u.resident.got (Gone h)) u s

  passed_stays : (from : ℕ) (fs : List Fanned) (u : Turning) → Stays y a u → Stays y a (passed_on y.schema from fs u)
  passed_stays from fs u s =
      either (nat_lt most_wanted_weight (fanned_weight fs)) _ _
      (spreading_stays (by_message u.plan.table from (fanned_weight fs)) u s)
      (said_stays (say_all y.schema fs u.plan) u (say_all_table y.schema fs u.plan) s)

  turned_stays : (from : ℕ) (e : Event) (u : Turning) → Stays y a u → Stays y a (turned_by y a from e u)
  turned_stays from (Assert h entity v) u s =
      either (has_row h u.resident.got) u _ s (applied_stays from (Add h v) u s)
  turned_stays from (Retract h entity) u s = applied_stays from (Gone h) u s
  turned_stays from (Message entity v) u s = passed_stays from (y.fan (values_of u.resident.got) v) u s
  turned_stays from (Sync entity peer) u s =
      said_stays (answer_to y.schema peer u.plan) u (say_at_table (aim_at y.schema (boolean true) peer) u.plan) s

  pub all_turned_stays : (from : ℕ) (es : List Event) (u : Turning) → Stays y a u
      → Stays y a (all_turned y a from es u)
  all_turned_stays from [] u s = s
  all_turned_stays from (e ∷ es) u s =
      all_turned_stays from es (turned_by y a from e u) (turned_stays from e u s)

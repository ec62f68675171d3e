-- What is told where rows of a system actor go and come: first of those that go, and then of those that come.
use Rattle.std.proofs.Common.{◌≡◌, ℕ, ◌==◌, List, [], ◌∷◌, ◌++◌, map, Bool, true, false, cond, Option, Some, None, Less}
use Rattle.std.proofs.Common.{refl, ap, sym, ◌∙◌, subst, arith, append-nil, append_assoc}
use Rattle.std.specs.BTreeMap.{is_at}
use Rattle.std.specs.List.{AllByRecursion, flat_map}
use Rattle.std.specs.Map.{keys_of, values_of}
use Rattle.std.specs.Ordering.{is_eq}
use Rattle.std.proofs.lemmas.Bool.Decides.{nat_tests}
use Rattle.std.proofs.lemmas.Map.Keys.{sorted_head, sorted_tail}
use Rattle.pv_value.specs.Plain.{Plain}
use Rattle.pv_value.specs.Order.{order}
use Rattle.pv_value.specs.WellFormed.{Ascend}
use Rattle.pv_value.specs.Lemmas.OrderLaws.{order_total, order_same}
use Rattle.pv_words.specs.Lemmas.Same.{same_is}
use Rattle.pv_words.specs.Parts.{same}
use Rattle.ds_space.specs.Spaces.{Rows}
use Rattle.ds_space.specs.declared.space.Change.{Change}
use Rattle.ds_space.specs.declared.space.Change.TheVariants.{Left, Came}
use Rattle.ac_table.specs.declared.batches.Row.{Row}
use Rattle.ac_table.specs.declared.batches.Event.{Event}
use Rattle.ac_table.specs.declared.batches.Event.TheVariants.{Assert, Retract}
use Rattle.ac_table.specs.Tables.{find_row, without_row}
use Rattle.ac_watch.specs.Lemmas.Alone.{without_ascends}
use Rattle.ac_world.specs.declared.aims.Aim.{Aim}
use Rattle.ac_world.specs.declared.watched.Watched.{Watched}
use Rattle.ac_world.specs.Behaviours.{Behaviour}
use Rattle.ac_world.specs.Outboxes.{Plan, dropped, drop_own, drop_row, told_to}
use Rattle.ac_world.specs.Turns.{Turning, handle_for, drop_met, row_gone, left, came_at, came, changed_by, all_changed}
use Rattle.ac_world.specs.Turns.{with_rows, regot}
use Rattle.hub_valid.specs.Lemmas.Lists.{all_from}
use Rattle.hub_laws.specs.Wanting.{IsMet, IsRowFor}
use Rattle.hub_laws.proofs.Finding.{found_handle, find_row-without}
use Rattle.hub_laws.proofs.Keys.{lookup-without_entry, remove_entry_ascends}
use Rattle.hub_laws.proofs.Moving.{told_to-told}
use Rattle.hub_laws.proofs.Owned.{HasRows, rows_of_met, rows_same, rows_less}
use Rattle.hub_laws.proofs.Passing.{passing_ascends}
use Rattle.hub_batches.specs.Telling.{wanted_alone, taken_back, put_at, drawn, all_put, told_of_change}

-- the actor's rows are those of its keys
record Fits (y : Behaviour) (o : Option Watched) (a : ℕ) (u : Turning) : Type 0 where
  pub ascend : Ascend (keys_of u.resident.handles)
  pub rows : HasRows y o a u.resident.handles u.plan.table.rows

-- ---- a key leaves

-- no handle is drawn
own_next : (a : ℕ) (o : Option Row) (p : Plan) → (drop_own a o p).table.next ≡ p.table.next
own_next a None p = refl
own_next a (Some r) p = by (r.owner == a)
  where
    by : (c : Bool) → (cond c (drop_row r p) p).table.next ≡ p.table.next
    by true = refl
    by false = refl

met_next : (a : ℕ) (h : Option ℕ) (p : Plan) → (drop_met a h p).table.next ≡ p.table.next
met_next a None p = refl
met_next a (Some h) p = own_next a (find_row h p.table.rows) p

-- the row under a handle goes that the actor owns
dropped_rows : (a h : ℕ) (p : Plan) (r : Row) → find_row h p.table.rows ≡ Some r → r.owner ≡ a
    → (dropped a h p).table.rows ≡ without_row h p.table.rows
dropped_rows a h p r found own =
    let owns : (r.owner == a) ≡ true = grind (arith, nat_tests, own) in
    ap (λ (o : Option Row). (drop_own a o p).table.rows) found
    ∙ ap (λ b. (cond b (drop_row r p) p).table.rows) owns
    ∙ ap (λ g. without_row g p.table.rows) (found_handle h p.table.rows r found)

module _ (y : Behaviour) (o : Option Watched) (a : ℕ) (k : Plain) (u : Turning) (fits : Fits y o a u) where
  left_found : (q : Plain) → handle_for q (row_gone a k u).resident.handles
      ≡ cond (same k q) None (handle_for q u.resident.handles)
  left_found q = lookup-without_entry order_total order_same q k u.resident.handles fits.ascend

  left_rows : (h : Option ℕ) → handle_for k u.resident.handles ≡ h
      → HasRows y o a (row_gone a k u).resident.handles (drop_met a h u.plan).table.rows
  left_rows None none =
      rows_same y o a u.resident.handles (row_gone a k u).resident.handles u.plan.table.rows
      (λ q. left_found q ∙ by q (same k q) refl) fits.rows
    where
      by : (q : Plain) (b : Bool) → same k q ≡ b
          → cond b None (handle_for q u.resident.handles) ≡ handle_for q u.resident.handles
      by q true e = sym (ap (λ z. handle_for z u.resident.handles) (sym (same_is k q e)) ∙ none)
      by q false e = refl
  left_rows (Some h) found =
      let met = fits.rows.stand k h found in
      rows_less y o a u.resident.handles u.plan.table.rows fits.rows k h found (row_gone a k u).resident.handles
      (dropped a h u.plan).table.rows left_found
      (λ g. ap (find_row g) (dropped_rows a h u.plan met.row met.stands met.fits.owner)
      ∙ find_row-without g h u.plan.table.rows)

  left_fits : Fits y o a (left y a k u)
  left_fits = record {
    ascend = remove_entry_ascends order (is_at (order k)) u.resident.handles fits.ascend;
    rows = left_rows (handle_for k u.resident.handles) refl;
  }

  -- its row's retraction is told
  row_tells : (b h : ℕ) (r : Row) → find_row h u.plan.table.rows ≡ Some r → IsRowFor y a k r
      → told_to b (drop_met a (Some h) u.plan).out ≡ told_to b u.plan.out ++ taken_back b (Some h) (y.aim k)
  row_tells b h r found fit =
      let owns : (r.owner == a) ≡ true = grind (arith, nat_tests, fit.owner) in
      let handle : r.handle ≡ h = found_handle h u.plan.table.rows r found in
      ap (λ (q : Option Row). told_to b (drop_own a q u.plan).out) found
      ∙ ap (λ c. told_to b (cond c (drop_row r u.plan) u.plan).out) owns
      ∙ told_to-told b r.target (Retract r.handle r.entity) u.plan.out
      ∙ (λ i. told_to b u.plan.out ++ cond (fit.target i == b) (Retract (handle i) (fit.entity i) ∷ []) [])
      ∙ ap (λ (q : Option Aim). told_to b u.plan.out ++ taken_back b (Some h) q) (sym fit.aimed)

  left_tells : (b : ℕ) → told_to b (left y a k u).plan.out
      ≡ told_to b u.plan.out ++ taken_back b (handle_for k u.resident.handles) (y.aim k)
  left_tells b = by (handle_for k u.resident.handles) refl
    where
      by : (h : Option ℕ) → handle_for k u.resident.handles ≡ h
          → told_to b (drop_met a h u.plan).out ≡ told_to b u.plan.out ++ taken_back b h (y.aim k)
      by None found = sym (append-nil (told_to b u.plan.out))
      by (Some h) found =
          let met = fits.rows.stand k h found in row_tells b h met.row met.stands met.fits

-- ---- all that leave

-- from u to v these events are told, and no handle is drawn
record Goes (b : ℕ) (es : List Event) (u v : Turning) : Type 0 where
  pub told : told_to b v.plan.out ≡ told_to b u.plan.out ++ es
  pub next : v.plan.table.next ≡ u.plan.table.next

apart_above : (k q : Plain) → order k q ≡ Less → same k q ≡ false
apart_above k q is = ap is_eq is

-- under met the handles of keys that are still to leave
module _ (y : Behaviour) (o : Option Watched) (a b : ℕ) (met : List (Plain × ℕ)) where
  abbrev IsStill : Turning → Plain → Type 0
  IsStill u q = handle_for q u.resident.handles ≡ handle_for q met

  abbrev back : Plain → List Event
  back k = taken_back b (handle_for k met) (y.aim k)

  still_left : (k : Plain) (ks : List Plain) (u : Turning) → Fits y o a u → AllByRecursion (λ q. order k q ≡ Less) ks
      → AllByRecursion (IsStill u) ks → AllByRecursion (IsStill (left y a k u)) ks
  still_left k [] u fits above still = tt
  still_left k (q ∷ ks) u fits above still = (
    left_found y o a k u fits q
        ∙ ap (λ c. cond {A = Option ℕ} c None (handle_for q u.resident.handles)) (apart_above k q above.0) ∙ still.0,
    still_left k ks u fits above.1 still.1,
  )

  all_left_go : (ks : List Plain) (u : Turning) → Fits y o a u → Ascend ks → AllByRecursion (IsStill u) ks
      → Goes b (flat_map back ks) u (all_changed y a (map Left ks) u)
  all_left_go [] u fits rise still = record { told = sym (append-nil (told_to b u.plan.out)); next = refl }
  all_left_go (k ∷ ks) u fits rise still =
      let rest = all_left_go ks (left y a k u) (left_fits y o a k u fits) (sorted_tail order k ks rise)
      (still_left k ks u fits (sorted_head order k ks rise) still.1) in
      record {
        told = rest.told
            ∙ ap (λ es. es ++ flat_map back ks)
            (left_tells y o a k u fits b ∙ ap (λ h. told_to b u.plan.out ++ taken_back b h (y.aim k)) still.0)
            ∙ append_assoc (told_to b u.plan.out) (back k) (flat_map back ks);
        next = rest.next ∙ met_next a (handle_for k u.resident.handles) u.plan;
      }

-- ---- a key comes

one_comes : (a b : ℕ) (g : Option Plain) (k : Plain) (aim : Option Aim) (u : Turning)
    → told_to b (came_at a g k aim u).plan.out ≡ told_to b u.plan.out ++ put_at b u.plan.table.next aim
one_comes a b g k None u = sym (append-nil (told_to b u.plan.out))
one_comes a b g k (Some aim) u =
    told_to-told b aim.at.actor (Assert u.plan.table.next aim.at.entity aim.value) u.plan.out

one_draws : (a : ℕ) (g : Option Plain) (k : Plain) (aim : Option Aim) (u : Turning)
    → (came_at a g k aim u).plan.table.next ≡ drawn u.plan.table.next aim
one_draws a g k None u = refl
one_draws a g k (Some aim) u = refl

all_come : (y : Behaviour) (a b : ℕ) (ks : List Plain) (u : Turning)
    → told_to b (all_changed y a (map Came ks) u).plan.out
    ≡ told_to b u.plan.out ++ all_put y b u.plan.table.next ks
all_come y a b [] u = sym (append-nil (told_to b u.plan.out))
all_come y a b (k ∷ ks) u =
    let n : ℕ = u.plan.table.next in
    all_come y a b ks (came y a k u)
    ∙ (λ i. one_comes a b (y.group k) k (y.aim k) u i ++ all_put y b (one_draws a (y.group k) k (y.aim k) u i) ks)
    ∙ append_assoc (told_to b u.plan.out) (put_at b n (y.aim k)) (all_put y b (drawn n (y.aim k)) ks)

-- ---- all the changes

all_changed-append : (y : Behaviour) (a : ℕ) (cs ds : List Change) (u : Turning)
    → all_changed y a (cs ++ ds) u ≡ all_changed y a ds (all_changed y a cs u)
all_changed-append y a [] ds u = refl
all_changed-append y a (c ∷ cs) ds u = all_changed-append y a cs ds (changed_by y a c u)

pub regot_tells : (y : Behaviour) (o : Option Watched) (a b : ℕ) (rows : Rows) (u : Turning)
    → ((vs : List Plain) → Ascend (y.keys vs)) → IsMet y o a u.resident u.plan.table.rows
    → told_to b (regot y a rows u).plan.out ≡ told_to b u.plan.out ++ told_of_change y b rows u
regot_tells y o a b rows u rise met =
    ap (λ (v : Turning). told_to b v.plan.out) (all_changed-append y a (map Left gone) (map Came new) begun)
    ∙ all_come y a b new mid
    ∙ (λ i. goes.told i ++ all_put y b (goes.next i) new)
    ∙ append_assoc (told_to b u.plan.out) (flat_map (back y o a b u.resident.handles) gone)
    (all_put y b u.plan.table.next new)
  where
    gone : List Plain
    gone = wanted_alone y u.resident.got rows

    new : List Plain
    new = wanted_alone y rows u.resident.got

    begun : Turning
    begun = with_rows rows u

    mid : Turning
    mid = all_changed y a (map Left gone) begun

    fits : Fits y o a begun
    fits = record {
      ascend = subst Ascend (sym met.keys)
          (passing_ascends y (y.keys (values_of u.resident.got)) (rise (values_of u.resident.got)));
      rows = rows_of_met y o a u.resident u.plan.table.rows met;
    }

    goes : Goes b (flat_map (back y o a b u.resident.handles) gone) begun mid
    goes =
        all_left_go y o a b u.resident.handles gone begun fits
        (without_ascends (y.keys (values_of u.resident.got)) (y.keys (values_of rows)) (rise (values_of u.resident.got))
        (rise (values_of rows)))
        (all_from (IsStill y o a b u.resident.handles begun) (λ q. refl) gone)

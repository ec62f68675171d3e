-- A system actor's rows follow its wants.
use Rattle.std.proofs.Common.{◌≡◌, ℕ, ◌==◌, List, [], ◌∷◌, ◌++◌, map, Bool, true, false, cond, ◌&&◌, ◌||◌}
use Rattle.std.proofs.Common.{not, Option, Some, None, is_some, refl, ap, sym, ◌∙◌, subst, arith}
use Rattle.std.specs.List.{AllByRecursion, IsDistinct}
use Rattle.std.specs.Map.{keys_of, values_of}
use Rattle.std.specs.BTreeMap.{is_at}
use Rattle.std.proofs.lemmas.Bool.Decides.{nat_tests}
use Rattle.std.specs.Ordering.{eq_by_cmp}
use Rattle.std.proofs.lemmas.List.Elements.{All-from_recursion}
use Rattle.std.proofs.lemmas.List.Folds.{list_any_none}
use Rattle.std.proofs.lemmas.Map.Made.{is_some-lookup}
use Rattle.std.proofs.lemmas.Map.Keys.{IsDistinct-from_sorted, IsDistinct-head, IsDistinct-tail}
use Rattle.pv_value.specs.Plain.{Plain}
use Rattle.pv_value.specs.Order.{order}
use Rattle.pv_value.specs.WellFormed.{Ascend}
use Rattle.pv_value.specs.Lemmas.OrderLaws.{order_total, order_same}
use Rattle.pv_words.specs.Lemmas.Same.{same_is, same_self}
use Rattle.pv_words.specs.Parts.{same}
use Rattle.ds_space.specs.Spaces.{Rows}
use Rattle.ds_space.specs.declared.space.Change.{Change}
use Rattle.ds_space.specs.declared.space.Change.TheVariants.{Left, Came}
use Rattle.ds_space.specs.Changes.{among, without, changes}
use Rattle.ds_space.specs.Lemmas.Keys.{same_turns}
use Rattle.ds_space.specs.Lemmas.Lists.{unique}
use Rattle.ac_table.specs.declared.batches.Row.{Row}
use Rattle.ac_table.specs.Tables.{TableState, find_row, is_live, without_row}
use Rattle.ac_world.specs.Outboxes.{Plan, dropped, drop_own, drop_row}
use Rattle.ac_world.specs.declared.aims.Aim.{Aim}
use Rattle.ac_world.specs.Allocating.{allocated, released}
use Rattle.ac_world.specs.Turns.{Turning, handle_for, drop_met, releasing, row_gone, left, allocating, row_come, came}
use Rattle.ac_world.specs.Turns.{came_at, changed_by}
use Rattle.ac_world.specs.Turns.{all_changed, with_rows, regot}
use Rattle.hub_laws.specs.Wanting.{passing, IsMet}
use Rattle.hub_laws.proofs.Kept.{Moves, AreGood, IsAimed}
use Rattle.hub_laws.proofs.Promised.{RegotMet}
use Rattle.hub_laws.proofs.Finding.{found_handle, find_row-without, find_row-asserted, none_from_next, row_next}
use Rattle.hub_laws.proofs.Good.{with_trees_good, put_good, dropped_good}
use Rattle.hub_laws.proofs.Keys.{lookup-insert_entry, lookup-without_entry, insert_entry_ascends, remove_entry_ascends}
use Rattle.hub_laws.proofs.Moving.{with_trees_moves, put_moves, dropped_moves}
use Rattle.hub_laws.proofs.Owned.{HasRows, rows_of_met, met_of_rows, rows_same, rows_less, rows_more}
use Rattle.ac_watch.specs.Lemmas.Alone.{without_ascends, among_without}
use Rattle.ac_world.specs.Behaviours.{Behaviour}
use Rattle.ac_world.specs.declared.watched.Watched.{Watched}
use Rattle.hub_laws.proofs.Wanted.{came_aimed}
use Rattle.hub_laws.proofs.Passing.{among_passing, passing_ascends}

-- ---- what the changes leave as it is

keeps_one : (y : Behaviour) (a : ℕ) (c : Change) (u : Turning)
    → ((changed_by y a c u).resident.got ≡ u.resident.got) × ((changed_by y a c u).spreads ≡ u.spreads)
keeps_one y a (Left k) u = (refl, refl)
keeps_one y a (Came k) u = by (y.aim k)
  where
    by : (o : Option Aim) → ((came_at a (y.group k) k o u).resident.got ≡ u.resident.got)
        × ((came_at a (y.group k) k o u).spreads ≡ u.spreads)
    by None = (refl, refl)
    by (Some aim) = (refl, refl)

all_changed_keeps : (y : Behaviour) (a : ℕ) (cs : List Change) (u : Turning)
    → ((all_changed y a cs u).resident.got ≡ u.resident.got) × ((all_changed y a cs u).spreads ≡ u.spreads)
all_changed_keeps y a [] u = (refl, refl)
all_changed_keeps y a (c ∷ cs) u =
    let one = keeps_one y a c u in
    let rest = all_changed_keeps y a cs (changed_by y a c u) in
    (rest.0 ∙ one.0, rest.1 ∙ one.1)

all_changed-append : (y : Behaviour) (a : ℕ) (cs ds : List Change) (u : Turning)
    → all_changed y a (cs ++ ds) u ≡ all_changed y a ds (all_changed y a cs u)
all_changed-append y a [] ds u = refl
all_changed-append y a (c ∷ cs) ds u = all_changed-append y a cs ds (changed_by y a c u)

-- ---- a turn whose rows fit its keys

record Meets (y : Behaviour) (o : Option Watched) (a : ℕ) (t : TableState) (u : Turning) : Type 1 where
  pub moves : Moves a t u.plan
  pub good : AreGood a u.plan
  pub ascend : Ascend (keys_of u.resident.handles)
  pub rows : HasRows y o a u.resident.handles u.plan.table.rows

abbrev has_key : Plain → Turning → Bool
has_key q u = among q (keys_of u.resident.handles)

among_found : (q : Plain) (met : List (Plain × ℕ)) → among q (keys_of met) ≡ is_some (handle_for q met)
among_found q met = sym (is_some-lookup (same q) met)

-- ---- facets change

module _ (y : Behaviour) (o : Option Watched) (a : ℕ) (t : TableState) (g : Option Plain) (u : Turning)
    (m : Meets y o a t u) where
  releasing_meets : Meets y o a t (releasing a g u)
  releasing_meets = record {
    moves = with_trees_moves a t u.plan (released a g u.resident.facets u.plan.table).trees m.moves;
    good = with_trees_good a u.plan (released a g u.resident.facets u.plan.table).trees m.good;
    ascend = m.ascend;
    rows = m.rows;
  }

  allocating_meets : Meets y o a t (allocating a g u)
  allocating_meets = record {
    moves = with_trees_moves a t u.plan (allocated a g u.resident.facets u.plan.table).trees m.moves;
    good = with_trees_good a u.plan (allocated a g u.resident.facets u.plan.table).trees m.good;
    ascend = m.ascend;
    rows = m.rows;
  }

-- ---- a key leaves

-- the row under a handle goes that the actor owns
dropped_rows : (a h : ℕ) (p : Plan) (r : Row) → find_row h p.table.rows ≡ Some r → r.owner ≡ a
    → (dropped a h p).table.rows ≡ without_row h p.table.rows
dropped_rows a h p r found own =
    let owns : (r.owner == a) ≡ true = grind (arith, nat_tests) in
    ap (λ (o : Option Row). (drop_own a o p).table.rows) found
    ∙ ap (λ b. (cond b (drop_row r p) p).table.rows) owns
    ∙ ap (λ g. without_row g p.table.rows) (found_handle h p.table.rows r found)

module _ (y : Behaviour) (o : Option Watched) (a : ℕ) (t : TableState) where
  module _ (k : Plain) (u : Turning) (m : Meets y o a t u) where
    left_found : (q : Plain) → handle_for q (row_gone a k u).resident.handles
        ≡ cond (same k q) None (handle_for q u.resident.handles)
    left_found q = lookup-without_entry order_total order_same q k u.resident.handles m.ascend

    left_key : (q : Plain) → has_key q (left y a k u) ≡ (has_key q u && not (same k q))
    left_key q =
        among_found q (row_gone a k u).resident.handles ∙ ap is_some (left_found q)
        ∙ by (same k q) (handle_for q u.resident.handles)
        ∙ ap (λ b. b && not (same k q)) (sym (among_found q u.resident.handles))
      where
        by : (b : Bool) (o : Option ℕ) → is_some (cond b None o) ≡ (is_some o && not b)
        by true None = refl
        by true (Some h) = refl
        by false None = refl
        by false (Some h) = refl

    left_rows : (h : Option ℕ) → handle_for k u.resident.handles ≡ h
        → HasRows y o a (row_gone a k u).resident.handles (drop_met a h u.plan).table.rows
    left_rows None none =
        rows_same y o a u.resident.handles (row_gone a k u).resident.handles u.plan.table.rows
        (λ q. left_found q ∙ by q (same k q) refl) m.rows
      where
        by : (q : Plain) (b : Bool) → same k q ≡ b
            → cond b None (handle_for q u.resident.handles) ≡ handle_for q u.resident.handles
        by q true e = sym (ap (λ z. handle_for z u.resident.handles) (sym (same_is k q e)) ∙ none)
        by q false e = refl
    left_rows (Some h) found =
        let met = m.rows.stand k h found in
        rows_less y o a u.resident.handles u.plan.table.rows m.rows k h found (row_gone a k u).resident.handles
        (dropped a h u.plan).table.rows left_found
        (λ g. ap (find_row g) (dropped_rows a h u.plan met.row met.stands met.fits.owner)
        ∙ find_row-without g h u.plan.table.rows)

    row_gone_meets : Meets y o a t (row_gone a k u)
    row_gone_meets = record {
      moves = moves (handle_for k u.resident.handles);
      good = good (handle_for k u.resident.handles);
      ascend = remove_entry_ascends order (is_at (order k)) u.resident.handles m.ascend;
      rows = left_rows (handle_for k u.resident.handles) refl;
    }
      where
        moves : (o : Option ℕ) → Moves a t (drop_met a o u.plan)
        moves None = m.moves
        moves (Some h) = dropped_moves a t u.plan m.moves h

        good : (o : Option ℕ) → AreGood a (drop_met a o u.plan)
        good None = m.good
        good (Some h) = dropped_good a t u.plan m.moves m.good h

    left_meets : Meets y o a t (left y a k u)
    left_meets = releasing_meets y o a t (y.group k) (row_gone a k u) row_gone_meets

  -- and all that leave
  record HaveLeft (ks : List Plain) (u v : Turning) : Type 1 where
    pub meets : Meets y o a t v
    pub keys : (q : Plain) → has_key q v ≡ (has_key q u && not (among q ks))

  all_left : (ks : List Plain) (u : Turning) → Meets y o a t u → HaveLeft ks u (all_changed y a (map Left ks) u)
  all_left [] u m = record { meets = m; keys = λ q. by (has_key q u) }
    where
      by : (b : Bool) → b ≡ (b && true)
      by true = refl
      by false = refl
  all_left (k ∷ ks) u m =
      let rest = all_left ks (left y a k u) (left_meets k u m) in
      record {
        meets = rest.meets;
        keys = λ q.
            rest.keys q ∙ ap (λ b. b && not (among q ks)) (left_key k u m q)
            ∙ by (has_key q u) (same k q) (among q ks)
            ∙ ap (λ s. has_key q u && not (s || among q ks)) (same_turns k q);
      }
    where
      by : (b s r : Bool) → ((b && not s) && not r) ≡ (b && not (s || r))
      by false s r = refl
      by true true r = refl
      by true false r = refl

-- ---- a key comes

none_from : {X : Type 0} (o : Option X) → is_some o ≡ false → o ≡ None
none_from None e = refl
none_from (Some x) e = absurd cc

module _ (y : Behaviour) (o : Option Watched) (a : ℕ) (t : TableState) (live : is_live a t ≡ true) where
  module _ (k : Plain) (u : Turning) (m : Meets y o a t u) (known : IsAimed y a k) (aim : Aim)
      (aimed : y.aim k ≡ Some aim) where
    placed_found : (q : Plain)
        → handle_for q (came_at a (y.group k) k (Some aim) u).resident.handles
        ≡ cond (same k q) (Some u.plan.table.next) (handle_for q u.resident.handles)
    placed_found q = lookup-insert_entry order_total order_same q k u.plan.table.next u.resident.handles

    came_key : (q : Plain) → has_key q (came y a k u) ≡ (same q k || has_key q u)
    came_key q =
        ap (λ o. has_key q (came_at a (y.group k) k o u)) aimed
        ∙ among_found q (came_at a (y.group k) k (Some aim) u).resident.handles
        ∙ ap is_some (placed_found q) ∙ by (same k q) (handle_for q u.resident.handles)
        ∙ (λ i. same_turns k q i || sym (among_found q u.resident.handles) i)
      where
        by : (b : Bool) (o : Option ℕ) → is_some (cond b (Some u.plan.table.next) o) ≡ (b || is_some o)
        by true o = refl
        by false o = refl

    -- the row comes in any facet
    row_come_meets : (facet : ℕ) → has_key k u ≡ false → Meets y o a t (row_come a facet k aim u)
    row_come_meets facet new = record {
      moves = put_moves a t u.plan m.moves live facet aim.at.actor aim.at.entity aim.value;
      good =
          put_good a t u.plan m.moves m.good facet aim.at.actor aim.at.entity aim.value (known aim aimed);
      ascend = insert_entry_ascends order_total order_same k u.plan.table.next u.resident.handles m.ascend;
      rows =
          rows_more y o a u.resident.handles u.plan.table.rows m.rows k u.plan.table.next
          (row_next a facet aim.at.actor aim.at.entity aim.value u.plan.table)
          (none_from (handle_for k u.resident.handles) (sym (among_found k u.resident.handles) ∙ new))
          (none_from_next u.plan.table.next u.plan.table m.moves.table (omega arith))
          (record {
            aim = aim;
            aimed = aimed;
            owner = refl;
            target = refl;
            entity = refl;
            value = refl;
          })
          (row_come a facet k aim u).resident.handles (row_come a facet k aim u).plan.table.rows placed_found
          (λ h. find_row-asserted h a facet aim.at.actor aim.at.entity aim.value u.plan.table m.moves.table);
    }

  -- and it comes in the facet of its group
  came_meets : (k : Plain) (u : Turning) → Meets y o a t u → IsAimed y a k → (aim : Aim) → y.aim k ≡ Some aim
      → has_key k u ≡ false → Meets y o a t (came y a k u)
  came_meets k u m known aim aimed new =
      subst (λ p. Meets y o a t (came_at a (y.group k) k p u)) (sym aimed)
      (row_come_meets k (allocating a (y.group k) u) (allocating_meets y o a t (y.group k) u m) known aim aimed
      (allocated a (y.group k) u.resident.facets u.plan.table).facet new)

  -- and all that come, of which those have a row that pass
  record HaveCome (ks : List Plain) (u v : Turning) : Type 1 where
    pub meets : Meets y o a t v
    pub keys : (q : Plain) → has_key q v ≡ (among q (passing y ks) || has_key q u)

  all_came : (ks : List Plain) (u : Turning) → IsDistinct (eq_by_cmp order) ks → AllByRecursion (IsAimed y a) ks
      → ((q : Plain) → among q ks ≡ true → has_key q u ≡ false) → Meets y o a t u
      → HaveCome ks u (all_changed y a (map Came ks) u)
  all_came [] u d aimed fresh m = record { meets = m; keys = λ q. refl }
  all_came (k ∷ ks) u d aimed fresh m =
      by (y.aim k) refl (λ v. all_came ks v (IsDistinct-tail (eq_by_cmp order) k ks d) aimed.1)
    where
      rows : (r s b : Bool) → (r || (s || b)) ≡ ((s || r) || b)
      rows true true b = refl
      rows true false b = refl
      rows false true b = refl
      rows false false b = refl

      first : (b : Bool) → b ≡ true → (b || among k ks) ≡ true
      first true e = refl
      first false e = absurd cc

      behind : (b r : Bool) → r ≡ true → (b || r) ≡ true
      behind true r e = refl
      behind false r e = e

      apart : among k ks ≡ false
      apart =
          list_any_none (same k) ks
          (All-from_recursion (λ y. same k y ≡ false) ks (IsDistinct-head (eq_by_cmp order) k ks d))

      refused : y.aim k ≡ None → passing y (k ∷ ks) ≡ passing y ks
      refused is = ap (λ (o : Option Aim). cond (is_some o) (k ∷ passing y ks) (passing y ks)) is

      through : (aim : Aim) → y.aim k ≡ Some aim → passing y (k ∷ ks) ≡ k ∷ passing y ks
      through aim is = ap (λ (o : Option Aim). cond (is_some o) (k ∷ passing y ks) (passing y ks)) is

      by : (p : Option Aim) → y.aim k ≡ p
          → ((v : Turning) → ((q : Plain) → among q ks ≡ true → has_key q v ≡ false) → Meets y o a t v
          → HaveCome ks v (all_changed y a (map Came ks) v))
          → HaveCome (k ∷ ks) u (all_changed y a (map Came (k ∷ ks)) u)
      by None is others =
          let same_turn : came y a k u ≡ u = ap (λ o. came_at a (y.group k) k o u) is in
          let rest = others u (λ q e. fresh q (behind (same q k) (among q ks) e)) m in
          subst (λ (v : Turning). HaveCome (k ∷ ks) u (all_changed y a (map Came ks) v)) (sym same_turn) (record {
            meets = rest.meets;
            keys = λ q. rest.keys q ∙ ap (λ xs. among q xs || has_key q u) (sym (refused is));
          })
      by (Some aim) is others =
          let one = came_meets k u m aimed.0 aim is (fresh k (first (same k k) (same_self k))) in
          let rest = others (came y a k u) (λ q e. later q e (same q k) refl) one in
          record {
            meets = rest.meets;
            keys = λ q.
                rest.keys q ∙ ap (λ b. among q (passing y ks) || b) (came_key k u m aimed.0 aim is q)
                ∙ rows (among q (passing y ks)) (same q k) (has_key q u)
                ∙ ap (λ xs. among q xs || has_key q u) (sym (through aim is));
          }
        where
          later : (q : Plain) → among q ks ≡ true → (b : Bool) → same q k ≡ b → has_key q (came y a k u) ≡ false
          later q e true s =
              let clash : true ≡ false = sym e ∙ ap (λ z. among z ks) (same_is q k s) ∙ apart in
              absurd cc
          later q e false s =
              came_key k u m aimed.0 aim is q ∙ ap (λ b. b || has_key q u) s
              ∙ fresh q (behind (same q k) (among q ks) e)

-- ---- all the changes

-- where the keys of the one list that aren't in the other have left, and those the other way round have come, of those
-- that pass
exchanged : (p b a : Bool) → ((p && (not b && a)) || ((p && b) && not (not a && b))) ≡ (p && a)
exchanged false b a = refl
exchanged true true true = refl
exchanged true true false = refl
exchanged true false true = refl
exchanged true false false = refl

absent : (p b a x : Bool) → (not b && a) ≡ true → ((p && b) && x) ≡ false
absent false b a x e = refl
absent true true a x e = absurd cc
absent true false a x e = refl

pub regot_met : (y : Behaviour) → RegotMet y
regot_met y o a law t u rows live moves good met =
    let before = y.keys (values_of u.resident.got) in
    let after = y.keys (values_of rows) in
    let gone = without before after in
    let new = without after before in
    let rise : Ascend before = law.ascend (values_of u.resident.got) in
    let rise_after : Ascend after = law.ascend (values_of rows) in
    let begun : Meets y o a t (with_rows rows u) = record {
      moves = moves;
      good = good;
      ascend = subst Ascend (sym met.keys) (passing_ascends y before rise);
      rows = rows_of_met y o a u.resident u.plan.table.rows met;
    } in
    let passes : Plain → Bool = λ q. is_some (y.aim q) in
    let had : (q : Plain) → has_key q (with_rows rows u) ≡ (passes q && among q before) =
    λ q. ap (among q) met.keys ∙ among_passing y q before in
    let l = all_left y o a t gone (with_rows rows u) begun in
    let mid = all_changed y a (map Left gone) (with_rows rows u) in
    let mid_keys : (q : Plain)
    → has_key q mid ≡ ((passes q && among q before) && not (not (among q after) && among q before)) =
    λ q. l.keys q ∙ (λ i. had q i && not (among_without q before after i)) in
    let fresh : (q : Plain) → among q new ≡ true → has_key q mid ≡ false =
    λ q e. mid_keys q ∙ absent (passes q) (among q before) (among q after) _ (sym (among_without q after before) ∙ e) in
    let c =
    all_came y o a t live new mid
    (IsDistinct-from_sorted order new (without_ascends after before rise_after rise))
    (came_aimed y a law (values_of rows) before) fresh l.meets in
    let last = all_changed y a (map Came new) mid in
    let kept = all_changed_keeps y a (changes before after) (with_rows rows u) in
    let steps : regot y a rows u ≡ last =
    all_changed-append y a (map Left gone) (map Came new) (with_rows rows u) in
    let keys : keys_of last.resident.handles ≡ passing y after =
    unique (keys_of last.resident.handles) (passing y after) c.meets.ascend (passing_ascends y after rise_after)
    (λ q. c.keys q
    ∙ (λ i. (among_passing y q new ∙ ap (λ b. passes q && b) (among_without q after before)) i || mid_keys q i)
    ∙ exchanged (passes q) (among q before) (among q after)
    ∙ sym (among_passing y q after)) in
    let is_met : IsMet y o a last.resident last.plan.table.rows =
    met_of_rows y o a last.resident last.plan.table.rows
    (keys ∙ ap (λ (r : Rows). passing y (y.keys (values_of r)))
    (sym (ap (λ (v : Turning). v.resident.got) (sym steps) ∙ kept.0)))
    c.meets.rows in
    subst (λ (v : Turning). Moves a t v.plan × AreGood a v.plan × IsMet y o a v.resident v.plan.table.rows
    × (v.resident.got ≡ rows) × (v.spreads ≡ u.spreads)) (sym steps) (
      c.meets.moves,
      c.meets.good,
      is_met,
      ap (λ (v : Turning). v.resident.got) (sym steps) ∙ kept.0,
      ap (λ (v : Turning). v.spreads) (sym steps) ∙ kept.1,
    )

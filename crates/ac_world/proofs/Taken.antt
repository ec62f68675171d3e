-- A system actor, and what was delivered to a connection, is taken out of its list and put back after a turn.
use Rattle.std.proofs.Common.{◌≡◌, ℕ, zero, suc, ◌<◌, ◌≤◌, List, [], ◌∷◌, ◌++◌, Bool, true, false, cond}
use Rattle.std.proofs.Common.{Option, Some, None, option_map, unwrap_or, IfSome, refl, ap, sym, subst, ◌∙◌, arith}
use Rattle.std.proofs.Common.{Ordering, Less, Equal, Greater}
use Rattle.std.proofs.lemmas.Bool.Decides.{nat_tests}
use Rattle.std.specs.BTreeMap.{is_at, insert_entry}
use Rattle.std.specs.List.Sorted.{IsStrictlySortedBy}
use Rattle.std.specs.Map.{keys_of, remove_entry}
use Rattle.std.specs.Ordering.{nat_cmp, match_ordering}
use Rattle.gk_sturdy.specs.declared.bound.Binding.{Binding}
use Rattle.ds_space.specs.Spaces.{Rows}
use Rattle.ac_table.specs.declared.batches.Event.{Event}
use Rattle.ac_table.specs.declared.batches.Batch.{Batch}
use Rattle.ac_table.specs.Tables.{TableState}
use Rattle.ac_world.specs.declared.residents.Resident.{Resident as ResidentBy}
use Rattle.ps_schema.specs.declared.Definition.{Definition}
use Rattle.ac_world.specs.declared.others.Other.{Other}
use Rattle.ac_world.specs.Behaviours.{Behaviour, other, behaviour_of}
use Rattle.ac_world.specs.Keeping.{resident_by, residents_by, IsSeated, AreSeated}
use Rattle.ac_world.specs.Others.{rows_in, task_in}
use Rattle.ac_world.specs.Watchers.{Watched, next_watcher, task_at}
use Rattle.ac_world.specs.Outboxes.{plan_over, committed}
use Rattle.ac_world.specs.Worlds.{WorldState, Resident, Deliveries, no_resident, entry_of, with_entry, without_entry}
use Rattle.ac_world.specs.Worlds.{all_delivered}
use Rattle.ac_world.specs.Turns.{Turning, begin_turn, end_turn, all_turned, system_turn}
use Rattle.ac_world.specs.Lemmas.Entries.{back, each_with, each_without, each_found}
use Rattle.ac_world.specs.Lemmas.Watchers.{next_watcher-more, task_at-more}

-- what was delivered after more events
pub delivered_is : (a : ℕ) (es : List Event) (held less new : List (ℕ × Deliveries))
    (taken : Option Deliveries) (was got : Deliveries) → IsStrictlySortedBy nat_cmp (keys_of held)
    → less ≡ remove_entry (is_at (nat_cmp a)) held → taken ≡ entry_of a held → was ≡ unwrap_or taken []
    → got ≡ all_delivered es was → new ≡ insert_entry nat_cmp less a got
    → new ≡ with_entry a (all_delivered es (unwrap_or (entry_of a held) [])) held
delivered_is a es held less new taken was got ascend less_is taken_is was_is got_is is =
    back a got _ held less new ascend less_is is
    (got_is ∙ ap (all_delivered es) (was_is ∙ ap (λ (o : Option Deliveries). unwrap_or o []) taken_is))

-- ---- the dataothers and the watchers, as contracts see them

abbrev seen : ResidentBy (Other Rows) → Resident
seen r = resident_by rows_in r

seen_with : (a : ℕ) (r : ResidentBy (Other Rows)) (es : List (ℕ × ResidentBy (Other Rows)))
    → residents_by (with_entry a r es) ≡ with_entry a (seen r) (residents_by es)
seen_with a r [] = refl
seen_with a r (e ∷ es) = by (nat_cmp a e.0) (seen_with a r es)
  where
    by : (o : Ordering) → residents_by (with_entry a r es) ≡ with_entry a (seen r) (residents_by es)
        → residents_by (match_ordering o ((a, r) ∷ e ∷ es) ((e.0, r) ∷ es) (e ∷ with_entry a r es))
        ≡ match_ordering o ((a, seen r) ∷ residents_by (e ∷ es)) ((e.0, seen r) ∷ residents_by es)
        ((e.0, seen e.1) ∷ with_entry a (seen r) (residents_by es))
    by Less rest = refl
    by Equal rest = refl
    by Greater rest = ap (λ l. (e.0, seen e.1) ∷ l) rest

seen_found : (a : ℕ) (es : List (ℕ × ResidentBy (Other Rows)))
    → entry_of a (residents_by es) ≡ option_map seen (entry_of a es)
seen_found a [] = refl
seen_found a (e ∷ es) = by (is_at (nat_cmp a) e.0) (seen_found a es)
  where
    by : (b : Bool) → entry_of a (residents_by es) ≡ option_map seen (entry_of a es)
        → cond b (Some (seen e.1)) (entry_of a (residents_by es)) ≡ option_map seen (cond b (Some e.1) (entry_of a es))
    by true rest = refl
    by false rest = rest

seen_without : (a : ℕ) (es : List (ℕ × ResidentBy (Other Rows)))
    → residents_by (without_entry a es) ≡ without_entry a (residents_by es)
seen_without a [] = refl
seen_without a (e ∷ es) = by (is_at (nat_cmp a) e.0) (seen_without a es)
  where
    by : (b : Bool) → residents_by (without_entry a es) ≡ without_entry a (residents_by es)
        → residents_by (cond b es (e ∷ without_entry a es))
        ≡ cond b (residents_by es) ((e.0, seen e.1) ∷ without_entry a (residents_by es))
    by true rest = refl
    by false rest = ap (λ l. (e.0, seen e.1) ∷ l) rest

-- the gatekeeper stands before them
behind : (a : ℕ) → 0 < a → nat_cmp a 0 ≡ Greater
behind a some = grind (arith, nat_tests, some)

with_behind : (a : ℕ) (x g : Resident) (es : List (ℕ × Resident)) → 0 < a
    → with_entry a x ((0, g) ∷ es) ≡ (0, g) ∷ with_entry a x es
with_behind a x g es some =
    ap (λ o. match_ordering o ((a, x) ∷ (0, g) ∷ es) ((0, x) ∷ es) ((0, g) ∷ with_entry a x es)) (behind a some)

found_behind : (a : ℕ) (g : Resident) (es : List (ℕ × Resident)) → 0 < a → entry_of a ((0, g) ∷ es) ≡ entry_of a es
found_behind a g es some = by (is_at (nat_cmp a) 0) (grind (arith, nat_tests, some))
  where
    by : (b : Bool) → b ≡ false → cond b (Some g) (entry_of a es) ≡ entry_of a es
    by true is = absurd cc
    by false is = refl

-- the first number of the list is the gatekeeper's
not_first : (a : ℕ) → 0 < a → is_at (nat_cmp a) 0 ≡ false
not_first a some = grind (arith, nat_tests, some)

without_behind : (a : ℕ) (g : Resident) (es : List (ℕ × Resident)) → 0 < a
    → without_entry a ((0, g) ∷ es) ≡ (0, g) ∷ without_entry a es
without_behind a g es some = ap (λ b. cond b es ((0, g) ∷ without_entry a es)) (not_first a some)

-- one of them goes
pub residents_out : (a : ℕ) (g : Resident) (others new : List (ℕ × ResidentBy (Other Rows))) → 0 < a
    → new ≡ remove_entry (is_at (nat_cmp a)) others
    → (0, g) ∷ residents_by new ≡ without_entry a ((0, g) ∷ residents_by others)
residents_out a g others new some is =
    ap (λ l. (0, g) ∷ l) (ap residents_by is ∙ seen_without a others)
    ∙ sym (without_behind a g (residents_by others) some)

-- ---- each has the task that its number tells

pub taken_seated : (a : ℕ) (ws : List Watched) (es : List (ℕ × ResidentBy (Other Rows)))
    (taken : Option (ResidentBy (Other Rows))) → taken ≡ entry_of a es → AreSeated ws es
    → IfSome taken (λ r. task_in r.system ≡ task_at a ws)
taken_seated a ws es None is all = tt
taken_seated a ws es (Some r) is all = (each_found (IsSeated ws) a r es all (sym is)).0

pub seated_out : (a : ℕ) (ws : List Watched) (old new : List (ℕ × ResidentBy (Other Rows)))
    → new ≡ remove_entry (is_at (nat_cmp a)) old → AreSeated ws old → AreSeated ws new
seated_out a ws old new is all = subst (AreSeated ws) (sym is) (each_without (IsSeated ws) a old all)

pub seated_put : (a : ℕ) (ws : List Watched) (after : ResidentBy (Other Rows))
    (old less new : List (ℕ × ResidentBy (Other Rows))) → less ≡ remove_entry (is_at (nat_cmp a)) old
    → new ≡ insert_entry nat_cmp less a after → task_in after.system ≡ task_at a ws → a < next_watcher ws
    → AreSeated ws old → AreSeated ws new
seated_put a ws after old less new less_is new_is task low all =
    let out : AreSeated ws less = seated_out a ws old less less_is all in
    subst (AreSeated ws) (sym new_is) (each_with (IsSeated ws) a after less (task, low) out)

-- none has a number that is still to come
pub none_seated : (a : ℕ) (ws : List Watched) (g : Resident) (es : List (ℕ × ResidentBy (Other Rows)))
    → next_watcher ws ≤ a → AreSeated ws es → entry_of a ((0, g) ∷ residents_by es) ≡ None
none_seated a ws g es past all =
    found_behind a g (residents_by es) (omega (arith, past)) ∙ seen_found a es ∙ ap (option_map seen) (lacking es all)
  where
    lacking : (es : List (ℕ × ResidentBy (Other Rows))) → AreSeated ws es → entry_of a es ≡ None
    lacking [] all = refl
    lacking (e ∷ es) all =
        let low : e.0 < next_watcher ws = all.0.1 in
        let other_one : is_at (nat_cmp a) e.0 ≡ false = grind (arith, nat_tests, low, past) in
        ap (λ b. cond b (Some e.1) (entry_of a es)) other_one ∙ lacking es all.1

-- one more watcher leaves the others theirs
pub seated_more : (ws : List Watched) (w : Watched) (es : List (ℕ × ResidentBy (Other Rows))) → AreSeated ws es
    → AreSeated (ws ++ w ∷ []) es
seated_more ws w [] all = tt
seated_more ws w (e ∷ es) all =
    let low : e.0 < next_watcher ws = all.0.1 in
    ((all.0.0 ∙ sym (task_at-more e.0 ws w low), omega (arith, low, next_watcher-more ws w)), seated_more ws w es all.1)

-- ---- the turn of one of them

module _ (opened : ℕ) (ds : List Definition) (bindings : List Binding) (ws : List Watched) (table : TableState)
    (g : Resident) (others : List (ℕ × ResidentBy (Other Rows))) (held : List (ℕ × Deliveries)) (a : ℕ)
    (some : 0 < a) where
  abbrev world : WorldState
  world = record {
    opened = opened;
    schema = ds;
    bindings = bindings;
    watches = ws;
    table = table;
    residents = (0, g) ∷ residents_by others;
    held = held;
  }

  is_other : behaviour_of ds bindings ws a ≡ other ds (task_at a ws)
  is_other = by a some
    where
      by : (b : ℕ) → 0 < b → behaviour_of ds bindings ws b ≡ other ds (task_at b ws)
      by zero less = absurd (omega (arith, less))
      by (suc b) less = refl

  abbrev turning_with : Behaviour → Resident → Batch → Turning
  turning_with y r b =
      all_turned y a b.from b.events (record { resident = r; plan = plan_over table; spreads = [] })

  pub resident_is : (taken : Option (ResidentBy (Other Rows))) (r : ResidentBy (Other Rows)) → taken ≡ entry_of a others
      → seen r ≡ unwrap_or (option_map seen taken) no_resident
      → seen r ≡ unwrap_or (entry_of a world.residents) no_resident
  resident_is taken r taken_is r_is =
      r_is ∙ ap (λ (o : Option (ResidentBy (Other Rows))). unwrap_or (option_map seen o) no_resident) taken_is
      ∙ ap (λ (o : Option Resident). unwrap_or o no_resident)
      (sym (found_behind a g (residents_by others) some ∙ seen_found a others))

  pub residents_put : (after : ResidentBy (Other Rows)) (less new : List (ℕ × ResidentBy (Other Rows)))
      → IsStrictlySortedBy nat_cmp (keys_of others) → less ≡ remove_entry (is_at (nat_cmp a)) others
      → new ≡ insert_entry nat_cmp less a after
      → (0, g) ∷ residents_by new ≡ with_entry a (seen after) world.residents
  residents_put after less new ascend less_is new_is =
      let put : new ≡ with_entry a after others = back a after after others less new ascend less_is new_is refl in
      ap (λ l. (0, g) ∷ l) (ap residents_by put ∙ seen_with a after others)
      ∙ sym (with_behind a (seen after) g (residents_by others) some)

  -- the turn begins with what was taken out
  pub begun : (b : Batch) (taken : Option (ResidentBy (Other Rows))) (r : ResidentBy (Other Rows))
      → taken ≡ entry_of a others → seen r ≡ unwrap_or (option_map seen taken) no_resident
      → task_in r.system ≡ task_at a ws → turning_with (other ds (task_in r.system)) (seen r) b
      ≡ all_turned (behaviour_of ds bindings ws a) a b.from b.events (begin_turn a world)
  begun b taken r taken_is r_is task =
      let behaves : other ds (task_in r.system) ≡ behaviour_of ds bindings ws a =
      ap (other ds) task ∙ sym is_other in
      λ i. turning_with (behaves i) (resident_is taken r taken_is r_is i) b

  pub other_turn_is : (b : Batch) (taken : Option (ResidentBy (Other Rows))) (r after : ResidentBy (Other Rows))
      (t : Turning) (table_after : TableState) (less new : List (ℕ × ResidentBy (Other Rows)))
      → IsStrictlySortedBy nat_cmp (keys_of others) → less ≡ remove_entry (is_at (nat_cmp a)) others
      → taken ≡ entry_of a others → seen r ≡ unwrap_or (option_map seen taken) no_resident
      → task_in r.system ≡ task_at a ws → t ≡ turning_with (other ds (task_in r.system)) (seen r) b
      → seen after ≡ t.resident → new ≡ insert_entry nat_cmp less a after → table_after ≡ committed a t.plan
      → record {
        opened = opened;
        schema = ds;
        bindings = bindings;
        watches = ws;
        table = table_after;
        residents = (0, g) ∷ residents_by new;
        held = held;
      } ≡ (system_turn a b world).world
  other_turn_is b taken r after t table_after less new ascend less_is taken_is r_is task t_is after_is new_is table_is =
      let whole = t_is ∙ begun b taken r taken_is r_is task in
      let residents : (0, g) ∷ residents_by new ≡ with_entry a t.resident world.residents =
      residents_put after less new ascend less_is new_is ∙ ap (λ x. with_entry a x world.residents) after_is in
      (λ i. record {
        opened = opened;
        schema = ds;
        bindings = bindings;
        watches = ws;
        table = table_is i;
        residents = residents i;
        held = held;
      })
      ∙ ap (λ (u : Turning). (end_turn a world u).world) whole

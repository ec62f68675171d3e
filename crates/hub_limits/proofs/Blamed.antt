-- Whom an event of a system actor's turn ends.
use Rattle.std.proofs.Common.{◌≡◌, ◌≢◌, ◌⊎◌, ℕ, ◌<◌, ◌≤◌, ◌==◌, ◌&&◌, ◌||◌, not, List, [], ◌∷◌, ◌++◌, Bool, true, false}
use Rattle.std.proofs.Common.{cond, Option, Some, None, inl, inr, refl, ap, sym, ◌∙◌, subst, arith, nat_lt, nat_le}
use Rattle.std.specs.List.{AllByRecursion}
use Rattle.std.specs.Map.{values_of}
use Rattle.std.proofs.lemmas.Bool.Decides.{nat_tests}
use Rattle.pv_value.specs.Plain.{Plain}
use Rattle.ds_space.specs.Spaces.{Rows, changed, has_row}
use Rattle.ds_space.specs.declared.space.SpaceEvent.TheVariants.{Add, Gone}
use Rattle.ds_space.specs.declared.space.Change.{Change}
use Rattle.ds_space.specs.declared.space.Change.TheVariants.{Left, Came}
use Rattle.ac_table.specs.declared.batches.Batch.{Batch}
use Rattle.ac_table.specs.declared.batches.Event.{Event}
use Rattle.ac_table.specs.declared.batches.Event.TheVariants.{Assert, Retract, Message, Sync}
use Rattle.ac_table.specs.Tables.{TableState, is_live, first_batch, popped}
use Rattle.ac_world.specs.declared.spreads.Spread.{Spread}
use Rattle.ac_world.specs.declared.turns.Turned.TheVariants as turned
use Rattle.ac_world.specs.declared.aims.Aim.{Aim}
use Rattle.ac_world.specs.Behaviours.{Behaviour, behaviour_of, fanned_weight}
use Rattle.ds_space.specs.Changes.{changes}
use Rattle.ac_world.specs.Turns.{After, Turning, is_listed, spread_by, may_end, culprit, by_assertion, by_message}
use Rattle.ac_world.specs.Turns.{came_at, changed_by, all_changed, with_rows, regot, spreading, say_all, turned_by}
use Rattle.ac_world.specs.Turns.{all_turned, begin_turn, system_turn, connection_turn, turn_first, turn}
use Rattle.ac_world.specs.Worlds.{WorldState, is_system}
use Rattle.hub_limits.specs.Blaming.{IsToBlame, connection, at_watcher, of_watcher, MayEnd, Ends, EndsNobody}
use Rattle.hub_limits.specs.Blaming.{SpreadsSo, AreOfEvents}

-- ---- who is listed

abbrev IsUnlisted : ℕ → List Spread → Type 0
IsUnlisted c ss = AllByRecursion (λ x. x.actor ≢ c) ss

unlisted : (c : ℕ) (ss : List Spread) → is_listed c ss ≡ false → IsUnlisted c ss
unlisted c [] is = tt
unlisted c (x ∷ xs) is = by (x.actor == c) refl is (unlisted c xs)
  where
    by : (b : Bool) → (x.actor == c) ≡ b → (b || is_listed c xs) ≡ false → (is_listed c xs ≡ false → IsUnlisted c xs)
        → IsUnlisted c (x ∷ xs)
    by true same none later = absurd cc
    by false other none later = (λ same. absurd (grind (arith, nat_tests, other, same)), later none)

listed_not : (c : ℕ) (ss : List Spread) → is_listed c ss ≡ true → IsUnlisted c ss → ⊥
listed_not c [] is none = absurd cc
listed_not c (x ∷ xs) is none = by (x.actor == c) refl is (λ later. listed_not c xs later none.1)
  where
    by : (b : Bool) → (x.actor == c) ≡ b → (b || is_listed c xs) ≡ true → (is_listed c xs ≡ true → ⊥) → ⊥
    by true same listed later = none.0 (grind (arith, nat_tests, same))
    by false other listed later = later listed

-- ---- what is listed

and_true : (b c : Bool) → b ≡ true → c ≡ true → (b && c) ≡ true
and_true true true p q = refl
and_true true false p q = absurd cc
and_true false c p q = absurd cc

-- one that ends and isn't listed is listed last
spread_in : (c w : ℕ) (ss : List Spread) (ends : Bool) → ends ≡ true → IsUnlisted c ss
    → spread_by ends c w ss ≡ ss ++ record { actor = c; weight = w } ∷ []
spread_in c w ss false is none = absurd cc
spread_in c w ss true is none = by (is_listed c ss) refl
  where
    by : (b : Bool) → is_listed c ss ≡ b
        → cond (not b) (ss ++ record { actor = c; weight = w } ∷ []) ss ≡ ss ++ record { actor = c; weight = w } ∷ []
    by false listed = refl
    by true listed = absurd (listed_not c ss listed none)

-- the list after an assertion, where q is to blame
abbrev listed_by : TableState → ℕ → ℕ → List Spread → List Spread
listed_by table q w ss = spread_by (may_end q table) q w ss

-- q may end, and isn't one of those that are always live
abbrev IsFree : ℕ → Turning → Type 0
IsFree q t = (9 ≤ q) × MayEnd q t

free_or_not : (q : ℕ) (t : Turning) → IsFree q t ⊎ (IsFree q t → ⊥)
free_or_not q t = by (nat_le 9 q) (is_live q t.plan.table) (is_listed q t.spreads) refl refl refl
  where
    by : (b c d : Bool) → nat_le 9 q ≡ b → is_live q t.plan.table ≡ c → is_listed q t.spreads ≡ d
        → IsFree q t ⊎ (IsFree q t → ⊥)
    by true true false high live listed = inl (grind (arith, nat_tests, high), (live, unlisted q t.spreads listed))
    by true true true high live listed = inr (λ f. listed_not q t.spreads listed f.1.1)
    by true false d high live listed = inr (λ f. let clash : false ≡ true = sym live ∙ f.1.0 in absurd cc)
    by false c d low live listed = inr (λ f. let far : 9 ≤ q = f.0 in absurd (grind (arith, nat_tests, low, far)))

listed_free : (q w : ℕ) (t : Turning) → IsFree q t
    → listed_by t.plan.table q w t.spreads ≡ t.spreads ++ record { actor = q; weight = w } ∷ []
listed_free q w t f =
    let far : 9 ≤ q = f.0 in
    let high : nat_le 9 q ≡ true = grind (arith, nat_tests, far) in
    spread_in q w t.spreads (may_end q t.plan.table) (and_true (nat_le 9 q) (is_live q t.plan.table) high f.1.0) f.1.1

listed_unless : (q w : ℕ) (t : Turning) → (IsFree q t → ⊥) → listed_by t.plan.table q w t.spreads ≡ t.spreads
listed_unless q w t never = by (nat_le 9 q) (is_live q t.plan.table) (is_listed q t.spreads) refl refl refl
  where
    by : (b c d : Bool) → nat_le 9 q ≡ b → is_live q t.plan.table ≡ c → is_listed q t.spreads ≡ d
        → cond ((b && c) && not d) (t.spreads ++ record { actor = q; weight = w } ∷ []) t.spreads ≡ t.spreads
    by true true false high live listed =
        absurd (never (grind (arith, nat_tests, high), (live, unlisted q t.spreads listed)))
    by true true true high live listed = refl
    by true false d high live listed = refl
    by false c d high live listed = refl

-- ---- who is to blame

culprit_is : (a from c : ℕ) → IsToBlame a from c → culprit a from ≡ c
culprit_is a from c (connection far same) =
    let high : nat_le 17 from ≡ true = grind (arith, nat_tests, far) in
    ap (λ b. cond (b || nat_lt a 9) from a) high ∙ sym same
culprit_is a from c (at_watcher near high low same) =
    let system : nat_le 17 from ≡ false = grind (arith, nat_tests, near) in
    let watcher : nat_lt a 9 ≡ false = grind (arith, nat_tests, high) in
    ap (λ b. cond (b || nat_lt a 9) from a) system ∙ ap (λ b. cond b from a) watcher ∙ sym same
culprit_is a from c (of_watcher high near low same) =
    let system : nat_le 17 from ≡ false = grind (arith, nat_tests, near) in
    let space : nat_lt a 9 ≡ true = grind (arith, nat_tests, low) in
    ap (λ b. cond (b || nat_lt a 9) from a) system ∙ ap (λ b. cond b from a) space ∙ sym same

blamed_far : (a from c : ℕ) → IsToBlame a from c → 9 ≤ c
blamed_far a from c (connection far same) = omega (arith, far, same)
blamed_far a from c (at_watcher near high low same) = omega (arith, high, same)
blamed_far a from c (of_watcher high near low same) = omega (arith, high, same)

blame_of : (a from : ℕ) → a < 17 → 9 ≤ culprit a from → IsToBlame a from (culprit a from)
blame_of a from low far = by (nat_le 17 from) (nat_lt a 9) refl refl far
  where
    by : (b c : Bool) → nat_le 17 from ≡ b → nat_lt a 9 ≡ c → 9 ≤ cond (b || c) from a
        → IsToBlame a from (cond (b || c) from a)
    by true c high near q = connection (grind (arith, nat_tests, high)) refl
    by false true high near q = of_watcher q (grind (arith, nat_tests, high)) (grind (arith, nat_tests, near)) refl
    by false false high near q = at_watcher (grind (arith, nat_tests, high)) (grind (arith, nat_tests, near)) low refl

-- ---- changes list nobody

came_lists : (a : ℕ) (g : Option Plain) (k : Plain) (o : Option Aim) (t : Turning)
    → (came_at a g k o t).spreads ≡ t.spreads
came_lists a g k None t = refl
came_lists a g k (Some aim) t = refl

changed_lists : (y : Behaviour) (a : ℕ) (c : Change) (t : Turning) → (changed_by y a c t).spreads ≡ t.spreads
changed_lists y a (Left k) t = refl
changed_lists y a (Came k) t = came_lists a (y.group k) k (y.aim k) t

all_changed_lists : (y : Behaviour) (a : ℕ) (cs : List Change) (t : Turning)
    → (all_changed y a cs t).spreads ≡ t.spreads
all_changed_lists y a [] t = refl
all_changed_lists y a (c ∷ cs) t = all_changed_lists y a cs (changed_by y a c t) ∙ changed_lists y a c t

regot_lists : (y : Behaviour) (a : ℕ) (rows : Rows) (t : Turning) → (regot y a rows t).spreads ≡ t.spreads
regot_lists y a rows t =
    all_changed_lists y a (changes (y.keys (values_of t.resident.got)) (y.keys (values_of rows))) (with_rows rows t)

-- ---- weights

over_is : (n w : ℕ) → w ≡ n → 33554432 < w → nat_lt 33554432 n ≡ true
over_is n w same over = grind (arith, nat_tests, same, over)

is_over : (n : ℕ) → nat_lt 33554432 n ≡ true → 33554432 < n
is_over n is = grind (arith, nat_tests, is)

-- ---- an assertion

module _ (y : Behaviour) (a from h entity : ℕ) (v : Plain) (t : Turning) where
  -- what would be wanted with it
  abbrev heavy : ℕ
  heavy = y.weight (values_of (changed t.resident.got (Add h v)))

  abbrev spread : Turning
  spread = spreading (by_assertion t.plan.table a from heavy) t

  abbrev taken : Turning
  taken = regot y a (changed t.resident.got (Add h v)) t

  assert_one : (c w : ℕ) → Ends y a from (Assert h entity v) t c w
      → (turned_by y a from (Assert h entity v) t).spreads ≡ t.spreads ++ record { actor = c; weight = w } ∷ []
  assert_one c w e =
      by (has_row h t.resident.got) (nat_lt 33554432 heavy) e.0.0 (over_is heavy w e.0.1 e.0.2)
    where
      blame : IsToBlame a from c
      blame = e.0.3

      listed : by_assertion t.plan.table a from heavy t.spreads ≡ t.spreads ++ record { actor = c; weight = w } ∷ []
      listed =
          ap (λ q. listed_by t.plan.table q heavy t.spreads) (culprit_is a from c blame)
          ∙ ap (λ n. listed_by t.plan.table c n t.spreads) (sym e.0.1)
          ∙ listed_free c w t (blamed_far a from c blame, e.1)

      by : (b d : Bool) → b ≡ false → d ≡ true
          → (cond b t (cond d spread taken)).spreads ≡ t.spreads ++ record { actor = c; weight = w } ∷ []
      by true d new over = absurd cc
      by false false new over = absurd cc
      by false true new over = listed

  assert_none : a < 17 → EndsNobody y a from (Assert h entity v) t
      → (turned_by y a from (Assert h entity v) t).spreads ≡ t.spreads
  assert_none low never = by (has_row h t.resident.got) (nat_lt 33554432 heavy) refl refl
    where
      by : (b d : Bool) → has_row h t.resident.got ≡ b → nat_lt 33554432 heavy ≡ d
          → (cond b t (cond d spread taken)).spreads ≡ t.spreads
      by true d new over = refl
      by false false new over = regot_lists y a (changed t.resident.got (Add h v)) t
      by false true new over =
          listed_unless (culprit a from) heavy t
          (λ f. never (culprit a from) heavy ((new, refl, is_over heavy over, blame_of a from low f.0), f.1))

  assert_decided : a < 17
      → ((x : Spread) × Ends y a from (Assert h entity v) t x.actor x.weight)
      ⊎ EndsNobody y a from (Assert h entity v) t
  assert_decided low = by (has_row h t.resident.got) (nat_lt 33554432 heavy) refl refl
    where
      who : has_row h t.resident.got ≡ false → 33554432 < heavy
          → IsFree (culprit a from) t ⊎ (IsFree (culprit a from) t → ⊥)
          → ((x : Spread) × Ends y a from (Assert h entity v) t x.actor x.weight)
          ⊎ EndsNobody y a from (Assert h entity v) t
      who new over (inl f) =
          inl (record { actor = culprit a from; weight = heavy }, ((new, refl, over, blame_of a from low f.0), f.1))
      who new over (inr not_free) =
          inr (λ c w e. not_free (subst (λ q. IsFree q t) (sym (culprit_is a from c e.0.3))
          (blamed_far a from c e.0.3, e.1)))

      by : (b d : Bool) → has_row h t.resident.got ≡ b → nat_lt 33554432 heavy ≡ d
          → ((x : Spread) × Ends y a from (Assert h entity v) t x.actor x.weight)
          ⊎ EndsNobody y a from (Assert h entity v) t
      by true d old over = inr (λ c w e. let clash : true ≡ false = sym old ∙ e.0.0 in absurd cc)
      by false false new light =
          inr (λ c w e. let clash : false ≡ true = sym light ∙ over_is heavy w e.0.1 e.0.2 in absurd cc)
      by false true new over = who new (is_over heavy over) (free_or_not (culprit a from) t)

-- ---- a message

module _ (y : Behaviour) (a from entity : ℕ) (v : Plain) (t : Turning) where
  -- what would be sent for it
  abbrev fanned : ℕ
  fanned = fanned_weight (y.fan (values_of t.resident.got) v)

  abbrev blamed : Turning
  blamed = spreading (by_message t.plan.table from fanned) t

  abbrev passed : Turning
  passed = record t { plan = say_all y.schema (y.fan (values_of t.resident.got) v) t.plan }

  -- a connection that may end
  abbrev IsPeer : Type 0
  IsPeer = (17 ≤ from) × MayEnd from t

  message_one : (c w : ℕ) → Ends y a from (Message entity v) t c w
      → (turned_by y a from (Message entity v) t).spreads ≡ t.spreads ++ record { actor = c; weight = w } ∷ []
  message_one c w e = by (nat_lt 33554432 fanned) (over_is fanned w e.0.0 e.0.1)
    where
      far : 17 ≤ from
      far = e.0.2

      may : MayEnd from t
      may = subst (λ n. MayEnd n t) e.0.3 e.1

      peer : (nat_le 17 from && is_live from t.plan.table) ≡ true
      peer = and_true (nat_le 17 from) (is_live from t.plan.table) (grind (arith, nat_tests, far)) may.0

      listed : by_message t.plan.table from fanned t.spreads ≡ t.spreads ++ record { actor = c; weight = w } ∷ []
      listed =
          ap (λ n. by_message t.plan.table from n t.spreads) (sym e.0.0)
          ∙ spread_in from w t.spreads (nat_le 17 from && is_live from t.plan.table) peer may.1
          ∙ ap (λ (n : ℕ). t.spreads ++ record { actor = n; weight = w } ∷ []) (sym e.0.3)

      by : (d : Bool) → d ≡ true
          → (cond d blamed passed).spreads ≡ t.spreads ++ record { actor = c; weight = w } ∷ []
      by true over = listed
      by false over = absurd cc

  message_unless : (IsPeer → ⊥) → by_message t.plan.table from fanned t.spreads ≡ t.spreads
  message_unless never = by (nat_le 17 from) (is_live from t.plan.table) (is_listed from t.spreads) refl refl refl
    where
      by : (b c d : Bool) → nat_le 17 from ≡ b → is_live from t.plan.table ≡ c → is_listed from t.spreads ≡ d
          → cond ((b && c) && not d) (t.spreads ++ record { actor = from; weight = fanned } ∷ []) t.spreads ≡ t.spreads
      by true true false high live listed =
          absurd (never (grind (arith, nat_tests, high), (live, unlisted from t.spreads listed)))
      by true true true high live listed = refl
      by true false d high live listed = refl
      by false c d high live listed = refl

  message_none : EndsNobody y a from (Message entity v) t
      → (turned_by y a from (Message entity v) t).spreads ≡ t.spreads
  message_none never = by (nat_lt 33554432 fanned) refl
    where
      by : (d : Bool) → nat_lt 33554432 fanned ≡ d → (cond d blamed passed).spreads ≡ t.spreads
      by true over = message_unless (λ p. never from fanned ((refl, is_over fanned over, p.0, refl), p.1))
      by false light = refl

  message_decided :
      ((x : Spread) × Ends y a from (Message entity v) t x.actor x.weight) ⊎ EndsNobody y a from (Message entity v) t
  message_decided = by (nat_lt 33554432 fanned) (nat_le 17 from) refl refl
    where
      who : 33554432 < fanned → 17 ≤ from → IsFree from t ⊎ (IsFree from t → ⊥)
          → ((x : Spread) × Ends y a from (Message entity v) t x.actor x.weight)
          ⊎ EndsNobody y a from (Message entity v) t
      who over far (inl f) = inl (record { actor = from; weight = fanned }, ((refl, over, far, refl), f.1))
      who over far (inr not_free) =
          inr (λ c w e. not_free (omega (arith, far), subst (λ n. MayEnd n t) e.0.3 e.1))

      by : (d b : Bool) → nat_lt 33554432 fanned ≡ d → nat_le 17 from ≡ b
          → ((x : Spread) × Ends y a from (Message entity v) t x.actor x.weight)
          ⊎ EndsNobody y a from (Message entity v) t
      by false b light far =
          inr (λ c w e. let clash : false ≡ true = sym light ∙ over_is fanned w e.0.0 e.0.1 in absurd cc)
      by true false over near =
          inr (λ c w e. let far : 17 ≤ from = e.0.2 in absurd (grind (arith, nat_tests, near, far)))
      by true true over far = who (is_over fanned over) (grind (arith, nat_tests, far)) (free_or_not from t)

-- ---- each event

pub spreads_so : (y : Behaviour) (a from : ℕ) (e : Event) (t : Turning) → a < 17 → SpreadsSo y a from e t
spreads_so y a from (Assert h entity v) t low =
    record { one = assert_one y a from h entity v t; none = assert_none y a from h entity v t low }
spreads_so y a from (Retract h entity) t low = record {
  one = λ c w e. absurd e.0;
  none = λ never. regot_lists y a (changed t.resident.got (Gone h)) t;
}
spreads_so y a from (Message entity v) t low =
    record { one = message_one y a from entity v t; none = message_none y a from entity v t }
spreads_so y a from (Sync entity peer) t low = record { one = λ c w e. absurd e.0; none = λ never. refl }

decided : (y : Behaviour) (a from : ℕ) (e : Event) (t : Turning) → a < 17
    → ((x : Spread) × Ends y a from e t x.actor x.weight) ⊎ EndsNobody y a from e t
decided y a from (Assert h entity v) t low = assert_decided y a from h entity v t low
decided y a from (Retract h entity) t low = inr (λ c w e. e.0)
decided y a from (Message entity v) t low = message_decided y a from entity v t
decided y a from (Sync entity peer) t low = inr (λ c w e. e.0)

-- ---- all events of a turn

then_more : (ss : List Spread) (x : Spread) (xs : List Spread) → (ss ++ x ∷ []) ++ xs ≡ ss ++ x ∷ xs
then_more [] x xs = refl
then_more (s ∷ ss) x xs = ap (λ l. s ∷ l) (then_more ss x xs)

then_none : (ss : List Spread) → ss ≡ ss ++ []
then_none [] = refl
then_none (s ∷ ss) = ap (λ l. s ∷ l) (then_none ss)

-- those that the events list, behind those that were listed
abbrev ListsThese : Behaviour → ℕ → ℕ → List Event → Turning → Type 0
ListsThese y a from es t =
    (xs : List Spread) × ((all_turned y a from es t).spreads ≡ t.spreads ++ xs) × AreOfEvents y a from es t xs

all_listed : (y : Behaviour) (a from : ℕ) (es : List Event) (t : Turning) → a < 17 → ListsThese y a from es t
all_listed y a from [] t low = ([], then_none t.spreads, refl)
all_listed y a from (e ∷ es) t low =
    by (decided y a from e t low) (all_listed y a from es (turned_by y a from e t) low)
  where
    by : ((x : Spread) × Ends y a from e t x.actor x.weight) ⊎ EndsNobody y a from e t
        → ListsThese y a from es (turned_by y a from e t) → ListsThese y a from (e ∷ es) t
    by (inl one) rest = (
      one.0 ∷ rest.0,
      rest.1 ∙ ap (λ ss. ss ++ rest.0) ((spreads_so y a from e t low).one one.0.actor one.0.weight one.1)
          ∙ then_more t.spreads one.0 rest.0,
      inr (one.0, rest.0, refl, one.1, rest.2),
    )
    by (inr never) rest = (
      rest.0,
      rest.1 ∙ ap (λ ss. ss ++ rest.0) ((spreads_so y a from e t low).none never),
      inl (never, rest.2),
    )

-- ---- a turn

abbrev without_batch : ℕ → WorldState → WorldState
without_batch a w = record w { table = popped a w.table }

abbrev not_there : WorldState → After
not_there w = record { world = w; turned = turned.Gone }

turned_is : (a : ℕ) (b : Batch) (w : WorldState) → a < 17 → is_live a w.table ≡ true
    → first_batch a w.table ≡ Some b
    → (turn a w).turned ≡ turned.Ran (all_turned (behaviour_of w.schema w.bindings w.watches a) a b.from b.events
    (begin_turn a (without_batch a w))).spreads
turned_is a b w low live first =
    let system : is_system a ≡ true = grind (arith, nat_tests, low) in
    let u : WorldState = without_batch a w in
    ap (λ c. (cond c (turn_first a (first_batch a w.table) w) (not_there w)).turned) live
    ∙ ap (λ o. (turn_first a o w).turned) first
    ∙ ap (λ c. (cond c (system_turn a b u) (connection_turn a b u)).turned) system

pub turn_lists : (a : ℕ) (b : Batch) (w : WorldState) → a < 17 → is_live a w.table ≡ true
    → first_batch a w.table ≡ Some b
    → (xs : List Spread) × ((turn a w).turned ≡ turned.Ran xs)
    × AreOfEvents (behaviour_of w.schema w.bindings w.watches a) a b.from b.events
    (begin_turn a (record w { table = popped a w.table })) xs
turn_lists a b w low live first =
    let y : Behaviour = behaviour_of w.schema w.bindings w.watches a in
    let all = all_listed y a b.from b.events (begin_turn a (without_batch a w)) low in
    (all.0, turned_is a b w low live first ∙ ap (λ xs. turned.Ran xs) all.1, all.2)

-- The rows of a system actor at a connection are, as a bag, one for each key that it wants there.
use Rattle.std.proofs.Common.{◌≡◌, ℕ, List, [], ◌∷◌, map, Bool, true, false, cond, ◌&&◌, ◌||◌, ◌==◌, filter, eqb-true}
use Rattle.std.proofs.Common.{Option, Some, None, refl, ap, sym, ◌∙◌, subst, arith, map-id, IsPermutation}
use Rattle.std.specs.Cmp.{eq_by_cmp_equiv, nat_cmp_total}
use Rattle.std.specs.List.{AllByRecursion, IsDistinct, list_any}
use Rattle.std.specs.Map.{keys_of, values_of}
use Rattle.std.specs.Ordering.{nat_cmp, eq_by_cmp}
use Rattle.std.proofs.lemmas.Bool.Decides.{nat_tests}
use Rattle.std.proofs.lemmas.List.Sorted.{IsPermutation-map}
use Rattle.std.proofs.lemmas.Map.Keys.{IsDistinct-head, IsDistinct-tail, IsDistinct-cons, IsDistinct-from_sorted}
use Rattle.std.proofs.lemmas.Map.Made.{IsDistinct-keys_filter}
use Rattle.pv_value.specs.Plain.{Plain, boolean}
use Rattle.pv_words.specs.Lemmas.Same.{same_is, same_self}
use Rattle.pv_words.specs.Parts.{same}
use Rattle.ds_space.specs.Lemmas.Keys.{same_turns}
use Rattle.ac_table.specs.declared.batches.Row.{Row}
use Rattle.ac_table.specs.Tables.{find_row, handles}
use Rattle.ac_table.specs.Lemmas.Lists.{all_filter, all_weaker}
use Rattle.ac_world.specs.Turns.{handle_for}
use Rattle.ac_world.specs.Worlds.{actor_of}
use Rattle.ac_world.specs.Behaviours.{Behaviour}
use Rattle.rl_ports.specs.Ports.{ExportTable}
use Rattle.hub_laws.specs.Scratch.{Pair, pair_at}
use Rattle.hub_laws.proofs.Distinct.{distinct_none, same_members}
use Rattle.hub_laws.proofs.Finding.{Ascend, found_handle, all_from_found, ascend_filter}
use Rattle.hub_laws.proofs.Owned.{HasRows}
use Rattle.hub_laws.proofs.Told.{is_at_actor, goes_to, pair_or, pair_by, any_map}

-- ---- tests

both_hold : (a b : Bool) → (a && b) ≡ true → (a ≡ true) × (b ≡ true)
both_hold true b is = (refl, is)
both_hold false b is = absurd cc

same_test : (a b : Bool) → (a ≡ true → b ≡ true) → (b ≡ true → a ≡ true) → a ≡ b
same_test true b there back = sym (there refl)
same_test false true there back = back refl
same_test false false there back = refl

-- an element that passes a test, of those that are all so
picked : {X : Type 0} (P : X → Type 0) (test : X → Bool) (xs : List X) → AllByRecursion P xs → list_any test xs ≡ true
    → (x : X) × P x × (test x ≡ true)
picked P test [] all is = absurd cc
picked P test (x ∷ xs) all is = by (test x) refl is (picked P test xs all.1)
  where
    by : (b : Bool) → test x ≡ b → (b || list_any test xs) ≡ true
        → (list_any test xs ≡ true → (y : _) × P y × (test y ≡ true)) → (y : _) × P y × (test y ≡ true)
    by true passes is later = (x, all.0, passes)
    by false passes is later = later is

maps_alike : {X Y V Z : Type 0} (g : Y → Z) (h : X → Y) (f : V → Z) (t : X → V) (xs : List X)
    → AllByRecursion (λ x. g (h x) ≡ f (t x)) xs → map g (map h xs) ≡ map f (map t xs)
maps_alike g h f t [] all = refl
maps_alike g h f t (x ∷ xs) all = λ i. all.0 i ∷ maps_alike g h f t xs all.1 i

-- ---- handles

abbrev same_handle : ℕ → ℕ → Bool
same_handle g h = eq_by_cmp nat_cmp g h

same_handle_is : (g h : ℕ) → same_handle g h ≡ true → g ≡ h
same_handle_is g h is = grind (arith, nat_tests)

same_handle_self : (h : ℕ) → same_handle h h ≡ true
same_handle_self h = (eq_by_cmp_equiv nat_cmp_total).refl h

-- what is found of a row that passes
find_passing : (h : ℕ) (test : Row → Bool) (rows : List Row) (r : Row) → find_row h rows ≡ Some r → test r ≡ true
    → list_any (same_handle h) (handles (filter test rows)) ≡ true
find_passing h test [] r is passes = absurd cc
find_passing h test (x ∷ xs) r is passes = by (x.handle == h) refl (find_passing h test xs r)
  where
    behind : (b : Bool) → list_any (same_handle h) (handles (filter test xs)) ≡ true
        → list_any (same_handle h) (handles (cond b (x ∷ filter test xs) (filter test xs))) ≡ true
    behind true later = grind (arith, later)
    behind false later = later

    by : (b : Bool) → (x.handle == h) ≡ b
        → (find_row h xs ≡ Some r → test r ≡ true → list_any (same_handle h) (handles (filter test xs)) ≡ true)
        → list_any (same_handle h) (handles (filter test (x ∷ xs))) ≡ true
    by true here later =
        let x_is : Some x ≡ Some r = sym (rw here refl) ∙ is in
        let one : x ≡ r = grind (arith, x_is) in
        rw (ap test one ∙ passes) (grind (arith, nat_tests))
    by false other later = behind (test x) (later (rw other at is) passes)

-- and of a key that passes
lookup_passing : (h : ℕ) (p : Plain → Bool) (k : Plain) (met : List (Plain × ℕ)) → handle_for k met ≡ Some h
    → p k ≡ true → list_any (same_handle h) (values_of (filter (λ e. p e.0) met)) ≡ true
lookup_passing h p k [] is passes = absurd cc
lookup_passing h p k (e ∷ es) is passes = by (same k e.0) refl (lookup_passing h p k es)
  where
    behind : (b : Bool) → list_any (same_handle h) (values_of (filter (λ e. p e.0) es)) ≡ true
        → list_any (same_handle h) (values_of (cond b (e ∷ filter (λ e. p e.0) es) (filter (λ e. p e.0) es))) ≡ true
    behind true later = grind (arith, later)
    behind false later = later

    by : (b : Bool) → same k e.0 ≡ b
        → (handle_for k es ≡ Some h → p k ≡ true
        → list_any (same_handle h) (values_of (filter (λ e. p e.0) es)) ≡ true)
        → list_any (same_handle h) (values_of (filter (λ e. p e.0) (e ∷ es))) ≡ true
    by true here later =
        let e_is : Some e.1 ≡ Some h = sym (rw here refl) ∙ is in
        let one : e.1 ≡ h = cc in
        rw (ap p (sym (same_is k e.0 here)) ∙ passes)
        (ap (λ z. same_handle h z || list_any (same_handle h) (values_of (filter (λ e. p e.0) es))) one
        ∙ ap (λ b. b || list_any (same_handle h) (values_of (filter (λ e. p e.0) es))) (same_handle_self h))
    by false other later = behind (p e.0) (later (rw other at is) passes)

-- ---- what stands under each key

-- under each key its own handle is found
each_found : (met : List (Plain × ℕ)) → IsDistinct same (keys_of met)
    → AllByRecursion (λ e. handle_for e.0 met ≡ Some e.1) met
each_found [] d = tt
each_found (e ∷ es) d = (
  rw (same_self e.0) refl,
  later es (IsDistinct-head same e.0 (keys_of es) d)
      (each_found es (IsDistinct-tail same e.0 (keys_of es) d)),
)
  where
    later : (fs : List (Plain × ℕ)) → AllByRecursion (λ k. same e.0 k ≡ false) (keys_of fs)
        → AllByRecursion (λ f. handle_for f.0 es ≡ Some f.1) fs
        → AllByRecursion (λ f. handle_for f.0 (e ∷ es) ≡ Some f.1) fs
    later [] other found = tt
    later (f ∷ fs) other found =
        (rw (same_turns f.0 e.0, other.0) found.0, later fs other.1 found.1)

keys_filter : (p : Plain → Bool) (met : List (Plain × ℕ)) → keys_of (filter (λ e. p e.0) met) ≡ filter p (keys_of met)
keys_filter p [] = refl
keys_filter p (e ∷ es) = by (p e.0) refl (keys_filter p es)
  where
    by : (b : Bool) → p e.0 ≡ b → keys_of (filter (λ e. p e.0) es) ≡ filter p (keys_of es)
        → keys_of (filter (λ e. p e.0) (e ∷ es)) ≡ filter p (keys_of (e ∷ es))
    by true is rest = rw is (ap (λ l. e.0 ∷ l) rest)
    by false is rest = rw is rest

-- handles are apart where each is one key's
values_apart : (met es : List (Plain × ℕ))
    → ((k l : Plain) (h : ℕ) → handle_for k met ≡ Some h → handle_for l met ≡ Some h → k ≡ l)
    → IsDistinct same (keys_of es) → AllByRecursion (λ e. handle_for e.0 met ≡ Some e.1) es
    → IsDistinct same_handle (values_of es)
values_apart met [] apart d found = distinct_none same_handle
values_apart met (e ∷ es) apart d found =
    IsDistinct-cons same_handle e.1 (values_of es)
    (others es (IsDistinct-head same e.0 (keys_of es) d) found.1)
    (values_apart met es apart (IsDistinct-tail same e.0 (keys_of es) d) found.1)
  where
    other : (f : Plain × ℕ) → same e.0 f.0 ≡ false → handle_for f.0 met ≡ Some f.1 → (b : Bool)
        → same_handle e.1 f.1 ≡ b → b ≡ false
    other f keys at false is = refl
    other f keys at true is =
        let one : e.0 ≡ f.0 = apart e.0 f.0 e.1 found.0 (at ∙ ap Some (sym (same_handle_is e.1 f.1 is))) in
        let yes : same e.0 f.0 ≡ true = subst (λ z. same e.0 z ≡ true) one (same_self e.0) in
        absurd cc

    others : (fs : List (Plain × ℕ)) → AllByRecursion (λ k. same e.0 k ≡ false) (keys_of fs)
        → AllByRecursion (λ f. handle_for f.0 met ≡ Some f.1) fs
        → AllByRecursion (λ h. same_handle e.1 h ≡ false) (values_of fs)
    others [] keys at = tt
    others (f ∷ fs) keys at = (other f keys.0 at.0 _ refl, others fs keys.1 at.1)

-- ---- the rows of system actor d at connection n, which has these exports

abbrev pub pair_of_row : ExportTable → ℕ → Row → Pair
pair_of_row exports n r = pair_at exports n r.entity r.value

abbrev pair_found : ExportTable → ℕ → Option Row → Pair
pair_found exports n None = record { oid = 0; value = boolean false }
pair_found exports n (Some r) = pair_of_row exports n r

module _ (y : Behaviour) (exports : ExportTable) (n d : ℕ) (met : List (Plain × ℕ)) (rows : List Row)
    (rise : Ascend rows)
    (keys : IsDistinct same (keys_of met)) (has : HasRows y None d met rows) where
  abbrev is_own : Row → Bool
  is_own r = (r.target == actor_of n) && (r.owner == d)

  abbrev own : List Row
  own = filter is_own rows

  abbrev meant : List (Plain × ℕ)
  meant = filter (λ e. goes_to y (actor_of n) e.0) met

  abbrev pair_under : ℕ → Pair
  pair_under h = pair_found exports n (find_row h rows)

  abbrev IsOwn : Row → Type 0
  IsOwn r = (find_row r.handle rows ≡ Some r) × (r.target ≡ actor_of n) × (r.owner ≡ d)

  all_own : AllByRecursion IsOwn own
  all_own =
      all_filter (λ r. find_row r.handle rows ≡ Some r) IsOwn is_own
      (λ r passes found. let both = both_hold (r.target == actor_of n) (r.owner == d) passes in
      (found, eqb-true r.target (actor_of n) both.0, eqb-true r.owner d both.1)) rows
      (all_from_found _ rows rise (λ h r is. ap (λ h. find_row h rows) (found_handle h rows r is) ∙ is))

  abbrev IsMeant : Plain × ℕ → Type 0
  IsMeant e = (handle_for e.0 met ≡ Some e.1) × (goes_to y (actor_of n) e.0 ≡ true)

  all_meant : AllByRecursion IsMeant meant
  all_meant =
      all_filter _ IsMeant (λ e. goes_to y (actor_of n) e.0) (λ e passes found. (found, passes)) met
      (each_found met keys)

  own_pairs : map pair_under (handles own) ≡ map (pair_of_row exports n) own
  own_pairs =
      maps_alike pair_under (λ r. r.handle) (pair_of_row exports n) (λ r. r) own
      (all_weaker _ _ (λ r is. ap (pair_found exports n) is.0) own all_own)
      ∙ ap (map (pair_of_row exports n)) (map-id own)

  -- the row under a key's handle is told as the key's pair
  one_pair : (e : Plain × ℕ) → IsMeant e → pair_under e.1 ≡ pair_by y exports n e.0
  one_pair e is =
      let m = has.stand e.0 e.1 is.0 in
      ap (pair_found exports n) m.stands ∙ (λ i. pair_at exports n (m.fits.entity i) (m.fits.value i))
      ∙ ap (pair_or exports n e.0) (sym m.fits.aimed)

  meant_pairs : map pair_under (values_of meant)
      ≡ map (pair_by y exports n) (filter (goes_to y (actor_of n)) (keys_of met))
  meant_pairs =
      maps_alike pair_under (λ e. e.1) (pair_by y exports n) (λ e. e.0) meant (all_weaker _ _ one_pair meant all_meant)
      ∙ ap (map (pair_by y exports n)) (keys_filter (goes_to y (actor_of n)) met)

  equal_numbers : (g h : ℕ) → g ≡ h → (g == h) ≡ true
  equal_numbers g h is = grind (arith, nat_tests)

  key_meant : (q : ℕ) (r : Row) (k : Plain) → IsOwn r → find_row q rows ≡ Some r → handle_for k met ≡ Some q
      → list_any (same_handle q) (values_of meant) ≡ true
  key_meant q r k is found at =
      let m = has.stand k q at in
      let rows_are : Some m.row ≡ Some r = sym m.stands ∙ found in
      let one : m.row ≡ r = cc in
      let there : m.fits.aim.at.actor ≡ actor_of n = sym m.fits.target ∙ ap (λ (z : Row). z.target) one ∙ is.1 in
      lookup_passing q (goes_to y (actor_of n)) k met at
      (ap (is_at_actor (actor_of n)) m.fits.aimed ∙ equal_numbers m.fits.aim.at.actor (actor_of n) there)

  row_own : (q : ℕ) (e : Plain × ℕ) → IsMeant e → q ≡ e.1 → list_any (same_handle q) (handles own) ≡ true
  row_own q e is one =
      let m = has.stand e.0 e.1 is.0 in
      find_passing q is_own rows m.row (ap (λ h. find_row h rows) one ∙ m.stands)
      ((λ i. (m.fits.target i == actor_of n) && (m.fits.owner i == d))
      ∙ (λ i. (sym (ap (is_at_actor (actor_of n)) m.fits.aimed) ∙ is.1) i && equal_numbers d d refl i))

  there : (q : ℕ) → list_any (same_handle q) (handles own) ≡ true → list_any (same_handle q) (values_of meant) ≡ true
  there q is =
      let one =
      picked IsOwn (λ r. same_handle q r.handle) own all_own (sym (any_map (same_handle q) (λ r. r.handle) own) ∙ is) in
      let found : find_row q rows ≡ Some one.0 =
      ap (λ h. find_row h rows) (same_handle_is q one.0.handle one.2) ∙ one.1.0 in
      let key = has.no_other q one.0 found one.1.2 in
      key_meant q one.0 key.0 one.1 found key.1

  back : (q : ℕ) → list_any (same_handle q) (values_of meant) ≡ true → list_any (same_handle q) (handles own) ≡ true
  back q is =
      let one =
      picked IsMeant (λ e. same_handle q e.1) meant all_meant (sym (any_map (same_handle q) (λ e. e.1) meant) ∙ is) in
      row_own q one.0 one.1 (same_handle_is q one.0.1 one.2)

  pub own_are_meant : IsPermutation (map (pair_of_row exports n) own)
      (map (pair_by y exports n) (filter (goes_to y (actor_of n)) (keys_of met)))
  own_are_meant =
      subst (λ l. IsPermutation l (map (pair_by y exports n) (filter (goes_to y (actor_of n)) (keys_of met)))) own_pairs
      (subst (IsPermutation (map pair_under (handles own))) meant_pairs
      (IsPermutation-map pair_under (handles own) (values_of meant)
      (same_members same_handle (eq_by_cmp_equiv nat_cmp_total) same_handle_is (handles own) (values_of meant)
      (IsDistinct-from_sorted nat_cmp (handles own) (ascend_filter is_own rows rise))
      (values_apart met meant has.apart (IsDistinct-keys_filter same (λ e. goes_to y (actor_of n) e.0) met keys)
      (all_weaker _ _ (λ e is. is.0) meant all_meant))
      (λ q. same_test _ _ (there q) (back q)))))

-- The list of what is wanted: what stands in it, and that it is the only one that ascends.
use Rattle.std.proofs.Common.{◌≡◌, List, [], ◌∷◌, Bool, true, false, ◌||◌, Option, Some, None, refl, ap, sym, ◌∙◌}
use Rattle.std.specs.Prelude.{option_and_then, Contains}
use Rattle.std.specs.declared.cmp.Ordering.{Ordering}
use Rattle.std.specs.declared.cmp.Ordering.TheVariants.{Less, Equal, Greater}
use Rattle.std.specs.Ordering.{match_ordering}
use Rattle.std.specs.List.{list_any, flat_map}
use Rattle.std.specs.BTreeSet.{BTreeSet, insert_key, contains}
use Rattle.std.proofs.Common.{Result, Ok, Err, IfOk, Vec, Global}
use Rattle.pv_value.specs.declared.NoMemory.{NoMemory}
use Rattle.std.specs.Cmp.{eq_by_cmp_equiv}
use Rattle.std.proofs.lemmas.Map.Lookups.{btree_set_from_contains}
use Rattle.std.proofs.lemmas.Map.Views.{list_any-from_Contains, Contains-from_any}
use Rattle.pv_value.specs.Plain.{Plain}
use Rattle.pv_value.specs.Order.{order}
use Rattle.pv_value.specs.Sets.{ascending_by}
use Rattle.pv_value.specs.WellFormed.{Ascend}
use Rattle.pv_value.specs.Lemmas.OrderLaws.{order_total, order_same}
use Rattle.pv_value.specs.Lemmas.Ascending.{ascending_sorted}
use Rattle.dp_pattern.specs.Patterns.{Pattern}
use Rattle.pv_words.specs.Lemmas.Same.{same_is, same_self}
use Rattle.pv_words.specs.Parts.{same}
use Rattle.dp_pattern.specs.Matching.{matched}
use Rattle.ds_space.specs.Wants.{observer_of, captured, key_of, keys_for, keys_by, is_key, gives, wanted, wants}
use Rattle.ds_space.specs.Changes.{among}
use Rattle.ds_space.specs.Laws.{WantsAscend, IsOfTheRule, WantsAreTheRule}
use Rattle.ds_space.specs.Lemmas.Keys.{or_false, any_same, any_flat}

pub unique : (xs ys : List Plain) → Ascend xs → Ascend ys → ((q : Plain) → among q xs ≡ among q ys) → xs ≡ ys
unique xs ys s t e =
    btree_set_from_contains order_total (record { keys = xs }) (record { keys = ys }) s t e order_same

-- a set that was listed, where it holds what the list holds
pub listed_is : (r : Result (Vec Plain Global) NoMemory) (keys : BTreeSet Plain) (ws : List Plain)
    → IfOk r (λ l. l.items ≡ keys.keys) → IfOk r (λ l. Ascend l.items) → Ascend ws
    → ((q : Plain) → contains order keys q ≡ among q ws) → IfOk r (λ l. l.items ≡ ws)
listed_is (Ok l) keys ws same rises s e = unique l.items ws rises s (λ q. ap (among q) same ∙ e q)
listed_is (Err e) keys ws same rises s f = tt

or_turn : (a b c : Bool) → (a || (b || c)) ≡ (b || (a || c))
or_turn true true c = refl
or_turn true false c = refl
or_turn false b c = refl

or_twice : (a c : Bool) → (a || c) ≡ (a || (a || c))
or_twice true c = refl
or_twice false c = refl

any_cases : (p : Plain → Bool) (k x : Plain) (xs : List Plain) (r : Ordering) → order k x ≡ r
    → list_any p (insert_key order xs k) ≡ (p k || list_any p xs)
    → list_any p (match_ordering r (k ∷ x ∷ xs) (x ∷ xs) (x ∷ insert_key order xs k)) ≡ (p k || (p x || list_any p xs))
any_cases p k x xs Less e h = refl
any_cases p k x xs Equal e h = rw (order_same k x e) (or_twice (p x) (list_any p xs))
any_cases p k x xs Greater e h = rw h (or_turn (p x) (p k) (list_any p xs))

insert_any : (p : Plain → Bool) (ks : List Plain) (k : Plain) → list_any p (insert_key order ks k)
    ≡ (p k || list_any p ks)
insert_any p [] k = refl
insert_any p (x ∷ xs) k = any_cases p k x xs (order k x) refl (insert_any p xs k)

pub ascending_any : (p : Plain → Bool) (xs : List Plain) → list_any p (ascending_by order xs) ≡ list_any p xs
ascending_any p [] = refl
ascending_any p (x ∷ xs) = insert_any p (ascending_by order xs) x ∙ ap (λ b. p x || b) (ascending_any p xs)

pub in_order : (xs : List Plain) → Ascend (ascending_by order xs)
in_order xs = ascending_sorted order order_total order_same xs

pub wants_ascend : WantsAscend
wants_ascend vs = in_order (flat_map (keys_by vs) vs)

one_key : (k o : Plain) (found : Option (List Plain)) → list_any (same k) (keys_for o found) ≡ is_key k o found
one_key k o None = refl
one_key k o (Some cs) = or_false (same k (key_of o cs))

-- the list holds what passes the test
pub among_wants : (k : Plain) (vs : List Plain) → among k (wants vs) ≡ wanted vs k
among_wants k vs =
    ascending_any (same k) (flat_map (keys_by vs) vs)
    ∙ any_flat (same k) (keys_by vs) vs
    ∙ any_same (λ o. list_any (same k) (keys_by vs o)) (λ o. list_any (gives k o) vs) vs
    (λ o. any_flat (same k) (λ v. keys_for o (captured o v)) vs
    ∙ any_same (λ v. list_any (same k) (keys_for o (captured o v))) (gives k o) vs (λ v. one_key k o (captured o v)))

-- ---- in the words of the rule

-- an element that passes
record Passes (p : Plain → Bool) (xs : List Plain) : Type 0 where
  pub it : Plain
  pub stands : Contains xs it
  pub passes : p it ≡ true

later : (x y : Plain) (xs : List Plain) → Contains xs y → Contains (x ∷ xs) y
later x y xs c =
    Contains-from_any same_is y (x ∷ xs)
    (either (same y x) (list_any-from_Contains (eq_by_cmp_equiv order_total) y xs c))
  where
    either : (a : Bool) → among y xs ≡ true → (a || among y xs) ≡ true
    either true e = refl
    either false e = e

first : (x : Plain) (xs : List Plain) → Contains (x ∷ xs) x
first x xs = Contains-from_any same_is x (x ∷ xs) (rw (same_self x) refl)

passing : (p : Plain → Bool) (xs : List Plain) → list_any p xs ≡ true → Passes p xs
passing p [] e = absurd cc
passing p (x ∷ xs) e = by (p x) refl e (passing p xs)
  where
    by : (b : Bool) → p x ≡ b → (b || list_any p xs) ≡ true → (list_any p xs ≡ true → Passes p xs) → Passes p (x ∷ xs)
    by true h e f = record { it = x; stands = first x xs; passes = h }
    by false h e f = let r = f e in record { it = r.it; stands = later x r.it xs r.stands; passes = r.passes }

-- a test that one element passes
passed : (p : Plain → Bool) (xs : List Plain) (x : Plain) → Contains xs x → p x ≡ true → list_any p xs ≡ true
passed p xs x c h = by p xs x (list_any-from_Contains (eq_by_cmp_equiv order_total) x xs c) h
  where
    by : (p : Plain → Bool) (xs : List Plain) (x : Plain) → among x xs ≡ true → p x ≡ true → list_any p xs ≡ true
    by p [] x e h = absurd cc
    by p (y ∷ ys) x e h = here (same x y) refl e (λ e. by p ys x e h)
      where
        here : (b : Bool) → same x y ≡ b → (b || among x ys) ≡ true → (among x ys ≡ true → list_any p ys ≡ true)
            → (p y || list_any p ys) ≡ true
        here true s e f = rw (← same_is x y s, h) refl
        here false s e f = rw (f e) (or_true (p y))
          where
            or_true : (b : Bool) → (b || true) ≡ true
            or_true true = refl
            or_true false = refl

key_parts : (k o v : Plain) (q : Option Pattern) (found : Option (List Plain)) → observer_of o ≡ q
    → option_and_then (λ p. matched p v) q ≡ found → is_key k o found ≡ true → (vs : List Plain) → Contains vs o
    → Contains vs v
    → IsOfTheRule vs k
key_parts k o v None None e f h vs co cv = absurd cc
key_parts k o v None (Some cs) e f h vs co cv = absurd cc
key_parts k o v (Some p) None e f h vs co cv = absurd cc
key_parts k o v (Some p) (Some cs) e f h vs co cv = record {
  observation = o;
  observes = co;
  pattern = p;
  is_pattern = e;
  value = v;
  stands = cv;
  captures = cs;
  captured = f;
  key = same_is k (key_of o cs) h;
}

pub of_the_rule : (vs : List Plain) (k : Plain) → Contains (wants vs) k → IsOfTheRule vs k
of_the_rule vs k c =
    let w : wanted vs k ≡ true =
    sym (among_wants k vs) ∙ list_any-from_Contains (eq_by_cmp_equiv order_total) k (wants vs) c in
    let o = passing (λ o. list_any (gives k o) vs) vs w in
    let v = passing (gives k o.it) vs o.passes in
    key_parts k o.it v.it (observer_of o.it) (captured o.it v.it) refl refl v.passes vs o.stands v.stands

pub by_the_rule : (vs : List Plain) (k : Plain) → IsOfTheRule vs k → Contains (wants vs) k
by_the_rule vs k r =
    let found : captured r.observation r.value ≡ Some r.captures = rw r.is_pattern r.captured in
    let g : gives k r.observation r.value ≡ true =
    ap (is_key k r.observation) found ∙ ap (λ l. same k l) (sym r.key) ∙ same_self k in
    let w : wanted vs k ≡ true =
    passed (λ o. list_any (gives k o) vs) vs r.observation r.observes
    (passed (gives k r.observation) vs r.value r.stands g) in
    Contains-from_any same_is k (wants vs) (among_wants k vs ∙ w)

pub wants_are_the_rule : WantsAreTheRule
wants_are_the_rule vs k = (of_the_rule vs k, by_the_rule vs k)

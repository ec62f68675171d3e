-- What a constant at a root place tells.
use Rattle.std.proofs.Common.{◌≡◌, ℕ, zero, suc, ◌+◌, pos, List, [], ◌∷◌, ◌++◌, Bool, true, false, cond, ◌&&◌, ◌||◌}
use Rattle.std.proofs.Common.{Option, Some, None, option_map, option_and_then, get_or, length, ◌<◌, refl, ap, sym, ◌∙◌}
use Rattle.std.proofs.Common.{subst, arith}
use Rattle.std.proofs.Common.{Result, Ok, Err, IfOk}
use Rattle.std.specs.BTreeSet as sorted
use Rattle.std.specs.BTreeSet.{BTreeSet}
use Rattle.std.specs.List.{list_any}
use Rattle.pv_value.specs.Plain.{Plain, integer, record_of, sequence, dictionary, Plains, no_more, then_more, plains}
use Rattle.pv_value.specs.Plain.{PlainPairs, no_pairs, then_pair}
use Rattle.pv_value.specs.Order.{order}
use Rattle.pv_words.specs.Lemmas.Same.{same_is}
use Rattle.pv_words.specs.Parts.{same, item_at, item_under, value_under}
use Rattle.pv_words.specs.Words.{number}
use Rattle.ds_shape.specs.declared.paths.Step.{Step}
use Rattle.ds_shape.specs.declared.paths.Step.TheVariants.{Field, Item, Under}
use Rattle.ds_shape.specs.Paths.{part_by, part_at, with_first, parts_at, sequence_at}
use Rattle.ds_shape.specs.Outlines.{Outline}
use Rattle.ds_shape.specs.Lemmas.Orders.{plains_same}
use Rattle.ds_space.specs.Changes.{among}
use Rattle.ds_space.specs.Lemmas.Keys.{any_append}
use Rattle.ds_facts.specs.Atoms.{Entry, is_atom, entry_of, numbered, keyed, same_entry, has_entry}
use Rattle.ds_facts.specs.Keeping.{Facts, AreFacts, keeps}
use Rattle.ds_facts.specs.Nearness.{Near, Anywhere, Nowhere, Among, IsNearTo, IsNear, place_of, constant_entry}
use Rattle.ds_facts.proofs.Same.{entry_self}

-- ---- an atom at its place has its entry

abbrev is_there : Plain → Plain → List Entry → Type 0
is_there place k es = list_any (same_entry (record { key = place; value = k })) es ≡ true

or_true : (b : Bool) → (b || true) ≡ true
or_true true = refl
or_true false = refl

here : (place k : Plain) (es : List Entry) → is_atom k ≡ true → is_there place k (entry_of place k ++ es)
here place k es atom =
    subst (λ b. list_any (same_entry (record { key = place; value = k }))
    (cond b (record { key = place; value = k } ∷ []) [] ++ es) ≡ true) (sym atom)
    (ap (λ b. b || list_any (same_entry (record { key = place; value = k })) es)
    (entry_self (record { key = place; value = k })))

later : (place k other x : Plain) (es : List Entry) → is_there place k es → is_there place k (entry_of other x ++ es)
later place k other x es h =
    any_append (same_entry (record { key = place; value = k })) (entry_of other x) es
    ∙ ap (λ b. list_any (same_entry (record { key = place; value = k })) (entry_of other x) || b) h
    ∙ or_true (list_any (same_entry (record { key = place; value = k })) (entry_of other x))

at_number : (xs : Plains) (i j n : ℕ) (k : Plain) → n ≡ i + j → is_atom k ≡ true → item_at xs i ≡ Some k
    → is_there (number n) k (numbered j xs)
at_number no_more i j n k sum atom e = absurd cc
at_number (then_more x xs) zero j n k sum atom e =
    let one : x ≡ k = cc in
    let place : n ≡ j = omega arith in
    subst (λ m. is_there (number m) k (numbered j (then_more x xs))) (sym place)
    (subst (λ y. is_there (number j) k (entry_of (number j) y ++ numbered (suc j) xs)) (sym one)
    (here (number j) k (numbered (suc j) xs) atom))
at_number (then_more x xs) (suc i) j n k sum atom e =
    later (number n) k (number j) x (numbered (suc j) xs) (at_number xs i (suc j) n k (omega arith) atom e)

at_key : (ps : PlainPairs) (key k : Plain) → is_atom k ≡ true → value_under ps key ≡ Some k
    → is_there key k (keyed ps)
at_key no_pairs key k atom e = absurd cc
at_key (then_pair l w ps) key k atom e = by (same l key) refl e (at_key ps key k atom)
  where
    by : (b : Bool) → same l key ≡ b → cond {A = Option Plain} b (Some w) (value_under ps key) ≡ Some k
        → (value_under ps key ≡ Some k → is_there key k (keyed ps)) → is_there key k (entry_of l w ++ keyed ps)
    by true is f rest =
        let one : w ≡ k = cc in
        subst (λ y. is_there key k (entry_of l y ++ keyed ps)) (sym one)
        (subst (λ m. is_there key k (entry_of m k ++ keyed ps)) (sym (same_is l key is)) (here key k (keyed ps) atom))
    by false is f rest = later key k l w (keyed ps) (rest f)

at_place : (xs : Plains) (place k : Plain) → is_atom k ≡ true → item_under xs place ≡ Some k
    → is_there place k (numbered 0 xs)
at_place xs (integer (pos i)) k atom e = at_number xs i 0 i k (omega arith) atom e
at_place xs place k atom e = absurd cc

at_step : (s : Step) (v k : Plain) → is_atom k ≡ true → part_by s v ≡ Some k
    → has_entry (record { key = place_of s; value = k }) v ≡ true
at_step (Field place) (record_of l fs) k atom e = at_place fs place k atom e
at_step (Item place) (sequence xs) k atom e = at_place xs place k atom e
at_step (Under key) (dictionary ps) k atom e = at_key ps key k atom e
at_step s v k atom e = absurd cc

some_is : {A : Type 0} (x y : A) → Some x ≡ Some y → x ≡ y
some_is x y e = cc

pub at_path : (path : List Step) (k : Plain) (e : Entry) (v : Plain) → constant_entry path k ≡ Some e
    → part_at path v ≡ Some k → has_entry e v ≡ true
at_path [] k e v c f = absurd cc
at_path (s ∷ t ∷ path) k e v c f = absurd cc
at_path (s ∷ []) k e v c f = by (is_atom k) refl c
  where
    part : (o : Option Plain) → option_and_then (part_at []) o ≡ Some k → o ≡ Some k
    part None f = cc
    part (Some w) f = f

    by : (b : Bool) → is_atom k ≡ b
        → cond {A = Option Entry} b (Some (record { key = place_of s; value = k })) None ≡ Some e
        → has_entry e v ≡ true
    by true atom g =
        subst (λ d. has_entry d v ≡ true) (some_is (record { key = place_of s; value = k }) e g)
        (at_step s v k atom (part (part_by s v) f))
    by false atom g = absurd cc

-- ---- one entry

first_of : (a b : Bool) → (a && b) ≡ true → a ≡ true
first_of true b e = refl
first_of false b e = cc

two_of : (a b : Bool) → a ≡ true → b ≡ true → (a && b) ≡ true
two_of a b e f = rw (e, f) refl

pub list_tells : (vs : List Plain) (it : Facts) (e : Entry) (list : BTreeSet Plain) → AreFacts vs it
    → ((v : Plain) → sorted.contains order list v ≡ keeps it.places e v)
    → ((v : Plain) → sorted.contains order list v ≡ true → among v vs ≡ true)
    × ((v : Plain) → among v vs ≡ true → has_entry e v ≡ true → sorted.contains order list v ≡ true)
list_tells vs it e list h kept = (
  λ v is. first_of (among v vs) (has_entry e v) (sym (h.members e v) ∙ sym (kept v) ∙ is),
  λ v is f. kept v ∙ h.members e v ∙ two_of (among v vs) (has_entry e v) is f,
)

pub nothing_tells : (vs : List Plain) (it : Facts) (e : Entry) → AreFacts vs it
    → ((v : Plain) → keeps it.places e v ≡ false)
    → (v : Plain) → among v vs ≡ true → has_entry e v ≡ true → ⊥
nothing_tells vs it e h none v is f =
    let there : keeps it.places e v ≡ true = h.members e v ∙ two_of (among v vs) (has_entry e v) is f in
    let both : true ≡ false = sym there ∙ none v in
    cc

-- ---- all constants

-- where fewer values meet the wish
pub near_fewer : (vs : List Plain) (M N : Plain → Type 0) (near : Near) → ((v : Plain) → N v → M v)
    → IsNearTo vs M near → IsNearTo vs N near
near_fewer vs M N Anywhere f h = tt
near_fewer vs M N Nowhere f h = λ v is n. h v is (f v n)
near_fewer vs M N (Among list) f h = (h.0, λ v is n. h.1 v is (f v n))

one_first : (o : Option Plain) (a : Option (List Plain)) (x : Plain) (xs : List Plain)
    → with_first o a ≡ Some (x ∷ xs) → (o ≡ Some x) × (a ≡ Some xs)
one_first None a x xs e = absurd cc
one_first (Some y) None x xs e = absurd cc
one_first (Some y) (Some ys) x xs e =
    let first : y ≡ x = cc in
    let rest : ys ≡ xs = cc in
    (ap Some first, ap Some rest)

pub part_of : (paths : List (List Step)) (ks : List Plain) (i : ℕ) (p : List Step) (k : Plain) (v : Plain)
    → i < length paths → i < length ks → parts_at paths v ≡ Some ks → part_at (get_or paths i p) v ≡ Some (get_or ks i k)
part_of [] ks i p k v l m e = absurd (omega arith)
part_of (q ∷ qs) [] i p k v l m e = absurd (omega arith)
part_of (q ∷ qs) (x ∷ xs) zero p k v l m e = (one_first (part_at q v) (parts_at qs v) x xs e).0
part_of (q ∷ qs) (x ∷ xs) (suc i) p k v l m e =
    part_of qs xs i p k v (omega arith) (omega arith) (one_first (part_at q v) (parts_at qs v) x xs e).1

-- ---- the constants as one value

parts_of : (a : Option (List Plain)) (ks : List Plain)
    → option_map (λ xs. sequence (plains xs)) a ≡ Some (sequence (plains ks)) → a ≡ Some ks
parts_of None ks e = absurd cc
parts_of (Some xs) ks e = ap Some (plains_same xs ks (some_is (sequence (plains xs)) (sequence (plains ks)) e))

pub near_sequence : (vs : List Plain) (o : Outline) (paths : List (List Step)) (ks : List Plain) (k : Plain) (near : Near)
    → paths ≡ o.constants → k ≡ sequence (plains ks) → IsNearTo vs (λ v. parts_at paths v ≡ Some ks) near
    → IsNear vs o k near
near_sequence vs o paths ks k near p e h =
    near_fewer vs (λ v. parts_at paths v ≡ Some ks) (λ v. sequence_at o.constants v ≡ Some k) near
    (λ v f. ap (λ (ps : List (List Step)). parts_at ps v) p ∙ parts_of (parts_at o.constants v) ks (f ∙ ap Some e)) h

pub then_if : {X E : Type 0} {A B : X → Type 0} (r : Result X E) → ((x : X) → A x → B x) → IfOk r A → IfOk r B
then_if (Ok x) f a = f x a
then_if (Err e) f a = tt

-- The connections for which a batch waits: those among the busy actors that have names.
use Rattle.std.proofs.Common.{◌≡◌, ℕ, ◌+◌, ◌-◌, ◌==◌, ◌&&◌, ◌||◌, List, [], ◌∷◌, Bool, true, false, cond}
use Rattle.std.proofs.Common.{Option, Some, None, is_some, filter, Less, refl, ap, sym, ◌∙◌, subst, arith}
use Rattle.std.specs.Prelude.{nat_le}
use Rattle.std.proofs.lemmas.Bool.Decides.{nat_tests}
use Rattle.std.proofs.lemmas.List.Kept.{IsStrictlySortedBy-filter}
use Rattle.std.specs.BTreeMap.{is_at}
use Rattle.std.specs.List.{AllByRecursion, list_any}
use Rattle.std.specs.List.Sorted.{IsStrictlySortedBy}
use Rattle.std.specs.Map.{keys_of}
use Rattle.std.specs.Ordering.{nat_cmp}
use Rattle.ac_table.specs.Maps.{is_key}
use Rattle.ac_table.specs.Tables.{first_batch}
use Rattle.ac_table.specs.Lemmas.Entries.{is_at_same}
use Rattle.ac_table.proofs.Members.{sorted_same}
use Rattle.ac_world.specs.Worlds.{actor_of, entry_of}
use Rattle.hub_machine.specs.State.{State}
use Rattle.hub_core.specs.Work.{class_of, is_waited_for, waited_for, named_by, is_in_connections}

abbrev before : Option ℕ → List ℕ → List ℕ
before None ks = ks
before (Some k) ks = k ∷ ks

-- the connections among these actors
abbrev pub each_named : List ℕ → State → List ℕ
each_named [] s = []
each_named (a ∷ bs) s = before (named_by a s) (each_named bs s)

-- ---- they ascend

named_above : (n a : ℕ) (bs : List ℕ) (s : State) → a ≡ 16 + n → AllByRecursion (λ q. nat_cmp a q ≡ Less) bs
    → AllByRecursion (λ q. nat_cmp n q ≡ Less) (each_named bs s)
named_above n a [] s is above = tt
named_above n a (x ∷ xs) s is above =
    by (nat_le 16 x && is_some (entry_of (x - 16) s.connections)) (named_above n a xs s is above.1)
  where
    first : nat_cmp n (x - 16) ≡ Less
    first = let less : nat_cmp a x ≡ Less = above.0 in grind (arith, is, less)

    by : (b : Bool) → AllByRecursion (λ q. nat_cmp n q ≡ Less) (each_named xs s)
        → AllByRecursion (λ q. nat_cmp n q ≡ Less) (before (cond b (Some (x - 16)) None) (each_named xs s))
    by true later = (first, later)
    by false later = later

named_ascend : (bs : List ℕ) (s : State) → IsStrictlySortedBy nat_cmp bs → IsStrictlySortedBy nat_cmp (each_named bs s)
unfolding IsStrictlySortedBy
named_ascend [] s sorted = tt
named_ascend (a ∷ bs) s sorted =
    by (nat_le 16 a) (is_some (entry_of (a - 16) s.connections)) refl (named_ascend bs s sorted.1)
  where
    by : (b c : Bool) → nat_le 16 a ≡ b → IsStrictlySortedBy nat_cmp (each_named bs s)
        → IsStrictlySortedBy nat_cmp (before (cond (b && c) (Some (a - 16)) None) (each_named bs s))
    by true true high later = (named_above (a - 16) a bs s (grind (arith, nat_tests, high)) sorted.0, later)
    by true false high later = later
    by false c low later = later

-- ---- who they are

-- one more among them, where it has names
named_first : (q a : ℕ) (ks : List ℕ) (s : State)
    → is_key q (before (named_by a s) ks)
    ≡ ((is_at (nat_cmp (16 + q)) a && is_some (entry_of q s.connections)) || is_key q ks)
named_first q a ks s = by (nat_le 16 a) (is_at (nat_cmp (16 + q)) a) refl refl
  where
    here : (c : Bool) → a ≡ 16 + q
        → is_key q (before (cond c (Some (a - 16)) None) ks) ≡ (c || is_key q ks)
    here true is =
        let at : is_at (nat_cmp q) (a - 16) ≡ true = grind (arith, is_at_same q (a - 16), is) in
        ap (λ b. b || is_key q ks) at
    here false is = refl

    elsewhere : (c : Bool) → is_at (nat_cmp q) (a - 16) ≡ false
        → is_key q (before (cond c (Some (a - 16)) None) ks) ≡ is_key q ks
    elsewhere true other = ap (λ b. b || is_key q ks) other
    elsewhere false other = refl

    by : (b c : Bool) → nat_le 16 a ≡ b → is_at (nat_cmp (16 + q)) a ≡ c
        → is_key q (before (cond (b && is_some (entry_of (a - 16) s.connections)) (Some (a - 16)) None) ks)
        ≡ ((c && is_some (entry_of q s.connections)) || is_key q ks)
    by true true high at =
        let is : a ≡ 16 + q = grind (arith, is_at_same (16 + q) a, at) in
        let its : a - 16 ≡ q = omega (arith, is) in
        here (is_some (entry_of (a - 16) s.connections)) is
        ∙ ap (λ k. is_some (entry_of k s.connections) || is_key q ks) its
    by true false high other =
        elsewhere (is_some (entry_of (a - 16) s.connections))
        (grind (arith, nat_tests, is_at_same q (a - 16), is_at_same (16 + q) a, high, other))
    by false true low at = absurd (grind (arith, nat_tests, is_at_same (16 + q) a, low, at))
    by false false low other = refl

named_are : (q : ℕ) (bs : List ℕ) (s : State)
    → is_key q (each_named bs s) ≡ (is_key (16 + q) bs && is_some (entry_of q s.connections))
named_are q [] s = refl
named_are q (a ∷ bs) s =
    named_first q a (each_named bs s) s
    ∙ ap (λ b. (is_at (nat_cmp (16 + q)) a && is_some (entry_of q s.connections)) || b) (named_are q bs s)
    ∙ apart (is_at (nat_cmp (16 + q)) a) (is_key (16 + q) bs) (is_some (entry_of q s.connections))
  where
    apart : (b c d : Bool) → ((b && d) || (c && d)) ≡ ((b || c) && d)
    apart true true true = refl
    apart true true false = refl
    apart true false true = refl
    apart true false false = refl
    apart false c d = refl

key_found : {X : Type 0} (q : ℕ) (es : List (ℕ × X)) → is_key q (keys_of es) ≡ is_some (entry_of q es)
key_found q [] = refl
key_found {X = X} q (e ∷ es) = by (is_at (nat_cmp q) e.0) (key_found q es)
  where
    by : (b : Bool) → is_key q (keys_of es) ≡ is_some (entry_of q es)
        → (b || is_key q (keys_of es)) ≡ is_some (cond {A = Option X} b (Some e.1) (entry_of q es))
    by true later = refl
    by false later = later

-- those that pass a test
key_filter : (q : ℕ) (test : ℕ → Bool) (ks : List ℕ) → is_key q (filter test ks) ≡ (test q && is_key q ks)
key_filter q test [] = none (test q)
  where
    none : (b : Bool) → false ≡ (b && false)
    none true = refl
    none false = refl
key_filter q test (k ∷ ks) = by (test k) (is_at (nat_cmp q) k) refl refl (key_filter q test ks)
  where
    or_true : (b : Bool) → (b && true) ≡ b
    or_true true = refl
    or_true false = refl

    by : (b c : Bool) → test k ≡ b → is_at (nat_cmp q) k ≡ c → is_key q (filter test ks) ≡ (test q && is_key q ks)
        → is_key q (cond b (k ∷ filter test ks) (filter test ks)) ≡ (test q && (c || is_key q ks))
    by true true passes at later =
        let same : q ≡ k = grind (arith, is_at_same q k, at) in
        ap (λ b. b || is_key q (filter test ks)) at ∙ sym (or_true (test q) ∙ ap test same ∙ passes)
    by true false passes other later = ap (λ b. b || is_key q (filter test ks)) other ∙ later
    by false true fails at later =
        let same : q ≡ k = grind (arith, is_at_same q k, at) in
        let out : test q ≡ false = ap test same ∙ fails in
        later ∙ ap (λ b. b && is_key q ks) out ∙ sym (ap (λ b. b && true) out)
    by false false fails other later = later

waited_is : (busy : List ℕ) (s : State) → IsStrictlySortedBy nat_cmp (keys_of s.connections)
    → IsStrictlySortedBy nat_cmp busy → ((a : ℕ) → is_key a busy ≡ is_some (first_batch a s.world.table))
    → each_named busy s ≡ waited_for s
waited_is busy s names sorted waits =
    sorted_same (each_named busy s) (waited_for s) (named_ascend busy s sorted)
    (IsStrictlySortedBy-filter nat_cmp (λ k. is_waited_for k s) (keys_of s.connections) names)
    (λ q. named_are q busy s
    ∙ ap (λ b. b && is_some (entry_of q s.connections)) (waits (actor_of q))
    ∙ ap (λ b. is_waited_for q s && b) (sym (key_found q s.connections))
    ∙ sym (key_filter q (λ k. is_waited_for k s) (keys_of s.connections)))

-- the actors are the busy ones, and s is the hub's parts
pub waited_from : (actors busy : List ℕ) (s t : State) → actors ≡ busy → s ≡ t
    → IsStrictlySortedBy nat_cmp (keys_of s.connections) → IsStrictlySortedBy nat_cmp busy
    → ((a : ℕ) → is_key a busy ≡ is_some (first_batch a s.world.table)) → each_named actors t ≡ waited_for t
waited_from actors busy s t is view names sorted waits =
    subst (λ (u : State). each_named actors u ≡ waited_for u) view
    (subst (λ (bs : List ℕ). each_named bs s ≡ waited_for s) (sym is) (waited_is busy s names sorted waits))

-- ---- their classes

any_filter : (p test : ℕ → Bool) (ks : List ℕ) → list_any p (filter test ks) ≡ list_any (λ k. test k && p k) ks
any_filter p test [] = refl
any_filter p test (k ∷ ks) = by (test k) (any_filter p test ks)
  where
    by : (b : Bool) → list_any p (filter test ks) ≡ list_any (λ k. test k && p k) ks
        → list_any p (cond b (k ∷ filter test ks) (filter test ks))
        ≡ ((b && p k) || list_any (λ k. test k && p k) ks)
    by true later = ap (λ b. p k || b) later
    by false later = later

pub classes_from : (p : ℕ) (actors busy : List ℕ) (s t : State) → actors ≡ busy → s ≡ t
    → IsStrictlySortedBy nat_cmp (keys_of s.connections) → IsStrictlySortedBy nat_cmp busy
    → ((a : ℕ) → is_key a busy ≡ is_some (first_batch a s.world.table))
    → list_any (λ k. class_of k == p) (each_named actors t) ≡ is_in_connections p t
classes_from p actors busy s t is view names sorted waits =
    ap (list_any (λ k. class_of k == p)) (waited_from actors busy s t is view names sorted waits)
    ∙ any_filter (λ k. class_of k == p) (λ k. is_waited_for k t) (keys_of t.connections)

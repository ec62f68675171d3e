-- The machine's tests, whether a binding, a watcher or an arrival is barred, and the causes in words.
use Rattle.std.proofs.Common.{◌≡◌, ℕ, ◌≤◌, ◌==◌, ◌&&◌, ◌||◌, not, List, [], ◌∷◌, Bool, true, false, cond}
use Rattle.std.proofs.Common.{Option, Some, None, inl, inr, refl, ap, sym, ◌∙◌, arith, nat_lt, nat_le, length, is_some}
use Rattle.std.specs.Prelude.{is_none, codes}
use Rattle.std.specs.List.{list_any}
use Rattle.std.proofs.lemmas.Bool.Decides.{nat_tests}
use Rattle.std.proofs.lemmas.Slice.Eq.{bytes_eq-Decides}
use Rattle.pv_value.specs.Plain.{Plain}
use Rattle.pv_words.specs.Words.{is_word}
use Rattle.pv_words.specs.Parts.{same}
use Rattle.pv_words.specs.Lemmas.Same.{same_is, same_self}
use Rattle.dp_pattern.specs.Patterns.{Pattern}
use Rattle.dp_pattern.specs.Written.{pattern_of}
use Rattle.sr_caveat.specs.Embedded.{has_embedded}
use Rattle.sr_caveat.specs.Caps.{Cap, cap_value}
use Rattle.gk_sturdy.specs.declared.bound.Binding.{Binding}
use Rattle.gk_sturdy.specs.Bindings.{binding_for, bound}
use Rattle.lc_watch.specs.Behaviours.{is_behaviour}
use Rattle.ac_world.specs.declared.watched.Watched.{Watched}
use Rattle.ac_world.specs.Worlds.{is_space}
use Rattle.hub_machine.specs.State.{State}
use Rattle.hub_machine.specs.Machine.{is_to_space, is_barred, meets, is_unwatchable}
use Rattle.hub_limits.specs.Barring.{IsSpaceNumber, IsBehaviour, IsBoundIn, IsToSpace, AreJoined, IsJoinedTo}
use Rattle.hub_limits.specs.Barring.{BarsBinding, begun, bound_already, to_no_space, embedded_in_oid}
use Rattle.hub_limits.specs.Barring.{embedded_in_caveat, BarsWatcher, begun_before, as_many_as_may_be, watches_no_space}
use Rattle.hub_limits.specs.Barring.{asserts_at_no_space, no_behaviour, embedded_in_pattern, no_pattern, joins}

-- ---- numbers and names

-- an actor that passes the test has the number of a dataspace
pub space_is : (a : ℕ) → is_space a ≡ true → IsSpaceNumber a
space_is a is = (grind (arith, nat_tests, is), grind (arith, nat_tests, is))

-- two tests that pass, as one
both_true : (b c : Bool) → b ≡ true → c ≡ true → (b && c) ≡ true
both_true true true p q = refl
both_true true false p q = absurd cc
both_true false c p q = absurd cc

-- the number of a dataspace passes the test
is_space_at : (a : ℕ) → IsSpaceNumber a → is_space a ≡ true
is_space_at a n =
    let low : 1 ≤ a = n.0 in
    let high : a ≤ 8 = n.1 in
    both_true (nat_le 1 a) (nat_lt a 9) (grind (arith, nat_tests, low)) (grind (arith, nat_tests, high))

-- an actor that fails the test has no number of a dataspace
no_space : (a : ℕ) → is_space a ≡ false → IsSpaceNumber a → ⊥
no_space a other n = let clash : false ≡ true = sym other ∙ is_space_at a n in absurd cc

-- a name that passes the test is one of the three
pub behaviour_is : (name : List ℕ) → is_behaviour name ≡ true → IsBehaviour name
behaviour_is name is =
    by (is_word name (codes "each")) (is_word name (codes "tuple")) (is_word name (codes "size")) refl refl refl is
  where
    by : (b c d : Bool) → is_word name (codes "each") ≡ b → is_word name (codes "tuple") ≡ c
        → is_word name (codes "size") ≡ d → (b || c || d) ≡ true → IsBehaviour name
    by true c d each tuple size is = inl ((bytes_eq-Decides name (codes "each")).0 each)
    by false true d each tuple size is = inr (inl ((bytes_eq-Decides name (codes "tuple")).0 tuple))
    by false false true each tuple size is = inr (inr ((bytes_eq-Decides name (codes "size")).0 size))
    by false false false each tuple size is = absurd cc

-- the last of three tests passes
third_true : (b c d : Bool) → d ≡ true → (b || c || d) ≡ true
third_true true c d is = refl
third_true false true d is = refl
third_true false false d is = is

-- the second of three tests passes
second_true : (b c d : Bool) → c ≡ true → (b || c || d) ≡ true
second_true true c d is = refl
second_true false true d is = refl
second_true false false d is = absurd cc

-- the first of three tests passes
first_true : (b c d : Bool) → b ≡ true → (b || c || d) ≡ true
first_true true c d is = refl
first_true false c d is = absurd cc

-- each of the three names passes the test
is_behaviour_named : (name : List ℕ) → IsBehaviour name → is_behaviour name ≡ true
is_behaviour_named name (inl each) =
    first_true (is_word name (codes "each")) (is_word name (codes "tuple")) (is_word name (codes "size"))
    ((bytes_eq-Decides name (codes "each")).1 each)
is_behaviour_named name (inr (inl tuple)) =
    second_true (is_word name (codes "each")) (is_word name (codes "tuple")) (is_word name (codes "size"))
    ((bytes_eq-Decides name (codes "tuple")).1 tuple)
is_behaviour_named name (inr (inr size)) =
    third_true (is_word name (codes "each")) (is_word name (codes "tuple")) (is_word name (codes "size"))
    ((bytes_eq-Decides name (codes "size")).1 size)

-- ---- oids

-- an oid that is found is bound
bound_is : (oid : Plain) (bs : List Binding) → bound oid bs ≡ true → IsBoundIn oid bs
bound_is oid [] is = absurd cc
bound_is oid (b ∷ bs) is = by (same oid b.oid) refl is (bound_is oid bs)
  where
    by : (c : Bool) → same oid b.oid ≡ c → is_some (cond c (Some b) (binding_for oid bs)) ≡ true
        → (bound oid bs ≡ true → IsBoundIn oid bs) → IsBoundIn oid (b ∷ bs)
    by true alike found later = inl (sym (same_is oid b.oid alike))
    by false other found later = inr (later found)

-- an oid that is bound is found
is_bound : (oid : Plain) (bs : List Binding) → IsBoundIn oid bs → bound oid bs ≡ true
is_bound oid [] i = absurd i
is_bound oid (b ∷ bs) (inl here) =
    let alike : same oid b.oid ≡ true = ap (λ o. same oid o) here ∙ same_self oid in
    ap (λ c. is_some (cond c (Some b) (binding_for oid bs))) alike
is_bound oid (b ∷ bs) (inr later) = by (same oid b.oid) (is_bound oid bs later)
  where
    by : (c : Bool) → bound oid bs ≡ true → is_some (cond c (Some b) (binding_for oid bs)) ≡ true
    by true found = refl
    by false found = found

-- ---- references to dataspaces

-- a reference that passes the test is one to a dataspace itself
to_space_is : (c : Cap) → is_to_space c ≡ true → IsToSpace c
to_space_is c is = by (is_space c.actor) (c.entity == 0) refl refl is
  where
    by : (b d : Bool) → is_space c.actor ≡ b → (c.entity == 0) ≡ d → (b && d) ≡ true → IsToSpace c
    by true true space object both = (space_is c.actor space, grind (arith, nat_tests, object))
    by true false space object both = absurd cc
    by false d space object both = absurd cc

-- a reference to a dataspace itself passes the test
is_to_space_at : (c : Cap) → IsToSpace c → is_to_space c ≡ true
is_to_space_at c to =
    let root : c.entity ≡ 0 = to.1 in
    both_true (is_space c.actor) (c.entity == 0) (is_space_at c.actor to.0) (grind (arith, nat_tests, root))

-- ---- dataspaces that are both watched and asserted at

-- two watchers that meet are joined
joined_is : (x y : Watched) → meets x y ≡ true → AreJoined x y
joined_is x y is = by (y.to == x.from) (y.from == x.to) refl refl is
  where
    by : (b c : Bool) → (y.to == x.from) ≡ b → (y.from == x.to) ≡ c → (b || c) ≡ true → AreJoined x y
    by true c to from either = inl (grind (arith, nat_tests, to))
    by false true to from either = inr (grind (arith, nat_tests, from))
    by false false to from either = absurd cc

-- two watchers that are joined meet
pub is_joined : (x y : Watched) → AreJoined x y → meets x y ≡ true
is_joined x y (inl to) = first_of_two (y.to == x.from) (y.from == x.to) (grind (arith, nat_tests, to))
  where
    first_of_two : (b c : Bool) → b ≡ true → (b || c) ≡ true
    first_of_two true c is = refl
    first_of_two false c is = absurd cc
is_joined x y (inr from) = second_of_two (y.to == x.from) (y.from == x.to) (grind (arith, nat_tests, from))
  where
    second_of_two : (b c : Bool) → c ≡ true → (b || c) ≡ true
    second_of_two true c is = refl
    second_of_two false c is = is

-- a watcher that meets one of them is joined to one
any_joined : (x : Watched) (ys : List Watched) → list_any (meets x) ys ≡ true → IsJoinedTo x ys
any_joined x [] is = absurd cc
any_joined x (y ∷ ys) is = by (meets x y) refl is (any_joined x ys)
  where
    by : (b : Bool) → meets x y ≡ b → (b || list_any (meets x) ys) ≡ true
        → (list_any (meets x) ys ≡ true → IsJoinedTo x ys) → IsJoinedTo x (y ∷ ys)
    by true here any later = inl (joined_is x y here)
    by false other any later = inr (later any)

-- a watcher that is joined to one of them meets one
joined_any : (x : Watched) (ys : List Watched) → IsJoinedTo x ys → list_any (meets x) ys ≡ true
joined_any x [] i = absurd i
joined_any x (y ∷ ys) (inl here) = ap (λ b. b || list_any (meets x) ys) (is_joined x y here)
joined_any x (y ∷ ys) (inr later) = by (meets x y) (joined_any x ys later)
  where
    by : (b : Bool) → list_any (meets x) ys ≡ true → (b || list_any (meets x) ys) ≡ true
    by true any = refl
    by false any = any

-- ---- patterns

-- what is tested to be none is none
none_is : (o : Option Pattern) → is_none o ≡ true → o ≡ None
none_is None is = refl
none_is (Some p) is = absurd cc

-- what is tested not to be none is some pattern
pub some_is : (o : Option Pattern) → is_none o ≡ false → (p : Pattern) × (o ≡ Some p)
some_is None is = absurd cc
some_is (Some p) is = (p, refl)

-- ---- a binding

-- each test, as it is where a reference is bound
record AreUnbarred (b : Binding) (s : State) : Type 0 where
  first : nat_lt 0 s.world.opened ≡ false
  free : bound b.oid s.world.bindings ≡ false
  space : is_to_space b.cap ≡ true
  plain_oid : has_embedded b.oid ≡ false
  plain_cap : has_embedded (cap_value b.cap) ≡ false

-- where a binding is not barred, each test is as it has to be
all_unbarred : (b : Binding) (s : State) → is_barred b s ≡ false → AreUnbarred b s
all_unbarred b s is =
    by (nat_lt 0 s.world.opened) (bound b.oid s.world.bindings) (is_to_space b.cap) (has_embedded b.oid)
    (has_embedded (cap_value b.cap)) refl refl refl refl refl is
  where
    by : (come taken space oid cap : Bool) → nat_lt 0 s.world.opened ≡ come → bound b.oid s.world.bindings ≡ taken
        → is_to_space b.cap ≡ space → has_embedded b.oid ≡ oid → has_embedded (cap_value b.cap) ≡ cap
        → (come || taken || not space || oid || cap) ≡ false → AreUnbarred b s
    by false false true false false come taken space oid cap none =
        record { first = come; free = taken; space = space; plain_oid = oid; plain_cap = cap }
    by true t p o c come taken space oid cap none = absurd cc
    by false true p o c come taken space oid cap none = absurd cc
    by false false false o c come taken space oid cap none = absurd cc
    by false false true true c come taken space oid cap none = absurd cc
    by false false true false true come taken space oid cap none = absurd cc

-- a binding that is barred has a cause
pub bars_binding : (b : Binding) (s : State) → is_barred b s ≡ true → BarsBinding b s
bars_binding b s is =
    by (nat_lt 0 s.world.opened) (bound b.oid s.world.bindings) (is_to_space b.cap) (has_embedded b.oid)
    (has_embedded (cap_value b.cap)) refl refl refl refl refl is
  where
    by : (come taken space oid cap : Bool) → nat_lt 0 s.world.opened ≡ come → bound b.oid s.world.bindings ≡ taken
        → is_to_space b.cap ≡ space → has_embedded b.oid ≡ oid → has_embedded (cap_value b.cap) ≡ cap
        → (come || taken || not space || oid || cap) ≡ true → BarsBinding b s
    by true t p o c come taken space oid cap one = begun (grind (arith, nat_tests, come))
    by false true p o c come taken space oid cap one = bound_already (bound_is b.oid s.world.bindings taken)
    by false false false o c come taken space oid cap one =
        to_no_space (λ to. let clash : false ≡ true = sym space ∙ is_to_space_at b.cap to in absurd cc)
    by false false true true c come taken space oid cap one = embedded_in_oid oid
    by false false true false true come taken space oid cap one = embedded_in_caveat cap
    by false false true false false come taken space oid cap one = absurd cc

-- no test both passes and fails
not_both : (b : Bool) → b ≡ false → b ≡ true → ⊥
not_both true is other = absurd cc
not_both false is other = absurd cc

-- where each test is as it has to be, there is no cause
unbarred_by_none : (b : Binding) (s : State) → AreUnbarred b s → BarsBinding b s → ⊥
unbarred_by_none b s u (begun come) =
    let none : nat_lt 0 s.world.opened ≡ false = u.first in absurd (grind (arith, nat_tests, none, come))
unbarred_by_none b s u (bound_already taken) =
    not_both (bound b.oid s.world.bindings) u.free (is_bound b.oid s.world.bindings taken)
unbarred_by_none b s u (to_no_space other) = other (to_space_is b.cap u.space)
unbarred_by_none b s u (embedded_in_oid oid) = not_both (has_embedded b.oid) u.plain_oid oid
unbarred_by_none b s u (embedded_in_caveat cap) = not_both (has_embedded (cap_value b.cap)) u.plain_cap cap

-- a binding that has a cause is barred
pub is_barred_by : (b : Binding) (s : State) → BarsBinding b s → is_barred b s ≡ true
is_barred_by b s cause = by (is_barred b s) refl
  where
    by : (c : Bool) → is_barred b s ≡ c → c ≡ true
    by true is = refl
    by false is = absurd (unbarred_by_none b s (all_unbarred b s is) cause)

-- ---- a watcher

-- each test, as it is where a watcher begins
pub record MayWatch (x : Watched) (s : State) : Type 0 where
  pub first : nat_lt 0 s.world.opened ≡ false
  pub few : nat_le 8 (length s.world.watches) ≡ false
  pub from : is_space x.from ≡ true
  pub to : is_space x.to ≡ true
  pub known : is_behaviour x.name ≡ true
  pub plain : has_embedded x.pattern ≡ false
  pub pattern : is_none (pattern_of x.pattern) ≡ false
  pub apart : list_any (meets x) (x ∷ s.world.watches) ≡ false

-- where a watcher is not barred, each test is as it has to be
pub may_watch : (x : Watched) (s : State) → is_unwatchable x s ≡ false → MayWatch x s
may_watch x s is =
    by (nat_lt 0 s.world.opened) (nat_le 8 (length s.world.watches)) (is_space x.from) (is_space x.to)
    (is_behaviour x.name) (has_embedded x.pattern) (is_none (pattern_of x.pattern))
    (list_any (meets x) (x ∷ s.world.watches)) refl refl refl refl refl refl refl refl is
  where
    by : (come many from to known holds none meeting : Bool) → nat_lt 0 s.world.opened ≡ come
        → nat_le 8 (length s.world.watches) ≡ many → is_space x.from ≡ from → is_space x.to ≡ to
        → is_behaviour x.name ≡ known → has_embedded x.pattern ≡ holds → is_none (pattern_of x.pattern) ≡ none
        → list_any (meets x) (x ∷ s.world.watches) ≡ meeting
        → (come || many || not from || not to || not known || (holds || none) || meeting) ≡ false → MayWatch x s
    by false false true true true false false false come many from to known holds none meeting is = record {
      first = come;
      few = many;
      from = from;
      to = to;
      known = known;
      plain = holds;
      pattern = none;
      apart = meeting;
    }
    by true m f t k h n e come many from to known holds none meeting is = absurd cc
    by false true f t k h n e come many from to known holds none meeting is = absurd cc
    by false false false t k h n e come many from to known holds none meeting is = absurd cc
    by false false true false k h n e come many from to known holds none meeting is = absurd cc
    by false false true true false h n e come many from to known holds none meeting is = absurd cc
    by false false true true true true n e come many from to known holds none meeting is = absurd cc
    by false false true true true false true e come many from to known holds none meeting is = absurd cc
    by false false true true true false false true come many from to known holds none meeting is = absurd cc

-- a watcher that is barred has a cause
pub bars_watcher : (x : Watched) (s : State) → is_unwatchable x s ≡ true → BarsWatcher x s
bars_watcher x s is =
    by (nat_lt 0 s.world.opened) (nat_le 8 (length s.world.watches)) (is_space x.from) (is_space x.to)
    (is_behaviour x.name) (has_embedded x.pattern) (is_none (pattern_of x.pattern))
    (list_any (meets x) (x ∷ s.world.watches)) refl refl refl refl refl refl refl refl is
  where
    by : (come many from to known holds none meeting : Bool) → nat_lt 0 s.world.opened ≡ come
        → nat_le 8 (length s.world.watches) ≡ many → is_space x.from ≡ from → is_space x.to ≡ to
        → is_behaviour x.name ≡ known → has_embedded x.pattern ≡ holds → is_none (pattern_of x.pattern) ≡ none
        → list_any (meets x) (x ∷ s.world.watches) ≡ meeting
        → (come || many || not from || not to || not known || (holds || none) || meeting) ≡ true → BarsWatcher x s
    by true m f t k h n e come many from to known holds none meeting is =
        begun_before (grind (arith, nat_tests, come))
    by false true f t k h n e come many from to known holds none meeting is =
        as_many_as_may_be (grind (arith, nat_tests, many))
    by false false false t k h n e come many from to known holds none meeting is =
        watches_no_space (no_space x.from from)
    by false false true false k h n e come many from to known holds none meeting is =
        asserts_at_no_space (no_space x.to to)
    by false false true true false h n e come many from to known holds none meeting is =
        no_behaviour (λ name. not_both (is_behaviour x.name) known (is_behaviour_named x.name name))
    by false false true true true true n e come many from to known holds none meeting is = embedded_in_pattern holds
    by false false true true true false true e come many from to known holds none meeting is =
        no_pattern (none_is (pattern_of x.pattern) none)
    by false false true true true false false true come many from to known holds none meeting is =
        joins (any_joined x (x ∷ s.world.watches) meeting)
    by false false true true true false false false come many from to known holds none meeting is = absurd cc

-- where each test is as it has to be, there is no cause
watched_by_none : (x : Watched) (s : State) → MayWatch x s → BarsWatcher x s → ⊥
watched_by_none x s u (begun_before come) =
    let none : nat_lt 0 s.world.opened ≡ false = u.first in absurd (grind (arith, nat_tests, none, come))
watched_by_none x s u (as_many_as_may_be many) =
    let few : nat_le 8 (length s.world.watches) ≡ false = u.few in absurd (grind (arith, nat_tests, few, many))
watched_by_none x s u (watches_no_space other) = other (space_is x.from u.from)
watched_by_none x s u (asserts_at_no_space other) = other (space_is x.to u.to)
watched_by_none x s u (no_behaviour other) = other (behaviour_is x.name u.known)
watched_by_none x s u (embedded_in_pattern holds) = not_both (has_embedded x.pattern) u.plain holds
watched_by_none x s u (no_pattern none) = not_both (is_none (pattern_of x.pattern)) u.pattern (ap is_none none)
watched_by_none x s u (joins meeting) =
    not_both (list_any (meets x) (x ∷ s.world.watches)) u.apart (joined_any x (x ∷ s.world.watches) meeting)

-- a watcher that has a cause is barred
pub is_unwatchable_by : (x : Watched) (s : State) → BarsWatcher x s → is_unwatchable x s ≡ true
is_unwatchable_by x s cause = by (is_unwatchable x s) refl
  where
    by : (c : Bool) → is_unwatchable x s ≡ c → c ≡ true
    by true is = refl
    by false is = absurd (watched_by_none x s (may_watch x s is) cause)

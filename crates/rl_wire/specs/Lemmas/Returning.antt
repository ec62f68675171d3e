-- A reference that went out comes back when its peer writes it, so that no two are called alike.
use Rattle.std.proofs.Common.{◌≡◌, ℕ, pos, ◌<◌, ◌^◌, List, [], ◌∷◌, Bool, true, false, cond, length}
use Rattle.std.proofs.Common.{Less, Option, Some, None, refl, sym, ap, ◌∙◌, subst, arith}
use Rattle.std.specs.Prelude.{is_some, option_map, unwrap_or, ◌&&◌, nat_lt, if◌then◌else◌}
use Rattle.std.specs.List.{AllByRecursion, flat_map}
use Rattle.std.proofs.lemmas.Bool.Decides.{nat_tests}
use Rattle.std.proofs.lemmas.List.{append-nil}
use Rattle.std.proofs.lemmas.Map.Keys.{sorted_head, sorted_tail}
use Rattle.std.specs.BTreeMap.{is_at}
use Rattle.std.specs.List.Sorted.{IsStrictlySortedBy}
use Rattle.std.specs.Map.{lookup, keys_of}
use Rattle.std.specs.Ordering.{nat_cmp}
use Rattle.pv_value.specs.Plain.{Plain, integer, sequence, embedded, Plains, no_more, then_more, plains, listed}
use Rattle.pv_value.specs.Lemmas.Listed.{plains-listed}
use Rattle.pv_words.specs.Lemmas.Same.{same_is}
use Rattle.pv_words.specs.Words.{number, number_in}
use Rattle.pv_words.specs.Parts.{same}
use Rattle.ds_space.specs.declared.references.Reference.{Reference}
use Rattle.ds_space.specs.References.{reference_of}
use Rattle.rl_ports.specs.Ports.{ExportTable, AreNumbered, place_of, number_of}
use Rattle.rl_wire.specs.Crossing.{is_own, foreign_of, foreign_in, actor_at, wire_value, reference_out, caveats_in}
use Rattle.rl_wire.specs.Crossing.{with_caveats, wire_of, wire_where, reference_in, exports_with}
use Rattle.rl_wire.specs.Crossing.{held_in, crossed_in, Own, ExportedAs}
use Rattle.rl_wire.specs.Laws.{IsReference, IsAmong, HasGoneOut, turned, written_back}
use Rattle.rl_wire.specs.Laws.{WhatGoesOutIsExported, ReferencesComeBack, ReferencesStayApart}
use Rattle.rl_wire.specs.Lemmas.Exporting.{are_exported}
use Rattle.rl_wire.specs.Lemmas.Later.{all_of_front, all_of_rest}

-- ---- what a reference is written as

record IsWrittenAs (x : Plain) (r : Reference) (caveats : Plains) : Type 0 where
  is : x ≡ sequence (then_more (number r.actor) (then_more (number r.entity) caveats))
  small : r.entity < 2 ^ 63

written_as : (x : Plain) (r : Reference) → reference_of x ≡ Some r → (cs : Plains) × IsWrittenAs x r cs
written_as (sequence (then_more (integer (pos a)) (then_more (integer (pos e)) cs))) r is =
    by (nat_lt a (2 ^ 32)) (nat_lt e (2 ^ 63)) refl is
  where
    by : (b c : Bool) → nat_lt e (2 ^ 63) ≡ c
        → (if b && c then Some (record { actor = a; entity = e }) else None) ≡ Some r
        → (ds : Plains) × IsWrittenAs (sequence (then_more (integer (pos a)) (then_more (integer (pos e)) cs))) r ds
    by true true test same =
        let at : a ≡ r.actor = cc in
        let entity : e ≡ r.entity = cc in
        let small : e < 2 ^ 63 = grind (arith, nat_tests) in (
          cs,
          record {
            is = λ i. sequence (then_more (number (at i)) (then_more (number (entity i)) cs));
            small = subst (λ n. n < 2 ^ 63) entity small;
          },
        )
    by true false test same = absurd cc
    by false c test same = absurd cc
written_as x r is = absurd cc

no_caveats : (cs : Plains) → length (listed cs) ≡ 0 → cs ≡ no_more
no_caveats no_more none = refl
no_caveats (then_more c cs) none = absurd (omega arith)

small_number : (n : ℕ) → n < 2 ^ 63 → number_in (number n) ≡ Some n
small_number n small = by (nat_lt n (2 ^ 63)) refl
  where
    by : (b : Bool) → nat_lt n (2 ^ 63) ≡ b → (if b then Some n else None) ≡ Some n
    by true test = refl
    by false test = absurd (grind (arith, nat_tests))

-- ---- one of the connection's own

own_is : (a : ℕ) (x : Plain) (r : Reference) → is_own a x r ≡ true → (r.actor ≡ a) × (length (caveats_in x) ≡ 0)
own_is a x r own = (grind (arith, nat_tests, own), grind (arith, nat_tests, own))

own_back : (exports : ExportTable) (a : ℕ) (x : Plain) (r : Reference) → reference_of x ≡ Some r → is_own a x r ≡ true
    → reference_in exports a (wire_value 0 r.entity) (wire_of (wire_value 0 r.entity)) ≡ x
own_back exports a x r is own =
    let w = written_as x r is in
    let at = own_is a x r own in
    let none = no_caveats w.0 (sym (ap (λ y. length (caveats_in y)) w.1.is) ∙ at.1) in
    ap (λ o. reference_in exports a (wire_value 0 r.entity) (wire_where Own o)) (small_number r.entity w.1.small)
    ∙ sym (w.1.is ∙ ap (λ cs. sequence (then_more (number r.actor) (then_more (number r.entity) cs))) none
    ∙ ap (λ n. sequence (then_more (number n) (then_more (number r.entity) no_more))) at.0)

-- ---- an export

-- what is true of each number is true of one that is found
key_found : (P : ℕ → Type 0) (n : ℕ) (x : Plain) (es : List (ℕ × Plain)) → AllByRecursion P (keys_of es)
    → lookup (is_at (nat_cmp n)) es ≡ Some x → P n
key_found P n x [] all is = absurd cc
key_found P n x (e ∷ es) all is = by (is_at (nat_cmp n) e.0) refl is (key_found P n x es all.1)
  where
    by : (b : Bool) → is_at (nat_cmp n) e.0 ≡ b
        → (cond b (Some e.1) (lookup (is_at (nat_cmp n)) es)) ≡ Some x
        → (lookup (is_at (nat_cmp n)) es ≡ Some x → P n) → P n
    by true test found later =
        let at : e.0 ≡ n = grind (arith, nat_tests, test) in subst P at all.0
    by false test found later = later found

there : (x : Plain) (es : List (ℕ × Plain)) (n : ℕ) → IsStrictlySortedBy nat_cmp (keys_of es)
    → place_of x es ≡ Some n → lookup (is_at (nat_cmp n)) es ≡ Some x
there x [] n ascend is = cc
there x (e ∷ es) n ascend is =
    by (same x e.1) refl is (there x es n (sorted_tail nat_cmp _ _ ascend))
  where
    by : (b : Bool) → same x e.1 ≡ b → (if b then Some e.0 else place_of x es) ≡ Some n
        → (place_of x es ≡ Some n → lookup (is_at (nat_cmp n)) es ≡ Some x)
        → lookup (is_at (nat_cmp n)) (e ∷ es) ≡ Some x
    by true test found rest =
        let at : e.0 ≡ n = cc in
        let here : is_at (nat_cmp n) e.0 ≡ true = grind (arith, nat_tests, at) in
        rw here (ap Some (sym (same_is x e.1 test)))
    by false test found rest =
        let later = rest found in
        let above : nat_cmp e.0 n ≡ Less =
        key_found (λ k. nat_cmp e.0 k ≡ Less) n x es (sorted_head nat_cmp _ _ ascend) later in
        let apart : is_at (nat_cmp n) e.0 ≡ false = grind (arith, nat_tests, above) in
        rw apart later

given_found : (x : Plain) (next n : ℕ) (es : List (ℕ × Plain)) → AllByRecursion (λ k. k < next) (keys_of es)
    → lookup (is_at (nat_cmp n)) es ≡ Some x → n < next
given_found x next n es given is = key_found (λ k. k < next) n x es given is

with_none : (x : Plain) → with_caveats [] x ≡ x
with_none (sequence xs) = ap sequence (ap plains (append-nil (listed xs)) ∙ plains-listed xs)
with_none x = refl

export_back : (exports : ExportTable) (a n : ℕ) (x : Plain) → AreNumbered exports
    → place_of x exports.in_force ≡ Some n
    → reference_in exports a (wire_value 1 n) (wire_of (wire_value 1 n)) ≡ x
export_back exports a n x few is =
    let at = there x exports.in_force n few.ascending is in
    let small : n < 2 ^ 63 = omega (arith, given_found x exports.next n exports.in_force few.given at, few.few) in
    ap (λ o. reference_in exports a (wire_value 1 n) (wire_where ExportedAs o)) (small_number n small)
    ∙ ap (λ o. unwrap_or (option_map (with_caveats []) o) (wire_value 1 n)) at ∙ with_none x

-- ---- each reference

-- as its peer writes it, and what that names
abbrev back_from : ExportTable → ℕ → Plain → Plain
back_from exports a w = reference_in exports a (turned w) (wire_of (turned w))

among_back : (exports : ExportTable) (a : ℕ) (x : Plain) (o : Option ℕ) → AreNumbered exports
    → place_of x exports.in_force ≡ o → is_some o ≡ true
    → back_from exports a (wire_value 0 (unwrap_or o exports.next)) ≡ x
among_back exports a x None few is there = absurd cc
among_back exports a x (Some n) few is there = export_back exports a n x few is

one_back : (exports : ExportTable) (a : ℕ) (x : Plain) (r : Reference) (own : Bool) → AreNumbered exports
    → reference_of x ≡ Some r → is_own a x r ≡ own → AllByRecursion (IsAmong exports) (if own then [] else x ∷ [])
    → back_from exports a (if own then wire_value 1 r.entity else wire_value 0 (number_of x exports)) ≡ x
one_back exports a x r true few is own out = own_back exports a x r is own
one_back exports a x r false few is own out = among_back exports a x (place_of x exports.in_force) few refl out.0

comes_back : (exports : ExportTable) (a : ℕ) (x : Plain) (o : Option Reference) → AreNumbered exports
    → reference_of x ≡ o → is_some o ≡ true → AllByRecursion (IsAmong exports) (foreign_of a x o)
    → back_from exports a (reference_out exports a x o) ≡ x
comes_back exports a x None few is some out = absurd cc
comes_back exports a x (Some r) few is some out = one_back exports a x r (is_own a x r) few is refl out

pub references_come_back : ReferencesComeBack
references_come_back exports k x few gone =
    ap embedded (comes_back exports (actor_at k) x (reference_of x) few refl gone.reference gone.exported)

pub references_stay_apart : ReferencesStayApart
references_stay_apart exports k x y few gone went same =
    let e = sym (references_come_back exports k x few gone)
    ∙ ap (λ w. crossed_in exports k (written_back w)) same
    ∙ references_come_back exports k y few went in
    cc

-- ---- what went out is exported

all_gone : (exports : ExportTable) (k : ℕ) (xs : List Plain) → AllByRecursion IsReference xs
    → AllByRecursion (IsAmong exports) (flat_map (λ x. foreign_of (actor_at k) x (reference_of x)) xs)
    → AllByRecursion (HasGoneOut exports k) xs
all_gone exports k [] are out = tt
all_gone exports k (x ∷ xs) are out =
    let F : Plain → List Plain = λ y. foreign_of (actor_at k) y (reference_of y) in (
      record { reference = are.0; exported = all_of_front (IsAmong exports) (F x) (flat_map F xs) out },
      all_gone exports k xs are.1 (all_of_rest (IsAmong exports) (F x) (flat_map F xs) out),
    )

pub what_goes_out_is_exported : WhatGoesOutIsExported
what_goes_out_is_exported exports k v are =
    all_gone (exports_with exports k v) k (held_in v) are (are_exported exports (foreign_in k v))

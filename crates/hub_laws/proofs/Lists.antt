-- Entries by ascending number: what is found among them, and which lists of them are the same.
use Rattle.std.proofs.Common.{◌≡◌, ℕ, ◌<◌, ◌==◌, List, [], ◌∷◌, Bool, true, false, cond, Option, Some, None}
use Rattle.std.proofs.Common.{◌⊎◌, inl, inr, refl, sym, ◌∙◌, arith}
use Rattle.std.specs.BTreeMap.{is_at}
use Rattle.std.specs.List.{AllByRecursion}
use Rattle.std.specs.List.Sorted.{IsStrictlySortedBy}
use Rattle.std.specs.Map.{keys_of}
use Rattle.std.specs.Ordering.{nat_cmp}
use Rattle.std.proofs.lemmas.Bool.Decides.{nat_tests}
use Rattle.std.proofs.lemmas.Map.Keys.{sorted_head, sorted_tail}
use Rattle.pv_value.specs.Plain.{Plain}
use Rattle.ac_table.specs.declared.batches.Row.{Row}
use Rattle.ac_table.specs.declared.batches.Event.{Event}
use Rattle.ac_table.specs.declared.batches.Event.TheVariants.{Assert, Retract, Message, Sync}
use Rattle.ac_table.specs.Tables.{find_row, handles}
use Rattle.ac_world.specs.Worlds.{entry_of}
use Rattle.ac_world.specs.Lemmas.Entries.{KeysAscend, AreAbove, above_lower, entry_of_with, entry_of_above}
use Rattle.ac_world.specs.Lemmas.Entries.{entry_of_without, ascend_none, ascend_cons, ascend_with, ascend_without}
use Rattle.hub_laws.specs.Standing.{stands, took, took_all}
use Rattle.hub_laws.proofs.Kept.{IsNear, IsExcused, is_in}
use Rattle.hub_laws.proofs.Promised.{TookAllAppend, NearTook}

pub took_all_append : TookAllAppend
took_all_append X f [] ds got = refl
took_all_append X f (e ∷ es) ds got = took_all_append X f es ds (took f e got)

-- ---- what is found

pub is_at_same : (a k : ℕ) → is_at (nat_cmp a) k ≡ (a == k)
is_at_same a k = grind (arith, nat_tests)

-- ---- numbers that ascend

pub took_ascends : {X : Type 0} (f : ℕ → Plain → X) (e : Event) (got : List (ℕ × X)) → KeysAscend got
    → KeysAscend (took f e got)
took_ascends f (Assert h entity v) got s = ascend_with h (f entity v) got s
took_ascends f (Retract h entity) got s = ascend_without h got s
took_ascends f (Message entity v) got s = s
took_ascends f (Sync entity peer) got s = s

pub took_all_ascends : {X : Type 0} (f : ℕ → Plain → X) (es : List Event) (got : List (ℕ × X)) → KeysAscend got
    → KeysAscend (took_all f es got)
took_all_ascends f [] got s = s
took_all_ascends f (e ∷ es) got s = took_all_ascends f es (took f e got) (took_ascends f e got s)

-- ---- entries that ascend are the same, where the same is found in them

abbrev pub FindTheSame : {X : Type 0} → List (ℕ × X) → List (ℕ × X) → Type 0
FindTheSame xs ys = (h : ℕ) → entry_of h xs ≡ entry_of h ys

none_lower : {X : Type 0} (x y : ℕ × X) (xs ys : List (ℕ × X)) → x.0 < y.0 → KeysAscend (y ∷ ys)
    → FindTheSame (x ∷ xs) (y ∷ ys) → ⊥
none_lower x y xs ys l t same =
    let above : AreAbove x.0 (keys_of ys) = above_lower x.0 y.0 _ l (sorted_head nat_cmp _ _ t) in
    let none : entry_of x.0 (y ∷ ys) ≡ None = entry_of_above x.0 (y ∷ ys) (grind arith, above) in
    let some : entry_of x.0 (x ∷ xs) ≡ Some x.1 = grind arith in
    let clash : Some x.1 ≡ None = sym some ∙ same x.0 ∙ none in
    absurd cc

same_first : {X : Type 0} (x y : ℕ × X) (xs ys : List (ℕ × X)) → KeysAscend (x ∷ xs) → KeysAscend (y ∷ ys)
    → FindTheSame (x ∷ xs) (y ∷ ys) → x.0 ≡ y.0
same_first x y xs ys s t same =
    let up : x.0 < y.0 → ⊥ = λ l. none_lower x y xs ys l t same in
    let down : y.0 < x.0 → ⊥ = λ l. none_lower y x ys xs l s (λ h. sym (same h)) in
    grind (arith, up, down)

same_later : {X : Type 0} (x y : ℕ × X) (xs ys : List (ℕ × X)) → KeysAscend (x ∷ xs) → KeysAscend (y ∷ ys)
    → x.0 ≡ y.0 → FindTheSame (x ∷ xs) (y ∷ ys) → FindTheSame xs ys
same_later x y xs ys s t key same h =
    let here = same h in
    grind (
      arith,
      nat_tests,
      λ (e : x.0 ≡ h). entry_of_above h xs (rw (← e) (sorted_head nat_cmp _ _ s)),
      λ (e : y.0 ≡ h). entry_of_above h ys (rw (← e) (sorted_head nat_cmp _ _ t)),
    )

pub same_entries : {X : Type 0} (xs ys : List (ℕ × X)) → KeysAscend xs → KeysAscend ys → FindTheSame xs ys → xs ≡ ys
same_entries [] [] s t same = refl
same_entries [] (y ∷ ys) s t same = let clash = same y.0 in absurd (grind (arith, clash))
same_entries (x ∷ xs) [] s t same = let clash = same x.0 in absurd (grind (arith, clash))
same_entries (x ∷ xs) (y ∷ ys) s t same =
    let key : x.0 ≡ y.0 = same_first x y xs ys s t same in
    let value : x.1 ≡ y.1 = grind (arith, same x.0, key) in
    let later : FindTheSame xs ys = same_later x y xs ys s t key same in
    let rest : xs ≡ ys = same_entries xs ys (sorted_tail nat_cmp _ _ s) (sorted_tail nat_cmp _ _ t) later in
    λ i. (key i, value i) ∷ rest i

-- ---- what is kept is near what should be

-- where the same change is made to both
changed_alike : {X : Type 0} (w : Option X) (b : Bool) (kept should : Option X) (E : Type 0)
    → (kept ≡ should) ⊎ ((kept ≡ None) × E)
    → (cond b w kept ≡ cond b w should) ⊎ ((cond b w kept ≡ None) × E)
changed_alike w true kept should E near = inl refl
changed_alike w false kept should E near = near

near_took_one : {X : Type 0} (f : ℕ → Plain → X) (ends : List ℕ) (rows : List Row) (e : Event)
    (should kept : List (ℕ × X)) → IsNear ends rows should kept → IsNear ends rows (took f e should) (took f e kept)
near_took_one f ends rows (Assert h entity v) should kept n = record {
  should_ascends = ascend_with h (f entity v) should n.should_ascends;
  kept_ascends = ascend_with h (f entity v) kept n.kept_ascends;
  near = λ q. rw (entry_of_with q h (f entity v) kept, entry_of_with q h (f entity v) should)
      (changed_alike _ (h == q) _ _ _ (n.near q));
}
near_took_one f ends rows (Retract h entity) should kept n = record {
  should_ascends = ascend_without h should n.should_ascends;
  kept_ascends = ascend_without h kept n.kept_ascends;
  near = λ q. rw (entry_of_without q h kept n.kept_ascends, entry_of_without q h should n.should_ascends)
      (changed_alike _ (h == q) _ _ _ (n.near q));
}
near_took_one f ends rows (Message entity v) should kept n = n
near_took_one f ends rows (Sync entity peer) should kept n = n

pub near_took : NearTook
near_took X f ends rows [] should kept n = n
near_took X f ends rows (e ∷ es) should kept n =
    near_took X f ends rows es (took f e should) (took f e kept) (near_took_one f ends rows e should kept n)

-- where nothing can be excused, what is kept is what should be
pub near_exact : {X : Type 0} (ends : List ℕ) (rows : List Row) (should kept : List (ℕ × X))
    → IsNear ends rows should kept
    → ((h : ℕ) (r : Row) → find_row h rows ≡ Some r → is_in ends r.owner ≡ false)
    → ((h : ℕ) → find_row h rows ≡ None → entry_of h should ≡ None) → kept ≡ should
near_exact ends rows should kept n stay gone =
    same_entries kept should n.kept_ascends n.should_ascends (λ h. from h (n.near h))
  where
    excused : (h : ℕ) (o : Option Row) → find_row h rows ≡ o → IsExcused ends o → entry_of h kept ≡ None
        → entry_of h kept ≡ entry_of h should
    excused h None is x none = none ∙ sym (gone h is)
    excused h (Some r) is x none = let other = stay h r is in absurd cc

    from : (h : ℕ)
        → (entry_of h kept ≡ entry_of h should) ⊎ ((entry_of h kept ≡ None) × IsExcused ends (find_row h rows))
        → entry_of h kept ≡ entry_of h should
    from h (inl same) = same
    from h (inr out) = excused h (find_row h rows) refl out.1 out.0

-- ---- what stands at an actor

pub all_stand : {X : Type 0} (P : ℕ → Type 0) (f : ℕ → Plain → X) (a : ℕ) (rows : List Row)
    → AllByRecursion P (handles rows) → AllByRecursion P (keys_of (stands f a rows))
all_stand P f a [] all = tt
all_stand P f a (r ∷ rs) all = split (r.target == a) refl (all_stand P f a rs all.1)
  where
    split : (b : Bool) → (r.target == a) ≡ b → AllByRecursion P (keys_of (stands f a rs))
        → AllByRecursion P (keys_of (stands f a (r ∷ rs)))
    split true is rest = rw is (all.0, rest)
    split false is rest = rw is rest

pub stands_ascend : {X : Type 0} (f : ℕ → Plain → X) (a : ℕ) (rows : List Row)
    → IsStrictlySortedBy nat_cmp (handles rows) → KeysAscend (stands f a rows)
stands_ascend f a [] s = ascend_none
stands_ascend f a (r ∷ rs) s = split (r.target == a) refl (stands_ascend f a rs (sorted_tail nat_cmp _ _ s))
  where
    split : (b : Bool) → (r.target == a) ≡ b → KeysAscend (stands f a rs) → KeysAscend (stands f a (r ∷ rs))
    split true is rest = rw is (ascend_cons r.handle _ (all_stand _ f a rs (sorted_head nat_cmp _ _ s)) rest)
    split false is rest = rw is rest

-- what a row is at an actor, as f keeps it
abbrev pub kept_of : {X : Type 0} → (ℕ → Plain → X) → ℕ → Option Row → Option X
kept_of f a None = None
kept_of f a (Some r) = cond (r.target == a) (Some (f r.entity r.value)) None

pub entry_of-stands : {X : Type 0} (f : ℕ → Plain → X) (a h : ℕ) (rows : List Row)
    → IsStrictlySortedBy nat_cmp (handles rows) → entry_of h (stands f a rows) ≡ kept_of f a (find_row h rows)
entry_of-stands f a h [] s = refl
entry_of-stands f a h (r ∷ rs) s =
    grind (
      arith,
      nat_tests,
      entry_of-stands f a h rs (sorted_tail nat_cmp _ _ s),
      λ (same : r.handle ≡ h). entry_of_above h (stands f a rs)
          (all_stand _ f a rs (rw (← same) (sorted_head nat_cmp _ _ s))),
    )

-- The least of the busy ones is the lowest actor for which a batch waits; and how many batches wait.
use Rattle.std.proofs.Common.{◌≡◌, ℕ, ◌<◌, ◌≤◌, Bool, true, false, nat_lt, List, [], ◌∷◌, map, refl, ap, sym}
use Rattle.std.proofs.Common.{◌∙◌, arith, Some, None, Option, IsTrue, length, Less, Bor, IsSome, IfSome, option_copied}
use Rattle.std.specs.List.{AllByRecursion}
use Rattle.std.specs.BTreeMap.{is_at}
use Rattle.std.specs.BTreeSet.{BTreeSet, btree_set_len, contains, IsLowerBound}
use Rattle.std.specs.Map.{keys_of}
use Rattle.std.specs.Ordering.{nat_cmp}
use Rattle.std.proofs.lemmas.Map.Keys.{sorted_head, sorted_tail, le_from_not_gt}
use Rattle.ac_table.specs.Tables.{lowest_in}
use Rattle.ac_table.specs.Kept.{seen, value_at, is_key, waits_at, KeysAscend, IsBusy}
use Rattle.ac_table.specs.declared.table.LiveActor.{LiveActor}
use Rattle.ac_table.specs.Lemmas.Entries.{is_at_same}

-- keys behind a lower one
key_above : (a k : ℕ) (es : List (ℕ × LiveActor)) → AllByRecursion (λ q. nat_cmp a q ≡ Less) (keys_of es)
    → waits_at (value_at k es) ≡ true → a < k
key_above a k [] above waits = absurd cc
key_above a k (e ∷ es) above waits = split (is_at (nat_cmp k) e.0) refl (key_above a k es above.1)
  where
    split : (b : Bool) → is_at (nat_cmp k) e.0 ≡ b → (waits_at (value_at k es) ≡ true → a < k) → a < k
    split true here later = grind (arith, is_at_same k e.0, here, above.0)
    split false other later = later (rw other at waits)

-- what waits behind the first entry waits in all
waits_behind : (q : ℕ) (e : ℕ × LiveActor) (es : List (ℕ × LiveActor)) → KeysAscend (e ∷ es)
    → waits_at (value_at q es) ≡ true
    → waits_at (value_at q (e ∷ es)) ≡ true
waits_behind q e es s waits =
    let above : e.0 < q = key_above e.0 q es (sorted_head nat_cmp _ _ s) waits in
    let other : is_at (nat_cmp q) e.0 ≡ false = grind (arith, is_at_same q e.0, above) in
    rw other waits

waits_first : (e : ℕ × LiveActor) (es : List (ℕ × LiveActor))
    → waits_at (value_at e.0 (e ∷ es)) ≡ nat_lt 0 (length e.1.inbox)
waits_first e es = let here : is_at (nat_cmp e.0) e.0 ≡ true = grind (arith, is_at_same e.0 e.0) in rw here refl

-- a batch waits for this one, and for none below it
pub lowest_found : (k : ℕ) (actors : List (ℕ × LiveActor)) → KeysAscend actors → waits_at (value_at k actors) ≡ true
    → ((q : ℕ) → waits_at (value_at q actors) ≡ true → k ≤ q) → lowest_in (map seen actors) ≡ Some k
lowest_found k [] s waits least = absurd cc
lowest_found k (e ∷ es) s waits least =
    split (is_at (nat_cmp k) e.0) (nat_lt 0 (length e.1.inbox)) refl refl
    (λ later. lowest_found k es (sorted_tail nat_cmp _ _ s) later (λ q w. least q (waits_behind q e es s w)))
  where
    split : (b c : Bool) → is_at (nat_cmp k) e.0 ≡ b → nat_lt 0 (length e.1.inbox) ≡ c
        → (waits_at (value_at k es) ≡ true → lowest_in (map seen es) ≡ Some k) → lowest_in (map seen (e ∷ es)) ≡ Some k
    split true c here has later =
        let some : nat_lt 0 (length e.1.inbox) ≡ true = rw here at waits in
        let same : e.0 ≡ k = grind (arith, is_at_same k e.0, here) in
        rw some (ap Some same)
    split false true other has later =
        let l : k ≤ e.0 = least e.0 (waits_first e es ∙ has) in
        let above : e.0 < k = key_above e.0 k es (sorted_head nat_cmp _ _ s) (rw other at waits) in
        absurd (omega (arith, l, above))
    split false false other has later = rw has (later (rw other at waits))

-- a batch waits for none
pub lowest_none : (actors : List (ℕ × LiveActor)) → ((q : ℕ) → waits_at (value_at q actors) ≡ false)
    → KeysAscend actors → lowest_in (map seen actors) ≡ None
lowest_none [] none s = refl
lowest_none (e ∷ es) none s =
    let here : nat_lt 0 (length e.1.inbox) ≡ false = sym (waits_first e es) ∙ none e.0 in
    rw here (lowest_none es (λ q. behind q (waits_at (value_at q es)) refl) (sorted_tail nat_cmp _ _ s))
  where
    behind : (q : ℕ) (b : Bool) → waits_at (value_at q es) ≡ b → waits_at (value_at q es) ≡ false
    behind q true is = let clash : true ≡ false = sym (waits_behind q e es s is) ∙ none q in absurd cc
    behind q false is = is

pub no_keys : (ks : List ℕ) → (0 < length ks → false ≡ true) → ks ≡ []
no_keys [] rises = refl
no_keys (k ∷ ks) rises = let clash : false ≡ true = rises (omega arith) in absurd cc

pub lowest_from : (busy : BTreeSet ℕ) (actors : List (ℕ × LiveActor)) (r : Option (Bor ℕ)) → KeysAscend actors
    → IsBusy busy.keys actors → (0 < btree_set_len busy → IsSome r)
    → IfSome r (λ k. IsTrue (contains nat_cmp busy k.now)) → IfSome r (λ k. IsLowerBound nat_cmp busy k.now)
    → option_copied r ≡ lowest_in (map seen actors)
lowest_from busy actors None s k some member least =
    let none : busy.keys ≡ [] = no_keys busy.keys some in
    sym (lowest_none actors (λ q. sym (k q) ∙ ap (is_key q) none) s)
lowest_from busy actors (Some x) s k some member least =
    sym (lowest_found x.now actors s (sym (k x.now) ∙ member)
    (λ q w. le_from_not_gt x.now q (least q (k q ∙ w))))

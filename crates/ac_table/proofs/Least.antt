-- The least number that no facet has, by one walk.
use Rattle.std.proofs.Common.{◌≡◌, ℕ, suc, ◌<◌, ◌≤◌, Bool, true, false, ◌==◌, nat_lt, [], ◌∷◌, refl, arith, sym, ◌∙◌}
use Rattle.std.proofs.Common.{Less}
use Rattle.std.specs.BTreeMap.{is_at}
use Rattle.std.specs.List.{AllByRecursion}
use Rattle.std.specs.Map.{keys_of}
use Rattle.std.specs.Ordering.{nat_cmp}
use Rattle.std.proofs.lemmas.Bool.Decides.{nat_tests}
use Rattle.std.proofs.lemmas.Map.Keys.{sorted_head, sorted_tail}
use Rattle.ac_table.specs.Facets.{Tree, is_facet, IsLeastFree, least_from, least_free}
use Rattle.ac_table.specs.Lemmas.Entries.{is_at_same}
use Rattle.ac_table.specs.Maps.{KeysAscend}

-- no facet has m, which is n or above it, and all between have one
record IsLeastFrom (n m : ℕ) (t : Tree) : Type 0 where
  from : n ≤ m
  free : is_facet m t ≡ false
  least : (k : ℕ) → n ≤ k → k < m → is_facet k t ≡ true

free_below : (n x : ℕ) (es : Tree) → AllByRecursion (λ q. nat_cmp x q ≡ Less) (keys_of es) → n < x
    → is_facet n es ≡ false
free_below n x [] above l = refl
free_below n x (e ∷ es) above l = grind (arith, is_at_same n e.0, above.0, free_below n x es above.1 l)

facet_past : (k : ℕ) (e : ℕ × ℕ) (es : Tree) → (e.0 == k) ≡ false → is_facet k (e ∷ es) ≡ is_facet k es
facet_past k e es apart =
    let other : is_at (nat_cmp k) e.0 ≡ false = is_at_same k e.0 ∙ apart in rw other refl

facet_first : (k : ℕ) (e : ℕ × ℕ) (es : Tree) → (e.0 == k) ≡ true → is_facet k (e ∷ es) ≡ true
facet_first k e es same =
    let here : is_at (nat_cmp k) e.0 ≡ true = is_at_same k e.0 ∙ same in rw here refl

walked : (n : ℕ) (t : Tree) → KeysAscend t → IsLeastFrom n (least_from n t) t
walked n [] s = record { from = omega arith; free = refl; least = λ k up low. absurd (omega (arith, up, low)) }
walked n (e ∷ es) s =
    by (e.0 == n) (nat_lt e.0 n) refl refl (walked (suc n) es (sorted_tail nat_cmp _ _ s))
    (walked n es (sorted_tail nat_cmp _ _ s))
  where
    at_it : (e.0 == n) ≡ true → IsLeastFrom (suc n) (least_from (suc n) es) es
        → IsLeastFrom n (least_from (suc n) es) (e ∷ es)
    at_it here w = record {
      from = omega (arith, w.from);
      free = facet_past (least_from (suc n) es) e es (grind (arith, nat_tests, here, w.from)) ∙ w.free;
      least = λ k up low. among k up low (e.0 == k) refl;
    }
      where
        among : (k : ℕ) → n ≤ k → k < least_from (suc n) es → (b : Bool) → (e.0 == k) ≡ b
            → is_facet k (e ∷ es) ≡ true
        among k up low true same = facet_first k e es same
        among k up low false other =
            facet_past k e es other ∙ w.least k (grind (arith, nat_tests, up, here, other)) low

    past_it : nat_lt e.0 n ≡ true → IsLeastFrom n (least_from n es) es → IsLeastFrom n (least_from n es) (e ∷ es)
    past_it before w = record {
      from = w.from;
      free = facet_past (least_from n es) e es (grind (arith, nat_tests, before, w.from)) ∙ w.free;
      least = λ k up low. facet_past k e es (grind (arith, nat_tests, before, up)) ∙ w.least k up low;
    }

    before_it : (e.0 == n) ≡ false → nat_lt e.0 n ≡ false → IsLeastFrom n n (e ∷ es)
    before_it other after =
        let l : n < e.0 = grind (arith, nat_tests, other, after) in
        record {
          from = omega arith;
          free = facet_past n e es other ∙ free_below n e.0 es (sorted_head nat_cmp _ _ s) l;
          least = λ k up low. absurd (omega (arith, up, low));
        }

    by : (b c : Bool) → (e.0 == n) ≡ b → nat_lt e.0 n ≡ c → IsLeastFrom (suc n) (least_from (suc n) es) es
        → IsLeastFrom n (least_from n es) es → IsLeastFrom n (least_from n (e ∷ es)) (e ∷ es)
    by true c here before w v = rw here (at_it here w)
    by false true other before w v = rw (other, before) (past_it before v)
    by false false other before w v = rw (other, before) (before_it other before)

-- there is one least free number alone
least_same : (n m : ℕ) (t : Tree) → IsLeastFree n t → IsLeastFree m t → n ≡ m
least_same n m t f g = by (nat_lt n m) (nat_lt m n) refl refl
  where
    by : (b c : Bool) → nat_lt n m ≡ b → nat_lt m n ≡ c → n ≡ m
    by true c low other =
        let clash : true ≡ false = sym (g.least n f.some (grind (arith, nat_tests, low))) ∙ f.free in absurd cc
    by false true high low =
        let clash : true ≡ false = sym (f.least m g.some (grind (arith, nat_tests, low))) ∙ g.free in absurd cc
    by false false high low = grind (arith, nat_tests, high, low)

pub least_number : (n : ℕ) (t : Tree) → KeysAscend t → IsLeastFree n t → n ≡ least_free t
least_number n t s f =
    let w = walked 1 t s in
    least_same n (least_free t) t f (record {
      some = omega (arith, w.from);
      free = w.free;
      least = λ k some low. w.least k (omega (arith, some)) low;
    })

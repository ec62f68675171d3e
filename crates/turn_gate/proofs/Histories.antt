-- Lemmas on histories and on beginnings of lists.
use Rattle.std.proofs.Common.{◌≡◌, ℕ, suc, ◌+◌, ◌≤◌, eqb, ◌≢◌, List, [], ◌∷◌, ◌++◌, length, sym, refl, ap, ◌∙◌, subst}
use Rattle.std.proofs.Common.{arith, append_assoc, eq-eqb, ne_eqb, length-append, append-nil}
use Rattle.std.specs.Prelude.{cond, true, false, Bool, drop, ◌⊎◌}
use Rattle.std.proofs.Common.{inl, inr}
use mathlib.Core.Option.{some}
use lib.ListN.{get_elem?}
use Rattle.atomic_table.proofs.Lists.{at_longer}
use mathlib.Core.List.{IsPrefix}
use Rattle.turn_gate.specs.declared.view.Entry.{Entry}
use Rattle.turn_gate.specs.History.{after, IsLegal, places, places_from, pairs_of}
use Rattle.turn_gate.specs.Table.{longer}

module _ {A : Type 0} where
  pub prefix_refl : (xs : List A) → IsPrefix xs xs
  prefix_refl xs = ([], append-nil xs)

  pub prefix_trans : (xs ys zs : List A) → IsPrefix xs ys → IsPrefix ys zs → IsPrefix xs zs
  prefix_trans xs ys zs p q = (p.0 ++ q.0, sym (append_assoc xs p.0 q.0) ∙ ap (λ l. l ++ q.0) p.1 ∙ q.1)

  pub prefix_more : (xs ys : List A) (y : A) → IsPrefix xs ys → IsPrefix xs (ys ++ y ∷ [])
  prefix_more xs ys y p = (p.0 ++ y ∷ [], sym (append_assoc xs p.0 (y ∷ [])) ∙ ap (λ l. l ++ y ∷ []) p.1)

  pub prefix_length : (xs ys : List A) → IsPrefix xs ys → length xs ≤ length ys
  prefix_length xs ys p = omega (arith, length-append xs p.0, ap length p.1)

module _ {T S R : Type 0} (next : T → S → T × R) where
  pub legal_more : (t : T) (es : List (Entry S R)) (e : Entry S R) → IsLegal next t es
      → e.reply ≡ (next (after next t es) e.step).1 → IsLegal next t (es ++ e ∷ [])
  legal_more t [] e l r = (r, tt)
  legal_more t (x ∷ xs) e l r = (l.0, legal_more (next t x.step).0 xs e l.1 r)

  pub after_more : (t : T) (es : List (Entry S R)) (e : Entry S R)
      → after next t (es ++ e ∷ []) ≡ (next (after next t es) e.step).0
  after_more t [] e = refl
  after_more t (x ∷ xs) e = after_more (next t x.step).0 xs e

module _ {S R : Type 0} where
  mine_from : (n : ℕ) (es : List (Entry S R)) (e : Entry S R) (k : ℕ) → e.name ≡ n
      → places_from n (es ++ e ∷ []) k ≡ places_from n es k ++ (k + length es) ∷ []
  mine_from n [] e k is = subst (λ b. cond b (k ∷ []) [] ≡ (k + 0) ∷ []) (sym (eq-eqb e.name n is))
      (ap (λ (m : ℕ). m ∷ []) (omega arith))
  mine_from n (x ∷ xs) e k is = let more = mine_from n xs e (suc k) is in
      let m : suc k + length xs ≡ k + suc (length xs) = omega arith in
      go (eqb x.name n) (more ∙ ap (λ (m : ℕ). places_from n xs (suc k) ++ m ∷ []) m)
    where
      go : (b : Bool) → places_from n (xs ++ e ∷ []) (suc k) ≡ places_from n xs (suc k) ++ (k + suc (length xs)) ∷ []
          → cond b (k ∷ places_from n (xs ++ e ∷ []) (suc k)) (places_from n (xs ++ e ∷ []) (suc k))
          ≡ cond b (k ∷ places_from n xs (suc k)) (places_from n xs (suc k)) ++ (k + suc (length xs)) ∷ []
      go true p = ap (λ l. k ∷ l) p
      go false p = p

  others_from : (n : ℕ) (es : List (Entry S R)) (e : Entry S R) (k : ℕ) → e.name ≢ n
      → places_from n (es ++ e ∷ []) k ≡ places_from n es k
  others_from n [] e k ne = subst (λ b. cond b (k ∷ []) [] ≡ []) (sym (ne_eqb e.name n ne)) refl
  others_from n (x ∷ xs) e k ne = ap (λ l. cond (eqb x.name n) (k ∷ l) l) (others_from n xs e (suc k) ne)

  pub places_mine : (n : ℕ) (es : List (Entry S R)) (e : Entry S R) → e.name ≡ n
      → places n (es ++ e ∷ []) ≡ places n es ++ length es ∷ []
  places_mine n es e is = mine_from n es e 0 is ∙ ap (λ (m : ℕ). places n es ++ m ∷ []) (omega arith)

  pub places_others : (n : ℕ) (es : List (Entry S R)) (e : Entry S R) → e.name ≢ n
      → places n (es ++ e ∷ []) ≡ places n es
  places_others n es e ne = others_from n es e 0 ne

module _ {A : Type 0} where
  prefix_tail : (x y : A) (xs ys : List A) → IsPrefix (x ∷ xs) (y ∷ ys) → (x ≡ y) × IsPrefix xs ys
  prefix_tail x y xs ys p = let e : x ∷ (xs ++ p.0) ≡ y ∷ ys = p.1 in (cc, (p.0, cc))

  prefix_cons : (x y : A) (xs ys : List A) → x ≡ y → IsPrefix xs ys → IsPrefix (x ∷ xs) (y ∷ ys)
  prefix_cons x y xs ys e p = (p.0, λ i. e i ∷ p.1 i)

  -- of two beginnings of one list one begins the other
  pub one_begins : (xs ys log : List A) → IsPrefix xs log → IsPrefix ys log → ((longer xs ys ≡ ys) × IsPrefix xs ys)
      ⊎ ((longer xs ys ≡ xs) × IsPrefix ys xs)
  one_begins [] ys log p q = inl (refl, (ys, refl))
  one_begins (x ∷ xs) [] log p q = inr (append-nil (x ∷ xs), (x ∷ xs, refl))
  one_begins (x ∷ xs) (y ∷ ys) [] p q = absurd (let e : x ∷ (xs ++ p.0) ≡ [] = p.1 in cc)
  one_begins (x ∷ xs) (y ∷ ys) (l ∷ ls) p q = let a = prefix_tail x l xs ls p in let b = prefix_tail y l ys ls q in
      go (a.0 ∙ sym b.0) (one_begins xs ys ls a.1 b.1)
    where
      go : x ≡ y → ((longer xs ys ≡ ys) × IsPrefix xs ys) ⊎ ((longer xs ys ≡ xs) × IsPrefix ys xs)
          → ((longer (x ∷ xs) (y ∷ ys) ≡ y ∷ ys) × IsPrefix (x ∷ xs) (y ∷ ys))
          ⊎ ((longer (x ∷ xs) (y ∷ ys) ≡ x ∷ xs) × IsPrefix (y ∷ ys) (x ∷ xs))
      go e (inl h) = inl ((λ i. e i ∷ h.0 i), prefix_cons x y xs ys e h.1)
      go e (inr h) = inr ((λ i. x ∷ h.0 i), prefix_cons y x ys xs (sym e) h.1)

  pub longer_begins : (xs ys log : List A) → IsPrefix xs log → IsPrefix ys log → IsPrefix (longer xs ys) log
  longer_begins xs ys log p q = go (one_begins xs ys log p q)
    where
      go : ((longer xs ys ≡ ys) × IsPrefix xs ys) ⊎ ((longer xs ys ≡ xs) × IsPrefix ys xs) → IsPrefix (longer xs ys) log
      go (inl h) = subst (λ l. IsPrefix l log) (sym h.0) q
      go (inr h) = subst (λ l. IsPrefix l log) (sym h.0) p

  pub first_begins : (xs ys log : List A) → IsPrefix (longer xs ys) log → IsPrefix xs log
  first_begins xs ys log p = (drop (length xs) ys ++ p.0, sym (append_assoc xs (drop (length xs) ys) p.0) ∙ p.1)

  pub prefix_whole : (xs log : List A) → IsPrefix log xs → IsPrefix xs log → xs ≡ log
  prefix_whole [] [] p q = refl
  prefix_whole [] (l ∷ ls) p q = absurd (let e : l ∷ (ls ++ p.0) ≡ [] = p.1 in cc)
  prefix_whole (x ∷ xs) [] p q = absurd (let e : x ∷ (xs ++ q.0) ≡ [] = q.1 in cc)
  prefix_whole (x ∷ xs) (l ∷ ls) p q = let a = prefix_tail x l xs ls q in let b = prefix_tail l x ls xs p in
      λ i. a.0 i ∷ prefix_whole xs ls b.1 a.1 i

pub same_front : (xs ys : List ℕ) (a : ℕ) → xs ++ a ∷ [] ≡ ys ++ a ∷ [] → xs ≡ ys
same_front [] [] a e = refl
same_front [] (y ∷ ys) a e = let l : length (a ∷ []) ≡ length (y ∷ (ys ++ a ∷ [])) = ap length e in
    let m : length (ys ++ a ∷ []) ≡ length ys + 1 = length-append ys (a ∷ []) in absurd (omega arith)
same_front (x ∷ xs) [] a e = let l : length (x ∷ (xs ++ a ∷ [])) ≡ length (a ∷ []) = ap length e in
    let m : length (xs ++ a ∷ []) ≡ length xs + 1 = length-append xs (a ∷ []) in absurd (omega arith)
same_front (x ∷ xs) (y ∷ ys) a e = let h : x ≡ y = (let z : x ∷ (xs ++ a ∷ []) ≡ y ∷ (ys ++ a ∷ []) = e in cc) in
    let r : xs ++ a ∷ [] ≡ ys ++ a ∷ [] = (let z : x ∷ (xs ++ a ∷ []) ≡ y ∷ (ys ++ a ∷ []) = e in cc) in
    λ i. h i ∷ same_front xs ys a r i

no_length : (l : List ℕ) → length l ≡ 0 → l ≡ []
no_length [] e = refl
no_length (x ∷ xs) e = absurd (omega arith)

module _ {S R : Type 0} where
  none_from : (n : ℕ) (es : List (Entry S R)) (k : ℕ) → ((p : ℕ) (e : Entry S R) → get_elem? es p ≡ some e
      → e.name ≢ n) → places_from n es k ≡ []
  none_from n [] k not = refl
  none_from n (e ∷ es) k not = subst (λ b. cond b (k ∷ places_from n es (suc k)) (places_from n es (suc k)) ≡ [])
      (sym (ne_eqb e.name n (not 0 e refl))) (none_from n es (suc k) (λ p x at. not (suc p) x at))

  -- nobody of this name has an entry
  pub places_none : (n : ℕ) (es : List (Entry S R)) → ((p : ℕ) (e : Entry S R) → get_elem? es p ≡ some e → e.name ≢ n)
      → places n es ≡ []
  places_none n es not = none_from n es 0 not

  pub places_append : (n : ℕ) (xs ys : List (Entry S R)) (k : ℕ) → places_from n (xs ++ ys) k ≡ places_from n xs k
      ++ places_from n ys (k + length xs)
  places_append n [] ys k = ap (places_from n ys) (omega arith)
  places_append n (x ∷ xs) ys k = let more = places_append n xs ys (suc k) in
      let m : suc k + length xs ≡ k + suc (length xs) = omega arith in
      go (eqb x.name n) (more ∙ ap (λ (q : ℕ). places_from n xs (suc k) ++ places_from n ys q) m)
    where
      go : (b : Bool) → places_from n (xs ++ ys) (suc k) ≡ places_from n xs (suc k)
          ++ places_from n ys (k + suc (length xs))
          → cond b (k ∷ places_from n (xs ++ ys) (suc k)) (places_from n (xs ++ ys) (suc k))
          ≡ cond b (k ∷ places_from n xs (suc k)) (places_from n xs (suc k))
          ++ places_from n ys (k + suc (length xs))
      go true p = ap (λ l. k ∷ l) p
      go false p = p

  -- where a list and a longer one have the same places of a name, so has one in between
  pub squeezed : (n : ℕ) (xs ys zs : List (Entry S R)) → IsPrefix xs ys → IsPrefix ys zs → places n xs ≡ places n zs
      → places n ys ≡ places n xs
  squeezed n xs ys zs p q e =
      let a : places n ys ≡ places n xs ++ places_from n p.0 (0 + length xs) = ap (places n) (sym p.1)
      ∙ places_append n xs p.0 0 in
      let b : places n zs ≡ places n ys ++ places_from n q.0 (0 + length ys) = ap (places n) (sym q.1)
      ∙ places_append n ys q.0 0 in
      let r : List ℕ = places_from n p.0 (0 + length xs) in let t : List ℕ = places_from n q.0 (0 + length ys) in
      let la : length (places n ys) ≡ length (places n xs) + length r = ap length a ∙ length-append (places n xs) r in
      let lb : length (places n zs) ≡ length (places n ys) + length t = ap length b ∙ length-append (places n ys) t in
      let le : length (places n xs) ≡ length (places n zs) = ap length e in
      a ∙ ap (λ l. places n xs ++ l) (no_length r (omega arith)) ∙ append-nil (places n xs)

  pub of_prefix : (xs ys : List (Entry S R)) → IsPrefix xs ys → (p : ℕ) (e : Entry S R) → get_elem? xs p ≡ some e
      → get_elem? ys p ≡ some e
  of_prefix xs ys pre p e at = ap (λ l. get_elem? l p) (sym pre.1) ∙ at_longer xs pre.0 p e at

  pairs_append : (n : ℕ) (xs ys : List (Entry S R)) → pairs_of n (xs ++ ys) ≡ pairs_of n xs ++ pairs_of n ys
  pairs_append n [] ys = refl
  pairs_append n (x ∷ xs) ys = go (eqb x.name n) (pairs_append n xs ys)
    where
      go : (b : Bool) → pairs_of n (xs ++ ys) ≡ pairs_of n xs ++ pairs_of n ys
          → cond b ((x.step, x.reply) ∷ pairs_of n (xs ++ ys)) (pairs_of n (xs ++ ys))
          ≡ cond b ((x.step, x.reply) ∷ pairs_of n xs) (pairs_of n xs) ++ pairs_of n ys
      go true p = ap (λ l. (x.step, x.reply) ∷ l) p
      go false p = p

  none_own : (n : ℕ) (es : List (Entry S R)) (k : ℕ) → places_from n es k ≡ [] → pairs_of n es ≡ []
  none_own n [] k e = refl
  none_own n (x ∷ xs) k e = go (eqb x.name n) e (λ p. none_own n xs (suc k) p)
    where
      go : (b : Bool) → cond b (k ∷ places_from n xs (suc k)) (places_from n xs (suc k)) ≡ []
          → (places_from n xs (suc k) ≡ [] → pairs_of n xs ≡ []) → cond b ((x.step, x.reply) ∷ pairs_of n xs)
          (pairs_of n xs) ≡ []
      go true p h = absurd (cc)
      go false p h = h p

  one_own : (n : ℕ) (e : Entry S R) → e.name ≡ n → pairs_of n (e ∷ []) ≡ (e.step, e.reply) ∷ []
  one_own n e is = subst (λ (b : Bool). cond {A = List (S × R)} b ((e.step, e.reply) ∷ []) [] ≡ (
    e.step,
    e.reply,
  ) ∷ []) (sym (eq-eqb e.name n is)) refl

  -- where a longer list has no more entries of a name, it has the same steps of it
  pub same_pairs : (n : ℕ) (xs ys : List (Entry S R)) → IsPrefix xs ys → places n ys ≡ places n xs
      → pairs_of n ys ≡ pairs_of n xs
  same_pairs n xs ys p e =
      let q : List ℕ = places_from n p.0 (0 + length xs) in
      let a : places n ys ≡ places n xs ++ q = ap (places n) (sym p.1) ∙ places_append n xs p.0 0 in
      let la : length (places n ys) ≡ length (places n xs) + length q = ap length a ∙ length-append (places n xs) q in
      let le : length (places n ys) ≡ length (places n xs) = ap length e in
      let none : pairs_of n p.0 ≡ [] = none_own n p.0 (0 + length xs) (no_length q (omega arith)) in
      ap (pairs_of n) (sym p.1) ∙ pairs_append n xs p.0 ∙ ap (λ l. pairs_of n xs ++ l) none ∙ append-nil (pairs_of n xs)

  -- an entry at the end adds its step to those of its name
  pub pairs_more : (n : ℕ) (es : List (Entry S R)) (e : Entry S R) → e.name ≡ n
      → pairs_of n (es ++ e ∷ []) ≡ pairs_of n es ++ (e.step, e.reply) ∷ []
  pairs_more n es e is = pairs_append n es (e ∷ []) ∙ ap (λ l. pairs_of n es ++ l) (one_own n e is)

-- Each entry stands once in one caller's `mine`. The six parts of the rule, from what the table keeps.
use Rattle.std.proofs.Common.{◌≡◌, ℕ, zero, suc, ◌+◌, ◌<◌, ◌≤◌, eqb, ◌≢◌, ◌⊎◌, inl, inr, List, [], ◌∷◌, sym, refl, ap}
use Rattle.std.proofs.Common.{◌∙◌, subst, arith, eq-eqb, eqb-true}
use Rattle.std.specs.Prelude.{true, false, Bool, cond}
use mathlib.Core.Option.{none, some, some-injective, some-ne-none}
use mathlib.Core.Logic.{dite}
use native.Mathlib.Decide.{ℕ_discrete}
use lib.ListN.{get_elem?}
use Rattle.atomic_table.specs.Table.{State}
use Rattle.turn_gate.specs.declared.view.Entry.{Entry}
use Rattle.turn_gate.specs.declared.view.Joined.{Joined}
use Rattle.turn_gate.specs.declared.view.View.{View}
use Rattle.turn_gate.specs.declared.view.Has.{Has}
use Rattle.turn_gate.specs.declared.view.Has.TheVariants.{Nothing, Value, Mark}
use Rattle.turn_gate.specs.declared.view.Held.{Held}
use Rattle.turn_gate.specs.History.{places, places_from}
use Rattle.turn_gate.specs.Passes.{caller, callers, IsWhole}
use Rattle.turn_gate.specs.Laws.{IsOneThreads, EachStandsOnce, RuleStands}
use Rattle.turn_gate.specs.Rule.{Spot, as_view, as_joined, StandsAt, IsCounted, IsInCustody, IsAtHome, HoldersKnow}
use Rattle.turn_gate.specs.Rule.{AreNamed}
use Rattle.turn_gate.specs.Table.{Lock, free, by, lock_word, own, joined_as, Stands, HasFits, resting, homes_of, Kept}
use Rattle.turn_gate.proofs.Moves.{not_lost, own_same, own_joined}

module _ {S R : Type 0} where
  low_from : (n : ℕ) (es : List (Entry S R)) (k i p : ℕ) → get_elem? (places_from n es k) i ≡ some p → k ≤ p
  low_from n [] k i p a = absurd (some-ne-none p (sym a))
  low_from n (x ∷ xs) k i p a = go (eqb x.name n) i a (λ i a. low_from n xs (suc k) i p a)
    where
      go : (b : Bool) (i : ℕ) → get_elem? (cond b (k ∷ places_from n xs (suc k)) (places_from n xs (suc k))) i
          ≡ some p → ((i : ℕ) → get_elem? (places_from n xs (suc k)) i ≡ some p → suc k ≤ p) → k ≤ p
      go true zero a h = let e : k ≡ p = some-injective k p a in omega arith
      go true (suc i) a h = let l : suc k ≤ p = h i a in omega arith
      go false i a h = let l : suc k ≤ p = h i a in omega arith

  -- a place of a name is the place of an entry with this name
  sound_from : (n : ℕ) (es : List (Entry S R)) (k i p : ℕ) → get_elem? (places_from n es k) i ≡ some p → (j : ℕ)
      × (e : Entry S R) × (p ≡ k + j) × (get_elem? es j ≡ some e) × (e.name ≡ n)
  sound_from n [] k i p a = absurd (some-ne-none p (sym a))
  sound_from n (x ∷ xs) k i p a = go (eqb x.name n) refl i a (λ i a. sound_from n xs (suc k) i p a)
    where
      go : (b : Bool) → eqb x.name n ≡ b → (i : ℕ) → get_elem? (cond b (k ∷ places_from n xs (suc k))
          (places_from n xs (suc k))) i ≡ some p
          → ((i : ℕ) → get_elem? (places_from n xs (suc k)) i ≡ some p → (j : ℕ) × (e : Entry S R) × (p ≡ suc k + j)
          × (get_elem? xs j ≡ some e) × (e.name ≡ n))
          → (j : ℕ) × (e : Entry S R) × (p ≡ k + j) × (get_elem? (x ∷ xs) j ≡ some e) × (e.name ≡ n)
      go true is zero a h = let e : k ≡ p = some-injective k p a in (0, x, omega arith, refl, eqb-true x.name n is)
      go true is (suc i) a h = let r = h i a in let e : p ≡ suc k + r.0 = r.2 in (suc r.0, r.1, omega arith, r.3, r.4)
      go false is i a h = let r = h i a in let e : p ≡ suc k + r.0 = r.2 in (suc r.0, r.1, omega arith, r.3, r.4)

  -- the place of an entry is one of its name's
  complete_from : (n : ℕ) (es : List (Entry S R)) (k j : ℕ) (e : Entry S R) → get_elem? es j ≡ some e → e.name ≡ n
      → (i : ℕ) × (get_elem? (places_from n es k) i ≡ some (k + j))
  complete_from n [] k j e a is = absurd (some-ne-none e (sym a))
  complete_from n (x ∷ xs) k zero e a is = let m : eqb x.name n ≡ true =
      eq-eqb x.name n (ap (λ (z : Entry S R). z.name) (some-injective x e a) ∙ is) in
      subst (λ (b : Bool). (i : ℕ) × (get_elem? (cond b (k ∷ places_from n xs (suc k)) (places_from n xs (suc k))) i
      ≡ some (k + 0))) (sym m) (0, ap some (omega arith))
  complete_from n (x ∷ xs) k (suc j) e a is = go (eqb x.name n) (complete_from n xs (suc k) j e a is)
    where
      go : (b : Bool) → (i : ℕ) × (get_elem? (places_from n xs (suc k)) i ≡ some (suc k + j)) → (i : ℕ)
          × (get_elem? (cond b (k ∷ places_from n xs (suc k)) (places_from n xs (suc k))) i ≡ some (k + suc j))
      go true h = (suc h.0, h.1 ∙ ap some (omega arith))
      go false h = (h.0, h.1 ∙ ap some (omega arith))

  once_from : (n : ℕ) (es : List (Entry S R)) (k i j p : ℕ) → get_elem? (places_from n es k) i ≡ some p
      → get_elem? (places_from n es k) j ≡ some p → i ≡ j
  once_from n [] k i j p a b = absurd (some-ne-none p (sym a))
  once_from n (x ∷ xs) k i j p a b = go (eqb x.name n) i j a b (λ i a. low_from n xs (suc k) i p a)
      (λ i j a b. once_from n xs (suc k) i j p a b)
    where
      go : (c : Bool) (i j : ℕ) → get_elem? (cond c (k ∷ places_from n xs (suc k)) (places_from n xs (suc k))) i
          ≡ some p → get_elem? (cond c (k ∷ places_from n xs (suc k)) (places_from n xs (suc k))) j ≡ some p
          → ((i : ℕ) → get_elem? (places_from n xs (suc k)) i ≡ some p → suc k ≤ p)
          → ((i j : ℕ) → get_elem? (places_from n xs (suc k)) i ≡ some p
          → get_elem? (places_from n xs (suc k)) j ≡ some p → i ≡ j) → i ≡ j
      go true zero zero a b low h = refl
      go true zero (suc j) a b low h = let e : k ≡ p = some-injective k p a in let l : suc k ≤ p = low j b in
          absurd (omega arith)
      go true (suc i) zero a b low h = let e : k ≡ p = some-injective k p b in let l : suc k ≤ p = low i a in
          absurd (omega arith)
      go true (suc i) (suc j) a b low h = ap suc (h i j a b)
      go false i j a b low h = h i j a b

  pub place_of : (n : ℕ) (es : List (Entry S R)) (mine : List ℕ) (i p : ℕ) → mine ≡ places n es
      → get_elem? mine i ≡ some p → (e : Entry S R) × (get_elem? es p ≡ some e) × (e.name ≡ n)
  place_of n es mine i p is a = let r = sound_from n es 0 i p (ap (λ (l : List ℕ). get_elem? l i) (sym is) ∙ a) in
      let e : p ≡ 0 + r.0 = r.2 in let same : p ≡ r.0 = omega arith in
      (r.1, ap (get_elem? es) same ∙ r.3, r.4)

  pub stands_in : (n : ℕ) (es : List (Entry S R)) (mine : List ℕ) (p : ℕ) (e : Entry S R) → mine ≡ places n es
      → get_elem? es p ≡ some e → e.name ≡ n → (i : ℕ) × (get_elem? mine i ≡ some p)
  stands_in n es mine p e is a named = let r = complete_from n es 0 p e a named in
      (r.0, ap (λ (l : List ℕ). get_elem? l r.0) is ∙ r.1 ∙ ap some (omega arith))

  pub one_place : (n : ℕ) (es : List (Entry S R)) (mine : List ℕ) (i j p : ℕ) → mine ≡ places n es
      → get_elem? mine i ≡ some p → get_elem? mine j ≡ some p → i ≡ j
  one_place n es mine i j p is a b = once_from n es 0 i j p (ap (λ (l : List ℕ). get_elem? l i) (sym is)
      ∙ a) (ap (λ (l : List ℕ). get_elem? l j) (sym is) ∙ b)

module _ {T S R : Type 0} (next : T → S → T × R) where
  pub one_threads : IsOneThreads {T = T} {S = S} {R = R} next
  one_threads t [] l = refl
  one_threads t (e ∷ es) l = let h = one_threads (next t e.step).0 es l.1 in λ i. ((h i).0, l.0 i ∷ (h i).1)

  pub stands_once : EachStandsOnce {T = T} {S = S} {R = R} next
  stands_once v w p e a = let o = w.all p e a in let c = o.1 in let m =
      stands_in c.name v.seen c.mine p e (w.mine o.0 c o.2) a (sym o.3) in
      (o.0, c, m.0, o.2, m.1, λ r d k at b. only v w p e a o.0 c m.0 o.2 o.3 m.1 r d k at b)
    where
      only : (v : View T S R) (w : IsWhole v) (p : ℕ) (e : Entry S R) → get_elem? v.seen p ≡ some e
          → (q : ℕ) (c : Joined S R) (m : ℕ) → get_elem? (callers v) q ≡ some c → c.name ≡ e.name
          → get_elem? c.mine m ≡ some p
          → (r : ℕ) (d : Joined S R) (k : ℕ) → get_elem? (callers v) r ≡ some d → get_elem? d.mine k ≡ some p
          → (q ≡ r) × (m ≡ k)
      only v w p e a q c m at named b r d k at' b' = let f = place_of d.name v.seen d.mine k p (w.mine r d at') b' in
          let same : q ≡ r = w.once q r c d at at' (named ∙ ap (λ (z : Entry S R). z.name)
          (some-injective e f.0 (sym a ∙ f.1)) ∙ f.2) in
          let one : c ≡ d = some-injective c d (sym at ∙ ap (get_elem? (callers v)) same ∙ at') in (
            same,
            one_place d.name v.seen d.mine m k p (w.mine r d at')
                (ap (λ (z : Joined S R). get_elem? z.mine m) (sym one) ∙ b) b',
          )

  abbrev V : Type 0
  V = View T S R

  module _ (t : T) (s : State (Held T S) V) (k : Kept next t s) where
    -- what is known of a caller where it stands
    abbrev Owned : Spot → Joined S R → Type 0
    Owned (as_view i) c = k.owner c.name ≡ own i
    Owned (as_joined i q) c = (k.owner c.name ≡ joined_as q) × (k.owner 0 ≡ own i)

    record Known (w : Spot) (c : Joined S R) : Type 0 where
      owned : Owned w c
      mine : c.mine ≡ places c.name k.log
      low : c.name ≤ k.kids

    no_place : (l : List (Joined S R)) (q : ℕ) (c : Joined S R) → l ≡ [] → get_elem? l q ≡ some c → ⊥
    no_place l q c e a = some-ne-none c (sym (ap (λ (z : List (Joined S R)). get_elem? z q) (sym e) ∙ a))

    known : (w : Spot) (c : Joined S R) → StandsAt s.views w c → Known w c
    known (as_view i) c h = let o = (k.each i h.0 h.1).named h.2 in
        subst (Known (as_view i)) h.3 record { owned = o.owned; mine = o.all_mine; low = o.known }
    known (as_joined i q) c h = let u = h.0 in let o = (k.each i u h.1).named h.2 in dite (ℕ_discrete u.name 0)
        (λ z. let j = k.took_in q c (ap (λ (l : List (Joined S R)). get_elem? l q) (sym (o.first z).1) ∙ h.3) in
        record { owned = (j.owned, ap k.owner (sym z) ∙ o.owned); mine = j.all_mine; low = j.known })
        (λ z. absurd (no_place u.joined q c (o.later z).1 h.3))

    joined_same : (i j : ℕ) → joined_as i ≡ joined_as j → i ≡ j
    joined_same i j e = cc

    same_spot : (w x : Spot) (c d : Joined S R) → Owned w c → Owned x d → c.name ≡ d.name → w ≡ x
    same_spot (as_view i) (as_view j) c d a b e = ap as_view (own_same i j (sym a ∙ ap k.owner e ∙ b))
    same_spot (as_view i) (as_joined j q) c d a b e = absurd (own_joined i q (sym a ∙ ap k.owner e ∙ b.0))
    same_spot (as_joined i q) (as_view j) c d a b e = absurd (own_joined j q (sym b ∙ ap k.owner (sym e) ∙ a.0))
    same_spot (as_joined i q) (as_joined j r) c d a b e = λ z. as_joined (own_same i j (sym a.1 ∙ b.1) z)
        (joined_same q r (sym a.0 ∙ ap k.owner e ∙ b.0) z)

    abbrev First : Type 0
    First = (i : ℕ) × (v : V) × (get_elem? s.views i ≡ some v) × (v.named ≡ true) × (v.name ≡ 0)

    first_of : Stands s.views k.owner k.joined 0 → First
    first_of (inl x) = (x.0, x.1, x.3, x.4, x.5)
    first_of (inr x) = let j = k.took_in x.0 x.1 x.3 in let l : 0 < x.1.name = j.later in
        let z : x.1.name ≡ 0 = x.4 in absurd (omega arith)

    the_first : First
    the_first = first_of (k.placed 0 (omega arith))

    spot_of : (n : ℕ) → Stands s.views k.owner k.joined n → (w : Spot) × (c : Joined S R) × StandsAt s.views w c
        × (c.name ≡ n)
    spot_of n (inl x) = (as_view x.0, caller x.1, (x.1, x.3, x.4, refl), x.5)
    spot_of n (inr x) = let f = the_first in let o = (k.each f.0 f.1 f.2).named f.3 in (
      as_joined f.0 x.0,
      x.1,
      (
        f.1,
        f.2,
        f.3,
        ap (λ (l : List (Joined S R)). get_elem? l x.0) (o.first f.4).1
            ∙ x.3,
      ),
      x.4,
    )

    named_so : AreNamed s.views
    named_so = let f = the_first in let o = (k.each f.0 f.1 f.2).named f.3 in let firsts = o.first f.4 in
        let kk : f.1.kids ≡ k.kids = firsts.0 in record {
          place = f.0;
          first = f.1;
          is = (f.2, f.3, f.4);
          alone = λ i v at n ne. let m = (k.each i v at).named n in dite (ℕ_discrete v.name 0)
              (λ z. absurd (ne (own_same i f.0 (sym m.owned ∙ ap k.owner (z ∙ sym f.4) ∙ o.owned)))) (λ z. m.later z);
          each = λ n le. spot_of n (k.placed n (omega arith));
          once = λ w x c d a b e. same_spot w x c d (known w c a).owned (known x d b).owned e;
          no_other = λ w c a. let l : c.name ≤ k.kids = (known w c a).low in omega arith;
        }

    entry_spot : (p : ℕ) (e : Entry S R) → get_elem? k.log p ≡ some e → (w : Spot) × (c : Joined S R) × (m : ℕ)
        × StandsAt s.views w c × (get_elem? c.mine m ≡ some p)
        × ((x : Spot) (d : Joined S R) (r : ℕ) → StandsAt s.views x d → get_elem? d.mine r ≡ some p → w ≡ x)
    entry_spot p e a = let h = spot_of e.name (k.placed e.name (k.names p e a)) in let c = h.1 in
        let m = stands_in c.name k.log c.mine p e (known h.0 c h.2).mine a (sym h.3) in (
          h.0,
          c,
          m.0,
          h.2,
          m.1,
          λ x d r b at. let g = known x d b in
              let f = place_of d.name k.log d.mine r p g.mine at in
              same_spot h.0 x c d (known h.0 c h.2).owned g.owned (h.3 ∙ ap (λ (z : Entry S R). z.name)
              (some-injective e f.0 (sym a ∙ f.1)) ∙ f.2),
        )

    counted : IsCounted next t k.log s
    counted = record {
      word = ap (λ ws. get_elem? ws 0) k.words;
      longest = k.longest;
      begins = λ i v at. (k.each i v at).begins;
      legal = k.legal;
      bears = λ w c m p a b. place_of c.name k.log c.mine m p (known w c a).mine b;
      one = entry_spot;
    }

    lock_at : get_elem? s.words 8 ≡ some (lock_word k.lock)
    lock_at = ap (λ ws. get_elem? ws 8) k.words

    idle_of : (h : Has) (l : Lock) (log base : List (Entry S R)) (gone : Bool) (i : ℕ) → HasFits log l gone i base h
        → h ≢ Nothing → l ≡ by i
    idle_of Nothing l log base gone i f ne = absurd (ne refl)
    idle_of Value l log base gone i f ne = f.0
    idle_of Mark l log base gone i f ne = f.0

    has_of : (h : Has) (log base : List (Entry S R)) (l : Lock) (gone : Bool) (i : ℕ) → HasFits log l gone i base h
        → h ≡ Value → (base ≡ log) × (gone ≡ false)
    has_of h log base l gone i f e = let g = subst (HasFits log l gone i base) e f in (g.1, g.2)

    by_same : (i j : ℕ) → by i ≡ by j → i ≡ j
    by_same i j e = cc

    one_is : (l : Lock) → lock_word l ≡ 1 → (j : ℕ) × (l ≡ by j)
    one_is free e = absurd (omega arith)
    one_is (by j) e = (j, refl)

    none_is : (l : Lock) → lock_word l ≡ 0 → l ≡ free
    none_is free e = refl
    none_is (by j) e = absurd (omega arith)

    word_of : (l : Lock) → get_elem? s.words 8 ≡ some (lock_word l) → (get_elem? s.words 8 ≡ some 0)
        ⊎ (get_elem? s.words 8 ≡ some 1)
    word_of free e = inl e
    word_of (by j) e = inr e

    in_custody : IsInCustody s
    in_custody = record {
      lock = word_of k.lock lock_at;
      taken = λ e. let b = one_is k.lock (some-injective (lock_word k.lock) 1 (sym lock_at ∙ e)) in
          let h = k.holder b.0 b.1 in (b.0, h.0, h.1, h.2);
      by_one = λ i v at ne. let b = idle_of v.has k.lock k.log v.base k.gone i (k.each i v at).hand ne in (
        lock_at ∙ ap (λ (l : Lock). some (lock_word l)) b,
        λ j u a has. by_same j i (sym (idle_of u.has k.lock k.log u.base k.gone j (k.each j u a).hand has) ∙ b),
      );
      home = λ e. (
        resting next t k.log k.gone,
        k.homes ∙ ap (homes_of next t k.log k.gone)
            (none_is k.lock (some-injective (lock_word k.lock) 0 (sym lock_at ∙ e))),
      );
      away = λ e. k.homes ∙ ap (homes_of next t k.log k.gone) (one_is k.lock
          (some-injective (lock_word k.lock) 1 (sym lock_at ∙ e))).1;
    }

    head_of : (x y : Held T S) → some x ∷ [] ≡ some y ∷ [] → x ≡ y
    head_of x y e = some-injective x y (let z = ap (λ l. get_elem? l 0) e in some-injective (some x) (some y) z)

    at_rest : (l : Lock) (x : Held T S) → homes_of next t k.log k.gone l ≡ some x ∷ [] → x ≡ resting next t k.log k.gone
    at_rest free x e = sym (head_of (resting next t k.log k.gone) x e)
    at_rest (by j) x e = absurd (let z = ap (λ l. get_elem? l 0) e in
        let y : none ≡ some x = some-injective none (some x) z in some-ne-none x (sym y))

    nobody_lost : (g : Bool) → k.gone ≡ g → ((i : ℕ) (v : V) → get_elem? s.views i ≡ some v → v.lost ≡ false)
        → g ≡ false
    nobody_lost true e all = let w = k.why e in let a : w.1.lost ≡ false = all w.0 w.1 w.2 in
        let b : w.1.lost ≡ true = w.3 in absurd (let c : true ≡ false = sym b ∙ a in cc)
    nobody_lost false e all = refl

    at_home : IsAtHome next t k.log s
    at_home = record {
      mark = λ x e i v at lost. at_rest k.lock x (sym k.homes ∙ e)
          ∙ ap (resting next t k.log) ((k.each i v at).told lost);
      value = λ x e all. at_rest k.lock x (sym k.homes ∙ e) ∙ ap (resting next t k.log) (nobody_lost k.gone refl all);
    }

    holders_know : HoldersKnow next t k.log s.views
    holders_know i v at has = let h = has_of v.has k.log v.base k.lock k.gone i (k.each i v at).hand has in
        (h.0, λ j u a. not_lost u.lost k.gone (k.each j u a).told h.1)

  pub rule_holds : RuleStands {T = T} {S = S} {R = R} next
  rule_holds t s k = record {
    log = k.log;
    counting = counted t s k;
    custody = in_custody t s k;
    home = at_home t s k;
    holder = holders_know t s k;
    floors = λ i v at. (k.each i v at).low;
    names = named_so t s k;
  }

-- A pass that is split from the first, and joined into it again, keeps the rule. What the rule tells once all were
-- joined.
use Rattle.std.proofs.Common.{◌≡◌, ℕ, zero, suc, ◌+◌, ◌<◌, ◌≤◌, eqb, ◌≢◌, ◌⊎◌, inl, inr, List, [], ◌∷◌, ◌++◌, length}
use Rattle.std.proofs.Common.{set, sym, refl, ap, ◌∙◌, subst, arith, eq-eqb, ne_eqb, length-set}
use Rattle.std.specs.Prelude.{true, false, Bool, ◌||◌, cond, drop}
use mathlib.Core.List.{IsPrefix}
use mathlib.Core.Option.{some, some-injective, some-ne-none}
use mathlib.Core.Logic.{dite}
use native.Mathlib.Decide.{ℕ_discrete}
use lib.ListN.{get_elem?}
use Rattle.atomic_table.specs.Table.{State, Splits, Joins, Enters}
use Rattle.atomic_table.proofs.Lists.{set_else, at_longer, at_last}
use Rattle.turn_gate.specs.declared.view.Entry.{Entry}
use Rattle.turn_gate.specs.declared.view.Joined.{Joined}
use Rattle.turn_gate.specs.declared.view.View.{View}
use Rattle.turn_gate.specs.declared.view.Has.TheVariants.{Nothing}
use Rattle.turn_gate.specs.declared.view.Held.{Held}
use Rattle.turn_gate.specs.History.{places, pairs_of}
use Rattle.turn_gate.specs.Table.{longer, Lock, free, by, Owner, own, joined_as, Among, Stands, HasFits, TookIn}
use Rattle.turn_gate.specs.Table.{Fits, Kept, parent, child, together, nobody}
use Rattle.turn_gate.specs.Passes.{caller, callers, HasAll, IsWhole}
use Rattle.turn_gate.proofs.Histories.{prefix_refl, one_begins, longer_begins, prefix_whole, places_none, of_prefix}
use Rattle.turn_gate.proofs.Histories.{squeezed, same_pairs}
use Rattle.turn_gate.proofs.Moves.{not_both, own_same, own_joined, here_after, each_after, stands_after, same_why}
use Rattle.turn_gate.proofs.Moves.{same_longest, same_holder}

abbrev owner_with : (ℕ → Owner) → ℕ → Owner → ℕ → Owner
owner_with owner n who m = cond (eqb m n) who (owner m)

with_this : (owner : ℕ → Owner) (n : ℕ) (who : Owner) → owner_with owner n who n ≡ who
with_this owner n who = subst (λ (b : Bool). cond b who (owner n) ≡ who) (sym (eq-eqb n n refl)) refl

with_other : (owner : ℕ → Owner) (n : ℕ) (who : Owner) (m : ℕ) → m ≢ n → owner_with owner n who m ≡ owner m
with_other owner n who m ne = subst (λ (b : Bool). cond b who (owner m) ≡ owner m) (sym (ne_eqb m n ne)) refl

last_index : {A : Type 0} (l : List A) (a b : A) (j : ℕ) → get_elem? (l ++ a ∷ []) j ≡ some b
    → (get_elem? l j ≡ some b) ⊎ ((j ≡ length l) × (a ≡ b))
last_index [] a b zero e = inr (refl, some-injective a b e)
last_index [] a b (suc j) e = absurd (some-ne-none b (sym e))
last_index (x ∷ xs) a b zero e = inl e
last_index (x ∷ xs) a b (suc j) e = go (last_index xs a b j e)
  where
    go : (get_elem? xs j ≡ some b) ⊎ ((j ≡ length xs) × (a ≡ b)) → (get_elem? xs j ≡ some b)
        ⊎ ((suc j ≡ suc (length xs)) × (a ≡ b))
    go (inl h) = inl h
    go (inr h) = inr (ap suc h.0, h.1)

or_true : (a b : Bool) → (a || b) ≡ true → (a ≡ true) ⊎ (b ≡ true)
or_true true b e = inl refl
or_true false b e = inr e

or_right : (a b : Bool) → b ≡ true → (a || b) ≡ true
or_right true b e = refl
or_right false b e = e

or_left : (a b : Bool) → a ≡ true → (a || b) ≡ true
or_left true b e = refl
or_left false b e = absurd (cc)

same_bool : (a b : Bool) → (a ≡ true → b ≡ true) → (b ≡ true → a ≡ true) → a ≡ b
same_bool true b f g = sym (f refl)
same_bool false true f g = g refl
same_bool false false f g = refl

bool_cases : {A : Type 0} (b : Bool) → (b ≡ true → A) → (b ≡ false → A) → A
bool_cases true f g = f refl
bool_cases false f g = g refl

module _ {T S R : Type 0} (next : T → S → T × R) (t : T) where
  abbrev V : Type 0
  V = View T S R

  abbrev St : Type 0
  St = State (Held T S) V

  among_longer : (views : List V) (w : V) (P : V → Type 0) → Among views P → Among (views ++ w ∷ []) P
  among_longer views w P a = (a.0, a.1, at_longer views (w ∷ []) a.0 a.1 a.2, a.3)

  -- only one view has the name 0
  one_first : (s : St) (k : Kept next t s) (i j : ℕ) (v u : V) → get_elem? s.views i ≡ some v
      → get_elem? s.views j ≡ some u → v.named ≡ true → u.named ≡ true → v.name ≡ u.name → j ≡ i
  one_first s k i j v u at at' n m e = let o = (k.each i v at).named n in let q = (k.each j u at').named m in
      own_same j i (sym q.owned ∙ ap k.owner (sym e) ∙ o.owned)

  stands_longer : (views : List V) (c : V) (owner owner' : ℕ → Owner) (joined : List (Joined S R)) (n : ℕ)
      → owner' n ≡ owner n → Stands views owner joined n → Stands (views ++ c ∷ []) owner' joined n
  stands_longer views c owner owner' joined n e (inl x) = inl (
    x.0,
    x.1,
    e ∙ x.2,
    at_longer views (c ∷ []) x.0 x.1 x.3,
    x.4,
    x.5,
  )
  stands_longer views c owner owner' joined n e (inr x) = inr (x.0, x.1, e ∙ x.2, x.3, x.4)

  stands_joined : (s : St) (id other : ℕ) (v w both : V) (views : List V) (owner owner' : ℕ
      → Owner) (old : List (Joined S R)) (ent : Joined S R) (n : ℕ) → owner' n ≡ owner n → n ≢ w.name
      → get_elem? s.views id ≡ some v → get_elem? s.views other ≡ some w → get_elem? views id ≡ some both
      → both.named ≡ true → both.name ≡ v.name
      → ((j : ℕ) → j ≢ id → j ≢ other → get_elem? views j ≡ get_elem? s.views j) → Stands s.views owner old n
      → Stands views owner' (old ++ ent ∷ []) n
  stands_joined s id other v w both views owner owner' old ent n e d at at_w here bn bm else_ (inr x) =
      inr (x.0, x.1, e ∙ x.2, at_longer old (ent ∷ []) x.0 x.1 x.3, x.4)
  stands_joined s id other v w both views owner owner' old ent n e d at at_w here bn bm else_ (inl x) =
      dite (ℕ_discrete x.0 id)
      (λ h. let same : x.1 ≡ v = some-injective x.1 v (sym x.3 ∙ ap (get_elem? s.views) h ∙ at) in
      inl (id, both, e ∙ x.2 ∙ ap own h, here, bn, bm ∙ ap (λ (z : V). z.name) (sym same) ∙ x.5))
      (λ n1. inl (
        x.0,
        x.1,
        e ∙ x.2,
        else_ x.0 n1 (λ h. let same : x.1 ≡ w =
            some-injective x.1 w (sym x.3 ∙ ap (get_elem? s.views) h ∙ at_w) in
            d (sym x.5 ∙ ap (λ (z : V). z.name) same)) ∙ x.3,
        x.4,
        x.5,
      ))

  pub splits : (id : ℕ) (v : V) → v.named ≡ true → v.name ≡ 0 → Splits (Kept next t) id v (parent v) (child v)
  splits id v named zeroth s k at = let f = k.each id v at in let o = f.named named in let c : ℕ = v.kids + 1 in
      let firsts = o.first zeroth in let ks : v.kids ≡ k.kids = firsts.0 in
      let vs : List V = set s.views id (parent v) in let ll : ℕ = length s.views in
      let lv : length vs ≡ ll = length-set s.views id (parent v) in
      let owner : ℕ → Owner = owner_with k.owner c (own ll) in
      let low : (n : ℕ) → n ≤ k.kids → owner n ≡ k.owner n = (λ n le. with_other k.owner c (own ll) n
      (λ (e : n ≡ c). omega arith)) in
      let mine : Fits t k.log k.lock k.gone owner c k.joined id (parent v) = record {
        begins = f.begins;
        based = f.based;
        low = f.low;
        told = f.told;
        hand = f.hand;
        named = λ _. record {
          opened = o.opened;
          owned = low v.name o.known ∙ o.owned;
          all_mine = o.all_mine;
          own_seen = o.own_seen;
          known = (let h : v.name ≤ k.kids = o.known in omega arith);
          first = λ _. (refl, firsts.1);
          later = λ ne. absurd (ne zeroth);
        };
        spent = λ m. not_both v.named named m;
      } in
      let others : (j : ℕ) (u : V) → j ≢ id → ((get_elem? s.views j ≡ some u)
      × Fits t k.log k.lock k.gone k.owner k.kids k.joined j u)
      → Fits t k.log k.lock k.gone owner c k.joined j u = (λ j u ne g. let g1 = g.1 in record {
        begins = g1.begins;
        based = g1.based;
        low = g1.low;
        told = g1.told;
        hand = g1.hand;
        named = λ m. let q = g1.named m in record {
          opened = q.opened;
          owned = low u.name q.known ∙ q.owned;
          all_mine = q.all_mine;
          own_seen = q.own_seen;
          known = (let h : u.name ≤ k.kids = q.known in omega arith);
          first = λ z. absurd (ne (one_first s k id j v u at g.0 named m (zeroth ∙ sym z)));
          later = q.later;
        };
        spent = g1.spent;
      }) in
      let born : Fits t k.log k.lock k.gone owner c k.joined ll (child v) = record {
        begins = f.begins;
        based = (k.log, refl);
        low = f.low;
        told = f.told;
        hand = tt;
        named = λ _. record {
          opened = o.opened;
          owned = with_this k.owner c (own ll);
          all_mine = sym (places_none c k.log (λ p e a (same : e.name ≡ c). let h : e.name ≤ k.kids = k.names p e a in
              omega arith));
          own_seen = sym (places_none c v.seen (λ p e a (same : e.name ≡ c). let h : e.name ≤ k.kids =
              k.names p e (of_prefix v.seen k.log f.begins p e a) in omega arith));
          known = (let h : c ≤ c = omega arith in h);
          first = λ (z : c ≡ 0). absurd (omega arith);
          later = λ _. (refl, refl);
        };
        spent = λ m. absurd (cc);
      } in
      record {
        log = k.log;
        lock = k.lock;
        gone = k.gone;
        owner = owner;
        kids = c;
        joined = k.joined;
        others = k.others;
        words = k.words;
        homes = k.homes;
        short = k.short;
        legal = k.legal;
        each = λ j u a. all_views s k id (parent v) (child v)
            (Fits t k.log k.lock k.gone owner c k.joined) mine others
            (subst (λ (n : ℕ). Fits t k.log k.lock k.gone owner c k.joined n (child v)) (sym lv) born) j u
            (last_index vs (child v) u j a);
        names = λ p e a. let h : e.name ≤ k.kids = k.names p e a in omega arith;
        took_in = λ q j a. let h = k.took_in q j a in record {
          owned = low j.name h.known ∙ h.owned;
          all_mine = h.all_mine;
          all_pairs = h.all_pairs;
          later = h.later;
          known = (let g : j.name ≤ k.kids = h.known in omega arith);
        };
        placed = λ n le. dite (ℕ_discrete n c) (λ e. inl (
          ll,
          child v,
          ap owner e ∙ with_this k.owner c (own ll),
          at_last vs (child v) ll lv,
          refl,
          sym e,
        ))
            (λ d. stands_longer vs (child v) k.owner owner k.joined n (with_other k.owner c (own ll) n d)
            (stands_after next t s.views k.owner k.joined id v (parent v) n at (λ z. z) refl
            (k.placed n (omega arith))));
        longest = among_longer vs (child v) (λ u. u.seen ≡ k.log) (same_longest next t s k id v (parent v) at refl);
        why = λ g. among_longer vs (child v) (λ u. u.lost ≡ true) (same_why next t s k id v (parent v) at refl g);
        holder = λ j who. let h = same_holder next t s.views id v (parent v) k.lock at refl k.holder j who in
            (h.0, at_longer vs (child v ∷ []) j h.0 h.1, h.2);
      }
    where
      all_views : (s : St) (k : Kept next t s) (id : ℕ) (w c : V) (P : ℕ → V → Type 0) → P id w
          → ((j : ℕ) (u : V) → j ≢ id → ((get_elem? s.views j ≡ some u)
          × Fits t k.log k.lock k.gone k.owner k.kids k.joined j u) → P j u) → P (length (set s.views id w)) c
          → (j : ℕ) (u : V) → (get_elem? (set s.views id w) j ≡ some u) ⊎ ((j ≡ length (set s.views id w)) × (c ≡ u))
          → P j u
      all_views s k id w c P mine others born j u (inl a) = each_after s.views id w P
          (λ i z. (get_elem? s.views i ≡ some z) × Fits t k.log k.lock k.gone k.owner k.kids k.joined i z) mine others
          (λ i z b. (b, k.each i z b)) j u a
      all_views s k id w c P mine others born j u (inr e) = subst (λ (z : ℕ × V). P z.0 z.1)
          (λ i. (sym e.0 i, e.1 i)) born

  -- what is true of a view that knows nothing
  nothing_known : (s : St) (k : Kept next t s) (owner : ℕ → Owner) (joined : List (Joined S R)) (j : ℕ)
      → Fits {T = T} {S = S} {R = R} t k.log k.lock k.gone owner k.kids joined j nobody
  nothing_known s k owner joined j = record {
    begins = (k.log, refl);
    based = (k.log, refl);
    low = omega arith;
    told = λ e. absurd (cc);
    hand = tt;
    named = λ e. absurd (cc);
    spent = λ _. (refl, refl, refl);
  }

  -- a seat is added that knows nothing
  pub enters : (slots i : ℕ) → Enters (Kept {T = T} {S = S} {R = R} next t) slots i (λ _ _. Unit {0})
  enters slots i s k wide small = (
    nobody,
    record {
      log = k.log;
      lock = k.lock;
      gone = k.gone;
      owner = k.owner;
      kids = k.kids;
      joined = k.joined;
      others = k.others;
      words = k.words;
      homes = k.homes;
      short = k.short;
      legal = k.legal;
      each = λ j u a. one_each s k j u (last_index s.views nobody u j a);
      names = k.names;
      took_in = k.took_in;
      placed = λ n le. stands_longer s.views nobody k.owner k.owner k.joined n refl (k.placed n le);
      longest = among_longer s.views nobody (λ u. u.seen ≡ k.log) k.longest;
      why = λ g. among_longer s.views nobody (λ u. u.lost ≡ true) (k.why g);
      holder = λ j who. let h = k.holder j who in (h.0, at_longer s.views (nobody ∷ []) j h.0 h.1, h.2);
    },
    tt,
  )
    where
      one_each : (s : St) (k : Kept next t s) (j : ℕ) (u : V) → (get_elem? s.views j ≡ some u)
          ⊎ ((j ≡ length s.views) × (nobody ≡ u)) → Fits t k.log k.lock k.gone k.owner k.kids k.joined j u
      one_each s k j u (inl a) = k.each j u a
      one_each s k j u (inr e) = subst (Fits t k.log k.lock k.gone k.owner k.kids k.joined j) e.1
          (nothing_known s k k.owner k.joined j)

  pub joins : (id : ℕ) (v : V) (other : ℕ) (w : V) → v.named ≡ true → v.name ≡ 0 → v.has ≡ Nothing → w.named ≡ true
      → w.name ≢ 0 → w.has ≡ Nothing → Joins (Kept next t) id v other w (together v w) nobody
  joins id v other w vn v0 vh wn w0 wh s k at ne at' =
      let both : V = together v w in let f = k.each id v at in let o = f.named vn in
      let at_w : get_elem? s.views other ≡ some w = sym (set_else s.views id other both ne) ∙ at' in
      let g = k.each other w at_w in let q = g.named wn in
      let firsts = o.first v0 in let ent : Joined S R = caller w in
      let owner : ℕ → Owner = owner_with k.owner w.name (joined_as (length v.joined)) in
      let joined : List (Joined S R) = v.joined ++ ent ∷ [] in
      let elsewhere : (n : ℕ) → n ≢ w.name → owner n ≡ k.owner n =
      (λ n d. with_other k.owner w.name (joined_as (length v.joined)) n d) in
      let views : List V = set (set s.views id both) other nobody in
      let both_at : get_elem? views id ≡ some both = set_else (set s.views id both) other id nobody (λ e. ne (sym e))
      ∙ here_after s.views id v both at in
      let long : IsPrefix both.seen k.log = longer_begins v.seen w.seen k.log f.begins g.begins in
      let mine : Fits t k.log k.lock k.gone owner k.kids joined id both = record {
        begins = long;
        based = g.begins;
        low = (let a : v.floor ≤ length k.log = f.low in let b : w.floor ≤ length k.log = g.low in omega arith);
        told = λ e. either_lost v.lost w.lost k.gone f.told g.told e;
        hand = subst (HasFits k.log k.lock k.gone id w.seen) (sym vh) tt;
        named = λ _. record {
          opened = o.opened;
          owned = elsewhere v.name (λ e. w0 (sym e ∙ v0)) ∙ o.owned;
          all_mine = o.all_mine;
          own_seen = o.own_seen ∙ sym (squeezed v.name v.seen both.seen k.log
              (drop (length v.seen) w.seen, refl) long (sym o.own_seen ∙ o.all_mine));
          known = o.known;
          first = λ _. (firsts.0, refl);
          later = λ d. absurd (d v0);
        };
        spent = λ m. not_both v.named vn m;
      } in
      let others : (j : ℕ) (u : V) → j ≢ id → ((get_elem? s.views j ≡ some u)
      × Fits t k.log k.lock k.gone k.owner k.kids k.joined j u) → j ≢ other
      → Fits t k.log k.lock k.gone owner k.kids joined j u = (λ j u n1 h n2. let h1 = h.1 in record {
        begins = h1.begins;
        based = h1.based;
        low = h1.low;
        told = h1.told;
        hand = h1.hand;
        named = λ m. let x = h1.named m in record {
          opened = x.opened;
          owned = elsewhere u.name (λ e. n2 (own_same j other (sym x.owned ∙ ap k.owner e ∙ q.owned))) ∙ x.owned;
          all_mine = x.all_mine;
          own_seen = x.own_seen;
          known = x.known;
          first = λ z. absurd (n1 (one_first s k id j v u at h.0 vn m (v0 ∙ sym z)));
          later = x.later;
        };
        spent = h1.spent;
      }) in
      let gone_now : Fits t k.log k.lock k.gone owner k.kids joined other nobody =
      nothing_known s k owner joined other in
      record {
        log = k.log;
        lock = k.lock;
        gone = k.gone;
        owner = owner;
        kids = k.kids;
        joined = joined;
        others = k.others;
        words = k.words;
        homes = k.homes;
        short = k.short;
        legal = k.legal;
        each = each_after (set s.views id both) other nobody (Fits t k.log k.lock k.gone owner k.kids joined)
            (λ j u. j ≢ other → Fits t k.log k.lock k.gone owner k.kids joined j u) gone_now (λ j u d h. h d)
            (each_after s.views id both (λ j u. j ≢ other → Fits t k.log k.lock k.gone owner k.kids joined j u)
            (λ j u. (get_elem? s.views j ≡ some u) × Fits t k.log k.lock k.gone k.owner k.kids k.joined j u)
            (λ _. mine) others (λ j u a. (a, k.each j u a)));
        names = k.names;
        took_in = λ n j a. one_more n j v.joined ent k.log k.kids (last_index v.joined ent j n a) owner
            (λ b. let h = k.took_in n j (ap (λ (l : List (Joined S R)). get_elem? l n) (sym firsts.1) ∙ b) in
            record {
              owned = elsewhere j.name (λ e. own_joined other n (sym q.owned ∙ ap k.owner (sym e)
                  ∙ h.owned)) ∙ h.owned;
              all_mine = h.all_mine;
              all_pairs = h.all_pairs;
              later = h.later;
              known = h.known;
            })
            record {
              owned = with_this k.owner w.name (joined_as (length v.joined));
              all_mine = q.all_mine;
              all_pairs = sym (same_pairs w.name w.seen k.log g.begins (sym q.all_mine ∙ q.own_seen));
              later = pos w.name w0;
              known = q.known;
            };
        placed = λ n le. dite (ℕ_discrete n w.name) (λ e. inr (
          length v.joined,
          ent,
          ap owner e
              ∙ with_this k.owner w.name (joined_as (length v.joined)),
          at_last v.joined ent (length v.joined) refl,
          sym e,
        ))
            (λ d. stands_joined s id other v w both views k.owner owner v.joined ent n
            (elsewhere n d) d at at_w both_at vn refl
            (λ j n1 n2. set_else (set s.views id both) other j nobody n2
            ∙ set_else s.views id j both n1) (subst (λ (l : List (Joined S R)). Stands s.views k.owner l n)
            (sym firsts.1) (k.placed n le)));
        longest = moved_on views id other v w both (λ u. u.seen ≡ k.log) s.views at at_w both_at
            (λ e. prefix_whole both.seen k.log (subst (λ (l : List (Entry S R)). IsPrefix l both.seen) e
            (drop (length v.seen) w.seen, refl)) long)
            (λ e. prefix_whole both.seen k.log (subst (λ (l : List (Entry S R)). IsPrefix l both.seen) e
            (second_begins v.seen w.seen k.log f.begins g.begins)) long)
            (λ j n1 n2. set_else (set s.views id both) other j nobody n2 ∙ set_else s.views id j both n1) k.longest;
        why = λ e. moved_on views id other v w both (λ u. u.lost ≡ true) s.views at at_w both_at
            (or_left v.lost w.lost) (or_right v.lost w.lost)
            (λ j n1 n2. set_else (set s.views id both) other j nobody n2 ∙ set_else s.views id j both n1) (k.why e);
        holder = λ j who. let h = k.holder j who in let n1 : j ≢ id =
            (λ e. h.2 (ap (λ (z : V). z.has) (some-injective h.0 v (sym h.1 ∙ ap (get_elem? s.views) e ∙ at))
            ∙ vh)) in
            let n2 : j ≢ other = (λ e. h.2 (ap (λ (z : V). z.has)
            (some-injective h.0 w (sym h.1 ∙ ap (get_elem? s.views) e ∙ at_w)) ∙ wh)) in
            (h.0, set_else (set s.views id both) other j nobody n2 ∙ set_else s.views id j both n1 ∙ h.1, h.2);
      }
    where
      pos : (n : ℕ) → n ≢ 0 → 0 < n
      pos n ne = omega arith

      either_lost : (a b g : Bool) → (a ≡ true → g ≡ true) → (b ≡ true → g ≡ true) → (a || b) ≡ true → g ≡ true
      either_lost true b g x y e = x refl
      either_lost false b g x y e = y e

      second_begins : (xs ys log : List (Entry S R)) → IsPrefix xs log → IsPrefix ys log → IsPrefix ys (longer xs ys)
      second_begins xs ys log a b = pick (one_begins xs ys log a b)
        where
          pick : ((longer xs ys ≡ ys) × IsPrefix xs ys) ⊎ ((longer xs ys ≡ xs) × IsPrefix ys xs)
              → IsPrefix ys (longer xs ys)
          pick (inl h) = subst (IsPrefix ys) (sym h.0) (prefix_refl ys)
          pick (inr h) = subst (IsPrefix ys) (sym h.0) h.1

      one_more : (n : ℕ) (j : Joined S R) (l : List (Joined S R)) (a : Joined S R) (log : List (Entry S R)) (kids : ℕ)
          → (get_elem? l n ≡ some j) ⊎ ((n ≡ length l) × (a ≡ j)) → (owner : ℕ → Owner)
          → (get_elem? l n ≡ some j → TookIn log owner kids n j) → TookIn log owner kids (length l) a
          → TookIn log owner kids n j
      one_more n j l a log kids (inl h) owner old new = old h
      one_more n j l a log kids (inr h) owner old new = subst (λ (z : ℕ × Joined S R). TookIn log owner kids z.0 z.1)
          (λ i. (sym h.0 i, h.1 i)) new

      moved_on : (views : List V) (id other : ℕ) (v w both : V) (P : V → Type 0) (old : List V)
          → get_elem? old id ≡ some v → get_elem? old other ≡ some w → get_elem? views id ≡ some both → (P v → P both)
          → (P w → P both)
          → ((j : ℕ) → j ≢ id → j ≢ other → get_elem? views j ≡ get_elem? old j) → Among old P → Among views P
      moved_on views id other v w both P old at at_w here f g else_ a = dite (ℕ_discrete a.0 id)
          (λ e. (id, both, here, f (subst P (some-injective a.1 v (sym a.2 ∙ ap (get_elem? old) e ∙ at)) a.3)))
          (λ n1. dite (ℕ_discrete a.0 other) (λ e. (
            id,
            both,
            here,
            g (subst P (some-injective a.1 w (sym a.2 ∙ ap (get_elem? old) e ∙ at_w)) a.3),
          ))
          (λ n2. (a.0, a.1, else_ a.0 n1 n2 ∙ a.2, a.3)))

  -- what the rule tells of a pass that every other was joined into
  pub record Alone (s : St) (k : Kept next t s) (v : V) : Type 0 where
    pub whole : v.seen ≡ k.log
    pub idle : k.lock ≡ free
    pub lost : v.lost ≡ k.gone
    pub made : IsWhole v

  pub alone : (s : St) (k : Kept next t s) (id : ℕ) (v : V) → get_elem? s.views id ≡ some v → v.named ≡ true
      → v.name ≡ 0 → v.has ≡ Nothing
      → HasAll v → Alone s k v
  alone s k id v at vn v0 vh all = let f = k.each id v at in let o = f.named vn in let firsts = o.first v0 in
      let same : (i : ℕ) (u : V) → get_elem? s.views i ≡ some u → u.named ≡ true
      → v ≡ u = (λ i u a un. let q = (k.each i u a).named un in dite (ℕ_discrete u.name 0)
      (λ z. let e : i ≡ id = one_first s k id i v u at a vn un (v0 ∙ sym z) in
      some-injective v u (sym at ∙ ap (get_elem? s.views) (sym e) ∙ a))
      (λ z. let le : u.name ≤ k.kids = q.known in let kk : v.kids ≡ k.kids = firsts.0 in
      let j = all u.name (omega arith) (omega arith) in
      let h = k.took_in j.0 j.1 (ap (λ (l : List (Joined S R)). get_elem? l j.0) (sym firsts.1) ∙ j.2) in
      absurd (own_joined i j.0 (sym q.owned ∙ ap k.owner (sym j.3) ∙ h.owned)))) in
      let bare : (i : ℕ) (u : V) → get_elem? s.views i ≡ some u → (v ≡ u)
      ⊎ ((u.seen ≡ []) × (u.lost ≡ false) × (u.has ≡ Nothing)) =
      (λ i u a. bool_cases u.named (λ n. inl (same i u a n)) (λ n. inr ((k.each i u a).spent n))) in
      let took : (q : ℕ) (j : Joined S R) → get_elem? v.joined q ≡ some j
      → TookIn k.log k.owner k.kids q j = (λ q j a. k.took_in q j
      (ap (λ (l : List (Joined S R)). get_elem? l q) (sym firsts.1) ∙ a)) in
      let whole : v.seen ≡ k.log = whole_of s k v f.begins (bare k.longest.0 k.longest.1 k.longest.2) in record {
        whole = whole;
        idle = free_now k.lock (λ j who. let h = k.holder j who in not_me v h.0 vh h.2 (bare j h.0 h.1));
        lost = same_bool v.lost k.gone f.told (λ g. let y = k.why g in was_me v y.1 y.3 (bare y.0 y.1 y.2));
        made = record {
          once = once_each k.owner v v0 (λ q j a. let h = took q j a in (h.owned, h.later));
          mine = λ q c a. of_each v (λ c. c.mine ≡ places c.name v.seen) (o.all_mine
              ∙ ap (places v.name) (sym whole)) (λ q j a. (took q j a).all_mine
              ∙ ap (places j.name) (sym whole)) q c a;
          pairs = λ q c a. of_each v (λ c. c.pairs ≡ pairs_of c.name v.seen) refl (λ q j a. (took q j a).all_pairs
              ∙ ap (pairs_of j.name) (sym whole)) q c a;
          all = λ p e a. let le : e.name ≤ k.kids = k.names p e (ap (λ (l : List (Entry S R)). get_elem? l p)
              (sym whole) ∙ a) in let kk : v.kids ≡ k.kids = firsts.0 in
              dite (ℕ_discrete e.name 0) (λ z. (0, caller v, refl, v0 ∙ sym z)) (λ z. let j =
              all e.name (omega arith) (omega arith) in (suc j.0, j.1, j.2, j.3));
        };
      }
    where
      of_each : (v : V) (P : Joined S R → Type 0) → P (caller v) → ((q : ℕ) (j : Joined S R)
          → get_elem? v.joined q ≡ some j → P j) → (q : ℕ) (c : Joined S R) → get_elem? (callers v) q ≡ some c → P c
      of_each v P first others zero c a = subst P (some-injective (caller v) c a) first
      of_each v P first others (suc q) c a = others q c a

      joined_same : (i k : ℕ) → joined_as i ≡ joined_as k → i ≡ k
      joined_same i k e = cc

      -- the first pass has the name 0, and the owner of a joined pass's name tells where it stands
      once_each : (owner : ℕ → Owner) (v : V) → v.name ≡ 0 → ((q : ℕ) (j : Joined S R) → get_elem? v.joined q ≡ some j
          → (owner j.name ≡ joined_as q) × (0 < j.name))
          → (q r : ℕ) (c d : Joined S R) → get_elem? (callers v) q ≡ some c → get_elem? (callers v) r ≡ some d
          → c.name ≡ d.name → q ≡ r
      once_each owner v v0 took zero zero c d a b e = refl
      once_each owner v v0 took zero (suc r) c d a b e = let n : c.name ≡ 0 =
          ap (λ (z : Joined S R). z.name) (sym (some-injective (caller v) c a)) ∙ v0 in
          let h : 0 < d.name = (took r d b).1 in absurd (omega arith)
      once_each owner v v0 took (suc q) zero c d a b e = let n : d.name ≡ 0 =
          ap (λ (z : Joined S R). z.name) (sym (some-injective (caller v) d b)) ∙ v0 in
          let h : 0 < c.name = (took q c a).1 in absurd (omega arith)
      once_each owner v v0 took (suc q) (suc r) c d a b e = ap suc
          (joined_same q r (sym (took q c a).0 ∙ ap owner e ∙ (took r d b).0))

      whole_of : (s : St) (k : Kept next t s) (v : V) → IsPrefix v.seen k.log → (v ≡ k.longest.1)
          ⊎ ((k.longest.1.seen ≡ []) × (k.longest.1.lost ≡ false) × (k.longest.1.has ≡ Nothing)) → v.seen ≡ k.log
      whole_of s k v pre (inl e) = ap (λ (z : V). z.seen) e ∙ k.longest.3
      whole_of s k v pre (inr e) = let none : k.log ≡ [] = sym k.longest.3 ∙ e.0 in
          prefix_whole v.seen k.log (subst (λ (l : List (Entry S R)). IsPrefix l v.seen) (sym none) (
            v.seen,
            refl,
          )) pre

      free_now : (l : Lock) → ((j : ℕ) → l ≡ by j → ⊥) → l ≡ free
      free_now free h = refl
      free_now (by j) h = absurd (h j refl)

      not_me : (v u : V) → v.has ≡ Nothing → u.has ≢ Nothing → (v ≡ u)
          ⊎ ((u.seen ≡ []) × (u.lost ≡ false) × (u.has ≡ Nothing)) → ⊥
      not_me v u h d (inl e) = d (ap (λ (z : V). z.has) (sym e) ∙ h)
      not_me v u h d (inr e) = d e.2

      was_me : (v u : V) → u.lost ≡ true → (v ≡ u) ⊎ ((u.seen ≡ []) × (u.lost ≡ false) × (u.has ≡ Nothing))
          → v.lost ≡ true
      was_me v u y (inl e) = ap (λ (z : V). z.lost) e ∙ y
      was_me v u y (inr e) = not_both u.lost y e.1

-- From what the steps of one call tell to what the call ensures.
use Rattle.std.proofs.Common.{◌≡◌, ℕ, ◌+◌, ◌^◌, ◌<◌, ◌≤◌, ◌⊎◌, inl, inr, List, [], ◌∷◌, ◌++◌, length, sym, refl, ap, ◌∙◌}
use Rattle.std.proofs.Common.{subst, arith, length-append}
use Rattle.std.specs.Prelude.{true, false, Bool, Option, Some}
use mathlib.Core.List.{IsPrefix}
use mathlib.Core.Option.{some, some-injective}
use mathlib.Core.Option as maybe
use lib.ListN.{get_elem?}
use Rattle.atomic_table.specs.Table.{Seen, Final, rest}
use Rattle.atomic_table.specs.declared.shared.Seat.{Seat}
use Rattle.atomic_table.proofs.Lists.{at_last}
use Rattle.turn_gate.specs.declared.gate.GateFault.{GateFault}
use Rattle.turn_gate.specs.declared.gate.GateFault.TheVariants as fault
use Rattle.turn_gate.specs.declared.view.Entry.{Entry}
use Rattle.turn_gate.specs.declared.view.View.{View}
use Rattle.turn_gate.specs.declared.view.Has.{Has}
use Rattle.turn_gate.specs.declared.view.Has.TheVariants.{Nothing, Value, Mark}
use Rattle.turn_gate.specs.declared.view.Held.{Held}
use Rattle.turn_gate.specs.declared.view.Held.TheVariants as held
use Rattle.turn_gate.specs.History.{after, IsLegal, places, pairs_of}
use Rattle.turn_gate.specs.Table.{longer, Kept, resting, homes_of, first_view, Us, asked, taking, asking, giving}
use Rattle.turn_gate.specs.Table.{seeing, child}
use Rattle.turn_gate.specs.Table.{together, lost_after, gave, compared, IsAfter, Took, entry_of, noting, noted, Ready}
use Rattle.turn_gate.specs.Passes.{caller, IsFirst, FaultFits, Stood, Failed, Committed, IsChild, IsUnion, HasAll}
use Rattle.turn_gate.specs.Passes.{IsWhole, IsAsked, own_pairs}
use Rattle.turn_gate.specs.Places.{IsFreeAt, HasOut, Holds, HasMark}
use Rattle.turn_gate.proofs.Histories.{after_more, one_begins, first_begins, longer_begins, prefix_refl, squeezed}
use Rattle.turn_gate.proofs.Histories.{same_pairs, pairs_more, places_mine, same_front}
use Rattle.turn_gate.proofs.Family.{alone, Alone}

module _ {T S R : Type 0} where
  pub freed : (t : T) (p : Seat (Held T S) (View T S R)) (w : View T S R) (b : Bool) → p.me ≡ (giving w b, [])
      → w.named ≡ true → w.opening ≡ Some t → IsFreeAt t p
  freed t p w b e named opened = record {
    empty = ap (λ m. m.1) e;
    idle = ap (λ m. m.0.has) e;
    named = ap (λ m. m.0.named) e ∙ named;
    opened = ap (λ m. m.0.opening) e ∙ opened;
  }

  -- what the pass is after the slot was given back with x
  pub given : (m m' : Us T S R) (w : View T S R) (x : Held T S) → m ≡ (w, (0, x) ∷ []) → gave m m'
      → m' ≡ (giving w (lost_after x w.lost), [])
  given m m' w x e g = g x (ap (λ z. z.1) e) ∙ ap (λ (z : Us T S R). (giving z.0 (lost_after x z.0.lost), [])) e

  -- where no step was done, no more was seen
  pub heard_still : (v w : View T S R) (e : GateFault) (n : ℕ) → Failed v e w → n ≡ length v.seen → n ≡ length w.seen
  heard_still v w e n f h = h ∙ ap (λ (l : List (Entry S R)). length l) (sym f.stood.seen)

  pub put_in : (m1 m2 : Us T S R) (w : View T S R) (c : List (ℕ × Held T S)) (t : T) → m1 ≡ (w, c)
      → m2 ≡ (m1.0, (0, held.Value t) ∷ []) → m2 ≡ (w, (0, held.Value t) ∷ [])
  put_in m1 m2 w c t e put = put ∙ ap (λ (z : Us T S R). (z.0, (0, held.Value t) ∷ [])) e

  -- the slot held the mark
  pub was_gone : (v : View T S R) (base : List (Entry S R)) (a : Option S) (m : Us T S R)
      → m ≡ (giving (taking v Mark base a) true, []) → Failed v fault.NoMemory m.0
  was_gone v base a m e = let low : v.floor ≤ v.floor = omega arith in
      subst (λ (z : Us T S R). Failed v fault.NoMemory z.0) (sym e)
      record {
        stood = record { same = record { name = refl; kids = refl; joined = refl }; seen = refl; mine = refl };
        why = (low, refl);
      }

  -- the pass of a new gate
  pub first_given : (t : T) (m : Us T S R) → m ≡ (first_view t, []) → IsFirst m.0
  first_given t m e = subst (λ (z : Us T S R). IsFirst z.0) (sym e) record {
    name = refl;
    seen = refl;
    mine = refl;
    floor = refl;
    lost = refl;
    kids = refl;
    joined = refl;
  }

  pub first_free : (t : T) (p : Seat (Held T S) (View T S R)) → p.me ≡ (first_view t, []) → IsFreeAt t p
  first_free t p e = record {
    empty = ap (λ m. m.1) e;
    idle = ap (λ m. m.0.has) e;
    named = ap (λ m. m.0.named) e;
    opened = ap (λ m. m.0.opening) e;
  }

  -- after a join, and the look that compared
  pub union : (v w : View T S R) (c : List (ℕ × Held T S)) (m1 m2 : Us T S R) → m1 ≡ (together v w, c)
      → compared m1 m2 → v.named ≡ true → v.name ≡ 0 → w.mine ≡ places w.name w.seen → IsUnion v w m2.0
  union v w c m1 m2 e k named zeroth own = let k' = subst (λ (z : Us T S R). compared z m2) e k in let log = k'.1.0 in
      let p = first_begins v.seen w.seen log k'.1.1 in
      let all : w.mine ≡ places w.name log = k'.1.3 (length v.joined) (caller w) named zeroth
      (at_last v.joined (caller w) (length v.joined) refl) in
      subst (λ (z : Us T S R). IsUnion v w z.0) (sym k'.0) record {
        seen = pick (one_begins v.seen w.seen log p k'.1.2);
        floor = refl;
        name = refl;
        kids = refl;
        mine = refl;
        lost = refl;
        joined = refl;
        own = k'.2 named;
        other = own ∙ sym (squeezed w.name w.seen (longer v.seen w.seen) log
            (second_begins (one_begins v.seen w.seen log p k'.1.2)) (longer_begins v.seen w.seen log p k'.1.2)
            (sym own ∙ all));
      }
    where
      second_begins : ((longer v.seen w.seen ≡ w.seen) × IsPrefix v.seen w.seen)
          ⊎ ((longer v.seen w.seen ≡ v.seen) × IsPrefix w.seen v.seen) → IsPrefix w.seen (longer v.seen w.seen)
      second_begins (inl h) = subst (IsPrefix w.seen) (sym h.0) (prefix_refl w.seen)
      second_begins (inr h) = subst (IsPrefix w.seen) (sym h.0) h.1

      pick : ((longer v.seen w.seen ≡ w.seen) × IsPrefix v.seen w.seen)
          ⊎ ((longer v.seen w.seen ≡ v.seen) × IsPrefix w.seen v.seen)
          → ((longer v.seen w.seen ≡ w.seen) × IsPrefix v.seen w.seen)
          ⊎ ((longer v.seen w.seen ≡ v.seen) × IsPrefix w.seen v.seen)
      pick x = x

  pub is_child : (v : View T S R) (m1 m2 : Us T S R) → m1 ≡ (child v, []) → compared m1 m2 → IsChild v m2.0
  is_child v m1 m2 e k = let k' = subst (λ (z : Us T S R). compared z m2) e k in
      subst (λ (z : Us T S R). IsChild v z.0) (sym k'.0) record {
        name = refl;
        seen = refl;
        floor = refl;
        lost = refl;
        mine = refl;
        kids = refl;
        joined = refl;
        own = k'.2 refl;
      }

  pub child_free : (t : T) (p : Seat (Held T S) (View T S R)) (v : View T S R) (m1 : Us T S R) → m1 ≡ (child v, [])
      → compared m1 p.me → v.opening ≡ Some t → IsFreeAt t p
  child_free t p v m1 e k opened = let z = k.0 ∙ e in record {
    empty = ap (λ m. m.1) z;
    idle = ap (λ m. m.0.has) z;
    named = ap (λ m. m.0.named) z;
    opened = ap (λ m. m.0.opening) z ∙ opened;
  }

module _ {T S R : Type 0} (next : T → S → T × R) (t : T) where
  pub ready_value : (m : Us T S R) (w : View T S R) (x : T) → m ≡ (w, (0, held.Value x) ∷ []) → w.named ≡ true
      → w.has ≡ Value → x ≡ after next t w.base → (m.0.named ≡ true)
      × ((y : Held T S) × (m.1 ≡ (0, y) ∷ []) × Ready next t m.0 y)
  ready_value m w x e named has is = subst (λ (z : Us T S R). (z.0.named ≡ true)
      × ((y : Held T S) × (z.1 ≡ (0, y) ∷ []) × Ready next t z.0 y)) (sym e) (
        named,
        (held.Value x, refl, inl (has, ap held.Value is)),
      )

  pub ready_mark : (m : Us T S R) (w : View T S R) → m ≡ (w, (0, held.Mark) ∷ []) → w.named ≡ true → (w.has ≡ Value)
      ⊎ (w.has ≡ Mark) → (m.0.named ≡ true) × ((y : Held T S) × (m.1 ≡ (0, y) ∷ []) × Ready next t m.0 y)
  ready_mark m w e named has = subst (λ (z : Us T S R). (z.0.named ≡ true)
      × ((y : Held T S) × (z.1 ≡ (0, y) ∷ []) × Ready next t z.0 y)) (sym e) (
        named,
        (held.Mark, refl, inr (has, refl)),
      )

  -- what was told by the note, from what was seen by the look before
  pub told : (m1 m2 : Us T S R) (v : View T S R) (c : List (ℕ × Held T S)) (s : S) → m1 ≡ (v, c) → v.opening ≡ Some t
      → v.ask ≡ Some s → noted next m1 m2
      → (m2 ≡ (noting next t v s, c)) × IsLegal next t m2.0.seen × (m2.0.mine ≡ places v.name m2.0.seen)
  told m1 m2 v c s e opened ask n = subst (λ (z : Us T S R). noted next z m2) e n t s opened ask

  next_value : (v : View T S R) (x x' : T) (s : S) (r : R) → x ≡ after next t v.base → (x', r) ≡ next x s
      → x' ≡ after next t (v.base ++ entry_of next t v s ∷ [])
  next_value v x x' s r is did = ap (λ z. z.0) did ∙ ap (λ (z : T). (next z s).0) is
      ∙ sym (after_more next t v.base (entry_of next t v s))

  committed : (v w : View T S R) (x x' : T) (s : S) (r : R) → w ≡ noting next t v s → IsLegal next t w.seen
      → w.mine ≡ places v.name w.seen → x ≡ after next t v.base → (x', r) ≡ next x s → IsPrefix v.seen v.base
      → v.floor ≤ length v.base → v.lost ≡ false → length (v.base ++ entry_of next t v s ∷ []) ≤ 2 ^ 62
      → Committed next t v s r w
  committed v w x x' s r e legal mine is did begins low lost short =
      let reply : (next (after next t v.base) s).1 ≡ r = ap (λ (z : T). (next z s).1) (sym is)
      ∙ sym (ap (λ z. z.1) did) in
      subst (λ (z : View T S R). Committed next t v s r z) (sym e) record {
        same = record { name = refl; kids = refl; joined = refl };
        before = v.base;
        begins = begins;
        beyond = low;
        ends = ap (λ (q : R). v.base ++ record { name = v.name; step = s; reply = q } ∷ []) reply;
        added = refl;
        mine = subst (λ (z : View T S R). z.mine ≡ places v.name z.seen) e mine;
        legal = subst (λ (z : View T S R). IsLegal next t z.seen) e legal;
        floor = refl;
        short = short;
        kept = (lost, lost);
      }

  -- as many steps stand as a gate takes, and the value is still out
  pub is_full : (m m' : Us T S R) (x : T) (n : ℕ) → HasOut next t m x → m' ≡ (seeing m.0 n, m.1)
      → n ≡ length m.0.base → n ≡ 2 ^ 62 → Failed m.0 fault.Spent m'.0 × HasOut next t m' x
  is_full m m' x n o e same full = let low : n ≤ length m.0.base = omega arith in
      subst (λ (z : Us T S R). Failed m.0 fault.Spent z.0 × HasOut next t z x) (sym e) (
        record {
          stood = record { same = record { name = refl; kids = refl; joined = refl }; seen = refl; mine = refl };
          why = (full, o.kept, o.kept);
        },
        record {
          has = o.has;
          slot = o.slot;
          value = o.value;
          named = o.named;
          opened = o.opened;
          begins = o.begins;
          low = low;
          kept = o.kept;
        },
      )

  -- the step was noted, and the value that it left is out
  pub is_noted : (m m' : Us T S R) (x x' : T) (s : S) (r : R) (n : ℕ) → HasOut next t m x
      → (m' ≡ (noting next t m.0 s, m.1)) × IsLegal next t m'.0.seen × (m'.0.mine ≡ places m.0.name m'.0.seen)
      → (x', r) ≡ next x s → n ≡ length m.0.base → n < 2 ^ 62
      → Committed next t m.0 s r m'.0 × HasOut next t m' x' × (n + 1 ≡ length m'.0.seen)
  is_noted m m' x x' s r n o k did same room =
      let es : List (Entry S R) = m.0.base ++ entry_of next t m.0 s ∷ [] in
      let long : length es ≡ length m.0.base + 1 = length-append m.0.base (entry_of next t m.0 s ∷ []) in
      let low : length es ≤ length es = omega arith in (
        committed m.0 m'.0 x x' s r (ap (λ z. z.0) k.0) k.1 k.2 o.value did o.begins o.low o.kept (omega arith),
        subst (λ (z : Us T S R). HasOut next t z x') (sym k.0) record {
          has = o.has;
          slot = o.slot;
          value = next_value m.0 x x' s r o.value did;
          named = o.named;
          opened = o.opened;
          begins = prefix_refl es;
          low = low;
          kept = o.kept;
        },
        subst (λ (z : Us T S R). n + 1 ≡ length z.0.seen) (sym k.0) (omega (arith, same, long)),
      )

  -- the step found no memory, after so many steps were seen
  pub is_lost : (m m' : Us T S R) (x : T) (n : ℕ) → HasOut next t m x → m' ≡ (seeing m.0 n, m.1) → m.0.floor ≤ n
      → Stood m.0 m'.0 × (m.0.floor ≤ m'.0.floor) × HasMark next t m'
  is_lost m m' x n o e low = subst (λ (z : Us T S R). Stood m.0 z.0 × (m.0.floor ≤ z.0.floor) × HasMark next t z)
      (sym e) (
        record { same = record { name = refl; kids = refl; joined = refl }; seen = refl; mine = refl },
        low,
        record { has = inl o.has; slot = o.slot; named = o.named; opened = o.opened },
      )

  -- the further step is announced
  pub is_asked_next : (m m' : Us T S R) (x : T) (s : S) → HasOut next t m x → m' ≡ (asking m.0 (Some s), m.1)
      → Holds next t m' x s
  is_asked_next m m' x s o e = subst (λ (z : Us T S R). Holds next t z x s) (sym e) record {
    out = record {
      has = o.has;
      slot = o.slot;
      value = o.value;
      named = o.named;
      opened = o.opened;
      begins = o.begins;
      low = o.low;
      kept = o.kept;
    };
    ask = refl;
  }

  -- the pass after the slot was given back
  pub committed_given : (v w w' : View T S R) (s : S) (r : R) → Committed next t v s r w → w' ≡ giving w false
      → Committed next t v s r w'
  committed_given v w w' s r c e = subst (λ (z : View T S R). Committed next t v s r z) (sym e) record {
    same = record { name = c.same.name; kids = c.same.kids; joined = c.same.joined };
    before = c.before;
    begins = c.begins;
    beyond = c.beyond;
    ends = c.ends;
    added = c.added;
    mine = c.mine;
    legal = c.legal;
    floor = c.floor;
    short = c.short;
    kept = (c.kept.0, refl);
  }

  pub committed_asked : (v w w' : View T S R) (s : S) (r : R) (a : Option S) → Committed next t v s r w
      → w' ≡ asking w a → Committed next t v s r w'
  committed_asked v w w' s r a c e = subst (λ (z : View T S R). Committed next t v s r z) (sym e) record {
    same = record { name = c.same.name; kids = c.same.kids; joined = c.same.joined };
    before = c.before;
    begins = c.begins;
    beyond = c.beyond;
    ends = c.ends;
    added = c.added;
    mine = c.mine;
    legal = c.legal;
    floor = c.floor;
    short = c.short;
    kept = c.kept;
  }

  pub failed_given : (v w w' : View T S R) → Failed v fault.Spent w → w' ≡ giving w false → Failed v fault.Spent w'
  failed_given v w w' f e = let s = f.stood.same in
      subst (λ (z : View T S R). Failed v fault.Spent z) (sym e) record {
        stood = record {
          same = record { name = s.name; kids = s.kids; joined = s.joined };
          seen = f.stood.seen;
          mine = f.stood.mine;
        };
        why = (f.why.0, f.why.1, refl);
      }

  pub lost_given : (v w w' : View T S R) → Stood v w → v.floor ≤ w.floor → w' ≡ giving w true
      → Failed v fault.NoMemory w'
  lost_given v w w' f low e = let s = f.same in
      subst (λ (z : View T S R). Failed v fault.NoMemory z) (sym e) record {
        stood = record {
          same = record { name = s.name; kids = s.kids; joined = s.joined };
          seen = f.seen;
          mine = f.mine;
        };
        why = (low, refl);
      }

  abbrev pub Slotted : Us T S R → Held T S → Type 0
  Slotted m x = m.1 ≡ (0, x) ∷ rest m.1

  abbrev TookOne : Us T S R → Us T S R → maybe.Option (Held T S) → List (Entry S R) → Type 0
  TookOne m m' said base = ((y : T) × (m' ≡ (taking m.0 Value base (asked said), (0, held.Value y) ∷ []))
      × IsAfter next m.0.opening base y × (m.0.lost ≡ false)) ⊎ (m' ≡ (
        taking m.0 Mark base (asked said),
        (0, held.Mark) ∷ [],
      ))

  -- the slot was taken, and so it holds something
  pub took_slot : (m m' : Us T S R) (said : maybe.Option (Held T S)) → Took next m said m'
      → (x : Held T S) × Slotted m' x
  took_slot m m' said k = go k.3
    where
      go : TookOne m m' said k.0 → (x : Held T S) × Slotted m' x
      go (inl e) = subst (λ (z : Us T S R). (x : Held T S) × Slotted z x) (sym e.1) (held.Value e.0, refl)
      go (inr e) = subst (λ (z : Us T S R). (x : Held T S) × Slotted z x) (sym e) (held.Mark, refl)

  abbrev head_held : Held T S → List (ℕ × Held T S) → Held T S
  head_held d [] = d
  head_held d (x ∷ xs) = x.1

  same_head : (x y : Held T S) (k l : List (ℕ × Held T S)) → (0, x) ∷ k ≡ (0, y) ∷ l → x ≡ y
  same_head x y k l e = ap (head_held x) e

  abbrev pub TookValue : Us T S R → Us T S R → maybe.Option (Held T S) → T → Type 0
  TookValue m m' said x = (base : List (Entry S R)) × IsPrefix m.0.seen base × (m.0.floor ≤ length base)
      × (m'.0 ≡ taking m.0 Value base (asked said)) × (rest m'.1 ≡ []) × IsAfter next m.0.opening base x
      × (m.0.lost ≡ false)

  -- where the value was in the slot
  pub took_value : (m m' : Us T S R) (said : maybe.Option (Held T S)) (x : T) → Took next m said m'
      → Slotted m' (held.Value x) → TookValue m m' said x
  took_value m m' said x k at = go k.3
    where
      go : TookOne m m' said k.0 → TookValue m m' said x
      go (inl e) = let same : held.Value x ≡ held.Value e.0 = same_head _ _ _ _ (sym at ∙ ap (λ z. z.1) e.1) in
          let one : x ≡ e.0 = cc in (
            k.0,
            k.1,
            k.2,
            ap (λ z. z.0) e.1,
            ap (λ z. rest z.1) e.1,
            subst (IsAfter next m.0.opening k.0) (sym one) e.2,
            e.3,
          )
      go (inr e) = let same : held.Value x ≡ held.Mark = same_head _ _ _ _ (sym at ∙ ap (λ z. z.1) e) in absurd (cc)

  -- where the mark was
  abbrev pub TookMark : Us T S R → Us T S R → maybe.Option (Held T S) → Type 0
  TookMark m m' said = (base : List (Entry S R))
      × (m' ≡ (taking m.0 Mark base (asked said), (0, held.Mark) ∷ []))

  pub took_mark : (m m' : Us T S R) (said : maybe.Option (Held T S)) → Took next m said m' → Slotted m' held.Mark
      → TookMark m m' said
  took_mark m m' said k at = go k.3
    where
      go : TookOne m m' said k.0 → TookMark m m' said
      go (inl e) = let same : held.Mark ≡ held.Value e.0 = same_head _ _ _ _ (sym at ∙ ap (λ z. z.1) e.1) in absurd (cc)
      go (inr e) = (k.0, e)

  pub not_asked : (m m' : Us T S R) (said : maybe.Option (Held T S)) (a : S) → Took next m said m'
      → Slotted m' (held.Ask a) → ⊥
  not_asked m m' said a k at = go k.3
    where
      go : TookOne m m' said k.0 → ⊥
      go (inl e) = let same : held.Ask a ≡ held.Value e.0 = same_head _ _ _ _ (sym at ∙ ap (λ z. z.1) e.1) in cc
      go (inr e) = let same : held.Ask a ≡ held.Mark = same_head _ _ _ _ (sym at ∙ ap (λ z. z.1) e) in cc

  -- the pass after the value was taken out
  pub out_value : (m m' m2 : Us T S R) (said : maybe.Option (Held T S)) (x : T) → TookValue m m' said x
      → m2 ≡ (m'.0, (0, held.Mark) ∷ rest m'.1) → m.0.named ≡ true → m.0.opening ≡ Some t → HasOut next t m2 x
  out_value m m' m2 said x k e named opened =
      let e' : m2 ≡ (taking m.0 Value k.0 (asked said), (0, held.Mark) ∷ []) = e
      ∙ (λ i. (k.3 i, (0, held.Mark) ∷ k.4 i)) in subst (λ (z : Us T S R). HasOut next t z x) (sym e') record {
        has = refl;
        slot = refl;
        value = (k.5 t opened).0;
        named = named;
        opened = opened;
        begins = k.1;
        low = k.2;
        kept = k.6;
      }

  pub holds_value : (m m' m2 : Us T S R) (s : S) (x : T) → TookValue m m' (some (held.Ask s)) x
      → m2 ≡ (m'.0, (0, held.Mark) ∷ rest m'.1) → m.0.named ≡ true → m.0.opening ≡ Some t → Holds next t m2 x s
  holds_value m m' m2 s x k e named opened = record {
    out = out_value m m' m2 (some (held.Ask s)) x k e named opened;
    ask = ap (λ (z : Us T S R). z.0.ask) e ∙ ap (λ (z : View T S R). z.ask) k.3;
  }

  -- what was seen stands where the value was taken out
  pub seen_value : (m m' m2 : Us T S R) (said : maybe.Option (Held T S)) (x : T) (n : ℕ) → TookValue m m' said x
      → m2 ≡ (m'.0, (0, held.Mark) ∷ rest m'.1) → n ≡ length m.0.seen → n ≡ length m2.0.seen
  seen_value m m' m2 said x n k e h = h ∙ sym (ap (λ (z : Us T S R). length z.0.seen) e
      ∙ ap (λ (z : View T S R). length z.seen) k.3)

  -- the pass after the mark was found
  pub mark_found : (m m' m2 : Us T S R) (said : maybe.Option (Held T S)) → TookMark m m' said
      → m2 ≡ (m'.0, (0, held.Mark) ∷ rest m'.1) → m.0.named ≡ true → m.0.opening ≡ Some t → HasMark next t m2
  mark_found m m' m2 said k e named opened =
      let e' : m2 ≡ (taking m.0 Mark k.0 (asked said), (0, held.Mark) ∷ []) = e
      ∙ (λ i. ((k.1 i).0, (0, held.Mark) ∷ rest (k.1 i).1)) in subst (λ (z : Us T S R). HasMark next t z) (sym e')
      record { has = inr refl; slot = refl; named = named; opened = opened }

  -- and was given back
  pub mark_given : (m m' m2 m3 : Us T S R) (said : maybe.Option (Held T S)) → TookMark m m' said
      → m2 ≡ (m'.0, (0, held.Mark) ∷ rest m'.1) → m3 ≡ (giving m2.0 true, []) → Failed m.0 fault.NoMemory m3.0
  mark_given m m' m2 m3 said k e g = was_gone m.0 k.0 (asked said) m3
      (g ∙ ap (λ (z : Us T S R). (giving z.0 true, [])) e ∙ ap (λ (z : Us T S R). (giving z.0 true, [])) k.1)

  -- the value was asked
  pub value_asked : (over : T → ℕ → Bool) (about : ℕ) (m m' m3 : Us T S R) (said : maybe.Option (Held T S)) (x : T)
      → TookValue m m' said x → m.0.opening ≡ Some t → m3 ≡ (giving m'.0 false, [])
      → IsAsked next t over m.0 about (over x about) m3.0
  value_asked over about m m' m3 said x k opened e =
      let e' : m3.0 ≡ giving (taking m.0 Value k.0 (asked said)) false = ap (λ (z : Us T S R). z.0) e
      ∙ ap (λ (z : View T S R). giving z false) k.3 in let v = k.5 t opened in
      subst (λ (z : View T S R). IsAsked next t over m.0 about (over x about) z) (sym e') record {
        stood = record { same = record { name = refl; kids = refl; joined = refl }; seen = refl; mine = refl };
        floor = refl;
        told = inr (k.6, refl, (k.0, k.1, k.2, v.1, ap (λ (z : T). over z about) v.0));
      }

  pub mark_asked : (over : T → ℕ → Bool) (about : ℕ) (m m' m2 m3 : Us T S R) (said : maybe.Option (Held T S))
      → TookMark m m' said → m2 ≡ (m'.0, (0, held.Mark) ∷ rest m'.1) → m3 ≡ (giving m2.0 true, [])
      → IsAsked next t over m.0 about true m3.0
  mark_asked over about m m' m2 m3 said k e g =
      let e' : m3.0 ≡ giving (taking m.0 Mark k.0 (asked said)) true = ap (λ (z : Us T S R). z.0) (g
      ∙ ap (λ (z : Us T S R). (giving z.0 true, [])) e ∙ ap (λ (z : Us T S R). (giving z.0 true, [])) k.1) in
      subst (λ (z : View T S R). IsAsked next t over m.0 about true z) (sym e') record {
        stood = record { same = record { name = refl; kids = refl; joined = refl }; seen = refl; mine = refl };
        floor = refl;
        told = inl (refl, refl);
      }

  -- a call on a pass that has taken the slot answers for the pass before
  fault_before : (v v' w : View T S R) (e : GateFault) → v'.floor ≡ v.floor → v'.lost ≡ v.lost → FaultFits v' w e
      → FaultFits v w e
  fault_before v v' w fault.Spent a b f = (f.0, sym b ∙ f.1, f.2)
  fault_before v v' w fault.NoMemory a b f = (subst (λ (n : ℕ). n ≤ w.floor) a f.0, f.1)

  abbrev pub Like : View T S R → View T S R → Type 0
  Like v v' = (h : Has) × (base : List (Entry S R)) × (a : Option S) × (v' ≡ taking v h base a)

  pub like : (m m' m2 : Us T S R) (said : maybe.Option (Held T S)) (x : T) (k : TookValue m m' said x)
      → m2 ≡ (m'.0, (0, held.Mark) ∷ rest m'.1) → Like m.0 m2.0
  like m m' m2 said x k e = (Value, k.0, asked said, ap (λ z. z.0) e ∙ k.3)

  pub failed_before : (v v' w : View T S R) (e : GateFault) → Like v v' → Failed v' e w → Failed v e w
  failed_before v v' w e l f = let s = f.stood.same in let p = l.3 in record {
    stood = record {
      same = record {
        name = s.name ∙ ap (λ z. z.name) p;
        kids = s.kids ∙ ap (λ z. z.kids) p;
        joined = s.joined ∙ ap (λ z. z.joined) p;
      };
      seen = f.stood.seen ∙ ap (λ z. z.seen) p;
      mine = f.stood.mine ∙ ap (λ z. z.mine) p;
    };
    why = fault_before v v' w e (ap (λ z. z.floor) p) (ap (λ z. z.lost) p) f.why;
  }

  pub committed_before : (v v' w : View T S R) (s : S) (r : R) → Like v v' → Committed next t v' s r w
      → Committed next t v s r w
  committed_before v v' w s r l f = let f' = subst (λ (z : View T S R). Committed next t z s r w) l.3 f in
      let z = f'.same in record {
        same = record { name = z.name; kids = z.kids; joined = z.joined };
        before = f'.before;
        begins = f'.begins;
        beyond = f'.beyond;
        ends = f'.ends;
        added = f'.added;
        mine = f'.mine;
        legal = f'.legal;
        floor = f'.floor;
        short = f'.short;
        kept = f'.kept;
      }

  abbrev pub Rests : View T S R → Held T S → Type 0
  Rests v x = ((x ≡ held.Mark) × (v.lost ≡ true)) ⊎ ((x ≡ held.Value (after next t v.seen)) × (v.lost ≡ false))

  -- what lies in the slot of a gate that is closed
  pub closing : (id : ℕ) (v : View T S R) (ws : List ℕ) (xs : List (Held T S)) (x : Held T S)
      → Final (Seen (Kept next t) id v) ws xs → get_elem? xs 0 ≡ some x → v.named ≡ true → v.name ≡ 0
      → v.has ≡ Nothing → HasAll v → Rests v x × IsLegal next t v.seen × IsWhole v
  closing id v ws xs x f at named zeroth idle all = let s = f.0 in let k = f.1.0 in
      let a = alone next t s k id v f.1.1 named zeroth idle all in
      (rests k.gone refl a, subst (IsLegal next t) (sym a.whole) k.legal, a.made)
    where
      rests : (g : Bool) → f.1.0.gone ≡ g → Alone next t f.0 f.1.0 v → Rests v x
      rests g is a = let k = f.1.0 in let h : get_elem? f.0.homes 0 ≡ some (some (resting next t k.log g)) =
          ap (λ hs. get_elem? hs 0) (k.homes ∙ (λ i. homes_of next t k.log (is i) (a.idle i))) in
          let same : x ≡ resting next t k.log g = some-injective x (resting next t k.log g) (sym at
          ∙ f.4 0 (resting next t k.log g) h) in pick g same (a.lost ∙ is) (sym a.whole)
        where
          pick : (g : Bool) → x ≡ resting next t f.1.0.log g → v.lost ≡ g → f.1.0.log ≡ v.seen → Rests v x
          pick true e l w = inl (e, l)
          pick false e l w = inr (e ∙ ap (λ (es : List (Entry S R)). held.Value (after next t es)) w, l)

  pub closed_value : (v : View T S R) (y : T) → Rests v (held.Value y) → (y ≡ after next t v.seen) × (v.lost ≡ false)
  closed_value v y (inl e) = let z : held.Value y ≡ held.Mark = e.0 in absurd (cc)
  closed_value v y (inr e) = let z : held.Value y ≡ held.Value (after next t v.seen) = e.0 in (cc, e.1)

  pub closed_gone : (v : View T S R) → Rests v held.Mark → v.lost ≡ true
  closed_gone v (inl e) = e.1
  closed_gone v (inr e) = let z : held.Mark ≡ held.Value (after next t v.seen) = e.0 in absurd (cc)

  pub closed_ask : (v : View T S R) (a : S) → Rests v (held.Ask a) → ⊥
  closed_ask v a (inl e) = let z : held.Ask a ≡ held.Mark = e.0 in cc
  closed_ask v a (inr e) = let z : held.Ask a ≡ held.Value (after next t v.seen) = e.0 in cc

  -- a commit adds one step to a caller's own
  pub one_pair_more : (v : View T S R) (s : S) (r : R) (w : View T S R) → v.mine ≡ places v.name v.seen
      → Committed next t v s r w → own_pairs w ≡ own_pairs v ++ (s, r) ∷ []
  one_pair_more v s r w own c =
      let e : Entry S R = record { name = v.name; step = s; reply = r } in let b : List (Entry S R) = c.before in
      let two : v.mine ++ length b ∷ [] ≡ places v.name b ++ length b ∷ [] = sym c.added ∙ c.mine
      ∙ ap (places v.name) c.ends ∙ places_mine v.name b e refl in
      (λ i. pairs_of (c.same.name i) (c.ends i)) ∙ pairs_more v.name b e refl
      ∙ ap (λ l. l ++ (s, r) ∷ []) (same_pairs v.name v.seen b c.begins
      (sym (same_front v.mine (places v.name b) (length b) two) ∙ own))

-- Passes that were split from the first one: one more, one fewer, and none.
use Rattle.std.proofs.Common.{◌≡◌, ◌≢◌, ℕ, zero, suc, ◌+◌, ◌<◌, ◌≤◌, List, [], ◌∷◌, ◌++◌, length, get_or, ◌⊎◌, inl, inr}
use Rattle.std.proofs.Common.{refl, ap, sym, ◌∙◌, append-nil, subst, arith}
use Rattle.std.specs.List.{remove}
use mathlib.Core.Logic.{dite}
use mathlib.Core.Option.{some, some-ne-none}
use native.Mathlib.Decide.{ℕ_discrete}
use lib.ListN.{get_elem?}
use Rattle.turn_gate.specs.declared.replayed.Replayed.{Ghosts}
use Rattle.turn_gate.specs.declared.view.Joined.{Joined}
use Rattle.turn_gate.specs.declared.view.View.{View}
use Rattle.turn_gate.specs.declared.gate.Gate.{Gate}
use Rattle.turn_gate.specs.declared.gate.Pass.{Pass}
use Rattle.turn_gate.specs.Gates.{view, IsPassOf}
use Rattle.turn_gate.specs.Passes.{IsFirst, IsSame, HasOneMore, HasAll}
use Rattle.gate_tests.specs.Families.{AreOf, AreOthers, IsAmong, WasJoined, NoneIsLost}

elem_more : {A : Type 0} (xs ys : List A) (q : ℕ) (x : A) → get_elem? xs q ≡ some x → get_elem? (xs ++ ys) q ≡ some x
elem_more [] ys q x e = absurd (some-ne-none x (sym e))
elem_more (y ∷ xs) ys zero x e = e
elem_more (y ∷ xs) ys (suc q) x e = elem_more xs ys q x e

elem_last : {A : Type 0} (xs : List A) (x : A) → (q : ℕ) × (get_elem? (xs ++ x ∷ []) q ≡ some x)
elem_last [] x = (0, refl)
elem_last (y ∷ xs) x = let r = elem_last xs x in (suc r.0, r.1)

module _ {T S R : Type 0} {g : Ghosts T S R} where
  -- ---- other passes of a gate

  pub alone : (gate : Gate T S R) (p : Pass T S R g) → IsPassOf gate p → IsFirst (view p) → AreOf gate p []
  alone gate p is first = record { first = is; name = first.name; others = tt }

  more : (gate : Gate T S R) (ps : List (Pass T S R g)) (p : Pass T S R g) → AreOthers gate ps
      → IsPassOf gate p → (view p).name ≢ 0 → AreOthers gate (ps ++ p ∷ [])
  more gate [] p os is not = (is, not, tt)
  more gate (q ∷ qs) p os is not = (os.0, os.1, more gate qs p os.2 is not)

  pub others_more : (gate : Gate T S R) (ps qs : List (Pass T S R g)) (p : Pass T S R g) (k : ℕ) → qs ≡ ps ++ p ∷ []
      → AreOthers gate ps → IsPassOf gate p → (view p).name ≡ k + 1 → AreOthers gate qs
  others_more gate ps qs p k e os is name =
      let Are : List (Pass T S R g) → Type 0 = λ rs. AreOthers gate rs in
      let n : ℕ = (view p).name in
      let some : n ≢ 0 = λ none. let at : n ≡ k + 1 = name in omega arith in
      subst Are (sym e) (more gate ps p os is some)

  last : (gate : Gate T S R) (ps : List (Pass T S R g)) (p : Pass T S R g) → AreOthers gate (ps ++ p ∷ [])
      → AreOthers gate ps × IsPassOf gate p × ((view p).name ≢ 0)
  last gate [] p os = (tt, os.0, os.1)
  last gate (q ∷ qs) p os = let r = last gate qs p os.2 in ((os.0, os.1, r.0), r.1, r.2)

  pub others_last : (gate : Gate T S R) (ps qs : List (Pass T S R g)) (p : Pass T S R g) → ps ≡ qs ++ p ∷ []
      → AreOthers gate ps → AreOthers gate qs × IsPassOf gate p × ((view p).name ≢ 0)
  others_last gate ps qs p e os =
      let Are : List (Pass T S R g) → Type 0 = λ rs. AreOthers gate rs in last gate qs p (subst Are e os)

  less : (gate : Gate T S R) (ps : List (Pass T S R g)) (i : ℕ) → i < length ps → AreOthers gate ps
      → AreOthers gate (remove ps i)
  less gate [] i h os = absurd (omega arith)
  less gate (q ∷ qs) zero h os = os.2
  less gate (q ∷ qs) (suc i) h os = (os.0, os.1, less gate qs i (omega arith) os.2)

  pub others_less : (gate : Gate T S R) (ps qs : List (Pass T S R g)) (i : ℕ) → qs ≡ remove ps i → i < length ps
      → AreOthers gate ps → AreOthers gate qs
  others_less gate ps qs i e h os =
      let Are : List (Pass T S R g) → Type 0 = λ rs. AreOthers gate rs in subst Are (sym e) (less gate ps i h os)

  pub other_at : (gate : Gate T S R) (ps : List (Pass T S R g)) (i : ℕ) (p : Pass T S R g) → i < length ps
      → p ≡ get_or ps i p → AreOthers gate ps → IsPassOf gate p × ((view p).name ≢ 0)
  other_at gate [] i p h e os = absurd (omega arith)
  other_at gate (q ∷ qs) zero p h e os =
      let Is : Pass T S R g → Type 0 = λ r. IsPassOf gate r × ((view r).name ≢ 0) in subst Is (sym e) (os.0, os.1)
  other_at gate (q ∷ qs) (suc i) p h e os = other_at gate qs i p (omega arith) e os.2

  -- ---- names

  among_new : (n : ℕ) (ps : List (Pass T S R g)) (p : Pass T S R g) → (view p).name ≡ n → IsAmong n (ps ++ p ∷ [])
  among_new n [] p is = inl is
  among_new n (q ∷ qs) p is = inr (among_new n qs p is)

  among_more : (n : ℕ) (ps qs : List (Pass T S R g)) → IsAmong n ps → IsAmong n (ps ++ qs)
  among_more n [] qs a = absurd a
  among_more n (p ∷ ps) qs (inl is) = inl is
  among_more n (p ∷ ps) qs (inr a) = inr (among_more n ps qs a)

  behind : (n : ℕ) (q : Pass T S R g) (qs : List (Pass T S R g)) (A : Type 0) → A ⊎ IsAmong n qs
      → A ⊎ IsAmong n (q ∷ qs)
  behind n q qs A (inl a) = inl a
  behind n q qs A (inr b) = inr (inr b)

  among_either : (n : ℕ) (ps : List (Pass T S R g)) (p : Pass T S R g) → IsAmong n (ps ++ p ∷ [])
      → ((view p).name ≡ n) ⊎ IsAmong n ps
  among_either n [] p (inl is) = inl is
  among_either n [] p (inr a) = absurd a
  among_either n (q ∷ qs) p (inl is) = inr (inl is)
  among_either n (q ∷ qs) p (inr a) = behind n q qs ((view p).name ≡ n) (among_either n qs p a)

  pub among_last : (ps qs : List (Pass T S R g)) (p : Pass T S R g) → ps ≡ qs ++ p ∷ [] → (n : ℕ) → IsAmong n ps
      → ((view p).name ≡ n) ⊎ IsAmong n qs
  among_last ps qs p e n a =
      let Among : List (Pass T S R g) → Type 0 = λ rs. IsAmong n rs in among_either n qs p (subst Among e a)

  among_but : (n : ℕ) (ps : List (Pass T S R g)) (i : ℕ) (p : Pass T S R g) → i < length ps → p ≡ get_or ps i p
      → IsAmong n ps → ((view p).name ≡ n) ⊎ IsAmong n (remove ps i)
  among_but n [] i p h e a = absurd a
  among_but n (q ∷ qs) zero p h e (inl is) = inl (ap (λ (r : Pass T S R g). (view r).name) e ∙ is)
  among_but n (q ∷ qs) zero p h e (inr a) = inr a
  among_but n (q ∷ qs) (suc i) p h e (inl is) = inr (inl is)
  among_but n (q ∷ qs) (suc i) p h e (inr a) =
      behind n q (remove qs i) ((view p).name ≡ n) (among_but n qs i p (omega arith) e a)

  pub among_less : (ps qs : List (Pass T S R g)) (i : ℕ) (p : Pass T S R g) → qs ≡ remove ps i → i < length ps
      → p ≡ get_or ps i p → (n : ℕ) → IsAmong n ps → ((view p).name ≡ n) ⊎ IsAmong n qs
  among_less ps qs i p e h is n a =
      let Left : List (Pass T S R g) → Type 0 = λ rs. ((view p).name ≡ n) ⊎ IsAmong n rs in
      subst Left (sym e) (among_but n ps i p h is a)

  -- ---- none is lost

  pub none_yet : (v : View T S R) (ps : List (Pass T S R g)) → IsFirst v → NoneIsLost v ps
  none_yet v ps first n pos le = let none : v.kids ≡ 0 = first.kids in absurd (omega arith)

  split : (v w : View T S R) (ps : List (Pass T S R g)) (p : Pass T S R g) → HasOneMore v w
      → (view p).name ≡ v.kids + 1 → NoneIsLost v ps → NoneIsLost w (ps ++ p ∷ [])
  split v w ps p more name none n pos le = dite (ℕ_discrete n (v.kids + 1))
      (λ new. inl (among_new n ps p (name ∙ sym new))) (λ old. by (none n pos (below old)))
    where
      below : (n ≡ v.kids + 1 → ⊥) → n ≤ v.kids
      below old = let kids : w.kids ≡ v.kids + 1 = more.kids in omega arith

      by : IsAmong n ps ⊎ WasJoined n v → IsAmong n (ps ++ p ∷ []) ⊎ WasJoined n w
      by (inl a) = inl (among_more n ps (p ∷ []) a)
      by (inr j) = inr (j.0, j.1, ap (λ (l : List (Joined S R)). get_elem? l j.0) more.joined ∙ j.2, j.3)

  pub none_by_split : (v w : View T S R) (ps qs : List (Pass T S R g)) (p : Pass T S R g) → qs ≡ ps ++ p ∷ []
      → HasOneMore v w → (view p).name ≡ v.kids + 1 → NoneIsLost v ps → NoneIsLost w qs
  none_by_split v w ps qs p e more name none =
      let Kept : List (Pass T S R g) → Type 0 = λ rs. NoneIsLost w rs in
      subst Kept (sym e) (split v w ps p more name none)

  -- one of the first passes is none of the second ones, and was joined
  pub none_by_join : (v u : View T S R) (c : Joined S R) (ps qs : List (Pass T S R g)) (name : ℕ) → u.kids ≡ v.kids
      → u.joined ≡ v.joined ++ c ∷ [] → c.name ≡ name
      → ((n : ℕ) → IsAmong n ps → (name ≡ n) ⊎ IsAmong n qs) → NoneIsLost v ps → NoneIsLost u qs
  none_by_join v u c ps qs name kids joined same left none n pos le = by (none n pos below)
    where
      below : n ≤ v.kids
      below = let k : u.kids ≡ v.kids = kids in omega arith

      moved : (name ≡ n) ⊎ IsAmong n qs → IsAmong n qs ⊎ WasJoined n u
      moved (inl is) = let r = elem_last v.joined c in
          inr (r.0, c, ap (λ (l : List (Joined S R)). get_elem? l r.0) joined ∙ r.1, same ∙ is)
      moved (inr a) = inl a

      by : IsAmong n ps ⊎ WasJoined n v → IsAmong n qs ⊎ WasJoined n u
      by (inl a) = moved (left n a)
      by (inr j) = inr (
        j.0,
        j.1,
        ap (λ (l : List (Joined S R)). get_elem? l j.0) joined
            ∙ elem_more v.joined (c ∷ []) j.0 j.1 j.2,
        j.3,
      )

  pub none_at_end : (v : View T S R) (ps qs : List (Pass T S R g)) → ps ≡ qs ++ [] → NoneIsLost v ps → NoneIsLost v qs
  none_at_end v ps qs e none =
      let Kept : List (Pass T S R g) → Type 0 = λ rs. NoneIsLost v rs in subst Kept (e ∙ append-nil qs) none

  pub all_joined : (v w : View T S R) (ps : List (Pass T S R g)) → ps ≡ [] → IsSame v w → NoneIsLost v ps → HasAll w
  all_joined v w ps e same none n pos le = by (subst Left e (none n pos below))
    where
      Left : List (Pass T S R g) → Type 0
      Left qs = IsAmong n qs ⊎ WasJoined n v

      below : n ≤ v.kids
      below = let k : w.kids ≡ v.kids = same.kids in omega arith

      by : IsAmong {g = g} n [] ⊎ WasJoined n v → WasJoined n w
      by (inl a) = absurd a
      by (inr j) = (j.0, j.1, ap (λ (l : List (Joined S R)). get_elem? l j.0) same.joined ∙ j.2, j.3)

-- What stands behind each step of a row, and what the whole row is.
use Rattle.std.proofs.Common.{◌≡◌, ℕ, zero, suc, ◌-◌, ◌<◌, ◌⊎◌, inl, inr, List, [], ◌∷◌, ◌++◌, map, sym, refl, ap, ◌∙◌}
use Rattle.std.proofs.Common.{subst, arith, append_assoc, append-nil}
use Rattle.std.specs.Prelude.{false, Option, Some, None, Result, Ok, Err, MatchResult}
use Rattle.turn_gate.specs.declared.gate.GateFault.{GateFault}
use Rattle.turn_gate.specs.declared.view.View.{View}
use Rattle.turn_gate.specs.History.{places, pairs_of}
use Rattle.turn_gate.specs.Table.{asking, giving}
use Rattle.turn_gate.specs.Passes.{IsSame, Failed, Committed, own_pairs}
use Rattle.turn_gate.specs.Rows.{GoesOn, StopsIn, AreCommitted, AreCutShort, HasDone}
use Rattle.turn_gate.proofs.Passing.{Like, committed_given, committed_asked, failed_before, committed_before}
use Rattle.turn_gate.proofs.Passing.{one_pair_more}

module _ {S R : Type 0} where
  replies : (ps : List (S × R)) (p : S × R) → map (λ q. q.1) (ps ++ p ∷ []) ≡ map (λ q. q.1) ps ++ p.1 ∷ []
  replies [] p = refl
  replies (q ∷ ps) p = ap (λ l. q.1 ∷ l) (replies ps p)

  module _ (further : R → Option S) where
    row_more : (k k' : ℕ) (s : S) (r : R) (qs : List (S × R)) → k ≡ suc k' → GoesOn further k' (further r) qs
        → GoesOn further k (Some s) ((s, r) ∷ qs)
    row_more k k' s r qs e g = subst (λ (n : ℕ). GoesOn further n (Some s) ((s, r) ∷ qs)) (sym e) (refl, g)

    cut_more : (k k' : ℕ) (s : S) (r : R) (qs : List (S × R)) → k ≡ suc k' → StopsIn further k' (further r) qs
        → StopsIn further k (Some s) ((s, r) ∷ qs)
    cut_more k k' s r qs e g = subst (λ (n : ℕ). StopsIn further n (Some s) ((s, r) ∷ qs)) (sym e) (refl, g)

    row_ends : (k : ℕ) (o : Option S) → (o ≡ None) ⊎ (k ≡ 0) → GoesOn further k o []
    row_ends k None e = refl
    row_ends zero (Some s) e = refl
    row_ends (suc k) (Some s) (inl e) = absurd (cc)
    row_ends (suc k) (Some s) (inr e) = absurd (omega arith)

-- no step comes, or the replies take no more
pub no_more : {S : Type 0} (o : Option S) (len cap : ℕ) → (o ≡ None) ⊎ (len ≡ cap) → (o ≡ None) ⊎ (cap - len ≡ 0)
no_more o len cap (inl e) = inl e
no_more o len cap (inr e) = inr (omega arith)

module _ {T S R : Type 0} (next : T → S → T × R) (t : T) where
  committed_more : (v u w : View T S R) (ps : List (S × R)) (s : S) (r : R) → AreCommitted next t v ps u
      → Committed next t u s r w → AreCommitted next t v (ps ++ (s, r) ∷ []) w
  committed_more v u w [] s r e c = (w, subst (λ (z : View T S R). Committed next t z s r w) e c, refl)
  committed_more v u w (p ∷ ps) s r d c = (d.0, d.1, committed_more d.0 u w ps s r d.2 c)

  -- a row before a step of it: the pairs so far, how they go on, and their replies
  pub record Going (further : R → Option S) (v : View T S R) (room : ℕ) (first : S) (before : List R) (k : ℕ) (s : S)
      (rs : List R) (u : View T S R) : Type 0 where
    pub ps : List (S × R)
    pub done : AreCommitted next t v ps u
    pub row : (qs : List (S × R)) → GoesOn further k (Some s) qs → GoesOn further room (Some first) (ps ++ qs)
    pub cut : (qs : List (S × R)) → StopsIn further k (Some s) qs → StopsIn further room (Some first) (ps ++ qs)
    pub items : rs ≡ before ++ map (λ p. p.1) ps

  module _ (further : R → Option S) (v : View T S R) (room : ℕ) (first : S) (before : List R) where
    pub going_first : Going further v room first before room first before v
    going_first = record {
      ps = [];
      done = refl;
      row = λ qs g. g;
      cut = λ qs g. g;
      items = sym (append-nil before);
    }

    items_more : (rs : List R) (ps : List (S × R)) (s : S) (r : R) → rs ≡ before ++ map (λ p. p.1) ps
        → rs ++ r ∷ [] ≡ before ++ map (λ p. p.1) (ps ++ (s, r) ∷ [])
    items_more rs ps s r e = ap (λ l. l ++ r ∷ []) e ∙ append_assoc before (map (λ p. p.1) ps) (r ∷ [])
        ∙ ap (λ l. before ++ l) (sym (replies ps (s, r)))

    -- one step more was done, and a further one is announced
    pub going_on : (k k' : ℕ) (s s' : S) (r : R) (rs rs' : List R) (u u' w : View T S R)
        → Going further v room first before k s rs u → k ≡ suc k' → Committed next t u s r u' → further r ≡ Some s'
        → w ≡ asking u' (Some s') → rs' ≡ rs ++ r ∷ [] → Going further v room first before k' s' rs' w
    going_on k k' s s' r rs rs' u u' w g e c is asked more = record {
      ps = g.ps ++ (s, r) ∷ [];
      done = committed_more v u w g.ps s r g.done (committed_asked next t u u' w s r (Some s') c asked);
      row = λ qs h. subst (λ l. GoesOn further room (Some first) l) (sym (append_assoc g.ps ((s, r) ∷ []) qs))
          (g.row ((s, r) ∷ qs) (row_more further k k' s r qs e
          (subst (λ (o : Option S). GoesOn further k' o qs) (sym is) h)));
      cut = λ qs h. subst (λ l. StopsIn further room (Some first) l) (sym (append_assoc g.ps ((s, r) ∷ []) qs))
          (g.cut ((s, r) ∷ qs) (cut_more further k k' s r qs e
          (subst (λ (o : Option S). StopsIn further k' o qs) (sym is) h)));
      items = more ∙ items_more rs g.ps s r g.items;
    }

    abbrev pub Whole : {X : Type 0} → Result X GateFault → List R → View T S R → Type 0
    Whole result rs w = (ps : List (S × R)) × HasDone next t further room v first result ps w
        × (rs ≡ before ++ map (λ p. p.1) ps)

    -- the last step was done
    pub going_through : {X : Type 0} (x : X) (k k' : ℕ) (s : S) (r : R) (rs rs' : List R) (u u' w : View T S R)
        → Going further v room first before k s rs u → k ≡ suc k' → Committed next t u s r u'
        → w ≡ giving u' false → (further r ≡ None) ⊎ (k' ≡ 0) → rs' ≡ rs ++ r ∷ [] → Whole (Ok x) rs' w
    going_through x k k' s r rs rs' u u' w g e c given end more = (
      g.ps ++ (s, r) ∷ [],
      (
        g.row ((s, r) ∷ []) (row_more further k k' s r [] e (row_ends further k' (further r) end)),
        committed_more v u w g.ps s r g.done (committed_given next t u u' w s r c given),
      ),
      more ∙ items_more rs g.ps s r g.items,
    )

    -- a step wasn't done
    pub going_fails : (X : Type 0) (fault : GateFault) (k k' : ℕ) (s : S) (rs : List R) (u w : View T S R)
        → Going further v room first before k s rs u → k ≡ suc k' → Failed u fault w → Whole {X = X} (Err fault) rs w
    going_fails X fault k k' s rs u w g e f = (
      g.ps,
      (
        subst (λ l. StopsIn further room (Some first) l) (append-nil g.ps)
            (g.cut [] (subst (λ (n : ℕ). StopsIn further n (Some s) []) (sym e) tt)),
        (u, g.done, f),
      ),
      g.items,
    )

    -- the first step wasn't done
    pub not_begun : (X : Type 0) (fault : GateFault) (w : View T S R) → 0 < room → Failed v fault w
        → Whole {X = X} (Err fault) before w
    not_begun X fault w pos f = let e : room ≡ suc (room - 1) = omega arith in
        going_fails X fault room (room - 1) first before v w going_first e f

    -- the row of a pass that has taken the slot is one of the pass before
    pub row_before : {X : Type 0} (v' w : View T S R) (result : Result X GateFault) (ps : List (S × R)) → 0 < room
        → Like next t v v' → HasDone next t further room v' first result ps w
        → HasDone next t further room v first result ps w
    row_before v' w (Ok x) ps pos l d = (d.0, ok room ps pos d.0 d.1)
      where
        ok : (n : ℕ) (ps : List (S × R)) → 0 < n → GoesOn further n (Some first) ps → AreCommitted next t v' ps w
            → AreCommitted next t v ps w
        ok zero ps pos g d = absurd (omega arith)
        ok (suc n) [] pos g d = absurd g
        ok (suc n) (p ∷ ps) pos g d = (d.0, committed_before next t v v' d.0 p.0 p.1 l d.1, d.2)
    row_before v' w (Err e) ps pos l d = (d.0, cut ps d.1)
      where
        cut : (ps : List (S × R)) → AreCutShort next t v' ps e w → AreCutShort next t v ps e w
        cut [] c = (v, refl, failed_before next t v v' w e l (subst (λ (z : View T S R). Failed z e w) c.1 c.2))
        cut (p ∷ ps) c = (c.0, (c.1.0, committed_before next t v v' c.1.0 p.0 p.1 l c.1.1, c.1.2), c.2)

  -- what a pass has behind a row
  pub record Owns (v : View T S R) (ps : List (S × R)) (w : View T S R) : Type 0 where
    pub pairs : own_pairs w ≡ own_pairs v ++ ps
    pub mine : w.mine ≡ places w.name w.seen
    pub same : IsSame v w

  owns_all : (v w : View T S R) (ps : List (S × R)) → v.mine ≡ places v.name v.seen → AreCommitted next t v ps w
      → Owns v ps w
  owns_all v w [] own e = subst (λ (z : View T S R). Owns v [] z) (sym e) record {
    pairs = sym (append-nil (own_pairs v));
    mine = own;
    same = record { name = refl; kids = refl; joined = refl };
  }
  owns_all v w (p ∷ ps) own d =
      let u : View T S R = d.0 in let c = d.1 in
      let mine : u.mine ≡ places u.name u.seen = c.mine ∙ ap (λ (n : ℕ). places n u.seen) (sym c.same.name) in
      let more = owns_all u w ps mine d.2 in record {
        pairs = more.pairs ∙ ap (λ l. l ++ ps) (one_pair_more next t v p.0 p.1 u own c)
            ∙ append_assoc (own_pairs v) (p ∷ []) ps;
        mine = more.mine;
        same = record {
          name = more.same.name ∙ c.same.name;
          kids = more.same.kids ∙ c.same.kids;
          joined = more.same.joined ∙ c.same.joined;
        };
      }

  owns_failed : (v u w : View T S R) (ps : List (S × R)) (e : GateFault) → Owns v ps u → Failed u e w → Owns v ps w
  owns_failed v u w ps e o f = let s = f.stood.same in record {
    pairs = (λ i. pairs_of (s.name i) (f.stood.seen i)) ∙ o.pairs;
    mine = f.stood.mine ∙ o.mine ∙ (λ i. places (sym s.name i) (sym f.stood.seen i));
    same = record { name = s.name ∙ o.same.name; kids = s.kids ∙ o.same.kids; joined = s.joined ∙ o.same.joined };
  }

  pub owns : {X : Type 0} (further : R → Option S) (n : ℕ) (v w : View T S R) (s : S) (result : Result X GateFault)
      (ps : List (S × R)) → v.mine ≡ places v.name v.seen → HasDone next t further n v s result ps w → Owns v ps w
  owns further n v w s (Ok x) ps own d = owns_all v w ps own d.1
  owns further n v w s (Err e) ps own d = owns_failed v d.1.0 w ps e (owns_all v d.1.0 ps own d.1.1) d.1.2

  -- the same of a single step
  pub owns_one : (v w : View T S R) (s : S) (result : Result R GateFault) → v.mine ≡ places v.name v.seen
      → MatchResult result (λ r. Committed next t v s r w) (λ e. Failed v e w)
      → MatchResult result (λ r. own_pairs w ≡ own_pairs v ++ (s, r) ∷ []) (λ e. own_pairs w ≡ own_pairs v)
      × (w.mine ≡ places w.name w.seen)
  owns_one v w s (Ok r) own c = let o = owns_all v w ((s, r) ∷ []) own (w, c, refl) in (o.pairs, o.mine)
  owns_one v w s (Err e) own f = let first = owns_all v v [] own refl in let o = owns_failed v v w [] e first f in
      (o.pairs ∙ append-nil (own_pairs v), o.mine)

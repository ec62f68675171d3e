-- What a change of one group does to what each group has.
use Rattle.std.proofs.Common.{◌≡◌, ℕ, List, [], ◌∷◌, Bool, true, false, cond, ◌&&◌, Option, Some, None}
use Rattle.std.proofs.Common.{refl, sym, ap, ◌∙◌, subst, rules, Result, Ok, Err, OnErr}
use Rattle.std.specs.Option.{IsSome}
use Rattle.std.specs.BTreeMap as tree
use Rattle.std.specs.BTreeMap.{BTreeMap, WritesThrough, is_at, insert_entry}
use Rattle.std.specs.declared.cmp.Ordering.{Ordering}
use Rattle.std.specs.declared.cmp.Ordering.TheVariants.{Less, Equal, Greater}
use Rattle.std.specs.Map.{lookup}
use Rattle.std.specs.Ordering.{match_ordering, eq_by_cmp}
use Rattle.pv_value.specs.Plain.{Plain}
use Rattle.pv_value.specs.Order.{order}
use Rattle.pv_words.specs.Parts.{same}
use Rattle.pv_marks.specs.MarkedOrder.{marked_order}
use Rattle.pv_marks.specs.Lemmas.MarkedOrderLaws.{marked_same}
use Rattle.ac_groups.specs.Kept.{Group, group_at, handle_in, facet_in, is_bare_of, is_bare, NoneBare}
use Rattle.ac_groups.proofs.Entries.{same_is}

-- new has w at o, where old has `was`
abbrev pub Rewrites : Plain → Option Group → Option Group → BTreeMap Plain Group → BTreeMap Plain Group → Type 0
Rewrites o was w old new = (group_at old o ≡ was) × ((q : Plain) → group_at new q ≡ cond (same o q) w (group_at old q))

-- what a map by marks has after a change is told by the values
by_values : (old new : BTreeMap Plain Group) (w : Option Group) (o key : Plain) → key ≡ o
    → ((q : Plain) → group_at new q ≡ cond (eq_by_cmp marked_order key q) w (group_at old q))
    → (q : Plain) → group_at new q ≡ cond (same o q) w (group_at old q)
by_values old new w o key one h q =
    h q ∙ ap (λ b. cond b w (group_at old q)) (marked_same key q ∙ ap (λ k. same k q) one)

-- written through what is lent
pub written : (old new : BTreeMap Plain Group) (o key : Plain) (was w : Group) → key ≡ o → Some was ≡ group_at old key
    → WritesThrough marked_order (marked_order key) old w new → Rewrites o (Some was) (Some w) old new
written old new o key was w one e h = (
  ap (group_at old) (sym one) ∙ sym e,
  by_values old new (Some w) o key one (h.3 (subst IsSome e (search rules))).0,
)

-- and then taken out
pub written_out : (old mid new : BTreeMap Plain Group) (o key : Plain) (was : Option Group) (w : Option Group) → key ≡ o
    → Rewrites o was w old mid
    → ((q : Plain) → group_at new q ≡ cond (eq_by_cmp marked_order key q) None (group_at mid q))
    → Rewrites o was None old new
written_out old mid new o key was w one r gone =
    (r.0, λ q. by (same o q) q (r.1 q) (by_values mid new None o key one gone q))
  where
    by : (b : Bool) (q : Plain) → group_at mid q ≡ cond b w (group_at old q)
        → group_at new q ≡ cond b None (group_at mid q) → group_at new q ≡ cond b None (group_at old q)
    by true q e f = f
    by false q e f = f ∙ e

-- nothing was there, and nothing is done
pub none_there : (old new : BTreeMap Plain Group) (o key : Plain) → key ≡ o → new ≡ old → group_at old key ≡ None
    → Rewrites o None None old new
none_there old new o key one is none =
    (none_at, λ q. ap (λ m. group_at m q) is ∙ by q (same o q) refl)
  where
    none_at : group_at old o ≡ None
    none_at = ap (group_at old) (sym one) ∙ none

    by : (q : Plain) (b : Bool) → same o q ≡ b → group_at old q ≡ cond b None (group_at old q)
    by q true e = ap (group_at old) (sym (same_is o q e)) ∙ none_at
    by q false e = refl

-- it is put where nothing was
pub put_there : (old mid new : BTreeMap Plain Group) (o key : Plain) (w : Group) → key ≡ o → mid ≡ old
    → group_at old key ≡ None
    → ((q : Plain) → group_at new q ≡ cond (eq_by_cmp marked_order key q) (Some w) (group_at mid q))
    → Rewrites o None (Some w) old new
put_there old mid new o key w one is none put = (
  ap (group_at old) (sym one) ∙ none,
  λ q. by_values mid new (Some w) o key one put q ∙ ap (λ m. cond (same o q) (Some w) (group_at m q)) is,
)

module _ (old new : BTreeMap Plain Group) (o : Plain) (was w : Option Group) (r : Rewrites o was w old new) where
  -- what is true of w at o, and of each group that stays
  each : (P : Plain → Option Group → Option Group → Type 0) → ((q : Plain) → same o q ≡ true → P q was w)
      → ((q : Plain) (x : Option Group) → same o q ≡ false → P q x x) → (q : Plain)
      → P q (group_at old q) (group_at new q)
  each P here others q = by (same o q) refl (r.1 q)
    where
      by : (b : Bool) → same o q ≡ b → group_at new q ≡ cond b w (group_at old q)
          → P q (group_at old q) (group_at new q)
      by true e f =
          let at : group_at old q ≡ was = ap (group_at old) (sym (same_is o q e)) ∙ r.0 in
          subst (λ x. P q x (group_at new q)) (sym at) (subst (λ x. P q was x) (sym f) (here q e))
      by false e f = subst (λ x. P q (group_at old q) x) (sym f) (others q (group_at old q) e)

  pub handle_set : (c : Plain) (x : Option ℕ) → ((d : Plain) → handle_in w d ≡ cond (same c d) x (handle_in was d))
      → (q d : Plain) → handle_in (group_at new q) d ≡ cond (same o q && same c d) x (handle_in (group_at old q) d)
  handle_set c x h q d =
      each (λ p y z. handle_in z d ≡ cond (same o p && same c d) x (handle_in y d))
      (λ p e. h d ∙ ap (λ b. cond (b && same c d) x (handle_in was d)) (sym e))
      (λ p y e. ap (λ b. cond (b && same c d) x (handle_in y d)) (sym e)) q

  pub handles_stay : ((d : Plain) → handle_in w d ≡ handle_in was d)
      → (q d : Plain) → handle_in (group_at new q) d ≡ handle_in (group_at old q) d
  handles_stay h q d = each (λ p y z. handle_in z d ≡ handle_in y d) (λ p e. h d) (λ p y e. refl) q

  pub facet_set : (y : Option ℕ) → facet_in w ≡ y
      → (q : Plain) → facet_in (group_at new q) ≡ cond (same o q) y (facet_in (group_at old q))
  facet_set y h =
      each (λ p x z. facet_in z ≡ cond (same o p) y (facet_in x))
      (λ p e. h ∙ ap (λ b. cond b y (facet_in was)) (sym e))
      (λ p x e. ap (λ b. cond b y (facet_in x)) (sym e))

  pub facets_stay : facet_in w ≡ facet_in was → (q : Plain) → facet_in (group_at new q) ≡ facet_in (group_at old q)
  facets_stay h = each (λ p x z. facet_in z ≡ facet_in x) (λ p e. h) (λ p x e. refl)

  pub none_bare : ((g : Group) → w ≡ Some g → is_bare g ≡ false) → NoneBare old → NoneBare new
  none_bare h was_none q =
      each (λ p x z. ((g : Group) → x ≡ Some g → is_bare g ≡ false) → (g : Group) → z ≡ Some g → is_bare g ≡ false)
      (λ p e b. h) (λ p x e b. b) q (was_none q)

pub nothing : (b : Bool) → ◌≡◌ {A = Option ℕ} None (cond b None None)
nothing true = refl
nothing false = refl

-- one handle alone
pub alone : (hs put : BTreeMap Plain ℕ) (k c d : Plain) (v : ℕ) → hs.entries ≡ [] → k ≡ c
    → tree.get order put d ≡ cond (same k d) (Some v) (tree.get order hs d)
    → tree.get order put d ≡ cond (same c d) (Some v) None
alone hs put k c d v none one is =
    is ∙ ap (λ x. cond (same x d) (Some v) (tree.get order hs d)) one
    ∙ ap (λ es. cond (same c d) (Some v) (lookup (is_at (order d)) es)) none

-- ---- by the answer

pub on_err : {X E P : Type 0} (r : Result X E) → P → OnErr r P
on_err (Ok x) p = tt
on_err (Err e) p = p

-- ---- what is left of a group

bare_none : (f : Option ℕ) (hs : List (Plain × ℕ)) → is_bare_of f hs ≡ true → (f ≡ None) × (hs ≡ [])
bare_none None [] e = (refl, refl)
bare_none None (h ∷ hs) e = absurd cc
bare_none (Some f) hs e = absurd cc

-- where nothing is left nothing is found
pub bare_handle : (g : Group) (d : Plain) → is_bare g ≡ true → None ≡ handle_in (Some g) d
bare_handle g d e = sym (ap (λ hs. lookup (is_at (order d)) hs) (bare_none g.facet g.handles.entries e).1)

pub bare_facet : (g : Group) → is_bare g ≡ true → None ≡ facet_in (Some g)
bare_facet g e = sym (bare_none g.facet g.handles.entries e).0

-- something is left
pub not_bare : (g : Group) → is_bare g ≡ false → (h : Group) → Some g ≡ Some h → is_bare h ≡ false
not_bare g e h is = let one : g ≡ h = cc in ap is_bare (sym one) ∙ e

pub never_bare : (h : Group) → None ≡ Some h → is_bare h ≡ false
never_bare h is = absurd cc

pub full : (f : Option ℕ) (k : Plain) (v : ℕ) (hs : List (Plain × ℕ)) → is_bare_of f (insert_entry order hs k v) ≡ false
full (Some f) k v hs = refl
full None k v [] = refl
full None k v (h ∷ hs) = by (order k h.0)
  where
    by : (o : Ordering)
        → is_bare_of None (match_ordering o ((k, v) ∷ h ∷ hs) ((h.0, v) ∷ hs) (h ∷ insert_entry order hs k v)) ≡ false
    by Less = refl
    by Equal = refl
    by Greater = refl

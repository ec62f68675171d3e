-- The place of an oid's binding, and bindings with one more.
use Rattle.std.proofs.Common.{◌≡◌, ℕ, zero, suc, List, [], ◌∷◌, ◌++◌, length, Bool, true, false, cond, Option, Some, None}
use Rattle.std.proofs.Common.{option_map, option_and_then, slice_get, is_some, refl, ap, sym, ◌∙◌, subst}
use Rattle.std.proofs.Common.{Bor, option_copied}
use Rattle.std.proofs.lemmas.Option.{slice_get_past, slice_get-get_or}
use Rattle.std.specs.Slice.{IsItemAt}
use Rattle.std.specs.BTreeMap.{is_at}
use Rattle.std.specs.Cmp.{eq_by_cmp_equiv}
use Rattle.pv_value.specs.Plain.{Plain}
use Rattle.pv_value.specs.Order.{order}
use Rattle.pv_value.specs.Lemmas.OrderLaws.{order_total}
use Rattle.pv_words.specs.Parts.{same}
use Rattle.pv_words.specs.Lemmas.Same.{same_is}
use Rattle.gk_sturdy.specs.Bindings.{Binding, binding_for, AreBoundOnce}
use Rattle.gk_sturdy.specs.Kept.{place_at, place_of, IsKept}

same_turns : (q r : Plain) → same q r ≡ same r q
same_turns q r = (eq_by_cmp_equiv order_total).symm q r

-- the binding at a place
abbrev pub binding_at : List Binding → Option ℕ → Option Binding
binding_at bs o = option_and_then (slice_get bs) o

-- what stands at a place of a slice
pub lent : (r : Option (Bor Binding)) (bs : List Binding) (i : ℕ) → IsItemAt bs i r → option_copied r ≡ slice_get bs i
lent None bs i h = sym (slice_get_past bs i h.3)
lent (Some b) bs i h = ap Some h.1 ∙ sym (slice_get-get_or bs i b.now h.3.0)

at_later : (b : Binding) (bs : List Binding) (o : Option ℕ) → binding_at (b ∷ bs) (option_map suc o) ≡ binding_at bs o
at_later b bs None = refl
at_later b bs (Some i) = refl

pub found : (oid : Plain) (bs : List Binding) → binding_for oid bs ≡ binding_at bs (place_of oid bs)
found oid [] = refl
found oid (b ∷ bs) = by (same oid b.oid) (found oid bs)
  where
    by : (t : Bool) → binding_for oid bs ≡ binding_at bs (place_of oid bs)
        → cond {A = Option Binding} t (Some b) (binding_for oid bs)
        ≡ binding_at (b ∷ bs) (cond {A = Option ℕ} t (Some zero) (option_map suc (place_of oid bs)))
    by true e = refl
    by false e = e ∙ sym (at_later b bs (place_of oid bs))

-- where there is no binding there is no place
pub no_place : (oid : Plain) (bs : List Binding) → binding_for oid bs ≡ None → place_of oid bs ≡ None
no_place oid [] e = refl
no_place oid (b ∷ bs) e = by (same oid b.oid) (no_place oid bs) e
  where
    by : (t : Bool) → (binding_for oid bs ≡ None → place_of oid bs ≡ None)
        → cond {A = Option Binding} t (Some b) (binding_for oid bs) ≡ None
        → cond {A = Option ℕ} t (Some zero) (option_map suc (place_of oid bs)) ≡ None
    by true h f = absurd cc
    by false h f = ap (option_map suc) (h f)

-- ---- one more

abbrev or_last : Option ℕ → Bool → ℕ → Option ℕ
or_last (Some i) t n = Some i
or_last None t n = cond t (Some n) None

place-append : (q : Plain) (b : Binding) (bs : List Binding)
    → place_of q (bs ++ b ∷ []) ≡ or_last (place_of q bs) (same q b.oid) (length bs)
place-append q b [] = refl
place-append q b (x ∷ bs) =
    by (same q x.oid) (place_of q (bs ++ b ∷ [])) (place_of q bs) (same q b.oid) (place-append q b bs)
  where
    by : (t : Bool) (o p : Option ℕ) (u : Bool) → o ≡ or_last p u (length bs)
        → cond {A = Option ℕ} t (Some zero) (option_map suc o)
        ≡ or_last (cond {A = Option ℕ} t (Some zero) (option_map suc p)) u (suc (length bs))
    by true o p u e = refl
    by false o (Some i) u e = ap (option_map suc) e
    by false o None true e = ap (option_map suc) e
    by false o None false e = ap (option_map suc) e

at_last : (q : Plain) (b : Binding) (o : Option ℕ) (t : Bool) (n : ℕ) → same q b.oid ≡ t → (q ≡ b.oid → o ≡ None)
    → or_last o t n ≡ cond t (Some n) o
at_last q b o true n e last = rw (last (same_is q b.oid e)) refl
at_last q b (Some i) false n e last = refl
at_last q b None false n e last = refl

-- the map that has this place at the oid, and at each other one what it had
abbrev pub Puts : List (Plain × ℕ) → List (Plain × ℕ) → Plain → ℕ → Type 0
Puts old new oid n = (q : Plain) → place_at q new ≡ cond (is_at (order oid) q) (Some n) (place_at q old)

placed_push : (old new : List (Plain × ℕ)) (b : Binding) (bs : List Binding)
    → ((q : Plain) → place_at q old ≡ place_of q bs) → place_of b.oid bs ≡ None → Puts old new b.oid (length bs)
    → (q : Plain) → place_at q new ≡ place_of q (bs ++ b ∷ [])
placed_push old new b bs placed absent puts q =
    puts q
    ∙ ap (cond (is_at (order b.oid) q) (Some (length bs))) (placed q)
    ∙ ap (λ t. cond t (Some (length bs)) (place_of q bs)) (same_turns b.oid q)
    ∙ sym (at_last q b (place_of q bs) (same q b.oid) (length bs) refl (λ e. ap (λ x. place_of x bs) e ∙ absent))
    ∙ sym (place-append q b bs)

not_first : (t : Bool) (b : Binding) (o : Option Binding) → cond {A = Option Binding} t (Some b) o ≡ None
    → (t ≡ false) × (o ≡ None)
not_first true b o e = absurd cc
not_first false b o e = (refl, e)

none_more : (q : Plain) (b : Binding) (bs : List Binding) → binding_for q bs ≡ None → same q b.oid ≡ false
    → binding_for q (bs ++ b ∷ []) ≡ None
none_more q b [] e f = rw f refl
none_more q b (x ∷ bs) e f = let h = not_first (same q x.oid) x (binding_for q bs) e in
    rw (h.0) (none_more q b bs h.1 f)

once_push : (b : Binding) (bs : List Binding) → AreBoundOnce bs → binding_for b.oid bs ≡ None
    → AreBoundOnce (bs ++ b ∷ [])
once_push b [] once absent = (refl, tt)
once_push b (x ∷ bs) once absent =
    let h = not_first (same b.oid x.oid) x (binding_for b.oid bs) absent in
    (none_more x.oid b bs once.0 (same_turns x.oid b.oid ∙ h.0), once_push b bs once.1 h.1)

pub kept_push : (list list' : List Binding) (old new : List (Plain × ℕ)) (b : Binding) → IsKept list old
    → binding_for b.oid list ≡ None → list' ≡ list ++ b ∷ [] → Puts old new b.oid (length list) → IsKept list' new
kept_push list list' old new b k absent is puts =
    subst (λ (l : List Binding). IsKept l new) (sym is) (record {
      once = once_push b list k.once absent;
      placed = placed_push old new b list k.placed (no_place b.oid list absent) puts;
    })

pub not_some : {A : Type 0} (o : Option A) → is_some o ≡ false → o ≡ None
not_some None e = refl
not_some (Some a) e = absurd cc

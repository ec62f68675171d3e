-- A holding goes behind those that are at its object and handle already, since its number is higher.
use Rattle.std.proofs.Common.{◌≡◌, ℕ, suc, ◌<◌, ◌≤◌, List, [], ◌∷◌, Bool, true, false, cond, length, map, refl, sym, ap}
use Rattle.std.proofs.Common.{◌∙◌, subst, arith}
use Rattle.std.specs.Prelude.{◌||◌, ◌&&◌, ◌==◌, nat_lt, if◌then◌else◌}
use Rattle.std.specs.List.{AllByRecursion}
use Rattle.std.specs.BTreeMap.{insert_entry}
use Rattle.std.specs.Ordering.{nat_cmp, ordering_then, match_ordering}
use Rattle.std.specs.declared.cmp.Ordering.{Ordering}
use Rattle.std.specs.declared.cmp.Ordering.TheVariants.{Less, Equal, Greater}
use Rattle.std.proofs.lemmas.Bool.Decides.{nat_tests}
use Rattle.pv_value.specs.Plain.{Plain}
use Rattle.rl_packet.specs.Holding.{is_before, insert_holding}
use Rattle.rl_packet.specs.Kept.{holding_at, IsNumbered, AreNumbered, IsPut}
use Rattle.rl_packet.specs.declared.holding.Holding.{Holding}
use Rattle.rl_packet.specs.declared.holding.Place.{Place}

abbrev Entries : Type 0
Entries = List (Place × Plain)

abbrev pub place_cmp : Place → Place → Ordering
place_cmp x y =
    ordering_then (nat_cmp x.oid y.oid) (ordering_then (nat_cmp x.handle y.handle) (nat_cmp x.number y.number))

-- ---- two places of which the second has the lower number

cmp_is : (a b c d e f : Bool) → e ≡ false → f ≡ false
    → ordering_then (cond a Less (cond b Equal Greater))
    (ordering_then (cond c Less (cond d Equal Greater)) (cond e Less (cond f Equal Greater)))
    ≡ cond (a || (b && c)) Less Greater
cmp_is true b c d e f x y = refl
cmp_is false false c d e f x y = refl
cmp_is false true true d e f x y = refl
cmp_is false true false false e f x y = refl
cmp_is false true false true false false x y = refl
cmp_is false true false true true f x y = absurd cc
cmp_is false true false true false true x y = absurd cc

not_less : (m n : ℕ) → n < m → nat_lt m n ≡ false
not_less m n l = grind (arith, nat_tests)

not_same : (m n : ℕ) → n < m → (m == n) ≡ false
not_same m n l = grind (arith, nat_tests)

-- ---- one more among others

module _ (cmp : Place → Place → Ordering) (same : (x y : Place) → cmp x y ≡ place_cmp x y) (p : Place) (v : Plain) where
  abbrev new : Holding
  new = holding_at (p, v)

  apart : (q : Place) (w : Plain) → q.number < p.number
      → cmp p q ≡ cond (is_before new (holding_at (q, w))) Less Greater
  apart q w l = same p q
      ∙ cmp_is (nat_lt p.oid q.oid) (p.oid == q.oid) (nat_lt p.handle q.handle) (p.handle == q.handle)
      (nat_lt p.number q.number) (p.number == q.number) (not_less p.number q.number l) (not_same p.number q.number l)

  put_here : (b : Bool) (e : Place × Plain) (es more : Entries) (hs : List Holding)
      → map holding_at more ≡ insert_holding new hs → map holding_at es ≡ hs
      → map holding_at (match_ordering (cond b Less Greater) ((p, v) ∷ e ∷ es) ((e.0, v) ∷ es) (e ∷ more))
      ≡ (if b then new ∷ holding_at e ∷ hs else holding_at e ∷ insert_holding new hs)
  put_here true e es more hs later are = ap (λ xs. new ∷ holding_at e ∷ xs) are
  put_here false e es more hs later are = ap (λ xs. holding_at e ∷ xs) later

  pub holdings_put : (es : Entries) → AllByRecursion (IsNumbered p.number) es
      → map holding_at (insert_entry cmp es p v) ≡ insert_holding new (map holding_at es)
  holdings_put [] all = refl
  holdings_put (e ∷ es) all =
      ap (λ o. map holding_at (match_ordering o ((p, v) ∷ e ∷ es) ((e.0, v) ∷ es) (e ∷ insert_entry cmp es p v)))
      (apart e.0 e.1 all.0)
      ∙ put_here (is_before new (holding_at e)) e es (insert_entry cmp es p v) (map holding_at es)
      (holdings_put es all.1) refl

  longer_here : (b : Bool) (e : Place × Plain) (es more : Entries) → length more ≡ suc (length es)
      → length (match_ordering (cond b Less Greater) ((p, v) ∷ e ∷ es) ((e.0, v) ∷ es) (e ∷ more)) ≡ suc (suc (length es))
  longer_here true e es more later = refl
  longer_here false e es more later = ap suc later

  pub one_longer : (es : Entries) → AllByRecursion (IsNumbered p.number) es
      → length (insert_entry cmp es p v) ≡ suc (length es)
  one_longer [] all = refl
  one_longer (e ∷ es) all =
      ap (λ o. length (match_ordering o ((p, v) ∷ e ∷ es) ((e.0, v) ∷ es) (e ∷ insert_entry cmp es p v)))
      (apart e.0 e.1 all.0)
      ∙ longer_here (is_before new (holding_at e)) e es (insert_entry cmp es p v) (one_longer es all.1)

  numbered_here : (m : ℕ) (o : Ordering) (e : Place × Plain) (es more : Entries) → p.number < m → IsNumbered m e
      → AllByRecursion (IsNumbered m) es → AllByRecursion (IsNumbered m) more
      → AllByRecursion (IsNumbered m) (match_ordering o ((p, v) ∷ e ∷ es) ((e.0, v) ∷ es) (e ∷ more))
  numbered_here m Less e es more l here all later = (l, (here, all))
  numbered_here m Equal e es more l here all later = (here, all)
  numbered_here m Greater e es more l here all later = (here, later)

  all_numbered : (m : ℕ) (es : Entries) → p.number < m → AllByRecursion (IsNumbered m) es
      → AllByRecursion (IsNumbered m) (insert_entry cmp es p v)
  all_numbered m [] l all = (l, tt)
  all_numbered m (e ∷ es) l all =
      numbered_here m (cmp p e.0) e es (insert_entry cmp es p v) l all.0 all.1 (all_numbered m es l all.1)

weaker : (n m : ℕ) (es : Entries) → n ≤ m → AllByRecursion (IsNumbered n) es → AllByRecursion (IsNumbered m) es
weaker n m [] l all = tt
weaker n m (e ∷ es) l all = (omega (arith, all.0, l), weaker n m es l all.1)

pub is_put : (cmp : Place → Place → Ordering) (p : Place) (v : Plain) (old new : Entries)
    → new ≡ insert_entry cmp old p v → p.number ≡ length old → ((x y : Place) → cmp x y ≡ place_cmp x y)
    → AreNumbered old → IsPut (holding_at (p, v)) old new
is_put cmp p v old new made number same are = record {
  holdings = ap (map holding_at) made ∙ holdings_put cmp same p v old below;
  numbered = subst (λ m. AllByRecursion (IsNumbered m) new) (sym long)
      (subst (AllByRecursion (IsNumbered (suc (length old)))) (sym made)
      (all_numbered cmp same p v (suc (length old)) old (omega arith)
      (weaker (length old) (suc (length old)) old (omega arith) are)));
}
  where
    below : AllByRecursion (IsNumbered p.number) old
    below = subst (λ m. AllByRecursion (IsNumbered m) old) (sym number) are

    long : length new ≡ suc (length old)
    long = ap length made ∙ one_longer cmp same p v old below

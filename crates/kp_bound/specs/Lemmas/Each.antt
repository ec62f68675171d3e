-- One for each record: one more, all of them, and the first that has none.
use Rattle.std.proofs.Common.{◌≡◌, ℕ, zero, suc, ◌+◌, ◌<◌, ◌≤◌, Bool, true, false, cond, List, [], ◌∷◌, ◌++◌, length}
use Rattle.std.proofs.Common.{take, map, slice_index_or, Option, Some, is_some, sym, ap, ◌∙◌, subst, arith, refl}
use Rattle.std.specs.declared.cmp.Ordering.{Ordering}
use Rattle.std.specs.declared.cmp.Ordering.TheVariants.{Less, Equal}
use Rattle.std.specs.List.{AllByRecursion}
use Rattle.std.specs.List.Sorted.{IsStrictlySortedBy}
use Rattle.std.proofs.lemmas.Cmp.{nat_list_cmp_total, tied_itself}
use Rattle.std.proofs.lemmas.List.{take_all}
use Rattle.pv_value.specs.Plain.{Plain}
use Rattle.pv_words.specs.Parts.{same}
use Rattle.pv_words.specs.Lemmas.Same.{same_is}
use Rattle.pv_canon.specs.Canonical.{canonical}
use Rattle.gk_sturdy.specs.declared.bound.Binding.{Binding}
use Rattle.gk_sturdy.specs.Bindings.{binding_for, bound, with_binding}
use Rattle.kp_keeper.specs.declared.records.Record.{Record}
use Rattle.kp_keeper.specs.Records.{Ascend, byte_order}
use Rattle.kp_bound.specs.Spelled.{Parts, HasParts, IsFirstBad, AreEach}
use Rattle.kp_bound.specs.Bound.{IsBindingOf, AreBindingsOf, IsShownOf}

module _ {X : Type 0} (Is : Record → X → Type 0) where
  more : (rs : List Record) (xs : List X) (i : ℕ) (d : Record) (x : X) → i < length rs
      → AreEach Is (take i rs) xs → Is (slice_index_or rs i d) x → AreEach Is (take (suc i) rs) (xs ++ x ∷ [])
  more [] xs i d x lt a h = absurd (omega arith)
  more (r ∷ rs) [] zero d x lt a h = (h, tt)
  more (r ∷ rs) (y ∷ ys) zero d x lt a h = absurd a
  more (r ∷ rs) [] (suc i) d x lt a h = absurd a
  more (r ∷ rs) (y ∷ ys) (suc i) d x lt a h = (a.0, more rs ys i d x (omega arith) a.1 h)

  pub one_more : (rs : List Record) (xs : List X) (i : ℕ) (d : Record) (x : X) → i < length rs
      → AreEach Is (take i rs) xs → Is (slice_index_or rs i d) x → AreEach Is (take (i + 1) rs) (xs ++ x ∷ [])
  one_more rs xs i d x lt a h =
      let n : suc i ≡ i + 1 = omega arith in
      subst (λ k. AreEach Is (take k rs) (xs ++ x ∷ [])) n (more rs xs i d x lt a h)

  pub all_there : (rs : List Record) (xs : List X) (i : ℕ) → length rs ≤ i → AreEach Is (take i rs) xs
      → AreEach Is rs xs
  all_there rs xs i le a = subst (λ l. AreEach Is l xs) (take_all i rs le) a

  pub first_bad : ((r : Record) (x : X) → Is r x → HasParts r) → (rs : List Record) (xs : List X) (i : ℕ) (d : Record)
      → i < length rs → AreEach Is (take i rs) xs → (HasParts (slice_index_or rs i d) → ⊥) → IsFirstBad rs i
  first_bad has [] xs i d lt a bad = absurd (omega arith)
  first_bad has (r ∷ rs) xs zero d lt a bad = bad
  first_bad has (r ∷ rs) [] (suc i) d lt a bad = absurd a
  first_bad has (r ∷ rs) (x ∷ xs) (suc i) d lt a bad =
      (has r x a.0, first_bad has rs xs i d (omega arith) a.1 bad)

pub bound_has : (r : Record) (b : Binding) → IsBindingOf r b → HasParts r
bound_has r b h = (h.0, h.1)

pub shown_has : (r : Record) (v : Plain) → IsShownOf r v → HasParts r
shown_has r v h = (h.0, h.1)

-- ---- no oid has two records

all_at : (P : List ℕ → Type 0) (rs : List Record) (i : ℕ) (d : Record) → AllByRecursion P (map (λ r. r.oid) rs)
    → i < length rs → P (slice_index_or rs i d).oid
all_at P [] i d a lt = absurd (omega arith)
all_at P (r ∷ rs) zero d a lt = a.0
all_at P (r ∷ rs) (suc i) d a lt = all_at P rs i d a.1 (omega arith)

apart : (a b : List ℕ) → byte_order a b ≡ Less → a ≡ b → ⊥
apart a b less e =
    let clash : Less ≡ Equal
    = sym less ∙ ap (byte_order a) (sym e) ∙ tied_itself nat_list_cmp_total a in cc

other : (r s : Record) (b c : Binding) → byte_order r.oid s.oid ≡ Less → IsBindingOf r c → IsBindingOf s b
    → b.oid ≡ c.oid → ⊥
other r s b c less h k e =
    apart r.oid s.oid less
    ((h.1).oid.0.form ∙ ap canonical (sym (ap (λ (x : Binding). x.oid) h.2) ∙ sym e ∙ ap (λ (x : Binding). x.oid) k.2)
    ∙ sym (k.1).oid.0.form)

pub unbound : (rs : List Record) (bs : List Binding) (i : ℕ) (d : Record) (b : Binding) → Ascend rs → i < length rs
    → AreBindingsOf (take i rs) bs → IsBindingOf (slice_index_or rs i d) b → bound b.oid bs ≡ false
unfolding IsStrictlySortedBy
unbound [] bs i d b s lt a h = absurd (omega arith)
unbound (r ∷ rs) [] zero d b s lt a h = refl
unbound (r ∷ rs) (c ∷ cs) zero d b s lt a h = absurd a
unbound (r ∷ rs) [] (suc i) d b s lt a h = absurd a
unbound (r ∷ rs) (c ∷ cs) (suc i) d b s lt a h =
    by (same b.oid c.oid) refl (unbound rs cs i d b s.1 (omega arith) a.1 h)
  where
    by : (t : Bool) → same b.oid c.oid ≡ t → bound b.oid cs ≡ false
        → is_some (cond {A = Option Binding} t (Some c) (binding_for b.oid cs)) ≡ false
    by true e k =
        absurd (other r (slice_index_or rs i d) b c
        (all_at (λ y. byte_order r.oid y ≡ Less) rs i d s.0 (omega arith)) a.0 h (same_is b.oid c.oid e))
    by false e k = k

-- the bindings with one more, whose oid has none
pub bound_more : (rs : List Record) (bs bs' : List Binding) (i : ℕ) (d : Record) (b : Binding) → Ascend rs
    → i < length rs → AreBindingsOf (take i rs) bs → IsBindingOf (slice_index_or rs i d) b
    → bs' ≡ with_binding b bs → AreBindingsOf (take (i + 1) rs) bs'
bound_more rs bs bs' i d b s lt a h is =
    subst (AreBindingsOf (take (i + 1) rs))
    (sym (is ∙ ap (λ t. cond {A = List Binding} t bs (bs ++ b ∷ [])) (unbound rs bs i d b s lt a h)))
    (one_more IsBindingOf rs bs i d b lt a h)

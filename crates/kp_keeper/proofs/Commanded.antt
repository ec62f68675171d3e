-- What commands leave, oid by oid.
use Rattle.std.proofs.Common.{◌≡◌, ℕ, ◌==◌, Bool, true, false, ◌||◌, ◌&&◌, not, List, [], ◌∷◌, if◌then◌else◌, refl, ap}
use Rattle.std.proofs.Common.{sym, ◌∙◌}
use Rattle.std.specs.declared.cmp.Ordering.{Ordering}
use Rattle.std.specs.declared.cmp.Ordering.TheVariants.{Less, Equal, Greater}
use Rattle.std.specs.Cmp.{eq_by_cmp_equiv}
use Rattle.std.specs.Cmp.Lexicographic.{same_text}
use Rattle.std.specs.Ordering.{match_ordering}
use Rattle.std.specs.Str.{bytes_eq}
use Rattle.std.proofs.lemmas.Cmp.{nat_list_cmp_total}
use Rattle.std.proofs.lemmas.Map.Lookups.{exact_bytes}
use Rattle.std.proofs.lemmas.Map.Text.{is_eq-slice_cmp}
use Rattle.std.proofs.lemmas.Map.Views.{any-filter_same}
use Rattle.kp_keeper.specs.Records.{Record, Ascend, byte_order, is_kept, with_record, without}
use Rattle.kp_keeper.specs.Commands.{Command, add, revoke, list, Ended, has_added, left_by, After, kept_by, kept_after}
use Rattle.kp_keeper.specs.Commands.{CommandsDecide}
use Rattle.kp_keeper.proofs.Places.{ascend_with, ascend_without}

or_turn : (a b c : Bool) → (a || (b || c)) ≡ (b || (a || c))
or_turn true true c = refl
or_turn true false c = refl
or_turn false b c = refl

or_twice : (a c : Bool) → (a || c) ≡ (a || (a || c))
or_twice true c = refl
or_twice false c = refl

turned : (a b : List ℕ) → bytes_eq a b ≡ bytes_eq b a
turned a b = sym (is_eq-slice_cmp a b) ∙ (eq_by_cmp_equiv nat_list_cmp_total).symm a b ∙ is_eq-slice_cmp b a

kept_with : (oid : List ℕ) (r : Record) (xs : List Record)
    → is_kept oid (with_record r xs) ≡ (bytes_eq r.oid oid || is_kept oid xs)
kept_with oid r [] = refl
kept_with oid r (x ∷ xs) = by (byte_order r.oid x.oid) refl (kept_with oid r xs)
  where
    rest : Bool
    rest = is_kept oid xs

    by : (o : Ordering) → byte_order r.oid x.oid ≡ o → is_kept oid (with_record r xs) ≡ (bytes_eq r.oid oid || rest)
        → is_kept oid (match_ordering o (r ∷ x ∷ xs) (x ∷ xs) (x ∷ with_record r xs))
        ≡ (bytes_eq r.oid oid || (bytes_eq x.oid oid || rest))
    by Less e h = refl
    by Equal e h =
        or_twice (bytes_eq x.oid oid) rest
        ∙ ap (λ o. bytes_eq o oid || (bytes_eq x.oid oid || rest)) (sym (exact_bytes r.oid x.oid e))
    by Greater e h =
        ap (λ b. bytes_eq x.oid oid || b) h ∙ or_turn (bytes_eq x.oid oid) (bytes_eq r.oid oid) rest

kept_without : (oid o : List ℕ) (xs : List Record)
    → is_kept oid (without o xs) ≡ (if bytes_eq o oid then false else is_kept oid xs)
kept_without oid o xs = by (bytes_eq o oid) refl
  where
    test : Record → Bool
    test r = bytes_eq r.oid oid

    stays : Record → Bool
    stays r = not (bytes_eq r.oid o)

    by : (b : Bool) → bytes_eq o oid ≡ b
        → is_kept oid (without o xs) ≡ (if b then false else is_kept oid xs)
    by true e =
        any-filter_same test stays false
        (λ r h. ap (λ q. not (bytes_eq r.oid q)) (same_text o oid (sym e)) ∙ ap not h) xs
    by false e =
        any-filter_same test stays true
        (λ r h. ap (λ q. not (bytes_eq q o)) (same_text r.oid oid (sym h)) ∙ ap not (turned oid o ∙ e)) xs

kept_left : (oid : List ℕ) (c : Command) (status : ℕ) (rs : List Record)
    → is_kept oid (left_by c status rs) ≡ kept_by oid c status (is_kept oid rs)
kept_left oid (add r) status rs = by (has_added status)
  where
    by : (b : Bool) → is_kept oid (if b then with_record r rs else rs)
        ≡ (if b then bytes_eq r.oid oid || is_kept oid rs else is_kept oid rs)
    by true = kept_with oid r rs
    by false = refl
kept_left oid (revoke o) status rs = by (status == 0)
  where
    by : (b : Bool) → is_kept oid (if b then without o rs else rs)
        ≡ (if b && bytes_eq o oid then false else is_kept oid rs)
    by true = kept_without oid o rs
    by false = refl
kept_left oid list status rs = refl

ascend_left : (c : Command) (status : ℕ) (rs : List Record) → Ascend rs → Ascend (left_by c status rs)
ascend_left (add r) status rs s = by (has_added status)
  where
    by : (b : Bool) → Ascend (if b then with_record r rs else rs)
    by true = ascend_with r rs s
    by false = s
ascend_left (revoke o) status rs s = by (status == 0)
  where
    by : (b : Bool) → Ascend (if b then without o rs else rs)
    by true = ascend_without o rs s
    by false = s
ascend_left list status rs s = s

pub decided : CommandsDecide
decided [] rs s = (s, λ oid. refl)
decided (e ∷ es) rs s =
    let h = decided es (left_by e.command e.status rs) (ascend_left e.command e.status rs s) in
    (h.0, λ oid. h.1 oid ∙ ap (kept_after oid es) (kept_left oid e.command e.status rs))

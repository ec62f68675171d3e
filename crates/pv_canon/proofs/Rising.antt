-- Forms that were appended in the order of the list, and whether they rise: whether each comes before the next one.
use Rattle.std.proofs.Common.{◌≡◌, ℕ, ◌-◌, ◌≤◌, Bool, true, false, ◌&&◌, List, [], ◌∷◌, ◌++◌, length, map, take, drop}
use Rattle.std.proofs.Common.{refl, sym, ap, ◌∙◌, subst, length-append, length-drop, arith}
use Rattle.std.proofs.Math.Seq.{take-length, drop-append_seam}
use Rattle.std.proofs.lemmas.List.{take-append-le, drop-append-le}
use Rattle.std.specs.declared.cmp.Ordering.{Ordering}
use Rattle.std.specs.declared.cmp.Ordering.TheVariants.{Less, Equal, Greater}
use Rattle.std.specs.Ordering.{is_lt, ordering_reverse, ordering_then}
use Rattle.std.proofs.lemmas.Cmp.{nat_list_cmp_total}
use Rattle.pv_canon.specs.Canonical.{sorted_by, insert_by, byte_order, form_order}

-- each of the keys comes before the next one, and the last one before the first of them
abbrev pub Rise : List ℕ → List (List ℕ) → Type 0
Rise last [] = Unit {0}
Rise last (k ∷ ks) = (is_lt (byte_order last k) ≡ true) × Rise k ks

-- ---- what rises is in order

less : (r : Ordering) → is_lt r ≡ true → r ≡ Less
less Less e = refl
less Equal e = cc
less Greater e = cc

not_before : (j k : List ℕ) → is_lt (byte_order j k) ≡ true → byte_order k j ≡ Greater
not_before j k e = nat_list_cmp_total.antisymm k j ∙ ap ordering_reverse (less (byte_order j k) e)

stays_first : (x : List ℕ) (xs : List (List ℕ)) → Rise x xs → insert_by byte_order x xs ≡ x ∷ xs
stays_first x [] r = refl
stays_first x (y ∷ ys) r = rw (not_before x y r.0) refl

pub rise_sorted : (last : List ℕ) (xs : List (List ℕ)) → Rise last xs → sorted_by byte_order xs ≡ xs
rise_sorted last [] r = refl
rise_sorted last (x ∷ xs) r =
    ap (λ (ys : List (List ℕ)). insert_by byte_order x ys) (rise_sorted x xs r.1) ∙ stays_first x xs r.1

abbrev pub keys : List (List ℕ × List ℕ) → List (List ℕ)
keys es = map (λ (e : List ℕ × List ℕ). e.0) es

entry_first : (e : List ℕ × List ℕ) (es : List (List ℕ × List ℕ)) → Rise e.0 (keys es) → insert_by form_order e es
    ≡ e ∷ es
entry_first e [] r = refl
entry_first e (f ∷ fs) r =
    let after : form_order f e ≡ Greater =
    ap (λ (o : Ordering). ordering_then o (byte_order f.1 e.1)) (not_before e.0 f.0 r.0) in
    rw after refl

pub rise_entries : (last : List ℕ) (es : List (List ℕ × List ℕ)) → Rise last (keys es) → sorted_by form_order es ≡ es
rise_entries last [] r = refl
rise_entries last (e ∷ es) r =
    ap (λ (fs : List (List ℕ × List ℕ)). insert_by form_order e fs) (rise_entries e.0 es r.1) ∙ entry_first e es r.1

-- ---- where they stand

-- the bytes from one place to another
abbrev pub between : List ℕ → ℕ → ℕ → List ℕ
between out from until = take (until - from) (drop from out)

-- the last key stands from one place of the bytes to another; where all rose so far and the other keys rise behind it,
-- they all rise
pub record RiseSoFar (out : List ℕ) (from until : ℕ) (rising : Bool) (more all : List (List ℕ)) : Type 0 where
  pub forward : from ≤ until
  pub inside : until ≤ length out
  pub rise : rising ≡ true → Rise (between out from until) more → Rise [] all

-- what is appended behind changes nothing
between_kept : (out more : List ℕ) (from until : ℕ) → from ≤ until → until ≤ length out
    → between (out ++ more) from until ≡ between out from until
between_kept out more from until f l =
    ap (λ (x : List ℕ). take (until - from) x) (drop-append-le from out more (omega arith))
    ∙ take_front (until - from) (drop from out) more (omega (arith, length-drop from out))
  where
    take_front : (n : ℕ) (xs ys : List ℕ) → n ≤ length xs → take n (xs ++ ys) ≡ take n xs
    take_front n xs ys h = rw (take-append-le n xs ys h) refl

-- what was appended
between_new : (out form : List ℕ) → between (out ++ form) (length out) (length (out ++ form)) ≡ form
between_new out form =
    let size : length (out ++ form) - length out ≡ length form = omega (arith, length-append out form) in
    ap (λ (x : List ℕ). take (length (out ++ form) - length out) x) (drop-append_seam out form)
    ∙ ap (λ (n : ℕ). take n form) size ∙ take-length form

and_both : (a b : Bool) → (a && b) ≡ true → (a ≡ true) × (b ≡ true)
and_both true b e = (refl, e)
and_both false b e = cc

take_none : (xs : List ℕ) → take 0 xs ≡ []
take_none [] = refl
take_none (x ∷ xs) = refl

-- nothing was appended yet
pub rise_first : (out : List ℕ) (n : ℕ) (all : List (List ℕ)) → n ≡ length out → RiseSoFar out n n true all all
rise_first out n all e = record {
  forward = omega arith;
  inside = omega arith;
  rise = λ t r.
      let zero_left : n - n ≡ 0 = omega arith in
      subst (λ (x : List ℕ). Rise x all) (ap (λ (k : ℕ). take k (drop n out)) zero_left ∙ take_none (drop n out)) r;
}

-- a key was appended
pub rise_next : (out form new seen : List ℕ) (from until next end : ℕ) (rising now : Bool) (more all : List (List ℕ))
    → RiseSoFar out from until rising (form ∷ more) all → new ≡ out ++ form → next ≡ length out → end ≡ length new
    → seen ≡ new → now ≡ (rising && is_lt (byte_order (between seen from until) (drop next seen)))
    → RiseSoFar new next end now more all
rise_next out form new seen from until next end rising now more all h is n e same_seen told = record {
  forward = omega (arith, ap (λ (x : List ℕ). length x) is, length-append out form);
  inside = omega arith;
  rise = λ t r.
      let test = told ∙ ap (λ (x : List ℕ). rising && is_lt (byte_order (between x from until) (drop next x)))
      same_seen in
      let both = and_both rising (is_lt (byte_order (between new from until) (drop next new))) (sym test ∙ t) in
      let last : between new from until ≡ between out from until =
      ap (λ (x : List ℕ). between x from until) is ∙ between_kept out form from until h.forward h.inside in
      let here : drop next new ≡ form =
      ap (λ (x : List ℕ). drop next x) is ∙ ap (λ (k : ℕ). drop k (out ++ form)) n ∙ drop-append_seam out form in
      let before : is_lt (byte_order (between out from until) form) ≡ true =
      ap (λ (x : List ℕ). is_lt (byte_order x form)) (sym last)
      ∙ ap (λ (x : List ℕ). is_lt (byte_order (between new from until) x)) (sym here) ∙ both.1 in
      let same : between new next end ≡ form =
      ap (λ (k : ℕ). between new next k) (e ∙ ap (λ (x : List ℕ). length x) is)
      ∙ ap (λ (k : ℕ). between new k (length (out ++ form))) n
      ∙ ap (λ (x : List ℕ). between x (length out) (length (out ++ form))) is ∙ between_new out form in
      h.rise both.0 (before, subst (λ (x : List ℕ). Rise x more) same r);
}

-- a value was appended behind its key
pub rise_behind : (out value new : List ℕ) (from until : ℕ) (rising : Bool) (more all : List (List ℕ))
    → RiseSoFar out from until rising more all → new ≡ out ++ value → RiseSoFar new from until rising more all
rise_behind out value new from until rising more all h is = record {
  forward = h.forward;
  inside = let l = h.inside in omega (arith, ap (λ (x : List ℕ). length x) is, length-append out value);
  rise = λ t r.
      let same = ap (λ (x : List ℕ). between x from until) is ∙ between_kept out value from until h.forward h.inside in
      h.rise t (subst (λ (x : List ℕ). Rise x more) same r);
}

-- the same, of equal keys
pub rise_more : (out : List ℕ) (from until : ℕ) (rising : Bool) (more same all : List (List ℕ)) → more ≡ same
    → RiseSoFar out from until rising more all → RiseSoFar out from until rising same all
rise_more out from until rising more same all e h =
    subst (λ (x : List (List ℕ)). RiseSoFar out from until rising x all) e h

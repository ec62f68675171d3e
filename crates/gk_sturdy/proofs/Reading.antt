-- Which values are references.
use Rattle.std.proofs.Common.{◌≡◌, ℕ, List, [], ◌∷◌, length, Bool, true, false, cond, Option, Some, None, codes}
use Rattle.std.proofs.Common.{refl, ap, sym, ◌∙◌, ◌++◌, ◌==◌, map, Result, Ok, Err, IfOk}
use Rattle.std.proofs.Common.{suc, arith}
use Rattle.std.proofs.lemmas.Bool.Decides.{nat_tests}
use Rattle.std.proofs.lemmas.List.{map-append}
use Rattle.pv_value.specs.View.{key_and_value}
use Rattle.pv_value.specs.Sets.{dictionary_from}
use Rattle.pv_value.specs.declared.Entry.{Entry}
use Rattle.pv_value.specs.Plain.{Plain, symbol, sequence, dictionary, plains, pairs, listed}
use Rattle.pv_value.specs.Lemmas.Listed.{listed-plains}
use Rattle.pv_words.specs.Words.{is_word, labelled}
use Rattle.sr_caveat.specs.Embedded.{has_embedded, any_embedded}
use Rattle.gk_sturdy.specs.Refs.{SturdyRef, ref_of, ref_with, ref_value, IsReadable, caveats_in, caveats_entry}
use Rattle.gk_sturdy.specs.Refs.{ref_entries}

pub other_word : (s : List ℕ) (fields : List Plain) → is_word s (codes "ref") ≡ false
    → ref_of (labelled s fields) ≡ None
other_word s [] e = refl
other_word s (dictionary ps ∷ []) e = rw e refl
other_word s (v ∷ []) e = refl
other_word s (dictionary ps ∷ w ∷ fields) e = refl
other_word s (v ∷ w ∷ fields) e = refl

pub not_one : (s : List ℕ) (fields : List Plain) → (length fields ≡ 1 → ⊥) → ref_of (labelled s fields) ≡ None
not_one s [] e = refl
not_one s (v ∷ []) e = absurd (e refl)
not_one s (dictionary ps ∷ w ∷ fields) e = refl
not_one s (v ∷ w ∷ fields) e = refl

-- ---- what is written is read

-- a value in which nothing is embedded
abbrev pub clear : {A : Type 0} → Bool → A → Option A
clear b a = cond b None (Some a)

clear_is : {A : Type 0} (b : Bool) (a : A) → b ≡ false → clear b a ≡ Some a
clear_is b a e = rw e refl

back : (oid : Plain) (sig : List ℕ) (cs : List Plain) → has_embedded oid ≡ false → any_embedded (plains cs) ≡ false
    → ref_of (ref_value (record { oid = oid; sig = sig; caveats = cs }))
    ≡ Some (record { oid = oid; sig = sig; caveats = cs })
back oid sig [] e f = ap (λ o. ref_with o (Some sig) (Some [])) (clear_is (has_embedded oid) oid e)
back oid sig (c ∷ cs) e f =
    (λ i. ref_with (clear_is (has_embedded oid) oid e i) (Some sig)
    (clear_is (any_embedded (plains (c ∷ cs))) (listed (plains (c ∷ cs))) f i))
    ∙ ap (λ l. ref_with (Some oid) (Some sig) (Some l)) (listed-plains (c ∷ cs))

-- a list in which nothing is embedded
pub list_in : (o : Option Plain) (v : Plain) (xs : List Plain) → o ≡ Some v → v ≡ sequence (plains xs)
    → has_embedded v ≡ false → Some xs ≡ caveats_in o
list_in o v xs there is none =
    sym (ap caveats_in (there ∙ ap Some is)
    ∙ clear_is (any_embedded (plains xs)) (listed (plains xs)) (sym (ap has_embedded is) ∙ none)
    ∙ ap Some (listed-plains xs))

pub read_back : (r : SturdyRef) → IsReadable r → ref_of (ref_value r) ≡ Some r
read_back r h = back r.oid r.sig r.caveats h.0 h.1

pub if_ok_back : {E : Type 0} (v : Result Plain E) (r : SturdyRef) → IfOk v (λ w. w ≡ ref_value r) → IsReadable r
    → IfOk v (λ w. ref_of w ≡ Some r)
if_ok_back (Ok w) r is h = ap ref_of is ∙ read_back r h
if_ok_back (Err e) r is h = tt

-- ---- what is written

made_of : (oid : Plain) (sig : List ℕ) (cs : List Plain)
    → dictionary_from (ref_entries (record { oid = oid; sig = sig; caveats = cs }))
    ≡ Some (dictionary (pairs (ref_entries (record { oid = oid; sig = sig; caveats = cs }))))
unfolding dictionary_from
made_of oid sig [] = refl
made_of oid sig (c ∷ cs) = refl

-- the keys ascend
pub made : (r : SturdyRef) → dictionary_from (ref_entries r) ≡ Some (dictionary (pairs (ref_entries r)))
made r = made_of r.oid r.sig r.caveats

not_none : (n : ℕ) → (suc n == 0) ≡ false
not_none n = grind (arith, nat_tests)

pub no_entry : (cs : List Plain) → (length cs == 0) ≡ true → caveats_entry cs ≡ []
no_entry [] e = refl
no_entry (c ∷ cs) e = let f : true ≡ false = sym e ∙ not_none (length cs) in absurd cc

pub one_entry : (cs : List Plain) → (length cs == 0) ≡ false
    → caveats_entry cs ≡ (symbol (codes "caveats"), sequence (plains cs)) ∷ []
one_entry [] e = absurd cc
one_entry (c ∷ cs) e = refl

append-two : {A : Type 0} (xs : List A) (a b : A) → (xs ++ a ∷ []) ++ b ∷ [] ≡ xs ++ a ∷ b ∷ []
append-two [] a b = refl
append-two (x ∷ xs) a b = ap (λ ys. x ∷ ys) (append-two xs a b)

-- two entries behind others
pub two_more : (es : List Entry) (e f : Entry)
    → map key_and_value ((es ++ e ∷ []) ++ f ∷ []) ≡ map key_and_value es ++ key_and_value e ∷ key_and_value f ∷ []
two_more es e f = ap (map key_and_value) (append-two es e f) ∙ map-append key_and_value es (e ∷ f ∷ [])

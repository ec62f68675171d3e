-- Forms one by one: appended one behind another, and cut apart again.
use Rattle.std.proofs.Common.{◌≡◌, ℕ, ◌+◌, ◌<◌, ◌≤◌, List, [], ◌∷◌, ◌++◌, length, map, drop, get_or, sym, ap, ◌∙◌}
use Rattle.std.proofs.Common.{append_assoc}
use Rattle.std.proofs.Math.Seq.{drop-append_seam}
use Rattle.std.proofs.lemmas.List.{drop_more, map-append}
use Rattle.std.proofs.Math.ListN.{drop_of_length-le}
use Rattle.std.specs.List.{concat}
use Rattle.pv_value.specs.Plain.{Plain, plains, pairs}
use Rattle.pv_value.specs.View.{key_and_value}
use Rattle.pv_value.specs.declared.Entry.{Entry}
use Rattle.pv_canon.specs.Canonical.{canonical, forms, entry_forms}

abbrev pub forms_from : ℕ → List Plain → List (List ℕ)
forms_from i xs = forms (plains (drop i xs))

abbrev pub entries_from : ℕ → List Entry → List (List ℕ × List ℕ)
entries_from i es = entry_forms (pairs (map key_and_value (drop i es)))

-- the next one in front of the others
pub forms_next : (xs : List Plain) (i : ℕ) (x : Plain) → i < length xs → x ≡ get_or xs i x
    → forms_from i xs ≡ canonical x ∷ forms_from (i + 1) xs
forms_next xs i x h e =
    ap (λ (ys : List Plain). forms (plains ys))
    (drop_more xs i x h ∙ ap (λ (y : Plain). y ∷ drop (i + 1) xs) (sym e))

pub entries_next : (es : List Entry) (i : ℕ) (e : Entry) → i < length es → e ≡ get_or es i e
    → entries_from i es ≡ (canonical e.key, canonical e.value) ∷ entries_from (i + 1) es
entries_next es i e h is =
    ap (λ (ds : List Entry). entry_forms (pairs (map key_and_value ds)))
    (drop_more es i e h ∙ ap (λ (d : Entry). d ∷ drop (i + 1) es) (sym is))

-- what is behind equal bytes is equal
pub behind_is : (a r s : List ℕ) → a ++ r ≡ a ++ s → r ≡ s
behind_is a r s e =
    sym (drop-append_seam a r) ∙ ap (λ (x : List ℕ). drop (length a) x) e ∙ drop-append_seam a s

-- one more was cut off and kept
pub cut_step : {V A : Type 0} (f : V → A) (vs new : List V) (v : V) (a : A) (more all : List A) → new ≡ vs ++ v ∷ []
    → f v ≡ a → map f vs ++ a ∷ more ≡ all → map f new ++ more ≡ all
cut_step {V} {A} f vs new v a more all is e h =
    ap (λ (x : List V). map f x ++ more) is ∙ ap (λ (x : List A). x ++ more) (map-append f vs (v ∷ []))
    ∙ append_assoc (map f vs) (f v ∷ []) more ∙ ap (λ (y : A). map f vs ++ y ∷ more) e ∙ h

-- one more was appended
pub append_step : (out new form : List ℕ) (now more : List (List ℕ)) (all : List ℕ) → new ≡ out ++ form
    → now ≡ form ∷ more → out ++ concat now ≡ all → new ++ concat more ≡ all
append_step out new form now more all is e h =
    ap (λ (x : List ℕ). x ++ concat more) is ∙ append_assoc out form (concat more)
    ∙ ap (λ (x : List (List ℕ)). out ++ concat x) (sym e) ∙ h

-- none is left
pub forms_over : (xs : List Plain) (i : ℕ) → length xs ≤ i → forms_from i xs ≡ []
forms_over xs i h = ap (λ (ys : List Plain). forms (plains ys)) (drop_of_length-le xs h)

pub entries_over : (es : List Entry) (i : ℕ) → length es ≤ i → entries_from i es ≡ []
entries_over es i h = ap (λ (ds : List Entry). entry_forms (pairs (map key_and_value ds))) (drop_of_length-le es h)

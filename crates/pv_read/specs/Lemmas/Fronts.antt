-- What was read before, and what is read now.
use Rattle.std.proofs.Common.{◌≡◌, ℕ, List, ◌++◌, None, Result, Ok, Err, refl, sym, ◌∙◌, ap, append_assoc}
use Rattle.std.specs.Result.{result_ok}
use Rattle.pv_read.specs.Results.{◌>>=◌}

-- ---- a list

abbrev pub with_front : {A E : Type 0} → List A → Result (List A) E → Result (List A) E
with_front front read = read >>= λ x. Ok (front ++ x)

abbrev pub done : {A E : Type 0} → A → Result A E
done a = Ok a

pub with_front_more : {A E : Type 0} (front new : List A) (o : Result (List A) E)
    → with_front (front ++ new) o ≡ with_front front (with_front new o)
with_front_more front new (Err f) = refl
with_front_more {A} {E} front new (Ok r) = ap (λ (ys : List A). done {E = E} ys) (append_assoc front new r)

-- where what is read now fails, the whole gives none
pub front_fail : {A E : Type 0} (front : List A) (o all : Result (List A) E) (f : E) → with_front front o ≡ all
    → o ≡ Err f
    → None ≡ result_ok all
front_fail {A} {E} front o all f i e =
    sym (ap (λ (p : Result (List A) E). result_ok p) (sym i ∙ ap (λ p. with_front front p) e))

-- ---- a list, and the bytes after it

abbrev pub behind_front : {A E : Type 0} → List A → Result (List A × List ℕ) E → Result (List A × List ℕ) E
behind_front front read = read >>= λ x. Ok (front ++ x.0, x.1)

pub behind_front_more : {A E : Type 0} (front new : List A) (o : Result (List A × List ℕ) E)
    → behind_front (front ++ new) o ≡ behind_front front (behind_front new o)
behind_front_more front new (Err f) = refl
behind_front_more {A} {E} front new (Ok r) = ap (λ (ys : List A). done {E = E} (ys, r.1)) (append_assoc front new r.0)

-- What a chain of readers gave or where it failed, part by part.
use Rattle.std.proofs.Common.{◌≡◌, ℕ, eqb, Bool, true, false, cond, List, ◌∷◌, Result, Ok, Err, refl, sym, ap, subst}
use Rattle.std.proofs.Common.{inl, inr, ◌⊎◌}
use Rattle.std.proofs.lemmas.Bool.{eqb-true}
use Rattle.pv_read.specs.Results.{◌>>=◌, Fault, within}

abbrev pub ok : {A E : Type 0} → A → Result A E
ok a = Ok a

abbrev pub err : {A E : Type 0} → E → Result A E
err e = Err e

abbrev pub ok_pair : {A B E : Type 0} → A → B → Result (A × B) E
ok_pair a b = Ok (a, b)

abbrev got : {A E : Type 0} → A → Result A E → A
got a (Ok x) = x
got a (Err e) = a

abbrev fault_or : {A E : Type 0} → E → Result A E → E
fault_or e (Ok x) = e
fault_or e (Err f) = f

pub ok_same : {A E : Type 0} (a b : A) → ok {A = A} {E = E} a ≡ ok b → a ≡ b
ok_same {A} {E} a b e = ap (λ (o : Result A E). got a o) e

pub err_same : {A E : Type 0} (a b : E) → err {A = A} {E = E} a ≡ err b → a ≡ b
err_same {A} {E} a b e = ap (λ (o : Result A E). fault_or a o) e

pub parts : {A B E : Type 0} (a c : A) (b d : B) → ok_pair {A = A} {B = B} {E = E} a b ≡ ok_pair c d → (a ≡ c) × (b ≡ d)
parts {A} {B} {E} a c b d e =
    (ap (λ (o : Result (A × B) E). (got (a, b) o).0) e, ap (λ (o : Result (A × B) E). (got (a, b) o).1) e)

pub bind_ok : {A B E : Type 0} (o : Result A E) (f : A → Result B E) (y : B) → (o >>= f) ≡ Ok y
    → (x : A) × (o ≡ Ok x) × (f x ≡ Ok y)
bind_ok (Err k) f y e = cc
bind_ok (Ok x) f y e = (x, refl, e)

pub bind_err : {A B E : Type 0} (o : Result A E) (f : A → Result B E) (e : E) → (o >>= f) ≡ Err e
    → (o ≡ Err e) ⊎ ((x : A) × (o ≡ Ok x) × (f x ≡ Err e))
bind_err {A} {B} {E} (Err k) f e h = inl (ap (λ (x : E). err {A = A} x) (err_same {A = B} k e h))
bind_err (Ok x) f e h = inr (x, refl, h)

pub within_ok : {A K : Type 0} (place : ℕ) (o : Result A K) (x : A) → within place o ≡ Ok x → o ≡ Ok x
within_ok place (Err k) x e = cc
within_ok {A} {K} place (Ok y) x e = ap (λ (a : A). ok {E = K} a) (ok_same {E = Fault K} y x e)

pub within_err : {A K : Type 0} (place : ℕ) (o : Result A K) (f : Fault K) → within place o ≡ Err f
    → (o ≡ Err f.kind) × (f.place ≡ place)
within_err place (Ok x) f e = cc
within_err {A} {K} place (Err k) f e =
    let p = err_same {A = A} (record { kind = k; place = place }) f e in
    (ap (λ (x : Fault K). err {A = A} x.kind) p, sym (ap (λ (x : Fault K). x.place) p))

pub chosen : {A : Type 0} (b : Bool) (x y z : A) → cond b x y ≡ z → ((b ≡ true) × (x ≡ z)) ⊎ ((b ≡ false) × (y ≡ z))
chosen true x y z e = inl (refl, e)
chosen false x y z e = inr (refl, e)

-- ---- what holds of an answer, and what of a fault

abbrev pub Told : {A E : Type 0} → (A → Type 0) → (E → Type 0) → Result A E → Type 0
Told P Q (Ok x) = P x
Told P Q (Err k) = Q k

pub told_cond : {A E : Type 0} (P : A → Type 0) (Q : E → Type 0) (t : Bool) (a b : Result A E)
    → (t ≡ true → Told P Q a) → (t ≡ false → Told P Q b) → Told P Q (cond t a b)
told_cond P Q true a b h k = h refl
told_cond P Q false a b h k = k refl

pub told_bind : {A B E : Type 0} (P : B → Type 0) (Q : E → Type 0) (o : Result A E) (f : A → Result B E)
    → ((x : A) → o ≡ Ok x → Told P Q (f x)) → ((k : E) → o ≡ Err k → Q k) → Told P Q (o >>= f)
told_bind P Q (Ok x) f h k = h x refl
told_bind P Q (Err e) f h k = k e refl

pub told_ok : {A E : Type 0} (P : A → Type 0) (Q : E → Type 0) (o : Result A E) (x : A) → Told P Q o → o ≡ Ok x → P x
told_ok {A} {E} P Q (Ok y) x h e = subst P (ok_same {E = E} y x e) h
told_ok P Q (Err k) x h e = cc

pub told_err : {A E : Type 0} (P : A → Type 0) (Q : E → Type 0) (o : Result A E) (k : E) → Told P Q o → o ≡ Err k → Q k
told_err P Q (Ok y) k h e = cc
told_err {A} P Q (Err j) k h e = subst Q (err_same {A = A} j k e) h

-- what is told of bytes that begin so is told of those that begin with an equal character
pub told_first : {A E : Type 0} (P : List ℕ → A → Type 0) (Q : List ℕ → E → Type 0) (b c : ℕ) (bs : List ℕ)
    (o : Result A E)
    → eqb b c ≡ true → Told (P (c ∷ bs)) (Q (c ∷ bs)) o → Told (P (b ∷ bs)) (Q (b ∷ bs)) o
told_first P Q b c bs o e h = subst (λ (x : ℕ). Told (P (x ∷ bs)) (Q (x ∷ bs)) o) (sym (eqb-true b c e)) h

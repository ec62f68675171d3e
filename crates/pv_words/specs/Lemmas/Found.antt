-- What holds of what is found.
use Rattle.std.proofs.Common.{◌≡◌, ℕ, Bool, true, false, List, ◌++◌, length, Option, Some, None, option_map}
use Rattle.std.proofs.Common.{is_some, cond, refl, sym, ap, ◌∙◌}
use Rattle.std.proofs.lemmas.Slice.Eq.{bytes_eq-Decides}
use Rattle.pv_value.specs.Plain.{Plain}
use Rattle.pv_words.specs.Parts.{both}
use Rattle.pv_words.specs.Words.{is_word}

-- a fact about what is there
abbrev pub If : {A : Type 0} → Option A → (A → Type 0) → Type 0
If None P = Unit {0}
If (Some x) P = P x

pub if_cond : {A : Type 0} (P : A → Type 0) (b : Bool) (o p : Option A) → If o P → If p P
    → If (cond {A = Option A} b o p) P
if_cond P true o p h k = h
if_cond P false o p h k = k

pub if_map : {A B : Type 0} (f : A → B) (P : A → Type 0) (Q : B → Type 0) (o : Option A) → ((a : A) → P a → Q (f a))
    → If o P → If (option_map f o) Q
if_map f P Q None h k = tt
if_map f P Q (Some a) h k = h a k

-- where it is the word, and where it isn't
pub if_word : {A : Type 0} (P : A → Type 0) (s word : List ℕ) (o p : Option A) → (s ≡ word → If o P) → If p P
    → If (cond {A = Option A} (is_word s word) o p) P
if_word P s word o p h k = by (is_word s word) refl
  where
    by : (b : Bool) → is_word s word ≡ b → If (cond {A = Option _} b o p) P
    by true e = h ((bytes_eq-Decides s word).0 e)
    by false e = k

-- where two lists are found, they are found behind one another
pub if_both : (P Q R : List Plain → Type 0) (m n : Option (List Plain))
    → ((ds es : List Plain) → P ds → Q es → R (ds ++ es)) → If m P → If n Q → If (both m n) R
if_both P Q R None n f a b = tt
if_both P Q R (Some ds) None f a b = tt
if_both P Q R (Some ds) (Some es) f a b = f ds es a b

-- ---- what is found is this

pub found_is : {A : Type 0} (o : Option A) (x : A) → If o (λ y. y ≡ x) → is_some o ≡ true → Some x ≡ o
found_is None x h e = cc
found_is (Some y) x h e = ap Some (sym h)

pub counted_is : {A : Type 0} (o : Option (List A)) (n : ℕ) (xs : List A) → If o (λ ys. length ys ≡ n) → o ≡ Some xs
    → length xs ≡ n
counted_is None n xs h e = absurd cc
counted_is (Some ys) n xs h e = let f : ys ≡ xs = cc in sym (ap length f) ∙ h

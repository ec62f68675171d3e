-- Parts that stand for bytes, and one part more.
use Rattle.std.proofs.Common.{◌≡◌, ◌≢◌, ℕ, Bor, map, Bool, true, false, ◌++◌, ◌∷◌, [], List, refl, ap, sym, ◌∙◌}
use Rattle.std.proofs.Common.{append_assoc, append-nil}
use Rattle.std.proofs.lemmas.List.{map-append}
use Rattle.row_cases.specs.Forms.{PartByPart, AreEscaped, IsEscape, IsPart}

pub parts_more : (Is : List ℕ → List ℕ → Type 0) (parts : List (List ℕ)) (part bytes b s : List ℕ)
    → PartByPart Is parts bytes → Is part b → s ≡ bytes ++ b → PartByPart Is (parts ++ part ∷ []) s
parts_more Is [] part bytes b s h is e = (b, [], is, refl, e ∙ ap (λ t. t ++ b) h ∙ sym (append-nil b))
parts_more Is (p ∷ ps) part bytes b s h is e =
    let more : PartByPart Is (ps ++ part ∷ []) (h.1 ++ b) = parts_more Is ps part h.1 b (h.1 ++ b) h.3 is refl in
    (h.0, h.1 ++ b, h.2, more, e ∙ ap (λ t. t ++ b) h.4 ∙ append_assoc h.0 h.1 b)

-- the parts so far, and whether there are any
pub record ArePartsSoFar (is_behind : Bool) (parts : List (List ℕ)) (bytes : List ℕ) : Type 0 where
  pub none : is_behind ≡ false → parts ≡ []
  pub some : is_behind ≡ true → parts ≢ []
  pub escaped : AreEscaped parts bytes

escaped_first : (parts : List (List ℕ)) (part bytes b s : List ℕ) → parts ≡ [] → AreEscaped parts bytes
    → b ≡ part → s ≡ bytes ++ b → AreEscaped (parts ++ part ∷ []) s
escaped_first [] part bytes b s none h is e = ([], refl, e ∙ ap (λ t. t ++ b) h ∙ is ∙ sym (append-nil part))
escaped_first (p ∷ ps) part bytes b s none h is e = absurd cc

escaped_later : (parts : List (List ℕ)) (part bytes b s : List ℕ) → parts ≢ [] → AreEscaped parts bytes
    → IsEscape part b → s ≡ bytes ++ b → AreEscaped (parts ++ part ∷ []) s
escaped_later [] part bytes b s some h is e = absurd (some refl)
escaped_later (p ∷ ps) part bytes b s some h is e =
    let more : PartByPart IsEscape (ps ++ part ∷ []) (h.0 ++ b) = parts_more IsEscape ps part h.0 b (h.0 ++ b) h.1 is
    refl in
    (h.0 ++ b, more, e ∙ ap (λ t. t ++ b) h.2 ∙ append_assoc p h.0 b)

some_now : (parts : List (List ℕ)) (part : List ℕ) → parts ++ part ∷ [] ≢ []
some_now [] part e = cc
some_now (p ∷ ps) part e = cc

pub parts_so_far_more : (is_behind : Bool) (parts : List (List ℕ)) (part bytes b s : List ℕ)
    → ArePartsSoFar is_behind parts bytes → IsPart is_behind part b → s ≡ bytes ++ b
    → ArePartsSoFar true (parts ++ part ∷ []) s
parts_so_far_more false parts part bytes b s so is e = record {
  none = λ f. absurd cc;
  some = λ _. some_now parts part;
  escaped = escaped_first parts part bytes b s (so.none refl) so.escaped is e;
}
parts_so_far_more true parts part bytes b s so is e = record {
  none = λ f. absurd cc;
  some = λ _. some_now parts part;
  escaped = escaped_later parts part bytes b s (so.some refl) so.escaped is e;
}

-- the texts that references point to, and one more
pub now_more : (xs : List (Bor (List ℕ))) (x : Bor (List ℕ))
    → map (λ y. y.now) (xs ++ x ∷ []) ≡ map (λ y. y.now) xs ++ x.now ∷ []
now_more xs x = map-append (λ y. y.now) xs (x ∷ [])

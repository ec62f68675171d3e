-- The connections of a report are told one after another.
use Rattle.std.proofs.Common.{◌≡◌, ℕ, suc, ◌+◌, ◌<◌, List, [], ◌∷◌, ◌++◌, length, take, get_or, refl, sym, ap, ◌∙◌}
use Rattle.std.proofs.Common.{arith}
use Rattle.std.proofs.lemmas.List.{take_more}
use Rattle.pv_value.specs.Plain.{Plain}
use Rattle.sc_report.specs.Reports.{ConnectionState, connection_value, connection_values}

count : (k : ℕ) (cs : List ConnectionState) → length (connection_values k cs) ≡ length cs
count k [] = refl
count k (c ∷ cs) = ap suc (count (k + 1) cs)

one_more : (k : ℕ) (cs : List ConnectionState) (c : ConnectionState)
    → connection_values k (cs ++ c ∷ []) ≡ connection_values k cs ++ connection_value (k + length cs) c ∷ []
one_more k [] c =
    let place : k ≡ k + 0 = omega arith in
    ap (λ n. connection_value n c ∷ []) place
one_more k (x ∷ cs) c =
    let place : k + 1 + length cs ≡ k + suc (length cs) = omega arith in
    ap (λ vs. connection_value k x ∷ vs) (one_more (k + 1) cs c
    ∙ ap (λ n. connection_values (k + 1) cs ++ connection_value n c ∷ []) place)

module _ (cs : List ConnectionState) (i : ℕ) (c : ConnectionState) (told : List Plain) (n : ℕ) where
  pub told_next : i < length cs → c ≡ get_or cs i c → told ≡ connection_values 1 (take i cs) → n ≡ length told
      → (v : Plain) → v ≡ connection_value (n + 1) c → (more : List Plain) → more ≡ told ++ v ∷ []
      → more ≡ connection_values 1 (take (i + 1) cs)
  told_next below at so many v is more added =
      let has : n ≡ length (take i cs) = many ∙ ap length so ∙ count 1 (take i cs) in
      let place : n + 1 ≡ 1 + length (take i cs) = omega arith in
      added ∙ ap (λ x. told ++ x ∷ []) is
      ∙ ap (λ vs. vs ++ connection_value (n + 1) c ∷ []) so
      ∙ ap (λ m. connection_values 1 (take i cs) ++ connection_value m c ∷ []) place
      ∙ sym (one_more 1 (take i cs) c)
      ∙ ap (connection_values 1) (ap (λ x. take i cs ++ x ∷ []) at ∙ sym (take_more cs i c below))

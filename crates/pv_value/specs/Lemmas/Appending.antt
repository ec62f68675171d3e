-- Bytes that were appended: what was there stands in front.
use Rattle.std.proofs.Common.{◌≡◌, ℕ, List, [], ◌++◌, length, take, drop, sym, ap, ◌∙◌, append_assoc}
use Rattle.std.proofs.Math.Seq.{take-append_seam}
use Rattle.std.proofs.lemmas.List.{append-nil, take-append-drop}
use Rattle.std.specs.Io.{StartsWith}

pub starts_from : (a c r : List ℕ) → c ≡ a ++ r → StartsWith c a
starts_from a c r e = ap (λ (x : List ℕ). take (length a) x) e ∙ take-append_seam a r

pub starts_rest : (a c : List ℕ) → StartsWith c a → c ≡ a ++ drop (length a) c
starts_rest a c h =
    sym (take-append-drop (length a) c) ∙ ap (λ (x : List ℕ). x ++ drop (length a) c) h

-- what stands in front of what stands in front
pub starts_trans : (a b c : List ℕ) → StartsWith b a → StartsWith c b → StartsWith c a
starts_trans a b c h g =
    starts_from a c (drop (length a) b ++ drop (length b) c)
    (starts_rest b c g ∙ ap (λ (x : List ℕ). x ++ drop (length b) c) (starts_rest a b h)
    ∙ append_assoc a (drop (length a) b) (drop (length b) c))

-- nothing was appended
pub starts_same : (a : List ℕ) → StartsWith a a
starts_same a = starts_from a a [] (sym (append-nil a))

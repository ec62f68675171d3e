-- Sequences as references: what stands behind two items, and what comes behind all.
use Rattle.std.proofs.Common.{◌≡◌, zero, suc, ◌-◌, ◌<◌, ◌≤◌, List, [], ◌∷◌, ◌++◌, length, map, take, drop, get_or, pos}
use Rattle.std.proofs.Common.{Some, None, refl, sym, ap, ◌∙◌, arith}
use Rattle.std.proofs.lemmas.List.{append-nil}
use Rattle.std.proofs.Math.Seq.{take-length}
use Rattle.pv_value.specs.Plain.{Plain, integer, sequence, plains, listed}
use Rattle.pv_value.specs.Lemmas.Listed.{listed-plains, plains-listed}
use Rattle.pv_words.specs.Words.{number_in}
use Rattle.rl_wire.specs.Crossing.{wire_of, caveats_in, caveat_kept, with_caveats}

pub too_short : (xs : List Plain) → length xs < 2 → wire_of (sequence (plains xs)) ≡ None
too_short [] h = refl
too_short (integer (pos zero) ∷ []) h = refl
too_short (integer (pos (suc zero)) ∷ []) h = refl
too_short (x ∷ []) h = refl
too_short (x ∷ y ∷ zs) h = absurd (omega arith)

not_own : number_in (integer (pos 1)) ≡ Some 0 → ⊥
not_own e = cc

-- an object of the sender's own has no caveats
pub own_too_long : (xs : List Plain) (x : Plain) → (length xs ≡ 2 → ⊥) → x ≡ get_or xs 0 x → number_in x ≡ Some 0
    → wire_of (sequence (plains xs)) ≡ None
own_too_long [] x h at is = refl
own_too_long (integer (pos zero) ∷ []) x h at is = refl
own_too_long (integer (pos (suc zero)) ∷ []) x h at is = refl
own_too_long (w ∷ []) x h at is = refl
own_too_long (w ∷ y ∷ []) x h at is = absurd (h (omega arith))
own_too_long (integer (pos zero) ∷ y ∷ z ∷ zs) x h at is = refl
own_too_long (integer (pos (suc zero)) ∷ y ∷ z ∷ zs) x h at is = absurd (not_own (sym (ap number_in at) ∙ is))
own_too_long (w ∷ y ∷ z ∷ zs) x h at is = refl

pub none_behind : (xs : List Plain) → length xs < 2 → caveats_in (sequence (plains xs)) ≡ []
none_behind [] h = refl
none_behind (x ∷ []) h = refl
none_behind (x ∷ y ∷ zs) h = absurd (omega arith)

pub behind_two : (xs : List Plain) → 2 ≤ length xs
    → take (length xs - 2) (drop 2 xs) ≡ caveats_in (sequence (plains xs))
behind_two [] h = absurd (omega arith)
behind_two (x ∷ []) h = absurd (omega arith)
behind_two (x ∷ y ∷ zs) h =
    let e : length (x ∷ y ∷ zs) - 2 ≡ length zs = omega arith in
    ap (λ n. take n zs) e ∙ take-length zs ∙ sym (listed-plains zs)

pub with_items : (xs ws : List Plain)
    → sequence (plains (xs ++ map caveat_kept ws)) ≡ with_caveats ws (sequence (plains xs))
with_items xs ws = ap (λ ys. sequence (plains (ys ++ map caveat_kept ws))) (sym (listed-plains xs))

with_none : (v : Plain) → v ≡ with_caveats [] v
with_none (sequence xs) = sym (ap sequence (ap plains (append-nil (listed xs)) ∙ plains-listed xs))
with_none v = refl

pub with_no_caveats : (ws : List Plain) (v : Plain) → length ws ≡ 0 → v ≡ with_caveats ws v
with_no_caveats [] v h = with_none v
with_no_caveats (w ∷ ws) v h = absurd (omega arith)

-- Sums that stop at the greatest number of 64 bits.
use Rattle.std.proofs.Common.{◌≡◌, ℕ, ◌+◌, List, [], ◌∷◌, ◌++◌, length, ◌≤◌, refl, sym, ap, ◌∙◌, arith}
use Rattle.std.proofs.lemmas.List.{flat_map_more, length-append}
use Rattle.std.proofs.lemmas.List.Sums.{sum_by-append, sum_by_push}
use Rattle.pv_value.specs.Plain.{Plain, plains, sequence}
use Rattle.rl_packet.specs.declared.holding.Holding.{Holding}
use Rattle.sc_report.specs.Reports.{ConnectionState}
use Rattle.dsd_top.specs.Loading.{told, captured, captured_by, all_held}

-- what was told and is added to is told
pub told_more : (n m : ℕ) → told (told n + m) ≡ told (n + m)
told_more n m = omega arith

pub told_both : (n m : ℕ) → told (told n + told m) ≡ told (n + m)
told_both n m = omega arith

-- of more values than one none counts
pub none_captured : (vs : List Plain) → 2 ≤ length vs → 0 ≡ captured (sequence (plains vs))
none_captured [] h = absurd (omega (arith, h))
none_captured (v ∷ []) h = absurd (omega (arith, h))
none_captured (v ∷ w ∷ ws) h = refl

-- one holding more
pub one_captured : (hs : List Holding) (h : Holding) → captured_by (hs ++ h ∷ []) ≡ captured_by hs + captured h.value
one_captured hs h = sum_by_push (λ (k : Holding). captured k.value) hs h

-- one connection more
held_more : (cs : List ConnectionState) (c : ConnectionState) → all_held (cs ++ c ∷ []) ≡ all_held cs ++ c.held
held_more cs c = sym (flat_map_more (λ (k : ConnectionState). k.held) [] cs c)

pub count_more : (cs : List ConnectionState) (c : ConnectionState)
    → length (all_held (cs ++ c ∷ [])) ≡ length (all_held cs) + length c.held
count_more cs c = ap length (held_more cs c) ∙ length-append (all_held cs) c.held

pub captured_more : (cs : List ConnectionState) (c : ConnectionState)
    → captured_by (all_held (cs ++ c ∷ [])) ≡ captured_by (all_held cs) + captured_by c.held
captured_more cs c =
    ap captured_by (held_more cs c) ∙ sum_by-append (λ (k : Holding). captured k.value) (all_held cs) c.held

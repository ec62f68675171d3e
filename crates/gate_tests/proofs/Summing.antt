-- Replies of a sum are sums of fronts.
use Rattle.std.proofs.Common.{◌≡◌, ℕ, zero, suc, ◌+◌, ◌%◌, ◌^◌, List, [], ◌∷◌, sym, ap, ◌∙◌, arith}
use mathlib.Core.Option.{some, some-injective, some-ne-none}
use lib.ListN.{get_elem?}
use Rattle.turn_gate.specs.declared.view.Entry.{Entry}
use Rattle.gate_tests.specs.Sums.{sum_up_to, RepliesAreSums}

folded : (a b c : ℕ) → ((a + b) % 2 ^ 64 + c) % 2 ^ 64 ≡ (a + (b + c)) % 2 ^ 64
folded a b c = omega arith

pub replies_are_sums : RepliesAreSums
replies_are_sums a [] p e l at = absurd (some-ne-none e (sym at))
replies_are_sums a (x ∷ xs) zero e l at = ap (λ (z : Entry ℕ ℕ). z.reply) (sym (some-injective x e at)) ∙ l.0
replies_are_sums a (x ∷ xs) (suc p) e l at =
    replies_are_sums ((a + x.step) % 2 ^ 64) xs p e l.1 at ∙ folded a x.step (sum_up_to p xs)

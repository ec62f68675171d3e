-- Words that serve, and words that don't.
use Rattle.std.proofs.Common.{◌≡◌, ℕ, zero, suc, ◌⊎◌, List, Contains, true}
use Rattle.std.proofs.Common.{lit<, sym, ap, arith, inl, inr}
use Rattle.dsd_top.specs.Commands.{is_serve}
use Rattle.dsd_top.specs.Statuses.{IsStatus}
use Rattle.dsd_serve.specs.Causes.{serve_statuses}
use Rattle.dsd_serve.specs.Serving.{AskToServe}

-- words that ask to serve begin with "serve"
pub serve_first : (ws : List (List ℕ)) → AskToServe ws → is_serve ws ≡ true
serve_first ws a = ap is_serve a.1.words_are

pub of_both : (n : ℕ) → Contains serve_statuses n → IsStatus n ⊎ (n ≡ 8)
of_both n (zero, l, e) = inl (0, lit< tt, e)
of_both n (suc zero, l, e) = inl (2, lit< tt, e)
of_both n (suc (suc zero), l, e) = inl (3, lit< tt, e)
of_both n (suc (suc (suc zero)), l, e) = inl (4, lit< tt, e)
of_both n (suc (suc (suc (suc zero))), l, e) = inl (5, lit< tt, e)
of_both n (suc (suc (suc (suc (suc zero)))), l, e) = inl (7, lit< tt, e)
of_both n (suc (suc (suc (suc (suc (suc zero))))), l, e) = inr (sym e)
of_both n (suc (suc (suc (suc (suc (suc (suc i)))))), l, e) = absurd (omega (arith, l))

-- other words have no status 8
pub never_8 : (n : ℕ) → IsStatus n → n ≡ 8 → ⊥
never_8 n (zero, l, e) is = omega (arith, e, is)
never_8 n (suc zero, l, e) is = omega (arith, e, is)
never_8 n (suc (suc zero), l, e) is = omega (arith, e, is)
never_8 n (suc (suc (suc zero)), l, e) is = omega (arith, e, is)
never_8 n (suc (suc (suc (suc zero))), l, e) is = omega (arith, e, is)
never_8 n (suc (suc (suc (suc (suc zero)))), l, e) is = omega (arith, e, is)
never_8 n (suc (suc (suc (suc (suc (suc zero))))), l, e) is = omega (arith, e, is)
never_8 n (suc (suc (suc (suc (suc (suc (suc zero)))))), l, e) is = omega (arith, e, is)
never_8 n (suc (suc (suc (suc (suc (suc (suc (suc i))))))), l, e) is = absurd (omega (arith, l))

-- the count of a file's faults rose, for one more reason to read one
pub also : {A B C D : Type 0} (E : Type 0) → A ⊎ (B × C × D) → A ⊎ ((B ⊎ E) × C × D)
also E (inl a) = inl a
also E (inr x) = inr (inl x.0, x.1, x.2)

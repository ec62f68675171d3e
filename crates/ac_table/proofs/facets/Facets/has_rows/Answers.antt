use Rattle.std.proofs.Common.{◌≡◌, ◌↔◌, ◌∙◌, sym, ap, ℕ, zero, suc, Bool, true, false, not, nat_lt, length, IsTrue}
use Rattle.std.proofs.Common.{arith, refl}
use Rattle.std.proofs.lemmas.Bool.Decides.{nat_tests}
use Rattle.ac_table.specs.Placed.{has_some}
use Rattle.ac_table.proofs.Placing.{rows-seen, rows_in}
use Rattle.ac_table.proofs.facets.Facets.has_rows.Goals as goal

not_empty : (b : Bool) (n : ℕ) → IsTrue b ↔ (n ≡ 0) → not b ≡ nat_lt 0 n
not_empty true n is = let none : n ≡ 0 = is.0 refl in rw none refl
not_empty false zero is = let clash : false ≡ true = is.1 refl in absurd cc
not_empty false (suc n) is = grind (arith, nat_tests)

pub returns-in-Some : goal.returns-in-Some
returns-in-Some c = let i = c.self.inside in
    not_empty c.is_empty.result (length c.in-Some.it.now.rows.keys) c.is_empty.ensures
    ∙ ap (λ o. nat_lt 0 (length (rows_in o))) c.in-Some.ensures.value
    ∙ ap (λ ks. nat_lt 0 (length ks)) (sym (rows-seen c.args.facet i.all.entries))
    ∙ ap (has_some c.args.facet) c.self.view_is

pub returns-in-None : goal.returns-in-None
returns-in-None c = let i = c.self.inside in
    ap (λ o. nat_lt 0 (length (rows_in o))) c.in-None.ensures.value
    ∙ ap (λ ks. nat_lt 0 (length ks)) (sym (rows-seen c.args.facet i.all.entries))
    ∙ ap (has_some c.args.facet) c.self.view_is

use Rattle.std.proofs.Common.{◌++◌, ◌∷◌, [], ap, ◌∙◌}
use Rattle.pv_canon.specs.Canonical.{canonical}
use Rattle.gk_sturdy.specs.Chain.{link}
use Rattle.gk_sturdy.specs.Lemmas.Signed.{attenuated_valid}
use Rattle.gk_sturdy.proofs.signing.attenuate.Goals as goal

pub returns-clause-valid : goal.returns-clause-valid
returns-clause-valid c = λ key valid.
    attenuated_valid key c.args.caveat c.args.r c.in_ok-sig-2.sig c.in_ok-caveats.caveats
    (c.in_ok-sig-2.ensures ∙ c.in_ok-sig.ensures
    ∙ ap (λ s. link s (canonical c.args.caveat)) c.as_slice.ensures.same)
    (c.in_ok-caveats.ensures ∙ ap (λ l. l ++ c.args.caveat ∷ []) c.as_slice-2.ensures.same) valid

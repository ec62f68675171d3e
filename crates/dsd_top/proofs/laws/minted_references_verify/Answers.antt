use Rattle.dsd_top.proofs.Verifying.{verified}
use Rattle.dsd_top.proofs.laws.minted_references_verify.Goals as goal

pub returns : goal.returns
returns c =
    verified c.signed_is_valid.ensures.minted c.signed_is_valid.ensures.narrowed c.printed_texts_read_back.ensures.all

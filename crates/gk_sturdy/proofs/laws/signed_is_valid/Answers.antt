use Rattle.gk_sturdy.specs.Lemmas.Signed.{sixteen, narrowed_valid, valid_minted}
use Rattle.gk_sturdy.proofs.laws.signed_is_valid.Goals as goal

pub returns-clause-sixteen : goal.returns-clause-sixteen
returns-clause-sixteen c = sixteen

pub returns-clause-narrowed : goal.returns-clause-narrowed
returns-clause-narrowed c = narrowed_valid

pub returns-clause-only : goal.returns-clause-only
returns-clause-only c = valid_minted

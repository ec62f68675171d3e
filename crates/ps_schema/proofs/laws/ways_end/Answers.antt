use Rattle.ps_schema.specs.Lemmas.Ends as lemma
use Rattle.ps_schema.proofs.laws.ways_end.Goals as goal

pub returns : goal.returns
returns c = lemma.ways_end

use Rattle.ds_facts.specs.Lemmas.Members as members
use Rattle.ds_facts.proofs.laws.facts_are_members.Goals as goal

pub returns : goal.returns
returns c = members.facts_are_members

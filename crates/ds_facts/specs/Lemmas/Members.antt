-- What is kept goes by which values are there.
use Rattle.std.proofs.Common.{◌&&◌, ap, ◌∙◌}
use Rattle.ds_facts.specs.Atoms.{has_entry}
use Rattle.ds_facts.specs.Laws.{FactsAreMembers}

pub facts_are_members : FactsAreMembers
facts_are_members vs ws it same h = record {
  members = λ e v. h.members e v ∙ ap (λ b. b && has_entry e v) (same v);
  filled = h.filled;
}

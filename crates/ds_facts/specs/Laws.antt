-- Laws of facts.
use Rattle.std.specs.Prelude.{◌≡◌, List}
use Rattle.pv_value.specs.Plain.{Plain}
use Rattle.ds_space.specs.Changes.{among}
use Rattle.ds_facts.specs.Keeping.{Facts, AreFacts}

-- what is kept goes by which values are there, not by their order or number
abbrev pub FactsAreMembers : Type 0
FactsAreMembers =
    (vs ws : List Plain) (it : Facts) → ((v : Plain) → among v vs ≡ among v ws) → AreFacts vs it → AreFacts ws it

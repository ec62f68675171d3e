use Rattle.std.proofs.Common.{ℕ, List, sym, subst}
use Rattle.std.specs.Map.{keys_of}
use Rattle.pv_value.specs.Plain.{Plain}
use Rattle.ds_facts.specs.Keeping.{AreFacts}
use Rattle.ds_skeleton.proofs.Empty.{none_whole}
use Rattle.ds_skeleton.proofs.index.Index.new.Goals as goal

pub returns-clause-whole : goal.returns-clause-whole
returns-clause-whole c = record {
  index = none_whole c.new.result.entries c.new-3.result.items c.new.ensures.empty c.new-3.ensures.items;
  facts = subst (λ (es : List (Plain × ℕ)). AreFacts (keys_of es) c.new-2.result) (sym c.new.ensures.empty)
      c.new-2.ensures;
}

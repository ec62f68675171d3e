-- Those so far, and then the rest, are all.
use Rattle.std.proofs.Common.{◌≡◌, not, ◌&&◌, drop}
use Rattle.std.specs.List.{list_any}
use Rattle.pv_value.specs.Plain.{Plain}
use Rattle.pv_words.specs.Parts.{same}
use Rattle.ds_facts.specs.Atoms.{Entry, same_entry}
use Rattle.ds_facts.specs.Keeping.{keeps, AreFilled}
use Rattle.ds_facts.proofs.facts.Facts.remove.Given as goal

abbrev pub invariant-loop-entry : goal.invariant-loop-entry
invariant-loop-entry l = record {
  members : (e : Entry) (v : Plain)
      → (keeps l.self.places e v && not (list_any (same_entry e) (drop l.entry-index l.entry-items) && same l.value v))
      ≡ (keeps l.initial.self.places e v && not (list_any (same_entry e) l.entry-items && same l.value v));
  filled : AreFilled l.initial.self.places → AreFilled l.self.places;
}

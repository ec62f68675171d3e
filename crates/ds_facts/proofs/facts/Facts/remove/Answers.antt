use Rattle.std.proofs.Common.{not, ◌&&◌, arith, ap, ◌∙◌}
use Rattle.std.specs.List.{list_any}
use Rattle.pv_words.specs.Parts.{same}
use Rattle.ds_facts.specs.Atoms.{same_entry}
use Rattle.ds_facts.specs.Keeping.{keeps}
use Rattle.ds_facts.proofs.Kept.{taken_step, taken_end, removed}
use Rattle.ds_facts.proofs.facts.Facts.remove.Goals as goal

pub loop-entry-preserved : goal.loop-entry-preserved
loop-entry-preserved c = record {
  members = λ e v.
      taken_step (same_entry e) c.deref-entry-items.result.now c.loop-entry.entry-index c.entry-item.result (omega arith)
      c.entry-item.is
      (keeps c.args.self.now.places e v
      && not (list_any (same_entry e) c.deref-entry-items.result.now && same c.args.value.now v))
      (keeps c.loop-entry.self.places e v) (keeps c.take_out.new.places e v) (same c.args.value.now v)
      (c.take_out.ensures.keeps e v) (c.loop-entry.invariant.members e v);
  filled = λ h. c.take_out.ensures.filled (c.loop-entry.invariant.filled h);
}

pub returns : goal.returns
returns c vs h gone =
    let es = c.deref-entry-items.result.now in
    let old = c.args.self.now.places in
    let new = c.loop-entry.self.places in
    let value = c.args.value.now in record {
      members =
          removed vs old new value
          (λ e v.
          taken_end (same_entry e) es c.loop-entry.entry-index c.loop-entry-test.false
          (keeps old e v && not (list_any (same_entry e) es && same value v)) (keeps new e v) (same value v)
          (c.loop-entry.invariant.members e v)
          ∙ ap (λ ds. keeps old e v && not (list_any (same_entry e) ds && same value v))
          (c.deref-entry-items.ensures.value ∙ c.in_ok-entries.ensures))
          h.members gone;
      filled = c.loop-entry.invariant.filled h.filled;
    }

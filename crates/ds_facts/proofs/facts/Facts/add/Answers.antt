use Rattle.std.proofs.Common.{◌&&◌, ◌||◌, arith, ap, ◌∙◌}
use Rattle.std.specs.List.{list_any}
use Rattle.pv_words.specs.Parts.{same}
use Rattle.ds_facts.specs.Atoms.{same_entry}
use Rattle.ds_facts.specs.Keeping.{keeps}
use Rattle.ds_facts.proofs.Kept.{put_step, put_end, added}
use Rattle.ds_facts.proofs.facts.Facts.add.Goals as goal

pub loop-entry-preserved : goal.loop-entry-preserved
loop-entry-preserved c = record {
  members = λ e v.
      put_step (same_entry e) c.deref-entry-items.result.now c.loop-entry.entry-index c.entry-item.result (omega arith)
      c.entry-item.is
      (keeps c.args.self.now.places e v
      || (list_any (same_entry e) c.deref-entry-items.result.now && same c.args.value.now v))
      (keeps c.loop-entry.self.places e v) (keeps c.put.new.places e v) (same c.args.value.now v)
      (c.in_ok-put.ensures.keeps e v) (c.loop-entry.invariant.members e v);
  filled = λ h. c.in_ok-put.ensures.filled (c.loop-entry.invariant.filled h);
}

pub returns : goal.returns
returns c vs h =
    let es = c.deref-entry-items.result.now in
    let old = c.args.self.now.places in
    let new = c.loop-entry.self.places in
    let value = c.args.value.now in record {
      members =
          added vs old new value
          (λ e v.
          put_end (same_entry e) es c.loop-entry.entry-index c.loop-entry-test.false
          (keeps old e v || (list_any (same_entry e) es && same value v)) (keeps new e v) (same value v)
          (c.loop-entry.invariant.members e v)
          ∙ ap (λ ds. keeps old e v || (list_any (same_entry e) ds && same value v))
          (c.deref-entry-items.ensures.value ∙ c.in_ok-entries.ensures))
          h.members;
      filled = c.loop-entry.invariant.filled h.filled;
    }

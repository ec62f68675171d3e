use Rattle.std.proofs.Common.{◌++◌, ◌∙◌, sym, ap, List, ℕ, take, take-append-drop}
use Rattle.pv_print.proofs.Escaped.{run_more}
use Rattle.pv_print.proofs.Fronts.{front_on}
use Rattle.pv_print.proofs.atoms.push_escapes.Goals as goal

pub loop-rest-preserved : goal.loop-rest-preserved
loop-rest-preserved c =
    let n = c.raw_length.result in
    let out = c.loop-rest.out.items in
    let rest = c.loop-rest.rest.now in record {
      text =
          run_more c.args.quote out c.push_bytes.new.out.items c.push_escaped.new.out.items c.args.out.now.items
          c.args.text.now (take n rest) rest c.in-Some.after.now c.in-Some.first.now c.loop-rest.invariant.text
          (sym (take-append-drop n rest)
          ∙ ap (λ (x : List ℕ). take n rest ++ x) (sym c.split_at.ensures.back ∙ c.in-Some.ensures.cases.0))
          c.raw_length.ensures.raw
          (c.in_ok-push_bytes.ensures.all ∙ ap (λ (x : List ℕ). out ++ x) c.split_at.ensures.front)
          c.in_ok-push_escaped.ensures.exact;
      front =
          front_on _ out _ c.loop-rest.invariant.front
          (front_on _ c.push_bytes.new.out.items _ c.in_ok-push_bytes.ensures.front c.in_ok-push_escaped.ensures.front);
    }

-- One number more; at the end each from the first on.
use Rattle.std.proofs.Common.{◌<◌, ◌∙◌, ap, refl, subst}
use Rattle.std.specs.List.{AllByRecursion}
use Rattle.std.specs.Map.{keys_of}
use Rattle.rl_ports.specs.Kept.{Listed}
use Rattle.rl_ports.proofs.Entries.{keys_shown, below_more}
use Rattle.rl_ports.proofs.Keeps.{none_from, one_from, all_from_on}
use Rattle.rl_ports.proofs.export_list.ExportList.release_from.Goals as goal

pub loop-number-init : goal.loop-number-init
loop-number-init c = record { kept = none_from c.args.first c.args.self.now.kept; next = refl }

pub loop-number-preserved : goal.loop-number-preserved
loop-number-preserved c =
    let v = c.loop-number.invariant in
    record {
      kept = ap (λ (l : Listed). l.kept) c.release.ensures
          ∙ one_from c.args.first c.loop-number.number c.args.self.now.kept c.loop-number.self.kept
          c.loop-number.auto.number v.kept;
      next = ap (λ (l : Listed). l.next) c.release.ensures ∙ v.next;
    }

pub returns : goal.returns
returns c =
    let i = c.self.inside in
    let v = c.loop-number.invariant in
    let old = c.args.self.now.kept in
    let below = subst (λ (l : Listed). AllByRecursion (λ k. k < i.next) (keys_of l.kept)) c.self.view_is
    (subst (AllByRecursion (λ k. k < i.next)) (keys_shown i.kept.entries) c.self.invariant.0.order.given) in
    let kept = v.kept ∙ all_from_on c.args.first c.loop-number.number old
    (below_more i.next c.loop-number.number (keys_of old) c.loop-number-test.false below) in
    λ j. record { kept = kept j; next = v.next j }

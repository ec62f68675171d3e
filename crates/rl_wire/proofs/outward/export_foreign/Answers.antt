-- One reference more is exported, and its number told; in the end all are.
use Rattle.std.proofs.Common.{◌≡◌, ◌+◌, ◌∷◌, ◌∙◌, ap, sym, subst, drop, ℕ, List}
use Rattle.pv_value.specs.Plain.{Plain}
use Rattle.rl_wire.specs.Changes.{HasGrown}
use Rattle.rl_wire.proofs.Exports.{AreNumberedSo, none_numbered, one_numbered, all_numbered, drop_first, drop_end}
use Rattle.rl_wire.proofs.outward.export_foreign.Goals as goal

pub loop-x-init : goal.loop-x-init
loop-x-init c =
    let old = c.args.ports.now in
    let all = c.args.held.now in
    subst (λ (ns : List ℕ). AreNumberedSo old c.args.actor all old ns all) (sym c.new-numbers.ensures.items)
    (none_numbered old c.args.actor all c.next_oid.ensures.numbered)

pub loop-x-preserved : goal.loop-x-preserved
loop-x-preserved c =
    let old = c.args.ports.now in
    let all = c.args.held.now in
    let i = c.loop-x.x-index in
    let x = c.x-item.result in
    let later = drop (i + 1) all in
    let first : drop i all ≡ x ∷ later =
    drop_first all i x c.loop-x-test.true ∙ ap (λ (y : Plain). y ∷ later) (sym c.x-item.is) in
    let done = c.in_ok-export_if_foreign.ensures in
    one_numbered old c.args.actor all c.loop-x.ports c.export_if_foreign.new.ports c.loop-x.numbers.items
    c.export_if_foreign.new.numbers.items x later
    (subst (AreNumberedSo old c.args.actor all c.loop-x.ports c.loop-x.numbers.items) first c.loop-x.invariant)
    done.exports done.fits done.numbers

pub returns-clause-numbers : goal.returns-clause-numbers
returns-clause-numbers c =
    let old = c.args.ports.now in
    let all = c.args.held.now in
    (all_numbered old c.args.actor all c.loop-x.ports c.loop-x.numbers.items
    (subst (AreNumberedSo old c.args.actor all c.loop-x.ports c.loop-x.numbers.items)
    (drop_end c.loop-x.x-index all c.loop-x-test.false) c.loop-x.invariant)).0

pub returns-clause-exports : goal.returns-clause-exports
returns-clause-exports c =
    let old = c.args.ports.now in
    let all = c.args.held.now in
    (all_numbered old c.args.actor all c.loop-x.ports c.loop-x.numbers.items
    (subst (AreNumberedSo old c.args.actor all c.loop-x.ports c.loop-x.numbers.items)
    (drop_end c.loop-x.x-index all c.loop-x-test.false) c.loop-x.invariant)).1

pub returns-clause-fits : goal.returns-clause-fits
returns-clause-fits c =
    let old = c.args.ports.now in
    let all = c.args.held.now in
    (all_numbered old c.args.actor all c.loop-x.ports c.loop-x.numbers.items
    (subst (AreNumberedSo old c.args.actor all c.loop-x.ports c.loop-x.numbers.items)
    (drop_end c.loop-x.x-index all c.loop-x-test.false) c.loop-x.invariant)).2

pub returns-clause-kept : goal.returns-clause-kept
returns-clause-kept c = c.loop-x.invariant.grown

pub returns-in_err-export_if_foreign-clause-kept : goal.returns-in_err-export_if_foreign-clause-kept
returns-in_err-export_if_foreign-clause-kept c =
    subst (HasGrown c.args.ports.now) (sym c.in_err-export_if_foreign.ensures.undone) c.loop-x.invariant.grown

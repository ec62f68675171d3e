-- A binding whose guards' names are known is set up.
use Rattle.std.proofs.Common.{◌≡◌, true, sym, ap, ◌∙◌}
use Rattle.sr_caveat.specs.Patterns.{caveats}
use Rattle.lc_guard.specs.Knowing.{all_known}
use Rattle.sc_script.specs.Keeping.{RunState}
use Rattle.sc_script.proofs.PartsPassed.{runs_so, stops_so}
use Rattle.sc_script.proofs.Stepping.{binds_known, knows_all}
use Rattle.sc_script.proofs.runs.Run.bind.Goals as goal

pub returns-clause-run : goal.returns-clause-run
returns-clause-run g c =
    let s = c.args.self in
    let schema = sym (c.judge.ensures ∙ ap (λ (x : RunState). x.state.world.schema) c.self.view_is) in
    let behind = sym (c.as_slice.ensures ∙ ap (λ x. x.cap.caveats) c.binding.view_is) in
    let known : knows_all c.args.binding s.state ≡ true =
    (λ i. all_known (schema i) (caveats (behind i))) ∙ sym c.all_known.ensures ∙ c.if-not-all_known.false in
    runs_so s _ _ (λ N r at. sym (binds_known c.args.place c.args.binding r s at known)) c.set_up.result
    c.set_up.ensures.run

pub returns-clause-stop : goal.returns-clause-stop
returns-clause-stop g c =
    let s = c.args.self in
    let schema = sym (c.judge.ensures ∙ ap (λ (x : RunState). x.state.world.schema) c.self.view_is) in
    let behind = sym (c.as_slice.ensures ∙ ap (λ x. x.cap.caveats) c.binding.view_is) in
    let known : knows_all c.args.binding s.state ≡ true =
    (λ i. all_known (schema i) (caveats (behind i))) ∙ sym c.all_known.ensures ∙ c.if-not-all_known.false in
    stops_so s _ _ (λ N r at. sym (binds_known c.args.place c.args.binding r s at known)) c.set_up.result
    c.set_up.ensures.stop

-- The laws are among what is known.
use Rattle.std.proofs.Common.{rules, ◌≡◌, ◌≤◌, subst}
use Rattle.hub_laws.specs.Laws.{SettledHoldings}
use Rattle.sc_events.specs.declared.inputs.Form.TheVariants as input
use Rattle.sc_load.specs.Limits.{most_items}
use Rattle.sc_load.specs.Loads.{load_bytes}
use Rattle.sc_script.specs.Scripts.{StopsAt}
use Rattle.dsd_top.proofs.Reported.{loaded}
use Rattle.dsd_top.proofs.Stopped.{for_memory, stopped_so}
use Rattle.dsd_top.proofs.loading.load_line.Goals as goal

pub returns-clause-line : goal.returns-clause-line
returns-clause-line c =
    let law : SettledHoldings = search rules in
    let same : c.as_slice-bytes.result.now ≡ load_bytes c.args.loading.now.start c.args.loading.now.count =
    search rules in
    loaded c.args.loading.now _ _ _ _ law same c.in_ok-ran.ensures.run c.in_ok-value.ensures
    c.in_ok-value_in.ensures

pub returns-in_err-ran-clause-memory : goal.returns-in_err-ran-clause-memory
returns-in_err-ran-clause-memory c =
    let loading = c.args.loading.now in
    let fault = c.in_err-ran.field-0.0 in
    let same : c.as_slice-bytes.result.now ≡ load_bytes loading.start loading.count = search rules in
    let few : loading.count ≤ most_items = subst (λ n. n ≤ most_items) c.count.ensures.count c.count.ensures.few in
    let stops : StopsAt input.Binary (load_bytes loading.start loading.count) fault =
    subst (λ bytes. StopsAt input.Binary bytes fault) same c.in_err-ran.ensures.stop in
    stopped_so _ fault c.from_residual-in_err-ran.ensures.1
    (for_memory c.next_is_decided.ensures.0 c.next_is_decided.ensures.1 c.loads_never_stop.ensures
    loading.start loading.count few fault stops)

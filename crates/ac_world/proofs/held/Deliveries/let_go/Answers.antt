use Rattle.std.proofs.Common.{◌≡◌, ◌∙◌, ap, sym, arith}
use Rattle.ac_world.specs.Sums.{sum_of_held, weight_found}
use Rattle.ac_world.specs.Worlds.{entry_of, without_entry}
use Rattle.ac_world.proofs.Weights.{out_weight, weight_within}
use Rattle.ac_world.proofs.held.Deliveries.let_go.Goals as goal

pub take_off-requires : goal.take_off-requires
take_off-requires c =
    let got = c.self.inside.by_handle.entries in
    let was : c.weight_of.result ≡ weight_found (entry_of c.args.handle got) =
    c.weight_of.ensures ∙ ap weight_found c.remove-gone.ensures.value in
    let within = weight_within c.args.handle got in
    omega (arith, was, within, c.self.invariant)

pub invariant_of-self : goal.invariant_of-self
invariant_of-self c =
    let h = c.args.handle in
    let got = c.self.inside.by_handle.entries in
    let was : c.weight_of.result ≡ weight_found (entry_of h got) =
    c.weight_of.ensures ∙ ap weight_found c.remove-gone.ensures.value in
    let out = out_weight h got in
    let now : c.take_off.new.self ≡ sum_of_held (without_entry h got) =
    omega (arith, c.take_off.ensures, was, c.self.invariant, out) in
    now ∙ ap sum_of_held (sym c.remove-gone.ensures.entries)

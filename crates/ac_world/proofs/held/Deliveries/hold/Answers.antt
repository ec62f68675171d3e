use Rattle.std.proofs.Common.{◌≡◌, ◌∙◌, ◌<◌, ◌^◌, length, ap, sym, arith}
use Rattle.ac_world.specs.Sums.{sum_of_held, weight_found}
use Rattle.ac_world.specs.Worlds.{entry_of, with_entry}
use Rattle.ac_world.proofs.Weights.{put_weight, weight_within, weight_fits}
use Rattle.ac_world.proofs.held.Deliveries.hold.Goals as goal

pub take_off-requires : goal.take_off-requires
take_off-requires c =
    let got = c.self.inside.by_handle.entries in
    let was : c.weight_of.result ≡ weight_found (entry_of c.args.handle got) =
    c.weight_of.ensures ∙ ap weight_found c.in_ok-replaced.ensures.old in
    let within = weight_within c.args.handle got in
    omega (arith, was, within, c.self.invariant)

pub add-requires : goal.add-requires
add-requires c =
    let got = c.self.inside.by_handle.entries in
    let few : length got < 2 ^ 63 = omega (arith, c.len-many.ensures.len, c.len-many.ensures.small) in
    let fits = weight_fits got few in
    omega (arith, c.take_off.ensures, c.self.invariant, fits, c.weight-more.ensures)

pub invariant_of-self-2 : goal.invariant_of-self-2
invariant_of-self-2 c =
    let h = c.args.handle in
    let got = c.self.inside.by_handle.entries in
    let was : c.weight_of.result ≡ weight_found (entry_of h got) =
    c.weight_of.ensures ∙ ap weight_found c.in_ok-replaced.ensures.old in
    let put = put_weight h c.args.held got c.len-many.ensures.ordered in
    let now : c.add.new.self ≡ sum_of_held (with_entry h c.args.held got) =
    omega (arith, c.add.ensures, c.take_off.ensures, was, c.self.invariant, put, c.weight-more.ensures) in
    now ∙ ap sum_of_held (sym c.in_ok-replaced.ensures.entries)

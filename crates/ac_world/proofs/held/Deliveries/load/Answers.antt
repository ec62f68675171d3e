use Rattle.std.proofs.Common.{◌≡◌, ◌∙◌, ap, arith}
use Rattle.std.specs.Map.{values_of}
use Rattle.ac_table.specs.Sums.{top, top_load}
use Rattle.ac_world.specs.Sums.{load_got}
use Rattle.ac_world.specs.Worlds.{Deliveries}
use Rattle.ac_world.proofs.Weights.{count_got, weight_told}
use Rattle.ac_world.proofs.held.Deliveries.load.Goals as goal

pub returns : goal.returns
returns c =
    let got = c.self.inside.by_handle.entries in
    let many = count_got got in
    let count : c.len.result ≡ top (load_got (values_of got)).count =
    omega (arith, c.len.ensures.len, c.len.ensures.small, many) in
    let weight : c.told.result ≡ top (load_got (values_of got)).weight =
    c.told.ensures ∙ ap top c.self.invariant ∙ weight_told got in
    let here : record { count = c.len.result; weight = c.told.result } ≡ top_load (load_got (values_of got)) =
    λ i. record { count = count i; weight = weight i } in
    here ∙ ap (λ (d : Deliveries). top_load (load_got (values_of d))) c.self.view_is

use Rattle.std.proofs.Common.{rules, ◌≡◌, ◌∙◌, sym, ap}
use Rattle.std.specs.Int.{w64, w128}
use Rattle.std.specs.Int.RustNames.{FitsSigned}
use Rattle.std.proofs.lemmas.Int.{to_z-of_z}
use Rattle.pv_binary.specs.Numbers.{minimal, int_bytes}
use Rattle.pv_binary.proofs.Narrow.{narrow_64}
use Rattle.pv_binary.proofs.writing.push_long_int.Goals as goal

pub returns-then-n-lt9223372036854775808-clause-all :
    goal.returns-then-n-lt9223372036854775808-clause-all
returns-then-n-lt9223372036854775808-clause-all c =
    let fits : FitsSigned w64 c.args.n = search rules in
    let wide : FitsSigned w128 c.args.n = c.ranges.n in
    let bytes = simp to_z-of_z at c.to_be_bytes-bytes.ensures in
    let e : c.without_sign_bytes.result.now ≡ int_bytes c.args.n =
    c.without_sign_bytes.ensures ∙ ap minimal bytes ∙ sym (narrow_64 c.args.n fits) in
    rw e at c.push_counted.ensures.all

pub returns-clause-all : goal.returns-clause-all
unfolding int_bytes
returns-clause-all c =
    let fits : FitsSigned w128 c.args.n = c.ranges.n in
    let bytes = simp to_z-of_z at c.to_be_bytes-bytes-2.ensures in
    let e : c.without_sign_bytes-2.result.now ≡ int_bytes c.args.n = c.without_sign_bytes-2.ensures ∙ ap minimal bytes in
    rw e at c.push_counted-2.ensures.all

use Rattle.std.proofs.Common.{rules, ◌≡◌, ap, pos}
use Rattle.std.specs.Int.{w8, w32, w128, cast_unsigned}
use Rattle.std.specs.Int.RustNames.{FitsSigned}
use Rattle.std.proofs.lemmas.Int.{to_z-of_z}
use Rattle.pv_binary.proofs.Narrow.{narrow_32, counted_zero, counted_one}
use Rattle.pv_binary.proofs.writing.push_int.Goals as goal

pub returns-then-n-eq0-clause-all : goal.returns-then-n-eq0-clause-all
returns-then-n-eq0-clause-all c =
    let wide : FitsSigned w128 c.args.n = c.ranges.n in
    let is : c.args.n ≡ pos 0 = search rules in
    rw (counted_zero c.args.n is) c.push_bytes.ensures.all

pub returns-then-n-lt128-clause-all : goal.returns-then-n-lt128-clause-all
returns-then-n-lt128-clause-all c =
    let wide : FitsSigned w128 c.args.n = c.ranges.n in
    let fits : FitsSigned w8 c.args.n = search rules in
    let bytes = simp to_z-of_z at c.to_be_bytes.ensures in
    let some : c.args.n ≡ pos 0 → ⊥ = λ e. c.if-n-eq0.false (ap (cast_unsigned w128) e) in
    rw (counted_one c.args.n fits some) (rw bytes at c.push_bytes-then-n-lt128.ensures.all)

pub returns-then-n-lt2147483648-clause-all : goal.returns-then-n-lt2147483648-clause-all
returns-then-n-lt2147483648-clause-all c =
    let wide : FitsSigned w128 c.args.n = c.ranges.n in
    let fits : FitsSigned w32 c.args.n = search rules in
    let bytes = simp to_z-of_z at c.to_be_bytes-then-n-lt2147483648.ensures in
    rw (narrow_32 c.args.n fits) (rw bytes at c.push_narrow.ensures.all)

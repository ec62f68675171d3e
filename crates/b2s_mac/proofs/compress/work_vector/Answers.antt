use Rattle.std.proofs.Common.{◌≡◌, ◌/◌, ◌%◌, ◌^◌, arith, refl}
use Rattle.b2s_mac.specs.Blake2s.{work_vector}
use Rattle.b2s_mac.proofs.compress.work_vector.Goals as goal

pub returns : goal.returns
unfolding work_vector
returns c =
    let high : c.args.count / 2 ^ 32 % 2 ^ 32 ≡ c.args.count / 2 ^ 32 = omega arith in
    rw (high, c.last_flag.ensures) refl

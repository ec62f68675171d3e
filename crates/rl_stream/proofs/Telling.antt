-- What is next in bytes is what each decider tells.
use Rattle.std.proofs.Common.{ℕ, List, Option, Some, None, IfSome}
use Rattle.pv_binary.specs.OneOfThree.{AreBytes}
use Rattle.rl_stream.specs.Nexts.{IsNext, OneNext, AllTell}
use Rattle.rl_stream.specs.declared.nexts.Next.{Next}

pub all_tell : OneNext → (rest : List ℕ) (place : ℕ) (x : Next) → AreBytes rest → IsNext rest place x
    → AllTell rest place x
all_tell one rest place x are is N decides = one rest place (N rest place) x are (decides rest place are) is

pub all_tell_some : OneNext → (rest : List ℕ) (place : ℕ) (o : Option Next) → AreBytes rest
    → IfSome o (IsNext rest place) → IfSome o (AllTell rest place)
all_tell_some one rest place None are is = tt
all_tell_some one rest place (Some x) are is = all_tell one rest place x are is

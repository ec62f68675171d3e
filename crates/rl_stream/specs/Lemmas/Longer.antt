-- What is next in what a peer has sent stays next when more bytes come, but for waiting.
use Rattle.std.proofs.Common.{◌≡◌, ℕ, inl, inr, List, ◌++◌, false, sym, subst, length-append, arith}
use Rattle.pv_binary.specs.OneOfThree.{IsFront}
use Rattle.pv_stream.specs.Lemmas.Longer.{still_begins, still_stands, front_full}
use Rattle.rl_stream.specs.declared.nexts.Next.{Next}
use Rattle.rl_stream.specs.declared.nexts.Next.TheVariants.{Whole, BadBytes, BadPacket, Waits}
use Rattle.rl_stream.specs.Nexts.{IsNext}
use Rattle.rl_stream.specs.Courses.{is_waiting}

pub next_stays : (rest more : List ℕ) (place : ℕ) (x : Next) → is_waiting x ≡ false → IsNext rest place x
    → IsNext (rest ++ more) place x
next_stays rest more place (Whole p n) other (v, begins, is) = (v, still_begins rest more n v begins, is)
next_stays rest more place (BadBytes number at) other (inl (f, stands, told, there)) =
    inl (f, still_stands rest more f stands, told, there)
next_stays rest more place (BadBytes number at) other (inr (front, full, told, there)) = inr (
  subst IsFront (sym (front_full rest more full)) front,
  omega (arith, full, length-append rest more),
  told,
  there,
)
next_stays rest more place BadPacket other (n, (v, begins, none)) = (n, (v, still_begins rest more n v begins, none))
next_stays rest more place Waits other next = absurd cc

use Rattle.std.proofs.Common.{◌≡◌, inl, inr, arith}
use Rattle.std.proofs.lemmas.Bool.{cases_lt}
use Rattle.std.proofs.lemmas.Str.Ascii.{IsAscii-from_reads}
use Rattle.pv_binary.proofs.atoms.is_ascii.Goals as goal

pub loop-i-preserved : goal.loop-i-preserved
loop-i-preserved c = λ k l. elim (cases_lt k c.loop-i.i) [
  | inl h ↦ c.loop-i.invariant k h
  | inr h ↦ let same : k ≡ c.loop-i.i = omega arith in rw same c.if-byte-ge128.false
]

pub returns : goal.returns
returns c = λ t. IsAscii-from_reads c.args.bytes.now c.loop-i.i c.loop-i-test.false c.loop-i.invariant

use Rattle.std.proofs.Common.{ℕ, List, refl, sym, subst, inl, inr}
use Rattle.pv_stream.specs.declared.nexts.Next.{Next}
use Rattle.rl_stream.proofs.FoundPackets.{found_value, IsFound, at_place}
use Rattle.rl_stream.proofs.nexts.as_packet.Goals as goal

-- this was found
abbrev Finds : List ℕ → ℕ → ℕ → Next → Type 0
Finds rest place size x = IsFound (at_place rest place) (record { next = x; size = size })

pub returns-in-Value : goal.returns-in-Value
returns-in-Value c = λ rest found.
    let place = c.args.place in
    let size = c.args.found.size in
    let is = subst (Finds rest place size) c.in-Value.is found in
    c.packet_or_not.ensures rest place (found_value (at_place rest place) c.in-Value.value size is)

pub returns-in-Fault : goal.returns-in-Fault
returns-in-Fault c = λ rest found.
    let is = subst (Finds rest c.args.place c.args.found.size) c.in-Fault.is found in
    inl (record { kind = c.in-Fault.kind; place = is.0 }, is.1, sym c.number.ensures, is.2)

pub returns-in-TooLong : goal.returns-in-TooLong
returns-in-TooLong c = λ rest found.
    let is = subst (Finds rest c.args.place c.args.found.size) c.in-TooLong.is found in
    inr (is.0, is.1, refl, refl)

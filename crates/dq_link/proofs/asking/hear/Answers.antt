use Rattle.std.proofs.Common.{ℕ, ◌≤◌, List, length, sym, subst, arith}
use Rattle.std.proofs.lemmas.List.{take-append-le}
use Rattle.out_ports.specs.Dialled.{ToldLink}
use Rattle.dq_link.specs.Asked.{AreHeard}
use Rattle.dq_link.proofs.Hearing.{piece_heard}
use Rattle.dq_link.proofs.asking.hear.Goals as goal

pub returns-in-Err-clause-heard : goal.returns-in-Err-clause-heard
returns-in-Err-clause-heard g c =
    let before : ToldLink = g.H.Listen.link c.args.host.now in
    let now : ToldLink = g.H.Listen.link c.hear.new.self in
    let n = c.in-Some.n in
    let buf = c.hear.new.buf in
    let took = c.in-Some.ensures in
    let fits : n ≤ length buf = omega (arith, took.size.1) in (
      _,
      c.add.ensures.bytes,
      subst (λ (m : List ℕ). AreHeard m before.heard now.heard) (sym (take-append-le n buf _ fits))
          (piece_heard before.heard now.heard n buf fits took.content took.counted took.at_end),
      tt,
    )

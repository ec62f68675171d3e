use Rattle.std.proofs.Common.{◌≡◌, ◌-◌, length, sym, subst, arith}
use Rattle.pv_binary.proofs.Whole.{are_bytes}
use Rattle.pv_stream.specs.Walks.{IsAtom}
use Rattle.pv_stream.proofs.Atoms.{atom_found, atom_cut}
use Rattle.pv_stream.proofs.walks.end_of_atom.Goals as goal

pub returns-in-Ok-clause-found : goal.returns-in-Ok-clause-found
returns-in-Ok-clause-found c =
    let left = c.args.left.now in
    let rest = c.in-Ok.rest.now in
    let all = are_bytes left (λ i. omega (arith, c.type_inv.left i)) in
    let found = atom_found left c.args.place all c.requires.within c.requires.atom rest c.in-Ok.ensures in
    let end : c.saturating_sub.result ≡ length left - length rest = omega (arith, c.saturating_sub.ensures) in
    subst (λ n. IsAtom left c.args.place n) (sym end) found.1

pub returns-in-Err-clause-cut : goal.returns-in-Err-clause-cut
returns-in-Err-clause-cut c =
    let left = c.args.left.now in
    let all = are_bytes left (λ i. omega (arith, c.type_inv.left i)) in
    let stop = c.in-Err.stop in
    atom_cut left c.args.place all c.requires.within c.requires.atom
    (record { kind = stop.kind; place = stop.place }) c.in-Err.ensures

use Rattle.std.proofs.Common.{length, subst}
use Rattle.std.proofs.lemmas.Result.{IfOk-weaker}
use Rattle.pv_binary.specs.declared.faults.BinKind.{BinKind}
use Rattle.pv_stream.specs.Walks.{IsCutWhere}
use Rattle.pv_stream.proofs.Atoms.{atom_inside}
use Rattle.pv_stream.proofs.Walking.{few_levels, ends_in_atom, goes_to}
use Rattle.pv_stream.proofs.walks.pass_atom.Goals as goal

pub arrive_at-requires-clause-found : goal.arrive_at-requires-clause-found
arrive_at-requires-clause-found c =
    let left = c.args.left.now in
    let levels = c.args.levels.now.items in
    atom_inside left c.args.place c.in-Ok.end (length levels) c.in-Ok.ensures.found
    (few_levels left c.args.place levels c.requires.at)

pub returns-in-Ok : goal.returns-in-Ok
returns-in-Ok c =
    IfOk-weaker c.arrive_at.result _ _
    (λ s is. goes_to c.args.left.now c.args.place c.in-Ok.end _ s c.in-Ok.ensures.found.0 is) c.arrive_at.ensures

pub returns-in-Err-Truncated : goal.returns-in-Err-Truncated
returns-in-Err-Truncated c =
    let left = c.args.left.now in
    let place = c.args.place in
    let cut = subst (λ (k : BinKind). IsCutWhere left place k) c.in-Err-Truncated.field-0-is
    c.in-Err-Truncated.ensures.cut in
    (c.requires.at, ends_in_atom left place c.args.levels.now.items c.requires.at c.requires.within cut)

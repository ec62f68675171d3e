use Rattle.std.proofs.Common.{Result, Ok, Err}
use Rattle.std.specs.Prelude.{OnErr}
use Rattle.srv_turns.proofs.Following.{has_first, round_done, round_cut}
use Rattle.srv_turns.proofs.rounds.round.Goals as goal

on_err : {T E : Type 0} (r : Result T E) (P : Type 0) → P → OnErr r P
on_err {T} {E} (Ok x) P p = tt
on_err {T} {E} (Err e) P p = p

pub first-requires : goal.first-requires
first-requires g c =
    let d = c.in_ok-commit.ensures.row in
    has_first c.args.step d.0 _ _ _ c.requires d.2 d.1

pub returns-clause-done : goal.returns-clause-done
returns-clause-done g c =
    let d = c.in_ok-commit.ensures.row in
    (round_done c.args.step d.0 _ _ _ c.requires d.2 d.1 c.first.result c.first.ensures.first).0

pub returns-clause-reply : goal.returns-clause-reply
returns-clause-reply g c =
    let d = c.in_ok-commit.ensures.row in
    (round_done c.args.step d.0 _ _ _ c.requires d.2 d.1 c.first.result c.first.ensures.first).1

pub returns-in_err-commit-clause-cut : goal.returns-in_err-commit-clause-cut
returns-in_err-commit-clause-cut g c =
    let d = c.in_err-commit.ensures.row in
    on_err c.from_residual.result _ (round_cut c.args.step d.0 _ _ _ c.requires d.2 d.1)

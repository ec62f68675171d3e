use Rattle.std.proofs.Common.{[], ◌∷◌}
use Rattle.dsd_top.proofs.Minted.{lone_found, lone_only}
use Rattle.dsd_top.proofs.minting.plain_value.Goals as goal

pub returns-in-Ok-clause-found : goal.returns-in-Ok-clause-found
returns-in-Ok-clause-found c =
    let text = c.as_bytes.ensures.value in
    lone_found c.args.text.now c.in-Ok.values (rw text at c.in-Ok.ensures.found) (rw text at c.in-Ok.ensures.only)
    c.lone_value.result (rw c.as_slice.ensures.same at c.lone_value.ensures)

pub returns-in-Ok-clause-only : goal.returns-in-Ok-clause-only
returns-in-Ok-clause-only c =
    let text = c.as_bytes.ensures.value in
    lone_only c.args.text.now c.in-Ok.values (rw text at c.in-Ok.ensures.found) (rw text at c.in-Ok.ensures.only)
    c.lone_value.result (rw c.as_slice.ensures.same at c.lone_value.ensures)

pub returns-in-Err-Bad-clause-found : goal.returns-in-Err-Bad-clause-found
returns-in-Err-Bad-clause-found c =
    let only = rw (c.as_bytes.ensures.value, c.in-Err-Bad.field-0-is) at c.in-Err-Bad.ensures.only in
    λ x is. only (x ∷ []) is.0

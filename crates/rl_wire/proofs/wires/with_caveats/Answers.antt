-- A sequence with what stands for the caveats behind its items.
use Rattle.std.proofs.Common.{◌≡◌, ◌∙◌, ◌++◌, map, length, Result, Ok, Err, IfOk, sym, ap, arith}
use Rattle.std.proofs.lemmas.Bool.Decides.{nat_tests}
use Rattle.pv_value.specs.Plain.{Plain, sequence, plains}
use Rattle.pv_value.specs.View.{view_node}
use Rattle.pv_value.specs.declared.NoMemory.{NoMemory}
use Rattle.rl_wire.specs.Crossing.{caveat_kept, with_caveats}
use Rattle.rl_wire.proofs.References.{with_items, with_no_caveats}
use Rattle.rl_wire.proofs.wires.with_caveats.Goals as goal

copied : (v w : Plain) (r : Result Plain NoMemory) → v ≡ w → IfOk r (λ x. x ≡ v) → IfOk r (λ x. x ≡ w)
copied v w (Ok x) same is = is ∙ same
copied v w (Err e) same is = tt

pub returns-then-is_empty : goal.returns-then-is_empty
returns-then-is_empty c =
    let none : length c.args.caveats.now ≡ 0 = grind (arith, nat_tests) in
    copied c.args.reference.now _ c.copy-then-is_empty.result
    (with_no_caveats c.args.caveats.now c.args.reference.now none) c.copy-then-is_empty.ensures

pub returns : goal.returns
returns c =
    c.sequence.ensures
    ∙ ap (λ xs. sequence (plains xs)) (c.in_ok-from_vec.ensures ∙ c.in_ok-add_kept.ensures
    ∙ ap (λ xs. xs ++ map caveat_kept c.args.caveats.now) (c.in_ok-all.ensures ∙ c.as_slice.ensures.same))
    ∙ with_items _ c.args.caveats.now
    ∙ ap (with_caveats c.args.caveats.now) (sym (ap view_node c.in-Seq.is) ∙ c.reference.view_is)

use Rattle.std.proofs.Common.{◌≡◌, ◌∷◌, pos, subst, ◌∙◌, arith}
use Rattle.std.specs.Int.{w128}
use Rattle.std.specs.Int.RustNames.{FitsSigned}
use Rattle.std.proofs.lemmas.Int.{to_z-of_z}
use Rattle.pv_binary.proofs.Varints.{IsBytes}
use Rattle.pv_binary.proofs.Ints.{int_sound}
use Rattle.pv_binary.proofs.Whole.{are_bytes}
use Rattle.rl_packet.proofs.Fronts.{number_begins}
use Rattle.rl_packet.proofs.Missing.{no_digits, no_small}
use Rattle.rl_packet.proofs.spelled.number_in.Goals as goal

pub returns-clause-found : goal.returns-clause-found
returns-clause-found c =
    let digits = c.in-Some.digits.now in
    let all = are_bytes c.args.bytes.now (λ i. omega (arith, c.type_inv.bytes i)) in
    let left : IsBytes (0xb0 ∷ digits) = subst IsBytes c.in-Some.ensures.found all in
    let fits : FitsSigned w128 c.in-Ok.z = (int_sound digits c.in-Ok.z c.in-Ok.rest.now left.1 c.in-Ok.ensures).2 in
    let is : c.in-Ok.z ≡ pos c.in-Some-number_of.n = simp to_z-of_z at c.in-Some-number_of.ensures.found.1 in (
      c.in-Some-number_of.ensures.found.0,
      number_begins 0 c.args.bytes.now digits c.in-Ok.z c.in-Some-number_of.n c.in-Ok.rest.now all c.in-Some.ensures.found
          c.in-Ok.ensures is,
    )

pub returns-in_default-read_int-clause-none : goal.returns-in_default-read_int-clause-none
returns-in_default-read_int-clause-none c =
    no_digits c.args.bytes.now c.in-Some.digits.now c.in_default-read_int.field-0 c.in-Some.ensures.found
    c.in_default-read_int.ensures

pub returns-in_default-number_of-clause-none : goal.returns-in_default-number_of-clause-none
returns-in_default-number_of-clause-none c =
    let digits = c.in-Some.digits.now in
    let all = are_bytes c.args.bytes.now (λ i. omega (arith, c.type_inv.bytes i)) in
    let left : IsBytes (0xb0 ∷ digits) = subst IsBytes c.in-Some.ensures.found all in
    let fits : FitsSigned w128 c.in-Ok.z = (int_sound digits c.in-Ok.z c.in-Ok.rest.now left.1 c.in-Ok.ensures).2 in
    no_small c.args.bytes.now digits c.in-Ok.z c.in-Ok.rest.now c.in-Some.ensures.found c.in-Ok.ensures
    (λ m l e. c.in_default-number_of.ensures.none m l (to_z-of_z w128 c.in-Ok.z fits ∙ e))

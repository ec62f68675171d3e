-- What is accepted is what is given.
use Rattle.std.proofs.Common.{◌≡◌, ◌≤◌, length, Bool, true, false, cond, nat_lt, Option, Some, None, refl, ap, sym, ◌∙◌}
use Rattle.std.proofs.Common.{arith, List}
use Rattle.std.proofs.lemmas.Bool.Decides.{nat_tests}
use Rattle.std.proofs.lemmas.Slice.Eq.{bytes_eq-Decides}
use Rattle.pv_value.specs.Plain.{Plain}
use Rattle.pv_value.specs.Weight.{weight}
use Rattle.sr_caveat.specs.Caps.{Cap, cap_value}
use Rattle.sr_caveat.specs.Limits.{reference_caveats, reference_weight}
use Rattle.gk_sturdy.specs.Refs.{SturdyRef, ref_of}
use Rattle.gk_sturdy.specs.Chain.{due, is_valid}
use Rattle.gk_sturdy.specs.Bindings.{Binding, binding_for}
use Rattle.gk_sturdy.specs.Answers.{Answer, Accepted, Rejected, BadSig, Caveats, Heavy, told, given_by, if_within}
use Rattle.gk_sturdy.specs.Answers.{answer_by, answer_to, answer_of}
use Rattle.gk_sturdy.specs.Laws.{IsGiven, AcceptedIsGiven}

-- ---- what is accepted is given

-- within the bounds, and the same
abbrev Within : Cap → Cap → Type 0
Within g c = (c ≡ g) × (length g.caveats ≤ reference_caveats) × (weight (cap_value g) ≤ reference_weight)

by_weight : (g c : Cap) (t : Bool) → length g.caveats ≤ reference_caveats
    → nat_lt reference_weight (weight (cap_value g)) ≡ t
    → cond {A = Answer} t (Rejected (Heavy (told (weight (cap_value g))))) (Accepted g) ≡ Accepted c → Within g c
by_weight g c true few w e = absurd cc
by_weight g c false few w e = let one : g ≡ c = cc in (sym one, few, grind (arith, nat_tests, w))

by_count : (g c : Cap) (t : Bool) → nat_lt reference_caveats (length g.caveats) ≡ t
    → cond {A = Answer} t (Rejected (Caveats (told (length g.caveats))))
    (cond {A = Answer} (nat_lt reference_weight (weight (cap_value g))) (Rejected (Heavy (told (weight (cap_value g)))))
    (Accepted g)) ≡ Accepted c
    → Within g c
by_count g c true n e = absurd cc
by_count g c false n e =
    by_weight g c (nat_lt reference_weight (weight (cap_value g))) (grind (arith, nat_tests, n)) refl e

by_signature : (b : Binding) (r : SturdyRef) (c : Cap) (t : Bool) → is_valid b.key r ≡ t
    → cond {A = Answer} t (if_within (given_by b r)) (Rejected (BadSig r.sig (due b.key r))) ≡ Accepted c
    → (r.sig ≡ due b.key r) × Within (given_by b r) c
by_signature b r c true s e = (
  (bytes_eq-Decides r.sig (due b.key r)).0 s,
  by_count (given_by b r) c (nat_lt reference_caveats (length (given_by b r).caveats)) refl e,
)
by_signature b r c false s e = absurd cc

with_parts : (bs : List Binding) (v : Plain) (c : Cap) (r : SturdyRef) (b : Binding) → ref_of v ≡ Some r
    → binding_for r.oid bs ≡ Some b → (r.sig ≡ due b.key r) × Within (given_by b r) c → IsGiven bs v c
with_parts bs v c r b read bound h = record {
  reference = r;
  binding = b;
  is_read = read;
  is_bound = bound;
  is_signed = h.0;
  is_what = h.1.0;
  is_short = rw (h.1.0) h.1.1;
  is_light = rw (h.1.0) h.1.2;
}

by_binding : (bs : List Binding) (v : Plain) (c : Cap) (r : SturdyRef) → ref_of v ≡ Some r → (o : Option Binding)
    → binding_for r.oid bs ≡ o → answer_by r o ≡ Accepted c → IsGiven bs v c
by_binding bs v c r read None bound e = absurd cc
by_binding bs v c r read (Some b) bound e =
    with_parts bs v c r b read bound (by_signature b r c (is_valid b.key r) refl e)

by_reference : (bs : List Binding) (v : Plain) (c : Cap) (o : Option SturdyRef) → ref_of v ≡ o
    → answer_to bs o ≡ Accepted c → IsGiven bs v c
by_reference bs v c None read e = absurd cc
by_reference bs v c (Some r) read e = by_binding bs v c r read (binding_for r.oid bs) refl e

-- ---- what is given is accepted

within : (c : Cap) → length c.caveats ≤ reference_caveats → weight (cap_value c) ≤ reference_weight
    → if_within c ≡ Accepted c
within c few light =
    let n : nat_lt reference_caveats (length c.caveats) ≡ false = grind (arith, nat_tests, few) in
    let w : nat_lt reference_weight (weight (cap_value c)) ≡ false = grind (arith, nat_tests, light) in
    rw (n, w) refl

accepted : (bs : List Binding) (v : Plain) (c : Cap) → IsGiven bs v c → answer_of bs v ≡ Accepted c
accepted bs v c g =
    let r = g.reference in
    let b = g.binding in
    ap (answer_to bs) g.is_read ∙ ap (answer_by r) g.is_bound
    ∙ ap (λ t. cond {A = Answer} t (if_within (given_by b r)) (Rejected (BadSig r.sig (due b.key r))))
    ((bytes_eq-Decides r.sig (due b.key r)).1 g.is_signed)
    ∙ ap if_within (sym g.is_what) ∙ within c g.is_short g.is_light

pub accepted_given : AcceptedIsGiven
accepted_given bs v c = (by_reference bs v c (ref_of v) refl, accepted bs v c)

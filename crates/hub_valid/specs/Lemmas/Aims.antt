-- What is sent through a reference is aimed at an object, and holds objects.
use Rattle.std.proofs.Common.{◌≡◌, ◌++◌, List, [], ◌∷◌, Bool, true, false, cond, nat_lt, length, Option, Some, None}
use Rattle.std.proofs.Common.{refl, option_map}
use Rattle.std.specs.Prelude.{IsSomeAnd, option_and_then}
use Rattle.std.specs.List.{AllByRecursion}
use Rattle.pv_value.specs.Plain.{Plain, record_of, sequence, no_more, then_more}
use Rattle.pv_value.specs.Weight.{weight}
use Rattle.pv_words.specs.Parts.{same}
use Rattle.sr_caveat.specs.Limits.{reference_caveats, reference_weight}
use Rattle.sr_caveat.specs.declared.caps.Cap.{Cap}
use Rattle.sr_caveat.specs.Caps.{cap_of, cap_value}
use Rattle.sr_pass.specs.Passing.{passed}
use Rattle.gk_sturdy.specs.declared.refs.SturdyRef.{SturdyRef}
use Rattle.gk_sturdy.specs.Refs.{ref_of}
use Rattle.gk_sturdy.specs.Chain.{due, is_valid}
use Rattle.gk_sturdy.specs.declared.bound.Binding.{Binding}
use Rattle.gk_sturdy.specs.Bindings.{binding_for}
use Rattle.gk_sturdy.specs.declared.answering.Answer.TheVariants.{Accepted, Rejected}
use Rattle.gk_sturdy.specs.declared.answering.Why.TheVariants.{BadSig, Caveats, Heavy}
use Rattle.gk_sturdy.specs.Answers.{told, given_by, if_within, answer_by, answer_to, answer_value, reply_to}
use Rattle.gk_sturdy.specs.Lemmas.Sound.{given_sound}
use Rattle.pv_words.specs.Lemmas.Found.{If}
use Rattle.ps_schema.specs.declared.Definition.{Definition}
use Rattle.ac_world.specs.declared.aims.Aim.{Aim}
use Rattle.ac_world.specs.Aims.{aim_by, aim_at, observer_in, aim_for, aim_of}
use Rattle.ac_world.specs.Behaviours.{answer_for}
use Rattle.rl_wire.specs.Crossing.{held_in}
use Rattle.rl_wire.specs.Lemmas.Later.{all_of_front, all_of_rest}
use Rattle.hub_valid.specs.Validity.{Lived, IsObjectAt, IsObject, IsObjectValue, HoldsObjects, IsValidBinding}
use Rattle.hub_valid.specs.Lemmas.Passed.{through_holds}
use Rattle.hub_valid.specs.Lemmas.Values.{cap_is_object, observer_is_object}

pub record IsAimed (n : Lived) (aim : Aim) : Type 0 where
  pub at : IsObjectAt n aim.at.actor aim.at.entity
  pub value : HoldsObjects n aim.value

pub sent_aims : (ds : List Definition) (n : Lived) (v x : Plain) → HoldsObjects n v → IsObjectValue n x
    → If (aim_at ds v x) (IsAimed n)
sent_aims ds n v x holds object = by (cap_of x) refl object
  where
    passing : (c : Cap) (o : Option Plain) → IsObject n c → If o (HoldsObjects n)
        → If (option_map (λ w. record { at = record { actor = c.actor; entity = c.entity }; value = w }) o) (IsAimed n)
    passing c None object value = tt
    passing c (Some w) object value = record { at = object; value = value }

    by : (o : Option Cap) → cap_of x ≡ o → IsSomeAnd o (IsObject n) → If (option_and_then (aim_by ds v) o) (IsAimed n)
    by None is object = absurd object
    by (Some c) is object = passing c (passed ds c.caveats v) object (through_holds ds n x v c is holds)

-- what is told to the one that observes
pub told_aims : (ds : List Definition) (n : Lived) (v o : Plain) → HoldsObjects n v → HoldsObjects n o
    → If (aim_for ds v o) (IsAimed n)
told_aims ds n v o holds there = by (observer_in o) (observer_is_object n o there)
  where
    by : (q : Option Plain) → If q (IsObjectValue n) → If (option_and_then (aim_at ds v) q) (IsAimed n)
    by None object = tt
    by (Some r) object = sent_aims ds n v r holds object

-- what a key wants
pub key_aims : (ds : List Definition) (n : Lived) (key : Plain) → HoldsObjects n key → If (aim_of ds key) (IsAimed n)
key_aims ds n (sequence (then_more o (then_more c no_more))) h =
    told_aims ds n c o
    (all_of_front (IsObjectValue n) (held_in c) [] (all_of_rest (IsObjectValue n) (held_in o) (held_in c ++ []) h))
    (all_of_front (IsObjectValue n) (held_in o) (held_in c ++ []) h)
key_aims ds n key h = tt

-- ---- what the gatekeeper replies

-- the reply holds the object that a binding gives, or none
answer_holds : (n : Lived) (bs : List Binding) (v : Plain) → AllByRecursion (IsValidBinding n) bs
    → HoldsObjects n (reply_to bs v)
answer_holds n bs v all = by (ref_of v)
  where
    within : (b : Binding) (r : SturdyRef) → IsValidBinding n b → (c d : Bool) → HoldsObjects n
        (answer_value (cond c (Rejected (Caveats (told (length (given_by b r).caveats))))
        (cond d (Rejected (Heavy (told (weight (cap_value (given_by b r)))))) (Accepted (given_by b r)))))
    within b r valid true d = tt
    within b r valid false true = tt
    within b r valid false false = (cap_is_object n (given_by b r) (given_sound b r valid.0) valid.1, tt)

    signed : (b : Binding) (r : SturdyRef) → IsValidBinding n b → (c : Bool)
        → HoldsObjects n (answer_value (cond c (if_within (given_by b r)) (Rejected (BadSig r.sig (due b.key r)))))
    signed b r valid true =
        within b r valid (nat_lt reference_caveats (length (given_by b r).caveats))
        (nat_lt reference_weight (weight (cap_value (given_by b r))))
    signed b r valid false = tt

    found : (r : SturdyRef) (cs : List Binding) → AllByRecursion (IsValidBinding n) cs
        → HoldsObjects n (answer_value (answer_by r (binding_for r.oid cs)))
    found r [] valid = tt
    found r (c ∷ cs) valid = at (same r.oid c.oid) (found r cs valid.1)
      where
        at : (e : Bool) → HoldsObjects n (answer_value (answer_by r (binding_for r.oid cs)))
            → HoldsObjects n (answer_value (answer_by r (cond e (Some c) (binding_for r.oid cs))))
        at true later = signed c r valid.0 (is_valid c.key r)
        at false later = later

    by : (o : Option SturdyRef) → HoldsObjects n (answer_value (answer_to bs o))
    by None = tt
    by (Some r) = found r bs all

-- what is replied to one that asks
pub answer_aims : (ds : List Definition) (n : Lived) (bs : List Binding) → AllByRecursion (IsValidBinding n) bs
    → (v : Plain) → HoldsObjects n v
    → If (answer_for ds bs v) (IsAimed n)
answer_aims ds n bs all (record_of l (then_more s rest)) h =
    told_aims ds n (reply_to bs s) (record_of l (then_more s rest)) (answer_holds n bs s all) h
answer_aims ds n bs all v h = tt

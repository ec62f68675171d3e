-- What a signed reference gives, and why it gives nothing. The five causes are looked at in this order, and each tells
-- what it was. The bounds are those of every reference, on its caveats and on its weight.
use Rattle.std.specs.Prelude.{ℕ, ◌-◌, ◌^◌, min, nat_lt, false, List, [], ◌∷◌, length, map, Option, Some, None}
use Rattle.std.specs.Prelude.{codes, if◌then◌else◌}
use Rattle.pv_value.specs.Plain.{Plain, string, embedded}
use Rattle.pv_value.specs.Weight.{weight}
use Rattle.pv_words.specs.Words.{labelled}
use Rattle.sr_caveat.specs.Caps.{Cap, cap_value, attenuated}
use Rattle.sr_caveat.specs.Written.{caveat_of}
use Rattle.sr_caveat.specs.Limits.{reference_caveats, reference_weight}
use Rattle.gk_sturdy.specs.Refs.{SturdyRef, ref_of}
use Rattle.gk_sturdy.specs.Chain.{due, is_valid}
use Rattle.gk_sturdy.specs.Bindings.{Binding, binding_for}
pub use Rattle.gk_sturdy.specs.declared.answering.Answer.{Answer}
pub use Rattle.gk_sturdy.specs.declared.answering.Answer.TheVariants.{Accepted, Rejected}
pub use Rattle.gk_sturdy.specs.declared.answering.Why.{Why}
pub use Rattle.gk_sturdy.specs.declared.answering.Why.TheVariants.{NotARef, NoBinding, BadSig, Caveats, Heavy}

-- a number as it is told: it stops at the greatest 64-bit number
abbrev pub told : ℕ → ℕ
told n = min n (2 ^ 64 - 1)

-- the binding's reference, with the caveats of the signed one behind its own; a guard among these is unknown
abbrev pub given_by : Binding → SturdyRef → Cap
given_by b r = attenuated (map (caveat_of false) r.caveats) b.cap

-- a reference within the bounds is accepted
abbrev pub if_within : Cap → Answer
if_within c =
    if nat_lt reference_caveats (length c.caveats) then Rejected (Caveats (told (length c.caveats)))
    else if nat_lt reference_weight (weight (cap_value c)) then Rejected (Heavy (told (weight (cap_value c))))
    else Accepted c

-- a reference that was signed under the binding's key gives what the binding does
abbrev pub answer_by : SturdyRef → Option Binding → Answer
answer_by r None = Rejected NoBinding
answer_by r (Some b) =
    if is_valid b.key r then if_within (given_by b r) else Rejected (BadSig r.sig (due b.key r))

abbrev pub answer_to : List Binding → Option SturdyRef → Answer
answer_to bs None = Rejected NotARef
answer_to bs (Some r) = answer_by r (binding_for r.oid bs)

-- what a value is answered, as a signed reference
abbrev pub answer_of : List Binding → Plain → Answer
answer_of bs v = answer_to bs (ref_of v)

-- `<accepted #:cap>` or `<rejected "refused">`, which tells nothing of the cause
abbrev pub answer_value : Answer → Plain
answer_value (Accepted c) = labelled (codes "accepted") (embedded (cap_value c) ∷ [])
answer_value (Rejected why) = labelled (codes "rejected") (string (codes "refused") ∷ [])

-- the value with which a value is answered
abbrev pub reply_to : List Binding → Plain → Plain
reply_to bs v = answer_value (answer_of bs v)

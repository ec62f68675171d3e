-- How far an input is read: one value more, and where no value comes.
use Rattle.std.proofs.Common.{◌≡◌, ℕ, ◌<◌, false, Some, List, [], ◌∷◌, ◌++◌, length, Err, IsErrOf, inl, inr}
use Rattle.std.proofs.Common.{refl, ap, subst}
use Rattle.pv_value.specs.Plain.{Plain}
use Rattle.pv_read.specs.Lemmas.Leading.{leads_more}
use Rattle.pv_binary.specs.Reads.{Leads}
use Rattle.pv_binary.specs.Lemmas.Begins.{leads_less}
use Rattle.pv_text.specs.Reads.{LeadsTo}
use Rattle.pv_text.specs.Lemmas.Begins.{leads_shorter}
use Rattle.sc_events.specs.declared.inputs.Reading.{Reading}
use Rattle.sc_events.specs.declared.inputs.Reading.TheVariants.{Binary, Text, NoText}
use Rattle.sc_events.specs.TextInputs.{BeginNoText}
use Rattle.sc_events.specs.Readings.{AreReadAs}
use Rattle.sc_events.specs.SoFar.{form_of, AreReadTo, IsNextAs, StopAs}

pub one_more : (how : Reading) (bytes : List ℕ) (vs : List Plain) (rest : List ℕ) (v : Plain) (more : List ℕ)
    → AreReadTo how bytes vs rest → IsNextAs how rest (Some (v, more)) → AreReadTo how bytes (vs ++ v ∷ []) more
one_more Binary bytes vs rest v more r next = leads_more Leads bytes vs rest v more r next
one_more Text bytes vs rest v more r next = (r.0, leads_more LeadsTo bytes vs rest v more r.1 next)
one_more NoText bytes vs rest v more r next = absurd next

pub is_shorter : (how : Reading) (rest : List ℕ) (v : Plain) (more : List ℕ) → IsNextAs how rest (Some (v, more))
    → length more < length rest
is_shorter Binary rest v more next = leads_less rest v more next
is_shorter Text rest v more next = leads_shorter rest v more next
is_shorter NoText rest v more next = absurd next

pub no_more_read : (how : Reading) (total : ℕ) (bytes : List ℕ) (vs : List Plain) (rest : List ℕ)
    → total ≡ length bytes → AreReadTo how bytes vs rest → StopAs how total rest
    → AreReadAs (form_of how) bytes vs false
no_more_read Binary total bytes vs rest all r stop = (rest, r, stop)
no_more_read Text total bytes vs rest all r stop =
    inl (r.0, (rest, r.1, subst (λ n. BeginNoText n rest) all stop))
no_more_read NoText total bytes vs rest all r stop = inr (r.0, r.1, refl)

-- what is an error of one answer is that of another
pub same_fault : {T U E : Type 0} (f e : E) → IsErrOf {T = T} (Err f) e → IsErrOf {T = U} (Err f) e
same_fault f e is = let same : f ≡ e = cc in ap Err same

-- How many values are read of an input.
use Rattle.std.proofs.Common.{ℕ, ◌≤◌, ◌<◌, List, [], ◌∷◌, length, ap, arith}
use Rattle.pv_value.specs.Plain.{Plain}
use Rattle.pv_read.specs.Leading.{LeadsOver}
use Rattle.pv_binary.specs.Reads.{Leads}
use Rattle.pv_binary.specs.Lemmas.Begins.{leads_less}
use Rattle.pv_text.specs.Reads.{LeadsTo}
use Rattle.pv_text.specs.Lemmas.Begins.{leads_shorter}
use Rattle.sc_events.specs.declared.inputs.Form.{Form}
use Rattle.sc_events.specs.declared.inputs.Reading.{Reading}
use Rattle.sc_events.specs.declared.inputs.Reading.TheVariants.{Binary, Text, NoText}
use Rattle.sc_events.specs.declared.inputs.Values.{Values}
use Rattle.sc_events.specs.SoFar.{AreReadTo, AreSoFar}

-- where each value takes a byte at least, there are no more of them than bytes
few_lead : {V : Type 0} (To : List ℕ → V → List ℕ → Type 0)
    → ((bytes : List ℕ) (v : V) (more : List ℕ) → To bytes v more → length more < length bytes)
    → (bytes : List ℕ) (vs : List V) (rest : List ℕ) → LeadsOver To bytes vs rest → length vs ≤ length bytes
few_lead To less bytes [] rest l = omega arith
few_lead To less bytes (v ∷ vs) rest l =
    omega (arith, less bytes v l.0 l.1, few_lead To less l.0 vs rest l.2)

few_read : (how : Reading) (bytes : List ℕ) (vs : List Plain) (rest : List ℕ) → AreReadTo how bytes vs rest
    → length vs ≤ length bytes
few_read Binary bytes vs rest r = few_lead Leads leads_less bytes vs rest r
few_read Text bytes vs rest r = few_lead LeadsTo leads_shorter bytes vs rest r.1
few_read NoText bytes vs rest r = omega (arith, ap (λ (ws : List Plain). length ws) r.1)

pub few_so_far : (form : Form) (bytes : List ℕ) (vs : List Plain) (values : Values) → AreSoFar form bytes vs values
    → length vs ≤ length bytes
few_so_far form bytes vs values s = few_read values.reading bytes vs values.rest.now s.read

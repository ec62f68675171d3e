-- What is made of the values of an input: of one more of them, and at the end of the input.
use Rattle.std.proofs.Common.{◌≡◌, ℕ, ◌+◌, ◌≤◌, true, false, List, [], ◌∷◌, ◌++◌, length, sym, ap, ◌∙◌, arith}
use Rattle.std.proofs.Common.{length-append}
use Rattle.pv_value.specs.Plain.{Plain}
use Rattle.sc_events.specs.Limits.{most_input}
use Rattle.sc_events.specs.declared.inputs.Form.{Form as Input}
use Rattle.sc_events.specs.declared.inputs.Values.{Values}
use Rattle.sc_events.specs.Readings.{AreReadAs}
use Rattle.sc_events.specs.SoFar.{AreSoFar}
use Rattle.sc_events.specs.Lemmas.Reading.{few_so_far}
use Rattle.dsd_top.specs.Forms.{made_of_all}
use Rattle.dsd_top.specs.Values.{AreMade, IsBadAt}
use Rattle.dsd_top.proofs.InForm.{made-more}

-- so many values of the input are read, and this is what is made of them
pub record IsMadeSoFar (input : Input) (make : Plain → List ℕ) (bytes : List ℕ) (place : ℕ) (values : Values)
    (out : List ℕ) : Type 0 where
  pub vs : List Plain
  pub counted : place ≡ length vs
  pub read : AreSoFar input bytes vs values
  pub made : out ≡ made_of_all make vs

module _ (input : Input) (make : Plain → List ℕ) (bytes : List ℕ) (n : ℕ) (values : Values) (out : List ℕ)
    (done : IsMadeSoFar input make bytes n values out) where
  -- value n is read
  module _ (next : Values) (v : Plain)
      (read : (vs : List Plain) → AreSoFar input bytes vs values → AreSoFar input bytes (vs ++ v ∷ []) next) where
    all_counted : n + 1 ≡ length (done.vs ++ v ∷ [])
    all_counted = omega (arith, length-append done.vs (v ∷ []), done.counted)

    pub is_few : n + 1 ≤ length bytes
    is_few = omega (arith, few_so_far input bytes (done.vs ++ v ∷ []) next (read done.vs done.read), all_counted)

    pub made_more : (now : List ℕ) → now ≡ out ++ make v → IsMadeSoFar input make bytes (n + 1) next now
    made_more now is = record {
      vs = done.vs ++ v ∷ [];
      counted = all_counted;
      read = read done.vs done.read;
      made = is ∙ ap (λ o. o ++ make v) done.made ∙ sym (made-more make done.vs v);
    }

  module _ (short : length bytes ≤ most_input) where
    pub all_read : ((vs : List Plain) → AreSoFar input bytes vs values → AreReadAs input bytes vs true)
        → AreMade input make bytes out
    all_read read = (short, done.vs, read done.vs done.read, done.made)

    pub cut_off : ((vs : List Plain) → AreSoFar input bytes vs values → AreReadAs input bytes vs false)
        → IsBadAt input bytes n
    cut_off read = (short, done.vs, read done.vs done.read, sym done.counted)

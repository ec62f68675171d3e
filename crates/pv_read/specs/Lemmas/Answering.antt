-- What an answer says, by what reading gives.
use Rattle.std.proofs.Common.{◌≡◌, Option, Result, Ok, Err, sym, ◌∙◌}
use Rattle.std.specs.Prelude.{IfOk, IfSome, option_map, Some, None}
use Rattle.pv_read.specs.Results.{Fault}
use Rattle.pv_read.specs.Answers.{Gives, Fails, IsAnswer, IsFault, IsExact}
use Rattle.pv_read.specs.declared.ReadFault.{ReadFault}
use Rattle.pv_read.specs.declared.ReadFault.TheVariants.{Bad, NoMemory}
use Rattle.pv_read.specs.Lemmas.Binds.{ok_same, err_same}

-- where a part fails, the whole fails alike
pub fails_alike : {K Z W : Type 0} (e : ReadFault K) (o : Result Z (Fault K)) (p : Result W (Fault K)) → Fails e o
    → ((f : Fault K) → o ≡ Err f → p ≡ Err f) → Fails e p
fails_alike NoMemory o p g h = tt
fails_alike (Bad kind place) o p g h = h _ g

-- ---- answers that are faults; for the shape of the answers nothing counts

module _ {K X Y Z : Type 0} (view : X → Y) (given : Result Z (Fault K)) where
  pub fault_only : (e : ReadFault K) → Fails e given → (z : Z) → given ≡ Ok z → (y : Y) → IsAnswer view (Err e) y
  fault_only NoMemory f z g y = tt
  fault_only (Bad kind place) f z g y = cc (sym f ∙ g)

module _ {K Z : Type 0} (given : Result Z (Fault K)) where
  pub fault_exact : (X : Type 0) (e : ReadFault K) → Fails e given → (P : Fault K → Type 0)
      → ((f : Fault K) → given ≡ Err f → P f) → IsExact {X = X} (Err e) P
  fault_exact X NoMemory f P h = tt
  fault_exact X (Bad kind place) f P h = h _ f

  pub fault_is : (X : Type 0) (e : ReadFault K) → Fails e given → (f : Fault K) → given ≡ Err f
      → IsFault {X = X} (Err e) f
  fault_is X NoMemory h f g = tt
  fault_is X (Bad kind place) h f g = err_same {A = Z} _ f (sym h ∙ g)

-- ---- any answers

module _ {K X Y : Type 0} (view : X → Y) (given : Result Y (Fault K)) where
  pub ok_so : (o : Result X (ReadFault K)) → Gives view o given → (P : X → Type 0)
      → ((x : X) → given ≡ Ok (view x) → P x)
      → IfOk o P
  ok_so (Ok x) g P h = h x g
  ok_so (Err e) g P h = tt

  pub only_so : (o : Result X (ReadFault K)) → Gives view o given → (y : Y) → given ≡ Ok y → IsAnswer view o y
  only_so (Ok x) g y h = ok_same {E = Fault K} (view x) y (sym g ∙ h)
  only_so (Err e) g y h = fault_only view given e g y h y

  pub exact_so : (o : Result X (ReadFault K)) → Gives view o given → (P : Fault K → Type 0)
      → ((f : Fault K) → given ≡ Err f → P f) → IsExact o P
  exact_so (Ok x) g P h = tt
  exact_so (Err e) g P h = fault_exact given X e g P h

  pub fault_so : (o : Result X (ReadFault K)) → Gives view o given → (f : Fault K) → given ≡ Err f → IsFault o f
  fault_so (Ok x) g f h = cc (sym g ∙ h)
  fault_so (Err e) g f h = fault_is given X e g f h

-- what holds of each thing that is seen holds where there is one
pub some_so : {K X Y : Type 0} (view : X → Y) (P : X → Type 0) (o : Option X) (given : Result (Option Y) (Fault K))
    → given ≡ Ok (option_map view o) → ((x : X) → given ≡ Ok (Some (view x)) → P x) → IfSome o P
some_so view P None given e h = tt
some_so view P (Some x) given e h = h x e

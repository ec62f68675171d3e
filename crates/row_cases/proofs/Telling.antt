-- A fault that a codec answers stands, so what is told of it tells one that stands.
use Rattle.std.proofs.Common.{ℕ, List, Err}
use Rattle.pv_read.specs.Answers.{IsExact}
use Rattle.pv_read.specs.Results.{Fault}
use Rattle.pv_read.specs.declared.ReadFault.{ReadFault}
use Rattle.pv_read.specs.declared.ReadFault.TheVariants.{Bad, NoMemory}
use Rattle.row_cases.specs.Told.{IsTold, TellsFault}

pub tells : {K : Type 0} (X : Type 0) (name : K → List ℕ) (Stands : Fault K → Type 0) (e : ReadFault K) (s : List ℕ)
    → IsExact {X = X} (Err e) Stands → IsTold name e s → TellsFault name Stands s
tells X name Stands (Bad k p) s exact is = (record { kind = k; place = p }, exact, is)
tells X name Stands NoMemory s exact is = absurd is

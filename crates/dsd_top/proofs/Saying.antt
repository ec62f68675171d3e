-- What is said of what the words ask for, by what is said of the request that they are.
use Rattle.std.proofs.Common.{◌≡◌, ℕ, List, Option, Some, None, sym, subst}
use Rattle.out_ports.specs.Ports.{Appends, AppendsFront}
use Rattle.dsd_top.specs.Commands.{IsOfTable}
use Rattle.dsd_top.specs.Lines.{line_of, Says, SaysFront}
use Rattle.dsd_top.specs.Schemas.{Files}
use Rattle.dsd_top.specs.Statuses.{Stands, IsToldFault}
use Rattle.dsd_top.specs.declared.faults.Fault.TheVariants.{BadWords}
use Rattle.dsd_top.specs.declared.words.Notice.{Notice}
use Rattle.dsd_top.specs.declared.words.Request.{Request}
use Rattle.dsd_top.specs.declared.words.Request.TheVariants.{Tell}
use Rattle.dsd_top.proofs.Causes.{told_stands}

module _ (o : Option Request) (files : Files) (left before now : Option (List ℕ)) (k : ℕ) where
  -- of a notice
  module _ (n : Notice) (is : Some (Tell n) ≡ o) where
    pub told_front : SaysFront (IsToldFault n) k before now → SaysFront (Stands o files left) k before now
    told_front s =
        let P : Option Request → Type 0 = λ q. Stands q files left s.0 in
        (s.0, s.1, subst P is (told_stands n files left s.0 s.2), s.3)

    pub told_whole : Says (IsToldFault n) k before now → Says (Stands o files left) k before now
    told_whole s =
        let P : Option Request → Type 0 = λ q. Stands q files left s.0 in
        (s.0, s.1, subst P is (told_stands n files left s.0 s.2), s.3)

  -- of other words
  module _ (none : o ≡ None) (status : k ≡ 2) where
    not_there : IsOfTable o → ⊥
    not_there h = subst IsOfTable none h

    pub refused_front : AppendsFront before now (line_of BadWords) → SaysFront (Stands o files left) k before now
    refused_front s = (BadWords, sym status, not_there, s)

    pub refused_whole : Appends before now (line_of BadWords) → Says (Stands o files left) k before now
    refused_whole s = (BadWords, sym status, not_there, s)

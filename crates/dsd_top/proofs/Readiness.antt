-- Works, and the commands that they are of.
use Rattle.std.proofs.Common.{◌≡◌, ℕ, true, List, Option, Some, None, IfSome, Contains, lit<, refl, subst, sym}
use Rattle.out_ports.specs.Ports.{Appends, AppendsFront}
use Rattle.ps_schema.specs.declared.Definition.{Definition}
use Rattle.ps_schema.specs.Names.{knows}
use Rattle.sc_events.specs.declared.inputs.Form.TheVariants as input
use Rattle.dsd_top.specs.Asked.{Checking}
use Rattle.dsd_top.specs.Forms.{verdict_by}
use Rattle.dsd_top.specs.Inputs.{kept_of}
use Rattle.dsd_top.specs.Makings.{IsMadeOf}
use Rattle.dsd_top.specs.Schemas.{Files, IsSchemaIn}
use Rattle.dsd_top.specs.Statuses.{statuses_by, status_of, IsBehindInput, Stands, IsAnswerOf, IsAnswered, IsCut}
use Rattle.dsd_top.specs.Values.{AreMade}
use Rattle.dsd_top.specs.Works.{IsReady, IsUnready, CanJudge, IsAnswerBy, IsCauseBy, IsUnmadeFor, IsUnjudgedFor}
use Rattle.dsd_top.specs.declared.answers.Work.{Work}
use Rattle.dsd_top.specs.declared.answers.Work.TheVariants as work
use Rattle.dsd_top.specs.declared.faults.Fault.{Fault}
use Rattle.dsd_top.specs.declared.faults.Fault.TheVariants.{BadInput, BadWords, ReadFailed, WriteFailed, NoMemory}
use Rattle.dsd_top.specs.declared.faults.Fault.TheVariants.{Limit, BadConfig}
use Rattle.dsd_top.specs.declared.words.Making.{Making}
use Rattle.dsd_top.specs.declared.words.Making.TheVariants.{Run, RunText, CanonicalForms, Printed, Written}
use Rattle.dsd_top.specs.declared.words.Command.{Command}
use Rattle.dsd_top.specs.declared.words.Command.TheVariants.{Make, Check}
use Rattle.dsd_top.specs.declared.words.Request.TheVariants.{Do}
use Rattle.dsd_top.proofs.Causes.{within}
use Rattle.dsd_top.proofs.Kept.{answer_of_all, cause_of_all}

module _ (files : Files) where
  pub can_judge : (c : Command) (w : Work) → IsReady files c w → CanJudge w
  can_judge (Make m) (work.Make n) h = tt
  can_judge (Make m) (work.Judge ds name) h = absurd h
  can_judge (Check k) (work.Make n) h = absurd h
  can_judge (Check k) (work.Judge ds name) h =
      let knows_it : knows ds k.name ≡ true = h.0.2.2 in
      let P : List ℕ → Type 0 = λ a. knows ds a ≡ true in
      subst P (sym h.1) knows_it

  pub answered : (c : Command) (w : Work) (bytes out : List ℕ) → IsReady files c w → IsAnswerBy w bytes out
      → IsAnswerOf files c bytes out
  answered (Make m) (work.Make n) bytes out h a = subst (λ i. IsMadeOf i bytes out) h a
  answered (Make m) (work.Judge ds name) bytes out h a = absurd h
  answered (Check k) (work.Make n) bytes out h a = absurd h
  answered (Check k) (work.Judge ds name) bytes out h a =
      let P : List ℕ → Type 0 = λ x. AreMade input.Text (verdict_by ds x) bytes out in
      (ds, h.0, subst P h.1 a)

  -- ---- statuses

  pub unready_known : (c : Command) (f : Fault) → IsUnready files c f → Contains (statuses_by c) (status_of f)
  unready_known (Make m) f h = absurd h
  unready_known (Check k) (BadInput n) h = absurd h
  unready_known (Check k) BadWords h = absurd h
  unready_known (Check k) ReadFailed h = (2, lit< tt, refl)
  unready_known (Check k) WriteFailed h = absurd h
  unready_known (Check k) NoMemory h = (4, lit< tt, refl)
  unready_known (Check k) (Limit w) h = absurd h
  unready_known (Check k) (BadConfig n) h = (6, lit< tt, refl)

  unmade_known : (m : Making) (bytes : List ℕ) (f : Fault) → IsUnmadeFor m bytes f
      → Contains (statuses_by (Make m)) (status_of f)
  unmade_known m bytes (BadInput n) h = (1, within (Make m) 1 (lit< tt), refl)
  unmade_known m bytes BadWords h = absurd h
  unmade_known m bytes ReadFailed h = absurd h
  unmade_known m bytes WriteFailed h = absurd h
  unmade_known m bytes NoMemory h = (4, within (Make m) 4 (lit< tt), refl)
  unmade_known m bytes (Limit w) h = (5, within (Make m) 5 (lit< tt), refl)
  unmade_known Run bytes (BadConfig n) h = (6, lit< tt, refl)
  unmade_known RunText bytes (BadConfig n) h = (6, lit< tt, refl)
  unmade_known CanonicalForms bytes (BadConfig n) h = absurd h
  unmade_known Printed bytes (BadConfig n) h = absurd h
  unmade_known Written bytes (BadConfig n) h = absurd h

  unjudged_known : (k : Checking) (bytes : List ℕ) (f : Fault) → IsUnjudgedFor bytes f
      → Contains (statuses_by (Check k)) (status_of f)
  unjudged_known k bytes (BadInput n) h = (1, lit< tt, refl)
  unjudged_known k bytes BadWords h = absurd h
  unjudged_known k bytes ReadFailed h = absurd h
  unjudged_known k bytes WriteFailed h = absurd h
  unjudged_known k bytes NoMemory h = (4, lit< tt, refl)
  unjudged_known k bytes (Limit w) h = (5, lit< tt, refl)
  unjudged_known k bytes (BadConfig n) h = absurd h

  pub cause_known : (c : Command) (w : Work) (bytes : List ℕ) (f : Fault) → IsReady files c w → IsCauseBy w bytes f
      → Contains (statuses_by c) (status_of f)
  cause_known (Make m) (work.Make n) bytes f h k =
      let P : Making → Type 0 = λ i. Contains (statuses_by (Make i)) (status_of f) in
      subst P h (unmade_known n bytes f k)
  cause_known (Make m) (work.Judge ds name) bytes f h k = absurd h
  cause_known (Check a) (work.Make n) bytes f h k = absurd h
  cause_known (Check a) (work.Judge ds name) bytes f h k = unjudged_known a bytes f k

  -- ---- causes

  pub unready_stands : (c : Command) (left : Option (List ℕ)) (f : Fault) → IsUnready files c f
      → Stands (Some (Do c)) files left f
  unready_stands (Make m) left f h = absurd h
  unready_stands (Check k) left (BadInput n) h = absurd h
  unready_stands (Check k) left BadWords h = absurd h
  unready_stands (Check k) left ReadFailed h = tt
  unready_stands (Check k) left WriteFailed h = absurd h
  unready_stands (Check k) left NoMemory h = tt
  unready_stands (Check k) left (Limit w) h = absurd h
  unready_stands (Check k) None (BadConfig n) h = tt
  unready_stands (Check k) (Some bytes) (BadConfig n) h = h

  -- such a cause comes before the input is read
  pub unready_early : (c : Command) (f : Fault) → IsUnready files c f → IsBehindInput c f → ⊥
  unready_early (Make m) f h b = absurd h
  unready_early (Check k) (BadInput n) h b = absurd h
  unready_early (Check k) BadWords h b = absurd h
  unready_early (Check k) ReadFailed h b = b.0 refl
  unready_early (Check k) WriteFailed h b = absurd h
  unready_early (Check k) NoMemory h b = b.1 refl
  unready_early (Check k) (Limit w) h b = absurd h
  unready_early (Check k) (BadConfig n) h b = absurd (let none : Some k.file ≡ None = b.2 refl in cc)

  made_stands : (m : Making) (bytes : List ℕ) (f : Fault) → IsUnmadeFor m bytes f
      → Stands (Some (Do (Make m))) files (Some bytes) f
  made_stands m bytes (BadInput n) h = h
  made_stands m bytes BadWords h = absurd h
  made_stands m bytes ReadFailed h = absurd h
  made_stands m bytes WriteFailed h = absurd h
  made_stands m bytes NoMemory h = tt
  made_stands m bytes (Limit w) h = h
  made_stands m bytes (BadConfig n) h = h

  judged_stands : (k : Checking) (ds : List Definition) (bytes : List ℕ) (f : Fault) → IsSchemaIn files k ds
      → IsUnjudgedFor bytes f → Stands (Some (Do (Check k))) files (Some bytes) f
  judged_stands k ds bytes (BadInput n) s h = ((ds, s), h)
  judged_stands k ds bytes BadWords s h = absurd h
  judged_stands k ds bytes ReadFailed s h = absurd h
  judged_stands k ds bytes WriteFailed s h = absurd h
  judged_stands k ds bytes NoMemory s h = tt
  judged_stands k ds bytes (Limit w) s h = ((ds, s), h)
  judged_stands k ds bytes (BadConfig n) s h = absurd h

  told_stands : (c : Command) (w : Work) (bytes : List ℕ) (f : Fault) → IsReady files c w → IsCauseBy w bytes f
      → Stands (Some (Do c)) files (Some bytes) f
  told_stands (Make m) (work.Make n) bytes f h k =
      let P : Making → Type 0 = λ i. Stands (Some (Do (Make i))) files (Some bytes) f in
      subst P h (made_stands n bytes f k)
  told_stands (Make m) (work.Judge ds name) bytes f h k = absurd h
  told_stands (Check a) (work.Make n) bytes f h k = absurd h
  told_stands (Check a) (work.Judge ds name) bytes f h k = judged_stands a ds bytes f h.0 k

  -- where the input isn't told, a cause behind it says nothing of it
  untold_stands : (c : Command) (w : Work) (bytes : List ℕ) (f : Fault) → IsReady files c w → IsCauseBy w bytes f
      → Stands (Some (Do c)) files None f
  untold_stands c w bytes (BadInput n) h k = tt
  untold_stands (Make m) (work.Make n) bytes BadWords h k = absurd k
  untold_stands (Make m) (work.Judge ds name) bytes BadWords h k = absurd h
  untold_stands (Check a) (work.Make n) bytes BadWords h k = absurd h
  untold_stands (Check a) (work.Judge ds name) bytes BadWords h k = absurd k
  untold_stands c w bytes ReadFailed h k = tt
  untold_stands c w bytes WriteFailed h k = tt
  untold_stands c w bytes NoMemory h k = tt
  untold_stands c w bytes (Limit v) h k = tt
  untold_stands c w bytes (BadConfig n) h k = tt

  pub stands : (c : Command) (w : Work) (left : Option (List ℕ)) (bytes : List ℕ) (f : Fault)
      → IfSome left (λ all. bytes ≡ kept_of all) → IsReady files c w → IsCauseBy w bytes f
      → Stands (Some (Do c)) files left f
  stands c w None bytes f read h k = untold_stands c w bytes f h k
  stands c w (Some all) bytes f read h k =
      let of_kept : IsCauseBy w (kept_of all) f = subst (λ b. IsCauseBy w b f) read k in
      told_stands c w all f h (cause_of_all all w f of_kept)

  -- ---- what is written

  -- what holds of an input with what is made of it, by what is made of what is kept
  if_read : (w : Work) (left : Option (List ℕ)) (bytes out : List ℕ) (P : List ℕ → Type 0)
      → IfSome left (λ all. bytes ≡ kept_of all) → IsAnswerBy w bytes out
      → ((all : List ℕ) → IsAnswerBy w all out → P all) → IfSome left P
  if_read w None bytes out P read by p = tt
  if_read w (Some all) bytes out P read by p =
      let of_kept : IsAnswerBy w (kept_of all) out = subst (λ b. IsAnswerBy w b out) read by in
      p all (answer_of_all all w out of_kept)

  module _ (c : Command) (w : Work) (ready : IsReady files c w) (left : Option (List ℕ)) (bytes : List ℕ)
      (read : IfSome left (λ all. bytes ≡ kept_of all)) (out : List ℕ) (by : IsAnswerBy w bytes out)
      (before now : Option (List ℕ)) (given : List ℕ) (same : given ≡ out) where
    pub answered_all : Appends before now given → IfSome left (λ all. IsAnswered files c all before now)
    answered_all a =
        let As : List ℕ → Type 0 = λ o. Appends before now o in
        if_read w left bytes out (λ all. IsAnswered files c all before now) read by
        (λ all made. (out, answered c w all out ready made, subst As same a))

    pub answered_front : AppendsFront before now given → IfSome left (λ all. IsCut files c all before now)
    answered_front a =
        let As : List ℕ → Type 0 = λ o. AppendsFront before now o in
        if_read w left bytes out (λ all. IsCut files c all before now) read by
        (λ all made. (out, answered c w all out ready made, subst As same a))

-- Notices that are told.
use Rattle.std.proofs.Common.{◌≡◌, ℕ, List, Option, Err, Contains, lit<, refl, sym, subst}
use Rattle.out_ports.specs.Ports.{Appends, AppendsFront}
use Rattle.sc_events.specs.declared.inputs.Form.TheVariants as input
use Rattle.sc_load.specs.Loads.{load_bytes}
use Rattle.sc_script.specs.declared.faults.ScriptFault.{ScriptFault}
use Rattle.sc_script.specs.declared.faults.ScriptFault.TheVariants as stopped
use Rattle.sc_script.specs.Scripts.{StopsAt}
use Rattle.dsd_top.specs.Asked.{Loading}
use Rattle.dsd_top.specs.Commands.{usage, version, IsTextOf, HasText, IsRightlyAsked, Minting}
use Rattle.dsd_top.specs.Loading.{StopsALoad}
use Rattle.dsd_top.specs.Minting.{IsReferenceLine, IsFound}
use Rattle.dsd_top.specs.Statuses.{IsShown, IsShownFront, IsToldFault, from_words, from_script, status_of}
use Rattle.dsd_top.specs.Statuses.{statuses_told}
use Rattle.dsd_top.specs.declared.minting.WordsFault.{WordsFault}
use Rattle.dsd_top.specs.declared.minting.WordsFault.TheVariants.{Bad, NoMemory}
use Rattle.dsd_top.specs.declared.words.Notice.{Notice}
use Rattle.dsd_top.specs.declared.words.Notice.TheVariants.{Usage, Version, Reference, Load}

pub usage_told : (n : Notice) → n ≡ Usage → HasText n
usage_told n is = subst HasText (sym is) (usage, refl)

pub version_told : (n : Notice) → n ≡ Version → HasText n
version_told n is = subst HasText (sym is) (version, refl)

module _ (n m : Notice) (is : n ≡ m) (text given : List ℕ) (of : IsTextOf m text) (same : given ≡ text)
    (before now : Option (List ℕ)) where
  pub shown_as : Appends before now given → IsShown n before now
  shown_as a =
      let Is : Notice → Type 0 = λ k. IsShown k before now in
      let As : List ℕ → Type 0 = λ t. Appends before now t in
      subst Is (sym is) (text, of, subst As same a)

  pub front_as : AppendsFront before now given → IsShownFront n before now
  front_as a =
      let Is : Notice → Type 0 = λ k. IsShownFront k before now in
      let As : List ℕ → Type 0 = λ t. AppendsFront before now t in
      subst Is (sym is) (text, of, subst As same a)

load_stops : (l : Loading) (e : ScriptFault) → StopsAt input.Binary (load_bytes l.start l.count) e
    → IsToldFault (Load l) (from_script e)
load_stops l (stopped.Bad k) h = h
load_stops l (stopped.Limit w) h = h
load_stops l (stopped.Schema k) h = h
load_stops l stopped.NoMemory h = tt

load_status : (l : Loading) (e : ScriptFault) → StopsALoad e
    → Contains (statuses_told (Load l)) (status_of (from_script e))
load_status l e lost =
    subst (λ f. Contains (statuses_told (Load l)) (status_of (from_script f))) (sym lost) (2, lit< tt, refl)

-- words that are no key and values
pub words_told : {T : Type 0} (n : Notice) (m : Minting) → n ≡ Reference m → (view : T → List ℕ) (e : WordsFault)
    → IsFound {T = T} view (IsReferenceLine m) (Err e) → IsToldFault n (from_words e)
words_told n m is view Bad none = λ h. let there = subst IsRightlyAsked is h in none there.0 there.1
words_told n m is view NoMemory none = tt

-- a script that stops
pub load_told : (n : Notice) (l : Loading) → n ≡ Load l → (e : ScriptFault)
    → StopsAt input.Binary (load_bytes l.start l.count) e → IsToldFault n (from_script e)
load_told n l is e stops = subst (λ k. IsToldFault k (from_script e)) (sym is) (load_stops l e stops)

pub load_known : (n : Notice) (l : Loading) → n ≡ Load l → (e : ScriptFault) → StopsALoad e
    → Contains (statuses_told n) (status_of (from_script e))
load_known n l is e stops =
    subst (λ k. Contains (statuses_told k) (status_of (from_script e))) (sym is) (load_status l e stops)

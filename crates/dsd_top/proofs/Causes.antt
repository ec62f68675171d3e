-- What a status says, by its cause.
use Rattle.std.proofs.Common.{◌≡◌, ℕ, zero, suc, ◌<◌, List, length, Option, Some, None, IfSome, IfErr, Result, Ok, Err}
use Rattle.std.proofs.Common.{Contains, [], ◌∷◌, lit<, refl, sym, subst, arith}
use Rattle.std.specs.Result.{IsErrAnd}
use Rattle.out_ports.specs.declared.streams.ReadFault.{ReadFault}
use Rattle.out_ports.specs.declared.streams.ReadFault.TheVariants as reading
use Rattle.sc_script.specs.Runs.{Cause, bad, limit, config}
use Rattle.dsd_top.specs.Commands.{IsOfTable, HasText, IsRightlyAsked, made_by, told_by}
use Rattle.dsd_top.specs.Schemas.{Files}
use Rattle.dsd_top.specs.Statuses.{IsStatus, statuses_by, statuses_told, statuses_of, IfTold, IfAsked, status_of}
use Rattle.dsd_top.specs.Statuses.{IsBehindInput, IsBadInput, IsOver, IsBadConfig, IsBadInputAt, IsOverAt}
use Rattle.dsd_top.specs.Statuses.{IsBadConfigAt, Stands, IsToldFault, IsUntold, StopsTelling, from_read}
use Rattle.dsd_top.specs.declared.faults.Fault.{Fault}
use Rattle.dsd_top.specs.declared.faults.Fault.TheVariants.{BadInput, BadWords, ReadFailed, WriteFailed, NoMemory}
use Rattle.dsd_top.specs.declared.faults.Fault.TheVariants.{Limit, BadConfig}
use Rattle.dsd_top.specs.declared.words.Making.TheVariants.{Run, RunText, CanonicalForms, Printed, Written}
use Rattle.dsd_top.specs.declared.words.Command.{Command}
use Rattle.dsd_top.specs.declared.words.Command.TheVariants.{Make, Check}
use Rattle.dsd_top.specs.declared.words.Notice.{Notice}
use Rattle.dsd_top.specs.declared.words.Notice.TheVariants.{Usage, Version, Reference, Load}
use Rattle.dsd_top.specs.declared.words.Request.{Request}
use Rattle.dsd_top.specs.declared.words.Request.TheVariants.{Do, Tell}

pub is_status : (f : Fault) → IsStatus (status_of f)
is_status (BadInput n) = (1, lit< tt, refl)
is_status BadWords = (2, lit< tt, refl)
is_status ReadFailed = (3, lit< tt, refl)
is_status WriteFailed = (4, lit< tt, refl)
is_status NoMemory = (5, lit< tt, refl)
is_status (Limit w) = (6, lit< tt, refl)
is_status (BadConfig n) = (7, lit< tt, refl)

-- a place before the last is one for every command
pub within : (c : Command) (k : ℕ) → k < 6 → k < length (statuses_by c)
within (Make Run) k h = omega (arith, h)
within (Make RunText) k h = omega (arith, h)
within (Make CanonicalForms) k h = h
within (Make Printed) k h = h
within (Make Written) k h = h
within (Check c) k h = omega (arith, h)

pub read_known : (c : Command) (e : ReadFault) → Contains (statuses_by c) (status_of (from_read e))
read_known (Make m) reading.Failed = (2, within (Make m) 2 (lit< tt), refl)
read_known (Make m) reading.NoMemory = (4, within (Make m) 4 (lit< tt), refl)
read_known (Check k) reading.Failed = (2, lit< tt, refl)
read_known (Check k) reading.NoMemory = (4, lit< tt, refl)

pub write_known : (c : Command) → Contains (statuses_by c) (status_of WriteFailed)
write_known (Make m) = (3, within (Make m) 3 (lit< tt), refl)
write_known (Check k) = (3, lit< tt, refl)

pub told_write : (n : Notice) → Contains (statuses_told n) (status_of WriteFailed)
told_write Usage = (1, lit< tt, refl)
told_write Version = (1, lit< tt, refl)
told_write (Reference m) = (2, lit< tt, refl)
told_write (Load l) = (1, lit< tt, refl)

always_told : (k : ℕ) → Contains (0 ∷ 4 ∷ []) k → IsStatus k
always_told k (zero, l, e) = (0, lit< tt, e)
always_told k (suc zero, l, e) = (4, lit< tt, e)
always_told k (suc (suc i), l, e) = absurd (omega (arith, l))

-- a status of a notice is one that comes
pub told_status : (n : Notice) (k : ℕ) → Contains (statuses_told n) k → IsStatus k
told_status Usage k h = always_told k h
told_status Version k h = always_told k h
told_status (Reference m) k (zero, l, e) = (0, lit< tt, e)
told_status (Reference m) k (suc zero, l, e) = (2, lit< tt, e)
told_status (Reference m) k (suc (suc zero), l, e) = (4, lit< tt, e)
told_status (Reference m) k (suc (suc (suc zero)), l, e) = (5, lit< tt, e)
told_status (Reference m) k (suc (suc (suc (suc i))), l, e) = absurd (omega (arith, l))
told_status (Load d) k (zero, l, e) = (0, lit< tt, e)
told_status (Load d) k (suc zero, l, e) = (4, lit< tt, e)
told_status (Load d) k (suc (suc zero), l, e) = (5, lit< tt, e)
told_status (Load d) k (suc (suc (suc i)), l, e) = absurd (omega (arith, l))

-- what the words ask for has the statuses that are said
pub notice_known : (o : Option Request) (n : Notice) (k : ℕ) → Some (Tell n) ≡ o → Contains (statuses_told n) k
    → Contains (statuses_of o) k
notice_known o n k is known = subst (λ q. Contains (statuses_of q) k) is known

pub notice_untold : (o : Option Request) (n : Notice) (k : ℕ) → Some (Tell n) ≡ o → IsUntold k n
    → IfSome (told_by o) (IsUntold k)
notice_untold o n k is h = subst (λ q. IfSome (told_by q) (IsUntold k)) is h

pub refused_known : (o : Option Request) (k : ℕ) → o ≡ None → k ≡ 2 → Contains (statuses_of o) k
refused_known o k none is = subst (λ q. Contains (statuses_of q) k) (sym none) (0, lit< tt, sym is)

-- ---- which cause has a status

pub read_failed : (f : Fault) → status_of f ≡ 3 → f ≡ ReadFailed
read_failed (BadInput n) e = absurd (omega arith)
read_failed BadWords e = absurd (omega arith)
read_failed ReadFailed e = refl
read_failed WriteFailed e = absurd (omega arith)
read_failed NoMemory e = absurd (omega arith)
read_failed (Limit w) e = absurd (omega arith)
read_failed (BadConfig n) e = absurd (omega arith)

pub write_failed : (f : Fault) → status_of f ≡ 4 → f ≡ WriteFailed
write_failed (BadInput n) e = absurd (omega arith)
write_failed BadWords e = absurd (omega arith)
write_failed ReadFailed e = absurd (omega arith)
write_failed WriteFailed e = refl
write_failed NoMemory e = absurd (omega arith)
write_failed (Limit w) e = absurd (omega arith)
write_failed (BadConfig n) e = absurd (omega arith)

pub bad_words : (f : Fault) → status_of f ≡ 2 → f ≡ BadWords
bad_words (BadInput n) e = absurd (omega arith)
bad_words BadWords e = refl
bad_words ReadFailed e = absurd (omega arith)
bad_words WriteFailed e = absurd (omega arith)
bad_words NoMemory e = absurd (omega arith)
bad_words (Limit w) e = absurd (omega arith)
bad_words (BadConfig n) e = absurd (omega arith)

pub none_is : (f : Fault) → status_of f ≡ 0 → ⊥
none_is (BadInput n) e = absurd (omega arith)
none_is BadWords e = absurd (omega arith)
none_is ReadFailed e = absurd (omega arith)
none_is WriteFailed e = absurd (omega arith)
none_is NoMemory e = absurd (omega arith)
none_is (Limit w) e = absurd (omega arith)
none_is (BadConfig n) e = absurd (omega arith)

-- ---- what a cause of a status says

told_at : (At : Files → Command → List ℕ → ℕ → Type 0) (Stops : ℕ → Notice → Type 0) (files : Files)
    (o : Option Request) (left : Option (List ℕ)) (n : ℕ) → IfAsked o left (λ k bytes. At files k bytes n) (Stops n)
    → IfTold (made_by o) left (λ k bytes. (m : ℕ) × At files k bytes m)
told_at At Stops files None left n h = tt
told_at At Stops files (Some (Do c)) None n h = tt
told_at At Stops files (Some (Do c)) (Some bytes) n h = (n, h)
told_at At Stops files (Some (Tell t)) left n h = tt

module _ (o : Option Request) (files : Files) (left : Option (List ℕ)) where
  pub input_is_bad : (f : Fault) → Stands o files left f → status_of f ≡ 1
      → IfTold (made_by o) left (IsBadInput files)
  input_is_bad (BadInput n) h e = told_at IsBadInputAt (λ k t. StopsTelling t (bad k)) files o left n h
  input_is_bad BadWords h e = absurd (omega arith)
  input_is_bad ReadFailed h e = absurd (omega arith)
  input_is_bad WriteFailed h e = absurd (omega arith)
  input_is_bad NoMemory h e = absurd (omega arith)
  input_is_bad (Limit w) h e = absurd (omega arith)
  input_is_bad (BadConfig n) h e = absurd (omega arith)

  pub input_is_over : (f : Fault) → Stands o files left f → status_of f ≡ 6 → IfTold (made_by o) left (IsOver files)
  input_is_over (BadInput n) h e = absurd (omega arith)
  input_is_over BadWords h e = absurd (omega arith)
  input_is_over ReadFailed h e = absurd (omega arith)
  input_is_over WriteFailed h e = absurd (omega arith)
  input_is_over NoMemory h e = absurd (omega arith)
  input_is_over (Limit w) h e = told_at IsOverAt (λ k t. StopsTelling t (limit k)) files o left w h
  input_is_over (BadConfig n) h e = absurd (omega arith)

  pub config_is_bad : (f : Fault) → Stands o files left f → status_of f ≡ 7
      → IfTold (made_by o) left (IsBadConfig files)
  config_is_bad (BadInput n) h e = absurd (omega arith)
  config_is_bad BadWords h e = absurd (omega arith)
  config_is_bad ReadFailed h e = absurd (omega arith)
  config_is_bad WriteFailed h e = absurd (omega arith)
  config_is_bad NoMemory h e = absurd (omega arith)
  config_is_bad (Limit w) h e = absurd (omega arith)
  config_is_bad (BadConfig n) h e = told_at IsBadConfigAt (λ k t. StopsTelling t (config k)) files o left n h

  pub words_are_bad : (f : Fault) → Stands o files left f → status_of f ≡ 2 → IsOfTable o → ⊥
  words_are_bad (BadInput n) h e = absurd (omega arith)
  words_are_bad BadWords h e = h
  words_are_bad ReadFailed h e = absurd (omega arith)
  words_are_bad WriteFailed h e = absurd (omega arith)
  words_are_bad NoMemory h e = absurd (omega arith)
  words_are_bad (Limit w) h e = absurd (omega arith)
  words_are_bad (BadConfig n) h e = absurd (omega arith)

-- ---- notices

-- what a cause says of a notice, it says of what asks for it
pub told_stands : (n : Notice) (files : Files) (left : Option (List ℕ)) (f : Fault) → IsToldFault n f
    → Stands (Some (Tell n)) files left f
told_stands n files left (BadInput k) h = h
told_stands n files left BadWords h = h
told_stands n files left ReadFailed h = absurd h
told_stands n files left WriteFailed h = tt
told_stands n files left NoMemory h = tt
told_stands n files left (Limit w) h = h
told_stands n files left (BadConfig k) h = h

-- what has a text, or stops, is rightly asked for
text_right : (n : Notice) → HasText n → IsRightlyAsked n
text_right Usage h = tt
text_right Version h = tt
text_right (Reference m) h = h
text_right (Load l) h = tt

run_right : (n : Notice) (c : Cause) → StopsTelling n c → IsRightlyAsked n
run_right Usage c h = tt
run_right Version c h = tt
run_right (Reference m) c h = absurd h
run_right (Load l) c h = tt

-- what isn't is refused, or memory ran out
pub told_otherwise : (n : Notice) (f : Fault) → IsToldFault n f → (IsRightlyAsked n → ⊥)
    → Contains (2 ∷ 5 ∷ []) (status_of f)
told_otherwise n (BadInput k) h none = absurd (none (run_right n (bad k) h))
told_otherwise n BadWords h none = (0, lit< tt, refl)
told_otherwise n ReadFailed h none = absurd h
told_otherwise n WriteFailed h none = absurd (none (text_right n h))
told_otherwise n NoMemory h none = (1, lit< tt, refl)
told_otherwise n (Limit w) h none = absurd (none (run_right n (limit w) h))
told_otherwise n (BadConfig k) h none = absurd (none (run_right n (config k) h))

pub told_bad : (n : Notice) (f : Fault) → IsToldFault n f → status_of f ≡ 2 → IsRightlyAsked n → ⊥
told_bad n (BadInput k) h e = absurd (omega arith)
told_bad n BadWords h e = h
told_bad n ReadFailed h e = absurd h
told_bad n WriteFailed h e = absurd (omega arith)
told_bad n NoMemory h e = absurd (omega arith)
told_bad n (Limit w) h e = absurd (omega arith)
told_bad n (BadConfig k) h e = absurd (omega arith)

-- ---- errors

-- what is said of the cause that an error is
pub said_err : {T : Type 0} (P : Fault → Type 0) (r : Result T Fault) (x : Fault) → IsErrAnd r (λ f. f ≡ x) → P x
    → IfErr r P
said_err P (Ok t) x h k = tt
said_err P (Err f) x h k = subst P (sym h) k

-- an error of reading comes before the end of the input
pub early : (c : Command) (e : ReadFault) → IsBehindInput c (from_read e) → ⊥
early c reading.Failed b = b.0 refl
early c reading.NoMemory b = b.1 refl

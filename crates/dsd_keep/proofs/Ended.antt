-- What an end says.
use Rattle.std.proofs.Common.{◌≡◌, ℕ, List, Option, Contains, lit<, refl}
use Rattle.kp_keeper.specs.declared.records.Record.{Record}
use Rattle.dsd_top.specs.declared.faults.Fault.TheVariants as fault
use Rattle.dsd_keep.specs.Endings.{IsWhyUnsettled, IsWhyUndone, StandsUndone}
use Rattle.dsd_keep.specs.Undone.{action_statuses, status_by}
use Rattle.dsd_keep.specs.Requests.{IsRequest, Request}
use Rattle.dsd_keep.specs.declared.undone.Undone.{Undone}
use Rattle.dsd_keep.specs.declared.undone.Undone.TheVariants.{Of, KeeperFailed, BoundAlready, NotBound}
use Rattle.dsd_keep.specs.declared.requests.Action.{Action}
use Rattle.dsd_keep.specs.declared.requests.Action.TheVariants as actions

module _ (kept : Option (List Record)) where
  no_words : (d : Action) → IsWhyUnsettled d kept (Of fault.BadWords) → ⊥
  no_words (actions.Add r line) h = h
  no_words actions.List h = h
  no_words (actions.Revoke oid) h = h

  no_input : (d : Action) (n : ℕ) → IsWhyUnsettled d kept (Of (fault.BadInput n)) → ⊥
  no_input (actions.Add r line) n h = h
  no_input actions.List n h = h
  no_input (actions.Revoke oid) n h = h

  no_read : (d : Action) → IsWhyUnsettled d kept (Of fault.ReadFailed) → ⊥
  no_read (actions.Add r line) h = h
  no_read actions.List h = h
  no_read (actions.Revoke oid) h = h

  pub known : (d : Action) (why : Undone) → IsWhyUndone d kept why → Contains action_statuses (status_by why)
  known d (Of (fault.BadInput n)) h = absurd (no_input d n h)
  known d (Of fault.BadWords) h = absurd (no_words d h)
  known d (Of fault.ReadFailed) h = absurd (no_read d h)
  known d (Of fault.WriteFailed) h = (1, lit< tt, refl)
  known d (Of fault.NoMemory) h = (2, lit< tt, refl)
  known d (Of (fault.Limit w)) h = (3, lit< tt, refl)
  known d (Of (fault.BadConfig n)) h = (4, lit< tt, refl)
  known d KeeperFailed h = (5, lit< tt, refl)
  known d BoundAlready h = (6, lit< tt, refl)
  known d NotBound h = (7, lit< tt, refl)

  pub stands : (words : List (List ℕ)) (w : Request) → IsRequest words w → (why : Undone) → IsWhyUndone w.action kept why
      → StandsUndone words kept why
  stands words w is (Of (fault.BadInput n)) h = (w, is, h)
  stands words w is (Of fault.BadWords) h = absurd (no_words w.action h)
  stands words w is (Of fault.ReadFailed) h = (w, is, h)
  stands words w is (Of fault.WriteFailed) h = (w, is, h)
  stands words w is (Of fault.NoMemory) h = tt
  stands words w is (Of (fault.Limit w0)) h = (w, is, h)
  stands words w is (Of (fault.BadConfig n)) h = (w, is, h)
  stands words w is KeeperFailed h = (w, is, h)
  stands words w is BoundAlready h = (w, is, h)
  stands words w is NotBound h = (w, is, h)

-- What words ask for, and what they can't.
use Rattle.std.proofs.Common.{ℕ, List}
use Rattle.dsd_top.specs.Minting.{IsReferenceLine}
use Rattle.dsd_keep.specs.Asked.{Adding, Revoking}
use Rattle.dsd_keep.specs.Requests.{IsForm, IsAction, minting_of}
use Rattle.dsd_keep.specs.declared.words.Asked.TheVariants as asks
use Rattle.dsd_keep.specs.declared.requests.Action.{Action}
use Rattle.dsd_keep.specs.declared.requests.Action.TheVariants as actions

pub no_line_no_action : (a : Adding) → ((text : List ℕ) → IsReferenceLine (minting_of a) text → ⊥) → (d : Action)
    → IsAction (asks.Add a) d → ⊥
no_line_no_action a none (actions.Add r line) is = none line.items is.1
no_line_no_action a none actions.List is = is
no_line_no_action a none (actions.Revoke oid) is = is

pub no_form_no_action : (w : Revoking) → ((f : List ℕ) → IsForm w.oid f → ⊥) → (d : Action)
    → IsAction (asks.Revoke w) d → ⊥
no_form_no_action w none (actions.Add r line) is = is
no_form_no_action w none actions.List is = is
no_form_no_action w none (actions.Revoke oid) is = none oid is

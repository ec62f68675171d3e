-- The events of a turn, one after another, and what each leaves.
use Rattle.std.proofs.Common.{◌≡◌, ℕ, ◌+◌, ◌<◌, ◌≤◌, List, ◌∷◌, length, drop, get_or, Bool, true, false, Result, Ok, Err, refl, sym, ap}
use Rattle.std.proofs.Common.{◌∙◌, subst}
use Rattle.std.specs.Prelude.{if◌then◌else◌, IsErrAnd}
use Rattle.std.proofs.lemmas.List.{drop_more, drop_all}
use Rattle.pv_read.specs.Results.{◌>>=◌}
use Rattle.rl_packet.specs.declared.packets.Event.{Event}
use Rattle.rl_packet.specs.declared.packets.TurnEvent.{TurnEvent}
use Rattle.rl_packet.specs.declared.packets.Turn.{Turn as TurnRecord}
use Rattle.dq_core.specs.declared.client.QueryFault.{QueryFault}
use Rattle.dq_core.specs.declared.client.QueryFault.TheVariants as fault
use Rattle.dq_core.specs.declared.hearing.Hearing.{Hearing}
use Rattle.dq_core.specs.Hearing.{event_heard, events_heard, turn_heard, is_older, is_ours, happened}
use Rattle.dq_core.specs.Answers.{IsFaultOf, Leaves}

-- a fault of what is the same
pub fault_same : {X : Type 0} (r s : Result X QueryFault) (f : QueryFault) → s ≡ r → IsFaultOf r f → IsFaultOf s f
fault_same r s f same is = subst (λ t. IsFaultOf t f) (sym same) is

-- want of memory is a fault of everything
pub short_of : {X : Type 0} (r : Result X QueryFault) (f : QueryFault) → f ≡ fault.NoMemory → IsFaultOf r f
short_of r f is = subst (IsFaultOf r) (sym is) tt

-- a fault stays one whatever comes behind it
pub fault_then : {X Y : Type 0} (r : Result X QueryFault) (more : X → Result Y QueryFault) (f : QueryFault)
    → IsFaultOf r f → IsFaultOf (r >>= more) f
fault_then r more fault.NoMemory is = tt
fault_then r more fault.Rejected is = ap (λ s. s >>= more) is
fault_then r more fault.ServerError is = ap (λ s. s >>= more) is
fault_then r more fault.BadServer is = ap (λ s. s >>= more) is

module _ (es : List TurnEvent) (start : Hearing) where
  -- the events behind the first i are heard from here as all are from the start
  abbrev pub IsHeardTo : ℕ → Hearing → Type 0
  IsHeardTo i x = events_heard (drop i es) x ≡ events_heard es start

  pub heard_more : (i : ℕ) (e : TurnEvent) (x y : Hearing) → i < length es → e ≡ get_or es i e → IsHeardTo i x
      → event_heard e x ≡ Ok y → IsHeardTo (i + 1) y
  heard_more i e x y few at so is =
      sym (ap (λ r. r >>= events_heard (drop (i + 1) es)) is)
      ∙ sym (ap (λ ds. events_heard ds x) (here i e few at)) ∙ so
    where
      here : (j : ℕ) (d : TurnEvent) → j < length es → d ≡ get_or es j d → drop j es ≡ d ∷ drop (j + 1) es
      here j d l at' = drop_more es j d l ∙ ap (λ f. f ∷ drop (j + 1) es) (sym at')

  pub fault_more : (i : ℕ) (e : TurnEvent) (x : Hearing) (f : QueryFault) → i < length es → e ≡ get_or es i e
      → IsHeardTo i x → IsFaultOf (event_heard e x) f → IsFaultOf (events_heard es start) f
  fault_more i e x f few at so is =
      fault_same (event_heard e x >>= events_heard (drop (i + 1) es)) (events_heard es start) f
      (sym so ∙ ap (λ ds. events_heard ds x) (drop_more es i e few ∙ ap (λ d. d ∷ drop (i + 1) es) (sym at)))
      (fault_then (event_heard e x) (events_heard (drop (i + 1) es)) f is)

  pub heard_all : (i : ℕ) (x : Hearing) → length es ≤ i → IsHeardTo i x → events_heard es start ≡ Ok x
  heard_all i x all so = sym so ∙ ap (λ ds. events_heard ds x) (drop_all i es all)

pub newer_turn : (t : TurnRecord) (x : Hearing) → is_older t.dialect ≡ false → turn_heard t x ≡ events_heard t.events x
newer_turn t x newer = ap (λ b. if b then Err fault.BadServer else events_heard t.events x) newer

pub older_turn : (t : TurnRecord) (x : Hearing) → is_older t.dialect ≡ true → turn_heard t x ≡ Err fault.BadServer
older_turn t x older = ap (λ b. if b then Err fault.BadServer else events_heard t.events x) older

-- the fault of one event is that of its turn
pub turn_fault : (t : TurnRecord) (es : List TurnEvent) (start : Hearing) (f : QueryFault) → es ≡ t.events
    → is_older t.dialect ≡ false → IsFaultOf (events_heard es start) f → IsFaultOf (turn_heard t start) f
turn_fault t es start f same newer is =
    fault_same (events_heard es start) (turn_heard t start) f
    (newer_turn t start newer ∙ ap (λ ds. events_heard ds start) (sym same)) is

pub handed_on : (r : Result (Unit {0}) QueryFault) (brought : Result Hearing QueryFault) (f : QueryFault) (now : Hearing)
    → IsErrAnd r (λ e. e ≡ f) → IsFaultOf brought f → Leaves brought r now
handed_on (Ok t) brought f now h k = absurd h
handed_on (Err e) brought f now h k = subst (IsFaultOf brought) (sym h) k

ours_heard : (b : Bool) (r : Result Hearing QueryFault) → b ≡ true → (if b then r else Err fault.BadServer) ≡ r
ours_heard true r is = refl
ours_heard false r is = absurd cc

-- an event at one of the client's objects
pub event_is : (e : TurnEvent) (x : Hearing) (w : Event) → is_ours e.oid ≡ true → e.event ≡ w
    → event_heard e x ≡ happened e.oid w x
event_is e x w ours is = ours_heard (is_ours e.oid) (happened e.oid e.event x) ours ∙ ap (λ v. happened e.oid v x) is

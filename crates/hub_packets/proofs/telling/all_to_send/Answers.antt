-- One event more is told, or the cause against it is the cause.
use Rattle.std.proofs.Common.{◌≡◌, ℕ, List, Result, Ok, Err, IfErr, subst, sym}
use Rattle.std.specs.Prelude.{IsErrAnd}
use Rattle.rl_packet.specs.declared.packets.TurnEvent.{TurnEvent}
use Rattle.ac_table.specs.declared.batches.Event.{Event as Told}
use Rattle.rl_ports.specs.Ports.{PortsState}
use Rattle.hub_packets.specs.declared.refusals.Refusal.{Refusal}
use Rattle.hub_packets.proofs.Tellings.{AreTold, one_told, one_refused}
use Rattle.hub_packets.proofs.telling.all_to_send.Goals as goal

err_so : {T : Type 0} (P : Refusal → Type 0) (r : Result T Refusal) (e : Refusal) → IsErrAnd r (λ x. x ≡ e) → P e
    → IfErr r P
err_so P (Ok x) e is h = tt
err_so P (Err f) e is h = subst P (sym is) h

-- what is left, by another name
behind : (k : ℕ) (old : PortsState) (all : List Told) (ports : PortsState) (sent : List TurnEvent)
    (left rest : List Told) → left ≡ rest → AreTold k old all ports sent left → AreTold k old all ports sent rest
behind k old all ports sent left rest is told = subst (λ (es : List Told). AreTold k old all ports sent es) is told

pub loop-told-preserved : goal.loop-told-preserved
loop-told-preserved c =
    let before = behind _ _ _ _ _ _ _ c.in-Some.ensures.steps.0 c.loop-told.invariant in
    subst (λ (ts : List TurnEvent). AreTold c.args.connection c.args.ports.now c.args.events c.to_send.new.ports ts
    c.next.new.self.rest.items) (sym c.in_ok-push.ensures.items)
    (one_told c.args.connection c.args.ports.now c.args.events c.loop-told.ports c.to_send.new.ports
    c.loop-told.sent.items c.in-Some.told c.next.new.self.rest.items c.in_ok-to_send.field-0 before
    c.in_ok-to_send.ensures.names c.in_ok-to_send.ensures.free c.in_ok-to_send.ensures.sent)

pub returns-in_err-to_send-clause-cause : goal.returns-in_err-to_send-clause-cause
returns-in_err-to_send-clause-cause c =
    let before = behind _ _ _ _ _ _ _ c.in-Some.ensures.steps.0 c.loop-told.invariant in
    let why = one_refused c.args.connection c.args.ports.now c.args.events c.loop-told.ports c.loop-told.sent.items
    c.in-Some.told c.next.new.self.rest.items c.in_err-to_send.field-0.0 before c.in_err-to_send.ensures.cause in
    err_so _ c.from_residual.result c.in_err-to_send.field-0.0 c.from_residual.ensures.1 why

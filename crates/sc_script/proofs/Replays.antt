-- One step more of a run: its condition, the state behind it, and what is sent in it.
use Rattle.std.proofs.Common.{◌≡◌, ℕ, ◌+◌, List, [], ◌∷◌, ◌++◌, length, sym, ap, ◌∙◌}
use Rattle.std.proofs.Common.{subst, append-nil, append_assoc, length-append}
use Rattle.std.proofs.lemmas.Grind.{flat_map-append}
use Rattle.pv_binary.specs.Written.{written}
use Rattle.rl_packet.specs.Packets.{packet_value}
use Rattle.rl_packet.specs.declared.packets.Packet.{Packet}
use Rattle.hub_machine.specs.State.{State, opening}
use Rattle.hub_machine.specs.Machine.{step, IsAllowed}
use Rattle.hub_machine.specs.Replays.{run_from, replay, sent_by, packet_in}
use Rattle.hub_machine.specs.Lemmas.ReplayLaws.{replay-more, sent_to-more}
use Rattle.hub_machine.specs.declared.steps.Step.{Step}
use Rattle.hub_laws.specs.Laws.{AreAllowed}
use Rattle.hub_outs.specs.Outs.{sent_of}
use Rattle.sc_script.specs.Runs.{Running, all_sent_from, spelled, sent_size, with_step}
use Rattle.sc_script.specs.Keeping.{RunState, IsAt}

pub allowed_more : (s : State) (es : List Step) (e : Step) → AreAllowed s es → IsAllowed (run_from s es) e
    → AreAllowed s (es ++ e ∷ [])
allowed_more s [] e all may = (may, tt)
allowed_more s (f ∷ es) e all may = (all.0, allowed_more (step s f).state es e all.1 may)

all_sent_from-more : (s : State) (es : List Step) (e : Step) → all_sent_from s (es ++ e ∷ [])
    ≡ all_sent_from s es ++ packet_in (step (run_from s es) e).reply
all_sent_from-more s [] e = append-nil (packet_in (step s e).reply)
all_sent_from-more s (f ∷ es) e =
    ap (λ ps. packet_in (step s f).reply ++ ps) (all_sent_from-more (step s f).state es e)
    ∙ sym (append_assoc (packet_in (step s f).reply) (all_sent_from (step s f).state es)
    (packet_in (step (run_from (step s f).state es) e).reply))

-- how many bytes packets have
abbrev pub bytes_of : List Packet → ℕ
bytes_of ps = length (spelled ps)

pub sent_size-more : (r : Running) (e : Step)
    → sent_size (with_step e r) ≡ sent_size r + bytes_of (packet_in (step (replay r.schema r.steps) e).reply)
sent_size-more r e =
    let ps = all_sent_from (opening r.schema) r.steps in
    let more = packet_in (step (replay r.schema r.steps) e).reply in
    ap bytes_of (all_sent_from-more (opening r.schema) r.steps e)
    ∙ ap length (flat_map-append (λ p. written (packet_value p)) ps more)
    ∙ length-append (spelled ps) (spelled more)

-- what is after some steps, and after one more
pub at_more : (r : Running) (e : Step) (s now : RunState) → IsAt r s → IsAllowed s.state e
    → now.state ≡ (step s.state e).state
    → ((k : ℕ) → sent_of k now.outs ≡ sent_of k s.outs ++ sent_by k e (step s.state e).reply)
    → now.size ≡ s.size + bytes_of (packet_in (step s.state e).reply) → now.streams ≡ s.streams
    → IsAt (with_step e r) now
at_more r e s now at may is_state is_sent is_size is_streams = record {
  allowed = allowed_more (opening r.schema) r.steps e at.allowed (subst (λ t. IsAllowed t e) at.state may);
  state = is_state ∙ ap (λ t. (step t e).state) at.state ∙ sym (replay-more r.schema r.steps e);
  sent = λ k. is_sent k ∙ (λ i. at.sent k i ++ sent_by k e (step (at.state i) e).reply)
      ∙ sym (sent_to-more r.schema k r.steps e);
  size = is_size ∙ (λ i. at.size i + bytes_of (packet_in (step (at.state i) e).reply))
      ∙ sym (sent_size-more r e);
  streams = is_streams ∙ at.streams;
}

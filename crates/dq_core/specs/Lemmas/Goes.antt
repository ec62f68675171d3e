-- What packets bring, and then others.
use Rattle.std.proofs.Common.{◌≡◌, List, [], ◌∷◌, ◌++◌, Result, Ok, Err, ap}
use Rattle.rl_packet.specs.declared.packets.Packet.{Packet}
use Rattle.dq_core.specs.declared.client.Reaction.{Reaction}
use Rattle.dq_core.specs.declared.client.QueryFault.{QueryFault}
use Rattle.dq_core.specs.States.{ClientState}
use Rattle.dq_core.specs.Reactions.{told, and_then, behind, heard}

-- what comes behind a packet, where it goes on so behind each client that the packet leaves
one-append : (r : Result (ClientState × Reaction) QueryFault) (ps qs : List Packet) (d : ClientState)
    → ((c : ClientState) → (told ps c).ends ≡ Ok d → told (ps ++ qs) c ≡ behind (told ps c).reactions (told qs d))
    → (and_then r (told ps)).ends ≡ Ok d
    → and_then r (told (ps ++ qs)) ≡ behind (and_then r (told ps)).reactions (told qs d)
one-append (Ok x) ps qs d later is = ap (behind (x.1 ∷ [])) (later x.0 is)
one-append (Err f) ps qs d later is = absurd cc

pub told-append : (ps qs : List Packet) (c d : ClientState) → (told ps c).ends ≡ Ok d
    → told (ps ++ qs) c ≡ behind (told ps c).reactions (told qs d)
told-append [] qs c d is = let e : c ≡ d = cc in ap (told qs) e
told-append (p ∷ ps) qs c d is = one-append (heard p c) ps qs d (λ b. told-append ps qs b d) is

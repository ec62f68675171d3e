-- Steps that are due, and those among what was done.
use Rattle.std.proofs.Common.{◌≡◌, ℕ, List, [], ◌∷◌, ◌++◌, map, filter, Bool, true, false, refl, sym, ap, ◌∙◌}
use Rattle.std.proofs.lemmas.List.{append-nil, map-append}
use Rattle.std.proofs.lemmas.List.Elements.{filter-append}
use Rattle.rl_packet.specs.declared.packets.Turn.{Turn as TurnRecord}
use Rattle.rl_packet.specs.declared.packets.Packet.{Packet}
use Rattle.rl_packet.specs.declared.packets.Packet.TheVariants as packet
use Rattle.rl_stream.specs.declared.nexts.Next.{Next}
use Rattle.rl_stream.specs.declared.nexts.Next.TheVariants as next
use Rattle.rl_stream.specs.Courses.{StreamCourse}
use Rattle.hub_machine.specs.declared.steps.Step.{Step}
use Rattle.hub_machine.specs.declared.steps.Step.TheVariants as steps
use Rattle.hub_machine.specs.declared.steps.Reply.{Reply}
use Rattle.srv_turns.specs.Rounds.{Pair, Round, step_of, pairs_of, pairs_in, worked}
use Rattle.srv_turns.specs.Reading.{turns_in, has_error, packets_due, last_due, steps_due}
use Rattle.srv_cuts.specs.Fronts.{IsFrontOf}
use Rattle.srv_cuts.specs.Committed.{is_packet_step, is_own, steps_of, packet_steps, own_steps}

-- ---- what is due

-- the packet steps of these turns, and then this one
abbrev pub sent_then : ℕ → List TurnRecord → Step → List Step
sent_then k ts x = map (λ t. steps.Packet k t) ts ++ x ∷ []

all_own : (k : ℕ) (ts : List TurnRecord) (x : Step) → is_own x ≡ true
    → filter is_own (sent_then k ts x) ≡ sent_then k ts x
all_own k [] x own = rw own refl
all_own k (t ∷ ts) x own = ap (λ (ss : List Step). steps.Packet k t ∷ ss) (all_own k ts x own)

packets_of : (k : ℕ) (ts : List TurnRecord) (x : Step) → is_packet_step x ≡ false
    → filter is_packet_step (sent_then k ts x) ≡ map (λ t. steps.Packet k t) ts
packets_of k [] x none = rw none refl
packets_of k (t ∷ ts) x none = ap (λ (ss : List Step). steps.Packet k t ∷ ss) (packets_of k ts x none)

last_own : (k : ℕ) (error : Bool) (x : Next) → is_own (last_due k error x) ≡ true
last_own k false (next.BadBytes number place) = refl
last_own k false next.BadPacket = refl
last_own k error x = refl

last_no_packet : (k : ℕ) (error : Bool) (x : Next) → is_packet_step (last_due k error x) ≡ false
last_no_packet k false (next.BadBytes number place) = refl
last_no_packet k false next.BadPacket = refl
last_no_packet k error x = refl

pub due_own : (k : ℕ) (c : StreamCourse) → filter is_own (steps_due k c) ≡ steps_due k c
due_own k c = all_own k (turns_in c.packets) (last_due k (has_error c.packets) c.ends)
    (last_own k (has_error c.packets) c.ends)

pub due_packets : (k : ℕ) (c : StreamCourse) → filter is_packet_step (steps_due k c) ≡ packets_due k c.packets
due_packets k c = packets_of k (turns_in c.packets) (last_due k (has_error c.packets) c.ends)
    (last_no_packet k (has_error c.packets) c.ends)

pub closing_own : (k : ℕ) (ps : List Packet)
    → filter is_own (packets_due k ps ++ steps.Close k ∷ []) ≡ packets_due k ps ++ steps.Close k ∷ []
closing_own k ps = all_own k (turns_in ps) (steps.Close k) refl

-- a closing is due behind all packets
close_is_last : (k : ℕ) (ts : List TurnRecord) (x : Step) (ss later : List Step)
    → sent_then k ts x ≡ ss ++ steps.Close k ∷ later
    → ss ++ steps.Close k ∷ [] ≡ sent_then k ts (steps.Close k)
close_is_last k [] x [] later is = refl
close_is_last k [] x (s ∷ []) later is = absurd cc
close_is_last k [] x (s ∷ t ∷ ss) later is = absurd cc
close_is_last k (t ∷ ts) x [] later is = absurd cc
close_is_last k (t ∷ ts) x (s ∷ ss) later is =
    let others = close_is_last k ts x ss later cc in
    cc

pub closing_due : (k : ℕ) (c : StreamCourse) (ss later : List Step)
    → steps_due k c ≡ ss ++ steps.Close k ∷ later
    → ss ++ steps.Close k ∷ [] ≡ packets_due k c.packets ++ steps.Close k ∷ []
closing_due k c ss later is =
    close_is_last k (turns_in c.packets) (last_due k (has_error c.packets) c.ends) ss later is

-- what is due for the first packets is the first that is due
pub first_due : (k : ℕ) (ps qs : List Packet) → IsFrontOf (packets_due k ps) (packets_due k (ps ++ qs))
first_due k [] qs = (packets_due k qs, refl)
first_due k (packet.Turn t ∷ ps) qs =
    let f = first_due k ps qs in
    (f.0, ap (λ (ss : List Step). steps.Packet k t ∷ ss) f.1)
first_due k (packet.Error message detail ∷ ps) qs = ([], refl)
first_due k (packet.Nop ∷ ps) qs = first_due k ps qs
first_due k (packet.Extension v ∷ ps) qs = first_due k ps qs

-- behind an error nothing is due
error_stays : (ps qs : List Packet) → has_error ps ≡ true → has_error (ps ++ qs) ≡ true
error_stays [] qs error = absurd cc
error_stays (packet.Turn t ∷ ps) qs error = error_stays ps qs error
error_stays (packet.Error message detail ∷ ps) qs error = refl
error_stays (packet.Nop ∷ ps) qs error = error_stays ps qs error
error_stays (packet.Extension v ∷ ps) qs error = error_stays ps qs error

turns_stay : (ps qs : List Packet) → has_error ps ≡ true → turns_in (ps ++ qs) ≡ turns_in ps
turns_stay [] qs error = absurd cc
turns_stay (packet.Turn t ∷ ps) qs error = ap (λ (ts : List TurnRecord). t ∷ ts) (turns_stay ps qs error)
turns_stay (packet.Error message detail ∷ ps) qs error = refl
turns_stay (packet.Nop ∷ ps) qs error = turns_stay ps qs error
turns_stay (packet.Extension v ∷ ps) qs error = turns_stay ps qs error

due_with_error : (k : ℕ) (c : StreamCourse) → has_error c.packets ≡ true
    → steps_due k c ≡ sent_then k (turns_in c.packets) (steps.Close k)
due_with_error k c error =
    ap (λ (b : Bool). sent_then k (turns_in c.packets) (last_due k b c.ends)) error

pub due_stays : (k : ℕ) (c d : StreamCourse) (later : List Packet) → d.packets ≡ c.packets ++ later
    → has_error c.packets ≡ true → steps_due k d ≡ steps_due k c
due_stays k c d later more error =
    let still : has_error d.packets ≡ true = ap has_error more ∙ error_stays c.packets later error in
    let turns : turns_in d.packets ≡ turns_in c.packets = ap turns_in more ∙ turns_stay c.packets later error in
    due_with_error k d still
    ∙ ap (λ (ts : List TurnRecord). sent_then k ts (steps.Close k)) turns
    ∙ sym (due_with_error k c error)

-- ---- what was done

pub own_append : (ps qs : List Pair) → own_steps (ps ++ qs) ≡ own_steps ps ++ own_steps qs
own_append ps qs =
    ap (filter is_own) (map-append (λ (p : Pair). p.0) ps qs) ∙ filter-append is_own (steps_of ps) (steps_of qs)

own_worked : (rs : List Reply) → own_steps (worked rs) ≡ []
own_worked [] = refl
own_worked (r ∷ rs) = own_worked rs

pub own_round : (d : Round) → own_steps (pairs_of d) ≡ filter is_own (d.step ∷ [])
own_round d =
    filter-append is_own (d.step ∷ []) (steps_of (worked d.work))
    ∙ ap (λ (ss : List Step). filter is_own (d.step ∷ []) ++ ss) (own_worked d.work)
    ∙ append-nil (filter is_own (d.step ∷ []))

pub own_rounds : (ds : List Round) → own_steps (pairs_in ds) ≡ filter is_own (map step_of ds)
own_rounds [] = refl
own_rounds (d ∷ ds) =
    own_append (pairs_of d) (pairs_in ds)
    ∙ ap (λ (ss : List Step). ss ++ own_steps (pairs_in ds)) (own_round d)
    ∙ ap (λ (ss : List Step). filter is_own (d.step ∷ []) ++ ss) (own_rounds ds)
    ∙ sym (filter-append is_own (d.step ∷ []) (map step_of ds))

packets_own : (ss : List Step) → filter is_packet_step ss ≡ filter is_packet_step (filter is_own ss)
packets_own [] = refl
packets_own (steps.Packet k t ∷ ss) = ap (λ (l : List Step). steps.Packet k t ∷ l) (packets_own ss)
packets_own (steps.Bind b ∷ ss) = packets_own ss
packets_own (steps.Watch x ∷ ss) = packets_own ss
packets_own (steps.Arrive n ∷ ss) = packets_own ss
packets_own (steps.Bad k f ∷ ss) = packets_own ss
packets_own (steps.Close k ∷ ss) = packets_own ss
packets_own (steps.Turn a ∷ ss) = packets_own ss
packets_own (steps.Work ∷ ss) = packets_own ss
packets_own (steps.Stop ∷ ss) = packets_own ss

pub packet_steps_own : (ps : List Pair) → packet_steps ps ≡ filter is_packet_step (own_steps ps)
packet_steps_own ps = packets_own (steps_of ps)

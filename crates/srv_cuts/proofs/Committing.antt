-- What a reader did of what is due.
use Rattle.std.proofs.Common.{◌≡◌, inl, inr, ℕ, List, [], ◌∷◌, ◌++◌, map, filter, length, replicate, Bool, true, false}
use Rattle.std.proofs.Common.{not, sym, ap, ◌∙◌, subst, append_assoc}
use Rattle.std.proofs.lemmas.List.{append-nil, map-append}
use Rattle.std.proofs.lemmas.List.Elements.{filter-append}
use Rattle.rl_stream.specs.Streams.{no_stream, with_bytes}
use Rattle.rl_stream.specs.Courses.{StreamCourse}
use Rattle.rl_stream.specs.Laws.{OneCourse}
use Rattle.hub_machine.specs.declared.steps.Step.{Step}
use Rattle.hub_machine.specs.declared.steps.Step.TheVariants as steps
use Rattle.hub_machine.specs.declared.steps.Reply.{Reply}
use Rattle.hub_machine.specs.declared.steps.Reply.TheVariants as reply
use Rattle.srv_turns.specs.Rounds.{Pair, Round, step_of, pairs_in, IsCutRound}
use Rattle.srv_turns.specs.Reading.{packets_due, steps_due, IsReadTo, IsReadFront, IsCutIn, IsClosed, EndsBy, EndsFor}
use Rattle.srv_turns.specs.declared.reader.ReaderEnd.{ReaderEnd}
use Rattle.srv_turns.specs.declared.reader.ReaderEnd.TheVariants as end
use Rattle.srv_cuts.specs.Fronts.{IsFrontOf, IsCutOf}
use Rattle.srv_cuts.specs.Committed.{is_packet_step, is_own, packet_steps, own_steps, IsDecided, is_through}
use Rattle.srv_cuts.specs.Committed.{HasReadAFront}
use Rattle.srv_cuts.specs.Laws.{CutsAreFronts, CutReadersReadAFront}
use Rattle.srv_cuts.proofs.Cutting.{front_bytes}
use Rattle.srv_cuts.proofs.Fronts.{front_chain, front_filtered}
use Rattle.srv_cuts.proofs.Steps.{due_own, due_packets, closing_own, closing_due, first_due, due_stays}
use Rattle.srv_cuts.proofs.Steps.{own_append, own_round, own_rounds, packet_steps_own}

-- of what is due these steps were done
record Did (k : ℕ) (c : StreamCourse) (before now : List Pair) (ss : List Step) : Type 0 where
  done : List Pair
  pairs : now ≡ before ++ done
  own : own_steps done ≡ filter is_own ss
  front : IsFrontOf ss (steps_due k c)

module _ (k : ℕ) (c : StreamCourse) (before now : List Pair) where
  -- up to and with one
  did_to : (e : Step) (r : Reply) (to : IsReadTo k c before now e r)
      → Did k c before now (map step_of to.front ++ e ∷ [])
  did_to e r to =
      let last : Round = record { step = e; reply = r; work = to.work } in
      record {
        done = pairs_in (to.front ++ last ∷ []);
        pairs = to.pairs;
        own = own_rounds (to.front ++ last ∷ []) ∙ ap (filter is_own) (map-append step_of to.front (last ∷ []));
        front = (to.later, to.due ∙ sym (append_assoc (map step_of to.front) (e ∷ []) to.later));
      }

  -- as far as it went
  did_rounds : (front : List Round) (later : List Step) (half : List Pair) → half ≡ []
      → steps_due k c ≡ map step_of front ++ later → now ≡ before ++ pairs_in front ++ half
      → (ss : List Step) × Did k c before now ss
  did_rounds front later half none due pairs = (
    map step_of front,
    record {
      done = pairs_in front ++ half;
      pairs = pairs ∙ append_assoc before (pairs_in front) half;
      own = ap (λ (ps : List Pair). own_steps (pairs_in front ++ ps)) none
          ∙ ap own_steps (append-nil (pairs_in front)) ∙ own_rounds front;
      front = (later, due);
    },
  )

  did_half : (front : List Round) (e : Step) (later : List Step) (half : List Pair) → IsCutRound e half
      → steps_due k c ≡ map step_of front ++ e ∷ later → now ≡ before ++ pairs_in front ++ half
      → (ss : List Step) × Did k c before now ss
  did_half front e later half (inl none) due pairs = did_rounds front (e ∷ later) half none due pairs
  did_half front e later half (inr (n, few, is)) due pairs =
      let last : Round = record { step = e; reply = reply.Taken; work = replicate n reply.Ran } in (
        map step_of front ++ e ∷ [],
        record {
          done = pairs_in front ++ half;
          pairs = pairs ∙ append_assoc before (pairs_in front) half;
          own = own_append (pairs_in front) half
              ∙ ap (λ (ss : List Step). own_steps (pairs_in front) ++ ss) (ap own_steps is ∙ own_round last)
              ∙ ap (λ (ss : List Step). ss ++ filter is_own (e ∷ [])) (own_rounds front)
              ∙ sym (filter-append is_own (map step_of front) (e ∷ []));
          front = (later, due ∙ sym (append_assoc (map step_of front) (e ∷ []) later));
        },
      )

  did_cut : (front : List Round) (later : List Step) (half : List Pair) → IsCutIn later half
      → steps_due k c ≡ map step_of front ++ later → now ≡ before ++ pairs_in front ++ half
      → (ss : List Step) × Did k c before now ss
  did_cut front [] half none due pairs = did_rounds front [] half none due pairs
  did_cut front (e ∷ later) half cut due pairs = did_half front e later half cut due pairs

  -- ---- how it ended

  -- some steps were done; where the reader got through, all of them, and a closing
  abbrev Ended : Bool → Type 0
  Ended through =
      (ss : List Step) × Did k c before now ss
      × (through ≡ true → ss ≡ packets_due k c.packets ++ steps.Close k ∷ [])

  closed : (through : Bool) → IsClosed k c before now → Ended through
  closed through (r, to) = (
    map step_of to.front ++ steps.Close k ∷ [],
    did_to (steps.Close k) r to,
    λ _. closing_due k c (map step_of to.front) to.later to.due,
  )

  refused : (r : Reply) → EndsBy k c before now r → Ended false
  refused r (e, sent, to) = (map step_of to.front ++ e ∷ [], did_to e r to, λ through. absurd cc)

  cut_short : IsReadFront k c before now → Ended false
  cut_short is =
      let did = did_cut is.front is.later is.half is.cut is.due is.pairs in
      (did.0, did.1, λ through. absurd cc)

  ended : (n : ℕ) (spent : Bool) (e : ReaderEnd) → EndsFor k c n before now spent e → Ended (is_through e spent)
  ended n spent end.Clean (is, out, none) = closed true is
  ended n spent end.Cut (is, out, some) = closed true is
  ended n spent end.PeerError (is, error) = closed true is
  ended n spent end.ReadFault (is, out) = closed true is
  ended n spent (end.Refused f) by = refused (reply.Refused f) by
  ended n spent end.Gone by = refused reply.Gone by
  ended n spent end.Worn by = refused reply.Worn by
  ended n spent end.Spent (inl (is, out, full)) = closed (not spent) is
  ended n spent end.Spent (inr (is, all)) = subst (λ (b : Bool). Ended (not b)) (sym all) (cut_short is)
  ended n spent end.NoMemory is = cut_short is

  -- ---- against the whole

  own_front : (ss : List Step) (did : Did k c before now ss) → IsFrontOf (own_steps did.done) (steps_due k c)
  own_front ss did =
      let f = front_filtered is_own ss (steps_due k c) did.front in
      subst (λ (l : List Step). IsFrontOf l (steps_due k c)) (sym did.own)
      (subst (λ (l : List Step). IsFrontOf (filter is_own ss) l) (due_own k c) f)

  packets_front : (ps : List Pair) → IsFrontOf (own_steps ps) (steps_due k c)
      → IsFrontOf (packet_steps ps) (packets_due k c.packets)
  packets_front ps own =
      let f = front_filtered is_packet_step (own_steps ps) (steps_due k c) own in
      subst (λ (l : List Step). IsFrontOf l (packets_due k c.packets)) (sym (packet_steps_own ps))
      (subst (λ (l : List Step). IsFrontOf (filter is_packet_step (own_steps ps)) l) (due_packets k c) f)

  module _ (more : List ℕ) (d : StreamCourse) (cut : IsCutOf more c d) where
    first_packets : IsFrontOf (packets_due k c.packets) (packets_due k d.packets)
    first_packets = subst (λ ps. IsFrontOf (packets_due k c.packets) (packets_due k ps)) (sym cut.packets.1)
        (first_due k c.packets cut.packets.0)

    same_due : IsDecided c → steps_due k d ≡ steps_due k c
    same_due (inl error) = due_stays k c d cut.packets.0 cut.packets.1 error
    same_due (inr ends) = ap (steps_due k) (cut.decided ends)

    reads_front : (spent : Bool) (e : ReaderEnd) → Ended (is_through e spent) → HasReadAFront k c d before now spent e
    reads_front spent e (ss, did, all) =
        let own = own_front ss did in
        record {
          done = did.done;
          pairs = did.pairs;
          packets = front_chain (packet_steps did.done) (packets_due k c.packets) (packets_due k d.packets)
              (packets_front did.done own) first_packets;
          own = own;
          closes = λ through. did.own ∙ ap (filter is_own) (all through) ∙ closing_own k c.packets;
          same = same_due;
        }

pub cut_reader : CutsAreFronts → OneCourse → CutReadersReadAFront
cut_reader cuts one k b more c d before now spent e are is whole read =
    let cut = cuts (with_bytes b no_stream) more c d are is whole in
    let same = one (with_bytes b no_stream) read.course c (front_bytes b more are) read.is is in
    let ends = subst (λ (x : StreamCourse). EndsFor k x (length b) before now spent e) same read.ends in
    reads_front k c before now more d cut spent e (ended k c before now (length b) spent e ends)

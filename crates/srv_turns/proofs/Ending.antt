-- How a session ends for a reply, and where no step was done.
use Rattle.std.proofs.Common.{◌≡◌, ◌⊎◌, inl, inr, ℕ, List, [], ◌∷◌, ◌++◌, Bool, true, false, Option, None, Some, refl, ap}
use Rattle.std.proofs.Common.{◌∙◌, IfSome, IsSome, sym, subst, append_assoc}
use Rattle.std.specs.List.{AllByRecursion}
use Rattle.std.proofs.lemmas.List.{map-append}
use Rattle.ac_world.specs.Lemmas.Entries.{all_append}
use Rattle.hub_machine.specs.declared.steps.Step.{Step}
use Rattle.hub_machine.specs.declared.steps.Step.TheVariants as steps
use Rattle.hub_machine.specs.declared.steps.Reply.{Reply}
use Rattle.hub_machine.specs.declared.steps.Reply.TheVariants as reply
use Rattle.pv_value.specs.Plain.{Plain}
use Rattle.rl_packet.specs.declared.packets.Turn.{Turn as TurnRecord}
use Rattle.rl_packet.specs.declared.packets.Packet.{Packet}
use Rattle.rl_packet.specs.declared.packets.Packet.TheVariants as packet
use Rattle.srv_turns.specs.Reading.{has_error, packets_due, is_at_end}
use Rattle.srv_turns.specs.declared.reader.Heard.TheVariants as said_as
use Rattle.turn_gate.specs.declared.gate.GateFault.{GateFault}
use Rattle.turn_gate.specs.declared.gate.GateFault.TheVariants as gate
use Rattle.srv_turns.specs.Replies.{CanBeReplied}
use Rattle.turn_gate.specs.Rows.{IsRow, IsCutRow}
use Rattle.srv_turns.specs.Rounds.{Pair, worked}
use Rattle.srv_turns.specs.Rows.{further_behind, replies_of, AreAdded, IsIdle, IsLast}
use Rattle.srv_turns.specs.declared.committing.Behind.TheVariants.{Work}
use Rattle.srv_turns.specs.Working.{is_for_more_work, AreForMoreWork, IsLastWork, HasWorked}
use Rattle.srv_turns.specs.Pausing.{after_row, end_at as worker_end_at}
use Rattle.srv_turns.specs.Keeping.{IsDone, IsCut, IsCutFor, IsRefusal, Sends, Closes, end_at, end_of}
use Rattle.srv_turns.specs.Keeping.{after_turn, said, is_of_link}
use Rattle.srv_turns.specs.declared.reader.ReaderEnd.{ReaderEnd}
use Rattle.srv_turns.specs.declared.reader.ReaderEnd.TheVariants as end
use Rattle.srv_turns.specs.declared.worker.WorkerEnd.{WorkerEnd}
use Rattle.srv_turns.specs.declared.worker.WorkerEnd.TheVariants as worker
use Rattle.srv_turns.specs.declared.worker.After.TheVariants.{More, Rest, Over}
use Rattle.srv_turns.proofs.Pairs.{all_snoc}
use Rattle.srv_turns.proofs.Following.{asked_before, all_asked, same_steps, same_cut_steps, only_work}

-- ---- a worker

abbrev asks : Reply → Option Step
asks = further_behind Work

asked_one : (r : Reply) → IsSome (asks r) → is_for_more_work r ≡ true
asked_one reply.Halted is = absurd cc
asked_one reply.Worn is = absurd cc
asked_one r is = refl

asked_goes : (rs : List Reply) → AllByRecursion (λ r. IsSome (asks r)) rs → AreForMoreWork rs
asked_goes [] all = tt
asked_goes (r ∷ rs) all = (asked_one r all.0, asked_goes rs all.1)

more_for : (r : Reply) → after_row (Some r) ≡ More → is_for_more_work r ≡ true
more_for reply.Idle e = refl
more_for reply.Halted e = absurd cc
more_for reply.Worn e = absurd cc
more_for r e = refl

rest_for : (last : Option Reply) → after_row last ≡ Rest → last ≡ Some reply.Idle
rest_for None e = absurd cc
rest_for (Some reply.Idle) e = refl
rest_for (Some reply.Halted) e = absurd cc
rest_for (Some reply.Worn) e = absurd cc
rest_for (Some r) e = absurd cc

over_for : (last : Option Reply) (x : WorkerEnd) → after_row last ≡ Over x
    → ((last ≡ Some reply.Halted) × (worker.Stopped ≡ x)) ⊎ ((last ≡ Some reply.Worn) × (worker.Worn ≡ x))
over_for None x e = absurd cc
over_for (Some reply.Idle) x e = absurd cc
over_for (Some reply.Halted) x e = inl (refl, cc)
over_for (Some reply.Worn) x e = inr (refl, cc)
over_for (Some r) x e = absurd cc

module _ (ps before now : List Pair) (has : List Reply) (added : AreAdded ps before now [] has) where
  pub row_worked : IsRow asks 33 steps.Work ps → now ≡ before ++ worked has
  row_worked row =
      added.pairs
      ∙ ap (λ (qs : List Pair). before ++ qs)
      (same_steps asks steps.Work only_work 33 steps.Work ps refl row ∙ ap worked (sym added.replies))

  pub cut_worked : IsCutRow asks 33 steps.Work ps → (now ≡ before ++ worked has) × AreForMoreWork has
  cut_worked cut = (
    added.pairs
        ∙ ap (λ (qs : List Pair). before ++ qs)
        (same_cut_steps asks steps.Work only_work 33 steps.Work ps refl cut ∙ ap worked (sym added.replies)),
    subst AreForMoreWork (sym added.replies) (asked_goes (replies_of ps) (all_asked asks 33 steps.Work ps cut)),
  )

  last_work : IsRow asks 33 steps.Work ps → (r : Reply) → IsLast has (Some r) → IsLastWork has r
  last_work row r is = (
    is.0,
    asked_goes is.0 (asked_before asks 33 steps.Work ps row is.0 r (sym added.replies ∙ is.1)),
    is.1,
  )

  goes_behind : (r : Reply) → is_for_more_work r ≡ true → IsLastWork has r → AreForMoreWork has
  goes_behind r goes last =
      subst AreForMoreWork (sym last.2) (all_snoc (λ x. is_for_more_work x ≡ true) last.0 r last.1 goes)

  pub works_on : IsRow asks 33 steps.Work ps → (last : Option Reply) → IsLast has last → after_row last ≡ More
      → AreForMoreWork has
  works_on row None none e = subst AreForMoreWork (sym none) tt
  works_on row (Some r) is e = goes_behind r (more_for r e) (last_work row r is)

  -- where it rests, the last reply was Idle
  pub rests : IsRow asks 33 steps.Work ps → (last : Option Reply) → IsLast has last → after_row last ≡ Rest
      → AreForMoreWork has × IsIdle now
  rests row last is e =
      let idle : IsLast has (Some reply.Idle) = subst (IsLast has) (rest_for last e) is in (
        goes_behind reply.Idle refl (last_work row reply.Idle idle),
        (
          before ++ worked idle.0,
          steps.Work,
          row_worked row
              ∙ ap (λ (xs : List Reply). before ++ worked xs) idle.1
              ∙ ap (λ (qs : List Pair). before ++ qs)
              (map-append (λ (r : Reply). (steps.Work, r)) idle.0 (reply.Idle ∷ []))
              ∙ sym (append_assoc before (worked idle.0) ((steps.Work, reply.Idle) ∷ [])),
        ),
      )

  pub work_over : IsRow asks 33 steps.Work ps → (last : Option Reply) → IsLast has last → (spent : Bool) (x : WorkerEnd)
      → after_row last ≡ Over x → HasWorked has spent x
  work_over row last is spent x e = elim (over_for last x e) [
    | inl halted ↦
        subst (HasWorked has spent) halted.1
        (last_work row reply.Halted (subst (IsLast has) halted.0 is))
    | inr worn ↦
        subst (HasWorked has spent) worn.1
        (last_work row reply.Worn (subst (IsLast has) worn.0 is))
  ]

-- behind work that was done
last_behind : (rs ss : List Reply) (r : Reply) → AreForMoreWork rs → IsLastWork ss r → IsLastWork (rs ++ ss) r
last_behind rs ss r more (front, goes, is) = (
  rs ++ front,
  all_append _ rs front more goes,
  ap (λ (xs : List Reply). rs ++ xs) is ∙ sym (append_assoc rs front (r ∷ [])),
)

pub worked_behind : (rs ss : List Reply) (spent : Bool) (x : WorkerEnd) → AreForMoreWork rs → HasWorked ss spent x
    → HasWorked (rs ++ ss) spent x
worked_behind rs ss spent worker.Stopped more last = last_behind rs ss reply.Halted more last
worked_behind rs ss spent worker.Worn more last = last_behind rs ss reply.Worn more last
worked_behind rs ss spent worker.Spent more (goes, so) = (all_append _ rs ss more goes, so)
worked_behind rs ss spent worker.NoMemory more goes = all_append _ rs ss more goes

pub work_failed : (rs : List Reply) (f : GateFault) (spent : Bool) → AreForMoreWork rs
    → (f ≡ gate.Spent → spent ≡ true) → HasWorked rs spent (worker_end_at f)
work_failed rs gate.Spent spent more cause = (more, cause refl)
work_failed rs gate.NoMemory spent more cause = more

-- ---- a reader

pub cut_by : (e : Step) (f : GateFault) (before now : List Pair) (spent : Bool) → IsCut e before now
    → (f ≡ gate.Spent → spent ≡ true) → IsCutFor e before now spent (end_at f)
cut_by e gate.Spent before now spent cut cause = (cut, inr (refl, cause refl))
cut_by e gate.NoMemory before now spent cut cause = (cut, inl refl)

pub sent_by : (k : ℕ) (t : TurnRecord) (r : Reply) (before now : List Pair) (spent : Bool)
    → CanBeReplied (steps.Packet k t) r → IsDone (steps.Packet k t) r before now
    → Sends k t before now spent (after_turn r)
sent_by k t reply.Taken before now spent can done = done
sent_by k t reply.Worn before now spent can done = inl (reply.Worn, can, refl, done, refl)
sent_by k t reply.Barred before now spent can done = inl (reply.Barred, can, refl, done, refl)
sent_by k t reply.Halted before now spent can done = inl (reply.Halted, can, refl, done, refl)
sent_by k t reply.Full before now spent can done = inl (reply.Full, can, refl, done, refl)
sent_by k t (reply.Opened n) before now spent can done = inl (reply.Opened n, can, refl, done, refl)
sent_by k t reply.Gone before now spent can done = inl (reply.Gone, can, refl, done, refl)
sent_by k t (reply.Refused f) before now spent can done = inl (reply.Refused f, can, refl, done, refl)
sent_by k t reply.Idle before now spent can done = inl (reply.Idle, can, refl, done, refl)
sent_by k t (reply.Sent p) before now spent can done = inl (reply.Sent p, can, refl, done, refl)
sent_by k t reply.Ran before now spent can done = inl (reply.Ran, can, refl, done, refl)

-- ---- a packet

pub turn_said : (p : Packet) (t : TurnRecord) → said p ≡ said_as.Turn t → p ≡ packet.Turn t
turn_said (packet.Turn t) u e = ap packet.Turn cc
turn_said (packet.Error m d) fs e = absurd cc
turn_said packet.Nop fs e = absurd cc
turn_said (packet.Extension v) fs e = absurd cc

pub error_said : (p : Packet) → said p ≡ said_as.Error → (m : Plain) × (d : Plain) × (p ≡ packet.Error m d)
error_said (packet.Turn t) e = absurd cc
error_said (packet.Error m d) e = (m, d, refl)
error_said packet.Nop e = absurd cc
error_said (packet.Extension v) e = absurd cc

pub nothing_said : (k : ℕ) (p : Packet) → said p ≡ said_as.Nothing
    → (has_error (p ∷ []) ≡ false) × (packets_due k (p ∷ []) ≡ [])
nothing_said k (packet.Turn t) e = absurd cc
nothing_said k (packet.Error m d) e = absurd cc
nothing_said k packet.Nop e = (refl, refl)
nothing_said k (packet.Extension v) e = (refl, refl)

-- ---- an end that isn't the link's

pub end_of_inside : (r : Reply) → is_of_link (end_of r) ≡ false
end_of_inside (reply.Refused f) = refl
end_of_inside reply.Gone = refl
end_of_inside r = refl

cut_inside : (e : Step) (before now : List Pair) (spent : Bool) (x : ReaderEnd) → IsCutFor e before now spent x
    → is_of_link x ≡ false
cut_inside e before now spent x (cut, inl is) = ap is_of_link is
cut_inside e before now spent x (cut, inr (is, all)) = ap is_of_link is

pub refusal_inside : (e : Step) (before now : List Pair) (spent : Bool) (x : ReaderEnd)
    → IsRefusal e before now spent x → is_of_link x ≡ false
refusal_inside e before now spent x (inl (r, can, not, done, is)) = ap is_of_link is ∙ end_of_inside r
refusal_inside e before now spent x (inr cut) = cut_inside e before now spent x cut

pub sends_inside : (k : ℕ) (t : TurnRecord) (before now : List Pair) (spent : Bool) (o : Option ReaderEnd)
    → Sends k t before now spent o → IfSome o (λ x. is_of_link x ≡ false)
sends_inside k t before now spent None sends = tt
sends_inside k t before now spent (Some x) sends = refusal_inside (steps.Packet k t) before now spent x sends

pub error_inside : (k : ℕ) (before now : List Pair) (spent : Bool) (x : ReaderEnd)
    → Closes k before now spent end.PeerError x → is_of_link x ≡ false
error_inside k before now spent x (inl (r, done, is)) = ap is_of_link is
error_inside k before now spent x (inr cut) = cut_inside (steps.Close k) before now spent x cut

pub not_at_end : (x : ReaderEnd) → is_of_link x ≡ false → is_at_end x ≡ true → ⊥
not_at_end end.Clean inside at = cc
not_at_end end.Cut inside at = cc
not_at_end end.PeerError inside at = cc
not_at_end end.ReadFault inside at = cc
not_at_end (end.Refused f) inside at = cc
not_at_end end.Gone inside at = cc
not_at_end end.Worn inside at = cc
not_at_end end.Spent inside at = cc
not_at_end end.NoMemory inside at = cc

-- What is written and said for one packet, and where that stops.
use Rattle.std.proofs.Common.{◌≡◌, ℕ, zero, suc, ◌+◌, ◌≤◌, ◌<◌, List, [], ◌∷◌, ◌++◌, length, take, drop, get_or, Option, refl, sym, ap, ◌∙◌, subst, arith}
use Rattle.std.proofs.Common.{Result, inl, inr}
use Rattle.std.proofs.lemmas.List.{append-nil, take-append-drop, take_more}
use Rattle.out_ports.specs.Ports.{Appends, AppendsFront}
use Rattle.dq_core.specs.declared.lines.Line.{Line}
use Rattle.dq_core.specs.declared.client.Reaction.{Reaction}
use Rattle.dq_core.specs.declared.client.QueryFault.{QueryFault}
use Rattle.dq_core.specs.declared.client.QueryFault.TheVariants as fault
use Rattle.dq_core.specs.States.{ClientState}
use Rattle.dq_core.specs.Answers.{IsFaultOf}
use Rattle.dq_core.specs.Lines.{line_text, lines_text}
use Rattle.dq_core.specs.Reactions.{turn_in}
use Rattle.dq_link.specs.Asked.{spelled}
use Rattle.dq_link.specs.Going.{OutputEnds, SayEnds, StopsAt, FaultEnds, end_of}
use Rattle.dq_link.specs.declared.dialling.QueryEnd.{QueryEnd}
use Rattle.dq_link.specs.declared.dialling.QueryEnd.TheVariants as end
use Rattle.dq_link.proofs.Putting.{puts_both, front_of_first, puts_front}
use Rattle.dq_link.proofs.Bringing.{text-append}

abbrev Text : Type 0
Text = Option (List ℕ)

pub take_all : {X : Type 0} (n : ℕ) (xs : List X) → length xs ≤ n → take n xs ≡ xs
take_all zero [] few = refl
take_all (suc n) [] few = refl
take_all zero (x ∷ xs) few = absurd (omega arith)
take_all (suc n) (x ∷ xs) few = ap (λ ys. x ∷ ys) (take_all n xs (omega (arith, few)))

-- one line more was written
pub one_line : (before mid now : Text) (ls : List Line) (l : Line) → Appends before mid (lines_text ls)
    → Appends mid now (line_text l) → Appends before now (lines_text (ls ++ l ∷ []))
one_line before mid now ls l first then =
    subst (Appends before now)
    (sym (text-append ls (l ∷ []) ∙ ap (λ (xs : List ℕ). lines_text ls ++ xs) (append-nil (line_text l))))
    (puts_both before mid now (lines_text ls) (line_text l) first then)

-- the lines before one were written, and then a front of it
pub lines_stop : (before mid now : Text) (ls : List Line) (i : ℕ) (l : Line) → i < length ls → l ≡ get_or ls i l
    → Appends before mid (lines_text (take i ls)) → AppendsFront mid now (line_text l)
    → AppendsFront before now (lines_text ls)
lines_stop before mid now ls i l there is first front =
    let more : take (i + 1) ls ≡ take i ls ++ l ∷ [] =
    take_more ls i l there ∙ ap (λ (x : Line). take i ls ++ x ∷ []) (sym is) in
    let one : lines_text (take (i + 1) ls) ≡ lines_text (take i ls) ++ line_text l =
    ap lines_text more ∙ text-append (take i ls) (l ∷ [])
    ∙ ap (λ (xs : List ℕ). lines_text (take i ls) ++ xs) (append-nil (line_text l)) in
    let parts : lines_text ls ≡ (lines_text (take i ls) ++ line_text l) ++ lines_text (drop (i + 1) ls) =
    ap lines_text (sym (take-append-drop (i + 1) ls)) ∙ text-append (take (i + 1) ls) (drop (i + 1) ls)
    ∙ ap (λ (xs : List ℕ). xs ++ lines_text (drop (i + 1) ls)) one in
    subst (AppendsFront before now) (sym parts)
    (front_of_first before now (lines_text (take i ls) ++ line_text l) (lines_text (drop (i + 1) ls))
    (puts_front before mid now (lines_text (take i ls)) (line_text l) first front))

module _ (r : Reaction) (left : ℕ) (wrote writes said says : Text) where
  -- it stopped while lines were written
  pub lines_cut : (e : QueryEnd) (m k : ℕ) → OutputEnds e m k
      → AppendsFront wrote writes (lines_text (take left r.lines)) → says ≡ said
      → StopsAt r left wrote writes said says e
  lines_cut end.OutputFailed m k is front same = inl (front, same)
  lines_cut end.NoMemory m k is front same = inl (front, same)
  lines_cut end.Done m k is front same = absurd is
  lines_cut end.DialFailed m k is front same = absurd is
  lines_cut end.Rejected m k is front same = absurd is
  lines_cut end.Spent m k is front same = absurd is
  lines_cut end.Left m k is front same = absurd is
  lines_cut end.BadServer m k is front same = absurd is
  lines_cut end.HearFailed m k is front same = absurd is
  lines_cut end.SayFailed m k is front same = absurd is

  -- it stopped while all lines were written, which aren't the last
  pub all_lines_cut : (e : QueryEnd) (m k : ℕ) → length r.lines < left → OutputEnds e m k
      → AppendsFront wrote writes (lines_text r.lines) → says ≡ said → StopsAt r left wrote writes said says e
  all_lines_cut e m k few is front same =
      lines_cut e m k is
      (subst (λ ls. AppendsFront wrote writes (lines_text ls)) (sym (take_all left r.lines (omega (arith, few)))) front)
      same

  -- it stopped while a turn was said
  pub turn_cut : (e : QueryEnd) (m k : ℕ) → length r.lines < left → SayEnds e m k
      → Appends wrote writes (lines_text r.lines) → AppendsFront said says (spelled (turn_in r.ask))
      → StopsAt r left wrote writes said says e
  turn_cut end.SayFailed m k few is lines front = inr (few, lines, front)
  turn_cut end.NoMemory m k few is lines front = inr (few, lines, front)
  turn_cut end.Done m k few is lines front = absurd is
  turn_cut end.DialFailed m k few is lines front = absurd is
  turn_cut end.Rejected m k few is lines front = absurd is
  turn_cut end.Spent m k few is lines front = absurd is
  turn_cut end.Left m k few is lines front = absurd is
  turn_cut end.BadServer m k few is lines front = absurd is
  turn_cut end.HearFailed m k few is lines front = absurd is
  turn_cut end.OutputFailed m k few is lines front = absurd is

-- how a query ends for a fault of its client
pub fault_ends : (f : QueryFault) (brought : Result (ClientState × Reaction) QueryFault) → IsFaultOf brought f
    → FaultEnds brought (end_of f)
fault_ends fault.Rejected brought is = is
fault_ends fault.ServerError brought is = is
fault_ends fault.BadServer brought is = is
fault_ends fault.NoMemory brought is = tt

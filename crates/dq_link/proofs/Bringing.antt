-- What packets bring, and then others.
use Rattle.std.proofs.Common.{◌≡◌, ℕ, zero, suc, ◌+◌, ◌-◌, ◌≤◌, ◌<◌, List, [], ◌∷◌, ◌++◌, length, take, Bool, true, false}
use Rattle.std.proofs.Common.{Ok, Err, refl, sym, ap, ◌∙◌, arith, length-append}
use Rattle.std.specs.Prelude.{nat_le, if◌then◌else◌}
use Rattle.std.proofs.lemmas.List.{append-nil, take-append-le}
use Rattle.std.proofs.lemmas.List.Concat.{flat_map-append}
use Rattle.std.proofs.Math.Seq.{take-append-add}
use Rattle.std.proofs.lemmas.Bool.Decides.{nat_tests}
use Rattle.pv_binary.specs.Written.{written}
use Rattle.rl_packet.specs.Packets.{turn_value}
use Rattle.rl_packet.specs.declared.packets.Packet.{Packet}
use Rattle.rl_packet.specs.declared.packets.Turn.{Turn as TurnRecord}
use Rattle.dq_core.specs.declared.lines.Line.{Line}
use Rattle.dq_core.specs.declared.client.Reaction.{Reaction}
use Rattle.dq_core.specs.declared.client.QueryFault.{QueryFault}
use Rattle.dq_core.specs.States.{ClientState}
use Rattle.dq_core.specs.Lines.{line_text, lines_text}
use Rattle.dq_core.specs.Reactions.{Told, told, and_then, behind, heard, lines_in, asks_in, turn_in, before_line}
use Rattle.dq_link.specs.Asked.{to_write, to_say, spelled}

pub lines-append : (rs ss : List Reaction) → lines_in (rs ++ ss) ≡ lines_in rs ++ lines_in ss
lines-append rs ss = flat_map-append (λ r. r.lines) rs ss

pub asks-append : (rs ss : List Reaction) → asks_in (rs ++ ss) ≡ asks_in rs ++ asks_in ss
asks-append rs ss = flat_map-append (λ r. turn_in r.ask) rs ss

pub text-append : (ks ls : List Line) → lines_text (ks ++ ls) ≡ lines_text ks ++ lines_text ls
text-append ks ls = flat_map-append line_text ks ls

pub spelled-append : (ts us : List TurnRecord) → spelled (ts ++ us) ≡ spelled ts ++ spelled us
spelled-append ts us = flat_map-append (λ t. written (turn_value t)) ts us

-- ---- the first lines, and what is asked before the last of them

not_yet : (n m left : ℕ) → 0 < left → n ≡ m + left → nat_le n m ≡ false
not_yet n m left some is = grind (arith, nat_tests)

before_others : (b : Bool) (r : Reaction) (rs : List Reaction) → b ≡ false → (if b then [] else r ∷ rs) ≡ r ∷ rs
before_others true r rs is = absurd cc
before_others false r rs is = refl

pub before-append : (rs ss : List Reaction) (n left : ℕ) → 0 < left → length (lines_in rs) + left ≡ n
    → before_line n (rs ++ ss) ≡ rs ++ before_line left ss
before-append [] ss n left some is = ap (λ (m : ℕ). before_line m ss) (let e : n ≡ left = omega arith in e)
before-append (r ∷ rs) ss n left some is =
    let l : length (r.lines ++ lines_in rs) ≡ length r.lines + length (lines_in rs) =
    length-append r.lines (lines_in rs) in
    let whole : n ≡ length r.lines + (length (lines_in rs) + left) = omega arith in
    let more : 0 < length (lines_in rs) + left = omega arith in
    let rest : length (lines_in rs) + left ≡ n - length r.lines = omega arith in
    before_others (nat_le n (length r.lines)) r (before_line (n - length r.lines) (rs ++ ss))
    (not_yet n (length r.lines) (length (lines_in rs) + left) more whole)
    ∙ ap (λ (qs : List Reaction). r ∷ qs) (before-append rs ss (n - length r.lines) left some rest)

pub first-append : (rs ss : List Reaction) (n left : ℕ) → length (lines_in rs) + left ≡ n
    → take n (lines_in (rs ++ ss)) ≡ lines_in rs ++ take left (lines_in ss)
first-append rs ss n left is =
    ap (take n) (lines-append rs ss)
    ∙ ap (λ (m : ℕ). take m (lines_in rs ++ lines_in ss)) (sym is)
    ∙ take-append-add (lines_in rs) (lines_in ss) left

-- what is to be written and said, where these reactions come first
pub write-append : (rs : List Reaction) (t : Told) (n left : ℕ) → length (lines_in rs) + left ≡ n
    → to_write n (behind rs t) ≡ lines_text (lines_in rs) ++ to_write left t
write-append rs t n left is =
    ap lines_text (first-append rs t.reactions n left is) ∙ text-append (lines_in rs) (take left (lines_in t.reactions))

pub say-append : (rs : List Reaction) (t : Told) (n left : ℕ) → 0 < left → length (lines_in rs) + left ≡ n
    → to_say n (behind rs t) ≡ asks_in rs ++ to_say left t
say-append rs t n left some is =
    ap asks_in (before-append rs t.reactions n left some is) ∙ asks-append rs (before_line left t.reactions)

-- ---- one reaction

pub done_before : (r : Reaction) (rs : List Reaction) (left : ℕ) → left ≤ length r.lines
    → before_line left (r ∷ rs) ≡ []
done_before r rs left enough = by (nat_le left (length r.lines)) (is_le left (length r.lines) enough)
  where
    is_le : (m n : ℕ) → m ≤ n → nat_le m n ≡ true
    is_le m n l = grind (arith, nat_tests)

    by : (b : Bool) → b ≡ true
        → (if b then [] else r ∷ before_line (left - length r.lines) rs) ≡ []
    by true is = refl
    by false is = absurd cc

pub first_of : (r : Reaction) (ls : List Line) (left : ℕ) → left ≤ length r.lines
    → take left (r.lines ++ ls) ≡ take left r.lines
first_of r ls left enough = take-append-le left r.lines ls enough

pub whole_of : (r : Reaction) (ls : List Line) (left m : ℕ) → length r.lines + m ≡ left
    → take left (r.lines ++ ls) ≡ r.lines ++ take m ls
whole_of r ls left m is = ap (λ (n : ℕ). take n (r.lines ++ ls)) (sym is) ∙ take-append-add r.lines ls m

-- the first of two lists one behind the other
pub split_take : {X : Type 0} (n : ℕ) (xs ys : List X) → take n (xs ++ ys) ≡ take n xs ++ take (n - length xs) ys
split_take zero xs ys = ap (λ (m : ℕ). take m ys) (let e : 0 ≡ 0 - length xs = omega arith in e)
split_take (suc n) [] ys = ap (λ (m : ℕ). take m ys) (let e : suc n ≡ suc n - 0 = omega arith in e)
split_take (suc n) (x ∷ xs) ys =
    ap (λ zs. x ∷ zs) (split_take n xs ys)
    ∙ ap (λ (m : ℕ). x ∷ (take n xs ++ take m ys)) (let e : n - length xs ≡ suc n - suc (length xs) = omega arith in e)

pub single_lines : (r : Reaction) → lines_in (r ∷ []) ≡ r.lines
single_lines r = append-nil r.lines

pub single_asks : (r : Reaction) → asks_in (r ∷ []) ≡ turn_in r.ask
single_asks r = append-nil (turn_in r.ask)

-- ---- packets

pub told_one : (p : Packet) (ps : List Packet) (c : ClientState) (x : ClientState × Reaction) → heard p c ≡ Ok x
    → told (p ∷ ps) c ≡ behind (x.1 ∷ []) (told ps x.0)
told_one p ps c x is = ap (λ r. and_then r (told ps)) is

pub told_fault : (p : Packet) (ps : List Packet) (c : ClientState) (f : QueryFault) → heard p c ≡ Err f
    → told (p ∷ ps) c ≡ record { reactions = []; ends = Err f }
told_fault p ps c f is = ap (λ r. and_then r (told ps)) is

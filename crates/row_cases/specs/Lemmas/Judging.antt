-- What was judged so far, and one more.
use Rattle.std.proofs.Common.{◌≡◌, ◌+◌, ◌-◌, ◌^◌, ◌<◌, ◌≤◌, ◌++◌, ◌∷◌, [], List, length, Bool, true, false, refl}
use Rattle.std.proofs.Common.{Option, Some, None, IfSome, inl, inr, arith, count_by, cond, ap, sym, ◌∙◌}
use Rattle.std.proofs.lemmas.List.Sums.{count_by-le-length, sum_by_push}
use Rattle.std.proofs.lemmas.List.{length_push}
use Rattle.std.specs.declared.alloc.Global.{Global}
use Rattle.std.specs.declared.string.String.{String}
use Rattle.row_cases.specs.Findings.{HasPassed, Differs, IsNoted, AreJudged}
use Rattle.row_cases.specs.declared.tally.Findings.{Findings}

counted_more : {X : Type 0} (p : X → Bool) (xs : List X) (x : X) (b : Bool) → p x ≡ b
    → count_by p (xs ++ x ∷ []) ≡ count_by p xs + cond b 1 0
counted_more p xs x b h = sum_by_push (λ y. cond (p y) 1 0) xs x ∙ ap (λ c. count_by p xs + cond c 1 0) h

some_now : {X : Type 0} (xs : List X) (x : X) → xs ++ x ∷ [] ≡ [] → ⊥
some_now [] x e = cc
some_now (y ∷ ys) x e = cc

pub judged_more : {X : Type 0} (is_case : X → Bool) (xs : List X) (x : X) (Was Holds Now : Type 0) (old new : Findings)
    → length xs < 2 ^ 64 - 1 → (Was → Holds → Now) → IsNoted (is_case x) Holds old new → AreJudged is_case xs Was old
    → AreJudged is_case (xs ++ x ∷ []) Now new
judged_more is_case xs x Was Holds Now old new small on (inl h) so = record {
  counted = let c = so.counted in let f = ap (λ (s : Findings). s.passed + length s.differences.items) h.2 in
      omega (arith, counted_more is_case xs x false h.0);
  holding = λ e. on (so.holding (sym (ap (λ (s : Findings). s.differences.items) h.2) ∙ e)) h.1;
}
judged_more is_case xs x Was Holds Now old new small on (inr (inl h)) so = record {
  counted = let n : count_by is_case xs ≤ length xs = count_by-le-length is_case xs in
      let c = so.counted in let p = h.2.0 in let d = ap length h.2.1 in
      omega (arith, counted_more is_case xs x true h.0);
  holding = λ e. on (so.holding (sym h.2.1 ∙ e)) h.1;
}
judged_more is_case xs x Was Holds Now old new small on (inr (inr h)) so = record {
  counted = let c = so.counted in let p = h.2.0 in let d = ap length h.2.1 in
      omega (arith, counted_more is_case xs x true h.0, length_push old.differences.items h.1);
  holding = λ e. absurd (some_now old.differences.items h.1 (sym h.2.1 ∙ e));
}

-- a case that is judged: where nothing differs it holds, and is counted
pub noted_case : (is_case : Bool) (Holds : Type 0) (found : Option (String Global)) (old new : Findings)
    → is_case ≡ true → (found ≡ None → Holds) → (found ≡ None → HasPassed old new) → IfSome found (Differs old new)
    → IsNoted is_case Holds old new
noted_case is_case Holds None old new is holds counted told = inr (inl (is, holds refl, counted refl))
noted_case is_case Holds (Some s) old new is holds counted told = inr (inr (is, s, told))

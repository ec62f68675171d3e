-- What is written out so far, and the rest.
use Rattle.std.proofs.Common.{◌≡◌, ℕ, ◌++◌, List, subst, sym, ◌∙◌, ap, append_assoc}
use Rattle.std.specs.Str.Pattern.{FindsText, SplitsAroundMatch}
use Rattle.row_cases.specs.Forms.{opening, closing, IsShown, IsExpanded, opened}
use Rattle.row_cases.specs.declared.spelling.Marked.{Marked}

-- behind what is written out stands what the rest is
pub record IsSoFar (marked : Marked) (body rest out : List ℕ) : Type 0 where
  pub behind : (t : List ℕ) → IsExpanded marked rest t → IsExpanded marked body (out ++ t)

pub so_far_more : (marked : Marked) (body rest out front bracket inside after shown new : List ℕ)
    → IsSoFar marked body rest out
    → SplitsAroundMatch (FindsText (opening marked)) rest front bracket
    → SplitsAroundMatch (FindsText (closing marked)) bracket inside after
    → IsShown marked inside shown → new ≡ (out ++ front) ++ shown
    → IsSoFar marked body after new
so_far_more marked body rest out front bracket inside after shown new so at to is e = record {
  behind = λ t h.
      let Is : List ℕ → Type 0 = λ s. IsExpanded marked body s in
      let same : out ++ (front ++ (shown ++ t)) ≡ new ++ t =
      sym (append_assoc out front (shown ++ t)) ∙ sym (append_assoc (out ++ front) shown t)
      ∙ ap (λ s. s ++ t) (sym e) in
      subst Is same (so.behind (front ++ (shown ++ t)) (opened rest front bracket inside after shown t at to is h));
}

use Rattle.std.proofs.Common.{ℕ, ◌∙◌, ◌++◌, List, None, string_bytes, ap, sym, subst, rules}
use Rattle.std.specs.Str.Pattern.{FindsText, SplitsAroundMatch}
use Rattle.row_cases.specs.Forms.{opening, closing, IsExpanded, unopened}
use Rattle.row_cases.proofs.Expanding.{so_far_more}
use Rattle.row_cases.proofs.spelling.expanded.Goals as goal

pub loop-front-preserved : goal.loop-front-preserved
loop-front-preserved c =
    let marked = c.args.marked in
    let rest = c.loop-front.rest.now in
    let front = c.in-Some.front.now in
    let behind = c.in-Some.behind.now in
    let inside = c.in-Some-split_once.inside.now in
    let after = c.in-Some-split_once.after.now in
    let opens : SplitsAroundMatch (FindsText (opening marked)) rest front behind =
    subst (λ (o : List ℕ). SplitsAroundMatch (FindsText o) rest front behind) c.opening.ensures c.in-Some.ensures.cases
    in
    let closes : SplitsAroundMatch (FindsText (closing marked)) behind inside after =
    subst (λ (o : List ℕ). SplitsAroundMatch (FindsText o) behind inside after) c.closing.ensures
    c.in-Some-split_once.ensures.cases in
    let shown = c.in_ok-push.ensures in
    let written = shown.2 ∙ ap (λ t. t ++ shown.0) c.in_ok-push_str.ensures.bytes in (
      search rules,
      so_far_more marked c.args.body.now rest (string_bytes c.loop-front.out) front behind inside after shown.0
          (string_bytes c.push.new.out) c.loop-front.invariant.1 opens closes shown.1 written,
    )

pub returns : goal.returns
returns c =
    let rest = c.loop-front.rest.now in
    let none : FindsText (opening c.args.marked) rest None =
    subst (λ (o : List ℕ). FindsText o rest None) c.opening.ensures c.in_default.ensures.cases in
    let Is : List ℕ → Type 0 = λ s. IsExpanded c.args.marked c.args.body.now s in
    subst Is (sym c.in_ok-push_str-2.ensures.bytes) (c.loop-front.invariant.1.behind rest (unopened rest none))

use Rattle.std.proofs.Common.{ℕ, List, Bor, [], ◌∷◌, map, lit<, subst, string_bytes}
use Rattle.std.specs.List.{FoldsTo}
use Rattle.std.proofs.lemmas.Fn.{FoldsTo-push}
use Rattle.std.proofs.lemmas.Iterator.Consumers.{YieldsList-at, YieldsList-end}
use Rattle.std.proofs.lemmas.Iterator.Splits.{YieldsList-from_str_split}
use Rattle.std.proofs.lemmas.List.{map-append}
use Rattle.row_files.specs.Rows.{AddsWord}
use Rattle.row_files.proofs.rows.words_of.Goals as goal

pub loop-word-preserved : goal.loop-word-preserved
loop-word-preserved c =
    rw (map-append (λ (x : Bor (List ℕ)). x.now) c.loop-word.yielded (c.in-Some.word ∷ []))
    (FoldsTo-push AddsWord [] (map (λ x. x.now) c.loop-word.yielded) (map string_bytes c.loop-word.words.items)
    c.in-Some.word.now (map string_bytes c.push_word.new.words.items)
    c.loop-word.invariant c.in_ok-push_word.ensures)

pub returns : goal.returns
returns c =
    let road =
    YieldsList-at c.into_iter-word-iterator.ensures.into_iter_gives
    (YieldsList-from_str_split 32 c.args.text.now (lit< tt) c.split-word-items.ensures.text
    c.split-word-items.ensures.has_more c.split-word-items.ensures.pattern) in
    let all = YieldsList-end road c.loop-word.yielded _ c.loop-word.yielded_by _ _ c.in-None.is c.next.ensures.steps in
    let Are : List (List ℕ) → Type 0 = λ parts. FoldsTo AddsWord [] parts (map string_bytes c.loop-word.words.items) in
    subst Are all.0 c.loop-word.invariant

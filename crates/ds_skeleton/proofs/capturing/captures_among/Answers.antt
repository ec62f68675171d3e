use Rattle.std.proofs.Common.{◌≡◌, ℕ, List, [], ◌∷◌, ap, sym, ◌∙◌}
use Rattle.std.specs.Map.{lookup}
use Rattle.pv_value.specs.Plain.{Plain}
use Rattle.pv_words.specs.Parts.{same}
use Rattle.ds_small.specs.Sets.{held_keys}
use Rattle.ds_skeleton.specs.Places.{stands, count}
use Rattle.ds_skeleton.specs.Leaves.{number}
use Rattle.ds_skeleton.proofs.Answered.{then_if}
use Rattle.ds_skeleton.proofs.Captures.{count_alone}
use Rattle.ds_skeleton.proofs.capturing.captures_among.Goals as goal

pub returns-in-Nothing : goal.returns-in-Nothing
returns-in-Nothing c q =
    let none : c.args.few.now.keys ≡ [] = sym c.held.ensures.keys ∙ ap held_keys c.in-Nothing.is in
    ap (λ (es : List (Plain × ℕ)). number (lookup (same q) es)) c.new.ensures.empty
    ∙ ap (count (stands c.args.outline.now c.args.constants.now q)) (sym none)

pub returns-in-One : goal.returns-in-One
returns-in-One c =
    let one : c.args.few.now.keys ≡ c.in-One.value.now ∷ [] = sym c.held.ensures.keys ∙ ap held_keys c.in-One.is in
    then_if c.captures_alone.result
    (λ counts h q. h q
    ∙ count_alone (stands c.args.outline.now c.args.constants.now q) c.in-One.value.now
    ∙ ap (count (stands c.args.outline.now c.args.constants.now q)) (sym one))
    c.captures_alone.ensures

pub returns-in-Many : goal.returns-in-Many
returns-in-Many c =
    let all : c.args.few.now.keys ≡ c.in-Many.tree.now.keys = sym c.held.ensures.keys ∙ ap held_keys c.in-Many.is in
    then_if c.captures_in.result
    (λ counts h q. h q ∙ ap (count (stands c.args.outline.now c.args.constants.now q)) (sym all))
    c.captures_in.ensures

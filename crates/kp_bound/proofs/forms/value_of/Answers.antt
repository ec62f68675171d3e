use Rattle.std.proofs.Common.{◌≡◌, ℕ, true, false, List, [], sym, ◌∙◌, subst, IfNone}
use Rattle.pv_value.specs.Plain.{Plain}
use Rattle.pv_read.specs.Limits.{read_depth}
use Rattle.pv_binary.specs.Reads.{LeadsWithin}
use Rattle.kp_bound.proofs.Reading.{leads, is_same, nothing_left, is_form, formed}
use Rattle.kp_bound.proofs.forms.value_of.Goals as goal

pub returns-in-None-clause-none : goal.returns-in-None-clause-none
returns-in-None-clause-none c =
    let bytes = c.args.bytes.now in
    let none : (v : Plain) (more : List ℕ) → LeadsWithin read_depth bytes v more → ⊥ =
    subst (λ o. IfNone o ((v : Plain) (more : List ℕ) → LeadsWithin read_depth bytes v more → ⊥)) c.in-None.is
    c.in_ok-read.ensures.none in
    λ v f. none v [] (leads c.canonical_is_exact.ensures.spells bytes v f)

pub returns-then-whole-clause-some : goal.returns-then-whole-clause-some
returns-then-whole-clause-some c =
    let found = rw c.in-Some.is at c.in_ok-read.ensures.found in
    let is = c.in_ok-whole-in-Some.ensures.whole.0 c.if-whole.true in
    formed c.args.bytes.now c.in-Some.value c.in-Some.rest.now found c.is_whole.ensures.well_formed is.1

pub returns-then-whole-clause-only : goal.returns-then-whole-clause-only
returns-then-whole-clause-only c =
    let found = rw c.in-Some.is at c.in_ok-read.ensures.found in
    is_same c.spellings_are_unique.ensures.unique c.canonical_is_exact.ensures.spells c.args.bytes.now c.in-Some.value
    c.in-Some.rest.now found

pub returns-else-whole-clause-none : goal.returns-else-whole-clause-none
returns-else-whole-clause-none c =
    let found = rw c.in-Some.is at c.in_ok-read.ensures.found in
    let unique = c.spellings_are_unique.ensures.unique in
    let so = c.canonical_is_exact.ensures.spells in
    let bytes = c.args.bytes.now in
    let w = c.in-Some.value in
    let rest = c.in-Some.rest.now in
    λ v f.
    let clash : false ≡ true
    = sym c.if-whole.false
    ∙ c.in_ok-whole-in-Some.ensures.whole.1
    (nothing_left unique so bytes w rest found v f, is_form unique so bytes w rest found v f) in cc

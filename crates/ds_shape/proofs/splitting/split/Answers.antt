use Rattle.std.proofs.Common.{◌≡◌, ◌↔◌, List, [], ◌++◌, map, Result, Ok, Err, IfOk, Some, sym, ap, ◌∙◌, subst}
use Rattle.pv_value.specs.Plain.{Plain, sequence, plains}
use Rattle.pv_value.specs.declared.NoMemory.{NoMemory}
use Rattle.dp_pattern.specs.Patterns.{Pattern}
use Rattle.dp_pattern.specs.Matching.{matched}
use Rattle.ds_shape.specs.Paths.{Step}
use Rattle.ds_shape.specs.Outlines.{Test}
use Rattle.ds_shape.specs.Splitting.{Constant, test_under, constant_under, tests, constants, captures}
use Rattle.ds_shape.specs.Splitting.{outline_of, constants_of}
use Rattle.ds_shape.specs.Standing.{captured_by, Says}
use Rattle.ds_shape.specs.declared.outlines.Shape.{Shape}
use Rattle.ds_shape.specs.Lemmas.Saying.{matched_captured, matched_says}
use Rattle.ds_shape.proofs.Under.{tests_here, constants_here, captures_here}
use Rattle.ds_shape.proofs.splitting.split.Goals as goal

-- what a pattern has, seen from the value itself, is what it has
here : {A : Type 0} (found start all : List A) (put : List Step → A → A) (path : List Step) → start ≡ [] → path ≡ []
    → found ≡ start ++ map (put path) all → map (put []) all ≡ all → found ≡ all
here found start all put path none root e whole =
    e ∙ ap (λ xs. xs ++ map (put path) all) none ∙ ap (λ p. map (put p) all) root ∙ whole

outlines : (p : Pattern) (ts : List Test) (cs : List Constant) (ps : List (List Step)) → ts ≡ tests p
    → cs ≡ constants p → ps ≡ captures p → (r : Result Shape NoMemory) → IfOk r (λ s. s.outline.tests ≡ ts)
    → IfOk r (λ s. s.outline.constants ≡ map (λ c. c.path) cs) → IfOk r (λ s. s.outline.captures ≡ ps)
    → IfOk r (λ s. s.outline ≡ outline_of p)
outlines p ts cs ps e f g (Ok s) a b d =
    λ i. record { tests = (a ∙ e) i; constants = (b ∙ ap (map (λ c. c.path)) f) i; captures = (d ∙ g) i }
outlines p ts cs ps e f g (Err x) a b d = tt

constants_are : (p : Pattern) (cs : List Constant) → cs ≡ constants p → (r : Result Shape NoMemory)
    → IfOk r (λ s. s.constants ≡ sequence (plains (map (λ c. c.value) cs)))
    → IfOk r (λ s. s.constants ≡ constants_of p)
constants_are p cs e (Ok s) a = a ∙ ap (λ cs. sequence (plains (map (λ c. c.value) cs))) e
constants_are p cs e (Err x) a = tt

says : (p : Pattern) (r : Result Shape NoMemory) → IfOk r (λ s. s.outline ≡ outline_of p)
    → IfOk r (λ s. s.constants ≡ constants_of p)
    → IfOk r (λ s. (v : Plain) → matched p v ≡ captured_by s.outline s.constants v)
says p (Ok s) o k = λ v. matched_captured p v ∙ (λ i. captured_by (sym o i) (sym k i) v)
says p (Err x) o k = tt

exactly : (p : Pattern) (r : Result Shape NoMemory) → IfOk r (λ s. s.outline ≡ outline_of p)
    → IfOk r (λ s. s.constants ≡ constants_of p)
    → IfOk r (λ s. (v : Plain) (cs : List Plain) → (matched p v ≡ Some cs) ↔ Says s.outline s.constants v cs)
exactly p (Ok s) o k = λ v cs.
    subst (λ x. (matched p v ≡ Some cs) ↔ Says x s.constants v cs) (sym o)
    (subst (λ x. (matched p v ≡ Some cs) ↔ Says (outline_of p) x v cs) (sym k) (matched_says p v cs))
exactly p (Err x) o k = tt

pub returns : goal.returns
returns c =
    let p = c.args.pattern.now in
    let found = c.gather-2.new.found in
    let r = c.shape_of.result in
    let ts : found.tests.items ≡ tests p =
    here found.tests.items _ (tests p) test_under _ c.new.ensures.items c.root.ensures c.in_ok-gather.ensures.tests
    (tests_here (tests p)) in
    let cs : found.constants.items ≡ constants p =
    here found.constants.items _ (constants p) constant_under _ c.new-2.ensures.items c.root.ensures
    c.in_ok-gather.ensures.constants (constants_here (constants p)) in
    let ps : found.captures.items ≡ captures p =
    here found.captures.items _ (captures p) (λ path q. path ++ q) _ c.new-3.ensures.items c.root.ensures
    c.in_ok-gather.ensures.captures (captures_here (captures p)) in
    let o : IfOk r (λ s. s.outline ≡ outline_of p) =
    outlines p _ _ _ ts cs ps r c.shape_of.ensures.tests c.shape_of.ensures.paths c.shape_of.ensures.captures in
    let k : IfOk r (λ s. s.constants ≡ constants_of p) = constants_are p _ cs r c.shape_of.ensures.constants in
    record { outline = o; constants = k; says = says p r o k; exactly = exactly p r o k }

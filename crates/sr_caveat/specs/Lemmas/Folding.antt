-- Lists that loops make, before what is still to come.
use Rattle.std.proofs.Common.{◌≡◌, List, [], ◌∷◌, ◌++◌, Option, Some, None, refl, ap, sym, ◌∙◌}
use Rattle.pv_value.specs.Plain.{Plain, no_more, then_more, plains}
use Rattle.sr_caveat.specs.Patterns.{Pattern, Patterns, no_patterns, Template, Templates, no_templates}
use Rattle.sr_caveat.specs.Patterns.{Caveat, no_caveats, then_caveat, caveats, rewrite, Rewrites, no_rewrites}
use Rattle.sr_caveat.specs.Written.{with_pattern, with_template, with_rewrite}
use Rattle.sr_caveat.specs.View.{listed_patterns, listed_templates, listed_rewrites}
use Rattle.sr_caveat.specs.declared.Rewrite.{Rewrite}

-- each element put before the rest, the first one outermost
abbrev pub folded : {A B : Type 0} → (A → B → B) → List A → B → B
folded f [] r = r
folded f (x ∷ xs) r = f x (folded f xs r)

pub folded_push : {A B : Type 0} (f : A → B → B) (xs : List A) (x : A) (r : B)
    → folded f (xs ++ x ∷ []) r ≡ folded f xs (f x r)
folded_push f [] x r = refl
folded_push f (y ∷ ys) x r = ap (f y) (folded_push f ys x r)

pub folded_none : {A B : Type 0} (f : A → Option B → Option B) (xs : List A)
    → ((x : A) → f x None ≡ None) → folded f xs None ≡ None
folded_none f [] h = refl
folded_none f (y ∷ ys) h = ap (f y) (folded_none f ys h) ∙ h y

pub folded_plains : (vs : List Plain) → folded then_more vs no_more ≡ plains vs
folded_plains [] = refl
folded_plains (v ∷ vs) = ap (then_more v) (folded_plains vs)

pub folded_caveats : (cs : List Caveat) → folded then_caveat cs no_caveats ≡ caveats cs
folded_caveats [] = refl
folded_caveats (c ∷ cs) = ap (then_caveat c) (folded_caveats cs)

abbrev pub put_pattern : Pattern → Option Patterns → Option Patterns
put_pattern p r = with_pattern (Some p) r

pub folded_patterns : (ps : List Pattern) → folded put_pattern ps (Some no_patterns) ≡ Some (listed_patterns ps)
folded_patterns [] = refl
folded_patterns (p ∷ ps) = ap (put_pattern p) (folded_patterns ps)

abbrev pub put_template : Template → Option Templates → Option Templates
put_template t r = with_template (Some t) r

pub folded_templates : (ts : List Template) → folded put_template ts (Some no_templates) ≡ Some (listed_templates ts)
folded_templates [] = refl
folded_templates (t ∷ ts) = ap (put_template t) (folded_templates ts)

abbrev pub put_rewrite : Rewrite → Option Rewrites → Option Rewrites
put_rewrite r rs = with_rewrite (Some (rewrite r.pattern r.template)) rs

pub folded_rewrites : (rs : List Rewrite) → folded put_rewrite rs (Some no_rewrites) ≡ Some (listed_rewrites rs)
folded_rewrites [] = refl
folded_rewrites (r ∷ rs) = ap (put_rewrite r) (folded_rewrites rs)

pub rewrite_none : (r : Rewrite) → put_rewrite r None ≡ None
rewrite_none r = refl

-- ---- steps of loops

-- one element more
pub folded_on : {A B : Type 0} (f : A → B → B) (old new : List A) (x : A) (rest later all : B)
    → new ≡ old ++ x ∷ [] → f x later ≡ rest → folded f old rest ≡ all → folded f new later ≡ all
folded_on f old new x rest later all e g h =
    ap (λ xs. folded f xs later) e ∙ folded_push f old x later ∙ ap (folded f old) g ∙ h

-- what comes next isn't there, so the whole isn't
pub folded_stop : {A B : Type 0} (f : A → Option B → Option B) (old : List A) (rest all : Option B)
    → ((x : A) → f x None ≡ None) → None ≡ rest → folded f old rest ≡ all → None ≡ all
folded_stop f old rest all n e h = sym (folded_none f old n) ∙ ap (folded f old) e ∙ h

-- nothing is left
pub folded_whole : {A B : Type 0} (f : A → B → B) (old : List A) (empty rest all made : B)
    → folded f old empty ≡ made → empty ≡ rest → folded f old rest ≡ all → made ≡ all
folded_whole f old empty rest all made m e h = sym m ∙ ap (folded f old) e ∙ h

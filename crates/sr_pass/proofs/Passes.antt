-- Lists of caveats, one behind the other.
use Rattle.std.proofs.Common.{◌≡◌, ℕ, zero, suc, ◌+◌, ◌-◌, List, [], ◌∷◌, ◌++◌, length, drop, get_or, Option}
use Rattle.std.proofs.Common.{Some, None}
use Rattle.std.proofs.Common.{option_and_then, refl, sym, ap, ◌∙◌, arith}
use Rattle.pv_value.specs.Plain.{Plain}
use Rattle.ps_schema.specs.declared.Definition.{Definition}
use Rattle.sr_caveat.specs.Patterns.{Caveat}
use Rattle.sr_caveat.specs.Lemmas.Dropping.{drop_is}
use Rattle.sr_pass.specs.Passing.{applied, passed}
use Rattle.sr_pass.specs.Laws.{NewestComesFirst, AttenuatingNarrows}

and_then_some : (o : Option Plain) → o ≡ option_and_then (λ v. Some v) o
and_then_some None = refl
and_then_some (Some v) = refl

in_turn : (f g : Plain → Option Plain) (o : Option Plain)
    → option_and_then f (option_and_then g o) ≡ option_and_then (λ v. option_and_then f (g v)) o
in_turn f g None = refl
in_turn f g (Some v) = refl

-- the newer ones come first, and the older ones see what they give
pub passed_append : (ds : List Definition) (old new : List Caveat) (v : Plain)
    → passed ds (old ++ new) v ≡ option_and_then (passed ds old) (passed ds new v)
passed_append ds [] new v = and_then_some (passed ds new v)
passed_append ds (c ∷ cs) new v =
    ap (option_and_then (applied ds c)) (passed_append ds cs new v)
    ∙ in_turn (applied ds c) (passed ds cs) (passed ds new v)

pub newest_first : NewestComesFirst
newest_first ds old new v = passed_append ds old (new ∷ []) v

pub narrows : AttenuatingNarrows
narrows ds old new v w e = by (passed ds new v) (sym (passed_append ds old new v) ∙ e)
  where
    by : (o : Option Plain) → option_and_then (passed ds old) o ≡ Some w → (u : Plain) × (passed ds old u
        ≡ Some w)
    by None h = absurd cc
    by (Some u) h = (u, h)

-- one caveat more, from the end of the list on
pub passed_more : (ds : List Definition) (cs : List Caveat) (left j : ℕ) (c : Caveat) (v w : Plain)
    → j + (left + 1) ≡ length cs → c ≡ get_or cs j c
    → Some w ≡ passed ds (drop (length cs - left) cs) v
    → passed ds (drop (length cs - (left + 1)) cs) v ≡ applied ds c w
passed_more ds cs left j c v w h is so_far =
    let here : length cs - (left + 1) ≡ j = omega arith in
    let next : j + 1 ≡ length cs - left = omega arith in
    ap (λ k. passed ds (drop k cs) v) here
    ∙ ap (λ rest. passed ds rest v) (drop_is cs j c (omega arith) is)
    ∙ ap (λ k. option_and_then (applied ds c) (passed ds (drop k cs) v)) next
    ∙ ap (option_and_then (applied ds c)) (sym so_far)

-- what the newer ones refuse is refused
pub passed_none : (ds : List Definition) (cs : List Caveat) (i : ℕ) (v : Plain)
    → passed ds (drop i cs) v ≡ None → passed ds cs v ≡ None
passed_none ds cs zero v e = e
passed_none ds [] (suc i) v e = e
passed_none ds (c ∷ cs) (suc i) v e = ap (option_and_then (applied ds c)) (passed_none ds cs i v e)

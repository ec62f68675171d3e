-- Text in quotes: one step over an item and the plain characters behind it.
use Rattle.std.proofs.Common.{◌≡◌, ℕ, List, ◌∷◌, ◌++◌, Result, Ok, sym, ap, ◌∙◌}
use Rattle.pv_read.specs.Lemmas.Fronts.{behind_front, behind_front_more}
use Rattle.pv_lex.specs.Characters.{run}
use Rattle.pv_lex.specs.Classes.{quote_of, item_of, content_at, is_plain}
use Rattle.pv_lex.specs.Lemmas.QuotedLaws.{content_first, plain_run}
use Rattle.pv_lex.specs.declared.runs.Quotes.{Quotes}
use Rattle.pv_lex.specs.declared.faults.TextKind.{TextKind}

pub one_item : (q : Quotes) (out new rest after i m s t : List ℕ) (b : ℕ) (all : Result (List ℕ × List ℕ) TextKind)
    → behind_front out (content_at q rest) ≡ all → rest ≡ b ∷ after → (b ≡ quote_of q → ⊥) → item_of q rest ≡ Ok (i, m)
    → run (is_plain q) m ≡ (s, t) → new ≡ (out ++ i) ++ s → behind_front new (content_at q t) ≡ all
one_item q out new rest after i m s t b all v is n e r f =
    let first : content_at q rest ≡ behind_front i (content_at q m) =
    ap (content_at q) is ∙ content_first q b after i m n (ap (item_of q) (sym is) ∙ e) in
    ap (λ x. behind_front x (content_at q t)) f ∙ behind_front_more (out ++ i) s (content_at q t)
    ∙ ap (behind_front (out ++ i)) (sym (plain_run q m s t r)) ∙ behind_front_more out i (content_at q m)
    ∙ ap (behind_front out) (sym first) ∙ v

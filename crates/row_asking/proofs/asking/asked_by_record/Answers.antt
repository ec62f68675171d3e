use Rattle.std.proofs.Common.{◌≡◌, ℕ, List, [], ◌∷◌, length, get_or, codes, sym, ap, ◌∙◌, subst, arith}
use Rattle.std.proofs.lemmas.Slice.Eq.{bytes_eq-Decides}
use Rattle.pv_value.specs.Plain.{Plain}
use Rattle.pv_words.specs.Words.{labelled}
use Rattle.row_asking.specs.Asking.{AsksBinding}
use Rattle.row_asking.proofs.asking.asked_by_record.Goals as goal

-- a list of four, by its items
four_items : (xs : List Plain) (v w x y : Plain) → length xs ≡ 4 → v ≡ get_or xs 0 v → w ≡ get_or xs 1 w
    → x ≡ get_or xs 2 x → y ≡ get_or xs 3 y → xs ≡ v ∷ w ∷ x ∷ y ∷ []
four_items [] v w x y four p q r s = absurd (omega arith)
four_items (a ∷ []) v w x y four p q r s = absurd (omega arith)
four_items (a ∷ b ∷ []) v w x y four p q r s = absurd (omega arith)
four_items (a ∷ b ∷ c ∷ []) v w x y four p q r s = absurd (omega arith)
four_items (a ∷ b ∷ c ∷ d ∷ []) v w x y four p q r s = λ i. sym p i ∷ sym q i ∷ sym r i ∷ sym s i ∷ []
four_items (a ∷ b ∷ c ∷ d ∷ e ∷ es) v w x y four p q r s = absurd (omega arith)

pub returns-in_ok-binding-in-len4-2 : goal.returns-in_ok-binding-in-len4-2
returns-in_ok-binding-in-len4-2 c =
    let b = c.in_ok-binding-in-len4-2.binding in
    let oid = c.oid-item.result in
    let key = c.key-item.result in
    let actor = c.actor-item.result in
    let caveats = c.caveats-item.result in
    let fields : c.args.fields.now ≡ oid ∷ key ∷ actor ∷ caveats ∷ [] =
    four_items c.args.fields.now oid key actor caveats (omega arith) c.oid-item.is c.key-item.is c.actor-item.is
    c.caveats-item.is in
    let word : c.args.word.now ≡ codes "bind" =
    (bytes_eq-Decides c.args.word.now (codes "bind")).0 (sym c.if-eq-2.ensures) in
    subst (λ fs. AsksBinding (labelled c.args.word.now fs) b) (sym fields)
    (subst (λ w. AsksBinding (labelled w (oid ∷ key ∷ actor ∷ caveats ∷ [])) b) (sym word)
    c.in_ok-binding-in-len4-2.ensures)

-- What is made of values, one behind another: of one more of them.
use Rattle.std.proofs.Common.{◌≡◌, ℕ, List, [], ◌∷◌, ◌++◌, ap, ◌∙◌, append-nil}
use Rattle.std.proofs.lemmas.Grind.{flat_map-append}
use Rattle.pv_value.specs.Plain.{Plain}
use Rattle.dsd_top.specs.Forms.{made_of_all}

pub made-more : (make : Plain → List ℕ) (vs : List Plain) (v : Plain)
    → made_of_all make (vs ++ v ∷ []) ≡ made_of_all make vs ++ make v
made-more make vs v =
    flat_map-append make vs (v ∷ []) ∙ ap (λ l. made_of_all make vs ++ l) (append-nil (make v))

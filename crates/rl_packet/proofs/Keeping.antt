-- What the last events leave, one event earlier.
use Rattle.std.proofs.Common.{◌≡◌, ℕ, ◌+◌, ◌-◌, ◌<◌, List, ◌∷◌, true, false, cond, length, get_or, drop, sym, ap}
use Rattle.std.proofs.Common.{◌∙◌, arith}
use Rattle.std.specs.List.{list_any}
use Rattle.std.specs.BTreeSet.{contains}
use Rattle.std.specs.Ordering.{nat_cmp}
use Rattle.std.proofs.lemmas.List.{drop_more}
use Rattle.pv_value.specs.Plain.{Plain}
use Rattle.rl_packet.specs.Packets.{TurnEvent, Assert}
use Rattle.rl_packet.specs.Holding.{retracted_by, kept, all_kept, holdings_in_order, insert_holding}
use Rattle.rl_packet.specs.Kept.{AreNumbered, IsPut, IsKept}
use Rattle.rl_packet.specs.declared.holding.Kept.{Kept}

none_more : (e : TurnEvent) (v : Plain) (h m : ℕ) (later : List TurnEvent) → e.event ≡ Assert v h
    → list_any (retracted_by m) (e ∷ later) ≡ list_any (retracted_by m) later
none_more e v h m later is = rw is

pub kept_assertion : (later : List TurnEvent) (old new : Kept) (e : TurnEvent) (v : Plain) (h : ℕ) → e.event
    ≡ Assert v h → contains nat_cmp old.retracted h ≡ false → new.retracted ≡ old.retracted
    → (AreNumbered old.holdings.entries
    → IsPut (record { oid = e.oid; handle = h; value = v }) old.holdings.entries new.holdings.entries)
    → IsKept later old → IsKept (e ∷ later) new
kept_assertion later old new e v h is none same put k = record {
  retracted = λ m. none_more e v h m later is ∙ (k.retracted m ∙ ap (λ s. contains nat_cmp s m) (sym same));
  holdings =
      added.holdings ∙ (ap (insert_holding (record { oid = e.oid; handle = h; value = v })) k.holdings
      ∙ sym (ap holdings_in_order stays));
  numbered = added.numbered;
}
  where
    added : IsPut (record { oid = e.oid; handle = h; value = v }) old.holdings.entries new.holdings.entries
    added = put k.numbered

    stays : all_kept (e ∷ later) ≡ record { oid = e.oid; handle = h; value = v } ∷ all_kept later
    stays = ap (λ w. kept e w later (all_kept later)) is
        ∙ ap (λ b. cond b (all_kept later) (record { oid = e.oid; handle = h; value = v } ∷ all_kept later))
        (k.retracted h ∙ none)

pub retracted_assertion : (later : List TurnEvent) (old : Kept) (e : TurnEvent) (v : Plain) (h : ℕ) → e.event
    ≡ Assert v h → contains nat_cmp old.retracted h ≡ true → IsKept later old → IsKept (e ∷ later) old
retracted_assertion later old e v h is some k = record {
  retracted = λ m. none_more e v h m later is ∙ k.retracted m;
  holdings = k.holdings ∙ sym (ap holdings_in_order goes);
  numbered = k.numbered;
}
  where
    goes : all_kept (e ∷ later) ≡ all_kept later
    goes = ap (λ w. kept e w later (all_kept later)) is
        ∙ ap (λ b. cond b (all_kept later) (record { oid = e.oid; handle = h; value = v } ∷ all_kept later))
        (k.retracted h ∙ some)

-- one more of the last ones
pub drop_back : {X : Type 0} (xs : List X) (done : ℕ) (x : X) → done < length xs → x
    ≡ get_or xs (length xs - 1 - done) x → drop (length xs - (done + 1)) xs ≡ x ∷ drop (length xs - done) xs
drop_back xs done x l at =
    let i : ℕ = length xs - 1 - done in
    let here : length xs - (done + 1) ≡ i = omega arith in
    let next : i + 1 ≡ length xs - done = omega arith in
    ap (λ n. drop n xs) here
    ∙ (drop_more xs i x (omega arith) ∙ (ap (λ y. y ∷ drop (i + 1) xs) (sym at) ∙ ap (λ n. x ∷ drop n xs) next))

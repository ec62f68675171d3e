-- What a connection holds by the events that it was sent is what its actor took of them.
use Rattle.std.proofs.Common.{◌≡◌, ℕ, ◌<◌, ◌==◌, ◌||◌, List, [], ◌∷◌, ◌++◌, Bool, true, false, not, cond, map, filter}
use Rattle.std.proofs.Common.{Less, refl, ap, sym, ◌∙◌, arith, append-nil, append_assoc}
use Rattle.std.specs.List.{AllByRecursion, list_any}
use Rattle.std.specs.List.Sorted.{IsStrictlySortedBy}
use Rattle.std.specs.Map.{keys_of}
use Rattle.std.specs.Ordering.{nat_cmp}
use Rattle.std.proofs.lemmas.Bool.Decides.{nat_tests}
use Rattle.std.proofs.lemmas.List.{map-append}
use Rattle.std.proofs.lemmas.List.Elements.{filter-append}
use Rattle.std.proofs.lemmas.List.Folds.{list_any-append}
use Rattle.std.proofs.lemmas.Map.Keys.{sorted_head, sorted_tail}
use Rattle.ac_table.specs.declared.batches.Event.{Event}
use Rattle.ac_table.specs.declared.batches.Event.TheVariants.{Assert, Retract, Message, Sync}
use Rattle.ac_world.specs.Worlds.{with_entry, without_entry}
use Rattle.ac_world.specs.declared.held.Held.{Held}
use Rattle.ac_world.specs.Lemmas.Entries.{AreAbove}
use Rattle.rl_packet.specs.Holding.{retracted_by, kept, all_kept}
use Rattle.rl_packet.specs.declared.packets.Event.{Event as WireEvent}
use Rattle.rl_packet.specs.declared.packets.Event.TheVariants as wire
use Rattle.rl_packet.specs.declared.holding.Holding.{Holding}
use Rattle.rl_packet.specs.declared.packets.TurnEvent.{TurnEvent}
use Rattle.rl_ports.specs.Ports.{ExportTable}
use Rattle.hub_machine.specs.Machine.{sent_event}
use Rattle.hub_laws.specs.Settled.{holding_of}
use Rattle.hub_laws.specs.Standing.{took_all, at_object}
use Rattle.hub_laws.proofs.Kept.{made_in}
use Rattle.hub_laws.proofs.Logs.{one_of_all, log_took}
use Rattle.hub_laws.proofs.Moving.{with_entry-above}
use Rattle.hub_laws.proofs.Turns.{ascend_before}

-- the deliveries whose handles no later event retracts
abbrev pub lasting : List TurnEvent → List (ℕ × Held) → List (ℕ × Held)
lasting later got = filter (λ e. not (list_any (retracted_by e.0) later)) got

lasting-none : (got : List (ℕ × Held)) → lasting [] got ≡ got
lasting-none [] = refl
lasting-none (e ∷ es) = ap (λ ds. e ∷ ds) (lasting-none es)

-- without a handle below all others
lasting-above : (h : ℕ) (later : List TurnEvent) (got : List (ℕ × Held)) → AreAbove h (keys_of got)
    → filter (λ e. not ((h == e.0) || list_any (retracted_by e.0) later)) got ≡ lasting later got
lasting-above h later [] above = refl
lasting-above h later (e ∷ es) above = grind (arith, nat_tests, above.0, lasting-above h later es above.1)

-- a retraction that comes takes its handle away
lasting-without : (h : ℕ) (later : List TurnEvent) (got : List (ℕ × Held)) → IsStrictlySortedBy nat_cmp (keys_of got)
    → filter (λ e. not ((h == e.0) || list_any (retracted_by e.0) later)) got ≡ lasting later (without_entry h got)
lasting-without h later [] s = refl
lasting-without h later (e ∷ es) s =
    grind (
      arith,
      nat_tests,
      lasting-without h later es (sorted_tail nat_cmp _ _ s),
      λ (same : e.0 ≡ h). lasting-above h later es (rw (← same) (sorted_head nat_cmp _ _ s)),
    )

-- handles below the next of those that ascend
below_next : (ks : List ℕ) (h : ℕ) (rest : List ℕ) → IsStrictlySortedBy nat_cmp (ks ++ h ∷ rest)
    → AllByRecursion (λ j. j < h) ks
below_next [] h rest s = tt
below_next (k ∷ ks) h rest s =
    let before : nat_cmp k h ≡ Less = one_of_all (λ j. nat_cmp k j ≡ Less) ks h rest (sorted_head nat_cmp _ _ s) in
    (grind (arith, nat_tests, before), below_next ks h rest (sorted_tail nat_cmp _ _ s))

-- ---- events that come later

-- the holdings whose handles no later event retracts
abbrev pub unretracted : List TurnEvent → List Holding → List Holding
unretracted later holdings = filter (λ x. not (list_any (retracted_by x.handle) later)) holdings

kept_one : (e : TurnEvent) (w : WireEvent) (es ds : List TurnEvent)
    → all_kept (es ++ ds) ≡ unretracted ds (all_kept es) ++ all_kept ds
    → kept e w (es ++ ds) (all_kept (es ++ ds)) ≡ unretracted ds (kept e w es (all_kept es)) ++ all_kept ds
kept_one e (wire.Assert v h) es ds rest =
    ap (λ b. cond {A = List Holding} b (all_kept (es ++ ds)) (x ∷ all_kept (es ++ ds)))
    (list_any-append (retracted_by h) es ds)
    ∙ by (list_any (retracted_by h) es)
  where
    x : Holding
    x = record { oid = e.oid; handle = h; value = v }

    later : (c : Bool) → cond {A = List Holding} c (all_kept (es ++ ds)) (x ∷ all_kept (es ++ ds))
        ≡ cond (not c) (x ∷ unretracted ds (all_kept es)) (unretracted ds (all_kept es)) ++ all_kept ds
    later true = rest
    later false = ap (λ hs. x ∷ hs) rest

    by : (b : Bool)
        → cond {A = List Holding} (b || list_any (retracted_by h) ds) (all_kept (es ++ ds)) (x ∷ all_kept (es ++ ds))
        ≡ unretracted ds (cond {A = List Holding} b (all_kept es) (x ∷ all_kept es)) ++ all_kept ds
    by true = rest
    by false = later (list_any (retracted_by h) ds)
kept_one e (wire.Retract h) es ds rest = rest
kept_one e (wire.Message v) es ds rest = rest
kept_one e (wire.Sync peer) es ds rest = rest

kept_more : (es ds : List TurnEvent) → all_kept (es ++ ds) ≡ unretracted ds (all_kept es) ++ all_kept ds
kept_more [] ds = refl
kept_more (e ∷ es) ds = kept_one e e.event es ds (kept_more es ds)

lasting_held : (exports : ExportTable) (k : ℕ) (ds : List TurnEvent) (got : List (ℕ × Held))
    → unretracted ds (map (holding_of exports k) got) ≡ map (holding_of exports k) (lasting ds got)
lasting_held exports k ds [] = refl
lasting_held exports k ds (e ∷ es) = by (list_any (retracted_by e.0) ds) (lasting_held exports k ds es)
  where
    x : Holding
    x = holding_of exports k e

    by : (b : Bool)
        → unretracted ds (map (holding_of exports k) es) ≡ map (holding_of exports k) (lasting ds es)
        → cond (not b) (x ∷ unretracted ds (map (holding_of exports k) es))
        (unretracted ds (map (holding_of exports k) es))
        ≡ map (holding_of exports k) (cond (not b) (e ∷ lasting ds es) (lasting ds es))
    by true rest = rest
    by false rest = ap (λ hs. x ∷ hs) rest

-- what was got before, where it lasts, and then what the events leave
kept_took : (exports : ExportTable) (k : ℕ) (es : List Event) (got : List (ℕ × Held))
    → IsStrictlySortedBy nat_cmp (keys_of got ++ made_in es)
    → map (holding_of exports k) (took_all at_object es got)
    ≡ map (holding_of exports k) (lasting (map (sent_event exports k) es) got)
    ++ all_kept (map (sent_event exports k) es)
kept_took exports k [] got s = sym (append-nil _ ∙ ap (map (holding_of exports k)) (lasting-none got))
kept_took exports k (Assert h entity v ∷ es) got s =
    let later : List TurnEvent = map (sent_event exports k) es in
    kept_took exports k es (with_entry h (at_object entity v) got)
    (log_took at_object (Assert h entity v) got (made_in es) s)
    ∙ ap (λ gs. map (holding_of exports k) (lasting later gs) ++ all_kept later)
    (with_entry-above h (at_object entity v) got (below_next (keys_of got) h (made_in es) s))
    ∙ ap (λ gs. map (holding_of exports k) gs ++ all_kept later)
    (filter-append (λ e. not (list_any (retracted_by e.0) later)) got ((h, at_object entity v) ∷ []))
    ∙ last (list_any (retracted_by h) later) (lasting later got) (all_kept later)
  where
    last : (b : Bool) (gs : List (ℕ × Held)) (ks : List Holding)
        → map (holding_of exports k) (gs ++ cond (not b) ((h, at_object entity v) ∷ []) []) ++ ks
        ≡ map (holding_of exports k) gs ++ cond b ks (holding_of exports k (h, at_object entity v) ∷ ks)
    last true gs ks = ap (λ es. map (holding_of exports k) es ++ ks) (append-nil gs)
    last false gs ks =
        ap (λ hs. hs ++ ks) (map-append (holding_of exports k) gs ((h, at_object entity v) ∷ []))
        ∙ append_assoc (map (holding_of exports k) gs) (holding_of exports k (h, at_object entity v) ∷ []) ks
kept_took exports k (Retract h entity ∷ es) got s =
    kept_took exports k es (without_entry h got) (log_took at_object (Retract h entity) got (made_in es) s)
    ∙ ap (λ gs. map (holding_of exports k) gs ++ all_kept (map (sent_event exports k) es))
    (sym (lasting-without h (map (sent_event exports k) es) got (ascend_before (keys_of got) (made_in es) s)))
kept_took exports k (Message entity v ∷ es) got s = kept_took exports k es got s
kept_took exports k (Sync entity peer ∷ es) got s = kept_took exports k es got s

-- what is held by what was sent, and then by the events of a batch, is what was got and what is taken of the batch
pub kept_after : (exports : ExportTable) (k : ℕ) (sent : List TurnEvent) (es : List Event) (got : List (ℕ × Held))
    → IsStrictlySortedBy nat_cmp (keys_of got ++ made_in es) → all_kept sent ≡ map (holding_of exports k) got
    → all_kept (sent ++ map (sent_event exports k) es) ≡ map (holding_of exports k) (took_all at_object es got)
kept_after exports k sent es got s is =
    let ds : List TurnEvent = map (sent_event exports k) es in
    kept_more sent ds
    ∙ ap (λ hs. unretracted ds hs ++ all_kept ds) is
    ∙ ap (λ hs. hs ++ all_kept ds) (lasting_held exports k ds got)
    ∙ sym (kept_took exports k es got s)

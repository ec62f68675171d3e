-- What one event that is heard without a fault does to what stands, and to the lines.
use Rattle.std.proofs.Common.{◌≡◌, ℕ, List, [], ◌∷◌, ◌++◌, Bool, true, false, Option, None, Some, Result, Ok, Err, refl, sym, ap}
use Rattle.std.proofs.Common.{◌∙◌, arith}
use Rattle.std.specs.Prelude.{◌==◌, is_some, if◌then◌else◌}
use Rattle.std.specs.Ordering.{nat_cmp}
use Rattle.std.specs.Map.{lookup, remove_entry}
use Rattle.std.specs.BTreeMap.{insert_entry, is_at}
use Rattle.std.proofs.lemmas.List.{append-nil}
use Rattle.std.proofs.lemmas.Bool.Decides.{nat_tests}
use Rattle.pv_value.specs.Plain.{Plain}
use Rattle.rl_packet.specs.declared.packets.Event.{Event}
use Rattle.rl_packet.specs.declared.packets.TurnEvent.{TurnEvent}
use Rattle.rl_packet.specs.declared.packets.Event.TheVariants.{Assert, Retract, Message, Sync}
use Rattle.dq_core.specs.declared.lines.Line.{Line}
use Rattle.dq_core.specs.declared.lines.Line.TheVariants.{Added, Removed, Said}
use Rattle.dq_core.specs.declared.client.Standing.{Standing}
use Rattle.dq_core.specs.declared.client.QueryFault.{QueryFault}
use Rattle.dq_core.specs.declared.client.QueryFault.TheVariants.{BadServer}
use Rattle.dq_core.specs.declared.hearing.Hearing.{Hearing}
use Rattle.dq_core.specs.Clients.{under}
use Rattle.dq_core.specs.Words.{own_oid, accepted_oid, is_rejected}
use Rattle.dq_core.specs.Hearing.{answered_by, answered, asserted, retracted_from, retracted, synced, happened, is_ours}
use Rattle.dq_core.specs.Hearing.{event_heard, with_line, with_client}
use Rattle.dq_core.specs.Clients.{with_standing}

abbrev pub Entries : Type 0
Entries = List (ℕ × Standing)

-- what an event at an object does to what stands
abbrev pub Moves : ℕ → Event → Entries → Entries → Type 0
Moves oid (Assert v h) old new =
    (lookup (is_at (nat_cmp h)) old ≡ None) × (new ≡ insert_entry nat_cmp old h (record { oid = oid; value = v }))
Moves oid (Retract h) old new =
    (s : Standing) × (lookup (is_at (nat_cmp h)) old ≡ Some s) × ((s.oid == oid) ≡ true)
    × (new ≡ remove_entry (is_at (nat_cmp h)) old)
Moves oid (Message v) old new = new ≡ old
Moves oid (Sync peer) old new = new ≡ old

abbrev pub removed_line : Option Standing → List Line
removed_line (Some s) = Removed s.value ∷ []
removed_line None = []

-- the line that it makes, at object 2
abbrev pub line_for : Event → Entries → List Line
line_for (Assert v h) old = Added v ∷ []
line_for (Retract h) old = removed_line (lookup (is_at (nat_cmp h)) old)
line_for (Message v) old = Said v ∷ []
line_for (Sync peer) old = []

abbrev pub lines_at : ℕ → List Line → List Line
lines_at oid ls = if oid == 2 then ls else []

pub record IsStep (oid : ℕ) (e : Event) (x y : Hearing) : Type 0 where
  pub moves : Moves oid e x.client.standing y.client.standing
  pub lines : y.lines ≡ x.lines ++ lines_at oid (line_for e x.client.standing)

-- ---- answers without a fault

ok_same : {X : Type 0} (x y : X) → (let r : Result X QueryFault = Ok x in r) ≡ Ok y → x ≡ y
ok_same x y is = cc

then_ok : (b : Bool) (r : Result Hearing QueryFault) (f : QueryFault) (y : Hearing)
    → (if b then r else Err f) ≡ Ok y → (b ≡ true) × (r ≡ Ok y)
then_ok true r f y is = (refl, is)
then_ok false r f y is = absurd cc

else_ok : (b : Bool) (r : Result Hearing QueryFault) (f : QueryFault) (y : Hearing)
    → (if b then Err f else r) ≡ Ok y → (b ≡ false) × (r ≡ Ok y)
else_ok true r f y is = absurd cc
else_ok false r f y is = (refl, is)

is_none : {X : Type 0} (o : Option X) → is_some o ≡ false → o ≡ None
is_none None is = refl
is_none (Some x) is = absurd cc

-- ---- an assertion

answered_keeps_by : (b : Bool) (o : Option ℕ) (rejected : Bool) (x y : Hearing)
    → (if b then Ok x else answered_by o rejected x) ≡ Ok y
    → (y.client.standing ≡ x.client.standing) × (y.lines ≡ x.lines)
answered_keeps_by true o rejected x y is =
    let e : x ≡ y = ok_same x y is in
    (sym (ap (λ (z : Hearing). z.client.standing) e), sym (ap (λ (z : Hearing). z.lines) e))
answered_keeps_by false (Some n) rejected x y is =
    let e = ok_same _ y is in
    (sym (ap (λ (z : Hearing). z.client.standing) e), sym (ap (λ (z : Hearing). z.lines) e))
answered_keeps_by false None true x y is = absurd cc
answered_keeps_by false None false x y is = absurd cc

answered_keeps : (v : Plain) (x y : Hearing) → answered v x ≡ Ok y
    → (y.client.standing ≡ x.client.standing) × (y.lines ≡ x.lines)
answered_keeps v x y is = answered_keeps_by x.client.answered (accepted_oid v) (is_rejected v) x y is

lines_snoc : (b : Bool) (ls : List Line) (l : Line) → (if b then ls ++ l ∷ [] else ls) ≡ ls ++ (if b then l ∷ [] else [])
lines_snoc true ls l = refl
lines_snoc false ls l = sym (append-nil ls)

one_not_two : (oid : ℕ) → (oid == 1) ≡ true → (oid == 2) ≡ false
one_not_two oid is = grind (arith, nat_tests)

no_line : (b : Bool) (ls more : List Line) → b ≡ false → ls ≡ ls ++ (if b then more else [])
no_line true ls more is = absurd cc
no_line false ls more is = sym (append-nil ls)

asserted_by : (b : Bool) (oid : ℕ) (v : Plain) (h : ℕ) (x y : Hearing) → (oid == 1) ≡ b
    → (let z = with_client (with_standing h oid v x.client) x in
    if b then answered v z else Ok (with_line oid (Added v) z)) ≡ Ok y
    → (y.client.standing ≡ insert_entry nat_cmp x.client.standing h (record { oid = oid; value = v }))
    × (y.lines ≡ x.lines ++ lines_at oid (Added v ∷ []))
asserted_by true oid v h x y one is =
    let k = answered_keeps v (with_client (with_standing h oid v x.client) x) y is in
    (k.0, k.1 ∙ no_line (oid == 2) x.lines (Added v ∷ []) (one_not_two oid one))
asserted_by false oid v h x y one is =
    let e = ok_same (with_line oid (Added v) (with_client (with_standing h oid v x.client) x)) y is in (
      sym (ap (λ (z : Hearing). z.client.standing) e),
      sym (ap (λ (z : Hearing). z.lines) e) ∙ lines_snoc (oid == 2) x.lines (Added v),
    )

assert_step : (oid : ℕ) (v : Plain) (h : ℕ) (x y : Hearing) → asserted oid v h x ≡ Ok y
    → IsStep oid (Assert v h) x y
assert_step oid v h x y is =
    let a = else_ok (is_some (under h x.client)) _ BadServer y is in
    let b = asserted_by (oid == 1) oid v h x y refl a.1 in
    record { moves = (is_none (under h x.client) a.0, b.0); lines = b.1 }

-- ---- a retraction

retracted_by_one : (o : Option Standing) (oid h : ℕ) (x y : Hearing) → retracted_from oid h o x ≡ Ok y
    → (s : Standing) × (o ≡ Some s) × ((s.oid == oid) ≡ true)
    × (y.client.standing ≡ remove_entry (is_at (nat_cmp h)) x.client.standing)
    × (y.lines ≡ x.lines ++ lines_at oid (Removed s.value ∷ []))
retracted_by_one None oid h x y is = absurd cc
retracted_by_one (Some s) oid h x y is =
    let a = then_ok (s.oid == oid) _ BadServer y is in
    let e = ok_same _ y a.1 in (
      s,
      refl,
      a.0,
      sym (ap (λ (z : Hearing). z.client.standing) e),
      sym (ap (λ (z : Hearing). z.lines) e) ∙ lines_snoc (oid == 2) x.lines (Removed s.value),
    )

retract_step : (oid h : ℕ) (x y : Hearing) → retracted oid h x ≡ Ok y → IsStep oid (Retract h) x y
retract_step oid h x y is =
    let a = retracted_by_one (under h x.client) oid h x y is in
    record {
      moves = (a.0, a.1, a.2, a.3);
      lines = a.4 ∙ ap (λ o. x.lines ++ lines_at oid (removed_line o)) (sym a.1);
    }

-- ---- a message, a sync

message_step : (oid : ℕ) (v : Plain) (x y : Hearing)
    → (let r : Result Hearing QueryFault = Ok (with_line oid (Said v) x) in r) ≡ Ok y
    → IsStep oid (Message v) x y
message_step oid v x y is =
    let e = ok_same (with_line oid (Said v) x) y is in
    record {
      moves = sym (ap (λ (z : Hearing). z.client.standing) e);
      lines = sym (ap (λ (z : Hearing). z.lines) e) ∙ lines_snoc (oid == 2) x.lines (Said v);
    }

synced_keeps : (o : Option ℕ) (x : Hearing) → ((synced o x).client ≡ x.client) × ((synced o x).lines ≡ x.lines)
synced_keeps (Some n) x = (refl, refl)
synced_keeps None x = (refl, refl)

lines_none : (b : Bool) (ls : List Line) → ls ≡ ls ++ (if b then [] else [])
lines_none true ls = sym (append-nil ls)
lines_none false ls = sym (append-nil ls)

sync_step : (oid : ℕ) (peer : Plain) (x y : Hearing)
    → (let r : Result Hearing QueryFault = Ok (synced (own_oid peer) x) in r) ≡ Ok y → IsStep oid (Sync peer) x y
sync_step oid peer x y is =
    let e = ok_same (synced (own_oid peer) x) y is in
    let k = synced_keeps (own_oid peer) x in
    record {
      moves = sym (ap (λ (z : Hearing). z.client.standing) e) ∙ ap (λ c. c.standing) k.0;
      lines = sym (ap (λ (z : Hearing). z.lines) e) ∙ k.1 ∙ lines_none (oid == 2) x.lines;
    }

happened_step : (oid : ℕ) (e : Event) (x y : Hearing) → happened oid e x ≡ Ok y → IsStep oid e x y
happened_step oid (Assert v h) x y is = assert_step oid v h x y is
happened_step oid (Retract h) x y is = retract_step oid h x y is
happened_step oid (Message v) x y is = message_step oid v x y is
happened_step oid (Sync peer) x y is = sync_step oid peer x y is

pub step : (e : TurnEvent) (x y : Hearing) → event_heard e x ≡ Ok y → IsStep e.oid e.event x y
step e x y is = happened_step e.oid e.event x y (then_ok (is_ours e.oid) _ BadServer y is).1

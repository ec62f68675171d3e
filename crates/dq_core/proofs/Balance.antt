-- What lines add is what they remove and what stands more than before.
use Rattle.std.proofs.Common.{◌≡◌, ℕ, ◌+◌, List, [], ◌∷◌, ◌++◌, Bool, true, false, Option, Some, Result, Ok, Err, refl, sym, ap}
use Rattle.std.proofs.Common.{◌∙◌, subst, arith}
use Rattle.std.specs.Prelude.{◌==◌, ◌&&◌, if◌then◌else◌}
use Rattle.std.specs.List.{flat_map}
use Rattle.std.proofs.lemmas.Bool.Decides.{nat_tests}
use Rattle.pv_read.specs.Results.{◌>>=◌}
use Rattle.pv_value.specs.Plain.{Plain}
use Rattle.rl_packet.specs.declared.packets.Event.{Event}
use Rattle.rl_packet.specs.declared.packets.TurnEvent.{TurnEvent}
use Rattle.rl_packet.specs.declared.packets.Packet.{Packet}
use Rattle.rl_packet.specs.declared.packets.Event.TheVariants.{Assert, Retract, Message, Sync}
use Rattle.rl_packet.specs.declared.packets.Packet.TheVariants.{Turn, Error, Nop, Extension}
use Rattle.rl_packet.specs.Holding.{all_kept, held, events_in}
use Rattle.dq_core.specs.declared.lines.Line.{Line}
use Rattle.dq_core.specs.declared.lines.Line.TheVariants.{Added, Removed, Said}
use Rattle.dq_core.specs.declared.client.Standing.{Standing}
use Rattle.dq_core.specs.declared.client.Reaction.{Reaction}
use Rattle.dq_core.specs.declared.client.QueryFault.{QueryFault}
use Rattle.dq_core.specs.declared.client.QueryFault.TheVariants.{BadServer}
use Rattle.dq_core.specs.declared.hearing.Hearing.{Hearing}
use Rattle.dq_core.specs.States.{ClientState}
use Rattle.dq_core.specs.Clients.{begun}
use Rattle.dq_core.specs.Hearing.{begins, event_heard, events_heard, is_older, packet_heard}
use Rattle.dq_core.specs.Reactions.{finished, heard, told, and_then, lines_in}
use Rattle.dq_core.specs.Laws.{adds, removes, stands_at, AddedLinesAreHeld, PacketsGoOn}
use Rattle.dq_core.specs.Lemmas.Goes.{told-append}
use Rattle.dq_core.proofs.Counting.{one_if, number, is_number, number-append, number-insert, taken_out, IsTakenOut}
use Rattle.dq_core.proofs.Moving.{Entries, Moves, line_for, lines_at, removed_line, IsStep, step}
use Rattle.dq_core.proofs.Holding.{AllMove, moves-append, passes, kept_number, all_left, order_number}

-- ---- one event

same_oid : (m n : ℕ) → (m == n) ≡ true → m ≡ n
same_oid m n is = grind (arith, nat_tests)

module _ (test : Plain → Bool) where
  -- between two lists of lines, and between what stands before and after them
  abbrev pub IsBalanced : List Line → List Line → Entries → Entries → Type 0
  IsBalanced before now old new =
      (number (adds test) now + number (removes test) before) + number (passes test) old
      ≡ (number (adds test) before + number (removes test) now) + number (passes test) new

  -- the lines that come
  abbrev IsBalancedBy : List Line → Entries → Entries → Type 0
  IsBalancedBy ls old new =
      number (adds test) ls + number (passes test) old ≡ number (removes test) ls + number (passes test) new

  added_lines : (b : Bool) (v : Plain) → number (adds test) (if b then Added v ∷ [] else []) ≡ one_if (b && test v)
  added_lines true v = omega arith
  added_lines false v = refl

  added_remove : (b : Bool) (v : Plain) → number (removes test) (if b then Added v ∷ [] else []) ≡ 0
  added_remove true v = refl
  added_remove false v = refl

  removed_lines : (b : Bool) (v : Plain) → number (removes test) (if b then Removed v ∷ [] else []) ≡ one_if (b && test v)
  removed_lines true v = omega arith
  removed_lines false v = refl

  removed_add : (b : Bool) (v : Plain) → number (adds test) (if b then Removed v ∷ [] else []) ≡ 0
  removed_add true v = refl
  removed_add false v = refl

  said_add : (b : Bool) (v : Plain) → number (adds test) (if b then Said v ∷ [] else []) ≡ 0
  said_add true v = refl
  said_add false v = refl

  said_remove : (b : Bool) (v : Plain) → number (removes test) (if b then Said v ∷ [] else []) ≡ 0
  said_remove true v = refl
  said_remove false v = refl

  none_add : (b : Bool) → number (adds test) (if b then [] else []) ≡ 0
  none_add true = refl
  none_add false = refl

  none_remove : (b : Bool) → number (removes test) (if b then [] else []) ≡ 0
  none_remove true = refl
  none_remove false = refl

  removed_balance : (oid h : ℕ) (s : Standing) (o : Option Standing) (old new : Entries) → o ≡ Some s
      → (s.oid == oid) ≡ true → IsTakenOut h s old new → IsBalancedBy (lines_at oid (removed_line o)) old new
  removed_balance oid h s o old new is at t =
      let a : number (adds test) (lines_at oid (removed_line o)) ≡ 0 =
      ap (λ w. number (adds test) (lines_at oid (removed_line w))) is ∙ removed_add (oid == 2) s.value in
      let r : number (removes test) (lines_at oid (removed_line o)) ≡ one_if ((oid == 2) && test s.value) =
      ap (λ w. number (removes test) (lines_at oid (removed_line w))) is ∙ removed_lines (oid == 2) s.value in
      let c : number (passes test) old ≡ one_if ((s.oid == 2) && test s.value) + number (passes test) new =
      t.counted (passes test) in
      let e : one_if ((s.oid == 2) && test s.value) ≡ one_if ((oid == 2) && test s.value) =
      ap (λ (m : ℕ). one_if ((m == 2) && test s.value)) (same_oid s.oid oid at) in
      omega arith

  moved_balance : (oid : ℕ) (e : Event) (old new : Entries) → Moves oid e old new
      → IsBalancedBy (lines_at oid (line_for e old)) old new
  moved_balance oid (Assert v h) old new (none, made) =
      let n : number (passes test) new ≡ one_if ((oid == 2) && test v) + number (passes test) old =
      ap (number (passes test)) made
      ∙ number-insert (passes test) old h (record { oid = oid; value = v }) none in
      omega (arith, added_lines (oid == 2) v, added_remove (oid == 2) v)
  moved_balance oid (Retract h) old new (s, found, at, made) =
      subst (λ es. IsBalancedBy (lines_at oid (line_for (Retract h) old)) old es) (sym made)
      (removed_balance oid h s _ old _ found at (taken_out h s old found))
  moved_balance oid (Message v) old new made =
      let n : number (passes test) new ≡ number (passes test) old = ap (number (passes test)) made in
      omega (arith, said_add (oid == 2) v, said_remove (oid == 2) v)
  moved_balance oid (Sync peer) old new made =
      let n : number (passes test) new ≡ number (passes test) old = ap (number (passes test)) made in
      omega (arith, none_add (oid == 2), none_remove (oid == 2))

  pub step_balance : (oid : ℕ) (e : Event) (x y : Hearing) → IsStep oid e x y
      → IsBalanced x.lines y.lines x.client.standing y.client.standing
  step_balance oid e x y is =
      let ls = lines_at oid (line_for e x.client.standing) in
      let a : number (adds test) y.lines ≡ number (adds test) x.lines + number (adds test) ls =
      ap (number (adds test)) is.lines ∙ number-append (adds test) x.lines ls in
      let r : number (removes test) y.lines ≡ number (removes test) x.lines + number (removes test) ls =
      ap (number (removes test)) is.lines ∙ number-append (removes test) x.lines ls in
      let b : IsBalancedBy ls x.client.standing y.client.standing =
      moved_balance oid e x.client.standing y.client.standing is.moves in
      omega arith

-- ---- the events of a packet

pub record AreHeardSo (es : List TurnEvent) (x y : Hearing) : Type 0 where
  pub moves : AllMove es x.client.standing y.client.standing
  pub balance : (test : Plain → Bool) → IsBalanced test x.lines y.lines x.client.standing y.client.standing

same_hearing : (x y : Hearing) → (let r : Result Hearing QueryFault = Ok x in r) ≡ Ok y → y ≡ x
same_hearing x y is = sym cc

one_so : (r : Result Hearing QueryFault) (e : TurnEvent) (es : List TurnEvent) (x y : Hearing) → event_heard e x ≡ r
    → ((z : Hearing) → events_heard es z ≡ Ok y → AreHeardSo es z y) → (r >>= events_heard es) ≡ Ok y
    → AreHeardSo (e ∷ es) x y
one_so (Ok z) e es x y so later is =
    let s = step e x z so in
    let t = later z is in
    record {
      moves = (z.client.standing, s.moves, t.moves);
      balance = λ test.
          let b : IsBalanced test x.lines z.lines x.client.standing z.client.standing =
          step_balance test e.oid e.event x z s in
          let d : IsBalanced test z.lines y.lines z.client.standing y.client.standing = t.balance test in
          omega arith;
    }
one_so (Err f) e es x y so later is = absurd cc

events_so : (es : List TurnEvent) (x y : Hearing) → events_heard es x ≡ Ok y → AreHeardSo es x y
events_so [] x y is =
    let e : y ≡ x = same_hearing x y is in
    subst (AreHeardSo [] x) (sym e) (record { moves = refl; balance = λ test. omega arith })
events_so (e ∷ es) x y is = one_so (event_heard e x) e es x y refl (λ z. events_so es z y) is

older_ok : (b : Bool) (r : Result Hearing QueryFault) (y : Hearing) → (if b then Err BadServer else r) ≡ Ok y → r ≡ Ok y
older_ok true r y is = absurd cc
older_ok false r y is = is

packet_so : (p : Packet) (x y : Hearing) → packet_heard p x ≡ Ok y → AreHeardSo (events_in p) x y
packet_so (Turn t) x y is = events_so t.events x y (older_ok (is_older t.dialect) (events_heard t.events x) y is)
packet_so (Error m d) x y is = absurd cc
packet_so Nop x y is = events_so [] x y is
packet_so (Extension v) x y is = events_so [] x y is

-- ---- packets

pub record IsHeardSo (p : Packet) (c d : ClientState) (ls : List Line) : Type 0 where
  pub moves : AllMove (events_in p) c.standing d.standing
  pub balance : (test : Plain → Bool) → number (adds test) ls + number (passes test) c.standing
      ≡ number (removes test) ls + number (passes test) d.standing

heard_so : (p : Packet) (c : ClientState) (x : ClientState × Reaction) → heard p c ≡ Ok x → IsHeardSo p c x.0 x.1.lines
heard_so p c x is = by (packet_heard p (begins c)) refl is
  where
    by : (r : Result Hearing QueryFault) → packet_heard p (begins c) ≡ r
        → (let s : Result (ClientState × Reaction) QueryFault = r >>= λ y. Ok (finished y) in s) ≡ Ok x
        → IsHeardSo p c x.0 x.1.lines
    by (Ok y) so is =
        let h = packet_so p (begins c) y so in
        let same : finished y ≡ x = cc in
        subst (λ (z : ClientState × Reaction). IsHeardSo p c z.0 z.1.lines) same
        (record {
          moves = h.moves;
          balance = λ test.
              let b : IsBalanced test [] y.lines c.standing y.client.standing = h.balance test in omega arith;
        })
    by (Err f) so is = absurd cc

record AllHeardSo (ps : List Packet) (c d : ClientState) (ls : List Line) : Type 0 where
  moves : AllMove (flat_map events_in ps) c.standing d.standing
  balance : (test : Plain → Bool) → number (adds test) ls + number (passes test) c.standing
      ≡ number (removes test) ls + number (passes test) d.standing

one_told_so : (r : Result (ClientState × Reaction) QueryFault) (p : Packet) (ps : List Packet) (c d : ClientState)
    → heard p c ≡ r → ((z : ClientState) → (told ps z).ends ≡ Ok d → AllHeardSo ps z d (lines_in (told ps z).reactions))
    → (and_then r (told ps)).ends ≡ Ok d → AllHeardSo (p ∷ ps) c d (lines_in (and_then r (told ps)).reactions)
one_told_so (Ok x) p ps c d so later is =
    let h = heard_so p c x so in
    let t = later x.0 is in
    let ls = lines_in (told ps x.0).reactions in
    record {
      moves = moves-append (events_in p) (flat_map events_in ps) c.standing x.0.standing d.standing h.moves t.moves;
      balance = λ test.
          let a : number (adds test) (x.1.lines ++ ls) ≡ number (adds test) x.1.lines + number (adds test) ls =
          number-append (adds test) x.1.lines ls in
          let r : number (removes test) (x.1.lines ++ ls)
          ≡ number (removes test) x.1.lines + number (removes test) ls = number-append (removes test) x.1.lines ls in
          let b : number (adds test) x.1.lines + number (passes test) c.standing
          ≡ number (removes test) x.1.lines + number (passes test) x.0.standing = h.balance test in
          let e : number (adds test) ls + number (passes test) x.0.standing
          ≡ number (removes test) ls + number (passes test) d.standing = t.balance test in
          omega arith;
    }
one_told_so (Err f) p ps c d so later is = absurd cc

told_so : (ps : List Packet) (c d : ClientState) → (told ps c).ends ≡ Ok d
    → AllHeardSo ps c d (lines_in (told ps c).reactions)
told_so [] c d is =
    let e : c ≡ d = cc in
    subst (λ z. AllHeardSo [] c z []) e (record { moves = refl; balance = λ test. refl })
told_so (p ∷ ps) c d is = one_told_so (heard p c) p ps c d refl (λ z. told_so ps z d) is

-- ---- laws

pub added_are_held : AddedLinesAreHeld
added_are_held pattern ps c is test =
    let t = told_so ps (begun pattern) c is in
    let ls = lines_in (told ps (begun pattern)).reactions in
    let b : number (adds test) ls + 0 ≡ number (removes test) ls + number (passes test) c.standing = t.balance test in
    let k : number (passes test) c.standing ≡ kept_number test (flat_map events_in ps) + 0 =
    all_left test (flat_map events_in ps) [] c.standing (λ key. omega arith) t.moves in
    let o : number (stands_at 2 test) (held ps) ≡ kept_number test (flat_map events_in ps) =
    order_number test (all_kept (flat_map events_in ps)) in
    let a = is_number (adds test) ls in
    let r = is_number (removes test) ls in
    let h = is_number (stands_at 2 test) (held ps) in
    omega arith

pub go_on : PacketsGoOn
go_on ps qs c d is = told-append ps qs c d is

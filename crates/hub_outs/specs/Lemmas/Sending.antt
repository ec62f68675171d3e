-- What connections were sent: one packet more, of the step that sent it.
use Rattle.std.proofs.Common.{◌≡◌, ℕ, ◌≤◌, ◌-◌, Bool, true, false, cond, List, [], ◌∷◌, ◌++◌, refl, sym, ap, ◌∙◌}
use Rattle.std.proofs.Common.{arith, append-nil, Option, Some, ◌==◌, unwrap_or, nat_le, if◌then◌else◌}
use Rattle.std.proofs.lemmas.Bool.Decides.{nat_tests}
use Rattle.std.specs.BTreeMap.{is_at, insert_entry}
use Rattle.std.specs.Map.{lookup}
use Rattle.std.specs.Ordering.{nat_cmp}
use Rattle.ac_world.specs.Worlds.{actor_of}
use Rattle.rl_packet.specs.declared.packets.Packet.{Packet}
use Rattle.hub_machine.specs.Replays.{packet_in, sent_by}
use Rattle.hub_machine.specs.declared.steps.Reply.{Reply}
use Rattle.hub_machine.specs.declared.steps.Reply.TheVariants.{Sent}
use Rattle.hub_machine.specs.declared.steps.Step.{Step}
use Rattle.hub_machine.specs.declared.steps.Step.TheVariants.{Bind, Watch, Arrive, Packet as Came, Bad, Close}
use Rattle.hub_machine.specs.declared.steps.Step.TheVariants.{Turn, Work, Stop}
use Rattle.hub_outs.specs.Outs.{OutsState, sent_of, with_sent, kept, turning}

pub lookup-insert_entry : {X : Type 0} (q k : ℕ) (v : X) (es : List (ℕ × X))
    → lookup (is_at (nat_cmp q)) (insert_entry nat_cmp es k v)
    ≡ cond (k == q) (Some v) (lookup (is_at (nat_cmp q)) es)
lookup-insert_entry q k v [] = grind (arith, nat_tests)
lookup-insert_entry q k v (e ∷ es) = grind (arith, nat_tests, lookup-insert_entry q k v es)

-- a choice between a list with one item more and the list
more_where : {X : Type 0} (b : Bool) (xs ys : List X) (x : X) (o : Option (List X)) → (b ≡ true → xs ≡ ys)
    → unwrap_or o [] ≡ ys → unwrap_or (cond b (Some (xs ++ x ∷ [])) o) [] ≡ ys ++ cond b (x ∷ []) []
more_where true xs ys x o same is = ap (λ l. l ++ x ∷ []) (same refl)
more_where false xs ys x o same is = is ∙ sym (append-nil ys)

packet_sent : (a k : ℕ) (p : Packet) (outs : OutsState) → 16 ≤ a
    → sent_of k (with_sent (a - 16) p outs) ≡ sent_of k outs ++ cond (a == actor_of k) (p ∷ []) []
packet_sent a k p outs l =
    let j = a - 16 in
    let here : (a == actor_of k) ≡ (j == k) = grind (arith, nat_tests) in
    let same : (j == k) ≡ true → sent_of j outs ≡ sent_of k outs =
    λ e. ap (λ i. sent_of i outs) (let i : j ≡ k = grind (arith, nat_tests) in i) in
    ap (λ o. unwrap_or o []) (lookup-insert_entry k j (sent_of j outs ++ p ∷ []) outs)
    ∙ more_where (j == k) (sent_of j outs) (sent_of k outs) p (lookup (is_at (nat_cmp k)) outs) same refl
    ∙ ap (λ b. sent_of k outs ++ cond b (p ∷ []) []) (sym here)

-- of an actor's turn
turn_sent : (b : Bool) (a k : ℕ) (p : Packet) (outs : OutsState) → nat_le 16 a ≡ b
    → sent_of k (if b then with_sent (a - 16) p outs else outs)
    ≡ sent_of k outs ++ cond (a == actor_of k) (p ∷ []) []
turn_sent true a k p outs is = packet_sent a k p outs (let l : 16 ≤ a = grind (arith, nat_tests) in l)
turn_sent false a k p outs is =
    let other : (a == actor_of k) ≡ false = grind (arith, nat_tests) in
    sym (append-nil (sent_of k outs)) ∙ ap (λ b. sent_of k outs ++ cond b (p ∷ []) []) (sym other)

-- of any step
pub kept_sent : (e : Step) (k : ℕ) (p : Packet) (outs : OutsState)
    → sent_of k (kept (turning e) p outs) ≡ sent_of k outs ++ sent_by k e (Sent p)
kept_sent (Bind b) k p outs = sym (append-nil (sent_of k outs))
kept_sent (Watch x) k p outs = sym (append-nil (sent_of k outs))
kept_sent (Arrive space) k p outs = sym (append-nil (sent_of k outs))
kept_sent (Came c t) k p outs = sym (append-nil (sent_of k outs))
kept_sent (Bad c f) k p outs = sym (append-nil (sent_of k outs))
kept_sent (Close c) k p outs = sym (append-nil (sent_of k outs))
kept_sent (Turn a) k p outs = turn_sent (nat_le 16 a) a k p outs refl
kept_sent Work k p outs = sym (append-nil (sent_of k outs))
kept_sent Stop k p outs = sym (append-nil (sent_of k outs))

either : {X : Type 0} (b : Bool) (xs : List X) → cond b xs xs ≡ xs
either true xs = refl
either false xs = refl

-- where the reply is no packet
pub none_sent : (e : Step) (k : ℕ) (reply : Reply) → packet_in reply ≡ [] → sent_by k e reply ≡ []
none_sent (Bind b) k reply is = refl
none_sent (Watch x) k reply is = refl
none_sent (Arrive space) k reply is = refl
none_sent (Came c t) k reply is = refl
none_sent (Bad c f) k reply is = refl
none_sent (Close c) k reply is = refl
none_sent (Turn a) k reply is = ap (λ ps. cond (a == actor_of k) ps []) is ∙ either (a == actor_of k) []
none_sent Work k reply is = refl
none_sent Stop k reply is = refl

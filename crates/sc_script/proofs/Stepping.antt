-- A step of a run, by its reply: the run goes on from what is kept behind it, or sends too much, or binds what is barred.
use Rattle.std.proofs.Common.{◌≡◌, ℕ, ◌+◌, ◌≤◌, ◌<◌, true, false, [], ◌++◌, refl, sym, ap, ◌∙◌, subst}
use Rattle.std.proofs.Common.{append-nil, arith, nat_lt, length, if◌then◌else◌, Bool, Option, Result, IfOk, IfErr}
use Rattle.std.proofs.Common.{inl, inr}
use Rattle.std.proofs.lemmas.Result.{IfOk-weaker, IfErr-weaker}
use Rattle.std.proofs.lemmas.Bool.Decides.{nat_tests}
use Rattle.pv_binary.specs.Written.{written}
use Rattle.rl_packet.specs.Packets.{packet_value}
use Rattle.rl_packet.specs.declared.packets.Packet.{Packet}
use Rattle.gk_sturdy.specs.declared.bound.Binding.{Binding}
use Rattle.sr_caveat.specs.Patterns.{caveats}
use Rattle.lc_guard.specs.Knowing.{all_known}
use Rattle.hub_machine.specs.State.{State}
use Rattle.ac_world.specs.declared.watched.Watched.{Watched}
use Rattle.hub_machine.specs.Machine.{step, is_worn, is_barred, bind_unless, is_unwatchable, watch_unless, unchanged}
use Rattle.hub_machine.specs.Machine.{IsAllowed}
use Rattle.hub_machine.specs.Replays.{packet_in, sent_by}
use Rattle.hub_machine.specs.declared.steps.Step.{Step}
use Rattle.hub_machine.specs.declared.steps.Step.TheVariants as steps
use Rattle.hub_machine.specs.declared.steps.Step.TheVariants.{Bind, Watch}
use Rattle.hub_machine.specs.declared.steps.Reply.{Reply}
use Rattle.hub_machine.specs.declared.steps.Reply.TheVariants.{Worn, Barred, Halted, Full, Opened, Gone, Refused, Idle}
use Rattle.hub_machine.specs.declared.steps.Reply.TheVariants.{Sent, Ran, Taken}
use Rattle.sc_script.specs.Limits.{most_sent}
use Rattle.sc_script.specs.declared.faults.ScriptFault.{ScriptFault}
use Rattle.sc_script.specs.declared.faults.ScriptFault.TheVariants as fault
use Rattle.sc_script.specs.Runs.{Running, Course, goes, stops, limit, by_reply, stepped, with_step, unless_barred}
use Rattle.sc_script.specs.Runs.{set_up, binds}
use Rattle.sc_script.specs.Keeping.{RunState}
use Rattle.hub_outs.specs.Outs.{sent_of, kept, turning}
use Rattle.sc_script.specs.Runs.{unless_too_much, sent_size, bound_where, config}
use Rattle.sc_script.specs.Keeping.{size_of, noted, made, SetsUp, IsAt, HasRun, IsStopped, RunsAs, StopsAs}
use Rattle.sc_script.specs.Keeping.{IsUnbarred, IsBehind, IsReplyStop}
use Rattle.sc_script.proofs.Replays.{at_more, bytes_of, sent_size-more}
use Rattle.hub_outs.specs.Lemmas.Sending.{kept_sent, none_sent}

-- ---- no packet

abbrev pub IsQuiet : Reply → Type 0
IsQuiet reply = ((r : Running) → by_reply reply r ≡ goes r) × (packet_in reply ≡ [])

pub quiet : (reply : Reply) → (reply ≡ Worn → ⊥) → (reply ≡ Full → ⊥) → ((p : Packet) → reply ≡ Sent p → ⊥)
    → IsQuiet reply
quiet Worn worn full sent = absurd (worn refl)
quiet Barred worn full sent = (λ r. refl, refl)
quiet Halted worn full sent = (λ r. refl, refl)
quiet Full worn full sent = absurd (full refl)
quiet (Opened k) worn full sent = (λ r. refl, refl)
quiet Gone worn full sent = (λ r. refl, refl)
quiet (Refused f) worn full sent = (λ r. refl, refl)
quiet Idle worn full sent = (λ r. refl, refl)
quiet (Sent p) worn full sent = absurd (sent p refl)
quiet Ran worn full sent = (λ r. refl, refl)
quiet Taken worn full sent = (λ r. refl, refl)

-- ---- a packet

goes_where : (r : Running) (n : ℕ) → n ≡ sent_size r → n ≤ most_sent → unless_too_much r ≡ goes r
goes_where r n is few =
    let b : nat_lt most_sent (sent_size r) ≡ false = grind (arith, nat_tests) in
    ap (λ b. if b then stops (limit 4) else goes r) b

stops_where : (r : Running) (n : ℕ) → sent_size r ≡ n → most_sent < n → unless_too_much r ≡ stops (limit 4)
stops_where r n is many =
    let b : nat_lt most_sent (sent_size r) ≡ true = grind (arith, nat_tests) in
    ap (λ b. if b then stops (limit 4) else goes r) b

-- ---- steps

sum_none : {a b n : ℕ} → a ≡ b → n ≡ 0 → a ≡ b + n
sum_none p q = omega arith

-- the reply is that of the run
by_the_reply : (e : Step) (r : Running) (s : RunState) (reply : Reply) → IsAt r s → reply ≡ (step s.state e).reply
    → stepped e r ≡ by_reply reply (with_step e r)
by_the_reply e r s reply at is =
    ap (λ x. by_reply x (with_step e r)) (sym (is ∙ ap (λ t. (step t e).reply) at.state))

one_sent : (p : Packet) (reply : Reply) → reply ≡ Sent p → bytes_of (packet_in reply) ≡ size_of p
one_sent p reply is =
    ap (λ x. bytes_of (packet_in x)) is ∙ ap length (append-nil (written (packet_value p)))

pub stops_sending : (e : Step) (r : Running) (s : RunState) (p : Packet) → IsAt r s → (step s.state e).reply ≡ Sent p
    → most_sent < s.size + size_of p → stepped e r ≡ stops (limit 4)
stops_sending e r s p at is many =
    let all : sent_size (with_step e r) ≡ s.size + size_of p =
    sent_size-more r e
    ∙ (λ i. sym at.size i + bytes_of (packet_in (step (sym at.state i) e).reply))
    ∙ ap (λ n. s.size + n) (one_sent p (step s.state e).reply is) in
    by_the_reply e r s (Sent p) at (sym is) ∙ stops_where (with_step e r) (s.size + size_of p) all many

module _ (e : Step) (r : Running) (s now : RunState) (at : IsAt r s) (may : IsAllowed s.state e)
    (is_state : now.state ≡ (step s.state e).state) where
  -- a course that goes on behind the step, which sends nothing
  pub goes_silently : (course : Course) → course ≡ goes (with_step e r) → packet_in (step s.state e).reply ≡ []
      → now.outs ≡ s.outs → now.size ≡ s.size → now.streams ≡ s.streams → HasRun course now
  goes_silently course on nothing is_outs is_size is_streams =
      subst (λ c. HasRun c now) (sym on)
      (at_more r e s now at may is_state
      (λ k. ap (sent_of k) is_outs ∙ sym (append-nil (sent_of k s.outs))
      ∙ ap (λ ps. sent_of k s.outs ++ ps) (sym (none_sent e k (step s.state e).reply nothing)))
      (sum_none is_size (ap bytes_of nothing)) is_streams)

  pub goes_quietly : (reply : Reply) → reply ≡ (step s.state e).reply → IsQuiet reply → now.outs ≡ s.outs
      → now.size ≡ s.size → now.streams ≡ s.streams → HasRun (stepped e r) now
  goes_quietly reply is none is_outs is_size is_streams =
      goes_silently (stepped e r) (by_the_reply e r s reply at is ∙ none.0 (with_step e r))
      (ap packet_in (sym is) ∙ none.1) is_outs is_size is_streams

  pub goes_sending : (p : Packet) → (step s.state e).reply ≡ Sent p → now.outs ≡ kept (turning e) p s.outs
      → now.size ≡ s.size + size_of p → now.streams ≡ s.streams → now.size ≤ most_sent → HasRun (stepped e r) now
  goes_sending p is is_outs is_size is_streams few =
      let there = at_more r e s now at may is_state
      (λ k. ap (sent_of k) is_outs ∙ kept_sent e k p s.outs
      ∙ ap (λ x. sent_of k s.outs ++ sent_by k e x) (sym is))
      (is_size ∙ ap (λ n. s.size + n) (sym (one_sent p (step s.state e).reply is))) is_streams in
      let by = by_the_reply e r s (Sent p) at (sym is) in
      subst (λ c. HasRun c now) (sym (by ∙ goes_where (with_step e r) now.size there.size few)) there

-- a packet is noted behind the step
pub goes_noted : (e : Step) (r : Running) (s before now : RunState) (p : Packet) (a : Option ℕ) → IsAt r s
    → IsAllowed s.state e → now ≡ noted a p before → a ≡ turning e → before.state ≡ (step s.state e).state
    → before.outs ≡ s.outs → before.size ≡ s.size → before.streams ≡ s.streams → (step s.state e).reply ≡ Sent p
    → now.size ≤ most_sent → HasRun (stepped e r) now
goes_noted e r s before now p a at may is who is_state is_outs is_size is_streams sent few =
    let state : now.state ≡ (step s.state e).state = ap (λ (x : RunState). x.state) is ∙ is_state in
    let outs : now.outs ≡ kept (turning e) p s.outs =
    ap (λ (x : RunState). x.outs) is ∙ (λ i. kept (who i) p (is_outs i)) in
    let size : now.size ≡ s.size + size_of p =
    ap (λ (x : RunState). x.size) is ∙ ap (λ n. n + size_of p) is_size in
    let streams : now.streams ≡ s.streams = ap (λ (x : RunState). x.streams) is ∙ is_streams in
    goes_sending e r s now at may state p sent outs size streams few

-- ---- what sets the server up

-- such a step may be answered so
abbrev IsSaid : Reply → Type 0
IsSaid Worn = Unit {0}
IsSaid Barred = Unit {0}
IsSaid Taken = Unit {0}
IsSaid reply = ⊥

bind_said : (worn barred : Bool) (b : Binding) (s : State)
    → IsSaid (if worn then unchanged s Worn else bind_unless barred b s).reply
bind_said true barred b s = tt
bind_said false true b s = tt
bind_said false false b s = tt

watch_said : (worn barred : Bool) (x : Watched) (s : State)
    → IsSaid (if worn then unchanged s Worn else watch_unless barred x s).reply
watch_said true barred x s = tt
watch_said false true x s = tt
watch_said false false x s = tt

said : (e : Step) (s : State) → SetsUp e → IsSaid (step s e).reply
said (Bind b) s so = bind_said (is_worn s (Bind b)) (is_barred b s) b s
said (Watch x) s so = watch_said (is_worn s (Watch x)) (is_unwatchable x s) x s
said (steps.Arrive space) s so = absurd so
said (steps.Packet k t) s so = absurd so
said (steps.Bad k f) s so = absurd so
said (steps.Close k) s so = absurd so
said (steps.Turn a) s so = absurd so
said steps.Work s so = absurd so
said steps.Stop s so = absurd so

abbrev IsQuietlySetUp : ℕ → Reply → Type 0
IsQuietlySetUp n reply = ((r : Running) → unless_barred n reply r ≡ goes r) × (packet_in reply ≡ [])

set_up_quietly : (n : ℕ) (reply : Reply) → IsSaid reply → (reply ≡ Worn → ⊥) → (reply ≡ Barred → ⊥)
    → IsQuietlySetUp n reply
set_up_quietly n Worn so worn barred = absurd (worn refl)
set_up_quietly n Barred so worn barred = absurd (barred refl)
set_up_quietly n Taken so worn barred = (λ r. refl, refl)
set_up_quietly n reply so worn barred = absurd so

-- the reply is that of the run
pub set_up_by_the_reply : (n : ℕ) (e : Step) (r : Running) (s : RunState) (reply : Reply) → IsAt r s
    → reply ≡ (step s.state e).reply
    → set_up n e r ≡ unless_barred n reply (with_step e r)
set_up_by_the_reply n e r s reply at is =
    ap (λ x. unless_barred n x (with_step e r)) (sym (is ∙ ap (λ t. (step t e).reply) at.state))

pub goes_set_up : (n : ℕ) (e : Step) (r : Running) (s now : RunState) (reply : Reply) → IsAt r s → SetsUp e
    → IsAllowed s.state e → now.state ≡ (step s.state e).state → reply ≡ (step s.state e).reply
    → (reply ≡ Worn → ⊥) → (reply ≡ Barred → ⊥) → now.outs ≡ s.outs → now.size ≡ s.size → now.streams ≡ s.streams
    → HasRun (set_up n e r) now
goes_set_up n e r s now reply at sets may is_state is worn barred is_outs is_size is_streams =
    let none = set_up_quietly n reply (subst IsSaid (sym is) (said e s.state sets)) worn barred in
    goes_silently e r s now at may is_state (set_up n e r)
    (set_up_by_the_reply n e r s reply at is ∙ none.0 (with_step e r)) (ap packet_in (sym is) ∙ none.1) is_outs
    is_size is_streams

-- what the code makes of a reply is what is promised of the step
module _ (n : ℕ) (e : Step) (s before : RunState) (reply : Reply) (sets : SetsUp e) (may : IsAllowed s.state e)
    (is : before ≡ made e s) (answer : reply ≡ (step s.state e).reply) (x : Result RunState ScriptFault) where
  pub set_up_runs : IfOk x (λ t. (t ≡ before) × IsUnbarred reply) → IfOk x (RunsAs s (λ N. set_up n e))
  set_up_runs = IfOk-weaker x _ _ (λ t h N d r at.
      let now : t ≡ made e s = h.0 ∙ is in
      goes_set_up n e r s t reply at sets may (ap (λ (z : RunState). z.state) now) answer h.1.0 h.1.1
      (ap (λ (z : RunState). z.outs) now) (ap (λ (z : RunState). z.size) now)
      (ap (λ (z : RunState). z.streams) now))

  pub set_up_stops : IfErr x (λ f. (r : Running) → IsStopped (unless_barred n reply r) f)
      → IfErr x (StopsAs s (λ N. set_up n e))
  set_up_stops = IfErr-weaker x _ _ (λ f h N d r at.
      subst (λ c. IsStopped c f) (sym (set_up_by_the_reply n e r s reply at answer)) (h (with_step e r)))

-- ---- a binding

-- whether the names of all its guards are known there
abbrev pub knows_all : Binding → State → Bool
knows_all b s = all_known s.world.schema (caveats b.cap.caveats)

bound_so : (n : ℕ) (b : Binding) (r : Running) (s : RunState) (known : Bool) → IsAt r s → knows_all b s.state ≡ known
    → binds n b r ≡ bound_where known n b r
bound_so n b r s known at is = ap (λ c. bound_where c n b r) (ap (knows_all b) (sym at.state) ∙ is)

-- a guard whose name isn't known
pub stops_unknown : (n : ℕ) (b : Binding) (r : Running) (s : RunState) → IsAt r s → knows_all b s.state ≡ false
    → binds n b r ≡ stops (config n)
stops_unknown n b r s at is = bound_so n b r s false at is

-- where all are known it is set up
pub binds_known : (n : ℕ) (b : Binding) (r : Running) (s : RunState) → IsAt r s → knows_all b s.state ≡ true
    → binds n b r ≡ set_up n (Bind b) r
binds_known n b r s at is = bound_so n b r s true at is

-- ---- what a fault tells

pub stops_for : (f : ScriptFault) (n : ℕ) (course : Course)
    → ((f ≡ fault.NoMemory → ⊥) → (f ≡ fault.Limit 4) × (most_sent < n))
    → (most_sent < n → course ≡ stops (limit 4)) → IsStopped course f
stops_for (fault.Bad k) n course told stop =
    let t = told (λ e. cc) in
    subst (IsStopped course) (sym t.0) (stop t.1)
stops_for (fault.Limit w) n course told stop =
    let t = told (λ e. cc) in
    subst (IsStopped course) (sym t.0) (stop t.1)
stops_for (fault.Schema k) n course told stop =
    let t = told (λ e. cc) in
    subst (IsStopped course) (sym t.0) (stop t.1)
stops_for fault.NoMemory n course told stop = tt

-- ---- what the code makes of a reply

module _ (e : Step) (s before : RunState) (reply : Reply) (a : Option ℕ) (may : IsAllowed s.state e)
    (is : before ≡ made e s) (answer : reply ≡ (step s.state e).reply) (who : a ≡ turning e) where
  goes_behind : (t : RunState) → IsBehind a reply before t → (r : Running) → IsAt r s → HasRun (stepped e r) t
  goes_behind t (inl h) r at =
      let now : t ≡ made e s = h.1 ∙ is in
      goes_quietly e r s t at may (ap (λ (z : RunState). z.state) now) reply answer
      (quiet reply h.0.0 h.0.1 h.0.2) (ap (λ (z : RunState). z.outs) now) (ap (λ (z : RunState). z.size) now)
      (ap (λ (z : RunState). z.streams) now)
  goes_behind t (inr h) r at =
      goes_noted e r s before t h.0 a at may h.2 who (ap (λ (z : RunState). z.state) is)
      (ap (λ (z : RunState). z.outs) is) (ap (λ (z : RunState). z.size) is) (ap (λ (z : RunState). z.streams) is)
      (sym answer ∙ h.1) h.3

  stops_behind : (f : ScriptFault) → IsReplyStop reply before f → (r : Running) → IsAt r s
      → IsStopped (stepped e r) f
  stops_behind f (inl h) r at =
      subst (IsStopped (stepped e r)) (sym h.1) (by_the_reply e r s Worn at (sym h.0 ∙ answer))
  stops_behind f (inr (inl h)) r at =
      subst (IsStopped (stepped e r)) (sym h.1) (by_the_reply e r s Full at (sym h.0 ∙ answer))
  stops_behind f (inr (inr h)) r at =
      stops_for f (before.size + size_of h.0) (stepped e r) h.2 (λ many. stops_sending e r s h.0 at (sym answer ∙ h.1)
      (subst (λ (z : RunState). most_sent < z.size + size_of h.0) is many))

  module _ (x : Result RunState ScriptFault) where
    pub step_runs : IfOk x (IsBehind a reply before) → IfOk x (RunsAs s (λ N. stepped e))
    step_runs = IfOk-weaker x _ _ (λ t h N d r at. goes_behind t h r at)

    pub step_stops : IfErr x (IsReplyStop reply before) → IfErr x (StopsAs s (λ N. stepped e))
    step_stops = IfErr-weaker x _ _ (λ f h N d r at. stops_behind f h r at)

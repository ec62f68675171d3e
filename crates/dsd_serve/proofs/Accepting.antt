-- What the tally of an accept loop says of accepts.
use Rattle.std.proofs.Common.{◌≡◌, ℕ, ◌+◌, ◌≤◌, List, Option, sym, subst, arith}
use Rattle.out_ports.specs.Ports.{raised, RoseBy}
use Rattle.srv_loop.specs.declared.tally.Tally.{Tally}
use Rattle.srv_loop.specs.Tallies.{links_of, accepts_of, HasEnded}
use Rattle.dsd_serve.specs.Serving.{AreAccepts, IsServed, rest_in}

pub raised_from : (n a b now : ℕ) → a ≤ b → raised n b ≤ now → raised n a ≤ now
raised_from n a b now low high = omega (arith, low, high)

module _ (t : Tally) (connections count gave gives gave_now stops stop stops_now faults fault faults_now : ℕ)
    (same_count : count ≡ connections) (same_gave : gives ≡ gave) (same_stops : stop ≡ stops)
    (more : faults ≤ fault)
    (ends : HasEnded (accepts_of t) count stop stops_now) (links : RoseBy (links_of t) gives gave_now)
    (failed : raised t.failed fault ≤ faults_now) where
  same : accepts_of t ≡ t.served + rest_in t
  same = omega arith

  pub accepts : AreAccepts connections t.served (rest_in t) gave gave_now stops stops_now faults faults_now
  accepts = record {
    links = links_of t;
    failed = t.failed;
    both = sym same;
    given = subst (λ g. RoseBy (links_of t) g gave_now) same_gave links;
    failures = raised_from t.failed faults fault faults_now more failed;
    ended = subst (λ n. HasEnded n connections stops stops_now) same
        (subst (λ s. HasEnded (accepts_of t) connections s stops_now) same_stops
        (subst (λ n. HasEnded (accepts_of t) n stop stops_now) same_count ends));
  }

-- what is so from a later time on is so from an earlier one, since when no link was given and no more were told to stop
module _ (connections gave gave_then gave_now stops stops_then stops_now faults faults_then faults_now : ℕ)
    (same_gave : gave_then ≡ gave) (same_stops : stops_then ≡ stops) (more : faults ≤ faults_then) where
  accepts_before : (a f : ℕ)
      → AreAccepts connections a f gave_then gave_now stops_then stops_now faults_then faults_now
      → AreAccepts connections a f gave gave_now stops stops_now faults faults_now
  accepts_before a f h = record {
    links = h.links;
    failed = h.failed;
    both = h.both;
    given = subst (λ g. RoseBy h.links g gave_now) same_gave h.given;
    failures = raised_from h.failed faults faults_then faults_now more h.failures;
    ended = subst (λ s. HasEnded (a + f) connections s stops_now) same_stops h.ended;
  }

  pub served_before : (Grows : Option (List ℕ) → Option (List ℕ) → List ℕ → Type 0) (before now : Option (List ℕ))
      → IsServed Grows (λ a f.
      AreAccepts connections a f gave_then gave_now stops_then stops_now faults_then faults_now) before now
      → IsServed Grows (λ a f. AreAccepts connections a f gave gave_now stops stops_now faults faults_now) before now
  served_before Grows before now h = (h.0, h.1, accepts_before h.0 h.1 h.2, h.3)

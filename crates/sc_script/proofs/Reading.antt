-- A connection's packets: how a course goes on behind each that is read.
use Rattle.std.proofs.Common.{◌≡◌, ℕ, refl, sym, ap, ◌∙◌, subst, Option, Some, None, true, false, cond}
use Rattle.rl_stream.specs.Streams.{StreamState}
use Rattle.hub_machine.specs.State.{is_there}
use Rattle.sc_schema.specs.Courses.{StopsFor}
use Rattle.sc_script.specs.Runs.{Running, Cause, Course, goes, stops, goes_on, with_stream, read_where}
use Rattle.sc_script.specs.Keeping.{ReadsOn, RunState, IsAt, HasRun}

-- what stops a first part stops the whole
pub stops_first : (later : Running → Course) (c : Course) (o : Option Cause) → StopsFor c o
    → StopsFor (goes_on later c) o
stops_first later c None h = tt
stops_first later c (Some x) h = ap (goes_on later) h

-- behind a turn more is read, where the connection is still there
pub reads_more : (c : Course) (k : ℕ) (st : StreamState) (s : RunState) → HasRun c s → is_there k s.state ≡ true
    → ReadsOn s (Some st) st (λ more. goes_on (read_where k st more) c)
reads_more (goes r) k st s h is = (
  refl,
  r,
  h,
  λ more. ap (λ b. cond b (more r) (goes (with_stream k st r))) (ap (is_there k) (sym h.state) ∙ is),
)
reads_more (stops c) k st s h is = absurd h

pub reads_no_more : (c : Course) (k : ℕ) (st : StreamState) (s t : RunState) → HasRun c s
    → is_there k s.state ≡ false → ((r : Running) → IsAt r s → IsAt (with_stream k st r) t)
    → ReadsOn t None st (λ more. goes_on (read_where k st more) c)
reads_no_more (goes r) k st s t h is put = λ more.
    subst (λ b. HasRun (cond b (more r) (goes (with_stream k st r))) t) (sym (ap (is_there k) (sym h.state) ∙ is))
    (put r h)
reads_no_more (stops c) k st s t h is put = absurd h

-- behind what is sent, the stream is kept or put back
pub reads_behind : (c : Course) (k : ℕ) (st : StreamState) (s t : RunState) (o : Option StreamState) → HasRun c s
    → ((r : Running) → IsAt r s → ReadsOn t o st (λ more. read_where k st more r))
    → ReadsOn t o st (λ more. goes_on (read_where k st more) c)
reads_behind (goes r) k st s t o h next = next r h
reads_behind (stops c) k st s t o h next = absurd h

-- A spawner in memory: what it answers to a start, and what it is then.
use Rattle.std.specs.Prelude.{ℕ, Bool, true, false, ◌||◌, not, nat_lt, List, [], ◌∷◌, ◌++◌, length}
use Rattle.out_ports.specs.Calls.{CallCounts, before_calls, is_next_listed, after_call}

-- the jobs that were taken, how many there is room for, and the calls
pub record ToldSpawner (J : Type 0) : Type 0 where
  pub jobs : List J
  pub room : ℕ
  pub calls : CallCounts

-- a spawner without jobs, before the first start
abbrev pub spawner_of : {J : Type 0} → ℕ → List ℕ → ToldSpawner J
spawner_of room failing = record {
  jobs = [];
  room = room;
  calls = before_calls failing;
}

-- the answer to a start: the job is taken, unless the call is to fail or there is no room
abbrev pub start_answer : {J : Type 0} → ToldSpawner J → Bool
start_answer spawner = not (is_next_listed spawner.calls || not (nat_lt (length spawner.jobs) spawner.room))

-- the jobs after a start
abbrev pub jobs_after : {J : Type 0} → Bool → J → List J → List J
jobs_after true job jobs = jobs ++ job ∷ []
jobs_after false job jobs = jobs

-- the spawner after a start
abbrev pub after_start : {J : Type 0} → Bool → J → ToldSpawner J → ToldSpawner J
after_start answer job spawner = record {
  jobs = jobs_after answer job spawner.jobs;
  room = spawner.room;
  calls = after_call (not answer) spawner.calls;
}

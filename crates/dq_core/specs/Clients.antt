-- What a client knows, and what an assertion, a retraction and an answer make of it.
use Rattle.std.specs.Prelude.{ℕ, true, false, [], Option}
use Rattle.std.specs.Ordering.{nat_cmp}
use Rattle.std.specs.Map.{lookup, remove_entry}
use Rattle.std.specs.BTreeMap.{insert_entry, is_at}
use Rattle.pv_value.specs.Plain.{Plain}
use Rattle.dq_core.specs.States.{ClientState}
use Rattle.dq_core.specs.declared.client.Standing.{Standing}

-- a client that has heard nothing
abbrev pub begun : Plain → ClientState
begun pattern = record { pattern = pattern; answered = false; standing = [] }

-- what stands under a handle
abbrev pub under : ℕ → ClientState → Option Standing
under handle c = lookup (is_at (nat_cmp handle)) c.standing

-- a value stands under a handle, at an object
abbrev pub with_standing : ℕ → ℕ → Plain → ClientState → ClientState
with_standing handle oid v c = record {
  pattern = c.pattern;
  answered = c.answered;
  standing = insert_entry nat_cmp c.standing handle (record { oid = oid; value = v });
}

-- nothing stands under a handle
abbrev pub without : ℕ → ClientState → ClientState
without handle c = record {
  pattern = c.pattern;
  answered = c.answered;
  standing = remove_entry (is_at (nat_cmp handle)) c.standing;
}

-- the server has answered
abbrev pub with_answer : ClientState → ClientState
with_answer c = record { pattern = c.pattern; answered = true; standing = c.standing }

-- What a peer has sent, as far as it isn't read yet.
use Rattle.std.specs.Prelude.{ℕ, ◌+◌, ◌++◌, List, [], drop}

-- what isn't read yet, and the place of its first byte in all that was sent
pub record StreamState : Type 0 where
  pub rest : List ℕ
  pub place : ℕ

abbrev pub no_stream : StreamState
no_stream = record { rest = []; place = 0 }

-- more bytes come
abbrev pub with_bytes : List ℕ → StreamState → StreamState
with_bytes b st = record { rest = st.rest ++ b; place = st.place }

-- so many bytes more are read
abbrev pub read_off : ℕ → StreamState → StreamState
read_off n st = record { rest = drop n st.rest; place = st.place + n }

-- What a take from a link brings a reader.
use Rattle.std.proofs.Common.{◌≡◌, ℕ, ◌+◌, List, [], ◌++◌, length, take, Bool, Option, sym, subst, arith}
use Rattle.std.proofs.Common.{length-append, length-take}
use Rattle.std.proofs.lemmas.List.{append-nil}
use Rattle.out_ports.specs.Ports.{raised}
use Rattle.out_ports.specs.declared.ports.Took.TheVariants as took
use Rattle.pv_stream.specs.Takes.{IsTakenBehind}
use Rattle.rl_stream.specs.Streams.{StreamState, with_bytes}
use Rattle.srv_turns.specs.Rounds.{Pair}
use Rattle.srv_turns.specs.Reading.{AreTaken, HasRead}
use Rattle.srv_turns.specs.declared.reader.ReaderEnd.{ReaderEnd}
use Rattle.srv_turns.specs.Keeping.{IsReading}
use Rattle.srv_turns.proofs.Taking.{none_taken, end_taken, piece_taken}
use Rattle.srv_turns.proofs.Reading.{more_taken}

-- a stream is what is left and its place
pub same_stream : (a b : StreamState) → a.rest ≡ b.rest → a.place ≡ b.place → a ≡ b
same_stream a b rest place = λ i. record { rest = rest i; place = place i }

-- a piece came
pub piece_came : (k : ℕ) (b : List ℕ) (st now : StreamState) (before mid : List Pair) → IsReading k b st before mid
    → (n : ℕ) (left leaves : Option (List ℕ)) (given gives total count : ℕ)
    → IsTakenBehind (took.Some n) left leaves st.rest now.rest → now.place ≡ st.place → gives ≡ raised n given
    → count ≡ total + n → length b ≡ total
    → (more : List ℕ) × AreTaken more left leaves given gives × (length (b ++ more) ≡ count)
    × IsReading k (b ++ more) now before mid
piece_came k b st now before mid reading n left leaves given gives total count came place counted is all =
    let more : List ℕ = take n came.room in
    let so : now ≡ with_bytes more st = same_stream now (with_bytes more st) came.filled.0 place in (
      more,
      piece_taken left leaves given gives n came.room came.fits.1 came.taken counted,
      omega (arith, length-append b more, length-take n came.room, came.fits.1, is, all),
      subst (λ (s : StreamState). IsReading k (b ++ more) s before mid) (sym so)
          (more_taken k b st before mid reading more came.filled.1),
    )

-- the link ended, or failed: nothing came
pub none_came : (left leaves : Option (List ℕ)) (given gives : ℕ) → leaves ≡ left → gives ≡ given
    → AreTaken [] left leaves given gives
none_came left leaves given gives same is =
    subst (λ n. AreTaken [] left leaves given n) (sym is) (none_taken left leaves given same)

pub end_came : (before now : List ℕ) (left leaves : Option (List ℕ)) (given gives : ℕ)
    → IsTakenBehind took.End left leaves before now → gives ≡ given → AreTaken [] left leaves given gives
end_came before now left leaves given gives came is =
    subst (λ n. AreTaken [] left leaves given n) (sym is) (end_taken left leaves given came.taken)

-- and nothing more was read
pub nothing_more : (k : ℕ) (b : List ℕ) (before now : List Pair) (spent : Bool) (x : ReaderEnd)
    → HasRead k b before now spent x → HasRead k (b ++ []) before now spent x
nothing_more k b before now spent x read =
    subst (λ (xs : List ℕ). HasRead k xs before now spent x) (sym (append-nil b)) read

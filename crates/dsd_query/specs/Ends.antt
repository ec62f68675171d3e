-- How a query ends: the status, and the line on standard error.
use Rattle.std.specs.Prelude.{◌≡◌, ℕ, List, [], ◌∷◌, ◌++◌, codes, Contains, Option}
use Rattle.out_ports.specs.Dialled.{ToldLink}
use Rattle.dq_core.specs.Asking.{opening}
use Rattle.dq_core.specs.Clients.{begun}
use Rattle.dq_link.specs.Asked.{AreHeard, HasAsked}
use Rattle.dq_link.specs.declared.dialling.Question.{Question}
use Rattle.dq_link.specs.declared.dialling.QueryEnd.{QueryEnd}
use Rattle.dq_link.specs.declared.dialling.QueryEnd.TheVariants as end

-- the status of an end
abbrev pub status_by : QueryEnd → ℕ
status_by end.Done = 0
status_by end.HearFailed = 3
status_by end.SayFailed = 4
status_by end.OutputFailed = 4
status_by end.NoMemory = 5
status_by end.Spent = 6
status_by end.DialFailed = 11
status_by end.Rejected = 12
status_by end.Left = 13
status_by end.BadServer = 14

-- the words of its line on standard error, where it has one
abbrev pub words_by : QueryEnd → List ℕ
words_by end.Done = []
words_by end.HearFailed = codes "dsd: read failed"
words_by end.SayFailed = codes "dsd: write failed"
words_by end.OutputFailed = codes "dsd: write failed"
words_by end.NoMemory = codes "dsd: out of memory"
words_by end.Spent = codes "dsd: limit 7"
words_by end.DialFailed = codes "dsd: connect failed"
words_by end.Rejected = codes "dsd: rejected"
words_by end.Left = codes "dsd: server left"
words_by end.BadServer = codes "dsd: bad server"

-- the statuses other than 0, each with the words of its line
abbrev pub lines : List (ℕ × List ℕ)
lines =
    (2, codes "dsd: bad words")
    ∷ (3, codes "dsd: read failed")
    ∷ (4, codes "dsd: write failed")
    ∷ (5, codes "dsd: out of memory")
    ∷ (6, codes "dsd: limit 7")
    ∷ (11, codes "dsd: connect failed")
    ∷ (12, codes "dsd: rejected")
    ∷ (13, codes "dsd: server left")
    ∷ (14, codes "dsd: bad server")
    ∷ []

-- every status that comes
abbrev pub query_statuses : List ℕ
query_statuses = 0 ∷ 2 ∷ 3 ∷ 4 ∷ 5 ∷ 6 ∷ 11 ∷ 12 ∷ 13 ∷ 14 ∷ []

-- the line of the status was appended, all of it or a front, as `Grows` says
abbrev pub Says : (Option (List ℕ) → Option (List ℕ) → List ℕ → Type 0) → ℕ → Option (List ℕ) → Option (List ℕ) → Type 0
Says Grows status before now = (words : List ℕ) × Contains lines (status, words) × Grows before now (words ++ 10 ∷ [])

-- the question was asked of a server that sent some bytes, and its end has this status
abbrev pub WasAsked : Question → ℕ → Option (List ℕ) → Option (List ℕ) → ToldLink → ToldLink → Type 0
WasAsked q status out_before out_now before now =
    (e : QueryEnd) × (status_by e ≡ status) × (b : List ℕ) × AreHeard b before.heard now.heard
    × HasAsked (opening q.reference) (begun q.pattern) q.lines b out_before out_now before.said.held now.said.held
    now.heard e

-- What stands in front of what is appended to.
use Rattle.std.proofs.Common.{◌≡◌, ℕ, List, [], ◌++◌, sym, ◌∙◌, append-nil}
use Rattle.std.specs.Io.{StartsWith}
use Rattle.pv_value.specs.Lemmas.Appending.{starts_from, starts_trans}

pub front_all : (front more whole : List ℕ) → whole ≡ front ++ more → StartsWith whole front
front_all front more whole e = starts_from front whole more e

pub front_same : (front whole : List ℕ) → whole ≡ front → StartsWith whole front
front_same front whole e = starts_from front whole [] (e ∙ sym (append-nil front))

pub front_on : (front mid whole : List ℕ) → StartsWith mid front → StartsWith whole mid → StartsWith whole front
front_on front mid whole h k = starts_trans front mid whole h k

pub front_behind : (front more mid whole : List ℕ) → mid ≡ front ++ more → StartsWith whole mid → StartsWith whole front
front_behind front more mid whole e k = front_on front mid whole (front_all front more mid e) k

-- what stands in front goes on to stand there
pub ruleset fronts = (front_all, front_same, front_on, front_behind)

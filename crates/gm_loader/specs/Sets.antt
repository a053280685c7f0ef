-- What a set of node numbers has.
use Rattle.std.specs.Prelude.{◌≡◌, ◌<◌, ℕ, min, nat_lt, nat_eq, Bool, true, false, ◌==◌, if◌then◌else◌, List, [], length, slice_index_or}
use Rattle.std.specs.List.{list_any}
use Rattle.std.specs.HashSet.{contains}
use Rattle.gm_graph.specs.Builds.{distinct}
use Rattle.gm_loader.specs.declared.sets.NumberSet.{NumberSet}
use Rattle.gm_loader.specs.declared.counts.NodeCount.{NodeCount}

-- numbers below this one are kept in a row of flags
abbrev pub flag_count : ℕ
flag_count = 16777216

-- whether a set has a number
abbrev pub has : NumberSet → ℕ → Bool
has set n = if nat_lt n flag_count then slice_index_or set.flags.items n false else contains nat_eq set.others n

-- a set has just some numbers
abbrev pub HasEach : List ℕ → NumberSet → Type 0
HasEach numbers set = (n : ℕ) → has set n ≡ list_any (λ m. m == n) numbers

-- and it counts them, each once, as far as 64 bits go
pub record IsSetOf (numbers : List ℕ) (set : NumberSet) : Type 0 where
  pub members : HasEach numbers set
  pub count : set.count ≡ min (length (distinct numbers)) 18446744073709551615

-- two lists have the same numbers
abbrev pub SameNumbers : List ℕ → List ℕ → Type 0
SameNumbers xs ys = (n : ℕ) → list_any (λ m. m == n) xs ≡ list_any (λ m. m == n) ys

-- each number of a list is below a limit
abbrev pub EachBelow : ℕ → List ℕ → Type 0
EachBelow limit xs = (n : ℕ) → list_any (λ m. m == n) xs ≡ true → n < limit

-- a count knows of some numbers that each is below a limit, or has them all in its set
pub record Counts (limit : ℕ) (numbers : List ℕ) (count : NodeCount) : Type 0 where
  pub counted : count.counted ≡ true → IsSetOf numbers count.set
  pub uncounted : count.counted ≡ false → EachBelow limit numbers
  pub empty : count.counted ≡ false → IsSetOf [] count.set

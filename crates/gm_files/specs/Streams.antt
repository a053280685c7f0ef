-- What one read, one write and the count of faults say. Bytes are told or not: `Some` of them, or `None`.
use Rattle.std.specs.Prelude.{◌≡◌, ◌<◌, ◌≤◌, ℕ, List, [], ◌++◌, ◌+◌, Option, Some, None, length, take, drop, option_map, min}

-- the greatest count that is kept
abbrev pub top_count : ℕ
top_count = 18446744073709551615

-- one more, up to the greatest count
abbrev pub one_more : ℕ → ℕ
one_more n = min (n + 1) top_count

-- a count rose in a call: it is greater afterwards, or was at its top already; it never falls
pub record Rises (old new : ℕ) : Type 0 where
  pub kept : old ≤ new
  pub risen : old < top_count → old < new

-- k bytes from the front of some bytes were placed at the front of a buffer; none only where none is left
pub record Places (bytes placed : List ℕ) (k : ℕ) : Type 0 where
  pub front : take k placed ≡ take k bytes
  pub within : k ≤ length bytes
  pub none_left : k ≡ 0 → 0 < length placed → bytes ≡ []

-- a read took k bytes from the front of what was left, where that is told
abbrev pub TakesFront : Option (List ℕ) → Option (List ℕ) → List ℕ → ℕ → Type 0
TakesFront None after placed k = after ≡ None
TakesFront (Some bytes) after placed k = Places bytes placed k × (after ≡ Some (drop k bytes))

-- what a sink has taken, with more behind it, where that is told
abbrev pub with_more : Option (List ℕ) → List ℕ → Option (List ℕ)
with_more taken more = option_map (λ bytes. bytes ++ more) taken

-- a write took k of some bytes: not more than there are, and none only of none
pub record IsWriteCount (bytes : List ℕ) (k : ℕ) : Type 0 where
  pub within : k ≤ length bytes
  pub some_taken : 0 < length bytes → 0 < k

-- all that was left was read, where that is told: these bytes, no more of them than the limit
abbrev pub ReadsAll : Option (List ℕ) → Option (List ℕ) → List ℕ → ℕ → Type 0
ReadsAll None after bytes limit = (after ≡ None) × (length bytes ≤ limit)
ReadsAll (Some left) after bytes limit = (after ≡ Some []) × (bytes ≡ left) × (length left ≤ limit)

-- k bytes were taken from the front of what was left, where that is told, and put behind others; none only at the end
abbrev pub AppendsFront : Option (List ℕ) → Option (List ℕ) → List ℕ → List ℕ → ℕ → Type 0
AppendsFront None after old new k = after ≡ None
AppendsFront (Some left) after old new k =
    (after ≡ Some (drop k left)) × (new ≡ old ++ take k left) × (k ≤ length left) × (k ≡ 0 → left ≡ [])

-- one byte more than the limit was taken, where that is told
abbrev pub ReadsPast : Option (List ℕ) → Option (List ℕ) → ℕ → Type 0
ReadsPast None after limit = after ≡ None
ReadsPast (Some left) after limit = (limit < length left) × (after ≡ Some (drop (limit + 1) left))

-- a sink grew by a part from the front of some bytes
abbrev pub GrowsByPrefix : Option (List ℕ) → Option (List ℕ) → List ℕ → Type 0
GrowsByPrefix old new bytes = (k : ℕ) × (k ≤ length bytes) × (new ≡ with_more old (take k bytes))

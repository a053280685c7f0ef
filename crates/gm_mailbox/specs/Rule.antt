-- The rule of a mailbox, over what the queue holds and what each pass knows.
use Rattle.std.specs.Prelude.{◌≡◌, ℕ, suc, ◌+◌, ◌<◌, ◌≤◌, true, List, [], ◌∷◌, ◌++◌, length, ◌==◌, if◌then◌else◌, ◌⊎◌}
use mathlib.Core.Option.{some}
use lib.ListN.{get_elem?}
use Rattle.gm_mailbox.specs.declared.rule.Known.{Known}
use Rattle.gm_base.specs.Merge.{of, IsMerge, listed}

-- how often n stands in the list
abbrev pub times : ℕ → List ℕ → ℕ
times n [] = 0
times n (x ∷ xs) = (if x == n then suc (times n xs) else times n xs)

module _ {T : Type 0} where
  -- the numbers of the passes that were joined back
  abbrev pub numbers_of : List (ℕ × List T) → List ℕ
  numbers_of [] = []
  numbers_of (x ∷ xs) = x.0 ∷ numbers_of xs

  -- what each number has sent, as far as this pass knows
  abbrev pub known_by : Known T → ℕ → List T
  known_by v p = (if v.number == p then v.sent else listed v.ended p)

  -- Pass 0 knows what was taken and how many passes were split off. Each number from 1 up to that is out or was joined back, once, and no
  -- other number is. Of a number that is not out it has the list
  pub record KnowsAll (all taken : List (ℕ × T)) (out : List ℕ) (made : ℕ) (v : Known T) : Type 0 where
    pub taken_is : v.taken ≡ taken
    pub splits_is : v.splits ≡ made
    pub counted : length out + length v.ended ≡ made
    pub once : (p : ℕ) → 0 < p → p ≤ made → times p out + times p (numbers_of v.ended) ≡ 1
    pub no_other : (p : ℕ) → (p ≡ 0) ⊎ (made < p) → times p out + times p (numbers_of v.ended) ≡ 0
    pub back : (p : ℕ) → 0 < p → (0 < times p out) ⊎ (listed v.ended p ≡ of all p)

  -- a pass that was not joined back has the number of its place, and knows what it has sent
  pub record Fits (all taken : List (ℕ × T)) (out : List ℕ) (made place : ℕ) (v : Known T) : Type 0 where
    pub number_is : v.number ≡ place
    pub sent_is : v.sent ≡ of all place
    pub other : 0 < place → 0 < times place out
    pub first : place ≡ 0 → KnowsAll all taken out made v

  -- What was sent, `all`, is what was taken, and then what the queue holds. `made` passes were split off from pass 0, and no later number has
  -- sent anything. `out` has the numbers of those that were not joined back
  pub record Delivers (items : List (ℕ × T)) (views : List (Known T)) : Type 0 where
    pub all : List (ℕ × T)
    pub taken : List (ℕ × T)
    pub out : List ℕ
    pub made : ℕ
    pub whole : all ≡ taken ++ items
    pub passes : length views ≡ suc made
    pub later : (p : ℕ) → made < p → of all p ≡ []
    pub each : (place : ℕ) (v : Known T) → get_elem? views place ≡ some v → v.live ≡ true → Fits all taken out made place v

  -- what pass 0 learns of what the queue holds: where all are back, the list taken and that which is left are a merge of what each number has sent
  abbrev pub Shows : Known T → List (ℕ × T) → Type 0
  Shows v items = (length v.ended ≡ v.splits → IsMerge (v.taken ++ items) (known_by v)) × (of (v.taken ++ items) 0 ≡ v.sent)

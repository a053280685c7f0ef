-- What the rows of the code hold.
use Rattle.std.specs.Prelude.{◌≡◌, ◌≤◌, ◌<◌, ◌^◌, ℕ, ℤ, pos, ◌+ℤ◌, ◌*ℤ◌, unsigned_abs, Bool, true, false, Option, Some, None, List, length, slice_get, slice_index_or, if◌then◌else◌}
use Rattle.std.specs.Option.{option_map}
use Rattle.gm_value.specs.declared.values.Value.{Value}
use Rattle.gm_value.specs.declared.reductions.Reduce.TheVariants.{Product}
use Rattle.gm_value.specs.declared.totals.Total.{Total}
use Rattle.gm_value.specs.declared.totals.Total.TheVariants.{Small, Sum}
use Rattle.gm_value.specs.Totals.{Shows}

-- what a place has that is marked
abbrev pub marked : {A : Type 0} → List Bool → ℕ → Option A → Option A
marked marks place held = if slice_index_or marks place false then held else None

-- the least or the greatest value at a place
abbrev pub picked : {T : Type 0} → (T → Value) → List T → List Bool → ℕ → Option Total
picked value cells marks place = marked marks place (option_map (λ cell. Small (value cell)) (slice_get cells place))

-- a sum by its low part, a number of 64 bits with its sign, and how often 2 ^ 64 was carried
abbrev pub sum_of : ℤ → ℤ → ℤ
sum_of low carried = low +ℤ carried *ℤ pos 18446744073709551616

abbrev pub summed : List ℤ → List ℤ → List Bool → ℕ → Option Total
summed low carried marks place =
    marked marks place (Some (Sum (sum_of (slice_index_or low place (pos 0)) (slice_index_or carried place (pos 0)))))

abbrev pub multiplied : List Total → List Bool → ℕ → Option Total
multiplied cells marks place = marked marks place (slice_get cells place)

-- sums of so many numbers at most: no more were carried, and where nothing came the sum is 0
pub record AreSums (count : ℕ) (low carried : List ℤ) (marks : List Bool) : Type 0 where
  pub as_many : length carried ≡ length low
  pub as_marked : length marks ≡ length low
  pub few : (place : ℕ) → unsigned_abs (slice_index_or carried place (pos 0)) ≤ count
  pub low_none : (place : ℕ) → slice_index_or marks place false ≡ false → slice_index_or low place (pos 0) ≡ pos 0
  pub carried_none : (place : ℕ) → slice_index_or marks place false ≡ false → slice_index_or carried place (pos 0) ≡ pos 0

-- products: where something came there is one of some number
pub record AreProducts (cells : List Total) (marks : List Bool) : Type 0 where
  pub as_marked : length marks ≡ length cells
  pub shown : (place : ℕ) (t : Total) → slice_index_or marks place false ≡ true → slice_get cells place ≡ Some t → (exact : ℤ) × Shows Product t exact

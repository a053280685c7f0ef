-- Where a line stands, as the code knows it.
use Rattle.std.specs.Prelude.{◌≡◌, ◌≤◌, ◌+◌, ℕ, nat_eq, Bool, not, Some, List, length, slice_get}
use Rattle.gm_image.specs.Program.{Line}
use Rattle.gm_image.specs.Rows.{Site, left_after}
use Rattle.gm_image.specs.Spans.{left_past}
use Rattle.gm_verify.specs.declared.lines.Spot.{Spot}

-- for each line of a list, and for its end, the code knows whether lines of an each are left there
pub record ShowsInsides (insides : List Bool) (ls : List Line) : Type 0 where
  pub long : length insides ≡ length ls + 1
  pub known : (i : ℕ) → i ≤ length ls → slice_get insides i ≡ Some (not (nat_eq (left_past 0 i ls) 0))

-- for each of the lines that follow a line outside eaches, and for their end, the code knows whether it stands in an each
pub record ShowsLater (insides : List Bool) (later : List Line) : Type 0 where
  pub long : length insides ≡ length later + 1
  pub known : (n : ℕ) → n ≤ length later → slice_get insides n ≡ Some (not (nat_eq (left_past 0 n later) 0))

-- the code shows where a line stands; what follows a line that is no each matters outside eaches
pub record ShowsSite (spot : Spot) (s : Site) (l : Line) : Type 0 where
  pub kind : s.kind ≡ spot.kind
  pub long : length spot.insides.now ≡ length s.later + 1
  pub later : s.around.left ≡ 0 → left_after 0 l ≡ 0 → ShowsLater spot.insides.now s.later

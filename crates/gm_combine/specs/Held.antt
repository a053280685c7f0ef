-- The totals of all kinds, as contracts see them.
use Rattle.std.specs.Prelude.{◌≡◌, ◌<◌, ◌+◌, ◌^◌, ⊤, ℕ, Option, Some, None, All, List, map, length, slice_get, slice_index_or}
use Rattle.std.specs.Option.{option_map, option_and_then}
use Rattle.gm_value.specs.declared.values.VType.{VType}
use Rattle.gm_value.specs.declared.values.VType.TheVariants.{I32}
use Rattle.gm_value.specs.declared.reductions.Reduce.{Reduce}
use Rattle.gm_image.specs.declared.images.Kind.{Kind}
use Rattle.gm_image.specs.Program.{Program}
use Rattle.gm_value.specs.declared.totals.Total.{Total}
use Rattle.gm_machine.specs.Combining.{carried, of_kind, exact_of}
use Rattle.gm_machine.specs.Machine.{inbox}
use Rattle.gm_machine.specs.Vertex.{Message}
use Rattle.gm_combine.specs.declared.rows.KindRow.{KindRow}
use Rattle.gm_combine.specs.Rows.{type_of_row, RowServes, row_width, row_totals, RowHolds}
use Rattle.gm_combine.specs.Totals.{ShowsTotal}

-- the row of a kind, if it is combinable
abbrev pub row_at : List (Option KindRow) → ℕ → Option KindRow
row_at kinds kind = slice_index_or kinds kind None

-- a kind's row is in order: it serves the kind's combiner, has all places, and holds so many messages at most
pub record IsKindRow (places messages : ℕ) (k : KindRow) : Type 0 where
  pub serves : RowServes k.row k.reduce
  pub wide : row_width k.row ≡ places
  pub holds : RowHolds k.row messages

abbrev pub IsRow : ℕ → ℕ → Option KindRow → Type 0
IsRow places messages None = ⊤
IsRow places messages (Some k) = IsKindRow places messages k

-- a kind's row takes values at places: they are places of the row, and with them it holds fewer than 2 ^ 62 messages
pub record TakesMore (places : List ℕ) (row : Option KindRow) : Type 0 where
  pub width : ℕ
  pub messages : ℕ
  pub is : IsRow width messages row
  pub few : messages + length places < 2 ^ 62
  pub within : All (λ place. place < width) places

-- a kind's row has a place, and holds fewer than 2 ^ 62 messages
pub record HasPlace (place : ℕ) (row : Option KindRow) : Type 0 where
  pub width : ℕ
  pub messages : ℕ
  pub is : IsRow width messages row
  pub few : messages < 2 ^ 62
  pub within : place < width

-- the type of the values of a kind: each combinable kind has one value
abbrev pub value_type : Kind → VType
value_type kind = slice_index_or kind.values 0 I32

abbrev pub type_if : Kind → Option VType
type_if kind = option_map (λ r. value_type kind) kind.combiner

-- the type of the values of a kind, if it is combinable
abbrev pub type_of_kind : Program → ℕ → Option VType
type_of_kind p kind = option_and_then type_if (slice_get p.kinds kind)

abbrev pub reduce_held : Option KindRow → Option Reduce
reduce_held row = option_map (λ k. k.reduce) row

abbrev pub type_held : Option KindRow → Option VType
type_held row = option_map (λ k. type_of_row k.row) row

abbrev pub total_held : Option KindRow → ℕ → Option Total
total_held None place = None
total_held (Some k) place = row_totals k.row place

-- rows of totals: how many places there are, how many messages were folded, and the row of each kind that is combinable
pub record HeldRows : Type 0 where
  pub places : ℕ
  pub messages : ℕ
  pub kinds : List (Option KindRow)

-- the combiner of a kind that has a row
abbrev pub reduce_in : HeldRows → ℕ → Option Reduce
reduce_in rows kind = reduce_held (row_at rows.kinds kind)

-- the type of the values of a kind that has a row
abbrev pub type_in : HeldRows → ℕ → Option VType
type_in rows kind = type_held (row_at rows.kinds kind)

-- the total of a kind at a place, if a message came
abbrev pub total_in : HeldRows → ℕ → ℕ → Option Total
total_in rows kind place = total_held (row_at rows.kinds kind) place

-- rows hold the exact totals of messages: for each combinable kind and place that of the messages of the kind to the place, and none where there are none
abbrev pub AreTotals : HeldRows → List Message → Type 0
AreTotals rows messages = (kind place : ℕ) (r : Reduce) → reduce_in rows kind ≡ Some r → place < rows.places →
    ShowsTotal r (total_in rows kind place) (exact_of r (map carried (of_kind kind (inbox messages place))))

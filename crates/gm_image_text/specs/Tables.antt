-- The words that tables have meanings for.
use Rattle.std.specs.Prelude.{Bool, if◌then◌else◌, List, [], ◌∷◌, map, Option, Some, None, bytes_eq}
use Rattle.gm_value.specs.declared.values.VType.{VType}
use Rattle.gm_value.specs.declared.reductions.Reduce.{Reduce}
use Rattle.gm_image_text.specs.declared.heads.TheConstants.{VERSIONS, HEADS, TYPES, REDUCTIONS, COMBINERS, FLAGS, VERTEX_HEADS, MASTER_HEADS, INPUT_HEADS, OUTPUT_HEADS, WAYS}
use Rattle.gm_image_text.specs.declared.heads.Version.{Version}
use Rattle.gm_image_text.specs.declared.heads.Head.{Head}
use Rattle.gm_image_text.specs.declared.heads.VertexHead.{VertexHead}
use Rattle.gm_image_text.specs.declared.heads.MasterHead.{MasterHead}
use Rattle.gm_image_text.specs.declared.heads.InputHead.{InputHead}
use Rattle.gm_image_text.specs.declared.heads.OutputHead.{OutputHead}
use Rattle.gm_image.specs.declared.lines.Direction.{Direction as Way}
use Rattle.gm_image_text.specs.Lines.{Word}

-- what a table has beside a word
abbrev pub row_in : {T : Type 0} → List (Word × T) → Word → Option T
row_in [] word = None
row_in (row ∷ rows) word = if bytes_eq row.0 word then Some row.1 else row_in rows word

unfoldable pub versions : List (Word × Version)
versions = map (λ row. (row.0.now, row.1)) VERSIONS

unfoldable pub heads : List (Word × Head)
heads = map (λ row. (row.0.now, row.1)) HEADS

unfoldable pub types : List (Word × VType)
types = map (λ row. (row.0.now, row.1)) TYPES

unfoldable pub reductions : List (Word × Reduce)
reductions = map (λ row. (row.0.now, row.1)) REDUCTIONS

unfoldable pub combiners : List (Word × Option Reduce)
combiners = map (λ row. (row.0.now, row.1)) COMBINERS

unfoldable pub flags : List (Word × Bool)
flags = map (λ row. (row.0.now, row.1)) FLAGS

unfoldable pub vertex_heads : List (Word × VertexHead)
vertex_heads = map (λ row. (row.0.now, row.1)) VERTEX_HEADS

unfoldable pub master_heads : List (Word × MasterHead)
master_heads = map (λ row. (row.0.now, row.1)) MASTER_HEADS

unfoldable pub input_heads : List (Word × InputHead)
input_heads = map (λ row. (row.0.now, row.1)) INPUT_HEADS

unfoldable pub output_heads : List (Word × OutputHead)
output_heads = map (λ row. (row.0.now, row.1)) OUTPUT_HEADS

unfoldable pub ways : List (Word × Way)
ways = map (λ row. (row.0.now, row.1)) WAYS

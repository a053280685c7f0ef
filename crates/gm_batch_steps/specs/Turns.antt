-- The turns of an each for the rows of a batch: one for each edge of each row.
use Rattle.std.specs.Prelude.{◌≡◌, ◌<◌, ℕ, nat_lt, All, Bool, false, true, Ok, Some, List, [], ◌∷◌, ◌++◌, length, map, slice_index_or}
use Rattle.std.specs.List.{AllByRecursion, AllZip, flat_map}
use Rattle.gm_value.specs.declared.values.Value.TheVariants.{At, Flag}
use Rattle.gm_columns.specs.Columns.{IsStorable}
use Rattle.gm_model.specs.Graphs.{HasNode, NumberedGraph, Step, out_steps}
use Rattle.gm_graph.specs.Walks.{edge_at}
use Rattle.gm_image.specs.Parts.{all_leaves}
use Rattle.gm_image.specs.Program.{Line}
use Rattle.gm_image.specs.Term as T
use Rattle.gm_image.specs.Term.{Term}
use Rattle.gm_kernels.specs.Pointwise.{held}
use Rattle.gm_machine.specs.Expressions.{View, value}
use Rattle.gm_machine.specs.Taking.{Contribution}
use Rattle.gm_machine.specs.Vertex.{Message, VertexContext, leaves, lines_after, view}
use Rattle.gm_batch_steps.specs.declared.batch_states.BatchContext.{BatchContext}
use Rattle.gm_batch_steps.specs.declared.batch_states.BatchState.{BatchState}
use Rattle.gm_batch_steps.specs.declared.turns.Turns.{Turns}
use Rattle.gm_batch_steps.specs.BatchStates.{AreDistinct, context_in, row_state}

-- a turn of a row along an edge
pub record Turn : Type 0 where
  pub row : ℕ
  pub step : Step

-- the turns of rows, one after another, those of a row along the edges from its node in their order
abbrev pub turns_of : BatchContext → List ℕ → List Turn
turns_of c rows = flat_map (λ row. map (λ e. record { row = row; step = e }) (out_steps c.graph.now (slice_index_or c.nodes.now row 0))) rows

-- whether edges lead from the node of a row
abbrev pub has_edges : BatchContext → ℕ → Bool
has_edges c row = nat_lt 0 (length (out_steps c.graph.now (slice_index_or c.nodes.now row 0)))

-- the node of a row is one of the graph
abbrev pub IsInGraph : BatchContext → ℕ → Type 0
IsInGraph c row = HasNode c.graph.now (slice_index_or c.nodes.now row 0)

-- the turns that rows of numbers say: the index of each turn's row, the node that it leads to, and its edge
abbrev pub turn_list : List ℕ → List ℕ → List ℕ → List ℕ → List Turn
turn_list rows (k ∷ ks) (n ∷ ns) (e ∷ es) = record { row = slice_index_or rows k 0; step = record { node = n; edge = e } } ∷ turn_list rows ks ns es
turn_list rows _ _ _ = []

-- the edges of rows of the graph
abbrev pub edges_at : NumberedGraph → List ℕ → List ℕ
edges_at g edges = map (λ e. edge_at g (Some e)) edges

abbrev pub turns_in : BatchContext → Turns → List Turn
turns_in c t = turn_list t.rows.items t.sources.items t.targets.items (edges_at c.graph.now t.edges.items)

-- rows of a batch, each once, and turns of these rows to nodes that have a place in memory
pub record AreTurns (c : BatchContext) (t : Turns) : Type 0 where
  pub rows_within : All (λ row. row < length c.nodes.now) t.rows.items
  pub distinct : AreDistinct t.rows.items
  pub sources : All (λ k. k < length t.rows.items) t.sources.items
  pub targets : length t.targets.items ≡ length t.sources.items
  pub edges : length t.edges.items ≡ length t.sources.items
  pub storable : All (λ node. IsStorable (At (Some node))) t.targets.items

-- what a turn sees
abbrev pub turn_context : BatchContext → Turn → VertexContext
turn_context c t = record (context_in c t.row) { near = t.step }

abbrev pub turn_view : BatchContext → BatchState → Turn → View
turn_view c s t = view (turn_context c t) (row_state s [] [] t.row)

-- a turn runs lines to their end, whatever its row sent and put before, and sends this more
abbrev pub TurnRuns : List Line → BatchContext → BatchState → (Turn → List Message) → Turn → Type 0
TurnRuns ls c s sent t = (messages : List Message) (puts : List Contribution) →
    lines_after (turn_context c t) ls 0 (row_state s messages puts t.row) ≡ leaves (row_state s (messages ++ sent t) puts t.row)

-- turns run lines and send messages, one turn after another
pub record TurnsSend (ls : List Line) (c : BatchContext) (s : BatchState) (turns : List Turn) (messages : List Message) : Type 0 where
  pub sent : Turn → List Message
  pub runs : AllByRecursion (TurnRuns ls c s sent) turns
  pub are : messages ≡ flat_map sent turns

-- the turns in which an expression is True, where it is True or False in each
pub record ArePartedTurns (a : Term) (c : BatchContext) (s : BatchState) (turns inside : List Turn) : Type 0 where
  pub flags : List Bool
  pub truths : AllZip (λ t flag. value (turn_view c s t) a ≡ Ok (Flag flag)) turns flags
  pub are : inside ≡ held flags turns

-- what stands alone in a term does not see the edge of a turn, nor its neighbour
abbrev pub is_own : Term → Bool
is_own T.Neighbour = false
is_own (T.Column c) = false
is_own t = true

-- nor does a term
abbrev pub sees_own : Term → Bool
sees_own t = all_leaves is_own t

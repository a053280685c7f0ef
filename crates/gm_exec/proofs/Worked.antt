-- The run of a small image over two nodes, worked out by hand: each node's sum over the edges that lead to it. It is watched
-- by a counter and a table.
use Rattle.std.proofs.Common.{◌≡◌, ◌<◌, ◌+◌, ℕ, zero, suc, List, [], ◌∷◌, ◌++◌, length, None, true, false, pos, refl, arith}
use Rattle.std.specs.Prelude.{codes, slice_index, slice_index_or}
use Rattle.gm_base.specs.declared.statuses.Status.TheVariants.{Done as DoneStatus}
use Rattle.gm_value.specs.declared.values.VType.TheVariants as types
use Rattle.gm_value.specs.declared.values.Value.{Value}
use Rattle.gm_value.specs.declared.values.Value.TheVariants.{I32}
use Rattle.gm_graph.specs.declared.builds.Walks.TheVariants.{Outward}
use Rattle.gm_model.specs.declared.outcomes.Outcome.TheVariants.{Done}
use Rattle.gm_model.specs.Graphs.{Edge, IsGraph, IsWithin, NumberedGraph}
use Rattle.gm_machine.proofs.Samples.{total, graph_of, edge, ints}
use Rattle.gm_machine.specs.Notes.{noted}
use Rattle.gm_observe.specs.declared.notes.Note.{Note}
use Rattle.gm_observe.specs.Notes.{counter_text, table_text}
use Rattle.gm_listing.specs.declared.outputs.Ending.TheVariants.{Counts}
use Rattle.gm_listing.specs.Listing.{listing}
use Rattle.gm_exec.specs.Programs.{inputs_of, property_outputs, scalar_outputs, shape_of}
use Rattle.gm_exec.specs.Runs.{Ran, audience}

-- the edges 0 1, 0 1 and 1 1, with 5 and 7 at the nodes
abbrev two : NumberedGraph
two = graph_of (0 ∷ 1 ∷ []) (pos 5 ∷ pos 7 ∷ []) (edge 0 1 ∷ edge 0 1 ∷ edge 1 1 ∷ [])

-- it is a graph
ascending : (k : ℕ) → k + 1 < 2 → slice_index (0 ∷ 1 ∷ []) k < slice_index (0 ∷ 1 ∷ []) (k + 1)
ascending zero few = omega arith
ascending (suc k) few = absurd (omega (arith, few))

within : (k : ℕ) (d : Edge) → k < 3 → IsWithin 2 (slice_index_or (edge 0 1 ∷ edge 0 1 ∷ edge 1 1 ∷ []) k d)
within zero d few = record { from_node = omega arith; to_node = omega arith }
within (suc zero) d few = record { from_node = omega arith; to_node = omega arith }
within (suc (suc zero)) d few = record { from_node = omega arith; to_node = omega arith }
within (suc (suc (suc k))) d few = absurd (omega (arith, few))

rows : (k : ℕ) (d : List Value) → k < 1 → length (slice_index_or (ints (pos 5 ∷ pos 7 ∷ []) ∷ []) k d) ≡ 2
rows zero d few = refl
rows (suc k) d few = absurd (omega (arith, few))

two-is-graph : IsGraph two
two-is-graph = record {
  ascending = ascending;
  within = within;
  few_nodes = omega arith;
  few_edges = omega arith;
  node_rows = rows;
  edge_rows = λ k d few. absurd (omega (arith, few));
}

-- three messages in the first superstep, and none in the second
abbrev notes : List Note
notes = record { step = 1; block = 0; vertices = 2; messages = 3 } ∷ record { step = 2; block = 1; vertices = 2; messages = 0 } ∷ []

-- what is said: the sums 0 and 17
abbrev said : List ℕ
said = listing [] (codes "s" ∷ []) (0 ∷ 1 ∷ []) (Counts 2 3) (Done [] None ((I32 (pos 0) ∷ I32 (pos 17) ∷ []) ∷ []) 0)

pub total-shape : shape_of total ≡ record { nodes = types.I32 ∷ []; edges = []; walks = Outward }
total-shape = refl

pub total-inputs : inputs_of total ≡ []
total-inputs = refl

pub total-scalars : scalar_outputs total ≡ []
total-scalars = refl

pub total-properties : property_outputs total ≡ codes "s" ∷ []
total-properties = refl

pub total-told : noted total two [] 0 ≡ notes
total-told = refl

-- watched, it is told to both observers, and they report in their order
pub total-watched : Ran total 0 true (audience (counter_text ∷ table_text ∷ []) ([] ∷ [] ∷ []) (notes ∷ notes ∷ [])) two [] (said ++ (counter_text notes ++ (table_text notes ++ []))) DoneStatus
total-watched = record { known = two-is-graph; told = refl; says = (refl, refl) }

-- not watched, nobody is told
pub total-alone : Ran total 0 false (audience (counter_text ∷ []) ([] ∷ []) ([] ∷ [])) two [] (said ++ []) DoneStatus
total-alone = record { known = two-is-graph; told = refl; says = (refl, refl) }

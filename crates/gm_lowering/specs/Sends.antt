-- A message loop's first superstep: each node sends what it is asked for along its edges.
use Rattle.std.specs.Prelude.{◌≡◌, ℕ, Some, Ok, List, [], ◌∷◌, length, map, if◌then◌else◌}
use Rattle.gm_value.specs.declared.values.Value.{Value}
use Rattle.gm_value.specs.declared.values.Value.TheVariants.{At}
use Rattle.gm_value.specs.Operations.{is_true}
use Rattle.gm_model.specs.Graphs.{NumberedGraph, Step, out_steps, in_steps}
use Rattle.gm_ast.specs.declared.tree.Direction.TheVariants.{Out, In}
use Rattle.gm_ast.specs.declared.tree.Domain.{Domain}
use Rattle.gm_ast.specs.declared.tree.Key.{Key}
use Rattle.gm_ast.specs.Program.{Expr}
use Rattle.gm_image.specs.Program.{Program, Block, Send}
use Rattle.gm_image.specs.Term.{Neighbour}
use Rattle.gm_machine.specs.Expressions.{value_at, edge_value_at, count, value}
use Rattle.gm_machine.specs.Machine.{context_at}
use Rattle.gm_machine.specs.Vertex.{Message, view, begun, leaves, steps, vertex_after}
use Rattle.gm_lowering.specs.Layouts.{Layout}
use Rattle.gm_lowering.specs.Places.{Segment}
use Rattle.gm_lowering.specs.Terms.{own_env, term}
use Rattle.gm_lowering.specs.Plans.{Load, SenderItself, SenderProperty, SenderDegree, EdgeValue}
use Rattle.gm_lowering.specs.Bodies.{under}
use Rattle.gm_lowering.specs.Blocks.{load_term, direction_of, each_lines, body_block}

-- the block that sends loads of a kind along the edges of each node that passes a mask
abbrev pub send_block : Layout → Segment → ℕ → Key → Expr → Domain → ℕ → List Load → Block
send_block c seg n key mask d kind loads =
    body_block (under (term (own_env c seg n) key mask) (each_lines d (Send kind Neighbour (map (load_term c) loads) ∷ [])))

-- what a load has at a node with its fields, along an edge
abbrev pub load_at : Layout → NumberedGraph → ℕ → List Value → Step → Load → Value
load_at c g k fields e SenderItself = At (Some k)
load_at c g k fields e (SenderProperty p) = value_at fields (c.field p)
load_at c g k fields e (SenderDegree Out) = count (length (out_steps g k))
load_at c g k fields e (SenderDegree In) = count (length (in_steps g k))
load_at c g k fields e (EdgeValue p) = edge_value_at g (c.column p) e.edge

-- the message of a node along an edge
abbrev pub message_along : Layout → NumberedGraph → ℕ → List Load → ℕ → List Value → Step → Message
message_along c g kind loads k fields e = record { to = e.node; kind = kind; values = map (load_at c g k fields e) loads }

-- the step of a vertex with such a block sends a message along each of its edges, in order, if its node passes the mask; it does nothing else, and never faults
abbrev pub SendBlocksSend : Type 0
SendBlocksSend =
    (c : Layout) (seg : Segment) (p : Program) (g : NumberedGraph) (n kind : ℕ) (key : Key) (mask : Expr) (d : Domain) (loads : List Load) (globals fields : List Value) (k : ℕ) (z : Value)
    → value (view (context_at g globals k) (begun p.registers fields)) (term (own_env c seg n) key mask) ≡ Ok z
    → vertex_after p (send_block c seg n key mask d kind loads) (context_at g globals k) [] fields
    ≡ leaves (record (begun p.registers fields) { messages = if is_true z then map (message_along c g kind loads k fields) (steps (direction_of d) g k) else [] })

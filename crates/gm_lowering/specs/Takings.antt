-- What is sent for a reduction is taken at its receiver as it was given.
use Rattle.std.specs.Prelude.{◌≡◌, ℕ, true, List, [], ◌∷◌, ◌++◌}
use Rattle.std.specs.List.{list_all}
use Rattle.gm_ast.specs.declared.tree.Target.{Target}
use Rattle.gm_ast.specs.declared.tree.Target.TheVariants as T
use Rattle.gm_semantics.specs.declared.slots.Slot.{Slot}
use Rattle.gm_semantics.specs.declared.slots.Slot.TheVariants.{Node}
use Rattle.gm_semantics.specs.Iterations.{contribution}
use Rattle.gm_machine.specs.Vertex.{VertexContext, VertexState, leaves, lines_after}
use Rattle.gm_lowering.specs.Layouts.{Layout}
use Rattle.gm_lowering.specs.Places.{Segment, place_index}
use Rattle.gm_lowering.specs.Terms.{Env}
use Rattle.gm_lowering.specs.Plans.{Away}
use Rattle.gm_lowering.specs.Blocks.{taking_handler}
use Rattle.gm_lowering.specs.Sites.{same_length, given}
use Rattle.gm_lowering.specs.OwnLoops.{are_any, is_kept_property}

-- the slots of properties at a node
abbrev pub slots_at : ℕ → List Target → List Slot
slots_at j [] = []
slots_at j (T.Scalar x at ∷ ts) = slots_at j ts
slots_at j (T.Property x p at ∷ ts) = Node p j ∷ slots_at j ts

-- the handler of a reduction through a node variable folds the message's values: one contribution to the receiver's properties
abbrev pub TakingHandlersTake : Type 0
TakingHandlersTake =
    (c : Layout) (seg : Segment) (v : Env) (kind i j : ℕ) (a : Away) (s : VertexContext) (w : VertexState)
    → v.place ≡ place_index seg
    → are_any a.targets ≡ true
    → list_all (is_kept_property c i) a.targets ≡ true
    → same_length a.targets s.message ≡ true
    → lines_after s (taking_handler c seg kind a).lines 0 w
    ≡ leaves (record w { folds = w.folds ++ given c v (contribution a.total a.reduce (slots_at j a.targets, s.message)) ∷ [] })

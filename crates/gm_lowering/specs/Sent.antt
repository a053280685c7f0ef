-- What is sent: reductions through node variables, and the messages that carry what they give.
use Rattle.std.specs.Prelude.{◌<◌, ℕ, nat_lt, Bool, false, not, ◌&&◌, ◌||◌, List, [], ◌∷◌, length}
use Rattle.std.specs.List.{list_all}
use Rattle.gm_value.specs.declared.reductions.Reduce.{Reduce}
use Rattle.gm_model.specs.Graphs.{NumberedGraph, node_count}
use Rattle.gm_ast.specs.declared.tree.Sort.TheVariants as Sorts
use Rattle.gm_ast.specs.declared.tree.Target.{Target}
use Rattle.gm_ast.specs.declared.tree.Target.TheVariants as T
use Rattle.gm_ast.specs.Names.{is}
use Rattle.gm_ast.specs.Ways.{is_in}
use Rattle.gm_ast.specs.Program.{Expr}
use Rattle.gm_semantics.specs.Contributions.{Contribution}
use Rattle.gm_semantics.specs.Statements.{variable_at}
use Rattle.gm_machine.specs.Vertex.{Message}
use Rattle.gm_lowering.specs.Layouts.{Layout, is_global}
use Rattle.gm_lowering.specs.Plans.{Away}
use Rattle.gm_lowering.specs.Sites.{same_length}
use Rattle.gm_lowering.specs.OwnLoops.{is_kept_property}
use Rattle.gm_lowering.specs.MessageLoops.{inner_gives}
use Rattle.gm_lowering.specs.TakingSteps.{Carried}

-- whether a variable is declared as a scalar, of the procedure or of a loop, or as an iterator, such as that of a For around
abbrev pub may_hold_node : Layout → ℕ → Bool
may_hold_node c x = nat_lt x (length c.declarations) && (is Sorts.Scalar (variable_at c.declarations x) || is_global (variable_at c.declarations x))

-- a reduction through a node variable that is none of some iterators, one for all its targets, which have fields
abbrev pub sends_through : Layout → List ℕ → (Expr → Bool) → Reduce → List Target → List Expr → Bool
sends_through c its found r (T.Property x p at ∷ ts) es =
    let all = T.Property x p at ∷ ts in
    not (is_in its x) && (may_hold_node c x && (list_all (is_kept_property c x) all && (same_length all es && list_all found es)))
sends_through c its found r _ es = false

-- an inner body reduces as one that sends nothing, to properties of a node i; or through a node variable that is none of its two iterators
abbrev pub sender_gives : Layout → (n i : ℕ) → (Expr → Bool) → Reduce → List Target → List Expr → Bool
sender_gives c n i found r ts es = inner_gives c i found r ts es || sends_through c (n ∷ (i ∷ [])) found r ts es

-- contributions are carried by messages to nodes of a graph, one each, in order
abbrev pub AreSent : ℕ → List Away → NumberedGraph → List Contribution → List Message → Type 0
AreSent kind as' g [] [] = Unit {0}
AreSent kind as' g (x ∷ xs) (m ∷ ms) = Carried kind as' x m × (m.to < node_count g) × AreSent kind as' g xs ms
AreSent kind as' g _ _ = ⊥

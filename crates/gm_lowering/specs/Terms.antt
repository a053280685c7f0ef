-- Expressions as terms, by where their leaves are found.
use Rattle.std.specs.Prelude.{ℕ, nat_eq, Bool, if◌then◌else◌, Option, Some, None}
use Rattle.gm_base.specs.declared.places.Place.{Place}
use Rattle.gm_value.specs.declared.values.VType.{VType}
use Rattle.gm_value.specs.declared.values.Value.TheVariants.{At}
use Rattle.gm_value.specs.Numbers.{zero_of}
use Rattle.gm_ast.specs.declared.tree.Direction.{Direction}
use Rattle.gm_ast.specs.declared.tree.Direction.TheVariants.{Out, In}
use Rattle.gm_ast.specs.declared.tree.Key.{Key}
use Rattle.gm_ast.specs.Program as S
use Rattle.gm_ast.specs.Program.{Expr}
use Rattle.gm_forms.specs.Order.{can_fail1, can_fail2}
use Rattle.gm_semantics.specs.Statements.{variable_at}
use Rattle.gm_image.specs.Term.{Term, Const, Global, NodeCount, EdgeCount, Field, Self, OutDegree, InDegree, Register, Neighbour, Column, Live, Unary, Binary, And, Or, Choose}
use Rattle.gm_lowering.specs.Layouts.{Layout, is_global, is_register}
use Rattle.gm_lowering.specs.Places.{Segment, place_index}

-- where the leaves of expressions are found: scalars and nodes; properties and degrees by the variable through which they are read; edge properties; and the indices of places
pub record Env : Type 0 where
  pub scalar : ℕ → Term
  pub property : ℕ → ℕ → Term
  pub degree : Direction → ℕ → Term
  pub edge : ℕ → Term
  pub place : Key → Place → ℕ

-- an operation that cannot fault has no place
abbrev pub place_if : Bool → ℕ → Option ℕ
place_if fails place = if fails then Some place else None

-- an expression with no reduction in it, whose operators have a key
abbrev pub term : Env → Key → Expr → Term
term v k (S.Const c) = Const c
term v k (S.Var x at) = v.scalar x
term v k (S.Property x p at) = v.property x p
term v k (S.EdgeProperty x p at) = v.edge p
term v k (S.Degree d x at) = v.degree d x
term v k S.NodeCount = NodeCount
term v k S.EdgeCount = EdgeCount
term v k (S.Live x at) = Live (v.place k at) (v.scalar x)
term v k (S.Unary op at a) = Unary op (place_if (can_fail1 op) (v.place k at)) (term v k a)
term v k (S.Binary op at a b) = Binary op (place_if (can_fail2 op) (v.place k at)) (term v k a) (term v k b)
term v k (S.Both a b) = And (term v k a) (term v k b)
term v k (S.Either a b) = Or (term v k a) (term v k b)
term v k (S.Choose c a b) = Choose (term v k c) (term v k a) (term v k b)
term v k (S.Folded f h c a) = Const (At None)

-- a value that is given, or a first value
abbrev pub term_or_zero : Env → Key → VType → Option Expr → Term
term_or_zero v k t None = Const (zero_of t)
term_or_zero v k t (Some e) = term v k e

-- a scalar in the master list: one of the procedure in its global. What is declared in parallel loops has its first value there
abbrev pub phase_scalar : Layout → ℕ → Term
phase_scalar c x =
    let v = variable_at c.declarations x in if is_global v then Global (c.global x) else Const (zero_of v.vtype)

-- a scalar at a vertex: a local of a loop in its register
abbrev pub vertex_scalar : Layout → ℕ → Term
vertex_scalar c x = if is_register (variable_at c.declarations x) then Register (c.register x) else phase_scalar c x

-- a vertex's own degree
abbrev pub own_degree : Direction → Term
own_degree Out = OutDegree
own_degree In = InDegree

-- in the master list
abbrev pub master_env : Layout → Segment → Env
master_env c g = record {
  scalar = phase_scalar c;
  property = λ x p. Field (c.field p);
  degree = λ d x. own_degree d;
  edge = λ p. Column (c.column p);
  place = place_index g;
}

-- at a vertex that stands for an iterator
abbrev pub own_env : Layout → Segment → ℕ → Env
own_env c g n = record (master_env c g) { scalar = λ x. if nat_eq x n then Self else vertex_scalar c x }

-- at a vertex in an each, by its iterator and the neighbour's
abbrev pub each_env : Layout → Segment → ℕ → ℕ → Env
each_env c g n i = record (own_env c g n) { scalar = λ x. if nat_eq x i then Neighbour else (own_env c g n).scalar x }

-- Whether a program tells values alone: tests on its tree beside those of types.
use Rattle.std.specs.Prelude.{ℕ, nat_lt, nat_le, Bool, true, ◌&&◌, ◌||◌, List, [], ◌∷◌, Option, Some, None}
use Rattle.gm_value.specs.declared.values.Value.{Value}
use Rattle.gm_value.specs.declared.values.Value.TheVariants.{At}
use Rattle.gm_value.specs.declared.values.VType.TheVariants as V
use Rattle.gm_value.specs.Operations.{same_type}
use Rattle.gm_ast.specs.declared.tree.Declaration.{Declaration}
use Rattle.gm_ast.specs.declared.tree.Sort.TheVariants as Sorts
use Rattle.gm_ast.specs.Program.{Expr, Const, Var, Property, EdgeProperty, Degree, NodeCount, EdgeCount, Live, Unary, Binary, Both, Either, Choose, Folded, Stmt, Skip, Then, Declare, DeclareEdge, Assign, Defer, Combine, Group, Foreach, For, If, While, Do, InBfs, InBfsBoth, Return, Program}
use Rattle.gm_ast.specs.Ways.{is_in}
use Rattle.gm_semantics.specs.Outcomes.{is_of}
use Rattle.gm_forms.specs.Typing.{type_at}

-- what values are judged by: the limit of nodes, the declarations, and how many of the first of these are inputs
pub record TypeTable : Type 0 where
  pub limit : ℕ
  pub declarations : List Declaration
  pub inputs : ℕ

-- a program's table
abbrev pub table_of : ℕ → Program → TypeTable
table_of limit p = record { limit = limit; declarations = p.declarations; inputs = p.inputs }

-- whether a variable holds a value of its type: a scalar, what is no input, or one of the iterators around. What stands as a scalar in an input of another sort, as in the graph, is no value of it
abbrev pub holds : TypeTable → List ℕ → ℕ → Bool
holds table its x = is_of table.declarations Sorts.Scalar x || (nat_le table.inputs x || is_in its x)

-- whether a variable is declared with nodes as its values, as iterators are
abbrev pub takes_nodes : TypeTable → ℕ → Bool
takes_nodes table x = same_type V.Node (type_at table.declarations x)

-- whether a value that is a node has an index below a limit
abbrev pub is_below : ℕ → Value → Bool
is_below limit (At (Some k)) = nat_lt k limit
is_below limit _ = true

-- whether an expression tells values alone, inside some iterators: a constant that is a node is below the limit, a variable that is told holds a value, and a reduction's iterator takes nodes
abbrev pub tells : TypeTable → List ℕ → Expr → Bool
tells table its (Const v) = is_below table.limit v
tells table its (Var x at) = holds table its x
tells table its (Property x p at) = true
tells table its (EdgeProperty x p at) = true
tells table its (Degree d x at) = true
tells table its NodeCount = true
tells table its EdgeCount = true
tells table its (Live x at) = true
tells table its (Unary op at e) = tells table its e
tells table its (Binary op at a b) = tells table its a && tells table its b
tells table its (Both a b) = tells table its a && tells table its b
tells table its (Either a b) = tells table its a && tells table its b
tells table its (Choose c a b) = tells table its c && (tells table its a && tells table its b)
tells table its (Folded f h test e) =
    takes_nodes table h.iterator && (tells table (h.iterator ∷ its) test && tells table (h.iterator ∷ its) e)

abbrev pub may_tell : TypeTable → List ℕ → Option Expr → Bool
may_tell table its None = true
may_tell table its (Some e) = tells table its e

abbrev pub all_tell : TypeTable → List ℕ → List Expr → Bool
all_tell table its [] = true
all_tell table its (e ∷ es) = tells table its e && all_tell table its es

-- whether a statement tells values alone
abbrev pub tells_in : TypeTable → List ℕ → Stmt → Bool
tells_in table its Skip = true
tells_in table its (Then a b) = tells_in table its a && tells_in table its b
tells_in table its (Declare k x e) = may_tell table its e
tells_in table its (DeclareEdge x y at) = true
tells_in table its (Assign k t e) = tells table its e
tells_in table its (Defer k t e) = tells table its e
tells_in table its (Combine k total r ts es) = all_tell table its es
tells_in table its (Group k at g p e) = takes_nodes table g && tells table (g ∷ its) e
tells_in table its (Foreach k at h test body) =
    takes_nodes table h.iterator && (tells table (h.iterator ∷ its) test && tells_in table (h.iterator ∷ its) body)
tells_in table its (For k at h test body) =
    takes_nodes table h.iterator && (tells table (h.iterator ∷ its) test && tells_in table (h.iterator ∷ its) body)
tells_in table its (If k c a b) = tells table its c && (tells_in table its a && tells_in table its b)
tells_in table its (While k at c body) = tells table its c && tells_in table its body
tells_in table its (Do k at body c) = tells_in table its body && tells table its c
tells_in table its (InBfs k at s test body) =
    takes_nodes table s.iterator && (tells table (s.iterator ∷ its) test && tells_in table (s.iterator ∷ its) body)
tells_in table its (InBfsBoth k at s test body back_key back_test back) =
    takes_nodes table s.iterator && (tells table (s.iterator ∷ its) test && (tells_in table (s.iterator ∷ its) body
    && (tells table (s.iterator ∷ its) back_test && tells_in table (s.iterator ∷ its) back)))
tells_in table its (Return k at e) = may_tell table its e

-- whether a program tells values alone
abbrev pub tells_values : ℕ → Program → Bool
tells_values limit p = tells_in (table_of limit p) [] p.body

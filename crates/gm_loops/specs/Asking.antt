-- What a program asks of the edges that lead to nodes: an in-degree counts them, and a range over in-neighbours or, in a search,
-- over the neighbours one level up, goes along them against their direction. Who evaluates a program that asks has the rows of
-- these edges.
use Rattle.std.specs.Prelude.{Bool, true, false, ◌&&◌, Option, Some, None}
use Rattle.std.specs.List.{list_all}
use Rattle.gm_ast.specs.declared.tree.Direction.{Direction}
use Rattle.gm_ast.specs.declared.tree.Direction.TheVariants as directions
use Rattle.gm_ast.specs.declared.tree.Domain.{Domain}
use Rattle.gm_ast.specs.declared.tree.Domain.TheVariants as domains
use Rattle.gm_ast.specs.Program as P
use Rattle.gm_ast.specs.Program.{Expr, Stmt}

-- a range does not lead against the edges
abbrev pub runs_outward : Domain → Bool
runs_outward domains.InNbrs = false
runs_outward domains.UpNbrs = false
runs_outward d = true

-- a degree does not count the edges that lead to a node
abbrev pub counts_outward : Direction → Bool
counts_outward directions.In = false
counts_outward directions.Out = true

-- an expression asks nothing of the edges that lead to a node
abbrev pub reads_outward : Expr → Bool
reads_outward (P.Degree d x at) = counts_outward d
reads_outward (P.Unary op at e) = reads_outward e
reads_outward (P.Binary op at a b) = reads_outward a && reads_outward b
reads_outward (P.Both a b) = reads_outward a && reads_outward b
reads_outward (P.Either a b) = reads_outward a && reads_outward b
reads_outward (P.Choose c a b) = reads_outward c && (reads_outward a && reads_outward b)
reads_outward (P.Folded f head filter e) = runs_outward head.domain && (reads_outward filter && reads_outward e)
reads_outward e = true

-- nor does a value that may be absent
abbrev pub value_outward : Option Expr → Bool
value_outward None = true
value_outward (Some e) = reads_outward e

-- nor does a statement
abbrev pub goes_outward : Stmt → Bool
goes_outward (P.Then a b) = goes_outward a && goes_outward b
goes_outward (P.Declare k x e) = value_outward e
goes_outward (P.Assign k t e) = reads_outward e
goes_outward (P.Defer k t e) = reads_outward e
goes_outward (P.Combine k total r ts es) = list_all reads_outward es
goes_outward (P.Group k at g p e) = reads_outward e
goes_outward (P.Foreach k at head f s) = runs_outward head.domain && (reads_outward f && goes_outward s)
goes_outward (P.For k at head f s) = runs_outward head.domain && (reads_outward f && goes_outward s)
goes_outward (P.If k c a b) = reads_outward c && (goes_outward a && goes_outward b)
goes_outward (P.While k at c s) = reads_outward c && goes_outward s
goes_outward (P.Do k at s c) = goes_outward s && reads_outward c
goes_outward (P.InBfs k at search f s) = reads_outward f && goes_outward s
goes_outward (P.InBfsBoth k at search f s back_key h back) = (reads_outward f && goes_outward s) && (reads_outward h && goes_outward back)
goes_outward (P.Return k at e) = value_outward e
goes_outward s = true

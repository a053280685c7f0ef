-- Locals of the bodies of parallel loops through which something is reduced, read into locals of their own just before.
use Rattle.std.specs.Prelude.{ℕ, zero, suc, ◌+◌, nat_eq, ◌&&◌, Bool, true, false, if◌then◌else◌, List, [], ◌∷◌, ◌++◌, length, map, Option, Some, None}
use Rattle.gm_base.specs.declared.places.Place.{Place}
use Rattle.gm_value.specs.declared.reductions.Reduce.{Reduce}
use Rattle.gm_value.specs.declared.values.VType.TheVariants.{Node}
use Rattle.gm_ast.specs.declared.tree.Declaration.{Declaration}
use Rattle.gm_ast.specs.declared.tree.Head.{Head}
use Rattle.gm_ast.specs.declared.tree.Key.{Key}
use Rattle.gm_ast.specs.declared.tree.Sort.TheVariants.{Scalar}
use Rattle.gm_ast.specs.declared.tree.Target.{Target}
use Rattle.gm_ast.specs.declared.tree.Target.TheVariants as T
use Rattle.gm_ast.specs.declared.tree.TotalKey.{TotalKey}
use Rattle.gm_ast.specs.Names.{sort_eq}
use Rattle.gm_ast.specs.Program.{Expr, Var, always, Stmt, Skip, Then, Declare, Combine, Foreach, For, If, While, Do, Program, sequence}
use Rattle.gm_semantics.specs.Statements.{variable_at}
use Rattle.gm_forms.specs.Cut.{is_own_loop}
use Rattle.gm_forms.specs.Forms.{depth_at}
use Rattle.gm_dissect.specs.Loops.{each_loop}

-- whether a variable is a scalar of an outer body
abbrev pub is_body_local : List Declaration → ℕ → Bool
is_body_local ds x = sort_eq Scalar (variable_at ds x).sort && nat_eq (depth_at ds x) 1

-- the read of such a local through which targets are reached, if they are
abbrev pub node_before : List Declaration → List Target → Option Expr
node_before ds (T.Property x p at ∷ ts) = if is_body_local ds x then Some (Var x at) else None
node_before ds _ = None

-- a property through another node variable
abbrev pub through : ℕ → Target → Target
through y (T.Scalar x at) = T.Scalar x at
through y (T.Property x p at) = T.Property y p at

-- a part that stands apart from what is around it, under a condition that holds, so that it is a piece of its own; or as it is
abbrev pub separate : Bool → Key → Stmt → Stmt
separate true k s = If k always s Skip
separate false k s = s

-- a reduction, whose node is read into a local y first, if it is to be: both apart, in an outer body
abbrev pub read_first : Bool → Option Expr → ℕ → Key → TotalKey → Reduce → List Target → List Expr → Stmt
read_first outer None y k total r ts es = Combine k total r ts es
read_first outer (Some e) y k total r ts es = separate outer k (sequence (Declare k y (Some e) ∷ Combine k total r (map (through y) ts) es ∷ []))

abbrev pub one_if : Option Expr → ℕ
one_if None = zero
one_if (Some e) = suc zero

-- how many nodes a body reads so
abbrev pub nodes_in : List Declaration → Stmt → ℕ
nodes_in ds (Then a b) = nodes_in ds a + nodes_in ds b
nodes_in ds (Combine k total r ts es) = one_if (node_before ds ts)
nodes_in ds (If k c a b) = nodes_in ds a + nodes_in ds b
nodes_in ds (Foreach k at h test body) = nodes_in ds body
nodes_in ds _ = zero

-- a body, an outer or an inner one, that reads them into locals of their own, from the local first on, and in inner bodies from the local deep on. done: how many nodes are read before
abbrev pub nodes_read : List Declaration → Bool → ℕ → ℕ → ℕ → Stmt → Stmt
nodes_read ds outer first deep done (Then a b) = Then (nodes_read ds outer first deep done a) (nodes_read ds outer first deep (done + nodes_in ds a) b)
nodes_read ds outer first deep done (Combine k total r ts es) = read_first outer (node_before ds ts) (first + done) k total r ts es
nodes_read ds outer first deep done (If k c a b) = If k c (nodes_read ds outer first deep done a) (nodes_read ds outer first deep (done + nodes_in ds a) b)
nodes_read ds outer first deep done (Foreach k at h test body) = Foreach k at h test (nodes_read ds false deep deep done body)
nodes_read ds outer first deep done s = s

-- a loop that is not of own statements with such a body
abbrev pub nodes_loop : List Declaration → ℕ → ℕ → Key → Place → Head → Expr → Stmt → Stmt
nodes_loop ds first deep k at h test body = if is_own_loop h.iterator body then Foreach k at h test body else Foreach k at h test (nodes_read ds true first deep zero body)

-- how many nodes the loops of a sequential phase read at most
abbrev pub all_nodes_in : List Declaration → Stmt → ℕ
all_nodes_in ds (Then a b) = all_nodes_in ds a + all_nodes_in ds b
all_nodes_in ds (Foreach k at h test body) = nodes_in ds body
all_nodes_in ds (For k at h test body) = all_nodes_in ds body
all_nodes_in ds (If k c a b) = all_nodes_in ds a + all_nodes_in ds b
all_nodes_in ds (While k at c body) = all_nodes_in ds body
all_nodes_in ds (Do k at body c) = all_nodes_in ds body
all_nodes_in ds _ = zero

-- a local that holds a node, inside so many parallel loops, which no text names, and as many of them as are read
abbrev pub node_local : ℕ → Declaration
node_local depth = record { name = []; variable = record { sort = Scalar; vtype = Node; depth = depth } }

abbrev pub node_locals : ℕ → ℕ → List Declaration
node_locals depth zero = []
node_locals depth (suc n) = node_local depth ∷ node_locals depth n

-- a program whose loops read such nodes first. The locals are the last of its variables, and each loop begins with the first of them
abbrev pub with_nodes_read : Program → Program
with_nodes_read program =
    let ds = program.declarations in
    let n = all_nodes_in ds program.body in
    record program {
      declarations = ds ++ (node_locals 1 n ++ node_locals 2 n);
      body = each_loop (nodes_loop ds (length ds) (length ds + n)) program.body;
    }

-- Rows of the passes: what loops are written as.
use Rattle.std.specs.Prelude.{◌≡◌, true, false, List, [], ◌∷◌, ◌++◌, Some, None, refl}
use Rattle.gm_base.specs.declared.places.Place.{Place}
use Rattle.gm_value.specs.declared.operations.Op2.TheVariants.{Gt}
use Rattle.gm_value.specs.declared.reductions.Reduce.TheVariants.{Sum}
use Rattle.gm_value.specs.declared.values.VType.TheVariants.{I32}
use Rattle.gm_ast.specs.declared.tree.Declaration.{Declaration}
use Rattle.gm_ast.specs.declared.tree.Domain.TheVariants.{Nodes, OutNbrs}
use Rattle.gm_ast.specs.declared.tree.Head.{Head}
use Rattle.gm_ast.specs.declared.tree.Key.{Key}
use Rattle.gm_ast.specs.declared.tree.Sort.{Sort}
use Rattle.gm_ast.specs.declared.tree.Sort.TheVariants as Sorts
use Rattle.gm_ast.specs.declared.tree.Stage.TheVariants.{Operator}
use Rattle.gm_ast.specs.declared.tree.Target.TheVariants as T
use Rattle.gm_ast.specs.Program.{Expr, Var, Property, Binary, always, Stmt, Skip, Then, Declare, Assign, Defer, Combine, Foreach, If, While, Program}
use Rattle.gm_dissect.specs.AllDeferred.{deferred_in, without_deferred, has_no_deferred}
use Rattle.gm_dissect.specs.Conditions.{numbers_in, flag_local, with_saved_conditions, has_saved_conditions}
use Rattle.gm_forms.specs.Order.{first_key, second_key}
use Rattle.gm_dissect.specs.Deferred.{without_deferred_to}
use Rattle.gm_dissect.specs.Locals.{locals_in, with_kept_local, with_kept_locals}

abbrev at : Place
at = record { line = 1; col = 1 }

abbrev key : Key
key = record { statement = 1; stage = Operator }

abbrev row : Sort → Declaration
row sort = record { name = []; variable = record { sort = sort; vtype = I32; depth = 0 } }

-- the graph, an iterator, two properties
abbrev table : List Declaration
table = row Sorts.Graph ∷ row Sorts.Iterator ∷ row Sorts.NodeProperty ∷ row Sorts.NodeProperty ∷ []

abbrev head : Head
head = record { iterator = 1; domain = Nodes; owner = 0; place = at }

abbrev with_body : List Declaration → Stmt → Program
with_body ds body = record { name = []; declarations = ds; inputs = 4; outputs = 0; result = None; statements = 2; body = body }

-- Foreach (n) { n.p = n.r; n.r <= n.p; }
abbrev writes : Stmt
writes = Foreach key at head always (Then (Assign key (T.Property 1 2 at) (Property 1 3 at)) (Then (Defer key (T.Property 1 3 at) (Property 1 2 at)) Skip))

-- a deferred write to the second property: it is copied to the variable 4, which the loop writes at once, and back
second-row : without_deferred_to 3 (with_body table writes) ≡ with_body
    (row Sorts.Graph ∷ row Sorts.Iterator ∷ row Sorts.NodeProperty ∷ row Sorts.NodeProperty ∷ row Sorts.NodeProperty ∷ [])
    (Then (Foreach first_key at head always (Assign second_key (T.Property 1 4 at) (Property 1 3 at)))
    (Then (Foreach key at head always (Then (Assign key (T.Property 1 2 at) (Property 1 3 at)) (Then (Assign key (T.Property 1 4 at) (Property 1 2 at)) Skip)))
    (Then (Foreach first_key at head always (Assign second_key (T.Property 1 3 at) (Property 1 4 at))) Skip)))
second-row = refl

-- no loop defers writes to the first one: the loop stands as it is
first-row : without_deferred_to 2 (with_body table writes) ≡ with_body
    (row Sorts.Graph ∷ row Sorts.Iterator ∷ row Sorts.NodeProperty ∷ row Sorts.NodeProperty ∷ row Sorts.NodeProperty ∷ []) writes
first-row = refl

-- all deferred writes: the loop in a While too, and one copy for a property that is named twice
abbrev twice : Stmt
twice = Then writes (Then (While key at always writes) Skip)

listed-row : deferred_in twice ≡ 3 ∷ 3 ∷ []
listed-row = refl

all-row : without_deferred (with_body table twice) ≡ without_deferred_to 3 (with_body table twice)
all-row = refl

none-row : has_no_deferred (without_deferred (with_body table twice)) ≡ true
none-row = refl

-- conditions: If (n.p > n.r) { Foreach (t: n.Nbrs) { t.p += n.r; } } Else { n.r = n.p; }, and an If that holds nothing to cut
abbrev asked : Expr
asked = Binary Gt at (Property 1 2 at) (Property 1 3 at)

abbrev spread : Stmt
spread = Foreach (record { statement = 3; stage = Operator }) at (record { iterator = 4; domain = OutNbrs; owner = 1; place = at }) always
    (Then (Combine (record { statement = 4; stage = Operator }) (record { key = record { statement = 4; stage = Operator }; place = at; shown = at }) Sum (T.Property 4 2 at ∷ []) (Property 1 3 at ∷ [])) Skip)

abbrev kept : Stmt
kept = Then (Assign (record { statement = 5; stage = Operator }) (T.Property 1 3 at) (Property 1 2 at)) Skip

abbrev branching : Stmt
branching = Foreach key at head always (Then (If (record { statement = 2; stage = Operator }) asked (Then spread Skip) kept) (Then (If (record { statement = 6; stage = Operator }) asked kept Skip) Skip))

numbers-row : numbers_in branching ≡ 2 ∷ []
numbers-row = refl

abbrev wide : List Declaration
wide = table ++ (row Sorts.Iterator ∷ [])

conditions-row : with_saved_conditions (with_body wide branching) ≡ with_body (wide ++ (flag_local ∷ []))
    (Foreach key at head always
    (Then (Then (Declare (record { statement = 2; stage = Operator }) 5 (Some asked)) (Then (If (record { statement = 2; stage = Operator }) (Var 5 at) (Then spread Skip) kept) Skip))
    (Then (If (record { statement = 6; stage = Operator }) asked kept Skip) Skip)))
conditions-row = refl

-- a random write is cut too: If (n.p > n.r) { r.p += n.r; } through another node variable
abbrev sending : Stmt
sending = Foreach key at head always (If (record { statement = 2; stage = Operator }) asked (Combine key (record { key = key; place = at; shown = at }) Sum (T.Property 5 2 at ∷ []) (Property 1 3 at ∷ [])) Skip)

sending-row : numbers_in sending ≡ 2 ∷ []
sending-row = refl

unsaved-row : has_saved_conditions (with_body wide branching) ≡ false
unsaved-row = refl

saved-row : has_saved_conditions (with_saved_conditions (with_body wide branching)) ≡ true
saved-row = refl

-- a local that is read behind what is cut: Int z = n.p; Foreach (t: n.Nbrs) { t.p += n.r; } n.r = z;
abbrev local : Declaration
local = record { name = []; variable = record { sort = Sorts.Scalar; vtype = I32; depth = 1 } }

abbrev second : Key
second = record { statement = 2; stage = Operator }

abbrev last : Key
last = record { statement = 5; stage = Operator }

abbrev reading : Stmt
reading = Foreach key at head always (Then (Declare second 5 (Some (Property 1 2 at))) (Then spread (Then (Assign last (T.Property 1 3 at) (Var 5 at)) Skip)))

local-row : with_kept_local 5 (with_body (wide ++ (local ∷ [])) reading) ≡ with_body (wide ++ (local ∷ row Sorts.NodeProperty ∷ []))
    (Then (Foreach first_key at head always (Assign second_key (T.Property 1 6 at) (Var 5 at)))
    (Then (Foreach key at head always (Then (Assign second (T.Property 1 6 at) (Property 1 2 at)) (Then spread (Then (Assign last (T.Property 1 3 at) (Property 1 6 at)) Skip)))) Skip))
local-row = refl

-- where nothing is cut the local stays
whole-row : (with_kept_local 5 (with_body (wide ++ (local ∷ [])) (Foreach key at head always (Then (Declare second 5 (Some (Property 1 2 at))) (Then (Assign last (T.Property 1 3 at) (Var 5 at)) Skip))))).body
    ≡ Foreach key at head always (Then (Declare second 5 (Some (Property 1 2 at))) (Then (Assign last (T.Property 1 3 at) (Var 5 at)) Skip))
whole-row = refl

-- all locals of such loops
locals-row : locals_in reading ≡ 5 ∷ []
locals-row = refl

all-locals-row : with_kept_locals (with_body (wide ++ (local ∷ [])) reading) ≡ with_kept_local 5 (with_body (wide ++ (local ∷ [])) reading)
all-locals-row = refl

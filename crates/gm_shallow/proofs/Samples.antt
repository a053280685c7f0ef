-- Programs whose expressions get a level more: by a compound assignment, by a filter in a search, and by an access through a node variable, by Ifs around a piece, and by a loop that pulls. And programs that get an If.
use Rattle.std.specs.Prelude.{◌≡◌, ℕ, true, false, [], ◌∷◌, None, refl}
use Rattle.gm_base.specs.declared.places.Place.{Place}
use Rattle.gm_value.specs.declared.operations.Op1.TheVariants.{Not}
use Rattle.gm_value.specs.declared.reductions.Reduce.TheVariants.{Sum}
use Rattle.gm_value.specs.declared.values.VType.TheVariants.{I32}
use Rattle.gm_ast.specs.declared.surface.ReductionWord.TheVariants.{Count}
use Rattle.gm_ast.specs.declared.tree.Domain.{Domain}
use Rattle.gm_ast.specs.declared.tree.Domain.TheVariants.{Nodes, InNbrs}
use Rattle.gm_ast.specs.declared.tree.Head.{Head}
use Rattle.gm_ast.specs.declared.tree.Key.{Key}
use Rattle.gm_ast.specs.declared.tree.Stage.TheVariants.{Operator}
use Rattle.gm_ast.specs.declared.tree.Target.TheVariants as T
use Rattle.gm_ast.specs.Program.{always, Expr, Var, Property, Unary, Folded, Stmt, Skip, Assign, Combine, Foreach, If, InBfs, Program}
use Rattle.gm_desugar.specs.Compounds.{without_compounds}
use Rattle.gm_reductions.specs.Accesses.{without_accesses}
use Rattle.gm_reductions.specs.Folds.{without_folds}
use Rattle.gm_hoisting.specs.Hoisting.{without_inner_folds}
use Rattle.gm_bfs.specs.Levelled.{levelled}
use Rattle.gm_cut.specs.Parts.{in_pieces}
use Rattle.gm_flip.specs.Flipped.{without_pulls}
use Rattle.gm_depth.specs.Depths.{all_within}
use Rattle.gm_depth.specs.Nesting.{nesting}

abbrev at : Place
at = record { line = 1; col = 1 }

abbrev key : Key
key = record { statement = 1; stage = Operator }

abbrev procedure : Stmt → Program
procedure body = record { name = []; declarations = []; inputs = 0; outputs = 0; result = None; statements = 2; body = body }

-- x += y
abbrev adding : Program
adding = procedure (Combine key (record { key = key; place = at; shown = at }) Sum (T.Scalar 0 at ∷ []) (Var 1 at ∷ []))

adding_before : all_within 1 adding.body ≡ true
adding_before = refl

adding_more : all_within 1 (without_compounds adding).body ≡ false
adding_more = refl

adding_after : all_within 2 (without_compounds adding).body ≡ true
adding_after = refl

-- a search with the filter !!n.p, in which n.q is set to it
abbrev searching : Program
searching = procedure (InBfs key at (record { iterator = 1; graph = 0; root = 2; place = at }) (Unary Not at (Unary Not at (Property 1 3 at))) (Assign key (T.Property 1 4 at) (Property 1 3 at)))

searching_before : all_within 3 searching.body ≡ true
searching_before = refl

searching_more : all_within 3 (levelled searching).body ≡ false
searching_more = refl

searching_after : all_within 4 (levelled searching).body ≡ true
searching_after = refl

-- x = n.p: no level more than a limit of three
abbrev reading : Program
reading = procedure (Assign key (T.Scalar 0 at) (Property 1 2 at))

reading_more : all_within 2 (without_accesses reading).body ≡ false
reading_more = refl

reading_after : all_within 3 (without_accesses reading).body ≡ true
reading_after = refl

-- ---- loops that are cut

-- nodes in a domain of another, or of the graph
abbrev in_domain : ℕ → Domain → ℕ → Head
in_domain n domain owner = record { iterator = n; domain = domain; owner = owner; place = at }

-- n.p += t.q for each t of n.InNbrs
abbrev pulling : Stmt
pulling = Foreach key at (in_domain 2 InNbrs 1) always (Combine key (record { key = key; place = at; shown = at }) Sum (T.Property 1 3 at ∷ []) (Property 2 4 at ∷ []))

-- the same of each node n, where neither of two flags holds
abbrev asking : Program
asking = procedure (Foreach key at (in_domain 1 Nodes 0) always (If key (Var 5 at) Skip (If key (Var 6 at) Skip pulling)))

asking_before : all_within 1 asking.body ≡ true
asking_before = refl

asking_nests : nesting asking.body ≡ 2
asking_nests = refl

-- (True && !x) && !y
asking_more : all_within 3 (in_pieces asking).body ≡ false
asking_more = refl

asking_after : all_within 4 (in_pieces asking).body ≡ true
asking_after = refl

-- under a filter
abbrev filtered : Program
filtered = procedure (Foreach key at (in_domain 1 Nodes 0) (Property 1 7 at) pulling)

filtered_before : all_within 1 filtered.body ≡ true
filtered_before = refl

filtered_more : all_within 1 (without_pulls filtered).body ≡ false
filtered_more = refl

filtered_after : all_within 2 (without_pulls filtered).body ≡ true
filtered_after = refl

-- ---- Ifs within one another

-- Count(t: G.Nodes){t.p}
abbrev count : Expr
count = Folded (record { word = Count; vtype = I32; filter = key; body = key; total = record { key = key; place = at; shown = at } }) (in_domain 2 Nodes 0) always (Property 2 3 at)

-- x = count, of which the loop over nodes has an If
abbrev counting : Program
counting = procedure (Assign key (T.Scalar 5 at) count)

counting_before : nesting counting.body ≡ 0
counting_before = refl

counting_after : nesting (without_folds counting).body ≡ 1
counting_after = refl

-- an If, whose condition is that of the filter
abbrev told : Program
told = procedure (Foreach key at (in_domain 1 Nodes 0) count (Assign key (T.Property 1 3 at) (Var 5 at)))

told_before : nesting told.body ≡ 0
told_before = refl

told_after : nesting (without_inner_folds told).body ≡ 1
told_after = refl

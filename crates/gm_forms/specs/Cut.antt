-- The forms of programs whose loops are cut: each loop over nodes is of own statements, or goes along the edges of its nodes.
use Rattle.std.specs.Prelude.{ℕ, nat_eq, Bool, true, false, ◌&&◌, ◌||◌, not, List, [], ◌∷◌, ◌++◌}
use Rattle.std.specs.List.{list_all}
use Rattle.gm_value.specs.declared.reductions.Reduce.{Reduce}
use Rattle.gm_value.specs.declared.reductions.Reduce.TheVariants.{Sum, Product}
use Rattle.gm_ast.specs.declared.tree.Declaration.{Declaration}
use Rattle.gm_ast.specs.declared.tree.Head.{Head}
use Rattle.gm_ast.specs.declared.tree.Target.{Target}
use Rattle.gm_ast.specs.declared.tree.Target.TheVariants as T
use Rattle.gm_ast.specs.Ways.{is_in}
use Rattle.gm_ast.specs.Program.{Expr, Stmt, Skip, Then, Declare, DeclareEdge, Assign, Defer, Combine, Foreach, If, Program}
use Rattle.gm_forms.specs.Forms.{depth_at, may, is_flat, is_flat_loop, no_loop, is_phase, has_a_way, goes_out}
use Rattle.gm_forms.specs.Order.{cannot_fail}
use Rattle.gm_forms.specs.Sharing.{told_in, reads_in, sights_in, sights_of, with_reads, read_anywhere, written_by, variables_of, written, reduced, kept_in, all_one, disjoint}

-- a mask: it cannot fault, and reads properties and degrees of the loop's own node alone
abbrev pub is_mask : ℕ → Expr → Bool
is_mask n e = cannot_fail e && is_flat (n ∷ []) false e

-- the variables that a body writes anywhere, also in its inner loops and at other nodes
abbrev pub touched : Stmt → List ℕ
touched (Then a b) = touched a ++ touched b
touched (Declare k x e) = x ∷ []
touched (Assign k t e) = written_by t
touched (Defer k t e) = written_by t
touched (Combine k total r ts es) = variables_of ts
touched (If k c a b) = touched a ++ touched b
touched (Foreach k at h test body) = touched body
touched _ = []

-- whether no inner loop of a body writes its own iterator, which so holds a node
abbrev pub keeps_iterators : Stmt → Bool
keeps_iterators (Then a b) = keeps_iterators a && keeps_iterators b
keeps_iterators (If k c a b) = keeps_iterators a && keeps_iterators b
keeps_iterators (Foreach k at h test body) = not (is_in (touched body) h.iterator)
keeps_iterators _ = true

-- ---- Sums and Products at random nodes

-- whether a reduction's total can be out of range
abbrev pub can_overflow : Reduce → Bool
can_overflow Sum = true
can_overflow Product = true
can_overflow _ = false

-- a target that is there for sure: a scalar, or a property through one of some iterators
abbrev pub is_there : List ℕ → Target → Bool
is_there its (T.Scalar x at) = true
is_there its (T.Property x p at) = is_in its x

-- whether nothing that a body does can fault
abbrev pub is_calm : List ℕ → Stmt → Bool
is_calm its Skip = true
is_calm its (Then a b) = is_calm its a && is_calm its b
is_calm its (Declare k x e) = may cannot_fail e
is_calm its (DeclareEdge x y at) = true
is_calm its (Assign k t e) = is_there its t && cannot_fail e
is_calm its (Defer k t e) = is_there its t && cannot_fail e
is_calm its (Combine k total r ts es) = not (can_overflow r) && (list_all (is_there its) ts && list_all cannot_fail es)
is_calm its (If k c a b) = cannot_fail c && (is_calm its a && is_calm its b)
is_calm its (Foreach k at h test body) = cannot_fail test && is_calm (h.iterator ∷ its) body
is_calm its _ = false

-- whether a body reduces by a Sum or a Product through a node variable
abbrev pub adds_elsewhere : List ℕ → Stmt → Bool
adds_elsewhere its (Then a b) = adds_elsewhere its a || adds_elsewhere its b
adds_elsewhere its (Combine k total r ts es) = can_overflow r && not (list_all (is_there its) ts)
adds_elsewhere its (If k c a b) = adds_elsewhere its a || adds_elsewhere its b
adds_elsewhere its _ = false

-- whether nothing that can fault stands behind such a Sum or Product, whose total is taken a step later
abbrev pub adds_last : List ℕ → Stmt → Bool
adds_last its (Then a b) = adds_last its a && (adds_last its b && (not (adds_elsewhere its a) || is_calm its b))
adds_last its (If k c a b) = adds_last its a && adds_last its b
adds_last its _ = true

-- ---- loops of own statements

-- a scalar, or a property of the loop's own node
abbrev pub is_here : ℕ → Target → Bool
is_here n (T.Scalar x at) = true
is_here n (T.Property x p at) = nat_eq x n

-- own statements: no inner loop, no deferred write, and no contribution to a property of another node
abbrev pub is_own_body : ℕ → Stmt → Bool
is_own_body n Skip = true
is_own_body n (Then a b) = is_own_body n a && is_own_body n b
is_own_body n (Declare k x e) = true
is_own_body n (Assign k t e) = true
is_own_body n (Combine k total r ts es) = list_all (is_here n) ts
is_own_body n (If k c a b) = is_own_body n a && is_own_body n b
is_own_body n _ = false

-- own statements and, under no condition, reductions through node variables
abbrev pub is_own_code : ℕ → Stmt → Bool
is_own_code n (Then a b) = is_own_code n a && is_own_code n b
is_own_code n (Combine k total r ts es) = true
is_own_code n s = is_own_body n s

abbrev pub is_own_loop : ℕ → Stmt → Bool
is_own_loop n body = is_own_code n body && adds_last (n ∷ []) body

-- ---- loops along edges

-- whether a target is a local of the outer body
abbrev pub is_outer_local : List Declaration → Target → Bool
is_outer_local ds (T.Scalar x at) = nat_eq (depth_at ds x) 1
is_outer_local ds (T.Property x p at) = false

-- whether an inner body reduces to no local of the outer body
abbrev pub spares_locals : List Declaration → Stmt → Bool
spares_locals ds (Then a b) = spares_locals ds a && spares_locals ds b
spares_locals ds (Combine k total r ts es) = list_all (λ t. not (is_outer_local ds t)) ts
spares_locals ds (If k c a b) = spares_locals ds a && spares_locals ds b
spares_locals ds _ = true

-- whether a variable is one of some iterators, or no local of the outer body
abbrev pub is_no_local : List Declaration → List ℕ → ℕ → Bool
is_no_local ds its x = is_in its x || not (nat_eq (depth_at ds x) 1)

-- whether an inner loop and the mask around it read and reduce no local of the outer body, so that they can be evaluated at either end of an edge
abbrev pub knows_no_locals : List Declaration → ℕ → ℕ → Expr → Expr → Stmt → Bool
knows_no_locals ds n t mask test body =
    list_all (is_no_local ds (n ∷ t ∷ [])) (told_in mask ++ (with_reads (sights_in test) (sights_of ds n true body)).scalars) && spares_locals ds body

-- whether a mask stays over an inner loop, and may be asked in it: the body changes neither iterator nor what the mask reads, which is not the inner iterator
abbrev pub mask_stays : ℕ → Expr → Head → Stmt → Bool
mask_stays n mask h body =
    disjoint (touched body) (n ∷ (h.iterator ∷ (read_anywhere (reads_in mask) ++ told_in mask))) && not (is_in (told_in mask) h.iterator)

-- whether the locals that an inner body writes are no properties that the inner loop reads or reduces
abbrev pub has_plain_locals : List Declaration → ℕ → Expr → Stmt → Bool
has_plain_locals ds n test body =
    disjoint (written ds n true body) (read_anywhere (reads_in test ++ (sights_of ds n true body).properties) ++ kept_in (reduced ds n true body))

-- an inner loop that stands alone under a mask: besides, its reductions to one variable do the same to the same targets, and nothing can fault behind a Sum or Product through a node variable
abbrev pub is_edge_loop : List Declaration → ℕ → Expr → Head → Expr → Stmt → Bool
is_edge_loop ds n mask h test body =
    knows_no_locals ds n h.iterator mask test body && (mask_stays n mask h body && (has_plain_locals ds n test body
    && (all_one (reduced ds n true body) && adds_last (n ∷ h.iterator ∷ []) body)))

-- a body that is one inner loop of a kind, along the edges of the loop's own node
abbrev pub is_along_edges : (ℕ → Head → Expr → Stmt → Bool) → List Declaration → ℕ → Expr → Stmt → Bool
is_along_edges kind ds n mask (Foreach k at h test body) = kind n h test body && is_edge_loop ds n mask h test body
is_along_edges kind ds n mask _ = false

-- a loop that is cut: own statements under any filter, or one inner loop under a mask
abbrev pub is_cut : (List Declaration → ℕ → Head → Expr → Stmt → Bool) → List Declaration → ℕ → Expr → Stmt → Bool
is_cut kind ds n mask body = is_flat_loop ds false n mask body && (is_own_loop n body || (is_mask n mask && is_along_edges (kind ds) ds n mask body))

-- F3: besides, each loop is cut, and what an inner loop reduces is evaluated at one end of its edges
abbrev pub is_dissected : Program → Bool
is_dissected p = is_phase (is_cut has_a_way p.declarations) no_loop p.declarations p.body

-- F4: besides, that end is the outer node, or the node that a message from there reaches
abbrev pub is_flipped : Program → Bool
is_flipped p = is_phase (is_cut goes_out p.declarations) no_loop p.declarations p.body

-- The laws of an inner loop that is the whole body of a loop under a mask.
use Rattle.std.specs.Prelude.{◌≡◌, ℕ, nat_eq, Bool, true, false, ◌&&◌, not, List}
use Rattle.std.specs.List.{list_all}
use Rattle.gm_base.specs.declared.places.Place.{Place}
use Rattle.gm_model.specs.Graphs.{IsGraph}
use Rattle.gm_ast.specs.declared.tree.Declaration.{Declaration}
use Rattle.gm_ast.specs.declared.tree.Head.{Head}
use Rattle.gm_ast.specs.declared.tree.Key.{Key}
use Rattle.gm_ast.specs.declared.tree.Target.{Target}
use Rattle.gm_ast.specs.declared.tree.Target.TheVariants as T
use Rattle.gm_ast.specs.Program.{Expr, always, Property, Both, Stmt, Then, Combine, Foreach, If}
use Rattle.gm_ast.specs.Ways.{is_in}
use Rattle.gm_semantics.specs.Stores.{Store}
use Rattle.gm_semantics.specs.Levels.{nodes}
use Rattle.gm_semantics.specs.Iterations.{Loop}
use Rattle.gm_semantics.specs.Loops.{parallel}
use Rattle.gm_forms.specs.Cut.{is_mask, spares_locals}
use Rattle.gm_forms.specs.Forms.{depth_at, is_outer_body, avoids}
use Rattle.gm_forms.specs.Sharing.{told_in, written, reduced, all_one, targets_alike}
use Rattle.gm_forms.specs.Fission.{Knows, pushed_properties}
use Rattle.gm_forms.specs.Flip.{flipped_head}

-- whether an inner loop may stand alone in a loop that pushes some properties: what it pushes is among them, its reductions to one variable do the same to the same targets, which are alike, and it does not write the outer iterator
abbrev pub stands_alone : List Declaration → List ℕ → ℕ → Stmt → Bool
stands_alone ds some n body =
    list_all (is_in some) (pushed_properties n body)
    && (all_one (reduced ds n true body) && (targets_alike body && not (is_in (written ds n true body) n)))

-- the reductions of an inner loop that stands alone to the outer node's own may end with itself or with the outermost loop: what is pushed elsewhere does not count
abbrev pub EndsAnywhere : Type 0
EndsAnywhere = (ds : List Declaration) (some other : List ℕ) (loop : Loop) (others : ℕ → Bool) (m : ℕ) (key k : Key) (at here : Place) (h : Head) (test : Expr) (body : Stmt) (s : Store) →
    let n = loop.outer in
    Knows ds some loop → Knows ds other (record loop { pushed = others }) →
    is_outer_body ds false n (Foreach k here h test body) ≡ true → stands_alone ds some n body ≡ true → stands_alone ds other n body ≡ true →
    parallel (record loop { pushed = others }) key (Property n m at) (Foreach k here h test body) (nodes loop.graph) s
    ≡ parallel loop key (Property n m at) (Foreach k here h test body) (nodes loop.graph) s

-- an inner loop that reduces to nothing of the inner node and to no local of the outer body is the loop of its other end, with the mask before its own filter: the same steps, the same contributions as a bag, the same faults. Edges lie within the graph, so no step is lost. The mask does not name the inner iterator. No order of faults is asked, since both take the least of the same; nor does it count what either loop pushes
abbrev pub Flipping : Type 0
Flipping = (ds : List Declaration) (some : List ℕ) (loop : Loop) (others : ℕ → Bool) (key k : Key) (here there : Place) (h : Head) (mask test : Expr) (body : Stmt) (s : Store) →
    let n = loop.outer in
    IsGraph loop.graph → Knows ds some loop →
    is_outer_body ds false n (Foreach k here h test body) ≡ true → is_mask n mask ≡ true → not (is_in (told_in mask) h.iterator) ≡ true → avoids h.iterator body ≡ true → spares_locals ds body ≡ true → stands_alone ds some n body ≡ true →
    parallel (record loop { outer = h.iterator; pushed = others }) key always (Foreach k there (flipped_head n h) (Both mask test) body) (nodes loop.graph) s
    ≡ parallel loop key mask (Foreach k here h test body) (nodes loop.graph) s

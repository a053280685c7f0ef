-- A parallel loop of a sequential phase.
use Rattle.std.specs.Prelude.{ℕ, nat_eq, Bool, false, ◌||◌, ◌&&◌, not, if◌then◌else◌, List, ◌∷◌, ◌++◌, map, Result, Ok}
use Rattle.std.specs.List.{list_any}
use Rattle.gm_value.specs.declared.values.Value.{Value}
use Rattle.gm_ast.specs.declared.tree.Key.{Key}
use Rattle.gm_ast.specs.declared.tree.Target.{Target}
use Rattle.gm_ast.specs.declared.tree.Target.TheVariants as T
use Rattle.gm_ast.specs.Program.{Expr, Stmt, Then, Combine, Foreach, If}
use Rattle.gm_semantics.specs.declared.faults.Fault.{Fault}
use Rattle.gm_semantics.specs.Stores.{Store, overlaid}
use Rattle.gm_semantics.specs.Faults.{least, unless_fault, somes, joined}
use Rattle.gm_semantics.specs.Contributions.{settled_store, total_faults}
use Rattle.gm_semantics.specs.Iterations.{Loop, Iteration, Outermost, turn_at, does}

-- whether a target is a property through another node than the outer iterator's
abbrev pub is_elsewhere : ℕ → ℕ → Target → Bool
is_elsewhere outer p (T.Scalar x at) = false
is_elsewhere outer p (T.Property x q at) = not (nat_eq x outer) && nat_eq q p

-- whether a body reduces a property through another node than its outer iterator's
abbrev pub pushes : Stmt → ℕ → ℕ → Bool
pushes (Then a b) outer p = pushes a outer p || pushes b outer p
pushes (Combine key total r ts es) outer p = list_any (is_elsewhere outer p) ts
pushes (Foreach key at head test body) outer p = pushes body outer p
pushes (If key test a b) outer p = pushes a outer p || pushes b outer p
pushes _ outer p = false

-- the loop's iteration at a node
abbrev pub iteration : Loop → Key → Expr → Stmt → Store → ℕ → Iteration
iteration loop key test body s n = turn_at loop Outermost key test (does body Outermost loop) loop.outer n s

-- what a node holds after its own iteration, which alone writes there
abbrev pub left_at : List ℕ → List Iteration → Store → ℕ → ℕ → Value
left_at (k ∷ ks) (it ∷ its) s p n = if nat_eq k n then it.store.node p n else left_at ks its s p n
left_at _ _ s p n = s.node p n

-- the store after the own writes of all iterations; their locals end with them
abbrev pub own_left : Store → List ℕ → List Iteration → Store
own_left s ks its = record s { node = left_at ks its s }

-- the store after all iterations, or the least fault of them and of their totals: first the own writes, then the contributions, then the deferred writes
abbrev pub loop_done : Store → List ℕ → List Iteration → Result Store Fault
loop_done s ks its =
    let own = own_left s ks its in
    let contributions = joined (map (λ it. it.with_outermost) its) in
    unless_fault (least (somes (map (λ it. it.fault) its) ++ total_faults own contributions))
    (Ok (overlaid (settled_store own contributions) (joined (map (λ it. it.deferred) its))))

-- a parallel loop over nodes
abbrev pub parallel : Loop → Key → Expr → Stmt → List ℕ → Store → Result Store Fault
parallel loop key test body ks s = loop_done s ks (map (iteration loop key test body s) ks)

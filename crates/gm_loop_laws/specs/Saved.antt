-- The law of a filter that is saved in a fresh property.
use Rattle.std.specs.Prelude.{◌≡◌, ◌≤◌, ℕ, nat_eq, Bool, true, false, ◌&&◌, not, List, [], ◌∷◌}
use Rattle.std.specs.List.{list_all}
use Rattle.gm_base.specs.declared.places.Place.{Place}
use Rattle.gm_model.specs.Graphs.{IsGraph}
use Rattle.gm_ast.specs.declared.tree.Declaration.{Declaration}
use Rattle.gm_ast.specs.declared.tree.Key.{Key}
use Rattle.gm_ast.specs.declared.tree.Target.{Target}
use Rattle.gm_ast.specs.declared.tree.Target.TheVariants as T
use Rattle.gm_ast.specs.Program.{Expr, always, Property, Stmt, Then, Declare, Assign, Combine, Foreach, If}
use Rattle.gm_semantics.specs.Stores.{Store}
use Rattle.gm_semantics.specs.Faults.{then_with}
use Rattle.gm_semantics.specs.Levels.{nodes}
use Rattle.gm_semantics.specs.Iterations.{Loop}
use Rattle.gm_semantics.specs.Loops.{parallel}
use Rattle.gm_semantics.specs.Frames.{Agree, ReadsBelow, NamesBelow, AlikeStores}
use Rattle.gm_forms.specs.Cut.{keeps_iterators}
use Rattle.gm_forms.specs.Forms.{is_flat, is_outer_body}
use Rattle.gm_forms.specs.Order.{lie_before, faults_in, faults_of}
use Rattle.gm_forms.specs.Sharing.{deferred}
use Rattle.gm_forms.specs.Fission.{is_nil}

-- whether a target is another than a scalar
abbrev pub is_other : ℕ → Target → Bool
is_other y (T.Scalar x at) = not (nat_eq x y)
is_other y (T.Property x p at) = true

-- whether a body writes a scalar nowhere, nor reduces to it
abbrev pub never_writes : ℕ → Stmt → Bool
never_writes y (Then a b) = never_writes y a && never_writes y b
never_writes y (Declare k x e) = not (nat_eq x y)
never_writes y (Assign k t e) = is_other y t
never_writes y (Combine k total r ts es) = list_all (is_other y) ts
never_writes y (If k c a b) = never_writes y a && never_writes y b
never_writes y (Foreach k at h test body) = not (nat_eq h.iterator y) && never_writes y body
never_writes y _ = true

-- whether a filter may be saved: its faults come before those of the body, which leaves the iterator and the inner ones, and defers nothing; both are without reductions in expressions
abbrev pub saves : List Declaration → ℕ → Key → Expr → Stmt → Bool
saves ds n key test body =
    is_flat (n ∷ []) false test
    && (is_outer_body ds false n body && (is_nil (deferred body) && (lie_before (faults_in test key) (faults_of (n ∷ []) body) && (never_writes n body && keeps_iterators body))))

-- a filter is saved at every node in a property that neither it nor the body names. All that these name is left the same
abbrev pub SavingFresh : Type 0
SavingFresh = (j : ℕ) (ds : List Declaration) (loop : Loop) (m : ℕ) (key : Key) (at : Place) (test : Expr) (body : Stmt) (s t : Store) →
    let n = loop.outer in
    IsGraph loop.graph → j ≤ m → ReadsBelow j test → NamesBelow j body → saves ds n key test body ≡ true → Agree j s t →
    AlikeStores j (parallel loop key test body (nodes loop.graph) s)
    (then_with (parallel loop key always (Assign key (T.Property n m at) test) (nodes loop.graph) t) (parallel loop key (Property n m at) body (nodes loop.graph)))

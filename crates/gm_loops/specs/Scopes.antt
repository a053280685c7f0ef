-- The iterators of the reductions around an expression.
use Rattle.std.specs.Prelude.{ℕ, nat_eq, if◌then◌else◌, Some}
use Rattle.gm_value.specs.declared.values.Value.{Value}
use Rattle.gm_value.specs.declared.values.Value.TheVariants.{At}
use Rattle.gm_semantics.specs.Stores.{Store}
use Rattle.gm_loops.specs.declared.scopes.Scope.{Scope, fold-Scope}
use Rattle.gm_loops.specs.declared.scopes.Scope as S
use Rattle.gm_loops.specs.declared.scopes.Scope.TheOpen.{Scope-F}

-- one iterator more in the values of scalars
abbrev pub scope_step : Scope-F ((ℕ → Value) → ℕ → Value) → (ℕ → Value) → ℕ → Value
scope_step Scope-F.Nothing scalar x = scalar x
scope_step (Scope-F.Bound iterator node outer) scalar x = if nat_eq iterator x then At (Some node) else outer.now scalar x

-- the values of scalars inside reductions: their iterators are nodes
abbrev pub scalar_in : Scope → (ℕ → Value) → ℕ → Value
scalar_in = fold-Scope ((ℕ → Value) → ℕ → Value) scope_step

-- the store inside reductions
abbrev pub inside : Scope → Store → Store
inside scope s = record s { scalar = scalar_in scope s.scalar }

-- no reduction
abbrev pub no_scope : Scope
no_scope = S.Nothing

-- Iterators that are placed in the table one after another.
use Rattle.std.specs.Prelude.{ℕ, zero, suc, Bool, true, List, [], ◌∷◌}
use Rattle.gm_ast.specs.declared.tree.Declaration.{Declaration}
use Rattle.gm_parting.specs.Iterators.{placed_variable}

-- a declaration as it is, or of an iterator as one of inner loops or as another
abbrev pub placed : Bool → Declaration → Declaration
placed inner d = record d { variable = placed_variable inner d.variable }

-- a table with one variable as an iterator of inner loops, if there is such a variable
abbrev pub place_at : ℕ → List Declaration → List Declaration
place_at x [] = []
place_at zero (d ∷ ds) = placed true d ∷ ds
place_at (suc x) (d ∷ ds) = d ∷ place_at x ds

-- with several, the last first
abbrev pub placed_each : List ℕ → List Declaration → List Declaration
placed_each [] ds = ds
placed_each (x ∷ xs) ds = place_at x (placed_each xs ds)

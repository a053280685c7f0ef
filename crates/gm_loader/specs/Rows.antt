-- Shapes, limits and texts of the rows that were worked by hand.
use Rattle.std.specs.Prelude.{ℕ, List, [], ◌∷◌, ◌++◌}
use Rattle.gm_value.specs.declared.values.VType.TheVariants.{I32}
use Rattle.gm_graph.specs.declared.builds.Shape.{Shape}
use Rattle.gm_graph.specs.declared.builds.Walks.TheVariants.{BothWays}
use Rattle.gm_loader.specs.declared.limits.Limits.{Limits}

-- no columns; one Int column of edges; one Int column of nodes
abbrev pub plain : Shape
plain = record { nodes = []; edges = []; walks = BothWays }

abbrev pub weighted : Shape
weighted = record { nodes = []; edges = I32 ∷ []; walks = BothWays }

abbrev pub valued : Shape
valued = record { nodes = I32 ∷ []; edges = []; walks = BothWays }

abbrev pub ample : Limits
ample = record { nodes = 100; edges = 100; bytes = 1000 }

abbrev pub tight : Limits
tight = record { nodes = 2; edges = 2; bytes = 20 }

-- two and three lines
abbrev pub two : List ℕ → List ℕ → List ℕ
two a b = a ++ 10 ∷ [] ++ b

abbrev pub three : List ℕ → List ℕ → List ℕ → List ℕ
three a b c = two a (two b c)

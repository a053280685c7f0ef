-- Shapes, limits and texts of the rows that were worked by hand.
use Rattle.std.specs.Prelude.{ℕ, List, [], ◌∷◌, ◌++◌, codes}
use Rattle.gm_value.specs.declared.values.VType.TheVariants.{I32}
use Rattle.gm_graph.specs.declared.builds.Shape.{Shape}
use Rattle.gm_graph.specs.declared.builds.Walks.TheVariants.{BothWays}
use Rattle.gm_loader.specs.declared.limits.Limits.{Limits}

-- no columns; one Int column of edges; two Int columns of edges
abbrev pub plain : Shape
plain = record { nodes = []; edges = []; walks = BothWays }

abbrev pub weighted : Shape
weighted = record { nodes = []; edges = I32 ∷ []; walks = BothWays }

abbrev pub twice_weighted : Shape
twice_weighted = record { nodes = []; edges = I32 ∷ I32 ∷ []; walks = BothWays }

abbrev pub ample : Limits
ample = record { nodes = 100; edges = 100; bytes = 1000 }

abbrev pub tight : Limits
tight = record { nodes = 2; edges = 2; bytes = 60 }

-- a header and some text behind it
abbrev pub integers : List ℕ → List ℕ
integers text = codes "%%MatrixMarket matrix coordinate integer general" ++ 10 ∷ text

abbrev pub patterns : List ℕ → List ℕ
patterns text = codes "%%matrixmarket MATRIX Coordinate pattern General" ++ 13 ∷ 10 ∷ text

-- two and three lines
abbrev pub two : List ℕ → List ℕ → List ℕ
two a b = a ++ 10 ∷ [] ++ b

abbrev pub three : List ℕ → List ℕ → List ℕ → List ℕ
three a b c = two a (two b c)

-- Bounds of places, by the shape of an expression, and along lists.
use Rattle.std.proofs.Common.{◌≡◌, ℕ, List, [], ◌∷◌, ◌++◌, refl}
use Rattle.gm_image.specs.declared.shapes.Leaf.{Leaf}
use Rattle.gm_image.specs.declared.shapes.Leaf.TheVariants as leaf
use Rattle.gm_image.specs.declared.shapes.One.{One}
use Rattle.gm_image.specs.declared.shapes.One.TheVariants as one
use Rattle.gm_image.specs.declared.shapes.Two.{Two}
use Rattle.gm_image.specs.declared.shapes.Two.TheVariants as two
use Rattle.gm_image.specs.Term.{Term}
use Rattle.gm_image.specs.Program.{Line}
use Rattle.gm_image.specs.Shapes.{leaf_term, one_term, two_term, one_place, two_place}
use Rattle.gm_merge.specs.Bounds.{above, term_bound, line_bound, lines_bound}

pub bound_leaf : (n : ℕ) (l : Leaf) → term_bound n (leaf_term l) ≡ n
bound_leaf n (leaf.Const v) = refl
bound_leaf n (leaf.Global g) = refl
bound_leaf n leaf.NodeCount = refl
bound_leaf n leaf.EdgeCount = refl
bound_leaf n (leaf.Field f) = refl
bound_leaf n leaf.Id = refl
bound_leaf n leaf.OutDegree = refl
bound_leaf n leaf.InDegree = refl
bound_leaf n (leaf.Register r) = refl
bound_leaf n (leaf.Message i) = refl
bound_leaf n leaf.Neighbour = refl
bound_leaf n (leaf.Column w) = refl

pub bound_one : (n : ℕ) (op : One) (a : Term) → term_bound n (one_term op a) ≡ term_bound (above n (one_place op)) a
bound_one n one.NodeAt a = refl
bound_one n (one.Live place) a = refl
bound_one n (one.Op op place) a = refl

pub bound_two : (n : ℕ) (op : Two) (a b : Term) → term_bound n (two_term op a b) ≡ term_bound (term_bound (above n (two_place op)) a) b
bound_two n (two.Op op place) a b = refl
bound_two n two.And a b = refl
bound_two n two.Or a b = refl

-- of lines one after another
pub bound_append : (n : ℕ) (ls ms : List Line) → lines_bound n (ls ++ ms) ≡ lines_bound (lines_bound n ls) ms
bound_append n [] ms = refl
bound_append n (l ∷ ls) ms = bound_append (line_bound n l) ls ms

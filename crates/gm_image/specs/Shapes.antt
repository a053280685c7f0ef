-- The shape of an expression of the code: what it is at its root, and its operands.
use Rattle.std.specs.Prelude.{ℕ, ◌<◌, Option, Some, None}
use Rattle.gm_image.specs.declared.shapes.Leaf.{Leaf}
use Rattle.gm_image.specs.declared.shapes.Leaf.TheVariants as leaf
use Rattle.gm_image.specs.declared.shapes.One.{One}
use Rattle.gm_image.specs.declared.shapes.One.TheVariants as one
use Rattle.gm_image.specs.declared.shapes.Two.{Two}
use Rattle.gm_image.specs.declared.shapes.Two.TheVariants as two
use Rattle.gm_image.specs.declared.shapes.Shape.{Shape}
use Rattle.gm_image.specs.declared.shapes.Shape.TheVariants as shape
use Rattle.gm_image.specs.Term as T
use Rattle.gm_image.specs.Term.{Term}
use Rattle.gm_image.specs.Views.{term}
use Rattle.gm_image.specs.Parts.{depth}
use Rattle.gm_image.specs.Ranges.{IsIndex, PlaceFits, has_place1, has_place2, InRange}

-- the term of a leaf
abbrev pub leaf_term : Leaf → Term
leaf_term (leaf.Const v) = T.Const v
leaf_term (leaf.Global g) = T.Global g
leaf_term leaf.NodeCount = T.NodeCount
leaf_term leaf.EdgeCount = T.EdgeCount
leaf_term (leaf.Field f) = T.Field f
leaf_term leaf.Id = T.Self
leaf_term leaf.OutDegree = T.OutDegree
leaf_term leaf.InDegree = T.InDegree
leaf_term (leaf.Register r) = T.Register r
leaf_term (leaf.Message i) = T.Message i
leaf_term leaf.Neighbour = T.Neighbour
leaf_term (leaf.Column w) = T.Column w

-- an operation with one operand
abbrev pub one_term : One → Term → Term
one_term one.NodeAt a = T.NodeAt a
one_term (one.Live place) a = T.Live place a
one_term (one.Op op place) a = T.Unary op place a

-- an operation with two operands
abbrev pub two_term : Two → Term → Term → Term
two_term (two.Op op place) a b = T.Binary op place a b
two_term two.And a b = T.And a b
two_term two.Or a b = T.Or a b

-- the place of an operation, where it may fault
abbrev pub one_place : One → Option ℕ
one_place one.NodeAt = None
one_place (one.Live place) = Some place
one_place (one.Op op place) = place

abbrev pub two_place : Two → Option ℕ
two_place (two.Op op place) = place
two_place two.And = None
two_place two.Or = None

-- the term of an expression that has a shape
abbrev pub shape_term : Shape → Term
shape_term (shape.Leaf l) = leaf_term l
shape_term (shape.One op a) = one_term op (term a.now)
shape_term (shape.Two op a b) = two_term op (term a.now) (term b.now)
shape_term (shape.Choose c a b) = T.Choose (term c.now) (term a.now) (term b.now)

-- the operands have fewer levels than so many
abbrev pub HasOperandsBelow : ℕ → Shape → Type 0
HasOperandsBelow n (shape.Leaf l) = Unit {0}
HasOperandsBelow n (shape.One op a) = depth (term a.now) < n
HasOperandsBelow n (shape.Two op a b) = (depth (term a.now) < n) × (depth (term b.now) < n)
HasOperandsBelow n (shape.Choose c a b) = (depth (term c.now) < n) × (depth (term a.now) < n) × (depth (term b.now) < n)

-- the number of an operation's place in its range, and a place where the operation has one
abbrev pub OneInRange : One → Type 0
OneInRange one.NodeAt = Unit {0}
OneInRange (one.Live place) = IsIndex place
OneInRange (one.Op op place) = PlaceFits (has_place1 op) place

abbrev pub TwoInRange : Two → Type 0
TwoInRange (two.Op op place) = PlaceFits (has_place2 op) place
TwoInRange two.And = Unit {0}
TwoInRange two.Or = Unit {0}

-- the numbers at the root of an expression in their ranges
abbrev pub ShapeInRange : Shape → Type 0
ShapeInRange (shape.Leaf l) = InRange (leaf_term l)
ShapeInRange (shape.One op a) = OneInRange op
ShapeInRange (shape.Two op a b) = TwoInRange op
ShapeInRange (shape.Choose c a b) = Unit {0}

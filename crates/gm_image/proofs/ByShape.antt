-- What is said of an expression, by its shape.
use Rattle.std.proofs.Common.{◌≡◌, ℕ, suc, Bool, true, refl}
use Rattle.std.specs.Prelude.{max, ◌&&◌}
use Rattle.gm_image.specs.declared.shapes.Leaf.{Leaf}
use Rattle.gm_image.specs.declared.shapes.Leaf.TheVariants as leaf
use Rattle.gm_image.specs.declared.shapes.One.{One}
use Rattle.gm_image.specs.declared.shapes.One.TheVariants as one
use Rattle.gm_image.specs.declared.shapes.Two.{Two}
use Rattle.gm_image.specs.declared.shapes.Two.TheVariants as two
use Rattle.gm_image.specs.Term.{Term}
use Rattle.gm_image.specs.Parts.{depth, all_leaves, all_places, place_holds}
use Rattle.gm_image.specs.Ranges.{InRange}
use Rattle.gm_image.specs.Shapes.{leaf_term, one_term, two_term, one_place, two_place, OneInRange, TwoInRange}

pub depth_leaf : (l : Leaf) → depth (leaf_term l) ≡ 1
depth_leaf (leaf.Const v) = refl
depth_leaf (leaf.Global g) = refl
depth_leaf leaf.NodeCount = refl
depth_leaf leaf.EdgeCount = refl
depth_leaf (leaf.Field f) = refl
depth_leaf leaf.Id = refl
depth_leaf leaf.OutDegree = refl
depth_leaf leaf.InDegree = refl
depth_leaf (leaf.Register r) = refl
depth_leaf (leaf.Message i) = refl
depth_leaf leaf.Neighbour = refl
depth_leaf (leaf.Column w) = refl

pub depth_one : (op : One) (a : Term) → depth (one_term op a) ≡ suc (depth a)
depth_one one.NodeAt a = refl
depth_one (one.Live place) a = refl
depth_one (one.Op op place) a = refl

pub depth_two : (op : Two) (a b : Term) → depth (two_term op a b) ≡ suc (max (depth a) (depth b))
depth_two (two.Op op place) a b = refl
depth_two two.And a b = refl
depth_two two.Or a b = refl

pub leaves_leaf : (test : Term → Bool) (l : Leaf) → all_leaves test (leaf_term l) ≡ test (leaf_term l)
leaves_leaf test (leaf.Const v) = refl
leaves_leaf test (leaf.Global g) = refl
leaves_leaf test leaf.NodeCount = refl
leaves_leaf test leaf.EdgeCount = refl
leaves_leaf test (leaf.Field f) = refl
leaves_leaf test leaf.Id = refl
leaves_leaf test leaf.OutDegree = refl
leaves_leaf test leaf.InDegree = refl
leaves_leaf test (leaf.Register r) = refl
leaves_leaf test (leaf.Message i) = refl
leaves_leaf test leaf.Neighbour = refl
leaves_leaf test (leaf.Column w) = refl

pub leaves_one : (test : Term → Bool) (op : One) (a : Term) → all_leaves test (one_term op a) ≡ all_leaves test a
leaves_one test one.NodeAt a = refl
leaves_one test (one.Live place) a = refl
leaves_one test (one.Op op place) a = refl

pub leaves_two : (test : Term → Bool) (op : Two) (a b : Term) → all_leaves test (two_term op a b) ≡ (all_leaves test a && all_leaves test b)
leaves_two test (two.Op op place) a b = refl
leaves_two test two.And a b = refl
leaves_two test two.Or a b = refl

pub range_one : (op : One) (a : Term) → OneInRange op → InRange a → InRange (one_term op a)
range_one one.NodeAt a h k = k
range_one (one.Live place) a h k = (h, k)
range_one (one.Op op place) a h k = (h, k)

pub range_two : (op : Two) (a b : Term) → TwoInRange op → InRange a → InRange b → InRange (two_term op a b)
range_two (two.Op op place) a b h k l = (h, k, l)
range_two two.And a b h k l = (k, l)
range_two two.Or a b h k l = (k, l)

pub places_leaf : (test : ℕ → Bool) (l : Leaf) → all_places test (leaf_term l) ≡ true
places_leaf test (leaf.Const v) = refl
places_leaf test (leaf.Global g) = refl
places_leaf test leaf.NodeCount = refl
places_leaf test leaf.EdgeCount = refl
places_leaf test (leaf.Field f) = refl
places_leaf test leaf.Id = refl
places_leaf test leaf.OutDegree = refl
places_leaf test leaf.InDegree = refl
places_leaf test (leaf.Register r) = refl
places_leaf test (leaf.Message i) = refl
places_leaf test leaf.Neighbour = refl
places_leaf test (leaf.Column w) = refl

pub places_one : (test : ℕ → Bool) (op : One) (a : Term) → all_places test (one_term op a) ≡ (place_holds test (one_place op) && all_places test a)
places_one test one.NodeAt a = refl
places_one test (one.Live place) a = refl
places_one test (one.Op op place) a = refl

pub places_two : (test : ℕ → Bool) (op : Two) (a b : Term) → all_places test (two_term op a b) ≡ (place_holds test (two_place op) && all_places test a && all_places test b)
places_two test (two.Op op place) a b = refl
places_two test two.And a b = refl
places_two test two.Or a b = refl

-- The code's tests of expressions.
use Rattle.std.specs.Prelude.{nat_eq, Bool, true, false, not, option_map}
use Rattle.std.specs.HashSet.{contains}
use Rattle.gm_image.specs.Term.{Term, Field}
use Rattle.gm_image.specs.Views.{program}
use Rattle.gm_image.specs.Items.{direction_of}
use Rattle.gm_image.specs.Parts.{all_leaves}
use Rattle.gm_image.specs.Indices.{leaf_in_range, term_in_range}
use Rattle.gm_image.specs.Leaves.{stands_in_master, stands_at_vertex}
use Rattle.gm_verify.specs.declared.leaves.Test.{Test}
use Rattle.gm_verify.specs.declared.leaves.Test.TheVariants.{InRange, InMaster, AtVertex, NoneOf}

-- whether a test allows what stands at a vertex alone, and has no index
abbrev pub allows_vertex : Test → Bool
allows_vertex (InRange image kind) = true
allows_vertex InMaster = false
allows_vertex (AtVertex kind each) = true
allows_vertex (NoneOf fields) = true

-- whether a test holds of a leaf
abbrev pub leaf_holds : Test → Term → Bool
leaf_holds (InRange image kind) a = leaf_in_range (program image.now) kind a
leaf_holds InMaster a = stands_in_master a
leaf_holds (AtVertex kind each) a = stands_at_vertex kind (option_map direction_of each) a
leaf_holds (NoneOf fields) (Field f) = not (contains nat_eq fields.now f)
leaf_holds (NoneOf fields) a = true

-- whether a test holds of an expression
abbrev pub term_holds : Test → Term → Bool
term_holds (InRange image kind) a = term_in_range (program image.now) kind a
term_holds test a = all_leaves (leaf_holds test) a

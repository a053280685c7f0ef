-- The types of operations, by what an expression is at its root.
use Rattle.gm_image.specs.declared.sorts.Sort.{Sort}
use Rattle.gm_image.specs.declared.shapes.One.{One}
use Rattle.gm_image.specs.declared.shapes.One.TheVariants as one
use Rattle.gm_image.specs.declared.shapes.Two.{Two}
use Rattle.gm_image.specs.declared.shapes.Two.TheVariants as two
use Rattle.gm_image.specs.Sorts.{one_sort, two_sort, node_at_sort, live_sort, unary_sort, binary_sort, logic_sort}

-- the sort of an operation whose operand has a sort
abbrev pub sort_by_one : One → Sort → Sort
sort_by_one one.NodeAt s = one_sort node_at_sort s
sort_by_one (one.Live place) s = one_sort live_sort s
sort_by_one (one.Op op place) s = one_sort (unary_sort op) s

-- of two operands
abbrev pub sort_by_two : Two → Sort → Sort → Sort
sort_by_two (two.Op op place) s r = two_sort (binary_sort op) s r
sort_by_two two.And s r = two_sort logic_sort s r
sort_by_two two.Or s r = two_sort logic_sort s r

-- The rows in which a numbering is kept.
use Rattle.std.specs.Prelude.{◌≤◌, length, IfSome}
use Rattle.std.specs.List.Sorted.{IsStrictlyIncreasing}
use Rattle.gm_graph.specs.Numberings.{IsTableOf}
use Rattle.gm_graph.specs.declared.numberings.Numbering.TheInside.{Inside}

-- what is true of the rows of every numbering
pub record IsIndexed (n : Inside) : Type 0 where
  pub ascending : IsStrictlyIncreasing n.numbers.items
  pub few : length n.numbers.items ≤ 2147483647
  pub table : IfSome n.table (IsTableOf n.numbers.items)

-- The line of `demo n`.
use Rattle.std.specs.Prelude.{ℕ, ℤ, pos, ◌*◌, List, ◌++◌, length, codes, decimal, Option, Some, None, unwrap_or, if◌then◌else◌}
use Rattle.std.specs.Ordering.{int_eq}
use Rattle.std.specs.Int.{int_max}
use Rattle.std.specs.List.{filter_map, reduce}
use Rattle.std.specs.Fmt.{signed_decimal}
use Rattle.gm_value.specs.declared.values.Value.{Value}
use Rattle.gm_value.specs.declared.values.VType.TheVariants.{I32}
use Rattle.gm_value.specs.Numbers.{number_of, greatest_of}
use Rattle.gm_demo.specs.Texts.{line_end}

-- the distance that a node's value says: its number; the greatest Int says that the node is not reached
abbrev pub distance_of : Value → Option ℤ
distance_of v = if int_eq (number_of v) (greatest_of I32) then None else Some (number_of v)

-- the distances of the nodes that are reached
abbrev pub distances : List Value → List ℤ
distances values = filter_map distance_of values

-- the greater of two numbers, of which each may be missing
abbrev pub farther : Option ℤ → Option ℤ → Option ℤ
farther None said = said
farther (Some known) None = Some known
farther (Some known) (Some said) = Some (int_max known said)

-- the greatest of some numbers, 0 where there is none
abbrev pub greatest : List ℤ → ℤ
greatest zs = unwrap_or (reduce int_max zs) (pos 0)

-- the line, for the values of the nodes and the turns of the run
unfoldable pub demo_line : ℕ → List Value → ℕ → List ℕ
demo_line n values turns =
    codes "demo " ++ decimal n
    ++ codes " edges " ++ decimal (4 * n)
    ++ codes " reached " ++ decimal (length (distances values))
    ++ codes " far " ++ signed_decimal (greatest (distances values))
    ++ codes " turns " ++ decimal turns
    ++ line_end

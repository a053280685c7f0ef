-- I10: names are names and distinct, and the columns are the edge inputs.
use Rattle.std.specs.Prelude.{ℕ, nat_le, nat_eq, Bool, true, false, not, ◌&&◌, ◌||◌, List, [], ◌∷◌, length, filter}
use Rattle.std.specs.List.{list_all, list_any}
use Rattle.std.specs.Str.{bytes_eq}
use Rattle.gm_value.specs.declared.values.VType.{VType}
use Rattle.gm_value.specs.declared.values.VType.TheVariants as types
use Rattle.gm_value.specs.Operations.{same_type}
use Rattle.gm_image.specs.Program.{Program, Holder, Scalar, Node, Edge, Item}
use Rattle.gm_image.specs.Rows.{Row, NameRow, InputRow, OutputRow, ColumnsRow}

-- whether a byte is a letter or `_`
abbrev pub is_letter : ℕ → Bool
is_letter b = (nat_le 65 b && nat_le b 90) || (nat_le 97 b && nat_le b 122) || nat_eq b 95

-- whether a byte is a digit
abbrev pub is_digit : ℕ → Bool
is_digit b = nat_le 48 b && nat_le b 57

-- whether a byte may stand in a name
abbrev pub is_name_byte : ℕ → Bool
is_name_byte b = is_letter b || is_digit b

-- whether bytes begin with a letter or `_`
abbrev pub begins_with_letter : List ℕ → Bool
begins_with_letter [] = false
begins_with_letter (b ∷ bs) = is_letter b

-- whether bytes are a name: they begin with a letter or `_`, and have only letters, digits and `_`
abbrev pub is_name : List ℕ → Bool
is_name bs = begins_with_letter bs && list_all is_name_byte bs

-- whether two holders are one
abbrev pub same_holder : Holder → Holder → Bool
same_holder Scalar Scalar = true
same_holder Node Node = true
same_holder Edge Edge = true
same_holder h i = false

-- whether an input is one of edges
abbrev pub is_of_edges : Item → Bool
is_of_edges i = same_holder i.holder Edge

-- whether some items have another name than one
abbrev pub has_new_name : List Item → Item → Bool
has_new_name before i = not (list_any (λ j. bytes_eq j.name i.name) before)

-- whether an input has a holder's slot
abbrev pub is_at : Holder → ℕ → Item → Bool
is_at h slot i = same_holder h i.holder && nat_eq slot i.slot

-- whether an input has a slot that none of some inputs has
abbrev pub has_new_slot : List Item → Item → Bool
has_new_slot before i = not (list_any (is_at i.holder i.slot) before)

-- whether an input of a holder may have a type: a property of nodes or edges has no nodes as values
abbrev pub may_hold : Holder → VType → Bool
may_hold Scalar t = true
may_hold Node t = not (same_type t types.Node)
may_hold Edge t = not (same_type t types.Node)

-- whether an input's slot is the one after those of some edge inputs, where it is one of edges
abbrev pub follows_edges : Holder → ℕ → List Item → Bool
follows_edges Edge slot before = nat_eq slot (length (filter is_of_edges before))
follows_edges h slot before = true

-- whether an input has a new name and slot, a type that it may have, and as one of edges the next column
abbrev pub input_keeps : List Item → Item → Bool
input_keeps before i =
    is_name i.name
    && has_new_name before i
    && has_new_slot before i
    && may_hold i.holder i.vtype
    && follows_edges i.holder i.slot before

-- whether an output has a new name
abbrev pub output_keeps : List Item → Item → Bool
output_keeps before i = is_name i.name && has_new_name before i

abbrev pub names_keep : Program → Row → Bool
names_keep p NameRow = is_name p.name
names_keep p (InputRow before i) = input_keeps before i
names_keep p (OutputRow before i) = output_keeps before i
names_keep p ColumnsRow = nat_eq (length p.columns) (length (filter is_of_edges p.inputs))
names_keep p row = true

-- The values that the words NAME=VALUE give to the scalar inputs of a program.
use Rattle.std.specs.Prelude.{ℕ, ◌+◌, ◌==◌, ◌&&◌, ◌||◌, ℤ, pos, neg_ℤ, Bool, true, false, List, [], ◌∷◌, ◌++◌, length, take, drop, find, position, Option, Some, None, Result, Ok, Err, if◌then◌else◌, nat_le, codes, option_map, option_and_then}
use Rattle.std.specs.List.{list_all, position_or_len}
use Rattle.std.specs.Char.{is_ascii_digit}
use Rattle.std.specs.Str.{bytes_eq}
use Rattle.std.specs.Str.Parse.{digits_value}
use Rattle.gm_value.specs.Numbers.{fits}
use Rattle.gm_value.specs.declared.values.VType.{VType}
use Rattle.gm_value.specs.declared.values.VType.TheVariants as type
use Rattle.gm_value.specs.declared.values.Value.{Value}
use Rattle.gm_value.specs.declared.values.Value.TheVariants.{I32, I64, Flag, At}
use Rattle.gm_words.specs.declared.arguments.ArgFault.{ArgFault}
use Rattle.gm_words.specs.declared.arguments.ArgFault.TheVariants.{Missing, Unknown, Twice, BadValue, NoSuchNode}
use Rattle.gm_words.specs.declared.arguments.Input.{Input}
use Rattle.gm_words.specs.declared.spellings.Spelling.{Spelling}
use Rattle.gm_words.specs.declared.spellings.Spelling.TheVariants.{Ready, Number}
use Rattle.gm_words.specs.Words.{Text, is_equals}

-- ---- the parts of a word NAME=VALUE

-- how long the NAME is: it ends before the first `=` that stands after at least one byte
abbrev pub name_len : Text → ℕ
name_len word = position_or_len is_equals (drop 1 word) + 1

abbrev pub name_in_word : Text → Text
name_in_word word = take (name_len word) word

abbrev pub value_in_word : Text → Text
value_in_word word = drop (name_len word + 1) word

-- ---- how values are written

-- the number that digits write, one at least
abbrev pub is_digits : Text → Bool
is_digits text = nat_le 1 (length text) && list_all is_ascii_digit text

abbrev pub digits_number : Text → Option ℕ
digits_number text = if is_digits text then Some (digits_value 10 text) else None

-- whether a `-` stands first
abbrev pub is_negative : Text → Bool
is_negative text = bytes_eq (take 1 text) (codes "-")

-- what stands after a first `-`, or all where none stands first
abbrev pub without_sign : Text → Text
without_sign text = if is_negative text then drop 1 text else text

abbrev pub with_sign : Bool → ℕ → ℤ
with_sign true n = neg_ℤ (pos n)
with_sign false n = pos n

-- the whole number that digits after an optional `-` write
abbrev pub whole_number : Text → Option ℤ
whole_number text = option_map (with_sign (is_negative text)) (digits_number (without_sign text))

-- a whole number in the range of a type
abbrev pub in_range : VType → ℤ → Option ℤ
in_range t z = if fits t z then Some z else None

abbrev pub whole_in : VType → Text → Option ℤ
whole_in t text = option_and_then (in_range t) (whole_number text)

-- a truth value
abbrev pub flag_number : Text → Option Bool
flag_number text =
    if bytes_eq text (codes "1") || (bytes_eq text (codes "true") || bytes_eq text (codes "True")) then Some true
    else (if bytes_eq text (codes "0") || (bytes_eq text (codes "false") || bytes_eq text (codes "False")) then Some false
    else None)

-- the number of a node: digits, at most 9,223,372,036,854,775,807
abbrev pub node_number : Text → Option ℕ
node_number text = option_and_then (λ n. if nat_le n 9223372036854775807 then Some n else None) (digits_number text)

-- what a text of a type spells: a value, or the number of a node
abbrev pub spelled : VType → Text → Option Spelling
spelled type.I32 text = option_map (λ z. Ready (I32 z)) (whole_in type.I32 text)
spelled type.I64 text = option_map (λ z. Ready (I64 z)) (whole_in type.I64 text)
spelled type.Flag text = option_map (λ b. Ready (Flag b)) (flag_number text)
spelled type.Node text = if bytes_eq text (codes "NIL") then Some (Ready (At None)) else option_map Number (node_number text)

-- the value of an input, in a graph of these node numbers, by what its text spells
abbrev pub placed : Option ℕ → Text → Result Value ArgFault
placed (Some k) name = Ok (At (Some k))
placed None name = Err (NoSuchNode name)

abbrev pub value_spelled : List ℕ → Text → Option Spelling → Result Value ArgFault
value_spelled numbers name None = Err (BadValue name)
value_spelled numbers name (Some (Ready v)) = Ok v
value_spelled numbers name (Some (Number n)) = placed (position (λ m. m == n) numbers) name

-- ---- the words, from left to right

-- the values that words gave, each with the name of its input
abbrev pub Bindings : Type 0
Bindings = List (Text × Value)

-- the type of the first input of a name
abbrev pub type_named : List Input → Text → Option VType
type_named inputs name = option_map (λ i. i.vtype) (find (λ i. bytes_eq name i.name) inputs)

abbrev pub value_named : Bindings → Text → Option Value
value_named given name = option_map (λ g. g.1) (find (λ g. bytes_eq name g.0) given)

-- one word: by the type of the input of its name, if there is one, and by the value that an earlier word gave it, if one did
abbrev pub judged : Option VType → Option Value → List ℕ → Text → Text → Result Value ArgFault
judged None before numbers name text = Err (Unknown name)
judged (Some t) (Some v) numbers name text = Err (Twice name)
judged (Some t) None numbers name text = value_spelled numbers name (spelled t text)

-- with a value where there is one, and the first fault where there is one
abbrev pub and_then : {A B : Type 0} → (A → Result B ArgFault) → Result A ArgFault → Result B ArgFault
and_then next (Ok x) = next x
and_then next (Err fault) = Err fault

-- the values that words give, after those that earlier words gave, by the type of the input of each name
unfoldable pub given_by : (Text → Option VType) → List ℕ → List Text → Bindings → Result Bindings ArgFault
given_by types numbers [] given = Ok given
given_by types numbers (word ∷ words) given =
    and_then (λ value. given_by types numbers words (given ++ (name_in_word word, value) ∷ []))
    (judged (types (name_in_word word)) (value_named given (name_in_word word)) numbers (name_in_word word) (value_in_word word))

-- ---- the values, in the order of the inputs

-- the value of an input, if a word gave it one
abbrev pub value_or_missing : Text → Option Value → Result Value ArgFault
value_or_missing name None = Err (Missing name)
value_or_missing name (Some v) = Ok v

unfoldable pub in_order : Bindings → List Input → Result (List Value) ArgFault
in_order given [] = Ok []
in_order given (input ∷ inputs) =
    and_then (λ value. and_then (λ values. Ok (value ∷ values)) (in_order given inputs)) (value_or_missing input.name (value_named given input.name))

-- the values of the inputs, or the first fault: the first faulty word, and then the first input without a word
abbrev pub values_bound : List Input → List Text → List ℕ → Result (List Value) ArgFault
values_bound inputs words numbers = and_then (λ given. in_order given inputs) (given_by (type_named inputs) numbers words [])

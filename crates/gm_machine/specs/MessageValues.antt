-- The values of messages, as the code holds them: in words, the numbers of 32 bits, by the types of the values.
use Rattle.std.specs.Prelude.{◌≡◌, ◌<◌, ◌≤◌, ◌+◌, ℕ, ℤ, pos, ◌+ℤ◌, ◌-ℤ◌, ◌*ℤ◌, unsigned_abs, int_lt, Bool, true, false, None, Some, All, List, [], ◌∷◌, ◌++◌, length, map, slice_index_or, slice_range}
use Rattle.std.specs.List.{flat_map}
use Rattle.std.specs.Int.{int_div_euclid, int_rem_euclid}
use Rattle.gm_value.specs.declared.values.Value.{Value}
use Rattle.gm_value.specs.declared.values.Value.TheVariants as values
use Rattle.gm_machine.specs.declared.message_values.WordType.{WordType}
use Rattle.gm_machine.specs.declared.message_values.WordType.TheVariants.{Number, Long, Truth, Node, Nil}
use Rattle.gm_machine.specs.declared.message_values.MessageCell.{MessageCell}
use Rattle.gm_machine.specs.declared.message_values.MessageSort.{MessageSort}
use Rattle.gm_machine.specs.declared.message_values.MessageValues.{MessageValues}

-- how a value stands in words. NIL is a type of its own, so that each index of a node has its word.
abbrev pub word_type : Value → WordType
word_type (values.I32 z) = Number
word_type (values.I64 z) = Long
word_type (values.Flag b) = Truth
word_type (values.At (Some k)) = Node
word_type (values.At None) = Nil

-- how many words it takes
abbrev pub width : WordType → ℕ
width Number = 1
width Long = 2
width Truth = 1
width Node = 1
width Nil = 1

-- the two words of a number, of which the second is counted from the least word on
abbrev pub high_word : ℤ → ℤ
high_word z = int_div_euclid z (pos 4294967296)

abbrev pub low_word : ℤ → ℤ
low_word z = int_rem_euclid z (pos 4294967296) -ℤ pos 2147483648

abbrev pub number_in : ℤ → ℤ → ℤ
number_in high low = (high *ℤ pos 4294967296) +ℤ (low +ℤ pos 2147483648)

-- the word of a node's index, which is counted from the least word on
abbrev pub node_word : ℕ → ℤ
node_word k = pos k -ℤ pos 2147483648

abbrev pub index_in : ℤ → ℕ
index_in word = unsigned_abs (word +ℤ pos 2147483648)

abbrev pub truth_word : Bool → ℤ
truth_word true = pos 1
truth_word false = pos 0

-- the words of a value, and of values
abbrev pub words_of : Value → List ℤ
words_of (values.I32 z) = z ∷ []
words_of (values.I64 z) = high_word z ∷ low_word z ∷ []
words_of (values.Flag b) = truth_word b ∷ []
words_of (values.At (Some k)) = node_word k ∷ []
words_of (values.At None) = pos 0 ∷ []

abbrev pub all_words : List Value → List ℤ
all_words vs = flat_map words_of vs

-- the value that stands in a word and the one behind it
abbrev pub value_in : WordType → ℤ → ℤ → Value
value_in Number word more = values.I32 word
value_in Long word more = values.I64 (number_in word more)
value_in Truth word more = values.Flag (int_lt (pos 0) word)
value_in Node word more = values.At (Some (index_in word))
value_in Nil word more = values.At None

-- where the values of a message stand, the first of them so many words behind the message's first word
abbrev pub cells_of : ℕ → List Value → List MessageCell
cells_of at [] = []
cells_of at (v ∷ vs) = record { vtype = word_type v; at = at } ∷ cells_of (at + width (word_type v)) vs

-- the value of a cell of the message that starts at a word
abbrev pub cell_value : List ℤ → ℕ → MessageCell → Value
cell_value words start c = value_in c.vtype (slice_index_or words (start + c.at) (pos 0)) (slice_index_or words (start + c.at + 1) (pos 0))

-- a sort of messages: its kind, and its cells
abbrev pub sort_at : MessageValues → ℕ → MessageSort
sort_at v i = slice_index_or v.sorts.items i (record { kind = 0; start = 0; end = 0 })

abbrev pub sort_cells : MessageValues → ℕ → List MessageCell
sort_cells v i = slice_range v.cells.items (sort_at v i).start (sort_at v i).end

-- there is a sort with an index, and it has its cells
pub record IsSort (v : MessageValues) (i : ℕ) : Type 0 where
  pub inside : i < length v.sorts.items
  pub ordered : (sort_at v i).start ≤ (sort_at v i).end
  pub within : (sort_at v i).end ≤ length v.cells.items

abbrev pub AreSorts : MessageValues → Type 0
AreSorts v = (i : ℕ) → i < length v.sorts.items → IsSort v i

-- the sort with an index is that of messages of a kind with some values
pub record IsSortOf (v : MessageValues) (i kind : ℕ) (vs : List Value) : Type 0 where
  pub is : IsSort v i
  pub kind_is : (sort_at v i).kind ≡ kind
  pub cells_are : sort_cells v i ≡ cells_of 0 vs

-- a cell of the message that starts at a word has its words
abbrev pub HasWords : List ℤ → ℕ → MessageCell → Type 0
HasWords words start c = start + c.at + width c.vtype ≤ length words

-- more sorts, cells and words stand behind others
pub record Grows (old new : MessageValues) : Type 0 where
  pub sorts : List MessageSort
  pub cells : List MessageCell
  pub words : List ℤ
  pub sorts_are : new.sorts.items ≡ old.sorts.items ++ sorts
  pub cells_are : new.cells.items ≡ old.cells.items ++ cells
  pub words_are : new.words.items ≡ old.words.items ++ words

-- I1: every index is in range. Of an expression that is too deep, which breaks I2, the indices are not judged.
use Rattle.std.specs.Prelude.{ℕ, nat_lt, Bool, true, ◌&&◌, ◌||◌, not, Option, Some, None, List, length}
use Rattle.std.specs.List.{list_all}
use Rattle.gm_value.specs.declared.values.VType.{VType}
use Rattle.gm_image.specs.declared.images.Kind.{Kind}
use Rattle.gm_image.specs.Term.{Term, Global, Field, Register, Message, Column}
use Rattle.gm_image.specs.Program.{Program, Target, Line, SetField, Fold, SetRegister, Put, Send, Command, SetGlobal, Step, Holder, Scalar, Node, Edge}
use Rattle.gm_image.specs.Parts.{all_leaves, all_places, is_shallow, line_terms, command_terms}
use Rattle.gm_image.specs.Sorts.{kind_at}
use Rattle.gm_image.specs.Rows.{Row, InputRow, OutputRow, ResultRow, HandlerRow, LineRow, CommandRow}

-- whether an index is in range of a list
abbrev pub in_range : {A : Type 0} → List A → ℕ → Bool
in_range xs i = nat_lt i (length xs)

-- whether a message's value is one of its kind's; outside handlers I7 says that there is none
abbrev pub value_in_range : Option Kind → ℕ → Bool
value_in_range None i = true
value_in_range (Some k) i = in_range k.values i

-- whether the index of a leaf is in range, in a handler of a kind or in none
abbrev pub leaf_in_range : Program → Option ℕ → Term → Bool
leaf_in_range p k (Global g) = in_range p.globals g
leaf_in_range p k (Field f) = in_range p.fields f
leaf_in_range p k (Register r) = in_range p.registers r
leaf_in_range p k (Column c) = in_range p.columns c
leaf_in_range p k (Message i) = value_in_range (kind_at p k) i
leaf_in_range p k a = true

-- whether the indices of an expression are in range
abbrev pub term_in_range : Program → Option ℕ → Term → Bool
term_in_range p k a = not (is_shallow a) || (all_leaves (leaf_in_range p k) a && all_places (in_range p.places) a)

-- the types of what holds inputs and outputs
abbrev pub held_by : Program → Holder → List VType
held_by p Scalar = p.globals
held_by p Node = p.fields
held_by p Edge = p.columns

-- whether the slots of a reduction are in range
abbrev pub slots_in_range : List VType → List Target → Bool
slots_in_range ts xs = list_all (λ t. in_range ts t.slot) xs

-- whether the indices of a vertex line outside its expressions are in range
abbrev pub line_in_range : Program → Line → Bool
line_in_range p (SetField f a) = in_range p.fields f
line_in_range p (Fold r place ts) = in_range p.places place && slots_in_range p.fields ts
line_in_range p (SetRegister r a) = in_range p.registers r
line_in_range p (Put r place ts) = in_range p.places place && slots_in_range p.globals ts
line_in_range p (Send k to vs) = in_range p.kinds k
line_in_range p l = true

-- whether the indices of a master line outside its expressions are in range. Where a line goes is a matter of I3 and I4
abbrev pub command_in_range : Program → Command → Bool
command_in_range p (SetGlobal g a) = in_range p.globals g
command_in_range p (Step q) = in_range p.blocks q
command_in_range p c = true

-- whether a result's global is in range
abbrev pub result_in_range : Program → Option (VType × ℕ) → Bool
result_in_range p None = true
result_in_range p (Some r) = in_range p.globals r.1

abbrev pub indices_in_range : Program → Row → Bool
indices_in_range p (InputRow before i) = in_range (held_by p i.holder) i.slot
indices_in_range p (OutputRow before i) = in_range (held_by p i.holder) i.slot
indices_in_range p ResultRow = result_in_range p p.result
indices_in_range p (HandlerRow before h) = in_range p.kinds h.kind
indices_in_range p (LineRow s l) = line_in_range p l && list_all (term_in_range p s.kind) (line_terms l)
indices_in_range p (CommandRow j c) = command_in_range p c && list_all (term_in_range p None) (command_terms c)
indices_in_range p row = true

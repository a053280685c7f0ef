-- I2: types fit, and no expression is deeper than 1,024 levels.
use Rattle.std.specs.Prelude.{ℕ, Bool, true, false, not, ◌&&◌, Option, Some, None, List, [], ◌∷◌, slice_get}
use Rattle.std.specs.List.{list_all}
use Rattle.gm_value.specs.declared.values.VType.{VType}
use Rattle.gm_value.specs.declared.values.VType.TheVariants as types
use Rattle.gm_value.specs.declared.reductions.Reduce.{Reduce}
use Rattle.gm_value.specs.declared.reductions.Reduce.TheVariants as reduce
use Rattle.gm_value.specs.Operations.{same_type, is_numeric}
use Rattle.gm_value.specs.Reductions.{reduces}
use Rattle.gm_image.specs.declared.images.Kind.{Kind}
use Rattle.gm_image.specs.Term.{Term}
use Rattle.gm_image.specs.Program.{Program, Target, Line, SetField, Fold, SetRegister, Put, Send, Skip, Each, Command, SetGlobal, Test, Turn}
use Rattle.gm_image.specs.Parts.{is_shallow, slots_of, is_among}
use Rattle.gm_image.specs.Sorts.{sort_of, expects}
use Rattle.gm_image.specs.Indices.{held_by}
use Rattle.gm_image.specs.Rows.{Row, InputRow, OutputRow, ResultRow, LineRow, CommandRow}

-- whether an expression, in a handler of a kind or in none, has a type and is not too deep
abbrev pub has_type : Program → Option ℕ → VType → Term → Bool
has_type p k t a = is_shallow a && expects t (sort_of p k a)

-- whether a test holds of a type, where there is one
abbrev pub type_holds : (VType → Bool) → Option VType → Bool
type_holds test None = true
type_holds test (Some t) = test t

-- whether an expression has the type of a slot, where the slot is in range; elsewhere it is only not too deep
abbrev pub has_slot_type : Program → Option ℕ → Option VType → Term → Bool
has_slot_type p k None a = is_shallow a
has_slot_type p k (Some t) a = has_type p k t a

-- whether a reduction takes the least or the greatest
abbrev pub is_extreme : Reduce → Bool
is_extreme reduce.Min = true
is_extreme reduce.Max = true
is_extreme r = false

-- whether numbers differ from each other and from some before them
abbrev pub differ_after : List ℕ → List ℕ → Bool
differ_after before [] = true
differ_after before (x ∷ xs) = not (is_among x before) && differ_after (x ∷ before) xs

-- whether all numbers of a list differ
abbrev pub all_differ : List ℕ → Bool
all_differ xs = differ_after [] xs

-- whether a reduction fits its slots: one slot whose type it fits, or several distinct ones of which it chooses by a first that is a number
abbrev pub reduction_fits : List VType → Reduce → List Target → Bool
reduction_fits types r [] = false
reduction_fits types r (t ∷ []) = type_holds (reduces r) (slice_get types t.slot)
reduction_fits types r (t ∷ (u ∷ us)) =
    is_extreme r && type_holds is_numeric (slice_get types t.slot) && all_differ (slots_of (t ∷ (u ∷ us)))

-- whether the values of a reduction have their slots' types
abbrev pub targets_fit : Program → Option ℕ → List VType → List Target → Bool
targets_fit p k types ts = list_all (λ t. has_slot_type p k (slice_get types t.slot) t.term) ts

-- whether values have some types, in number and order
abbrev pub values_fit : Program → Option ℕ → List VType → List Term → Bool
values_fit p k [] [] = true
values_fit p k (t ∷ ts) (a ∷ more) = has_type p k t a && values_fit p k ts more
values_fit p k ts more = false

-- whether values are those of a kind's messages, where the kind is in range; elsewhere they are only not too deep
abbrev pub message_fits : Program → Option ℕ → Option Kind → List Term → Bool
message_fits p k None vs = list_all is_shallow vs
message_fits p k (Some kind) vs = values_fit p k kind.values vs

-- whether types fit in a vertex line
abbrev pub line_fits : Program → Option ℕ → Line → Bool
line_fits p k (SetField f a) = has_slot_type p k (slice_get p.fields f) a
line_fits p k (Fold r place ts) = reduction_fits p.fields r ts && targets_fit p k p.fields ts
line_fits p k (SetRegister r a) = has_slot_type p k (slice_get p.registers r) a
line_fits p k (Put r place ts) = reduction_fits p.globals r ts && targets_fit p k p.globals ts
line_fits p k (Send m to vs) = has_type p k types.Node to && message_fits p k (slice_get p.kinds m) vs
line_fits p k (Skip n a) = has_type p k types.Flag a
line_fits p k (Each d n) = true

-- whether types fit in a master line
abbrev pub command_fits : Program → Command → Bool
command_fits p (SetGlobal g a) = has_slot_type p None (slice_get p.globals g) a
command_fits p (Test j a) = has_type p None types.Flag a
command_fits p (Turn x a) = has_type p None types.Flag a
command_fits p c = true

-- whether a result has its global's type
abbrev pub result_fits : Program → Option (VType × ℕ) → Bool
result_fits p None = true
result_fits p (Some r) = type_holds (same_type r.0) (slice_get p.globals r.1)

abbrev pub types_fit : Program → Row → Bool
types_fit p (InputRow before i) = type_holds (same_type i.vtype) (slice_get (held_by p i.holder) i.slot)
types_fit p (OutputRow before i) = type_holds (same_type i.vtype) (slice_get (held_by p i.holder) i.slot)
types_fit p ResultRow = result_fits p p.result
types_fit p (LineRow s l) = line_fits p s.kind l
types_fit p (CommandRow j c) = command_fits p c
types_fit p row = true

-- I8 and I9: each field and each global is reduced in one way, and a combiner stands for its handlers.
use Rattle.std.specs.Prelude.{ℕ, nat_eq, ◌==◌, Bool, true, false, not, ◌&&◌, Option, Some, None, List, [], ◌∷◌, find}
use Rattle.std.specs.List.{list_all, list_any, flat_map}
use Rattle.gm_value.specs.declared.values.VType.{VType}
use Rattle.gm_value.specs.declared.reductions.Reduce.{Reduce}
use Rattle.gm_value.specs.declared.reductions.Reduce.TheVariants as reduce
use Rattle.gm_value.specs.Reductions.{reduces}
use Rattle.gm_image.specs.declared.images.Kind.{Kind}
use Rattle.gm_image.specs.Term.{Term, Field, Message}
use Rattle.gm_image.specs.Program.{Program, Line, SetField, Fold, Put, Handler}
use Rattle.gm_image.specs.Parts.{all_leaves, slots_of, line_terms, is_among}
use Rattle.gm_image.specs.Sorts.{kind_at}
use Rattle.gm_image.specs.Rows.{Row, KindRow, HandlerRow, LineRow, Site}

-- whether two reductions are one
abbrev pub same_reduce : Reduce → Reduce → Bool
same_reduce reduce.Sum reduce.Sum = true
same_reduce reduce.Product reduce.Product = true
same_reduce reduce.Min reduce.Min = true
same_reduce reduce.Max reduce.Max = true
same_reduce reduce.And reduce.And = true
same_reduce reduce.Or reduce.Or = true
same_reduce r s = false

-- whether two lists of numbers are one
abbrev pub same_numbers : List ℕ → List ℕ → Bool
same_numbers [] [] = true
same_numbers (x ∷ xs) (y ∷ ys) = nat_eq x y && same_numbers xs ys
same_numbers xs ys = false

-- a reduction with the slots that it reduces, in their order
pub record Reduction : Type 0 where
  pub reduce : Reduce
  pub slots : List ℕ

-- whether two reductions are one, slot by slot
abbrev pub same_reduction : Reduction → Reduction → Bool
same_reduction a b = same_reduce a.reduce b.reduce && same_numbers a.slots b.slots

-- the reduction of fields that a line is, if any
abbrev pub folds_of : Line → List Reduction
folds_of (Fold r p ts) = record { reduce = r; slots = slots_of ts } ∷ []
folds_of l = []

-- the reduction of globals that a line is, if any
abbrev pub puts_of : Line → List Reduction
puts_of (Put r p ts) = record { reduce = r; slots = slots_of ts } ∷ []
puts_of l = []

-- whether a reduction has a slot
abbrev pub has_slot : ℕ → Reduction → Bool
has_slot i r = is_among i r.slots

-- whether a reduction is one that stood first, where one did
abbrev pub same_as_first : Reduction → Option Reduction → Bool
same_as_first r None = true
same_as_first r (Some first) = same_reduction first r

-- whether a reduction is the one by which each of its slots was reduced first
abbrev pub is_the_one : List Reduction → Reduction → Bool
is_the_one earlier r = list_all (λ i. same_as_first r (find (has_slot i) earlier)) r.slots

-- whether a line reduces each of its fields as the first line before it does that reduces the field
abbrev pub folds_one_way : List Line → Line → Bool
folds_one_way before l = list_all (is_the_one (flat_map folds_of before)) (folds_of l)

-- whether a line reduces each of its globals as the first line before it does that reduces the global
abbrev pub puts_one_way : List Line → Line → Bool
puts_one_way before l = list_all (is_the_one (flat_map puts_of before)) (puts_of l)

-- the fields that some lines fold
abbrev pub folded_fields : List Line → List ℕ
folded_fields ls = flat_map (λ r. r.slots) (flat_map folds_of ls)

-- whether a leaf is none of some fields
abbrev pub is_none_of : List ℕ → Term → Bool
is_none_of fs (Field f) = not (is_among f fs)
is_none_of fs a = true

-- whether a line reads none of some fields
abbrev pub reads_none : List ℕ → Line → Bool
reads_none fs l = list_all (all_leaves (is_none_of fs)) (line_terms l)

-- whether a line sets none of some fields
abbrev pub sets_none : List ℕ → Line → Bool
sets_none fs (SetField f a) = not (is_among f fs)
sets_none fs l = true

-- whether a line sets no field
abbrev pub sets_no_field : Line → Bool
sets_no_field (SetField f a) = false
sets_no_field l = true

-- whether a line may stand in a handler of a kind, or in none: a handler sets no field
abbrev pub may_stand : Option ℕ → Line → Bool
may_stand (Some k) l = sets_no_field l
may_stand None l = true

-- whether a line keeps I8: in the handlers of a block, and in an each, a field is folded in one way, and neither read nor set where it is folded
abbrev pub line_folds : Site → Line → Bool
line_folds s l =
    may_stand s.kind l
    && folds_one_way s.around.before l
    && reads_none (folded_fields s.around.lines) l
    && sets_none (folded_fields s.around.lines) l

-- whether an expression is the one value of a message
abbrev pub is_its_value : Term → Bool
is_its_value (Message i) = nat_eq i 0
is_its_value a = false

-- whether lines are one line that folds the one value of a message by a reduction
abbrev pub is_combining : Reduce → List Line → Bool
is_combining r (Fold s p (t ∷ []) ∷ []) = same_reduce r s && is_its_value t.term
is_combining r ls = false

-- whether a handler's lines are what its kind's combiner stands for, if the kind has one
abbrev pub combines : Option Reduce → List Line → Bool
combines None ls = true
combines (Some r) ls = is_combining r ls

-- whether a handler is what its kind asks, where the kind is in range
abbrev pub handles : Option Kind → List Line → Bool
handles None ls = true
handles (Some k) ls = combines k.combiner ls

-- whether a combiner fits the types of a kind's values: it fits the one value
abbrev pub combiner_fits : Option Reduce → List VType → Bool
combiner_fits None ts = true
combiner_fits (Some r) (t ∷ []) = reduces r t
combiner_fits (Some r) ts = false

-- whether some handlers are of other kinds than one
abbrev pub of_other_kinds : ℕ → List Handler → Bool
of_other_kinds k hs = not (list_any (λ h. h.kind == k) hs)

-- I8
abbrev pub all_fold : Program → Row → Bool
all_fold p (KindRow k) = combiner_fits k.combiner k.values
all_fold p (HandlerRow before h) = of_other_kinds h.kind before && handles (kind_at p (Some h.kind)) h.lines
all_fold p (LineRow s l) = line_folds s l
all_fold p row = true

-- I9: in a block a global is put in one way
abbrev pub all_put : Program → Row → Bool
all_put p (LineRow s l) = puts_one_way s.earlier l
all_put p row = true

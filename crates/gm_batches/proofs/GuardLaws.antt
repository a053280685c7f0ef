-- Operands that count only in some rows, as `&&`, `||` and `?:` have them.
use Rattle.std.proofs.Common.{◌≡◌, ◌∙◌, ◌+◌, ◌<◌, inl, ℕ, Bool, true, false, List, [], ◌∷◌, Option, Some, None, ap, sym, subst, map, length}
use Rattle.std.specs.Prelude.{All, IfSome}
use Rattle.std.proofs.lemmas.List.{length-map}
use Rattle.std.proofs.lemmas.List.Elements.{All-nil, All-cons, All-head, All-tail}
use Rattle.gm_value.specs.declared.values.VType.TheVariants.{Flag as Truth}
use Rattle.gm_value.specs.declared.values.Value.TheVariants.{Flag}
use Rattle.gm_value.specs.Operations.{is_flag, is_true}
use Rattle.gm_columns.specs.Columns.{TypedRow}
use Rattle.gm_image.specs.Term.{Term, Const, And, Or, Choose}
use Rattle.gm_kernels.specs.Pointwise.{count_of, held, left_out}
use Rattle.gm_batches.specs.declared.node_batches.NodeBatch.{NodeBatch}
use Rattle.gm_batches.specs.NodeBatches.{row_count, row_view}
use Rattle.gm_batches.specs.ColumnTypes.{type_in, choice_type}
use Rattle.gm_batches.specs.ValuesIn.{IsColumnAt}
use Rattle.gm_batches.specs.Guards.{flags_in, FitBatch, IsGuard}
use Rattle.gm_batches.proofs.OperandLaws.{rows_of_values, length_held, length_left}
use Rattle.gm_batches.proofs.ColumnLaws.{guard_none, guard_unfit, and_column, or_column, and_none, or_none, no-flag}

-- a column has a value for each row
pub rows_of_column : (b : NodeBatch) (rs : List ℕ) (e : Term) (got : Option TypedRow) → IsColumnAt b rs e got → IfSome got (λ column. length column.values ≡ length rs)
rows_of_column b rs e (Some column) is = rows_of_values e (map (row_view b) rs) column.values is.1 ∙ length-map rs (row_view b)
rows_of_column b rs e None is = tt

-- columns of the same rows have equally many values
pub same_rows : (b : NodeBatch) (rs : List ℕ) (a c : Term) (left right : Option TypedRow) → IsColumnAt b rs a left → IsColumnAt b rs c right
    → IfSome left (λ left. IfSome right (λ right. length left.values ≡ length right.values))
same_rows b rs a c None right is at = tt
same_rows b rs a c (Some left) None is at = tt
same_rows b rs a c (Some left) (Some right) is at = rows_of_column b rs a (Some left) is ∙ sym (rows_of_column b rs c (Some right) at)

-- what holds of each row holds of those of a part
pub in_held : (P : ℕ → Type 0) (cs : List Bool) (rs : List ℕ) → All P rs → All P (held cs rs)
in_held P [] rs each = All-nil P
in_held P (true ∷ cs) [] each = All-nil P
in_held P (false ∷ cs) [] each = All-nil P
in_held P (true ∷ cs) (r ∷ rs) each = All-cons P r (held cs rs) (All-head P r rs each) (in_held P cs rs (All-tail P r rs each))
in_held P (false ∷ cs) (r ∷ rs) each = in_held P cs rs (All-tail P r rs each)

pub in_left : (P : ℕ → Type 0) (cs : List Bool) (rs : List ℕ) → All P rs → All P (left_out cs rs)
in_left P [] rs each = All-nil P
in_left P (true ∷ cs) [] each = All-nil P
in_left P (false ∷ cs) [] each = All-nil P
in_left P (true ∷ cs) (r ∷ rs) each = in_left P cs rs (All-tail P r rs each)
in_left P (false ∷ cs) (r ∷ rs) each = All-cons P r (left_out cs rs) (All-head P r rs each) (in_left P cs rs (All-tail P r rs each))

-- how many rows the parts have
flag-for-each : (b : NodeBatch) (rs : List ℕ) (e : Term) (truths : TypedRow) → IsColumnAt b rs e (Some truths) → length rs ≡ length (flags_in truths)
flag-for-each b rs e truths is = sym (length-map truths.values is_true ∙ rows_of_column b rs e (Some truths) is)

held_rows : (b : NodeBatch) (rs : List ℕ) (e : Term) (truths : TypedRow) → IsColumnAt b rs e (Some truths) → length (held (flags_in truths) rs) ≡ count_of (flags_in truths)
held_rows b rs e truths is = length_held (flags_in truths) rs (flag-for-each b rs e truths is)

left_rows : (b : NodeBatch) (rs : List ℕ) (e : Term) (truths : TypedRow) → IsColumnAt b rs e (Some truths)
    → count_of (flags_in truths) + length (left_out (flags_in truths) rs) ≡ length truths.values
left_rows b rs e truths is = length_left (flags_in truths) rs (flag-for-each b rs e truths is) ∙ length-map truths.values is_true

-- the parts fit the batch
pub parts_fit : (b : NodeBatch) (rs inside outside : List ℕ) (e : Term) (truths : Option TypedRow) (column : TypedRow)
    → IsColumnAt b rs e truths → truths ≡ Some column → IsGuard rs column inside outside → All (λ row. row < row_count b) rs → FitBatch b column inside outside
parts_fit b rs inside outside e truths column is same guard each =
    let P : ℕ → Type 0 = λ row. row < row_count b in
    let at : IsColumnAt b rs e (Some column) = subst (IsColumnAt b rs e) same is in
    record {
      truths = guard.truths;
      inside_rows = subst (λ ks. All P ks) (sym guard.inside_rows) (in_held P (flags_in column) rs each);
      outside_rows = subst (λ ks. All P ks) (sym guard.outside_rows) (in_left P (flags_in column) rs each);
      inside_count = ap length guard.inside_rows ∙ held_rows b rs e column at;
      outside_count = ap (λ ks. count_of (flags_in column) + length ks) guard.outside_rows ∙ left_rows b rs e column at;
    }

-- a column of an operand has a value for each of its rows
pub inside_fit : (b : NodeBatch) (rows inside outside : List ℕ) (a : Term) (column : TypedRow) (got : Option TypedRow)
    → FitBatch b column inside outside → rows ≡ inside → IsColumnAt b rows a got → IfSome got (λ values. length values.values ≡ count_of (flags_in column))
inside_fit b rows inside outside a column None fit same has = tt
inside_fit b rows inside outside a column (Some values) fit same has = rows_of_column b rows a (Some values) has ∙ ap length same ∙ fit.inside_count

pub outside_fit : (b : NodeBatch) (rows inside outside : List ℕ) (d : Term) (column : TypedRow) (got : Option TypedRow)
    → FitBatch b column inside outside → rows ≡ outside → IsColumnAt b rows d got
    → IfSome got (λ values. count_of (flags_in column) + length values.values ≡ length column.values)
outside_fit b rows inside outside d column None fit same has = tt
outside_fit b rows inside outside d column (Some values) fit same has =
    ap (λ n. count_of (flags_in column) + n) (rows_of_column b rows d (Some values) has ∙ ap length same) ∙ fit.outside_count

-- what has no guard has no column
pub choose_unguarded : (b : NodeBatch) (rs : List ℕ) (e a d : Term) (truths : Option TypedRow)
    → IsColumnAt b rs e truths → IfSome truths (λ truths. is_flag truths.vtype ≡ false) → IsColumnAt b rs (Choose e a d) None
choose_unguarded b rs e a d None is unfit = guard_none b rs e a d is
choose_unguarded b rs e a d (Some truths) is unfit = guard_unfit b rs e a d truths unfit is

pub and_unguarded : (b : NodeBatch) (rs : List ℕ) (e a : Term) (truths : Option TypedRow)
    → IsColumnAt b rs e truths → IfSome truths (λ truths. is_flag truths.vtype ≡ false) → IsColumnAt b rs (And e a) None
and_unguarded b rs e a None is unfit = and_none b rs e a is
and_unguarded b rs e a (Some truths) is unfit = inl (ap (λ t. choice_type t (type_in b a) (Some Truth)) is.0 ∙ no-flag truths.vtype (type_in b a) (Some Truth) unfit)

pub or_unguarded : (b : NodeBatch) (rs : List ℕ) (e a : Term) (truths : Option TypedRow)
    → IsColumnAt b rs e truths → IfSome truths (λ truths. is_flag truths.vtype ≡ false) → IsColumnAt b rs (Or e a) None
or_unguarded b rs e a None is unfit = or_none b rs e a is
or_unguarded b rs e a (Some truths) is unfit = inl (ap (λ t. choice_type t (Some Truth) (type_in b a)) is.0 ∙ no-flag truths.vtype (Some Truth) (type_in b a) unfit)

-- what is put together is the column of a choice
abbrev pub Joins : TypedRow → Option TypedRow → Option TypedRow → Option TypedRow → Type 0
Joins column some others got = (b : NodeBatch) (rs : List ℕ) (c a d : Term) → IsColumnAt b rs c (Some column)
    → IsColumnAt b (held (flags_in column) rs) a some → IsColumnAt b (left_out (flags_in column) rs) d others → IsColumnAt b rs (Choose c a d) got

pub choose_guarded : (b : NodeBatch) (rs within without inside outside : List ℕ) (e a d : Term) (column : TypedRow) (some others got : Option TypedRow)
    → within ≡ inside → without ≡ outside → IsColumnAt b within a some → IsColumnAt b without d others → Joins column some others got
    → IsGuard rs column inside outside → IsColumnAt b rs e (Some column) → IsColumnAt b rs (Choose e a d) got
choose_guarded b rs within without inside outside e a d column some others got here there at so follows guard is =
    follows b rs e a d is (subst (λ ks. IsColumnAt b ks a some) (here ∙ guard.inside_rows) at) (subst (λ ks. IsColumnAt b ks d others) (there ∙ guard.outside_rows) so)

pub and_guarded : (b : NodeBatch) (rs within without inside outside : List ℕ) (e a : Term) (column : TypedRow) (some others got : Option TypedRow)
    → within ≡ inside → without ≡ outside → IsColumnAt b within a some → IsColumnAt b without (Const (Flag false)) others → Joins column some others got
    → IsGuard rs column inside outside → IsColumnAt b rs e (Some column) → IsColumnAt b rs (And e a) got
and_guarded b rs within without inside outside e a column some others got here there at so follows guard is =
    and_column b rs e a column (flags_in column) got guard.truths.flags is
    (choose_guarded b rs within without inside outside e a (Const (Flag false)) column some others got here there at so follows guard is)

pub or_guarded : (b : NodeBatch) (rs within without inside outside : List ℕ) (e a : Term) (column : TypedRow) (some others got : Option TypedRow)
    → within ≡ inside → without ≡ outside → IsColumnAt b within (Const (Flag true)) some → IsColumnAt b without a others → Joins column some others got
    → IsGuard rs column inside outside → IsColumnAt b rs e (Some column) → IsColumnAt b rs (Or e a) got
or_guarded b rs within without inside outside e a column some others got here there at so follows guard is =
    or_column b rs e a column (flags_in column) got guard.truths.flags is
    (choose_guarded b rs within without inside outside e (Const (Flag true)) a column some others got here there at so follows guard is)

-- The columns of expressions, from those of their operands.
use Rattle.std.proofs.Common.{◌≡◌, ◌∙◌, inl, inr, ℕ, Bool, true, false, List, [], ◌∷◌, Option, Some, None, refl, ap, sym, map, if◌then◌else◌}
use Rattle.std.specs.Prelude.{Result, Ok, Err, IfOk, IfSome, IsTrue}
use Rattle.std.specs.Option.{option_map}
use Rattle.gm_value.specs.declared.values.VType.{VType}
use Rattle.gm_value.specs.declared.values.VType.TheVariants.{I32, I64, Node, Flag as Truth}
use Rattle.gm_value.specs.declared.values.Value.{Value}
use Rattle.gm_value.specs.declared.values.Value.TheVariants.{Flag}
use Rattle.gm_value.specs.declared.operations.Op1.{Op1}
use Rattle.gm_value.specs.declared.operations.Op2.{Op2}
use Rattle.gm_value.specs.Operations.{fits1, fits2, type1, type2, same_type, is_flag, is_true}
use Rattle.gm_columns.specs.Columns.{TypedRow}
use Rattle.gm_image.specs.Term.{Term, Const, Unary, Binary, And, Or, Choose}
use Rattle.gm_image.specs.declared.shapes.One.{One}
use Rattle.gm_image.specs.declared.shapes.One.TheVariants.{NodeAt, Live, Op as OneOp}
use Rattle.gm_image.specs.Shapes.{one_term}
use Rattle.gm_kernels.specs.Pointwise.{applied1, applied2, held, left_out, merged}
use Rattle.gm_batches.specs.declared.node_batches.NodeBatch.{NodeBatch}
use Rattle.gm_batches.specs.NodeBatches.{row_view}
use Rattle.gm_batches.specs.ColumnTypes.{type_in, unary_type, binary_type, choice_type}
use Rattle.gm_batches.specs.ValuesIn.{values_in, IsColumn, IsColumnAt}
use Rattle.gm_batches.proofs.OperandLaws.{unary_in, binary_in, unary_faults, left_faults, right_faults, guard_faults, and_faults, or_faults, joined, joined-right, choose_in, and_in, or_in}

-- what follows for what was found
pub if_ok : {A E : Type 0} {P Q : A → Type 0} (found : Result A E) → ((a : A) → P a → Q a) → IfOk found P → IfOk found Q
if_ok (Ok a) follows holds = follows a holds
if_ok (Err e) follows holds = holds

pub if_found : {A E : Type 0} {P Q : A → Type 0} (found : Result (Option A) E) → ((a : A) → P a → Q a) → IfOk found (λ o. IfSome o P) → IfOk found (λ o. IfSome o Q)
if_found (Ok (Some a)) follows holds = follows a holds
if_found (Ok None) follows holds = holds
if_found (Err e) follows holds = holds

-- a column of one type and values is one of others that are equal
pub same_column : {t u : Option VType} {vs ws : Option (List Value)} (got : Option TypedRow) → u ≡ t → ws ≡ vs → IsColumn t vs got → IsColumn u ws got
same_column (Some column) p q is = (p ∙ is.0, q ∙ is.1)
same_column None p q (inl e) = inl (p ∙ e)
same_column None p q (inr e) = inr (q ∙ e)

-- the same for what is found
pub same_found : {E : Type 0} {t u : Option VType} {vs ws : Option (List Value)} (found : Result (Option TypedRow) E) → u ≡ t → ws ≡ vs → IfOk found (IsColumn t vs) → IfOk found (IsColumn u ws)
same_found (Ok got) p q is = same_column got p q is
same_found (Err e) p q is = is

-- a column that is found has a type and values
pub found_column : {E : Type 0} (t : Option VType) (vs : List Value) (found : Result (Option TypedRow) E)
    → IfOk found (λ given. option_map (λ (column : TypedRow). column.vtype) given ≡ t) → IfOk found (λ given. IfSome given (λ column. column.values ≡ vs))
    → IfOk found (IsColumn t (Some vs))
found_column t vs (Ok (Some column)) types values = (sym types, ap (λ l. Some l) (sym values))
found_column t vs (Ok None) types values = inl (sym types)
found_column t vs (Err e) types values = tt

-- an operation that fits its operand
fits-type : (op : Op1) (t : VType) → IsTrue (fits1 op t) → unary_type op (Some t) ≡ Some (type1 op t)
fits-type op t fit = ap (λ c. if c then Some (type1 op t) else None) fit

pub unary_found : {E : Type 0} (op : Op1) (found : Result (Option TypedRow) E) (operand : TypedRow) → IsTrue (fits1 op operand.vtype)
    → IfOk found (λ given. option_map (λ (column : TypedRow). column.values) given ≡ applied1 op operand.values)
    → IfOk found (λ given. IfSome given (λ column. column.vtype ≡ type1 op operand.vtype))
    → IfOk found (IsColumn (unary_type op (Some operand.vtype)) (applied1 op operand.values))
unary_found op (Ok (Some column)) operand fit same type = (fits-type op operand.vtype fit ∙ ap (λ t. Some t) (sym type), sym same)
unary_found op (Ok None) operand fit same type = inr (sym same)
unary_found op (Err e) operand fit same type = tt

pub binary_found : {E : Type 0} (op : Op2) (found : Result (Option TypedRow) E) (left right : TypedRow) → IsTrue (fits2 op left.vtype right.vtype)
    → IfOk found (λ given. option_map (λ (column : TypedRow). column.values) given ≡ applied2 op left.values right.values)
    → IfOk found (λ given. IfSome given (λ column. column.vtype ≡ type2 op left.vtype))
    → IfOk found (IsColumn (binary_type op (Some left.vtype) (Some right.vtype)) (applied2 op left.values right.values))
binary_found op (Ok (Some column)) left right fit same type =
    (ap (λ c. if c then Some (type2 op left.vtype) else None) fit ∙ ap (λ t. Some t) (sym type), sym same)
binary_found op (Ok None) left right fit same type = inr (sym same)
binary_found op (Err e) left right fit same type = tt

-- one that does not
pub unary_unfit : (op : Op1) (t : VType) → fits1 op t ≡ false → unary_type op (Some t) ≡ None
unary_unfit op t unfit = ap (λ c. if c then Some (type1 op t) else None) unfit

pub binary_unfit : (op : Op2) (t u : VType) → fits2 op t u ≡ false → binary_type op (Some t) (Some u) ≡ None
binary_unfit op t u unfit = ap (λ c. if c then Some (type2 op t) else None) unfit

-- an operation on one operand
pub unary_column : (b : NodeBatch) (rs : List ℕ) (op : Op1) (place : Option ℕ) (a : Term) (operand : TypedRow) (got : Option TypedRow)
    → IsColumnAt b rs a (Some operand) → IsColumn (unary_type op (Some operand.vtype)) (applied1 op operand.values) got → IsColumnAt b rs (Unary op place a) got
unary_column b rs op place a operand got is = same_column got (ap (unary_type op) is.0) (unary_in op place a (map (row_view b) rs) operand.values is.1)

pub unary_none : (b : NodeBatch) (rs : List ℕ) (op : Op1) (place : Option ℕ) (a : Term) → IsColumnAt b rs a None → IsColumnAt b rs (Unary op place a) None
unary_none b rs op place a (inl e) = inl (ap (unary_type op) e)
unary_none b rs op place a (inr e) = inr (unary_faults op place a (map (row_view b) rs) e)

pub one_none : (b : NodeBatch) (rs : List ℕ) (op : One) (a : Term) → IsColumnAt b rs a None → IsColumnAt b rs (one_term op a) None
one_none b rs NodeAt a is = inl refl
one_none b rs (Live place) a is = inl refl
one_none b rs (OneOp op place) a is = unary_none b rs op place a is

-- one on two operands
pub binary_column : (b : NodeBatch) (rs : List ℕ) (op : Op2) (place : Option ℕ) (a c : Term) (left right : TypedRow) (got : Option TypedRow)
    → IsColumnAt b rs a (Some left) → IsColumnAt b rs c (Some right)
    → IsColumn (binary_type op (Some left.vtype) (Some right.vtype)) (applied2 op left.values right.values) got → IsColumnAt b rs (Binary op place a c) got
binary_column b rs op place a c left right got is at =
    same_column got (λ i. binary_type op (is.0 i) (at.0 i)) (binary_in op place a c (map (row_view b) rs) left.values right.values is.1 at.1)

no-right : (op : Op2) (t : Option VType) → binary_type op t None ≡ None
no-right op (Some t) = refl
no-right op None = refl

pub left_none : (b : NodeBatch) (rs : List ℕ) (op : Op2) (place : Option ℕ) (a c : Term) → IsColumnAt b rs a None → IsColumnAt b rs (Binary op place a c) None
left_none b rs op place a c (inl e) = inl (ap (λ t. binary_type op t (type_in b c)) e)
left_none b rs op place a c (inr e) = inr (left_faults op place a c (map (row_view b) rs) e)

pub right_none : (b : NodeBatch) (rs : List ℕ) (op : Op2) (place : Option ℕ) (a c : Term) → IsColumnAt b rs c None → IsColumnAt b rs (Binary op place a c) None
right_none b rs op place a c (inl e) = inl (ap (binary_type op (type_in b a)) e ∙ no-right op (type_in b a))
right_none b rs op place a c (inr e) = inr (right_faults op place a c (map (row_view b) rs) e)

-- the flags of truth values
pub flags_are : (cs : List Bool) (vs : List Value) → map (λ b. Flag b) cs ≡ vs → map is_true vs ≡ cs
flags_are cs vs is = ap (map is_true) (sym is) ∙ go cs where
  go : (cs : List Bool) → map is_true (map (λ b. Flag b) cs) ≡ cs
  go [] = refl
  go (true ∷ cs) = ap (λ l. true ∷ l) (go cs)
  go (false ∷ cs) = ap (λ l. false ∷ l) (go cs)

-- a choice whose guard has no column, or one that is not of truth values
pub guard_none : (b : NodeBatch) (rs : List ℕ) (c a d : Term) → IsColumnAt b rs c None → IsColumnAt b rs (Choose c a d) None
guard_none b rs c a d (inl e) = inl (ap (λ t. choice_type t (type_in b a) (type_in b d)) e)
guard_none b rs c a d (inr e) = inr (guard_faults c a d (map (row_view b) rs) e)

pub no-flag : (c : VType) (t u : Option VType) → is_flag c ≡ false → choice_type (Some c) t u ≡ None
no-flag c None u e = refl
no-flag c (Some t) None e = refl
no-flag c (Some t) (Some u) e = ap (λ f. if f then (if same_type u t then Some t else None) else None) e

pub guard_unfit : (b : NodeBatch) (rs : List ℕ) (c a d : Term) (truths : TypedRow) → is_flag truths.vtype ≡ false → IsColumnAt b rs c (Some truths) → IsColumnAt b rs (Choose c a d) None
guard_unfit b rs c a d truths unfit is = inl (ap (λ t. choice_type t (type_in b a) (type_in b d)) is.0 ∙ no-flag truths.vtype (type_in b a) (type_in b d) unfit)

-- a choice of which one part has no column
no-yes : (c u : Option VType) → choice_type c None u ≡ None
no-yes (Some c) u = refl
no-yes None u = refl

no-no : (c t : Option VType) → choice_type c t None ≡ None
no-no (Some c) (Some t) = refl
no-no (Some c) None = refl
no-no None t = refl

pub yes_none : (b : NodeBatch) (rs : List ℕ) (c a d : Term) (truths : TypedRow) (cs : List Bool) → IsColumnAt b rs c (Some truths) → truths.values ≡ map (λ b. Flag b) cs
    → IsColumnAt b (held cs rs) a None → IsColumnAt b rs (Choose c a d) None
yes_none b rs c a d truths cs is flags (inl e) = inl (ap (λ t. choice_type (type_in b c) t (type_in b d)) e ∙ no-yes (type_in b c) (type_in b d))
yes_none b rs c a d truths cs is flags (inr e) =
    inr (choose_in (row_view b) c a d rs cs (is.1 ∙ ap (λ vs. Some vs) flags) ∙ ap (λ vs. joined cs vs (values_in (map (row_view b) (left_out cs rs)) d)) e)

pub no_none : (b : NodeBatch) (rs : List ℕ) (c a d : Term) (truths : TypedRow) (cs : List Bool) → IsColumnAt b rs c (Some truths) → truths.values ≡ map (λ b. Flag b) cs
    → IsColumnAt b (left_out cs rs) d None → IsColumnAt b rs (Choose c a d) None
no_none b rs c a d truths cs is flags (inl e) = inl (ap (choice_type (type_in b c) (type_in b a)) e ∙ no-no (type_in b c) (type_in b a))
no_none b rs c a d truths cs is flags (inr e) =
    inr (choose_in (row_view b) c a d rs cs (is.1 ∙ ap (λ vs. Some vs) flags) ∙ ap (joined cs (values_in (map (row_view b) (held cs rs)) a)) e
    ∙ joined-right cs (values_in (map (row_view b) (held cs rs)) a))

-- parts of two types
pub parts_unfit : (b : NodeBatch) (rs : List ℕ) (c a d : Term) (truths some others : TypedRow) → truths.vtype ≡ Truth → same_type others.vtype some.vtype ≡ false
    → IsColumnAt b rs c (Some truths) → type_in b a ≡ Some some.vtype → type_in b d ≡ Some others.vtype → IsColumnAt b rs (Choose c a d) None
parts_unfit b rs c a d truths some others flag unfit is at so =
    inl ((λ i. choice_type (is.0 i) (at i) (so i))
    ∙ ap (λ t. choice_type (Some t) (Some some.vtype) (Some others.vtype)) flag
    ∙ ap (λ f. if f then Some some.vtype else None) unfit)

same-type : (t u : VType) → u ≡ t → same_type u t ≡ true
same-type I32 u e = ap (λ t. same_type t I32) e
same-type I64 u e = ap (λ t. same_type t I64) e
same-type Truth u e = ap (λ t. same_type t Truth) e
same-type Node u e = ap (λ t. same_type t Node) e

-- parts of one type, put together
pub choice_column : (b : NodeBatch) (rs : List ℕ) (c a d : Term) (truths some others column : TypedRow) (cs : List Bool)
    → truths.vtype ≡ Truth → truths.values ≡ map (λ b. Flag b) cs → others.vtype ≡ some.vtype
    → column.vtype ≡ some.vtype → column.values ≡ merged cs some.values others.values
    → IsColumnAt b rs c (Some truths) → IsColumnAt b (held cs rs) a (Some some) → IsColumnAt b (left_out cs rs) d (Some others) → IsColumnAt b rs (Choose c a d) (Some column)
choice_column b rs c a d truths some others column cs flag flags types type values is at so = (
  (λ i. choice_type (is.0 i) (at.0 i) (so.0 i))
      ∙ ap (λ t. choice_type (Some t) (Some some.vtype) (Some others.vtype)) flag
      ∙ ap (λ f. if f then Some some.vtype else None) (same-type some.vtype others.vtype types)
      ∙ ap (λ t. Some t) (sym type),
  choose_in (row_view b) c a d rs cs (is.1 ∙ ap (λ vs. Some vs) flags)
      ∙ (λ i. joined cs (at.1 i) (so.1 i))
      ∙ ap (λ vs. Some vs) (sym values),
)

-- both, and one of two
pub and_column : (b : NodeBatch) (rs : List ℕ) (a d : Term) (truths : TypedRow) (cs : List Bool) (got : Option TypedRow) → truths.values ≡ map (λ b. Flag b) cs
    → IsColumnAt b rs a (Some truths) → IsColumnAt b rs (Choose a d (Const (Flag false))) got → IsColumnAt b rs (And a d) got
and_column b rs a d truths cs got flags is = same_column got refl (and_in a d (map (row_view b) rs) cs (is.1 ∙ ap (λ vs. Some vs) flags))

pub or_column : (b : NodeBatch) (rs : List ℕ) (a d : Term) (truths : TypedRow) (cs : List Bool) (got : Option TypedRow) → truths.values ≡ map (λ b. Flag b) cs
    → IsColumnAt b rs a (Some truths) → IsColumnAt b rs (Choose a (Const (Flag true)) d) got → IsColumnAt b rs (Or a d) got
or_column b rs a d truths cs got flags is = same_column got refl (or_in a d (map (row_view b) rs) cs (is.1 ∙ ap (λ vs. Some vs) flags))

pub and_none : (b : NodeBatch) (rs : List ℕ) (a d : Term) → IsColumnAt b rs a None → IsColumnAt b rs (And a d) None
and_none b rs a d (inl e) = inl (ap (λ t. choice_type t (type_in b d) (Some Truth)) e)
and_none b rs a d (inr e) = inr (and_faults a d (map (row_view b) rs) e)

pub or_none : (b : NodeBatch) (rs : List ℕ) (a d : Term) → IsColumnAt b rs a None → IsColumnAt b rs (Or a d) None
or_none b rs a d (inl e) = inl (ap (λ t. choice_type t (Some Truth) (type_in b d)) e)
or_none b rs a d (inr e) = inr (or_faults a d (map (row_view b) rs) e)

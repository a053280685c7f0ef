-- The definitions on rows worked by hand.
use Rattle.std.proofs.Common.{◌≡◌, pos, true, List, [], ◌∷◌, Some, None, refl}
use Rattle.gm_value.specs.declared.values.Value.{Value}
use Rattle.gm_value.specs.declared.values.Value.TheVariants.{I32, I64, Flag}
use Rattle.gm_value.specs.declared.values.VType.TheVariants.{I32 as Int, Flag as Truth}
use Rattle.gm_value.specs.declared.operations.Op2.TheVariants.{Add, Div, Eq, Lt}
use Rattle.gm_model.specs.Graphs.{NumberedGraph}
use Rattle.gm_image.specs.Term.{Term, Const, Field, OutDegree, Binary, Choose}
use Rattle.gm_machine.specs.Expressions.{View}
use Rattle.gm_machine.specs.Machine.{nowhere}
use Rattle.gm_batches.specs.declared.node_batches.NodeBatch.{NodeBatch}
use Rattle.gm_batches.specs.declared.node_batches.Places.TheVariants.{Between}
use Rattle.gm_batches.specs.NodeBatches.{place_at}
use Rattle.gm_batches.specs.ColumnTypes.{type_in}
use Rattle.gm_batches.specs.ValuesIn.{values_in}

-- a row that has fields alone
abbrev row : NumberedGraph → List Value → View
row g fields = record { graph = g; globals = []; node = 0; fields = fields; registers = []; message = []; near = nowhere }

-- 6 / field 0, and 0 where field 0 is 0
abbrev quotient : Term
quotient = Binary Div (Some 0) (Const (I32 (pos 6))) (Field 0)

abbrev guarded : Term
guarded = Choose (Binary Eq None (Field 0) (Const (I32 (pos 0)))) (Const (I32 (pos 0))) quotient

-- the values in two rows, none where the expression faults in one of them, and those of a division that is guarded
two : (g : NumberedGraph) → values_in (row g (I32 (pos 2) ∷ []) ∷ row g (I32 (pos 3) ∷ []) ∷ []) quotient ≡ Some (I32 (pos 3) ∷ I32 (pos 2) ∷ [])
two g = refl

one_faults : (g : NumberedGraph) → values_in (row g (I32 (pos 2) ∷ []) ∷ row g (I32 (pos 0) ∷ []) ∷ []) quotient ≡ None
one_faults g = refl

none_faults : (g : NumberedGraph) → values_in (row g (I32 (pos 2) ∷ []) ∷ row g (I32 (pos 0) ∷ []) ∷ []) guarded ≡ Some (I32 (pos 3) ∷ I32 (pos 0) ∷ [])
none_faults g = refl

no_rows : values_in [] quotient ≡ Some []
no_rows = refl

-- the type of a comparison, of a sum of two types, of a choice between two types, and of a degree
compared : (b : NodeBatch) → type_in b (Binary Lt None (Const (I32 (pos 1))) (Const (I32 (pos 2)))) ≡ Some Truth
compared b = refl

two_types : (b : NodeBatch) → type_in b (Binary Add (Some 0) (Const (I32 (pos 1))) (Const (I64 (pos 1)))) ≡ None
two_types b = refl

one_of_two : (b : NodeBatch) → type_in b (Choose (Const (Flag true)) (Const (I32 (pos 1))) (Const (I64 (pos 1)))) ≡ None
one_of_two b = refl

chosen : (b : NodeBatch) → type_in b (Choose (Const (Flag true)) (Const (I32 (pos 1))) (Const (I32 (pos 2)))) ≡ Some Int
chosen b = refl

degree : (b : NodeBatch) → type_in b OutDegree ≡ Some Int
degree b = refl

-- the place of a row
place : place_at (Between 5 9) 2 ≡ 7
place = refl

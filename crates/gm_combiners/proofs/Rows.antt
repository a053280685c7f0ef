-- Worked rows: which kinds have a combiner.
use Rattle.std.proofs.Common.{◌≡◌, ℕ, true, false, refl, List, [], ◌∷◌, map, Some, None, pos}
use Rattle.std.specs.Prelude.{codes}
use Rattle.gm_value.specs.declared.values.VType.{VType}
use Rattle.gm_value.specs.declared.values.VType.TheVariants as types
use Rattle.gm_value.specs.declared.values.Value.TheVariants as values
use Rattle.gm_value.specs.declared.reductions.Reduce.{Reduce}
use Rattle.gm_value.specs.declared.reductions.Reduce.TheVariants as reduce
use Rattle.gm_value.specs.declared.operations.Op2.TheVariants as two
use Rattle.gm_image.specs.declared.rules.ImageRule.TheVariants.{I8}
use Rattle.gm_image.specs.Term.{Term, Const, Field, Self, Global, Message, Column, Neighbour, Binary, Choose}
use Rattle.gm_image.specs.Program.{Program, Handler, Line, SetField, Fold, Put, Send, Skip, Each, Out, SetGlobal, Step, Turn, Back, Finish, Scalar, Node, Edge}
use Rattle.gm_image.specs.Soundness.{is_sound}
use Rattle.gm_combiners.specs.Combiners.{combiner_for, combining}
use Rattle.gm_combiners.specs.Laws.{keeps_rule, combined_by, each_breaks}

abbrev fold : Reduce → ℕ → Term → Line
fold r slot a = Fold r 0 (record { slot = slot; term = a } ∷ [])

abbrev on : ℕ → List Line → Handler
on kind lines = record { kind = kind; lines = lines }

-- the least of the values
abbrev least : Handler
least = on 0 (fold reduce.Min 1 (Message 0) ∷ [])

-- a kind whose handler is the one line that folds the value has its reduction
row-least : combiner_for (least ∷ []) 0 (types.I32 ∷ []) ≡ Some reduce.Min
row-least = refl

-- also where several handlers are that line, and whatever the handlers of other kinds are
row-least-twice : combiner_for (least ∷ on 1 [] ∷ on 0 (fold reduce.Min 2 (Message 0) ∷ []) ∷ []) 0 (types.I64 ∷ []) ≡ Some reduce.Min
row-least-twice = refl

-- where two handlers fold by different reductions it has none
row-two-reductions : combiner_for (least ∷ on 0 (fold reduce.Max 2 (Message 0) ∷ []) ∷ []) 0 (types.I32 ∷ []) ≡ None
row-two-reductions = refl

-- a kind with two values, or with none, has none
row-two-values : combiner_for (least ∷ []) 0 (types.I32 ∷ types.Node ∷ []) ≡ None
row-two-values = refl

row-no-values : combiner_for [] 0 [] ≡ None
row-no-values = refl

-- one whose receiver has a condition has none
row-condition : combiner_for (on 0 (Skip 1 (Field 0) ∷ fold reduce.Min 1 (Message 0) ∷ []) ∷ []) 0 (types.I32 ∷ []) ≡ None
row-condition = refl

-- nor has one whose handler has two folds, evaluates something, or does nothing
row-two-folds : combiner_for (on 0 (fold reduce.Min 1 (Message 0) ∷ fold reduce.Min 2 (Message 0) ∷ []) ∷ []) 0 (types.I32 ∷ []) ≡ None
row-two-folds = refl

row-evaluates : combiner_for (on 0 (fold reduce.Min 1 (Binary two.Add (Some 0) (Message 0) (Field 0)) ∷ []) ∷ []) 0 (types.I32 ∷ []) ≡ None
row-evaluates = refl

row-nothing : combiner_for (on 0 [] ∷ []) 0 (types.I32 ∷ []) ≡ None
row-nothing = refl

-- one that no handler takes has the first reduction that fits its value
row-unhandled : map (λ (t : VType). combiner_for (on 1 [] ∷ []) 0 (t ∷ [])) (types.I32 ∷ types.I64 ∷ types.Flag ∷ types.Node ∷ []) ≡ Some reduce.Sum ∷ Some reduce.Sum ∷ Some reduce.And ∷ Some reduce.Max ∷ []
row-unhandled = refl

abbrev int : ℕ → Term
int n = Const (values.I32 (pos n))

abbrev flag : Term → Term → Term
flag a b = Binary two.Eq None a b

-- shortest paths from a root, as its image is written by hand
abbrev paths : Program
paths = record {
  name = codes "sssp";
  inputs = record { holder = Scalar; vtype = types.Node; name = codes "root"; slot = 0 } ∷ record { holder = Edge; vtype = types.I32; name = codes "len"; slot = 0 } ∷ [];
  outputs = record { holder = Node; vtype = types.I32; name = codes "dist"; slot = 0 } ∷ [];
  result = None;
  globals = types.Node ∷ types.Flag ∷ types.Flag ∷ [];
  fields = types.I32 ∷ types.I32 ∷ types.Flag ∷ [];
  registers = [];
  columns = types.I32 ∷ [];
  kinds = record { combiner = None; values = types.I32 ∷ [] } ∷ [];
  places = record { line = 12; col = 14 } ∷ [];
  blocks =
      record { handlers = []; body = SetField 0 (Choose (flag Self (Global 0)) (int 0) (int 2147483647)) ∷ SetField 1 (Field 0) ∷ SetField 2 (flag Self (Global 0)) ∷ [] }
      ∷ record { handlers = []; body = Skip 2 (Field 2) ∷ Each Out 1 ∷ Send 0 Neighbour (Binary two.Add (Some 0) (Field 0) (Column 0) ∷ []) ∷ [] }
      ∷ record { handlers = least ∷ []; body = SetField 2 (Binary two.Lt None (Field 1) (Field 0)) ∷ SetField 0 (Field 1) ∷ Put reduce.Or 0 (record { slot = 2; term = Field 2 } ∷ []) ∷ [] }
      ∷ [];
  master =
      Step 0
      ∷ SetGlobal 1 (Const (values.Flag true))
      ∷ Turn 8 (Global 1)
      ∷ SetGlobal 2 (Const (values.Flag false))
      ∷ Step 1
      ∷ Step 2
      ∷ SetGlobal 1 (Global 2)
      ∷ Back 2
      ∷ Finish
      ∷ [];
}

-- its kind comes to have min, and the image stays sound
row-paths : (combining paths).kinds ≡ record { combiner = Some reduce.Min; values = types.I32 ∷ [] } ∷ []
row-paths = refl

row-sound : is_sound (combining paths) ≡ true
row-sound = refl

-- with a sum in its place I8 would be broken, and with min it is not
row-sum-breaks : keeps_rule (combined_by paths 0 reduce.Sum) I8 ≡ false
row-sum-breaks = refl

row-min-keeps : keeps_rule (combined_by paths 0 reduce.Min) I8 ≡ true
row-min-keeps = refl

row-not-each : each_breaks paths 0 ≡ false
row-not-each = refl

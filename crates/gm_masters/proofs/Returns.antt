-- A return is its value's part, and to the end.
use Rattle.std.proofs.Common.{◌≡◌, Some, None, refl}
use Rattle.std.specs.Prelude.{Option}
use Rattle.gm_ast.specs.declared.tree.Key.{Key}
use Rattle.gm_ast.specs.Program.{Expr}
use Rattle.gm_lowering.specs.Lowered.{At, Frame, return_part}
use Rattle.gm_masters.specs.Parts.{ending, value_part}

pub return_is : (w : Frame) (at : At) (k : Key) (e : Option Expr) → return_part w at k e ≡ ending w (value_part w at k e)
return_is w at k None = refl
return_is w at k (Some e) = refl

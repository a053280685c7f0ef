-- The passes up to plain loops leave a desugared program.
use Rattle.gm_ast.specs.Program.{Program}
use Rattle.gm_forms.specs.Ready.{Ready1}
use Rattle.gm_desugaring.specs.Desugaring.{CanBecomeLoops, with_loops_alone, with_plain_loops}
use Rattle.gm_desugaring.proofs.FlatLoops.{hoisted-ready}
use Rattle.gm_desugaring.proofs.PlainLoops.{can-hoist}
use Rattle.gm_desugaring.proofs.Together.{loops-alone, outside-alone}

pub plain-desugared : (p : Program) → CanBecomeLoops p → Ready1 (with_plain_loops p)
plain-desugared p can = hoisted-ready (with_loops_alone p) (can-hoist p can) (loops-alone p can.can) (outside-alone p can.can)

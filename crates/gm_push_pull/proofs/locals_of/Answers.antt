use Rattle.std.proofs.Common.{ℕ, List, refl, ap}
use Rattle.std.specs.Prelude.{nat_eq}
use Rattle.std.specs.Map.{lookup}
use Rattle.gm_ast.specs.Tree.{stmt_of}
use Rattle.gm_push_pull.specs.declared.reads.Reads.{Reads}
use Rattle.gm_push_pull.proofs.Found.{settled-body}
use Rattle.gm_push_pull.proofs.Spreading.{spreads-settles}
use Rattle.gm_push_pull.proofs.locals_of.Goals as goal

pub returns : goal.returns
returns c = settled-body c.args.iterator (stmt_of c.args.body.now) refl (λ x. ap (λ (es : List (ℕ × Reads)). lookup (nat_eq x) es) c.new.ensures.empty) c.in_ok-gather.ensures (spreads-settles (stmt_of c.args.body.now) c.in_ok-spread.ensures c.in_ok-settle.ensures)

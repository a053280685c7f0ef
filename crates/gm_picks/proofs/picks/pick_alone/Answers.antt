use Rattle.std.proofs.Common.{◌≡◌, ◌∙◌, ◌+◌, List, sym, ap, map}
use Rattle.gm_ast.specs.Program.{Stmt, sequence}
use Rattle.gm_ast.specs.Tree.{stmt_of}
use Rattle.gm_desugar.proofs.Trees.{stmt_of-Block}
use Rattle.gm_picks.specs.Picks.{count_alone, picked_alone}
use Rattle.gm_picks.proofs.Steps.{nothing, block_stays, block_takes_none}
use Rattle.gm_picks.proofs.picks.pick_alone.Goals as goal

pub returns-in-Block-clause-picked : goal.returns-in-Block-clause-picked
returns-in-Block-clause-picked c =
    let n = c.args.next.now in
    let its = c.args.around.now in
    let ss : List Stmt = map stmt_of c.in-Block.field-0.items in
    let block : stmt_of c.args.s.now ≡ sequence ss = ap stmt_of c.in-Block.is ∙ stmt_of-Block c.in-Block.field-0 in
    block ∙ sym (block_stays its n ss) ∙ sym (ap (picked_alone its n) block)

pub returns-in-Block-clause-next : goal.returns-in-Block-clause-next
returns-in-Block-clause-next c =
    let n = c.args.next.now in
    let its = c.args.around.now in
    let ss : List Stmt = map stmt_of c.in-Block.field-0.items in
    let block : stmt_of c.args.s.now ≡ sequence ss = ap stmt_of c.in-Block.is ∙ stmt_of-Block c.in-Block.field-0 in
    nothing n ∙ ap (λ m. n + m) (sym (block_takes_none its ss) ∙ sym (ap (count_alone its) block))

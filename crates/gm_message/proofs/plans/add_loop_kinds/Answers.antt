use Rattle.std.proofs.Common.{◌≡◌, ◌++◌, rules, sym, ap, ◌∙◌, map}
use Rattle.gm_ast.specs.Program.{sequence}
use Rattle.gm_ast.specs.Tree.{stmt_of}
use Rattle.gm_lowering.specs.Plans.{aways, kind_of_away, kinds_of_loop}
use Rattle.gm_message.specs.Views.{as_kind}
use Rattle.gm_message.proofs.LoopKinds.{kinds_of_sequence}
use Rattle.gm_message.proofs.Trees.{stmt_of-Block}
use Rattle.gm_message.proofs.plans.add_loop_kinds.Goals as goal

pub returns-in_ok-add_block_kinds-in-Block : goal.returns-in_ok-add_block_kinds-in-Block
returns-in_ok-add_block_kinds-in-Block c =
    let ds = c.args.declarations.now in
    let n = c.args.node in
    let stmts = c.in-Block.stmts in
    let made : map as_kind c.add_block_kinds.new.kinds.items ≡ map as_kind c.args.kinds.now.items ++ map (kind_of_away ds) (aways ds n (sequence (map stmt_of stmts.items))) =
    c.in_ok-add_block_kinds-in-Block.ensures in
    made
    ∙ ap (λ z. map as_kind c.args.kinds.now.items ++ z)
    (sym (kinds_of_sequence ds n (map stmt_of stmts.items)) ∙ sym (ap (kinds_of_loop ds n) (stmt_of-Block stmts)) ∙ sym (ap (λ b. kinds_of_loop ds n (stmt_of b)) c.in-Block.is))

-- A body that is a block is one of own statements.
use Rattle.std.proofs.Common.{◌≡◌, sym, ap, ◌∙◌, map}
use Rattle.gm_ast.specs.Tree.{expr_of, stmt_of}
use Rattle.gm_plain_loops.specs.Tests.{suits_own, suits_loop}
use Rattle.gm_suits.proofs.Sequences.{stmt_of-Block, own-sequence}
use Rattle.gm_suits.proofs.phases.suits_loop.Goals as goal

pub returns-in-Block : goal.returns-in-Block
returns-in-Block c =
    let ds = c.args.declarations.now in
    let n = c.args.node in
    let mask = expr_of c.args.mask.now in
    let stmts = c.in-Block.field-0 in
    let is = ap stmt_of c.in-Block.is ∙ stmt_of-Block stmts in
    c.suits_own.ensures ∙ (ap (suits_own ds n mask) is ∙ (own-sequence ds n mask (map stmt_of stmts.items) ∙ sym (ap (suits_loop ds n mask) is)))

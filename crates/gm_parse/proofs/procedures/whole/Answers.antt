use Rattle.std.proofs.Common.{arith}
use Rattle.gm_token.specs.Tokens.{words_of}
use Rattle.gm_parse.proofs.Verdict.{fault_verdict, surplus_verdict, program_verdict, tree_whole, at_err, from_outside}
use Rattle.gm_parse.proofs.procedures.whole.Goals as goal

pub returns-in_err-tree-clause-fault : goal.returns-in_err-tree-clause-fault
returns-in_err-tree-clause-fault c = at_err (words_of c.args.tokens.now) c.from_residual.result c.in_err-tree.field-0.0 c.from_residual.ensures.1 (fault_verdict (words_of c.args.tokens.now) c.in_err-tree.field-0.0 (from_outside c.outside.ensures c.in_err-tree.ensures.goes))

pub returns-then-end-len-clause-fault : goal.returns-then-end-len-clause-fault
returns-then-end-len-clause-fault c = surplus_verdict c.args.tokens.now c.in_ok-tree.end (from_outside c.outside.ensures c.in_ok-tree.ensures.goes) (omega (arith, c.len.ensures))

pub returns-else-end-len-clause-program : goal.returns-else-end-len-clause-program
returns-else-end-len-clause-program c = program_verdict c.args.tokens.now c.in_ok-tree.end (from_outside c.outside.ensures c.in_ok-tree.ensures.goes) (omega (arith, c.len.ensures))

pub returns-else-end-len-clause-tree : goal.returns-else-end-len-clause-tree
returns-else-end-len-clause-tree c = tree_whole c.args.tokens.now c.in_ok-tree.end c.in_ok-tree.ensures.tree (omega (arith, c.len.ensures))

use Rattle.std.proofs.Common.{rules}
use Rattle.gm_ast.specs.Tree.{program_of}
use Rattle.gm_locals.proofs.KeptLoops.{program-kept}
use Rattle.gm_locals.proofs.locals.keep_all.Goals as goal

pub returns : goal.returns
returns c = program-kept (program_of c.args.tree.now) _ _ _ _ _ c.in_ok-keep.ensures.kept c.in_ok-keep.ensures.changed c.in_ok-append.ensures.items (first_of (cc, search rules)) (first_of (cc, search rules))

use Rattle.std.proofs.Common.{◌∙◌, sym, arith}
use Rattle.gm_meaning.proofs.Inputs.{count-one, count-none, count-within}
use Rattle.gm_meaning.proofs.first_stores.counted.Goals as goal

pub returns-then-is_of : goal.returns-then-is_of
returns-then-is_of c = count-one c.args.tree.now.declarations.items c.args.sort c.args.x c.args.before c.requires.before (sym c.is_of.ensures ∙ c.if-is_of.true)

pub returns-else-is_of : goal.returns-else-is_of
returns-else-is_of c = count-none c.args.tree.now.declarations.items c.args.sort c.args.x c.args.before c.requires.before (sym c.is_of.ensures ∙ c.if-is_of.false)

pub overflow_add-result : goal.overflow_add-result
overflow_add-result c = omega (arith, count-within c.args.tree.now.declarations.items c.args.sort c.args.x, c.requires.before, c.requires.within)

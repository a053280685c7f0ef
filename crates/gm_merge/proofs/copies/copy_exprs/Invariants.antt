use Rattle.std.proofs.Common.{◌≡◌, take, map}
use Rattle.gm_image.specs.Views.{term}
use Rattle.gm_merge.proofs.copies.copy_exprs.Given as goal

-- copies of those so far
abbrev pub invariant-loop-expr : goal.invariant-loop-expr
invariant-loop-expr l = map term l.copies.items ≡ map term (take l.expr-index l.exprs)

use Rattle.std.proofs.Common.{◌≡◌, drop, map}
use Rattle.gm_image.specs.Views.{term}
use Rattle.gm_merge.specs.Bounds.{terms_bound}
use Rattle.gm_merge.proofs.bounds.terms_bound.Given as goal

-- the expressions that are left end at the same bound
abbrev pub invariant-loop-expr : goal.invariant-loop-expr
invariant-loop-expr l = terms_bound l.bound (map term (drop l.expr-index l.exprs)) ≡ terms_bound l.start (map term l.exprs)

use Rattle.std.proofs.Common.{◌≡◌, drop, map}
use Rattle.std.specs.List.{list_all}
use Rattle.gm_image.specs.Views.{term}
use Rattle.gm_merge.specs.Tests.{term_holds}
use Rattle.gm_merge.proofs.tests.terms_hold.Given as goal

-- the expressions that are left give the answer
abbrev pub invariant-loop-expr : goal.invariant-loop-expr
invariant-loop-expr l = list_all (term_holds l.fn.test) (map term (drop l.expr-index l.exprs)) ≡ list_all (term_holds l.fn.test) (map term l.exprs)

use Rattle.std.proofs.Common.{◌≡◌, drop, map}
use Rattle.std.specs.List.{list_all}
use Rattle.gm_image.specs.Views.{term}
use Rattle.gm_image.specs.Parts.{is_shallow}
use Rattle.gm_verify.proofs.fits.all_shallow.Given as goal

-- the expressions that are left give the answer
abbrev pub invariant-loop-expr : goal.invariant-loop-expr
invariant-loop-expr l = list_all is_shallow (map term (drop l.expr-index l.exprs)) ≡ list_all is_shallow (map term l.exprs)

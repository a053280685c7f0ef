use Rattle.std.proofs.Common.{◌≡◌, ◌++◌, drop, map}
use Rattle.gm_ast.specs.Tree.{expr_of}
use Rattle.gm_image.specs.Views.{term}
use Rattle.gm_lowering.specs.Terms as Terms
use Rattle.gm_terms.specs.Environments.{env_of}
use Rattle.gm_terms.proofs.terms.lower_all.Given as goal

-- what is there and what is left make the whole
abbrev pub invariant-loop-value : goal.invariant-loop-value
invariant-loop-value l =
    map term l.out.items ++ map (Terms.term (env_of l.fn.env) l.fn.key) (map expr_of (drop l.value-index l.values)) ≡ map (Terms.term (env_of l.fn.env) l.fn.key) (map expr_of l.values)

use Rattle.std.proofs.Common.{Bool, List, map, not, sym, subst}
use Rattle.gm_value.specs.declared.totals.Total.TheVariants.{Small}
use Rattle.gm_value.specs.declared.values.VType.TheVariants as types
use Rattle.gm_value.specs.declared.values.Value.TheVariants.{Flag}
use Rattle.gm_value.specs.Totals.{IsTotal}
use Rattle.gm_ast.specs.declared.surface.ReductionWord.{ReductionWord}
use Rattle.gm_semantics.specs.Expressions.{members_of, reduce_of}
use Rattle.gm_semantics.specs.Faults.{joined}
use Rattle.gm_loops.proofs.Folding.{all-is, exist-is}
use Rattle.gm_loops.proofs.folds.total_of_flags.Goals as goal

pub returns-in-Exist-clause-total : goal.returns-in-Exist-clause-total
returns-in-Exist-clause-total c =
    let bs : List Bool = c.args.flags.now in
    subst (λ (word : ReductionWord). IsTotal (reduce_of word) types.Flag (Small (Flag c.any_true.result)) (joined (map (members_of word) (map (λ b. Flag b) bs)))) (sym c.in-Exist.is)
    (exist-is bs c.any_true.result c.any_true.ensures)

pub returns-in-All-clause-total : goal.returns-in-All-clause-total
returns-in-All-clause-total c =
    let bs : List Bool = c.args.flags.now in
    subst (λ (word : ReductionWord). IsTotal (reduce_of word) types.Flag (Small (Flag (not c.any_false.result))) (joined (map (members_of word) (map (λ b. Flag b) bs)))) (sym c.in-All.is)
    (all-is bs c.any_false.result c.any_false.ensures)

use Rattle.std.proofs.Common.{Result, sym, subst}
use Rattle.gm_semantics.specs.declared.faults.Fault.{Fault}
use Rattle.gm_semantics.specs.declared.slots.Write.{Write}
use Rattle.gm_semantics.specs.Iterations.{Outermost, with_ok, deferred_to}
use Rattle.gm_loops.specs.Goings.{Does}
use Rattle.gm_loops.specs.Targets.{pair_of}
use Rattle.gm_loops.proofs.goings.Going.defer.Goals as goal

pub returns-in_ok-push_deferred-in-Ok : goal.returns-in_ok-push_deferred-in-Ok
returns-in_ok-push_deferred-in-Ok c = λ f.
    subst (λ (a : Result Write Fault). Does f Outermost c.args.self.now c.push_deferred.new.self (λ it. with_ok it (pair_of a) (deferred_to it))) (sym c.in-Ok.is) (c.in_ok-push_deferred-in-Ok.ensures f)

pub returns-in-Err : goal.returns-in-Err
returns-in-Err c = λ f.
    subst (λ (a : Result Write Fault). Does f Outermost c.args.self.now c.fail.new.self (λ it. with_ok it (pair_of a) (deferred_to it))) (sym c.in-Err.is) (c.fail.ensures f Outermost)

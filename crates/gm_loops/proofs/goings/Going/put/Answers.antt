use Rattle.std.proofs.Common.{Result, sym, subst}
use Rattle.gm_semantics.specs.declared.faults.Fault.{Fault}
use Rattle.gm_semantics.specs.declared.slots.Write.{Write}
use Rattle.gm_semantics.specs.Iterations.{wrote, with_ok}
use Rattle.gm_loops.specs.Goings.{Does}
use Rattle.gm_loops.specs.Targets.{pair_of}
use Rattle.gm_loops.proofs.goings.Going.put.Goals as goal

pub returns-in_ok-write-in-Ok : goal.returns-in_ok-write-in-Ok
returns-in_ok-write-in-Ok c = λ f m.
    subst (λ (a : Result Write Fault). Does f m c.args.self.now c.write.new.self (λ it. with_ok it (pair_of a) (wrote it))) (sym c.in-Ok.is) (c.in_ok-write-in-Ok.ensures f m)

pub returns-in-Err : goal.returns-in-Err
returns-in-Err c = λ f m.
    subst (λ (a : Result Write Fault). Does f m c.args.self.now c.fail.new.self (λ it. with_ok it (pair_of a) (wrote it))) (sym c.in-Err.is) (c.fail.ensures f m)

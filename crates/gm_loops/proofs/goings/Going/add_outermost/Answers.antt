use Rattle.std.proofs.Common.{Result, sym, subst}
use Rattle.gm_semantics.specs.declared.faults.Fault.{Fault}
use Rattle.gm_semantics.specs.declared.slots.Write.{Write}
use Rattle.gm_semantics.specs.Iterations.{alone, with_ok, gave_outermost, contribution}
use Rattle.gm_loops.specs.Goings.{Does}
use Rattle.gm_loops.specs.Targets.{pair_of}
use Rattle.gm_loops.proofs.goings.Going.add_outermost.Goals as goal

pub returns-in_ok-give_outermost-in-Ok : goal.returns-in_ok-give_outermost-in-Ok
returns-in_ok-give_outermost-in-Ok c = λ f m.
    subst (λ (a : Result Write Fault). Does f m c.args.self.now c.give_outermost.new.self (λ it. with_ok it (alone (pair_of a)) (λ p. gave_outermost it (contribution c.args.total c.args.reduce p)))) (sym c.in-Ok.is) (c.in_ok-give_outermost-in-Ok.ensures f m)

pub returns-in-Err : goal.returns-in-Err
returns-in-Err c = λ f m.
    subst (λ (a : Result Write Fault). Does f m c.args.self.now c.fail.new.self (λ it. with_ok it (alone (pair_of a)) (λ p. gave_outermost it (contribution c.args.total c.args.reduce p)))) (sym c.in-Err.is) (c.fail.ensures f m)

use Rattle.std.proofs.Common.{Result, refl, sym, subst}
use Rattle.gm_semantics.specs.declared.faults.Fault.{Fault}
use Rattle.gm_semantics.specs.Statements.{writes_all}
use Rattle.gm_loops.specs.declared.tuples.Tuple.{Tuple}
use Rattle.gm_loops.specs.Targets.{tuple_of}
use Rattle.gm_meaning.specs.declared.phases.Course.TheVariants.{Faults}
use Rattle.gm_meaning.specs.Phases.{Runs}
use Rattle.gm_meaning.proofs.Going.{runs-same}
use Rattle.gm_meaning.proofs.phases.Phase.writes_all.Goals as goal

pub returns-in-Err : goal.returns-in-Err
returns-in-Err c =
    let f = c.args.setting.now in
    subst (λ (a : Result Tuple Fault). Runs f c.args.self.now c.args.self.now (Faults c.in-Err.fault) (λ s. writes_all s (tuple_of a))) (sym c.in-Err.is)
    (runs-same f c.args.self.now (Faults c.in-Err.fault) _ refl c.requires.rest)

use Rattle.std.proofs.Common.{Result, refl, sym, subst}
use Rattle.gm_semantics.specs.declared.faults.Fault.{Fault}
use Rattle.gm_semantics.specs.declared.slots.Write.{Write}
use Rattle.gm_semantics.specs.Stores.{Store, write}
use Rattle.gm_semantics.specs.Statements.{writes}
use Rattle.gm_loops.specs.Targets.{pair_of}
use Rattle.gm_meaning.specs.declared.phases.Course.TheVariants.{Goes, Faults}
use Rattle.gm_meaning.specs.Phases.{Runs}
use Rattle.gm_meaning.proofs.Going.{runs-same, runs-store, with_held}
use Rattle.gm_meaning.proofs.phases.Phase.writes.Goals as goal

pub returns-in_ok-set-in-Ok : goal.returns-in_ok-set-in-Ok
returns-in_ok-set-in-Ok c =
    let f = c.args.setting.now in
    let w = c.in-Ok.write in
    subst (λ (a : Result Write Fault). Runs f c.args.self.now (with_held c.args.self.now c.set.new.self) Goes (λ s. writes s (pair_of a))) (sym c.in-Ok.is)
    (runs-store f c.args.self.now c.set.new.self (λ (s : Store). write s w.slot w.value) c.in_ok-set-in-Ok.ensures.store c.in_ok-set-in-Ok.ensures.undo c.in_ok-set-in-Ok.ensures.shape c.requires.rest)

pub returns-in-Err : goal.returns-in-Err
returns-in-Err c =
    let f = c.args.setting.now in
    subst (λ (a : Result Write Fault). Runs f c.args.self.now c.args.self.now (Faults c.in-Err.fault) (λ s. writes s (pair_of a))) (sym c.in-Err.is)
    (runs-same f c.args.self.now (Faults c.in-Err.fault) _ refl c.requires.rest)

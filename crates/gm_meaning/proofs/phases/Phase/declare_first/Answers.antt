use Rattle.std.proofs.Common.{None, ap}
use Rattle.gm_ast.specs.declared.tree.Variable.{Variable}
use Rattle.gm_ast.specs.Program as P
use Rattle.gm_semantics.specs.Stores.{Store}
use Rattle.gm_semantics.specs.Statements.{State, declared, sequential, with_store}
use Rattle.gm_meaning.specs.declared.phases.Course.TheVariants.{Goes}
use Rattle.gm_meaning.specs.Phases.{run_of, state_of}
use Rattle.gm_meaning.proofs.Going.{runs-as, runs-store, with_held}
use Rattle.gm_meaning.proofs.phases.Phase.declare_first.Goals as goal

pub returns : goal.returns
returns c =
    let f = c.args.setting.now in
    let old = c.args.self.now in
    let v = c.variable.result in
    let x = c.args.x in
    runs-as f old (with_held old c.set_first.new.store) Goes (λ s. with_store s (declared v.sort v.vtype x s.store)) (sequential (P.Declare c.args.key x None) (run_of f))
    (runs-store f old c.set_first.new.store (λ (s : Store). declared v.sort v.vtype x s) c.set_first.ensures.store c.set_first.ensures.undo c.set_first.ensures.shape c.requires.rest)
    (let s : State = state_of f old in ap (λ (u : Variable). with_store s (declared u.sort u.vtype x s.store)) c.variable.ensures)

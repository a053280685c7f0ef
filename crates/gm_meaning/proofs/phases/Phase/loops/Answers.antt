use Rattle.std.proofs.Common.{◌∙◌, Option, ap, sym}
use Rattle.gm_ast.specs.Tree.{expr_of}
use Rattle.gm_semantics.specs.declared.faults.Fault.{Fault}
use Rattle.gm_semantics.specs.Stores.{Store}
use Rattle.gm_semantics.specs.Loops.{parallel}
use Rattle.gm_store.specs.Held.{store_of}
use Rattle.gm_loops.specs.Around.{body_of, loop_of}
use Rattle.gm_loops.specs.LoopEnds.{ended, nodes_in}
use Rattle.gm_loops.specs.Sights.{edges_in}
use Rattle.gm_meaning.proofs.Going.{loops-none, loops-some}
use Rattle.gm_meaning.proofs.phases.Phase.loops.Goals as goal

pub returns-in-None : goal.returns-in-None
returns-in-None c =
    let a = c.args.around.now in
    let f = a.setting.now in
    loops-none f c.args.self.now c.parallel.new.self
    (λ (s : Store). parallel (loop_of a) c.args.key (expr_of c.args.filter.now) (body_of a.body) (nodes_in c.args.nodes) s)
    (ap (λ (o : Option Fault). ended o (store_of (edges_in f) c.parallel.new.self.store)) (sym c.in-None.is) ∙ c.in_ok-fault.ensures.meaning)
    c.in_ok-fault.ensures.rest

pub returns-in-Some : goal.returns-in-Some
returns-in-Some c =
    let a = c.args.around.now in
    let f = a.setting.now in
    loops-some f c.args.self.now c.parallel.new.self c.in-Some.fault
    (λ (s : Store). parallel (loop_of a) c.args.key (expr_of c.args.filter.now) (body_of a.body) (nodes_in c.args.nodes) s)
    (ap (λ (o : Option Fault). ended o (store_of (edges_in f) c.parallel.new.self.store)) (sym c.in-Some.is) ∙ c.in_ok-fault.ensures.meaning)
    c.in_ok-fault.ensures.rest

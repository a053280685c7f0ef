use Rattle.std.proofs.Common.{◌≤◌, sym, subst}
use Rattle.gm_semantics.specs.Iterations as I
use Rattle.gm_semantics.specs.Iterations.{does}
use Rattle.gm_loops.specs.declared.around.Body.{Body}
use Rattle.gm_graph.specs.Serving.{Serve}
use Rattle.gm_loops.specs.Asking.{goes_outward}
use Rattle.gm_loops.specs.Around.{body_of, loop_of}
use Rattle.gm_loops.specs.Bounds.{bound_of}
use Rattle.gm_loops.specs.Goings.{Does}
use Rattle.gm_loops.proofs.goings.Going.does_body.Goals as goal

pub does-requires-clause-bound : goal.does-requires-clause-bound
does-requires-clause-bound c = subst (λ (b : Body). bound_of (body_of b) ≤ c.args.around.now.setting.now.variables) c.in-Statement.is c.requires.bound

pub assign-requires-clause-bound : goal.assign-requires-clause-bound
assign-requires-clause-bound c = subst (λ (b : Body). bound_of (body_of b) ≤ c.args.around.now.setting.now.variables) c.in-Assignment.is c.requires.bound

pub returns-in_ok-does-in-Statement : goal.returns-in_ok-does-in-Statement
returns-in_ok-does-in-Statement c =
    let a = c.args.around.now in
    subst (λ (b : Body). Does a.setting.now I.Outermost c.args.self.now c.does.new.self (does (body_of b) I.Outermost (loop_of a))) (sym c.in-Statement.is) c.in_ok-does-in-Statement.ensures

pub returns-in_ok-assign-in-Assignment : goal.returns-in_ok-assign-in-Assignment
returns-in_ok-assign-in-Assignment c =
    let a = c.args.around.now in
    subst (λ (b : Body). Does a.setting.now I.Outermost c.args.self.now c.assign.new.self (does (body_of b) I.Outermost (loop_of a))) (sym c.in-Assignment.is) c.in_ok-assign-in-Assignment.ensures

pub does-requires-clause-asked : goal.does-requires-clause-asked
does-requires-clause-asked c = subst (λ (b : Body). Serve c.args.around.now.setting.now.in_rows.now (goes_outward (body_of b))) c.in-Statement.is c.requires.asked

pub assign-requires-clause-asked : goal.assign-requires-clause-asked
assign-requires-clause-asked c = subst (λ (b : Body). Serve c.args.around.now.setting.now.in_rows.now (goes_outward (body_of b))) c.in-Assignment.is c.requires.asked

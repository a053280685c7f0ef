use Rattle.std.proofs.Common.{◌∙◌, Bool, Some, ap}
use Rattle.gm_value.specs.declared.values.Value.TheVariants.{At}
use Rattle.gm_ast.specs.Tree.{expr_of}
use Rattle.gm_semantics.specs.declared.slots.Slot.TheVariants.{Scalar}
use Rattle.gm_semantics.specs.Expressions.{View, settled}
use Rattle.gm_semantics.specs.Iterations.{Iteration, Loop, Outermost, as_it_is, begun, does, one_way, view_in}
use Rattle.gm_semantics.specs.Stores.{Store, write}
use Rattle.gm_loops.specs.Around.{body_of, loop_of}
use Rattle.gm_loops.specs.Columns.{here}
use Rattle.gm_loops.specs.Filters.{Fails}
use Rattle.gm_loops.specs.Turns.{seen}
use Rattle.gm_loops.proofs.Deeds.{turn-filtered}
use Rattle.gm_loops.proofs.goings.Going.deed_by.Goals as goal

pub returns-then-is_over-clause-turn : goal.returns-then-is_over-clause-turn
returns-then-is_over-clause-turn c =
    let a = c.args.around.now in
    let loop : Loop = loop_of a in
    let s : Store = seen a.setting.now c.args.self.now in
    let start : Iteration = begun (write s (Scalar a.outer) (At (Some c.args.node))) in
    let w : View = view_in loop Outermost (begun s) c.args.key in
    let over : Fails (expr_of c.args.filter.now) (here w a.outer c.args.node) = c.is_over.ensures (expr_of c.args.filter.now) w a.outer c.requires.filter c.if-is_over.true in
    turn-filtered loop Outermost c.args.key (expr_of c.args.filter.now) (does (body_of a.body) Outermost loop) a.outer c.args.node s over.value (ap settled over.found)
    ∙ ap (λ (b : Bool). one_way b (does (body_of a.body) Outermost loop) as_it_is start) over.fails

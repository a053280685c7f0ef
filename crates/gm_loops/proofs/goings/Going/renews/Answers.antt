use Rattle.std.proofs.Common.{◌≡◌, ◌∙◌, ◌<◌, Ok, Result, refl, ap, sym, length, arith}
use Rattle.gm_ast.specs.Tree.{expr_of}
use Rattle.gm_model.specs.Graphs.{node_count}
use Rattle.gm_semantics.specs.declared.faults.Fault.{Fault}
use Rattle.gm_semantics.specs.Stores.{Store}
use Rattle.gm_columns.specs.Cells.{values_of}
use Rattle.gm_loops.specs.Around.{body_of, loop_of}
use Rattle.gm_loops.specs.LoopEnds.{nodes_in}
use Rattle.gm_loops.specs.Renewals.{Renews}
use Rattle.gm_loops.specs.Sights.{edges_in}
use Rattle.gm_loops.specs.Turns.{seen}
use Rattle.gm_loops.proofs.Renewing.{renewed, rest-renewed}
use Rattle.gm_loops.proofs.goings.Going.renews.Goals as goal

pub replace-requires : goal.replace-requires
replace-requires c =
    let f = c.args.around.now.setting.now in
    let within : c.in-Some.renewal.property < f.variables = rw c.in-Some.is at c.in_ok-renewal.ensures.within in
    let renews : Renews (loop_of c.args.around.now) (expr_of c.args.filter.now) (body_of c.args.around.now.body) (nodes_in c.args.nodes) (seen f c.args.self.now) c.in-Some.renewal = rw c.in-Some.is at c.in_ok-renewal.ensures.renews in
    let full : length (values_of c.in-Some.renewal.cells) ≡ node_count f.graph.now = renews.column.full in
    let fits = c.requires.rest.ready.fits in
    record { property = omega (arith, within, fits.rows); full = full ∙ sym fits.nodes }

pub returns-in-Some-clause-meaning : goal.returns-in-Some-clause-meaning
returns-in-Some-clause-meaning c = λ done key.
    let a = c.args.around.now in
    let renews : Renews (loop_of a) (expr_of c.args.filter.now) (body_of a.body) (nodes_in c.args.nodes) (seen a.setting.now c.args.self.now) c.in-Some.renewal = rw c.in-Some.is at c.in_ok-renewal.ensures.renews in
    renewed (loop_of a) key (expr_of c.args.filter.now) (body_of a.body) (nodes_in c.args.nodes) (seen a.setting.now c.args.self.now) c.in-Some.renewal renews
    ∙ ap (λ (s : Store). let r : Result Store Fault = Ok s in r) (sym (c.replace.ensures.store (edges_in a.setting.now)))

pub returns-in-Some-clause-rest : goal.returns-in-Some-clause-rest
returns-in-Some-clause-rest c = rest-renewed c.args.around.now.setting.now c.args.self.now _ c.replace.ensures.shape c.replace.ensures.undo refl refl refl c.requires.rest

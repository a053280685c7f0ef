use Rattle.std.proofs.Common.{◌∙◌}
use Rattle.gm_ast.specs.Tree.{stmt_of}
use Rattle.gm_push_pull.proofs.Growing.{settles-sound, settles-end}
use Rattle.gm_push_pull.proofs.locals.Locals.settle.Goals as goal

pub returns-then-not-changed : goal.returns-then-not-changed
returns-then-not-changed c =
    let i = c.loop-changed.invariant in
    settles-end c.args.self.now (stmt_of c.args.body.now) i.iterator i.known i.sound c.in_ok-changed.changed c.in_ok-changed.ensures c.if-not-changed.true

pub loop-changed-preserved : goal.loop-changed-preserved
loop-changed-preserved c =
    let i = c.loop-changed.invariant in
    let g = c.in_ok-changed.ensures in
    record {
      iterator = g.iterator ∙ i.iterator;
      known = λ x. g.known x ∙ i.known x;
      sound = settles-sound c.args.self.now (stmt_of c.args.body.now) i.iterator i.known i.sound c.in_ok-changed.changed g;
    }

use Rattle.std.proofs.Common.{◌≡◌, false, true, rules}
use Rattle.gm_ast.specs.Statements.{goes_with}
use Rattle.gm_ast.specs.SurfaceTree.{target_of}
use Rattle.gm_types.proofs.OwnNames.{tells-other, tells-one}
use Rattle.gm_types.proofs.lists.belongs.Goals as goal

pub returns-then-not-goes_with : goal.returns-then-not-goes_with
returns-then-not-goes_with c =
    let not-with : goes_with (target_of c.args.first.now) (target_of c.args.t.now) ≡ false = search rules in
    tells-other (target_of c.args.first.now) (target_of c.args.t.now) c.args.names.now not-with

pub returns : goal.returns
returns c =
    let with-it : goes_with (target_of c.args.first.now) (target_of c.args.t.now) ≡ true = search rules in
    tells-one (target_of c.args.first.now) (target_of c.args.t.now) c.args.names.now c.insert.new.self c.own_name.result c.in_ok-new.new c.own_name.ensures with-it c.in_ok-new.ensures.added c.in_ok-new.ensures.updates

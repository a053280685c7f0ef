use Rattle.std.proofs.Common.{map, sym, ◌∙◌}
use Rattle.gm_ast.specs.Tree.{stmt_of}
use Rattle.gm_slices.specs.Nests.{nest_of}
use Rattle.gm_slices.proofs.SliceWalks.{begins, goes-on, on-then}
use Rattle.gm_slices.proofs.slices.place.Goals as goal

pub returns-then-goes : goal.returns-then-goes
returns-then-goes c ss =
    let groups = c.args.groups.now in
    on-then c.join.result (c.join.ensures ss) (λ e.
    e
    ∙ goes-on c.args.declarations.now (nest_of c.args.nest.now) (map stmt_of groups.loops.items) (map stmt_of groups.done.items) (map stmt_of groups.group.items) (map stmt_of groups.waits.items) ss groups.fresh
    (sym c.in_ok-goes.ensures ∙ c.if-goes.true))

pub returns : goal.returns
returns c ss =
    let groups = c.args.groups.now in
    on-then c.begin_group.result (c.begin_group.ensures ss) (λ e.
    e
    ∙ begins c.args.declarations.now (nest_of c.args.nest.now) (map stmt_of groups.loops.items) (map stmt_of groups.done.items) (map stmt_of groups.group.items) (map stmt_of groups.waits.items) ss groups.fresh
    (sym c.in_ok-goes.ensures ∙ c.if-goes.false))

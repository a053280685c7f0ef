use Rattle.std.proofs.Common.{◌≡◌, ◌+◌, [], List, sym, subst, drop, get_or}
use Rattle.std.specs.Prelude.{flat_map}
use Rattle.gm_ast.specs.declared.tree.Target.{Target}
use Rattle.gm_push_pull.specs.Webs.{Adds, fed}
use Rattle.gm_push_pull.proofs.Webs.{adds-none, adds-then}
use Rattle.gm_push_pull.proofs.Items.{drop-at, nothing-left}
use Rattle.gm_push_pull.proofs.web.Web.feed_each.Goals as goal

pub loop-target-init : goal.loop-target-init
loop-target-init c = λ new g. g

pub loop-target-preserved : goal.loop-target-preserved
loop-target-preserved c =
    let self = c.loop-target.self in
    let site = c.args.site in
    let targets = c.args.targets.now in
    let i = c.loop-target.target-index in
    let none = Target.Scalar 0 (record { line = 0; col = 0 }) in
    let target = get_or targets i none in
    let rest = drop-at targets i none c.loop-target-test.true in
    λ new g. c.loop-target.invariant new (subst (λ (ts : List Target). Adds self new (flat_map (fed site) ts)) (sym rest)
    (adds-then (fed site target) (flat_map (fed site) (drop (i + 1) targets)) c.in_ok-feed.ensures g))

pub returns : goal.returns
returns c =
    let self = c.loop-target.self in
    let targets = c.args.targets.now in
    let none : drop c.loop-target.target-index targets ≡ [] = nothing-left targets c.loop-target.target-index c.loop-target-test.false in
    c.loop-target.invariant self (subst (λ (ts : List Target). Adds self self (flat_map (fed c.args.site) ts)) (sym none) (adds-none self))

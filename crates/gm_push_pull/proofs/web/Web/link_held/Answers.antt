use Rattle.std.proofs.Common.{◌≡◌, ◌+◌, [], List, sym, subst, drop, map, get_or}
use Rattle.std.specs.Prelude.{flat_map}
use Rattle.std.proofs.lemmas.List.{map-append}
use Rattle.gm_ast.specs.declared.tree.Target.{Target}
use Rattle.gm_ast.specs.Ways.{held_of}
use Rattle.gm_push_pull.specs.Webs.{Adds, link_from}
use Rattle.gm_push_pull.proofs.Webs.{adds-none, adds-then}
use Rattle.gm_push_pull.proofs.Items.{drop-at, nothing-left}
use Rattle.gm_push_pull.proofs.web.Web.link_held.Goals as goal

pub loop-target-init : goal.loop-target-init
loop-target-init c = λ new g. g

pub loop-target-preserved : goal.loop-target-preserved
loop-target-preserved c =
    let self = c.loop-target.self in
    let site = c.args.site in
    let targets = c.args.targets.now in
    let i = c.loop-target.target-index in
    let none = Target.Scalar 0 (record { line = 0; col = 0 }) in
    let target = get_or targets i none in
    let rest = drop-at targets i none c.loop-target-test.true in
    let here = held_of target in
    let more = flat_map held_of (drop (i + 1) targets) in
    λ new g. c.loop-target.invariant new (subst (λ (ts : List Target). Adds self new (map (link_from site) (flat_map held_of ts))) (sym rest)
    (subst (Adds self new) (sym (map-append (link_from site) here more)) (adds-then (map (link_from site) here) (map (link_from site) more) c.in_ok-link_target.ensures g)))

pub returns : goal.returns
returns c =
    let self = c.loop-target.self in
    let targets = c.args.targets.now in
    let none : drop c.loop-target.target-index targets ≡ [] = nothing-left targets c.loop-target.target-index c.loop-target-test.false in
    c.loop-target.invariant self (subst (λ (ts : List Target). Adds self self (map (link_from c.args.site) (flat_map held_of ts))) (sym none) (adds-none self))

use Rattle.std.proofs.Common.{◌≡◌, ◌<◌, ◌∙◌, sym, subst, arith}
use Rattle.gm_machine.specs.Machine.{block_at}
use Rattle.gm_merge.specs.Walk.{Keeps, IfKept}
use Rattle.gm_merge.specs.declared.joining.Walk.{Walk}
use Rattle.gm_merge.proofs.Stepping.{ready, block-is, walk-target, walk-unlike, joinable-is, pair-found}
use Rattle.gm_merge.proofs.joining.Walk.join_steps.Goals as goal

pub index-requires : goal.index-requires
index-requires g c =
    let r = ready c.args.self.now c.args.plan.now c.args.i c.args.a c.args.b g.image c.requires.0 c.requires.1.0 c.requires.1.1.1.0 in
    omega (arith, r.target, c.args.plan.now.targets.ok.0)

pub index-requires-2 : goal.index-requires-2
index-requires-2 g c =
    let r = ready c.args.self.now c.args.plan.now c.args.i c.args.a c.args.b g.image c.requires.0 c.requires.1.0 c.requires.1.1.1.0 in
    omega (arith, r.first, c.args.self.now.blocks.ok.0)

pub index-requires-3 : goal.index-requires-3
index-requires-3 g c =
    let r = ready c.args.self.now c.args.plan.now c.args.i c.args.a c.args.b g.image c.requires.0 c.requires.1.0 c.requires.1.1.1.0 in
    omega (arith, r.second, c.args.self.now.blocks.ok.0)

pub of-requires : goal.of-requires
of-requires g c =
    let r = ready c.args.self.now c.args.plan.now c.args.i c.args.a c.args.b g.image c.requires.0 c.requires.1.0 c.requires.1.1.1.0 in
    subst (IfKept c.args.kept) (sym (block-is c.args.self.now c.args.plan.now c.args.i c.args.i c.args.a g.image c.index-2.result.now c.requires.0 c.requires.1.1.1.0 r.first c.index-2.ensures)) c.requires.1.1.0

pub returns-then-index : goal.returns-then-index
returns-then-index g c =
    walk-target c.args.self.now c.args.plan.now c.args.i c.args.a c.args.b g.image c.index.result.now c.requires.0 c.requires.1.0 c.requires.1.1.1.1 c.requires.1.1.1.0 c.index.ensures c.if-index.true

pub returns-then-not-is_joinable : goal.returns-then-not-is_joinable
returns-then-not-is_joinable g c =
    let w : Walk = c.args.self.now in
    let r = ready w c.args.plan.now c.args.i c.args.a c.args.b g.image c.requires.0 c.requires.1.0 c.requires.1.1.1.0 in
    let keeps : Keeps c.in_ok-kept.kept (block_at g.image c.args.a) =
    subst (Keeps c.in_ok-kept.kept) (block-is w c.args.plan.now c.args.i c.args.i c.args.a g.image c.index-2.result.now c.requires.0 c.requires.1.1.1.0 r.first c.index-2.ensures) c.in_ok-kept.ensures in
    walk-unlike w c.args.plan.now c.args.i c.args.a c.args.b g.image c.requires.0 c.requires.1.0 c.requires.1.1.1.1 c.requires.1.1.1.0
    (sym (joinable-is w c.args.plan.now c.args.i c.args.a c.args.b g.image c.in_ok-kept.kept c.index-3.result.now c.is_joinable.result c.requires.1.0 c.requires.1.1.1.0 keeps c.is_joinable.ensures r.second c.index-3.ensures)
    ∙ c.if-not-is_joinable.true)

pub join_pair-requires : goal.join_pair-requires
join_pair-requires g c =
    let w : Walk = c.args.self.now in
    let r = ready w c.args.plan.now c.args.i c.args.a c.args.b g.image c.requires.0 c.requires.1.0 c.requires.1.1.1.0 in
    let keeps : Keeps c.in_ok-kept.kept (block_at g.image c.args.a) =
    subst (Keeps c.in_ok-kept.kept) (block-is w c.args.plan.now c.args.i c.args.i c.args.a g.image c.index-2.result.now c.requires.0 c.requires.1.1.1.0 r.first c.index-2.ensures) c.in_ok-kept.ensures in
    let alike =
    sym (joinable-is w c.args.plan.now c.args.i c.args.a c.args.b g.image c.in_ok-kept.kept c.index-3.result.now c.is_joinable.result c.requires.1.0 c.requires.1.1.1.0 keeps c.is_joinable.ensures r.second c.index-3.ensures)
    ∙ c.if-not-is_joinable.false in
    let pair = pair-found w c.args.plan.now c.args.i c.args.a c.args.b g.image c.index.result.now c.requires.0 c.requires.1.0 c.requires.1.1.1.0 c.index.ensures c.if-index.false alike in
    (pair, (keeps, (c.requires.1.1.1.0, c.requires.1.1.1.1)))

pub returns : goal.returns
returns g c = c.join_pair.ensures

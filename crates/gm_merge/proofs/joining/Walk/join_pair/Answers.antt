use Rattle.std.proofs.Common.{◌≡◌, ◌∙◌, ◌+◌, ◌<◌, ◌≤◌, ℕ, List, map, refl, sym, ap, subst, arith}
use Rattle.gm_image.specs.Views.{line}
use Rattle.gm_machine.specs.Machine.{block_at}
use Rattle.gm_merge.specs.Numbers.{count_at}
use Rattle.gm_merge.proofs.Stepping.{Ready, ready, joined-same, walk-over, walk-done}
use Rattle.gm_merge.specs.Walk.{Keeps}
use Rattle.gm_merge.proofs.joining.Walk.join_pair.Goals as goal

pub index-requires : goal.index-requires
index-requires g c =
    let r = ready c.args.self.now c.args.plan.now c.args.i c.args.a c.args.b g.image c.requires.0.first c.requires.0.second c.requires.1.1.0 in
    omega (arith, r.second, c.args.self.now.blocks.ok.0)

pub join-requires : goal.join-requires
join-requires g c = omega (arith, c.requires.1.0.rows)

pub put_joined-requires : goal.put_joined-requires
put_joined-requires g c =
    let r = ready c.args.self.now c.args.plan.now c.args.i c.args.a c.args.b g.image c.requires.0.first c.requires.0.second c.requires.1.1.0 in
    record { first = r.first; second = r.second; apart = λ e. subst (λ (cs : List ℕ). 1 < count_at cs c.args.a) (sym c.as_slice-2.ensures.value) (r.apart e) }

pub put_step-requires : goal.put_step-requires
put_step-requires g c =
    let r = ready c.args.self.now c.args.plan.now c.args.i c.args.a c.args.b g.image c.requires.0.first c.requires.0.second c.requires.1.1.0 in
    record { inside = r.inside; small = r.next }

pub returns : goal.returns
returns g c =
    let r = ready c.args.self.now c.args.plan.now c.args.i c.args.a c.args.b g.image c.requires.0.first c.requires.0.second c.requires.1.1.0 in
    let w = c.args.self.now in
    walk-done w _ c.args.plan.now c.args.i c.args.a c.args.b c.len-number.result g.image c.join.new.self c.as_slice.result.now c.index.result.now (map line c.in_ok-between.between.items) c.as_slice-2.result.now
    c.requires.0 c.requires.1.1.0 c.as_slice.ensures c.as_slice-2.ensures.value r.second c.index.ensures
    (c.in_ok-between.ensures.between (block_at g.image c.args.a) c.requires.1.0) (c.in_ok-between.ensures.keeps (block_at g.image c.args.a) c.requires.1.0)
    c.if-self-kept-ge4294967296.false c.in_ok-put_joined.ensures (c.len-number.ensures ∙ w.blocks.ok.0) c.put_step.ensures refl refl

pub overflow_cast-number : goal.overflow_cast-number
overflow_cast-number g c =
    let r = ready c.args.self.now c.args.plan.now c.args.i c.args.a c.args.b g.image c.requires.0.first c.requires.0.second c.requires.1.1.0 in
    omega (arith, r.number, c.len-number.ensures, c.args.self.now.blocks.ok.0)

pub returns-then-self-kept-ge4294967296 : goal.returns-then-self-kept-ge4294967296
returns-then-self-kept-ge4294967296 g c =
    let r = ready c.args.self.now c.args.plan.now c.args.i c.args.a c.args.b g.image c.requires.0.first c.requires.0.second c.requires.1.1.0 in
    walk-over c.args.self.now c.args.plan.now c.args.i c.args.a c.args.b g.image c.join.new.self c.as_slice.result.now c.index.result.now c.requires.0 c.requires.1.1.1 c.requires.1.1.0
    c.as_slice.ensures r.second c.index.ensures (c.in_ok-between.ensures.keeps (block_at g.image c.args.a) c.requires.1.0) c.if-self-kept-ge4294967296.true

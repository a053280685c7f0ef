use Rattle.std.proofs.Common.{◌≡◌, ◌∙◌, ◌<◌, ◌+◌, ℕ, List, length, map, sym, ap, subst, arith}
use Rattle.std.proofs.lemmas.List.{length-map}
use Rattle.gm_image.specs.Program.{Command}
use Rattle.gm_image.specs.Views.{command}
use Rattle.gm_merge.specs.Joining.{with_lines_joined}
use Rattle.gm_merge.specs.Walk.{WalkStands}
use Rattle.gm_merge.proofs.Beginning.{lines-long, next-lines}
use Rattle.gm_merge.proofs.joining.Walk.join_lines.Goals as goal

pub loop-i-init : goal.loop-i-init
loop-i-init g c = record {
  stands = c.requires;
  long =
      let same = ap (λ (ms : List Command). length ms) c.requires.walk.master in
      omega (arith, same, length-map c.args.self.now.master.items command, c.len-count.ensures);
}

pub join_line-requires : goal.join_line-requires
join_line-requires g c =
    let w = c.loop-i.self in
    let i = c.loop-i.i in
    let stands = c.loop-i.invariant.stands in
    let same = ap (λ (ms : List Command). length ms) stands.walk.master in
    (omega (arith, same, length-map w.master.items command, lines-long i g.image, c.loop-i.invariant.long, c.loop-i-test.true), stands)

pub loop-i-preserved : goal.loop-i-preserved
loop-i-preserved g c = record {
  stands = subst (WalkStands c.join_line.new.self c.args.plan.now (c.loop-i.i + 1)) (next-lines c.loop-i.i g.image) c.in_ok-join_line.ensures;
  long = c.loop-i.invariant.long;
}

pub returns : goal.returns
returns g c =
    let last : c.loop-i.i ≡ length g.image.master = omega (arith, c.loop-i.invariant.long, c.loop-i-test.false) in
    subst (λ (n : ℕ). WalkStands c.loop-i.self c.args.plan.now n (with_lines_joined n 0 g.image)) last c.loop-i.invariant.stands

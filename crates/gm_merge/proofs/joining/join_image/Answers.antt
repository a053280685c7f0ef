use Rattle.std.proofs.Common.{refl}
use Rattle.gm_merge.proofs.Walking.{walk-starts, walk-ends}
use Rattle.gm_merge.proofs.joining.join_image.Goals as goal

pub join_lines-requires : goal.join_lines-requires
join_lines-requires g c =
    walk-starts c.args.image _ c.in_ok-plan.plan c.as_slice.result.now c.len.result g.start c.requires.0 c.requires.1 c.into_vec.ensures c.into_vec-2.ensures c.count_lines-lines.ensures refl
    c.as_slice.ensures c.len.ensures c.in_ok-plan.ensures.registers c.in_ok-plan.ensures.marks c.in_ok-plan.ensures.targets c.in_ok-plan.ensures.steps

pub returns : goal.returns
returns g c =
    walk-ends c.args.image c.join_lines.new.self c.in_ok-plan.plan c.new-2.result c.new-3.result _ g.start c.requires.0 c.in_ok-join_lines.ensures c.new-2.ensures c.new-3.ensures

use Rattle.std.proofs.Common.{◌≡◌, ◌∙◌, ◌||◌, not, Bool, List, take, map, sym, ap}
use Rattle.std.specs.Prelude.{nat_eq}
use Rattle.std.specs.HashSet.{contains}
use Rattle.gm_verify.proofs.Lists.{taken-all}
use Rattle.gm_verify.proofs.Slots.{or-assoc, or-none}
use Rattle.gm_image.specs.Views.{line}
use Rattle.gm_merge_laws.specs.Joins.{sets_register}
use Rattle.gm_merge.specs.Registers.{sets_some}
use Rattle.gm_merge.proofs.Restarting.{sets-more}
use Rattle.gm_merge.proofs.registers.add_set.Goals as goal

pub loop-vertex_line-init : goal.loop-vertex_line-init
loop-vertex_line-init c = λ r. or-none (contains nat_eq c.args.set.now r)

pub loop-vertex_line-preserved : goal.loop-vertex_line-preserved
loop-vertex_line-preserved c = λ r.
    let xs = c.args.lines.now in
    let i = c.loop-vertex_line.vertex_line-index in
    let x = c.vertex_line-item.result in
    c.in_ok-add_line_set.ensures r
    ∙ ap (λ (b : Bool). b || sets_register r (line x)) (c.loop-vertex_line.invariant r)
    ∙ or-assoc (contains nat_eq c.args.set.now r) (sets_some (map line (take i xs)) r) (sets_register r (line x))
    ∙ ap (λ (b : Bool). contains nat_eq c.args.set.now r || b) (sym (sets-more xs i x r c.loop-vertex_line-test.true c.vertex_line-item.is))

pub returns : goal.returns
returns c = λ r.
    c.loop-vertex_line.invariant r
    ∙ ap (λ xs. contains nat_eq c.args.set.now r || sets_some (map line xs) r) (taken-all c.args.lines.now c.loop-vertex_line.vertex_line-index c.loop-vertex_line-test.false)

use Rattle.std.proofs.Common.{◌∙◌, sym, ap}
use Rattle.std.specs.Prelude.{nat_eq, slice_get}
use Rattle.std.specs.HashSet.{contains}
use Rattle.gm_image.specs.Program.{SetRegister}
use Rattle.gm_merge.proofs.Restarting.{restart-pushed, restart-none}
use Rattle.gm_merge.proofs.registers.add_restart.Goals as goal

pub returns-in_ok-push : goal.returns-in_ok-push
returns-in_ok-push c =
    restart-pushed c.args.lines.now.items c.push.new.self.items _ (contains nat_eq c.args.set.now c.args.register) c.args.register (slice_get c.args.registers.now c.args.register) c.in-Some.vtype c.zero.result
    c.in_ok-push.ensures.items (ap (SetRegister c.args.register) c.leaf_expr.ensures) c.zero.ensures (sym c.contains.ensures ∙ c.if-contains.true) (sym c.register_type.ensures ∙ c.in-Some.is)

pub returns-in_default : goal.returns-in_default
returns-in_default c =
    restart-none c.args.lines.now.items (contains nat_eq c.args.set.now c.args.register) c.args.register (slice_get c.args.registers.now c.args.register) (sym c.register_type.ensures ∙ c.in_default.is)

use Rattle.std.proofs.Common.{◌∙◌, ◌++◌, ◌∷◌, [], ℕ, List, take, get_or, sym, ap}
use Rattle.std.specs.Prelude.{nat_eq, slice_get}
use Rattle.std.specs.HashSet.{contains}
use Rattle.std.proofs.lemmas.List.{take_more}
use Rattle.gm_verify.proofs.Lists.{taken-all}
use Rattle.gm_image.specs.Program.{Line}
use Rattle.gm_merge.specs.Registers.{restart_if, restarts_among}
use Rattle.gm_merge.proofs.Rising.{index-get, restarts-more}
use Rattle.gm_merge.proofs.registers.restart_lines.Goals as goal

pub loop-register-preserved : goal.loop-register-preserved
loop-register-preserved c =
    let rs = c.args.reads.now in
    let i = c.loop-register.register-index in
    let x = get_or rs i 0 in
    c.in_ok-add_restart.ensures
    ∙ ap (λ (ls : List Line). ls ++ restart_if (contains nat_eq c.args.set.now x) x (slice_get c.args.registers.now x)) c.loop-register.invariant
    ∙ sym (restarts-more (contains nat_eq c.args.set.now) c.args.registers.now rs i x c.loop-register-test.true (index-get rs i c.loop-register-test.true))

pub returns : goal.returns
returns c = c.loop-register.invariant ∙ ap (restarts_among (contains nat_eq c.args.set.now) c.args.registers.now) (taken-all c.args.reads.now c.loop-register.register-index c.loop-register-test.false)

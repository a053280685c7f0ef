use Rattle.std.proofs.Common.{◌≡◌, ◌+◌, List, drop, length, map, subst, ◌∙◌, arith}
use Rattle.std.proofs.lemmas.List.{length-map}
use Rattle.gm_image.specs.Views.{program, command}
use Rattle.gm_image.specs.Rows.{Row, CommandRow, command_rows}
use Rattle.gm_verify.specs.Checks.{Walks}
use Rattle.gm_verify.proofs.Commands.{commands-at, commands-end, length-command_rows}
use Rattle.gm_verify.proofs.Walking.{walks-start, walks-next, walks-stop, walks-end, walks-room, stopped}
use Rattle.gm_verify.proofs.master.check_commands.Goals as goal

pub next_line-requires : goal.next_line-requires
next_line-requires c =
    let p = program c.args.image.now in
    let cs = c.args.commands.now in
    let i = c.loop-index.index in
    let all = command_rows 0 (map command cs) in
    let x = c.index-commands-index.result in
    let here = subst (λ (rs : List Row). Walks p c.args.number all c.loop-index.next rs) (commands-at cs i x c.loop-index-test.true c.index-commands-index.is) c.loop-index.invariant in
    let long : length all ≡ length cs = length-command_rows (map command cs) 0 ∙ length-map cs command in
    walks-room p c.args.number all c.loop-index.next (CommandRow i (command x)) (command_rows (i + 1) (map command (drop (i + 1) cs))) here (omega (arith, long, c.requires.room))

pub loop-index-init : goal.loop-index-init
loop-index-init c = walks-start (program c.args.image.now) c.args.number (command_rows 0 (map command c.args.commands.now))

pub loop-index-preserved : goal.loop-index-preserved
loop-index-preserved c =
    let p = program c.args.image.now in
    let cs = c.args.commands.now in
    let i = c.loop-index.index in
    let all = command_rows 0 (map command cs) in
    let x = c.index-commands-index.result in
    let here = subst (λ (rs : List Row). Walks p c.args.number all c.loop-index.next rs) (commands-at cs i x c.loop-index-test.true c.index-commands-index.is) c.loop-index.invariant in
    walks-next p c.args.number all c.loop-index.next c.in_ok-next.next (CommandRow i (command x)) (command_rows (i + 1) (map command (drop (i + 1) cs))) c.command_rule-rule.result here
    c.command_rule-rule.ensures c.in_ok-next.ensures.0 c.in_ok-next.ensures.1

pub returns-in_err-next : goal.returns-in_err-next
returns-in_err-next c =
    let p = program c.args.image.now in
    let cs = c.args.commands.now in
    let i = c.loop-index.index in
    let all = command_rows 0 (map command cs) in
    let x = c.index-commands-index.result in
    let here = subst (λ (rs : List Row). Walks p c.args.number all c.loop-index.next rs) (commands-at cs i x c.loop-index-test.true c.index-commands-index.is) c.loop-index.invariant in
    stopped p c.args.number all c.from_residual.result c.in_err-next.field-0.0 c.from_residual.ensures.1
    (walks-stop p c.args.number all c.loop-index.next (CommandRow i (command x)) (command_rows (i + 1) (map command (drop (i + 1) cs))) c.command_rule-rule.result here
    c.command_rule-rule.ensures c.in_err-next.field-0.0 c.in_err-next.ensures)

pub returns : goal.returns
returns c =
    let p = program c.args.image.now in
    let cs = c.args.commands.now in
    let all = command_rows 0 (map command cs) in
    walks-end p c.args.number all c.loop-index.next (subst (λ (rs : List Row). Walks p c.args.number all c.loop-index.next rs) (commands-end cs c.loop-index.index c.loop-index-test.false) c.loop-index.invariant)

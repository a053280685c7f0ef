use Rattle.std.proofs.Common.{◌≡◌, ◌∙◌, ◌+◌, ◌<◌, ℕ, List, map, length, set, refl, sym, ap, arith}
use Rattle.std.proofs.lemmas.List.{length-map, map-set}
use Rattle.gm_image.specs.declared.lines.MasterLine.TheVariants as lines
use Rattle.gm_image.specs.Program.{Step, Jump}
use Rattle.gm_image.specs.Views.{command}
use Rattle.gm_merge.proofs.Standing.{set-replaced}
use Rattle.gm_merge.proofs.joining.put_step.Goals as goal

pub returns : goal.returns
returns c =
    let ms = c.args.master.now.items in
    let i = c.args.i in
    let inside : i + 1 < length (map command ms) = omega (arith, length-map ms command, c.requires.inside) in
    map-set command (set ms i (lines.Jump (i + 1))) (i + 1) (lines.Step c.args.number)
    ∙ ap (λ xs. set xs (i + 1) (Step c.args.number)) (map-set command ms i (lines.Jump (i + 1)))
    ∙ set-replaced (Jump (i + 1)) (Step c.args.number) i (i + 1) (map command ms) refl inside

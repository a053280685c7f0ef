use Rattle.gm_image.specs.Views.{program}
use Rattle.gm_run.proofs.CompiledLemmas.{is_shown}
use Rattle.gm_run.proofs.compiling.run_shown.Goals as goal

pub returns : goal.returns
returns g c =
    is_shown (program c.args.compiled.now.image) c.args.compiled.now.interface.outputs.items c.args.options.now.turns c.args.options.now.observe _ _ _ _ c.args.over.now.graph c.args.over.now.args.items c.in_ok-end.end
    c.in_ok-answer.answer.text.items c.in_ok-lines.lines.text.items c.in_ok-answer.answer.status c.in_ok-lines.lines.status
    c.in_ok-end.ensures.end c.in_ok-end.ensures.told (rw c.deref.ensures.value at c.in_ok-lines.ensures) c.run_watched.ensures.same_ways c.in_ok-answer.ensures.text c.in_ok-answer.ensures.status

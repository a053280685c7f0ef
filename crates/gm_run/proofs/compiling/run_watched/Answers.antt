use Rattle.std.proofs.Common.{◌≡◌, true, false, refl}
use Rattle.gm_run.proofs.CompiledLemmas.{on_ok}
use Rattle.gm_run.proofs.compiling.run_watched.Goals as goal

pub returns-then-options-clause-told : goal.returns-then-options-clause-told
returns-then-options-clause-told g c =
    let yes : c.args.options.now.observe ≡ true = c.if-options.true in
    rw yes c.run_told.ensures.told

pub returns-else-options-clause-told : goal.returns-else-options-clause-told
returns-else-options-clause-told g c =
    let not : c.args.options.now.observe ≡ false = c.if-options.false in
    rw not (on_ok _ c.run_alone.result refl)

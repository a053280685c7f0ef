use Rattle.gm_driver.proofs.Executing.{compiled_is_executed}
use Rattle.gm_driver.proofs.laws.compiled_images_run_alike.Goals as goal

pub returns : goal.returns
returns c = compiled_is_executed

-- What the steps of a block put is reduced by one reduction for each global.
use Rattle.gm_machine.proofs.SoundPuts.{steps-settle}
use Rattle.gm_machine.proofs.laws.puts_have_no_order.Goals as goal

pub returns : goal.returns
returns c = λ p q visits puts held sound same. steps-settle p q sound (λ v. v.context) (λ v. v.inbox) (λ v. v.fields) visits puts held same

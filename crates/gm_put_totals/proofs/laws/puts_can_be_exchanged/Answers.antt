-- What a block of a sound image puts is reduced by one reduction for each global.
use Rattle.gm_put_totals.proofs.SoundLemmas.{steps-exchanged}
use Rattle.gm_put_totals.proofs.laws.puts_can_be_exchanged.Goals as goal

pub returns : goal.returns
returns c = λ p q visits puts held sound is. steps-exchanged p q sound (λ v. v.context) (λ v. v.inbox) (λ v. v.fields) visits puts held is

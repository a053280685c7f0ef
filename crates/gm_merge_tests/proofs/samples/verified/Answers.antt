use Rattle.gm_merge_tests.proofs.samples.verified.Goals as goal

pub verify-requires : goal.verify-requires
verify-requires c = c.is_countable.ensures.0 c.if-is_countable.true

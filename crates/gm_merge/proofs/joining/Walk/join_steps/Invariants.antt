use Rattle.gm_merge.proofs.joining.Walk.join_steps.Given as goal

abbrev pub ghost-join_pair : goal.ghost-join_pair
ghost-join_pair g a = g.image

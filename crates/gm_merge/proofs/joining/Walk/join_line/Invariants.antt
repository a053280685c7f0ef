use Rattle.gm_merge.proofs.joining.Walk.join_line.Given as goal

abbrev pub ghost-join_steps : goal.ghost-join_steps
ghost-join_steps g a = g.image

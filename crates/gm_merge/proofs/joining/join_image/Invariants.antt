use Rattle.gm_merge.proofs.joining.join_image.Given as goal

abbrev pub ghost-join_lines : goal.ghost-join_lines
ghost-join_lines g a = g.start

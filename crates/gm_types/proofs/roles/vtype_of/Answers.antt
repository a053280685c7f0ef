use Rattle.std.proofs.Common.{◌∙◌, sym}
use Rattle.gm_types.proofs.Types.{vtype-within}
use Rattle.gm_types.proofs.roles.vtype_of.Goals as goal

pub returns : goal.returns
returns c = c.vtype_of_word.ensures ∙ sym (vtype-within _ c.args.vtype.now.layers.items)

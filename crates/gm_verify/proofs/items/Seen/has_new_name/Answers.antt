use Rattle.std.proofs.Common.{◌∙◌, ap, not}
use Rattle.gm_verify.proofs.items.Seen.has_new_name.Goals as goal

pub returns : goal.returns
returns c = λ before shown. ap not (c.contains.ensures ∙ shown.names c.args.item.name)

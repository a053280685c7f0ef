use Rattle.std.proofs.Common.{◌∙◌}
use Rattle.gm_types.proofs.KnownNames.{known-lookup}
use Rattle.gm_types.proofs.names.Scope.meaning.Goals as goal

pub returns : goal.returns
returns c = c.copied.ensures ∙ c.get.ensures.value ∙ known-lookup c.args.text.now c.args.self.now.names.entries

use Rattle.std.proofs.Common.{◌∙◌, ap, sym}
use Rattle.std.specs.Prelude.{Some}
use Rattle.gm_token.proofs.Listings.{at_row}
use Rattle.gm_token.proofs.scanned.Tokens.text.Goals as goal

pub returns : goal.returns
returns c = at_row (λ token. token.text) c.self.inside c.args.self.now c.args.i c.index.result.now c.self.view_is c.requires c.index.ensures ∙ ap Some (sym c.bytes_of.ensures)

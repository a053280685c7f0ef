use Rattle.gm_token.proofs.Listings.{at_row}
use Rattle.gm_token.proofs.scanned.Tokens.place.Goals as goal

pub returns : goal.returns
returns c = at_row (λ token. token.place) c.self.inside c.args.self.now c.args.i c.index.result.now c.self.view_is c.requires c.index.ensures

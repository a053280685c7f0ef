use Rattle.gm_token.proofs.Listings.{at_row}
use Rattle.gm_token.proofs.scanned.Tokens.word.Goals as goal

pub returns : goal.returns
returns c = at_row (λ token. token.word) c.self.inside c.args.self.now c.args.i c.index.result.now c.self.view_is c.requires c.index.ensures

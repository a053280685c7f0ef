use Rattle.std.proofs.Common.{sym}
use Rattle.gm_token.specs.Tokens.{words_of}
use Rattle.gm_parse.proofs.Paths.{next_slice}
use Rattle.gm_parse.proofs.reading.peek.Goals as goal

pub returns-then-at-len-clause-word : goal.returns-then-at-len-clause-word
returns-then-at-len-clause-word c = sym (next_slice (words_of c.args.tokens.now) c.args.at c.word.result c.word.ensures)

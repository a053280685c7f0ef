use Rattle.std.proofs.Common.{sym}
use Rattle.gm_token.proofs.Symbols.{symbols_none}
use Rattle.gm_token.proofs.Longest.{longest_symbol}
use Rattle.gm_token.proofs.parts.token.Goals as goal

pub returns-in-Some-clause-found : goal.returns-in-Some-clause-found
returns-in-Some-clause-found c = longest_symbol c.args.text.now c.in-Some.word c.in-Some.length (sym (c.in-Some.ensures))

pub name_or_number-requires : goal.name_or_number-requires
name_or_number-requires c = symbols_none c.args.text.now (sym c.in-None.ensures)

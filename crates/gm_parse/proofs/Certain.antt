-- One token of foresight decides every rule of the grammar that the parser follows.
use Rattle.std.proofs.Common.{◌≡◌, true, refl}
use Rattle.gm_token.specs.declared.words.Word.{Word}
use Rattle.gm_token.specs.declared.words.Word.TheVariants as words
use Rattle.gm_parse.specs.Grammar.{Part, Program, rule}
use Rattle.gm_parse.specs.Factored.{factored}
use Rattle.gm_parse.specs.Foresight.{begins, follows, is_certain}

pub certain : (w : Word) (q : Part) → is_certain w q ≡ true
unfolding rule factored begins follows
certain words.Name Program = refl
certain words.Name _ = refl
certain _ Program = refl
certain _ _ = refl

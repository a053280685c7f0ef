use Rattle.std.proofs.Common.{arith, ◌≡◌, ◌<◌, length, get_or}
use Rattle.std.proofs.lemmas.Str.{IsCharBoundary-after_ascii}
use Rattle.gm_words.proofs.Assignments.{at_byte, byte_within}
use Rattle.gm_words.proofs.arguments.split_word.Goals as goal

pub range_from-requires : goal.range_from-requires
range_from-requires c =
    let word = c.args.word.now in
    let end = c.name_end-end.result in
    let within : end < length word = byte_within word end 61 c.name_end-end.ensures.equals in
    let byte : get_or word end 0 ≡ 61 = at_byte word end 61 c.name_end-end.ensures.equals in
    λ some. IsCharBoundary-after_ascii word end c.utf8.word within (omega arith)

use Rattle.std.proofs.Common.{◌≡◌, ◌≤◌, ◌+◌, length}
use Rattle.gm_image_text.specs.Lines.{lines_of}
use Rattle.gm_image_text.proofs.words.count_lines.Given as goal

abbrev pub invariant-lines : goal.invariant-lines
invariant-lines l = record {
  all : l.count + length (lines_of l.rest) ≡ length (lines_of l.text);
  room : l.count + length l.rest ≤ length l.text;
}

abbrev pub decreases-lines : goal.decreases-lines
decreases-lines l = length l.rest

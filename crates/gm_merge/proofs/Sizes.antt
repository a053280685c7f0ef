-- A sound image has few blocks, and its steps run them; without those that no step runs it has the same other parts.
use Rattle.std.proofs.Common.{◌≡◌, ◌<◌, ◌≤◌, ℕ, ◌+◌, List, [], ◌∷◌, length, refl, ap, arith, length-append}
use Rattle.std.specs.Prelude.{IsTrue, nat_lt}
use Rattle.std.specs.List.{list_all, flat_map}
use Rattle.std.proofs.lemmas.Bool.{and_parts, ltb-true}
use Rattle.gm_image.specs.Program.{Program, Block}
use Rattle.gm_image.specs.Rows.{block_rows, rows, line_count}
use Rattle.gm_image.specs.Soundness.{keeps_all, is_sound, line_limit}
use Rattle.gm_verify.proofs.Counting.{length-block, length-text}
use Rattle.gm_merge.specs.Trimmed.{trimmed}
use Rattle.gm_merge.specs.Numbers.{StepsInside}
use Rattle.gm_merge.specs.Results.{RunsAs, HasSameRest}
use Rattle.gm_merge.proofs.Walks.{step-inside}
use Rattle.gm_merge.proofs.SameRuns.{trimmed-runs}

blocks-fewer : (bs : List Block) → length bs ≤ length (flat_map block_rows bs)
blocks-fewer [] = omega arith
blocks-fewer (b ∷ bs) =
    let more = blocks-fewer bs in
    let both = length-append (block_rows b) (flat_map block_rows bs) in
    let one = length-block b in
    omega (arith, more, both, one)

-- a sound image has no more registers, blocks and lines of its master list than its text has lines
pub record Small (p : Program) : Type 0 where
  pub lines : line_count p < 4294967296
  pub registers : length p.registers < 4294967296
  pub blocks : length p.blocks < 4294967295
  pub master : length p.master < 4294967296

pub small : (p : Program) → IsTrue (is_sound p) → Small p
small p sound =
    let short : line_count p < 4294967296 = ltb-true (line_count p) line_limit (and_parts (list_all (keeps_all p) (rows p)) (nat_lt (line_count p) line_limit) sound).1 in
    let text = length-text p in
    let blocks = blocks-fewer p.blocks in
    record {
      lines = short;
      registers = omega (arith, short, text);
      blocks = omega (arith, short, text, blocks);
      master = omega (arith, short, text);
    }

pub steps-inside : (p : Program) → IsTrue (is_sound p) → StepsInside (length p.blocks) p.master
steps-inside p sound k q e = step-inside p sound k q e

pub trimmed-rest : (p : Program) → HasSameRest p (trimmed p)
trimmed-rest p = refl

pub trimmed-runs-as : (p : Program) → IsTrue (is_sound p) → RunsAs p (trimmed p)
trimmed-runs-as p sound g args turns = trimmed-runs p g sound args turns

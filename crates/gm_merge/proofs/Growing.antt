-- A join makes the text of an image no shorter.
use Rattle.std.proofs.Common.{◌≡◌, ◌<◌, ◌≤◌, ℕ, zero, suc, ◌+◌, false, List, [], ◌∷◌, ◌++◌, length, refl, ap, ◌∙◌, arith, length-append}
use Rattle.std.specs.List.{flat_map}
use Rattle.std.specs.Prelude.{slice_index_or}
use Rattle.std.proofs.lemmas.Bool.{ltb-false, le-ltb}
use Rattle.std.proofs.lemmas.List.Concat.{flat_map-append}
use Rattle.gm_image.specs.Program.{Program, Block}
use Rattle.gm_image.specs.Rows.{block_rows, line_count}
use Rattle.gm_image.specs.Soundness.{line_limit}
use Rattle.gm_verify.proofs.Counting.{length-text}
use Rattle.gm_machine.specs.Machine.{block_at, no_block}
use Rattle.gm_merge_laws.specs.Joins.{joined_block, joined_image}
use Rattle.gm_merge.specs.Joining.{is_short}
use Rattle.gm_merge.proofs.Replacing.{length-replaced}

-- how many lines some blocks have
abbrev pub block_lines : List Block → ℕ
block_lines bs = length (flat_map block_rows bs)

lines-append : (bs cs : List Block) → block_lines (bs ++ cs) ≡ block_lines bs + block_lines cs
lines-append bs cs = ap length (flat_map-append block_rows bs cs) ∙ length-append (flat_map block_rows bs) (flat_map block_rows cs)

-- how long the text is after a join
pub joined-count : (p : Program) (i a b : ℕ) → line_count (joined_image p i a b) ≡ line_count p + block_lines (joined_block p.registers (block_at p a) (block_at p b) ∷ [])
joined-count p i a b =
    let q : Program = joined_image p i a b in
    let new : Block = joined_block p.registers (block_at p a) (block_at p b) in
    let old = length-text p in
    let now : line_count q ≡ 13 + length p.inputs + length p.outputs + length p.globals + length p.fields + length p.registers + length p.columns + length p.kinds + length p.places
    + block_lines q.blocks + length q.master = length-text q in
    let more : block_lines q.blocks ≡ block_lines p.blocks + block_lines (new ∷ []) = lines-append p.blocks (new ∷ []) in
    let long : length q.master ≡ length p.master = length-replaced i _ _ p.master in
    omega (arith, old, now, more, long)

at-front : {A : Type 0} (xs ys : List A) (q : ℕ) (d : A) → q < length xs → slice_index_or (xs ++ ys) q d ≡ slice_index_or xs q d
at-front [] ys q d l = absurd (omega arith)
at-front (x ∷ xs) ys zero d l = refl
at-front (x ∷ xs) ys (suc q) d l = let l' : q < length xs = omega arith in at-front xs ys q d l'

-- the blocks of an image are as they were after a join
pub kept-block : (p : Program) (i a b q : ℕ) → q < length p.blocks → block_at (joined_image p i a b) q ≡ block_at p q
kept-block p i a b q l = at-front p.blocks (joined_block p.registers (block_at p a) (block_at p b) ∷ []) q no_block l

-- a join that would make the text too long does so after another join too
pub longer : (p : Program) (i a b j c d : ℕ) → c < length p.blocks → d < length p.blocks → is_short (joined_image p j c d) ≡ false → is_short (joined_image (joined_image p i a b) j c d) ≡ false
longer p i a b j c d in_c in_d h =
    let q : Program = joined_image p i a b in
    let first : block_at q c ≡ block_at p c = kept-block p i a b c in_c in
    let second : block_at q d ≡ block_at p d = kept-block p i a b d in_d in
    let same : block_lines (joined_block p.registers (block_at q c) (block_at q d) ∷ []) ≡ block_lines (joined_block p.registers (block_at p c) (block_at p d) ∷ []) =
    ap (λ x. block_lines (joined_block p.registers x (block_at q d) ∷ [])) first ∙ ap (λ y. block_lines (joined_block p.registers (block_at p c) y ∷ [])) second in
    let old = joined-count p j c d in
    let one = joined-count p i a b in
    let two : line_count (joined_image q j c d) ≡ line_count q + block_lines (joined_block p.registers (block_at q c) (block_at q d) ∷ []) = joined-count q j c d in
    let long : line_limit ≤ line_count (joined_image p j c d) = ltb-false (line_count (joined_image p j c d)) line_limit h in
    le-ltb (line_count (joined_image q j c d)) line_limit (omega (arith, same, old, one, two, long))

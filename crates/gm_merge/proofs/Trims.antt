-- The blocks that are kept, and their numbers.
use Rattle.std.proofs.Common.{◌≡◌, ◌<◌, ◌≤◌, ℕ, zero, suc, ◌+◌, Bool, true, false, nat_eq, List, [], ◌∷◌, length, refl, ap, ◌∙◌, arith, length-append}
use Rattle.std.specs.Prelude.{slice_index_or}
use Rattle.std.specs.List.{list_all, flat_map}
use Rattle.std.proofs.lemmas.Bool.{and_from, eq-eqb, or_left, or_right}
use Rattle.std.proofs.lemmas.List.Folds.{list_all-append}
use Rattle.gm_image.specs.Program.{Block, Command, SetGlobal, Step, Jump, Test, Turn, Back, Finish}
use Rattle.gm_image.specs.Rows.{Row, block_rows}
use Rattle.gm_machine.proofs.SoundHandlers.{all_front, all_back}
use Rattle.gm_merge.specs.Trimmed.{steps_to, is_run, kept_before, kept_blocks, counted_before, kept_count}

at-kept : (x : Bool) (b : Block) (bs : List Block) (n : ℕ) (d : Block) → slice_index_or (kept_before x b bs) (counted_before x n) d ≡ slice_index_or bs n d
at-kept true b bs n d = refl
at-kept false b bs n d = refl

-- a kept block has its new number
pub kept-at : (keep : ℕ → Bool) (q k : ℕ) (bs : List Block) (d : Block) → k < length bs → keep (q + k) ≡ true → slice_index_or (kept_blocks keep q bs) (kept_count keep q k) d ≡ slice_index_or bs k d
kept-at keep q k [] d l h = absurd (omega arith)
kept-at keep q zero (b ∷ bs) d l h =
    let z : q ≡ q + 0 = omega arith in
    ap (λ x. slice_index_or (kept_before x b (kept_blocks keep (suc q) bs)) 0 d) (ap keep z ∙ h)
kept-at keep q (suc k) (b ∷ bs) d l h =
    let z : suc q + k ≡ q + suc k = omega arith in
    let l' : k < length bs = omega arith in
    at-kept (keep q) b (kept_blocks keep (suc q) bs) (kept_count keep (suc q) k) d ∙ kept-at keep (suc q) k bs d l' (ap keep z ∙ h)

below-kept : (x : Bool) (b : Block) (bs : List Block) (n : ℕ) → n < length bs → counted_before x n < length (kept_before x b bs)
below-kept true b bs n l = omega arith
below-kept false b bs n l = l

pub kept-below : (keep : ℕ → Bool) (q k : ℕ) (bs : List Block) → k < length bs → keep (q + k) ≡ true → kept_count keep q k < length (kept_blocks keep q bs)
kept-below keep q k [] l h = absurd (omega arith)
kept-below keep q zero (b ∷ bs) l h =
    let z : q ≡ q + 0 = omega arith in
    let long : length (kept_before (keep q) b (kept_blocks keep (suc q) bs)) ≡ suc (length (kept_blocks keep (suc q) bs)) =
    ap (λ x. length (kept_before x b (kept_blocks keep (suc q) bs))) (ap keep z ∙ h) in
    omega arith
kept-below keep q (suc k) (b ∷ bs) l h =
    let z : suc q + k ≡ q + suc k = omega arith in
    let l' : k < length bs = omega arith in
    below-kept (keep q) b (kept_blocks keep (suc q) bs) (kept_count keep (suc q) k) (kept-below keep (suc q) k bs l' (ap keep z ∙ h))

one-count : (x : Bool) (m n : ℕ) → m ≤ n → counted_before x m ≤ suc n
one-count true m n l = omega arith
one-count false m n l = omega arith

-- no number grows
pub count-less : (keep : ℕ → Bool) (q k : ℕ) → kept_count keep q k ≤ k
count-less keep q zero = omega arith
count-less keep q (suc k) = one-count (keep q) (kept_count keep (suc q) k) k (count-less keep (suc q) k)

-- whether a step's block is kept
abbrev pub step_kept : (ℕ → Bool) → Command → Bool
step_kept keep (Step q) = keep q
step_kept keep m = true

step-head : (m : Command) (ms : List Command) (keep : ℕ → Bool) → ((q : ℕ) → is_run (m ∷ ms) q ≡ true → keep q ≡ true) → step_kept keep m ≡ true
step-head (SetGlobal t a) ms keep h = refl
step-head (Step q) ms keep h = h q (or_left (nat_eq q q) (is_run ms q) (eq-eqb q q refl))
step-head (Jump j) ms keep h = refl
step-head (Test j a) ms keep h = refl
step-head (Turn x a) ms keep h = refl
step-head (Back j) ms keep h = refl
step-head Finish ms keep h = refl

-- the blocks of all steps are kept
pub steps-kept : (ms : List Command) (keep : ℕ → Bool) → ((q : ℕ) → is_run ms q ≡ true → keep q ≡ true) → list_all (step_kept keep) ms ≡ true
steps-kept [] keep h = refl
steps-kept (m ∷ ms) keep h =
    and_from (step_kept keep m) (list_all (step_kept keep) ms) (step-head m ms keep h) (steps-kept ms keep (λ q e. h q (or_right (steps_to q m) (is_run ms q) e)))

front-lines : (t : Row → Bool) (x : Bool) (b : Block) (bs cs : List Block) → (list_all t (flat_map block_rows bs) ≡ true → list_all t (flat_map block_rows cs) ≡ true) →
    list_all t (flat_map block_rows (b ∷ bs)) ≡ true → list_all t (flat_map block_rows (kept_before x b cs)) ≡ true
front-lines t true b bs cs f h =
    list_all-append t (block_rows b) (flat_map block_rows cs)
    ∙ and_from (list_all t (block_rows b)) (list_all t (flat_map block_rows cs)) (all_front t (block_rows b) (flat_map block_rows bs) h) (f (all_back t (block_rows b) (flat_map block_rows bs) h))
front-lines t false b bs cs f h = f (all_back t (block_rows b) (flat_map block_rows bs) h)

-- what holds of the lines of all blocks holds of those that are kept
pub kept-lines : (t : Row → Bool) (keep : ℕ → Bool) (q : ℕ) (bs : List Block) → list_all t (flat_map block_rows bs) ≡ true → list_all t (flat_map block_rows (kept_blocks keep q bs)) ≡ true
kept-lines t keep q [] h = refl
kept-lines t keep q (b ∷ bs) h = front-lines t (keep q) b bs (kept_blocks keep (suc q) bs) (kept-lines t keep (suc q) bs) h

front-fewer : (x : Bool) (b : Block) (bs cs : List Block) → length (flat_map block_rows cs) ≤ length (flat_map block_rows bs) → length (flat_map block_rows (kept_before x b cs)) ≤ length (flat_map block_rows (b ∷ bs))
front-fewer true b bs cs l =
    let old = length-append (block_rows b) (flat_map block_rows bs) in
    let new = length-append (block_rows b) (flat_map block_rows cs) in
    omega (arith, old, new, l)
front-fewer false b bs cs l =
    let old = length-append (block_rows b) (flat_map block_rows bs) in
    omega (arith, old, l)

-- the kept blocks have no more lines
pub kept-fewer : (keep : ℕ → Bool) (q : ℕ) (bs : List Block) → length (flat_map block_rows (kept_blocks keep q bs)) ≤ length (flat_map block_rows bs)
kept-fewer keep q [] = omega arith
kept-fewer keep q (b ∷ bs) = front-fewer (keep q) b bs (kept_blocks keep (suc q) bs) (kept-fewer keep (suc q) bs)

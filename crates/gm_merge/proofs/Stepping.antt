-- The code's walk goes on by a line.
use Rattle.std.proofs.Common.{◌≡◌, ◌<◌, ◌≤◌, ℕ, ◌+◌, Bool, true, false, not, ◌&&◌, Option, Some, None, List, [], ◌∷◌, ◌++◌, map, length, get_or, refl, sym, ap, subst, ◌∙◌, arith}
use Rattle.std.specs.Prelude.{IsTrue, min, nat_lt, slice_get, slice_index_or}
use Rattle.std.specs.List.{list_all}
use Rattle.std.proofs.lemmas.Bool.{le-ltb, lt-ltb}
use Rattle.std.proofs.lemmas.List.{length-map, get_or_read}
use Rattle.gm_image.specs.declared.images.Block as B
use Rattle.gm_value.specs.declared.values.VType.{VType}
use Rattle.gm_image.specs.Program.{Program, Block, Line, Command, Step, Jump}
use Rattle.gm_image.specs.Rows.{block_rows, line_count}
use Rattle.gm_image.specs.Views.{block, command}
use Rattle.gm_machine.specs.Machine.{block_at, no_block}
use Rattle.gm_merge_laws.specs.Joins.{block_lines, leads_elsewhere, are_joinable, Joinable, restarts, joined_block, replaced, joined_image}
use Rattle.gm_merge_laws.proofs.Sounder.{within-get}
use Rattle.gm_merge.specs.declared.joining.Kept.{Kept}
use Rattle.gm_merge.specs.declared.joining.Plan.{Plan}
use Rattle.gm_merge.specs.declared.joining.Walk.{Walk}
use Rattle.gm_merge.specs.Joining.{is_short, are_joined, with_line_joined}
use Rattle.gm_merge.specs.Numbers.{flag_at, count_at}
use Rattle.gm_merge.specs.Earlier.{Shows}
use Rattle.gm_merge.specs.Walk.{Keeps, IfKept, with_bodies, Joined, WalkStands}
use Rattle.gm_merge.proofs.Walks.{step-inside}
use Rattle.gm_merge.proofs.Standing.{get-second, get-end-block, block-index, pair-is, stands-block, stands-on, stands-joined, all-three, short-is, short-count, not-alone, not-blocks, not-short}
use Rattle.gm_merge.proofs.Sizes.{Small, small}

-- a walk that keeps nothing stands for the image where the next line is not joined
pub walk-on : (w : Walk) (plan : Plan) (i : ℕ) (p q : Program) → w.kept ≡ None → WalkStands w plan i p → q ≡ p → WalkStands w plan (i + 1) q
walk-on w plan i p q none s same = subst (WalkStands w plan (i + 1)) (sym same) (record {
  walk = stands-on s.walk;
  kept = λ a e. subst (λ (k : Option Kept). IfKept k (block_at p a)) (sym none) tt;
})

-- where two steps are not joined
pub walk-apart : (w : Walk) (plan : Plan) (i a b : ℕ) (p : Program) → slice_get p.master i ≡ Some (Step a) → slice_get p.master (i + 1) ≡ Some (Step b)
    → w.kept ≡ None → WalkStands w plan i p → are_joined p i a b ≡ false → WalkStands w plan (i + 1) (with_line_joined p i)
walk-apart w plan i a b p first second none s apart = walk-on w plan i p (with_line_joined p i) none s (pair-is p i a b first second false apart)

step-same : (a c : ℕ) → Some (Step a) ≡ Some (Step c) → a ≡ c
step-same a c e = cc

-- where they are joined
pub walk-joined : (w v : Walk) (plan : Plan) (i a b : ℕ) (p : Program) (joined : Block) (k : Kept) → slice_get p.master i ≡ Some (Step a) → slice_get p.master (i + 1) ≡ Some (Step b) → WalkStands w plan i p
    → list_all (leads_elsewhere (i + 1)) p.master ≡ true → are_joinable (block_at p a) (block_at p b) ≡ true → is_short (joined_image p i a b) ≡ true
    → Joined plan.steps.items a b joined (map block w.blocks.items) (map block v.blocks.items) → joined ≡ joined_block p.registers (block_at p a) (block_at p b)
    → map command v.master.items ≡ replaced i (Jump (i + 1)) (Step (length (map block w.blocks.items))) (map command w.master.items) → v.lines ≡ line_count (joined_image p i a b)
    → v.kept ≡ Some k → Keeps k joined → WalkStands v plan (i + 1) (with_line_joined p i)
walk-joined w v plan i a b p joined k first second s alone blocks short j same lines count kept keeps =
    let q : Program = joined_image p i a b in
    let is : with_line_joined p i ≡ q = pair-is p i a b first second true (all-three (list_all (leads_elsewhere (i + 1)) p.master) (are_joinable (block_at p a) (block_at p b)) (is_short q) alone blocks short) in
    subst (WalkStands v plan (i + 1)) (sym is) (record {
      walk = stands-joined (map block w.blocks.items) (map block v.blocks.items) (map command w.master.items) (map command v.master.items) w.lines v.lines plan.targets.items plan.steps.items plan.registers i a b p joined
          s.walk first second alone blocks short j same lines count;
      kept = λ c e.
          let number : length p.blocks ≡ c = step-same (length p.blocks) c (sym (get-second (Jump (i + 1)) (Step (length p.blocks)) (Step a) (Step b) i p.master first second) ∙ e) in
          let at : block_at q c ≡ joined = get-end-block p.blocks (joined_block p.registers (block_at p a) (block_at p b)) c (sym number) ∙ sym same in
          subst (λ (o : Option Kept). IfKept o (block_at q c)) (sym kept) (subst (Keeps k) (sym at) keeps);
    })

-- a walk whose last joined block is no longer kept stands as before
pub walk-forgets : (w v : Walk) (plan : Plan) (i : ℕ) (p : Program) → v.blocks ≡ w.blocks → v.master ≡ w.master → v.lines ≡ w.lines → v.kept ≡ None → WalkStands w plan i p → WalkStands v plan i p
walk-forgets w v plan i p blocks master lines none s = record {
  walk = record {
    sound = s.walk.sound;
    registers = s.walk.registers;
    master = ap (λ ms. map command ms.items) master ∙ s.walk.master;
    long = ap (λ bs. length (map block bs.items)) blocks ∙ s.walk.long;
    blocks = λ k c e. ap (λ bs. slice_get (map block bs.items) c) blocks ∙ s.walk.blocks k c e;
    lines = lines ∙ s.walk.lines;
    marks = s.walk.marks;
    targets = s.walk.targets;
    counts = s.walk.counts;
  };
  kept = λ a e. subst (λ (k : Option Kept). IfKept k (block_at p a)) (sym none) tt;
}

-- the numbers that a step of the walk needs are in range
pub record Ready (w : Walk) (plan : Plan) (i a b : ℕ) : Type 0 where
  pub target : i + 1 < length plan.targets.items
  pub first : a < length w.blocks.items
  pub second : b < length w.blocks.items
  pub few : length plan.registers ≤ 4294967296
  pub number : length w.blocks.items < 4294967296
  pub lines : w.lines < 4294967296
  pub inside : i + 1 < length w.master.items
  pub next : i + 1 < 4294967296
  pub apart : a ≡ b → 1 < count_at plan.steps.items a

pub ready : (w : Walk) (plan : Plan) (i a b : ℕ) (p : Program) → slice_get p.master i ≡ Some (Step a) → slice_get p.master (i + 1) ≡ Some (Step b) → WalkStands w plan i p → Ready w plan i a b
ready w plan i a b p first second s =
    let sizes : Small p = small p s.walk.sound in
    let at : i + 1 < length p.master = within-get p.master (i + 1) (Step b) second in
    let ms = length-map w.master.items command in
    let lines : length (map command w.master.items) ≡ length p.master = ap (λ (xs : List Command). length xs) s.walk.master in
    let bs = length-map w.blocks.items block in
    let one = step-inside p s.walk.sound i a first in
    let two = step-inside p s.walk.sound (i + 1) b second in
    let rs : length plan.registers ≡ length p.registers = ap (λ (xs : List VType). length xs) s.walk.registers in
    record {
      target = omega (arith, at, s.walk.marks);
      first = omega (arith, one, bs, s.walk.long);
      second = omega (arith, two, bs, s.walk.long);
      few = omega (arith, rs, sizes.registers);
      number = omega (arith, bs, s.walk.long, sizes.blocks);
      lines = omega (arith, s.walk.lines, sizes.lines);
      inside = omega (arith, ms, lines, at);
      next = omega (arith, at, sizes.master);
      apart = λ e. s.walk.counts i (i + 1) a (omega arith) first (second ∙ ap (λ x. Some (Step x)) (sym e));
    }

-- no line jumps to the one below, where it is not marked
pub is-alone : (w : Walk) (plan : Plan) (i b : ℕ) (p : Program) → slice_get p.master (i + 1) ≡ Some (Step b) → WalkStands w plan i p → (x : Bool) → flag_at plan.targets.items (i + 1) ≡ x → list_all (leads_elsewhere (i + 1)) p.master ≡ not x
is-alone w plan i b p second s x e =
    let at : i + 1 < length p.master = within-get p.master (i + 1) (Step b) second in
    twice (list_all (leads_elsewhere (i + 1)) p.master) ∙ ap not (sym (s.walk.targets (i + 1) (omega arith) at) ∙ e)
  where
    twice : (y : Bool) → y ≡ not (not y)
    twice true = refl
    twice false = refl

-- the walk's block is the image's
pub block-is : (w : Walk) (plan : Plan) (i k q : ℕ) (p : Program) (x : B.Block) → slice_get p.master k ≡ Some (Step q) → WalkStands w plan i p → q < length w.blocks.items → x ≡ get_or w.blocks.items q x → block x ≡ block_at p q
block-is w plan i k q p x e s l is = sym (block-index w.blocks.items q x l is) ∙ stands-block s.walk k q e

pub index-is : (w : Walk) (plan : Plan) (i k q : ℕ) (p : Program) → slice_get p.master k ≡ Some (Step q) → WalkStands w plan i p → slice_index_or (map block w.blocks.items) q no_block ≡ block_at p q
index-is w plan i k q p e s = stands-block s.walk k q e

-- whether a line jumps to the one below, by its mark
target-flag : (w : Walk) (plan : Plan) (i b : ℕ) (p : Program) (x : Bool) → slice_get p.master (i + 1) ≡ Some (Step b) → WalkStands w plan i p → x ≡ get_or plan.targets.items (i + 1) x
    → list_all (leads_elsewhere (i + 1)) p.master ≡ not x
target-flag w plan i b p x second s is =
    let at : i + 1 < length p.master = within-get p.master (i + 1) (Step b) second in
    let inside : i + 1 < length plan.targets.items = omega (arith, at, s.walk.marks) in
    is-alone w plan i b p second s x (sym (get_or_read plan.targets.items (i + 1) x inside is false))

-- the line below is one that others jump to
pub walk-target : (w : Walk) (plan : Plan) (i a b : ℕ) (p : Program) (x : Bool) → slice_get p.master i ≡ Some (Step a) → slice_get p.master (i + 1) ≡ Some (Step b)
    → w.kept ≡ None → WalkStands w plan i p → x ≡ get_or plan.targets.items (i + 1) x → x ≡ true → WalkStands w plan (i + 1) (with_line_joined p i)
walk-target w plan i a b p x first second none s is marked =
    walk-apart w plan i a b p first second none s
    (not-alone (list_all (leads_elsewhere (i + 1)) p.master) (are_joinable (block_at p a) (block_at p b)) (is_short (joined_image p i a b)) (target-flag w plan i b p x second s is ∙ ap not marked))

-- whether two blocks may be one, by what is kept of the first
pub joinable-is : (w : Walk) (plan : Plan) (i a b : ℕ) (p : Program) (k : Kept) (x : B.Block) (r : Bool) → slice_get p.master (i + 1) ≡ Some (Step b) → WalkStands w plan i p → Keeps k (block_at p a)
    → ((c : Block) → Shows k.earlier (block_lines c) → r ≡ are_joinable c (block x)) → b < length w.blocks.items → x ≡ get_or w.blocks.items b x → r ≡ are_joinable (block_at p a) (block_at p b)
joinable-is w plan i a b p k x r second s keeps test l is =
    test (block_at p a) keeps.earlier ∙ ap (are_joinable (block_at p a)) (block-is w plan i (i + 1) b p x second s l is)

-- the blocks may not be one
pub walk-unlike : (w : Walk) (plan : Plan) (i a b : ℕ) (p : Program) → slice_get p.master i ≡ Some (Step a) → slice_get p.master (i + 1) ≡ Some (Step b)
    → w.kept ≡ None → WalkStands w plan i p → are_joinable (block_at p a) (block_at p b) ≡ false → WalkStands w plan (i + 1) (with_line_joined p i)
walk-unlike w plan i a b p first second none s unlike =
    walk-apart w plan i a b p first second none s (not-blocks (list_all (leads_elsewhere (i + 1)) p.master) (are_joinable (block_at p a) (block_at p b)) (is_short (joined_image p i a b)) unlike)

-- they may be one
pub pair-found : (w : Walk) (plan : Plan) (i a b : ℕ) (p : Program) (x : Bool) → slice_get p.master i ≡ Some (Step a) → slice_get p.master (i + 1) ≡ Some (Step b) → WalkStands w plan i p
    → x ≡ get_or plan.targets.items (i + 1) x → x ≡ false → are_joinable (block_at p a) (block_at p b) ≡ true → Joinable p i a b
pair-found w plan i a b p x first second s is free alike = record { first = first; second = second; alone = target-flag w plan i b p x second s is ∙ ap not free; blocks = alike }

-- the text is too long with both
pub walk-long : (w : Walk) (plan : Plan) (i a b : ℕ) (p : Program) (rows : ℕ) → Joinable p i a b → w.kept ≡ None → WalkStands w plan i p
    → rows ≡ min (length (block_rows (joined_block p.registers (block_at p a) (block_at p b)))) 4294967296 → 4294967296 ≤ w.lines + rows → WalkStands w plan (i + 1) (with_line_joined p i)
walk-long w plan i a b p rows pair none s is long =
    walk-apart w plan i a b p pair.first pair.second none s
    (not-short (list_all (leads_elsewhere (i + 1)) p.master) (are_joinable (block_at p a) (block_at p b)) (is_short (joined_image p i a b))
    (short-is p i a b w.lines rows s.walk.lines is ∙ le-ltb (w.lines + rows) 4294967296 long))

-- both blocks as one, by what the code has of them
pub joined-same : (w : Walk) (plan : Plan) (i a b : ℕ) (p : Program) (registers : List VType) (x : B.Block) → Joinable p i a b → WalkStands w plan i p
    → registers ≡ plan.registers → b < length w.blocks.items → x ≡ get_or w.blocks.items b x
    → joined_block registers (block_at p a) (block x) ≡ joined_block p.registers (block_at p a) (block_at p b)
joined-same w plan i a b p registers x pair s same l is =
    ap (λ (ts : List VType). joined_block ts (block_at p a) (block x)) (same ∙ s.walk.registers)
    ∙ ap (joined_block p.registers (block_at p a)) (block-is w plan i (i + 1) b p x pair.second s l is)

-- they may be one, and are not joined, since the text is too long with both
pub walk-over : (w : Walk) (plan : Plan) (i a b : ℕ) (p : Program) (k : Kept) (registers : List VType) (x : B.Block) → Joinable p i a b → w.kept ≡ None → WalkStands w plan i p
    → registers ≡ plan.registers → b < length w.blocks.items → x ≡ get_or w.blocks.items b x
    → Keeps k (joined_block registers (block_at p a) (block x)) → 4294967296 ≤ w.lines + k.rows → WalkStands w plan (i + 1) (with_line_joined p i)
walk-over w plan i a b p k registers x pair none s same l is keeps long =
    walk-long w plan i a b p k.rows pair none s
    (keeps.rows ∙ ap (λ (y : Block). min (length (block_rows y)) 4294967296) (joined-same w plan i a b p registers x pair s same l is)) long

-- they were joined
pub walk-done : (w v : Walk) (plan : Plan) (i a b number : ℕ) (p : Program) (k : Kept) (registers : List VType) (x : B.Block) (between : List Line) (steps : List ℕ) → Joinable p i a b → WalkStands w plan i p
    → registers ≡ plan.registers → steps ≡ plan.steps.items → b < length w.blocks.items → x ≡ get_or w.blocks.items b x
    → between ≡ restarts registers (block_at p a).body (block x).body → Keeps k (joined_block registers (block_at p a) (block x)) → w.lines + k.rows < 4294967296
    → Joined steps a b (with_bodies (slice_index_or (map block w.blocks.items) a no_block) between (slice_index_or (map block w.blocks.items) b no_block)) (map block w.blocks.items) (map block v.blocks.items)
    → number ≡ length w.blocks.items → map command v.master.items ≡ replaced i (Jump (i + 1)) (Step number) (map command w.master.items) → v.lines ≡ w.lines + k.rows → v.kept ≡ Some k
    → WalkStands v plan (i + 1) (with_line_joined p i)
walk-done w v plan i a b number p k registers x between steps pair s same counted l is lines-are keeps short j number-is master lines kept =
    let one : Block = joined_block p.registers (block_at p a) (block_at p b) in
    let both : Block = with_bodies (slice_index_or (map block w.blocks.items) a no_block) between (slice_index_or (map block w.blocks.items) b no_block) in
    let block-same : joined_block registers (block_at p a) (block x) ≡ one = joined-same w plan i a b p registers x pair s same l is in
    let keeps-one : Keeps k one = subst (Keeps k) block-same keeps in
    let both-same : both ≡ one =
    ap (λ (y : Block). with_bodies y between (slice_index_or (map block w.blocks.items) b no_block)) (index-is w plan i i a p pair.first s)
    ∙ ap (with_bodies (block_at p a) between) (index-is w plan i (i + 1) b p pair.second s ∙ sym (block-is w plan i (i + 1) b p x pair.second s l is))
    ∙ ap (λ (ls : List Line). with_bodies (block_at p a) ls (block x)) lines-are
    ∙ block-same in
    let total : w.lines + k.rows ≡ line_count (joined_image p i a b) = short-count p i a b w.lines k.rows s.walk.lines keeps-one.rows short in
    let few : is_short (joined_image p i a b) ≡ true = short-is p i a b w.lines k.rows s.walk.lines keeps-one.rows ∙ lt-ltb (w.lines + k.rows) 4294967296 short in
    walk-joined w v plan i a b p both k pair.first pair.second s pair.alone pair.blocks few
    (subst (λ (cs : List ℕ). Joined cs a b both (map block w.blocks.items) (map block v.blocks.items)) counted j) both-same
    (master ∙ ap (λ n. replaced i (Jump (i + 1)) (Step n) (map command w.master.items)) (number-is ∙ sym (length-map w.blocks.items block)))
    (lines ∙ total) kept (subst (Keeps k) (sym both-same) keeps-one)

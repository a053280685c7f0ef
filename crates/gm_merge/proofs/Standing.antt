-- The code's walk over the master list: what stands between two lines stands after one more.
use Rattle.std.proofs.Common.{◌≡◌, ◌<◌, ◌≤◌, ℕ, zero, suc, ◌+◌, Bool, true, false, not, cond, ◌&&◌, Option, Some, None, List, [], ◌∷◌, ◌++◌, map, length, set, get_or, refl, sym, ap, subst, ◌∙◌, arith, ⊎_elim, length-append}
use Rattle.std.specs.Prelude.{IsTrue, min, nat_eq, nat_lt, slice_get, slice_index_or}
use Rattle.std.specs.List.{list_all}
use Rattle.std.proofs.lemmas.Bool.{cases_lt, ltb-false, lt-ltb, le-ltb}
use Rattle.std.proofs.lemmas.List.{append-nil, length-map, length-set, map-set}
use Rattle.std.proofs.lemmas.Bool.Decides.{nat_tests}
use Rattle.gm_value.specs.declared.values.VType.{VType}
use Rattle.gm_image.specs.declared.images.Block as B
use Rattle.gm_image.specs.Program.{Program, Block, Line, Command, SetGlobal, Step, Jump, Test, Turn, Back, Finish}
use Rattle.gm_image.specs.Rows.{Row, block_rows, line_count}
use Rattle.gm_image.specs.Soundness.{is_sound, line_limit}
use Rattle.gm_image.specs.Views.{block}
use Rattle.gm_machine.specs.Machine.{block_at, no_block}
use Rattle.gm_merge_laws.specs.Joins.{leads_elsewhere, are_joinable, Joinable, joined_block, replaced, joined_image}
use Rattle.gm_merge_laws.proofs.Sounder.{within-get, next-sound}
use Rattle.gm_merge.specs.Joining.{is_short, are_joined, with_pair_joined, with_line_joined}
use Rattle.gm_merge.specs.Numbers.{flag_at, count_at}
use Rattle.gm_merge.specs.Walk.{step_of, with_bodies, Stays, TakenOne, Taken, Joined, Stands}
use Rattle.gm_merge.proofs.Growing.{joined-count}
use Rattle.gm_merge.proofs.Replacing.{get-first, length-replaced}
use Rattle.gm_merge.proofs.Walks.{step-inside}

next-line : (k : ℕ) → suc (k + 1) ≡ suc k + 1
next-line k = omega arith

-- the second of the two lines, and the others
pub get-second : (x y m n : Command) (k : ℕ) (ms : List Command) → slice_get ms k ≡ Some m → slice_get ms (k + 1) ≡ Some n → slice_get (replaced k x y ms) (k + 1) ≡ Some y
get-second x y m n k [] e f = cc
get-second x y m n zero (l ∷ []) e f = cc
get-second x y m n zero (l ∷ (r ∷ ms)) e f = refl
get-second x y m n (suc k) (l ∷ ms) e f =
    ap (slice_get (l ∷ replaced k x y ms)) (sym (next-line k)) ∙ get-second x y m n k ms e (ap (slice_get (l ∷ ms)) (next-line k) ∙ f)

pub get-other : (x y : Command) (k j : ℕ) (ms : List Command) → (j ≡ k → ⊥) → (j ≡ k + 1 → ⊥) → slice_get (replaced k x y ms) j ≡ slice_get ms j
get-other x y k j [] h g = refl
get-other x y zero j (m ∷ []) h g = refl
get-other x y zero zero (m ∷ (n ∷ ms)) h g = absurd (h refl)
get-other x y zero (suc zero) (m ∷ (n ∷ ms)) h g = absurd (g refl)
get-other x y zero (suc (suc j)) (m ∷ (n ∷ ms)) h g = refl
get-other x y (suc k) zero (m ∷ ms) h g = refl
get-other x y (suc k) (suc j) (m ∷ ms) h g = get-other x y k j ms (λ e. h (ap suc e)) (λ e. g (ap suc e ∙ next-line k))

four : (a b c d r : Bool) → a ≡ true → b ≡ true → c ≡ true → d ≡ true → (a && (b && r)) ≡ (c && (d && r))
four a b c d r p q s t = ap (λ z. z && (b && r)) p ∙ ap (λ z. z && r) q ∙ sym (ap (λ z. z && (d && r)) s ∙ ap (λ z. z && r) t)

-- what holds of all lines, where it holds of the two and of those in their place
pub all-replaced : (t : Command → Bool) (x y m n : Command) (k : ℕ) (ms : List Command) → slice_get ms k ≡ Some m → slice_get ms (k + 1) ≡ Some n
    → t x ≡ true → t y ≡ true → t m ≡ true → t n ≡ true → list_all t (replaced k x y ms) ≡ list_all t ms
all-replaced t x y m n k [] e f hx hy hm hn = refl
all-replaced t x y m n zero (l ∷ []) e f hx hy hm hn = refl
all-replaced t x y m n zero (l ∷ (r ∷ ms)) e f hx hy hm hn =
    let first : l ≡ m = cc in
    let second : r ≡ n = cc in
    four (t x) (t y) (t l) (t r) (list_all t ms) hx hy (ap t first ∙ hm) (ap t second ∙ hn)
all-replaced t x y m n (suc k) (l ∷ ms) e f hx hy hm hn =
    ap (λ b. t l && b) (all-replaced t x y m n k ms e (ap (slice_get (l ∷ ms)) (next-line k) ∙ f) hx hy hm hn)

-- two writes, one after another
pub set-replaced : (x y : Command) (i j : ℕ) (ms : List Command) → j ≡ i + 1 → j < length ms → set (set ms i x) j y ≡ replaced i x y ms
set-replaced x y i j [] e l = absurd (omega arith)
set-replaced x y zero zero (m ∷ ms) e l = absurd (omega arith)
set-replaced x y zero (suc zero) (m ∷ []) e l = absurd (omega arith)
set-replaced x y zero (suc zero) (m ∷ (n ∷ ms)) e l = refl
set-replaced x y zero (suc (suc j)) (m ∷ ms) e l = absurd (omega arith)
set-replaced x y (suc i) zero (m ∷ ms) e l = absurd (omega arith)
set-replaced x y (suc i) (suc j) (m ∷ ms) e l =
    let e' : j ≡ i + 1 = omega arith in
    let l' : j < length ms = omega arith in
    ap (λ (ns : List Command). m ∷ ns) (set-replaced x y i j ms e' l')

-- a block of the code's list
pub block-index : (bs : List B.Block) (q : ℕ) (x : B.Block) → q < length bs → x ≡ get_or bs q x → slice_index_or (map block bs) q no_block ≡ block x
block-index [] q x l e = absurd (omega arith)
block-index (b ∷ bs) zero x l e = ap block (sym e)
block-index (b ∷ bs) (suc q) x l e = let l' : q < length bs = omega arith in block-index bs q x l' e

get-index : (bs cs : List Block) (q : ℕ) → slice_get bs q ≡ slice_get cs q → slice_index_or bs q no_block ≡ slice_index_or cs q no_block
get-index [] [] q e = refl
get-index [] (c ∷ cs) zero e = cc
get-index [] (c ∷ cs) (suc q) e = get-index [] cs q e
get-index (b ∷ bs) [] zero e = cc
get-index (b ∷ bs) [] (suc q) e = get-index bs [] q e
get-index (b ∷ bs) (c ∷ cs) zero e = cc
get-index (b ∷ bs) (c ∷ cs) (suc q) e = get-index bs cs q e

get-front : (xs ys : List Block) (q : ℕ) → q < length xs → slice_get (xs ++ ys) q ≡ slice_get xs q
get-front [] ys q l = absurd (omega arith)
get-front (x ∷ xs) ys zero l = refl
get-front (x ∷ xs) ys (suc q) l = let l' : q < length xs = omega arith in get-front xs ys q l'

get-end : (xs : List Block) (x : Block) (q : ℕ) → q ≡ length xs → slice_get (xs ++ x ∷ []) q ≡ Some x
get-end [] x q e = ap (slice_get (x ∷ [])) e
get-end (y ∷ xs) x zero e = absurd (omega arith)
get-end (y ∷ xs) x (suc q) e = let e' : q ≡ length xs = omega arith in get-end xs x q e'

pub get-end-block : (xs : List Block) (x : Block) (q : ℕ) → q ≡ length xs → slice_index_or (xs ++ x ∷ []) q no_block ≡ x
get-end-block [] x q e = ap (λ n. slice_index_or (x ∷ []) n no_block) e
get-end-block (y ∷ xs) x zero e = absurd (omega arith)
get-end-block (y ∷ xs) x (suc q) e = let e' : q ≡ length xs = omega arith in get-end-block xs x q e'

-- the block that the walk has for a step
pub stands-block : {bs : List Block} {ms : List Command} {lines : ℕ} {targets : List Bool} {counts : List ℕ} {registers : List VType} {i : ℕ} {p : Program} → Stands bs ms lines targets counts registers i p
    → (k q : ℕ) → slice_get p.master k ≡ Some (Step q) → slice_index_or bs q no_block ≡ block_at p q
stands-block {bs = bs} {p = p} s k q e = get-index bs p.blocks q (s.blocks k q e)

-- where no two steps are joined, the line below is next
pub stands-on : {bs : List Block} {ms : List Command} {lines : ℕ} {targets : List Bool} {counts : List ℕ} {registers : List VType} {i : ℕ} {p : Program} → Stands bs ms lines targets counts registers i p → Stands bs ms lines targets counts registers (i + 1) p
stands-on s = record {
  sound = s.sound;
  registers = s.registers;
  master = s.master;
  long = s.long;
  blocks = s.blocks;
  lines = s.lines;
  marks = s.marks;
  targets = λ j l m. s.targets j (omega arith) m;
  counts = s.counts;
}

-- a line is a step
pub step-is : (m : Option Command) (q : ℕ) → step_of m ≡ Some q → m ≡ Some (Step q)
step-is None q e = cc
step-is (Some (SetGlobal g a)) q e = cc
step-is (Some (Step r)) q e = let same : r ≡ q = cc in ap (λ x. Some (Step x)) same
step-is (Some (Jump to)) q e = cc
step-is (Some (Test to a)) q e = cc
step-is (Some (Turn exit a)) q e = cc
step-is (Some (Back head)) q e = cc
step-is (Some Finish) q e = cc

-- a line that is no step is not joined
pub first-none : (p : Program) (i : ℕ) (m n : Option Command) → step_of m ≡ None → with_pair_joined p i m n ≡ p
first-none p i None n e = refl
first-none p i (Some (SetGlobal g a)) n e = refl
first-none p i (Some (Step r)) n e = cc
first-none p i (Some (Jump to)) n e = refl
first-none p i (Some (Test to a)) n e = refl
first-none p i (Some (Turn exit a)) n e = refl
first-none p i (Some (Back head)) n e = refl
first-none p i (Some Finish) n e = refl

-- nor is a step above a line that is none
pub second-none : (p : Program) (i q : ℕ) (n : Option Command) → step_of n ≡ None → with_pair_joined p i (Some (Step q)) n ≡ p
second-none p i q None e = refl
second-none p i q (Some (SetGlobal g a)) e = refl
second-none p i q (Some (Step r)) e = cc
second-none p i q (Some (Jump to)) e = refl
second-none p i q (Some (Test to a)) e = refl
second-none p i q (Some (Turn exit a)) e = refl
second-none p i q (Some (Back head)) e = refl
second-none p i q (Some Finish) e = refl

-- two steps are joined where they may be
pub pair-is : (p : Program) (i a b : ℕ) → slice_get p.master i ≡ Some (Step a) → slice_get p.master (i + 1) ≡ Some (Step b) → (x : Bool) → are_joined p i a b ≡ x → with_line_joined p i ≡ cond x (joined_image p i a b) p
pair-is p i a b e f x h =
    ap (λ m. with_pair_joined p i m (slice_get p.master (i + 1))) e ∙ ap (with_pair_joined p i (Some (Step a))) f ∙ ap (λ y. cond y (joined_image p i a b) p) h

unlike : (x y : ℕ) → x < y → not (nat_eq x y) ≡ true
unlike x y l = grind (arith, nat_tests)

no-step : (to q : ℕ) → Some (Jump to) ≡ Some (Step q) → ⊥
no-step to q e = cc

step-same : (a c : ℕ) → Some (Step a) ≡ Some (Step c) → a ≡ c
step-same a c e = cc

-- two blocks are taken and joined, and the lines lead to their step
module _ (bs cs : List Block) (ms ns : List Command) (lines more : ℕ) (targets : List Bool) (counts : List ℕ) (registers : List VType) (i a b : ℕ) (p : Program) (joined : Block)
    (s : Stands bs ms lines targets counts registers i p) (first : slice_get p.master i ≡ Some (Step a)) (second : slice_get p.master (i + 1) ≡ Some (Step b)) where
  abbrev q : Program
  q = joined_image p i a b

  abbrev jump : Command
  jump = Jump (i + 1)

  abbrev step : Command
  step = Step (length p.blocks)

  at-first : slice_get q.master i ≡ Some jump
  at-first = get-first jump step (Step a) (Step b) i p.master first second

  at-second : slice_get q.master (i + 1) ≡ Some step
  at-second = get-second jump step (Step a) (Step b) i p.master first second

  -- a step of the new list: the one of both blocks, or an old one elsewhere
  data Place (k c : ℕ) : Type 0 where
    new : k ≡ i + 1 → c ≡ length p.blocks → Place k c
    old : (k ≡ i → ⊥) → (k ≡ i + 1 → ⊥) → slice_get p.master k ≡ Some (Step c) → c < length p.blocks → Place k c

  place : (k c : ℕ) → slice_get q.master k ≡ Some (Step c) → Place k c
  place k c e = ⊎_elim
      (λ (below : k < i).
      old (λ x. omega arith) (λ x. omega arith) (before k c (λ x. omega arith) (λ x. omega arith) e) (step-inside p s.sound k c (before k c (λ x. omega arith) (λ x. omega arith) e)))
      (λ (from : i ≤ k). ⊎_elim
      (λ (up : k < i + 1). let same : k ≡ i = omega arith in absurd (no-step (i + 1) c (sym at-first ∙ ap (slice_get q.master) (sym same) ∙ e)))
      (λ (up : i + 1 ≤ k). ⊎_elim
      (λ (here : k < i + 2).
      let same : k ≡ i + 1 = omega arith in
      new same (sym (step-same (length p.blocks) c (sym at-second ∙ ap (slice_get q.master) (sym same) ∙ e))))
      (λ (after : i + 2 ≤ k).
      old (λ x. omega arith) (λ x. omega arith) (before k c (λ x. omega arith) (λ x. omega arith) e) (step-inside p s.sound k c (before k c (λ x. omega arith) (λ x. omega arith) e)))
      (cases_lt k (i + 2)))
      (cases_lt k (i + 1)))
      (cases_lt k i)
    where
      before : (k c : ℕ) → (k ≡ i → ⊥) → (k ≡ i + 1 → ⊥) → slice_get q.master k ≡ Some (Step c) → slice_get p.master k ≡ Some (Step c)
      before k c h g e = sym (get-other jump step i k p.master h g) ∙ e

  -- a block that another step runs too stays
  other-stays : (j k c d : ℕ) → slice_get p.master j ≡ Some (Step d) → (k ≡ j → ⊥) → slice_get p.master k ≡ Some (Step c) → Stays counts d c
  other-stays j k c d at h e same = ⊎_elim
      (λ (l : j < k). s.counts j k d l at (ap (slice_get p.master) refl ∙ e ∙ ap (λ x. Some (Step x)) (sym same)))
      (λ (l : k ≤ j). s.counts k j d (different k j l h) (e ∙ ap (λ x. Some (Step x)) (sym same)) at)
      (cases_lt j k)
    where
      different : (k j : ℕ) → k ≤ j → (k ≡ j → ⊥) → k < j
      different k j l h = ⊎_elim (λ (m : k < j). m) (λ (m : j ≤ k). absurd (h (omega arith))) (cases_lt k j)

  pub stands-joined : list_all (leads_elsewhere (i + 1)) p.master ≡ true → are_joinable (block_at p a) (block_at p b) ≡ true → is_short q ≡ true
      → Joined counts a b joined bs cs → joined ≡ joined_block p.registers (block_at p a) (block_at p b) → ns ≡ replaced i jump (Step (length bs)) ms → more ≡ line_count q
      → Stands cs ns more targets counts registers (i + 1) q
  stands-joined alone blocks short j same lines-are more-is =
      let pair : Joinable p i a b = record { first = first; second = second; alone = alone; blocks = blocks } in
      let left-long : length j.left ≡ length p.blocks = j.taken.long ∙ s.long in
      record {
        sound = next-sound p i a b pair s.sound short;
        registers = s.registers;
        master = lines-are ∙ ap (λ (xs : List Command). replaced i jump (Step (length bs)) xs) s.master ∙ ap (λ n. replaced i jump (Step n) p.master) s.long;
        long =
            let one = ap (λ (xs : List Block). length xs) j.end in
            let two = length-append j.left (joined ∷ []) in
            let three = length-append p.blocks (joined_block p.registers (block_at p a) (block_at p b) ∷ []) in
            omega (arith, one, two, three, left-long);
        blocks = λ k c e. here k c (place k c e) j left-long;
        lines = more-is;
        marks = s.marks ∙ sym (length-replaced i jump step p.master);
        targets = λ (t : ℕ) l m.
            let inside : t < length p.master = omega (arith, m, length-replaced i jump step p.master) in
            let apart : not (nat_eq (i + 1) t) ≡ true = unlike (i + 1) t l in
            s.targets t (omega arith) inside ∙ ap not (sym (all-replaced (leads_elsewhere t) jump step (Step a) (Step b) i p.master first second apart refl refl refl));
        counts = λ k l c less e f. twice k l c less (place k c e) (place l c f);
      }
    where
      here : (k c : ℕ) → Place k c → (j : Joined counts a b joined bs cs) → length j.left ≡ length p.blocks → slice_get cs c ≡ slice_get q.blocks c
      here k c (new e f) j long =
          let last : c ≡ length j.left = f ∙ sym long in
          ap (λ (xs : List Block). slice_get xs c) j.end ∙ get-end j.left joined c last ∙ ap Some same
          ∙ sym (get-end p.blocks (joined_block p.registers (block_at p a) (block_at p b)) c f)
      here k c (old h g e l) j long =
          let l' : c < length j.left = omega (arith, l, long) in
          ap (λ (xs : List Block). slice_get xs c) j.end ∙ get-front j.left (joined ∷ []) c l'
          ∙ j.taken.others c (other-stays i k c a first h e) (other-stays (i + 1) k c b second g e)
          ∙ s.blocks k c e ∙ sym (get-front p.blocks (joined_block p.registers (block_at p a) (block_at p b) ∷ []) c l)

      twice : (k l c : ℕ) → k < l → Place k c → Place l c → 1 < count_at counts c
      twice k l c less (new e f) (new e' f') = absurd (omega arith)
      twice k l c less (new e f) (old h g e' l') = absurd (omega arith)
      twice k l c less (old h g e l') (new e' f') = absurd (omega arith)
      twice k l c less (old h g e m) (old h' g' e' m') = s.counts k l c less e e'

get-set-other : (xs : List Block) (n q : ℕ) (x : Block) → (n ≡ q → ⊥) → slice_get (set xs n x) q ≡ slice_get xs q
get-set-other [] n q x h = refl
get-set-other (y ∷ xs) zero zero x h = absurd (h refl)
get-set-other (y ∷ xs) zero (suc q) x h = refl
get-set-other (y ∷ xs) (suc n) zero x h = refl
get-set-other (y ∷ xs) (suc n) (suc q) x h = get-set-other xs n q x (λ e. h (ap suc e))

-- a block was taken, and an empty one is in its place
pub taken-out : (counts : List ℕ) (n : ℕ) (bs : List B.Block) (empty : B.Block) → nat_lt 1 (count_at counts n) ≡ false → TakenOne counts n (map block bs) (map block (set bs n empty))
taken-out counts n bs empty h = record {
  long = length-map (set bs n empty) block ∙ length-set bs n empty ∙ sym (length-map bs block);
  others = λ q stays.
      ap (λ (xs : List Block). slice_get xs q) (map-set block bs n empty)
      ∙ get-set-other (map block bs) n q (block empty) (λ e. let more = stays e in let few = ltb-false 1 (count_at counts n) h in omega (arith, more, few));
}

-- a block was copied
pub taken-copy : (counts : List ℕ) (n : ℕ) (bs : List Block) → TakenOne counts n bs bs
taken-copy counts n bs = record { long = refl; others = λ q stays. refl }

-- two were taken, and stand as one behind the others
pub two-joined : (counts : List ℕ) (a b : ℕ) (bs mid left cs : List Block) (first second joined : Block) (between : List Line) → (a ≡ b → 1 < count_at counts a)
    → TakenOne counts a bs mid → TakenOne counts b mid left → first ≡ slice_index_or bs a no_block → second ≡ slice_index_or mid b no_block
    → joined ≡ with_bodies first between second → cs ≡ left ++ joined ∷ [] → Joined counts a b (with_bodies (slice_index_or bs a no_block) between (slice_index_or bs b no_block)) bs cs
two-joined counts a b bs mid left cs first second joined between apart one two is-first is-second is end =
    let same : slice_index_or mid b no_block ≡ slice_index_or bs b no_block = get-index mid bs b (one.others b apart) in
    record {
      left = left;
      taken = record { long = two.long ∙ one.long; others = λ q s t. two.others q t ∙ one.others q s };
      end = end ∙ ap (λ (x : Block). left ++ x ∷ []) (is ∙ ap (λ (x : Block). with_bodies x between second) is-first ∙ ap (with_bodies (slice_index_or bs a no_block) between) (is-second ∙ same));
    }

-- whether the text of both blocks is short, by how many lines are counted up to the limit
pub short-is : (p : Program) (i a b lines rows : ℕ) → lines ≡ line_count p → rows ≡ min (length (block_rows (joined_block p.registers (block_at p a) (block_at p b)))) 4294967296
    → is_short (joined_image p i a b) ≡ nat_lt (lines + rows) 4294967296
short-is p i a b lines rows count is =
    let joined = joined_count p i a b in
    ltb-same (line_count (joined_image p i a b)) (lines + rows) 4294967296 (λ l. omega (arith, joined, count, is, l)) (λ l. omega (arith, joined, count, is, l))
  where
    joined_count : (p : Program) (i a b : ℕ) → line_count (joined_image p i a b) ≡ line_count p + length (block_rows (joined_block p.registers (block_at p a) (block_at p b)))
    joined_count p i a b = joined-count p i a b ∙ ap (λ (xs : List Row). line_count p + length xs) (append-nil (block_rows (joined_block p.registers (block_at p a) (block_at p b))))

    ltb-same : (x y n : ℕ) → (x < n → y < n) → (y < n → x < n) → nat_lt x n ≡ nat_lt y n
    ltb-same x y n f g = ⊎_elim
        (λ (l : x < n). lt-ltb x n l ∙ sym (lt-ltb y n (f l)))
        (λ (l : n ≤ x). le-ltb x n l ∙ sym (le-ltb y n (⊎_elim (λ (m : y < n). let k = g m in omega (arith, k, l)) (λ (m : n ≤ y). m) (cases_lt y n))))
        (cases_lt x n)

-- the text of both blocks where it is short
pub short-count : (p : Program) (i a b lines rows : ℕ) → lines ≡ line_count p → rows ≡ min (length (block_rows (joined_block p.registers (block_at p a) (block_at p b)))) 4294967296
    → lines + rows < 4294967296 → lines + rows ≡ line_count (joined_image p i a b)
short-count p i a b lines rows count is l =
    let one : line_count (joined_image p i a b) ≡ line_count p + length (block_rows (joined_block p.registers (block_at p a) (block_at p b))) =
    joined-count p i a b ∙ ap (λ (xs : List Row). line_count p + length xs) (append-nil (block_rows (joined_block p.registers (block_at p a) (block_at p b)))) in
    omega (arith, one, count, is, l)

-- two blocks are not joined where one test fails
pub not-alone : (x y z : Bool) → x ≡ false → (x && y && z) ≡ false
not-alone true y z h = cc
not-alone false y z h = refl

pub not-blocks : (x y z : Bool) → y ≡ false → (x && y && z) ≡ false
not-blocks true true z h = cc
not-blocks true false z h = refl
not-blocks false y z h = refl

pub not-short : (x y z : Bool) → z ≡ false → (x && y && z) ≡ false
not-short true true true h = cc
not-short true true false h = refl
not-short true false z h = refl
not-short false y z h = refl

pub all-three : (x y z : Bool) → x ≡ true → y ≡ true → z ≡ true → (x && y && z) ≡ true
all-three true true true h k l = refl
all-three true true false h k l = cc
all-three true false z h k l = cc
all-three false y z h k l = cc

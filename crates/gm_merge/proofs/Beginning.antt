-- The walk before the first line, and after the last.
use Rattle.std.proofs.Common.{◌≡◌, ◌<◌, ◌≤◌, ℕ, zero, suc, ◌+◌, Bool, true, false, not, cond, ◌&&◌, ◌||◌, Option, Some, None, List, [], ◌∷◌, ◌++◌, map, length, refl, sym, ap, subst, ◌∙◌, arith, ⊎_elim, length-append}
use Rattle.std.specs.Prelude.{IsTrue, min, nat_eq, nat_lt, slice_get}
use Rattle.std.specs.List.{list_all, list_any, flat_map}
use Rattle.std.proofs.lemmas.Bool.{and_parts, or_cases, eq-eqb, ltb-true, eqb-true}
use Rattle.gm_value.specs.declared.values.VType.{VType}
use Rattle.gm_image.specs.Program.{Program, Block, Command, SetGlobal, Step, Jump, Test, Turn, Back, Finish}
use Rattle.gm_image.specs.Rows.{block_rows, rows, line_count}
use Rattle.gm_image.specs.Soundness.{keeps_all, is_sound, line_limit}
use Rattle.gm_merge_laws.specs.Joins.{leads_elsewhere, joined_image}
use Rattle.gm_merge_laws.proofs.Sounder.{within-get}
use Rattle.gm_merge.specs.Joining.{are_joined, with_pair_joined, with_line_joined, with_lines_joined, all_joined}
use Rattle.gm_merge.specs.Trimmed.{steps_to, is_run, kept_before, kept_blocks, counted_before, renumbered, trimmed}
use Rattle.gm_merge.specs.Numbers.{jump_line, is_named, is_target, step_count, flag_at, count_at, StepsInside}
use Rattle.gm_merge.specs.Merged.{merged}
use Rattle.gm_merge.specs.Results.{HasSameRest}
use Rattle.gm_merge.specs.Walk.{Stands, StandsFor}
use Rattle.gm_merge.proofs.Replacing.{length-replaced}
use Rattle.gm_merge.proofs.Walks.{step-inside}

-- a line that some line jumps to
twice : (x : Bool) → not (not x) ≡ x
twice true = refl
twice false = refl

named-leads : (j : ℕ) (m : Command) → leads_elsewhere j m ≡ not (is_named (jump_line m) j)
named-leads j (SetGlobal g a) = refl
named-leads j (Step q) = refl
named-leads j (Jump to) = refl
named-leads j (Test to a) = refl
named-leads j (Turn exit a) = refl
named-leads j (Back head) = refl
named-leads j Finish = refl

none-named : (j : ℕ) (ms : List Command) → is_target ms j ≡ not (list_all (leads_elsewhere j) ms)
none-named j [] = refl
none-named j (m ∷ ms) =
    both (is_named (jump_line m) j) (leads_elsewhere j m) (is_target ms j) (list_all (leads_elsewhere j) ms) (named-leads j m) (none-named j ms)
  where
    both : (x y u v : Bool) → y ≡ not x → u ≡ not v → (x || u) ≡ not (y && v)
    both true y u v h k = ap (λ z. not (z && v)) (sym h)
    both false y u v h k = k ∙ ap (λ z. not (z && v)) (sym h)

-- a block that two steps run is counted twice
less-counted : (x : Bool) (n : ℕ) → n ≤ counted_before x n
less-counted true n = omega arith
less-counted false n = omega arith

one-step : (ms : List Command) (k q : ℕ) → slice_get ms k ≡ Some (Step q) → 1 ≤ step_count q ms
one-step [] k q e = cc
one-step (m ∷ ms) zero q e =
    let same : m ≡ Step q = cc in
    let named : steps_to q m ≡ true = ap (steps_to q) same ∙ eq-eqb q q refl in
    let counted : step_count q (m ∷ ms) ≡ suc (step_count q ms) = ap (λ x. counted_before x (step_count q ms)) named in
    omega (arith, counted)
one-step (m ∷ ms) (suc k) q e = let one = one-step ms k q e in let less = less-counted (steps_to q m) (step_count q ms) in omega (arith, one, less)

pub two-steps : (ms : List Command) (k l q : ℕ) → k < l → slice_get ms k ≡ Some (Step q) → slice_get ms l ≡ Some (Step q) → 2 ≤ step_count q ms
two-steps [] k l q less e f = cc
two-steps (m ∷ ms) k zero q less e f = absurd (omega arith)
two-steps (m ∷ ms) zero (suc l) q less e f =
    let same : m ≡ Step q = cc in
    let named : steps_to q m ≡ true = ap (steps_to q) same ∙ eq-eqb q q refl in
    let counted : step_count q (m ∷ ms) ≡ suc (step_count q ms) = ap (λ x. counted_before x (step_count q ms)) named in
    let one = one-step ms l q f in
    omega (arith, counted, one)
two-steps (m ∷ ms) (suc k) (suc l) q less e f =
    let less' : k < l = omega arith in
    let two = two-steps ms k l q less' e f in
    let more = less-counted (steps_to q m) (step_count q ms) in
    omega (arith, two, more)

-- the walk stands for the image before the first line
pub start-stands : (bs : List Block) (ms : List Command) (lines : ℕ) (targets : List Bool) (counts : List ℕ) (registers : List VType) (p : Program) → IsTrue (is_sound p)
    → registers ≡ p.registers → ms ≡ p.master → bs ≡ p.blocks → lines ≡ min (line_count p) 4294967296 → length targets ≡ length ms
    → ((j : ℕ) → j < length ms → flag_at targets j ≡ is_target ms j) → ((q : ℕ) → q < length bs → count_at counts q ≡ min (step_count q ms) 255)
    → Stands bs ms lines targets counts registers 0 p
start-stands bs ms lines targets counts registers p sound rs lines-are blocks-are count long marks steps =
    let short : line_count p < 4294967296 = ltb-true (line_count p) line_limit (and_parts (list_all (keeps_all p) (rows p)) (nat_lt (line_count p) line_limit) sound).1 in
    record {
      sound = sound;
      registers = rs;
      master = lines-are;
      long = ap length blocks-are;
      blocks = λ k q e. ap (λ (xs : List Block). slice_get xs q) blocks-are;
      lines = omega (arith, count, short);
      marks = long ∙ ap length lines-are;
      targets = λ j l m.
          let inside : j < length ms = subst (λ (xs : List Command). j < length xs) (sym lines-are) m in
          marks j inside ∙ none-named j ms ∙ ap (λ (xs : List Command). not (list_all (leads_elsewhere j) xs)) lines-are;
      counts = λ k l q less e f.
          let in-blocks : q < length bs = subst (λ (xs : List Block). q < length xs) (sym blocks-are) (step-inside p sound k q e) in
          let at = steps q in-blocks in
          let two : 2 ≤ step_count q ms = subst (λ (xs : List Command). 2 ≤ step_count q xs) (sym lines-are) (two-steps p.master k l q less e f) in
          omega (arith, at, two);
    }

-- one more line
pub lines-next : (n i : ℕ) (p : Program) → with_lines_joined (suc n) i p ≡ with_line_joined (with_lines_joined n i p) (i + n)
lines-next zero i p = let z : i ≡ i + 0 = omega arith in ap (with_line_joined p) z
lines-next (suc n) i p =
    let z : suc i + n ≡ i + suc n = omega arith in
    lines-next n (suc i) (with_line_joined p i) ∙ ap (with_line_joined (with_lines_joined n (suc i) (with_line_joined p i))) z

-- only the blocks and the lines are others, and there are as many lines
record SameRest (p q : Program) : Type 0 where
  rest : q ≡ record p { blocks = q.blocks; master = q.master }
  long : length q.master ≡ length p.master

cond-rest : (x : Bool) (p : Program) (i a b : ℕ) → SameRest p (cond x (joined_image p i a b) p)
cond-rest true p i a b = record { rest = refl; long = length-replaced i (Jump (i + 1)) (Step (length p.blocks)) p.master }
cond-rest false p i a b = record { rest = refl; long = refl }

pair-rest : (p : Program) (i : ℕ) (m n : Option Command) → SameRest p (with_pair_joined p i m n)
pair-rest p i (Some (Step a)) (Some (Step b)) = cond-rest (are_joined p i a b) p i a b
pair-rest p i m n = record { rest = refl; long = refl }

rest-both : (p q r : Program) → SameRest p q → SameRest q r → SameRest p r
rest-both p q r one two = record {
  rest = two.rest ∙ ap (λ (x : Program). record x { blocks = r.blocks; master = r.master }) one.rest;
  long = two.long ∙ one.long;
}

lines-rest : (n i : ℕ) (p : Program) → SameRest p (with_lines_joined n i p)
lines-rest zero i p = record { rest = refl; long = refl }
lines-rest (suc n) i p = rest-both p (with_line_joined p i) (with_lines_joined n (suc i) (with_line_joined p i)) (pair-rest p i (slice_get p.master i) (slice_get p.master (i + 1))) (lines-rest n (suc i) (with_line_joined p i))

pub lines-long : (n : ℕ) (p : Program) → length (with_lines_joined n 0 p).master ≡ length p.master
lines-long n p = (lines-rest n 0 p).long

-- what the walk leaves, with the rest of the image, stands for the joined image
pub end-stands : (bs : List Block) (ms : List Command) (lines : ℕ) (targets : List Bool) (counts : List ℕ) (registers : List VType) (i : ℕ) (p q : Program)
    → Stands bs ms lines targets counts registers i (all_joined p) → q ≡ record p { registers = registers; blocks = bs; master = ms } → StandsFor q (all_joined p)
end-stands bs ms lines targets counts registers i p q s is =
    let r : Program = all_joined p in
    let rest = (lines-rest (length p.master) 0 p).rest in
    let blocks : q.blocks ≡ bs = ap (λ (x : Program). x.blocks) is in
    record {
      rest =
          is
          ∙ ap (λ (ts : List VType). record p { registers = ts; blocks = bs; master = ms }) (s.registers ∙ ap (λ (x : Program). x.registers) rest)
          ∙ ap (λ (xs : List Command). record p { blocks = bs; master = xs }) s.master
          ∙ ap (λ (xs : List Block). record p { blocks = xs; master = r.master }) (sym blocks)
          ∙ sym (ap (λ (x : Program). record x { blocks = q.blocks }) rest);
      long = ap length blocks ∙ s.long;
      blocks = λ k b e. ap (λ (xs : List Block). slice_get xs b) blocks ∙ s.blocks k b e;
    }

-- a block that is run is that of a step
record Runs (ms : List Command) (q : ℕ) : Type 0 where
  line : ℕ
  step : slice_get ms line ≡ Some (Step q)

head-step : (q : ℕ) (m : Command) → steps_to q m ≡ true → m ≡ Step q
head-step q (SetGlobal g a) e = cc
head-step q (Step r) e = ap Step (eqb-true r q e)
head-step q (Jump to) e = cc
head-step q (Test to a) e = cc
head-step q (Turn exit a) e = cc
head-step q (Back head) e = cc
head-step q Finish e = cc

runs-step : (ms : List Command) (q : ℕ) → is_run ms q ≡ true → Runs ms q
runs-step [] q e = cc
runs-step (m ∷ ms) q e = ⊎_elim
    (λ (h : steps_to q m ≡ true). record { line = 0; step = ap Some (head-step q m h) })
    (λ (h : is_run ms q ≡ true). let more : Runs ms q = runs-step ms q h in record { line = suc more.line; step = more.step })
    (or_cases (steps_to q m) (is_run ms q) e)

before-same : (x : Bool) (b c : Block) (bs : List Block) → (x ≡ true → Some b ≡ Some c) → kept_before x b bs ≡ kept_before x c bs
before-same true b c bs h = let e = h refl in let same : b ≡ c = cc in ap (λ (y : Block). y ∷ bs) same
before-same false b c bs h = refl

kept-same : (keep : ℕ → Bool) (q : ℕ) (bs cs : List Block) → length bs ≡ length cs → ((k : ℕ) → keep (q + k) ≡ true → slice_get bs k ≡ slice_get cs k) → kept_blocks keep q bs ≡ kept_blocks keep q cs
kept-same keep q [] [] l h = refl
kept-same keep q [] (c ∷ cs) l h = absurd (omega arith)
kept-same keep q (b ∷ bs) [] l h = absurd (omega arith)
kept-same keep q (b ∷ bs) (c ∷ cs) l h =
    let z : q + 0 ≡ q = omega arith in
    let l' : length bs ≡ length cs = omega arith in
    before-same (keep q) b c (kept_blocks keep (suc q) bs) (λ e. h 0 (ap keep z ∙ e))
    ∙ ap (kept_before (keep q) c) (kept-same keep (suc q) bs cs l' (λ k e. let s : q + suc k ≡ suc q + k = omega arith in h (suc k) (ap keep s ∙ e)))

-- so it is the same without the others
pub stands-trim : (q p : Program) → StandsFor q p → trimmed q ≡ trimmed p
stands-trim q p s =
    ap trimmed s.rest
    ∙ ap (λ (bs : List Block). record p { blocks = bs; master = map (renumbered (is_run p.master)) p.master })
    (kept-same (is_run p.master) 0 q.blocks p.blocks s.long (λ k e. let run : Runs p.master k = runs-step p.master k (ap (is_run p.master) (zero-more k) ∙ e) in s.blocks run.line k run.step))
  where
    zero-more : (k : ℕ) → k ≡ 0 + k
    zero-more k = omega arith

-- the steps of what stands for a sound image are those of its blocks
pub stands-inside : (q p : Program) → IsTrue (is_sound p) → StandsFor q p → StepsInside (length q.blocks) q.master
stands-inside q p sound s k b e =
    let same : q.master ≡ p.master = ap (λ (x : Program). x.master) s.rest in
    let at = step-inside p sound k b (ap (λ (xs : List Command). slice_get xs k) (sym same) ∙ e) in
    omega (arith, at, s.long)

-- one line more
pub next-lines : (i : ℕ) (p : Program) → with_line_joined (with_lines_joined i 0 p) i ≡ with_lines_joined (i + 1) 0 p
next-lines i p =
    let z : i ≡ 0 + i = omega arith in
    let s : suc i ≡ i + 1 = omega arith in
    ap (with_line_joined (with_lines_joined i 0 p)) z ∙ sym (lines-next i 0 p) ∙ ap (λ n. with_lines_joined n 0 p) s

-- only the blocks and the lines of the merged image are others
pub merged-rest : (p : Program) → HasSameRest p (merged p)
merged-rest p = ap trimmed (lines-rest (length p.master) 0 p).rest

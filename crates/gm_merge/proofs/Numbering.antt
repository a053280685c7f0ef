-- What a pass over a master list has found so far, and the blocks and numbers that are kept.
use Rattle.std.proofs.Common.{◌≡◌, ◌<◌, ◌≤◌, ℕ, zero, suc, ◌+◌, Bool, true, false, not, ◌||◌, nat_eq, Option, Some, None, List, [], ◌∷◌, ◌++◌, map, length, take, get_or, refl, sym, ap, ◌∙◌, arith, ⊎_elim}
use Rattle.std.specs.Prelude.{min, slice_get, slice_index_or}
use Rattle.std.specs.List.{list_any, list_all}
use Rattle.std.proofs.lemmas.Bool.{cases_lt}
use Rattle.std.proofs.lemmas.List.{take_more, map-append}
use Rattle.std.proofs.lemmas.List.Folds.{list_any-append}
use Rattle.gm_image.specs.declared.lines.MasterLine.{MasterLine}
use Rattle.gm_image.specs.Program.{Command, SetGlobal, Step, Jump, Test, Turn, Back, Finish, Block}
use Rattle.gm_image.specs.Views.{command}
use Rattle.gm_merge.specs.Trimmed.{steps_to, is_run, kept_before, kept_blocks, counted_before, kept_count, renumbered}
use Rattle.gm_merge.specs.Numbers.{step_block, jump_line, is_named, is_target, step_count, count_at, numbered, StepsInside}

-- whether a line is a step of a block, by its block
pub steps-named : (q : ℕ) (m : Command) → is_named (step_block m) q ≡ steps_to q m
steps-named q (SetGlobal g a) = refl
steps-named q (Step r) = refl
steps-named q (Jump to) = refl
steps-named q (Test to a) = refl
steps-named q (Turn exit a) = refl
steps-named q (Back head) = refl
steps-named q Finish = refl

or-false : (x : Bool) → (x || false) ≡ x
or-false true = refl
or-false false = refl

-- the lines so far and one more
pub more-lines : (ms : List MasterLine) (i : ℕ) (x : MasterLine) → i < length ms → x ≡ get_or ms i x → map command (take (i + 1) ms) ≡ map command (take i ms) ++ command x ∷ []
more-lines ms i x l is = ap (map command) (take_more ms i x l ∙ ap (λ (y : MasterLine). take i ms ++ y ∷ []) (sym is)) ∙ map-append command (take i ms) (x ∷ [])

pub any-more : (t : Command → Bool) (ms : List MasterLine) (i : ℕ) (x : MasterLine) → i < length ms → x ≡ get_or ms i x
    → list_any t (map command (take (i + 1) ms)) ≡ (list_any t (map command (take i ms)) || t (command x))
any-more t ms i x l is =
    ap (list_any t) (more-lines ms i x l is) ∙ list_any-append t (map command (take i ms)) (command x ∷ [])
    ∙ ap (λ b. list_any t (map command (take i ms)) || b) (or-false (t (command x)))

count-end : (q : ℕ) (ms : List Command) (m : Command) → step_count q (ms ++ m ∷ []) ≡ counted_before (steps_to q m) (step_count q ms)
count-end q [] m = refl
count-end q (l ∷ ms) m = ap (counted_before (steps_to q l)) (count-end q ms m) ∙ both (steps_to q l) (steps_to q m) (step_count q ms)
  where
    both : (x y : Bool) (n : ℕ) → counted_before x (counted_before y n) ≡ counted_before y (counted_before x n)
    both true true n = refl
    both true false n = refl
    both false y n = refl

pub count-more : (q : ℕ) (ms : List MasterLine) (i : ℕ) (x : MasterLine) → i < length ms → x ≡ get_or ms i x
    → step_count q (map command (take (i + 1) ms)) ≡ counted_before (is_named (step_block (command x)) q) (step_count q (map command (take i ms)))
count-more q ms i x l is =
    ap (step_count q) (more-lines ms i x l is) ∙ count-end q (map command (take i ms)) (command x)
    ∙ ap (λ b. counted_before b (step_count q (map command (take i ms)))) (sym (steps-named q (command x)))

-- one more of a count that stops at 255
pub capped : (x : Bool) (n m k : ℕ) → k ≡ min (counted_before x n) 255 → n ≡ min m 255 → k ≡ min (counted_before x m) 255
capped true n m k e f = omega arith
capped false n m k e f = omega arith

both-counted : (x y : Bool) (n : ℕ) → counted_before x (counted_before y n) ≡ counted_before y (counted_before x n)
both-counted true true n = refl
both-counted true false n = refl
both-counted false y n = refl

-- the next number
count-next : (keep : ℕ → Bool) (q n : ℕ) → kept_count keep q (suc n) ≡ counted_before (keep (q + n)) (kept_count keep q n)
count-next keep q zero = let z : q ≡ q + 0 = omega arith in ap (λ x. counted_before (keep x) 0) z
count-next keep q (suc n) =
    let z : suc q + n ≡ q + suc n = omega arith in
    ap (counted_before (keep q)) (count-next keep (suc q) n ∙ ap (λ x. counted_before (keep x) (kept_count keep (suc q) n)) z)
    ∙ both-counted (keep q) (keep (q + suc n)) (kept_count keep (suc q) n)

pub number-next : (keep : ℕ → Bool) (i n k : ℕ) → k ≡ counted_before (keep i) n → n ≡ kept_count keep 0 i → k ≡ kept_count keep 0 (i + 1)
number-next keep i n k e f =
    let z : 0 + i ≡ i = omega arith in
    let s : suc i ≡ i + 1 = omega arith in
    e ∙ ap (counted_before (keep i)) f ∙ ap (λ x. counted_before (keep x) (kept_count keep 0 i)) (sym z) ∙ sym (count-next keep 0 i) ∙ ap (kept_count keep 0) s

pub counted-small : (x : Bool) (n m k : ℕ) → k ≡ counted_before x n → n ≤ m → k ≤ m + 1
counted-small true n m k e l = omega arith
counted-small false n m k e l = omega arith

at-push : (xs : List ℕ) (n q : ℕ) → q < length xs → count_at (xs ++ n ∷ []) q ≡ count_at xs q
at-push [] n q l = absurd (omega arith)
at-push (x ∷ xs) n zero l = refl
at-push (x ∷ xs) n (suc q) l = let l' : q < length xs = omega arith in at-push xs n q l'

at-end : (xs : List ℕ) (n q : ℕ) → q ≡ length xs → count_at (xs ++ n ∷ []) q ≡ n
at-end [] n q e = ap (count_at (n ∷ [])) e
at-end (x ∷ xs) n zero e = absurd (omega arith)
at-end (x ∷ xs) n (suc q) e = let e' : q ≡ length xs = omega arith in at-end xs n q e'

pub numbers-push : (xs : List ℕ) (n i : ℕ) (f : ℕ → ℕ) → length xs ≡ i → ((q : ℕ) → q < i → count_at xs q ≡ f q) → n ≡ f i → (q : ℕ) → q < i + 1 → count_at (xs ++ n ∷ []) q ≡ f q
numbers-push xs n i f long h e q l = ⊎_elim
    (λ (below : q < i). let l' : q < length xs = omega arith in at-push xs n q l' ∙ h q below)
    (λ (above : i ≤ q). let same : q ≡ i = omega arith in let last : q ≡ length xs = omega arith in at-end xs n q last ∙ e ∙ ap f (sym same))
    (cases_lt q i)

before-append : (x : Bool) (b : Block) (bs cs : List Block) → kept_before x b (bs ++ cs) ≡ kept_before x b bs ++ cs
before-append true b bs cs = refl
before-append false b bs cs = refl

-- one block more
pub kept-next : (keep : ℕ → Bool) (q : ℕ) (bs : List Block) (b : Block) → kept_blocks keep q (bs ++ b ∷ []) ≡ kept_blocks keep q bs ++ kept_before (keep (q + length bs)) b []
kept-next keep q [] b = let z : q ≡ q + 0 = omega arith in ap (λ x. kept_before (keep x) b []) z
kept-next keep q (c ∷ bs) b =
    let z : suc q + length bs ≡ q + suc (length bs) = omega arith in
    ap (kept_before (keep q) c) (kept-next keep (suc q) bs b ∙ ap (λ x. kept_blocks keep (suc q) bs ++ kept_before (keep x) b []) z)
    ∙ before-append (keep q) c (kept_blocks keep (suc q) bs) (kept_before (keep (q + suc (length bs))) b [])

-- what is kept by a test is kept by another that says the same of these numbers
pub count-same : (f g : ℕ → Bool) (q n : ℕ) → ((k : ℕ) → k < n → f (q + k) ≡ g (q + k)) → kept_count f q n ≡ kept_count g q n
count-same f g q zero h = refl
count-same f g q (suc n) h =
    let z : q + 0 ≡ q = omega arith in
    let at : f q ≡ g q = ap f (sym z) ∙ h 0 (omega arith) ∙ ap g z in
    ap (λ x. counted_before x (kept_count f (suc q) n)) at
    ∙ ap (counted_before (g q)) (count-same f g (suc q) n (λ k l. let s : suc q + k ≡ q + suc k = omega arith in ap f s ∙ h (suc k) (omega arith) ∙ ap g (sym s)))

pub blocks-same : (f g : ℕ → Bool) (q : ℕ) (bs : List Block) → ((k : ℕ) → k < length bs → f (q + k) ≡ g (q + k)) → kept_blocks f q bs ≡ kept_blocks g q bs
blocks-same f g q [] h = refl
blocks-same f g q (b ∷ bs) h =
    let z : q + 0 ≡ q = omega arith in
    let at : f q ≡ g q = ap f (sym z) ∙ h 0 (omega arith) ∙ ap g z in
    ap (λ x. kept_before x b (kept_blocks f (suc q) bs)) at
    ∙ ap (kept_before (g q) b) (blocks-same f g (suc q) bs (λ k l. let s : suc q + k ≡ q + suc k = omega arith in ap f s ∙ h (suc k) (omega arith) ∙ ap g (sym s)))

same-line : (f : ℕ → ℕ) (keep : ℕ → Bool) (n : ℕ) (m : Command) → ((q : ℕ) → q < n → f q ≡ kept_count keep 0 q) → ((q : ℕ) → m ≡ Step q → q < n) → numbered f m ≡ renumbered keep m
same-line f keep n (SetGlobal g a) h s = refl
same-line f keep n (Step q) h s = ap Step (h q (s q refl))
same-line f keep n (Jump to) h s = refl
same-line f keep n (Test to a) h s = refl
same-line f keep n (Turn exit a) h s = refl
same-line f keep n (Back head) h s = refl
same-line f keep n Finish h s = refl

-- lines with the new numbers of their blocks
pub numbers-same : (f : ℕ → ℕ) (keep : ℕ → Bool) (n : ℕ) (ms : List Command) → ((q : ℕ) → q < n → f q ≡ kept_count keep 0 q) → StepsInside n ms → map (numbered f) ms ≡ map (renumbered keep) ms
numbers-same f keep n [] h s = refl
numbers-same f keep n (m ∷ ms) h s =
    let one : numbered f m ≡ renumbered keep m = same-line f keep n m h (λ q e. s 0 q (ap Some e)) in
    let more : map (numbered f) ms ≡ map (renumbered keep) ms = numbers-same f keep n ms h (λ k q e. s (suc k) q e) in
    cc

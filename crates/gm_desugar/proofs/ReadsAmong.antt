-- Statements one after another, each with its reads apart.
use Rattle.std.proofs.Common.{◌≡◌, ◌<◌, ◌≤◌, ◌+◌, ℕ, zero, suc, List, [], ◌∷◌, length, map, get_or, refl, sym, ap, ◌∙◌, arith, add-one}
use Rattle.std.proofs.Math.ListN.{set}
use Rattle.gm_ast.specs.Program.{Stmt, Then, sequence}
use Rattle.gm_desugar.specs.Reads.{count_reads, apart}

-- statements one after another, each with its reads apart
abbrev pub all_apart : ℕ → List Stmt → List Stmt
all_apart n [] = []
all_apart n (s ∷ ss) = apart n s ∷ all_apart (n + count_reads s) ss

abbrev pub all_counts : List Stmt → ℕ
all_counts [] = 0
all_counts (s ∷ ss) = count_reads s + all_counts ss

pub apart-sequence : (n : ℕ) (ss : List Stmt) → apart n (sequence ss) ≡ sequence (all_apart n ss)
apart-sequence n [] = refl
apart-sequence n (s ∷ ss) = ap (Then (apart n s)) (apart-sequence (n + count_reads s) ss)

pub count-sequence : (ss : List Stmt) → count_reads (sequence ss) ≡ all_counts ss
count-sequence [] = refl
count-sequence (s ∷ ss) = ap (λ m. count_reads s + m) (count-sequence ss)

-- the same where those before an index are done
abbrev pub some_apart : ℕ → ℕ → List Stmt → List Stmt
some_apart zero n ss = ss
some_apart (suc i) n [] = []
some_apart (suc i) n (s ∷ ss) = apart n s ∷ some_apart i (n + count_reads s) ss

abbrev pub some_counts : ℕ → List Stmt → ℕ
some_counts zero ss = 0
some_counts (suc i) [] = 0
some_counts (suc i) (s ∷ ss) = count_reads s + some_counts i ss

module _ {X : Type 0} (f : X → Stmt) where
  apart_more : (ss : List Stmt) (ys : List X) (i n : ℕ) (d y : X) → map f ys ≡ some_apart i n ss → i < length ys → f y ≡ apart (n + some_counts i ss) (f (get_or ys i d)) → map f (set ys i y) ≡ some_apart (suc i) n ss
  apart_more ss [] i n d y e l k = absurd (omega arith)
  apart_more [] (z ∷ ys) zero n d y e l k = cc
  apart_more [] (z ∷ ys) (suc i) n d y e l k = cc
  apart_more (s ∷ ss) (z ∷ ys) zero n d y e l k = let none : n + 0 ≡ n = omega arith in let k' : f y ≡ apart n (f z) = k ∙ ap (λ m. apart m (f z)) none in cc
  apart_more (s ∷ ss) (z ∷ ys) (suc i) n d y e l k =
      let rest : map f ys ≡ some_apart i (n + count_reads s) ss = cc in
      let less : i < length ys = omega arith in
      let there : n + (count_reads s + some_counts i ss) ≡ (n + count_reads s) + some_counts i ss = omega arith in
      let more : map f (set ys i y) ≡ some_apart (suc i) (n + count_reads s) ss = apart_more ss ys i (n + count_reads s) d y rest less (k ∙ ap (λ m. apart m (f (get_or ys i d))) there) in
      cc

  -- one more is done
  pub apart-more : (ss : List Stmt) (ys : List X) (i n : ℕ) (d y : X) → map f ys ≡ some_apart i n ss → i < length ys → f y ≡ apart (n + some_counts i ss) (f (get_or ys i d)) → map f (set ys i y) ≡ some_apart (i + 1) n ss
  apart-more ss ys i n d y e l k = rw add-one (apart_more ss ys i n d y e l k)

  counts_more : (ss : List Stmt) (ys : List X) (i n : ℕ) (d : X) → map f ys ≡ some_apart i n ss → i < length ys → some_counts (suc i) ss ≡ some_counts i ss + count_reads (f (get_or ys i d))
  counts_more ss [] i n d e l = absurd (omega arith)
  counts_more [] (z ∷ ys) zero n d e l = cc
  counts_more [] (z ∷ ys) (suc i) n d e l = cc
  counts_more (s ∷ ss) (z ∷ ys) zero n d e l = let same : f z ≡ s = cc in let one : count_reads s + 0 ≡ 0 + count_reads s = omega arith in one ∙ ap (λ x. 0 + count_reads x) (sym same)
  counts_more (s ∷ ss) (z ∷ ys) (suc i) n d e l =
      let rest : map f ys ≡ some_apart i (n + count_reads s) ss = cc in
      let less : i < length ys = omega arith in
      let more : some_counts (suc i) ss ≡ some_counts i ss + count_reads (f (get_or ys i d)) = counts_more ss ys i (n + count_reads s) d rest less in
      omega arith

  pub counts-more : (ss : List Stmt) (ys : List X) (i n : ℕ) (d : X) → map f ys ≡ some_apart i n ss → i < length ys → some_counts (i + 1) ss ≡ some_counts i ss + count_reads (f (get_or ys i d))
  counts-more ss ys i n d e l = rw add-one (counts_more ss ys i n d e l)

-- all are
pub apart-all : (ss : List Stmt) (i n : ℕ) → length ss ≤ i → some_apart i n ss ≡ all_apart n ss
apart-all [] zero n l = refl
apart-all [] (suc i) n l = refl
apart-all (s ∷ ss) zero n l = absurd (omega arith)
apart-all (s ∷ ss) (suc i) n l = ap (λ r. apart n s ∷ r) (apart-all ss i (n + count_reads s) (omega arith))

pub counts-all : (ss : List Stmt) (i : ℕ) → length ss ≤ i → some_counts i ss ≡ all_counts ss
counts-all [] zero l = refl
counts-all [] (suc i) l = refl
counts-all (s ∷ ss) zero l = absurd (omega arith)
counts-all (s ∷ ss) (suc i) l = ap (λ m. count_reads s + m) (counts-all ss i (omega arith))

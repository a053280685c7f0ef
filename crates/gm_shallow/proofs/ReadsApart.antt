-- Reads that are set apart add no level.
use Rattle.std.proofs.Common.{◌≡◌, ◌≤◌, ◌+◌, ℕ, Bool, true, false, [], ◌∷◌, ◌++◌, length, arith, Some}
use Rattle.gm_ast.specs.declared.tree.Key.{Key}
use Rattle.gm_ast.specs.Program.{Expr, Const, Var, Property, EdgeProperty, Degree, NodeCount, EdgeCount, Live, Unary, Binary, Both, Either, Choose, Folded, Stmt, Then, Declare, Assign, For, If, While, Do, Return, Program}
use Rattle.gm_forms.specs.Forms.{is_told}
use Rattle.gm_desugar.specs.Reads.{count_read, reads_set, told_from, is_single, after_reads, stays_alone, count_reads, apart, with_reads_apart}
use Rattle.gm_depth.specs.Depths.{depth, all_within}
use Rattle.gm_depth.proofs.Limits.{Within, AllWithin, parts, whole}
use Rattle.gm_shallow.proofs.Statements.{Several, several-both, sequence-within}
use Rattle.gm_depth.specs.Nesting.{nesting}
use Rattle.gm_shallow.proofs.Nesting.{both, EachNests, each-both, sequence-nests}

pub told-depth : (e : Expr) (n : ℕ) → depth (told_from n e) ≤ depth e
told-depth (Unary op at e) n = let x : depth (told_from n e) ≤ depth e = told-depth e n in omega arith
told-depth (Binary op at a b) n =
    let m = n + count_read a in
    let x : depth (told_from n a) ≤ depth a = told-depth a n in
    let y : depth (told_from m b) ≤ depth b = told-depth b m in
    omega arith
told-depth (Both a b) n =
    let m = n + count_read a in
    let x : depth (told_from n a) ≤ depth a = told-depth a n in
    let y : depth (told_from m b) ≤ depth b = told-depth b m in
    omega arith
told-depth (Either a b) n =
    let m = n + count_read a in
    let x : depth (told_from n a) ≤ depth a = told-depth a n in
    let y : depth (told_from m b) ≤ depth b = told-depth b m in
    omega arith
told-depth (Choose c a b) n =
    let m = n + count_read c in
    let l = m + count_read a in
    let x : depth (told_from n c) ≤ depth c = told-depth c n in
    let y : depth (told_from m a) ≤ depth a = told-depth a m in
    let z : depth (told_from l b) ≤ depth b = told-depth b l in
    omega arith
told-depth (Folded f h test e) n = omega arith
told-depth e n = omega arith

module _ (limit : ℕ) where
  two-reads : (a b : Expr) (n m : ℕ) (k : Key) → Several limit (reads_set n k a) → Several limit (reads_set m k b) → Several limit (reads_set n k a ++ reads_set m k b)
  two-reads a b n m k x y = several-both limit (reads_set n k a) (reads_set m k b) x y

  pub reads-within : (e : Expr) (n : ℕ) (k : Key) → Within limit e → Several limit (reads_set n k e)
  reads-within (Const v) n k h = tt
  reads-within (Var x at) n k h = tt
  reads-within (Property x p at) n k h = (h, tt)
  reads-within (EdgeProperty x p at) n k h = tt
  reads-within (Degree d x at) n k h = (h, tt)
  reads-within NodeCount n k h = tt
  reads-within EdgeCount n k h = tt
  reads-within (Live x at) n k h = (h, tt)
  reads-within (Unary op at e) n k h = reads-within e n k (omega arith)
  reads-within (Binary op at a b) n k h = two-reads a b n (n + count_read a) k (reads-within a n k (omega arith)) (reads-within b (n + count_read a) k (omega arith))
  reads-within (Both a b) n k h = two-reads a b n (n + count_read a) k (reads-within a n k (omega arith)) (reads-within b (n + count_read a) k (omega arith))
  reads-within (Either a b) n k h = two-reads a b n (n + count_read a) k (reads-within a n k (omega arith)) (reads-within b (n + count_read a) k (omega arith))
  reads-within (Choose c a b) n k h =
      let m = n + count_read c in
      several-both limit (reads_set n k c) (reads_set m k a ++ reads_set (m + count_read a) k b) (reads-within c n k (omega arith))
      (two-reads a b m (m + count_read a) k (reads-within a m k (omega arith)) (reads-within b (m + count_read a) k (omega arith)))
  reads-within (Folded f hd test e) n k h = (h, tt)

  pub told-within : (e : Expr) (n : ℕ) → Within limit e → Within limit (told_from n e)
  told-within e n h = let x : depth (told_from n e) ≤ depth e = told-depth e n in omega arith

  after-within : (alone : Bool) (n : ℕ) (k : Key) (e : Expr) (s : Expr → Stmt) → ((d : Expr) → Within limit d → AllWithin limit (s d)) → Within limit e → AllWithin limit (after_reads alone n k e s)
  after-within true n k e s each h = each e h
  after-within false n k e s each h =
      sequence-within limit (reads_set n k e ++ (s (told_from n e) ∷ [])) (several-both limit (reads_set n k e) (s (told_from n e) ∷ []) (reads-within e n k h) (each (told_from n e) (told-within e n h), tt))

  apart-within : (s : Stmt) (n : ℕ) → AllWithin limit s → AllWithin limit (apart n s)
  apart-within (Then a b) n h = (apart-within a n h.0, apart-within b (n + count_reads a) h.1)
  apart-within (Declare k x (Some e)) n h = after-within (is_single x e) n k e (λ d. Declare k x (Some d)) (λ d f. f) h
  apart-within (Assign k t e) n h = after-within (stays_alone t e) n k e (Assign k t) (λ d f. f) h
  apart-within (For k at hd e s) n h = (h.0, apart-within s n h.1)
  apart-within (If k e a b) n h = (h.0, (apart-within a n h.1.0, apart-within b (n + count_reads a) h.1.1))
  apart-within (While k at e s) n h = (h.0, apart-within s n h.1)
  apart-within (Do k at s e) n h = (apart-within s n h.0, h.1)
  apart-within (Return k at (Some e)) n h = after-within (is_told e) n k e (λ d. Return k at (Some d)) (λ d f. f) h
  apart-within s n h = h

pub reads-keep : (n : ℕ) (p : Program) → 1 ≤ n → all_within n p.body ≡ true → all_within n (with_reads_apart p).body ≡ true
reads-keep n p one h = whole n (apart (length p.declarations) p.body) (apart-within n p.body (length p.declarations) (parts n p.body h))

-- ---- Ifs within one another

pub reads-flat : (e : Expr) (n : ℕ) (k : Key) → EachNests 0 (reads_set n k e)
reads-flat (Const v) n k = tt
reads-flat (Var x at) n k = tt
reads-flat (Property x p at) n k = (omega arith, tt)
reads-flat (EdgeProperty x p at) n k = tt
reads-flat (Degree d x at) n k = (omega arith, tt)
reads-flat NodeCount n k = tt
reads-flat EdgeCount n k = tt
reads-flat (Live x at) n k = (omega arith, tt)
reads-flat (Unary op at e) n k = reads-flat e n k
reads-flat (Binary op at a b) n k = let m = n + count_read a in each-both 0 (reads_set n k a) (reads_set m k b) (reads-flat a n k) (reads-flat b m k)
reads-flat (Both a b) n k = let m = n + count_read a in each-both 0 (reads_set n k a) (reads_set m k b) (reads-flat a n k) (reads-flat b m k)
reads-flat (Either a b) n k = let m = n + count_read a in each-both 0 (reads_set n k a) (reads_set m k b) (reads-flat a n k) (reads-flat b m k)
reads-flat (Choose c a b) n k =
    let m = n + count_read c in
    let l = m + count_read a in
    each-both 0 (reads_set n k c) (reads_set m k a ++ reads_set l k b) (reads-flat c n k) (each-both 0 (reads_set m k a) (reads_set l k b) (reads-flat a m k) (reads-flat b l k))
reads-flat (Folded f hd test e) n k = (omega arith, tt)

after-flat : (alone : Bool) (n : ℕ) (k : Key) (e : Expr) (s : Expr → Stmt) → ((d : Expr) → nesting (s d) ≤ 0) → nesting (after_reads alone n k e s) ≤ 0
after-flat true n k e s each = each e
after-flat false n k e s each = sequence-nests 0 (reads_set n k e ++ (s (told_from n e) ∷ [])) (each-both 0 (reads_set n k e) (s (told_from n e) ∷ []) (reads-flat e n k) (each (told_from n e), tt))

apart-nests : (s : Stmt) (n : ℕ) → nesting (apart n s) ≤ nesting s
apart-nests (Then a b) n = both (apart-nests a n) (apart-nests b (n + count_reads a))
apart-nests (Declare k x (Some e)) n = after-flat (is_single x e) n k e (λ d. Declare k x (Some d)) (λ d. omega arith)
apart-nests (Assign k t e) n = after-flat (stays_alone t e) n k e (Assign k t) (λ d. omega arith)
apart-nests (For k at hd e s) n = apart-nests s n
apart-nests (If k e a b) n = both (apart-nests a n) (apart-nests b (n + count_reads a))
apart-nests (While k at e s) n = apart-nests s n
apart-nests (Do k at s e) n = apart-nests s n
apart-nests (Return k at (Some e)) n = after-flat (is_told e) n k e (λ d. Return k at (Some d)) (λ d. omega arith)
apart-nests s n = omega arith

pub reads-nest : (p : Program) → nesting (with_reads_apart p).body ≤ nesting p.body
reads-nest p = apart-nests p.body (length p.declarations)

-- Reads that are set apart.
use Rattle.std.proofs.Common.{ℕ, ◌+◌, Bool, true, false, [], ◌∷◌, ◌++◌, Some, List}
use Rattle.gm_ast.specs.declared.tree.Key.{Key}
use Rattle.gm_ast.specs.declared.tree.Target.{Target}
use Rattle.gm_ast.specs.Program.{Expr, Const, Var, Property, EdgeProperty, Degree, NodeCount, EdgeCount, Live, Unary, Binary, Both, Either, Choose, Folded, Stmt, Then, Declare, Assign, For, If, While, Do, Return}
use Rattle.gm_forms.specs.Forms.{is_told}
use Rattle.gm_desugar.specs.Reads.{count_read, reads_set, told_from, is_single, after_reads, stays_alone, count_reads, apart}
use Rattle.gm_preparable.proofs.Standing.{Outside, Phase, Phases, phases-both, sequence-phase}

module _ (goes : List Target → Type 0) (outer inner : ℕ → Type 0) where
  two-reads : (a b : Expr) (n m : ℕ) (k : Key) → Phases goes outer inner (reads_set n k a) → Phases goes outer inner (reads_set m k b) → Phases goes outer inner (reads_set n k a ++ reads_set m k b)
  two-reads a b n m k x y = phases-both goes outer inner (reads_set n k a) (reads_set m k b) x y

  pub reads-outside : (e : Expr) (n : ℕ) (k : Key) → Outside outer inner e → Phases goes outer inner (reads_set n k e)
  reads-outside (Const v) n k h = tt
  reads-outside (Var x at) n k h = tt
  reads-outside (Property x p at) n k h = (h, tt)
  reads-outside (EdgeProperty x p at) n k h = tt
  reads-outside (Degree d x at) n k h = (h, tt)
  reads-outside NodeCount n k h = tt
  reads-outside EdgeCount n k h = tt
  reads-outside (Live x at) n k h = (h, tt)
  reads-outside (Unary op at e) n k h = reads-outside e n k h
  reads-outside (Binary op at a b) n k h = two-reads a b n (n + count_read a) k (reads-outside a n k h.0) (reads-outside b (n + count_read a) k h.1)
  reads-outside (Both a b) n k h = two-reads a b n (n + count_read a) k (reads-outside a n k h.0) (reads-outside b (n + count_read a) k h.1)
  reads-outside (Either a b) n k h = two-reads a b n (n + count_read a) k (reads-outside a n k h.0) (reads-outside b (n + count_read a) k h.1)
  reads-outside (Choose c a b) n k h =
      let m = n + count_read c in
      phases-both goes outer inner (reads_set n k c) (reads_set m k a ++ reads_set (m + count_read a) k b) (reads-outside c n k h.0)
      (two-reads a b m (m + count_read a) k (reads-outside a m k h.1.0) (reads-outside b (m + count_read a) k h.1.1))
  reads-outside (Folded f hd test e) n k h = (h, tt)

  pub told-outside : (e : Expr) (n : ℕ) → Outside outer inner e → Outside outer inner (told_from n e)
  told-outside (Unary op at e) n h = told-outside e n h
  told-outside (Binary op at a b) n h = (told-outside a n h.0, told-outside b (n + count_read a) h.1)
  told-outside (Both a b) n h = (told-outside a n h.0, told-outside b (n + count_read a) h.1)
  told-outside (Either a b) n h = (told-outside a n h.0, told-outside b (n + count_read a) h.1)
  told-outside (Choose c a b) n h = let m = n + count_read c in (told-outside c n h.0, (told-outside a m h.1.0, told-outside b (m + count_read a) h.1.1))
  told-outside (Folded f hd test e) n h = tt
  told-outside e n h = tt

  after-stands : (alone : Bool) (n : ℕ) (k : Key) (e : Expr) (s : Expr → Stmt) → ((d : Expr) → Outside outer inner d → Phase goes outer inner (s d)) → Outside outer inner e → Phase goes outer inner (after_reads alone n k e s)
  after-stands true n k e s each h = each e h
  after-stands false n k e s each h =
      sequence-phase goes outer inner (reads_set n k e ++ (s (told_from n e) ∷ []))
      (phases-both goes outer inner (reads_set n k e) (s (told_from n e) ∷ []) (reads-outside e n k h) (each (told_from n e) (told-outside e n h), tt))

  pub reads-stand : (s : Stmt) (n : ℕ) → Phase goes outer inner s → Phase goes outer inner (apart n s)
  reads-stand (Then a b) n h = (reads-stand a n h.0, reads-stand b (n + count_reads a) h.1)
  reads-stand (Declare k x (Some e)) n h = after-stands (is_single x e) n k e (λ d. Declare k x (Some d)) (λ d f. f) h
  reads-stand (Assign k t e) n h = after-stands (stays_alone t e) n k e (Assign k t) (λ d f. f) h
  reads-stand (For k at hd e s) n h = (h.0, reads-stand s n h.1)
  reads-stand (If k e a b) n h = (h.0, (reads-stand a n h.1.0, reads-stand b (n + count_reads a) h.1.1))
  reads-stand (While k at e s) n h = (h.0, reads-stand s n h.1)
  reads-stand (Do k at s e) n h = (reads-stand s n h.0, h.1)
  reads-stand (Return k at (Some e)) n h = after-stands (is_told e) n k e (λ d. Return k at (Some d)) (λ d f. f) h
  reads-stand s n h = h

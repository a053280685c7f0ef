-- Reads that are set to variables: the keys of reductions rise in them, and in what is left.
use Rattle.std.proofs.Common.{◌≡◌, ◌+◌, ◌++◌, ℕ, true, List, [], ◌∷◌, refl}
use Rattle.std.specs.Prelude.{◌&&◌}
use Rattle.gm_ast.specs.declared.tree.Key.{Key}
use Rattle.gm_ast.specs.Program.{Expr, Const, Var, Property, EdgeProperty, Degree, NodeCount, EdgeCount, Live, Unary, Binary, Both, Either, Choose, Folded, Stmt, sequence}
use Rattle.gm_forms.proofs.Named.{both-true}
use Rattle.gm_forms.proofs.Weaker.{and-true}
use Rattle.gm_desugar.specs.Reads.{count_read, reads_set, told_from}
use Rattle.gm_reductions.specs.Keys.{rises, all_rise}

pub rise-both : (xs ys : List Stmt) → all_rise (sequence xs) ≡ true → all_rise (sequence ys) ≡ true → all_rise (sequence (xs ++ ys)) ≡ true
rise-both [] ys h k = k
rise-both (x ∷ xs) ys h k = let q = both-true (all_rise x) (all_rise (sequence xs)) h in and-true (all_rise x) (all_rise (sequence (xs ++ ys))) q.0 (rise-both xs ys q.1 k)

pub reads-rise : (n : ℕ) (k : Key) (e : Expr) → rises e ≡ true → all_rise (sequence (reads_set n k e)) ≡ true
reads-rise n k (Const v) h = refl
reads-rise n k (Var x at) h = refl
reads-rise n k (Property x p at) h = refl
reads-rise n k (EdgeProperty x p at) h = refl
reads-rise n k (Degree d x at) h = refl
reads-rise n k NodeCount h = refl
reads-rise n k EdgeCount h = refl
reads-rise n k (Live x at) h = refl
reads-rise n k (Unary op at e) h = reads-rise n k e h
reads-rise n k (Binary op at a b) h = let q = both-true (rises a) (rises b) h in rise-both (reads_set n k a) (reads_set (n + count_read a) k b) (reads-rise n k a q.0) (reads-rise (n + count_read a) k b q.1)
reads-rise n k (Both a b) h = let q = both-true (rises a) (rises b) h in rise-both (reads_set n k a) (reads_set (n + count_read a) k b) (reads-rise n k a q.0) (reads-rise (n + count_read a) k b q.1)
reads-rise n k (Either a b) h = let q = both-true (rises a) (rises b) h in rise-both (reads_set n k a) (reads_set (n + count_read a) k b) (reads-rise n k a q.0) (reads-rise (n + count_read a) k b q.1)
reads-rise n k (Choose c a b) h =
    let p = both-true (rises c) (rises a && rises b) h in
    let q = both-true (rises a) (rises b) p.1 in
    let m = n + count_read c in
    rise-both (reads_set n k c) (reads_set m k a ++ reads_set (m + count_read a) k b) (reads-rise n k c p.0)
    (rise-both (reads_set m k a) (reads_set (m + count_read a) k b) (reads-rise m k a q.0) (reads-rise (m + count_read a) k b q.1))
reads-rise n k (Folded f hd test e) h = and-true (rises (Folded f hd test e)) true h refl

pub told-rises : (n : ℕ) (e : Expr) → rises (told_from n e) ≡ true
told-rises n (Const v) = refl
told-rises n (Var x at) = refl
told-rises n (Property x p at) = refl
told-rises n (EdgeProperty x p at) = refl
told-rises n (Degree d x at) = refl
told-rises n NodeCount = refl
told-rises n EdgeCount = refl
told-rises n (Live x at) = refl
told-rises n (Unary op at e) = told-rises n e
told-rises n (Binary op at a b) = and-true (rises (told_from n a)) (rises (told_from (n + count_read a) b)) (told-rises n a) (told-rises (n + count_read a) b)
told-rises n (Both a b) = and-true (rises (told_from n a)) (rises (told_from (n + count_read a) b)) (told-rises n a) (told-rises (n + count_read a) b)
told-rises n (Either a b) = and-true (rises (told_from n a)) (rises (told_from (n + count_read a) b)) (told-rises n a) (told-rises (n + count_read a) b)
told-rises n (Choose c a b) =
    let m = n + count_read c in
    and-true (rises (told_from n c)) (rises (told_from m a) && rises (told_from (m + count_read a) b)) (told-rises n c)
    (and-true (rises (told_from m a)) (rises (told_from (m + count_read a) b)) (told-rises m a) (told-rises (m + count_read a) b))
told-rises n (Folded f h test e) = refl

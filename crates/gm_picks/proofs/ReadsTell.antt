-- Reads that are set to variables tell values alone, and so does what is left.
use Rattle.std.proofs.Common.{◌≡◌, ◌≤◌, ◌+◌, ◌++◌, ℕ, Bool, true, false, List, [], ◌∷◌, refl, arith}
use Rattle.std.specs.Prelude.{◌&&◌, ◌||◌, nat_le}
use Rattle.std.proofs.lemmas.Bool.{both_ways, le-leb}
use Rattle.gm_ast.specs.declared.tree.Declaration.{Declaration}
use Rattle.gm_ast.specs.declared.tree.Key.{Key}
use Rattle.gm_ast.specs.declared.tree.Sort.TheVariants as Sorts
use Rattle.gm_ast.specs.Program.{Expr, Const, Var, Property, EdgeProperty, Degree, NodeCount, EdgeCount, Live, Unary, Binary, Both, Either, Choose, Folded, Stmt, sequence}
use Rattle.gm_ast.specs.Ways.{is_in}
use Rattle.gm_semantics.specs.Outcomes.{is_of}
use Rattle.gm_forms.proofs.Named.{both-true}
use Rattle.gm_forms.proofs.Weaker.{and-true}
use Rattle.gm_typed_stores.specs.Tells.{TypeTable, holds, tells, tells_in}
use Rattle.gm_desugar.specs.Conditions.{set_to}
use Rattle.gm_desugar.specs.Reads.{count_read, reads_set, told_from}

-- two tests that hold where two others do
pub both-kept : (a b c d : Bool) → (a ≡ true → c ≡ true) → (b ≡ true → d ≡ true) → a && b ≡ true → c && d ≡ true
both-kept a b c d f g h = let q = both-true a b h in and-true c d (f q.0) (g q.1)

module _ (table : TypeTable) where
  abbrev In : List ℕ → Stmt → Bool
  In its s = tells_in table its s

  abbrev Ex : List ℕ → Expr → Bool
  Ex its e = tells table its e

  abbrev ds : List Declaration
  ds = table.declarations

  -- what is no input is told
  pub behind-inputs : (its : List ℕ) (x : ℕ) → table.inputs ≤ x → holds table its x ≡ true
  behind-inputs its x low = right (is_of ds Sorts.Scalar x) (nat_le table.inputs x) (is_in its x) (le-leb table.inputs x low)
    where
      right : (a b c : Bool) → b ≡ true → a || (b || c) ≡ true
      right true b c h = refl
      right false true c h = refl
      right false false c h = absurd (both_ways false refl h)

  pub sequences-tell : (its : List ℕ) (xs ys : List Stmt) → tells_in table its (sequence xs) ≡ true → tells_in table its (sequence ys) ≡ true → tells_in table its (sequence (xs ++ ys)) ≡ true
  sequences-tell its [] ys h k = k
  sequences-tell its (x ∷ xs) ys h k = let q = both-true (In its x) (In its (sequence xs)) h in and-true (In its x) (In its (sequence (xs ++ ys))) q.0 (sequences-tell its xs ys q.1 k)

  one-set : (its : List ℕ) (n : ℕ) (k : Key) (e : Expr) → tells table its e ≡ true → tells_in table its (sequence (set_to n k e ∷ [])) ≡ true
  one-set its n k e h = and-true (Ex its e) true h refl

  pub reads-tell : (e : Expr) (its : List ℕ) (n : ℕ) (k : Key) → tells table its e ≡ true → tells_in table its (sequence (reads_set n k e)) ≡ true
  reads-tell (Const v) its n k h = refl
  reads-tell (Var x at) its n k h = refl
  reads-tell (Property x p at) its n k h = refl
  reads-tell (EdgeProperty x p at) its n k h = refl
  reads-tell (Degree d x at) its n k h = refl
  reads-tell NodeCount its n k h = refl
  reads-tell EdgeCount its n k h = refl
  reads-tell (Live x at) its n k h = refl
  reads-tell (Unary op at e) its n k h = reads-tell e its n k h
  reads-tell (Binary op at a b) its n k h = let q = both-true (Ex its a) (Ex its b) h in sequences-tell its (reads_set n k a) (reads_set (n + count_read a) k b) (reads-tell a its n k q.0) (reads-tell b its (n + count_read a) k q.1)
  reads-tell (Both a b) its n k h = let q = both-true (Ex its a) (Ex its b) h in sequences-tell its (reads_set n k a) (reads_set (n + count_read a) k b) (reads-tell a its n k q.0) (reads-tell b its (n + count_read a) k q.1)
  reads-tell (Either a b) its n k h = let q = both-true (Ex its a) (Ex its b) h in sequences-tell its (reads_set n k a) (reads_set (n + count_read a) k b) (reads-tell a its n k q.0) (reads-tell b its (n + count_read a) k q.1)
  reads-tell (Choose c a b) its n k h =
      let p = both-true (Ex its c) (Ex its a && Ex its b) h in
      let q = both-true (Ex its a) (Ex its b) p.1 in
      let m = n + count_read c in
      sequences-tell its (reads_set n k c) (reads_set m k a ++ reads_set (m + count_read a) k b) (reads-tell c its n k p.0)
      (sequences-tell its (reads_set m k a) (reads_set (m + count_read a) k b) (reads-tell a its m k q.0) (reads-tell b its (m + count_read a) k q.1))
  reads-tell (Folded f hd test e) its n k h = one-set its n k (Folded f hd test e) h

  pub told-tells : (e : Expr) (its : List ℕ) (n : ℕ) → table.inputs ≤ n → tells table its e ≡ true → tells table its (told_from n e) ≡ true
  told-tells (Const v) its n low h = h
  told-tells (Var x at) its n low h = h
  told-tells (Property x p at) its n low h = behind-inputs its n low
  told-tells (EdgeProperty x p at) its n low h = h
  told-tells (Degree d x at) its n low h = behind-inputs its n low
  told-tells NodeCount its n low h = h
  told-tells EdgeCount its n low h = h
  told-tells (Live x at) its n low h = behind-inputs its n low
  told-tells (Unary op at e) its n low h = told-tells e its n low h
  told-tells (Binary op at a b) its n low h = both-kept (Ex its a) (Ex its b) (Ex its (told_from n a)) (Ex its (told_from (n + count_read a) b)) (told-tells a its n low) (told-tells b its (n + count_read a) (omega (arith, low))) h
  told-tells (Both a b) its n low h = both-kept (Ex its a) (Ex its b) (Ex its (told_from n a)) (Ex its (told_from (n + count_read a) b)) (told-tells a its n low) (told-tells b its (n + count_read a) (omega (arith, low))) h
  told-tells (Either a b) its n low h = both-kept (Ex its a) (Ex its b) (Ex its (told_from n a)) (Ex its (told_from (n + count_read a) b)) (told-tells a its n low) (told-tells b its (n + count_read a) (omega (arith, low))) h
  told-tells (Choose c a b) its n low h =
      let m = n + count_read c in
      let further : table.inputs ≤ m = omega (arith, low) in
      both-kept (Ex its c) (Ex its a && Ex its b) (Ex its (told_from n c)) (Ex its (told_from m a) && Ex its (told_from (m + count_read a) b)) (told-tells c its n low)
      (both-kept (Ex its a) (Ex its b) (Ex its (told_from m a)) (Ex its (told_from (m + count_read a) b)) (told-tells a its m further) (told-tells b its (m + count_read a) (omega (arith, further)))) h
  told-tells (Folded f hd test e) its n low h = behind-inputs its n low

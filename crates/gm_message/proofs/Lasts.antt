-- One pass over the statements of a block gives what the definition says.
use Rattle.std.proofs.Common.{◌≡◌, ℕ, Bool, true, false, cond, List, [], ◌∷◌, refl, ap, ◌∙◌, sym}
use Rattle.std.specs.Prelude.{◌&&◌, ◌||◌}
use Rattle.std.proofs.lemmas.Bool.{both_ways}
use Rattle.gm_ast.specs.declared.tree.Declaration.{Declaration}
use Rattle.gm_ast.specs.Program.{Expr, Stmt, Skip, Then, Declare, DeclareEdge, Assign, Defer, Combine, Group, Foreach, For, If, While, Do, InBfs, InBfsBoth, Return, sequence}
use Rattle.gm_forms.proofs.Named.{both-true}
use Rattle.gm_lowering.specs.Plans.{is_nothing, gives_nothing, gives_last}
use Rattle.gm_message.specs.Lasts.{continued}

-- what does nothing gives nothing
nothing-given : (ds : List Declaration) (s : Stmt) → is_nothing s ≡ true → gives_nothing ds s ≡ true
nothing-given ds Skip h = refl
nothing-given ds (Then a b) h =
    let hs = both-true (is_nothing a) (is_nothing b) h in ap (λ c. c && gives_nothing ds b) (nothing-given ds a hs.0) ∙ nothing-given ds b hs.1
nothing-given ds (DeclareEdge x y at) h = refl
nothing-given ds (Declare k x e) h = refl
nothing-given ds (Assign k t e) h = refl
nothing-given ds (Defer k t e) h = refl
nothing-given ds (Combine k total r ts es) h = absurd (both_ways false refl h)
nothing-given ds (Group k at g p e) h = refl
nothing-given ds (Foreach k at hd test body) h = refl
nothing-given ds (For k at hd test body) h = refl
nothing-given ds (If k c a b) h = absurd (both_ways false refl h)
nothing-given ds (While k at c a) h = refl
nothing-given ds (Do k at a c) h = refl
nothing-given ds (InBfs k at s test body) h = refl
nothing-given ds (InBfsBoth k at s test body kb tb back) h = refl
nothing-given ds (Return k at e) h = refl

-- and does not end with what is given
nothing-last : (ds : List Declaration) (i : ℕ) (s : Stmt) → is_nothing s ≡ true → gives_last ds i s ≡ false
nothing-last ds i Skip h = refl
nothing-last ds i (Then a b) h =
    let hs = both-true (is_nothing a) (is_nothing b) h in
    ap (λ c. cond c (gives_last ds i a) (gives_nothing ds a && gives_last ds i b)) hs.1 ∙ nothing-last ds i a hs.0
nothing-last ds i (DeclareEdge x y at) h = refl
nothing-last ds i (Declare k x e) h = refl
nothing-last ds i (Assign k t e) h = refl
nothing-last ds i (Defer k t e) h = refl
nothing-last ds i (Combine k total r ts es) h = absurd (both_ways false refl h)
nothing-last ds i (Group k at g p e) h = refl
nothing-last ds i (Foreach k at hd test body) h = refl
nothing-last ds i (For k at hd test body) h = refl
nothing-last ds i (If k c a b) h = absurd (both_ways false refl h)
nothing-last ds i (While k at c a) h = refl
nothing-last ds i (Do k at a c) h = refl
nothing-last ds i (InBfs k at s test body) h = refl
nothing-last ds i (InBfsBoth k at s test body kb tb back) h = refl
nothing-last ds i (Return k at e) h = refl

-- the cases of one statement and the rest
one : (n m q l g r last : Bool) → (n ≡ true → g ≡ true)
    → (n ≡ true → cond m last (q && r) ≡ cond (n && m) last (q && cond m l (g && r)))
    × (n ≡ false → cond m (q && l) ((q && g) && r) ≡ cond (n && m) last (q && cond m l (g && r)))
one true true q l g r last h = ((λ e. refl), (λ e. absurd (both_ways true e refl)))
one true false q l true r last h = ((λ e. refl), (λ e. absurd (both_ways true e refl)))
one true false q l false r last h = absurd (both_ways false refl (h refl))
one false true q l g r last h = ((λ e. absurd (both_ways false refl e)), (λ e. refl))
one false false true l g r last h = ((λ e. absurd (both_ways false refl e)), (λ e. refl))
one false false false l g r last h = ((λ e. absurd (both_ways false refl e)), (λ e. refl))

continued-is : (ds : List Declaration) (i : ℕ) (last quiet : Bool) (ss : List Stmt)
    → continued ds i last quiet ss ≡ cond (is_nothing (sequence ss)) last (quiet && gives_last ds i (sequence ss))
continued-is ds i last quiet [] = refl
continued-is ds i last quiet (s ∷ ss) =
    let rule = one (is_nothing s) (is_nothing (sequence ss)) quiet (gives_last ds i s) (gives_nothing ds s) (gives_last ds i (sequence ss)) last (nothing-given ds s) in
    let there = continued-is ds i last quiet ss in
    let other = continued-is ds i (quiet && gives_last ds i s) (quiet && gives_nothing ds s) ss in
    by (is_nothing s) refl (λ e. there ∙ rule.0 e) (λ e. other ∙ rule.1 e) where
      whole : Bool
      whole = cond (is_nothing s && is_nothing (sequence ss)) last (quiet && cond (is_nothing (sequence ss)) (gives_last ds i s) (gives_nothing ds s && gives_last ds i (sequence ss)))

      by : (b : Bool) → is_nothing s ≡ b
          → (is_nothing s ≡ true → continued ds i last quiet ss ≡ whole)
          → (is_nothing s ≡ false → continued ds i (quiet && gives_last ds i s) (quiet && gives_nothing ds s) ss ≡ whole)
          → cond b (continued ds i last quiet ss) (continued ds i (quiet && gives_last ds i s) (quiet && gives_nothing ds s) ss) ≡ whole
      by true e first second = first e
      by false e first second = second e

-- from the start
pub continued_sequence : (ds : List Declaration) (i : ℕ) (ss : List Stmt) → continued ds i false true ss ≡ gives_last ds i (sequence ss)
continued_sequence ds i ss = continued-is ds i false true ss ∙ by (is_nothing (sequence ss)) refl where
  by : (b : Bool) → is_nothing (sequence ss) ≡ b → cond b false (gives_last ds i (sequence ss)) ≡ gives_last ds i (sequence ss)
  by true e = sym (nothing-last ds i (sequence ss) e)
  by false e = refl

-- A tree may be given by an equation.
use Rattle.std.proofs.Common.{◌≡◌, ℕ, zero, suc, Bool, true, false, List, [], ◌∷◌, map, drop, Option, Some, None, refl, sym, ap, subst, ◌∙◌, Result}
use Rattle.gm_token.specs.declared.words.Word.{Word}
use Rattle.gm_token.specs.Tokens.{Token, Listing, words_of}
use Rattle.gm_ast.specs.Surface.{SurfaceExpr, SurfaceStmt, SurfaceName}
use Rattle.gm_parse.specs.declared.around.Around.{Around}
use Rattle.gm_parse.specs.declared.faults.Fault.{Fault}
use Rattle.gm_parse.specs.Terminals.{Terminal, fits}
use Rattle.gm_parse.specs.Grammar.{Part, Rule, Token as TokenRule}
use Rattle.gm_parse.specs.Foresight.{next, starts_next}
use Rattle.gm_parse.specs.Goes.{Goes, Sees}
use Rattle.gm_parse.specs.Trees.{ReadsTree, ReadsStmt, ReadsMany, ReadsNames, ComesOtherwise}

pub as_tree : {q : Part} {us vs : List Token} {e f : SurfaceExpr} → f ≡ e → ReadsTree q us e vs → ReadsTree q us f vs
as_tree {q} {us} {vs} h r = subst (λ (e : SurfaceExpr). ReadsTree q us e vs) (sym h) r

pub as_stmt : {us vs : List Token} {s t : SurfaceStmt} → t ≡ s → ReadsStmt us s vs → ReadsStmt us t vs
as_stmt {us} {vs} h r = subst (λ (s : SurfaceStmt). ReadsStmt us s vs) (sym h) r

pub as_many : {us vs : List Token} {ss ts : List SurfaceStmt} → ts ≡ ss → ReadsMany us ss vs → ReadsMany us ts vs
as_many {us} {vs} h r = subst (λ (ss : List SurfaceStmt). ReadsMany us ss vs) (sym h) r

pub as_names : {us vs : List Token} {xs ys : List SurfaceName} → ys ≡ xs → ReadsNames us xs vs → ReadsNames us ys vs
as_names {us} {vs} h r = subst (λ (xs : List SurfaceName). ReadsNames us xs vs) (sym h) r

-- what stands around may be given by an equation
pub as_around : {x y : Rule} {a b : Around} {ws : List Word} {i : ℕ} {r : Result ℕ Fault} → b ≡ a → Goes x b ws i r → ((c : Around) (s : Result ℕ Fault) → Goes x c ws i s → Goes y c ws i s) → Goes y a ws i r
as_around {x} {a} {ws} {i} {r} e g f = f a r (subst (λ (c : Around). Goes x c ws i r) e g)

-- the next word is not this one, nor is the next token
pub otherwise : (it : Listing) {i : ℕ} {k : Terminal} {r : Bool} → Sees (words_of it) i (TokenRule k) r → r ≡ false → ComesOtherwise k (drop i it.tokens)
otherwise it {i} {k} s e = at_token it.tokens i (s.holds ∙ e)
  where
    at_token : (xs : List Token) (i : ℕ) → starts_next (next (drop i (map (λ (t : Token). t.word) xs))) (TokenRule k) ≡ false → ComesOtherwise k (drop i xs)
    at_token [] zero h = tt
    at_token [] (suc i) h = tt
    at_token (t ∷ xs) zero h = h
    at_token (t ∷ xs) (suc i) h = at_token xs i h

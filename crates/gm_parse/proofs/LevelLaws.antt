-- Operators and their levels along the parser's moves, and in trees.
use Rattle.std.proofs.Common.{◌≡◌, ℕ, Bool, true, false, ◌||◌, List, [], ◌∷◌, drop, Option, Some, None, nat_eq, refl, sym, ap, subst, ◌∙◌, Result, Ok, Err}
use Rattle.std.specs.Prelude.{IsTrue, ◌↔◌}
use Rattle.gm_token.specs.declared.words.Word.{Word}
use Rattle.gm_token.specs.declared.words.Word.TheVariants as words
use Rattle.gm_token.specs.Tokens.{Token}
use Rattle.gm_ast.specs.Surface.{SurfaceExpr}
use Rattle.gm_parse.specs.declared.around.Around.{Around}
use Rattle.gm_parse.specs.declared.faults.Fault.{Fault}
use Rattle.gm_parse.specs.declared.levels.Level.{Level}
use Rattle.gm_parse.specs.declared.levels.Level.TheVariants as levels
use Rattle.gm_parse.specs.Terminals.{number_of, The}
use Rattle.gm_parse.specs.Grammar.{Part, Rule, Of, ◌▸◌, Maybe, Many, the, Relation, Sum, Braces, Condition, Block, AtName, OfGraph, Reverse, rule}
use Rattle.gm_parse.specs.Factored.{factored}
use Rattle.gm_parse.specs.Levels.{part_of, operand_of, signs_of}
use Rattle.gm_parse.specs.Foresight.{begins, is_among, next, starts_next}
use Rattle.gm_parse.specs.Goes.{Goes, Sees}
use Rattle.gm_parse.specs.Trees.{ReadsTree}
use Rattle.gm_parse.proofs.Paths.{goes_part, goes_then, goes_first}
use Rattle.gm_parse.proofs.ChoiceLaws.{goes_row}

pub not_relation : {l : Level} {b : Bool} → (IsTrue b ↔ (l ≡ levels.Relation)) → b ≡ false → l ≡ levels.Relation → ⊥
not_relation {l} {b} h f e = let t : b ≡ true = h.1 e in cc

pub goes_relation : {l : Level} {a : Around} {ws : List Word} {i j : ℕ} {r : Result ℕ Fault} → l ≡ levels.Relation → Goes (Of (operand_of l)) a ws i (Ok j) → Goes (Maybe (signs_of levels.Relation ▸ Of (operand_of levels.Relation))) a ws j r → Goes (Of (part_of l)) a ws i r
unfolding rule factored
goes_relation {l} {a} {ws} {i} {j} {r} e g h =
    subst (λ (m : Level). Goes (Of (operand_of m)) a ws i (Ok j) → Goes (Of (part_of m)) a ws i r) (sym e) (λ x. goes_part Relation (goes_then x h)) g

-- a fault in the first operand is one of the row
pub goes_tight_first : (l : Level) {a : Around} {ws : List Word} {i : ℕ} {e : Fault} → Goes (Of (operand_of l)) a ws i (Err e) → Goes (Of (part_of l)) a ws i (Err e)
unfolding rule factored
goes_tight_first levels.Or g = goes_part (part_of levels.Or) (goes_first g)
goes_tight_first levels.And g = goes_part (part_of levels.And) (goes_first g)
goes_tight_first levels.Equality g = goes_part (part_of levels.Equality) (goes_first g)
goes_tight_first levels.Relation g = goes_part (part_of levels.Relation) (goes_first g)
goes_tight_first levels.Sum g = goes_part (part_of levels.Sum) (goes_first g)
goes_tight_first levels.Product g = goes_part (part_of levels.Product) (goes_first g)

-- ---- trees

pub as_part : {q s : Part} {us vs : List Token} {e : SurfaceExpr} → s ≡ q → ReadsTree q us e vs → ReadsTree s us e vs
as_part {us} {vs} {e} h r = subst (λ (q : Part). ReadsTree q us e vs) (sym h) r

pub as_relation : {l : Level} {us vs : List Token} {e : SurfaceExpr} → l ≡ levels.Relation → ReadsTree Relation us e vs → ReadsTree (part_of l) us e vs
as_relation {us} {vs} {e} h r = subst (λ (l : Level). ReadsTree (part_of l) us e vs) (sym h) r

pub of_relation : {l : Level} {us vs : List Token} {e : SurfaceExpr} → l ≡ levels.Relation → ReadsTree (operand_of l) us e vs → ReadsTree (operand_of levels.Relation) us e vs
of_relation {us} {vs} {e} h r = subst (λ (l : Level). ReadsTree (operand_of l) us e vs) h r

-- ---- parts that begin with one word alone

begins_as : (q : Part) (v : Word) → begins q ≡ v ∷ [] → (o : Option Word) → starts_next o (Of q) ≡ starts_next o (the v)
begins_as q v e None = refl
begins_as q v e (Some w) = ap (λ (vs : List Word). is_among w vs) e ∙ or_false (nat_eq (number_of v) (number_of w))
  where
    or_false : (b : Bool) → (b || false) ≡ b
    or_false true = refl
    or_false false = refl

sees_part : (q : Part) (v : Word) → begins q ≡ v ∷ [] → {ws : List Word} {i : ℕ} {r b : Bool} → Sees ws i (the v) r → r ≡ b → Sees ws i (Of q) b
sees_part q v h {ws} {i} s e = record { holds = begins_as q v h (next (drop i ws)) ∙ s.holds ∙ e }

pub sees_braces : {ws : List Word} {i : ℕ} {r b : Bool} → Sees ws i (the words.LeftBrace) r → r ≡ b → Sees ws i (Of Braces) b
unfolding begins
sees_braces s e = sees_part Braces words.LeftBrace refl s e

pub sees_block : {ws : List Word} {i : ℕ} {r b : Bool} → Sees ws i (the words.LeftBrace) r → r ≡ b → Sees ws i (Of Block) b
unfolding begins
sees_block s e = sees_part Block words.LeftBrace refl s e

pub sees_condition : {ws : List Word} {i : ℕ} {r b : Bool} → Sees ws i (the words.LeftParen) r → r ≡ b → Sees ws i (Of Condition) b
unfolding begins
sees_condition s e = sees_part Condition words.LeftParen refl s e

pub sees_of : {ws : List Word} {i : ℕ} {r b : Bool} → Sees ws i (the words.LeftParen) r → r ≡ b → Sees ws i (Of OfGraph) b
unfolding begins
sees_of s e = sees_part OfGraph words.LeftParen refl s e

pub sees_at : {ws : List Word} {i : ℕ} {r b : Bool} → Sees ws i (the words.At) r → r ≡ b → Sees ws i (Of AtName) b
unfolding begins
sees_at s e = sees_part AtName words.At refl s e

pub sees_reverse : {ws : List Word} {i : ℕ} {r b : Bool} → Sees ws i (the words.InReverse) r → r ≡ b → Sees ws i (Of Reverse) b
unfolding begins
sees_reverse s e = sees_part Reverse words.InReverse refl s e

-- The kinds of words by which a tree is read, and the first word of some tokens.
use Rattle.std.proofs.Common.{◌≡◌, ℕ, zero, suc, Bool, true, false, ◌<◌, List, [], ◌∷◌, Option, Some, None, nat_eq, refl, sym, ap, subst, ◌∙◌, arith}
use Rattle.gm_base.specs.declared.places.Place.{Place}
use Rattle.gm_ast.specs.declared.surface.Infix.{Infix}
use Rattle.gm_ast.specs.Surface.{SurfaceName}
use Rattle.gm_token.specs.declared.words.Word.{Word}
use Rattle.gm_token.specs.declared.words.Word.TheVariants as words
use Rattle.gm_token.specs.Tokens.{Token}
use Rattle.gm_parse.specs.declared.levels.Level.{Level}
use Rattle.gm_parse.specs.declared.levels.Level.TheVariants as levels
use Rattle.gm_parse.specs.Terminals.{Terminal, The, AnyName, fits, number_of}
use Rattle.gm_parse.specs.Grammar.{Part, Expression, Disjunction, Conjunction, Equality, Relation, Sum, Product}
use Rattle.gm_parse.specs.Levels.{part_of, operand_of}
use Rattle.gm_parse.specs.Choices.{bare_type, element_type, bearer_word, cast_type, loop_word, value_reduction, test_reduction, reduce_sign, product_infix, sum_infix, relation_infix, equality_infix, and_infix, or_infix, infix_of}
use Rattle.gm_parse.specs.Trees.{ReadsWord, ReadsAs, ReadsName, ComesOtherwise}

-- what a function says of the first word, where there is one
abbrev pub first : {A : Type 0} → (Word → A) → A → List Token → A
first f d [] = d
first f d (t ∷ us) = f t.word

-- the tokens after the first one
abbrev pub after_first : List Token → List Token
after_first [] = []
after_first (t ∷ us) = us

-- the first token is this one
abbrev pub sees : Terminal → List Token → Bool
sees k us = first (fits k) false us

-- ---- words are told apart by their numbers

-- the words in the order of their numbers
abbrev all_words : List Word
all_words = words.Name ∷ words.Nodes ∷ words.Nbrs ∷ words.OutNbrs ∷ words.InNbrs ∷ words.UpNbrs ∷ words.DownNbrs ∷ words.Number ∷ words.Procedure ∷ words.Proc ∷ words.IntType ∷ words.LongType ∷ words.BoolType ∷ words.Graph ∷ words.DGraph ∷ words.Node ∷ words.Edge ∷ words.NP ∷ words.NodeProp ∷ words.NodeProperty ∷ words.EP ∷ words.EdgeProp ∷ words.EdgeProperty ∷ words.Foreach ∷ words.For ∷ words.If ∷ words.Else ∷ words.While ∷ words.Do ∷ words.InBFS ∷ words.From ∷ words.InReverse ∷ words.Return ∷ words.Sum ∷ words.Product ∷ words.Count ∷ words.Min ∷ words.Max ∷ words.Exist ∷ words.All ∷ words.True ∷ words.False ∷ words.Nil ∷ words.Inf ∷ words.LeftParen ∷ words.RightParen ∷ words.LeftBrace ∷ words.RightBrace ∷ words.Less ∷ words.Greater ∷ words.Comma ∷ words.Semicolon ∷ words.Colon ∷ words.Dot ∷ words.At ∷ words.Question ∷ words.Bang ∷ words.Assign ∷ words.Plus ∷ words.Minus ∷ words.Star ∷ words.Slash ∷ words.Percent ∷ words.Equal ∷ words.NotEqual ∷ words.LessEqual ∷ words.GreaterEqual ∷ words.AndAnd ∷ words.OrOr ∷ words.PlusPlus ∷ words.PlusAssign ∷ words.StarAssign ∷ words.AndAndAssign ∷ words.OrOrAssign ∷ words.AndAssign ∷ words.OrAssign ∷ words.MinAssign ∷ words.MaxAssign ∷ words.FloatType ∷ words.StringType ∷ words.Collection ∷ words.DepthFirst ∷ words.UGraph ∷ words.Average ∷ words.Local ∷ words.Real ∷ []

abbrev word_at : List Word → ℕ → Word
word_at [] n = words.Name
word_at (w ∷ ws) zero = w
word_at (w ∷ ws) (suc n) = word_at ws n

word_back : (w : Word) → word_at all_words (number_of w) ≡ w
word_back words.Name = refl
word_back _ = refl

numbers_same : (m n : ℕ) → nat_eq m n ≡ true → m ≡ n
numbers_same m n e = grind arith

-- a word that fits a word is that word
pub same_word : (v w : Word) → fits (The v) w ≡ true → v ≡ w
same_word v w e = sym (word_back v) ∙ ap (word_at all_words) (numbers_same (number_of v) (number_of w) e) ∙ word_back w

-- so whatever is said of the first word is said of the word that is read
pub at_word : {A : Type 0} (f : Word → A) (d : A) {v : Word} {us vs : List Token} {p : Place} → ReadsWord (The v) us p vs → first f d us ≡ f v
at_word f d {v} (ReadsWord.word {t} e) = ap f (sym (same_word v t.word e))

-- ---- names

-- the words of names
abbrev pub is_name : Word → Bool
is_name w = fits AnyName w

module _ {A : Type 0} (f : Word → A) (x : A) where
  -- said of all words of names
  abbrev pub OfNames : Type 0
  OfNames = (w : Word) → fits AnyName w ≡ true → f w ≡ x

  pub at_name : OfNames → (d : A) {us vs : List Token} {n : SurfaceName} → ReadsName us n vs → first f d us ≡ x
  at_name h d (ReadsName.name {t} e) = h t.word e

-- ---- words that stand for something

-- said of all words that stand for something
abbrev pub OfMeant : {A B : Type 0} → (Word → A) → A → (Word → Option B) → Type 0
OfMeant {A} {B} f x m = (w : Word) (b : B) → m w ≡ Some b → f w ≡ x

pub at_meant : {A B : Type 0} (f : Word → A) (x : A) (m : Word → Option B) → OfMeant f x m → (d : A) {us vs : List Token} {b : B} {p : Place} → ReadsAs m us b p vs → first f d us ≡ x
at_meant f x m h d {b} (ReadsAs.word {t} e) = h t.word b e

pub meant : {B : Type 0} {m : Word → Option B} {us vs : List Token} {b : B} {p : Place} → ReadsAs m us b p vs → first m None us ≡ Some b
meant (ReadsAs.word e) = e

pub comes_otherwise : (k : Terminal) (us : List Token) → ComesOtherwise k us → sees k us ≡ false
comes_otherwise k [] e = refl
comes_otherwise k (t ∷ us) e = e

-- ---- what a type begins with

pub data TypeKind : Type 0 where
  BareType ElementType PropertyType NoType : TypeKind

abbrev pub type_kind : Word → TypeKind
type_kind words.IntType = BareType
type_kind words.LongType = BareType
type_kind words.BoolType = BareType
type_kind words.Graph = BareType
type_kind words.DGraph = BareType
type_kind words.Node = ElementType
type_kind words.Edge = ElementType
type_kind words.NP = PropertyType
type_kind words.NodeProp = PropertyType
type_kind words.NodeProperty = PropertyType
type_kind words.EP = PropertyType
type_kind words.EdgeProp = PropertyType
type_kind words.EdgeProperty = PropertyType
type_kind _ = NoType

pub bare_kind : OfMeant type_kind BareType bare_type
bare_kind words.IntType b e = refl
bare_kind words.LongType b e = refl
bare_kind words.BoolType b e = refl
bare_kind words.Graph b e = refl
bare_kind words.DGraph b e = refl
bare_kind _ b e = cc

pub element_kind : OfMeant type_kind ElementType element_type
element_kind words.Node b e = refl
element_kind words.Edge b e = refl
element_kind _ b e = cc

pub property_kind : OfMeant type_kind PropertyType bearer_word
property_kind words.NP b e = refl
property_kind words.NodeProp b e = refl
property_kind words.NodeProperty b e = refl
property_kind words.EP b e = refl
property_kind words.EdgeProp b e = refl
property_kind words.EdgeProperty b e = refl
property_kind _ b e = cc

-- ---- what an operand begins with

pub data OperandKind : Type 0 where
  NumberFirst TrueFirst FalseFirst NilFirst InfFirst NameFirst ParenFirst ValueFirst TestFirst BangFirst MinusFirst PlusFirst NoOperand : OperandKind

abbrev pub operand_kind : Word → OperandKind
operand_kind words.Name = NameFirst
operand_kind words.Nodes = NameFirst
operand_kind words.Nbrs = NameFirst
operand_kind words.OutNbrs = NameFirst
operand_kind words.InNbrs = NameFirst
operand_kind words.UpNbrs = NameFirst
operand_kind words.DownNbrs = NameFirst
operand_kind words.Number = NumberFirst
operand_kind words.True = TrueFirst
operand_kind words.False = FalseFirst
operand_kind words.Nil = NilFirst
operand_kind words.Inf = InfFirst
operand_kind words.LeftParen = ParenFirst
operand_kind words.Sum = ValueFirst
operand_kind words.Product = ValueFirst
operand_kind words.Min = ValueFirst
operand_kind words.Max = ValueFirst
operand_kind words.All = ValueFirst
operand_kind words.Exist = TestFirst
operand_kind words.Count = TestFirst
operand_kind words.Bang = BangFirst
operand_kind words.Minus = MinusFirst
operand_kind words.Plus = PlusFirst
operand_kind _ = NoOperand

abbrev pub is_operand_kind : OperandKind → Bool
is_operand_kind NoOperand = false
is_operand_kind _ = true

pub name_first : OfNames operand_kind NameFirst
name_first words.Name e = refl
name_first words.Nodes e = refl
name_first words.Nbrs e = refl
name_first words.OutNbrs e = refl
name_first words.InNbrs e = refl
name_first words.UpNbrs e = refl
name_first words.DownNbrs e = refl
name_first _ e = cc

pub value_first : OfMeant operand_kind ValueFirst value_reduction
value_first words.Sum b e = refl
value_first words.Product b e = refl
value_first words.Min b e = refl
value_first words.Max b e = refl
value_first words.All b e = refl
value_first _ b e = cc

pub test_first : OfMeant operand_kind TestFirst test_reduction
test_first words.Exist b e = refl
test_first words.Count b e = refl
test_first _ b e = cc

-- an expression begins here
abbrev pub begins_operand : List Token → Bool
begins_operand us = is_operand_kind (first operand_kind NoOperand us)

no_cast_word : (w : Word) → is_operand_kind (operand_kind w) ≡ true → cast_type w ≡ None
no_cast_word words.IntType e = cc
no_cast_word words.LongType e = cc
no_cast_word _ e = refl

pub no_cast : (us : List Token) → begins_operand us ≡ true → first cast_type None us ≡ None
no_cast [] e = refl
no_cast (t ∷ us) e = no_cast_word t.word e

no_semicolon_word : (w : Word) → is_operand_kind (operand_kind w) ≡ true → fits (The words.Semicolon) w ≡ false
no_semicolon_word words.Semicolon e = cc
no_semicolon_word _ e = refl

pub no_semicolon : (us : List Token) → begins_operand us ≡ true → sees (The words.Semicolon) us ≡ false
no_semicolon [] e = refl
no_semicolon (t ∷ us) e = no_semicolon_word t.word e

-- ---- what a statement begins with

pub data StatementKind : Type 0 where
  BlockFirst EmptyFirst TypeFirst TargetFirst LoopFirst IfFirst WhileFirst DoFirst SearchFirst TupleFirst ReturnFirst NoStatement : StatementKind

abbrev pub statement_kind : Word → StatementKind
statement_kind words.LeftBrace = BlockFirst
statement_kind words.Semicolon = EmptyFirst
statement_kind words.IntType = TypeFirst
statement_kind words.LongType = TypeFirst
statement_kind words.BoolType = TypeFirst
statement_kind words.Graph = TypeFirst
statement_kind words.DGraph = TypeFirst
statement_kind words.Node = TypeFirst
statement_kind words.Edge = TypeFirst
statement_kind words.NP = TypeFirst
statement_kind words.NodeProp = TypeFirst
statement_kind words.NodeProperty = TypeFirst
statement_kind words.EP = TypeFirst
statement_kind words.EdgeProp = TypeFirst
statement_kind words.EdgeProperty = TypeFirst
statement_kind words.Name = TargetFirst
statement_kind words.Nodes = TargetFirst
statement_kind words.Nbrs = TargetFirst
statement_kind words.OutNbrs = TargetFirst
statement_kind words.InNbrs = TargetFirst
statement_kind words.UpNbrs = TargetFirst
statement_kind words.DownNbrs = TargetFirst
statement_kind words.Foreach = LoopFirst
statement_kind words.For = LoopFirst
statement_kind words.If = IfFirst
statement_kind words.While = WhileFirst
statement_kind words.Do = DoFirst
statement_kind words.InBFS = SearchFirst
statement_kind words.Less = TupleFirst
statement_kind words.Return = ReturnFirst
statement_kind _ = NoStatement

abbrev pub is_statement_kind : StatementKind → Bool
is_statement_kind NoStatement = false
is_statement_kind _ = true

pub bare_declares : OfMeant statement_kind TypeFirst bare_type
bare_declares words.IntType b e = refl
bare_declares words.LongType b e = refl
bare_declares words.BoolType b e = refl
bare_declares words.Graph b e = refl
bare_declares words.DGraph b e = refl
bare_declares _ b e = cc

pub element_declares : OfMeant statement_kind TypeFirst element_type
element_declares words.Node b e = refl
element_declares words.Edge b e = refl
element_declares _ b e = cc

pub property_declares : OfMeant statement_kind TypeFirst bearer_word
property_declares words.NP b e = refl
property_declares words.NodeProp b e = refl
property_declares words.NodeProperty b e = refl
property_declares words.EP b e = refl
property_declares words.EdgeProp b e = refl
property_declares words.EdgeProperty b e = refl
property_declares _ b e = cc

pub name_assigns : OfNames statement_kind TargetFirst
name_assigns words.Name e = refl
name_assigns words.Nodes e = refl
name_assigns words.Nbrs e = refl
name_assigns words.OutNbrs e = refl
name_assigns words.InNbrs e = refl
name_assigns words.UpNbrs e = refl
name_assigns words.DownNbrs e = refl
name_assigns _ e = cc

pub loop_first : OfMeant statement_kind LoopFirst loop_word
loop_first words.Foreach b e = refl
loop_first words.For b e = refl
loop_first _ b e = cc

-- a statement begins here
abbrev pub begins_statement : List Token → Bool
begins_statement us = is_statement_kind (first statement_kind NoStatement us)

no_paren_word : (w : Word) → is_statement_kind (statement_kind w) ≡ true → fits (The words.LeftParen) w ≡ false
no_paren_word words.LeftParen e = cc
no_paren_word _ e = refl

pub no_paren : (us : List Token) → begins_statement us ≡ true → sees (The words.LeftParen) us ≡ false
no_paren [] e = refl
no_paren (t ∷ us) e = no_paren_word t.word e

pub name_no_paren : OfNames (fits (The words.LeftParen)) false
name_no_paren words.LeftParen e = cc
name_no_paren _ e = refl

-- ---- what makes an assignment of a target

pub data AssignKind : Type 0 where
  Assigns Defers Reduces Counts : AssignKind

abbrev pub assign_kind : Word → AssignKind
assign_kind words.Assign = Assigns
assign_kind words.LessEqual = Defers
assign_kind words.PlusPlus = Counts
assign_kind _ = Reduces

pub sign_reduces : OfMeant assign_kind Reduces reduce_sign
sign_reduces words.Assign b e = cc
sign_reduces words.LessEqual b e = cc
sign_reduces words.PlusPlus b e = cc
sign_reduces _ b e = refl

pub sign_no_dot : OfMeant (fits (The words.Dot)) false reduce_sign
sign_no_dot words.Dot b e = cc
sign_no_dot _ b e = refl

-- ---- what ends a row of parameters

abbrev pub closes : Word → Bool
closes words.Semicolon = true
closes words.RightParen = true
closes _ = false

closes_word : (f : Word → Bool) → f words.Semicolon ≡ false → f words.RightParen ≡ false → (w : Word) → closes w ≡ true → f w ≡ false
closes_word f s r words.Semicolon e = s
closes_word f s r words.RightParen e = r
closes_word f s r _ e = cc

pub closed : (f : Word → Bool) → f words.Semicolon ≡ false → f words.RightParen ≡ false → (us : List Token) → first closes false us ≡ true → first f false us ≡ false
closed f s r [] e = refl
closed f s r (t ∷ us) e = closes_word f s r t.word e

-- ---- how loosely a word binds, from 0 for what goes on with an operand to 8 for what goes on with no expression

abbrev pub rank : Word → ℕ
rank words.Dot = 0
rank words.LeftParen = 0
rank words.LeftBrace = 0
rank words.Star = 1
rank words.Slash = 1
rank words.Percent = 1
rank words.Plus = 2
rank words.Minus = 2
rank words.Less = 3
rank words.Greater = 3
rank words.LessEqual = 3
rank words.GreaterEqual = 3
rank words.Equal = 4
rank words.NotEqual = 4
rank words.AndAnd = 5
rank words.OrOr = 6
rank words.Question = 7
rank _ = 8

-- how loosely the operators of a part bind
abbrev pub height : Part → ℕ
height Product = 1
height Sum = 2
height Relation = 3
height Equality = 4
height Conjunction = 5
height Disjunction = 6
height Expression = 7
height _ = 0

-- none of these tokens goes on with the part
pub record Ends (q : Part) (us : List Token) : Type 0 where
  pub holds : height q < first rank 8 us

operand_lower : (l : Level) → height (operand_of l) < height (part_of l)
operand_lower levels.Or = omega arith
operand_lower levels.And = omega arith
operand_lower levels.Equality = omega arith
operand_lower levels.Relation = omega arith
operand_lower levels.Sum = omega arith
operand_lower levels.Product = omega arith

lower : {a b c : ℕ} → a < b → b < c → a < c
lower e f = omega arith

pub tighter : (l : Level) (us : List Token) → Ends (part_of l) us → Ends (operand_of l) us
tighter l us e = record { holds = lower (operand_lower l) e.holds }

-- before this word the part ends
pub ends_before : (q : Part) (v : Word) → height q < rank v → {us vs : List Token} {p : Place} → ReadsWord (The v) us p vs → Ends q us
ends_before q v h w = record { holds = subst (λ (n : ℕ). height q < n) (sym (at_word rank 8 w)) h }

or_rank : (w : Word) (o : Infix) → or_infix w ≡ Some o → rank w ≡ 6
or_rank words.OrOr o e = refl
or_rank _ o e = cc

and_rank : (w : Word) (o : Infix) → and_infix w ≡ Some o → rank w ≡ 5
and_rank words.AndAnd o e = refl
and_rank _ o e = cc

equality_rank : (w : Word) (o : Infix) → equality_infix w ≡ Some o → rank w ≡ 4
equality_rank words.Equal o e = refl
equality_rank words.NotEqual o e = refl
equality_rank _ o e = cc

relation_rank : (w : Word) (o : Infix) → relation_infix w ≡ Some o → rank w ≡ 3
relation_rank words.Less o e = refl
relation_rank words.Greater o e = refl
relation_rank words.LessEqual o e = refl
relation_rank words.GreaterEqual o e = refl
relation_rank _ o e = cc

sum_rank : (w : Word) (o : Infix) → sum_infix w ≡ Some o → rank w ≡ 2
sum_rank words.Plus o e = refl
sum_rank words.Minus o e = refl
sum_rank _ o e = cc

product_rank : (w : Word) (o : Infix) → product_infix w ≡ Some o → rank w ≡ 1
product_rank words.Star o e = refl
product_rank words.Slash o e = refl
product_rank words.Percent o e = refl
product_rank _ o e = cc

infix_rank : (l : Level) (w : Word) (o : Infix) → infix_of l w ≡ Some o → rank w ≡ height (part_of l)
infix_rank levels.Or w o e = or_rank w o e
infix_rank levels.And w o e = and_rank w o e
infix_rank levels.Equality w o e = equality_rank w o e
infix_rank levels.Relation w o e = relation_rank w o e
infix_rank levels.Sum w o e = sum_rank w o e
infix_rank levels.Product w o e = product_rank w o e

-- before an operator its left operand ends
pub ends_at : (l : Level) {us vs : List Token} {o : Infix} {p : Place} → ReadsAs (infix_of l) us o p vs → Ends (operand_of l) us
ends_at l {o} (ReadsAs.word {t} e) = record { holds = subst (λ (n : ℕ). height (operand_of l) < n) (sym (infix_rank l t.word o e)) (operand_lower l) }

not_both : {a b : ℕ} → a < b → b ≡ a → ⊥
not_both e f = absurd (omega arith)

no_infix_word : (l : Level) (w : Word) → height (part_of l) < rank w → (o : Option Infix) → infix_of l w ≡ o → o ≡ None
no_infix_word l w h None e = refl
no_infix_word l w h (Some o) e = absurd (not_both h (infix_rank l w o e))

-- where a row ends, there is none of its operators
pub no_infix : (l : Level) (us : List Token) → Ends (part_of l) us → first (infix_of l) None us ≡ None
no_infix l [] e = refl
no_infix l (t ∷ us) e = no_infix_word l t.word e.holds (infix_of l t.word) refl

ranked_word : (k : Word) (n : ℕ) (w : Word) → rank k ≡ n → n < rank w → (b : Bool) → fits (The k) w ≡ b → b ≡ false
ranked_word k n w r h false e = refl
ranked_word k n w r h true e = absurd (not_both h (sym (ap rank (same_word k w e)) ∙ r))

-- where a part ends, there is no word that binds as tightly
ranked : (k : Word) (n : ℕ) → rank k ≡ n → (us : List Token) → n < first rank 8 us → sees (The k) us ≡ false
ranked k n r [] h = refl
ranked k n r (t ∷ us) h = ranked_word k n t.word r h (fits (The k) t.word) refl

above_none : {a b : ℕ} → a < b → 0 < b
above_none e = omega arith

-- an ended part is followed by nothing that goes on with an operand
pub ended : (q : Part) (k : Word) → rank k ≡ 0 → (us : List Token) → Ends q us → sees (The k) us ≡ false
ended q k r us e = ranked k 0 r us (above_none e.holds)

pub no_question : (us : List Token) → Ends Expression us → sees (The words.Question) us ≡ false
no_question us e = ranked words.Question 7 refl us e.holds

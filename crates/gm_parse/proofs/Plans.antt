-- How a tree is read with one token of foresight, as plans: what is read next, and what is done with it. A plan has one
-- answer at most.
use Rattle.std.proofs.Common.{◌≡◌, ℤ, Bool, true, false, List, [], ◌∷◌, ◌++◌, Option, Some, None, refl, sym, subst}
use Rattle.gm_base.specs.declared.places.Place.{Place}
use Rattle.gm_value.specs.declared.values.VType.{VType}
use Rattle.gm_ast.specs.declared.surface.Infix.{Infix}
use Rattle.gm_ast.specs.declared.surface.Prefix.TheVariants as prefixes
use Rattle.gm_ast.specs.declared.surface.Range.{Range}
use Rattle.gm_ast.specs.Surface.{SurfaceName, SurfaceType, SurfaceHead, SurfaceTarget, SurfaceExpr, SurfaceStmt, SurfaceGroup, SurfaceProcedure, sequence}
use Rattle.gm_ast.specs.Surface as trees
use Rattle.gm_token.specs.declared.words.Word.{Word}
use Rattle.gm_token.specs.declared.words.Word.TheVariants as words
use Rattle.gm_token.specs.Tokens.{Token}
use Rattle.gm_parse.specs.declared.levels.Level.{Level}
use Rattle.gm_parse.specs.declared.levels.Level.TheVariants as levels
use Rattle.gm_parse.specs.Terminals.{Terminal, The, AnyName}
use Rattle.gm_parse.specs.Grammar.{Part, Expression, Disjunction, Conjunction, Equality, Relation, Sum, Product}
use Rattle.gm_parse.specs.Levels.{operand_of}
use Rattle.gm_parse.specs.Choices.{procedure_word, bare_type, element_type, bearer_word, cast_type, range_word, loop_word, value_reduction, test_reduction, reduce_sign, argument_operation, infix_of}
use Rattle.gm_parse.specs.Trees.{ReadsWord, ReadsAs, ReadsName, ReadsNumber}
use Rattle.gm_parse.proofs.FirstWords.{first, after_first, sees, TypeKind, BareType, ElementType, PropertyType, NoType, type_kind, OperandKind, NumberFirst, TrueFirst, FalseFirst, NilFirst, InfFirst, NameFirst, ParenFirst, ValueFirst, TestFirst, BangFirst, MinusFirst, PlusFirst, NoOperand, operand_kind, StatementKind, BlockFirst, EmptyFirst, TypeFirst, TargetFirst, LoopFirst, IfFirst, WhileFirst, DoFirst, SearchFirst, TupleFirst, ReturnFirst, NoStatement, statement_kind, begins_statement, AssignKind, Assigns, Defers, Reduces, Counts, assign_kind}

-- what is to be read; a row that has begun, as far as it has come
pub data Want : Type 0 where
  ANames AnOf AType Operand Whole ACondition AFilter SomeBraces ARange AHead : Want
  ATarget SomeTargets SomeValues AnAt AFrom ASearch AStatement ABlock AReverse : Want
  AGroup SomeGroups SomeParameters SomeOutputs AResult AProcedure : Want
  MoreNames : List SurfaceName → Want
  Row : Level → Want
  MoreOperands : Level → SurfaceExpr → Want
  MoreTargets : List SurfaceTarget → Want
  MoreValues : List SurfaceExpr → Want
  MoreStatements : List SurfaceStmt → Want
  MoreGroups : List SurfaceGroup → Want

-- what was read, and the tokens that are left
pub data Answer : Type 0 where
  names : List SurfaceName → List Token → Answer
  maybe_name : Option SurfaceName → List Token → Answer
  vtype : SurfaceType → List Token → Answer
  tree : SurfaceExpr → List Token → Answer
  braces : SurfaceExpr → Place → List Token → Answer
  range : SurfaceName → Range → List Token → Answer
  head : SurfaceHead → SurfaceExpr → List Token → Answer
  target : SurfaceTarget → List Token → Answer
  targets : List SurfaceTarget → List Token → Answer
  values : List SurfaceExpr → List Token → Answer
  nothing : List Token → Answer
  search_front : SurfaceName → SurfaceName → SurfaceName → SurfaceExpr → List Token → Answer
  statement : SurfaceStmt → List Token → Answer
  statements : List SurfaceStmt → List Token → Answer
  reverse : Place → SurfaceExpr → List SurfaceStmt → List Token → Answer
  group : SurfaceGroup → List Token → Answer
  groups : List SurfaceGroup → List Token → Answer
  result : Option SurfaceType → List Token → Answer
  procedure : SurfaceProcedure → List Token → Answer

-- what is read next, and what then
pub data Plan : Type 1 where
  Fail : Plan
  Return : Answer → Plan
  Goto : Want → List Token → Plan
  Call : Want → List Token → (Answer → Plan) → Plan
  AWord : Terminal → List Token → (Place → List Token → Plan) → Plan
  Name : List Token → (SurfaceName → List Token → Plan) → Plan
  Number : List Token → (Place → ℤ → List Token → Plan) → Plan
  Meant : {A : Type 0} → (Word → Option A) → List Token → (A → Place → List Token → Plan) → Plan
  Choose : Bool → Plan → Plan → Plan

-- ---- what an answer holds

abbrev pub as_names : (List SurfaceName → List Token → Plan) → Answer → Plan
as_names k (names x us) = k x us
as_names k _ = Fail

abbrev pub as_maybe_name : (Option SurfaceName → List Token → Plan) → Answer → Plan
as_maybe_name k (maybe_name x us) = k x us
as_maybe_name k _ = Fail

abbrev pub as_type : (SurfaceType → List Token → Plan) → Answer → Plan
as_type k (vtype x us) = k x us
as_type k _ = Fail

abbrev pub as_tree : (SurfaceExpr → List Token → Plan) → Answer → Plan
as_tree k (tree x us) = k x us
as_tree k _ = Fail

abbrev pub as_braces : (SurfaceExpr → Place → List Token → Plan) → Answer → Plan
as_braces k (braces x p us) = k x p us
as_braces k _ = Fail

abbrev pub as_range : (SurfaceName → Range → List Token → Plan) → Answer → Plan
as_range k (range x r us) = k x r us
as_range k _ = Fail

abbrev pub as_head : (SurfaceHead → SurfaceExpr → List Token → Plan) → Answer → Plan
as_head k (head x f us) = k x f us
as_head k _ = Fail

abbrev pub as_target : (SurfaceTarget → List Token → Plan) → Answer → Plan
as_target k (target x us) = k x us
as_target k _ = Fail

abbrev pub as_targets : (List SurfaceTarget → List Token → Plan) → Answer → Plan
as_targets k (targets x us) = k x us
as_targets k _ = Fail

abbrev pub as_values : (List SurfaceExpr → List Token → Plan) → Answer → Plan
as_values k (values x us) = k x us
as_values k _ = Fail

abbrev pub as_nothing : (List Token → Plan) → Answer → Plan
as_nothing k (nothing us) = k us
as_nothing k _ = Fail

abbrev pub as_search : (SurfaceName → SurfaceName → SurfaceName → SurfaceExpr → List Token → Plan) → Answer → Plan
as_search k (search_front x g r f us) = k x g r f us
as_search k _ = Fail

abbrev pub as_statement : (SurfaceStmt → List Token → Plan) → Answer → Plan
as_statement k (statement x us) = k x us
as_statement k _ = Fail

abbrev pub as_statements : (List SurfaceStmt → List Token → Plan) → Answer → Plan
as_statements k (statements x us) = k x us
as_statements k _ = Fail

abbrev pub as_reverse : (Place → SurfaceExpr → List SurfaceStmt → List Token → Plan) → Answer → Plan
as_reverse k (reverse p f ss us) = k p f ss us
as_reverse k _ = Fail

abbrev pub as_group : (SurfaceGroup → List Token → Plan) → Answer → Plan
as_group k (group x us) = k x us
as_group k _ = Fail

abbrev pub as_groups : (List SurfaceGroup → List Token → Plan) → Answer → Plan
as_groups k (groups x us) = k x us
as_groups k _ = Fail

abbrev pub as_result : (Option SurfaceType → List Token → Plan) → Answer → Plan
as_result k (result x us) = k x us
as_result k _ = Fail

-- ---- the plans

-- one word
abbrev pub expect : Word → List Token → (Place → List Token → Plan) → Plan
expect w us k = AWord (The w) us k

-- what an expression of a part is read as
abbrev pub want : Part → Want
want Disjunction = Row levels.Or
want Conjunction = Row levels.And
want Equality = Row levels.Equality
want Relation = Row levels.Relation
want Sum = Row levels.Sum
want Product = Row levels.Product
want Expression = Whole
want _ = Operand

abbrev pub type_by : TypeKind → List Token → Plan
type_by BareType us = Meant bare_type us (λ w p vs. Return (vtype (trees.Plain p w None) vs))
type_by ElementType us = Meant element_type us (λ w p vs. Call AnOf vs (as_maybe_name (λ g ws. Return (vtype (trees.Plain p w g) ws))))
type_by PropertyType us =
    Meant bearer_word us (λ b p vs. expect words.Less vs (λ q ws. Call AType ws (as_type (λ t xs. expect words.Greater xs (λ r ys. Call AnOf ys (as_maybe_name (λ g zs. Return (vtype (trees.Property p b t g) zs))))))))
type_by NoType us = Fail

abbrev pub member_by : Bool → SurfaceName → SurfaceName → List Token → Plan
member_by true x m us = expect words.LeftParen us (λ q vs. expect words.RightParen vs (λ r ws. Return (tree (trees.Method x m) ws)))
member_by false x m us = Return (tree (trees.Member x m) us)

abbrev pub parens_by : Option VType → Place → List Token → Plan
parens_by None p us = Call Whole us (as_tree (λ e vs. expect words.RightParen vs (λ q ws. Return (tree (trees.Paren p e) ws))))
parens_by (Some t) p us = Meant cast_type us (λ t q vs. expect words.RightParen vs (λ r ws. Call Operand ws (as_tree (λ e xs. Return (tree (trees.Prefixed p (prefixes.Cast t) e) xs)))))

abbrev pub operand_by : OperandKind → List Token → Plan
operand_by NumberFirst us = Number us (λ p n vs. Return (tree (trees.Number p n) vs))
operand_by TrueFirst us = expect words.True us (λ p vs. Return (tree (trees.Truth p true) vs))
operand_by FalseFirst us = expect words.False us (λ p vs. Return (tree (trees.Truth p false) vs))
operand_by NilFirst us = expect words.Nil us (λ p vs. Return (tree (trees.Nil p) vs))
operand_by InfFirst us = expect words.Inf us (λ p vs. Return (tree (trees.Greatest p) vs))
operand_by NameFirst us =
    Name us (λ x vs. Choose (sees (The words.Dot) vs) (expect words.Dot vs (λ p ws. Name ws (λ m xs. Choose (sees (The words.LeftParen) xs) (member_by true x m xs) (member_by false x m xs)))) (Return (tree (trees.Named x) vs)))
operand_by ParenFirst us = expect words.LeftParen us (λ p vs. parens_by (first cast_type None vs) p vs)
operand_by ValueFirst us = Meant value_reduction us (λ w p vs. Call AHead vs (as_head (λ h f ws. Call SomeBraces ws (as_braces (λ e q xs. Return (tree (trees.Reduction p w h f e q) xs))))))
operand_by TestFirst us =
    Meant test_reduction us (λ w p vs. Call AHead vs (as_head (λ h f ws. Choose (sees (The words.LeftBrace) ws) (Call SomeBraces ws (as_braces (λ e q xs. Return (tree (trees.Reduction p w h f e q) xs)))) (Return (tree (trees.Reduction p w h f trees.Always p) ws)))))
operand_by BangFirst us = expect words.Bang us (λ p vs. Call Operand vs (as_tree (λ e ws. Return (tree (trees.Prefixed p prefixes.Not e) ws))))
operand_by MinusFirst us =
    expect words.Minus us (λ p vs. Choose (sees (The words.Inf) vs) (expect words.Inf vs (λ q ws. Return (tree (trees.Least p) ws))) (Call Operand vs (as_tree (λ e ws. Return (tree (trees.Prefixed p prefixes.Minus e) ws)))))
operand_by PlusFirst us = expect words.Plus us (λ p vs. expect words.Inf vs (λ q ws. Return (tree (trees.Greatest p) ws)))
operand_by NoOperand us = Fail

-- a comparison does not go on
abbrev pub next_operands : Level → SurfaceExpr → List Token → Plan
next_operands levels.Relation e us = Return (tree e us)
next_operands l e us = Goto (MoreOperands l e) us

abbrev pub operands_by : Option Infix → Level → SurfaceExpr → List Token → Plan
operands_by None l a us = Return (tree a us)
operands_by (Some i) l a us = Meant (infix_of l) us (λ o p vs. Call (want (operand_of l)) vs (as_tree (λ b ws. next_operands l (trees.Infixed p o a b) ws)))

abbrev pub assign_by : AssignKind → SurfaceTarget → List Token → Plan
assign_by Assigns t us = expect words.Assign us (λ p vs. Call Whole vs (as_tree (λ e ws. expect words.Semicolon ws (λ q xs. Return (statement (trees.Assign t p e) xs)))))
assign_by Defers t us =
    expect words.LessEqual us (λ p vs. Call Whole vs (as_tree (λ e ws. Call AnAt ws (as_maybe_name (λ x xs. expect words.Semicolon xs (λ q ys. Return (statement (trees.Defer t p e x) ys)))))))
assign_by Reduces t us =
    Meant reduce_sign us (λ o p vs. Call Whole vs (as_tree (λ e ws. Call AnAt ws (as_maybe_name (λ x xs. expect words.Semicolon xs (λ q ys. Return (statement (trees.Combine (t ∷ []) o p (e ∷ []) x) ys)))))))
assign_by Counts t us = expect words.PlusPlus us (λ p vs. expect words.Semicolon vs (λ q ws. Return (statement (trees.Increment t p) ws)))

-- a declaration, after its type; whether the name is followed by `=` decides
abbrev pub declare_by : Bool → SurfaceType → List Token → Plan
declare_by true t us = Name us (λ n vs. expect words.Assign vs (λ p ws. Call Whole ws (as_tree (λ e xs. expect words.Semicolon xs (λ q ys. Return (statement (trees.DeclareAs t n p e) ys))))))
declare_by false t us = Call ANames us (as_names (λ ns vs. expect words.Semicolon vs (λ p ws. Return (statement (trees.Declare t ns) ws))))

abbrev pub statement_by : StatementKind → List Token → Plan
statement_by BlockFirst us = Call ABlock us (as_statements (λ ss vs. Return (statement (sequence ss) vs)))
statement_by EmptyFirst us = expect words.Semicolon us (λ p vs. Return (statement trees.Skip vs))
statement_by TypeFirst us = Call AType us (as_type (λ t vs. Choose (sees (The words.Assign) (after_first vs)) (declare_by true t vs) (declare_by false t vs)))
statement_by TargetFirst us = Call ATarget us (as_target (λ t vs. assign_by (first assign_kind Counts vs) t vs))
statement_by LoopFirst us = Meant loop_word us (λ o p vs. Call AHead vs (as_head (λ h f ws. Call AStatement ws (as_statement (λ s xs. Return (statement (trees.Loop p o h f s) xs))))))
statement_by IfFirst us =
    expect words.If us (λ p vs. Call ACondition vs (as_tree (λ e ws. Call AStatement ws (as_statement (λ s xs. Choose (sees (The words.Else) xs) (expect words.Else xs (λ q ys. Call AStatement ys (as_statement (λ t zs. Return (statement (trees.If p e s t) zs))))) (Return (statement (trees.If p e s trees.Skip) xs)))))))
statement_by WhileFirst us = expect words.While us (λ p vs. Call ACondition vs (as_tree (λ e ws. Call AStatement ws (as_statement (λ s xs. Return (statement (trees.While p e s) xs))))))
statement_by DoFirst us =
    expect words.Do us (λ p vs. Call ABlock vs (as_statements (λ ss ws. expect words.While ws (λ q xs. Call ACondition xs (as_tree (λ e ys. expect words.Semicolon ys (λ r zs. Return (statement (trees.Do p (sequence ss) e) zs))))))))
statement_by SearchFirst us =
    expect words.InBFS us (λ p vs. Call ASearch vs (as_search (λ x g r f ws. Call ABlock ws (as_statements (λ ss xs. Choose (sees (The words.InReverse) xs) (Call AReverse xs (as_reverse (λ q h ts ys. Return (statement (trees.InBfsBoth p x g r f (sequence ss) q h (sequence ts)) ys)))) (Return (statement (trees.InBfs p x g r f (sequence ss)) xs)))))))
statement_by TupleFirst us =
    expect words.Less us (λ p vs. Call SomeTargets vs (as_targets (λ ts ws. expect words.Greater ws (λ q xs. Meant argument_operation xs (λ o r ys. expect words.Less ys (λ s zs. Call SomeValues zs (as_values (λ es bs. expect words.Greater bs (λ t cs. Call AnAt cs (as_maybe_name (λ x ds. expect words.Semicolon ds (λ u fs. Return (statement (trees.Combine ts o r es x) fs)))))))))))))
statement_by ReturnFirst us =
    expect words.Return us (λ p vs. Choose (sees (The words.Semicolon) vs) (expect words.Semicolon vs (λ q ws. Return (statement (trees.Return p None) ws))) (Call Whole vs (as_tree (λ e ws. expect words.Semicolon ws (λ q xs. Return (statement (trees.Return p (Some e)) xs))))))
statement_by NoStatement us = Fail

-- how a want is read
abbrev pub step : Want → List Token → Plan
step ANames us = Name us (λ x vs. Goto (MoreNames (x ∷ [])) vs)
step (MoreNames xs) us = Choose (sees (The words.Comma) us) (expect words.Comma us (λ p vs. Name vs (λ x ws. Goto (MoreNames (xs ++ x ∷ [])) ws))) (Return (names xs us))
step AnOf us = Choose (sees (The words.LeftParen) us) (expect words.LeftParen us (λ p vs. Name vs (λ x ws. expect words.RightParen ws (λ q xs. Return (maybe_name (Some x) xs))))) (Return (maybe_name None us))
step AType us = type_by (first type_kind NoType us) us
step Operand us = operand_by (first operand_kind NoOperand us) us
step (Row l) us = Call (want (operand_of l)) us (as_tree (λ a vs. Goto (MoreOperands l a) vs))
step (MoreOperands l a) us = operands_by (first (infix_of l) None us) l a us
step Whole us =
    Call (Row levels.Or) us (as_tree (λ c vs. Choose (sees (The words.Question) vs) (expect words.Question vs (λ p ws. Call Whole ws (as_tree (λ a xs. expect words.Colon xs (λ q ys. Call Whole ys (as_tree (λ b zs. Return (tree (trees.Choose p c a b) zs)))))))) (Return (tree c vs))))
step ACondition us = expect words.LeftParen us (λ p vs. Call Whole vs (as_tree (λ e ws. expect words.RightParen ws (λ q xs. Return (tree e xs)))))
step AFilter us = Choose (sees (The words.LeftParen) us) (Goto ACondition us) (Return (tree trees.Always us))
step SomeBraces us = expect words.LeftBrace us (λ p vs. Call Whole vs (as_tree (λ e ws. expect words.RightBrace ws (λ q xs. Return (braces e q xs)))))
step ARange us = Name us (λ g vs. expect words.Dot vs (λ p ws. Meant range_word ws (λ r q xs. Return (range g r xs))))
step AHead us =
    expect words.LeftParen us (λ p vs. Name vs (λ x ws. expect words.Colon ws (λ q xs. Call ARange xs (as_range (λ g r ys. expect words.RightParen ys (λ s zs. Call AFilter zs (as_tree (λ f bs. Return (head (record { iterator = x; owner = g; range = r }) f bs)))))))))
step ATarget us =
    Name us (λ x vs. Choose (sees (The words.Dot) vs) (expect words.Dot vs (λ p ws. Name ws (λ m xs. Return (target (record { owner = x; property = Some m }) xs)))) (Return (target (record { owner = x; property = None }) vs)))
step SomeTargets us = Call ATarget us (as_target (λ a vs. expect words.Semicolon vs (λ p ws. Call ATarget ws (as_target (λ b xs. Goto (MoreTargets (a ∷ b ∷ [])) xs)))))
step (MoreTargets ts) us = Choose (sees (The words.Comma) us) (expect words.Comma us (λ p vs. Call ATarget vs (as_target (λ a ws. Goto (MoreTargets (ts ++ a ∷ [])) ws)))) (Return (targets ts us))
step SomeValues us = Call (Row levels.Sum) us (as_tree (λ a vs. expect words.Semicolon vs (λ p ws. Call (Row levels.Sum) ws (as_tree (λ b xs. Goto (MoreValues (a ∷ b ∷ [])) xs)))))
step (MoreValues es) us = Choose (sees (The words.Comma) us) (expect words.Comma us (λ p vs. Call (Row levels.Sum) vs (as_tree (λ a ws. Goto (MoreValues (es ++ a ∷ [])) ws)))) (Return (values es us))
step AnAt us = Choose (sees (The words.At) us) (expect words.At us (λ p vs. Name vs (λ x ws. Return (maybe_name (Some x) ws)))) (Return (maybe_name None us))
step AFrom us = Choose (sees (The words.From) us) (expect words.From us (λ p vs. Return (nothing vs))) (expect words.Semicolon us (λ p vs. Return (nothing vs)))
step ASearch us =
    expect words.LeftParen us (λ p vs. Name vs (λ x ws. expect words.Colon ws (λ q xs. Name xs (λ g ys. expect words.Dot ys (λ s zs. expect words.Nodes zs (λ t bs. Call AFrom bs (as_nothing (λ cs. Name cs (λ r ds. expect words.RightParen ds (λ u es. Call AFilter es (as_tree (λ f fs. Return (search_front x g r f fs)))))))))))))
step AStatement us = statement_by (first statement_kind NoStatement us) us
step (MoreStatements ss) us = Choose (begins_statement us) (Call AStatement us (as_statement (λ s vs. Goto (MoreStatements (ss ++ s ∷ [])) vs))) (Return (statements ss us))
step ABlock us = expect words.LeftBrace us (λ p vs. Call (MoreStatements []) vs (as_statements (λ ss ws. expect words.RightBrace ws (λ q xs. Return (statements ss xs)))))
step AReverse us = expect words.InReverse us (λ p vs. Call AFilter vs (as_tree (λ f ws. Call ABlock ws (as_statements (λ ss xs. Return (reverse p f ss xs))))))
step AGroup us = Call ANames us (as_names (λ ns vs. expect words.Colon vs (λ p ws. Call AType ws (as_type (λ t xs. Return (group (record { names = ns; vtype = t }) xs))))))
step SomeGroups us = Call AGroup us (as_group (λ g vs. Goto (MoreGroups (g ∷ [])) vs))
step (MoreGroups gs) us = Choose (sees (The words.Comma) us) (expect words.Comma us (λ p vs. Call AGroup vs (as_group (λ g ws. Goto (MoreGroups (gs ++ g ∷ [])) ws)))) (Return (groups gs us))
step SomeParameters us = Choose (sees AnyName us) (Goto SomeGroups us) (Return (groups [] us))
step SomeOutputs us = Choose (sees (The words.Semicolon) us) (expect words.Semicolon us (λ p vs. Goto SomeParameters vs)) (Return (groups [] us))
step AResult us = Choose (sees (The words.Colon) us) (expect words.Colon us (λ p vs. Call AType vs (as_type (λ t ws. Return (result (Some t) ws))))) (Return (result None us))
step AProcedure us =
    Meant procedure_word us (λ w p vs. Name vs (λ n ws. expect words.LeftParen ws (λ q xs. Call SomeParameters xs (as_groups (λ ins ys. Call SomeOutputs ys (as_groups (λ outs zs. expect words.RightParen zs (λ u bs. Call AResult bs (as_result (λ r cs. Call ABlock cs (as_statements (λ ss ds. Return (procedure (record { name = n; inputs = ins; outputs = outs; result = r; body = sequence ss }) ds)))))))))))))

-- the plan comes to this answer
pub data Runs : Plan → Answer → Type 1 where
  return : {x : Answer} → Runs (Return x) x
  goto : {w : Want} {us : List Token} {y : Answer} → Runs (step w us) y → Runs (Goto w us) y
  call : {w : Want} {us : List Token} {k : Answer → Plan} {x y : Answer} → Runs (step w us) x → Runs (k x) y → Runs (Call w us k) y
  word : {t : Terminal} {us vs : List Token} {p : Place} {k : Place → List Token → Plan} {y : Answer} → ReadsWord t us p vs → Runs (k p vs) y → Runs (AWord t us k) y
  name : {us vs : List Token} {x : SurfaceName} {k : SurfaceName → List Token → Plan} {y : Answer} → ReadsName us x vs → Runs (k x vs) y → Runs (Name us k) y
  number : {us vs : List Token} {p : Place} {n : ℤ} {k : Place → ℤ → List Token → Plan} {y : Answer} → ReadsNumber us p n vs → Runs (k p n vs) y → Runs (Number us k) y
  meant : {A : Type 0} {m : Word → Option A} {us vs : List Token} {x : A} {p : Place} {k : A → Place → List Token → Plan} {y : Answer} → ReadsAs m us x p vs → Runs (k x p vs) y → Runs (Meant m us k) y
  yes_so : {b : Bool} {p q : Plan} {y : Answer} → b ≡ true → Runs p y → Runs (Choose b p q) y
  not_so : {b : Bool} {p q : Plan} {y : Answer} → b ≡ false → Runs q y → Runs (Choose b p q) y

-- ---- a plan has one answer

not_both : {A : Type 0} {b : Bool} → b ≡ true → b ≡ false → A
not_both e f = absurd (both e f)
  where
    both : {b : Bool} → b ≡ true → b ≡ false → ⊥
    both e f = cc

same_meaning : {A : Type 0} {a b : A} {o : Option A} → o ≡ Some b → o ≡ Some a → b ≡ a
same_meaning e g = cc

pub one : {p : Plan} {x y : Answer} → Runs p x → Runs p y → x ≡ y
one Runs.return Runs.return = refl
one (Runs.goto r) (Runs.goto s) = one r s
one {y = y} (Runs.call {k = k} c r) (Runs.call d s) = one r (subst (λ (z : Answer). Runs (k z) y) (sym (one c d)) s)
one (Runs.word (ReadsWord.word e) r) (Runs.word (ReadsWord.word g) s) = one r s
one (Runs.name (ReadsName.name e) r) (Runs.name (ReadsName.name g) s) = one r s
one (Runs.number (ReadsNumber.number e) r) (Runs.number (ReadsNumber.number g) s) = one r s
one {y = y} (Runs.meant {A = A} {k = k} (ReadsAs.word {t} {us} e) r) (Runs.meant (ReadsAs.word g) s) = one r (subst (λ (c : A). Runs (k c t.place us) y) (same_meaning g e) s)
one (Runs.yes_so e r) (Runs.yes_so g s) = one r s
one (Runs.not_so e r) (Runs.not_so g s) = one r s
one (Runs.yes_so e r) (Runs.not_so g s) = not_both e g
one (Runs.not_so e r) (Runs.yes_so g s) = not_both g e

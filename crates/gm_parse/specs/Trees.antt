-- Which tree a text spells: one case for each form. A tree is read from where these tokens are left to where
-- those are left.
use Rattle.std.specs.Prelude.{◌≡◌, ◌≢◌, ℤ, pos, true, false, List, [], ◌∷◌, ◌++◌, Option, Some, None}
use Rattle.gm_base.specs.declared.places.Place.{Place}
use Rattle.gm_token.specs.declared.words.Word.{Word}
use Rattle.gm_token.specs.declared.words.Word.TheVariants as words
use Rattle.gm_token.specs.Tokens.{Token}
use Rattle.gm_token.specs.Spellings.{decimal_value}
use Rattle.gm_value.specs.declared.reductions.Reduce.{Reduce}
use Rattle.gm_value.specs.declared.values.VType.{VType}
use Rattle.gm_ast.specs.declared.surface.TypeWord.{TypeWord}
use Rattle.gm_ast.specs.declared.surface.Bearer.{Bearer}
use Rattle.gm_ast.specs.declared.surface.Infix.{Infix}
use Rattle.gm_ast.specs.declared.surface.Prefix.TheVariants as prefixes
use Rattle.gm_ast.specs.declared.surface.Range.{Range}
use Rattle.gm_ast.specs.declared.surface.ReductionWord.{ReductionWord}
use Rattle.gm_ast.specs.declared.surface.LoopWord.{LoopWord}
use Rattle.gm_ast.specs.Surface.{SurfaceName, SurfaceType, SurfaceHead, SurfaceTarget, SurfaceExpr, SurfaceStmt, SurfaceGroup, SurfaceProcedure, sequence}
use Rattle.gm_ast.specs.Surface as trees
use Rattle.gm_parse.specs.declared.levels.Level.{Level}
use Rattle.gm_parse.specs.declared.levels.Level.TheVariants as levels
use Rattle.gm_parse.specs.Terminals.{Terminal, The, AnyName, fits}
use Rattle.gm_parse.specs.Grammar.{Part, Expression, Disjunction, Relation, Sum, Unary, Primary}
use Rattle.gm_parse.specs.Levels.{part_of, operand_of}
use Rattle.gm_parse.specs.Choices.{procedure_word, bare_type, element_type, bearer_word, cast_type, range_word, loop_word, value_reduction, test_reduction, reduce_sign, argument_operation, infix_of}

-- ---- single tokens

-- one token is read, at this place
pub data ReadsWord (k : Terminal) : List Token → Place → List Token → Type 0 where
  word : {t : Token} {us : List Token} → fits k t.word ≡ true → ReadsWord k (t ∷ us) t.place us

abbrev pub Reads : Word → List Token → Place → List Token → Type 0
Reads w = ReadsWord (The w)

-- one token is read that stands for something
pub data ReadsAs {A : Type 0} (meaning : Word → Option A) : List Token → A → Place → List Token → Type 0 where
  word : {t : Token} {us : List Token} {x : A} → meaning t.word ≡ Some x → ReadsAs meaning (t ∷ us) x t.place us

-- a name, be it the word of a range
pub data ReadsName : List Token → SurfaceName → List Token → Type 0 where
  name : {t : Token} {us : List Token} → fits AnyName t.word ≡ true → ReadsName (t ∷ us) (record { text = t.text; place = t.place }) us

-- a number, and what its digits say
pub data ReadsNumber : List Token → Place → ℤ → List Token → Type 0 where
  number : {t : Token} {us : List Token} → fits (The words.Number) t.word ≡ true → ReadsNumber (t ∷ us) t.place (pos (decimal_value t.text)) us

-- the next token is not this one
abbrev pub ComesOtherwise : Terminal → List Token → Type 0
ComesOtherwise k [] = Unit {0}
ComesOtherwise k (t ∷ us) = fits k t.word ≡ false

-- names with commas between them
pub data ReadsNames : List Token → List SurfaceName → List Token → Type 0 where
  one : {us vs : List Token} {x : SurfaceName} → ReadsName us x vs → ReadsNames us (x ∷ []) vs
  more : {us vs ws zs : List Token} {xs : List SurfaceName} {x : SurfaceName} {p : Place}
      → ReadsNames us xs vs → Reads words.Comma vs p ws → ReadsName ws x zs → ReadsNames us (xs ++ x ∷ []) zs

-- ---- types

-- the name of a graph in parentheses
pub data ReadsOf : List Token → Option SurfaceName → List Token → Type 0 where
  absent : {us : List Token} → ReadsOf us None us
  present : {us vs ws zs : List Token} {x : SurfaceName} {p q : Place}
      → Reads words.LeftParen us p vs → ReadsName vs x ws → Reads words.RightParen ws q zs → ReadsOf us (Some x) zs

pub data ReadsType : List Token → SurfaceType → List Token → Type 0 where
  bare : {us vs : List Token} {w : TypeWord} {p : Place} → ReadsAs bare_type us w p vs → ReadsType us (trees.Plain p w None) vs
  element : {us vs ws : List Token} {w : TypeWord} {p : Place} {g : Option SurfaceName}
      → ReadsAs element_type us w p vs → ReadsOf vs g ws → ReadsType us (trees.Plain p w g) ws
  property : {us vs ws xs ys zs : List Token} {b : Bearer} {p q r : Place} {t : SurfaceType} {g : Option SurfaceName}
      → ReadsAs bearer_word us b p vs → Reads words.Less vs q ws → ReadsType ws t xs → Reads words.Greater xs r ys → ReadsOf ys g zs
      → ReadsType us (trees.Property p b t g) zs

-- ---- expressions

mutual
  -- The part of the grammar says at which level of operators the expression is read.
  pub data ReadsTree : Part → List Token → SurfaceExpr → List Token → Type 0 where
    number : {us vs : List Token} {p : Place} {n : ℤ} → ReadsNumber us p n vs → ReadsTree Primary us (trees.Number p n) vs
    truth : {us vs : List Token} {p : Place} → Reads words.True us p vs → ReadsTree Primary us (trees.Truth p true) vs
    falsehood : {us vs : List Token} {p : Place} → Reads words.False us p vs → ReadsTree Primary us (trees.Truth p false) vs
    nil : {us vs : List Token} {p : Place} → Reads words.Nil us p vs → ReadsTree Primary us (trees.Nil p) vs
    greatest : {us vs : List Token} {p : Place} → Reads words.Inf us p vs → ReadsTree Primary us (trees.Greatest p) vs
    named : {us vs : List Token} {x : SurfaceName} → ReadsName us x vs → ReadsTree Primary us (trees.Named x) vs
    member : {us vs ws xs : List Token} {x m : SurfaceName} {p : Place}
        → ReadsName us x vs → Reads words.Dot vs p ws → ReadsName ws m xs → ReadsTree Primary us (trees.Member x m) xs
    method : {us vs ws xs ys zs : List Token} {x m : SurfaceName} {p q r : Place}
        → ReadsName us x vs → Reads words.Dot vs p ws → ReadsName ws m xs → Reads words.LeftParen xs q ys → Reads words.RightParen ys r zs
        → ReadsTree Primary us (trees.Method x m) zs
    parentheses : {us vs ws xs : List Token} {e : SurfaceExpr} {p q : Place}
        → Reads words.LeftParen us p vs → ReadsTree Expression vs e ws → Reads words.RightParen ws q xs → ReadsTree Primary us (trees.Paren p e) xs
    reduction : {us vs ws xs : List Token} {w : ReductionWord} {h : SurfaceHead} {f e : SurfaceExpr} {p q : Place}
        → ReadsAs value_reduction us w p vs → ReadsHead vs h f ws → ReadsBraces ws e q xs → ReadsTree Primary us (trees.Reduction p w h f e q) xs
    test : {us vs ws xs : List Token} {w : ReductionWord} {h : SurfaceHead} {f e : SurfaceExpr} {p q : Place}
        → ReadsAs test_reduction us w p vs → ReadsHead vs h f ws → ReadsBraces ws e q xs → ReadsTree Primary us (trees.Reduction p w h f e q) xs
    bare_test : {us vs ws : List Token} {w : ReductionWord} {h : SurfaceHead} {f : SurfaceExpr} {p : Place}
        → ReadsAs test_reduction us w p vs → ReadsHead vs h f ws → ReadsTree Primary us (trees.Reduction p w h f trees.Always p) ws
    primary : {us vs : List Token} {e : SurfaceExpr} → ReadsTree Primary us e vs → ReadsTree Unary us e vs
    negation : {us vs ws : List Token} {e : SurfaceExpr} {p : Place}
        → Reads words.Bang us p vs → ReadsTree Unary vs e ws → ReadsTree Unary us (trees.Prefixed p prefixes.Not e) ws
    minus : {us vs ws : List Token} {e : SurfaceExpr} {p : Place}
        → Reads words.Minus us p vs → ComesOtherwise (The words.Inf) vs → ReadsTree Unary vs e ws → ReadsTree Unary us (trees.Prefixed p prefixes.Minus e) ws
    least : {us vs ws : List Token} {p q : Place} → Reads words.Minus us p vs → Reads words.Inf vs q ws → ReadsTree Unary us (trees.Least p) ws
    plus : {us vs ws : List Token} {p q : Place} → Reads words.Plus us p vs → Reads words.Inf vs q ws → ReadsTree Unary us (trees.Greatest p) ws
    cast : {us vs ws xs ys : List Token} {t : VType} {e : SurfaceExpr} {p q r : Place}
        → Reads words.LeftParen us p vs → ReadsAs cast_type vs t q ws → Reads words.RightParen ws r xs → ReadsTree Unary xs e ys
        → ReadsTree Unary us (trees.Prefixed p (prefixes.Cast t) e) ys
    operand : {us vs : List Token} {e : SurfaceExpr} (l : Level) → ReadsTree (operand_of l) us e vs → ReadsTree (part_of l) us e vs
    row : {us vs ws xs : List Token} {a b : SurfaceExpr} {p : Place} {o : Infix} (l : Level) → l ≢ levels.Relation
        → ReadsTree (part_of l) us a vs → ReadsAs (infix_of l) vs o p ws → ReadsTree (operand_of l) ws b xs
        → ReadsTree (part_of l) us (trees.Infixed p o a b) xs
    comparison : {us vs ws xs : List Token} {a b : SurfaceExpr} {p : Place} {o : Infix}
        → ReadsTree (operand_of levels.Relation) us a vs → ReadsAs (infix_of levels.Relation) vs o p ws → ReadsTree (operand_of levels.Relation) ws b xs
        → ReadsTree Relation us (trees.Infixed p o a b) xs
    no_choice : {us vs : List Token} {e : SurfaceExpr} → ReadsTree Disjunction us e vs → ReadsTree Expression us e vs
    choice : {us vs ws xs ys zs : List Token} {c a b : SurfaceExpr} {p q : Place}
        → ReadsTree Disjunction us c vs → Reads words.Question vs p ws → ReadsTree Expression ws a xs → Reads words.Colon xs q ys → ReadsTree Expression ys b zs
        → ReadsTree Expression us (trees.Choose p c a b) zs

  -- a condition in parentheses
  pub data ReadsCondition : List Token → SurfaceExpr → List Token → Type 0 where
    condition : {us vs ws xs : List Token} {e : SurfaceExpr} {p q : Place}
        → Reads words.LeftParen us p vs → ReadsTree Expression vs e ws → Reads words.RightParen ws q xs → ReadsCondition us e xs

  -- a filter; one that is absent always holds
  pub data ReadsFilter : List Token → SurfaceExpr → List Token → Type 0 where
    absent : {us : List Token} → ReadsFilter us trees.Always us
    present : {us vs : List Token} {e : SurfaceExpr} → ReadsCondition us e vs → ReadsFilter us e vs

  -- an expression in braces, with the place of the closing one
  pub data ReadsBraces : List Token → SurfaceExpr → Place → List Token → Type 0 where
    braces : {us vs ws xs : List Token} {e : SurfaceExpr} {p q : Place}
        → Reads words.LeftBrace us p vs → ReadsTree Expression vs e ws → Reads words.RightBrace ws q xs → ReadsBraces us e q xs

  -- what of a node or of the graph
  pub data ReadsRange : List Token → SurfaceName → Range → List Token → Type 0 where
    range : {us vs ws xs : List Token} {g : SurfaceName} {r : Range} {p q : Place}
        → ReadsName us g vs → Reads words.Dot vs p ws → ReadsAs range_word ws r q xs → ReadsRange us g r xs

  -- `iterator : owner.range` in parentheses, and a filter
  pub data ReadsHead : List Token → SurfaceHead → SurfaceExpr → List Token → Type 0 where
    head : {us vs ws xs ys zs bs : List Token} {x g : SurfaceName} {r : Range} {f : SurfaceExpr} {p q s : Place}
        → Reads words.LeftParen us p vs → ReadsName vs x ws → Reads words.Colon ws q xs → ReadsRange xs g r ys
        → Reads words.RightParen ys s zs → ReadsFilter zs f bs
        → ReadsHead us (record { iterator = x; owner = g; range = r }) f bs

-- ---- statements

pub data ReadsTarget : List Token → SurfaceTarget → List Token → Type 0 where
  name : {us vs : List Token} {x : SurfaceName} → ReadsName us x vs → ReadsTarget us (record { owner = x; property = None }) vs
  property : {us vs ws xs : List Token} {x m : SurfaceName} {p : Place}
      → ReadsName us x vs → Reads words.Dot vs p ws → ReadsName ws m xs → ReadsTarget us (record { owner = x; property = Some m }) xs

-- two or more, each read so: the first, a semicolon, and the others with commas between them
pub data ReadsEntries {A : Type 0} (ReadsOne : List Token → A → List Token → Type 0) : List Token → List A → List Token → Type 0 where
  two : {us vs ws xs : List Token} {a b : A} {p : Place}
      → ReadsOne us a vs → Reads words.Semicolon vs p ws → ReadsOne ws b xs → ReadsEntries ReadsOne us (a ∷ b ∷ []) xs
  more : {us vs ws xs : List Token} {es : List A} {a : A} {p : Place}
      → ReadsEntries ReadsOne us es vs → Reads words.Comma vs p ws → ReadsOne ws a xs → ReadsEntries ReadsOne us (es ++ a ∷ []) xs

-- such a row in angle brackets
pub data ReadsTuple {A : Type 0} (ReadsOne : List Token → A → List Token → Type 0) : List Token → List A → List Token → Type 0 where
  tuple : {us vs ws xs : List Token} {es : List A} {p q : Place}
      → Reads words.Less us p vs → ReadsEntries ReadsOne vs es ws → Reads words.Greater ws q xs → ReadsTuple ReadsOne us es xs

-- `@` and the name of an iterator
pub data ReadsAt : List Token → Option SurfaceName → List Token → Type 0 where
  absent : {us : List Token} → ReadsAt us None us
  present : {us vs ws : List Token} {x : SurfaceName} {p : Place} → Reads words.At us p vs → ReadsName vs x ws → ReadsAt us (Some x) ws

-- `From` or `;` before the root of a search
pub data ReadsFrom : List Token → List Token → Type 0 where
  from : {us vs : List Token} {p : Place} → Reads words.From us p vs → ReadsFrom us vs
  semicolon : {us vs : List Token} {p : Place} → Reads words.Semicolon us p vs → ReadsFrom us vs

-- the front of a search: iterator, graph and root, and a filter
pub data ReadsSearch : List Token → SurfaceName → SurfaceName → SurfaceName → SurfaceExpr → List Token → Type 0 where
  front : {us vs ws xs ys zs bs cs ds es fs : List Token} {x g r : SurfaceName} {f : SurfaceExpr} {p q s t u : Place}
      → Reads words.LeftParen us p vs → ReadsName vs x ws → Reads words.Colon ws q xs → ReadsName xs g ys → Reads words.Dot ys s zs
      → Reads words.Nodes zs t bs → ReadsFrom bs cs → ReadsName cs r ds → Reads words.RightParen ds u es → ReadsFilter es f fs
      → ReadsSearch us x g r f fs

mutual
  pub data ReadsStmt : List Token → SurfaceStmt → List Token → Type 0 where
    block : {us vs : List Token} {ss : List SurfaceStmt} → ReadsBlock us ss vs → ReadsStmt us (sequence ss) vs
    empty : {us vs : List Token} {p : Place} → Reads words.Semicolon us p vs → ReadsStmt us trees.Skip vs
    declare : {us vs ws xs : List Token} {t : SurfaceType} {ns : List SurfaceName} {p : Place}
        → ReadsType us t vs → ReadsNames vs ns ws → Reads words.Semicolon ws p xs → ReadsStmt us (trees.Declare t ns) xs
    declare_as : {us vs ws xs ys zs : List Token} {t : SurfaceType} {n : SurfaceName} {e : SurfaceExpr} {p q : Place}
        → ReadsType us t vs → ReadsName vs n ws → Reads words.Assign ws p xs → ReadsTree Expression xs e ys → Reads words.Semicolon ys q zs
        → ReadsStmt us (trees.DeclareAs t n p e) zs
    assign : {us vs ws xs ys : List Token} {t : SurfaceTarget} {e : SurfaceExpr} {p q : Place}
        → ReadsTarget us t vs → Reads words.Assign vs p ws → ReadsTree Expression ws e xs → Reads words.Semicolon xs q ys → ReadsStmt us (trees.Assign t p e) ys
    defer : {us vs ws xs ys zs : List Token} {t : SurfaceTarget} {e : SurfaceExpr} {x : Option SurfaceName} {p q : Place}
        → ReadsTarget us t vs → Reads words.LessEqual vs p ws → ReadsTree Expression ws e xs → ReadsAt xs x ys → Reads words.Semicolon ys q zs
        → ReadsStmt us (trees.Defer t p e x) zs
    reduce : {us vs ws xs ys zs : List Token} {t : SurfaceTarget} {o : Reduce} {e : SurfaceExpr} {x : Option SurfaceName} {p q : Place}
        → ReadsTarget us t vs → ReadsAs reduce_sign vs o p ws → ReadsTree Expression ws e xs → ReadsAt xs x ys → Reads words.Semicolon ys q zs
        → ReadsStmt us (trees.Combine (t ∷ []) o p (e ∷ []) x) zs
    reduce_tuple : {us vs ws xs ys zs : List Token} {ts : List SurfaceTarget} {o : Reduce} {es : List SurfaceExpr} {x : Option SurfaceName} {p q : Place}
        → ReadsTuple ReadsTarget us ts vs → ReadsAs argument_operation vs o p ws → ReadsTuple (ReadsTree Sum) ws es xs → ReadsAt xs x ys → Reads words.Semicolon ys q zs
        → ReadsStmt us (trees.Combine ts o p es x) zs
    increment : {us vs ws xs : List Token} {t : SurfaceTarget} {p q : Place}
        → ReadsTarget us t vs → Reads words.PlusPlus vs p ws → Reads words.Semicolon ws q xs → ReadsStmt us (trees.Increment t p) xs
    loop : {us vs ws xs : List Token} {o : LoopWord} {h : SurfaceHead} {f : SurfaceExpr} {s : SurfaceStmt} {p : Place}
        → ReadsAs loop_word us o p vs → ReadsHead vs h f ws → ReadsStmt ws s xs → ReadsStmt us (trees.Loop p o h f s) xs
    if_then : {us vs ws xs : List Token} {e : SurfaceExpr} {s : SurfaceStmt} {p : Place}
        → Reads words.If us p vs → ReadsCondition vs e ws → ReadsStmt ws s xs → ComesOtherwise (The words.Else) xs → ReadsStmt us (trees.If p e s trees.Skip) xs
    if_else : {us vs ws xs ys zs : List Token} {e : SurfaceExpr} {s t : SurfaceStmt} {p q : Place}
        → Reads words.If us p vs → ReadsCondition vs e ws → ReadsStmt ws s xs → Reads words.Else xs q ys → ReadsStmt ys t zs → ReadsStmt us (trees.If p e s t) zs
    while : {us vs ws xs : List Token} {e : SurfaceExpr} {s : SurfaceStmt} {p : Place}
        → Reads words.While us p vs → ReadsCondition vs e ws → ReadsStmt ws s xs → ReadsStmt us (trees.While p e s) xs
    do_while : {us vs ws xs ys zs : List Token} {e : SurfaceExpr} {ss : List SurfaceStmt} {p q r : Place}
        → Reads words.Do us p vs → ReadsBlock vs ss ws → Reads words.While ws q xs → ReadsCondition xs e ys → Reads words.Semicolon ys r zs
        → ReadsStmt us (trees.Do p (sequence ss) e) zs
    breadth : {us vs ws xs : List Token} {x g r : SurfaceName} {f : SurfaceExpr} {ss : List SurfaceStmt} {p : Place}
        → Reads words.InBFS us p vs → ReadsSearch vs x g r f ws → ReadsBlock ws ss xs → ComesOtherwise (The words.InReverse) xs
        → ReadsStmt us (trees.InBfs p x g r f (sequence ss)) xs
    breadth_both : {us vs ws xs ys : List Token} {x g r : SurfaceName} {f h : SurfaceExpr} {ss ts : List SurfaceStmt} {p q : Place}
        → Reads words.InBFS us p vs → ReadsSearch vs x g r f ws → ReadsBlock ws ss xs → ReadsReverse xs q h ts ys
        → ReadsStmt us (trees.InBfsBoth p x g r f (sequence ss) q h (sequence ts)) ys
    return_nothing : {us vs ws : List Token} {p q : Place} → Reads words.Return us p vs → Reads words.Semicolon vs q ws → ReadsStmt us (trees.Return p None) ws
    return_value : {us vs ws xs : List Token} {e : SurfaceExpr} {p q : Place}
        → Reads words.Return us p vs → ReadsTree Expression vs e ws → Reads words.Semicolon ws q xs → ReadsStmt us (trees.Return p (Some e)) xs

  pub data ReadsMany : List Token → List SurfaceStmt → List Token → Type 0 where
    none : {us : List Token} → ReadsMany us [] us
    more : {us vs ws : List Token} {ss : List SurfaceStmt} {s : SurfaceStmt} → ReadsMany us ss vs → ReadsStmt vs s ws → ReadsMany us (ss ++ s ∷ []) ws

  pub data ReadsBlock : List Token → List SurfaceStmt → List Token → Type 0 where
    braces : {us vs ws xs : List Token} {ss : List SurfaceStmt} {p q : Place}
        → Reads words.LeftBrace us p vs → ReadsMany vs ss ws → Reads words.RightBrace ws q xs → ReadsBlock us ss xs

  -- the part of a search after `InReverse`
  pub data ReadsReverse : List Token → Place → SurfaceExpr → List SurfaceStmt → List Token → Type 0 where
    reverse : {us vs ws xs : List Token} {f : SurfaceExpr} {ss : List SurfaceStmt} {p : Place}
        → Reads words.InReverse us p vs → ReadsFilter vs f ws → ReadsBlock ws ss xs → ReadsReverse us p f ss xs

-- ---- procedures

-- names of one type
pub data ReadsGroup : List Token → SurfaceGroup → List Token → Type 0 where
  group : {us vs ws xs : List Token} {ns : List SurfaceName} {t : SurfaceType} {p : Place}
      → ReadsNames us ns vs → Reads words.Colon vs p ws → ReadsType ws t xs → ReadsGroup us (record { names = ns; vtype = t }) xs

-- groups of parameters with commas between them
pub data ReadsGroups : List Token → List SurfaceGroup → List Token → Type 0 where
  one : {us vs : List Token} {g : SurfaceGroup} → ReadsGroup us g vs → ReadsGroups us (g ∷ []) vs
  more : {us vs ws zs : List Token} {gs : List SurfaceGroup} {g : SurfaceGroup} {p : Place}
      → ReadsGroups us gs vs → Reads words.Comma vs p ws → ReadsGroup ws g zs → ReadsGroups us (gs ++ g ∷ []) zs

-- parameters that may be absent
pub data ReadsParameters : List Token → List SurfaceGroup → List Token → Type 0 where
  absent : {us : List Token} → ReadsParameters us [] us
  present : {us vs : List Token} {gs : List SurfaceGroup} → ReadsGroups us gs vs → ReadsParameters us gs vs

-- `;` and parameters, which may be absent
pub data ReadsOutputs : List Token → List SurfaceGroup → List Token → Type 0 where
  absent : {us : List Token} → ReadsOutputs us [] us
  present : {us vs ws : List Token} {gs : List SurfaceGroup} {p : Place} → Reads words.Semicolon us p vs → ReadsParameters vs gs ws → ReadsOutputs us gs ws

-- `:` and a type, which may be absent
pub data ReadsResult : List Token → Option SurfaceType → List Token → Type 0 where
  absent : {us : List Token} → ReadsResult us None us
  present : {us vs ws : List Token} {t : SurfaceType} {p : Place} → Reads words.Colon us p vs → ReadsType vs t ws → ReadsResult us (Some t) ws

pub data ReadsProcedure : List Token → SurfaceProcedure → List Token → Type 0 where
  procedure : {us vs ws xs ys zs bs cs ds : List Token} {w : Word} {n : SurfaceName} {ins outs : List SurfaceGroup} {r : Option SurfaceType} {ss : List SurfaceStmt} {p q u : Place}
      → ReadsAs procedure_word us w p vs → ReadsName vs n ws → Reads words.LeftParen ws q xs → ReadsParameters xs ins ys → ReadsOutputs ys outs zs
      → Reads words.RightParen zs u bs → ReadsResult bs r cs → ReadsBlock cs ss ds
      → ReadsProcedure us (record { name = n; inputs = ins; outputs = outs; result = r; body = sequence ss }) ds

-- the procedure that a whole text spells
abbrev pub IsTreeOf : List Token → SurfaceProcedure → Type 0
IsTreeOf tokens tree = ReadsProcedure tokens tree []

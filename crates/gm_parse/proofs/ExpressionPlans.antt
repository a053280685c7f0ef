-- The plans read each tree of names, types and expressions that there is.
use Rattle.std.proofs.Common.{◌≡◌, ◌≢◌, ℕ, true, false, ◌<◌, List, Option, Some, None, refl, sym, ap, subst, ◌∙◌, arith}
use Rattle.gm_base.specs.declared.places.Place.{Place}
use Rattle.gm_value.specs.declared.values.VType.{VType}
use Rattle.gm_ast.specs.declared.surface.Infix.{Infix}
use Rattle.gm_ast.specs.declared.surface.Range.{Range}
use Rattle.gm_ast.specs.Surface.{SurfaceName, SurfaceType, SurfaceHead, SurfaceExpr}
use Rattle.gm_token.specs.declared.words.Word.{Word}
use Rattle.gm_token.specs.declared.words.Word.TheVariants as words
use Rattle.gm_token.specs.Tokens.{Token}
use Rattle.gm_parse.specs.declared.levels.Level.{Level}
use Rattle.gm_parse.specs.declared.levels.Level.TheVariants as levels
use Rattle.gm_parse.specs.Terminals.{Terminal, The, fits}
use Rattle.gm_parse.specs.Grammar.{Part, Expression, Disjunction, Conjunction, Equality, Relation, Sum, Product, Primary}
use Rattle.gm_parse.specs.Levels.{part_of, operand_of}
use Rattle.gm_parse.specs.Choices.{bare_type, element_type, bearer_word, cast_type, value_reduction, test_reduction, infix_of}
use Rattle.gm_parse.specs.Trees.{ReadsWord, ReadsAs, ReadsName, ReadsNames, ReadsNumber, ReadsOf, ReadsType, ReadsTree, ReadsCondition, ReadsFilter, ReadsBraces, ReadsRange, ReadsHead}
use Rattle.gm_parse.proofs.FirstWords.{first, after_first, sees, same_word, at_word, at_name, at_meant, meant, comes_otherwise, TypeKind, BareType, ElementType, PropertyType, NoType, type_kind, bare_kind, element_kind, property_kind, OperandKind, NumberFirst, NameFirst, ValueFirst, TestFirst, NoOperand, operand_kind, is_operand_kind, begins_operand, name_first, value_first, test_first, no_cast, rank, height, Ends, tighter, ends_before, ends_at, no_infix, ended, no_question}
use Rattle.gm_parse.proofs.Plans.{ANames, AnOf, AType, Operand, ACondition, AFilter, SomeBraces, ARange, AHead, MoreNames, Row, MoreOperands, Answer, names, maybe_name, vtype, tree, braces, range, head, want, type_by, operand_by, parens_by, operands_by, next_operands, step, Runs}

-- ---- rows of names

pub names_row : {us vs : List Token} {xs : List SurfaceName} {y : Answer} → ReadsNames us xs vs → Runs (step (MoreNames xs) vs) y → Runs (step ANames us) y
names_row (ReadsNames.one n) r = Runs.name n (Runs.goto r)
names_row (ReadsNames.more ns c n) r = names_row ns (Runs.yes_so (at_word (fits (The words.Comma)) false c) (Runs.word c (Runs.name n (Runs.goto r))))

pub names_run : {us vs : List Token} {xs : List SurfaceName} → ReadsNames us xs vs → sees (The words.Comma) vs ≡ false → Runs (step ANames us) (names xs vs)
names_run ns e = names_row ns (Runs.not_so e Runs.return)

-- after one name of a row comes a comma, or what comes after the row
pub names_second : (k : Word) → fits (The k) words.Comma ≡ false → {us vs : List Token} {xs : List SurfaceName} → ReadsNames us xs vs → sees (The k) vs ≡ false → sees (The k) (after_first us) ≡ false
names_second k c (ReadsNames.one (ReadsName.name h)) e = e
names_second k c (ReadsNames.more ns w n) e = names_second k c ns (at_word (fits (The k)) false w ∙ c)

-- ---- types

pub of_run : {us vs : List Token} {g : Option SurfaceName} → ReadsOf us g vs → sees (The words.LeftParen) vs ≡ false → Runs (step AnOf us) (maybe_name g vs)
of_run ReadsOf.absent e = Runs.not_so e Runs.return
of_run (ReadsOf.present p n q) e = Runs.yes_so (at_word (fits (The words.LeftParen)) false p) (Runs.word p (Runs.name n (Runs.word q Runs.return)))

by_type : (us : List Token) (k : TypeKind) {y : Answer} → first type_kind NoType us ≡ k → Runs (type_by k us) y → Runs (step AType us) y
by_type us k {y} e r = subst (λ (i : TypeKind). Runs (type_by i us) y) (sym e) r

pub type_run : {us vs : List Token} {t : SurfaceType} → ReadsType us t vs → sees (The words.LeftParen) vs ≡ false → Runs (step AType us) (vtype t vs)
type_run {us} (ReadsType.bare w) e = by_type us BareType (at_meant type_kind BareType bare_type bare_kind NoType w) (Runs.meant w Runs.return)
type_run {us} (ReadsType.element w o) e = by_type us ElementType (at_meant type_kind ElementType element_type element_kind NoType w) (Runs.meant w (Runs.call (of_run o e) Runs.return))
type_run {us} (ReadsType.property w l t g o) e =
    by_type us PropertyType (at_meant type_kind PropertyType bearer_word property_kind NoType w) (Runs.meant w (Runs.word l (Runs.call (type_run t (at_word (fits (The words.LeftParen)) false g)) (Runs.word g (Runs.call (of_run o e) Runs.return)))))

-- ---- operands and their operators

by_operand : (us : List Token) (k : OperandKind) {y : Answer} → first operand_kind NoOperand us ≡ k → Runs (operand_by k us) y → Runs (step Operand us) y
by_operand us k {y} e r = subst (λ (i : OperandKind). Runs (operand_by i us) y) (sym e) r

by_parens : (us : List Token) (o : Option VType) (p : Place) {y : Answer} → first cast_type None us ≡ o → Runs (parens_by o p us) y → Runs (parens_by (first cast_type None us) p us) y
by_parens us o p {y} e r = subst (λ (i : Option VType). Runs (parens_by i p us) y) (sym e) r

by_infix : (us : List Token) (o : Option Infix) (l : Level) (a : SurfaceExpr) {y : Answer} → first (infix_of l) None us ≡ o → Runs (operands_by o l a us) y → Runs (step (MoreOperands l a) us) y
by_infix us o l a {y} e r = subst (λ (i : Option Infix). Runs (operands_by i l a us) y) (sym e) r

-- a part of a level is read as its row
by_level : (l : Level) (us : List Token) {y : Answer} → Runs (step (Row l) us) y → Runs (step (want (part_of l)) us) y
by_level levels.Or us r = r
by_level levels.And us r = r
by_level levels.Equality us r = r
by_level levels.Relation us r = r
by_level levels.Sum us r = r
by_level levels.Product us r = r

-- the level of a part whose operators go on
abbrev level_of : Part → Option Level
level_of Disjunction = Some levels.Or
level_of Conjunction = Some levels.And
level_of Equality = Some levels.Equality
level_of Sum = Some levels.Sum
level_of Product = Some levels.Product
level_of _ = None

-- what goes on with a part of a level goes on from its beginning
abbrev RowGoesOn : Option Level → List Token → SurfaceExpr → List Token → Type 1
RowGoesOn None us e vs = Unit {1}
RowGoesOn (Some l) us e vs = (y : Answer) → Ends (operand_of l) vs → Runs (step (MoreOperands l e) vs) y → Runs (step (Row l) us) y

row_at : (l : Level) → l ≢ levels.Relation → (us : List Token) (e : SurfaceExpr) (vs : List Token) → RowGoesOn (level_of (part_of l)) us e vs → RowGoesOn (Some l) us e vs
row_at levels.Or n us e vs r = r
row_at levels.And n us e vs r = r
row_at levels.Equality n us e vs r = r
row_at levels.Relation n us e vs r = absurd (n refl)
row_at levels.Sum n us e vs r = r
row_at levels.Product n us e vs r = r

at_row : (l : Level) (us : List Token) (e : SurfaceExpr) (vs : List Token) → RowGoesOn (Some l) us e vs → RowGoesOn (level_of (part_of l)) us e vs
at_row levels.Or us e vs r = r
at_row levels.And us e vs r = r
at_row levels.Equality us e vs r = r
at_row levels.Relation us e vs r = tt
at_row levels.Sum us e vs r = r
at_row levels.Product us e vs r = r

goes_on : (l : Level) → l ≢ levels.Relation → (us : List Token) (e : SurfaceExpr) {y : Answer} → Runs (step (MoreOperands l e) us) y → Runs (next_operands l e us) y
goes_on levels.Or n us e r = Runs.goto r
goes_on levels.And n us e r = Runs.goto r
goes_on levels.Equality n us e r = Runs.goto r
goes_on levels.Relation n us e r = absurd (n refl)
goes_on levels.Sum n us e r = Runs.goto r
goes_on levels.Product n us e r = Runs.goto r

-- a row ends where its operators do
row_ends : (l : Level) (e : SurfaceExpr) (us : List Token) → Ends (part_of l) us → Runs (step (MoreOperands l e) us) (tree e us)
row_ends l e us h = by_infix us None l e (no_infix l us h) Runs.return

-- What is known of a tree of a part: it is read where it ends, what goes on with it is read with it, and it begins as an
-- operand does.
record IsRead (q : Part) (us : List Token) (e : SurfaceExpr) (vs : List Token) : Type 1 where
  runs : Ends q vs → Runs (step (want q) us) (tree e vs)
  row : RowGoesOn (level_of q) us e vs
  begins : begins_operand us ≡ true

-- what begins with this word begins as an operand does
begins_as : {v : Word} {us vs : List Token} {p : Place} → ReadsWord (The v) us p vs → is_operand_kind (operand_kind v) ≡ true → begins_operand us ≡ true
begins_as w e = ap is_operand_kind (at_word operand_kind NoOperand w) ∙ e

begins_as_name : {us vs : List Token} {x : SurfaceName} → ReadsName us x vs → begins_operand us ≡ true
begins_as_name n = ap is_operand_kind (at_name operand_kind NameFirst name_first NoOperand n)

range_run : {us vs : List Token} {g : SurfaceName} {r : Range} → ReadsRange us g r vs → Runs (step ARange us) (range g r vs)
range_run (ReadsRange.range n d r) = Runs.name n (Runs.word d (Runs.meant r Runs.return))

pub no_word : (k : Terminal) (v : Word) → fits k v ≡ false → {us vs : List Token} {p : Place} → ReadsWord (The v) us p vs → sees k us ≡ false
no_word k v e w = at_word (fits k) false w ∙ e

pub is_word : (v : Word) → fits (The v) v ≡ true → {us vs : List Token} {p : Place} → ReadsWord (The v) us p vs → sees (The v) us ≡ true
is_word v e w = at_word (fits (The v)) false w ∙ e

-- an operand that begins with this word
by_first : {v : Word} {us vs : List Token} {p : Place} {y : Answer} → ReadsWord (The v) us p vs → Runs (operand_by (operand_kind v) us) y → Runs (step Operand us) y
by_first {v} {us} w r = by_operand us (operand_kind v) (at_word operand_kind NoOperand w) r

number_word : {us vs : List Token} {p : Place} {n : _} → ReadsNumber us p n vs → first operand_kind NoOperand us ≡ NumberFirst
number_word (ReadsNumber.number {t} e) = sym (ap operand_kind (same_word words.Number t.word e))

named : {us : List Token} {y : Answer} {vs : List Token} {x : SurfaceName} → ReadsName us x vs → Runs (operand_by NameFirst us) y → Runs (step Operand us) y
named {us} n r = by_operand us NameFirst (at_name operand_kind NameFirst name_first NoOperand n) r

valued : {us vs : List Token} {y : Answer} {w : _} {p : Place} → ReadsAs value_reduction us w p vs → Runs (operand_by ValueFirst us) y → Runs (step Operand us) y
valued {us} w r = by_operand us ValueFirst (at_meant operand_kind ValueFirst value_reduction value_first NoOperand w) r

tested : {us vs : List Token} {y : Answer} {w : _} {p : Place} → ReadsAs test_reduction us w p vs → Runs (operand_by TestFirst us) y → Runs (step Operand us) y
tested {us} w r = by_operand us TestFirst (at_meant operand_kind TestFirst test_reduction test_first NoOperand w) r

below_nine : (q : Part) → height q < 8
below_nine Expression = omega arith
below_nine Disjunction = omega arith
below_nine Conjunction = omega arith
below_nine Equality = omega arith
below_nine Relation = omega arith
below_nine Sum = omega arith
below_nine Product = omega arith
below_nine _ = omega arith

-- before a word that goes on with no expression every part ends
pub ends_all : (q : Part) (v : Word) → rank v ≡ 8 → {us vs : List Token} {p : Place} → ReadsWord (The v) us p vs → Ends q us
ends_all q v e w = ends_before q v (subst (λ (n : ℕ). height q < n) (sym e) (below_nine q)) w

looser : {n : ℕ} → 7 < n → 6 < n
looser h = omega arith

condition_seen : {us vs : List Token} {e : SurfaceExpr} → ReadsCondition us e vs → sees (The words.LeftParen) us ≡ true
condition_seen (ReadsCondition.condition p d q) = is_word words.LeftParen refl p

braces_not_condition : {us vs : List Token} {e : SurfaceExpr} {p : Place} → ReadsBraces us e p vs → sees (The words.LeftParen) us ≡ false
braces_not_condition (ReadsBraces.braces b e c) = no_word (The words.LeftParen) words.LeftBrace refl b

braces_seen : {us vs : List Token} {e : SurfaceExpr} {p : Place} → ReadsBraces us e p vs → sees (The words.LeftBrace) us ≡ true
braces_seen (ReadsBraces.braces b e c) = is_word words.LeftBrace refl b

mutual
  read : {q : Part} {us vs : List Token} {e : SurfaceExpr} → ReadsTree q us e vs → IsRead q us e vs
  read {us = us} (ReadsTree.number n) = record { runs = λ h. by_operand us NumberFirst (number_word n) (Runs.number n Runs.return); row = tt; begins = ap is_operand_kind (number_word n) }
  read (ReadsTree.truth w) = record { runs = λ h. by_first w (Runs.word w Runs.return); row = tt; begins = begins_as w refl }
  read (ReadsTree.falsehood w) = record { runs = λ h. by_first w (Runs.word w Runs.return); row = tt; begins = begins_as w refl }
  read (ReadsTree.nil w) = record { runs = λ h. by_first w (Runs.word w Runs.return); row = tt; begins = begins_as w refl }
  read (ReadsTree.greatest w) = record { runs = λ h. by_first w (Runs.word w Runs.return); row = tt; begins = begins_as w refl }
  read {vs = vs} (ReadsTree.named n) = record { runs = λ h. named n (Runs.name n (Runs.not_so (ended Primary words.Dot refl vs h) Runs.return)); row = tt; begins = begins_as_name n }
  read {vs = vs} (ReadsTree.member n d m) =
      record { runs = λ h. named n (Runs.name n (Runs.yes_so (is_word words.Dot refl d) (Runs.word d (Runs.name m (Runs.not_so (ended Primary words.LeftParen refl vs h) Runs.return))))); row = tt; begins = begins_as_name n }
  read (ReadsTree.method n d m p q) =
      record { runs = λ h. named n (Runs.name n (Runs.yes_so (is_word words.Dot refl d) (Runs.word d (Runs.name m (Runs.yes_so (is_word words.LeftParen refl p) (Runs.word p (Runs.word q Runs.return))))))); row = tt; begins = begins_as_name n }
  read (ReadsTree.parentheses {vs = vs} {p = p} w d q) =
      record { runs = λ h. by_first w (Runs.word w (by_parens vs None p (no_cast vs (read d).begins) (Runs.call ((read d).runs (ends_all Expression words.RightParen refl q)) (Runs.word q Runs.return)))); row = tt; begins = begins_as w refl }
  read (ReadsTree.reduction w d b) =
      record { runs = λ h. valued w (Runs.meant w (Runs.call (head_run d (braces_not_condition b)) (Runs.call (braces_run b) Runs.return))); row = tt; begins = ap is_operand_kind (at_meant operand_kind ValueFirst value_reduction value_first NoOperand w) }
  read (ReadsTree.test w d b) =
      record { runs = λ h. tested w (Runs.meant w (Runs.call (head_run d (braces_not_condition b)) (Runs.yes_so (braces_seen b) (Runs.call (braces_run b) Runs.return)))); row = tt; begins = ap is_operand_kind (at_meant operand_kind TestFirst test_reduction test_first NoOperand w) }
  read {vs = vs} (ReadsTree.bare_test w d) =
      record { runs = λ h. tested w (Runs.meant w (Runs.call (head_run d (ended Primary words.LeftParen refl vs h)) (Runs.not_so (ended Primary words.LeftBrace refl vs h) Runs.return))); row = tt; begins = ap is_operand_kind (at_meant operand_kind TestFirst test_reduction test_first NoOperand w) }
  read (ReadsTree.primary d) = record { runs = λ h. (read d).runs (record { holds = h.holds }); row = tt; begins = (read d).begins }
  read (ReadsTree.negation w d) = record { runs = λ h. by_first w (Runs.word w (Runs.call ((read d).runs h) Runs.return)); row = tt; begins = begins_as w refl }
  read (ReadsTree.minus {vs = vs} w c d) = record { runs = λ h. by_first w (Runs.word w (Runs.not_so (comes_otherwise (The words.Inf) vs c) (Runs.call ((read d).runs h) Runs.return))); row = tt; begins = begins_as w refl }
  read (ReadsTree.least w i) = record { runs = λ h. by_first w (Runs.word w (Runs.yes_so (is_word words.Inf refl i) (Runs.word i Runs.return))); row = tt; begins = begins_as w refl }
  read (ReadsTree.plus w i) = record { runs = λ h. by_first w (Runs.word w (Runs.word i Runs.return)); row = tt; begins = begins_as w refl }
  read (ReadsTree.cast {vs = vs} {t = t} {p = p} w c q d) =
      record { runs = λ h. by_first w (Runs.word w (by_parens vs (Some t) p (meant c) (Runs.meant c (Runs.word q (Runs.call ((read d).runs h) Runs.return))))); row = tt; begins = begins_as w refl }
  read {us = us} {vs = vs} {e = e} (ReadsTree.operand l d) =
      record { runs = λ h. by_level l us (Runs.call ((read d).runs (tighter l vs h)) (Runs.goto (row_ends l e vs h))); row = at_row l us e vs (λ y h r. Runs.call ((read d).runs h) (Runs.goto r)); begins = (read d).begins }
  read {us = us} {vs = vs} {e = e} (ReadsTree.row {vs = os} {a = a} {o = o} l n d w b) =
      record {
        runs = λ h. by_level l us (row_at l n us a os (read d).row _ (ends_at l w) (by_infix os (Some o) l a (meant w) (Runs.meant w (Runs.call ((read b).runs (tighter l vs h)) (goes_on l n vs e (row_ends l e vs h))))));
        row = at_row l us e vs (λ y h r. row_at l n us a os (read d).row _ (ends_at l w) (by_infix os (Some o) l a (meant w) (Runs.meant w (Runs.call ((read b).runs h) (goes_on l n vs e r)))));
        begins = (read d).begins;
      }
  read {vs = vs} (ReadsTree.comparison {vs = os} {a = a} {o = o} d w b) =
      record {
        runs = λ h. Runs.call ((read d).runs (ends_at levels.Relation w)) (Runs.goto (by_infix os (Some o) levels.Relation a (meant w) (Runs.meant w (Runs.call ((read b).runs (tighter levels.Relation vs h)) Runs.return))));
        row = tt;
        begins = (read d).begins;
      }
  read {vs = vs} (ReadsTree.no_choice d) = record { runs = λ h. Runs.call ((read d).runs (record { holds = looser h.holds })) (Runs.not_so (no_question vs h) Runs.return); row = tt; begins = (read d).begins }
  read (ReadsTree.choice d q a k b) =
      record {
        runs = λ h. Runs.call ((read d).runs (ends_before Disjunction words.Question (omega arith) q)) (Runs.yes_so (is_word words.Question refl q) (Runs.word q (Runs.call ((read a).runs (ends_all Expression words.Colon refl k)) (Runs.word k (Runs.call ((read b).runs h) Runs.return)))));
        row = tt;
        begins = (read d).begins;
      }

  pub condition_run : {us vs : List Token} {e : SurfaceExpr} → ReadsCondition us e vs → Runs (step ACondition us) (tree e vs)
  condition_run (ReadsCondition.condition p d q) = Runs.word p (Runs.call ((read d).runs (ends_all Expression words.RightParen refl q)) (Runs.word q Runs.return))

  pub filter_run : {us vs : List Token} {e : SurfaceExpr} → ReadsFilter us e vs → sees (The words.LeftParen) vs ≡ false → Runs (step AFilter us) (tree e vs)
  filter_run ReadsFilter.absent e = Runs.not_so e Runs.return
  filter_run (ReadsFilter.present c) e = Runs.yes_so (condition_seen c) (Runs.goto (condition_run c))

  braces_run : {us vs : List Token} {e : SurfaceExpr} {p : Place} → ReadsBraces us e p vs → Runs (step SomeBraces us) (braces e p vs)
  braces_run (ReadsBraces.braces p d q) = Runs.word p (Runs.call ((read d).runs (ends_all Expression words.RightBrace refl q)) (Runs.word q Runs.return))

  pub head_run : {us vs : List Token} {h : SurfaceHead} {f : SurfaceExpr} → ReadsHead us h f vs → sees (The words.LeftParen) vs ≡ false → Runs (step AHead us) (head h f vs)
  head_run (ReadsHead.head p n c r q f) e = Runs.word p (Runs.name n (Runs.word c (Runs.call (range_run r) (Runs.word q (Runs.call (filter_run f e) Runs.return)))))

-- a tree of a part is read where the part ends
pub tree_run : {q : Part} {us vs : List Token} {e : SurfaceExpr} → ReadsTree q us e vs → Ends q vs → Runs (step (want q) us) (tree e vs)
tree_run d h = (read d).runs h

pub tree_begins : {q : Part} {us vs : List Token} {e : SurfaceExpr} → ReadsTree q us e vs → begins_operand us ≡ true
tree_begins d = (read d).begins

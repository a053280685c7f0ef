-- The plans read each tree of statements and procedures that there is, so a text has one tree.
use Rattle.std.proofs.Common.{◌≡◌, true, false, List, [], Option, refl, sym, ap, subst, ◌∙◌, arith}
use Rattle.gm_base.specs.declared.places.Place.{Place}
use Rattle.gm_ast.specs.Surface.{SurfaceName, SurfaceType, SurfaceTarget, SurfaceExpr, SurfaceStmt, SurfaceGroup, SurfaceProcedure}
use Rattle.gm_token.specs.declared.words.Word.{Word}
use Rattle.gm_token.specs.declared.words.Word.TheVariants as words
use Rattle.gm_token.specs.Tokens.{Token}
use Rattle.gm_parse.specs.Terminals.{The, AnyName, fits}
use Rattle.gm_parse.specs.Grammar.{Expression, Sum}
use Rattle.gm_parse.specs.Choices.{bare_type, element_type, bearer_word, loop_word, reduce_sign}
use Rattle.gm_parse.specs.Trees.{Reads, ReadsWord, ReadsName, ReadsNames, ReadsType, ReadsTree, ReadsTarget, ReadsEntries, ReadsTuple, ReadsAt, ReadsFrom, ReadsSearch, ReadsStmt, ReadsMany, ReadsBlock, ReadsReverse, ReadsGroup, ReadsGroups, ReadsParameters, ReadsOutputs, ReadsResult, ReadsProcedure}
use Rattle.gm_parse.specs.OneTree.{TextsHaveOneTree}
use Rattle.gm_parse.proofs.FirstWords.{first, after_first, sees, at_word, at_name, at_meant, comes_otherwise, StatementKind, BlockFirst, TypeFirst, TargetFirst, LoopFirst, NoStatement, statement_kind, is_statement_kind, bare_declares, element_declares, property_declares, name_assigns, loop_first, begins_statement, no_paren, name_no_paren, no_semicolon, AssignKind, Assigns, Defers, Reduces, Counts, assign_kind, sign_reduces, sign_no_dot, closes, closed, Ends, ends_before}
use Rattle.gm_parse.proofs.Plans.{ATarget, SomeTargets, SomeValues, AnAt, AFrom, ASearch, AStatement, ABlock, AReverse, AGroup, SomeGroups, SomeParameters, SomeOutputs, AResult, AProcedure, MoreTargets, MoreValues, MoreStatements, MoreGroups, Answer, maybe_name, target, nothing, search_front, statement, statements, reverse, group, groups, result, procedure, statement_by, assign_by, step, Runs, one}
use Rattle.gm_parse.proofs.ExpressionPlans.{names_run, names_second, type_run, no_word, is_word, ends_all, condition_run, filter_run, head_run, tree_run, tree_begins}

-- ---- targets, tuples, bindings

target_run : {us vs : List Token} {t : SurfaceTarget} → ReadsTarget us t vs → sees (The words.Dot) vs ≡ false → Runs (step ATarget us) (target t vs)
target_run (ReadsTarget.name n) e = Runs.name n (Runs.not_so e Runs.return)
target_run (ReadsTarget.property n d m) e = Runs.name n (Runs.yes_so (is_word words.Dot refl d) (Runs.word d (Runs.name m Runs.return)))

targets_row : {us vs : List Token} {ts : List SurfaceTarget} {y : Answer} → ReadsEntries ReadsTarget us ts vs → sees (The words.Dot) vs ≡ false → Runs (step (MoreTargets ts) vs) y → Runs (step SomeTargets us) y
targets_row (ReadsEntries.two a s b) e r = Runs.call (target_run a (no_word (The words.Dot) words.Semicolon refl s)) (Runs.word s (Runs.call (target_run b e) (Runs.goto r)))
targets_row (ReadsEntries.more ts c a) e r = targets_row ts (no_word (The words.Dot) words.Comma refl c) (Runs.yes_so (is_word words.Comma refl c) (Runs.word c (Runs.call (target_run a e) (Runs.goto r))))

values_row : {us vs : List Token} {es : List SurfaceExpr} {y : Answer} → ReadsEntries (ReadsTree Sum) us es vs → Ends Sum vs → Runs (step (MoreValues es) vs) y → Runs (step SomeValues us) y
values_row (ReadsEntries.two a s b) e r = Runs.call (tree_run a (ends_all Sum words.Semicolon refl s)) (Runs.word s (Runs.call (tree_run b e) (Runs.goto r)))
values_row (ReadsEntries.more ts c a) e r = values_row ts (ends_all Sum words.Comma refl c) (Runs.yes_so (is_word words.Comma refl c) (Runs.word c (Runs.call (tree_run a e) (Runs.goto r))))

at_run : {us vs : List Token} {x : Option SurfaceName} {p : Place} {ws : List Token} → ReadsAt us x vs → Reads words.Semicolon vs p ws → Runs (step AnAt us) (maybe_name x vs)
at_run ReadsAt.absent s = Runs.not_so (no_word (The words.At) words.Semicolon refl s) Runs.return
at_run (ReadsAt.present a n) s = Runs.yes_so (is_word words.At refl a) (Runs.word a (Runs.name n Runs.return))

-- an expression ends before a binding and a semicolon
ends_binding : {us vs ws : List Token} {x : Option SurfaceName} {p : Place} → ReadsAt us x vs → Reads words.Semicolon vs p ws → Ends Expression us
ends_binding ReadsAt.absent s = ends_all Expression words.Semicolon refl s
ends_binding (ReadsAt.present a n) s = ends_all Expression words.At refl a

from_run : {us vs : List Token} → ReadsFrom us vs → Runs (step AFrom us) (nothing vs)
from_run (ReadsFrom.from w) = Runs.yes_so (is_word words.From refl w) (Runs.word w Runs.return)
from_run (ReadsFrom.semicolon w) = Runs.not_so (no_word (The words.From) words.Semicolon refl w) (Runs.word w Runs.return)

block_seen : {us vs : List Token} {ss : List SurfaceStmt} → ReadsBlock us ss vs → sees (The words.LeftParen) us ≡ false
block_seen (ReadsBlock.braces p ss q) = no_word (The words.LeftParen) words.LeftBrace refl p

search_run : {us vs : List Token} {x g r : SurfaceName} {f : SurfaceExpr} → ReadsSearch us x g r f vs → sees (The words.LeftParen) vs ≡ false → Runs (step ASearch us) (search_front x g r f vs)
search_run (ReadsSearch.front p x c g d n f r q h) e =
    Runs.word p (Runs.name x (Runs.word c (Runs.name g (Runs.word d (Runs.word n (Runs.call (from_run f) (Runs.name r (Runs.word q (Runs.call (filter_run h e) Runs.return)))))))))

-- ---- what a statement begins with

by_kind : (us : List Token) (k : StatementKind) {y : Answer} → first statement_kind NoStatement us ≡ k → Runs (statement_by k us) y → Runs (step AStatement us) y
by_kind us k {y} e r = subst (λ (i : StatementKind). Runs (statement_by i us) y) (sym e) r

by_word : {v : Word} {us vs : List Token} {p : Place} {y : Answer} → ReadsWord (The v) us p vs → Runs (statement_by (statement_kind v) us) y → Runs (step AStatement us) y
by_word {v} {us} w r = by_kind us (statement_kind v) (at_word statement_kind NoStatement w) r

by_assign : (us : List Token) (k : AssignKind) (t : SurfaceTarget) {y : Answer} → first assign_kind Counts us ≡ k → Runs (assign_by k t us) y → Runs (assign_by (first assign_kind Counts us) t us) y
by_assign us k t {y} e r = subst (λ (i : AssignKind). Runs (assign_by i t us) y) (sym e) r

type_first : {us vs : List Token} {t : SurfaceType} → ReadsType us t vs → first statement_kind NoStatement us ≡ TypeFirst
type_first (ReadsType.bare w) = at_meant statement_kind TypeFirst bare_type bare_declares NoStatement w
type_first (ReadsType.element w o) = at_meant statement_kind TypeFirst element_type element_declares NoStatement w
type_first (ReadsType.property w l t g o) = at_meant statement_kind TypeFirst bearer_word property_declares NoStatement w

target_first : {us vs : List Token} {t : SurfaceTarget} → ReadsTarget us t vs → first statement_kind NoStatement us ≡ TargetFirst
target_first (ReadsTarget.name n) = at_name statement_kind TargetFirst name_assigns NoStatement n
target_first (ReadsTarget.property n d m) = at_name statement_kind TargetFirst name_assigns NoStatement n

word_begins : {v : Word} {us vs : List Token} {p : Place} → ReadsWord (The v) us p vs → is_statement_kind (statement_kind v) ≡ true → begins_statement us ≡ true
word_begins w e = ap is_statement_kind (at_word statement_kind NoStatement w) ∙ e

block_begins : {us vs : List Token} {ss : List SurfaceStmt} → ReadsBlock us ss vs → begins_statement us ≡ true
block_begins (ReadsBlock.braces p ss q) = word_begins p refl

tuple_begins : {us vs : List Token} {ts : List SurfaceTarget} → ReadsTuple ReadsTarget us ts vs → begins_statement us ≡ true
tuple_begins (ReadsTuple.tuple p ts q) = word_begins p refl

target_begins : {us vs : List Token} {t : SurfaceTarget} → ReadsTarget us t vs → begins_statement us ≡ true
target_begins t = ap is_statement_kind (target_first t)

statement_begins : {us vs : List Token} {s : SurfaceStmt} → ReadsStmt us s vs → begins_statement us ≡ true
statement_begins (ReadsStmt.block b) = block_begins b
statement_begins (ReadsStmt.empty w) = word_begins w refl
statement_begins (ReadsStmt.declare t ns s) = ap is_statement_kind (type_first t)
statement_begins (ReadsStmt.declare_as t n a e s) = ap is_statement_kind (type_first t)
statement_begins (ReadsStmt.assign t a e s) = target_begins t
statement_begins (ReadsStmt.defer t a e x s) = target_begins t
statement_begins (ReadsStmt.reduce t a e x s) = target_begins t
statement_begins (ReadsStmt.reduce_tuple t a e x s) = tuple_begins t
statement_begins (ReadsStmt.increment t a s) = target_begins t
statement_begins (ReadsStmt.loop w h s) = ap is_statement_kind (at_meant statement_kind LoopFirst loop_word loop_first NoStatement w)
statement_begins (ReadsStmt.if_then w c s o) = word_begins w refl
statement_begins (ReadsStmt.if_else w c s e t) = word_begins w refl
statement_begins (ReadsStmt.while w c s) = word_begins w refl
statement_begins (ReadsStmt.do_while w b v c s) = word_begins w refl
statement_begins (ReadsStmt.breadth w f b o) = word_begins w refl
statement_begins (ReadsStmt.breadth_both w f b r) = word_begins w refl
statement_begins (ReadsStmt.return_nothing w s) = word_begins w refl
statement_begins (ReadsStmt.return_value w e s) = word_begins w refl

-- ---- statements

name_seen : {us vs : List Token} {n : SurfaceName} → ReadsName us n vs → sees (The words.LeftParen) us ≡ false
name_seen n = at_name (fits (The words.LeftParen)) false name_no_paren false n

names_seen : {us vs : List Token} {ns : List SurfaceName} → ReadsNames us ns vs → sees (The words.LeftParen) us ≡ false
names_seen (ReadsNames.one n) = name_seen n
names_seen (ReadsNames.more ns c n) = names_seen ns

after_name : {us vs : List Token} {n : SurfaceName} → ReadsName us n vs → after_first us ≡ vs
after_name (ReadsName.name e) = refl

reverse_seen : {us vs : List Token} {p : Place} {f : SurfaceExpr} {ss : List SurfaceStmt} → ReadsReverse us p f ss vs → sees (The words.InReverse) us ≡ true
reverse_seen (ReadsReverse.reverse w f b) = is_word words.InReverse refl w

targeted : (us : List Token) {vs : List Token} {t : SurfaceTarget} (k : AssignKind) {y : Answer} → ReadsTarget us t vs → sees (The words.Dot) vs ≡ false → first assign_kind Counts vs ≡ k → Runs (assign_by k t vs) y → Runs (step AStatement us) y
targeted us {vs} {t} k d e a r = by_kind us TargetFirst (target_first d) (Runs.call (target_run d e) (by_assign vs k t a r))

by_block : {us vs : List Token} {ss : List SurfaceStmt} {y : Answer} → ReadsBlock us ss vs → Runs (statement_by BlockFirst us) y → Runs (step AStatement us) y
by_block (ReadsBlock.braces p ss q) r = by_word p r

no_statement : {us vs : List Token} {p : Place} → Reads words.RightBrace us p vs → begins_statement us ≡ false
no_statement w = ap is_statement_kind (at_word statement_kind NoStatement w)

mutual
  statement_run : {us vs : List Token} {s : SurfaceStmt} → ReadsStmt us s vs → Runs (step AStatement us) (statement s vs)
  statement_run (ReadsStmt.block b) = by_block b (Runs.call (block_run b) Runs.return)
  statement_run (ReadsStmt.empty w) = by_word w (Runs.word w Runs.return)
  statement_run {us = us} (ReadsStmt.declare t ns s) =
      by_kind us TypeFirst (type_first t) (Runs.call (type_run t (names_seen ns)) (Runs.not_so (names_second words.Assign refl ns (no_word (The words.Assign) words.Semicolon refl s)) (Runs.call (names_run ns (no_word (The words.Comma) words.Semicolon refl s)) (Runs.word s Runs.return))))
  statement_run {us = us} (ReadsStmt.declare_as t n a e s) =
      by_kind us TypeFirst (type_first t) (Runs.call (type_run t (name_seen n)) (Runs.yes_so (ap (sees (The words.Assign)) (after_name n) ∙ is_word words.Assign refl a) (Runs.name n (Runs.word a (Runs.call (tree_run e (ends_all Expression words.Semicolon refl s)) (Runs.word s Runs.return))))))
  statement_run {us = us} (ReadsStmt.assign t a e s) =
      targeted us Assigns t (no_word (The words.Dot) words.Assign refl a) (at_word assign_kind Counts a) (Runs.word a (Runs.call (tree_run e (ends_all Expression words.Semicolon refl s)) (Runs.word s Runs.return)))
  statement_run {us = us} (ReadsStmt.defer t a e x s) =
      targeted us Defers t (no_word (The words.Dot) words.LessEqual refl a) (at_word assign_kind Counts a) (Runs.word a (Runs.call (tree_run e (ends_binding x s)) (Runs.call (at_run x s) (Runs.word s Runs.return))))
  statement_run {us = us} (ReadsStmt.reduce t a e x s) =
      targeted us Reduces t (at_meant (fits (The words.Dot)) false reduce_sign sign_no_dot false a) (at_meant assign_kind Reduces reduce_sign sign_reduces Counts a) (Runs.meant a (Runs.call (tree_run e (ends_binding x s)) (Runs.call (at_run x s) (Runs.word s Runs.return))))
  statement_run (ReadsStmt.reduce_tuple (ReadsTuple.tuple p ts q) o (ReadsTuple.tuple p' es q') x s) =
      by_word p (Runs.word p (Runs.call (targets_row ts (no_word (The words.Dot) words.Greater refl q) (Runs.not_so (no_word (The words.Comma) words.Greater refl q) Runs.return)) (Runs.word q (Runs.meant o (Runs.word p' (Runs.call (values_row es (ends_before Sum words.Greater (omega arith) q') (Runs.not_so (no_word (The words.Comma) words.Greater refl q') Runs.return)) (Runs.word q' (Runs.call (at_run x s) (Runs.word s Runs.return)))))))))
  statement_run {us = us} (ReadsStmt.increment t a s) =
      targeted us Counts t (no_word (The words.Dot) words.PlusPlus refl a) (at_word assign_kind Counts a) (Runs.word a (Runs.word s Runs.return))
  statement_run {us = us} (ReadsStmt.loop {ws = ws} w h s) =
      by_kind us LoopFirst (at_meant statement_kind LoopFirst loop_word loop_first NoStatement w) (Runs.meant w (Runs.call (head_run h (no_paren ws (statement_begins s))) (Runs.call (statement_run s) Runs.return)))
  statement_run (ReadsStmt.if_then {xs = xs} w c s o) = by_word w (Runs.word w (Runs.call (condition_run c) (Runs.call (statement_run s) (Runs.not_so (comes_otherwise (The words.Else) xs o) Runs.return))))
  statement_run (ReadsStmt.if_else w c s e t) = by_word w (Runs.word w (Runs.call (condition_run c) (Runs.call (statement_run s) (Runs.yes_so (is_word words.Else refl e) (Runs.word e (Runs.call (statement_run t) Runs.return))))))
  statement_run (ReadsStmt.while w c s) = by_word w (Runs.word w (Runs.call (condition_run c) (Runs.call (statement_run s) Runs.return)))
  statement_run (ReadsStmt.do_while w b v c s) = by_word w (Runs.word w (Runs.call (block_run b) (Runs.word v (Runs.call (condition_run c) (Runs.word s Runs.return)))))
  statement_run (ReadsStmt.breadth {xs = xs} w f b o) = by_word w (Runs.word w (Runs.call (search_run f (block_seen b)) (Runs.call (block_run b) (Runs.not_so (comes_otherwise (The words.InReverse) xs o) Runs.return))))
  statement_run (ReadsStmt.breadth_both w f b r) = by_word w (Runs.word w (Runs.call (search_run f (block_seen b)) (Runs.call (block_run b) (Runs.yes_so (reverse_seen r) (Runs.call (reverse_run r) Runs.return)))))
  statement_run (ReadsStmt.return_nothing w s) = by_word w (Runs.word w (Runs.yes_so (is_word words.Semicolon refl s) (Runs.word s Runs.return)))
  statement_run (ReadsStmt.return_value {vs = vs} w e s) = by_word w (Runs.word w (Runs.not_so (no_semicolon vs (tree_begins e)) (Runs.call (tree_run e (ends_all Expression words.Semicolon refl s)) (Runs.word s Runs.return))))

  -- what goes on with statements goes on from their beginning
  many_row : {us vs : List Token} {ss : List SurfaceStmt} → ReadsMany us ss vs → {y : Answer} → Runs (step (MoreStatements ss) vs) y → Runs (step (MoreStatements []) us) y
  many_row ReadsMany.none r = r
  many_row (ReadsMany.more ss s) r = many_row ss (Runs.yes_so (statement_begins s) (Runs.call (statement_run s) (Runs.goto r)))

  block_run : {us vs : List Token} {ss : List SurfaceStmt} → ReadsBlock us ss vs → Runs (step ABlock us) (statements ss vs)
  block_run (ReadsBlock.braces p ss q) = Runs.word p (Runs.call (many_row ss (Runs.not_so (no_statement q) Runs.return)) (Runs.word q Runs.return))

  reverse_run : {us vs : List Token} {p : Place} {f : SurfaceExpr} {ss : List SurfaceStmt} → ReadsReverse us p f ss vs → Runs (step AReverse us) (reverse p f ss vs)
  reverse_run (ReadsReverse.reverse w f b) = Runs.word w (Runs.call (filter_run f (block_seen b)) (Runs.call (block_run b) Runs.return))

-- ---- procedures

group_run : {us vs : List Token} {g : SurfaceGroup} → ReadsGroup us g vs → sees (The words.LeftParen) vs ≡ false → Runs (step AGroup us) (group g vs)
group_run (ReadsGroup.group ns c t) e = Runs.call (names_run ns (no_word (The words.Comma) words.Colon refl c)) (Runs.word c (Runs.call (type_run t e) Runs.return))

groups_row : {us vs : List Token} {gs : List SurfaceGroup} {y : Answer} → ReadsGroups us gs vs → sees (The words.LeftParen) vs ≡ false → Runs (step (MoreGroups gs) vs) y → Runs (step SomeGroups us) y
groups_row (ReadsGroups.one g) e r = Runs.call (group_run g e) (Runs.goto r)
groups_row (ReadsGroups.more gs c g) e r = groups_row gs (no_word (The words.LeftParen) words.Comma refl c) (Runs.yes_so (is_word words.Comma refl c) (Runs.word c (Runs.call (group_run g e) (Runs.goto r))))

names_begin : {us vs : List Token} {ns : List SurfaceName} → ReadsNames us ns vs → sees AnyName us ≡ true
names_begin (ReadsNames.one (ReadsName.name e)) = e
names_begin (ReadsNames.more ns c n) = names_begin ns

group_begins : {us vs : List Token} {g : SurfaceGroup} → ReadsGroup us g vs → sees AnyName us ≡ true
group_begins (ReadsGroup.group ns c t) = names_begin ns

groups_begin : {us vs : List Token} {gs : List SurfaceGroup} → ReadsGroups us gs vs → sees AnyName us ≡ true
groups_begin (ReadsGroups.one g) = group_begins g
groups_begin (ReadsGroups.more gs c g) = groups_begin gs

parameters_run : {us vs : List Token} {gs : List SurfaceGroup} → ReadsParameters us gs vs → first closes false vs ≡ true → Runs (step SomeParameters us) (groups gs vs)
parameters_run {us = us} ReadsParameters.absent h = Runs.not_so (closed (fits AnyName) refl refl us h) Runs.return
parameters_run {vs = vs} (ReadsParameters.present gs) h =
    Runs.yes_so (groups_begin gs) (Runs.goto (groups_row gs (closed (fits (The words.LeftParen)) refl refl vs h) (Runs.not_so (closed (fits (The words.Comma)) refl refl vs h) Runs.return)))

closed_before : (v : Word) → closes v ≡ true → {us vs : List Token} {p : Place} → ReadsWord (The v) us p vs → first closes false us ≡ true
closed_before v e w = at_word closes false w ∙ e

outputs_run : {us vs ws : List Token} {gs : List SurfaceGroup} {p : Place} → ReadsOutputs us gs vs → Reads words.RightParen vs p ws → Runs (step SomeOutputs us) (groups gs vs)
outputs_run ReadsOutputs.absent q = Runs.not_so (no_word (The words.Semicolon) words.RightParen refl q) Runs.return
outputs_run (ReadsOutputs.present s gs) q = Runs.yes_so (is_word words.Semicolon refl s) (Runs.word s (Runs.goto (parameters_run gs (closed_before words.RightParen refl q))))

outputs_close : {us vs ws : List Token} {gs : List SurfaceGroup} {p : Place} → ReadsOutputs us gs vs → Reads words.RightParen vs p ws → first closes false us ≡ true
outputs_close ReadsOutputs.absent q = closed_before words.RightParen refl q
outputs_close (ReadsOutputs.present s gs) q = closed_before words.Semicolon refl s

block_no_colon : {us vs : List Token} {ss : List SurfaceStmt} → ReadsBlock us ss vs → sees (The words.Colon) us ≡ false
block_no_colon (ReadsBlock.braces p ss q) = no_word (The words.Colon) words.LeftBrace refl p

result_run : {us vs ws : List Token} {t : Option SurfaceType} {ss : List SurfaceStmt} → ReadsResult us t vs → ReadsBlock vs ss ws → Runs (step AResult us) (result t vs)
result_run ReadsResult.absent b = Runs.not_so (block_no_colon b) Runs.return
result_run (ReadsResult.present c t) b = Runs.yes_so (is_word words.Colon refl c) (Runs.word c (Runs.call (type_run t (block_seen b)) Runs.return))

procedure_run : {us vs : List Token} {t : SurfaceProcedure} → ReadsProcedure us t vs → Runs (step AProcedure us) (procedure t vs)
procedure_run (ReadsProcedure.procedure w n p ins outs q r b) =
    Runs.meant w (Runs.name n (Runs.word p (Runs.call (parameters_run ins (outputs_close outs q)) (Runs.call (outputs_run outs q) (Runs.word q (Runs.call (result_run r b) (Runs.call (block_run b) Runs.return)))))))

same_procedure : {s t : SurfaceProcedure} {us vs : List Token} → procedure s us ≡ procedure t vs → s ≡ t
same_procedure e = cc

-- two trees of one text are equal
pub one_tree : TextsHaveOneTree
one_tree tokens s t d e = same_procedure (one (procedure_run d) (procedure_run e))

-- The tree of a text holds numbers within the limit, and several targets under `min=` and `max=` alone.
use Rattle.std.proofs.Common.{◌≡◌, ◌<◌, ◌≤◌, ℕ, ℤ, pos, true, List, [], ◌∷◌, ◌++◌, refl, subst, arith}
use Rattle.std.specs.Prelude.{◌&&◌}
use Rattle.std.specs.Cmp.Derive.{both_true}
use Rattle.std.proofs.lemmas.Bool.{le-leb}
use Rattle.gm_base.specs.declared.places.Place.{Place}
use Rattle.gm_value.specs.Numbers.{fits}
use Rattle.gm_value.specs.declared.values.VType.TheVariants.{I64}
use Rattle.gm_value.specs.declared.reductions.Reduce.{Reduce}
use Rattle.gm_token.specs.declared.words.Word.{Word}
use Rattle.gm_token.specs.declared.words.Word.TheVariants as words
use Rattle.gm_token.specs.Limits.{greatest_number}
use Rattle.gm_token.specs.Spellings.{IsNumber, decimal_value}
use Rattle.gm_token.specs.Scanning.{Scans, IsTooLarge}
use Rattle.gm_token.specs.Tokens.{Token}
use Rattle.gm_token.proofs.Classes.{digits_of_number}
use Rattle.gm_ast.specs.Surface.{SurfaceHead, SurfaceName, SurfaceTarget, SurfaceExpr, SurfaceStmt, SurfaceProcedure, sequence}
use Rattle.gm_parse.specs.Terminals.{The, fits as stands_for}
use Rattle.gm_parse.specs.Grammar.{Part, Sum}
use Rattle.gm_parse.specs.Choices.{argument_operation}
use Rattle.gm_parse.specs.Trees.{ReadsAs, ReadsNumber, ReadsTree, ReadsCondition, ReadsFilter, ReadsBraces, ReadsHead, ReadsEntries, ReadsTuple, ReadsSearch, ReadsStmt, ReadsMany, ReadsBlock, ReadsReverse, ReadsProcedure}
use Rattle.gm_forms.specs.Typing.{keeps_tuples}
use Rattle.gm_order.specs.Spelling.{numbers_fit, all_numbers_fit, may_assign, is_within_limits}
use Rattle.gm_forms.proofs.Named.{both-true}
use Rattle.gm_ready.proofs.Judging.{IfPart}
use Rattle.gm_order.proofs.Picks as Pick
use Rattle.gm_order.proofs.Picks.{Picks}

-- the digits of a number say one within the limit
abbrev IsSmall : Token → Type 0
IsSmall t = t.word ≡ words.Number → decimal_value t.text ≤ greatest_number

abbrev pub AllSmall : List Token → Type 0
AllSmall [] = Unit {0}
AllSmall (t ∷ us) = IsSmall t × AllSmall us

not-large : (bs : List ℕ) → IsNumber bs → (IsTooLarge bs → ⊥) → decimal_value bs ≤ greatest_number
not-large bs d n = let k : greatest_number < decimal_value bs → ⊥ = λ g. n (d, g) in omega (arith, k)

-- the numbers of a scanned text are within the limit
pub scanned-small : {at to : Place} {text left : List ℕ} {ts : List Token} → Scans at text ts to left → AllSmall ts
scanned-small Scans.here = tt
scanned-small (Scans.gap g s) = scanned-small s
scanned-small (Scans.token {bs} l n s) = (λ is. not-large bs (digits_of_number l.token is) n, scanned-small s)

rest : {ps : List Place} {us vs : List Token} → Picks ps us vs → AllSmall us → AllSmall vs
rest Picks.done h = h
rest (Picks.skip k) h = rest k h.1
rest (Picks.pick k) h = rest k h.1
rest (Picks.both k) h = rest k h.1.1

-- ---- expressions

number-only : (w : Word) → stands_for (The words.Number) w ≡ true → w ≡ words.Number
number-only words.Number h = refl
number-only _ h = absurd cc

small-fits : (n : ℕ) → n ≤ greatest_number → fits I64 (pos n) ≡ true
small-fits n h = le-leb n greatest_number h

number-fits : {us vs : List Token} {p : Place} {n : ℤ} → ReadsNumber us p n vs → AllSmall us → fits I64 n ≡ true
number-fits (ReadsNumber.number {t} f) h = small-fits (decimal_value t.text) (h.0 (number-only t.word f))

mutual
  tree-fits : {q : Part} {us vs : List Token} {e : SurfaceExpr} → ReadsTree q us e vs → AllSmall us → numbers_fit e ≡ true
  tree-fits (ReadsTree.number r) h = number-fits r h
  tree-fits (ReadsTree.truth r) h = refl
  tree-fits (ReadsTree.falsehood r) h = refl
  tree-fits (ReadsTree.nil r) h = refl
  tree-fits (ReadsTree.greatest r) h = refl
  tree-fits (ReadsTree.named r) h = refl
  tree-fits (ReadsTree.member x d m) h = refl
  tree-fits (ReadsTree.method x d m l r) h = refl
  tree-fits (ReadsTree.parentheses l r c) h = tree-fits r (rest (Pick.word l) h)
  tree-fits (ReadsTree.reduction w k b) h = let i = rest (Pick.meant w) h in both_true (head-fits k i) (braces-fit b (rest (Pick.head k) i))
  tree-fits (ReadsTree.test w k b) h = let i = rest (Pick.meant w) h in both_true (head-fits k i) (braces-fit b (rest (Pick.head k) i))
  tree-fits (ReadsTree.bare_test w k) h = both_true (head-fits k (rest (Pick.meant w) h)) refl
  tree-fits (ReadsTree.primary r) h = tree-fits r h
  tree-fits (ReadsTree.negation w r) h = tree-fits r (rest (Pick.word w) h)
  tree-fits (ReadsTree.minus w o r) h = tree-fits r (rest (Pick.word w) h)
  tree-fits (ReadsTree.least w i) h = refl
  tree-fits (ReadsTree.plus w i) h = refl
  tree-fits (ReadsTree.cast l t c r) h = tree-fits r (rest (Pick.word c) (rest (Pick.meant t) (rest (Pick.word l) h)))
  tree-fits (ReadsTree.operand l r) h = tree-fits r h
  tree-fits (ReadsTree.row l n a o b) h = both_true (tree-fits a h) (tree-fits b (rest (Pick.meant o) (rest (Pick.tree a) h)))
  tree-fits (ReadsTree.comparison a o b) h = both_true (tree-fits a h) (tree-fits b (rest (Pick.meant o) (rest (Pick.tree a) h)))
  tree-fits (ReadsTree.no_choice r) h = tree-fits r h
  tree-fits (ReadsTree.choice c q a k b) h =
      let i = rest (Pick.word q) (rest (Pick.tree c) h) in
      both_true (tree-fits c h) (both_true (tree-fits a i) (tree-fits b (rest (Pick.word k) (rest (Pick.tree a) i))))

  condition-fits : {us vs : List Token} {e : SurfaceExpr} → ReadsCondition us e vs → AllSmall us → numbers_fit e ≡ true
  condition-fits (ReadsCondition.condition l r c) h = tree-fits r (rest (Pick.word l) h)

  filter-fits : {us vs : List Token} {e : SurfaceExpr} → ReadsFilter us e vs → AllSmall us → numbers_fit e ≡ true
  filter-fits ReadsFilter.absent h = refl
  filter-fits (ReadsFilter.present r) h = condition-fits r h

  braces-fit : {us vs : List Token} {e : SurfaceExpr} {q : Place} → ReadsBraces us e q vs → AllSmall us → numbers_fit e ≡ true
  braces-fit (ReadsBraces.braces l r c) h = tree-fits r (rest (Pick.word l) h)

  head-fits : {us vs : List Token} {k : SurfaceHead} {f : SurfaceExpr} → ReadsHead us k f vs → AllSmall us → numbers_fit f ≡ true
  head-fits (ReadsHead.head l x c g r f) h = filter-fits f (rest (Pick.word r) (rest (Pick.range g) (rest (Pick.word c) (rest (Pick.name x) (rest (Pick.word l) h)))))

-- ---- statements

all-behind : (es : List SurfaceExpr) (e : SurfaceExpr) → all_numbers_fit es ≡ true → numbers_fit e ≡ true → all_numbers_fit (es ++ e ∷ []) ≡ true
all-behind [] e h k = both_true k refl
all-behind (d ∷ es) e h k = let s = both-true (numbers_fit d) (all_numbers_fit es) h in both_true s.0 (all-behind es e s.1 k)

entries-fit : {us vs : List Token} {es : List SurfaceExpr} → ReadsEntries (ReadsTree Sum) us es vs → AllSmall us → all_numbers_fit es ≡ true
entries-fit (ReadsEntries.two a s b) h = both_true (tree-fits a h) (both_true (tree-fits b (rest (Pick.word s) (rest (Pick.tree a) h))) refl)
entries-fit (ReadsEntries.more {es} {a} r c t) h = all-behind es a (entries-fit r h) (tree-fits t (rest (Pick.word c) (rest (Pick.values r) h)))

tuple-fits : {us vs : List Token} {es : List SurfaceExpr} → ReadsTuple (ReadsTree Sum) us es vs → AllSmall us → all_numbers_fit es ≡ true
tuple-fits (ReadsTuple.tuple l r g) h = entries-fit r (rest (Pick.word l) h)

keeps : (w : Word) → IfPart (λ o. keeps_tuples o ≡ true) (argument_operation w)
keeps words.MinAssign = refl
keeps words.MaxAssign = refl
keeps _ = tt

keeping : {us vs : List Token} {o : Reduce} {p : Place} → ReadsAs argument_operation us o p vs → keeps_tuples o ≡ true
keeping (ReadsAs.word {t} e) = subst (IfPart (λ o. keeps_tuples o ≡ true)) e (keeps t.word)

may : (o : Reduce) (ts : List SurfaceTarget) → keeps_tuples o ≡ true → may_assign o ts ≡ true
may o [] h = refl
may o (t ∷ []) h = refl
may o (t ∷ (u ∷ ts)) h = h

sequence-behind : (ss : List SurfaceStmt) (s : SurfaceStmt) → is_within_limits (sequence ss) ≡ true → is_within_limits s ≡ true → is_within_limits (sequence (ss ++ s ∷ [])) ≡ true
sequence-behind [] s h k = both_true k refl
sequence-behind (t ∷ ss) s h k = let r = both-true (is_within_limits t) (is_within_limits (sequence ss)) h in both_true r.0 (sequence-behind ss s r.1 k)

search-fits : {us vs : List Token} {x g r : SurfaceName} {f : SurfaceExpr} → ReadsSearch us x g r f vs → AllSmall us → numbers_fit f ≡ true
search-fits (ReadsSearch.front l x c g d n f r q t) h =
    filter-fits t (rest (Pick.word q) (rest (Pick.name r) (rest (Pick.from f) (rest (Pick.word n) (rest (Pick.word d) (rest (Pick.name g) (rest (Pick.word c) (rest (Pick.name x) (rest (Pick.word l) h)))))))))

mutual
  stmt-fits : {us vs : List Token} {s : SurfaceStmt} → ReadsStmt us s vs → AllSmall us → is_within_limits s ≡ true
  stmt-fits (ReadsStmt.block b) h = block-fits b h
  stmt-fits (ReadsStmt.empty w) h = refl
  stmt-fits (ReadsStmt.declare t n w) h = refl
  stmt-fits (ReadsStmt.declare_as t n a e w) h = tree-fits e (rest (Pick.word a) (rest (Pick.name n) (rest (Pick.vtype t) h)))
  stmt-fits (ReadsStmt.assign t a e w) h = tree-fits e (rest (Pick.word a) (rest (Pick.target t) h))
  stmt-fits (ReadsStmt.defer t a e x w) h = tree-fits e (rest (Pick.word a) (rest (Pick.target t) h))
  stmt-fits (ReadsStmt.reduce t o e x w) h = both_true (tree-fits e (rest (Pick.meant o) (rest (Pick.target t) h))) refl
  stmt-fits (ReadsStmt.reduce_tuple {ts = targets} {o = op} ts o es x w) h = both_true (may op targets (keeping o)) (tuple-fits es (rest (Pick.meant o) (rest (Pick.targets ts) h)))
  stmt-fits (ReadsStmt.increment t o w) h = refl
  stmt-fits (ReadsStmt.loop w k s) h = let i = rest (Pick.meant w) h in both_true (head-fits k i) (stmt-fits s (rest (Pick.head k) i))
  stmt-fits (ReadsStmt.if_then w c s o) h = let i = rest (Pick.word w) h in both_true (condition-fits c i) (both_true (stmt-fits s (rest (Pick.condition c) i)) refl)
  stmt-fits (ReadsStmt.if_else w c s e t) h =
      let i = rest (Pick.word w) h in
      let j = rest (Pick.condition c) i in
      both_true (condition-fits c i) (both_true (stmt-fits s j) (stmt-fits t (rest (Pick.word e) (rest (Pick.stmt s) j))))
  stmt-fits (ReadsStmt.while w c s) h = let i = rest (Pick.word w) h in both_true (condition-fits c i) (stmt-fits s (rest (Pick.condition c) i))
  stmt-fits (ReadsStmt.do_while w b v c e) h = let i = rest (Pick.word w) h in both_true (block-fits b i) (condition-fits c (rest (Pick.word v) (rest (Pick.block b) i)))
  stmt-fits (ReadsStmt.breadth w f b o) h = let i = rest (Pick.word w) h in both_true (search-fits f i) (block-fits b (rest (Pick.search f) i))
  stmt-fits (ReadsStmt.breadth_both w f b r) h =
      let i = rest (Pick.word w) h in
      let j = rest (Pick.search f) i in
      both_true (search-fits f i) (both_true (block-fits b j) (reverse-fits r (rest (Pick.block b) j)))
  stmt-fits (ReadsStmt.return_nothing w e) h = refl
  stmt-fits (ReadsStmt.return_value w e c) h = tree-fits e (rest (Pick.word w) h)

  many-fit : {us vs : List Token} {ss : List SurfaceStmt} → ReadsMany us ss vs → AllSmall us → is_within_limits (sequence ss) ≡ true
  many-fit ReadsMany.none h = refl
  many-fit (ReadsMany.more {ss} {s} r t) h = sequence-behind ss s (many-fit r h) (stmt-fits t (rest (Pick.many r) h))

  block-fits : {us vs : List Token} {ss : List SurfaceStmt} → ReadsBlock us ss vs → AllSmall us → is_within_limits (sequence ss) ≡ true
  block-fits (ReadsBlock.braces l r c) h = many-fit r (rest (Pick.word l) h)

  reverse-fits : {us vs : List Token} {q : Place} {f : SurfaceExpr} {ss : List SurfaceStmt} → ReadsReverse us q f ss vs → AllSmall us → numbers_fit f && is_within_limits (sequence ss) ≡ true
  reverse-fits (ReadsReverse.reverse w f b) h = let i = rest (Pick.word w) h in both_true (filter-fits f i) (block-fits b (rest (Pick.filter f) i))

pub procedure-fits : {us vs : List Token} {p : SurfaceProcedure} → ReadsProcedure us p vs → AllSmall us → is_within_limits p.body ≡ true
procedure-fits (ReadsProcedure.procedure w n l ins outs r t b) h =
    block-fits b (rest (Pick.result t) (rest (Pick.word r) (rest (Pick.outputs outs) (rest (Pick.parameters ins) (rest (Pick.word l) (rest (Pick.name n) (rest (Pick.meant w) h)))))))

-- Derivations of expressions, and how many tokens they take.
use Rattle.std.proofs.Common.{◌≡◌, ◌≤◌, ◌<◌, ◌+◌, ◌-◌, ℕ, ℤ, zero, suc, Bool, List, length, refl, arith, Option, Some, None}
use Rattle.std.specs.Prelude.{◌≢◌, nat_lt, nat_le}
use Rattle.std.proofs.lemmas.Bool.{or_parts, leb-false}
use Rattle.gm_base.specs.declared.places.Place.{Place}
use Rattle.gm_token.specs.declared.words.Word.{Word}
use Rattle.gm_token.specs.declared.words.Word.TheVariants as words
use Rattle.gm_token.specs.Tokens.{Token}
use Rattle.gm_ast.specs.declared.surface.Range.{Range}
use Rattle.gm_ast.specs.Surface.{SurfaceName, SurfaceHead, SurfaceExpr, Always, Number, Truth, Nil, Greatest, Least, Named, Member, Method, Paren, Prefixed, Infixed, Choose, Reduction}
use Rattle.gm_parse.specs.declared.around.Around.{Around}
use Rattle.gm_parse.specs.declared.levels.Level.{Level}
use Rattle.gm_parse.specs.declared.levels.Level.TheVariants as levels
use Rattle.gm_parse.specs.Terminals.{Terminal, The}
use Rattle.gm_parse.specs.Grammar.{Part, Expression, Disjunction, Conjunction, Equality, Relation, Sum, Product, Unary, Primary, Reduction, Head, Braces, Condition, InExpression, Rule, Of, ◌▸◌, ◌∣◌, Maybe, Many, Within, range_sign, value_sign, test_sign, cast_sign, rule}
use Rattle.gm_parse.specs.Grammar as G
use Rattle.gm_parse.specs.Levels.{part_of, operand_of, signs_of}
use Rattle.gm_parse.specs.Derivation.{Pending, Next, Derives}
use Rattle.gm_parse.specs.Trees.{ReadsWord, ReadsAs, ReadsName, ReadsNumber, ReadsTree, ReadsCondition, ReadsFilter, ReadsBraces, ReadsRange, ReadsHead}
use Rattle.gm_depth.specs.Trees.{tree_depth}
use Rattle.gm_depth.proofs.Derivations.{words, Led, both-led, more-led, Derived, Last, part, left, right, absent, present, over}
use Rattle.gm_depth.proofs.Words.{word, name, number, meant, range-has, value-has, test-has, cast-has, infix-has}

-- what stands around the tokens of an expression that begins at a place, in so many statements; and around the statements
abbrev pub deep : ℕ → ℕ → Around
deep n s = record { statements = n; expression = Some s }

abbrev pub flat : ℕ → Around
flat n = record { statements = n; expression = None }

-- an expression in another goes on with it
within : {x : Rule} {n s : ℕ} {us vs : List Token} {P : ℕ → Type 0} → Derived x (deep n s) us vs P → Derived (Within InExpression x) (deep n s) us vs P
within h = record {
  fewer = h.fewer;
  leads = λ i j e p ms d. let l = h.leads i j e p ms d in record { marks = l.marks; derives = Derives.within l.derives; calm = l.calm };
}

-- a token of an expression that is not too deep is one of its first 256
in-reach : (n s j : ℕ) → Last (deep n s) j → j ≤ s + 256
in-reach n s zero h = omega arith
in-reach n s (suc m) h =
    let near : m - s < 256 = leb-false 256 (m - s) (or_parts (nat_lt 64 n) (nat_le 256 (m - s)) (h m refl)).1 in
    omega arith

-- so it takes no more than 256
pub in-reach-of : (n i j : ℕ) (us vs : List Token) → i + length us ≡ j + length vs → Last (deep n i) j → length us ≤ length vs + 256
in-reach-of n i j us vs e h = let near : j ≤ i + 256 = in-reach n i j h in omega arith

-- an outermost expression takes no more than 256 tokens, where none is too deep
pub outermost : {x : Rule} {n : ℕ} {us vs : List Token} → ((s : ℕ) → Derived x (deep n s) us vs (Last (deep n s))) → Derived (Within InExpression x) (flat n) us vs (λ j. length us ≤ length vs + 256)
outermost {x} {n} {us} {vs} h = record {
  fewer = (h 0).fewer;
  leads = λ i j e p ms d.
      let l = (h i).leads i j e p ms d in
      record {
        marks = l.marks;
        derives = Derives.within l.derives;
        calm = λ c. let r = l.calm c in let near : j ≤ i + 256 = in-reach n i j r.0 in let few : length us ≤ length vs + 256 = omega arith in (few, r.1);
      };
}

-- nothing comes behind
kept : {x y : Rule} {a : Around} {us vs : List Token} {P : ℕ → Type 0} → Derived x a us vs P → Derived y a vs vs (λ j. Unit {0}) → Derived (x ▸ y) a us vs P
kept {y} {a} h k = record {
  fewer = h.fewer;
  leads = λ i j e p ms d.
      let second = k.leads j j refl p ms d in
      let l = both-led second (h.leads i j e (Next y a p) second.marks second.derives) in
      record { marks = l.marks; derives = l.derives; calm = λ c. let r = l.calm c in (r.0.0, r.1) };
}

-- ---- rows of operands

abbrev pub more_of : Level → Rule
more_of l = Many (signs_of l ▸ Of (operand_of l))

-- operands of a level, and what goes on with them
pub record OperandRow (l : Level) (a : Around) (us vs : List Token) : Type 0 where
  pub fewer : length vs ≤ length us
  pub leads : (i j : ℕ) → i + length us ≡ j + length vs → (p : Pending) (ms : List Bool) → Derives rule j (Next (more_of l) a p) (words vs) ms → Led (Last a j) i (Next (Of (operand_of l)) a (Next (more_of l) a p)) us ms

row-one : (l : Level) {a : Around} {us vs : List Token} → Derived (Of (operand_of l)) a us vs (Last a) → OperandRow l a us vs
row-one l {a} h = record { fewer = h.fewer; leads = λ i j e p ms d. h.leads i j e (Next (more_of l) a p) ms d }

row-more : (l : Level) {a : Around} {us vs ws : List Token} → OperandRow l a us vs → Derived (signs_of l ▸ Of (operand_of l)) a vs ws (Last a) → OperandRow l a us ws
row-more l {a} {us} {vs} {ws} h k = record {
  fewer = let f : length vs ≤ length us = h.fewer in let g : length ws ≤ length vs = k.fewer in omega arith;
  leads = λ i j e p ms d.
      let f : length vs ≤ length us = h.fewer in
      let mid : ℕ = (i + length us) - length vs in
      let second = k.leads mid j (omega arith) (Next (more_of l) a p) ms d in
      let l = more-led second (h.leads i mid (omega arith) p second.marks (Derives.more second.derives)) in
      record { marks = l.marks; derives = l.derives; calm = λ c. let r = l.calm c in (r.0.1, r.1) };
}

row-end : {l : Level} {a : Around} {us vs : List Token} → OperandRow l a us vs → Derived (Of (operand_of l) ▸ more_of l) a us vs (Last a)
row-end h = record {
  fewer = h.fewer;
  leads = λ i j e p ms d. let l = h.leads i j e p ms (Derives.stop d) in record { marks = l.marks; derives = Derives.both l.derives; calm = l.calm };
}

-- the level of a part whose operators go on
abbrev pub level_of : Part → Option Level
level_of Disjunction = Some levels.Or
level_of Conjunction = Some levels.And
level_of Equality = Some levels.Equality
level_of Sum = Some levels.Sum
level_of Product = Some levels.Product
level_of _ = None

abbrev pub RowLed : Option Level → List Token → List Token → Type 0
RowLed None us vs = Unit {0}
RowLed (Some l) us vs = (n s : ℕ) → OperandRow l (deep n s) us vs

-- an expression of a part is derived, and what goes on with it
pub record IsLed (q : Part) (us vs : List Token) : Type 0 where
  pub led : (n s : ℕ) → Derived (Of q) (deep n s) us vs (Last (deep n s))
  pub row : RowLed (level_of q) us vs

row-at : (l : Level) → l ≢ levels.Relation → {us vs : List Token} → RowLed (level_of (part_of l)) us vs → RowLed (Some l) us vs
row-at levels.Or n r = r
row-at levels.And n r = r
row-at levels.Equality n r = r
row-at levels.Relation n r = absurd (n refl)
row-at levels.Sum n r = r
row-at levels.Product n r = r

-- a row of a level is a part of it
from-row : (l : Level) → l ≢ levels.Relation → {us vs : List Token} → ((n s : ℕ) → OperandRow l (deep n s) us vs) → IsLed (part_of l) us vs
unfolding rule
from-row levels.Or n r = record { led = λ n s. part (row-end (r n s)); row = r }
from-row levels.And n r = record { led = λ n s. part (row-end (r n s)); row = r }
from-row levels.Equality n r = record { led = λ n s. part (row-end (r n s)); row = r }
from-row levels.Relation n r = absurd (n refl)
from-row levels.Sum n r = record { led = λ n s. part (row-end (r n s)); row = r }
from-row levels.Product n r = record { led = λ n s. part (row-end (r n s)); row = r }

-- one operand of a level is a part of it
from-operand : (l : Level) {us vs : List Token} → ((n s : ℕ) → Derived (Of (operand_of l)) (deep n s) us vs (Last (deep n s))) → IsLed (part_of l) us vs
unfolding rule
from-operand levels.Or h = from-row levels.Or (λ e. cc) (λ n s. row-one levels.Or (h n s))
from-operand levels.And h = from-row levels.And (λ e. cc) (λ n s. row-one levels.And (h n s))
from-operand levels.Equality h = from-row levels.Equality (λ e. cc) (λ n s. row-one levels.Equality (h n s))
from-operand levels.Relation h = record { led = λ n s. part (kept (h n s) absent); row = tt }
from-operand levels.Sum h = from-row levels.Sum (λ e. cc) (λ n s. row-one levels.Sum (h n s))
from-operand levels.Product h = from-row levels.Product (λ e. cc) (λ n s. row-one levels.Product (h n s))

-- ---- expressions

pub range : {a : Around} {us vs : List Token} {g : SurfaceName} {r : Range} → ReadsRange us g r vs → Derived (Of G.Range) a us vs (Last a)
unfolding rule
range (ReadsRange.range n d r) = part (over (name n) (over (word d) (meant range_sign range-has r)))

primary : {us vs : List Token} → ((n s : ℕ) → Derived (rule Primary) (deep n s) us vs (Last (deep n s))) → IsLed Primary us vs
primary h = record { led = λ n s. part (h n s); row = tt }

unary : {us vs : List Token} → ((n s : ℕ) → Derived (rule Unary) (deep n s) us vs (Last (deep n s))) → IsLed Unary us vs
unary h = record { led = λ n s. part (h n s); row = tt }

infinite : {a : Around} {us vs : List Token} {p : Place} → ReadsWord (The words.Inf) us p vs → Derived (Of Unary) a us vs (Last a)
unfolding rule
infinite w = part (right (right (right (right (part (right (right (right (right (left (word w)))))))))))

mutual
  unfolding rule

  pub tree : {q : Part} {us vs : List Token} {e : SurfaceExpr} → ReadsTree q us e vs → IsLed q us vs
  tree (ReadsTree.number r) = primary (λ n s. left (number r))
  tree (ReadsTree.truth r) = primary (λ n s. right (left (word r)))
  tree (ReadsTree.falsehood r) = primary (λ n s. right (right (left (word r))))
  tree (ReadsTree.nil r) = primary (λ n s. right (right (right (left (word r)))))
  tree (ReadsTree.greatest r) = primary (λ n s. right (right (right (right (left (word r))))))
  tree (ReadsTree.named r) = primary (λ n s. right (right (right (right (right (right (left (kept (name r) absent))))))))
  tree (ReadsTree.member x d m) = primary (λ n s. right (right (right (right (right (right (left (over (name x) (present (over (word d) (kept (name m) absent)))))))))))
  tree (ReadsTree.method x d m l r) =
      primary (λ n s. right (right (right (right (right (right (left (over (name x) (present (over (word d) (over (name m) (present (over (word l) (word r))))))))))))))
  tree (ReadsTree.parentheses l r c) = let t = tree r in primary (λ n s. right (right (right (right (right (right (right (over (word l) (over (t.led n s) (word c))))))))))
  tree (ReadsTree.reduction w h b) =
      let i = head h in let k = braces b in
      primary (λ n s. right (right (right (right (right (left (part (left (over (meant value_sign value-has w) (over (i n s) (k n s)))))))))))
  tree (ReadsTree.test w h b) =
      let i = head h in let k = braces b in
      primary (λ n s. right (right (right (right (right (left (part (right (over (meant test_sign test-has w) (over (i n s) (present (k n s))))))))))))
  tree (ReadsTree.bare_test w h) =
      let i = head h in
      primary (λ n s. right (right (right (right (right (left (part (right (over (meant test_sign test-has w) (kept (i n s) absent))))))))))
  tree (ReadsTree.primary r) = let t = tree r in unary (λ n s. right (right (right (right (t.led n s)))))
  tree (ReadsTree.negation w r) = let t = tree r in unary (λ n s. left (over (word w) (t.led n s)))
  tree (ReadsTree.minus w o r) = let t = tree r in unary (λ n s. right (left (over (word w) (t.led n s))))
  tree (ReadsTree.least w i) = unary (λ n s. right (left (over (word w) (infinite i))))
  tree (ReadsTree.plus w i) = unary (λ n s. right (right (left (over (word w) (word i)))))
  tree (ReadsTree.cast l t c r) = let u = tree r in unary (λ n s. right (right (right (left (over (word l) (over (meant cast_sign cast-has t) (over (word c) (u.led n s))))))))
  tree (ReadsTree.operand l r) = let t = tree r in from-operand l (λ n s. t.led n s)
  tree (ReadsTree.row l apart a o b) =
      let t = tree a in let u = tree b in
      from-row l apart (λ n s. row-more l (row-at l apart t.row n s) (over (meant (signs_of l) (infix-has l) o) (u.led n s)))
  tree (ReadsTree.comparison a o b) =
      let t = tree a in let u = tree b in
      record { led = λ n s. part (over (t.led n s) (present (over (meant (signs_of levels.Relation) (infix-has levels.Relation) o) (u.led n s)))); row = tt }
  tree (ReadsTree.no_choice r) = let t = tree r in record { led = λ n s. part (within (kept (t.led n s) absent)); row = tt }
  tree (ReadsTree.choice c q a k b) =
      let t = tree c in let u = tree a in let v = tree b in
      record { led = λ n s. part (within (over (t.led n s) (present (over (word q) (over (u.led n s) (over (word k) (v.led n s))))))); row = tt }

  condition : {us vs : List Token} {e : SurfaceExpr} → ReadsCondition us e vs → (n s : ℕ) → Derived (Of Condition) (deep n s) us vs (Last (deep n s))
  condition (ReadsCondition.condition l r c) n s = let t = tree r in part (over (word l) (over (t.led n s) (word c)))

  braces : {us vs : List Token} {e : SurfaceExpr} {q : Place} → ReadsBraces us e q vs → (n s : ℕ) → Derived (Of Braces) (deep n s) us vs (Last (deep n s))
  braces (ReadsBraces.braces l r c) n s = let t = tree r in part (over (word l) (over (t.led n s) (word c)))

  head : {us vs : List Token} {h : SurfaceHead} {f : SurfaceExpr} → ReadsHead us h f vs → (n s : ℕ) → Derived (Of Head) (deep n s) us vs (Last (deep n s))
  head (ReadsHead.head l x c g r ReadsFilter.absent) n s = part (over (word l) (over (name x) (over (word c) (over (range g) (kept (word r) absent)))))
  head (ReadsHead.head l x c g r (ReadsFilter.present f)) n s = let t = condition f n s in part (over (word l) (over (name x) (over (word c) (over (range g) (over (word r) (present t))))))

-- ---- each level takes a token or more

word-one : {k : Terminal} {us vs : List Token} {p : Place} → ReadsWord k us p vs → length us ≡ suc (length vs)
word-one (ReadsWord.word f) = refl

name-one : {us vs : List Token} {x : SurfaceName} → ReadsName us x vs → length us ≡ suc (length vs)
name-one (ReadsName.name f) = refl

meant-one : {A : Type 0} {meaning : Word → Option A} {us vs : List Token} {x : A} {p : Place} → ReadsAs meaning us x p vs → length us ≡ suc (length vs)
meant-one (ReadsAs.word e) = refl

number-one : {us vs : List Token} {p : Place} {n : ℤ} → ReadsNumber us p n vs → length us ≡ suc (length vs)
number-one (ReadsNumber.number f) = refl

range-three : {us vs : List Token} {g : SurfaceName} {r : Range} → ReadsRange us g r vs → length us ≡ 3 + length vs
range-three (ReadsRange.range n d r) = omega (arith, name-one n, word-one d, meant-one r)

level-one : (e : SurfaceExpr) → 1 ≤ tree_depth e
level-one Always = omega arith
level-one (Number at n) = omega arith
level-one (Truth at b) = omega arith
level-one (Nil at) = omega arith
level-one (Greatest at) = omega arith
level-one (Least at) = omega arith
level-one (Named x) = omega arith
level-one (Member x p) = omega arith
level-one (Method x m) = omega arith
level-one (Paren at e) = omega arith
level-one (Prefixed at op e) = omega arith
level-one (Infixed at op a b) = omega arith
level-one (Choose at c a b) = omega arith
level-one (Reduction at word h filter body close) = omega arith

-- an expression that is read has a level
one-read : {q : Part} {us vs : List Token} {e : SurfaceExpr} → ReadsTree q us e vs → 1 ≤ tree_depth e
one-read {e} r = level-one e

mutual
  pub tree-tokens : {q : Part} {us vs : List Token} {e : SurfaceExpr} → ReadsTree q us e vs → tree_depth e + length vs ≤ length us
  tree-tokens (ReadsTree.number r) = omega (arith, number-one r)
  tree-tokens (ReadsTree.truth r) = omega (arith, word-one r)
  tree-tokens (ReadsTree.falsehood r) = omega (arith, word-one r)
  tree-tokens (ReadsTree.nil r) = omega (arith, word-one r)
  tree-tokens (ReadsTree.greatest r) = omega (arith, word-one r)
  tree-tokens (ReadsTree.named r) = omega (arith, name-one r)
  tree-tokens (ReadsTree.member x d m) = omega (arith, name-one x, word-one d, name-one m)
  tree-tokens (ReadsTree.method x d m l r) = omega (arith, name-one x, word-one d, name-one m, word-one l, word-one r)
  tree-tokens (ReadsTree.parentheses l r c) = omega (arith, word-one l, tree-tokens r, word-one c)
  tree-tokens (ReadsTree.reduction w h b) = omega (arith, meant-one w, head-tokens h, braces-tokens b)
  tree-tokens (ReadsTree.test w h b) = omega (arith, meant-one w, head-tokens h, braces-tokens b)
  tree-tokens (ReadsTree.bare_test w h) = omega (arith, meant-one w, head-tokens h)
  tree-tokens (ReadsTree.primary r) = tree-tokens r
  tree-tokens (ReadsTree.negation w r) = omega (arith, word-one w, tree-tokens r)
  tree-tokens (ReadsTree.minus w o r) = omega (arith, word-one w, tree-tokens r)
  tree-tokens (ReadsTree.least w i) = omega (arith, word-one w, word-one i)
  tree-tokens (ReadsTree.plus w i) = omega (arith, word-one w, word-one i)
  tree-tokens (ReadsTree.cast l t c r) = omega (arith, word-one l, meant-one t, word-one c, tree-tokens r)
  tree-tokens (ReadsTree.operand l r) = tree-tokens r
  tree-tokens (ReadsTree.row l n a o b) = omega (arith, tree-tokens a, meant-one o, tree-tokens b, one-read a, one-read b)
  tree-tokens (ReadsTree.comparison a o b) = omega (arith, tree-tokens a, meant-one o, tree-tokens b, one-read a, one-read b)
  tree-tokens (ReadsTree.no_choice r) = tree-tokens r
  tree-tokens (ReadsTree.choice c q a k b) = omega (arith, tree-tokens c, word-one q, tree-tokens a, word-one k, tree-tokens b)

  condition-tokens : {us vs : List Token} {e : SurfaceExpr} → ReadsCondition us e vs → tree_depth e + (2 + length vs) ≤ length us
  condition-tokens (ReadsCondition.condition l r c) = omega (arith, word-one l, tree-tokens r, word-one c)

  braces-tokens : {us vs : List Token} {e : SurfaceExpr} {q : Place} → ReadsBraces us e q vs → tree_depth e + (2 + length vs) ≤ length us
  braces-tokens (ReadsBraces.braces l r c) = omega (arith, word-one l, tree-tokens r, word-one c)

  head-tokens : {us vs : List Token} {h : SurfaceHead} {f : SurfaceExpr} → ReadsHead us h f vs → tree_depth f + (2 + length vs) ≤ length us
  head-tokens (ReadsHead.head l x c g r ReadsFilter.absent) = omega (arith, word-one l, name-one x, word-one c, range-three g, word-one r)
  head-tokens (ReadsHead.head l x c g r (ReadsFilter.present f)) = omega (arith, word-one l, name-one x, word-one c, range-three g, word-one r, condition-tokens f)

-- Derivations of statements and procedures, in which no expression has more than 256 levels where no token is too deep.
use Rattle.std.proofs.Common.{◌≡◌, ◌≤◌, ◌+◌, ℕ, suc, Bool, true, List, [], ◌∷◌, ◌++◌, length, refl, arith, Option}
use Rattle.std.specs.Cmp.Derive.{both_true}
use Rattle.std.proofs.lemmas.Bool.{le-leb}
use Rattle.gm_base.specs.declared.places.Place.{Place}
use Rattle.gm_token.specs.declared.words.Word.{Word}
use Rattle.gm_token.specs.declared.words.Word.TheVariants as words
use Rattle.gm_token.specs.Tokens.{Token}
use Rattle.gm_ast.specs.Surface.{SurfaceName, SurfaceType, SurfaceHead, SurfaceTarget, SurfaceExpr, SurfaceStmt, SurfaceGroup, SurfaceProcedure, sequence}
use Rattle.gm_parse.specs.declared.around.Around.{Around}
use Rattle.gm_parse.specs.Grammar as G
use Rattle.gm_parse.specs.Grammar.{Part, Expression, InStatement, InExpression, Rule, Of, ◌▸◌, ◌∣◌, Maybe, Many, Attached, Within, the, a_name, bare_sign, element_sign, bearer_sign, loop_word_sign, procedure_sign, argument_sign, from_sign, a_tuple, an_entry, rule}
use Rattle.gm_parse.specs.Derivation.{Pending, Next, Derives}
use Rattle.gm_parse.specs.Trees.{ReadsNames, ReadsOf, ReadsType, ReadsTree, ReadsCondition, ReadsFilter, ReadsHead, ReadsTarget, ReadsEntries, ReadsTuple, ReadsAt, ReadsFrom, ReadsSearch, ReadsStmt, ReadsMany, ReadsBlock, ReadsReverse, ReadsGroup, ReadsGroups, ReadsParameters, ReadsOutputs, ReadsResult, ReadsProcedure}
use Rattle.gm_depth.specs.Trees.{tree_depth, is_tree_within, are_trees_within, trees_within, is_shallow_tree}
use Rattle.gm_depth.proofs.Derivations.{Derived, Onwards, weaker, pass, part, left, right, absent, present, also, over, begun, goes_on, many, detached, attached}
use Rattle.gm_depth.proofs.Words.{word, name, meant, procedure-has, bare-has, element-has, bearer-has, loop-has, reduce-has, argument-has}
use Rattle.gm_depth.proofs.Expressions.{deep, flat, in-reach-of, outermost, range, tree, tree-tokens}

-- an expression has no more than 256 levels
abbrev Few : SurfaceExpr → Type 0
Few e = is_tree_within 256 e ≡ true

abbrev AllFew : SurfaceStmt → Type 0
AllFew s = trees_within 256 s ≡ true

abbrev EachFew : List SurfaceStmt → Type 0
EachFew [] = Unit {0}
EachFew (s ∷ ss) = AllFew s × EachFew ss

each-behind : (ss : List SurfaceStmt) (s : SurfaceStmt) → EachFew ss → AllFew s → EachFew (ss ++ s ∷ [])
each-behind [] s h k = (k, tt)
each-behind (t ∷ ss) s h k = (h.0, each-behind ss s h.1 k)

sequence-few : (ss : List SurfaceStmt) → EachFew ss → AllFew (sequence ss)
sequence-few [] h = refl
sequence-few (s ∷ ss) h = both_true h.0 (sequence-few ss h.1)

abbrev Each : {A : Type 0} → (A → Type 0) → List A → Type 0
Each P [] = Unit {0}
Each P (y ∷ ys) = P y × Each P ys

each-more : {A : Type 0} (P : A → Type 0) (ys : List A) (y : A) → Each P ys → P y → Each P (ys ++ y ∷ [])
each-more P [] y h k = (k, tt)
each-more P (z ∷ ys) y h k = (h.0, each-more P ys y h.1 k)

-- the first of two parts holds
pub first-of : {x y : Rule} {a : Around} {us vs ws : List Token} {P : Type 0} {R : ℕ → Type 0} → Derived x a us vs (λ j. P) → Derived y a vs ws R → Derived (x ▸ y) a us ws (λ j. P)
first-of h k = weaker (λ j g. g.0) (also h k)

pub lessen : {x : Rule} {a : Around} {us vs : List Token} {P R : Type 0} → (P → R) → Onwards x a us vs P → Onwards x a us vs R
lessen f h = record {
  fewer = h.fewer;
  leads = λ i j e p ms d. let l = h.leads i j e p ms d in record { marks = l.marks; derives = l.derives; calm = λ c. let r = l.calm c in (f r.0, r.1) };
}

-- ---- expressions

undo-part : {q : Part} {i : ℕ} {a : Around} {p : Pending} {ws : List Word} {ms : List Bool} → Derives rule i (Next (Of q) a p) ws ms → Derives rule i (Next (rule q) a p) ws ms
undo-part (Derives.part d) = d

undo-within : {x : Rule} {i n s : ℕ} {p : Pending} {ws : List Word} {ms : List Bool} → Derives rule i (Next (Within InExpression x) (deep n s) p) ws ms → Derives rule i (Next x (deep n s) p) ws ms
undo-within (Derives.within d) = d

-- an expression as the part of another is one as a whole, where it begins
lifted : {n i : ℕ} {p : Pending} {ws : List Word} {ms : List Bool} → Derives rule i (Next (Of Expression) (deep n i) p) ws ms → Derives rule i (Next (Of Expression) (flat n) p) ws ms
unfolding rule
lifted d = Derives.part (Derives.within (undo-within (undo-part d)))

few : (e : SurfaceExpr) (us vs : List Token) → tree_depth e + length vs ≤ length us → length us ≤ length vs + 256 → Few e
few e us vs h k = le-leb (tree_depth e) 256 (omega arith)

whole : {n : ℕ} {us vs : List Token} {e : SurfaceExpr} → ReadsTree Expression us e vs → Derived (Of Expression) (flat n) us vs (λ j. Few e)
whole {n} {us} {vs} {e} r = record {
  fewer = ((tree r).led n 0).fewer;
  leads = λ i j h p ms d.
      let l = ((tree r).led n i).leads i j h p ms d in
      record { marks = l.marks; derives = lifted l.derives; calm = λ c. let g = l.calm c in (few e us vs (tree-tokens r) (in-reach-of n i j us vs h g.0), g.1) };
}

entry : {n : ℕ} {us vs : List Token} {e : SurfaceExpr} → ReadsTree G.Sum us e vs → Derived an_entry (flat n) us vs (λ j. Few e)
entry {n} {us} {vs} {e} r = weaker (λ j h. few e us vs (tree-tokens r) h) (outermost (λ s. (tree r).led n s))

pub condition : {n : ℕ} {us vs : List Token} {e : SurfaceExpr} → ReadsCondition us e vs → Derived (Of G.Condition) (flat n) us vs (λ j. Few e)
unfolding rule
condition (ReadsCondition.condition l r c) = part (over (word l) (first-of (whole r) (word c)))

pub filter : {n : ℕ} {us vs : List Token} {e : SurfaceExpr} → ReadsFilter us e vs → Derived (Maybe (Of G.Condition)) (flat n) us vs (λ j. Few e)
filter ReadsFilter.absent = weaker (λ j h. refl) absent
filter (ReadsFilter.present r) = present (condition r)

pub head : {n : ℕ} {us vs : List Token} {h : SurfaceHead} {f : SurfaceExpr} → ReadsHead us h f vs → Derived (Of G.Head) (flat n) us vs (λ j. Few f)
unfolding rule
head (ReadsHead.head l x c g r f) = part (over (word l) (over (name x) (over (word c) (over (range g) (over (word r) (filter f))))))

-- one of some, and others behind it
record Several (a : Around) (x y : Rule) (us vs : List Token) : Type 0 where
  mid : List Token
  first : Derived x a us mid (λ j. Unit {0})
  rest : Onwards y a mid vs (Unit {0})

-- ---- types, names and targets

module _ {a : Around} where
  of-graph : {us vs : List Token} {x : Option SurfaceName} → ReadsOf us x vs → Derived (Maybe (Of G.OfGraph)) a us vs (λ j. Unit {0})
  unfolding rule
  of-graph ReadsOf.absent = absent
  of-graph (ReadsOf.present l n r) = present (part (over (word l) (over (name n) (pass (word r)))))

  vtype : {us vs : List Token} {t : SurfaceType} → ReadsType us t vs → Derived (Of G.TypeName) a us vs (λ j. Unit {0})
  unfolding rule
  vtype (ReadsType.bare w) = part (left (pass (meant bare_sign bare-has w)))
  vtype (ReadsType.element w g) = part (right (left (over (meant element_sign element-has w) (of-graph g))))
  vtype (ReadsType.property w l t r g) = part (right (right (over (meant bearer_sign bearer-has w) (over (word l) (over (vtype t) (over (word r) (of-graph g)))))))

  several-more : {x y : Rule} {us vs ws : List Token} {P : ℕ → Type 0} → Several a x y us vs → Derived y a vs ws P → Several a x y us ws
  several-more h k = record { mid = h.mid; first = h.first; rest = lessen (λ u. tt) (goes_on h.rest (pass k)) }

  names : {us vs : List Token} {xs : List SurfaceName} → ReadsNames us xs vs → Several a a_name (the words.Comma ▸ a_name) us vs
  names {vs} (ReadsNames.one r) = record { mid = vs; first = pass (name r); rest = begun }
  names (ReadsNames.more r c n) = several-more (names r) (over (word c) (name n))

  target : {us vs : List Token} {t : SurfaceTarget} → ReadsTarget us t vs → Derived (Of G.Target) a us vs (λ j. Unit {0})
  unfolding rule
  target (ReadsTarget.name r) = part (over (name r) absent)
  target (ReadsTarget.property x d m) = part (over (name x) (present (over (word d) (pass (name m)))))

  at-name : {us vs : List Token} {x : Option SurfaceName} → ReadsAt us x vs → Derived (Maybe (Of G.AtName)) a us vs (λ j. Unit {0})
  unfolding rule
  at-name ReadsAt.absent = absent
  at-name (ReadsAt.present l n) = present (part (over (word l) (pass (name n))))

  from : {us vs : List Token} → ReadsFrom us vs → Derived from_sign a us vs (λ j. Unit {0})
  from (ReadsFrom.from w) = left (pass (word w))
  from (ReadsFrom.semicolon w) = right (pass (word w))

  -- ---- tuples

  module _ {A : Type 0} {ReadsOne : List Token → A → List Token → Type 0} (x : Rule) (P : A → Type 0)
      (one : (us vs : List Token) (y : A) → ReadsOne us y vs → Derived x a us vs (λ j. P y)) where
    record Entries (us vs : List Token) (ys : List A) : Type 1 where
      after : List Token
      first_end : List Token
      second_end : List Token
      First : Type 0
      Second : Type 0
      Others : Type 0
      first : Derived x a us first_end (λ j. First)
      mark : Derived (the words.Semicolon) a first_end after (λ j. Unit {0})
      second : Derived x a after second_end (λ j. Second)
      rest : Onwards (the words.Comma ▸ x) a second_end vs Others
      all : First → Second → Others → Each P ys

    entries : {us vs : List Token} {ys : List A} → ReadsEntries ReadsOne us ys vs → Entries us vs ys
    entries (ReadsEntries.two {us} {vs} {ws} {xs} {a = y} {b = z} r s t) = record {
      after = ws;
      first_end = vs;
      second_end = xs;
      First = P y;
      Second = P z;
      Others = Unit {0};
      first = one us vs y r;
      mark = pass (word s);
      second = one ws xs z t;
      rest = begun;
      all = λ f g u. (f, (g, tt));
    }
    entries (ReadsEntries.more {vs} {ws} {xs} {es} {a = y} r c t) =
        let h = entries r in
        record {
          after = h.after;
          first_end = h.first_end;
          second_end = h.second_end;
          First = h.First;
          Second = h.Second;
          Others = h.Others × P y;
          first = h.first;
          mark = h.mark;
          second = h.second;
          rest = goes_on h.rest (over (word c) (one ws xs y t));
          all = λ f g u. each-more P es y (h.all f g u.0) u.1;
        }

    tuple : {us vs : List Token} {ys : List A} → ReadsTuple ReadsOne us ys vs → Derived (a_tuple x) a us vs (λ j. Each P ys)
    tuple (ReadsTuple.tuple {es} l r g) =
        let h = entries r in
        over (word l) (weaker (λ j t. h.all t.0 t.1.0 t.1.1) (also h.first (over h.mark (also h.second (first-of (many h.rest) (word g))))))

pub search : {n : ℕ} {us vs : List Token} {x g r : SurfaceName} {f : SurfaceExpr} → ReadsSearch us x g r f vs → Derived (Of G.SearchHead) (flat n) us vs (λ j. Few f)
unfolding rule
search (ReadsSearch.front l x c g d n f r q t) = part (over (word l) (over (name x) (over (word c) (over (name g) (over (word d) (over (word n) (over (from f) (over (name r) (over (word q) (filter t))))))))))

-- ---- statements

-- what stands in a statement
pub statement : {n : ℕ} {us vs : List Token} {x : Rule} {P : Type 0} → Derived x (flat (suc n)) us vs (λ j. P) → Derived (Within InStatement x) (flat n) us vs (λ j. P)
statement h = record {
  fewer = h.fewer;
  leads = λ i j e p ms d. let l = h.leads i j e p ms d in record { marks = l.marks; derives = Derives.within l.derives; calm = l.calm };
}

values-few : (es : List SurfaceExpr) → Each Few es → are_trees_within 256 es ≡ true
values-few [] h = refl
values-few (e ∷ es) h = both_true h.0 (values-few es h.1)

mutual
  unfolding rule

  pub stmt : {us vs : List Token} {s : SurfaceStmt} → ReadsStmt us s vs → (n : ℕ) → Derived (Of G.Statement) (flat n) us vs (λ j. AllFew s)
  stmt (ReadsStmt.block b) n = let k = block b (suc n) in part (statement (left (k)))
  stmt (ReadsStmt.empty w) n = part (statement (right (left (weaker (λ j u. refl) (pass (word w))))))
  stmt (ReadsStmt.declare t m w) n = let ns = names m in part (statement (right (right (left (over (vtype t) (over ns.first (over (right (many ns.rest)) (weaker (λ j u. refl) (pass (word w))))))))))
  stmt (ReadsStmt.declare_as t m a e w) n = part (statement (right (right (left (over (vtype t) (over (name m) (first-of (left (over (word a) (whole e))) (word w))))))))
  stmt (ReadsStmt.assign t a e w) n = part (statement (right (right (right (left (over (target t) (over (word a) (first-of (whole e) (word w)))))))))
  stmt (ReadsStmt.defer t a e x w) n = part (statement (right (right (right (right (left (over (target t) (over (word a) (first-of (whole e) (over (at-name x) (word w)))))))))))
  stmt (ReadsStmt.reduce t o e x w) n = part (statement (right (right (right (right (right (left (over (target t) (over (part (meant (rule G.ReduceSign) reduce-has o)) (weaker (λ j g. both_true g refl) (first-of (whole e) (over (at-name x) (word w)))))))))))))
  stmt (ReadsStmt.reduce_tuple ts o es x w) n = part (statement (right (right (right (right (right (right (right (right (right (right (right (right (left (over (tuple (Of G.Target) (λ t. Unit {0}) (λ us vs t r. target r) ts) (over (meant argument_sign argument-has o) (weaker (λ j g. values-few _ g) (first-of (tuple an_entry Few (λ us vs e r. entry r) es) (over (at-name x) (word w))))))))))))))))))))
  stmt (ReadsStmt.increment t o w) n = part (statement (right (right (right (right (right (right (left (over (target t) (over (word o) (weaker (λ j u. refl) (pass (word w)))))))))))))
  stmt (ReadsStmt.loop w h s) n = let k = stmt s (suc n) in part (statement (right (right (right (right (right (right (right (left (over (meant loop_word_sign loop-has w) (weaker (λ j g. both_true g.0 g.1) (also (head h) k))))))))))))
  stmt (ReadsStmt.if_then w c s o) n = let k = stmt s (suc n) in part (statement (right (right (right (right (right (right (right (right (left (over (word w) (weaker (λ j g. both_true g.0 (both_true g.1.0 refl)) (also (condition c) (also k (detached o)))))))))))))))
  stmt (ReadsStmt.if_else w c s e t) n = let k = stmt s (suc n) in let l = stmt t (suc n) in part (statement (right (right (right (right (right (right (right (right (left (over (word w) (weaker (λ j g. both_true g.0 (both_true g.1.0 g.1.1)) (also (condition c) (also k (attached (over (word e) l))))))))))))))))
  stmt (ReadsStmt.while w c s) n = let k = stmt s (suc n) in part (statement (right (right (right (right (right (right (right (right (right (left (over (word w) (weaker (λ j g. both_true g.0 g.1) (also (condition c) k))))))))))))))
  stmt (ReadsStmt.do_while w b v c e) n = let k = block b (suc n) in part (statement (right (right (right (right (right (right (right (right (right (right (left (over (word w) (weaker (λ j g. both_true g.0 g.1) (also k (over (word v) (first-of (condition c) (word e))))))))))))))))))
  stmt (ReadsStmt.breadth w f b o) n = let k = block b (suc n) in part (statement (right (right (right (right (right (right (right (right (right (right (right (left (over (word w) (weaker (λ j g. both_true g.0 g.1) (also (search f) (first-of k absent)))))))))))))))))
  stmt (ReadsStmt.breadth_both w f b r) n = let k = block b (suc n) in let l = reverse r (suc n) in part (statement (right (right (right (right (right (right (right (right (right (right (right (left (over (word w) (weaker (λ j g. both_true g.0 (both_true g.1.0 (both_true g.1.1.0 g.1.1.1))) (also (search f) (also k (present l))))))))))))))))))
  stmt (ReadsStmt.return_nothing w e) n = part (statement (right (right (right (right (right (right (right (right (right (right (right (right (right (over (word w) (over absent (weaker (λ j u. refl) (pass (word e)))))))))))))))))))
  stmt (ReadsStmt.return_value w e q) n = part (statement (right (right (right (right (right (right (right (right (right (right (right (right (right (over (word w) (first-of (present (whole e)) (word q)))))))))))))))))

  stmts : {us vs : List Token} {ss : List SurfaceStmt} → ReadsMany us ss vs → (n : ℕ) → Onwards (Of G.Statement) (flat n) us vs (EachFew ss)
  stmts ReadsMany.none n = begun
  stmts (ReadsMany.more {ss} {s} r t) n = let h = stmts r n in let k = stmt t n in lessen (λ g. each-behind ss s g.0 g.1) (goes_on h k)

  block : {us vs : List Token} {ss : List SurfaceStmt} → ReadsBlock us ss vs → (n : ℕ) → Derived (Of G.Block) (flat n) us vs (λ j. AllFew (sequence ss))
  block (ReadsBlock.braces {ss} l r c) n = let h = stmts r n in part (over (word l) (first-of (weaker (λ j g. sequence-few ss g) (many h)) (word c)))

  reverse : {us vs : List Token} {p : Place} {f : SurfaceExpr} {ss : List SurfaceStmt} → ReadsReverse us p f ss vs → (n : ℕ) → Derived (Of G.Reverse) (flat n) us vs (λ j. Few f × AllFew (sequence ss))
  reverse (ReadsReverse.reverse w f b) n = let k = block b n in part (over (word w) (also (filter f) k))

-- ---- procedures

module _ {a : Around} where
  group : {us vs : List Token} {g : SurfaceGroup} → ReadsGroup us g vs → Derived (Of G.Group) a us vs (λ j. Unit {0})
  unfolding rule
  group (ReadsGroup.group m c t) = let ns = names m in part (over ns.first (over (many ns.rest) (over (word c) (vtype t))))

  groups : {us vs : List Token} {gs : List SurfaceGroup} → ReadsGroups us gs vs → Several a (Of G.Group) (the words.Comma ▸ Of G.Group) us vs
  groups {vs} (ReadsGroups.one r) = record { mid = vs; first = group r; rest = begun }
  groups (ReadsGroups.more r c g) = several-more (groups r) (over (word c) (group g))

  pub parameters : {us vs : List Token} {gs : List SurfaceGroup} → ReadsParameters us gs vs → Derived (Maybe (Of G.Parameters)) a us vs (λ j. Unit {0})
  unfolding rule
  parameters ReadsParameters.absent = absent
  parameters (ReadsParameters.present r) = let gs = groups r in present (part (over gs.first (many gs.rest)))

  pub outputs : {us vs : List Token} {gs : List SurfaceGroup} → ReadsOutputs us gs vs → Derived (Maybe (the words.Semicolon ▸ Maybe (Of G.Parameters))) a us vs (λ j. Unit {0})
  outputs ReadsOutputs.absent = absent
  outputs (ReadsOutputs.present w r) = present (over (word w) (parameters r))

  pub result : {us vs : List Token} {t : Option SurfaceType} → ReadsResult us t vs → Derived (Maybe (the words.Colon ▸ Of G.TypeName)) a us vs (λ j. Unit {0})
  result ReadsResult.absent = absent
  result (ReadsResult.present w t) = present (over (word w) (vtype t))

pub procedure : {us vs : List Token} {p : SurfaceProcedure} → ReadsProcedure us p vs → Derived (Of G.Program) (flat 0) us vs (λ j. is_shallow_tree p ≡ true)
unfolding rule
procedure (ReadsProcedure.procedure w n l i o r t b) =
    part (part (over (meant procedure_sign procedure-has w) (over (name n) (over (word l) (over (parameters i) (over (outputs o) (over (word r) (over (result t) (block b 0)))))))))

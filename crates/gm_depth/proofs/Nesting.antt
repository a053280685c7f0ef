-- Derivations of statements, in which no more Ifs stand within one another than statements may where no token is too deep.
use Rattle.std.proofs.Common.{◌≡◌, ◌≤◌, ◌-◌, ℕ, suc, false, List, [], ◌∷◌, ◌++◌, length, refl, arith}
use Rattle.std.specs.Prelude.{nat_lt}
use Rattle.std.proofs.lemmas.Bool.{or_parts, ltb-false}
use Rattle.gm_base.specs.declared.places.Place.{Place}
use Rattle.gm_token.specs.Tokens.{Token}
use Rattle.gm_ast.specs.Surface.{SurfaceExpr, SurfaceStmt, SurfaceProcedure, sequence}
use Rattle.gm_parse.specs.Terminals.{Terminal}
use Rattle.gm_parse.specs.Grammar as G
use Rattle.gm_parse.specs.Grammar.{Of, rule, loop_word_sign, procedure_sign}
use Rattle.gm_parse.specs.Derivation.{is_too_deep}
use Rattle.gm_parse.specs.Trees.{ReadsWord, ReadsStmt, ReadsMany, ReadsBlock, ReadsReverse, ReadsProcedure}
use Rattle.gm_depth.specs.Nesting.{tree_nesting}
use Rattle.gm_depth.proofs.Derivations.{Derived, Onwards, Last, weaker, part, left, right, token, absent, present, also, over, begun, goes_on, many, detached, attached}
use Rattle.gm_depth.proofs.Words.{word, name, meant, procedure-has, loop-has}
use Rattle.gm_depth.proofs.Expressions.{flat}
use Rattle.gm_depth.proofs.Statements.{first-of, lessen, condition, filter, head, search, statement, stmt, parameters, outputs, result}

-- a token that is not too deep stands in no more than 64 statements
few-statements : (n i : ℕ) → is_too_deep (flat n) i ≡ false → n ≤ 64
few-statements n i h = ltb-false 64 n (or_parts (nat_lt 64 n) false h).0

-- so one that is not too deep derives it
shallow-token : {k : Terminal} {n : ℕ} {us vs : List Token} → length us ≡ suc (length vs) → Derived (G.Token k) (flat n) us vs (Last (flat n)) → Derived (G.Token k) (flat n) us vs (λ j. n ≤ 64)
shallow-token {n} one h = record {
  fewer = h.fewer;
  leads = λ i j e p ms d. let l = h.leads i j e p ms d in record { marks = l.marks; derives = l.derives; calm = λ c. let r = l.calm c in (few-statements n i (r.0 i (omega arith)), r.1) };
}

shallow-word : {k : Terminal} {n : ℕ} {us vs : List Token} {p : Place} → ReadsWord k us p vs → Derived (G.Token k) (flat n) us vs (λ j. n ≤ 64)
shallow-word (ReadsWord.word f) = shallow-token refl (token f)

-- in each of some statements stand no more Ifs within one another than a limit
abbrev EachNests : ℕ → List SurfaceStmt → Type 0
EachNests m [] = Unit {0}
EachNests m (s ∷ ss) = (tree_nesting s ≤ m) × EachNests m ss

each-behind : (m : ℕ) (ss : List SurfaceStmt) (s : SurfaceStmt) → EachNests m ss → tree_nesting s ≤ m → EachNests m (ss ++ s ∷ [])
each-behind m [] s h k = (k, tt)
each-behind m (t ∷ ss) s h k = (h.0, each-behind m ss s h.1 k)

sequence-nests : (m : ℕ) (ss : List SurfaceStmt) → EachNests m ss → tree_nesting (sequence ss) ≤ m
sequence-nests m [] h = omega arith
sequence-nests m (s ∷ ss) h = let x : tree_nesting s ≤ m = h.0 in let y : tree_nesting (sequence ss) ≤ m = sequence-nests m ss h.1 in omega arith

-- a statement without others in it
alone : {n : ℕ} {us vs : List Token} {s : SurfaceStmt} → tree_nesting s ≡ 0 → ReadsStmt us s vs → Derived (Of G.Statement) (flat n) us vs (λ j. tree_nesting s ≤ 64 - n)
alone {n} {s} none r = weaker (λ j h. omega arith) (stmt r n)

mutual
  unfolding rule

  nested : {us vs : List Token} {s : SurfaceStmt} → ReadsStmt us s vs → (n : ℕ) → Derived (Of G.Statement) (flat n) us vs (λ j. tree_nesting s ≤ 64 - n)
  nested (ReadsStmt.block b) n = let k = block b (suc n) in weaker (λ j h. omega arith) (part (statement (left k)))
  nested (ReadsStmt.loop w h s) n = let k = nested s (suc n) in weaker (λ j h. omega arith) (part (statement (right (right (right (right (right (right (right (left (over (meant loop_word_sign loop-has w) (over (head h) k))))))))))))
  nested (ReadsStmt.if_then w c s o) n =
      let k = nested s (suc n) in
      weaker (λ j h. let few : suc n ≤ 64 = h.0 in let x = h.1 in omega arith) (part (statement (right (right (right (right (right (right (right (right (left (also (shallow-word w) (over (condition c) (first-of k (detached o)))))))))))))))
  nested (ReadsStmt.if_else w c s e t) n =
      let k = nested s (suc n) in
      let l = nested t (suc n) in
      weaker (λ j h. let few : suc n ≤ 64 = h.0 in let x = h.1.0 in let y = h.1.1 in omega arith)
      (part (statement (right (right (right (right (right (right (right (right (left (also (shallow-word w) (over (condition c) (also k (attached (over (word e) l))))))))))))))))
  nested (ReadsStmt.while w c s) n = let k = nested s (suc n) in weaker (λ j h. omega arith) (part (statement (right (right (right (right (right (right (right (right (right (left (over (word w) (over (condition c) k))))))))))))))
  nested (ReadsStmt.do_while w b v c e) n =
      let k = block b (suc n) in
      weaker (λ j h. omega arith) (part (statement (right (right (right (right (right (right (right (right (right (right (left (over (word w) (first-of k (over (word v) (over (condition c) (word e))))))))))))))))))
  nested (ReadsStmt.breadth w f b o) n =
      let k = block b (suc n) in
      weaker (λ j h. omega arith) (part (statement (right (right (right (right (right (right (right (right (right (right (right (left (over (word w) (over (search f) (first-of k absent)))))))))))))))))
  nested (ReadsStmt.breadth_both w f b r) n =
      let k = block b (suc n) in
      let l = reverse r (suc n) in
      weaker (λ j h. let x = h.0 in let y = h.1 in omega arith) (part (statement (right (right (right (right (right (right (right (right (right (right (right (left (over (word w) (over (search f) (also k (present l))))))))))))))))))
  nested (ReadsStmt.empty w) n = alone refl (ReadsStmt.empty w)
  nested (ReadsStmt.declare t m w) n = alone refl (ReadsStmt.declare t m w)
  nested (ReadsStmt.declare_as t m a e w) n = alone refl (ReadsStmt.declare_as t m a e w)
  nested (ReadsStmt.assign t a e w) n = alone refl (ReadsStmt.assign t a e w)
  nested (ReadsStmt.defer t a e x w) n = alone refl (ReadsStmt.defer t a e x w)
  nested (ReadsStmt.reduce t o e x w) n = alone refl (ReadsStmt.reduce t o e x w)
  nested (ReadsStmt.reduce_tuple ts o es x w) n = alone refl (ReadsStmt.reduce_tuple ts o es x w)
  nested (ReadsStmt.increment t o w) n = alone refl (ReadsStmt.increment t o w)
  nested (ReadsStmt.return_nothing w e) n = alone refl (ReadsStmt.return_nothing w e)
  nested (ReadsStmt.return_value w e q) n = alone refl (ReadsStmt.return_value w e q)

  statements : {us vs : List Token} {ss : List SurfaceStmt} → ReadsMany us ss vs → (n : ℕ) → Onwards (Of G.Statement) (flat n) us vs (EachNests (64 - n) ss)
  statements ReadsMany.none n = begun
  statements (ReadsMany.more {ss} {s} r t) n = let h = statements r n in let k = nested t n in lessen (λ g. each-behind (64 - n) ss s g.0 g.1) (goes_on h k)

  block : {us vs : List Token} {ss : List SurfaceStmt} → ReadsBlock us ss vs → (n : ℕ) → Derived (Of G.Block) (flat n) us vs (λ j. tree_nesting (sequence ss) ≤ 64 - n)
  block (ReadsBlock.braces {ss} l r c) n = let h = statements r n in part (over (word l) (first-of (weaker (λ j g. sequence-nests (64 - n) ss g) (many h)) (word c)))

  reverse : {us vs : List Token} {p : Place} {f : SurfaceExpr} {ss : List SurfaceStmt} → ReadsReverse us p f ss vs → (n : ℕ) → Derived (Of G.Reverse) (flat n) us vs (λ j. tree_nesting (sequence ss) ≤ 64 - n)
  reverse (ReadsReverse.reverse w f b) n = let k = block b n in part (over (word w) (over (filter f) k))

pub procedure-nests : {us vs : List Token} {p : SurfaceProcedure} → ReadsProcedure us p vs → Derived (Of G.Program) (flat 0) us vs (λ j. tree_nesting p.body ≤ 64)
unfolding rule
procedure-nests (ReadsProcedure.procedure w n l i o r t b) =
    part (part (over (meant procedure_sign procedure-has w) (over (name n) (over (word l) (over (parameters i) (over (outputs o) (over (word r) (over (result t) (block b 0)))))))))

-- The places in a tree are those of some of its tokens, in their order.
use Rattle.std.proofs.Common.{◌≡◌, ℤ, Bool, true, false, List, [], ◌∷◌, ◌++◌, refl, sym, ap, subst, ◌∙◌, append_assoc, Option}
use Rattle.std.specs.Prelude.{◌&&◌, if◌then◌else◌}
use Rattle.std.specs.Cmp.Derive.{both_true}
use Rattle.std.proofs.lemmas.Bool.{eq-eqb}
use Rattle.gm_base.specs.declared.places.Place.{Place}
use Rattle.gm_base.specs.Places.{place_eq}
use Rattle.gm_token.specs.declared.words.Word.{Word}
use Rattle.gm_token.specs.declared.words.Word.TheVariants as words
use Rattle.gm_token.specs.Tokens.{Token}
use Rattle.gm_ast.specs.declared.surface.Range.{Range}
use Rattle.gm_ast.specs.declared.surface.ReductionWord.{ReductionWord}
use Rattle.gm_ast.specs.Surface.{SurfaceName, SurfaceType, SurfaceHead, SurfaceTarget, SurfaceExpr, SurfaceStmt, SurfaceGroup, SurfaceProcedure, sequence}
use Rattle.gm_ast.specs.Surface as S
use Rattle.gm_parse.specs.Terminals.{Terminal}
use Rattle.gm_parse.specs.Grammar.{Part}
use Rattle.gm_parse.specs.Choices.{test_reduction}
use Rattle.gm_ready.proofs.Judging.{IfPart}
use Rattle.gm_parse.specs.Trees.{ReadsWord, ReadsAs, ReadsName, ReadsNumber, ReadsNames, ReadsOf, ReadsType, ReadsTree, ReadsCondition, ReadsFilter, ReadsBraces, ReadsRange, ReadsHead, ReadsTarget, ReadsEntries, ReadsTuple, ReadsAt, ReadsFrom, ReadsSearch, ReadsStmt, ReadsMany, ReadsBlock, ReadsReverse, ReadsGroup, ReadsGroups, ReadsParameters, ReadsOutputs, ReadsResult, ReadsProcedure}
use Rattle.gm_order.specs.Places.{places_of_each, place_of_name, place_of_option, may_be_bare, is_absent, closing, right_behind, places_in, places_of_target, places_of, places_of_group, places_of_procedure}

-- from where these tokens are left to where those are left, places are picked in order, and the place right behind a token with it, where one more token is passed over
pub data Picks : List Place → List Token → List Token → Type 0 where
  done : {us : List Token} → Picks [] us us
  skip : {ps : List Place} {t : Token} {us vs : List Token} → Picks ps us vs → Picks ps (t ∷ us) vs
  pick : {ps : List Place} {t : Token} {us vs : List Token} → Picks ps us vs → Picks (t.place ∷ ps) (t ∷ us) vs
  both : {ps : List Place} {t u : Token} {us vs : List Token} → Picks ps us vs → Picks (t.place ∷ (right_behind t.place ∷ ps)) (t ∷ (u ∷ us)) vs

pub join : {ps qs : List Place} {us vs ws : List Token} → Picks ps us vs → Picks qs vs ws → Picks (ps ++ qs) us ws
join Picks.done k = k
join (Picks.skip h) k = Picks.skip (join h k)
join (Picks.pick h) k = Picks.pick (join h k)
join (Picks.both h) k = Picks.both (join h k)

pub forget : {ps : List Place} {us vs : List Token} → Picks ps us vs → Picks [] us vs
forget Picks.done = Picks.done
forget (Picks.skip h) = Picks.skip (forget h)
forget (Picks.pick h) = Picks.skip (forget h)
forget (Picks.both h) = Picks.skip (Picks.skip (forget h))

-- what is read before is passed over
pub over : {ps qs : List Place} {us vs ws : List Token} → Picks ps us vs → Picks qs vs ws → Picks qs us ws
over h k = join (forget h) k

pub as_picks : {ps qs : List Place} {us vs : List Token} → ps ≡ qs → Picks ps us vs → Picks qs us vs
as_picks {us} {vs} e h = subst (λ (ps : List Place). Picks ps us vs) e h

append-nil : (ps : List Place) → ps ++ [] ≡ ps
append-nil [] = refl
append-nil (p ∷ ps) = ap (λ qs. p ∷ qs) (append-nil ps)

module _ {A : Type 0} (places : A → List Place) where
  each-behind : (xs : List A) (x : A) → places_of_each places xs ++ places x ≡ places_of_each places (xs ++ x ∷ [])
  each-behind [] x = sym (append-nil (places x))
  each-behind (y ∷ xs) x = append_assoc (places y) (places_of_each places xs) (places x) ∙ ap (λ ps. places y ++ ps) (each-behind xs x)

sequence-behind : (ss : List SurfaceStmt) (s : SurfaceStmt) → places_of (sequence ss) ++ places_of s ≡ places_of (sequence (ss ++ s ∷ []))
sequence-behind [] s = sym (append-nil (places_of s))
sequence-behind (t ∷ ss) s = append_assoc (places_of t) (places_of (sequence ss)) (places_of s) ∙ ap (λ ps. places_of t ++ ps) (sequence-behind ss s)

-- ---- single tokens

pub word : {k : Terminal} {us vs : List Token} {p : Place} → ReadsWord k us p vs → Picks (p ∷ []) us vs
word (ReadsWord.word f) = Picks.pick Picks.done

pub meant : {A : Type 0} {meaning : Word → Option A} {us vs : List Token} {x : A} {p : Place} → ReadsAs meaning us x p vs → Picks (p ∷ []) us vs
meant (ReadsAs.word e) = Picks.pick Picks.done

pub name : {us vs : List Token} {x : SurfaceName} → ReadsName us x vs → Picks (place_of_name x) us vs
name (ReadsName.name f) = Picks.pick Picks.done

number : {us vs : List Token} {p : Place} {n : ℤ} → ReadsNumber us p n vs → Picks (p ∷ []) us vs
number (ReadsNumber.number f) = Picks.pick Picks.done

names : {us vs : List Token} {xs : List SurfaceName} → ReadsNames us xs vs → Picks (places_of_each place_of_name xs) us vs
names (ReadsNames.one r) = name r
names (ReadsNames.more {xs} {x} r c n) = as_picks (each-behind place_of_name xs x) (join (names r) (over (word c) (name n)))

-- ---- types, whose places are passed over

of : {us vs : List Token} {x : Option SurfaceName} → ReadsOf us x vs → Picks [] us vs
of ReadsOf.absent = Picks.done
of (ReadsOf.present l n r) = over (word l) (over (name n) (forget (word r)))

pub vtype : {us vs : List Token} {t : SurfaceType} → ReadsType us t vs → Picks [] us vs
vtype (ReadsType.bare w) = forget (meant w)
vtype (ReadsType.element w g) = over (meant w) (of g)
vtype (ReadsType.property w l t r g) = over (meant w) (over (word l) (over (vtype t) (over (word r) (of g))))

-- ---- expressions

closed : (w : ReductionWord) (e : SurfaceExpr) (at q : Place) {us vs : List Token} → Picks (q ∷ []) us vs → Picks (closing w e at q) us vs
closed w e at q {us} {vs} h = by ((may_be_bare w && is_absent e) && place_eq at q)
  where
    by : (bare : Bool) → Picks (if bare then [] else q ∷ []) us vs
    by true = forget h
    by false = h

bare-words : (v : Word) → IfPart (λ w. may_be_bare w ≡ true) (test_reduction v)
bare-words words.Exist = refl
bare-words words.Count = refl
bare-words _ = tt

bare-word : {us vs : List Token} {w : ReductionWord} {p : Place} → ReadsAs test_reduction us w p vs → may_be_bare w ≡ true
bare-word (ReadsAs.word {t} e) = subst (IfPart (λ w. may_be_bare w ≡ true)) e (bare-words t.word)

closing-self : (w : ReductionWord) (p : Place) → may_be_bare w ≡ true → [] ≡ closing w S.Always p p
closing-self w p bare = sym (ap (λ b. if b then [] else p ∷ []) (both_true (both_true bare refl) (both_true (eq-eqb p.line p.line refl) (eq-eqb p.col p.col refl))))

pub range : {us vs : List Token} {g : SurfaceName} {r : Range} → ReadsRange us g r vs → Picks (place_of_name g) us vs
range (ReadsRange.range n d r) = join (name n) (over (word d) (forget (meant r)))

-- with the place right behind the owner
range-behind : {us vs : List Token} {g : SurfaceName} {r : Range} → ReadsRange us g r vs → Picks (g.place ∷ (right_behind g.place ∷ [])) us vs
range-behind (ReadsRange.range (ReadsName.name f) (ReadsWord.word d) r) = Picks.both (forget (meant r))

abbrev places_of_head : SurfaceHead → SurfaceExpr → List Place
places_of_head h f = h.iterator.place ∷ (h.owner.place ∷ places_in f)

abbrev places_of_fold : SurfaceHead → SurfaceExpr → List Place
places_of_fold h f = h.iterator.place ∷ (h.owner.place ∷ (right_behind h.owner.place ∷ places_in f))

around : (f : SurfaceExpr) {x g b : Place} {ps : List Place} {us vs ws : List Token} → Picks (x ∷ (g ∷ (b ∷ places_in f))) us vs → Picks ps vs ws → Picks (x ∷ (g ∷ (b ∷ (places_in f ++ ps)))) us ws
around f h k = join h k

closed-by : (e : SurfaceExpr) {us vs ws : List Token} {q : Place} → Picks (places_in e) us vs → Picks (q ∷ []) vs ws → Picks (places_in e) us ws
closed-by e h k = as_picks (append-nil (places_in e)) (join h (forget k))

mutual
  pub tree : {q : Part} {us vs : List Token} {e : SurfaceExpr} → ReadsTree q us e vs → Picks (places_in e) us vs
  tree (ReadsTree.number r) = number r
  tree (ReadsTree.truth r) = word r
  tree (ReadsTree.falsehood r) = word r
  tree (ReadsTree.nil r) = word r
  tree (ReadsTree.greatest r) = word r
  tree (ReadsTree.named r) = name r
  tree (ReadsTree.member x d m) = join (name x) (over (word d) (name m))
  tree (ReadsTree.method x d m l r) = join (name x) (over (word d) (join (name m) (over (word l) (forget (word r)))))
  tree (ReadsTree.parentheses {e} l r c) = join (word l) (closed-by e (tree r) (word c))
  tree (ReadsTree.reduction {w} {f} {p} r h b) = join (meant r) (around f (folded-head h) (braces w p b))
  tree (ReadsTree.test {w} {f} {p} r h b) = join (meant r) (around f (folded-head h) (braces w p b))
  tree (ReadsTree.bare_test {w} {f} {p} r h) = join (meant r) (around f (folded-head h) (as_picks (closing-self w p (bare-word r)) Picks.done))
  tree (ReadsTree.primary r) = tree r
  tree (ReadsTree.negation w r) = join (word w) (tree r)
  tree (ReadsTree.minus w o r) = join (word w) (tree r)
  tree (ReadsTree.least w i) = join (word w) (forget (word i))
  tree (ReadsTree.plus w i) = join (word w) (forget (word i))
  tree (ReadsTree.cast l t c r) = join (word l) (over (meant t) (over (word c) (tree r)))
  tree (ReadsTree.operand l r) = tree r
  tree (ReadsTree.row l n a o b) = join (tree a) (join (meant o) (tree b))
  tree (ReadsTree.comparison a o b) = join (tree a) (join (meant o) (tree b))
  tree (ReadsTree.no_choice r) = tree r
  tree (ReadsTree.choice c q a k b) = join (tree c) (join (word q) (join (tree a) (over (word k) (tree b))))

  pub condition : {us vs : List Token} {e : SurfaceExpr} → ReadsCondition us e vs → Picks (places_in e) us vs
  condition (ReadsCondition.condition {e} l r c) = over (word l) (closed-by e (tree r) (word c))

  pub filter : {us vs : List Token} {e : SurfaceExpr} → ReadsFilter us e vs → Picks (places_in e) us vs
  filter ReadsFilter.absent = Picks.done
  filter (ReadsFilter.present r) = condition r

  pub braces : (w : ReductionWord) (at : Place) {us vs : List Token} {e : SurfaceExpr} {q : Place} → ReadsBraces us e q vs → Picks (places_in e ++ closing w e at q) us vs
  braces w at (ReadsBraces.braces {e} {q} l r c) = over (word l) (join (tree r) (closed w e at q (word c)))

  pub head : {us vs : List Token} {h : SurfaceHead} {f : SurfaceExpr} → ReadsHead us h f vs → Picks (places_of_head h f) us vs
  head (ReadsHead.head l x c g r f) = over (word l) (join (name x) (over (word c) (join (range g) (over (word r) (filter f)))))

  folded-head : {us vs : List Token} {h : SurfaceHead} {f : SurfaceExpr} → ReadsHead us h f vs → Picks (places_of_fold h f) us vs
  folded-head (ReadsHead.head l x c g r f) = over (word l) (join (name x) (over (word c) (join (range-behind g) (over (word r) (filter f)))))

-- ---- statements

pub target : {us vs : List Token} {t : SurfaceTarget} → ReadsTarget us t vs → Picks (places_of_target t) us vs
target (ReadsTarget.name r) = name r
target (ReadsTarget.property x d m) = join (name x) (over (word d) (name m))

module _ {A : Type 0} {ReadsOne : List Token → A → List Token → Type 0} (places : A → List Place)
    (one : (us vs : List Token) (x : A) → ReadsOne us x vs → Picks (places x) us vs) where
  entries : {us vs : List Token} {xs : List A} → ReadsEntries ReadsOne us xs vs → Picks (places_of_each places xs) us vs
  entries (ReadsEntries.two {us} {vs} {ws} {xs} {a} {b} r s t) = join (one us vs a r) (over (word s) (as_picks (sym (append-nil (places b))) (one ws xs b t)))
  entries (ReadsEntries.more {ws} {xs} {es} {a} r c t) = as_picks (each-behind places es a) (join (entries r) (over (word c) (one ws xs a t)))

  tuple : {us vs : List Token} {xs : List A} → ReadsTuple ReadsOne us xs vs → Picks (places_of_each places xs) us vs
  tuple (ReadsTuple.tuple {es} l r g) = over (word l) (as_picks (append-nil (places_of_each places es)) (join (entries r) (forget (word g))))

pub targets : {us vs : List Token} {ts : List SurfaceTarget} → ReadsTuple ReadsTarget us ts vs → Picks (places_of_each places_of_target ts) us vs
targets r = tuple places_of_target (λ us vs t r. target r) r

-- values of a tuple that is not read to its end
pub values : {q : Part} {us vs : List Token} {es : List SurfaceExpr} → ReadsEntries (ReadsTree q) us es vs → Picks (places_of_each places_in es) us vs
values r = entries places_in (λ us vs e r. tree r) r

at-name : {us vs : List Token} {x : Option SurfaceName} → ReadsAt us x vs → Picks (place_of_option x) us vs
at-name ReadsAt.absent = Picks.done
at-name (ReadsAt.present a n) = over (word a) (name n)

pub from : {us vs : List Token} → ReadsFrom us vs → Picks [] us vs
from (ReadsFrom.from w) = forget (word w)
from (ReadsFrom.semicolon w) = forget (word w)

pub search : {us vs : List Token} {x g r : SurfaceName} {f : SurfaceExpr} → ReadsSearch us x g r f vs → Picks (x.place ∷ (g.place ∷ (r.place ∷ places_in f))) us vs
search (ReadsSearch.front l x c g d n f r q t) = over (word l) (join (name x) (over (word c) (join (name g) (over (word d) (over (word n) (over (from f) (join (name r) (over (word q) (filter t)))))))))

-- what is read is followed by a semicolon
ended : {k : Terminal} {ps : List Place} {us vs ws : List Token} {q : Place} → Picks ps us vs → ReadsWord k vs q ws → Picks ps us ws
ended {ps} h w = as_picks (append-nil ps) (join h (forget (word w)))

single : (t : SurfaceTarget) {us vs : List Token} → Picks (places_of_target t) us vs → Picks (places_of_each places_of_target (t ∷ [])) us vs
single t h = as_picks (sym (append-nil (places_of_target t))) h

single-value : (e : SurfaceExpr) {us vs : List Token} → Picks (places_in e) us vs → Picks (places_of_each places_in (e ∷ [])) us vs
single-value e h = as_picks (sym (append-nil (places_in e))) h

mutual
  pub stmt : {us vs : List Token} {s : SurfaceStmt} → ReadsStmt us s vs → Picks (places_of s) us vs
  stmt (ReadsStmt.block b) = block b
  stmt (ReadsStmt.empty w) = forget (word w)
  stmt (ReadsStmt.declare t n w) = over (vtype t) (ended (names n) w)
  stmt (ReadsStmt.declare_as t n a e w) = over (vtype t) (ended (join (name n) (join (word a) (tree e))) w)
  stmt (ReadsStmt.assign t a e w) = ended (join (target t) (join (word a) (tree e))) w
  stmt (ReadsStmt.defer t a e x w) = ended (join (target t) (join (word a) (join (tree e) (at-name x)))) w
  stmt (ReadsStmt.reduce {t = t'} {e = e'} t o e x w) = ended (join (single t' (target t)) (join (meant o) (join (single-value e' (tree e)) (at-name x)))) w
  stmt (ReadsStmt.reduce_tuple ts o es x w) = ended (join (tuple places_of_target (λ us vs t r. target r) ts) (join (meant o) (join (tuple places_in (λ us vs e r. tree r) es) (at-name x)))) w
  stmt (ReadsStmt.increment t o w) = ended (join (target t) (word o)) w
  stmt (ReadsStmt.loop w h s) = join (meant w) (join (head h) (stmt s))
  stmt (ReadsStmt.if_then {s} w c s' o) = join (word w) (join (condition c) (as_picks (sym (append-nil (places_of s))) (stmt s')))
  stmt (ReadsStmt.if_else w c s e t) = join (word w) (join (condition c) (join (stmt s) (over (word e) (stmt t))))
  stmt (ReadsStmt.while w c s) = join (word w) (join (condition c) (stmt s))
  stmt (ReadsStmt.do_while w b v c e) = join (word w) (join (block b) (over (word v) (ended (condition c) e)))
  stmt (ReadsStmt.breadth w f b o) = join (word w) (join (search f) (block b))
  stmt (ReadsStmt.breadth_both w f b r) = join (word w) (join (search f) (join (block b) (reverse r)))
  stmt (ReadsStmt.return_nothing w e) = ended (word w) e
  stmt (ReadsStmt.return_value w e c) = ended (join (word w) (tree e)) c

  pub many : {us vs : List Token} {ss : List SurfaceStmt} → ReadsMany us ss vs → Picks (places_of (sequence ss)) us vs
  many ReadsMany.none = Picks.done
  many (ReadsMany.more {ss} {s} r t) = as_picks (sequence-behind ss s) (join (many r) (stmt t))

  pub block : {us vs : List Token} {ss : List SurfaceStmt} → ReadsBlock us ss vs → Picks (places_of (sequence ss)) us vs
  block (ReadsBlock.braces l r c) = over (word l) (ended (many r) c)

  pub reverse : {us vs : List Token} {q : Place} {f : SurfaceExpr} {ss : List SurfaceStmt} → ReadsReverse us q f ss vs → Picks (q ∷ (places_in f ++ places_of (sequence ss))) us vs
  reverse (ReadsReverse.reverse w f b) = join (word w) (join (filter f) (block b))

-- ---- procedures

group : {us vs : List Token} {g : SurfaceGroup} → ReadsGroup us g vs → Picks (places_of_group g) us vs
group (ReadsGroup.group {ns} n c t) = as_picks (append-nil (places_of_each place_of_name ns)) (join (names n) (over (word c) (vtype t)))

groups : {us vs : List Token} {gs : List SurfaceGroup} → ReadsGroups us gs vs → Picks (places_of_each places_of_group gs) us vs
groups (ReadsGroups.one {g} r) = as_picks (sym (append-nil (places_of_group g))) (group r)
groups (ReadsGroups.more {gs} {g} r c t) = as_picks (each-behind places_of_group gs g) (join (groups r) (over (word c) (group t)))

pub parameters : {us vs : List Token} {gs : List SurfaceGroup} → ReadsParameters us gs vs → Picks (places_of_each places_of_group gs) us vs
parameters ReadsParameters.absent = Picks.done
parameters (ReadsParameters.present r) = groups r

pub outputs : {us vs : List Token} {gs : List SurfaceGroup} → ReadsOutputs us gs vs → Picks (places_of_each places_of_group gs) us vs
outputs ReadsOutputs.absent = Picks.done
outputs (ReadsOutputs.present w r) = over (word w) (parameters r)

pub result : {us vs : List Token} {t : Option SurfaceType} → ReadsResult us t vs → Picks [] us vs
result ReadsResult.absent = Picks.done
result (ReadsResult.present c t) = over (word c) (vtype t)

pub procedure : {us vs : List Token} {p : SurfaceProcedure} → ReadsProcedure us p vs → Picks (places_of_procedure p) us vs
procedure (ReadsProcedure.procedure w n l ins outs r t b) = over (meant w) (join (name n) (over (word l) (join (parameters ins) (join (outputs outs) (over (word r) (over (result t) (block b)))))))

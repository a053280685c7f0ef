-- Loops over all nodes, by what was made of their parts; and how many kinds they have.
use Rattle.std.proofs.Common.{◌≡◌, ℕ, suc, Bool, true, false, cond, Some, None, List, [], ◌∷◌, ◌++◌, length, refl, ap, ◌∙◌, map}
use Rattle.std.specs.Prelude.{Option}
use Rattle.std.specs.Global.{Vec}
use Rattle.gm_base.specs.declared.places.Place.{Place}
use Rattle.gm_ast.specs.declared.tree.Declaration.{Declaration}
use Rattle.gm_ast.specs.declared.tree.Head.{Head}
use Rattle.gm_ast.specs.declared.tree.Key.{Key}
use Rattle.gm_ast.specs.declared.tree.Stmt as S
use Rattle.gm_ast.specs.declared.tree.Tree.{Tree}
use Rattle.gm_ast.specs.Program as P
use Rattle.gm_ast.specs.Program.{sequence}
use Rattle.gm_ast.specs.Tree.{stmt_of}
use Rattle.gm_image.specs.declared.lines.VertexLine.{VertexLine}
use Rattle.gm_image.specs.Program.{Block, Line, Send}
use Rattle.gm_image.specs.Term.{Neighbour}
use Rattle.gm_image.specs.Views.{line}
use Rattle.gm_message.proofs.Trees.{stmt_of-Block}
use Rattle.gm_layouts.specs.Where.{where_of}
use Rattle.gm_lowering.specs.Layouts.{Layout}
use Rattle.gm_lowering.specs.Places.{Segment, segment, spots_in}
use Rattle.gm_lowering.specs.Terms.{term, own_env, each_env}
use Rattle.gm_lowering.specs.Plans.{Away, Load, aways, carried, is_here, kind_of_away, kind_of_loads, kinds_of_loop}
use Rattle.gm_lowering.specs.Bodies.{under, lines_of, spots_of}
use Rattle.gm_lowering.specs.Blocks.{Lowered, body_block, each_lines, each_loop, each_site, load_term, loop, message_loop, own_loop, own_site, receiver_env, receiver_site, taking_blocks, zero_lines}
use Rattle.gm_blocks.specs.LoopBlocks.{Inner, handling_block, inner_blocks, inner_kinds, inner_of}

abbrev pub lowered_by : List Block → Segment → Lowered
lowered_by bs g = record { blocks = bs; segment = g }

-- a loop of own statements, by its places, its lines, the same under its filter, and its blocks
pub own_is : (c : Layout) (base kind n : ℕ) (k : Key) (e : P.Expr) (body : P.Stmt) (g : Segment) (own filtered : List Line) (bs : List Block)
    → g ≡ segment base (spots_in e k ++ spots_of c n (n ∷ []) true body)
    → own ≡ lines_of (own_site c g n) kind body
    → filtered ≡ under (term (own_env c g n) k e) own
    → bs ≡ body_block filtered ∷ taking_blocks c g kind (aways c.declarations n body)
    → lowered_by bs g ≡ own_loop c base kind n k e body
own_is c base kind n k e body g own filtered bs places lines masked made =
    let blocks : Segment → List Line → List Block = λ h ls. body_block (under (term (own_env c h n) k e) ls) ∷ taking_blocks c h kind (aways c.declarations n body) in
    ap (λ z. lowered_by z g)
    (made ∙ ap (λ z. body_block z ∷ taking_blocks c g kind (aways c.declarations n body)) masked ∙ ap (λ z. blocks g z) lines)
    ∙ ap (λ h. lowered_by (blocks h (lines_of (own_site c h n) kind body)) h) places

-- a loop whose inner one is evaluated at the outer node, by its places, the lines of an edge, those of all edges, the same under its filter, and its blocks
pub each_is : (c : Layout) (base kind n : ℕ) (k : Key) (mask : P.Expr) (j : Key) (i : Head) (test : P.Expr) (body : P.Stmt) (g : Segment) (edge edges filtered : List Line) (bs : List Block)
    → g ≡ segment base (spots_in mask k ++ (spots_in test j ++ spots_of c n (n ∷ i.iterator ∷ []) false body))
    → edge ≡ under (term (each_env c g n i.iterator) j test) (zero_lines c body ++ lines_of (each_site c g n i.iterator) kind body)
    → edges ≡ each_lines i.domain edge
    → filtered ≡ under (term (own_env c g n) k mask) edges
    → bs ≡ body_block filtered ∷ taking_blocks c g kind (aways c.declarations n body)
    → lowered_by bs g ≡ each_loop c base kind n k mask j i test body
each_is c base kind n k mask j i test body g edge edges filtered bs places inner gone masked made =
    let within : Segment → List Line = λ h. under (term (each_env c h n i.iterator) j test) (zero_lines c body ++ lines_of (each_site c h n i.iterator) kind body) in
    let blocks : Segment → List Line → List Block = λ h ls. body_block (under (term (own_env c h n) k mask) ls) ∷ taking_blocks c h kind (aways c.declarations n body) in
    ap (λ z. lowered_by z g)
    (made
    ∙ ap (λ z. body_block z ∷ taking_blocks c g kind (aways c.declarations n body)) masked
    ∙ ap (λ z. blocks g z) gone
    ∙ ap (λ z. blocks g (each_lines i.domain z)) inner)
    ∙ ap (λ h. lowered_by (blocks h (each_lines i.domain (within h))) h) places

-- a loop whose inner one is evaluated at the inner node, by what its messages carry, its places, the line that sends, that of all edges, the same under its filter, the lines of the receiver, and its blocks
pub message_is : (c : Layout) (base kind n : ℕ) (k : Key) (mask : P.Expr) (j : Key) (i : Head) (test : P.Expr) (body : P.Stmt) (loads : List Load) (g : Segment) (send edges filtered handled : List Line) (bs : List Block)
    → loads ≡ carried n test body
    → g ≡ segment base (spots_in mask k ++ (spots_in test j ++ spots_of c i.iterator (n ∷ i.iterator ∷ []) false body))
    → send ≡ Send kind Neighbour (map (load_term c) loads) ∷ []
    → edges ≡ each_lines i.domain send
    → filtered ≡ under (term (own_env c g n) k mask) edges
    → handled ≡ under (term (receiver_env c g n i.iterator loads) j test) (lines_of (receiver_site c g n i.iterator loads) (suc kind) body)
    → bs ≡ body_block filtered ∷ (handling_block kind handled ∷ taking_blocks c g (suc kind) (aways c.declarations i.iterator body))
    → lowered_by bs g ≡ message_loop c base kind n k mask j i test body
message_is c base kind n k mask j i test body loads g send edges filtered handled bs read places sent gone masked received made =
    let sends : List Load → List Line = λ ls. Send kind Neighbour (map (load_term c) ls) ∷ [] in
    let receives : Segment → List Load → List Line = λ h ls. under (term (receiver_env c h n i.iterator ls) j test) (lines_of (receiver_site c h n i.iterator ls) (suc kind) body) in
    let blocks : Segment → List Line → List Line → List Block = λ h ls rs. body_block (under (term (own_env c h n) k mask) ls) ∷ (handling_block kind rs ∷ taking_blocks c h (suc kind) (aways c.declarations i.iterator body)) in
    ap (λ z. lowered_by z g)
    (made
    ∙ ap (λ z. body_block z ∷ (handling_block kind handled ∷ taking_blocks c g (suc kind) (aways c.declarations i.iterator body))) masked
    ∙ ap (λ z. blocks g z handled) gone
    ∙ ap (λ z. blocks g (each_lines i.domain z) handled) sent
    ∙ ap (λ z. blocks g (each_lines i.domain (sends loads)) z) received
    ∙ ap (λ z. blocks g (each_lines i.domain (sends z)) (receives g z)) read)
    ∙ ap (λ h. lowered_by (blocks h (each_lines i.domain (sends (carried n test body))) (receives h (carried n test body))) h) places

pub map-both : {A B : Type 0} (f : A → B) (xs ys : List A) → map f (xs ++ ys) ≡ map f xs ++ map f ys
map-both f [] ys = refl
map-both f (x ∷ xs) ys = ap (λ z. f x ∷ z) (map-both f xs ys)

-- blocks and the one that takes what is sent, by where reductions are taken
pub made_by : (l tree : Tree) (p g : Segment) (m n first kind : ℕ) (body : P.Stmt) (front old new : List Block)
    → l ≡ tree
    → p ≡ g
    → m ≡ n
    → first ≡ kind
    → old ≡ front
    → new ≡ old ++ taking_blocks (where_of l) p first (aways (where_of l).declarations m body)
    → new ≡ front ++ taking_blocks (where_of tree) g kind (aways (where_of tree).declarations n body)
made_by l tree p g m n first kind body front old new lies stand node start there made =
    let taken : Tree → Segment → ℕ → ℕ → List Block = λ u h j k. taking_blocks (where_of u) h k (aways (where_of u).declarations j body) in
    made
    ∙ ap (λ z. z ++ taken l p m first) there
    ∙ ap (λ u. front ++ taken u p m first) lies
    ∙ ap (λ h. front ++ taken tree h m first) stand
    ∙ ap (λ j. front ++ taken tree g j first) node
    ∙ ap (λ k. front ++ taken tree g n k) start

-- how many kinds there are
pub kinds_counted : (ds : List Declaration) (xs : List Away) → length (map (kind_of_away ds) xs) ≡ length xs
kinds_counted ds [] = refl
kinds_counted ds (x ∷ xs) = ap suc (kinds_counted ds xs)

pub inner_counted : (ds : List Declaration) (n : ℕ) (j : Key) (at : Place) (h : Head) (test : P.Expr) (body : P.Stmt) → length (kinds_of_loop ds n (P.Foreach j at h test body)) ≡ inner_kinds ds n h test body
inner_counted ds n j at h test body = by (is_here ds n h test body) where
  by : (b : Bool)
      → length (cond b (map (kind_of_away ds) (aways ds n body)) (kind_of_loads ds (carried n test body) ∷ map (kind_of_away ds) (aways ds h.iterator body)))
      ≡ cond b (length (aways ds n body)) (suc (length (aways ds h.iterator body)))
  by true = kinds_counted ds (aways ds n body)
  by false = ap suc (kinds_counted ds (aways ds h.iterator body))

-- a block is no loop over neighbours
pub inner_of_block : (b : Vec S.Stmt) → inner_of (stmt_of (S.TheViews.Block b)) ≡ None
inner_of_block b = rw (stmt_of-Block b) (by (map stmt_of b.items)) where
  by : (ss : List P.Stmt) → inner_of (sequence ss) ≡ None
  by [] = refl
  by (s ∷ ss) = refl

-- a loop by the one over neighbours that its body is
abbrev pub loop_of : Layout → ℕ → ℕ → ℕ → Key → P.Expr → P.Stmt → Option Inner → Lowered
loop_of c base kind n k mask s None = own_loop c base kind n k mask s
loop_of c base kind n k mask s (Some i) = inner_blocks c base kind n k mask i.key i.head i.test i.body

abbrev pub kinds_by : List Declaration → ℕ → P.Stmt → Option Inner → ℕ
kinds_by ds n s None = length (aways ds n s)
kinds_by ds n s (Some i) = inner_kinds ds n i.head i.test i.body

pub loop_is : (c : Layout) (base kind n : ℕ) (k : Key) (mask : P.Expr) (s : P.Stmt) → loop c base kind n k mask s ≡ loop_of c base kind n k mask s (inner_of s)
loop_is c base kind n k mask P.Skip = refl
loop_is c base kind n k mask (P.Then a b) = refl
loop_is c base kind n k mask (P.Declare j x e) = refl
loop_is c base kind n k mask (P.DeclareEdge x y at) = refl
loop_is c base kind n k mask (P.Assign j t e) = refl
loop_is c base kind n k mask (P.Defer j t e) = refl
loop_is c base kind n k mask (P.Combine j total r ts es) = refl
loop_is c base kind n k mask (P.Group j at g p e) = refl
loop_is c base kind n k mask (P.Foreach j at h test body) = refl
loop_is c base kind n k mask (P.For j at h test body) = refl
loop_is c base kind n k mask (P.If j test a b) = refl
loop_is c base kind n k mask (P.While j at test body) = refl
loop_is c base kind n k mask (P.Do j at body test) = refl
loop_is c base kind n k mask (P.InBfs j at search_of test body) = refl
loop_is c base kind n k mask (P.InBfsBoth j at search_of test body l back_test back) = refl
loop_is c base kind n k mask (P.Return j at e) = refl

pub kinds_are : (ds : List Declaration) (n : ℕ) (s : P.Stmt) → length (kinds_of_loop ds n s) ≡ kinds_by ds n s (inner_of s)
kinds_are ds n (P.Foreach j at h test body) = inner_counted ds n j at h test body
kinds_are ds n P.Skip = kinds_counted ds (aways ds n P.Skip)
kinds_are ds n (P.Then a b) = kinds_counted ds (aways ds n (P.Then a b))
kinds_are ds n (P.Declare j x e) = kinds_counted ds (aways ds n (P.Declare j x e))
kinds_are ds n (P.DeclareEdge x y at) = kinds_counted ds (aways ds n (P.DeclareEdge x y at))
kinds_are ds n (P.Assign j t e) = kinds_counted ds (aways ds n (P.Assign j t e))
kinds_are ds n (P.Defer j t e) = kinds_counted ds (aways ds n (P.Defer j t e))
kinds_are ds n (P.Combine j total r ts es) = kinds_counted ds (aways ds n (P.Combine j total r ts es))
kinds_are ds n (P.Group j at g p e) = kinds_counted ds (aways ds n (P.Group j at g p e))
kinds_are ds n (P.For j at h test body) = kinds_counted ds (aways ds n (P.For j at h test body))
kinds_are ds n (P.If j test a b) = kinds_counted ds (aways ds n (P.If j test a b))
kinds_are ds n (P.While j at test body) = kinds_counted ds (aways ds n (P.While j at test body))
kinds_are ds n (P.Do j at body test) = kinds_counted ds (aways ds n (P.Do j at body test))
kinds_are ds n (P.InBfs j at search_of test body) = kinds_counted ds (aways ds n (P.InBfs j at search_of test body))
kinds_are ds n (P.InBfsBoth j at search_of test body l back_test back) = kinds_counted ds (aways ds n (P.InBfsBoth j at search_of test body l back_test back))
kinds_are ds n (P.Return j at e) = kinds_counted ds (aways ds n (P.Return j at e))

-- how many lines there are
pub as_many_lines : (ls : List VertexLine) → length (map line ls) ≡ length ls
as_many_lines [] = refl
as_many_lines (l ∷ ls) = ap suc (as_many_lines ls)

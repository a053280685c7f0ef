-- Lines of the code are those of the definition.
use Rattle.std.proofs.Common.{◌≡◌, ℕ, suc, Bool, true, false, cond, None, List, [], ◌∷◌, ◌++◌, length, map, refl, ap, ◌∙◌, sym, append-nil, arith}
use Rattle.std.proofs.lemmas.Bool.{ne_eqb}
use Rattle.std.proofs.lemmas.List.{length-map, map-append}
use Rattle.std.specs.Prelude.{◌==◌, if◌then◌else◌}
use Rattle.gm_value.specs.declared.values.Value.TheVariants.{Flag, I32, I64, At}
use Rattle.gm_value.specs.declared.values.VType.TheVariants as V
use Rattle.gm_value.specs.declared.operations.Op1.TheVariants as One
use Rattle.gm_value.specs.declared.reductions.Reduce.{Reduce}
use Rattle.gm_ast.specs.declared.tree.Key.{Key}
use Rattle.gm_ast.specs.declared.tree.Target.{Target}
use Rattle.gm_ast.specs.Program.{Expr}
use Rattle.gm_ast.specs.Tree.{expr_of}
use Rattle.gm_forms.specs.Typing.{target_type}
use Rattle.gm_image.specs.declared.lines.VertexLine.{VertexLine}
use Rattle.gm_image.specs.declared.shapes.Leaf.{Leaf}
use Rattle.gm_image.specs.declared.shapes.One.TheVariants as unary
use Rattle.gm_image.specs.declared.shapes.Shape.{Shape}
use Rattle.gm_image.specs.declared.shapes.Shape.TheVariants as shapes
use Rattle.gm_image.specs.declared.shapes.Two.TheVariants as binary
use Rattle.gm_image.specs.Program.{Line, Skip, SetRegister}
use Rattle.gm_image.specs.Shapes.{shape_term}
use Rattle.gm_image.specs.Term as M
use Rattle.gm_image.specs.Term.{Term}
use Rattle.gm_image.specs.Views.{line}
use Rattle.gm_lowering.specs.Terms as Terms
use Rattle.gm_lowering.specs.Plans.{Way, way_of}
use Rattle.gm_lowering.specs.Bodies as B
use Rattle.gm_lowering.specs.Bodies.{under, else_lines, choice_by, keeping, kept_lines, save_lines, take_lines, saved_pairs, paired, replacing, better, compared, with_types}
use Rattle.gm_bodies.specs.declared.bodies.Reduction.{Reduction}
use Rattle.gm_bodies.specs.declared.bodies.Site.{Site}
use Rattle.gm_bodies.specs.declared.keeps.Keeper.{Keeper}
use Rattle.gm_bodies.specs.Keeps.{kept, keeps_tuple, operator, saves, takes, taking, pairs_from, saved_of, held_of, judging}
use Rattle.gm_bodies.specs.Sites.{site_of, line_by, is_always, first_way, kept_at, reduced, reduced_here}

none-here : (n : ℕ) → (suc n == 0) ≡ false
none-here n = ne_eqb (suc n) 0 (λ e. omega arith)

-- what has operands is no condition that always holds
pub not_always : (s : Shape) → ((l : Leaf) → s ≡ shapes.Leaf l → ⊥) → false ≡ is_always (shape_term s)
not_always (shapes.Leaf l) other = absurd (other l refl)
not_always (shapes.One unary.NodeAt a) other = refl
not_always (shapes.One (unary.Live place) a) other = refl
not_always (shapes.One (unary.Op op place) a) other = refl
not_always (shapes.Two (binary.Op op place) a b) other = refl
not_always (shapes.Two binary.And a b) other = refl
not_always (shapes.Two binary.Or a b) other = refl
not_always (shapes.Choose c a b) other = refl

-- lines under a condition
pub under_is : (t : Term) (ls : List VertexLine) → under t (map line ls) ≡ cond (is_always t) (map line ls) (Skip (length ls) t ∷ map line ls)
under_is (M.Const (Flag true)) ls = refl
under_is (M.Const (Flag false)) ls = ap (λ n. Skip n (M.Const (Flag false)) ∷ map line ls) (length-map ls line)
under_is (M.Const (I32 n)) ls = ap (λ m. Skip m (M.Const (I32 n)) ∷ map line ls) (length-map ls line)
under_is (M.Const (I64 n)) ls = ap (λ m. Skip m (M.Const (I64 n)) ∷ map line ls) (length-map ls line)
under_is (M.Const (At n)) ls = ap (λ m. Skip m (M.Const (At n)) ∷ map line ls) (length-map ls line)
under_is (M.Global g) ls = ap (λ m. Skip m (M.Global g) ∷ map line ls) (length-map ls line)
under_is M.NodeCount ls = ap (λ m. Skip m M.NodeCount ∷ map line ls) (length-map ls line)
under_is M.EdgeCount ls = ap (λ m. Skip m M.EdgeCount ∷ map line ls) (length-map ls line)
under_is (M.Field f) ls = ap (λ m. Skip m (M.Field f) ∷ map line ls) (length-map ls line)
under_is M.Self ls = ap (λ m. Skip m M.Self ∷ map line ls) (length-map ls line)
under_is M.OutDegree ls = ap (λ m. Skip m M.OutDegree ∷ map line ls) (length-map ls line)
under_is M.InDegree ls = ap (λ m. Skip m M.InDegree ∷ map line ls) (length-map ls line)
under_is (M.Register r) ls = ap (λ m. Skip m (M.Register r) ∷ map line ls) (length-map ls line)
under_is (M.Message i) ls = ap (λ m. Skip m (M.Message i) ∷ map line ls) (length-map ls line)
under_is M.Neighbour ls = ap (λ m. Skip m M.Neighbour ∷ map line ls) (length-map ls line)
under_is (M.Column w) ls = ap (λ m. Skip m (M.Column w) ∷ map line ls) (length-map ls line)
under_is (M.NodeAt a) ls = ap (λ m. Skip m (M.NodeAt a) ∷ map line ls) (length-map ls line)
under_is (M.Live p a) ls = ap (λ m. Skip m (M.Live p a) ∷ map line ls) (length-map ls line)
under_is (M.Unary op p a) ls = ap (λ m. Skip m (M.Unary op p a) ∷ map line ls) (length-map ls line)
under_is (M.Binary op p a b) ls = ap (λ m. Skip m (M.Binary op p a b) ∷ map line ls) (length-map ls line)
under_is (M.And a b) ls = ap (λ m. Skip m (M.And a b) ∷ map line ls) (length-map ls line)
under_is (M.Or a b) ls = ap (λ m. Skip m (M.Or a b) ∷ map line ls) (length-map ls line)
under_is (M.Choose c a b) ls = ap (λ m. Skip m (M.Choose c a b) ∷ map line ls) (length-map ls line)

-- lines of the other way
pub else_is : (ls : List VertexLine) → else_lines (map line ls) ≡ cond (length ls == 0) [] (Skip (length ls) (M.Const (Flag false)) ∷ map line ls)
else_is [] = refl
else_is (l ∷ ls) =
    ap (λ m. Skip (suc m) (M.Const (Flag false)) ∷ map line (l ∷ ls)) (length-map ls line)
    ∙ sym (ap (λ b. cond b [] (Skip (suc (length ls)) (M.Const (Flag false)) ∷ map line (l ∷ ls))) (none-here (length ls)))

-- lines of a choice
pub choice_is : (t : Term) (ks bs : List VertexLine) → choice_by t (map line ks) (map line bs) ≡ Skip (first_way (length ks) (length bs)) t ∷ (map line ks ++ else_lines (map line bs))
choice_is t ks [] = ap (λ m. Skip m t ∷ map line ks) (length-map ks line) ∙ ap (λ ls. Skip (length ks) t ∷ ls) (sym (append-nil (map line ks)))
choice_is t ks (b ∷ bs) =
    ap (λ m. Skip (suc m) t ∷ (map line ks ++ else_lines (map line (b ∷ bs)))) (length-map ks line)
    ∙ sym (ap (λ e. Skip (if e then length ks else suc (length ks)) t ∷ (map line ks ++ else_lines (map line (b ∷ bs)))) (none-here (length bs)))

-- the comparison of tuples, by whether there is more than one value
pub replacing_is : (k : Keeper) (g : Bool) (i : ℕ) (t : Target) (ts : List Target) → replacing (operator g) (pairs_from k i (t ∷ ts))
    ≡ cond (length ts == 0) (compared (operator g) (saved_of k i t) (held_of k t))
    (M.Or (compared (operator g) (saved_of k i t) (held_of k t)) (M.And (M.Unary One.Not None (compared (operator g) (held_of k t) (saved_of k i t))) (replacing (operator false) (pairs_from k (suc i) ts))))
replacing_is k g i t [] = refl
replacing_is k g i t (u ∷ ts) =
    let first = compared (operator g) (saved_of k i t) (held_of k t) in
    let worse = compared (operator g) (held_of k t) (saved_of k i t) in
    let rest = M.And (M.Unary One.Not None worse) (replacing (operator false) (pairs_from k (suc i) (u ∷ ts))) in
    sym (ap (λ b. cond b first (M.Or first rest)) (none-here (length ts)))

-- a comparison that is made of its parts, where there is more than one value
pub replaced : (k : Keeper) (g : Bool) (i : ℕ) (whole : List Target) (t : Target) (ts : List Target) (first worse more : Term) (n : ℕ)
    → whole ≡ t ∷ ts
    → (length ts == 0) ≡ false
    → first ≡ compared (operator g) (saved_of k i t) (held_of k t)
    → n ≡ suc i
    → more ≡ replacing (operator false) (pairs_from k n ts)
    → worse ≡ compared (operator g) (held_of k t) (saved_of k i t)
    → M.Or first (M.And (M.Unary One.Not None worse) more) ≡ replacing (operator g) (pairs_from k i whole)
replaced k g i whole t ts first worse more n w some f s m r =
    let here = compared (operator g) (saved_of k i t) (held_of k t) in
    let not_worse = M.Unary One.Not None (compared (operator g) (held_of k t) (saved_of k i t)) in
    let rest = replacing (operator false) (pairs_from k (suc i) ts) in
    ap (λ z. M.Or z (M.And (M.Unary One.Not None worse) more)) f
    ∙ ap (λ z. M.Or here (M.And (M.Unary One.Not None z) more)) r
    ∙ ap (λ z. M.Or here (M.And not_worse z)) (m ∙ ap (λ j. replacing (operator false) (pairs_from k j ts)) s)
    ∙ sym (replacing_is k g i t ts ∙ ap (λ b. cond b here (M.Or here (M.And not_worse rest))) some)
    ∙ ap (λ z. replacing (operator g) (pairs_from k i z)) (sym w)

-- tuples that are kept, by a vertex
abbrev by-registers : Site → Keeper
by-registers s = record { env = s.env; by_registers = true }

length-types : (s : Site) (ts : List Target) → length (with_types (site_of s).layout ts) ≡ length ts
length-types s ts = length-map ts (λ t. (target_type (site_of s).layout.declarations t, t))

saved-lines : (s : Site) (key : Key) (i : ℕ) (ts : List Target) (es : List Expr)
    → map (line_by (site_of s).layout) (saves (by-registers s) key i ts es)
    ≡ save_lines (keeping (site_of s)) i (paired (map (λ t. t.0) (with_types (site_of s).layout ts)) (map (Terms.term (site_of s).env key) es))
saved-lines s key i [] [] = refl
saved-lines s key i [] (e ∷ es) = refl
saved-lines s key i (t ∷ ts) [] = refl
saved-lines s key i (t ∷ ts) (e ∷ es) =
    ap (λ z. SetRegister ((site_of s).layout.spare_register i (target_type (site_of s).layout.declarations t)) (Terms.term (site_of s).env key e) ∷ z) (saved-lines s key (suc i) ts es)

taken-lines : (s : Site) (flag i : ℕ) (ts : List Target)
    → map (line_by (site_of s).layout) (takes (by-registers s) flag i ts)
    ≡ take_lines (keeping (site_of s)) ((keeping (site_of s)).saved flag V.Flag) i (with_types (site_of s).layout ts)
taken-lines s flag i [] = refl
taken-lines s flag i (t ∷ ts) = ap (λ z. line_by (site_of s).layout (taking (by-registers s) flag i t) ∷ z) (taken-lines s flag (suc i) ts)

kept-pairs : (s : Site) (i : ℕ) (ts : List Target) → saved_pairs (keeping (site_of s)) i (with_types (site_of s).layout ts) ≡ pairs_from (by-registers s) i ts
kept-pairs s i [] = refl
kept-pairs s i (t ∷ ts) = ap (λ z. (saved_of (by-registers s) i t, held_of (by-registers s) t) ∷ z) (kept-pairs s (suc i) ts)

-- the lines that keep a tuple
abbrev tuple_lines : Site → Reduce → Key → List Target → List Expr → List Line
tuple_lines s r key ts es =
    let k = keeping (site_of s) in
    let typed = with_types (site_of s).layout ts in
    save_lines k 0 (paired (map (λ t. t.0) typed) (map (Terms.term (site_of s).env key) es))
    ++ (k.save (length typed) V.Flag (replacing (better r) (saved_pairs k 0 typed)) ∷ take_lines k (k.saved (length typed) V.Flag) 0 typed)

tuple-kept : (s : Site) (r : Reduce) (key : Key) (ts : List Target) (es : List Expr) → map (line_by (site_of s).layout) (keeps_tuple (by-registers s) r key ts es) ≡ tuple_lines s r key ts es
tuple-kept s r key ts es =
    let k = keeping (site_of s) in
    let typed = with_types (site_of s).layout ts in
    let put : ℕ → List Line = λ n. k.save n V.Flag (replacing (better r) (saved_pairs k 0 typed)) ∷ take_lines k (k.saved n V.Flag) 0 typed in
    map-append (line_by (site_of s).layout) (saves (by-registers s) key 0 ts es) _
    ∙ ap (λ z. z ++ map (line_by (site_of s).layout) (judging (by-registers s) r (length ts) ts ∷ takes (by-registers s) (length ts) 0 ts)) (saved-lines s key 0 ts es)
    ∙ ap (λ z. save_lines k 0 (paired (map (λ t. t.0) typed) (map (Terms.term (site_of s).env key) es)) ++ z)
    (ap (λ ps. k.save (length ts) V.Flag (replacing (better r) ps) ∷ map (line_by (site_of s).layout) (takes (by-registers s) (length ts) 0 ts)) (sym (kept-pairs s 0 ts))
    ∙ ap (λ z. k.save (length ts) V.Flag (replacing (better r) (saved_pairs k 0 typed)) ∷ z) (taken-lines s (length ts) 0 ts)
    ∙ ap put (sym (length-types s ts)))

-- the settings of a reduction are its lines
pub kept_is : (s : Site) (r : Reduction) → map (line_by (site_of s).layout) (kept (by-registers s) r.reduce r.key r.targets.now (map expr_of r.values.now)) ≡ kept_at (site_of s) r
kept_is s r = by r.targets.now (map expr_of r.values.now) where
  by : (ts : List Target) (es : List Expr) → map (line_by (site_of s).layout) (kept (by-registers s) r.reduce r.key ts es)
      ≡ kept_lines (keeping (site_of s)) r.reduce (with_types (site_of s).layout ts) (map (Terms.term (site_of s).env r.key) es)
  by [] [] = tuple-kept s r.reduce r.key [] []
  by [] (e ∷ es) = tuple-kept s r.reduce r.key [] (e ∷ es)
  by (t ∷ []) [] = tuple-kept s r.reduce r.key (t ∷ []) []
  by (t ∷ []) (e ∷ []) = refl
  by (t ∷ []) (e ∷ (f ∷ es)) = tuple-kept s r.reduce r.key (t ∷ []) (e ∷ (f ∷ es))
  by (t ∷ (u ∷ ts)) es = tuple-kept s r.reduce r.key (t ∷ (u ∷ ts)) es

-- the line of a reduction that is one
pub reduction_added : (s : B.Site) (kind : ℕ) (w : Way) (r : Reduction) (old new : List VertexLine) (l : VertexLine)
    → w ≡ way_of s.layout.declarations s.node r.targets.now
    → new ≡ old ++ l ∷ []
    → line l ∷ [] ≡ reduced s kind w r
    → map line new ≡ map line old ++ reduced_here s kind r
reduction_added s kind w r old new l way pushed made =
    ap (map line) pushed ∙ map-append line old (l ∷ []) ∙ ap (λ z. map line old ++ z) (made ∙ ap (λ v. reduced s kind v r) way)

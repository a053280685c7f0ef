-- The rules judge lines of blocks alike in two images that differ in their blocks and master lists alone.
use Rattle.std.proofs.Common.{◌≡◌, ◌<◌, ℕ, Bool, true, ◌&&◌, ◌||◌, not, Option, Some, None, List, [], ◌∷◌, length, refl, sym, ap, ◌∙◌, arith}
use Rattle.std.specs.Prelude.{slice_get}
use Rattle.std.specs.List.{list_all}
use mathlib.Core.Path.{fun_ext}
use Rattle.gm_value.specs.declared.values.VType.{VType}
use Rattle.gm_value.specs.declared.values.VType.TheVariants as types
use Rattle.gm_image.specs.declared.images.Kind.{Kind}
use Rattle.gm_image.specs.declared.rules.ImageRule.TheVariants.{I1, I2, I6, I7, I8, I9}
use Rattle.gm_image.specs.Term.{Term, Const, Global, NodeCount, EdgeCount, Field, Self, OutDegree, InDegree, Register, Message, Neighbour, Column, NodeAt, Live, Unary, Binary, And, Or, Choose}
use Rattle.gm_image.specs.Program.{Program, Block, Line, Target, SetField, Fold, SetRegister, Put, Send, Skip, Each, Command, SetGlobal, Step, Jump, Test, Turn, Back, Finish}
use Rattle.gm_image.specs.Parts.{all_leaves, all_places, is_shallow, line_terms}
use Rattle.gm_image.specs.Sorts.{kind_at, value_sort, sort_of, expects, one_sort, two_sort, three_sort, node_at_sort, live_sort, unary_sort, binary_sort, logic_sort, choice_sort}
use Rattle.gm_image.specs.Indices.{in_range, leaf_in_range, value_in_range, term_in_range, line_in_range}
use Rattle.gm_image.specs.Fits.{has_type, has_slot_type, reduction_fits, targets_fit, values_fit, message_fits, line_fits, command_fits}
use Rattle.gm_image.specs.Rows.{Row, LineRow, Site}
use Rattle.gm_image.specs.Spans.{line_stays}
use Rattle.gm_image.specs.Leaves.{stands_at_vertex}
use Rattle.gm_image.specs.Folds.{line_folds, puts_one_way}
use Rattle.gm_image.specs.Soundness.{keeps, keeps_all, image_rules}
use Rattle.gm_machine.proofs.SoundHandlers.{all_at}

pub six : (a b c d e f : Bool) → a ≡ true → b ≡ true → c ≡ true → d ≡ true → e ≡ true → f ≡ true → a && (b && (c && (d && (e && (f && true))))) ≡ true
six a b c d e f ha hb hc hd he hf =
    ap (λ x. x && (b && (c && (d && (e && (f && true)))))) ha ∙ ap (λ x. x && (c && (d && (e && (f && true))))) hb ∙ ap (λ x. x && (d && (e && (f && true)))) hc
    ∙ ap (λ x. x && (e && (f && true))) hd ∙ ap (λ x. x && (f && true)) he ∙ ap (λ x. x && true) hf

-- what the rules ask of a line of a block
pub record Passes (p : Program) (s : Site) (l : Line) : Type 0 where
  pub range : line_in_range p l && list_all (term_in_range p s.kind) (line_terms l) ≡ true
  pub fits : line_fits p s.kind l ≡ true
  pub stays : line_stays s l ≡ true
  pub leaves : list_all (all_leaves (stands_at_vertex s.kind s.around.each)) (line_terms l) ≡ true
  pub folds : line_folds s l ≡ true
  pub puts : puts_one_way s.earlier l ≡ true

pub passes-line : (p : Program) (s : Site) (l : Line) → Passes p s l → keeps_all p (LineRow s l) ≡ true
passes-line p s l h =
    six (line_in_range p l && list_all (term_in_range p s.kind) (line_terms l)) (line_fits p s.kind l) (line_stays s l) (list_all (all_leaves (stands_at_vertex s.kind s.around.each)) (line_terms l)) (line_folds s l) (puts_one_way s.earlier l)
    h.range h.fits h.stays h.leaves h.folds h.puts

pub line-passes : (p : Program) (s : Site) (l : Line) → keeps_all p (LineRow s l) ≡ true → Passes p s l
line-passes p s l h =
    let row : Row = LineRow s l in
    let at0 : 0 < length image_rules = omega arith in
    let at1 : 1 < length image_rules = omega arith in
    let at5 : 5 < length image_rules = omega arith in
    let at6 : 6 < length image_rules = omega arith in
    let at7 : 7 < length image_rules = omega arith in
    let at8 : 8 < length image_rules = omega arith in
    record {
      range = all_at (keeps p row) image_rules 0 I1 at0 h;
      fits = all_at (keeps p row) image_rules 1 I2 at1 h;
      stays = all_at (keeps p row) image_rules 5 I6 at5 h;
      leaves = all_at (keeps p row) image_rules 6 I7 at6 h;
      folds = all_at (keeps p row) image_rules 7 I8 at7 h;
      puts = all_at (keeps p row) image_rules 8 I9 at8 h;
    }

module _ (p : Program) (blocks : List Block) (master : List Command) where
  -- the other image
  abbrev other : Program
  other = record p { blocks = blocks; master = master }

  kind-same : (k : Option ℕ) → kind_at p k ≡ kind_at other k
  kind-same None = refl
  kind-same (Some k) = refl

  sort-same : (k : Option ℕ) (t : Term) → sort_of p k t ≡ sort_of other k t
  sort-same k (Const v) = refl
  sort-same k (Global g) = refl
  sort-same k NodeCount = refl
  sort-same k EdgeCount = refl
  sort-same k (Field f) = refl
  sort-same k Self = refl
  sort-same k OutDegree = refl
  sort-same k InDegree = refl
  sort-same k (Register r) = refl
  sort-same k (Message i) = ap (λ o. value_sort o i) (kind-same k)
  sort-same k Neighbour = refl
  sort-same k (Column c) = refl
  sort-same k (NodeAt a) = ap (one_sort node_at_sort) (sort-same k a)
  sort-same k (Live place a) = ap (one_sort live_sort) (sort-same k a)
  sort-same k (Unary op place a) = ap (one_sort (unary_sort op)) (sort-same k a)
  sort-same k (Binary op place a b) = ap (λ x. two_sort (binary_sort op) x (sort_of p k b)) (sort-same k a) ∙ ap (two_sort (binary_sort op) (sort_of other k a)) (sort-same k b)
  sort-same k (And a b) = ap (λ x. two_sort logic_sort x (sort_of p k b)) (sort-same k a) ∙ ap (two_sort logic_sort (sort_of other k a)) (sort-same k b)
  sort-same k (Or a b) = ap (λ x. two_sort logic_sort x (sort_of p k b)) (sort-same k a) ∙ ap (two_sort logic_sort (sort_of other k a)) (sort-same k b)
  sort-same k (Choose c a b) =
      ap (λ x. three_sort choice_sort x (sort_of p k a) (sort_of p k b)) (sort-same k c)
      ∙ ap (λ x. three_sort choice_sort (sort_of other k c) x (sort_of p k b)) (sort-same k a)
      ∙ ap (three_sort choice_sort (sort_of other k c) (sort_of other k a)) (sort-same k b)

  leaf-same : (k : Option ℕ) (t : Term) → leaf_in_range p k t ≡ leaf_in_range other k t
  leaf-same k (Const v) = refl
  leaf-same k (Global g) = refl
  leaf-same k NodeCount = refl
  leaf-same k EdgeCount = refl
  leaf-same k (Field f) = refl
  leaf-same k Self = refl
  leaf-same k OutDegree = refl
  leaf-same k InDegree = refl
  leaf-same k (Register r) = refl
  leaf-same k (Message i) = ap (λ o. value_in_range o i) (kind-same k)
  leaf-same k Neighbour = refl
  leaf-same k (Column c) = refl
  leaf-same k (NodeAt a) = refl
  leaf-same k (Live place a) = refl
  leaf-same k (Unary op place a) = refl
  leaf-same k (Binary op place a b) = refl
  leaf-same k (And a b) = refl
  leaf-same k (Or a b) = refl
  leaf-same k (Choose c a b) = refl

  term-same : (k : Option ℕ) (t : Term) → term_in_range p k t ≡ term_in_range other k t
  term-same k t = ap (λ leaf. not (is_shallow t) || (all_leaves leaf t && all_places (in_range p.places) t)) (fun_ext (leaf-same k))

  pub terms-same : (k : Option ℕ) (ts : List Term) → list_all (term_in_range p k) ts ≡ list_all (term_in_range other k) ts
  terms-same k ts = ap (λ test. list_all test ts) (fun_ext (term-same k))

  type-same : (k : Option ℕ) (t : VType) (a : Term) → has_type p k t a ≡ has_type other k t a
  type-same k t a = ap (λ x. is_shallow a && expects t x) (sort-same k a)

  slot-same : (k : Option ℕ) (o : Option VType) (a : Term) → has_slot_type p k o a ≡ has_slot_type other k o a
  slot-same k None a = refl
  slot-same k (Some t) a = type-same k t a

  targets-same : (k : Option ℕ) (ts : List VType) (xs : List Target) → targets_fit p k ts xs ≡ targets_fit other k ts xs
  targets-same k ts [] = refl
  targets-same k ts (x ∷ xs) =
      ap (λ b. b && targets_fit p k ts xs) (slot-same k (slice_get ts x.slot) x.term) ∙ ap (λ b. has_slot_type other k (slice_get ts x.slot) x.term && b) (targets-same k ts xs)

  values-same : (k : Option ℕ) (ts : List VType) (vs : List Term) → values_fit p k ts vs ≡ values_fit other k ts vs
  values-same k [] [] = refl
  values-same k [] (a ∷ more) = refl
  values-same k (t ∷ ts) [] = refl
  values-same k (t ∷ ts) (a ∷ more) = ap (λ b. b && values_fit p k ts more) (type-same k t a) ∙ ap (λ b. has_type other k t a && b) (values-same k ts more)

  message-same : (k : Option ℕ) (o : Option Kind) (vs : List Term) → message_fits p k o vs ≡ message_fits other k o vs
  message-same k None vs = refl
  message-same k (Some kind) vs = values-same k kind.values vs

  fits-same : (k : Option ℕ) (l : Line) → line_fits p k l ≡ line_fits other k l
  fits-same k (SetField f a) = slot-same k (slice_get p.fields f) a
  fits-same k (Fold r place ts) = ap (λ b. reduction_fits p.fields r ts && b) (targets-same k p.fields ts)
  fits-same k (SetRegister r a) = slot-same k (slice_get p.registers r) a
  fits-same k (Put r place ts) = ap (λ b. reduction_fits p.globals r ts && b) (targets-same k p.globals ts)
  fits-same k (Send m to vs) = ap (λ b. b && message_fits p k (slice_get p.kinds m) vs) (type-same k types.Node to) ∙ ap (λ b. has_type other k types.Node to && b) (message-same k (slice_get p.kinds m) vs)
  fits-same k (Skip n a) = type-same k types.Flag a
  fits-same k (Each d n) = refl

  line-same : (l : Line) → line_in_range p l ≡ line_in_range other l
  line-same (SetField f a) = refl
  line-same (Fold r place ts) = refl
  line-same (SetRegister r a) = refl
  line-same (Put r place ts) = refl
  line-same (Send m to vs) = refl
  line-same (Skip n a) = refl
  line-same (Each d n) = refl

  pub command-fits-same : (c : Command) → command_fits p c ≡ command_fits other c
  command-fits-same (SetGlobal t a) = slot-same None (slice_get p.globals t) a
  command-fits-same (Step q) = refl
  command-fits-same (Jump j) = refl
  command-fits-same (Test j a) = type-same None types.Flag a
  command-fits-same (Turn x a) = type-same None types.Flag a
  command-fits-same (Back h) = refl
  command-fits-same Finish = refl

  -- a line that passes in the one image passes in the other
  pub passes-same : (s : Site) (l : Line) → Passes p s l → Passes other s l
  passes-same s l h = record {
    range = sym (ap (λ b. b && list_all (term_in_range p s.kind) (line_terms l)) (line-same l) ∙ ap (λ b. line_in_range other l && b) (terms-same s.kind (line_terms l))) ∙ h.range;
    fits = sym (fits-same s.kind l) ∙ h.fits;
    stays = h.stays;
    leaves = h.leaves;
    folds = h.folds;
    puts = h.puts;
  }

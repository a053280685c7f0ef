-- The rules but I8 judge a line alike in two images that are the same but for the combiners of their kinds.
use Rattle.std.proofs.Common.{◌≡◌, ℕ, Bool, true, ◌&&◌, ◌||◌, not, nat_lt, Option, Some, None, List, [], ◌∷◌, length, refl, sym, ap, ◌∙◌}
use Rattle.std.specs.Prelude.{slice_get}
use Rattle.std.specs.Option.{option_map}
use Rattle.std.specs.List.{list_all}
use mathlib.Core.Path.{fun_ext}
use Rattle.gm_value.specs.declared.values.VType.{VType}
use Rattle.gm_value.specs.declared.values.VType.TheVariants as types
use Rattle.gm_value.specs.Operations.{same_type}
use Rattle.gm_image.specs.declared.images.Kind.{Kind}
use Rattle.gm_image.specs.declared.rules.ImageRule.{ImageRule}
use Rattle.gm_image.specs.declared.rules.ImageRule.TheVariants.{I1, I2, I3, I4, I5, I6, I7, I9, I10}
use Rattle.gm_image.specs.declared.sorts.Sort.{Sort}
use Rattle.gm_image.specs.declared.sorts.Sort.TheVariants.{Unknown}
use Rattle.gm_image.specs.Term.{Term, Const, Global, NodeCount, EdgeCount, Field, Self, OutDegree, InDegree, Register, Message, Neighbour, Column, NodeAt, Live, Unary, Binary, And, Or, Choose}
use Rattle.gm_image.specs.Program.{Program, Line, Target, SetField, Fold, SetRegister, Put, Send, Skip, Each, Holder, Scalar, Node, Edge, Command, SetGlobal, Step, Jump, Test, Turn, Back, Finish}
use Rattle.gm_image.specs.Parts.{all_leaves, all_places, is_shallow, line_terms, command_terms}
use Rattle.gm_image.specs.Sorts.{kind_at, value_sort, sort_at, sort_of, expects, one_sort, two_sort, three_sort, node_at_sort, live_sort, unary_sort, binary_sort, logic_sort, choice_sort}
use Rattle.gm_image.specs.Indices.{in_range, held_by, leaf_in_range, value_in_range, term_in_range, line_in_range, command_in_range, result_in_range}
use Rattle.gm_image.specs.Fits.{type_holds, has_type, has_slot_type, reduction_fits, targets_fit, values_fit, message_fits, line_fits, command_fits, result_fits}
use Rattle.gm_image.specs.Rows.{Row, Plain, NameRow, InputRow, OutputRow, ResultRow, ColumnsRow, KindRow, HandlerRow, LineRow, MasterRow, CommandRow}
use Rattle.gm_image.specs.Jumps.{jumps_forward, goes_back, ends_last}
use Rattle.gm_image.specs.Spans.{line_stays}
use Rattle.gm_image.specs.Leaves.{stands_at_vertex, stands_in_master}
use Rattle.gm_image.specs.Folds.{puts_one_way}
use Rattle.gm_image.specs.Names.{input_keeps, output_keeps}
use Rattle.gm_image.specs.Soundness.{keeps}

-- the rules but I8
abbrev pub other_rules : List ImageRule
other_rules = I1 ∷ I2 ∷ I3 ∷ I4 ∷ I5 ∷ I6 ∷ I7 ∷ I9 ∷ I10 ∷ []

-- whether a line keeps them
abbrev pub keeps_others : Program → Row → Bool
keeps_others p row = list_all (keeps p row) other_rules

-- the types of a kind's values, where there is a kind
abbrev pub values_of : Option Kind → Option (List VType)
values_of o = option_map (λ (k : Kind). k.values) o

-- what is asked of a kind is asked of its values alone
abbrev range_by : ℕ → Option (List VType) → Bool
range_by i None = true
range_by i (Some ts) = in_range ts i

range-by : (i : ℕ) (o : Option Kind) → value_in_range o i ≡ range_by i (values_of o)
range-by i None = refl
range-by i (Some k) = refl

abbrev sort_by_values : ℕ → Option (List VType) → Sort
sort_by_values i None = Unknown
sort_by_values i (Some ts) = sort_at ts i

sort-by : (i : ℕ) (o : Option Kind) → value_sort o i ≡ sort_by_values i (values_of o)
sort-by i None = refl
sort-by i (Some k) = refl

abbrev fits_by : Program → Option ℕ → List Term → Option (List VType) → Bool
fits_by p k vs None = list_all is_shallow vs
fits_by p k vs (Some ts) = values_fit p k ts vs

fits-by : (p : Program) (k : Option ℕ) (vs : List Term) (o : Option Kind) → message_fits p k o vs ≡ fits_by p k vs (values_of o)
fits-by p k vs None = refl
fits-by p k vs (Some kind) = refl

module _ (p : Program) (kinds : List Kind) (long : length kinds ≡ length p.kinds) (alike : (k : ℕ) → values_of (slice_get kinds k) ≡ values_of (slice_get p.kinds k)) where
  -- the image with other kinds
  abbrev other : Program
  other = record p { kinds = kinds }

  kind-same : (k : Option ℕ) → values_of (kind_at other k) ≡ values_of (kind_at p k)
  kind-same None = refl
  kind-same (Some k) = alike k

  value-sort-same : (k : Option ℕ) (i : ℕ) → value_sort (kind_at other k) i ≡ value_sort (kind_at p k) i
  value-sort-same k i = sort-by i (kind_at other k) ∙ ap (sort_by_values i) (kind-same k) ∙ sym (sort-by i (kind_at p k))

  value-range-same : (k : Option ℕ) (i : ℕ) → value_in_range (kind_at other k) i ≡ value_in_range (kind_at p k) i
  value-range-same k i = range-by i (kind_at other k) ∙ ap (range_by i) (kind-same k) ∙ sym (range-by i (kind_at p k))

  sort-same : (k : Option ℕ) (t : Term) → sort_of other k t ≡ sort_of p k t
  sort-same k (Const v) = refl
  sort-same k (Global g) = refl
  sort-same k NodeCount = refl
  sort-same k EdgeCount = refl
  sort-same k (Field f) = refl
  sort-same k Self = refl
  sort-same k OutDegree = refl
  sort-same k InDegree = refl
  sort-same k (Register r) = refl
  sort-same k (Message i) = value-sort-same k i
  sort-same k Neighbour = refl
  sort-same k (Column c) = refl
  sort-same k (NodeAt a) = ap (one_sort node_at_sort) (sort-same k a)
  sort-same k (Live place a) = ap (one_sort live_sort) (sort-same k a)
  sort-same k (Unary op place a) = ap (one_sort (unary_sort op)) (sort-same k a)
  sort-same k (Binary op place a b) = ap (λ x. two_sort (binary_sort op) x (sort_of other k b)) (sort-same k a) ∙ ap (two_sort (binary_sort op) (sort_of p k a)) (sort-same k b)
  sort-same k (And a b) = ap (λ x. two_sort logic_sort x (sort_of other k b)) (sort-same k a) ∙ ap (two_sort logic_sort (sort_of p k a)) (sort-same k b)
  sort-same k (Or a b) = ap (λ x. two_sort logic_sort x (sort_of other k b)) (sort-same k a) ∙ ap (two_sort logic_sort (sort_of p k a)) (sort-same k b)
  sort-same k (Choose c a b) =
      ap (λ x. three_sort choice_sort x (sort_of other k a) (sort_of other k b)) (sort-same k c)
      ∙ ap (λ x. three_sort choice_sort (sort_of p k c) x (sort_of other k b)) (sort-same k a)
      ∙ ap (three_sort choice_sort (sort_of p k c) (sort_of p k a)) (sort-same k b)

  leaf-same : (k : Option ℕ) (t : Term) → leaf_in_range other k t ≡ leaf_in_range p k t
  leaf-same k (Const v) = refl
  leaf-same k (Global g) = refl
  leaf-same k NodeCount = refl
  leaf-same k EdgeCount = refl
  leaf-same k (Field f) = refl
  leaf-same k Self = refl
  leaf-same k OutDegree = refl
  leaf-same k InDegree = refl
  leaf-same k (Register r) = refl
  leaf-same k (Message i) = value-range-same k i
  leaf-same k Neighbour = refl
  leaf-same k (Column c) = refl
  leaf-same k (NodeAt a) = refl
  leaf-same k (Live place a) = refl
  leaf-same k (Unary op place a) = refl
  leaf-same k (Binary op place a b) = refl
  leaf-same k (And a b) = refl
  leaf-same k (Or a b) = refl
  leaf-same k (Choose c a b) = refl

  term-same : (k : Option ℕ) (t : Term) → term_in_range other k t ≡ term_in_range p k t
  term-same k t = ap (λ leaf. not (is_shallow t) || (all_leaves leaf t && all_places (in_range p.places) t)) (fun_ext (leaf-same k))

  terms-same : (k : Option ℕ) (ts : List Term) → list_all (term_in_range other k) ts ≡ list_all (term_in_range p k) ts
  terms-same k ts = ap (λ test. list_all test ts) (fun_ext (term-same k))

  type-same : (k : Option ℕ) (t : VType) (a : Term) → has_type other k t a ≡ has_type p k t a
  type-same k t a = ap (λ x. is_shallow a && expects t x) (sort-same k a)

  slot-same : (k : Option ℕ) (o : Option VType) (a : Term) → has_slot_type other k o a ≡ has_slot_type p k o a
  slot-same k None a = refl
  slot-same k (Some t) a = type-same k t a

  targets-same : (k : Option ℕ) (ts : List VType) (xs : List Target) → targets_fit other k ts xs ≡ targets_fit p k ts xs
  targets-same k ts xs = ap (λ test. list_all test xs) (fun_ext (λ x. slot-same k (slice_get ts x.slot) x.term))

  values-same : (k : Option ℕ) (ts : List VType) (vs : List Term) → values_fit other k ts vs ≡ values_fit p k ts vs
  values-same k [] [] = refl
  values-same k [] (a ∷ more) = refl
  values-same k (t ∷ ts) [] = refl
  values-same k (t ∷ ts) (a ∷ more) = ap (λ b. b && values_fit other k ts more) (type-same k t a) ∙ ap (λ b. has_type p k t a && b) (values-same k ts more)

  fits-values-same : (k : Option ℕ) (vs : List Term) (o : Option (List VType)) → fits_by other k vs o ≡ fits_by p k vs o
  fits-values-same k vs None = refl
  fits-values-same k vs (Some ts) = values-same k ts vs

  message-same : (k : Option ℕ) (m : ℕ) (vs : List Term) → message_fits other k (slice_get kinds m) vs ≡ message_fits p k (slice_get p.kinds m) vs
  message-same k m vs =
      fits-by other k vs (slice_get kinds m)
      ∙ ap (fits_by other k vs) (alike m)
      ∙ fits-values-same k vs (values_of (slice_get p.kinds m))
      ∙ sym (fits-by p k vs (slice_get p.kinds m))

  line-fits-same : (k : Option ℕ) (l : Line) → line_fits other k l ≡ line_fits p k l
  line-fits-same k (SetField f a) = slot-same k (slice_get p.fields f) a
  line-fits-same k (Fold r place ts) = ap (λ b. reduction_fits p.fields r ts && b) (targets-same k p.fields ts)
  line-fits-same k (SetRegister r a) = slot-same k (slice_get p.registers r) a
  line-fits-same k (Put r place ts) = ap (λ b. reduction_fits p.globals r ts && b) (targets-same k p.globals ts)
  line-fits-same k (Send m to vs) = ap (λ b. b && message_fits other k (slice_get kinds m) vs) (type-same k types.Node to) ∙ ap (λ b. has_type p k types.Node to && b) (message-same k m vs)
  line-fits-same k (Skip n a) = type-same k types.Flag a
  line-fits-same k (Each d n) = refl

  line-range-same : (l : Line) → line_in_range other l ≡ line_in_range p l
  line-range-same (SetField f a) = refl
  line-range-same (Fold r place ts) = refl
  line-range-same (SetRegister r a) = refl
  line-range-same (Put r place ts) = refl
  line-range-same (Send m to vs) = ap (nat_lt m) long
  line-range-same (Skip n a) = refl
  line-range-same (Each d n) = refl

  command-fits-same : (c : Command) → command_fits other c ≡ command_fits p c
  command-fits-same (SetGlobal t a) = slot-same None (slice_get p.globals t) a
  command-fits-same (Step q) = refl
  command-fits-same (Jump j) = refl
  command-fits-same (Test j a) = type-same None types.Flag a
  command-fits-same (Turn x a) = type-same None types.Flag a
  command-fits-same (Back h) = refl
  command-fits-same Finish = refl

  command-range-same : (c : Command) → command_in_range other c ≡ command_in_range p c
  command-range-same (SetGlobal t a) = refl
  command-range-same (Step q) = refl
  command-range-same (Jump j) = refl
  command-range-same (Test j a) = refl
  command-range-same (Turn x a) = refl
  command-range-same (Back h) = refl
  command-range-same Finish = refl

  forward-same : (j : ℕ) (c : Command) → jumps_forward other j c ≡ jumps_forward p j c
  forward-same j (SetGlobal t a) = refl
  forward-same j (Step q) = refl
  forward-same j (Jump to) = refl
  forward-same j (Test to a) = refl
  forward-same j (Turn x a) = refl
  forward-same j (Back h) = refl
  forward-same j Finish = refl

  back-same : (j : ℕ) (c : Command) → goes_back other j c ≡ goes_back p j c
  back-same j (SetGlobal t a) = refl
  back-same j (Step q) = refl
  back-same j (Jump to) = refl
  back-same j (Test to a) = refl
  back-same j (Turn x a) = refl
  back-same j (Back h) = refl
  back-same j Finish = refl

  held-same : (h : Holder) → held_by other h ≡ held_by p h
  held-same Scalar = refl
  held-same Node = refl
  held-same Edge = refl

  result-range-same : (r : Option (VType × ℕ)) → result_in_range other r ≡ result_in_range p r
  result-range-same None = refl
  result-range-same (Some r) = refl

  result-fits-same : (r : Option (VType × ℕ)) → result_fits other r ≡ result_fits p r
  result-fits-same None = refl
  result-fits-same (Some r) = refl

  -- a line of the text keeps the other rules in both
  others-same : (row : Row) → keeps_others other row ≡ keeps_others p row
  others-same Plain = refl
  others-same NameRow = refl
  others-same (InputRow before i) = ap (λ ts. in_range ts i.slot && (type_holds (same_type i.vtype) (slice_get ts i.slot) && (input_keeps before i && true))) (held-same i.holder)
  others-same (OutputRow before i) = ap (λ ts. in_range ts i.slot && (type_holds (same_type i.vtype) (slice_get ts i.slot) && (output_keeps before i && true))) (held-same i.holder)
  others-same ResultRow = ap (λ x. x && (result_fits other p.result && true)) (result-range-same p.result) ∙ ap (λ x. result_in_range p p.result && (x && true)) (result-fits-same p.result)
  others-same ColumnsRow = refl
  others-same (KindRow k) = refl
  others-same (HandlerRow before h) = ap (λ n. nat_lt h.kind n && true) long
  others-same (LineRow s l) =
      let ranged : (line_in_range other l && list_all (term_in_range other s.kind) (line_terms l)) ≡ (line_in_range p l && list_all (term_in_range p s.kind) (line_terms l)) =
      ap (λ x. x && list_all (term_in_range other s.kind) (line_terms l)) (line-range-same l) ∙ ap (λ x. line_in_range p l && x) (terms-same s.kind (line_terms l)) in
      let rest : Bool = line_stays s l && (list_all (all_leaves (stands_at_vertex s.kind s.around.each)) (line_terms l) && (puts_one_way s.earlier l && true)) in
      ap (λ x. x && (line_fits other s.kind l && rest)) ranged ∙ ap (λ x. (line_in_range p l && list_all (term_in_range p s.kind) (line_terms l)) && (x && rest)) (line-fits-same s.kind l)
  others-same MasterRow = refl
  others-same (CommandRow j c) =
      let before : Bool = command_in_range p c && list_all (term_in_range p None) (command_terms c) in
      let rest : Bool = ends_last p (CommandRow j c) && (list_all (all_leaves stands_in_master) (command_terms c) && true) in
      ap (λ x. (x && list_all (term_in_range other None) (command_terms c)) && (command_fits other c && (jumps_forward other j c && (goes_back other j c && rest)))) (command-range-same c)
      ∙ ap (λ x. (command_in_range p c && x) && (command_fits other c && (jumps_forward other j c && (goes_back other j c && rest)))) (terms-same None (command_terms c))
      ∙ ap (λ x. before && (x && (jumps_forward other j c && (goes_back other j c && rest)))) (command-fits-same c)
      ∙ ap (λ x. before && (command_fits p c && (x && (goes_back other j c && rest)))) (forward-same j c)
      ∙ ap (λ x. before && (command_fits p c && (jumps_forward p j c && (x && rest)))) (back-same j c)

  pub others-alike : keeps_others other ≡ keeps_others p
  others-alike = fun_ext others-same

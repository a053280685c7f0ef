-- The inputs and outputs of the image of a parted program are those of the program.
use Rattle.std.proofs.Common.{◌≡◌, ◌<◌, ◌≤◌, ◌+◌, ℕ, zero, suc, Bool, true, false, cond, List, [], ◌∷◌, ◌++◌, length, map, take, drop, refl, ap, ◌∙◌, arith, Option, Some, None}
use Rattle.std.specs.Prelude.{filter, slice_get, option_map}
use Rattle.gm_value.specs.declared.values.VType.{VType}
use Rattle.gm_ast.specs.declared.tree.Declaration.{Declaration}
use Rattle.gm_ast.specs.declared.tree.Sort.{Sort}
use Rattle.gm_ast.specs.declared.tree.Sort.TheVariants as Sorts
use Rattle.gm_ast.specs.Names.{is, sort_eq}
use Rattle.gm_ast.specs.Program.{Program}
use Rattle.gm_semantics.specs.Levels.{numbers_from}
use Rattle.gm_semantics.specs.Outcomes.{is_of}
use Rattle.gm_semantics.specs.Statements.{variable_at, variable_or}
use Rattle.gm_forms.specs.Typing.{type_at}
use Rattle.gm_lowering.specs.Layouts.{layout}
use Rattle.gm_lowering.specs.Lowered.{items, items_by, name_or, result_at}
use Rattle.gm_machine.specs.Machine.{scalars, properties}
use Rattle.gm_sound_lowering.specs.Asked.{name_at}
use Rattle.gm_interface.specs.Tables.{HasParametersOf, HasTable}
use Rattle.gm_interface.proofs.Source.{typed-table}
use Rattle.gm_compilable.specs.Parameters.{Named, named, named_of, named_items, inputs_in, outputs_in, PartedImageHasItems}
use Rattle.gm_compilable.specs.Parted.{parted}
use Rattle.gm_compilable.proofs.Arguments.{filter-alike, columns-first}
use Rattle.gm_compilable.proofs.Tables.{parted-table, parted-parameters}

-- ---- by numbers

-- the variables of a sort among some numbers, with their names and types
abbrev pub listed : List Declaration → Sort → ℕ → ℕ → List Named
listed ds sort k n = map (λ x. named (name_at ds x) (type_at ds x)) (filter (is_of ds sort) (numbers_from k n))

abbrev pub Shows : List Declaration → List Declaration → ℕ → Type 0
Shows ds ys k = (j : ℕ) → slice_get ds (k + j) ≡ slice_get ys j

-- some declarations that stand in a table from a number on
pub of-rows : (ds : List Declaration) (sort : Sort) (n k : ℕ) (ys : List Declaration) → n ≤ length ys → Shows ds ys k → listed ds sort k n ≡ named_of sort (take n ys)
of-rows ds sort zero k ys le shows = refl
of-rows ds sort (suc n) k [] le shows = absurd (omega (arith, le))
of-rows ds sort (suc n) k (y ∷ ys) le shows =
    one (is_of ds sort k) (is sort y.variable) (ap (λ (v : _). is sort v) same) (of-rows ds sort n (suc k) ys (omega (arith, le)) (λ j. ap (slice_get ds) (let e : suc k + j ≡ k + suc j = omega arith in e) ∙ shows (suc j)))
  where
    here : slice_get ds k ≡ Some y
    here = ap (slice_get ds) (let e : k ≡ k + 0 = omega arith in e) ∙ shows 0

    same : variable_at ds k ≡ y.variable
    same = ap (λ o. variable_or (option_map (λ (d : Declaration). d.variable) o)) here

    row : named (name_at ds k) (type_at ds k) ≡ named y.name y.variable.vtype
    row = ap (λ n. named n (type_at ds k)) (ap name_or here) ∙ ap (named y.name) (ap (λ (v : _). v.vtype) same)

    one : (b c : Bool) → b ≡ c → listed ds sort (suc k) n ≡ named_of sort (take n ys)
        → map (λ x. named (name_at ds x) (type_at ds x)) (cond b (k ∷ filter (is_of ds sort) (numbers_from (suc k) n)) (filter (is_of ds sort) (numbers_from (suc k) n)))
        ≡ map (λ d. named d.name d.variable.vtype) (cond c (y ∷ filter (λ d. is sort d.variable) (take n ys)) (filter (λ d. is sort d.variable) (take n ys)))
    one b c e rest = ap (λ a. map (λ x. named (name_at ds x) (type_at ds x)) (cond a (k ∷ filter (is_of ds sort) (numbers_from (suc k) n)) (filter (is_of ds sort) (numbers_from (suc k) n)))) e ∙ by c rest
      where
        by : (c : Bool) → listed ds sort (suc k) n ≡ named_of sort (take n ys)
            → map (λ x. named (name_at ds x) (type_at ds x)) (cond c (k ∷ filter (is_of ds sort) (numbers_from (suc k) n)) (filter (is_of ds sort) (numbers_from (suc k) n)))
            ≡ map (λ d. named d.name d.variable.vtype) (cond c (y ∷ filter (λ d. is sort d.variable) (take n ys)) (filter (λ d. is sort d.variable) (take n ys)))
        by true rest = ap (λ r. r ∷ listed ds sort (suc k) n) row ∙ ap (λ rs. named y.name y.variable.vtype ∷ rs) rest
        by false rest = rest

pub from-front : (ds : List Declaration) → Shows ds ds 0
from-front ds j = ap (slice_get ds) (let e : 0 + j ≡ j = omega arith in e)

behind : (ds : List Declaration) (k : ℕ) → Shows ds (drop k ds) k
behind ds zero j = from-front ds j
behind [] (suc k) j = refl
behind (d ∷ ds) (suc k) j = ap (slice_get (d ∷ ds)) (let e : suc k + j ≡ suc (k + j) = omega arith in e) ∙ behind ds k j

long : (ds : List Declaration) (k n : ℕ) → k + n ≤ length ds → n ≤ length (drop k ds)
long ds zero n le = omega (arith, le)
long [] (suc k) n le = absurd (omega (arith, le))
long (d ∷ ds) (suc k) n le = long ds k n (omega (arith, le))

-- ---- items

module _ (p : Program) where
  scalar-items : (k n : ℕ) → named_items (scalars (items p (numbers_from k n))) ≡ listed p.declarations Sorts.Scalar k n
  scalar-items k zero = refl
  scalar-items k (suc n) = by (variable_at p.declarations k).sort (scalar-items (suc k) n)
    where
      by : (s : Sort) → named_items (scalars (items p (numbers_from (suc k) n))) ≡ listed p.declarations Sorts.Scalar (suc k) n
          → named_items (scalars (items_by p s k ++ items p (numbers_from (suc k) n)))
          ≡ map (λ x. named (name_at p.declarations x) (type_at p.declarations x)) (cond (sort_eq Sorts.Scalar s) (k ∷ filter (is_of p.declarations Sorts.Scalar) (numbers_from (suc k) n)) (filter (is_of p.declarations Sorts.Scalar) (numbers_from (suc k) n)))
      by Sorts.Scalar rest = ap (λ rs. named (name_at p.declarations k) (type_at p.declarations k) ∷ rs) rest
      by Sorts.NodeProperty rest = rest
      by Sorts.EdgeProperty rest = rest
      by Sorts.Iterator rest = rest
      by Sorts.Graph rest = rest
      by Sorts.Edge rest = rest

  property-items : (k n : ℕ) → named_items (properties (items p (numbers_from k n))) ≡ listed p.declarations Sorts.NodeProperty k n
  property-items k zero = refl
  property-items k (suc n) = by (variable_at p.declarations k).sort (property-items (suc k) n)
    where
      by : (s : Sort) → named_items (properties (items p (numbers_from (suc k) n))) ≡ listed p.declarations Sorts.NodeProperty (suc k) n
          → named_items (properties (items_by p s k ++ items p (numbers_from (suc k) n)))
          ≡ map (λ x. named (name_at p.declarations x) (type_at p.declarations x)) (cond (sort_eq Sorts.NodeProperty s) (k ∷ filter (is_of p.declarations Sorts.NodeProperty) (numbers_from (suc k) n)) (filter (is_of p.declarations Sorts.NodeProperty) (numbers_from (suc k) n)))
      by Sorts.Scalar rest = rest
      by Sorts.NodeProperty rest = ap (λ rs. named (name_at p.declarations k) (type_at p.declarations k) ∷ rs) rest
      by Sorts.EdgeProperty rest = rest
      by Sorts.Iterator rest = rest
      by Sorts.Graph rest = rest
      by Sorts.Edge rest = rest

-- ---- two programs

map-listed : {A : Type 0} (f g : ℕ → A) (t : ℕ → Bool) (k n : ℕ) → ((x : ℕ) → x < k + n → f x ≡ g x) → map f (filter t (numbers_from k n)) ≡ map g (filter t (numbers_from k n))
map-listed f g t k zero h = refl
map-listed f g t k (suc n) h = by (t k) (map-listed f g t (suc k) n (λ x lt. h x (omega (arith, lt))))
  where
    by : (b : Bool) → map f (filter t (numbers_from (suc k) n)) ≡ map g (filter t (numbers_from (suc k) n))
        → map f (cond b (k ∷ filter t (numbers_from (suc k) n)) (filter t (numbers_from (suc k) n))) ≡ map g (cond b (k ∷ filter t (numbers_from (suc k) n)) (filter t (numbers_from (suc k) n)))
    by true rest = ap (λ y. y ∷ map f (filter t (numbers_from (suc k) n))) (h k (omega arith)) ∙ ap (λ ys. g k ∷ ys) rest
    by false rest = rest

pub map-twice : {A B : Type 0} (f : A → B) (g : ℕ → A) (xs : List ℕ) → map (λ x. f (g x)) xs ≡ map f (map g xs)
map-twice f g [] = refl
map-twice f g (x ∷ xs) = ap (λ ys. f (g x) ∷ ys) (map-twice f g xs)

module _ (p q : Program) (same : HasParametersOf p q) where
  both-listed : (sort : Sort) (k n : ℕ) → k + n ≤ p.inputs + p.outputs → listed q.declarations sort k n ≡ listed p.declarations sort k n
  both-listed sort k n le =
      map-listed (λ x. named (name_at q.declarations x) (type_at q.declarations x)) (λ x. named (name_at p.declarations x) (type_at p.declarations x)) (is_of q.declarations sort) k n
      (λ x lt. let l = same.like x (omega (arith, lt, le)) in ap (λ m. named m (type_at q.declarations x)) l.name ∙ ap (named (name_at p.declarations x)) l.vtype)
      ∙ ap (map (λ x. named (name_at p.declarations x) (type_at p.declarations x)))
      (filter-alike (is_of q.declarations sort) (is_of p.declarations sort) k n (λ x lt. ap (sort_eq sort) (same.like x (omega (arith, lt, le))).sort))

  module _ (h : HasTable p) (k : HasTable q) where
    ins : (sort : Sort) → listed q.declarations sort 0 q.inputs ≡ named_of sort (inputs_in p)
    ins sort =
        let d = h.interface.declared in
        ap (listed q.declarations sort 0) same.inputs ∙ both-listed sort 0 p.inputs (omega arith) ∙ of-rows p.declarations sort p.inputs 0 p.declarations (omega (arith, d)) (from-front p.declarations)

    outs : (sort : Sort) → listed q.declarations sort q.inputs q.outputs ≡ named_of sort (outputs_in p)
    outs sort =
        let d = h.interface.declared in
        ap (λ i. listed q.declarations sort i q.outputs) same.inputs ∙ ap (listed q.declarations sort p.inputs) same.outputs ∙ both-listed sort p.inputs p.outputs (omega arith)
        ∙ of-rows p.declarations sort p.outputs p.inputs (drop p.inputs p.declarations) (long p.declarations p.inputs p.outputs d) (behind p.declarations p.inputs)

    columns : map (type_at q.declarations) (filter (is_of q.declarations Sorts.EdgeProperty) (numbers_from 0 q.inputs)) ≡ map (λ (n : Named). n.1) (named_of Sorts.EdgeProperty (inputs_in p))
    columns =
        map-twice (λ (n : Named). n.1) (λ x. named (name_at q.declarations x) (type_at q.declarations x)) (filter (is_of q.declarations Sorts.EdgeProperty) (numbers_from 0 q.inputs))
        ∙ ap (map (λ (n : Named). n.1)) (ins Sorts.EdgeProperty)

result-kept : (slot : ℕ) (t : Option VType) → option_map (λ (r : VType × ℕ). r.0) (result_at slot t) ≡ t
result-kept slot None = refl
result-kept slot (Some t) = refl

pub image-items : PartedImageHasItems
image-items p typed =
    let q = parted p in
    let k = parted-parameters p typed in
    let h = typed-table p typed in
    let l = parted-table p typed in
    record {
      name = k.name;
      scalar_inputs = scalar-items q 0 q.inputs ∙ ins p q k h l Sorts.Scalar;
      property_inputs = property-items q 0 q.inputs ∙ ins p q k h l Sorts.NodeProperty;
      columns = columns-first q l ∙ columns p q k h l;
      scalar_outputs = scalar-items q q.inputs q.outputs ∙ outs p q k h l Sorts.Scalar;
      property_outputs = property-items q q.inputs q.outputs ∙ outs p q k h l Sorts.NodeProperty;
      result = result-kept (layout q).result q.result ∙ k.result;
    }

-- The parameters of a procedure that breaks no rule have different names.
use Rattle.std.proofs.Common.{◌≡◌, ◌<◌, ℕ, zero, suc, Bool, true, false, Option, Some, None, List, [], ◌∷◌, ◌++◌, length, refl, ap, ◌∙◌, sym, subst, arith}
use Rattle.std.specs.Prelude.{◌+◌, ◌-◌, ◌||◌, not, is_none, if◌then◌else◌}
use Rattle.std.specs.Str.{bytes_eq}
use Rattle.std.proofs.lemmas.Bool.{both_ways, not-true}
use Rattle.std.proofs.lemmas.List.{length-append}
use Rattle.std.proofs.lemmas.Slice.Eq.{bytes_eq-Decides}
use Rattle.gm_base.specs.declared.places.Place.{Place}
use Rattle.gm_base.specs.declared.rules.Rule.{Rule}
use Rattle.gm_base.specs.declared.rules.Rule.TheVariants.{T4}
use Rattle.gm_value.specs.declared.values.VType.TheVariants as V
use Rattle.gm_value.specs.Operations.{same_type}
use Rattle.gm_ast.specs.declared.kinds.Role.TheVariants.{Input, Inside}
use Rattle.gm_ast.specs.declared.surface.Bearer.TheVariants.{Nodes, Edges}
use Rattle.gm_ast.specs.declared.surface.TypeWord.TheVariants as Word
use Rattle.gm_ast.specs.declared.tree.Declaration.{Declaration}
use Rattle.gm_ast.specs.declared.tree.Sort.TheVariants as Sorts
use Rattle.gm_ast.specs.declared.tree.Variable.{Variable}
use Rattle.gm_ast.specs.Judged.{unless}
use Rattle.gm_ast.specs.Names.{Known, Env, is, known_as, with_name, declared_as}
use Rattle.gm_ast.specs.Procedures.{parameters, count_names, head_broken, all_parameters, parts_of, elaborated, env_of_outputs, env_of_body, nothing_known, result_of}
use Rattle.gm_ast.specs.Program.{Program}
use Rattle.gm_ast.specs.Statements.{type_broken, holds_node, graph_named, variable_of, vtype_of, declared_all, with_names}
use Rattle.gm_ast.specs.Surface.{SurfaceName, SurfaceType, Plain, Property, SurfaceGroup, SurfaceProcedure}
use Rattle.gm_semantics.specs.Statements.{variable_at}
use Rattle.gm_typed_stores.specs.Values.{Each}
use Rattle.gm_ready.proofs.Judging.{IfPart, if-by, append-empty}
use Rattle.gm_sound_lowering.specs.Asked.{name_at}
use Rattle.gm_sound_lowering.proofs.Leaves.{each-join}
use Rattle.gm_interface.specs.Laws.{TypedHasNamesApart}
use Rattle.gm_interface.specs.Tables.{HasNamesApart}
use Rattle.gm_interface.proofs.Source.{ins, outs, body, all, all-parameters, all-at, parts-clean, sizes, is_empty}

-- ---- names

-- none of some declarations has a known name
abbrev Fresh : List Known → List Declaration → Type 0
Fresh ks ds = Each (λ d. is_none (known_as ks d.name) ≡ true) ds

-- each of some declarations has another name than those before it
abbrev Differ : List Declaration → Type 0
Differ [] = Unit {0}
Differ (d ∷ ds) = Each (λ e. bytes_eq e.name d.name ≡ false) ds × Differ ds

each-from : {A : Type 0} (P Q : A → Type 0) → ((x : A) → P x → Q x) → (xs : List A) → Each P xs → Each Q xs
each-from P Q k [] h = tt
each-from P Q k (x ∷ xs) h = (k x h.0, each-from P Q k xs h.1)

known-longer : (ks : List Known) (k : Known) (t : List ℕ) → is_none (known_as (ks ++ k ∷ []) t) ≡ true → (is_none (known_as ks t) ≡ true) × (bytes_eq t k.text ≡ false)
known-longer [] k t h = by (bytes_eq t k.text) refl h where
  by : (b : Bool) → bytes_eq t k.text ≡ b → is_none (if b then Some k.binding else None) ≡ true → (true ≡ true) × (bytes_eq t k.text ≡ false)
  by true e h = absurd (both_ways false refl h)
  by false e h = (refl, e)
known-longer (j ∷ ks) k t h = by (known-longer ks k t) (bytes_eq t j.text) h where
  by : (is_none (known_as (ks ++ k ∷ []) t) ≡ true → (is_none (known_as ks t) ≡ true) × (bytes_eq t k.text ≡ false)) → (b : Bool) → is_none (if b then Some j.binding else known_as (ks ++ k ∷ []) t) ≡ true
      → (is_none (if b then Some j.binding else known_as ks t) ≡ true) × (bytes_eq t k.text ≡ false)
  by rest true h = absurd (both_ways false refl h)
  by rest false h = rest h

no-refusal : (c : Bool) (r : Rule) (at : Place) → unless c r at ≡ [] → c ≡ true
no-refusal true r at h = refl
no-refusal false r at h = absurd (both_ways false refl (ap is_empty h))

-- names that are declared one after another
names-fresh : (v : Variable) (xs : List SurfaceName) (env : Env) → (declared_all v xs env).broken ≡ []
    → Fresh env.known (declared_all v xs env).declared × Differ (declared_all v xs env).declared
    × ((t : List ℕ) → is_none (known_as (with_names v xs env).known t) ≡ true → (is_none (known_as env.known t) ≡ true) × Each (λ d. bytes_eq t d.name ≡ false) (declared_all v xs env).declared)
names-fresh v [] env e = (tt, tt, λ t h. (h, tt))
names-fresh v (x ∷ xs) env e =
    let next = with_name env x v in
    let rest = declared_all v xs next in
    let one = declared_as env x v in
    let a = append-empty (one.broken ++ rest.broken) _ e in
    let b = append-empty one.broken rest.broken a.0 in
    let free = no-refusal (is_none (known_as env.known x.text)) _ x.place b.0 in
    let k : Known = record { text = x.text; binding = record { index = env.next; variable = v } } in
    let longer : next.known ≡ env.known ++ k ∷ [] = ap (λ c. if c then env.known ++ k ∷ [] else env.known) free in
    let ih = names-fresh v xs next b.1 in
    let split = λ (t : List ℕ) (h : is_none (known_as next.known t) ≡ true). known-longer env.known k t (subst (λ ks. is_none (known_as ks t) ≡ true) longer h) in (
      (free, each-from (λ d. is_none (known_as next.known d.name) ≡ true) (λ d. is_none (known_as env.known d.name) ≡ true) (λ d h. (split d.name h).0) rest.declared ih.0),
      (each-from (λ d. is_none (known_as next.known d.name) ≡ true) (λ d. bytes_eq d.name x.text ≡ false) (λ d h. (split d.name h).1) rest.declared ih.0, ih.1),
      λ t h. let r = ih.2 t h in let s = split t r.0 in (s.0, (s.1, r.1)),
    )

differ-join : (xs ys : List Declaration) → Differ xs → Differ ys → Each (λ e. Each (λ d. bytes_eq e.name d.name ≡ false) xs) ys → Differ (xs ++ ys)
differ-join [] ys h k c = k
differ-join (d ∷ xs) ys h k c = (
  each-join (λ e. bytes_eq e.name d.name ≡ false) xs ys h.0 (each-from (λ e. Each (λ d. bytes_eq e.name d.name ≡ false) (d ∷ xs)) (λ e. bytes_eq e.name d.name ≡ false) (λ e h. h.0) ys c),
  differ-join xs ys h.1 k (each-from (λ e. Each (λ d. bytes_eq e.name d.name ≡ false) (d ∷ xs)) (λ e. Each (λ d. bytes_eq e.name d.name ≡ false) xs) (λ e h. h.1) ys c),
)

parameters-fresh : (gs : List SurfaceGroup) (env : Env) → (parameters gs env).broken ≡ [] → Fresh env.known (parameters gs env).declared × Differ (parameters gs env).declared
parameters-fresh [] env e = (tt, tt)
parameters-fresh (g ∷ gs) env e =
    let v = variable_of g.vtype 0 in
    let inner = with_names v g.names env in
    let one = declared_all v g.names env in
    let rest = parameters gs inner in
    let a = append-empty (one.broken ++ rest.broken) _ e in
    let b = append-empty one.broken rest.broken a.0 in
    let x = names-fresh v g.names env b.0 in
    let y = parameters-fresh gs inner b.1 in (
      each-join (λ d. is_none (known_as env.known d.name) ≡ true) one.declared rest.declared x.0 (each-from (λ d. is_none (known_as inner.known d.name) ≡ true) (λ d. is_none (known_as env.known d.name) ≡ true) (λ d h. (x.2 d.name h).0) rest.declared y.0),
      differ-join one.declared rest.declared x.1 y.1 (each-from (λ d. is_none (known_as inner.known d.name) ≡ true) (λ e. Each (λ d. bytes_eq e.name d.name ≡ false) one.declared) (λ d h. (x.2 d.name h).1) rest.declared y.0),
    )

-- ---- by their numbers

named-at : (t : List ℕ) (ds : List Declaration) (y : ℕ) → Each (λ e. bytes_eq e.name t ≡ false) ds → y < length ds → bytes_eq (name_at ds y) t ≡ false
named-at t [] y h lt = absurd (omega (arith, lt))
named-at t (d ∷ ds) zero h lt = h.0
named-at t (d ∷ ds) (suc y) h lt = named-at t ds y h.1 (omega (arith, lt))

differ-at : (ds : List Declaration) (x y : ℕ) → Differ ds → x < y → y < length ds → bytes_eq (name_at ds y) (name_at ds x) ≡ false
differ-at [] x y h lt l = absurd (omega (arith, l))
differ-at (d ∷ ds) zero zero h lt l = absurd (omega (arith, lt))
differ-at (d ∷ ds) zero (suc y) h lt l = named-at d.name ds y h.0 (omega (arith, l))
differ-at (d ∷ ds) (suc x) zero h lt l = absurd (omega (arith, lt))
differ-at (d ∷ ds) (suc x) (suc y) h lt l = differ-at ds x y h.1 (omega (arith, lt)) (omega (arith, l))

turned : (s t : List ℕ) → bytes_eq s t ≡ false → bytes_eq t s ≡ false
turned s t h = by (bytes_eq t s) refl where
  by : (b : Bool) → bytes_eq t s ≡ b → bytes_eq t s ≡ false
  by false e = e
  by true e = absurd (both_ways (bytes_eq s t) h ((bytes_eq-Decides s t).1 (sym ((bytes_eq-Decides t s).0 e))))

pub name-first : (xs ys : List Declaration) (x : ℕ) → x < length xs → name_at (xs ++ ys) x ≡ name_at xs x
name-first [] ys x h = absurd (omega (arith, h))
name-first (d ∷ xs) ys zero h = refl
name-first (d ∷ xs) ys (suc x) h = name-first xs ys x (omega (arith, h))

name-behind : (xs ys : List Declaration) (i : ℕ) → name_at (xs ++ ys) (length xs + i) ≡ name_at ys i
name-behind [] ys i = ap (name_at ys) (let e : 0 + i ≡ i = omega arith in e)
name-behind (d ∷ xs) ys i = ap (name_at (d ∷ (xs ++ ys))) (let e : suc (length xs) + i ≡ suc (length xs + i) = omega arith in e) ∙ name-behind xs ys i

variable-first : (xs ys : List Declaration) (x : ℕ) → x < length xs → variable_at (xs ++ ys) x ≡ variable_at xs x
variable-first [] ys x h = absurd (omega (arith, h))
variable-first (d ∷ xs) ys zero h = refl
variable-first (d ∷ xs) ys (suc x) h = variable-first xs ys x (omega (arith, h))

-- ---- what inputs hold

-- a property takes no nodes
abbrev no_node : Variable → Bool
no_node v = not (is Sorts.NodeProperty v || is Sorts.EdgeProperty v) || not (same_type v.vtype V.Node)

inner-holds : (t : SurfaceType) (env : Env) → type_broken t Inside env ≡ [] → not (holds_node t) ≡ true → not (same_type (vtype_of t) V.Node) ≡ true
inner-holds (Plain at Word.Graph g) env h k = absurd (both_ways false refl (ap is_empty h))
inner-holds (Plain at Word.Edge g) env h k = absurd (both_ways false refl (ap is_empty h))
inner-holds (Plain at Word.Int g) env h k = refl
inner-holds (Plain at Word.Long g) env h k = refl
inner-holds (Plain at Word.Bool g) env h k = refl
inner-holds (Plain at Word.Node g) env h k = absurd (both_ways false refl k)
inner-holds (Property at b inner g) env h k = absurd (both_ways false refl (ap is_empty h))

property-holds : (t : SurfaceType) (env : Env) (at : Place) (g : Option SurfaceName) → (unless (not (holds_node t)) T4 at ++ graph_named env g) ++ type_broken t Inside env ≡ [] → not (same_type (vtype_of t) V.Node) ≡ true
property-holds t env at g h =
    let a = append-empty (unless (not (holds_node t)) _ at ++ graph_named env g) (type_broken t Inside env) h in
    let b = append-empty (unless (not (holds_node t)) _ at) (graph_named env g) a.0 in inner-holds t env a.1 (no-refusal (not (holds_node t)) _ at b.0)

input-holds : (t : SurfaceType) (env : Env) → type_broken t Input env ≡ [] → no_node (variable_of t 0) ≡ true
input-holds (Plain at Word.Graph g) env h = refl
input-holds (Plain at Word.Edge g) env h = refl
input-holds (Plain at Word.Int g) env h = refl
input-holds (Plain at Word.Long g) env h = refl
input-holds (Plain at Word.Bool g) env h = refl
input-holds (Plain at Word.Node g) env h = refl
input-holds (Property at Nodes inner g) env h = property-holds inner env at g h
input-holds (Property at Edges inner g) env h = property-holds inner env at g h

-- ---- of a procedure

module _ (s : SurfaceProcedure) (none : (parts_of s).broken ≡ []) where
  heads-clean : ((parameters s.inputs (nothing_known (result_of s))).broken ≡ []) × ((parameters s.outputs (env_of_outputs s)).broken ≡ [])
  heads-clean =
      append-empty (parameters s.inputs (nothing_known (result_of s))).broken (parameters s.outputs (env_of_outputs s)).broken (append-empty (all_parameters s).broken (head_broken s ++ (body s).broken) none).0

  pub source-names : (p : Program) → p.declarations ≡ all s → p.inputs ≡ count_names s.inputs → p.outputs ≡ count_names s.outputs → HasNamesApart p
  source-names p e i o =
      let n = sizes s none in
      let li = n.0 in
      let lo = n.1 in
      let x_ins = parameters-fresh s.inputs (nothing_known (result_of s)) heads-clean.0 in
      let x_outs = parameters-fresh s.outputs (env_of_outputs s) heads-clean.1 in
      record {
        inputs_differ = λ x y lt m.
            let ly : y < length (ins s) = omega (arith, m, li, i) in
            let lx : x < length (ins s) = omega (arith, ly, lt) in
            ap (λ t. bytes_eq t (name_at p.declarations y)) (in-name x lx) ∙ ap (bytes_eq (name_at (ins s) x)) (in-name y ly) ∙ turned (name_at (ins s) y) (name_at (ins s) x) (differ-at (ins s) x y x_ins.1 lt ly);
        outputs_differ = λ x y le lt m.
            let a : length (ins s) + (x - length (ins s)) ≡ x = omega (arith, le, li, i) in
            let b : length (ins s) + (y - length (ins s)) ≡ y = omega (arith, le, lt, li, i) in
            let less : x - length (ins s) < y - length (ins s) = omega (arith, le, lt, li, i) in
            let short : y - length (ins s) < length (outs s) = omega (arith, m, le, lt, li, lo, i, o) in
            let shorter : x - length (ins s) < length (outs s) = omega (arith, less, short) in
            ap (λ t. bytes_eq t (name_at p.declarations y)) (out-name x a shorter) ∙ ap (bytes_eq (name_at (outs s) (x - length (ins s)))) (out-name y b short)
            ∙ turned (name_at (outs s) (y - length (ins s))) (name_at (outs s) (x - length (ins s))) (differ-at (outs s) (x - length (ins s)) (y - length (ins s)) x_outs.1 less short);
        no_nodes = λ x lt h.
            let l : x < length (ins s) = omega (arith, lt, li, i) in
            let v : variable_at p.declarations x ≡ variable_at (ins s) x = ap (λ ds. variable_at ds x) e ∙ variable-first (ins s ++ outs s) ((body s).declared) x (both x l) ∙ variable-first (ins s) (outs s) x l in
            let held = all-at no_node (ins s) x (all-parameters no_node Input (env_of_body s) (λ t. input-holds t (env_of_body s)) s.inputs (nothing_known (result_of s)) (parts-clean s none).0) l in
            not-true (same_type (variable_at p.declarations x).vtype V.Node) (holds (variable_at p.declarations x) h (ap no_node v ∙ held));
      } where
        both : (x : ℕ) → x < length (ins s) → x < length (ins s ++ outs s)
        both x l = let e = length-append (ins s) (outs s) in omega (arith, l, e)

        in-name : (x : ℕ) → x < length (ins s) → name_at p.declarations x ≡ name_at (ins s) x
        in-name x l = ap (λ ds. name_at ds x) e ∙ name-first (ins s ++ outs s) ((body s).declared) x (both x l) ∙ name-first (ins s) (outs s) x l

        out-name : (x : ℕ) → length (ins s) + (x - length (ins s)) ≡ x → x - length (ins s) < length (outs s) → name_at p.declarations x ≡ name_at (outs s) (x - length (ins s))
        out-name x a l =
            let f = length-append (ins s) (outs s) in
            ap (λ ds. name_at ds x) e ∙ name-first (ins s ++ outs s) ((body s).declared) x (omega (arith, f, a, l)) ∙ ap (name_at (ins s ++ outs s)) (sym a) ∙ name-behind (ins s) (outs s) (x - length (ins s))

        holds : (v : Variable) → is Sorts.NodeProperty v || is Sorts.EdgeProperty v ≡ true → no_node v ≡ true → not (same_type v.vtype V.Node) ≡ true
        holds v h k = by (is Sorts.NodeProperty v || is Sorts.EdgeProperty v) h k where
          by : (b : Bool) → b ≡ true → not b || not (same_type v.vtype V.Node) ≡ true → not (same_type v.vtype V.Node) ≡ true
          by true h k = k
          by false h k = absurd (both_ways false refl h)

pub typed-names : TypedHasNamesApart
typed-names p typed =
    let s = typed.source in
    let none = append-empty (parts_of s).broken _ typed.clean in
    let held : IfPart HasNamesApart (elaborated s).part = if-by (λ q. Unit {0}) HasNamesApart (parts_of s).part _ (any (parts_of s).part) (λ q h. source-names s none.0 _ refl refl refl) in
    subst (λ o. IfPart HasNamesApart o) typed.is held where
      any : {A : Type 0} (o : Option A) → IfPart (λ (q : A). Unit {0}) o
      any None = tt
      any (Some q) = tt

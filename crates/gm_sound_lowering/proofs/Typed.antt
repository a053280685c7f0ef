-- The lines of a program's image keep the rules of indices, types and leaves.
use Rattle.std.proofs.Common.{◌≡◌, ◌<◌, ◌≤◌, ℕ, zero, suc, Bool, true, false, Option, Some, None, List, [], ◌∷◌, ◌++◌, map, length, refl, ap, ◌∙◌, arith}
use Rattle.std.specs.Prelude.{◌+◌, ◌||◌, not, nat_lt, nat_le, nat_eq, slice_get}
use Rattle.std.specs.List.{list_all}
use Rattle.std.proofs.lemmas.Bool.{both_ways, and_from, or_left, lt-ltb, eq-eqb}
use Rattle.gm_value.specs.declared.values.VType.{VType}
use Rattle.gm_value.specs.Operations.{same_type}
use Rattle.gm_ast.specs.declared.tree.Declaration.{Declaration}
use Rattle.gm_ast.specs.declared.tree.Sort.{Sort}
use Rattle.gm_ast.specs.declared.tree.Sort.TheVariants as Sorts
use Rattle.gm_ast.specs.Names.{is, sort_eq}
use Rattle.gm_ast.specs.Program.{Program}
use Rattle.gm_forms.proofs.Named.{both-true}
use Rattle.gm_forms.specs.Uses.{suits, uses_of}
use Rattle.gm_semantics.specs.Levels.{numbers_from}
use Rattle.gm_semantics.specs.Statements.{variable_at}
use Rattle.gm_typed_stores.specs.Values.{Each}
use Rattle.gm_image.specs.declared.images.Kind.{Kind}
use Rattle.gm_image.specs.declared.rules.ImageRule.TheVariants.{I1, I7}
use Rattle.gm_image.specs.Fits.{type_holds, types_fit, result_fits}
use Rattle.gm_image.specs.Indices.{in_range, held_by, indices_in_range, result_in_range}
use Rattle.gm_image.specs.Leaves.{stands_at_vertex, leaves_stand}
use Rattle.gm_image.specs.Program as image
use Rattle.gm_image.specs.Program.{Item, Line, Command, Finish, Handler, Block}
use Rattle.gm_image.specs.Rows.{Row, Plain, NameRow, InputRow, OutputRow, ResultRow, ColumnsRow, KindRow, HandlerRow, LineRow, MasterRow, CommandRow, Site, rows, rows_after, block_rows, command_rows}
use Rattle.gm_lowering.specs.Layouts.{layout, nesting, phase_positions, body_positions}
use Rattle.gm_lowering.specs.Lowered.{lowered, body_part, whole, start, items, items_by, kind_of, result_at}
use Rattle.gm_lowering.specs.Plans.{KindPlan, kinds_in}
use Rattle.gm_lowering_master.specs.Runs.{StandsAt}
use Rattle.gm_lowering_master.specs.Whole.{HasInterface}
use Rattle.gm_sound_lowering.specs.Asked.{IsAskedProgram}
use Rattle.gm_sound_lowering.specs.Laws.{KeepsRule, is_shallow_row, LinesHaveTypes}
use Rattle.gm_sound_lowering.proofs.Leaves.{body-placed, each-join}
use Rattle.gm_sound_lowering.proofs.Lines.{LineIs, line-range, line-stands, line-type, CommandIs, command-range, command-stands, command-type}
use Rattle.gm_sound_lowering.proofs.Loops.{BlockIs, stands-itself}
use Rattle.gm_sound_lowering.proofs.Phases.{PlansStand}
use Rattle.gm_sound_lowering.proofs.Rowwise.{rows-pass, all-always}
use Rattle.gm_sound_lowering.proofs.Slots.{get-in, global-type, result-type, field-type, column-type}
use Rattle.gm_sound_lowering.proofs.Statements.{part-is, PartIs}
use Rattle.gm_sound_lowering.proofs.Terms.{same-itself}

plans-stand : (p : Program) (m : ℕ) (ks : List KindPlan) → StandsAt (lowered p).kinds m (map kind_of ks) → PlansStand p m ks
plans-stand p m [] h = tt
plans-stand p m (k ∷ ks) h = (h.0, plans-stand p (suc m) ks h.1)

module _ (p : Program) where
  abbrev ds : List Declaration
  ds = p.declarations

  abbrev i : image.Program
  i = lowered p

  -- an input or an output has a slot of its type
  abbrev ItemIs : Item → Type 0
  ItemIs x = slice_get (held_by i x.holder) x.slot ≡ Some x.vtype

  item-is : (x : ℕ) (s : Sort) → (variable_at ds x).sort ≡ s → x < p.inputs + p.outputs → x < length ds → (variable_at ds x).depth ≡ 0 → Each ItemIs (items_by p s x)
  item-is x Sorts.Scalar e lt less d =
      (global-type p x less (and_from (nat_eq (variable_at ds x).depth 0) (is Sorts.Scalar (variable_at ds x) || is Sorts.Iterator (variable_at ds x)) (eq-eqb (variable_at ds x).depth 0 d) (or_left (is Sorts.Scalar (variable_at ds x)) (is Sorts.Iterator (variable_at ds x)) (ap (sort_eq Sorts.Scalar) e))), tt)
  item-is x Sorts.NodeProperty e lt less d =
      (field-type p x (and_from (is Sorts.NodeProperty (variable_at ds x)) _ (ap (sort_eq Sorts.NodeProperty) e) (or_left (nat_lt x (p.inputs + p.outputs)) _ (lt-ltb x (p.inputs + p.outputs) lt))), tt)
  item-is x Sorts.EdgeProperty e lt less d = (column-type p x less (ap (sort_eq Sorts.EdgeProperty) e), tt)
  item-is x Sorts.Graph e lt less d = tt
  item-is x Sorts.Iterator e lt less d = tt
  item-is x Sorts.Edge e lt less d = tt

  items-are : HasInterface p → (a m : ℕ) → a + m ≤ p.inputs + p.outputs → Each ItemIs (items p (numbers_from a m))
  items-are h a zero le = tt
  items-are h a (suc m) le =
      let lt : a < p.inputs + p.outputs = omega (arith, le) in
      let d = h.declared in
      each-join ItemIs (items_by p (variable_at ds a).sort a) (items p (numbers_from (suc a) m)) (item-is a (variable_at ds a).sort refl lt (omega (arith, lt, d)) (h.outside a lt)) (items-are h (suc a) m (omega (arith, le)))

  items-pass : (f : Row → Bool) (row : List Item → Item → Row) → ((before : List Item) (x : Item) → ItemIs x → f (row before x) ≡ true) → (before xs : List Item) → Each ItemIs xs → list_all f (rows_after row before xs) ≡ true
  items-pass f row h before [] k = refl
  items-pass f row h before (x ∷ xs) k = and_from (f (row before x)) (list_all f (rows_after row (before ++ x ∷ []) xs)) (h before x k.0) (items-pass f row h (before ++ x ∷ []) xs k.1)

  blocks-pass : (f : Row → Bool) → f Plain ≡ true → ((before : List Handler) (h : Handler) → in_range i.kinds h.kind ≡ true → f (HandlerRow before h) ≡ true)
      → ((s : Site) (l : Line) → LineIs i s.kind (stands_at_vertex s.kind s.around.each) l → f (LineRow s l) ≡ true) → (bs : List Block) → Each (BlockIs i) bs → list_all (λ b. list_all f (block_rows b)) bs ≡ true
  blocks-pass f e hh k [] h = refl
  blocks-pass f e hh k (b ∷ bs) h = and_from (list_all f (block_rows b)) (list_all (λ b. list_all f (block_rows b)) bs) (h.0 f e hh k) (blocks-pass f e hh k bs h.1)

  commands-pass : (f : Row → Bool) → ((j : ℕ) (c : Command) → CommandIs i c → f (CommandRow j c) ≡ true) → (j : ℕ) (cs : List Command) → Each (CommandIs i) cs → list_all f (command_rows j cs) ≡ true
  commands-pass f k j [] h = refl
  commands-pass f k j (c ∷ cs) h = and_from (f (CommandRow j c)) (list_all f (command_rows (suc j) cs)) (k j c h.0) (commands-pass f k (suc j) cs h.1)

  module _ (asked : IsAskedProgram p) where
    abbrev finish : ℕ
    finish = length (body_part p 0).commands

    body-is : PartIs p asked.nodes finish start p.body
    body-is =
        let named = both-true (nat_le (p.inputs + p.outputs) (length ds)) (list_all (suits ds) (uses_of p.body)) asked.named in
        part-is p asked.nodes finish p.body start
        (record {
          form = asked.form;
          typed = asked.typed;
          named = body-placed p named.1;
          asked = asked.asked;
          spares = (let z : phase_positions ds p.body ≤ phase_positions ds p.body = omega arith in z);
          room = (let z : body_positions ds p.body ≤ body_positions ds p.body = omega arith in z);
        })
        (record {
          depth = (let z : 0 + nesting p.body ≤ nesting p.body = omega arith in z);
          places = stands-itself i.places;
          kinds = plans-stand p 0 (kinds_in ds p.body) (stands-itself i.kinds);
          blocks = (let z : 0 + length i.blocks ≤ length i.blocks = omega arith in z);
        })

    -- a test that holds of what has types holds of all lines
    all-rows : (f : Row → Bool) → f Plain ≡ true → f NameRow ≡ true → ((before : List Item) (x : Item) → ItemIs x → f (InputRow before x) ≡ true) → ((before : List Item) (x : Item) → ItemIs x → f (OutputRow before x) ≡ true)
        → f ResultRow ≡ true → f ColumnsRow ≡ true → ((k : Kind) → f (KindRow k) ≡ true) → ((before : List Handler) (h : Handler) → in_range i.kinds h.kind ≡ true → f (HandlerRow before h) ≡ true)
        → ((s : Site) (l : Line) → LineIs i s.kind (stands_at_vertex s.kind s.around.each) l → f (LineRow s l) ≡ true) → f MasterRow ≡ true → ((j : ℕ) (c : Command) → CommandIs i c → f (CommandRow j c) ≡ true) → list_all f (rows i) ≡ true
    all-rows f plain name inputs outputs result columns kinds handlers lines list commands =
        let part = body-is in
        rows-pass f i (record {
          plain = plain;
          name = name;
          inputs = items-pass f InputRow inputs [] i.inputs (items-are asked.interface 0 p.inputs (omega arith));
          outputs = items-pass f OutputRow outputs [] i.outputs (items-are asked.interface p.inputs p.outputs (omega arith));
          result = result;
          columns = columns;
          kinds = all-always (λ k. f (KindRow k)) kinds i.kinds;
          blocks = blocks-pass f plain handlers lines i.blocks part.blocks;
          list = list;
          commands = commands-pass f commands 0 i.master (each-join (CommandIs i) (whole p).commands (Finish ∷ []) part.commands (tt, tt));
        })

    result-range : result_in_range i i.result ≡ true
    result-range = by p.result refl where
      by : (o : Option VType) → p.result ≡ o → result_in_range i (result_at (layout p).result o) ≡ true
      by None e = refl
      by (Some t) e = get-in i.globals (layout p).result t (result-type p t e)

    result-type-fits : result_fits i i.result ≡ true
    result-type-fits = by p.result refl where
      by : (o : Option VType) → p.result ≡ o → result_fits i (result_at (layout p).result o) ≡ true
      by None e = refl
      by (Some t) e = ap (type_holds (same_type t)) (result-type p t e) ∙ same-itself t

    indices : KeepsRule I1 p
    indices =
        all-rows (indices_in_range i) refl refl (λ before x h. get-in (held_by i x.holder) x.slot x.vtype h) (λ before x h. get-in (held_by i x.holder) x.slot x.vtype h) result-range refl (λ k. refl) (λ before h e. e)
        (λ s l h. line-range i s.kind (stands_at_vertex s.kind s.around.each) l h) refl (λ j c h. command-range i c h)

    leaves : KeepsRule I7 p
    leaves =
        all-rows (leaves_stand i) refl refl (λ before x h. refl) (λ before x h. refl) refl refl (λ k. refl) (λ before h e. refl) (λ s l h. line-stands i s.kind (stands_at_vertex s.kind s.around.each) l h) refl
        (λ j c h. command-stands i c h)

    -- a test that holds where another does
    where-shallow : (a b : Bool) → (a ≡ true → b ≡ true) → not a || b ≡ true
    where-shallow true b h = h refl
    where-shallow false b h = refl

    types-where-shallow : list_all (λ row. not (is_shallow_row row) || types_fit i row) (rows i) ≡ true
    types-where-shallow =
        all-rows (λ row. not (is_shallow_row row) || types_fit i row) refl refl (λ before x h. ap (type_holds (same_type x.vtype)) h ∙ same-itself x.vtype) (λ before x h. ap (type_holds (same_type x.vtype)) h ∙ same-itself x.vtype)
        result-type-fits refl (λ k. refl) (λ before h e. refl)
        (λ s l h. where-shallow (is_shallow_row (LineRow s l)) (types_fit i (LineRow s l)) (λ e. line-type i s.kind (stands_at_vertex s.kind s.around.each) l e h)) refl
        (λ j c h. where-shallow (is_shallow_row (CommandRow j c)) (types_fit i (CommandRow j c)) (λ e. command-type i c e h))

    both-hold : (rs : List Row) → list_all (λ row. not (is_shallow_row row) || types_fit i row) rs ≡ true → list_all is_shallow_row rs ≡ true → list_all (types_fit i) rs ≡ true
    both-hold [] h k = refl
    both-hold (r ∷ rs) h k =
        let a = both-true (not (is_shallow_row r) || types_fit i r) (list_all (λ row. not (is_shallow_row row) || types_fit i row) rs) h in
        let b = both-true (is_shallow_row r) (list_all is_shallow_row rs) k in
        and_from (types_fit i r) (list_all (types_fit i) rs) (by (is_shallow_row r) b.0 a.0) (both-hold rs a.1 b.1) where
          by : (s : Bool) → s ≡ true → not s || types_fit i r ≡ true → types_fit i r ≡ true
          by true e h = h
          by false e h = absurd (both_ways false refl e)

pub lines-have-types : LinesHaveTypes
lines-have-types p asked = (indices p asked, leaves p asked, λ shallow. both-hold p asked (rows (lowered p)) (types-where-shallow p asked) shallow)

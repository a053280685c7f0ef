-- The columns of the graph that an edge list stands for hold values of their types.
use Rattle.std.proofs.Common.{◌≡◌, ◌+◌, ℕ, Bool, true, false, List, [], ◌∷◌, ◌++◌, length, map, drop, refl, sym, subst, Option, Some, None, Result, Ok, Err}
use Rattle.std.specs.Prelude.{IfOk, ℤ, ◌==◌, nat_lt, slice_index, codes, if◌then◌else◌}
use Rattle.std.specs.Str.{bytes_eq}
use Rattle.std.specs.Str.Lines.{lines}
use Rattle.gm_fields.specs.Fields.{fields}
use Rattle.gm_value.specs.declared.values.VType.{VType}
use Rattle.gm_value.specs.declared.values.VType.TheVariants as V
use Rattle.gm_value.specs.declared.values.Value.TheVariants as Values
use Rattle.gm_value.specs.Numbers.{fits, value_at}
use Rattle.gm_graph.specs.declared.builds.Shape.{Shape}
use Rattle.gm_typed_stores.specs.Values.{IsValue, AreValues, AreColumns, Each}
use Rattle.gm_loader.specs.declared.limits.Limits.{Limits}
use Rattle.gm_loader.specs.declared.faults.LineFault.{LineFault}
use Rattle.gm_loader.specs.declared.faults.LineFault.TheVariants.{OutOfRange}
use Rattle.gm_loader.specs.declared.faults.GraphFault.{GraphFault}
use Rattle.gm_loader.specs.declared.faults.GraphFault.TheVariants as fault
use Rattle.gm_loader.specs.Fields.{whole_in, whole_value, flag_in, flag_value, value_in}
use Rattle.gm_loader.specs.Lines.{◌>>=◌, Line, Skipped, NodeLine, EdgeLine, first_number, values_in, node_line, edge_line, line_in, line_of}
use Rattle.gm_loader.specs.GraphText.{EdgeRow, NodeRow, edge_rows, node_rows, late_fault, unless, judged, on_line, lines_after, lines_of, raw_of}
use Rattle.gm_fitting.specs.Laws.{EdgeListsHaveColumns}
use Rattle.gm_fitting.proofs.Columns.{each-both, Rows, columns-good, as-columns, as-spread}

module _ (limit : ℕ) where
  -- ---- fields

  whole-good : (t : VType) → ((z : ℤ) → fits t z ≡ true → IsValue limit t (value_at t z)) → (o : Option ℤ) → IfOk (whole_value t o) (IsValue limit t)
  whole-good t good None = tt
  whole-good t good (Some z) = by (fits t z) refl
    where
      by : (b : Bool) → fits t z ≡ b → IfOk (if b then Ok (value_at t z) else Err OutOfRange) (IsValue limit t)
      by true e = good z e
      by false e = tt

  flag-good : (o : Option Bool) → IfOk (flag_value o) (IsValue limit V.Flag)
  flag-good None = tt
  flag-good (Some true) = record { of_type = (refl, refl); below = tt }
  flag-good (Some false) = record { of_type = (refl, refl); below = tt }

  field-good : (t : VType) (field : List ℕ) → IfOk (value_in t field) (IsValue limit t)
  field-good V.I32 field = whole-good V.I32 (λ z e. record { of_type = (refl, e); below = tt }) (whole_in field)
  field-good V.I64 field = whole-good V.I64 (λ z e. record { of_type = (refl, e); below = tt }) (whole_in field)
  field-good V.Flag field = flag-good (flag_in field)
  field-good V.Node field = tt

  -- ---- lines

  bind-good : {A B : Type 0} (P : A → Type 0) (Q : B → Type 0) (r : Result A LineFault) (f : A → Result B LineFault) → IfOk r P → ((x : A) → P x → IfOk (f x) Q) → IfOk (r >>= f) Q
  bind-good P Q (Ok x) f h k = k x h
  bind-good P Q (Err e) f h k = tt

  any : {A : Type 0} (r : Result A LineFault) → IfOk r (λ (x : A). Unit {0})
  any (Ok x) = tt
  any (Err e) = tt

  values-good : (ts : List VType) (fs : List (List ℕ)) → IfOk (values_in ts fs) (AreValues limit ts)
  values-good [] fs = tt
  values-good (t ∷ ts) [] = tt
  values-good (t ∷ ts) (field ∷ more) =
      bind-good (IsValue limit t) (AreValues limit (t ∷ ts)) (value_in t field) (λ value. values_in ts more >>= (λ values. Ok (value ∷ values))) (field-good t field)
      (λ v h. bind-good (AreValues limit ts) (AreValues limit (t ∷ ts)) (values_in ts more) (λ values. Ok (v ∷ values)) (values-good ts more) (λ vs k. (h, k)))

  -- a line's values have the types of the shape
  abbrev IsLine : Shape → Line → Type 0
  IsLine shape Skipped = Unit {0}
  IsLine shape (NodeLine n vs) = AreValues limit shape.nodes vs
  IsLine shape (EdgeLine a b vs) = AreValues limit shape.edges vs

  module _ (shape : Shape) where
    node-good : (parts : List (List ℕ)) → IfOk (node_line shape.nodes parts) (IsLine shape)
    node-good parts =
        bind-good (λ (n : ℕ). Unit {0}) (IsLine shape) (first_number parts) (λ number. values_in shape.nodes (drop 1 parts) >>= (λ values. Ok (NodeLine number values))) (any (first_number parts))
        (λ n u. bind-good (AreValues limit shape.nodes) (IsLine shape) (values_in shape.nodes (drop 1 parts)) (λ values. Ok (NodeLine n values)) (values-good shape.nodes (drop 1 parts)) (λ vs h. h))

    edge-good : (parts : List (List ℕ)) → IfOk (edge_line shape.edges parts) (IsLine shape)
    edge-good parts =
        bind-good (λ (n : ℕ). Unit {0}) (IsLine shape) (first_number parts) (λ from. first_number (drop 1 parts) >>= (λ to. values_in shape.edges (drop 2 parts) >>= (λ values. Ok (EdgeLine from to values)))) (any (first_number parts))
        (λ a u.
        bind-good (λ (n : ℕ). Unit {0}) (IsLine shape) (first_number (drop 1 parts)) (λ to. values_in shape.edges (drop 2 parts) >>= (λ values. Ok (EdgeLine a to values))) (any (first_number (drop 1 parts)))
        (λ b w. bind-good (AreValues limit shape.edges) (IsLine shape) (values_in shape.edges (drop 2 parts)) (λ values. Ok (EdgeLine a b values)) (values-good shape.edges (drop 2 parts)) (λ vs h. h)))

    line-good : (parts : List (List ℕ)) → IfOk (line_in shape parts) (IsLine shape)
    line-good [] = tt
    line-good (field ∷ more) = by (slice_index field 0 == 35) (bytes_eq field (codes "v"))
      where
        by : (a b : Bool) → IfOk (if a then Ok Skipped else (if b then node_line shape.nodes more else edge_line shape.edges (field ∷ more))) (IsLine shape)
        by true b = tt
        by false true = node-good more
        by false false = edge-good (field ∷ more)

    -- ---- all lines

    unless-good : (line : Line) (o : Option LineFault) → IsLine shape line → IfOk (unless line o) (IsLine shape)
    unless-good line None h = h
    unless-good line (Some e) h = tt

    judged-good : (limits : Limits) (before : List Line) (r : Result Line LineFault) → IfOk r (IsLine shape) → IfOk (judged limits before r) (IsLine shape)
    judged-good limits before (Ok line) h = unless-good line (late_fault limits before line) h
    judged-good limits before (Err e) h = tt

    on-good : {A : Type 0} (Q : A → Type 0) (k : ℕ) (r : Result Line LineFault) (go : Line → Result A GraphFault) → IfOk r (IsLine shape) → ((line : Line) → IsLine shape line → IfOk (go line) Q) → IfOk (on_line k r go) Q
    on-good Q k (Ok line) go h g = g line h
    on-good Q k (Err e) go h g = tt

    after-good : (limits : Limits) (before : List Line) (texts : List (List ℕ)) → Each (IsLine shape) before → IfOk (lines_after limits before (map (line_of shape) texts)) (Each (IsLine shape))
    after-good limits before [] h = h
    after-good limits before (text ∷ texts) h =
        on-good (Each (IsLine shape)) (length before + 1) (judged limits before (line_of shape text)) (λ sound. lines_after limits (before ++ sound ∷ []) (map (line_of shape) texts))
        (judged-good limits before (line_of shape text) (line-good (fields text)))
        (λ line k. after-good limits (before ++ line ∷ []) texts (each-both (IsLine shape) before (line ∷ []) h (k, tt)))

    all-good : (limits : Limits) (text : List ℕ) → IfOk (lines_of shape limits text) (Each (IsLine shape))
    all-good limits text = by (nat_lt limits.bytes (length text))
      where
        by : (b : Bool) → IfOk (if b then Err fault.TooLong else lines_after limits [] (map (line_of shape) (lines text))) (Each (IsLine shape))
        by true = tt
        by false = after-good limits [] (lines text) tt

    edges-good : (ls : List Line) → Each (IsLine shape) ls → Rows limit shape.edges (map (λ (e : EdgeRow). e.values) (edge_rows ls))
    edges-good [] h = tt
    edges-good (Skipped ∷ ls) h = edges-good ls h.1
    edges-good (NodeLine n vs ∷ ls) h = edges-good ls h.1
    edges-good (EdgeLine a b vs ∷ ls) h = (h.0, edges-good ls h.1)

    nodes-good : (ls : List Line) → Each (IsLine shape) ls → Rows limit shape.nodes (map (λ (r : NodeRow). r.values) (node_rows ls))
    nodes-good [] h = tt
    nodes-good (Skipped ∷ ls) h = nodes-good ls h.1
    nodes-good (NodeLine n vs ∷ ls) h = (h.0, nodes-good ls h.1)
    nodes-good (EdgeLine a b vs ∷ ls) h = nodes-good ls h.1

pub edge-lists : EdgeListsHaveColumns
edge-lists limit shape limits text g h =
    let good = subst (λ r. IfOk r (Each (IsLine limit shape))) h.no_fault (all-good limit shape limits text) in
    let ls = h.sound_lines in
    let raw = raw_of shape ls in
    record {
      nodes =
          subst (AreColumns limit shape.nodes) (sym h.built.node_columns)
          (as-spread limit g.numbers raw.extra shape.nodes raw.node_columns (columns-good limit shape.nodes (map (λ (r : NodeRow). r.values) (node_rows ls)) (nodes-good limit shape ls good)));
      edges =
          subst (AreColumns limit shape.edges) (sym h.built.edge_columns)
          (as-columns limit shape.edges raw.edge_columns (columns-good limit shape.edges (map (λ (e : EdgeRow). e.values) (edge_rows ls)) (edges-good limit shape ls good)));
    }

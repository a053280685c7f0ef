-- The values of a graph are of the types of its columns.
use Rattle.std.proofs.Common.{inl, inr, ◌≡◌, ℕ, List, [], ◌∷◌, map, get_or, refl, sym, subst}
use Rattle.std.specs.Prelude.{All}
use Rattle.std.proofs.lemmas.Bool.{cases_eq, eq-eqb, ne_eqb}
use Rattle.std.proofs.lemmas.List.Elements.{All-map, All-head, All-tail}
use Rattle.gm_value.specs.declared.values.VType.{VType}
use Rattle.gm_value.specs.declared.values.VType.TheVariants.{I32, I64, Flag, Node}
use Rattle.gm_value.specs.declared.values.Value.{Value}
use Rattle.gm_value.specs.declared.values.Value.TheVariants.{I32, I64, Flag}
use Rattle.gm_value.specs.Numbers.{zero_of}
use Rattle.gm_graph.specs.declared.builds.RawGraph.{RawGraph}
use Rattle.gm_columns.specs.Columns.{TypedRow, CanHold, HaveTypes}
use Rattle.gm_graph.specs.Builds.{IsBuildable, types_of, value_for, spread_out}

zero-held : (t : VType) → CanHold t (zero_of t)
zero-held I32 = record { of_type = refl; storable = tt }
zero-held I64 = record { of_type = refl; storable = tt }
zero-held Flag = record { of_type = refl; storable = tt }
zero-held Node = record { of_type = refl; storable = tt }

value_for-held : (t : VType) (rows : List ℕ) (values : List Value) (number : ℕ) → All (CanHold t) values → CanHold t (value_for t rows values number)
value_for-held t [] values number held = zero-held t
value_for-held t (row ∷ rows) [] number held = zero-held t
value_for-held t (row ∷ rows) (v ∷ values) number held =
    elim (cases_eq row number) [
      | inl is ↦ rw (eq-eqb row number is) (All-head (CanHold t) v values held)
      | inr differs ↦ rw (ne_eqb row number differs) (value_for-held t rows values number (All-tail (CanHold t) v values held))
    ]

typed-columns : (columns : List TypedRow) → All (λ c. All (CanHold c.vtype) c.values) columns → HaveTypes (types_of columns) (map (λ c. c.values) columns)
typed-columns [] held = tt
typed-columns (c ∷ columns) held =
    let P : TypedRow → Type 0 = λ row. All (CanHold row.vtype) row.values in
    (All-head P c columns held, typed-columns columns (All-tail P c columns held))

typed-spread : (columns : List TypedRow) (numbers extra : List ℕ) → All (λ c. All (CanHold c.vtype) c.values) columns → HaveTypes (types_of columns) (map (spread_out numbers extra) columns)
typed-spread [] numbers extra held = tt
typed-spread (c ∷ columns) numbers extra held =
    let P : TypedRow → Type 0 = λ row. All (CanHold row.vtype) row.values in
    let here : All (CanHold c.vtype) c.values = All-head P c columns held in (
      All-map (CanHold c.vtype) (value_for c.vtype extra c.values) numbers (λ k d h. value_for-held c.vtype extra c.values (get_or numbers k d) here),
      typed-spread columns numbers extra (All-tail P c columns held),
    )

pub node-types : (raw : RawGraph) (numbers : List ℕ) (columns : List (List Value)) (lent : List TypedRow) → IsBuildable raw → columns ≡ map (spread_out numbers raw.extra) raw.node_columns → lent ≡ raw.node_columns → All (λ c. All (CanHold c.vtype) c.values) lent → HaveTypes raw.shape.nodes columns
node-types raw numbers columns lent can spread a held =
    let P : List TypedRow → Type 0 = λ l. All (λ (c : TypedRow). All (CanHold c.vtype) c.values) l in
    let Q : List VType → Type 0 = λ l. HaveTypes l (map (spread_out numbers raw.extra) raw.node_columns) in
    let R : List (List Value) → Type 0 = λ l. HaveTypes raw.shape.nodes l in
    subst R (sym spread) (subst Q can.node_types (typed-spread raw.node_columns numbers raw.extra (subst P a held)))

pub edge-types : (raw : RawGraph) (columns : List (List Value)) (lent : List TypedRow) → IsBuildable raw → columns ≡ map (λ c. c.values) raw.edge_columns → lent ≡ raw.edge_columns → All (λ c. All (CanHold c.vtype) c.values) lent → HaveTypes raw.shape.edges columns
edge-types raw columns lent can is a held =
    let P : List TypedRow → Type 0 = λ l. All (λ (c : TypedRow). All (CanHold c.vtype) c.values) l in
    let Q : List VType → Type 0 = λ l. HaveTypes l (map (λ (c : TypedRow). c.values) raw.edge_columns) in
    let R : List (List Value) → Type 0 = λ l. HaveTypes raw.shape.edges l in
    subst R (sym is) (subst Q can.edge_types (typed-columns raw.edge_columns (subst P a held)))

-- Columns that are made of rows of values hold values of their types, and so do those of the graph that is built of them.
use Rattle.std.proofs.Common.{◌≡◌, ◌+◌, ℕ, zero, suc, Bool, true, false, cond, List, [], ◌∷◌, ◌++◌, map, drop, refl, sym, subst}
use Rattle.std.specs.Prelude.{◌==◌, replicate}
use Rattle.gm_value.specs.declared.values.VType.{VType}
use Rattle.gm_value.specs.declared.values.Value.{Value}
use Rattle.gm_value.specs.Numbers.{zero_of}
use Rattle.gm_columns.specs.Columns.{TypedRow}
use Rattle.gm_graph.specs.Builds.{value_for, spread_out}
use Rattle.gm_typed_stores.specs.Values.{IsValue, Along, AreValues, AreColumns, Each}
use Rattle.gm_typed_stores.proofs.Values.{zero-value}
use Rattle.gm_loader.specs.GraphText.{first_value, columns_of}

pub each-both : {A : Type 0} (P : A → Type 0) (xs ys : List A) → Each P xs → Each P ys → Each P (xs ++ ys)
each-both P [] ys h k = k
each-both P (x ∷ xs) ys h k = (h.0, each-both P xs ys h.1 k)

module _ (limit : ℕ) where
  -- a column of a type with values of it
  abbrev pub IsColumn : VType → TypedRow → Type 0
  IsColumn t c = (c.vtype ≡ t) × Each (IsValue limit t) c.values

  abbrev pub Rows : List VType → List (List Value) → Type 0
  Rows ts rows = Each (AreValues limit ts) rows

  first-good : (t : VType) (ts : List VType) (row : List Value) → AreValues limit (t ∷ ts) row → IsValue limit t (first_value t row)
  first-good t ts [] h = absurd h
  first-good t ts (v ∷ vs) h = h.0

  rest-good : (t : VType) (ts : List VType) (row : List Value) → AreValues limit (t ∷ ts) row → AreValues limit ts (drop 1 row)
  rest-good t ts [] h = absurd h
  rest-good t ts (v ∷ vs) h = h.1

  firsts-good : (t : VType) (ts : List VType) (rows : List (List Value)) → Rows (t ∷ ts) rows → Each (IsValue limit t) (map (first_value t) rows)
  firsts-good t ts [] h = tt
  firsts-good t ts (row ∷ rows) h = (first-good t ts row h.0, firsts-good t ts rows h.1)

  rests-good : (t : VType) (ts : List VType) (rows : List (List Value)) → Rows (t ∷ ts) rows → Rows ts (map (drop 1) rows)
  rests-good t ts [] h = tt
  rests-good t ts (row ∷ rows) h = (rest-good t ts row h.0, rests-good t ts rows h.1)

  pub columns-good : (ts : List VType) (rows : List (List Value)) → Rows ts rows → Along IsColumn ts (columns_of ts rows)
  columns-good [] rows h = tt
  columns-good (t ∷ ts) rows h = ((refl, firsts-good t ts rows h), columns-good ts (map (drop 1) rows) (rests-good t ts rows h))

  zeros-good : (t : VType) (n : ℕ) → Each (IsValue limit t) (replicate n (zero_of t))
  zeros-good t zero = tt
  zeros-good t (suc n) = (zero-value limit t, zeros-good t n)

  -- ---- of the graph

  pub as-columns : (ts : List VType) (cs : List TypedRow) → Along IsColumn ts cs → AreColumns limit ts (map (λ (c : TypedRow). c.values) cs)
  as-columns [] [] h = tt
  as-columns [] (c ∷ cs) h = absurd h
  as-columns (t ∷ ts) [] h = absurd h
  as-columns (t ∷ ts) (c ∷ cs) h = (h.0.1, as-columns ts cs h.1)

  value-good : (t : VType) (extra : List ℕ) (values : List Value) (number : ℕ) → Each (IsValue limit t) values → IsValue limit t (value_for t extra values number)
  value-good t [] values number h = zero-value limit t
  value-good t (row ∷ rows) [] number h = zero-value limit t
  value-good t (row ∷ rows) (v ∷ values) number h = by (row == number) (value-good t rows values number h.1)
    where
      by : (b : Bool) → IsValue limit t (value_for t rows values number) → IsValue limit t (cond b v (value_for t rows values number))
      by true rest = h.0
      by false rest = rest

  all-good : (t : VType) (extra : List ℕ) (values : List Value) (numbers : List ℕ) → Each (IsValue limit t) values → Each (IsValue limit t) (map (value_for t extra values) numbers)
  all-good t extra values [] h = tt
  all-good t extra values (n ∷ numbers) h = (value-good t extra values n h, all-good t extra values numbers h)

  spread-good : (numbers extra : List ℕ) (t : VType) (c : TypedRow) → IsColumn t c → Each (IsValue limit t) (spread_out numbers extra c)
  spread-good numbers extra t c h = subst (λ u. Each (IsValue limit t) (map (value_for u extra c.values) numbers)) (sym h.0) (all-good t extra c.values numbers h.1)

  pub as-spread : (numbers extra : List ℕ) (ts : List VType) (cs : List TypedRow) → Along IsColumn ts cs → AreColumns limit ts (map (spread_out numbers extra) cs)
  as-spread numbers extra [] [] h = tt
  as-spread numbers extra [] (c ∷ cs) h = absurd h
  as-spread numbers extra (t ∷ ts) [] h = absurd h
  as-spread numbers extra (t ∷ ts) (c ∷ cs) h = (spread-good numbers extra t c h.0, as-spread numbers extra ts cs h.1)

  pub zero-columns : (make : VType → TypedRow) (n : ℕ) → ((t : VType) → make t ≡ record { vtype = t; values = replicate n (zero_of t) }) → (ts : List VType) → Along IsColumn ts (map make ts)
  zero-columns make n e [] = tt
  zero-columns make n e (t ∷ ts) = (subst (IsColumn t) (sym (e t)) (refl, zeros-good t n), zero-columns make n e ts)

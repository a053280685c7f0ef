-- Environments tell the leaves of the expressions of a program, each with its type.
use Rattle.std.proofs.Common.{◌≡◌, ◌<◌, ◌≤◌, inl, inr, ℕ, suc, Bool, true, false, Option, List, [], ◌∷◌, ◌++◌, length, map, refl, ap, ◌∙◌, sym, subst, arith, ⊎_elim}
use Rattle.std.specs.Prelude.{◌+◌, ◌&&◌, ◌||◌, not, nat_lt, nat_eq}
use Rattle.std.specs.List.{list_all, list_any}
use Rattle.std.proofs.lemmas.Bool.{both_ways, and_from, ltb-true, lt-ltb, or_right, or_left, eq-eqb}
use Rattle.std.proofs.lemmas.List.{length-map}
use Rattle.gm_base.specs.declared.places.Place.{Place}
use Rattle.gm_value.specs.Bag.{IsIn}
use Rattle.gm_value.specs.declared.values.VType.{VType}
use Rattle.gm_value.specs.declared.values.VType.TheVariants as V
use Rattle.gm_ast.specs.declared.tree.Declaration.{Declaration}
use Rattle.gm_ast.specs.declared.tree.Direction.{Direction}
use Rattle.gm_ast.specs.declared.tree.Key.{Key}
use Rattle.gm_ast.specs.declared.tree.Sort.TheVariants as Sorts
use Rattle.gm_ast.specs.Names.{is, is_node_type}
use Rattle.gm_ast.specs.Program as S
use Rattle.gm_ast.specs.Program.{Expr, Program}
use Rattle.gm_ast.specs.Ways.{is_in}
use Rattle.gm_forms.proofs.Named.{both-true, all-append}
use Rattle.gm_forms.specs.Forms.{is_flat}
use Rattle.gm_forms.specs.Order.{can_fail1, can_fail2, fault_if}
use Rattle.gm_forms.specs.Typing.{type_at}
use Rattle.gm_forms.specs.Uses.{Role, Told, Owner, NodeValue, EdgeName, EdgeValue, Use, use_as, has_role, suits, uses_in, uses_of}
use Rattle.gm_semantics.specs.Statements.{variable_at}
use Rattle.gm_typed_stores.specs.Values.{Each}
use Rattle.gm_image.specs.Program as image
use Rattle.gm_image.specs.Term.{Term}
use Rattle.gm_lowering.specs.Layouts.{is_node_value, names_property, has_field}
use Rattle.gm_lowering.specs.Places.{Spot, spot_of, spots_in, segment, place_index, ascending, shown_places}
use Rattle.gm_lowering.specs.Plans.{Load, SenderItself, SenderProperty, SenderDegree, EdgeValue as EdgeLoad, load_if, loads_in}
use Rattle.gm_lowering.specs.Settles.{HaveRoom, HasSpot}
use Rattle.gm_lowering.specs.Terms.{Env}
use Rattle.gm_lowering.proofs.Orders.{HasFault, fault-has, ascending-has, index-within}
use Rattle.gm_lowering_master.specs.Runs.{StandsAt}
use Rattle.gm_lowering_master.proofs.Ranks.{get-within}
use Rattle.gm_sound_lowering.specs.Asked.{NodesAreNodes}
use Rattle.gm_sound_lowering.specs.Types.{IsTerm, PlaceIn, has_its_field, is_placed}
use Rattle.gm_sound_lowering.proofs.Terms.{HasPlace, Tells}

pub each-both : {A : Type 0} (P : A → Type 0) (xs ys : List A) → Each P (xs ++ ys) → Each P xs × Each P ys
each-both P [] ys h = (tt, h)
each-both P (x ∷ xs) ys h = let r = each-both P xs ys h.1 in ((h.0, r.0), r.1)

pub each-join : {A : Type 0} (P : A → Type 0) (xs ys : List A) → Each P xs → Each P ys → Each P (xs ++ ys)
each-join P [] ys h k = k
each-join P (x ∷ xs) ys h k = (h.0, each-join P xs ys h.1 k)

pub each-in : {A : Type 0} (P : A → Type 0) (xs : List A) → ((x : A) → IsIn x xs → P x) → Each P xs
each-in P [] h = tt
each-in P (x ∷ xs) h = (h x (inl refl), each-in P xs (λ y i. h y (inr i)))

pub each-all : {A : Type 0} (P : A → Type 0) → ((x : A) → P x) → (xs : List A) → Each P xs
each-all P h [] = tt
each-all P h (x ∷ xs) = (h x, each-all P h xs)

-- ---- places

stands-long : {A : Type 0} (all : List A) (i : ℕ) (x : A) (xs : List A) → StandsAt all i (x ∷ xs) → i + suc (length xs) ≤ length all
stands-long all i x [] h = let l = get-within all i x h.0 in omega (arith, l)
stands-long all i x (y ∷ ys) h = let l = stands-long all (suc i) y ys h.1 in omega (arith, l)

have-room : (places : List Place) (base : ℕ) (spots : List Spot) → StandsAt places base (shown_places (segment base spots)) → HaveRoom base spots (length places)
have-room places base spots stands z h = by (ascending spots) (ascending-has z.fault spots (fault-has z spots h)) stands where
  by : (xs : List Spot) → HasFault z.fault xs → StandsAt places base (map (λ s. s.shown) xs) → base + length xs ≤ length places
  by [] f st = absurd f
  by (x ∷ xs) f st =
      let l = stands-long places base x.shown (map (λ s. s.shown) xs) st in
      let m : length (map (λ s. s.shown) xs) ≡ length xs = length-map xs (λ s. s.shown) in
      omega (arith, l, m)

in-has : (z : Spot) (spots : List Spot) → IsIn z spots → HasSpot z spots
in-has z [] i = absurd i
in-has z (s ∷ ss) i = ⊎_elim (λ (e : z ≡ s). inl (sym e)) (λ (j : IsIn z ss). inr (in-has z ss j)) i

-- so are those of the spots of a segment whose places are the image's
pub spots-in : (p : image.Program) (base : ℕ) (spots : List Spot) → StandsAt p.places base (shown_places (segment base spots)) → Each (PlaceIn p (place_index (segment base spots))) spots
spots-in p base spots stands =
    each-in (PlaceIn p (place_index (segment base spots))) spots
    (λ z i. lt-ltb (place_index (segment base spots) z.fault.key z.fault.place) (length p.places) (index-within base spots (length p.places) (have-room p.places base spots stands) z (in-has z spots i)))

-- ---- names

module _ (P : Program) where
  abbrev ds : List Declaration
  ds = P.declarations

  abbrev pub Placed : List Use → Type 0
  Placed us = list_all (is_placed P) us ≡ true

  pub placed-split : (us ws : List Use) → Placed (us ++ ws) → Placed us × Placed ws
  placed-split us ws h = all-append (is_placed P) us ws h

  pub placed-here : (role : Role) (x : ℕ) → Placed (use_as role x) → (x < length ds) × (has_role (variable_at ds x) role ≡ true) × (has_its_field P (record { variable = x; role = role }) ≡ true)
  placed-here role x h =
      let u : Use = record { variable = x; role = role } in
      let a = both-true (suits ds u && has_its_field P u) true h in
      let b = both-true (suits ds u) (has_its_field P u) a.0 in
      let c = both-true (nat_lt x (length ds)) (has_role (variable_at ds x) role) b.0 in (ltb-true x (length ds) c.0, c.1, b.1)

  any-in : (us : List Use) (u : Use) (test : Use → Bool) → IsIn u us → test u ≡ true → list_any test us ≡ true
  any-in [] u test i e = absurd i
  any-in (w ∷ us) u test i e = ⊎_elim (λ (j : u ≡ w). or_left (test w) (list_any test us) (ap test (sym j) ∙ e)) (λ (j : IsIn u us). or_right (test w) (list_any test us) (any-in us u test j e)) i

  all-in : (us : List Use) (test : Use → Bool) → ((u : Use) → IsIn u us → test u ≡ true) → list_all test us ≡ true
  all-in [] test h = refl
  all-in (w ∷ us) test h = and_from (test w) (list_all test us) (h w (inl refl)) (all-in us test (λ u i. h u (inr i)))

  in-all : (us : List Use) (test : Use → Bool) → list_all test us ≡ true → (u : Use) → IsIn u us → test u ≡ true
  in-all [] test h u i = absurd i
  in-all (w ∷ us) test h u i = let b = both-true (test w) (list_all test us) h in ⊎_elim (λ (j : u ≡ w). ap test j ∙ b.0) (λ (j : IsIn u us). in-all us test b.1 u j) i

  -- the uses of a named program are placed
  pub body-placed : list_all (suits ds) (uses_of P.body) ≡ true → Placed (uses_of P.body)
  body-placed h = all-in (uses_of P.body) (is_placed P) (λ u i. let s = in-all (uses_of P.body) (suits ds) h u i in and_from (suits ds u) (has_its_field P u) s (by u i s (is_node_value u.role) refl)) where
    by : (u : Use) → IsIn u (uses_of P.body) → suits ds u ≡ true → (b : Bool) → is_node_value u.role ≡ b → not b || has_field P u.variable ≡ true
    by u i s false e = refl
    by u i s true e =
        let r = (both-true (nat_lt u.variable (length ds)) (has_role (variable_at ds u.variable) u.role) s).1 in
        and_from (is Sorts.NodeProperty (variable_at ds u.variable)) _ (role u.role e r)
        (or_right (nat_lt u.variable (P.inputs + P.outputs)) (list_any (names_property u.variable) (uses_of P.body))
        (any-in (uses_of P.body) u (names_property u.variable) i (and_from (nat_eq u.variable u.variable) (is_node_value u.role) (eq-eqb u.variable u.variable refl) e))) where
          role : (r : Role) → is_node_value r ≡ true → has_role (variable_at ds u.variable) r ≡ true → is Sorts.NodeProperty (variable_at ds u.variable) ≡ true
          role NodeValue e h = h
          role Role.Iterates e h = absurd (both_ways false refl e)
          role Role.Written e h = absurd (both_ways false refl e)
          role Role.Declared e h = absurd (both_ways false refl e)
          role Told e h = absurd (both_ways false refl e)
          role Owner e h = absurd (both_ways false refl e)
          role EdgeValue e h = absurd (both_ways false refl e)
          role EdgeName e h = absurd (both_ways false refl e)
          role Role.Anything e h = absurd (both_ways false refl e)

  -- an owner is a node
  pub owner-node : NodesAreNodes ds → (x : ℕ) → x < length ds → has_role (variable_at ds x) Owner ≡ true → type_at ds x ≡ V.Node
  owner-node nodes x lt h = by (is Sorts.Iterator (variable_at ds x)) (is Sorts.Graph (variable_at ds x)) refl refl where
    node-type : (t : VType) → is_node_type t ≡ true → t ≡ V.Node
    node-type V.Node e = refl
    node-type V.I32 e = absurd (both_ways false refl e)
    node-type V.I64 e = absurd (both_ways false refl e)
    node-type V.Flag e = absurd (both_ways false refl e)

    by : (a b : Bool) → is Sorts.Iterator (variable_at ds x) ≡ a → is Sorts.Graph (variable_at ds x) ≡ b → type_at ds x ≡ V.Node
    by true b e f = nodes x lt (or_left (is Sorts.Iterator (variable_at ds x)) _ e)
    by false true e f = nodes x lt (or_right (is Sorts.Iterator (variable_at ds x)) _ f)
    by false false e f =
        let r : (is Sorts.Scalar (variable_at ds x) && is_node_type (type_at ds x)) ≡ true = scalar (is Sorts.Iterator (variable_at ds x)) (is Sorts.Graph (variable_at ds x)) _ e f h in
        node-type (type_at ds x) (both-true (is Sorts.Scalar (variable_at ds x)) _ r).1 where
          scalar : (a b c : Bool) → a ≡ false → b ≡ false → (a || c) || b ≡ true → c ≡ true
          scalar true b c i j k = absurd (both_ways true i refl)
          scalar false true c i j k = absurd (both_ways true j refl)
          scalar false false true i j k = refl
          scalar false false false i j k = absurd (both_ways false refl k)

  -- ---- leaves

  module _ (kind : Option ℕ) (stands : Term → Bool) (image : image.Program) (v : Env) (its : List ℕ) (at_edge : Bool) (sender : ℕ) (Has : Load → Type 0) where
    -- what an environment tells: scalars, properties and degrees of iterators, and properties of the edge, if what is read of the sender and the edge is at hand
    pub record IsEnv : Type 0 where
      pub scalar : (x : ℕ) → x < length ds → Each Has (load_if sender x SenderItself) → IsTerm image kind stands (type_at ds x) (v.scalar x)
      pub property : (x q : ℕ) → is_in its x ≡ true → has_field P q ≡ true → Each Has (load_if sender x (SenderProperty q)) → IsTerm image kind stands (type_at ds q) (v.property x q)
      pub degree : (d : Direction) (x : ℕ) → is_in its x ≡ true → Each Has (load_if sender x (SenderDegree d)) → IsTerm image kind stands V.I32 (v.degree d x)
      pub edge : at_edge ≡ true → (q : ℕ) → q < length ds → is Sorts.EdgeProperty (variable_at ds q) ≡ true → Has (EdgeLoad q) → IsTerm image kind stands (type_at ds q) (v.edge q)

    -- so it tells the leaves of an expression
    pub tells : IsEnv → NodesAreNodes ds → (k : Key) (e : Expr) → is_flat its at_edge e ≡ true → Placed (uses_in e) → Each (PlaceIn image v.place) (spots_in e k) → Each Has (loads_in sender e)
        → Tells image kind stands ds v k e
    tells env nodes k (S.Const c) f u s l = tt
    tells env nodes k (S.Var x at) f u s l = env.scalar x (placed-here Told x u).0 l
    tells env nodes k (S.Property x q at) f u s l =
        let r = placed-split (use_as Owner x) (use_as NodeValue q) u in env.property x q f (placed-here NodeValue q r.1).2 l
    tells env nodes k (S.EdgeProperty x q at) f u s l =
        let r = placed-split (use_as EdgeName x) (use_as EdgeValue q) u in
        let h = placed-here EdgeValue q r.1 in
        env.edge f q h.0 h.1 l.0
    tells env nodes k (S.Degree d x at) f u s l = env.degree d x f l
    tells env nodes k S.NodeCount f u s l = tt
    tells env nodes k S.EdgeCount f u s l = tt
    tells env nodes k (S.Live x at) f u s l =
        let h = placed-here Owner x u in (subst (λ t. IsTerm image kind stands t (v.scalar x)) (owner-node nodes x h.0 h.1) (env.scalar x h.0 l), s.0)
    tells env nodes k (S.Unary op at a) f u s l =
        let r = each-both (PlaceIn image v.place) (map spot_of (fault_if (can_fail1 op) k at)) (spots_in a k) s in (place-of k at (can_fail1 op) r.0, tells env nodes k a f u r.1 l) where
          place-of : (k : Key) (at : Place) (b : Bool) → Each (PlaceIn image v.place) (map spot_of (fault_if b k at)) → HasPlace image kind stands b (v.place k at)
          place-of k at true h = h.0
          place-of k at false h = tt
    tells env nodes k (S.Binary op at a b) f u s l =
        let r = each-both (PlaceIn image v.place) (map spot_of (fault_if (can_fail2 op) k at)) (spots_in a k ++ spots_in b k) s in
        let t = each-both (PlaceIn image v.place) (spots_in a k) (spots_in b k) r.1 in
        let g = both-true (is_flat its at_edge a) (is_flat its at_edge b) f in
        let w = placed-split (uses_in a) (uses_in b) u in
        let m = each-both Has (loads_in sender a) (loads_in sender b) l in (place-of k at (can_fail2 op) r.0, tells env nodes k a g.0 w.0 t.0 m.0, tells env nodes k b g.1 w.1 t.1 m.1) where
          place-of : (k : Key) (at : Place) (b : Bool) → Each (PlaceIn image v.place) (map spot_of (fault_if b k at)) → HasPlace image kind stands b (v.place k at)
          place-of k at true h = h.0
          place-of k at false h = tt
    tells env nodes k (S.Both a b) f u s l =
        let t = each-both (PlaceIn image v.place) (spots_in a k) (spots_in b k) s in
        let g = both-true (is_flat its at_edge a) (is_flat its at_edge b) f in
        let w = placed-split (uses_in a) (uses_in b) u in
        let m = each-both Has (loads_in sender a) (loads_in sender b) l in (tells env nodes k a g.0 w.0 t.0 m.0, tells env nodes k b g.1 w.1 t.1 m.1)
    tells env nodes k (S.Either a b) f u s l =
        let t = each-both (PlaceIn image v.place) (spots_in a k) (spots_in b k) s in
        let g = both-true (is_flat its at_edge a) (is_flat its at_edge b) f in
        let w = placed-split (uses_in a) (uses_in b) u in
        let m = each-both Has (loads_in sender a) (loads_in sender b) l in (tells env nodes k a g.0 w.0 t.0 m.0, tells env nodes k b g.1 w.1 t.1 m.1)
    tells env nodes k (S.Choose c a b) f u s l =
        let t = each-both (PlaceIn image v.place) (spots_in c k) (spots_in a k ++ spots_in b k) s in
        let t2 = each-both (PlaceIn image v.place) (spots_in a k) (spots_in b k) t.1 in
        let g = both-true (is_flat its at_edge c) (is_flat its at_edge a && is_flat its at_edge b) f in
        let g2 = both-true (is_flat its at_edge a) (is_flat its at_edge b) g.1 in
        let w = placed-split (uses_in c) (uses_in a ++ uses_in b) u in
        let w2 = placed-split (uses_in a) (uses_in b) w.1 in
        let m = each-both Has (loads_in sender c) (loads_in sender a ++ loads_in sender b) l in
        let m2 = each-both Has (loads_in sender a) (loads_in sender b) m.1 in (
          tells env nodes k c g.0 w.0 t.0 m.0,
          tells env nodes k a g2.0 w2.0 t2.0 m2.0,
          tells env nodes k b g2.1 w2.1 t2.1 m2.1,
        )
    tells env nodes k (S.Folded fold h c a) f u s l = absurd (both_ways false refl f)

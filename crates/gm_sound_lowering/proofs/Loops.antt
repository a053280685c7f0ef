-- The lines of the blocks of loops have the types that they ask for.
use Rattle.std.proofs.Common.{◌≡◌, ◌<◌, ◌≤◌, ℕ, zero, suc, Bool, true, false, cond, Option, Some, None, List, [], ◌∷◌, ◌++◌, map, length, refl, ap, ◌∙◌, sym, subst, arith, ⊎_elim}
use Rattle.std.specs.Prelude.{◌+◌, ◌&&◌, ◌⊎◌, filter, slice_get}
use Rattle.std.specs.List.{list_all, list_any}
use Rattle.std.proofs.lemmas.Bool.{and_from}
use Rattle.gm_base.specs.declared.places.Place.{Place}
use Rattle.gm_value.specs.declared.values.VType.{VType}
use Rattle.gm_value.specs.declared.values.VType.TheVariants as V
use Rattle.gm_ast.specs.declared.tree.Declaration.{Declaration}
use Rattle.gm_ast.specs.declared.tree.Head.{Head}
use Rattle.gm_ast.specs.declared.tree.Key.{Key}
use Rattle.gm_ast.specs.declared.tree.Target.{Target}
use Rattle.gm_ast.specs.declared.tree.Target.TheVariants as T
use Rattle.gm_ast.specs.Program as S
use Rattle.gm_ast.specs.Program.{Expr, Stmt, Program}
use Rattle.gm_forms.proofs.Named.{both-true}
use Rattle.gm_forms.specs.Forms.{is_along, is_flat}
use Rattle.gm_forms.specs.Sharing.{are_alike, are_distinct, variables_of}
use Rattle.gm_forms.specs.Typing.{type_at, target_type, has_type, all_have_types, fits_targets, is_typed_in}
use Rattle.gm_forms.specs.Uses.{Use, uses_in, uses_in_all, uses_of_targets, uses_of}
use Rattle.gm_semantics.specs.Levels.{numbers_from}
use Rattle.gm_semantics.specs.Statements.{variable_at}
use Rattle.gm_typed_stores.specs.Values.{Each}
use Rattle.gm_image.specs.Indices.{in_range, value_in_range}
use Rattle.gm_image.specs.Leaves.{stands_at_vertex}
use Rattle.gm_image.specs.Program as image
use Rattle.gm_image.specs.Program.{Direction, Line, SetRegister, Fold, Send, Skip, Each as EachLine, Handler, Block}
use Rattle.gm_image.specs.Rows.{Row, Plain, HandlerRow, LineRow, Site, outside, body_rows, block_rows, handled_lines}
use Rattle.gm_image.specs.Sorts.{sort_by, value_sort}
use Rattle.gm_image.specs.Term as M
use Rattle.gm_image.specs.Term.{Term}
use Rattle.gm_lowering.specs.Blocks.{body_block, own_site, each_site, message_values, taking_handlers, taking_blocks, direction_of, is_read_first, zero_line, zero_lines, own_loop, each_loop, first_use, is_read}
use Rattle.gm_lowering.specs.Bodies.{under, lines_of, spots_of, reduce_spots}
use Rattle.gm_lowering.specs.Layouts.{Layout, layout, is_register, body_positions}
use Rattle.gm_lowering.specs.Lowered.{lowered, kind_of}
use Rattle.gm_lowering.specs.Places.{Spot, Segment, segment, spots_in, spots_in_all, place_index, shown_places}
use Rattle.gm_lowering.specs.Plans.{is_property_off, Load, loads_in, loads_of, Way, Puts, Folds, Sends, Picks, Away, way_of, away_by, aways, kind_of_away}
use Rattle.gm_lowering.specs.Terms.{own_env, each_env, term}
use Rattle.gm_lowering_master.specs.Runs.{StandsAt}
use Rattle.gm_sound_lowering.specs.Asked.{NodesAreNodes, is_plain, may_pick, is_asked_reduction, all_plain, is_asked_body, is_flat_body}
use Rattle.gm_sound_lowering.specs.Types.{IsTerm, PlaceIn, is_placed}
use Rattle.gm_sound_lowering.proofs.Asks.{owner_loads, KindsStand, expr-is, stmt-is}
use Rattle.gm_sound_lowering.proofs.Ways.{WayIs, way-is, is_property, property-slots, sent-properties}
use Rattle.gm_sound_lowering.proofs.BlockRows.{flat_at, each_at, handler_at, LinesPass, flat-rows, each-rows, HandlersPass, body-rows, taking-rows, under-cases}
use Rattle.gm_sound_lowering.proofs.Bodies.{lines-good, under-good}
use Rattle.gm_sound_lowering.proofs.Environments.{own-env, each-env, vertex-zero}
use Rattle.gm_sound_lowering.proofs.Leaves.{each-both, each-join, each-all, spots-in, placed-split}
use Rattle.gm_sound_lowering.proofs.Lines.{LineIs}
use Rattle.gm_sound_lowering.proofs.Reductions.{AreTargets, targets-are, reduction-is, IsPropertySlot, properties-differ}
use Rattle.gm_sound_lowering.proofs.Slots.{get-in, register-type, field-type}
use Rattle.gm_sound_lowering.proofs.Spans.{Stay, lines-stay, under-stays, stay-no_each}

abbrev pub Any : Load → Type 0
Any x = Unit {0}

-- ---- blocks, line by line

-- a test of lines holds of a block, where it holds of all lines with types and of all handlers of kinds in range
abbrev pub BlockIs : image.Program → Block → Type 0
BlockIs i b =
    (f : Row → Bool) → f Plain ≡ true → ((before : List Handler) (h : Handler) → in_range i.kinds h.kind ≡ true → f (HandlerRow before h) ≡ true)
    → ((s : Site) (l : Line) → LineIs i s.kind (stands_at_vertex s.kind s.around.each) l → f (LineRow s l) ≡ true) → list_all f (block_rows b) ≡ true

module _ (i : image.Program) where
  abbrev Flat : Line → Type 0
  Flat = LineIs i None (stands_at_vertex None None)

  abbrev Inner : Direction → Line → Type 0
  Inner d = LineIs i None (stands_at_vertex None (Some d))

  abbrev Handled : ℕ → Line → Type 0
  Handled m = LineIs i (Some m) (stands_at_vertex (Some m) None)

  abbrev Lines : (Row → Bool) → Type 0
  Lines f = (s : Site) (l : Line) → LineIs i s.kind (stands_at_vertex s.kind s.around.each) l → f (LineRow s l) ≡ true

  flat-lines : (f : Row → Bool) → Lines f → (before earlier ls : List Line) → Each Flat ls → LinesPass f flat_at before earlier ls
  flat-lines f k before earlier [] h = tt
  flat-lines f k before earlier (l ∷ ls) h = (k (flat_at before earlier ls) l h.0, flat-lines f k (before ++ l ∷ []) (earlier ++ l ∷ []) ls h.1)

  inner-lines : (f : Row → Bool) → Lines f → (d : Direction) (all before earlier ls : List Line) → Each (Inner d) ls → LinesPass f (each_at d all) before earlier ls
  inner-lines f k d all before earlier [] h = tt
  inner-lines f k d all before earlier (l ∷ ls) h = (k (each_at d all before earlier ls) l h.0, inner-lines f k d all (before ++ l ∷ []) (earlier ++ l ∷ []) ls h.1)

  handled-lines : (f : Row → Bool) → Lines f → (m : ℕ) (all before earlier ls : List Line) → Each (Handled m) ls → LinesPass f (handler_at m all) before earlier ls
  handled-lines f k m all before earlier [] h = tt
  handled-lines f k m all before earlier (l ∷ ls) h = (k (handler_at m all before earlier ls) l h.0, handled-lines f k m all (before ++ l ∷ []) (earlier ++ l ∷ []) ls h.1)

  -- handlers of kinds in range, whose lines have types
  abbrev pub HandlersAre : List Handler → Type 0
  HandlersAre [] = Unit {0}
  HandlersAre (h ∷ hs) = (in_range i.kinds h.kind ≡ true) × Each (Handled h.kind) h.lines × HandlersAre hs

  pub flat-block : (ls : List Line) → Stay ls → Each Flat ls → BlockIs i (body_block ls)
  flat-block ls st h f e hh k = body-rows f ls e (flat-rows f [] [] ls (stay-no_each ls st) (flat-lines f k [] [] ls h))

  pub each-block : (t : Term) (d : Direction) (ls : List Line) → IsTerm i None (stands_at_vertex None None) V.Flag t → Each (Inner d) ls → BlockIs i (body_block (under t (EachLine d (length ls) ∷ ls)))
  each-block t d ls x h f e hh k = body-rows f (under t (EachLine d (length ls) ∷ ls)) e (by (under-cases t (EachLine d (length ls) ∷ ls))) where
    alone : (earlier : List Line) → list_all f (body_rows earlier outside (EachLine d (length ls) ∷ ls)) ≡ true
    alone earlier = each-rows f d earlier ls (k (flat_at [] earlier ls) (EachLine d (length ls)) tt) (inner-lines f k d ls [] (earlier ++ EachLine d (length ls) ∷ []) ls h)

    by : (under t (EachLine d (length ls) ∷ ls) ≡ EachLine d (length ls) ∷ ls) ⊎ (under t (EachLine d (length ls) ∷ ls) ≡ Skip (suc (length ls)) t ∷ (EachLine d (length ls) ∷ ls))
        → list_all f (body_rows [] outside (under t (EachLine d (length ls) ∷ ls))) ≡ true
    by q = ⊎_elim (λ (e : under t (EachLine d (length ls) ∷ ls) ≡ EachLine d (length ls) ∷ ls). subst (λ ms. list_all f (body_rows [] outside ms) ≡ true) (sym e) (alone []))
        (λ (e : under t (EachLine d (length ls) ∷ ls) ≡ Skip (suc (length ls)) t ∷ (EachLine d (length ls) ∷ ls)).
        subst (λ ms. list_all f (body_rows [] outside ms) ≡ true) (sym e)
        (and_from (f (LineRow (flat_at [] [] (EachLine d (length ls) ∷ ls)) (Skip (suc (length ls)) t))) _ (k (flat_at [] [] (EachLine d (length ls) ∷ ls)) (Skip (suc (length ls)) t) x) (alone (Skip (suc (length ls)) t ∷ [])))) q

  pub taking-block : (hs : List Handler) → HandlersAre hs → BlockIs i (record { handlers = hs; body = [] })
  taking-block hs h f e hh k = taking-rows f hs e (handlers (handled_lines (record { handlers = hs; body = [] })) [] [] hs h) where
    handlers : (all earlier : List Line) (before hs : List Handler) → HandlersAre hs → HandlersPass f all earlier before hs
    handlers all earlier before [] h = tt
    handlers all earlier before (x ∷ hs) h = (hh before x h.0, handled-lines f k x.kind all [] earlier x.lines h.1, handlers all (earlier ++ x.lines) (before ++ x ∷ []) hs h.2)

-- ---- what is taken of messages

stands-on : {A : Type 0} (x : A) (all : List A) (j : ℕ) (xs : List A) → StandsAt all j xs → StandsAt (x ∷ all) (suc j) xs
stands-on x all j [] h = tt
stands-on x all j (y ∷ ys) h = (h.0, stands-on x all (suc j) ys h.1)

pub stands-itself : {A : Type 0} (xs : List A) → StandsAt xs 0 xs
stands-itself [] = tt
stands-itself (x ∷ xs) = (refl, stands-on x xs 0 xs (stands-itself xs))

module _ (p : Program) where
  abbrev ds : List Declaration
  ds = p.declarations

  abbrev c : Layout
  c = layout p

  abbrev i : image.Program
  i = lowered p

  abbrev Named : List Use → Type 0
  Named us = list_all (is_placed p) us ≡ true

  abbrev In : (Key → Place → ℕ) → List Spot → Type 0
  In place zs = Each (PlaceIn i place) zs

  -- a reduction that is sent has a place for its total, and fits the properties of its targets
  pub record AwayIs (place : Key → Place → ℕ) (a : Away) : Type 0 where
    pub place_in : in_range i.places (place a.total.key a.total.place) ≡ true
    pub fits : fits_targets ds a.reduce a.targets ≡ true
    pub slots : Each (IsPropertySlot p) a.targets
    pub apart : are_distinct (variables_of a.targets) ≡ true

  pub aways-are : (place : Key → Place → ℕ) (result : Option VType) (n : ℕ) (its : List ℕ) (at_once : Bool) (st : Stmt) → is_typed_in ds result st ≡ true → Named (uses_of st) → is_asked_body ds n st ≡ true
      → In place (spots_of c n its at_once st) → Each (AwayIs place) (aways ds n st)
  aways-are place result n its at_once (S.Then a b) h u q z =
      let h2 = both-true (is_typed_in ds result a) (is_typed_in ds result b) h in
      let u2 = placed-split p (uses_of a) (uses_of b) u in
      let q2 = both-true (is_asked_body ds n a) (is_asked_body ds n b) q in
      let z2 = each-both (PlaceIn i place) (spots_of c n its at_once a) (spots_of c n its at_once b) z in
      each-join (AwayIs place) (aways ds n a) (aways ds n b) (aways-are place result n its at_once a h2.0 u2.0 q2.0 z2.0) (aways-are place result n its at_once b h2.1 u2.1 q2.1 z2.1)
  aways-are place result n its at_once (S.If k e a b) h u q z =
      let h1 = both-true (has_type ds V.Flag e) (is_typed_in ds result a && is_typed_in ds result b) h in
      let h2 = both-true (is_typed_in ds result a) (is_typed_in ds result b) h1.1 in
      let u2 = placed-split p (uses_of a) (uses_of b) (placed-split p (uses_in e) (uses_of a ++ uses_of b) u).1 in
      let q1 = both-true (is_plain ds e) (is_asked_body ds n a && is_asked_body ds n b) q in
      let q2 = both-true (is_asked_body ds n a) (is_asked_body ds n b) q1.1 in
      let z1 = each-both (PlaceIn i place) (spots_in e k) (spots_of c n its at_once a ++ spots_of c n its at_once b) z in
      let z2 = each-both (PlaceIn i place) (spots_of c n its at_once a) (spots_of c n its at_once b) z1.1 in
      each-join (AwayIs place) (aways ds n a) (aways ds n b) (aways-are place result n its at_once a h2.0 u2.0 q2.0 z2.0) (aways-are place result n its at_once b h2.1 u2.1 q2.1 z2.1)
  aways-are place result n its at_once (S.Combine k total r ts es) h u q z =
      let h2 = both-true (all_have_types ds ts es) (fits_targets ds r ts) h in
      let u2 = placed-split p (uses_of_targets ts) (uses_in_all es) u in
      let q2 = both-true (is_asked_reduction ds n ts) (all_plain ds es) q in
      let b = both-true (are_alike ts) (are_distinct (variables_of ts) && may_pick (way_of ds n ts) ds ts) q2.0 in
      let d = both-true (are_distinct (variables_of ts)) (may_pick (way_of ds n ts) ds ts) b.1 in
      by (way_of ds n ts) (way-is p n ts) (λ w. sent-properties p n ts b.0 w) (λ way z. (each-both (PlaceIn i place) (spots_in_all es k) (reduce_spots at_once its way k total ts) z).1) h2.1 u2.0 d.0 z where
        by : (way : Way) → WayIs p n way ts → (list_any (is_property_off n) ts ≡ true → list_all (is_property p n) ts ≡ true) → ((way : Way) → In place (spots_in_all es k ++ reduce_spots at_once its way k total ts) → In place (reduce_spots at_once its way k total ts))
            → fits_targets ds r ts ≡ true → Named (uses_of_targets ts) → are_distinct (variables_of ts) ≡ true → In place (spots_in_all es k ++ reduce_spots at_once its way k total ts) → Each (AwayIs place) (away_by way total r ts)
        by Puts w s x f u d z = tt
        by Folds w s x f u d z = tt
        by Picks w s x f u d z = tt
        by Sends w s x f u d z = (record { place_in = (x Sends z).0; fits = f; slots = property-slots p n ts (s w) u; apart = d }, tt)
  aways-are place result n its at_once S.Skip h u q z = tt
  aways-are place result n its at_once (S.Declare k x e) h u q z = tt
  aways-are place result n its at_once (S.DeclareEdge x y at) h u q z = tt
  aways-are place result n its at_once (S.Assign k t e) h u q z = tt
  aways-are place result n its at_once (S.Defer k t e) h u q z = tt
  aways-are place result n its at_once (S.Group k at x y e) h u q z = tt
  aways-are place result n its at_once (S.Foreach k at head test body) h u q z = tt
  aways-are place result n its at_once (S.For k at head test body) h u q z = tt
  aways-are place result n its at_once (S.While k at test body) h u q z = tt
  aways-are place result n its at_once (S.Do k at body test) h u q z = tt
  aways-are place result n its at_once (S.InBfs k at how test body) h u q z = tt
  aways-are place result n its at_once (S.InBfsBoth k at how test body back_key back_test back) h u q z = tt
  aways-are place result n its at_once (S.Return k at e) h u q z = tt

  -- the values of a message, one for each target
  module _ (m : ℕ) (all : List VType) (known : slice_get i.kinds m ≡ Some (record { combiner = None; values = all })) where
    value-is : (j : ℕ) (t : VType) → slice_get all j ≡ Some t → IsTerm i (Some m) (stands_at_vertex (Some m) None) t (M.Message j)
    value-is j t e = record {
      sort = ap (λ k. value_sort k j) known ∙ ap sort_by e;
      leaves = ap (λ k. value_in_range k j) known ∙ get-in all j t e;
      places = refl;
      leaf = refl;
    }

    taken-targets : (j : ℕ) (ts : List Target) → StandsAt all j (map (target_type ds) ts) → Each (IsPropertySlot p) ts → AreTargets p (Some m) (stands_at_vertex (Some m) None) i.fields ts (message_values j ts)
    taken-targets j [] h k = tt
    taken-targets j (T.Scalar x at ∷ ts) h k = absurd k.0
    taken-targets j (T.Property x q at ∷ ts) h k = (field-type p q k.0, value-is j (type_at ds q) h.0, taken-targets (suc j) ts h.1 k.1)

  taking-are : (g : Segment) (m : ℕ) (xs : List Away) → Each (AwayIs (place_index g)) xs → KindsStand p m xs → HandlersAre i (taking_handlers c g m xs)
  taking-are g m [] h k = tt
  taking-are g m (a ∷ more) h k =
      let ts = taken-targets m (map (target_type ds) a.targets) k.0 0 a.targets (stands-itself (map (target_type ds) a.targets)) h.0.slots in (
        get-in i.kinds m (kind_of (kind_of_away ds a)) k.0,
        (
          (
            h.0.place_in,
            reduction-is p (Some m) (stands_at_vertex (Some m) None) i.fields a.reduce a.targets (message_values 0 a.targets) h.0.fits ts (properties-differ p a.targets h.0.slots h.0.apart),
            targets-are p (Some m) (stands_at_vertex (Some m) None) i.fields a.targets (message_values 0 a.targets) ts,
          ),
          tt,
        ),
        taking-are g (suc m) more h.1 k.1,
      )

  pub taking-blocks-are : (g : Segment) (m : ℕ) (xs : List Away) → Each (AwayIs (place_index g)) xs → KindsStand p m xs → Each (BlockIs i) (taking_blocks c g m xs)
  taking-blocks-are g m [] h k = tt
  taking-blocks-are g m (a ∷ more) h k = (taking-block i (taking_handlers c g m (a ∷ more)) (taking-are g m (a ∷ more) h k), tt)

  -- ---- loops of own statements

  -- what is asked of a condition, and of a body
  pub record TestIs (its : List ℕ) (edge : Bool) (test : Expr) : Type 0 where
    pub typed : has_type ds V.Flag test ≡ true
    pub flat : is_flat its edge test ≡ true
    pub named : Named (uses_in test)
    pub plain : is_plain ds test ≡ true

  pub record BodyIs (node : ℕ) (its : List ℕ) (edge : Bool) (body : Stmt) : Type 0 where
    pub result : Option VType
    pub typed : is_typed_in ds result body ≡ true
    pub flat : is_flat_body its edge body ≡ true
    pub named : Named (uses_of body)
    pub asked : is_asked_body ds node body ≡ true
    pub room : body_positions ds body ≤ body_positions ds p.body

  module _ (nodes : NodesAreNodes ds) where
    pub own-blocks : (base m n : ℕ) (k : Key) (test : Expr) (body : Stmt) → type_at ds n ≡ V.Node → TestIs (n ∷ []) false test → BodyIs n (n ∷ []) false body
        → StandsAt i.places base (shown_places (own_loop c base m n k test body).segment) → KindsStand p m (aways ds n body) → Each (BlockIs i) (own_loop c base m n k test body).blocks
    own-blocks base m n k test body of_n t b places ks =
        let spots = spots_in test k ++ spots_of c n (n ∷ []) true body in
        let g = segment base spots in
        let env = own_env c g n in
        let stands = stands_at_vertex None None in
        let z = each-both (PlaceIn i (place_index g)) (spots_in test k) (spots_of c n (n ∷ []) true body) (spots-in i base spots places) in
        let known = own-env p None None g n (n ∷ []) Any 0 of_n in
        let good = lines-good p None stands (λ v. refl) refl refl (λ r. refl) env n (n ∷ []) true m body
        (stmt-is p None stands (λ v. refl) refl refl (λ r. refl) env n (n ∷ []) true (n ∷ []) false 0 Any known nodes b.result m body b.typed b.flat b.named b.asked z.1 b.room
        (each-all Any (λ x. tt) (loads_of 0 body)) (each-all Any (λ x. tt) (owner_loads 0 body)) ks) in
        let a = expr-is p None stands (λ v. refl) refl refl (λ r. refl) env n (n ∷ []) true (n ∷ []) false 0 Any known nodes k V.Flag test t.typed t.flat t.named t.plain z.0 (each-all Any (λ x. tt) (loads_in 0 test)) in
        let ls = lines_of (own_site c g n) m body in (
          flat-block i (under (term env k test) ls) (under-stays (term env k test) ls (lines-stay (own_site c g n) m body))
              (under-good p None stands (λ v. refl) refl refl (λ r. refl) env n (n ∷ []) true (term env k test) ls a good),
          taking-blocks-are g m (aways ds n body) (aways-are (place_index g) b.result n (n ∷ []) true body b.typed b.named b.asked z.1) ks,
        )

    -- ---- loops whose inner one is evaluated at the outer node

    zeros-are : (d : Direction) (body : Stmt) (k m : ℕ) → k + m ≤ length ds → Each (Inner i d) (map (zero_line c) (filter (is_read_first c body) (numbers_from k m)))
    zeros-are d body k zero le = tt
    zeros-are d body k (suc m) le = by k (filter (is_read_first c body) (numbers_from (suc k) m)) (is_read_first c body k) refl (omega (arith, le)) (zeros-are d body (suc k) m (omega (arith, le))) where
      by : (k : ℕ) (rest : List ℕ) (b : Bool) → is_read_first c body k ≡ b → k < length ds → Each (Inner i d) (map (zero_line c) rest) → Each (Inner i d) (map (zero_line c) (cond b (k ∷ rest) rest))
      by k rest true e lt h = ((type_at ds k, register-type p k lt (both-true (is_register (variable_at ds k)) (is_read (first_use k body)) e).0, vertex-zero p None (Some d) (type_at ds k)), h)
      by k rest false e lt h = h

    pub each-blocks : (base m n : ℕ) (k : Key) (mask : Expr) (j : Key) (h : Head) (test : Expr) (body : Stmt) → type_at ds n ≡ V.Node → type_at ds h.iterator ≡ V.Node
        → TestIs (n ∷ []) false mask → TestIs (n ∷ []) (is_along h.domain) test → BodyIs n (n ∷ []) (is_along h.domain) body
        → StandsAt i.places base (shown_places (each_loop c base m n k mask j h test body).segment) → KindsStand p m (aways ds n body) → Each (BlockIs i) (each_loop c base m n k mask j h test body).blocks
    each-blocks base m n k mask j h test body of_n of_i w t b places ks =
        let it = h.iterator in
        let its = n ∷ (it ∷ []) in
        let inner = spots_of c n its false body in
        let spots = spots_in mask k ++ (spots_in test j ++ inner) in
        let g = segment base spots in
        let z1 = each-both (PlaceIn i (place_index g)) (spots_in mask k) (spots_in test j ++ inner) (spots-in i base spots places) in
        let z2 = each-both (PlaceIn i (place_index g)) (spots_in test j) inner z1.1 in
        let outer = stands_at_vertex None None in
        let stands = stands_at_vertex None (Some (direction_of h.domain)) in
        let env = each_env c g n it in
        let known = each-env p h.domain g n it (n ∷ []) Any 0 of_n of_i in
        let a = expr-is p None outer (λ v. refl) refl refl (λ r. refl) (own_env c g n) n (n ∷ []) true (n ∷ []) false 0 Any (own-env p None None g n (n ∷ []) Any 0 of_n) nodes k V.Flag mask w.typed w.flat w.named w.plain z1.0
        (each-all Any (λ x. tt) (loads_in 0 mask)) in
        let x = expr-is p None stands (λ v. refl) refl refl (λ r. refl) env n its false (n ∷ []) (is_along h.domain) 0 Any known nodes j V.Flag test t.typed t.flat t.named t.plain z2.0 (each-all Any (λ x. tt) (loads_in 0 test)) in
        let good = lines-good p None stands (λ v. refl) refl refl (λ r. refl) env n its false m body
        (stmt-is p None stands (λ v. refl) refl refl (λ r. refl) env n its false (n ∷ []) (is_along h.domain) 0 Any known nodes b.result m body b.typed b.flat b.named b.asked z2.1 b.room
        (each-all Any (λ x. tt) (loads_of 0 body)) (each-all Any (λ x. tt) (owner_loads 0 body)) ks) in
        let ls = zero_lines c body ++ lines_of (each_site c g n it) m body in (
          each-block i (term (own_env c g n) k mask) (direction_of h.domain) (under (term env j test) ls) a
              (under-good p None stands (λ v. refl) refl refl (λ r. refl) env n its false (term env j test) ls x
              (each-join (Inner i (direction_of h.domain)) (zero_lines c body) (lines_of (each_site c g n it) m body) (zeros-are (direction_of h.domain) body 0 (length ds) (let z : 0 + length ds ≤ length ds = omega arith in z)) good)),
          taking-blocks-are g m (aways ds n body) (aways-are (place_index g) b.result n its false body b.typed b.named b.asked z2.1) ks,
        )

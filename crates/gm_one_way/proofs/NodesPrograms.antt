-- A program whose loops read nodes first reads along as before, and so does one that is prepared.
use Rattle.std.proofs.Common.{◌≡◌, ◌<◌, ◌≤◌, ◌+◌, arith, ℕ, zero, Bool, true, false, cond, List, [], ◌∷◌, ◌++◌, length, refl, ap, subst, Option, Some, None}
use Rattle.std.specs.Prelude.{◌||◌, nat_eq, nat_lt}
use Rattle.std.specs.List.{list_all}
use Rattle.std.proofs.lemmas.Bool.{both_ways, eqb-true, ne_eqb}
use Rattle.gm_base.specs.declared.places.Place.{Place}
use Rattle.gm_ast.specs.Loops.{any, is_nodes}
use Rattle.gm_ast.specs.Names.{sort_eq}
use Rattle.gm_ast.specs.Ways.{Mention, mentions, reads_through, is_edge_read}
use Rattle.gm_ast.specs.declared.tree.Declaration.{Declaration}
use Rattle.gm_ast.specs.declared.tree.Head.{Head}
use Rattle.gm_ast.specs.declared.tree.Key.{Key}
use Rattle.gm_ast.specs.declared.tree.Sort.{Sort}
use Rattle.gm_ast.specs.declared.tree.Sort.TheVariants as Sorts
use Rattle.gm_ast.specs.Program.{Expr, Stmt, Then, Combine, Foreach, If, Program}
use Rattle.gm_semantics.specs.Frames.{NamesBelow}
use Rattle.gm_semantics.specs.Statements.{variable_at}
use Rattle.gm_forms.specs.Cut.{is_own_loop}
use Rattle.gm_forms.specs.Forms.{depth_at, is_flat, is_flat_loop, is_outer_body}
use Rattle.gm_forms.specs.Ready.{Ready2}
use Rattle.gm_forms.specs.Sharing.{targets_alike}
use Rattle.gm_forms.specs.Uses.{Iterates, suits, use_as, owner_role, uses_in, uses_of_head, uses_of}
use Rattle.gm_forms.proofs.Named.{both-true, all-append, names-below}
use Rattle.gm_cut.proofs.Shared.{shares-alike}
use Rattle.gm_cut.specs.Lean.{has_slices_that_go}
use Rattle.gm_cut.specs.Parts.{in_pieces}
use Rattle.gm_cut.proofs.LeanLeaves.{statements-go}
use Rattle.gm_dissect.specs.AllDeferred.{without_deferred}
use Rattle.gm_dissect.proofs.AllDeferred as Deferred
use Rattle.gm_dissect.proofs.DeferredLaws.{variable-longer}
use Rattle.gm_dissect.proofs.Kept.{Sound}
use Rattle.gm_parting.specs.Apart.{with_statements_apart}
use Rattle.gm_parting.specs.Declared.{with_locals_declared}
use Rattle.gm_parting.specs.Filters.{with_saved_filters}
use Rattle.gm_parting.specs.Iterators.{iterates, with_iterators_placed}
use Rattle.gm_parting.specs.Nodes.{is_body_local, node_before, read_first, nodes_in, nodes_read, nodes_loop, all_nodes_in, node_locals, with_nodes_read}
use Rattle.gm_parting.specs.Numbers.{with_conditions_apart}
use Rattle.gm_parting.specs.Passes.{prepared, MayBePrepared}
use Rattle.gm_parting.proofs.DeclaredLaws.{ready-declared}
use Rattle.gm_parting.proofs.FilterLaws as Filters
use Rattle.gm_parting.proofs.Loops.{sound-of}
use Rattle.gm_parting.proofs.NodesLaws.{ready-read}
use Rattle.gm_parting.proofs.PlacedLaws.{role-of, placed-ready}
use Rattle.gm_parting.proofs.Prepared.{prepared-ready, pieces-cut}
use Rattle.gm_parting.proofs.SavedGroups.{apart-ready}
use Rattle.gm_one_way.specs.Along.{GoesAlong, AllAlong, EachAlong, ReadsAlong}
use Rattle.gm_one_way.proofs.Apart.{mixed, low, high}
use Rattle.gm_one_way.proofs.ApartPrograms.{longer, apart-go}
use Rattle.gm_one_way.proofs.Groups.{groups-keep}
use Rattle.gm_one_way.proofs.Nodes.{node_at, marks-read, along-read}
use Rattle.gm_one_way.proofs.Outer.{all-stay, declared-keep, deferred-keep, filters-keep, conditions-keep}
use Rattle.gm_one_way.proofs.Pieces.{pieces-keep}
use Rattle.gm_one_way.proofs.Placed.{placed-keep}
use Rattle.gm_one_way.proofs.Slimmed.{Slim, AllSlim, all-slim}
use Rattle.gm_one_way.proofs.Walks.{each-along}

-- a scalar iterates nothing
no-iterator : (s : Sort) → sort_eq Sorts.Scalar s ≡ true → sort_eq Sorts.Iterator s || sort_eq Sorts.Graph s ≡ false
no-iterator Sorts.Graph h = absurd (both_ways false refl h)
no-iterator Sorts.Iterator h = absurd (both_ways false refl h)
no-iterator Sorts.Scalar h = refl
no-iterator Sorts.Edge h = refl
no-iterator Sorts.NodeProperty h = refl
no-iterator Sorts.EdgeProperty h = refl

-- ds: the table; dt: a longer one, with the same variables; deep: the first local of inner bodies
module _ (ds dt : List Declaration) (same-row : (x : ℕ) → x < length ds → variable_at dt x ≡ variable_at ds x) (more : length ds ≤ length dt) (n first deep : ℕ) (far : length ds ≤ deep) where
  -- an inner loop
  module _ (done : ℕ) (h : Head) (test : Expr) (body : Stmt) (named : NamesBelow (length ds) body) (inside : h.iterator < length ds) (iter : iterates (variable_at ds h.iterator) ≡ true) (alike : targets_alike body ≡ true) (e : Slim ds n h test body) where
    abbrev edges : ℕ → Bool
    edges = e.along.edges

    abbrev ends : ℕ → Bool
    ends = e.along.ends

    abbrev thr : Mention → Bool
    thr = reads_through h.iterator

    abbrev edges' : ℕ → Bool
    edges' = mixed (length ds) e.along.edges (node_at ds deep n is_edge_read e.along.edges false done body)

    abbrev ends' : ℕ → Bool
    ends' = mixed (length ds) e.along.ends (node_at ds deep n (reads_through h.iterator) e.along.ends false done body)

    same-edges : (x : ℕ) → x < length ds → edges' x ≡ e.along.edges x
    same-edges x l = low (length ds) e.along.edges (node_at ds deep n is_edge_read e.along.edges false done body) x l

    same-ends : (x : ℕ) → x < length ds → ends' x ≡ e.along.ends x
    same-ends x l = low (length ds) e.along.ends (node_at ds deep n (reads_through h.iterator) e.along.ends false done body) x l

    hold-edges : (x : ℕ) → deep + done ≤ x → x < deep + (done + nodes_in ds body) → edges' x ≡ node_at ds deep n is_edge_read e.along.edges false done body x
    hold-edges x l m = high (length ds) e.along.edges (node_at ds deep n is_edge_read e.along.edges false done body) x (omega (arith, far, l))

    hold-ends : (x : ℕ) → deep + done ≤ x → x < deep + (done + nodes_in ds body) → ends' x ≡ node_at ds deep n (reads_through h.iterator) e.along.ends false done body x
    hold-ends x l m = high (length ds) e.along.ends (node_at ds deep n (reads_through h.iterator) e.along.ends false done body) x (omega (arith, far, l))

    shallow : (x : ℕ) → is_body_local ds x ≡ true → nat_lt 1 (depth_at ds x) ≡ false
    shallow x l = ap (λ d. nat_lt 1 d) (eqb-true (depth_at ds x) 1 (both-true (sort_eq Sorts.Scalar (variable_at ds x).sort) (nat_eq (depth_at ds x) 1) l).1)

    other : (x : ℕ) → is_body_local ds x ≡ true → nat_eq x h.iterator ≡ false
    other x l = by (nat_eq x h.iterator) refl
      where
        by : (b : Bool) → nat_eq x h.iterator ≡ b → nat_eq x h.iterator ≡ false
        by true q =
            let v = variable_at ds h.iterator in
            let scalar : sort_eq Sorts.Scalar (variable_at ds h.iterator).sort ≡ true = subst (λ z. sort_eq Sorts.Scalar (variable_at ds z).sort ≡ true) (eqb-true x h.iterator q) (both-true (sort_eq Sorts.Scalar (variable_at ds x).sort) (nat_eq (depth_at ds x) 1) l).0 in
            absurd (both_ways (iterates v) (no-iterator v.sort scalar) iter)
        by false q = q

    fresh : (y : ℕ) → length ds ≤ y → nat_eq y h.iterator ≡ false
    fresh y l = ne_eqb y h.iterator (λ q. absurd (omega (arith, q, l, inside)))

    inner-read : GoesAlong dt n h test (nodes_read ds false deep deep done body)
    inner-read =
        let shallow-edges : (x : ℕ) → is_body_local ds x ≡ true → e.along.edges x ≡ false = λ x l. e.edges_deep x (shallow x l) in
        let shallow-ends : (x : ℕ) → is_body_local ds x ≡ true → e.along.ends x ≡ false = λ x l. e.ends_deep x (shallow x l) in
        record {
          edges = edges';
          ends = ends';
          edges_marked = marks-read ds dt same-row more n deep far is_edge_read (λ x. refl) edges edges' same-edges shallow-edges false done body named hold-edges e.along.edges_marked;
          ends_marked = marks-read ds dt same-row more n deep far thr (λ x. refl) ends ends' same-ends shallow-ends false done body named hold-ends e.along.ends_marked;
          along = along-read ds dt same-row more n deep far h edges ends edges' ends' same-edges same-ends shallow-edges shallow-ends other fresh false false (any thr (mentions test)) (any is_edge_read (mentions test)) done body named alike hold-ends hold-edges (λ q. absurd (both_ways false refl q)) (λ q. absurd (both_ways false refl q)) e.along.along;
        }

  -- the inner loops of a body
  all-read : (done : ℕ) (s : Stmt) → NamesBelow (length ds) s → list_all (suits ds) (uses_of s) ≡ true → targets_alike s ≡ true → AllSlim ds n s → AllAlong dt n (nodes_read ds true first deep done s)
  all-read done (Then a b) l u k e =
      let r = all-append (suits ds) (uses_of a) (uses_of b) u in
      let t = both-true (targets_alike a) (targets_alike b) k in
      (all-read done a l.0 r.0 t.0 e.0, all-read (done + nodes_in ds a) b l.1 r.1 t.1 e.1)
  all-read done (If key c a b) l u k e =
      let r = all-append (suits ds) (uses_of a) (uses_of b) (all-append (suits ds) (uses_in c) (uses_of a ++ uses_of b) u).1 in
      let t = both-true (targets_alike a) (targets_alike b) k in
      (all-read done a l.1 r.0 t.0 e.0, all-read (done + nodes_in ds a) b l.2 r.1 t.1 e.1)
  all-read done (Foreach key at h test body) l u k e =
      let heads = all-append (suits ds) (uses_of_head h) (uses_in test ++ uses_of body) u in
      inner-read done h test body l.3 l.0 (role-of [] ds Iterates h.iterator (all-append (suits ds) (use_as Iterates h.iterator) (use_as (owner_role h.domain) h.owner) heads.0).0) k e
  all-read done (Combine key total o ts es) l u k e = by (node_before ds ts)
    where
      by : (m : Option Expr) → AllAlong dt n (read_first true m (first + done) key total o ts es)
      by None = tt
      by (Some v) = ((tt, (tt, tt)), tt)
  all-read done s l u k e = tt

pub nodes-keep : (p : Program) → Ready2 p → ReadsAlong p → ReadsAlong (with_nodes_read p)
nodes-keep p r e = each-along ds (ds ++ rows) p.result (nodes_loop ds (length ds) (length ds + count)) loops p.body (sound-of p r) e
  where
    ds : List Declaration
    ds = p.declarations

    count : ℕ
    count = all_nodes_in p.declarations p.body

    rows : List Declaration
    rows = node_locals 1 count ++ node_locals 2 count

    loops : (k : Key) (at : Place) (h : Head) (mask : Expr) (body : Stmt) → Sound ds p.result (Foreach k at h mask body) → AllAlong ds h.iterator body → EachAlong (ds ++ rows) (nodes_loop ds (length ds) (length ds + count) k at h mask body)
    loops k at h mask body s e = by (is_own_loop h.iterator body)
      where
        n : ℕ
        n = h.iterator

        below : NamesBelow (length ds) body
        below = (names-below ds (Foreach k at h mask body) s.named).3

        heads : (list_all (suits ds) (uses_of_head h) ≡ true) × (list_all (suits ds) (uses_in mask ++ uses_of body) ≡ true)
        heads = all-append (suits ds) (uses_of_head h) (uses_in mask ++ uses_of body) s.named

        named : list_all (suits ds) (uses_of body) ≡ true
        named = (all-append (suits ds) (uses_in mask) (uses_of body) heads.1).1

        form : is_outer_body ds false n body ≡ true
        form = (both-true (is_flat (n ∷ []) false mask) (is_outer_body ds false n body) (both-true (is_nodes h.domain) (is_flat_loop ds false n mask body) s.form).1).1

        iter : iterates (variable_at ds n) ≡ true
        iter = role-of [] ds Iterates n (all-append (suits ds) (use_as Iterates n) (use_as (owner_role h.domain) h.owner) heads.0).0

        by : (o : Bool) → EachAlong (ds ++ rows) (cond o (Foreach k at h mask body) (Foreach k at h mask (nodes_read ds true (length ds) (length ds + count) zero body)))
        by true = all-stay ds rows n body below e
        by false =
            all-read ds (ds ++ rows) (λ x l. variable-longer ds rows x l) (longer ds rows) n (length ds) (length ds + count) (omega arith) zero body below named (shares-alike ds n mask body s.share) (all-slim ds n iter body form named e)

-- ---- all passes up to bodies that go to pieces

pub prepared-keep : (p : Program) → Ready2 p → ReadsAlong p → ReadsAlong (prepared p)
prepared-keep p r e =
    let i = with_iterators_placed p in
    let d = with_locals_declared i in
    let a = without_deferred d in
    let b = with_saved_filters a in
    let c = with_conditions_apart b in
    let ri = placed-ready p r in
    let rd = ready-declared i ri in
    let ra = Deferred.ready-all d rd in
    let rb = Filters.ready-saved a ra in
    let rc = apart-ready b rb in
    groups-keep (with_nodes_read c) (ready-read c rc) (nodes-keep c rc (conditions-keep b rb (filters-keep a ra (deferred-keep d rd (declared-keep i ri (placed-keep p r e))))))

-- and each slice of its inner loops goes one way then
pub slices-go : (p : Program) → Ready2 p → MayBePrepared p → ReadsAlong p → has_slices_that_go (with_statements_apart (in_pieces (prepared p))) ≡ true
slices-go p r f e =
    let q = in_pieces (prepared p) in
    statements-go (with_statements_apart q) (apart-go q (pieces-cut p r f) (pieces-keep (prepared p) (prepared-ready p r) (prepared-keep p r e)))

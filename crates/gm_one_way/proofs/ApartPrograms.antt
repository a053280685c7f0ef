-- A parted program whose inner loops read no edge against the way of a message: where its statements are made to stand alone, each goes one way.
use Rattle.std.proofs.Common.{◌≡◌, ◌<◌, ◌≤◌, ◌+◌, arith, ℕ, Bool, true, false, cond, List, [], ◌∷◌, ◌++◌, length, refl, ap, ◌∙◌}
use Rattle.std.specs.Prelude.{◌||◌}
use Rattle.std.specs.List.{list_all}
use Rattle.std.proofs.lemmas.Bool.{both_ways}
use Rattle.gm_base.specs.declared.places.Place.{Place}
use Rattle.gm_ast.specs.Loops.{any}
use Rattle.gm_ast.specs.Ways.{Mention, mentions, reads_through, is_edge_read}
use Rattle.gm_ast.specs.declared.tree.Declaration.{Declaration}
use Rattle.gm_ast.specs.declared.tree.Head.{Head}
use Rattle.gm_ast.specs.declared.tree.Key.{Key}
use Rattle.gm_ast.specs.Program.{Expr, Stmt, Then, Foreach, If, Program}
use Rattle.gm_semantics.specs.Frames.{NamesBelow}
use Rattle.gm_semantics.specs.Statements.{variable_at}
use Rattle.gm_forms.proofs.Named.{names-below}
use Rattle.gm_dissect.proofs.DeferredLaws.{variable-longer}
use Rattle.gm_dissect.proofs.Kept.{Sound}
use Rattle.gm_cut.specs.Lean.{has_statements_that_go}
use Rattle.gm_cut.specs.Parts.{goes_any_way, IsPartedBy, each_passes}
use Rattle.gm_cut.specs.Slices.{statements_of, goes_one_way}
use Rattle.gm_cut.proofs.LoopLaws.{parted-flat}
use Rattle.gm_parting.specs.Apart.{apart, apart_loop, most_ifs, inner_flags, with_statements_apart}
use Rattle.gm_parting.specs.Numbers.{count_ifs}
use Rattle.gm_parting.proofs.ApartLaws.{parted-apart-still}
use Rattle.gm_parting.proofs.Loops.{sound-of, each-kept, anything, each-anything}
use Rattle.gm_one_way.specs.Along.{GoesAlong, AllAlong, EachAlong, ReadsAlong, is_lone, statements_alone, has_statements_alone}
use Rattle.gm_one_way.proofs.Apart.{apart-alone, flag_at, mixed, low, high, marks-apart, goes-apart}
use Rattle.gm_one_way.proofs.Longer.{marks-same, along-same, way-same}
use Rattle.gm_one_way.proofs.Statements.{statements-go}
use Rattle.gm_one_way.proofs.Walks.{each-along}

pub longer : {A : Type 0} (xs ys : List A) → length xs ≤ length (xs ++ ys)
longer [] ys = omega arith
longer (x ∷ xs) ys = let r = longer xs ys in omega arith

-- ---- an inner loop

-- ds: the table; dt: a longer one, with the same variables
module _ (ds dt : List Declaration) (same-row : (x : ℕ) → x < length ds → variable_at dt x ≡ variable_at ds x) (more : length ds ≤ length dt) (n : ℕ) (h : Head) (test : Expr) (body : Stmt) (named : NamesBelow (length ds) body) (along : GoesAlong ds n h test body) where
  -- that stays as it is
  pub stays-along : GoesAlong dt n h test body
  stays-along = record {
    edges = along.edges;
    ends = along.ends;
    edges_marked = marks-same ds dt same-row more n is_edge_read along.edges along.edges (λ x l. refl) false body named ∙ along.edges_marked;
    ends_marked = marks-same ds dt same-row more n (reads_through h.iterator) along.ends along.ends (λ x l. refl) false body named ∙ along.ends_marked;
    along = along-same ds dt same-row more n h along.edges along.ends along.edges along.ends (λ x l. refl) (λ x l. refl) (any (reads_through h.iterator) (mentions test)) (any is_edge_read (mentions test)) body named ∙ along.along;
  }

  -- of which the statements stand alone
  abbrev first : ℕ
  first = length ds

  abbrev edges' : ℕ → Bool
  edges' = mixed (length ds) along.edges (flag_at ds n is_edge_read along.edges false (length ds) body)

  abbrev ends' : ℕ → Bool
  ends' = mixed (length ds) along.ends (flag_at ds n (reads_through h.iterator) along.ends false (length ds) body)

  same-edges : (x : ℕ) → x < length ds → edges' x ≡ along.edges x
  same-edges x l = low (length ds) along.edges (flag_at ds n is_edge_read along.edges false (length ds) body) x l

  same-ends : (x : ℕ) → x < length ds → ends' x ≡ along.ends x
  same-ends x l = low (length ds) along.ends (flag_at ds n (reads_through h.iterator) along.ends false (length ds) body) x l

  pub apart-along : (at : Place) → GoesAlong dt n h test (apart at (length ds) body)
  apart-along at =
      let thr : Mention → Bool = reads_through h.iterator in
      record {
        edges = edges';
        ends = ends';
        edges_marked = marks-apart ds dt same-row more n is_edge_read (λ x. refl) along.edges edges' same-edges at false first body named hold-edges along.edges_marked;
        ends_marked = marks-apart ds dt same-row more n thr (λ x. refl) along.ends ends' same-ends at false first body named hold-ends along.ends_marked;
        along = goes-apart ds dt same-row more n h along.edges along.ends edges' ends' same-edges same-ends at false false (any thr (mentions test)) (any is_edge_read (mentions test)) first body named hold-ends hold-edges (λ e. absurd (false-true e)) (λ e. absurd (false-true e)) along.along;
      }
    where
      hold-edges : (x : ℕ) → length ds ≤ x → x < length ds + count_ifs body → edges' x ≡ flag_at ds n is_edge_read along.edges false (length ds) body x
      hold-edges x l m = high (length ds) along.edges (flag_at ds n is_edge_read along.edges false (length ds) body) x l

      hold-ends : (x : ℕ) → length ds ≤ x → x < length ds + count_ifs body → ends' x ≡ flag_at ds n (reads_through h.iterator) along.ends false (length ds) body x
      hold-ends x l m = high (length ds) along.ends (flag_at ds n (reads_through h.iterator) along.ends false (length ds) body) x l

      false-true : false ≡ true → ⊥
      false-true e = both_ways false refl e

-- ---- programs

module _ (p : Program) (r : IsPartedBy goes_any_way p) where
  abbrev ds : List Declaration
  ds = p.declarations

  abbrev dt : List Declaration
  dt = p.declarations ++ inner_flags (most_ifs p.body)

  same-row : (x : ℕ) → x < length p.declarations → variable_at dt x ≡ variable_at p.declarations x
  same-row x l = variable-longer p.declarations (inner_flags (most_ifs p.body)) x l

  more : length p.declarations ≤ length dt
  more = longer p.declarations (inner_flags (most_ifs p.body))

  sound : Sound p.declarations p.result p.body
  sound = sound-of p (record { sane = r.sane; form = parted-flat p.declarations p.result p.body r.form })

  -- names of an inner body are in the table
  inner-named : (k : Key) (at : Place) (h : Head) (mask : Expr) (j : Key) (here : Place) (inner : Head) (test : Expr) (body : Stmt) → Sound p.declarations p.result (Foreach k at h mask (Foreach j here inner test body)) → NamesBelow (length p.declarations) body
  inner-named k at h mask j here inner test body s = (names-below p.declarations (Foreach k at h mask (Foreach j here inner test body)) s.named).3.3

  all-stay : (n : ℕ) (s : Stmt) → NamesBelow (length p.declarations) s → AllAlong p.declarations n s → AllAlong dt n s
  all-stay n (Then a b) l e = (all-stay n a l.0 e.0, all-stay n b l.1 e.1)
  all-stay n (If k c a b) l e = (all-stay n a l.1 e.0, all-stay n b l.2 e.1)
  all-stay n (Foreach k at h test body) l e = stays-along ds dt same-row more n h test body l.3 e
  all-stay n s l e = tt

  loops : (k : Key) (at : Place) (h : Head) (mask : Expr) (body : Stmt) → Sound p.declarations p.result (Foreach k at h mask body) → AllAlong p.declarations h.iterator body → EachAlong dt (apart_loop p.declarations (length p.declarations) k at h mask body)
  loops k at h mask (Foreach j here inner test body) s e = by (goes_one_way p.declarations h.iterator inner test body)
    where
      by : (o : Bool) → GoesAlong dt h.iterator inner test (cond o body (apart here (length p.declarations) body))
      by true = stays-along p.declarations dt same-row more h.iterator inner test body (inner-named k at h mask j here inner test body s) e
      by false = apart-along p.declarations dt same-row more h.iterator inner test body (inner-named k at h mask j here inner test body s) e here
  loops k at h mask body s e = all-stay h.iterator body (names-below ds (Foreach k at h mask body) s.named).3 e

  alone : (k : Key) (at : Place) (h : Head) (mask : Expr) (body : Stmt) → Sound p.declarations p.result (Foreach k at h mask body) → true ≡ true → each_passes (statements_alone dt) (apart_loop p.declarations (length p.declarations) k at h mask body) ≡ true
  alone k at h mask (Foreach j here inner test body) s e = by (goes_one_way p.declarations h.iterator inner test body) refl
    where
      by : (o : Bool) → goes_one_way p.declarations h.iterator inner test body ≡ o → (goes_one_way dt h.iterator inner test (cond o body (apart here (length p.declarations) body)) || list_all is_lone (statements_of (cond o body (apart here (length p.declarations) body)))) ≡ true
      by true q = ap (λ b. b || list_all is_lone (statements_of body)) (way-same p.declarations dt same-row more h.iterator inner test body (inner-named k at h mask j here inner test body s) ∙ q)
      by false q = second (goes_one_way dt h.iterator inner test (apart here (length p.declarations) body)) (apart-alone here (length p.declarations) body)
        where
          second : (a : Bool) {b : Bool} → b ≡ true → a || b ≡ true
          second true h = refl
          second false h = h
  alone k at h mask body s e = refl

  -- where statements are made to stand alone, inner loops read along as before
  pub reads-along : ReadsAlong p → ReadsAlong (with_statements_apart p)
  reads-along e = each-along ds dt p.result (apart_loop ds (length ds)) loops p.body sound e

  pub alone-now : has_statements_alone (with_statements_apart p) ≡ true
  alone-now = each-kept ds p.result anything (statements_alone dt) (apart_loop ds (length ds)) alone p.body sound (each-anything p.body)

  -- and each statement goes one way
  pub apart-go : ReadsAlong p → has_statements_that_go (with_statements_apart p) ≡ true
  apart-go e = statements-go (with_statements_apart p) (parted-apart-still p r) (reads-along e) alone-now

-- Inner loops that go several ways, in slices of which each evaluates again only what it needs of those before it, whether the rest could fault or not.
use Rattle.std.specs.Prelude.{ℕ, Bool, true, false, ◌&&◌, ◌||◌, not, if◌then◌else◌, List, [], ◌∷◌, ◌++◌, map, length}
use Rattle.std.specs.List.{list_all}
use Rattle.gm_base.specs.declared.places.Place.{Place}
use Rattle.gm_ast.specs.declared.tree.Declaration.{Declaration}
use Rattle.gm_ast.specs.declared.tree.Head.{Head}
use Rattle.gm_ast.specs.declared.tree.Key.{Key}
use Rattle.gm_ast.specs.Program.{Expr, Stmt, Foreach, Program, sequence}
use Rattle.gm_forms.specs.Cut.{is_mask, adds_elsewhere}
use Rattle.gm_forms.specs.Forms.{is_flat, is_inner_body, avoids}
use Rattle.gm_forms.specs.Fission.{pushed_properties}
use Rattle.gm_forms.specs.Sharing.{with_reads, sights_in, sights_of, read_anywhere, disjoint}
use Rattle.gm_loop_laws.specs.Inner.{given_by}
use Rattle.gm_loop_laws.specs.Masks.{is_stable}
use Rattle.gm_loop_laws.specs.Pieces.{is_lone}
use Rattle.gm_loop_laws.specs.Resumed.{is_still, resumed, may_resume, may_trim}
use Rattle.gm_dissect.specs.Loops.{each_loop}
use Rattle.gm_cut.specs.Parts.{each_passes}
use Rattle.gm_cut.specs.Slices.{statements_of, is_new, goes_one_way, is_sound}

-- ds: the table; n: the outer iterator; t: the inner one
module _ (ds : List Declaration) (n t : ℕ) where
  -- the slice of a group behind what came before it
  abbrev pub lean_slice : List Stmt → List Stmt → Stmt
  lean_slice done group = sequence (statements_of (resumed ds (n ∷ t ∷ []) n (sequence done) (sequence group)))

  -- the statements that are left, behind a group that goes on and statements that wait for one that does more than set locals: a group ends where it goes several ways with the next one that does
  abbrev pub lean_groups : (Stmt → Bool) → List Stmt → List Stmt → List Stmt → List Stmt → List (List Stmt)
  lean_groups goes done group wait [] = (group ++ wait) ∷ []
  lean_groups goes done group wait (s ∷ ss) =
      let next = wait ++ (s ∷ []) in
      if is_still (n ∷ t ∷ []) s then lean_groups goes done group next ss
      else if is_new ds n t group || goes (lean_slice done (group ++ next)) then lean_groups goes done (group ++ next) [] ss
      else group ∷ lean_groups goes (done ++ group) next [] ss

  -- the slice of each group
  abbrev pub lean_slices : List Stmt → List (List Stmt) → List Stmt
  lean_slices done [] = []
  lean_slices done (g ∷ gs) = lean_slice done g ∷ lean_slices (done ++ g) gs

  -- whether each statement that does more than set locals goes one way by itself, behind all statements before it; where there is none, all statements
  abbrev pub leaves_go : (Stmt → Bool) → List Stmt → List Stmt → List Stmt → Bool
  leaves_go goes [] wait [] = goes (lean_slice [] wait)
  leaves_go goes (d ∷ done) wait [] = true
  leaves_go goes done wait (s ∷ ss) =
      let next = wait ++ (s ∷ []) in
      if is_still (n ∷ t ∷ []) s then leaves_go goes done next ss else goes (lean_slice done next) && leaves_go goes (done ++ next) [] ss

abbrev pub lean_groups_of : List Declaration → ℕ → Head → Expr → Stmt → List (List Stmt)
lean_groups_of ds n h test body = lean_groups ds n h.iterator (goes_one_way ds n h test) [] [] [] (statements_of body)

-- a loop whose body is an inner loop that goes several ways, as one for each slice, one after another
abbrev pub lean_loop : List Declaration → Key → Place → Head → Expr → Stmt → Stmt
lean_loop ds k at h mask (Foreach j here inner test body) =
    let n = h.iterator in
    if goes_one_way ds n inner test body then Foreach k at h mask (Foreach j here inner test body)
    else sequence (map (λ s. Foreach k at h mask (Foreach j here inner test s)) (lean_slices ds n inner.iterator [] (lean_groups_of ds n inner test body)))
lean_loop ds k at h mask body = Foreach k at h mask body

-- a program with each of its loops so
abbrev pub in_lean_slices : Program → Program
in_lean_slices p = record p { body = each_loop (lean_loop p.declarations) p.body }

-- ---- what is asked of a program

-- ds: the table; k, at, h, mask: those of the loop; j, here, inner, test: those of its inner loop
module _ (ds : List Declaration) (k : Key) (at : Place) (h : Head) (mask : Expr) (j : Key) (here : Place) (inner : Head) (test : Expr) where
  abbrev within : Stmt → Stmt
  within body = Foreach j here inner test body

  -- whether the slice of a group may stand alone
  abbrev pub lean_stands : List ℕ → List Stmt → List Stmt → Bool
  lean_stands pushed done g =
      let part = within (lean_slice ds h.iterator inner.iterator done g) in
      is_lone ds pushed h.iterator part && is_sound ds k at h mask j here inner test (Foreach k at h mask part)

  -- whether an inner loop may be cut before each group, under a mask that stays, and each slice stands
  abbrev pub may_go_on : List ℕ → List Stmt → List (List Stmt) → Bool
  may_go_on pushed done [] = true
  may_go_on pushed done (g ∷ gs) =
      let n = h.iterator in
      may_resume ds pushed n (length ds) h.place j here inner test (sequence done) (sequence g)
      && (is_stable n (within (sequence done)) mask && (lean_stands pushed done g && may_go_on pushed (done ++ g) gs))

  abbrev pub may_lean : List ℕ → List (List Stmt) → Bool
  may_lean pushed [] = true
  may_lean pushed (g ∷ gs) = may_trim ds pushed h.iterator j here inner test (sequence g) && (lean_stands pushed [] g && may_go_on pushed g gs)

-- whether a loop is no inner loop alone, or one that goes one way, or may be written as those of its slices
abbrev pub can_lean : List Declaration → Key → Place → Head → Expr → Stmt → Bool
can_lean ds k at h mask (Foreach j here inner test body) =
    let n = h.iterator in
    goes_one_way ds n inner test body
    || (is_mask n mask && may_lean ds k at h mask j here inner test (pushed_properties n body) (lean_groups_of ds n inner test body))
can_lean ds k at h mask body = true

-- whether each loop of a program may
abbrev pub can_be_lean : Program → Bool
can_be_lean p = each_passes (can_lean p.declarations) p.body

-- ---- what is left to ask of a parted program

-- whether an inner loop reads nothing that it gives
abbrev pub reads_no_given : List Declaration → ℕ → Expr → Stmt → Bool
reads_no_given ds n test body =
    let seen = with_reads (sights_in test) (sights_of ds n true body) in disjoint (given_by ds n body) (seen.scalars ++ read_anywhere seen.properties)

-- whether a loop is no inner loop alone, or one that goes one way, or one that reads nothing that it gives
abbrev pub gives_apart : List Declaration → Key → Place → Head → Expr → Stmt → Bool
gives_apart ds k at h mask (Foreach j here inner test body) = goes_one_way ds h.iterator inner test body || reads_no_given ds h.iterator test body
gives_apart ds k at h mask body = true

-- whether a loop is no inner loop alone, or one that goes one way, or one of which each slice does
abbrev pub slices_go : List Declaration → Key → Place → Head → Expr → Stmt → Bool
slices_go ds k at h mask (Foreach j here inner test body) =
    let n = h.iterator in
    goes_one_way ds n inner test body || list_all (goes_one_way ds n inner test) (lean_slices ds n inner.iterator [] (lean_groups_of ds n inner test body))
slices_go ds k at h mask body = true

-- whether each loop of a program does
abbrev pub has_givens_apart : Program → Bool
has_givens_apart p = each_passes (gives_apart p.declarations) p.body

abbrev pub has_slices_that_go : Program → Bool
has_slices_that_go p = each_passes (slices_go p.declarations) p.body

-- ---- what is left to ask of each statement

-- whether a loop is no inner loop alone, or one that goes one way, or one of which each statement that does more than set locals does
abbrev pub statements_go : List Declaration → Key → Place → Head → Expr → Stmt → Bool
statements_go ds k at h mask (Foreach j here inner test body) =
    let n = h.iterator in goes_one_way ds n inner test body || leaves_go ds n inner.iterator (goes_one_way ds n inner test) [] [] (statements_of body)
statements_go ds k at h mask body = true

abbrev pub has_statements_that_go : Program → Bool
has_statements_that_go p = each_passes (statements_go p.declarations) p.body

-- ---- loops that read no edge property

-- whether a statement gives to one end of an edge at most, and reduces by no Sum or Product through a node variable
abbrev pub is_plain : ℕ → ℕ → Stmt → Bool
is_plain n t s = (avoids n s || avoids t s) && not (adds_elsewhere (n ∷ t ∷ []) s)

-- whether a loop is no inner loop alone, or one that goes one way, or one that reads no edge property and whose statements are so
abbrev pub goes_plainly : List Declaration → Key → Place → Head → Expr → Stmt → Bool
goes_plainly ds k at h mask (Foreach j here inner test body) =
    let n = h.iterator in
    let t = inner.iterator in
    goes_one_way ds n inner test body || (is_flat (n ∷ t ∷ []) false test && (is_inner_body ds (n ∷ t ∷ []) false body && list_all (is_plain n t) (statements_of body)))
goes_plainly ds k at h mask body = true

abbrev pub has_plain_statements : Program → Bool
has_plain_statements p = each_passes (goes_plainly p.declarations) p.body

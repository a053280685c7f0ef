-- Inner loops that go several ways, in slices: an inner loop for each group of neighbouring statements that go one way.
use Rattle.std.specs.Prelude.{ℕ, Bool, true, false, ◌&&◌, ◌||◌, not, if◌then◌else◌, List, [], ◌∷◌, ◌++◌, map, flat_map, filter, length}
use Rattle.std.specs.List.{list_any}
use Rattle.gm_base.specs.declared.places.Place.{Place}
use Rattle.gm_ast.specs.declared.tree.Declaration.{Declaration}
use Rattle.gm_ast.specs.declared.tree.Head.{Head}
use Rattle.gm_ast.specs.declared.tree.Key.{Key}
use Rattle.gm_ast.specs.declared.tree.Target.{Target}
use Rattle.gm_ast.specs.declared.tree.Target.TheVariants as T
use Rattle.gm_ast.specs.Program.{Expr, Stmt, Skip, Then, Declare, Assign, Combine, Foreach, If, Program, sequence}
use Rattle.gm_ast.specs.Ways.{is_in}
use Rattle.gm_semantics.specs.Faults.{joined}
use Rattle.gm_forms.specs.Cut.{is_mask, touched, is_calm, adds_last, is_cut}
use Rattle.gm_forms.specs.Fission.{pushed_properties, is_nil}
use Rattle.gm_forms.specs.Forms.{has_a_way, is_phase, no_loop}
use Rattle.gm_forms.specs.Order.{loops_in_order}
use Rattle.gm_forms.specs.Sharing.{told_in, sights_in_option, sights_in_all, written, loops_share}
use Rattle.gm_loop_laws.specs.Inner.{quiet, given_by, may_cut_inner}
use Rattle.gm_loop_laws.specs.Masks.{is_stable}
use Rattle.gm_loop_laws.specs.Pieces.{is_lone}
use Rattle.gm_loop_laws.specs.Slices.{sliced, knows_none}
use Rattle.gm_dissect.specs.Loops.{each_loop}
use Rattle.gm_cut.specs.Parts.{each_passes}

-- the statements of a body one after another: blocks within blocks are opened, also those of the branches of an If
abbrev pub statements_of : Stmt → List Stmt
statements_of Skip = []
statements_of (Then a b) = statements_of a ++ statements_of b
statements_of (If k c a b) = If k c (sequence (statements_of a)) (sequence (statements_of b)) ∷ []
statements_of s = s ∷ []

-- ---- what is needed of a body

-- the scalar or the node variable of a target
abbrev pub told_at : Target → List ℕ
told_at (T.Scalar x at) = x ∷ []
told_at (T.Property x p at) = x ∷ []

-- the variables that a statement tells or sets
abbrev pub told_by : Stmt → List ℕ
told_by (Declare k x e) = x ∷ (sights_in_option e).scalars
told_by (Assign k t e) = told_at t ++ told_in e
told_by (Combine k total r ts es) = flat_map told_at ts ++ (sights_in_all es).scalars
told_by _ = []

-- ds: the table; n: the outer iterator; t: the inner one
module _ (ds : List Declaration) (n t : ℕ) where
  -- whether a part of an inner body gives something, or can fault
  abbrev pub counts : Stmt → Bool
  counts s = not (is_calm (t ∷ n ∷ []) s && is_nil (given_by ds n s))

  -- whether it does, or sets one of some variables
  abbrev pub serves : List ℕ → Stmt → Bool
  serves xs s = counts s || list_any (is_in xs) (touched s)

  -- the variables that are needed from a part on, where some are needed behind it
  abbrev pub needed : Stmt → List ℕ → List ℕ
  needed (Then a b) xs = needed a (needed b xs)
  needed (If k c a b) xs = if serves xs (If k c a b) then told_in c ++ (needed a xs ++ needed b xs) else xs
  needed s xs = if serves xs s then told_by s ++ xs else xs

  -- the locals of an inner body that are not
  abbrev pub unneeded : Stmt → List ℕ
  unneeded body = filter (λ x. not (is_in (needed body []) x)) (written ds n true body)

  -- an inner body without what only sets these
  abbrev pub slice : Stmt → Stmt
  slice body = sequence (statements_of (sliced (unneeded body) (t ∷ n ∷ []) body))

  -- ---- groups of statements

  -- the slice of a group behind what came before it, which is evaluated again and gives nothing
  abbrev pub behind : List Stmt → List Stmt → Stmt
  behind done group = slice (sequence (done ++ group))

  abbrev pub all_quiet : List Stmt → List Stmt
  all_quiet ss = map (quiet ds n) ss

  -- whether a group has no statement yet
  abbrev pub is_new : List Stmt → Bool
  is_new [] = true
  is_new (s ∷ ss) = false

  -- the statements that are left, behind a group that goes on and statements that wait for one that counts: a group ends where it goes several ways with the next one that counts
  abbrev pub groups : (Stmt → Bool) → List Stmt → List Stmt → List Stmt → List Stmt → List (List Stmt)
  groups goes done group wait [] = (group ++ wait) ∷ []
  groups goes done group wait (s ∷ ss) =
      let next = wait ++ (s ∷ []) in
      if not (counts s) then groups goes done group next ss
      else if is_new group || goes (behind done (group ++ next)) then groups goes done (group ++ next) [] ss
      else group ∷ groups goes (all_quiet (done ++ group)) next [] ss

  -- the slice of each group
  abbrev pub slices : List Stmt → List (List Stmt) → List Stmt
  slices done [] = []
  slices done (g ∷ gs) = behind done g ∷ slices (all_quiet (done ++ g)) gs

-- whether an inner loop goes one way, and nothing in it can fault behind a Sum or Product through a node variable
abbrev pub goes_one_way : List Declaration → ℕ → Head → Expr → Stmt → Bool
goes_one_way ds n h test body = has_a_way ds n h test body && adds_last (n ∷ h.iterator ∷ []) body

abbrev pub groups_of : List Declaration → ℕ → Head → Expr → Stmt → List (List Stmt)
groups_of ds n h test body = groups ds n h.iterator (goes_one_way ds n h test) [] [] [] (statements_of body)

-- a loop whose body is an inner loop that goes several ways, as one for each slice, one after another
abbrev pub sliced_loop : List Declaration → Key → Place → Head → Expr → Stmt → Stmt
sliced_loop ds k at h mask (Foreach j here inner test body) =
    let n = h.iterator in
    if goes_one_way ds n inner test body then Foreach k at h mask (Foreach j here inner test body)
    else sequence (map (λ s. Foreach k at h mask (Foreach j here inner test s)) (slices ds n inner.iterator [] (groups_of ds n inner test body)))
sliced_loop ds k at h mask body = Foreach k at h mask body

-- a program with each of its loops so
abbrev pub in_slices : Program → Program
in_slices p = record p { body = each_loop (sliced_loop p.declarations) p.body }

-- ---- what is asked of a program

-- ds: the table; k, at, h, mask: those of the loop; j, here, inner, test: those of its inner loop
module _ (ds : List Declaration) (k : Key) (at : Place) (h : Head) (mask : Expr) (j : Key) (here : Place) (inner : Head) (test : Expr) where
  abbrev alone : Stmt → Stmt
  alone body = Foreach j here inner test body

  -- whether a loop stands in order, shares what it may, and is cut
  abbrev pub is_sound : Stmt → Bool
  is_sound s = loops_in_order s && (loops_share ds s && is_phase (is_cut has_a_way ds) no_loop ds s)

  -- whether the slice of a body may stand for it: what is kept knows nothing of what is not needed, and it may stand alone
  abbrev pub slice_stands : List ℕ → Stmt → Bool
  slice_stands pushed whole =
      let n = h.iterator in
      let t = inner.iterator in
      let gone = unneeded ds n t whole in
      let part = alone (slice ds n t whole) in
      knows_none gone (n ∷ []) (sliced gone (n ∷ []) (alone whole)) && (is_lone ds pushed n part && is_sound (Foreach k at h mask part))

  abbrev pub is_last : List (List Stmt) → Bool
  is_last [] = true
  is_last (g ∷ gs) = false

  -- whether an inner loop may be cut behind each group, under a mask that stays, and each slice stands
  abbrev pub may_slice : List ℕ → List Stmt → List (List Stmt) → Bool
  may_slice pushed done [] = true
  may_slice pushed done (g ∷ gs) =
      let n = h.iterator in
      let whole = sequence (done ++ g) in
      slice_stands pushed whole
      && (is_last gs
      || (may_cut_inner ds pushed n (length ds) h.place j here inner test whole (sequence (joined gs))
      && (is_stable n (alone whole) mask && may_slice pushed (all_quiet ds n inner.iterator (done ++ g)) gs)))

-- whether a loop is no inner loop alone, or one that goes one way, or may be written as those of its slices
abbrev pub can_slice : List Declaration → Key → Place → Head → Expr → Stmt → Bool
can_slice ds k at h mask (Foreach j here inner test body) =
    let n = h.iterator in
    goes_one_way ds n inner test body
    || (is_mask n mask && may_slice ds k at h mask j here inner test (pushed_properties n body) [] (groups_of ds n inner test body))
can_slice ds k at h mask body = true

-- whether each loop of a program may
abbrev pub can_be_sliced : Program → Bool
can_be_sliced p = each_passes (can_slice p.declarations) p.body

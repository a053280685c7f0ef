-- Where locals of outer bodies go to properties together, inner loops read along as before.
use Rattle.std.proofs.Common.{◌≡◌, ◌<◌, ◌≤◌, ℕ, suc, ◌+◌, true, false, List, [], ◌∷◌, ◌++◌, length, map, refl, ap, ◌∙◌, Option, inl, inr}
use Rattle.std.specs.Prelude.{nat_eq}
use Rattle.std.specs.List.{list_all}
use Rattle.std.proofs.lemmas.Bool.{both_ways}
use Rattle.gm_base.specs.declared.places.Place.{Place}
use Rattle.gm_value.specs.Bag.{IsIn}
use Rattle.gm_value.specs.declared.values.VType.{VType}
use Rattle.gm_value.specs.Numbers.{zero_of}
use Rattle.gm_ast.specs.Loops.{is_nodes}
use Rattle.gm_ast.specs.declared.tree.Declaration.{Declaration}
use Rattle.gm_ast.specs.declared.tree.Head.{Head}
use Rattle.gm_ast.specs.declared.tree.Key.{Key}
use Rattle.gm_ast.specs.Program.{Expr, Stmt, Skip, Then, Declare, DeclareEdge, Assign, Defer, Combine, Group, Foreach, For, If, While, Do, InBfs, InBfsBoth, Return, Program, sequence}
use Rattle.gm_semantics.specs.Statements.{variable_at}
use Rattle.gm_forms.specs.Forms.{depth_at, is_flat, is_flat_loop, is_outer_body}
use Rattle.gm_forms.specs.Ready.{Ready2}
use Rattle.gm_forms.specs.Uses.{Iterates, suits, use_as, owner_role, uses_in, uses_of_head, uses_of}
use Rattle.gm_forms.proofs.Named.{both-true, all-append, names-below}
use Rattle.gm_loop_laws.specs.Localised.{moved_in, moved}
use Rattle.gm_dissect.specs.Deferred.{copy_of}
use Rattle.gm_dissect.proofs.DeferredLaws.{variable-longer}
use Rattle.gm_dissect.proofs.Kept.{Sound}
use Rattle.gm_dissect.proofs.Longer.{depth-same}
use Rattle.gm_dissect.proofs.Moved.{outer-moved}
use Rattle.gm_locals.specs.AllGroups.{group_of, groups_in, with_groups, with_groups_kept}
use Rattle.gm_locals.specs.Groups.{locals_row, locals_loop}
use Rattle.gm_locals.proofs.GroupKept.{longer-loop}
use Rattle.gm_parting.proofs.GroupFacts.{declared-scalar}
use Rattle.gm_parting.proofs.GroupsOf.{group-listed}
use Rattle.gm_parting.proofs.Loops.{sound-of, sound-both, sound-branches, sound-for, sound-while, sound-do}
use Rattle.gm_parting.proofs.PlacedLaws.{role-of}
use Rattle.gm_parting.specs.Iterators.{iterates}
use Rattle.gm_one_way.specs.Along.{AllAlong, EachAlong, ReadsAlong}
use Rattle.gm_one_way.proofs.ApartPrograms.{longer}
use Rattle.gm_one_way.proofs.Moved.{all-moved}
use Rattle.gm_one_way.proofs.Outer.{all-stay}
use Rattle.gm_one_way.proofs.Slimmed.{AllSlim, all-slim, slim-along}

-- ds: the table; rows: what is behind it
module _ (ds rows : List Declaration) (res : Option VType) where
  abbrev dt : List Declaration
  dt = ds ++ rows

  same-row : (x : ℕ) → x < length ds → variable_at dt x ≡ variable_at ds x
  same-row x l = variable-longer ds rows x l

  more : length ds ≤ length dt
  more = longer ds rows

  abbrev Deep : List ℕ → Type 0
  Deep [] = Unit {0}
  Deep (x ∷ xs) = (nat_eq (depth_at dt x) 1 ≡ true) × Deep xs

  -- a loop with some locals of its body in properties, behind the loops that set them
  row-along : (xs : List ℕ) (q : ℕ) (k : Key) (at : Place) (h : Head) (test : Expr) (body : Stmt) → Deep xs → is_outer_body dt false h.iterator body ≡ true → AllSlim dt h.iterator body → EachAlong dt (sequence (locals_row ds xs q k at h test body))
  row-along [] q k at h test body d g e = (slim-along dt h.iterator body e, tt)
  row-along (x ∷ xs) q k at h test body d g e =
      let n = h.iterator in
      let ty = (variable_at ds x).vtype in
      (tt, row-along xs (suc q) k at h (moved_in x q n at (zero_of ty) test) (moved x q n at (zero_of ty) body) d.1 (outer-moved dt x q n at ty d.0 body ∙ g) (all-moved dt x q n at ty d.0 body g e))

  kept-along : (xs : List ℕ) (q : ℕ) (k : Key) (at : Place) (h : Head) (test : Expr) (body : Stmt) → Deep xs → is_outer_body dt false h.iterator body ≡ true → AllSlim dt h.iterator body → EachAlong dt (locals_loop ds xs q k at h test body)
  kept-along [] q k at h test body d g e = slim-along dt h.iterator body e
  kept-along (x ∷ xs) q k at h test body d g e = row-along (x ∷ xs) q k at h test body d g e

  -- the locals that a loop keeps
  module _ (k : Key) (at : Place) (h : Head) (test : Expr) (body : Stmt) (s : Sound ds res (Foreach k at h test body)) where
    named : (list_all (suits ds) (uses_of_head h) ≡ true) × (list_all (suits ds) (uses_of body) ≡ true)
    named =
        let r = all-append (suits ds) (uses_of_head h) (uses_in test ++ uses_of body) s.named in
        (r.0, (all-append (suits ds) (uses_in test) (uses_of body) r.1).1)

    form : is_outer_body ds false h.iterator body ≡ true
    form = (both-true (is_flat (h.iterator ∷ []) false test) (is_outer_body ds false h.iterator body) (both-true (is_nodes h.domain) (is_flat_loop ds false h.iterator test body) s.form).1).1

    later : Sound dt res (Foreach k at h test body)
    later = longer-loop ds dt same-row more res k at h test body s

    named-later : (list_all (suits dt) (uses_of_head h) ≡ true) × (list_all (suits dt) (uses_of body) ≡ true)
    named-later =
        let r = all-append (suits dt) (uses_of_head h) (uses_in test ++ uses_of body) later.named in
        (r.0, (all-append (suits dt) (uses_in test) (uses_of body) r.1).1)

    form-later : is_outer_body dt false h.iterator body ≡ true
    form-later = (both-true (is_flat (h.iterator ∷ []) false test) (is_outer_body dt false h.iterator body) (both-true (is_nodes h.domain) (is_flat_loop dt false h.iterator test body) later.form).1).1

    iterates-later : iterates (variable_at dt h.iterator) ≡ true
    iterates-later = role-of [] dt Iterates h.iterator (all-append (suits dt) (use_as Iterates h.iterator) (use_as (owner_role h.domain) h.owner) named-later.0).0

    deep : (xs : List ℕ) → ((z : ℕ) → IsIn z xs → IsIn z (group_of ds h.iterator test body)) → Deep xs
    deep [] f = tt
    deep (x ∷ xs) f =
        let d = declared-scalar ds h.iterator body form named.1 x (group-listed ds h.iterator test body x (f x (inl refl))) in
        (ap (λ d. nat_eq d 1) (depth-same ds dt same-row more x d.0) ∙ d.1, deep xs (λ z i. f z (inr i)))

    loop-along : (q : ℕ) → AllAlong ds h.iterator body → EachAlong dt (locals_loop ds (group_of ds h.iterator test body) q k at h test body)
    loop-along q e =
        kept-along (group_of ds h.iterator test body) q k at h test body (deep (group_of ds h.iterator test body) (λ z i. i)) form-later
        (all-slim dt h.iterator iterates-later body form-later named-later.1 (all-stay ds rows h.iterator body (names-below ds (Foreach k at h test body) s.named).3 e))

  groups-along : (s : Stmt) (q : ℕ) → Sound ds res s → EachAlong ds s → EachAlong dt (with_groups ds q s)
  groups-along (Then a b) q s e = let r = sound-both ds res a b s in (groups-along a q r.0 e.0, groups-along b (q + length (groups_in ds a)) r.1 e.1)
  groups-along (Foreach k at h test body) q s e = loop-along k at h test body s q e
  groups-along (For k at h test body) q s e = groups-along body q (sound-for ds res k at h test body s) e
  groups-along (If k c a b) q s e = let r = sound-branches ds res k c a b s in (groups-along a q r.0 e.0, groups-along b (q + length (groups_in ds a)) r.1 e.1)
  groups-along (While k at c body) q s e = groups-along body q (sound-while ds res k at c body s) e
  groups-along (Do k at body c) q s e = groups-along body q (sound-do ds res k at body c s) e
  groups-along (InBfs k at hd c body) q s e = absurd (both_ways false refl s.form)
  groups-along (InBfsBoth k at hd c body bk d back) q s e = absurd (both_ways false refl s.form)
  groups-along Skip q s e = tt
  groups-along (Declare k x v) q s e = tt
  groups-along (DeclareEdge x y at) q s e = tt
  groups-along (Assign k u v) q s e = tt
  groups-along (Defer k u v) q s e = tt
  groups-along (Combine k total r ts es) q s e = tt
  groups-along (Group k at g p v) q s e = tt
  groups-along (Return k at v) q s e = tt

pub groups-keep : (p : Program) → Ready2 p → ReadsAlong p → ReadsAlong (with_groups_kept p)
groups-keep p r e = groups-along p.declarations (map (copy_of p.declarations) (groups_in p.declarations p.body)) p.result p.body (length p.declarations) (sound-of p r) e

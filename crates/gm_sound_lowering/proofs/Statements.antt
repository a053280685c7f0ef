-- The commands and blocks of a program's statements have the types that they ask for.
use Rattle.std.proofs.Common.{◌≡◌, ◌<◌, ◌≤◌, ℕ, suc, Bool, true, false, Option, Some, None, List, [], ◌∷◌, ◌++◌, length, refl, ap, ◌∙◌, arith, length-append}
use Rattle.std.specs.Prelude.{◌+◌, pos, ◌&&◌, nat_eq, slice_get}
use Rattle.std.specs.List.{list_all}
use Rattle.std.proofs.lemmas.Bool.{both_ways}
use Rattle.gm_value.specs.declared.values.VType.{VType}
use Rattle.gm_value.specs.declared.values.VType.TheVariants as V
use Rattle.gm_value.specs.declared.values.Value.{Value}
use Rattle.gm_value.specs.declared.values.Value.TheVariants.{I64, Flag}
use Rattle.gm_value.specs.declared.operations.Op1.TheVariants as one
use Rattle.gm_value.specs.declared.operations.Op2.TheVariants as two
use Rattle.gm_ast.specs.declared.tree.Declaration.{Declaration}
use Rattle.gm_ast.specs.declared.tree.Key.{Key}
use Rattle.gm_ast.specs.declared.tree.Target.TheVariants as T
use Rattle.gm_ast.specs.Program as S
use Rattle.gm_ast.specs.Program.{Expr, Stmt, Program}
use Rattle.gm_ast.specs.Loops.{is_nodes}
use Rattle.gm_forms.proofs.Named.{both-true}
use Rattle.gm_forms.specs.Cut.{is_cut}
use Rattle.gm_forms.specs.Forms.{depth_at, is_flat, is_told, is_set, goes_out, is_plain as is_phase_scalar, no_loop, is_phase}
use Rattle.gm_forms.specs.Typing.{type_at, has_type, all_have_types, fits_targets, is_typed_in, returns_type, keeps_tuples}
use Rattle.gm_forms.specs.Uses.{Use, Iterates, Written, Declared, use_as, uses_of_head, owner_role, uses_in, uses_in_all, uses_of_targets, uses_of}
use Rattle.gm_semantics.specs.Statements.{variable_at}
use Rattle.gm_typed_stores.specs.Values.{Each}
use Rattle.gm_image.specs.Indices.{in_range}
use Rattle.gm_image.specs.Leaves.{stands_in_master}
use Rattle.gm_image.specs.Program as image
use Rattle.gm_image.specs.Program.{Command, SetGlobal, Step, Jump, Test, Turn, Back, SetField, Block}
use Rattle.gm_image.specs.Sorts.{one_sort, node_at_sort}
use Rattle.gm_image.specs.Term as M
use Rattle.gm_image.specs.Term.{Term}
use Rattle.gm_lowering.specs.Blocks.{loop}
use Rattle.gm_lowering.specs.Layouts.{Layout, layout, is_global, nesting, phase_positions, body_positions}
use Rattle.gm_lowering.specs.Lowered as L
use Rattle.gm_lowering.specs.Lowered.{Frame, part, past, lines_on, places_on, deeper, choice, test_lines, keeping, set_global, steps_from, counts, next_count, declared_part, lowered, kind_of}
use Rattle.gm_lowering.specs.Places.{segment, spot_at, spots_in, spots_in_all, place_index, shown_places}
use Rattle.gm_lowering.specs.Plans.{kinds_in}
use Rattle.gm_lowering.specs.Terms.{master_env, term}
use Rattle.gm_lowering_master.specs.Runs.{StandsAt}
use Rattle.gm_lowering_master.proofs.Standing.{stands-left, stands-right}
use Rattle.gm_sound_lowering.specs.Asked.{NodesAreNodes, is_plain, all_plain, is_number_global, is_asked_phase}
use Rattle.gm_sound_lowering.specs.Types.{IsTerm, is_placed}
use Rattle.gm_sound_lowering.proofs.Environments.{terms-have-types}
use Rattle.gm_sound_lowering.proofs.Leaves.{each-join, spots-in, placed-here, placed-split}
use Rattle.gm_sound_lowering.proofs.Lines.{CommandIs}
use Rattle.gm_sound_lowering.proofs.Loops.{BlockIs}
use Rattle.gm_sound_lowering.proofs.Slots.{global-type, result-type, counter-type, flag-type}
use Rattle.gm_sound_lowering.proofs.Terms.{const-is, unary-is, binary-is, either-is, count-is}
use Rattle.gm_sound_lowering.proofs.Phases.{told-flat, set-flat, PlansStand, plans-split, max-both, deeper-both, loop-is, term-of, steps-are, tests-are, choice-are, set-is, global-term, declared-is, picks-are}

-- ---- statements

-- what the terms of a turn over nodes are made of
node-at-is : (i : image.Program) (stands : Term → Bool) (a : Term) → IsTerm i None stands V.I64 a → IsTerm i None stands V.Node (M.NodeAt a)
node-at-is i stands a h = record { sort = ap (one_sort node_at_sort) h.sort; leaves = h.leaves; places = h.places; leaf = h.leaf }

module _ (p : Program) (nodes : NodesAreNodes p.declarations) (finish : ℕ) where
  abbrev ds : List Declaration
  ds = p.declarations

  abbrev c : Layout
  c = layout p

  abbrev i : image.Program
  i = lowered p

  abbrev w : Frame
  w = record { layout = c; finish = finish }

  abbrev Named : List Use → Type 0
  Named us = list_all (is_placed p) us ≡ true

  abbrev Is : VType → Term → Type 0
  Is = IsTerm i None stands_in_master

  abbrev Good : Command → Type 0
  Good = CommandIs i

  abbrev test : (n : ℕ) (e : Expr) (s : Stmt) → Bool
  test = is_cut goes_out ds

  abbrev consts : (v : Value) → stands_in_master (M.Const v) ≡ true
  consts v = refl

  counts-is : (d : ℕ) → d < nesting p.body → Is V.Flag (counts c d)
  counts-is d lt =
      binary-is i None stands_in_master consts refl refl two.Lt None V.I64 V.I64 (M.Global (c.counter d)) (M.Unary one.ToI64 None M.NodeCount) refl refl (global-term p nodes (c.counter d) V.I64 (counter-type p d lt))
      (unary-is i None stands_in_master consts refl refl one.ToI64 None V.I32 M.NodeCount refl refl (count-is i None stands_in_master consts refl refl))

  next-is : (d place : ℕ) → d < nesting p.body → in_range i.places place ≡ true → Is V.I64 (next_count c d place)
  next-is d place lt h =
      binary-is i None stands_in_master consts refl refl two.Add (Some place) V.I64 V.I64 (M.Global (c.counter d)) (M.Const (I64 (pos 1))) refl h (global-term p nodes (c.counter d) V.I64 (counter-type p d lt))
      (const-is i None stands_in_master consts refl refl (I64 (pos 1)) refl)

  -- what is asked of a statement
  pub record Asks (s : Stmt) : Type 0 where
    pub form : is_phase test no_loop ds s ≡ true
    pub typed : is_typed_in ds p.result s ≡ true
    pub named : Named (uses_of s)
    pub asked : is_asked_phase ds s ≡ true
    pub spares : phase_positions ds s ≤ phase_positions ds p.body
    pub room : body_positions ds s ≤ body_positions ds p.body

  -- its part stands in the image
  pub record Stands (at : L.At) (s : Stmt) : Type 0 where
    pub depth : at.depth + nesting s ≤ nesting p.body
    pub places : StandsAt i.places at.place (part w s at).places
    pub kinds : PlansStand p at.kind (kinds_in ds s)
    pub blocks : at.block + length (part w s at).blocks ≤ length i.blocks

  -- its commands and blocks have types
  pub record PartIs (at : L.At) (s : Stmt) : Type 0 where
    pub commands : Each Good (part w s at).commands
    pub blocks : Each (BlockIs i) (part w s at).blocks

  told-is : (at : L.At) (k : Key) (t : VType) (e : Expr) → has_type ds t e ≡ true → is_flat [] false e ≡ true → Named (uses_in e) → is_plain ds e ≡ true
      → StandsAt i.places at.place (shown_places (segment at.place (spots_in e k))) → Is t (term (master_env c (segment at.place (spots_in e k))) k e)
  told-is at k t e h f u q places = term-of p nodes at.place k t e h f u q places

  pub part-is : (s : Stmt) (at : L.At) → Asks s → Stands at s → PartIs at s
  part-is (S.Then a b) at h st =
      let x = part w a at in
      let next = past w at a x in
      let y = part w b next in
      let f2 = both-true (is_phase test no_loop ds a) (is_phase test no_loop ds b) h.form in
      let t2 = both-true (is_typed_in ds p.result a) (is_typed_in ds p.result b) h.typed in
      let u2 = placed-split p (uses_of a) (uses_of b) h.named in
      let q2 = both-true (is_asked_phase ds a) (is_asked_phase ds b) h.asked in
      let m2 = max-both (phase_positions ds a) (phase_positions ds b) (phase_positions ds p.body) h.spares in
      let n2 = max-both (body_positions ds a) (body_positions ds b) (body_positions ds p.body) h.room in
      let d2 = deeper-both at.depth (nesting a) (nesting b) (nesting p.body) st.depth in
      let k2 = plans-split p at.kind (kinds_in ds a) (kinds_in ds b) st.kinds in
      let l = length-append x.blocks y.blocks in
      let le = st.blocks in
      let one = part-is a at (record { form = f2.0; typed = t2.0; named = u2.0; asked = q2.0; spares = m2.0; room = n2.0 })
      (record { depth = d2.0; places = stands-left i.places at.place x.places y.places st.places; kinds = k2.0; blocks = omega (arith, l, le) }) in
      let two = part-is b next (record { form = f2.1; typed = t2.1; named = u2.1; asked = q2.1; spares = m2.1; room = n2.1 })
      (record { depth = d2.1; places = stands-right i.places at.place x.places y.places st.places; kinds = k2.1; blocks = omega (arith, l, le) }) in
      record { commands = each-join Good x.commands y.commands one.commands two.commands; blocks = each-join (BlockIs i) x.blocks y.blocks one.blocks two.blocks }
  part-is (S.Declare k x None) at h st =
      let q = declared-is p nodes finish at x (variable_at ds x).sort refl h.form (placed-here p Declared x h.named).0 st.blocks in record { commands = q.0; blocks = q.1 }
  part-is (S.Declare k x (Some e)) at h st =
      let f2 = both-true (nat_eq (depth_at ds x) 0) (is_set e) h.form in
      let u2 = placed-split p (use_as Written x) (uses_in e) h.named in
      let t = told-is at k (type_at ds x) e h.typed (set-flat e f2.1) u2.1 h.asked st.places in
      record { commands = (set-is p nodes x (term (master_env c (segment at.place (spots_in e k))) k e) f2.0 u2.0 t, tt); blocks = tt }
  part-is (S.Assign k (T.Scalar x place) e) at h st =
      let f2 = both-true (nat_eq (depth_at ds x) 0) (is_set e) h.form in
      let u2 = placed-split p (use_as Written x) (uses_in e) h.named in
      let t = told-is at k (type_at ds x) e h.typed (set-flat e f2.1) u2.1 h.asked st.places in
      record { commands = (set-is p nodes x (term (master_env c (segment at.place (spots_in e k))) k e) f2.0 u2.0 t, tt); blocks = tt }
  part-is (S.Assign k (T.Property x y place) e) at h st = absurd (both_ways false refl h.form)
  part-is (S.Combine k total r ts es) at h st =
      let g = segment at.place (spots_in_all es k) in
      let f2 = both-true (keeps_tuples r) (list_all (is_phase_scalar ds) ts && list_all is_told es) h.form in
      let f3 = both-true (list_all (is_phase_scalar ds) ts) (list_all is_told es) f2.1 in
      let t2 = both-true (all_have_types ds ts es) (fits_targets ds r ts) h.typed in
      let u2 = placed-split p (uses_of_targets ts) (uses_in_all es) h.named in
      let q2 = both-true (list_all (is_number_global ds) ts) (all_plain ds es) h.asked in
      record { commands = picks-are p nodes finish g k r ts es t2.1 t2.0 f3.1 u2.0 u2.1 q2.0 q2.1 h.spares (spots-in i at.place (spots_in_all es k) st.places); blocks = tt }
  part-is (S.Foreach k place head mask body) at h st =
      let f2 = both-true (is_nodes head.domain) (test head.iterator mask body) h.form in
      let t2 = both-true (has_type ds V.Flag mask) (is_typed_in ds p.result body) h.typed in
      let u2 = placed-split p (uses_of_head head) (uses_in mask ++ uses_of body) h.named in
      let u3 = placed-split p (use_as Iterates head.iterator) (use_as (owner_role head.domain) head.owner) u2.0 in
      let u4 = placed-split p (uses_in mask) (uses_of body) u2.1 in
      record {
        commands = steps-are p nodes at.block (length (loop c at.place at.kind head.iterator k mask body).blocks) st.blocks;
        blocks = loop-is p nodes p.result at.place at.kind head.iterator k mask body f2.1 t2.0 t2.1 u3.0 u4.0 u4.1 h.asked h.room st.places st.kinds;
      }
  part-is (S.Return k place None) at h st = record { commands = (tt, tt); blocks = tt }
  part-is (S.Return k place (Some e)) at h st = by p.result refl h.typed where
    by : (t : Option VType) → p.result ≡ t → returns_type ds t (Some e) ≡ true → PartIs at (S.Return k place (Some e))
    by None r f = absurd (both_ways false refl f)
    by (Some t) r f = record { commands = ((t, result-type p t r, told-is at k t e f (told-flat e h.form) h.named h.asked st.places), (tt, tt)); blocks = tt }
  part-is (S.If k e a b) at h st =
      let g = segment at.place (spots_in e k) in
      let start = lines_on 1 (places_on (shown_places g) at) in
      let x = part w a start in
      let behind = past w start a x in
      let other = lines_on 1 behind in
      let y = part w b other in
      let f1 = both-true (is_told e) (is_phase test no_loop ds a && is_phase test no_loop ds b) h.form in
      let f2 = both-true (is_phase test no_loop ds a) (is_phase test no_loop ds b) f1.1 in
      let t1 = both-true (has_type ds V.Flag e) (is_typed_in ds p.result a && is_typed_in ds p.result b) h.typed in
      let t2 = both-true (is_typed_in ds p.result a) (is_typed_in ds p.result b) t1.1 in
      let u1 = placed-split p (uses_in e) (uses_of a ++ uses_of b) h.named in
      let u2 = placed-split p (uses_of a) (uses_of b) u1.1 in
      let q1 = both-true (is_plain ds e) (is_asked_phase ds a && is_asked_phase ds b) h.asked in
      let q2 = both-true (is_asked_phase ds a) (is_asked_phase ds b) q1.1 in
      let m2 = max-both (phase_positions ds a) (phase_positions ds b) (phase_positions ds p.body) h.spares in
      let n2 = max-both (body_positions ds a) (body_positions ds b) (body_positions ds p.body) h.room in
      let d2 = deeper-both at.depth (nesting a) (nesting b) (nesting p.body) st.depth in
      let k2 = plans-split p at.kind (kinds_in ds a) (kinds_in ds b) st.kinds in
      let l = length-append x.blocks y.blocks in
      let le = st.blocks in
      let s1 = stands-left i.places at.place (shown_places g) (x.places ++ y.places) st.places in
      let s2 = stands-right i.places at.place (shown_places g) (x.places ++ y.places) st.places in
      let t = told-is at k V.Flag e t1.0 (told-flat e f1.0) u1.0 q1.0 s1 in
      let one = part-is a start (record { form = f2.0; typed = t2.0; named = u2.0; asked = q2.0; spares = m2.0; room = n2.0 })
      (record { depth = d2.0; places = stands-left i.places (at.place + length (shown_places g)) x.places y.places s2; kinds = k2.0; blocks = omega (arith, l, le) }) in
      let two = part-is b other (record { form = f2.1; typed = t2.1; named = u2.1; asked = q2.1; spares = m2.1; room = n2.1 })
      (record { depth = d2.1; places = stands-right i.places (at.place + length (shown_places g)) x.places y.places s2; kinds = k2.1; blocks = omega (arith, l, le) }) in
      record {
        commands = choice-are p nodes (term (master_env c g) k e) behind.line x.commands y.commands t one.commands two.commands;
        blocks = each-join (BlockIs i) x.blocks y.blocks one.blocks two.blocks;
      }
  part-is (S.While k place e body) at h st =
      let g = segment at.place (spots_in e k) in
      let start = lines_on 1 (places_on (shown_places g) at) in
      let x = part w body start in
      let f2 = both-true (is_told e) (is_phase test no_loop ds body) h.form in
      let t2 = both-true (has_type ds V.Flag e) (is_typed_in ds p.result body) h.typed in
      let u2 = placed-split p (uses_in e) (uses_of body) h.named in
      let q2 = both-true (is_plain ds e) (is_asked_phase ds body) h.asked in
      let s1 = stands-left i.places at.place (shown_places g) x.places st.places in
      let s2 = stands-right i.places at.place (shown_places g) x.places st.places in
      let t = told-is at k V.Flag e t2.0 (told-flat e f2.0) u2.0 q2.0 s1 in
      let one = part-is body start (record { form = f2.1; typed = t2.1; named = u2.1; asked = q2.1; spares = h.spares; room = h.room })
      (record { depth = st.depth; places = s2; kinds = st.kinds; blocks = st.blocks }) in
      record { commands = (t, each-join Good x.commands (Back at.line ∷ []) one.commands (tt, tt)); blocks = one.blocks }
  part-is (S.Do k place body e) at h st =
      let g = segment at.place (spots_in e k) in
      let start = lines_on 3 (deeper (places_on (shown_places g) at)) in
      let x = part w body start in
      let f2 = both-true (is_phase test no_loop ds body) (is_told e) h.form in
      let t2 = both-true (is_typed_in ds p.result body) (has_type ds V.Flag e) h.typed in
      let u2 = placed-split p (uses_of body) (uses_in e) h.named in
      let q2 = both-true (is_asked_phase ds body) (is_plain ds e) h.asked in
      let s1 = stands-left i.places at.place (shown_places g) x.places st.places in
      let s2 = stands-right i.places at.place (shown_places g) x.places st.places in
      let d = st.depth in
      let lt : at.depth < nesting p.body = omega (arith, d) in
      let t = told-is at k V.Flag e t2.1 (told-flat e f2.1) u2.1 q2.1 s1 in
      let f = flag-type p at.depth lt in
      let one = part-is body start (record { form = f2.0; typed = t2.0; named = u2.0; asked = q2.0; spares = h.spares; room = h.room })
      (record { depth = omega (arith, d); places = s2; kinds = st.kinds; blocks = st.blocks }) in
      record {
        commands = (
          (V.Flag, f, const-is i None stands_in_master consts refl refl (Flag true) refl),
          (
            either-is i None stands_in_master consts refl refl (M.Global (c.flag at.depth)) (term (master_env c g) k e) (global-term p nodes (c.flag at.depth) V.Flag f) t,
            ((V.Flag, f, const-is i None stands_in_master consts refl refl (Flag false) refl), each-join Good x.commands (Back (suc at.line) ∷ []) one.commands (tt, tt)),
          ),
        );
        blocks = one.blocks;
      }
  part-is (S.For k place head e body) at h st =
      let spots = spot_at k place ∷ spots_in e k in
      let g = segment at.place spots in
      let a = term (master_env c g) k e in
      let tests = length (test_lines 0 a) in
      let start = lines_on (4 + tests) (deeper (places_on (shown_places g) at)) in
      let x = part w body start in
      let end = start.line + length x.commands in
      let f2 = both-true (is_told e) (is_phase test no_loop ds body) h.form in
      let t2 = both-true (has_type ds V.Flag e) (is_typed_in ds p.result body) h.typed in
      let u1 = placed-split p (uses_of_head head) (uses_in e ++ uses_of body) h.named in
      let u2 = placed-split p (uses_in e) (uses_of body) u1.1 in
      let u3 = placed-split p (use_as Iterates head.iterator) (use_as (owner_role head.domain) head.owner) u1.0 in
      let it = placed-here p Iterates head.iterator u3.0 in
      let q1 = both-true (is_global (variable_at ds head.iterator)) (is_plain ds e && is_asked_phase ds body) h.asked in
      let q2 = both-true (is_plain ds e) (is_asked_phase ds body) q1.1 in
      let s1 = stands-left i.places at.place (shown_places g) x.places st.places in
      let s2 = stands-right i.places at.place (shown_places g) x.places st.places in
      let d = st.depth in
      let lt : at.depth < nesting p.body = omega (arith, d) in
      let z = spots-in i at.place spots s1 in
      let t = terms-have-types.master p g k V.Flag e nodes (record { typed = t2.0; flat = told-flat e f2.0; named = u2.0; plain = q2.0; places = z.1 }) in
      let n = counter-type p at.depth lt in
      let counter = global-term p nodes (c.counter at.depth) V.I64 n in
      let one = part-is body start (record { form = f2.1; typed = t2.1; named = u2.1; asked = q2.1; spares = h.spares; room = h.room })
      (record { depth = omega (arith, d); places = s2; kinds = st.kinds; blocks = st.blocks }) in
      let node : slice_get i.globals (c.global head.iterator) ≡ Some V.Node = global-type p head.iterator it.0 q1.0 ∙ ap Some (nodes head.iterator it.0 it.1) in
      record {
        commands = (
          (V.I64, n, const-is i None stands_in_master consts refl refl (I64 (pos 0)) refl),
          (
            counts-is at.depth lt,
            (
              (V.Node, node, node-at-is i stands_in_master (M.Global (c.counter at.depth)) counter),
              (
                (V.I64, n, next-is at.depth (place_index g k place) lt z.0),
                each-join Good (test_lines end a) (x.commands ++ Back (suc at.line) ∷ []) (tests-are p nodes end a t) (each-join Good x.commands (Back (suc at.line) ∷ []) one.commands (tt, tt)),
              ),
            ),
          ),
        );
        blocks = one.blocks;
      }
  part-is S.Skip at h st = record { commands = tt; blocks = tt }
  part-is (S.DeclareEdge x y place) at h st = record { commands = tt; blocks = tt }
  part-is (S.Defer k t e) at h st = record { commands = tt; blocks = tt }
  part-is (S.Group k place x y e) at h st = record { commands = tt; blocks = tt }
  part-is (S.InBfs k place how mask body) at h st = record { commands = tt; blocks = tt }
  part-is (S.InBfsBoth k place how mask body back_key back_mask back) at h st = record { commands = tt; blocks = tt }

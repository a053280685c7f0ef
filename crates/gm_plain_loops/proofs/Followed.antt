-- The master list follows a ready program whose phases name scalars and nodes of the procedure.
use Rattle.std.proofs.Common.{◌≡◌, ℕ, Bool, true, false, Option, Some, None, List, [], ◌++◌, length, refl}
use Rattle.std.specs.Prelude.{◌&&◌, not, nat_eq, nat_lt, nat_le, ◌+◌}
use Rattle.std.specs.List.{list_all}
use Rattle.std.proofs.lemmas.Bool.{both_ways, and_from}
use Rattle.gm_value.specs.declared.values.VType.{VType}
use Rattle.gm_ast.specs.declared.tree.Declaration.{Declaration}
use Rattle.gm_ast.specs.declared.tree.Target.TheVariants as T
use Rattle.gm_ast.specs.declared.tree.Sort.TheVariants as Sorts
use Rattle.gm_ast.specs.Names.{is}
use Rattle.gm_ast.specs.Program as S
use Rattle.gm_ast.specs.Program.{Expr, Stmt, Program}
use Rattle.gm_forms.proofs.Named.{both-true}
use Rattle.gm_forms.specs.Cut.{is_cut}
use Rattle.gm_forms.specs.Forms.{depth_at, is_told, is_set, is_phase, no_loop, goes_out}
use Rattle.gm_forms.specs.Typing.{has_type, returns_type, is_typed_in}
use Rattle.gm_forms.specs.Uses.{Iterates, Written, Declared, Owner, suits, use_as, owner_role, uses_in, uses_of_head, uses_of}
use Rattle.gm_value.specs.declared.values.VType.TheVariants as V
use Rattle.gm_semantics.specs.Statements.{variable_at}
use Rattle.gm_lowering.specs.Layouts.{Layout, layout, is_global, is_register}
use Rattle.gm_lowering_master.specs.Cells.{is_scalar}
use Rattle.gm_lowering_master.specs.Follows.{tells, is_told_value, is_followed}
use Rattle.gm_lowering_master.specs.Whole.{has_result}
use Rattle.gm_plain_loops.specs.Laws.{ReadyIsFollowed}
use Rattle.gm_plain_loops.specs.Tests.{asks_around, tells_phase}
use Rattle.gm_plain_loops.proofs.Names.{Fine, fine-body, split, below, told, a-scalar, declared-scalar}

module _ (p : Program) where
  abbrev ds : List Declaration
  ds = p.declarations

  abbrev c : Layout
  c = layout p

  told-value : (e : Expr) → is_set e ≡ true → Fine p (uses_in e) → asks_around ds [] e ≡ true → is_told_value c e ≡ true
  told-value (S.Live x at) f u h = a-scalar p Owner x u h
  told-value e f u h = told p e f u h

  at-depth : (x : ℕ) → nat_eq (depth_at ds x) 0 ≡ true → not (is_register (variable_at ds x)) ≡ true
  at-depth x h = by (is Sorts.Scalar (variable_at ds x)) (nat_eq (depth_at ds x) 0) h where
    by : (s d : Bool) → d ≡ true → not (s && not d) ≡ true
    by s false e = absurd (both_ways false refl e)
    by true true e = refl
    by false true e = refl

  returned : (r : Option VType) (e : Expr) → returns_type ds r (Some e) ≡ true → has_result r ≡ true
  returned None e h = absurd (both_ways false refl h)
  returned (Some t) e h = refl

  abbrev is_form : Stmt → Bool
  is_form st = is_phase (is_cut goes_out ds) no_loop ds st

  abbrev is_typed : Stmt → Bool
  is_typed st = is_typed_in ds p.result st

  abbrev follows : Stmt → Bool
  follows st = is_followed c (has_result p.result) st

  phase-followed : (st : Stmt) → is_form st ≡ true → Fine p (uses_of st) → is_typed st ≡ true → tells_phase ds st ≡ true → follows st ≡ true
  phase-followed S.Skip f u y h = refl
  phase-followed (S.Then a b) f u y h =
      let f2 = both-true (is_form a) (is_form b) f in
      let u2 = split p (uses_of a) (uses_of b) u in
      let y2 = both-true (is_typed a) (is_typed b) y in
      let h2 = both-true (tells_phase ds a) (tells_phase ds b) h in
      and_from (follows a) (follows b) (phase-followed a f2.0 u2.0 y2.0 h2.0) (phase-followed b f2.1 u2.1 y2.1 h2.1)
  phase-followed (S.Declare k x None) f u y h = and_from (nat_lt x (length ds)) (not (is_register (variable_at ds x))) (below p Declared x u) (at-depth x f)
  phase-followed (S.Declare k x (Some e)) f u y h =
      let f2 = both-true (nat_eq (depth_at ds x) 0) (is_set e) f in
      let u2 = split p (use_as Written x) (uses_in e) u in
      and_from (is_scalar c x) (is_told_value c e) (a-scalar p Written x u2.0 (declared-scalar p x u2.0 f2.0)) (told-value e f2.1 u2.1 h)
  phase-followed (S.Assign k (T.Scalar x at) e) f u y h =
      let f2 = both-true (nat_eq (depth_at ds x) 0) (is_set e) f in
      let u2 = split p (use_as Written x) (uses_in e) u in
      and_from (is_scalar c x) (is_told_value c e) (a-scalar p Written x u2.0 (declared-scalar p x u2.0 f2.0)) (told-value e f2.1 u2.1 h)
  phase-followed (S.Assign k (T.Property x q at) e) f u y h = absurd (both_ways false refl f)
  phase-followed (S.Combine k total r ts es) f u y h = refl
  phase-followed (S.Foreach k at hd test body) f u y h = refl
  phase-followed (S.For k at hd test body) f u y h =
      let f2 = both-true (is_told test) (is_form body) f in
      let u1 = split p (uses_of_head hd) (uses_in test ++ uses_of body) u in
      let u2 = split p (uses_in test) (uses_of body) u1.1 in
      let y2 = both-true (has_type ds V.Flag test) (is_typed body) y in
      let h1 = both-true (is_global (variable_at ds hd.iterator)) (asks_around ds [] test && tells_phase ds body) h in
      let h2 = both-true (asks_around ds [] test) (tells_phase ds body) h1.1 in
      and_from (is_scalar c hd.iterator) (tells c test && follows body) (a-scalar p Iterates hd.iterator (split p (use_as Iterates hd.iterator) (use_as (owner_role hd.domain) hd.owner) u1.0).0 h1.0)
      (and_from (tells c test) (follows body) (told p test f2.0 u2.0 h2.0) (phase-followed body f2.1 u2.1 y2.1 h2.1))
  phase-followed (S.If k e a b) f u y h =
      let f1 = both-true (is_told e) (is_form a && is_form b) f in
      let f2 = both-true (is_form a) (is_form b) f1.1 in
      let u1 = split p (uses_in e) (uses_of a ++ uses_of b) u in
      let u2 = split p (uses_of a) (uses_of b) u1.1 in
      let y1 = both-true (has_type ds V.Flag e) (is_typed a && is_typed b) y in
      let y2 = both-true (is_typed a) (is_typed b) y1.1 in
      let h1 = both-true (asks_around ds [] e) (tells_phase ds a && tells_phase ds b) h in
      let h2 = both-true (tells_phase ds a) (tells_phase ds b) h1.1 in
      and_from (tells c e) (follows a && follows b) (told p e f1.0 u1.0 h1.0)
      (and_from (follows a) (follows b) (phase-followed a f2.0 u2.0 y2.0 h2.0) (phase-followed b f2.1 u2.1 y2.1 h2.1))
  phase-followed (S.While k at e body) f u y h =
      let f2 = both-true (is_told e) (is_form body) f in
      let u2 = split p (uses_in e) (uses_of body) u in
      let y2 = both-true (has_type ds V.Flag e) (is_typed body) y in
      let h2 = both-true (asks_around ds [] e) (tells_phase ds body) h in
      and_from (tells c e) (follows body) (told p e f2.0 u2.0 h2.0) (phase-followed body f2.1 u2.1 y2.1 h2.1)
  phase-followed (S.Do k at body e) f u y h =
      let f2 = both-true (is_form body) (is_told e) f in
      let u2 = split p (uses_of body) (uses_in e) u in
      let y2 = both-true (is_typed body) (has_type ds V.Flag e) y in
      let h2 = both-true (tells_phase ds body) (asks_around ds [] e) h in
      and_from (tells c e) (follows body) (told p e f2.1 u2.1 h2.1) (phase-followed body f2.0 u2.0 y2.0 h2.0)
  phase-followed (S.Return k at None) f u y h = refl
  phase-followed (S.Return k at (Some e)) f u y h = and_from (has_result p.result) (tells c e) (returned p.result e y) (told p e f u h)
  phase-followed (S.DeclareEdge x z at) f u y h = absurd (both_ways false refl f)
  phase-followed (S.Defer k t e) f u y h = absurd (both_ways false refl f)
  phase-followed (S.Group k at g q e) f u y h = absurd (both_ways false refl f)
  phase-followed (S.InBfs k at s test body) f u y h = absurd (both_ways false refl f)
  phase-followed (S.InBfsBoth k at s test body back_key back_test back) f u y h = absurd (both_ways false refl f)

pub ready-is-followed : ReadyIsFollowed
ready-is-followed p ready h =
    phase-followed p p.body ready.form (fine-body p (both-true (nat_le (p.inputs + p.outputs) (length p.declarations)) (list_all (suits p.declarations) (uses_of p.body)) ready.sane.named).1) ready.sane.typed h

-- Reductions that a sequential phase does at once go: their lines are the reduction.
use Rattle.std.proofs.Common.{◌≡◌, ◌<◌, ◌≤◌, ℕ, suc, Bool, true, false, Result, List, [], ◌∷◌, length, map, refl, ap, subst, arith, IfOk}
use Rattle.std.specs.Prelude.{◌||◌, if◌then◌else◌, nat_lt}
use Rattle.std.specs.List.{list_any}
use Rattle.std.proofs.lemmas.Bool.{both_ways}
use Rattle.gm_value.specs.declared.values.Value.{Value}
use Rattle.gm_ast.specs.declared.tree.Target.{Target}
use Rattle.gm_ast.specs.declared.tree.Target.TheVariants as T
use Rattle.gm_forms.proofs.Named.{both-true}
use Rattle.gm_forms.specs.Typing.{target_type, all_have_types, fits_targets}
use Rattle.gm_forms.specs.Uses.{uses_in_all, uses_of_targets}
use Rattle.gm_semantics.specs.declared.faults.Fault.{Fault}
use Rattle.gm_semantics.specs.Statements.{view_of, variable_at}
use Rattle.gm_typed_stores.specs.Values.{AreValues}
use Rattle.gm_typed_stores.proofs.Expressions.{split, all-give}
use Rattle.gm_lowering.specs.Layouts.{Layout, is_global, is_scalar_of}
use Rattle.gm_lowering.specs.Places.{spots_in_all}
use Rattle.gm_lowering_master.specs.Cells.{is_scalar, HasSpareGlobals}
use Rattle.gm_lowering_master.specs.Follows.{tells}
use Rattle.gm_lowering_master.specs.Going.{PicksGo}
use Rattle.gm_lowering_master.proofs.Picks.{graph-below, pick-one}
use Rattle.gm_lowering_master.proofs.Told.{own-all}
use Rattle.gm_lowering_master.proofs.TuplePicks.{held-types, values-of, are_phase, tuple-goes}

-- fewer spare globals
pub fewer-globals : (c : Layout) (returns : Bool) (depth globals many few : ℕ) → few ≤ many → HasSpareGlobals c returns depth globals many → HasSpareGlobals c returns depth globals few
fewer-globals c returns depth globals many few le h = record {
  within = λ i t lt. h.within i t (omega (arith, lt, le));
  apart = λ i j t u lt less e. h.apart i j t u (omega (arith, lt, le)) (omega (arith, less, le)) e;
  others = λ i t a lt e. h.others i t a (omega (arith, lt, le)) e;
}

some-scalar : (c : Layout) (t : Target) (ts : List Target) → are_phase c (t ∷ ts) ≡ true → list_any (is_scalar_of is_global c.declarations) (t ∷ ts) ≡ true
some-scalar c (T.Property x p at) ts h = absurd (both_ways false refl h)
some-scalar c (T.Scalar x at) ts h =
    let q = both-true (is_scalar c x) (are_phase c ts) h in
    ap (λ b. b || list_any (is_scalar_of is_global c.declarations) ts) (both-true (nat_lt x (length c.declarations)) (is_global (variable_at c.declarations x)) q.0).1

pub picks-go : PicksGo
picks-go s at k total r [] es is' pick spares = absurd (both_ways false refl pick.some)
picks-go s at k total r (T.Property x p place ∷ []) es is' pick spares = absurd (both_ways false refl pick.scalars)
picks-go s at k total r (T.Scalar x place ∷ []) [] is' pick spares = absurd (both_ways false refl pick.long)
picks-go s at k total r (T.Scalar x place ∷ []) (e ∷ []) is' pick spares = λ deep stands m its state here point.
    pick-one s is' k total r x place e state pick.keeps at its m (both-true (is_scalar s.frame.layout x) true pick.scalars).0 (both-true (tells s.frame.layout e) true pick.told).0 deep stands here point
picks-go s at k total r (T.Scalar x place ∷ []) (e ∷ (f ∷ es)) is' pick spares = absurd (both_ways false refl pick.long)
picks-go s at k total r (t ∷ (u ∷ ts)) es is' pick spares = λ deep stands m its state here point.
    let c = s.frame.layout in
    let all = t ∷ (u ∷ ts) in
    let table = s.table in
    let w = view_of s.run state k in
    let room : HasSpareGlobals c s.returns s.depth (length s.image.globals) (suc (suc (suc (length ts)))) =
    subst (λ b. HasSpareGlobals c s.returns s.depth (length s.image.globals) (if b then suc (suc (suc (length ts))) else 0)) (some-scalar c t (u ∷ ts) pick.scalars) spares in
    let named = split table.declarations (uses_of_targets all) (uses_in_all es) point.typed.statement.named in
    let types = map (target_type table.declarations) all in
    tuple-goes s is' (suc (suc (suc (length ts)))) room at.depth deep k at.place (spots_in_all es k) stands.places (own-all es k) state total r t u ts es pick.keeps pick.scalars pick.told
    at types m pick.long (let less : length all < suc (suc (suc (length ts))) = omega arith in less) (λ f i. i)
    (held-types table its state.store c all pick.scalars named.0 point.typed.store)
    (λ ys e. values-of table.limit types ys
    (subst (λ (a : Result (List Value) Fault). IfOk a (AreValues table.limit types)) e
    (all-give table all es its w (record { graph = graph-below s is'; store = point.typed.store }) (both-true (all_have_types table.declarations all es) (fits_targets table.declarations r all) point.typed.statement.typed).0 named.1 point.typed.statement.tells)))
    stands.commands here

-- What is known of a program stays where its loops save their filters.
use Rattle.std.proofs.Common.{◌≡◌, ◌<◌, ◌≤◌, arith, ℕ, Bool, true, false, cond, List, [], ◌∷◌, ◌++◌, length, refl, ap, ◌∙◌, Option}
use Rattle.std.specs.Prelude.{◌&&◌, ◌||◌, not, nat_eq, nat_lt}
use Rattle.gm_base.specs.declared.places.Place.{Place}
use Rattle.gm_value.specs.declared.values.VType.{VType}
use Rattle.gm_value.specs.declared.values.VType.TheVariants as V
use Rattle.gm_ast.specs.declared.tree.Declaration.{Declaration}
use Rattle.gm_ast.specs.declared.tree.Head.{Head}
use Rattle.gm_ast.specs.declared.tree.Key.{Key}
use Rattle.gm_ast.specs.Program.{Expr, Property, Stmt, Foreach, Program}
use Rattle.gm_ast.specs.Ways.{is_in}
use Rattle.gm_semantics.specs.Statements.{variable_at}
use Rattle.gm_forms.specs.Cut.{is_no_local, is_own_loop}
use Rattle.gm_forms.specs.Forms.{depth_at}
use Rattle.gm_forms.specs.Ready.{Ready2}
use Rattle.gm_forms.proofs.Named.{both-true, names-below}
use Rattle.gm_forms.proofs.Weaker.{and-true}
use Rattle.gm_dissect.specs.Locals.{declares}
use Rattle.gm_dissect.specs.Loops.{each_loop}
use Rattle.gm_dissect.proofs.DeferredKept.{length-one}
use Rattle.gm_dissect.proofs.DeferredLaws.{variable-longer}
use Rattle.gm_dissect.proofs.Kept.{Sound}
use Rattle.gm_dissect.proofs.Longer.{depth-same}
use Rattle.gm_cut.specs.Parts.{each_passes}
use Rattle.gm_parting.specs.Filters.{flag_property, saves_filter, filter_saved, filtered_loop, with_saved_filters}
use Rattle.gm_parting.specs.InnerLoops.{inner_iterators_deep, has_iterators_in_place}
use Rattle.gm_parting.specs.Locals.{declares_its_locals, has_declared_locals, checks_nothing, has_no_checks}
use Rattle.gm_parting.specs.Tuples.{reduces_evenly, has_even_tuples}
use Rattle.gm_parting.proofs.Loops.{Test, sound-of, each-kept}
use Rattle.gm_parting.proofs.MovedNames.{evenly-longer, deep-longer}
use Rattle.gm_parting.proofs.MovedPrograms.{names-more, part-of}

-- a fact of loops that are not of own statements, by iterator, filter and body
abbrev Fact : Type 0
Fact = ℕ → Expr → Stmt → Bool

abbrev of : Fact → Test
of F k at h test body = is_own_loop h.iterator body || F h.iterator test body

module _ (ds : List Declaration) (res : Option VType) where
  abbrev dt : List Declaration
  dt = ds ++ (flag_property ∷ [])

  abbrev q : ℕ
  q = length ds

  more : length ds ≤ length dt
  more = let e = length-one ds flag_property in omega (arith, e)

  same : (x : ℕ) → x < length ds → variable_at dt x ≡ variable_at ds x
  same x h = variable-longer ds (flag_property ∷ []) x h

  -- it stays where it holds under either filter
  stays : (F G : Fact) → ((k : Key) (at : Place) (h : Head) (test : Expr) (body : Stmt) → Sound ds res (Foreach k at h test body) → F h.iterator test body ≡ true → (G h.iterator test body ≡ true) × (G h.iterator (Property h.iterator q at) body ≡ true)) →
      (s : Stmt) → Sound ds res s → each_passes (of F) s ≡ true → each_passes (of G) (each_loop (filtered_loop ds q) s) ≡ true
  stays F G loops = each-kept ds res (of F) (of G) (filtered_loop ds q) each-loop
    where
      each-loop : (k : Key) (at : Place) (h : Head) (test : Expr) (body : Stmt) → Sound ds res (Foreach k at h test body) → of F k at h test body ≡ true → each_passes (of G) (filtered_loop ds q k at h test body) ≡ true
      each-loop k at h test body sound e = by (saves_filter ds h.iterator test body)
        where
          by : (b : Bool) → each_passes (of G) (cond b (filter_saved q k at h test body) (Foreach k at h test body)) ≡ true
          by true =
              and-true (of G k at h (Property h.iterator q at) body) true
              (part-of (is_own_loop h.iterator body) (F h.iterator test body) (G h.iterator (Property h.iterator q at) body) (λ f. (loops k at h test body sound f).1) e) refl
          by false = part-of (is_own_loop h.iterator body) (F h.iterator test body) (G h.iterator test body) (λ f. (loops k at h test body sound f).0) e

  -- what a body declares is as it was
  declared-stays : (k : Key) (at : Place) (h : Head) (test : Expr) (body : Stmt) → Sound ds res (Foreach k at h test body) → declares_its_locals ds h.iterator body ≡ true →
      (declares_its_locals dt h.iterator body ≡ true) × (declares_its_locals dt h.iterator body ≡ true)
  declared-stays k at h test body sound f =
      let e = names-more q (λ its z. is_no_local ds its z || declares z body) (λ its z. is_no_local dt its z || declares z body) on (h.iterator ∷ []) body (names-below ds (Foreach k at h test body) sound.named).3 f in (e, e)
    where
      on : (its : List ℕ) (z : ℕ) → z < q → is_no_local ds its z || declares z body ≡ true → is_no_local dt its z || declares z body ≡ true
      on its z low e = ap (λ b. b || declares z body) (ap (λ d. is_in its z || not (nat_eq d 1)) (depth-same ds dt same more z low)) ∙ e

  even-stays : (k : Key) (at : Place) (h : Head) (test : Expr) (body : Stmt) → Sound ds res (Foreach k at h test body) → reduces_evenly ds body ≡ true → (reduces_evenly dt body ≡ true) × (reduces_evenly dt body ≡ true)
  even-stays k at h test body sound f =
      let e = evenly-longer 0 q 0 at V.Flag ds dt same more refl body (names-below ds (Foreach k at h test body) sound.named).3 f in (e, e)

  place-stays : (k : Key) (at : Place) (h : Head) (test : Expr) (body : Stmt) → Sound ds res (Foreach k at h test body) → nat_lt (depth_at ds h.iterator) 2 && inner_iterators_deep ds body ≡ true →
      (nat_lt (depth_at dt h.iterator) 2 && inner_iterators_deep dt body ≡ true) × (nat_lt (depth_at dt h.iterator) 2 && inner_iterators_deep dt body ≡ true)
  place-stays k at h test body sound f =
      let below = names-below ds (Foreach k at h test body) sound.named in
      let r = both-true (nat_lt (depth_at ds h.iterator) 2) (inner_iterators_deep ds body) f in
      let e = and-true (nat_lt (depth_at dt h.iterator) 2) (inner_iterators_deep dt body) (ap (λ d. nat_lt d 2) (depth-same ds dt same more h.iterator below.0) ∙ r.0) (deep-longer 0 q 0 at V.Flag ds dt same more refl body below.3 r.1) in
      (e, e)

-- facts of a program
pub declared-stay : (p : Program) → Ready2 p → has_declared_locals p ≡ true → has_declared_locals (with_saved_filters p) ≡ true
declared-stay p r f =
    stays p.declarations p.result (λ n test body. declares_its_locals p.declarations n body) (λ n test body. declares_its_locals (p.declarations ++ (flag_property ∷ [])) n body) (declared-stays p.declarations p.result) p.body (sound-of p r) f

pub checks-stay : (p : Program) → Ready2 p → has_no_checks p ≡ true → has_no_checks (with_saved_filters p) ≡ true
checks-stay p r f = stays p.declarations p.result (λ n test body. checks_nothing body) (λ n test body. checks_nothing body) (λ k at h test body s e. (e, e)) p.body (sound-of p r) f

pub tuples-stay : (p : Program) → Ready2 p → has_even_tuples p ≡ true → has_even_tuples (with_saved_filters p) ≡ true
tuples-stay p r f = stays p.declarations p.result (λ n test body. reduces_evenly p.declarations body) (λ n test body. reduces_evenly (p.declarations ++ (flag_property ∷ [])) body) (even-stays p.declarations p.result) p.body (sound-of p r) f

pub iterators-stay : (p : Program) → Ready2 p → has_iterators_in_place p ≡ true → has_iterators_in_place (with_saved_filters p) ≡ true
iterators-stay p r f =
    stays p.declarations p.result (λ n test body. nat_lt (depth_at p.declarations n) 2 && inner_iterators_deep p.declarations body)
    (λ n test body. nat_lt (depth_at (p.declarations ++ (flag_property ∷ [])) n) 2 && inner_iterators_deep (p.declarations ++ (flag_property ∷ [])) body) (place-stays p.declarations p.result) p.body (sound-of p r) f

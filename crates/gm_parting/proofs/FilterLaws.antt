-- A program whose loops save their filters means the same, is as ready as it was, and has filters that last.
use Rattle.std.proofs.Common.{◌≡◌, ◌≤◌, arith, ℕ, Bool, true, false, cond, List, [], ◌∷◌, ◌++◌, length, refl, sym, ap, subst, ◌∙◌}
use Rattle.std.specs.Prelude.{◌+◌, ◌&&◌, ◌||◌, not, nat_eq, nat_le, Option}
use Rattle.gm_value.specs.declared.values.VType.{VType}
use Rattle.std.specs.List.{list_all}
use Rattle.std.proofs.lemmas.Bool.{both_ways, eq-eqb, leb-true, le-leb}
use Rattle.gm_base.specs.declared.places.Place.{Place}
use Rattle.gm_value.specs.Bag.{IsIn}
use Rattle.gm_ast.specs.declared.tree.Declaration.{Declaration}
use Rattle.gm_ast.specs.declared.tree.Head.{Head}
use Rattle.gm_ast.specs.declared.tree.Key.{Key}
use Rattle.gm_ast.specs.Program.{Expr, Property, Stmt, Foreach, Program}
use Rattle.gm_ast.specs.Ways.{is_in}
use Rattle.gm_semantics.specs.Frames.{AlikeCourses, NamesBelow}
use Rattle.gm_semantics.specs.Statements.{sequential}
use Rattle.gm_forms.specs.Cut.{touched, is_own_loop}
use Rattle.gm_forms.specs.Extends.{run_of, start_of}
use Rattle.gm_forms.specs.Forms.{depth_at}
use Rattle.gm_forms.specs.Meanings.{SameMeaning}
use Rattle.gm_forms.specs.Ready.{Ready2}
use Rattle.gm_forms.specs.Sharing.{told_in}
use Rattle.gm_forms.specs.Uses.{suits, uses_in, uses_of_head, uses_of}
use Rattle.gm_forms.proofs.Named.{both-true, all-append, names-below}
use Rattle.gm_forms.proofs.Tables.{same-alike}
use Rattle.gm_forms.proofs.Weaker.{and-true}
use Rattle.gm_loop_laws.proofs.Kept.{touched-below}
use Rattle.gm_dissect.specs.AllDeferred.{deferred_of, is_empty, has_no_deferred}
use Rattle.gm_dissect.proofs.DeferredKept.{length-one}
use Rattle.gm_dissect.proofs.DeferredLaws.{variable-longer, known-phase, longer}
use Rattle.gm_dissect.proofs.Kept.{Sound, phase-kept}
use Rattle.gm_dissect.proofs.Phases.{phase-alike}
use Rattle.gm_cut.specs.Parts.{each_passes}
use Rattle.gm_cut.proofs.Roles.{touched-apart, iterates-of}
use Rattle.gm_parting.specs.Filters.{flag_property, saves_filter, filter_saved, filtered_loop, with_saved_filters}
use Rattle.gm_parting.specs.Lasting.{is_lasting, has_lasting_filters}
use Rattle.gm_parting.proofs.FilterKept.{filter-sound}
use Rattle.gm_parting.proofs.FilterLoops.{tried, tried-all, tried-alike}
use Rattle.gm_parting.proofs.Lasting.{lasts, lasting, not-in}
use Rattle.gm_parting.proofs.Loops.{Test, sound-of, each-kept, anything, each-anything, defers_nothing, deferred-each, told-below, outside-longer}

-- it means the same
pub same-saved : (p : Program) → Ready2 p → has_no_deferred p ≡ true → SameMeaning p (with_saved_filters p)
same-saved p r none =
    let ds = p.declarations in
    let known = known-phase p r in
    let q = with_saved_filters p in
    same-alike (length ds) p q (longer p (flag_property ∷ []) q r refl) (names-below ds p.body known.named)
    (λ g args bound fits.
    let run = run_of q g bound in
    subst (λ (s : Stmt). AlikeCourses (length ds) (sequential p.body run (start_of q g args)) (sequential s run (start_of q g args))) (sym (tried-all ds p.body known.named r.form r.sane.ordered none))
    (phase-alike ds run (tried ds) (tried-alike ds run fits.graph) p.body known (start_of q g args) (start_of q g args)
    (record { store = record { scalar = λ y b. refl; node = λ y n b. refl; edge = λ y n b. refl }; turns = refl })))

-- it is as ready as it was
pub ready-saved : (p : Program) → Ready2 p → Ready2 (with_saved_filters p)
ready-saved p r =
    let ds = p.declarations in
    let dt = ds ++ (flag_property ∷ []) in
    let one = length-one ds flag_property in
    let more : length ds ≤ length dt = omega (arith, one) in
    let m = both-true (nat_le (p.inputs + p.outputs) (length ds)) (list_all (suits ds) (uses_of p.body)) r.sane.named in
    let kept = phase-kept ds dt (λ y h. variable-longer ds (flag_property ∷ []) y h) more p.result (filtered_loop ds (length ds)) (filter-sound ds p.result) p.body (sound-of p r) in
    let within = leb-true (p.inputs + p.outputs) (length ds) m.0 in
    record {
      sane = record {
        named = and-true (nat_le (p.inputs + p.outputs) (length dt)) (list_all (suits dt) (uses_of (with_saved_filters p).body)) (le-leb (p.inputs + p.outputs) (length dt) (omega (arith, within, more))) kept.named;
        typed = kept.typed;
        ordered = kept.order;
        race_free = kept.share;
      };
      form = kept.form;
    }

-- what comes of a loop has a filter that lasts
module _ (ds : List Declaration) (res : Option VType) where
  abbrev dt : List Declaration
  dt = ds ++ (flag_property ∷ [])

  abbrev q : ℕ
  q = length ds

  abbrev lasting_filters : Test
  lasting_filters k at h test body = is_own_loop h.iterator body || is_lasting dt h.iterator (touched body) test

  more : length ds ≤ length dt
  more = let e = length-one ds flag_property in omega (arith, e)

  either : (o l : Bool) → not o && not l ≡ false → o || l ≡ true
  either true l h = refl
  either false true h = refl
  either false false h = absurd (both_ways true h refl)

  filter-lasts : (k : Key) (at : Place) (h : Head) (test : Expr) (body : Stmt) → Sound ds res (Foreach k at h test body) → each_passes lasting_filters (filtered_loop ds q k at h test body) ≡ true
  filter-lasts k at h test body sound = by (saves_filter ds h.iterator test body) refl
    where
      below : NamesBelow q (Foreach k at h test body)
      below = names-below ds (Foreach k at h test body) sound.named

      off : IsIn h.iterator (touched body) → ⊥
      off i =
          touched-apart ds h.iterator (iterates-of ds k at h test body sound.named) body
          (all-append (suits ds) (uses_in test) (uses_of body) (all-append (suits ds) (uses_of_head h) (uses_in test ++ uses_of body) sound.named).1).1 i

      new : IsIn q (touched body) → ⊥
      new i = let l = touched-below q body below.3 q i in omega (arith, l)

      saved : is_lasting dt h.iterator (touched body) (Property h.iterator q at) ≡ true
      saved =
          let n = h.iterator in
          let here : nat_eq n n || false ≡ true = ap (λ b. b || false) (eq-eqb n n refl) in
          lasting dt n (touched body) (Property n q at)
          (record { sure = refl; flat = here; spare = and-true (not (is_in (touched body) n)) (not (is_in (touched body) q)) (not-in (touched body) n off) (not-in (touched body) q new); plain = ap (λ b. (b || nat_eq (depth_at dt n) 0) && true) (eq-eqb n n refl) })

      stays : is_lasting ds h.iterator (touched body) test ≡ true → is_lasting dt h.iterator (touched body) test ≡ true
      stays e =
          let n = h.iterator in
          let l = lasts ds n (touched body) test e in
          lasting dt n (touched body) test
          (record { sure = l.sure; flat = l.flat; spare = l.spare; plain = outside-longer ds dt (λ y b. variable-longer ds (flag_property ∷ []) y b) more n (told_in test) (told-below q test below.2) l.plain })

      by : (b : Bool) → saves_filter ds h.iterator test body ≡ b → each_passes lasting_filters (cond b (filter_saved q k at h test body) (Foreach k at h test body)) ≡ true
      by true e = and-true (lasting_filters k at h (Property h.iterator q at) body) true (second (is_own_loop h.iterator body) (is_lasting dt h.iterator (touched body) (Property h.iterator q at)) saved) refl
        where
          second : (a b : Bool) → b ≡ true → a || b ≡ true
          second true b h = refl
          second false b h = h
      by false e = whole (is_own_loop h.iterator body) (is_lasting ds h.iterator (touched body) test) (either (is_own_loop h.iterator body) (is_lasting ds h.iterator (touched body) test) e) stays
        where
          whole : (o l : Bool) → o || l ≡ true → (l ≡ true → is_lasting dt h.iterator (touched body) test ≡ true) → o || is_lasting dt h.iterator (touched body) test ≡ true
          whole true l h f = refl
          whole false l h f = f h

  none-kept : (k : Key) (at : Place) (h : Head) (test : Expr) (body : Stmt) → Sound ds res (Foreach k at h test body) → is_empty (deferred_of body) ≡ true → each_passes defers_nothing (filtered_loop ds q k at h test body) ≡ true
  none-kept k at h test body sound e = by (saves_filter ds h.iterator test body)
    where
      by : (b : Bool) → each_passes defers_nothing (cond b (filter_saved q k at h test body) (Foreach k at h test body)) ≡ true
      by true = and-true (is_empty (deferred_of body)) true e refl
      by false = e

pub filters-saved : (p : Program) → Ready2 p → has_lasting_filters (with_saved_filters p) ≡ true
filters-saved p r =
    each-kept p.declarations p.result anything (lasting_filters p.declarations p.result) (filtered_loop p.declarations (length p.declarations)) (λ k at h test body s e. filter-lasts p.declarations p.result k at h test body s) p.body (sound-of p r) (each-anything p.body)

pub none-saved : (p : Program) → Ready2 p → has_no_deferred p ≡ true → has_no_deferred (with_saved_filters p) ≡ true
none-saved p r none =
    deferred-each (with_saved_filters p).body
    ∙ each-kept p.declarations p.result defers_nothing defers_nothing (filtered_loop p.declarations (length p.declarations)) (none-kept p.declarations p.result) p.body (sound-of p r) (sym (deferred-each p.body) ∙ none)

-- A program whose conditions are saved means the same, is as ready as it was, and asks variables before what is cut.
use Rattle.std.proofs.Common.{◌≡◌, ◌<◌, ◌≤◌, arith, ℕ, zero, suc, Bool, true, false, cond, List, [], ◌∷◌, ◌++◌, length, refl, sym, ap, subst, ◌∙◌, Option, Some, None, ⊎_elim, inl, inr, slice_get, map}
use Rattle.std.specs.Prelude.{◌+◌, ◌&&◌, ◌||◌, not, nat_eq, nat_lt, nat_le, option_map}
use Rattle.std.specs.List.{list_all}
use Rattle.std.proofs.lemmas.Bool.{both_ways, eq-eqb, leb-true, le-leb}
use Rattle.gm_base.specs.declared.places.Place.{Place}
use Rattle.gm_value.specs.Bag.{IsIn}
use Rattle.gm_ast.specs.declared.tree.Declaration.{Declaration}
use Rattle.gm_ast.specs.declared.tree.Key.{Key}
use Rattle.gm_ast.specs.Program.{Expr, Var, Stmt, Then, Foreach, For, If, While, Do, Program}
use Rattle.gm_semantics.specs.Statements.{variable_or, variable_at}
use Rattle.gm_forms.specs.Extends.{run_of, start_of}
use Rattle.gm_forms.specs.Meanings.{SameMeaning}
use Rattle.gm_forms.specs.Ready.{Ready2}
use Rattle.gm_forms.specs.Uses.{suits, uses_of}
use Rattle.gm_forms.proofs.Doings.{in-left, in-right}
use Rattle.gm_forms.proofs.Named.{both-true, names-below}
use Rattle.gm_forms.proofs.Tables.{same-alike}
use Rattle.gm_forms.proofs.Weaker.{and-true}
use Rattle.gm_dissect.specs.Conditions.{holds_cut, numbers_of, numbers_in, local_of, flag_local, flag_locals, saved_first, with_saved, saved_loop, with_saved_conditions, is_variable, asks_variables, asks_variables_in, has_saved_conditions}
use Rattle.gm_dissect.specs.Loops.{each_loop}
use Rattle.gm_dissect.proofs.DeferredLaws.{variable-longer, known-phase, longer}
use Rattle.gm_dissect.proofs.Kept.{Sound, phase-kept}
use Rattle.gm_dissect.proofs.Phases.{phase-alike}
use Rattle.gm_dissect.proofs.SavedKept.{loop-saved}
use Rattle.gm_dissect.proofs.SavedLoops.{or-false, saved-alike}

-- what stands behind a table
behind : (ds : List Declaration) (xs : List ℕ) (y : ℕ) → length ds ≤ y → y < length ds + length xs → slice_get (ds ++ flag_locals xs) y ≡ Some flag_local
behind [] [] y l h = absurd (omega (arith, h))
behind [] (x ∷ xs) zero l h = refl
behind [] (x ∷ xs) (suc y) l h = behind [] xs y (omega arith) (omega (arith, h))
behind (d ∷ ds) xs zero l h = absurd (omega (arith, l))
behind (d ∷ ds) xs (suc y) l h = behind ds xs y (omega (arith, l)) (omega (arith, h))

behind-length : (ds : List Declaration) (xs : List ℕ) → length (ds ++ flag_locals xs) ≡ length ds + length xs
behind-length [] [] = refl
behind-length [] (x ∷ xs) = let e = behind-length [] xs in omega (arith, e)
behind-length (d ∷ ds) xs = let e = behind-length ds xs in omega (arith, e)

-- the local of a statement is one of as many as there are numbers
local-range : (first : ℕ) (xs : List ℕ) (k : Key) (y : ℕ) → local_of first xs k ≡ Some y → (first ≤ y) × (y < first + length xs)
local-range first [] k y h = absurd (cc)
local-range first (x ∷ xs) k y h = by (nat_eq x k.statement) (local-range (suc first) xs k y) h
  where
    by : (b : Bool) → (local_of (suc first) xs k ≡ Some y → (suc first ≤ y) × (y < suc first + length xs)) → cond b (Some first) (local_of (suc first) xs k) ≡ Some y → (first ≤ y) × (y < first + suc (length xs))
    by true rest h = let same : first ≡ y = cc in (omega (arith, same), omega (arith, same))
    by false rest h = let r = rest h in let a = r.0 in let b = r.1 in (omega (arith, a), omega (arith, b))

-- a number that is listed has a local
local-found : (first : ℕ) (xs : List ℕ) (k : Key) → IsIn k.statement xs → local_of first xs k ≡ None → ⊥
local-found first [] k i h = absurd i
local-found first (x ∷ xs) k i h = by (nat_eq x k.statement) refl (local-found (suc first) xs k) h
  where
    by : (b : Bool) → nat_eq x k.statement ≡ b → (IsIn k.statement xs → local_of (suc first) xs k ≡ None → ⊥) → cond b (Some first) (local_of (suc first) xs k) ≡ None → ⊥
    by true e rest h = absurd (cc)
    by false e rest h = ⊎_elim (λ (s : k.statement ≡ x). both_ways (nat_eq x k.statement) e (eq-eqb x k.statement (sym s))) (λ j. rest j h) i

module _ (p : Program) where
  abbrev ds : List Declaration
  ds = p.declarations

  abbrev xs : List ℕ
  xs = numbers_in p.body

  abbrev dt : List Declaration
  dt = ds ++ flag_locals xs

  abbrev local : Key → Option ℕ
  local = local_of (length ds) xs

  more : length ds ≤ length dt
  more = let e = behind-length ds xs in omega (arith, e)

  same : (x : ℕ) → x < length ds → variable_at dt x ≡ variable_at ds x
  same x h = variable-longer ds (flag_locals xs) x h

  fresh : (k : Key) (y : ℕ) → local k ≡ Some y → (length ds ≤ y) × ((y < length dt) × (variable_at dt y ≡ flag_local.variable))
  fresh k y e =
      let r = local-range (length ds) xs k y e in
      let a = r.1 in
      let l = behind-length ds xs in
      (r.0, (omega (arith, a, l), ap (λ o. variable_or (option_map (λ (d : Declaration). d.variable) o)) (behind ds xs y r.0 r.1)))

-- the program means the same
pub same-saved : (p : Program) → Ready2 p → SameMeaning p (with_saved_conditions p)
same-saved p r =
    let known = known-phase p r in
    let q = with_saved_conditions p in
    same-alike (length p.declarations) p q (longer p (flag_locals (numbers_in p.body)) q r refl) (names-below p.declarations p.body known.named)
    (λ g args bound fits.
    let run = run_of q g bound in
    phase-alike p.declarations run (saved_loop (local p)) (saved-alike p.declarations run (local p) (λ k y e. (fresh p k y e).0)) p.body known (start_of q g args) (start_of q g args)
    (record { store = record { scalar = λ y b. refl; node = λ y n b. refl; edge = λ y n b. refl }; turns = refl }))

-- it is as ready as it was
pub ready-saved : (p : Program) → Ready2 p → Ready2 (with_saved_conditions p)
ready-saved p r =
    let ds = p.declarations in
    let m = both-true (nat_le (p.inputs + p.outputs) (length ds)) (list_all (suits ds) (uses_of p.body)) r.sane.named in
    let sound : Sound ds p.result p.body = record { named = m.1; typed = r.sane.typed; order = r.sane.ordered; share = r.sane.race_free; form = r.form } in
    let q = with_saved_conditions p in
    let kept = phase-kept ds (dt p) (same p) (more p) p.result (saved_loop (local p)) (λ key at h test body s. loop-saved ds (dt p) (same p) (more p) (local p) at (fresh p) p.result key at h test body s) p.body sound in
    let within = leb-true (p.inputs + p.outputs) (length ds) m.0 in
    let size = more p in
    record {
      sane = record {
        named = and-true (nat_le (p.inputs + p.outputs) (length q.declarations)) (list_all (suits q.declarations) (uses_of q.body)) (le-leb (p.inputs + p.outputs) (length q.declarations) (omega (arith, within, size))) kept.named;
        typed = kept.typed;
        ordered = kept.order;
        race_free = kept.share;
      };
      form = kept.form;
    }

-- its conditions are variables where something is cut
module _ (local : Key → Option ℕ) (at : Place) (n : ℕ) where
  abbrev sv : Stmt → Stmt
  sv s = with_saved local at s

  holds-if : (k : Key) (c : Expr) (a b : Stmt) → holds_cut n (sv a) || holds_cut n (sv b) ≡ holds_cut n a || holds_cut n b → holds_cut n (sv (If k c a b)) ≡ holds_cut n (If k c a b)
  holds-if k c a b inside = by (local k)
    where
      by : (o : Option ℕ) → holds_cut n (saved_first o at k c (sv a) (sv b)) ≡ holds_cut n a || holds_cut n b
      by None = inside
      by (Some y) = or-false (holds_cut n (sv a) || holds_cut n (sv b)) ∙ inside

  holds-saved : (s : Stmt) → holds_cut n (sv s) ≡ holds_cut n s
  holds-saved (Then a b) = ap (λ x. x || holds_cut n (sv b)) (holds-saved a) ∙ ap (λ x. holds_cut n a || x) (holds-saved b)
  holds-saved (If k c a b) = holds-if k c a b (ap (λ x. x || holds_cut n (sv b)) (holds-saved a) ∙ ap (λ x. holds_cut n a || x) (holds-saved b))
  holds-saved s = refl

  or-true : (x : Bool) → x || true ≡ true
  or-true true = refl
  or-true false = refl

  abbrev Listed : Stmt → Type 0
  Listed s = (k : Key) → IsIn k.statement (numbers_of n s) → local k ≡ None → ⊥

  asks-if : (k : Key) (c : Expr) (a b : Stmt) → Listed (If k c a b) → asks_variables n (sv a) && asks_variables n (sv b) ≡ true → asks_variables n (sv (If k c a b)) ≡ true
  asks-if k c a b all branches = by (local k) refl (holds_cut n a || holds_cut n b) refl
    where
      here : List ℕ
      here = cond (holds_cut n a || holds_cut n b) (k.statement ∷ []) []

      asked : holds_cut n (sv a) || holds_cut n (sv b) ≡ holds_cut n a || holds_cut n b
      asked = ap (λ x. x || holds_cut n (sv b)) (holds-saved a) ∙ ap (λ x. holds_cut n a || x) (holds-saved b)

      by : (o : Option ℕ) → local k ≡ o → (h : Bool) → holds_cut n a || holds_cut n b ≡ h → asks_variables n (saved_first o at k c (sv a) (sv b)) ≡ true
      by (Some y) e h f =
          let whole = not (holds_cut n (sv a) || holds_cut n (sv b)) || true in
          let both = asks_variables n (sv a) && asks_variables n (sv b) in
          and-true (whole && both) true (and-true whole both (or-true (not (holds_cut n (sv a) || holds_cut n (sv b)))) branches) refl
      by None e true f = absurd (all k (in-left k.statement here (numbers_of n a ++ numbers_of n b) (subst (λ x. IsIn k.statement (cond x (k.statement ∷ []) [])) (sym f) (inl refl))) e)
      by None e false f = and-true (not (holds_cut n (sv a) || holds_cut n (sv b)) || is_variable c) (asks_variables n (sv a) && asks_variables n (sv b)) (ap (λ x. not x || is_variable c) (asked ∙ f)) branches

  -- where each number that the body lists has a local
  asks-saved : (s : Stmt) → Listed s → asks_variables n (sv s) ≡ true
  asks-saved (Then a b) all =
      and-true (asks_variables n (sv a)) (asks_variables n (sv b)) (asks-saved a (λ k i. all k (in-left k.statement (numbers_of n a) (numbers_of n b) i)))
      (asks-saved b (λ k i. all k (in-right k.statement (numbers_of n a) (numbers_of n b) i)))
  asks-saved (If k c a b) all =
      let here = cond (holds_cut n a || holds_cut n b) (k.statement ∷ []) [] in
      asks-if k c a b all (and-true (asks_variables n (sv a)) (asks_variables n (sv b))
      (asks-saved a (λ j i. all j (in-right j.statement here (numbers_of n a ++ numbers_of n b) (in-left j.statement (numbers_of n a) (numbers_of n b) i))))
      (asks-saved b (λ j i. all j (in-right j.statement here (numbers_of n a ++ numbers_of n b) (in-right j.statement (numbers_of n a) (numbers_of n b) i)))))
  asks-saved s all = refl

module _ (local : Key → Option ℕ) where
  phase-asks : (s : Stmt) → ((k : Key) → IsIn k.statement (numbers_in s) → (local k ≡ None → ⊥)) → asks_variables_in (each_loop (saved_loop local) s) ≡ true
  phase-asks (Then a b) all =
      and-true (asks_variables_in (each_loop (saved_loop local) a)) (asks_variables_in (each_loop (saved_loop local) b)) (phase-asks a (λ k i. all k (in-left k.statement (numbers_in a) (numbers_in b) i)))
      (phase-asks b (λ k i. all k (in-right k.statement (numbers_in a) (numbers_in b) i)))
  phase-asks (Foreach k at h test body) all = asks-saved local at h.iterator body all
  phase-asks (For k at h test body) all = phase-asks body all
  phase-asks (If k c a b) all =
      and-true (asks_variables_in (each_loop (saved_loop local) a)) (asks_variables_in (each_loop (saved_loop local) b)) (phase-asks a (λ k i. all k (in-left k.statement (numbers_in a) (numbers_in b) i)))
      (phase-asks b (λ k i. all k (in-right k.statement (numbers_in a) (numbers_in b) i)))
  phase-asks (While k at c body) all = phase-asks body all
  phase-asks (Do k at body c) all = phase-asks body all
  phase-asks s all = refl

pub saved-conditions : (p : Program) → has_saved_conditions (with_saved_conditions p) ≡ true
saved-conditions p = phase-asks (local p) p.body (λ k i. local-found (length p.declarations) (numbers_in p.body) k i)

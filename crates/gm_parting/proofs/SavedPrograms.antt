-- A program whose conditions are saved has conditions that may be repeated, and all that it had.
use Rattle.std.proofs.Common.{◌≡◌, ◌<◌, ◌≤◌, arith, ℕ, zero, suc, Bool, true, false, cond, List, [], ◌∷◌, ◌++◌, length, refl, sym, ap, subst, ◌∙◌, Option, Some, None, ⊎_elim, inl, inr, slice_get}
use Rattle.std.specs.Prelude.{◌+◌, ◌⊎◌, ◌&&◌, ◌||◌, not, nat_eq, nat_lt, option_map}
use Rattle.std.specs.List.{list_all}
use Rattle.std.proofs.lemmas.Bool.{both_ways, eq-eqb, eqb-true}
use Rattle.gm_base.specs.declared.places.Place.{Place}
use Rattle.gm_value.specs.Bag.{IsIn}
use Rattle.gm_value.specs.declared.values.VType.{VType}
use Rattle.gm_value.specs.declared.values.VType.TheVariants as V
use Rattle.gm_ast.specs.declared.tree.Declaration.{Declaration}
use Rattle.gm_ast.specs.declared.tree.Head.{Head}
use Rattle.gm_ast.specs.declared.tree.Key.{Key}
use Rattle.gm_ast.specs.declared.tree.Sort.TheVariants as Sorts
use Rattle.gm_ast.specs.declared.tree.Variable.{Variable}
use Rattle.gm_ast.specs.Loops.{is_nodes}
use Rattle.gm_ast.specs.Names.{sort_eq}
use Rattle.gm_ast.specs.Program.{Expr, Const, Var, Property, EdgeProperty, Degree, NodeCount, EdgeCount, Live, Unary, Binary, Both, Either, Choose, Folded, Stmt, Then, Foreach, For, If, While, Do, Program}
use Rattle.gm_ast.specs.Ways.{is_in}
use Rattle.gm_semantics.specs.Frames.{ReadsBelow, NamesBelow}
use Rattle.gm_semantics.specs.Statements.{variable_or, variable_at}
use Rattle.gm_forms.specs.Cut.{is_no_local, is_own_loop, touched}
use Rattle.gm_forms.specs.Forms.{depth_at, is_flat, is_flat_loop, is_outer_body}
use Rattle.gm_forms.specs.Ready.{Ready2}
use Rattle.gm_forms.specs.Sharing.{told_in}
use Rattle.gm_forms.specs.Uses.{suits, uses_in, uses_of_head, uses_of}
use Rattle.gm_forms.proofs.CutTests.{found, finds}
use Rattle.gm_forms.proofs.Doings.{in-left, in-right}
use Rattle.gm_forms.proofs.Named.{both-true, all-append, names-below}
use Rattle.gm_forms.proofs.Weaker.{and-true}
use Rattle.gm_loop_laws.specs.Localised.{names_plainly, may_move}
use Rattle.gm_loop_laws.specs.Masks.{spares}
use Rattle.gm_dissect.specs.AllDeferred.{has_no_deferred}
use Rattle.gm_dissect.specs.Conditions.{numbers_of, numbers_in, local_of, flag_local, flag_locals, with_saved, saved_loop, with_saved_conditions}
use Rattle.gm_dissect.specs.Locals.{declares, with_kept_locals}
use Rattle.gm_dissect.proofs.DeferredLaws.{variable-longer}
use Rattle.gm_dissect.proofs.DeferredLoops.{either-true}
use Rattle.gm_dissect.proofs.Kept.{Sound}
use Rattle.gm_dissect.proofs.Longer.{depth-same}
use Rattle.gm_dissect.proofs.SavedConditions.{ready-saved}
use Rattle.gm_cut.specs.Parts.{each_passes}
use Rattle.gm_cut.proofs.Roles.{touched-apart, iterates-of}
use Rattle.gm_parting.specs.InnerLoops.{inner_iterators_deep, has_iterators_in_place}
use Rattle.gm_parting.specs.Lasting.{is_lasting, ifs_are_numbered, conditions_repeat, has_lasting_filters, has_repeatable_conditions, has_numbered_ifs}
use Rattle.gm_parting.specs.Locals.{may_be_kept, locals_may_go, has_movable_locals, declares_its_locals, checks_nothing}
use Rattle.gm_parting.specs.Prepared.{IsPrepared}
use Rattle.gm_parting.specs.Tuples.{reduces_evenly, has_even_tuples}
use Rattle.gm_parting.proofs.Lasting.{lasts, lasting, not-in, out-of}
use Rattle.gm_parting.proofs.Loops.{Test, sound-of, each-kept, both, each-both, each-so, defers_nothing, deferred-each, told-below, outside-longer}
use Rattle.gm_parting.proofs.MovedNames.{evenly-longer, deep-longer}
use Rattle.gm_parting.proofs.MovedPrograms.{Facts, Known, bundle, bundled, facts-of, of-facts, part-of, either-way, known-prepared}
use Rattle.gm_parting.proofs.SavedNames.{plain-fresh, outer-fresh, may-still, declared-still, names-still}
use Rattle.gm_parting.proofs.SavedParts.{New, own-saved, deep-saved, even-saved, none-saved, checks-saved, touched-saved, repeat-saved}

-- ---- the locals of conditions

behind : (ds : List Declaration) (xs : List ℕ) (y : ℕ) → length ds ≤ y → y < length ds + length xs → slice_get (ds ++ flag_locals xs) y ≡ Some flag_local
behind [] [] y l h = absurd (omega (arith, h))
behind [] (x ∷ xs) zero l h = refl
behind [] (x ∷ xs) (suc y) l h = behind [] xs y (omega arith) (omega (arith, h))
behind (d ∷ ds) xs zero l h = absurd (omega (arith, l))
behind (d ∷ ds) xs (suc y) l h = behind ds xs y (omega (arith, l)) (omega (arith, h))

behind-length : (ds : List Declaration) (xs : List ℕ) → length (ds ++ flag_locals xs) ≡ length ds + length xs
behind-length [] [] = refl
behind-length [] (x ∷ xs) = let e = behind-length [] xs in omega (arith, e)
behind-length (d ∷ ds) xs = let e = behind-length ds xs in omega (arith, e)

local-range : (first : ℕ) (xs : List ℕ) (k : Key) (y : ℕ) → local_of first xs k ≡ Some y → (first ≤ y) × (y < first + length xs)
local-range first [] k y h = absurd (cc)
local-range first (x ∷ xs) k y h = by (nat_eq x k.statement) (local-range (suc first) xs k y) h
  where
    by : (b : Bool) → (local_of (suc first) xs k ≡ Some y → (suc first ≤ y) × (y < suc first + length xs)) → cond b (Some first) (local_of (suc first) xs k) ≡ Some y → (first ≤ y) × (y < first + suc (length xs))
    by true rest h = let same : first ≡ y = cc in (omega (arith, same), omega (arith, same))
    by false rest h = let r = rest h in let a = r.0 in let b = r.1 in (omega (arith, a), omega (arith, b))

pub local-found : (first : ℕ) (xs : List ℕ) (k : Key) → IsIn k.statement xs → local_of first xs k ≡ None → ⊥
local-found first [] k i h = absurd i
local-found first (x ∷ xs) k i h = by (nat_eq x k.statement) refl (local-found (suc first) xs k) h
  where
    by : (b : Bool) → nat_eq x k.statement ≡ b → (IsIn k.statement xs → local_of (suc first) xs k ≡ None → ⊥) → cond b (Some first) (local_of (suc first) xs k) ≡ None → ⊥
    by true e rest h = absurd (cc)
    by false e rest h = ⊎_elim (λ (s : k.statement ≡ x). both_ways (nat_eq x k.statement) e (eq-eqb x k.statement (sym s))) (λ j. rest j h) i

-- statements with one local have one number
local-one : (first : ℕ) (xs : List ℕ) (k j : Key) (y : ℕ) → local_of first xs k ≡ Some y → local_of first xs j ≡ Some y → j.statement ≡ k.statement
local-one first [] k j y h g = absurd (cc)
local-one first (x ∷ xs) k j y h g = by (nat_eq x k.statement) (nat_eq x j.statement) refl refl h g (local-one (suc first) xs k j y)
  where
    later : (i : Key) → local_of (suc first) xs i ≡ Some y → first ≡ y → ⊥
    later i h e = let r = local-range (suc first) xs i y h in let a = r.0 in omega (arith, a, e)

    by : (b c : Bool) → nat_eq x k.statement ≡ b → nat_eq x j.statement ≡ c → cond b (Some first) (local_of (suc first) xs k) ≡ Some y → cond c (Some first) (local_of (suc first) xs j) ≡ Some y →
        (local_of (suc first) xs k ≡ Some y → local_of (suc first) xs j ≡ Some y → j.statement ≡ k.statement) → j.statement ≡ k.statement
    by true true e f h g rest = sym (eqb-true x j.statement f) ∙ eqb-true x k.statement e
    by true false e f h g rest = let same : first ≡ y = cc in absurd (later j g same)
    by false true e f h g rest = let same : first ≡ y = cc in absurd (later k h same)
    by false false e f h g rest = rest h g

-- what reads none of some variables reads none of fresh ones either
pub spares-apart : (q : ℕ) (xs ys : List ℕ) → ((y : ℕ) → IsIn y ys → IsIn y xs ⊎ (q ≤ y)) → (e : Expr) → ReadsBelow q e → spares xs e ≡ true → spares ys e ≡ true
spares-apart q xs ys now e below h = by e below h
  where
    one : (z : ℕ) → z < q → not (is_in xs z) ≡ true → not (is_in ys z) ≡ true
    one z l h = not-in ys z (λ i. ⊎_elim (λ j. out-of xs z h j) (λ (g : q ≤ z). omega (arith, g, l)) (now z i))

    by : (e : Expr) → ReadsBelow q e → spares xs e ≡ true → spares ys e ≡ true
    by (Const v) b h = refl
    by (Var z at) b h = one z b h
    by (Property z p at) b h = let r = both-true (not (is_in xs z)) (not (is_in xs p)) h in and-true (not (is_in ys z)) (not (is_in ys p)) (one z b.0 r.0) (one p b.1 r.1)
    by (EdgeProperty z p at) b h = refl
    by (Degree d z at) b h = one z b h
    by NodeCount b h = refl
    by EdgeCount b h = refl
    by (Live z at) b h = one z b h
    by (Unary op at e) b h = by e b h
    by (Binary op at c d) b h = let r = both-true (spares xs c) (spares xs d) h in and-true (spares ys c) (spares ys d) (by c b.0 r.0) (by d b.1 r.1)
    by (Both c d) b h = let r = both-true (spares xs c) (spares xs d) h in and-true (spares ys c) (spares ys d) (by c b.0 r.0) (by d b.1 r.1)
    by (Either c d) b h = let r = both-true (spares xs c) (spares xs d) h in and-true (spares ys c) (spares ys d) (by c b.0 r.0) (by d b.1 r.1)
    by (Choose f c d) b h =
        let r = both-true (spares xs f) (spares xs c && spares xs d) h in
        let s = both-true (spares xs c) (spares xs d) r.1 in
        and-true (spares ys f) (spares ys c && spares ys d) (by f b.0 r.0) (and-true (spares ys c) (spares ys d) (by c b.1 s.0) (by d b.2 s.1))
    by (Folded f hd test e) b h = absurd (both_ways false refl h)

-- what is kept of a loop whose locals are declared in it
abbrev pub keeps : List Declaration → ℕ → Expr → Stmt → Bool
keeps ds n test body = is_lasting ds n (touched body) test && (declares_its_locals ds n body && (checks_nothing body && (reduces_evenly ds body && (nat_lt (depth_at ds n) 2 && inner_iterators_deep ds body))))

-- what is known of a loop before
record Before (ds : List Declaration) (n : ℕ) (test : Expr) (body : Stmt) : Type 0 where
  filter : is_lasting ds n (touched body) test ≡ true
  numbered : ifs_are_numbered n body ≡ true
  locals : locals_may_go ds n test body ≡ true
  even : reduces_evenly ds body ≡ true
  outer : nat_lt (depth_at ds n) 2 ≡ true
  deep : inner_iterators_deep ds body ≡ true

-- ds: the table; res: the result's type; xs: the numbers of the statements whose conditions are saved
module _ (ds : List Declaration) (res : Option VType) (xs : List ℕ) where
  abbrev pub dt : List Declaration
  dt = ds ++ flag_locals xs

  abbrev q : ℕ
  q = length ds

  abbrev pub local : Key → Option ℕ
  local = local_of (length ds) xs

  more : length ds ≤ length dt
  more = let e = behind-length ds xs in omega (arith, e)

  same : (x : ℕ) → x < length ds → variable_at dt x ≡ variable_at ds x
  same x h = variable-longer ds (flag_locals xs) x h

  beyond : (k : Key) (y : ℕ) → local k ≡ Some y → q ≤ y
  beyond k y e = (local-range (length ds) xs k y e).0

  is-flag : (k : Key) (y : ℕ) → local k ≡ Some y → variable_at dt y ≡ flag_local.variable
  is-flag k y e = let r = local-range (length ds) xs k y e in ap (λ o. variable_or (option_map (λ (d : Declaration). d.variable) o)) (behind ds xs y r.0 r.1)

  module _ (k : Key) (at : Place) (hd : Head) (test : Expr) (body : Stmt) (sound : Sound ds res (Foreach k at hd test body)) where
    abbrev n : ℕ
    n = hd.iterator

    abbrev sv : Stmt → Stmt
    sv s = with_saved local at s

    below : NamesBelow q (Foreach k at hd test body)
    below = names-below ds (Foreach k at hd test body) sound.named

    named : list_all (suits ds) (uses_of body) ≡ true
    named = (all-append (suits ds) (uses_in test) (uses_of body) (all-append (suits ds) (uses_of_head hd) (uses_in test ++ uses_of body) sound.named).1).1

    form : (is_flat (n ∷ []) false test ≡ true) × (is_outer_body ds false n body ≡ true)
    form = both-true (is_flat (n ∷ []) false test) (is_outer_body ds false n body) (both-true (is_nodes hd.domain) (is_flat_loop ds false n test body) sound.form).1

    off : IsIn n (touched body) → ⊥
    off i = touched-apart ds n (iterates-of ds k at hd test body sound.named) body named i

    saved-facts : ((j : Key) → IsIn j.statement (numbers_of n body) → local j ≡ None → ⊥) → Before ds n test body → Facts dt n test (sv body)
    saved-facts listed f =
        let l = lasts ds n (touched body) test f.filter in
        record {
          filter = lasting dt n (touched (sv body)) test (record {
            sure = l.sure;
            flat = l.flat;
            spare = spares-apart q (touched body) (touched (sv body)) (λ y i. ⊎_elim (λ j. inl j) (λ (r : New local at body y). inr (beyond r.key y r.is)) (touched-saved local at body y i)) test below.2 l.spare;
            plain = outside-longer ds dt same more n (told_in test) (told-below q test below.2) l.plain;
          });
          conditions = repeat-saved local at dt n q beyond (λ j y e. ap (λ (v : Variable). nat_lt v.depth 2) (is-flag j y e)) (λ i j y. local-one (length ds) xs i j y) body listed below.3 f.numbered;
          locals = names-still local at n q beyond below.0 (λ its z. is_no_local ds its z || may_be_kept ds n test body z) (λ its z. is_no_local dt its z || may_be_kept dt n test (sv body) z) (λ z. declares z (sv body) ≡ true) other flag (n ∷ []) body below.3 (λ z e. e) f.locals;
          even = even-saved local at dt body ∙ evenly-longer 0 q n at V.Flag ds dt same more refl body below.3 f.even;
          outer = ap (λ d. nat_lt d 2) (depth-same ds dt same more n below.0) ∙ f.outer;
          deep = deep-saved local at dt body ∙ deep-longer 0 q n at V.Flag ds dt same more refl body below.3 f.deep;
        }
      where
        second : (a b : Bool) → b ≡ true → a || b ≡ true
        second true b h = refl
        second false b h = h

        other : (its : List ℕ) (z : ℕ) → z < q → is_no_local ds its z || may_be_kept ds n test body z ≡ true → is_no_local dt its z || may_be_kept dt n test (sv body) z ≡ true
        other its z low h =
            ⊎_elim (λ (g : is_no_local ds its z ≡ true). ap (λ b. b || may_be_kept dt n test (sv body) z) (ap (λ d. is_in its z || not (nat_eq d 1)) (depth-same ds dt same more z low) ∙ g))
            (λ (g : may_be_kept ds n test body z ≡ true).
            let a = both-true (sort_eq Sorts.Scalar (variable_at ds z).sort) (declares z body && (names_plainly z test && may_move z n body)) g in
            let b = both-true (declares z body) (names_plainly z test && may_move z n body) a.1 in
            let c = both-true (names_plainly z test) (may_move z n body) b.1 in
            second (is_no_local dt its z) (may_be_kept dt n test (sv body) z)
            (and-true (sort_eq Sorts.Scalar (variable_at dt z).sort) (declares z (sv body) && (names_plainly z test && may_move z n (sv body))) (ap (λ (v : Variable). sort_eq Sorts.Scalar v.sort) (same z low) ∙ a.0)
            (and-true (declares z (sv body)) (names_plainly z test && may_move z n (sv body)) (declared-still local at n q beyond below.0 z body b.0)
            (and-true (names_plainly z test) (may_move z n (sv body)) c.0 (may-still local at n q beyond below.0 z body c.1)))))
            (either-true (is_no_local ds its z) (may_be_kept ds n test body z) h)

        flag : (its : List ℕ) (j : Key) (z : ℕ) → local j ≡ Some z → declares z (sv body) ≡ true → is_no_local dt its z || may_be_kept dt n test (sv body) z ≡ true
        flag its j z e d =
            let high = beyond j z e in
            second (is_no_local dt its z) (may_be_kept dt n test (sv body) z)
            (and-true (sort_eq Sorts.Scalar (variable_at dt z).sort) (declares z (sv body) && (names_plainly z test && may_move z n (sv body))) (ap (λ (v : Variable). sort_eq Sorts.Scalar v.sort) (is-flag j z e))
            (and-true (declares z (sv body)) (names_plainly z test && may_move z n (sv body)) d
            (and-true (names_plainly z test) (may_move z n (sv body)) (plain-fresh q z high (n ∷ []) false test form.0 below.2) (outer-fresh q z high ds n local at beyond below.0 body form.1 below.3 off))))

    pub repeats-saved : ((j : Key) → IsIn j.statement (numbers_of n body) → local j ≡ None → ⊥) → ifs_are_numbered n body ≡ true → conditions_repeat dt n (sv body) ≡ true
    repeats-saved listed numbered = repeat-saved local at dt n q beyond (λ j y e. ap (λ (v : Variable). nat_lt v.depth 2) (is-flag j y e)) (λ i j y. local-one (length ds) xs i j y) body listed below.3 numbered

    -- where its locals are declared in it
    pub keeps-saved : keeps ds n test body ≡ true → keeps dt n test (sv body) ≡ true
    keeps-saved f =
        let place = nat_lt (depth_at ds n) 2 && inner_iterators_deep ds body in
        let r1 = both-true (is_lasting ds n (touched body) test) (declares_its_locals ds n body && (checks_nothing body && (reduces_evenly ds body && place))) f in
        let r2 = both-true (declares_its_locals ds n body) (checks_nothing body && (reduces_evenly ds body && place)) r1.1 in
        let r3 = both-true (checks_nothing body) (reduces_evenly ds body && place) r2.1 in
        let r4 = both-true (reduces_evenly ds body) place r3.1 in
        let r5 = both-true (nat_lt (depth_at ds n) 2) (inner_iterators_deep ds body) r4.1 in
        let l = lasts ds n (touched body) test r1.0 in
        let place' = nat_lt (depth_at dt n) 2 && inner_iterators_deep dt (sv body) in
        and-true (is_lasting dt n (touched (sv body)) test) (declares_its_locals dt n (sv body) && (checks_nothing (sv body) && (reduces_evenly dt (sv body) && place')))
        (lasting dt n (touched (sv body)) test (record {
          sure = l.sure;
          flat = l.flat;
          spare = spares-apart q (touched body) (touched (sv body)) (λ y i. ⊎_elim (λ j. inl j) (λ (r : New local at body y). inr (beyond r.key y r.is)) (touched-saved local at body y i)) test below.2 l.spare;
          plain = outside-longer ds dt same more n (told_in test) (told-below q test below.2) l.plain;
        }))
        (and-true (declares_its_locals dt n (sv body)) (checks_nothing (sv body) && (reduces_evenly dt (sv body) && place'))
        (names-still local at n q beyond below.0 (λ its z. is_no_local ds its z || declares z body) (λ its z. is_no_local dt its z || declares z (sv body)) (λ z. declares z (sv body) ≡ true) known flag (n ∷ []) body below.3 (λ z e. e) r2.0)
        (and-true (checks_nothing (sv body)) (reduces_evenly dt (sv body) && place') (checks-saved local at body r3.0)
        (and-true (reduces_evenly dt (sv body)) place' (even-saved local at dt body ∙ evenly-longer 0 q n at V.Flag ds dt same more refl body below.3 r4.0)
        (and-true (nat_lt (depth_at dt n) 2) (inner_iterators_deep dt (sv body)) (ap (λ d. nat_lt d 2) (depth-same ds dt same more n below.0) ∙ r5.0)
        (deep-saved local at dt body ∙ deep-longer 0 q n at V.Flag ds dt same more refl body below.3 r5.1)))))
      where
        second : (a b : Bool) → b ≡ true → a || b ≡ true
        second true b h = refl
        second false b h = h

        known : (its : List ℕ) (z : ℕ) → z < q → is_no_local ds its z || declares z body ≡ true → is_no_local dt its z || declares z (sv body) ≡ true
        known its z low h =
            ⊎_elim (λ (g : is_no_local ds its z ≡ true). ap (λ b. b || declares z (sv body)) (ap (λ d. is_in its z || not (nat_eq d 1)) (depth-same ds dt same more z low) ∙ g))
            (λ (g : declares z body ≡ true). second (is_no_local dt its z) (declares z (sv body)) (declared-still local at n q beyond below.0 z body g)) (either-true (is_no_local ds its z) (declares z body) h)

        flag : (its : List ℕ) (j : Key) (z : ℕ) → local j ≡ Some z → declares z (sv body) ≡ true → is_no_local dt its z || declares z (sv body) ≡ true
        flag its j z e d = second (is_no_local dt its z) (declares z (sv body)) d

-- the statements whose conditions are saved are listed
abbrev pub listed : List ℕ → Test
listed xs k at h test body = list_all (is_in xs) (numbers_of h.iterator body)

all-in : (ys xs : List ℕ) → ((y : ℕ) → IsIn y ys → IsIn y xs) → list_all (is_in xs) ys ≡ true
all-in [] xs u = refl
all-in (y ∷ ys) xs u = and-true (is_in xs y) (list_all (is_in xs) ys) (finds xs y (u y (inl refl))) (all-in ys xs (λ z i. u z (inr i)))

pub in-all : (ys xs : List ℕ) → list_all (is_in xs) ys ≡ true → (y : ℕ) → IsIn y ys → IsIn y xs
in-all [] xs h y i = absurd i
in-all (z ∷ ys) xs h y i = let r = both-true (is_in xs z) (list_all (is_in xs) ys) h in ⊎_elim (λ (e : y ≡ z). subst (λ w. IsIn w xs) (sym e) (found xs z r.0)) (λ j. in-all ys xs r.1 y j) i

pub each-listed : (xs : List ℕ) (s : Stmt) → ((y : ℕ) → IsIn y (numbers_in s) → IsIn y xs) → each_passes (listed xs) s ≡ true
each-listed xs (Then a b) u =
    and-true (each_passes (listed xs) a) (each_passes (listed xs) b) (each-listed xs a (λ y i. u y (in-left y (numbers_in a) (numbers_in b) i))) (each-listed xs b (λ y i. u y (in-right y (numbers_in a) (numbers_in b) i)))
each-listed xs (Foreach k at hd test body) u = all-in (numbers_of hd.iterator body) xs u
each-listed xs (For k at hd test body) u = each-listed xs body u
each-listed xs (If k c a b) u =
    and-true (each_passes (listed xs) a) (each_passes (listed xs) b) (each-listed xs a (λ y i. u y (in-left y (numbers_in a) (numbers_in b) i))) (each-listed xs b (λ y i. u y (in-right y (numbers_in a) (numbers_in b) i)))
each-listed xs (While k at c body) u = each-listed xs body u
each-listed xs (Do k at body c) u = each-listed xs body u
each-listed xs s u = refl

-- ---- programs

saved-known : (p : Program) → Ready2 p → has_no_deferred p ≡ true → has_lasting_filters p ≡ true → has_numbered_ifs p ≡ true → has_movable_locals p ≡ true → has_even_tuples p ≡ true → has_iterators_in_place p ≡ true →
    Known (with_saved_conditions p)
saved-known p r none f1 f2 f3 f5 f6 =
    let ds = p.declarations in
    let xs = numbers_in p.body in
    let s = sound-of p r in
    let A : Test = λ k at h test body. is_own_loop h.iterator body || is_lasting ds h.iterator (touched body) test in
    let B : Test = λ k at h test body. is_own_loop h.iterator body || ifs_are_numbered h.iterator body in
    let C : Test = λ k at h test body. is_own_loop h.iterator body || locals_may_go ds h.iterator test body in
    let E : Test = λ k at h test body. is_own_loop h.iterator body || reduces_evenly ds body in
    let F : Test = λ k at h test body. is_own_loop h.iterator body || (nat_lt (depth_at ds h.iterator) 2 && inner_iterators_deep ds body) in
    record {
      ready = ready-saved p r;
      none = each-kept ds p.result defers_nothing defers_nothing (saved_loop (local ds p.result xs)) (λ k at h test body w e. none-saved (local ds p.result xs) at body ∙ e) p.body s (sym (deferred-each p.body) ∙ none);
      facts = each-kept ds p.result (both (listed xs) (both A (both B (both C (both E F))))) (bundled (dt ds p.result xs)) (saved_loop (local ds p.result xs))
          (λ k at h test body w e.
          let n = h.iterator in
          let a = both-true (list_all (is_in xs) (numbers_of n body)) (both A (both B (both C (both E F))) k at h test body) e in
          loop k at h test body w (in-all (numbers_of n body) xs a.0) a.1)
          p.body s (each-both (listed xs) (both A (both B (both C (both E F)))) p.body (each-listed xs p.body (λ y i. i))
          (each-both A (both B (both C (both E F))) p.body f1 (each-both B (both C (both E F)) p.body f2 (each-both C (both E F) p.body f3 (each-both E F p.body f5 f6)))));
    }
  where
    all : (o a b c e f : Bool) → (o || a) && ((o || b) && ((o || c) && ((o || e) && (o || f)))) ≡ true → o || (a && (b && (c && (e && f)))) ≡ true
    all true a b c e f h = refl
    all false a b c e f h = h

    loop : (k : Key) (at : Place) (h : Head) (test : Expr) (body : Stmt) → Sound p.declarations p.result (Foreach k at h test body) → ((y : ℕ) → IsIn y (numbers_of h.iterator body) → IsIn y (numbers_in p.body)) →
        (is_own_loop h.iterator body || is_lasting p.declarations h.iterator (touched body) test) && ((is_own_loop h.iterator body || ifs_are_numbered h.iterator body) && ((is_own_loop h.iterator body || locals_may_go p.declarations h.iterator test body)
        && ((is_own_loop h.iterator body || reduces_evenly p.declarations body) && (is_own_loop h.iterator body || (nat_lt (depth_at p.declarations h.iterator) 2 && inner_iterators_deep p.declarations body))))) ≡ true →
        bundled (dt p.declarations p.result (numbers_in p.body)) k at h test (with_saved (local p.declarations p.result (numbers_in p.body)) at body) ≡ true
    loop k at h test body w u e =
        let ds = p.declarations in
        let xs = numbers_in p.body in
        let n = h.iterator in
        let new = with_saved (local ds p.result xs) at body in
        let a = is_lasting ds n (touched body) test in
        let b = ifs_are_numbered n body in
        let c = locals_may_go ds n test body in
        let v = reduces_evenly ds body in
        let f = nat_lt (depth_at ds n) 2 && inner_iterators_deep ds body in
        either-way (is_own_loop n body) (is_own_loop n new) (a && (b && (c && (v && f)))) (bundle (dt ds p.result xs) n test new) (own-saved (local ds p.result xs) at n body)
        (λ g.
        let g1 = both-true a (b && (c && (v && f))) g in
        let g2 = both-true b (c && (v && f)) g1.1 in
        let g3 = both-true c (v && f) g2.1 in
        let g5 = both-true v f g3.1 in
        let g6 = both-true (nat_lt (depth_at ds n) 2) (inner_iterators_deep ds body) g5.1 in
        of-facts (dt ds p.result xs) n test new
        (saved-facts ds p.result xs k at h test body w (λ j i. local-found (length ds) xs j (u j.statement i)) (record { filter = g1.0; numbered = g2.0; locals = g3.0; even = g5.0; outer = g6.0; deep = g6.1 })))
        (all (is_own_loop n body) a b c v f e)

-- conditions that are saved may be repeated
pub conditions-saved : (p : Program) → Ready2 p → has_no_deferred p ≡ true → has_lasting_filters p ≡ true → has_numbered_ifs p ≡ true → has_movable_locals p ≡ true → has_even_tuples p ≡ true → has_iterators_in_place p ≡ true →
    has_repeatable_conditions (with_saved_conditions p) ≡ true
conditions-saved p r none f1 f2 f3 f5 f6 =
    let known = saved-known p r none f1 f2 f3 f5 f6 in
    let out = with_saved_conditions p in
    let ds = out.declarations in
    each-so ds out.result (bundled ds) (λ k at h test body. is_own_loop h.iterator body || conditions_repeat ds h.iterator body)
    (λ k at h test body c q. part-of (is_own_loop h.iterator body) (bundle ds h.iterator test body) (conditions_repeat ds h.iterator body) (λ g. (facts-of ds h.iterator test body g).conditions) q) out.body (sound-of out known.ready) known.facts

-- a program whose conditions are saved, and whose locals have gone to properties then, is prepared
pub all-prepared : (p : Program) → Ready2 p → has_no_deferred p ≡ true → has_lasting_filters p ≡ true → has_numbered_ifs p ≡ true → has_movable_locals p ≡ true → has_even_tuples p ≡ true → has_iterators_in_place p ≡ true →
    IsPrepared (with_kept_locals (with_saved_conditions p))
all-prepared p r none f1 f2 f3 f5 f6 = known-prepared (with_saved_conditions p) (saved-known p r none f1 f2 f3 f5 f6)

-- Each loop of a program that is prepared may be written as the loops of the pieces of its body.
use Rattle.std.proofs.Common.{◌≡◌, ℕ, Bool, true, false, List, [], ◌∷◌, ◌++◌, length, refl, sym, ap, subst, ◌∙◌}
use Rattle.std.specs.Prelude.{◌+◌, ◌&&◌, ◌||◌, nat_lt, nat_le}
use Rattle.std.specs.List.{list_all}
use Rattle.std.proofs.lemmas.Bool.{both_ways}
use Rattle.gm_base.specs.declared.places.Place.{Place}
use Rattle.gm_ast.specs.declared.tree.Declaration.{Declaration}
use Rattle.gm_ast.specs.declared.tree.Head.{Head}
use Rattle.gm_ast.specs.declared.tree.Key.{Key}
use Rattle.gm_ast.specs.declared.tree.Target.TheVariants as T
use Rattle.gm_ast.specs.Loops.{is_nodes}
use Rattle.gm_ast.specs.Program.{Expr, Stmt, Then, Defer, Foreach, For, If, While, Do, Program}
use Rattle.gm_forms.specs.Cut.{is_mask, touched, is_own_loop}
use Rattle.gm_forms.specs.Fission.{is_nil}
use Rattle.gm_forms.specs.Forms.{depth_at, is_flat, is_flat_loop, is_outer_body, is_phase, is_told, no_loop}
use Rattle.gm_forms.specs.Order.{cannot_fail}
use Rattle.gm_forms.specs.Ready.{Ready2}
use Rattle.gm_forms.specs.Sharing.{deferred, loops_share, shares}
use Rattle.gm_forms.specs.Uses.{suits, uses_in, uses_of_head, uses_of}
use Rattle.gm_forms.proofs.Named.{both-true, all-append}
use Rattle.gm_forms.proofs.Weaker.{and-true}
use Rattle.gm_dissect.specs.AllDeferred.{deferred_of, deferred_in, is_empty}
use Rattle.gm_cut.specs.Parts.{goes_any_way, parts_of, piece_is_parted, falls_apart, is_separable, can_part, each_passes, can_be_parted}
use Rattle.gm_cut.specs.Runs.{joins_run, with_runs}
use Rattle.gm_cut.proofs.Grouped.{uses-same, form-same, deferred-same, shares-same}
use Rattle.gm_cut.proofs.Roles.{iterates-of}
use Rattle.gm_parting.specs.InnerLoops.{inner_loops_apart, inner_iterators_deep}
use Rattle.gm_parting.specs.Lasting.{is_lasting, conditions_last}
use Rattle.gm_parting.specs.Prepared.{IsPrepared}
use Rattle.gm_parting.specs.Staying.{locals_stay_within}
use Rattle.gm_parting.specs.Tuples.{reduces_evenly}
use Rattle.gm_parting.proofs.Lasting.{Lasts, lasts}
use Rattle.gm_parting.proofs.Pieces.{Part, falls, cuts}
use Rattle.gm_parting.proofs.Runs.{even-same, apart-same, deep-same, last-same}
use Rattle.gm_parting.proofs.Separable.{separable, inners-of, alike-of}

pub empty-parts : (xs ys : List ℕ) → is_empty (xs ++ ys) ≡ true → (is_empty xs ≡ true) × (is_empty ys ≡ true)
empty-parts [] ys h = (refl, h)
empty-parts (x ∷ xs) ys h = absurd (both_ways false refl h)

nil-both : (xs ys : List ℕ) → is_nil xs ≡ true → is_nil ys ≡ true → is_nil (xs ++ ys) ≡ true
nil-both [] ys h k = k
nil-both (x ∷ xs) ys h k = absurd (both_ways false refl h)

-- a body that defers nothing
pub nothing-deferred : (ds : List Declaration) (n : ℕ) (s : Stmt) → is_outer_body ds false n s ≡ true → is_empty (deferred_of s) ≡ true → is_nil (deferred s) ≡ true
nothing-deferred ds n (Then a b) f h =
    let g = both-true (is_outer_body ds false n a) (is_outer_body ds false n b) f in
    let r = empty-parts (deferred_of a) (deferred_of b) h in
    nil-both (deferred a) (deferred b) (nothing-deferred ds n a g.0 r.0) (nothing-deferred ds n b g.1 r.1)
nothing-deferred ds n (If k c a b) f h =
    let j = both-true (is_flat (n ∷ []) false c) (is_outer_body ds false n a && is_outer_body ds false n b) f in
    let g = both-true (is_outer_body ds false n a) (is_outer_body ds false n b) j.1 in
    let r = empty-parts (deferred_of a) (deferred_of b) h in
    nil-both (deferred a) (deferred b) (nothing-deferred ds n a g.0 r.0) (nothing-deferred ds n b g.1 r.1)
nothing-deferred ds n (Defer k (T.Property x p at) e) f h = absurd (both_ways false refl h)
nothing-deferred ds n (Defer k (T.Scalar x at) e) f h = absurd (both_ways false refl f)
nothing-deferred ds n s f h = refl

-- the loops of a table
module _ (ds : List Declaration) where
  -- what is known of a loop
  record Known (k : Key) (at : Place) (hd : Head) (mask : Expr) (body : Stmt) : Type 0 where
    named : list_all (suits ds) (uses_of (Foreach k at hd mask body)) ≡ true
    form : is_flat_loop ds false hd.iterator mask body ≡ true
    share : shares ds hd.iterator mask body ≡ true
    none : is_empty (deferred_of body) ≡ true
    filter : is_lasting ds hd.iterator (touched body) mask ≡ true
    last : conditions_last ds hd.iterator body ≡ true
    stay : locals_stay_within ds hd.iterator (with_runs hd.iterator body) ≡ true
    apart : inner_loops_apart ds hd.iterator body ≡ true
    even : reduces_evenly ds body ≡ true
    outer : nat_lt (depth_at ds hd.iterator) 2 ≡ true
    deep : inner_iterators_deep ds body ≡ true

  parted : (k : Key) (at : Place) (hd : Head) (mask : Expr) (body : Stmt) → Known k at hd mask body → can_part goes_any_way ds at hd mask body ≡ true
  parted k at hd mask body known =
      let n = hd.iterator in
      let own = is_own_loop n in
      let joins = joins_run n in
      let whole = with_runs n body in
      let f = both-true (is_flat (n ∷ []) false mask) (is_outer_body ds false n body) known.form in
      let u = all-append (suits ds) (uses_of_head hd) (uses_in mask ++ uses_of body) known.named in
      let v = all-append (suits ds) (uses_in mask) (uses_of body) u.1 in
      let share : shares ds n mask whole ≡ true = shares-same own joins ds n mask body ∙ known.share in
      let even : reduces_evenly ds whole ≡ true = even-same own joins ds body ∙ known.even in
      let nothing : is_nil (deferred whole) ≡ true = ap is_nil (deferred-same own joins body) ∙ nothing-deferred ds n body f.1 known.none in
      let lasting = last-same own joins ds n body in
      let part : Part ds n whole = record {
        form = form-same own joins ds n body ∙ f.1;
        named = ap (list_all (suits ds)) (uses-same own joins body) ∙ v.1;
        nothing = nothing;
        alike = alike-of ds n mask whole share even;
        inners = inners-of ds n mask whole share even;
        even = even;
        last = lasting.1 ∙ known.last;
        apart = apart-same own joins ds n body ∙ known.apart;
        deep = deep-same own joins ds body ∙ known.deep;
      } in
      let mine : Lasts ds n (touched whole) mask = subst (λ xs. Lasts ds n xs mask) (sym lasting.0) (lasts ds n (touched body) mask known.filter) in
      let iterates = iterates-of ds k at hd mask body known.named in
      let all = list_all (piece_is_parted goes_any_way ds n) (parts_of n at mask body) in
      and-true (is_mask n mask) (is_separable ds n whole && (falls_apart ds n at mask whole && all)) (and-true (cannot_fail mask) (is_flat (n ∷ []) false mask) mine.sure mine.flat)
      (and-true (is_separable ds n whole) (falls_apart ds n at mask whole && all) (separable ds n mask whole share even nothing known.outer)
      (and-true (falls_apart ds n at mask whole) all (falls ds n iterates at whole mask part mine known.stay) (cuts ds n iterates at whole mask part mine)))

  -- ---- loops of a phase

  abbrev Test : Type 0
  Test = Key → Place → Head → Expr → Stmt → Bool

  abbrev filters : Test
  filters k at h test body = is_own_loop h.iterator body || is_lasting ds h.iterator (touched body) test

  abbrev conditions : Test
  conditions k at h test body = is_own_loop h.iterator body || conditions_last ds h.iterator body

  abbrev locals : Test
  locals k at h test body = is_own_loop h.iterator body || locals_stay_within ds h.iterator (with_runs h.iterator body)

  abbrev inners : Test
  inners k at h test body = is_own_loop h.iterator body || inner_loops_apart ds h.iterator body

  abbrev tuples : Test
  tuples k at h test body = is_own_loop h.iterator body || reduces_evenly ds body

  abbrev iterators : Test
  iterators k at h test body = is_own_loop h.iterator body || (nat_lt (depth_at ds h.iterator) 2 && inner_iterators_deep ds body)

  abbrev goal : Test
  goal k at h mask body = is_own_loop h.iterator body || can_part goes_any_way ds at h mask body

  record Phase (s : Stmt) : Type 0 where
    named : list_all (suits ds) (uses_of s) ≡ true
    form : is_phase (is_flat_loop ds false) no_loop ds s ≡ true
    share : loops_share ds s ≡ true
    none : is_empty (deferred_in s) ≡ true
    filter : each_passes filters s ≡ true
    last : each_passes conditions s ≡ true
    stay : each_passes locals s ≡ true
    apart : each_passes inners s ≡ true
    even : each_passes tuples s ≡ true
    placed : each_passes iterators s ≡ true

  phase-both : (a b : Stmt) → Phase (Then a b) → Phase a × Phase b
  phase-both a b p =
      let u = all-append (suits ds) (uses_of a) (uses_of b) p.named in
      let f = both-true (is_phase (is_flat_loop ds false) no_loop ds a) (is_phase (is_flat_loop ds false) no_loop ds b) p.form in
      let h = both-true (loops_share ds a) (loops_share ds b) p.share in
      let d = empty-parts (deferred_in a) (deferred_in b) p.none in
      let t1 = both-true (each_passes filters a) (each_passes filters b) p.filter in
      let t2 = both-true (each_passes conditions a) (each_passes conditions b) p.last in
      let t3 = both-true (each_passes locals a) (each_passes locals b) p.stay in
      let t4 = both-true (each_passes inners a) (each_passes inners b) p.apart in
      let t5 = both-true (each_passes tuples a) (each_passes tuples b) p.even in
      let t6 = both-true (each_passes iterators a) (each_passes iterators b) p.placed in (
        record { named = u.0; form = f.0; share = h.0; none = d.0; filter = t1.0; last = t2.0; stay = t3.0; apart = t4.0; even = t5.0; placed = t6.0 },
        record { named = u.1; form = f.1; share = h.1; none = d.1; filter = t1.1; last = t2.1; stay = t3.1; apart = t4.1; even = t5.1; placed = t6.1 },
      )

  -- the parts of a phase that stand in another statement
  phase-within : (s t : Stmt) → Phase s → list_all (suits ds) (uses_of t) ≡ true → is_phase (is_flat_loop ds false) no_loop ds t ≡ true → (loops_share ds s ≡ loops_share ds t) → (deferred_in s ≡ deferred_in t) →
      ((f : Test) → each_passes f s ≡ each_passes f t) → Phase t
  phase-within s t p u f h d e = record {
    named = u;
    form = f;
    share = sym h ∙ p.share;
    none = ap is_empty (sym d) ∙ p.none;
    filter = sym (e filters) ∙ p.filter;
    last = sym (e conditions) ∙ p.last;
    stay = sym (e locals) ∙ p.stay;
    apart = sym (e inners) ∙ p.apart;
    even = sym (e tuples) ∙ p.even;
    placed = sym (e iterators) ∙ p.placed;
  }

  without : (o b : Bool) → o || b ≡ true → o ≡ false → b ≡ true
  without true b h e = absurd (both_ways true e refl)
  without false b h e = h

  loop-parted : (k : Key) (at : Place) (hd : Head) (mask : Expr) (body : Stmt) → Phase (Foreach k at hd mask body) → goal k at hd mask body ≡ true
  loop-parted k at hd mask body p = by (is_own_loop hd.iterator body) refl
    where
      by : (o : Bool) → is_own_loop hd.iterator body ≡ o → o || can_part goes_any_way ds at hd mask body ≡ true
      by true e = refl
      by false e =
          let n = hd.iterator in
          let own = is_own_loop n body in
          let i = both-true (nat_lt (depth_at ds n) 2) (inner_iterators_deep ds body) (without own (nat_lt (depth_at ds n) 2 && inner_iterators_deep ds body) p.placed e) in
          parted k at hd mask body (record {
            named = p.named;
            form = (both-true (is_nodes hd.domain) (is_flat_loop ds false n mask body) p.form).1;
            share = p.share;
            none = p.none;
            filter = without own (is_lasting ds n (touched body) mask) p.filter e;
            last = without own (conditions_last ds n body) p.last e;
            stay = without own (locals_stay_within ds n (with_runs n body)) p.stay e;
            apart = without own (inner_loops_apart ds n body) p.apart e;
            even = without own (reduces_evenly ds body) p.even e;
            outer = i.0;
            deep = i.1;
          })

  all-parted : (s : Stmt) → Phase s → each_passes goal s ≡ true
  all-parted (Then a b) p = let r = phase-both a b p in and-true (each_passes goal a) (each_passes goal b) (all-parted a r.0) (all-parted b r.1)
  all-parted (Foreach k at hd mask body) p = loop-parted k at hd mask body p
  all-parted (For k at hd test body) p =
      let u = all-append (suits ds) (uses_of_head hd) (uses_in test ++ uses_of body) p.named in
      all-parted body (phase-within (For k at hd test body) body p (all-append (suits ds) (uses_in test) (uses_of body) u.1).1 (both-true (is_told test) (is_phase (is_flat_loop ds false) no_loop ds body) p.form).1 refl refl (λ f. refl))
  all-parted (If k c a b) p =
      let f = both-true (is_told c) (is_phase (is_flat_loop ds false) no_loop ds a && is_phase (is_flat_loop ds false) no_loop ds b) p.form in
      let r = phase-both a b (phase-within (If k c a b) (Then a b) p (all-append (suits ds) (uses_in c) (uses_of a ++ uses_of b) p.named).1 f.1 refl refl (λ f. refl)) in
      and-true (each_passes goal a) (each_passes goal b) (all-parted a r.0) (all-parted b r.1)
  all-parted (While k at c body) p =
      all-parted body (phase-within (While k at c body) body p (all-append (suits ds) (uses_in c) (uses_of body) p.named).1 (both-true (is_told c) (is_phase (is_flat_loop ds false) no_loop ds body) p.form).1 refl refl (λ f. refl))
  all-parted (Do k at body c) p =
      all-parted body (phase-within (Do k at body c) body p (all-append (suits ds) (uses_of body) (uses_in c) p.named).0 (both-true (is_phase (is_flat_loop ds false) no_loop ds body) (is_told c) p.form).0 refl refl (λ f. refl))
  all-parted s p = refl

-- a program that is prepared
pub programs-parted : (p : Program) → Ready2 p → IsPrepared p → can_be_parted goes_any_way p ≡ true
programs-parted p ready facts =
    all-parted p.declarations p.body (record {
      named = (both-true (nat_le (p.inputs + p.outputs) (length p.declarations)) (list_all (suits p.declarations) (uses_of p.body)) ready.sane.named).1;
      form = ready.form;
      share = ready.sane.race_free;
      none = facts.none;
      filter = facts.filters;
      last = facts.conditions;
      stay = facts.locals;
      apart = facts.inners;
      even = facts.tuples;
      placed = facts.iterators;
    })

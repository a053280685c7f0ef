-- A program whose bodies read nodes first, and whose locals go to properties together then, is prepared.
use Rattle.std.proofs.Common.{◌≡◌, ◌<◌, ◌≤◌, ◌+◌, arith, ℕ, suc, Bool, true, false, cond, List, [], ◌∷◌, ◌++◌, length, map, refl, ap, subst, ◌∙◌, Option}
use Rattle.std.specs.Prelude.{◌&&◌, ◌||◌, nat_lt}
use Rattle.std.proofs.lemmas.Bool.{both_ways}
use Rattle.gm_base.specs.declared.places.Place.{Place}
use Rattle.gm_value.specs.declared.values.VType.{VType}
use Rattle.gm_value.specs.Numbers.{zero_of}
use Rattle.gm_ast.specs.declared.tree.Declaration.{Declaration}
use Rattle.gm_ast.specs.declared.tree.Head.{Head}
use Rattle.gm_ast.specs.declared.tree.Key.{Key}
use Rattle.gm_ast.specs.Program.{Expr, Stmt, Skip, Then, Foreach, For, If, While, Do, Program, sequence}
use Rattle.gm_semantics.specs.Statements.{variable_at}
use Rattle.gm_forms.specs.Cut.{is_own_loop, touched}
use Rattle.gm_forms.specs.Forms.{depth_at}
use Rattle.gm_forms.specs.Meanings.{SameMeaning}
use Rattle.gm_forms.specs.Ready.{Ready2}
use Rattle.gm_forms.proofs.Meanings.{same-trans}
use Rattle.gm_forms.proofs.Named.{both-true}
use Rattle.gm_forms.proofs.Weaker.{and-true}
use Rattle.gm_loop_laws.specs.Localised.{moved_in, moved}
use Rattle.gm_dissect.specs.AllDeferred.{deferred_of, is_empty}
use Rattle.gm_dissect.specs.Conditions.{asks_variables}
use Rattle.gm_dissect.specs.Deferred.{copy_of}
use Rattle.gm_dissect.specs.Locals.{set_to}
use Rattle.gm_dissect.specs.Loops.{each_loop}
use Rattle.gm_dissect.proofs.DeferredLaws.{variable-longer}
use Rattle.gm_dissect.proofs.Kept.{Sound}
use Rattle.gm_locals.specs.AllGroups.{group_of, groups_in, with_groups, with_groups_kept}
use Rattle.gm_locals.specs.AllMoved.{property_of, first_values, all_moved_in, all_moved, settings, set_before}
use Rattle.gm_locals.specs.Groups.{locals_row, locals_loop}
use Rattle.gm_locals.proofs.AllGroupsKept.{groups-kept}
use Rattle.gm_locals.proofs.AllGroupsLaws.{groups-same, groups-ready}
use Rattle.gm_locals.proofs.AllMovedLemmas.{loop-at-once}
use Rattle.gm_locals.proofs.GroupKept.{Added, longer-length, added-behind}
use Rattle.gm_cut.specs.Parts.{each_passes}
use Rattle.gm_cut.specs.Runs.{with_runs}
use Rattle.gm_parting.specs.InnerLoops.{inner_loops_apart, inner_iterators_deep}
use Rattle.gm_parting.specs.Lasting.{is_lasting, conditions_last, conditions_repeat}
use Rattle.gm_parting.specs.Locals.{declares_its_locals, checks_nothing}
use Rattle.gm_parting.specs.Nodes.{nodes_in, nodes_read, all_nodes_in, with_nodes_read}
use Rattle.gm_parting.specs.Prepared.{IsPrepared}
use Rattle.gm_parting.specs.Staying.{locals_stay_within}
use Rattle.gm_parting.specs.Tuples.{reduces_evenly}
use Rattle.gm_parting.proofs.GroupFacts.{nodes-defer}
use Rattle.gm_parting.proofs.GroupLoops.{Before, is_parting, loop-parted}
use Rattle.gm_parting.proofs.Loops.{Test, sound-of, sound-both, sound-branches, sound-for, sound-while, sound-do, each-so, defers_nothing, deferred-each}
use Rattle.gm_parting.proofs.MovedParts.{own-moved, deferred-of-moved}
use Rattle.gm_parting.proofs.MovedPrograms.{part-of}
use Rattle.gm_parting.proofs.NodesKept.{loop-read}
use Rattle.gm_parting.proofs.NodesLaws.{dt, more, same, reading, body-is, same-read, ready-read}

both-added : (ds es : List Declaration) (q : ℕ) (xs ys : List ℕ) → Added ds es q (xs ++ ys) → Added ds es q xs × Added ds es (q + length xs) ys
both-added ds es q [] ys h = let none : q ≡ q + 0 = omega arith in (tt, subst (λ j. Added ds es j ys) none h)
both-added ds es q (x ∷ xs) ys h =
    let r = both-added ds es (suc q) xs ys h.1.1 in
    let next : suc q + length xs ≡ q + suc (length xs) = omega arith in
    ((h.0, (h.1.0, r.0)), subst (λ j. Added ds es j ys) next r.1)

-- a fact of loops that are not of own statements
abbrev of : (ℕ → Expr → Stmt → Bool) → Test
of G k at h test body = is_own_loop h.iterator body || G h.iterator test body

-- ---- a loop

own-row : (G : ℕ → Expr → Stmt → Bool) (ds : List Declaration) (xs : List ℕ) (q : ℕ) (k : Key) (at : Place) (h : Head) (test : Expr) (body : Stmt) → is_own_loop h.iterator body ≡ true → each_passes (of G) (sequence (locals_row ds xs q k at h test body)) ≡ true
own-row G ds [] q k at h test body o = and-true (of G k at h test body) true (ap (λ b. b || G h.iterator test body) o) refl
own-row G ds (x ∷ xs) q k at h test body o =
    let n = h.iterator in
    let t = (variable_at ds x).vtype in
    own-row G ds xs (suc q) k at h (moved_in x q n at (zero_of t) test) (moved x q n at (zero_of t) body) (own-moved x q n at t body ∙ o)

own-group : (G : ℕ → Expr → Stmt → Bool) (ds : List Declaration) (xs : List ℕ) (q : ℕ) (k : Key) (at : Place) (h : Head) (test : Expr) (body : Stmt) → is_own_loop h.iterator body ≡ true → each_passes (of G) (locals_loop ds xs q k at h test body) ≡ true
own-group G ds [] q k at h test body o = ap (λ b. b || G h.iterator test body) o
own-group G ds (x ∷ xs) q k at h test body o = own-row G ds (x ∷ xs) q k at h test body o

row-defers : (ds : List Declaration) (xs : List ℕ) (q : ℕ) (k : Key) (at : Place) (h : Head) (test : Expr) (body : Stmt) → is_empty (deferred_of body) ≡ true → each_passes defers_nothing (sequence (locals_row ds xs q k at h test body)) ≡ true
row-defers ds [] q k at h test body o = and-true (is_empty (deferred_of body)) true o refl
row-defers ds (x ∷ xs) q k at h test body o =
    let n = h.iterator in
    let t = (variable_at ds x).vtype in
    row-defers ds xs (suc q) k at h (moved_in x q n at (zero_of t) test) (moved x q n at (zero_of t) body) (ap is_empty (deferred-of-moved x q n at t body) ∙ o)

group-defers : (ds : List Declaration) (xs : List ℕ) (q : ℕ) (k : Key) (at : Place) (h : Head) (test : Expr) (body : Stmt) → is_empty (deferred_of body) ≡ true → each_passes defers_nothing (locals_loop ds xs q k at h test body) ≡ true
group-defers ds [] q k at h test body o = o
group-defers ds (x ∷ xs) q k at h test body o = row-defers ds (x ∷ xs) q k at h test body o

row-passes : (G : ℕ → Expr → Stmt → Bool) (q : ℕ) (xs : List ℕ) (at : Place) (h : Head) (s : Stmt) → each_passes (of G) s ≡ true → each_passes (of G) (sequence (settings q xs at h ++ (s ∷ []))) ≡ true
row-passes G q [] at h s p = and-true (each_passes (of G) s) true p refl
row-passes G q (x ∷ xs) at h s p = row-passes G (suc q) xs at h s p

set-passes : (G : ℕ → Expr → Stmt → Bool) (q : ℕ) (xs : List ℕ) (at : Place) (h : Head) (s : Stmt) → each_passes (of G) s ≡ true → each_passes (of G) (set_before q xs at h s) ≡ true
set-passes G q [] at h s p = p
set-passes G q (x ∷ xs) at h s p = row-passes G q (x ∷ xs) at h s p

row-last : (ds : List Declaration) (res : Option VType) (q : ℕ) (xs : List ℕ) (at : Place) (h : Head) (s : Stmt) → Sound ds res (sequence (settings q xs at h ++ (s ∷ []))) → Sound ds res s
row-last ds res q [] at h s p = (sound-both ds res s Skip p).0
row-last ds res q (x ∷ xs) at h s p = row-last ds res (suc q) xs at h s (sound-both ds res (set_to q x at h) (sequence (settings (suc q) xs at h ++ (s ∷ []))) p).1

set-sound : (ds : List Declaration) (res : Option VType) (q : ℕ) (xs : List ℕ) (at : Place) (h : Head) (s : Stmt) → Sound ds res (set_before q xs at h s) → Sound ds res s
set-sound ds res q [] at h s p = p
set-sound ds res q (x ∷ xs) at h s p = row-last ds res q (x ∷ xs) at h s p

-- the facts before, as one test
abbrev pub before_test : List Declaration → ℕ → Expr → Stmt → Bool
before_test ds n test body =
    is_lasting ds n (touched body) test
    && (conditions_repeat ds n body && (asks_variables n body && (declares_its_locals ds n body && (checks_nothing body && (reduces_evenly ds body && (nat_lt (depth_at ds n) 2 && inner_iterators_deep ds body))))))

before-of : (ds : List Declaration) (n : ℕ) (test : Expr) (body : Stmt) → is_empty (deferred_of body) ≡ true → before_test ds n test body ≡ true → Before ds n test body
before-of ds n test body none h =
    let g = nat_lt (depth_at ds n) 2 && inner_iterators_deep ds body in
    let f = reduces_evenly ds body && g in
    let e = checks_nothing body && f in
    let d = declares_its_locals ds n body && e in
    let c = asks_variables n body && d in
    let r1 = both-true (is_lasting ds n (touched body) test) (conditions_repeat ds n body && c) h in
    let r2 = both-true (conditions_repeat ds n body) c r1.1 in
    let r3 = both-true (asks_variables n body) d r2.1 in
    let r4 = both-true (declares_its_locals ds n body) e r3.1 in
    let r5 = both-true (checks_nothing body) f r4.1 in
    let r6 = both-true (reduces_evenly ds body) g r5.1 in
    let r7 = both-true (nat_lt (depth_at ds n) 2) (inner_iterators_deep ds body) r6.1 in
    record { none = none; filter = r1.0; conditions = r2.0; asks = r3.0; declared = r4.0; checks = r5.0; even = r6.0; outer = r7.0; deep = r7.1 }

-- ---- loops of a phase

-- ds: the table; count: at least as many nodes as a loop reads; last: the table when locals have gone
module _ (ds : List Declaration) (res : Option VType) (count : ℕ) (last : List Declaration) (later : (y : ℕ) → y < length (dt ds count) → variable_at last y ≡ variable_at (dt ds count) y) (size : length (dt ds count) ≤ length last) where
  abbrev mid : List Declaration
  mid = dt ds count

  abbrev reads : Stmt → Stmt
  reads s = each_loop (reading ds count) s

  abbrev first : Test
  first k at h test body = is_empty (deferred_of body) && of (before_test ds) k at h test body

  abbrev final : Test
  final = of (is_parting last)

  loop-walk : (k : Key) (at : Place) (hd : Head) (test : Expr) (body : Stmt) → Sound ds res (Foreach k at hd test body) → nodes_in ds body ≤ count → first k at hd test body ≡ true → (q : ℕ) → length mid ≤ q → Added mid last q (groups_in mid (reads (Foreach k at hd test body))) →
      each_passes final (with_groups mid q (reads (Foreach k at hd test body))) ≡ true
  loop-walk k at hd test body w l h q top added = by (is_own_loop hd.iterator body) refl added
    where
      n : ℕ
      n = hd.iterator

      body' : Stmt
      body' = nodes_read ds true (length ds) (length ds + count) 0 body

      f : (is_empty (deferred_of body) ≡ true) × (of (before_test ds) k at hd test body ≡ true)
      f = both-true (is_empty (deferred_of body)) (of (before_test ds) k at hd test body) h

      without : (o b : Bool) → o || b ≡ true → o ≡ false → b ≡ true
      without true b h e = absurd (both_ways true e refl)
      without false b h e = h

      second : (a b : Bool) → b ≡ true → a || b ≡ true
      second true b h = refl
      second false b h = h

      by : (o : Bool) → is_own_loop hd.iterator body ≡ o → Added mid last q (groups_in mid (cond o (Foreach k at hd test body) (Foreach k at hd test (nodes_read ds true (length ds) (length ds + count) 0 body)))) →
          each_passes final (with_groups mid q (cond o (Foreach k at hd test body) (Foreach k at hd test (nodes_read ds true (length ds) (length ds + count) 0 body)))) ≡ true
      by true o added = own-group (is_parting last) mid (group_of mid hd.iterator test body) q k at hd test body o
      by false o added =
          let xs = group_of mid hd.iterator test (nodes_read ds true (length ds) (length ds + count) 0 body) in
          let read = nodes_read ds true (length ds) (length ds + count) 0 body in
          let home = property_of q xs in
          let gone = Foreach k at hd (all_moved_in home hd.iterator test) (all_moved home hd.iterator at (first_values mid) read) in
          let e = loop-at-once mid xs q k at hd test read in
          let sound : Sound last res (locals_loop mid xs q k at hd test read) = groups-kept mid last later size res (Foreach k at hd test read) q top added (loop-read ds mid (same ds count) (more ds count) res k at hd test body read w (body-is ds count res k at hd test body w l)) in
          let there : Sound last res gone = set-sound last res q xs at hd gone (subst (Sound last res) e sound) in
          let fine = loop-parted ds res count last later size k at hd test body w l o (before-of ds hd.iterator test body f.0 (without (is_own_loop hd.iterator body) (before_test ds hd.iterator test body) f.1 o)) q top there in
          ap (each_passes final) e ∙ set-passes (is_parting last) q xs at hd gone (second (is_own_loop hd.iterator (all_moved home hd.iterator at (first_values mid) read)) (is_parting last hd.iterator (all_moved_in home hd.iterator test) (all_moved home hd.iterator at (first_values mid) read)) fine)

  walk : (s : Stmt) → Sound ds res s → all_nodes_in ds s ≤ count → each_passes first s ≡ true → (q : ℕ) → length mid ≤ q → Added mid last q (groups_in mid (reads s)) → each_passes final (with_groups mid q (reads s)) ≡ true
  walk (Then a b) w l h q top added =
      let r = sound-both ds res a b w in
      let g = both-true (each_passes first a) (each_passes first b) h in
      let d = both-added mid last q (groups_in mid (reads a)) (groups_in mid (reads b)) added in
      let j = q + length (groups_in mid (reads a)) in
      and-true (each_passes final (with_groups mid q (reads a))) (each_passes final (with_groups mid j (reads b))) (walk a r.0 (omega (arith, l)) g.0 q top d.0) (walk b r.1 (omega (arith, l)) g.1 j (omega (arith, top)) d.1)
  walk (Foreach k at hd test body) w l h q top added = loop-walk k at hd test body w l h q top added
  walk (For k at hd test body) w l h q top added = walk body (sound-for ds res k at hd test body w) l h q top added
  walk (If k c a b) w l h q top added =
      let r = sound-branches ds res k c a b w in
      let g = both-true (each_passes first a) (each_passes first b) h in
      let d = both-added mid last q (groups_in mid (reads a)) (groups_in mid (reads b)) added in
      let j = q + length (groups_in mid (reads a)) in
      and-true (each_passes final (with_groups mid q (reads a))) (each_passes final (with_groups mid j (reads b))) (walk a r.0 (omega (arith, l)) g.0 q top d.0) (walk b r.1 (omega (arith, l)) g.1 j (omega (arith, top)) d.1)
  walk (While k at c body) w l h q top added = walk body (sound-while ds res k at c body w) l h q top added
  walk (Do k at body c) w l h q top added = walk body (sound-do ds res k at body c w) l h q top added
  walk s w l h q top added = refl

  -- none defers
  defers-walk : (s : Stmt) → each_passes first s ≡ true → (q : ℕ) → each_passes defers_nothing (with_groups mid q (reads s)) ≡ true
  defers-walk (Then a b) h q =
      let g = both-true (each_passes first a) (each_passes first b) h in
      let j = q + length (groups_in mid (reads a)) in
      and-true (each_passes defers_nothing (with_groups mid q (reads a))) (each_passes defers_nothing (with_groups mid j (reads b))) (defers-walk a g.0 q) (defers-walk b g.1 j)
  defers-walk (Foreach k at hd test body) h q = by (is_own_loop hd.iterator body)
    where
      none : is_empty (deferred_of body) ≡ true
      none = (both-true (is_empty (deferred_of body)) (of (before_test ds) k at hd test body) h).0

      by : (o : Bool) → each_passes defers_nothing (with_groups mid q (cond o (Foreach k at hd test body) (Foreach k at hd test (nodes_read ds true (length ds) (length ds + count) 0 body)))) ≡ true
      by true = group-defers mid (group_of mid hd.iterator test body) q k at hd test body none
      by false =
          let read = nodes_read ds true (length ds) (length ds + count) 0 body in
          group-defers mid (group_of mid hd.iterator test read) q k at hd test read (ap is_empty (nodes-defer ds (length ds) (length ds + count) 0 body) ∙ none)
  defers-walk (For k at hd test body) h q = defers-walk body h q
  defers-walk (If k c a b) h q =
      let g = both-true (each_passes first a) (each_passes first b) h in
      let j = q + length (groups_in mid (reads a)) in
      and-true (each_passes defers_nothing (with_groups mid q (reads a))) (each_passes defers_nothing (with_groups mid j (reads b))) (defers-walk a g.0 q) (defers-walk b g.1 j)
  defers-walk (While k at c body) h q = defers-walk body h q
  defers-walk (Do k at body c) h q = defers-walk body h q
  defers-walk s h q = refl

-- ---- programs

pub gone-ready : (p : Program) → Ready2 p → Ready2 (with_groups_kept (with_nodes_read p))
gone-ready p r = groups-ready (with_nodes_read p) (ready-read p r)

pub gone-same : (p : Program) → Ready2 p → SameMeaning p (with_groups_kept (with_nodes_read p))
gone-same p r = same-trans p (with_nodes_read p) (with_groups_kept (with_nodes_read p)) (same-read p r) (groups-same (with_nodes_read p) (ready-read p r))

pub gone-prepared : (p : Program) → Ready2 p → each_passes (λ k at h test body. is_empty (deferred_of body) && (is_own_loop h.iterator body || before_test p.declarations h.iterator test body)) p.body ≡ true → IsPrepared (with_groups_kept (with_nodes_read p))
gone-prepared p r h =
    let ds = p.declarations in
    let count = all_nodes_in ds p.body in
    let d = with_nodes_read p in
    let out = with_groups_kept d in
    let mid = dt ds count in
    let xs = groups_in mid d.body in
    let last = mid ++ map (copy_of mid) xs in
    let later : (y : ℕ) → y < length mid → variable_at last y ≡ variable_at mid y = λ y l. variable-longer mid (map (copy_of mid) xs) y l in
    let size : length mid ≤ length last = longer-length mid (map (copy_of mid) xs) in
    let all : each_passes (of (is_parting last)) out.body ≡ true = walk ds p.result count last later size p.body (sound-of p r) (omega arith) h (length mid) (omega arith) (added-behind mid mid xs) in
    let none : each_passes defers_nothing out.body ≡ true = defers-walk ds p.result count last later size p.body h (length mid) in
    let s = sound-of out (gone-ready p r) in
    let still : (G : ℕ → Expr → Stmt → Bool) → ((n : ℕ) (test : Expr) (body : Stmt) → is_parting last n test body ≡ true → G n test body ≡ true) → each_passes (of G) out.body ≡ true =
    λ G f. each-so last out.result (of (is_parting last)) (of G) (λ k at h test body c q. part-of (is_own_loop h.iterator body) (is_parting last h.iterator test body) (G h.iterator test body) (f h.iterator test body) q) out.body s all in
    record {
      none = deferred-each out.body ∙ none;
      filters = still (λ n test body. is_lasting last n (touched body) test) (λ n test body g. (one last n test body g).0);
      conditions = still (λ n test body. conditions_last last n body) (λ n test body g. (one last n test body g).1);
      locals = still (λ n test body. locals_stay_within last n (with_runs n body)) (λ n test body g. (one last n test body g).2);
      inners = still (λ n test body. inner_loops_apart last n body) (λ n test body g. (one last n test body g).3);
      tuples = still (λ n test body. reduces_evenly last body) (λ n test body g. (one last n test body g).4);
      iterators = still (λ n test body. nat_lt (depth_at last n) 2 && inner_iterators_deep last body) (λ n test body g. (one last n test body g).5);
    }
  where
    one : (ds : List Declaration) (n : ℕ) (test : Expr) (body : Stmt) → is_parting ds n test body ≡ true →
        (is_lasting ds n (touched body) test ≡ true) × (conditions_last ds n body ≡ true) × (locals_stay_within ds n (with_runs n body) ≡ true) × (inner_loops_apart ds n body ≡ true) × (reduces_evenly ds body ≡ true)
        × (nat_lt (depth_at ds n) 2 && inner_iterators_deep ds body ≡ true)
    one ds n test body g =
        let f = nat_lt (depth_at ds n) 2 && inner_iterators_deep ds body in
        let e = reduces_evenly ds body && f in
        let d = inner_loops_apart ds n body && e in
        let c = locals_stay_within ds n (with_runs n body) && d in
        let r1 = both-true (is_lasting ds n (touched body) test) (conditions_last ds n body && c) g in
        let r2 = both-true (conditions_last ds n body) c r1.1 in
        let r3 = both-true (locals_stay_within ds n (with_runs n body)) d r2.1 in
        let r4 = both-true (inner_loops_apart ds n body) e r3.1 in
        let r5 = both-true (reduces_evenly ds body) f r4.1 in
        (r1.0, r2.0, r3.0, r4.0, r5.0, r5.1)

-- A program whose conditions are saved, whose bodies read nodes first and whose locals go to properties together then, is prepared.
use Rattle.std.proofs.Common.{◌≡◌, arith, ℕ, Bool, true, false, cond, List, length, refl, sym, ap, ◌∙◌}
use Rattle.std.specs.Prelude.{◌&&◌, ◌||◌, nat_lt}
use Rattle.std.specs.List.{list_all}
use Rattle.gm_ast.specs.declared.tree.Declaration.{Declaration}
use Rattle.gm_ast.specs.Program.{Stmt, Then, Foreach, For, If, While, Do, Program}
use Rattle.gm_ast.specs.Ways.{is_in}
use Rattle.gm_forms.specs.Cut.{is_own_loop, touched}
use Rattle.gm_forms.specs.Forms.{depth_at}
use Rattle.gm_forms.specs.Meanings.{SameMeaning}
use Rattle.gm_forms.specs.Ready.{Ready2}
use Rattle.gm_forms.proofs.Meanings.{same-trans}
use Rattle.gm_forms.proofs.Named.{both-true}
use Rattle.gm_forms.proofs.Weaker.{and-true}
use Rattle.gm_locals.specs.AllGroups.{with_groups_kept}
use Rattle.gm_dissect.specs.AllDeferred.{deferred_of, is_empty, has_no_deferred}
use Rattle.gm_dissect.specs.Conditions.{numbers_of, numbers_in, with_saved, saved_loop, asks_variables, asks_variables_in, with_saved_conditions}
use Rattle.gm_dissect.proofs.SavedConditions.{ready-saved, same-saved, saved-conditions}
use Rattle.gm_cut.specs.Parts.{each_passes}
use Rattle.gm_cut.proofs.Grouped.{two-same}
use Rattle.gm_parting.specs.InnerLoops.{inner_iterators_deep, has_iterators_in_place}
use Rattle.gm_parting.specs.Lasting.{is_lasting, ifs_are_numbered, conditions_repeat, has_lasting_filters, has_numbered_ifs}
use Rattle.gm_parting.specs.Locals.{declares_its_locals, has_declared_locals, checks_nothing, has_no_checks}
use Rattle.gm_parting.specs.Nodes.{with_nodes_read}
use Rattle.gm_parting.specs.Numbers.{above_ifs, with_numbers, numbered_loop, with_own_numbers, with_conditions_apart}
use Rattle.gm_parting.specs.Prepared.{IsPrepared}
use Rattle.gm_parting.specs.Tuples.{reduces_evenly, has_even_tuples}
use Rattle.gm_parting.proofs.GroupPrograms.{before_test, gone-prepared}
use Rattle.gm_parting.proofs.Loops.{Test, sound-of, each-kept, both, each-both, each-so, defers_nothing, deferred-each}
use Rattle.gm_parting.proofs.MovedPrograms.{either-way}
use Rattle.gm_parting.proofs.Numbers.{touched-same, defers-same, own-same, declared-same, checks-same, even-same, deep-same, numbered-now, same-numbers, ready-numbers}
use Rattle.gm_parting.proofs.SavedParts.{own-saved, none-saved}
use Rattle.gm_parting.proofs.SavedPrograms.{local-found, keeps, keeps-saved, repeats-saved, listed, in-all, each-listed, dt, local}

-- ---- tests of loops

-- Ifs of each loop ask variables
abbrev asks : Test
asks k at h test body = asks_variables h.iterator body

each-asks : (s : Stmt) → asks_variables_in s ≡ true → each_passes asks s ≡ true
each-asks (Then a b) h = let r = both-true (asks_variables_in a) (asks_variables_in b) h in and-true (each_passes asks a) (each_passes asks b) (each-asks a r.0) (each-asks b r.1)
each-asks (Foreach k at hd test body) h = h
each-asks (For k at hd test body) h = each-asks body h
each-asks (If k c a b) h = let r = both-true (asks_variables_in a) (asks_variables_in b) h in and-true (each_passes asks a) (each_passes asks b) (each-asks a r.0) (each-asks b r.1)
each-asks (While k at c body) h = each-asks body h
each-asks (Do k at body c) h = each-asks body h
each-asks s h = refl

-- what is known of loops that are not of own statements, but of their conditions
abbrev pub kept : List Declaration → Test
kept ds k at h test body = is_own_loop h.iterator body || keeps ds h.iterator test body

abbrev numbered : Test
numbered k at h test body = is_own_loop h.iterator body || ifs_are_numbered h.iterator body

abbrev repeats : List Declaration → Test
repeats ds k at h test body = is_own_loop h.iterator body || conditions_repeat ds h.iterator body

pub all-kept : (p : Program) → Ready2 p → has_lasting_filters p ≡ true → has_declared_locals p ≡ true → has_no_checks p ≡ true → has_even_tuples p ≡ true → has_iterators_in_place p ≡ true → each_passes (kept p.declarations) p.body ≡ true
all-kept p r f1 f2 f3 f4 f5 =
    let ds = p.declarations in
    let A : Test = λ k at h test body. is_own_loop h.iterator body || is_lasting ds h.iterator (touched body) test in
    let B : Test = λ k at h test body. is_own_loop h.iterator body || declares_its_locals ds h.iterator body in
    let C : Test = λ k at h test body. is_own_loop h.iterator body || checks_nothing body in
    let D : Test = λ k at h test body. is_own_loop h.iterator body || reduces_evenly ds body in
    let E : Test = λ k at h test body. is_own_loop h.iterator body || (nat_lt (depth_at ds h.iterator) 2 && inner_iterators_deep ds body) in
    each-so ds p.result (both A (both B (both C (both D E)))) (kept ds)
    (λ k at h test body w e. all (is_own_loop h.iterator body) (is_lasting ds h.iterator (touched body) test) (declares_its_locals ds h.iterator body) (checks_nothing body) (reduces_evenly ds body) (nat_lt (depth_at ds h.iterator) 2 && inner_iterators_deep ds body) e)
    p.body (sound-of p r) (each-both A (both B (both C (both D E))) p.body f1 (each-both B (both C (both D E)) p.body f2 (each-both C (both D E) p.body f3 (each-both D E p.body f4 f5))))
  where
    all : (o a b c d e : Bool) → (o || a) && ((o || b) && ((o || c) && ((o || d) && (o || e)))) ≡ true → o || (a && (b && (c && (d && e)))) ≡ true
    all true a b c d e h = refl
    all false a b c d e h = h

-- ---- conditions that are saved

saved-none : (p : Program) → Ready2 p → has_no_deferred p ≡ true → each_passes defers_nothing (with_saved_conditions p).body ≡ true
saved-none p r none =
    let ds = p.declarations in
    let xs = numbers_in p.body in
    each-kept ds p.result defers_nothing defers_nothing (saved_loop (local ds p.result xs)) (λ k at h test body w e. none-saved (local ds p.result xs) at body ∙ e) p.body (sound-of p r) (sym (deferred-each p.body) ∙ none)

saved-keeps : (p : Program) → Ready2 p → each_passes (kept p.declarations) p.body ≡ true → each_passes (kept (with_saved_conditions p).declarations) (with_saved_conditions p).body ≡ true
saved-keeps p r f =
    let ds = p.declarations in
    let xs = numbers_in p.body in
    each-kept ds p.result (kept ds) (kept (dt ds p.result xs)) (saved_loop (local ds p.result xs))
    (λ k at h test body w e.
    let new = with_saved (local ds p.result xs) at body in
    either-way (is_own_loop h.iterator body) (is_own_loop h.iterator new) (keeps ds h.iterator test body) (keeps (dt ds p.result xs) h.iterator test new) (own-saved (local ds p.result xs) at h.iterator body) (λ g. keeps-saved ds p.result xs k at h test body w g) e)
    p.body (sound-of p r) f

saved-repeats : (p : Program) → Ready2 p → has_numbered_ifs p ≡ true → each_passes (repeats (with_saved_conditions p).declarations) (with_saved_conditions p).body ≡ true
saved-repeats p r f =
    let ds = p.declarations in
    let xs = numbers_in p.body in
    each-kept ds p.result (both (listed xs) numbered) (repeats (dt ds p.result xs)) (saved_loop (local ds p.result xs))
    (λ k at h test body w e.
    let n = h.iterator in
    let new = with_saved (local ds p.result xs) at body in
    let a = both-true (list_all (is_in xs) (numbers_of n body)) (numbered k at h test body) e in
    either-way (is_own_loop n body) (is_own_loop n new) (ifs_are_numbered n body) (conditions_repeat (dt ds p.result xs) n new) (own-saved (local ds p.result xs) at n body)
    (λ g. repeats-saved ds p.result xs k at h test body w (λ j i. local-found (length ds) xs j (in-all (numbers_of n body) xs a.0 j.statement i)) g) a.1)
    p.body (sound-of p r) (each-both (listed xs) numbered p.body (each-listed xs p.body (λ y i. i)) f)

once : (p : Program) → Ready2 p → has_no_deferred p ≡ true → has_numbered_ifs p ≡ true → each_passes (kept p.declarations) p.body ≡ true → IsPrepared (with_groups_kept (with_nodes_read (with_saved_conditions p)))
once p r none f1 f2 =
    let c = with_saved_conditions p in
    let es = c.declarations in
    let rc = ready-saved p r in
    let U : Test = λ k at h test body. is_empty (deferred_of body) && (is_own_loop h.iterator body || before_test es h.iterator test body) in
    gone-prepared c rc
    (each-so es c.result (both defers_nothing (both asks (both (repeats es) (kept es)))) U
    (λ k at h test body w e.
    let n = h.iterator in
    let d = declares_its_locals es n body && (checks_nothing body && (reduces_evenly es body && (nat_lt (depth_at es n) 2 && inner_iterators_deep es body))) in
    let r1 = both-true (is_empty (deferred_of body)) (both asks (both (repeats es) (kept es)) k at h test body) e in
    let r2 = both-true (asks_variables n body) (both (repeats es) (kept es) k at h test body) r1.1 in
    let r3 = both-true (repeats es k at h test body) (kept es k at h test body) r2.1 in
    and-true (is_empty (deferred_of body)) (is_own_loop n body || before_test es n test body) r1.0
    (all (is_own_loop n body) (is_lasting es n (touched body) test) (conditions_repeat es n body) (asks_variables n body) d r2.0 r3.0 r3.1))
    c.body (sound-of c rc)
    (each-both defers_nothing (both asks (both (repeats es) (kept es))) c.body (saved-none p r none) (each-both asks (both (repeats es) (kept es)) c.body (each-asks c.body (saved-conditions p)) (each-both (repeats es) (kept es) c.body (saved-repeats p r f1) (saved-keeps p r f2)))))
  where
    all : (o a b c d : Bool) → c ≡ true → o || b ≡ true → o || (a && d) ≡ true → o || (a && (b && (c && d))) ≡ true
    all true a b c d e f g = refl
    all false true true true d e f g = g
    all false true true false d e f g = e
    all false true false c d e f g = f
    all false false b c d e f g = g

-- ---- and numbered

-- the last tests of those that are kept
abbrev few : List Declaration → ℕ → Stmt → Bool
few ds n s = checks_nothing s && (reduces_evenly ds s && (nat_lt (depth_at ds n) 2 && inner_iterators_deep ds s))

abbrev rest : List Declaration → ℕ → Stmt → Bool
rest ds n s = declares_its_locals ds n s && few ds n s

numbered-keeps : (p : Program) → Ready2 p → each_passes (kept p.declarations) p.body ≡ true → each_passes (kept p.declarations) (with_own_numbers p).body ≡ true
numbered-keeps p r f =
    let ds = p.declarations in
    each-kept ds p.result (kept ds) (kept ds) numbered_loop
    (λ k at h test body w e.
    let n = h.iterator in
    let m = above_ifs body in
    let place = nat_lt (depth_at ds n) 2 in
    two-same (λ o b. o || b) (is_own_loop n (with_numbers m body)) (is_own_loop n body) (keeps ds n test (with_numbers m body)) (keeps ds n test body) (own-same m n body)
    (two-same (λ u v. u && v) (is_lasting ds n (touched (with_numbers m body)) test) (is_lasting ds n (touched body) test) (rest ds n (with_numbers m body)) (rest ds n body) (ap (λ xs. is_lasting ds n xs test) (touched-same m body))
    (two-same (λ u v. u && v) (declares_its_locals ds n (with_numbers m body)) (declares_its_locals ds n body) (few ds n (with_numbers m body)) (few ds n body) (declared-same m ds n body)
    (two-same (λ u v. u && v) (checks_nothing (with_numbers m body)) (checks_nothing body) (reduces_evenly ds (with_numbers m body) && (place && inner_iterators_deep ds (with_numbers m body))) (reduces_evenly ds body && (place && inner_iterators_deep ds body)) (checks-same m body)
    (two-same (λ u v. u && v) (reduces_evenly ds (with_numbers m body)) (reduces_evenly ds body) (place && inner_iterators_deep ds (with_numbers m body)) (place && inner_iterators_deep ds body) (even-same m ds body) (ap (λ b. place && b) (deep-same m ds body))))))
    ∙ e)
    p.body (sound-of p r) f

numbered-none : (p : Program) → Ready2 p → each_passes defers_nothing p.body ≡ true → has_no_deferred (with_own_numbers p) ≡ true
numbered-none p r f =
    deferred-each (with_own_numbers p).body ∙ each-kept p.declarations p.result defers_nothing defers_nothing numbered_loop (λ k at h test body w e. ap is_empty (defers-same (above_ifs body) body) ∙ e) p.body (sound-of p r) f

now-numbered : (p : Program) → Ready2 p → asks_variables_in p.body ≡ true → has_numbered_ifs (with_own_numbers p) ≡ true
now-numbered p r f =
    each-kept p.declarations p.result asks numbered numbered_loop
    (λ k at h test body w e. second (is_own_loop h.iterator (with_numbers (above_ifs body) body)) (ifs_are_numbered h.iterator (with_numbers (above_ifs body) body)) (numbered-now (above_ifs body) h.iterator body (omega arith) e)) p.body (sound-of p r) (each-asks p.body f)
  where
    second : (a b : Bool) → b ≡ true → a || b ≡ true
    second true b h = refl
    second false b h = h

-- ---- programs

pub apart-ready : (p : Program) → Ready2 p → Ready2 (with_conditions_apart p)
apart-ready p r = by (has_numbered_ifs p)
  where
    by : (b : Bool) → Ready2 (cond b (with_saved_conditions p) (with_saved_conditions (with_own_numbers (with_saved_conditions p))))
    by true = ready-saved p r
    by false = ready-saved (with_own_numbers (with_saved_conditions p)) (ready-numbers (with_saved_conditions p) (ready-saved p r))

pub apart-same : (p : Program) → Ready2 p → SameMeaning p (with_conditions_apart p)
apart-same p r = by (has_numbered_ifs p)
  where
    by : (b : Bool) → SameMeaning p (cond b (with_saved_conditions p) (with_saved_conditions (with_own_numbers (with_saved_conditions p))))
    by true = same-saved p r
    by false =
        let c = with_saved_conditions p in
        let d = with_own_numbers c in
        let rc = ready-saved p r in
        same-trans p c (with_saved_conditions d) (same-saved p r) (same-trans c d (with_saved_conditions d) (same-numbers c rc) (same-saved d (ready-numbers c rc)))

pub all-gone : (p : Program) → Ready2 p → has_no_deferred p ≡ true → each_passes (kept p.declarations) p.body ≡ true → IsPrepared (with_groups_kept (with_nodes_read (with_conditions_apart p)))
all-gone p r none f = by (has_numbered_ifs p) refl
  where
    by : (b : Bool) → has_numbered_ifs p ≡ b → IsPrepared (with_groups_kept (with_nodes_read (cond b (with_saved_conditions p) (with_saved_conditions (with_own_numbers (with_saved_conditions p))))))
    by true e = once p r none e f
    by false e =
        let c = with_saved_conditions p in
        let rc = ready-saved p r in
        once (with_own_numbers c) (ready-numbers c rc) (numbered-none c rc (saved-none p r none)) (now-numbered c rc (saved-conditions p)) (numbered-keeps c rc (saved-keeps p r f))

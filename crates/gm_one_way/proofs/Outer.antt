-- Passes that change bodies of loops around their inner loops alone: these read no edge against the way of a message that they did not read so before.
use Rattle.std.proofs.Common.{◌≡◌, ◌<◌, ℕ, Bool, true, false, cond, List, [], ◌∷◌, ◌++◌, length, Option, Some, None}
use Rattle.std.specs.Prelude.{nat_eq, filter}
use Rattle.gm_base.specs.declared.places.Place.{Place}
use Rattle.gm_ast.specs.declared.tree.Declaration.{Declaration}
use Rattle.gm_ast.specs.declared.tree.Head.{Head}
use Rattle.gm_ast.specs.declared.tree.Key.{Key}
use Rattle.gm_ast.specs.declared.tree.Target.TheVariants as T
use Rattle.gm_ast.specs.Program.{Expr, Stmt, Then, Assign, Defer, Foreach, If, Program, sequence}
use Rattle.gm_semantics.specs.Frames.{NamesBelow}
use Rattle.gm_semantics.specs.Statements.{variable_at}
use Rattle.gm_forms.specs.Cut.{is_own_loop}
use Rattle.gm_forms.specs.Ready.{Ready2}
use Rattle.gm_forms.proofs.Named.{names-below}
use Rattle.gm_loop_laws.specs.Deferring.{undeferred}
use Rattle.gm_dissect.specs.AllDeferred.{deferred_in, some_defers, without_each, without_deferred}
use Rattle.gm_dissect.specs.Conditions.{numbers_in, local_of, saved_first, with_saved, saved_loop, flag_locals, with_saved_conditions}
use Rattle.gm_dissect.specs.Deferred.{copied, copy_of, defers, undeferred_loop, without_deferred_to}
use Rattle.gm_dissect.proofs.DeferredKept.{ready-without_deferred}
use Rattle.gm_dissect.proofs.DeferredLaws.{variable-longer}
use Rattle.gm_dissect.proofs.Kept.{Sound}
use Rattle.gm_dissect.proofs.SavedConditions.{ready-saved}
use Rattle.gm_parting.specs.Declared.{is_undeclared, names_of, declared_first, declared_loop, with_locals_declared}
use Rattle.gm_parting.specs.Filters.{saves_filter, filter_saved, filtered_loop, flag_property, with_saved_filters}
use Rattle.gm_parting.specs.Lasting.{has_numbered_ifs}
use Rattle.gm_parting.specs.Numbers.{with_numbers, above_ifs, numbered_loop, with_own_numbers, with_conditions_apart}
use Rattle.gm_parting.proofs.Loops.{sound-of}
use Rattle.gm_parting.proofs.Numbers.{ready-numbers}
use Rattle.gm_one_way.specs.Along.{AllAlong, EachAlong, ReadsAlong}
use Rattle.gm_one_way.proofs.ApartPrograms.{longer, stays-along}
use Rattle.gm_one_way.proofs.Walks.{each-along}

-- inner loops in a longer table
module _ (ds more-rows : List Declaration) where
  same-row : (x : ℕ) → x < length ds → variable_at (ds ++ more-rows) x ≡ variable_at ds x
  same-row x l = variable-longer ds more-rows x l

  pub all-stay : (n : ℕ) (s : Stmt) → NamesBelow (length ds) s → AllAlong ds n s → AllAlong (ds ++ more-rows) n s
  all-stay n (Then a b) l e = (all-stay n a l.0 e.0, all-stay n b l.1 e.1)
  all-stay n (If k c a b) l e = (all-stay n a l.1 e.0, all-stay n b l.2 e.1)
  all-stay n (Foreach k at h test body) l e = stays-along ds (ds ++ more-rows) same-row (longer ds more-rows) n h test body l.3 e
  all-stay n s l e = tt

-- ---- locals declared first

declared-along : (ds : List Declaration) (n : ℕ) (k : Key) (at : Place) (xs : List ℕ) (body : Stmt) → AllAlong ds n body → AllAlong ds n (declared_first k at xs body)
declared-along ds n k at [] body e = e
declared-along ds n k at (x ∷ xs) body e = (tt, (declared-along ds n k at xs body e, tt))

pub declared-keep : (p : Program) → Ready2 p → ReadsAlong p → ReadsAlong (with_locals_declared p)
declared-keep p r e = each-along p.declarations p.declarations p.result (declared_loop p.declarations) loops p.body (sound-of p r) e
  where
    loops : (k : Key) (at : Place) (h : Head) (mask : Expr) (body : Stmt) → Sound p.declarations p.result (Foreach k at h mask body) → AllAlong p.declarations h.iterator body → EachAlong p.declarations (declared_loop p.declarations k at h mask body)
    loops k at h mask body s e = by (is_own_loop h.iterator body)
      where
        by : (o : Bool) → EachAlong p.declarations (cond o (Foreach k at h mask body) (Foreach k at h mask (declared_first k at (filter (is_undeclared p.declarations body) (names_of body)) body)))
        by true = e
        by false = declared-along p.declarations h.iterator k at (filter (is_undeclared p.declarations body) (names_of body)) body e

-- ---- deferred writes

undeferred-along : (ds : List Declaration) (n p q : ℕ) (s : Stmt) → AllAlong ds n s → AllAlong ds n (undeferred p q s)
undeferred-along ds n p q (Then a b) e = (undeferred-along ds n p q a e.0, undeferred-along ds n p q b e.1)
undeferred-along ds n p q (If k c a b) e = (undeferred-along ds n p q a e.0, undeferred-along ds n p q b e.1)
undeferred-along ds n p q (Defer k (T.Scalar y at) v) e = tt
undeferred-along ds n p q (Defer k (T.Property y r at) v) e = by (nat_eq r p)
  where
    by : (o : Bool) → AllAlong ds n (cond o (Assign k (T.Property y q at) v) (Defer k (T.Property y r at) v))
    by true = tt
    by false = tt
undeferred-along ds n p q s e = e

one-deferred : (x : ℕ) (p : Program) → Ready2 p → ReadsAlong p → ReadsAlong (without_deferred_to x p)
one-deferred x p r e = each-along ds (ds ++ row) p.result (undeferred_loop x (length ds)) loops p.body (sound-of p r) e
  where
    ds : List Declaration
    ds = p.declarations

    row : List Declaration
    row = copy_of p.declarations x ∷ []

    loops : (k : Key) (at : Place) (h : Head) (mask : Expr) (body : Stmt) → Sound ds p.result (Foreach k at h mask body) → AllAlong ds h.iterator body → EachAlong (ds ++ row) (undeferred_loop x (length ds) k at h mask body)
    loops k at h mask body s e = by (defers x body)
      where
        stays : AllAlong (ds ++ row) h.iterator body
        stays = all-stay ds row h.iterator body (names-below ds (Foreach k at h mask body) s.named).3 e

        by : (o : Bool) → EachAlong (ds ++ row) (cond o (sequence (copied (length ds) x at h ∷ Foreach k at h mask (undeferred x (length ds) body) ∷ copied x (length ds) at h ∷ [])) (Foreach k at h mask body))
        by true = (tt, (undeferred-along (ds ++ row) h.iterator x (length ds) body stays, (tt, tt)))
        by false = stays

each-deferred : (xs : List ℕ) (p : Program) → Ready2 p → ReadsAlong p → ReadsAlong (without_each xs p)
each-deferred [] p r e = e
each-deferred (x ∷ xs) p r e = each-deferred xs (cond (some_defers x p.body) (without_deferred_to x p) p) (ready (some_defers x p.body)) (reads (some_defers x p.body))
  where
    ready : (o : Bool) → Ready2 (cond o (without_deferred_to x p) p)
    ready true = ready-without_deferred x p r
    ready false = r

    reads : (o : Bool) → ReadsAlong (cond o (without_deferred_to x p) p)
    reads true = one-deferred x p r e
    reads false = e

pub deferred-keep : (p : Program) → Ready2 p → ReadsAlong p → ReadsAlong (without_deferred p)
deferred-keep p r e = each-deferred (deferred_in p.body) p r e

-- ---- filters

pub filters-keep : (p : Program) → Ready2 p → ReadsAlong p → ReadsAlong (with_saved_filters p)
filters-keep p r e = each-along ds (ds ++ row) p.result (filtered_loop ds (length ds)) loops p.body (sound-of p r) e
  where
    ds : List Declaration
    ds = p.declarations

    row : List Declaration
    row = flag_property ∷ []

    loops : (k : Key) (at : Place) (h : Head) (mask : Expr) (body : Stmt) → Sound ds p.result (Foreach k at h mask body) → AllAlong ds h.iterator body → EachAlong (ds ++ row) (filtered_loop ds (length ds) k at h mask body)
    loops k at h mask body s e = by (saves_filter ds h.iterator mask body)
      where
        stays : AllAlong (ds ++ row) h.iterator body
        stays = all-stay ds row h.iterator body (names-below ds (Foreach k at h mask body) s.named).3 e

        by : (o : Bool) → EachAlong (ds ++ row) (cond o (filter_saved (length ds) k at h mask body) (Foreach k at h mask body))
        by true = (tt, (stays, tt))
        by false = stays

-- ---- conditions

saved-along : (ds : List Declaration) (n : ℕ) (local : Key → Option ℕ) (at : Place) (s : Stmt) → AllAlong ds n s → AllAlong ds n (with_saved local at s)
saved-along ds n local at (Then a b) e = (saved-along ds n local at a e.0, saved-along ds n local at b e.1)
saved-along ds n local at (If k c a b) e = by (local k) (saved-along ds n local at a e.0) (saved-along ds n local at b e.1)
  where
    by : (o : Option ℕ) → AllAlong ds n (with_saved local at a) → AllAlong ds n (with_saved local at b) → AllAlong ds n (saved_first o at k c (with_saved local at a) (with_saved local at b))
    by None p q = (p, q)
    by (Some y) p q = (tt, ((p, q), tt))
saved-along ds n local at s e = e

pub saved-keep : (p : Program) → Ready2 p → ReadsAlong p → ReadsAlong (with_saved_conditions p)
saved-keep p r e = each-along ds (ds ++ rows) p.result (saved_loop (local_of (length ds) (numbers_in p.body))) loops p.body (sound-of p r) e
  where
    ds : List Declaration
    ds = p.declarations

    rows : List Declaration
    rows = flag_locals (numbers_in p.body)

    loops : (k : Key) (at : Place) (h : Head) (mask : Expr) (body : Stmt) → Sound ds p.result (Foreach k at h mask body) → AllAlong ds h.iterator body → EachAlong (ds ++ rows) (saved_loop (local_of (length ds) (numbers_in p.body)) k at h mask body)
    loops k at h mask body s e = saved-along (ds ++ rows) h.iterator (local_of (length ds) (numbers_in p.body)) at body (all-stay ds rows h.iterator body (names-below ds (Foreach k at h mask body) s.named).3 e)

numbers-along : (ds : List Declaration) (n first : ℕ) (s : Stmt) → AllAlong ds n s → AllAlong ds n (with_numbers first s)
numbers-along ds n first (Then a b) e = (numbers-along ds n first a e.0, numbers-along ds n first b e.1)
numbers-along ds n first (If k c a b) e = (numbers-along ds n first a e.0, numbers-along ds n first b e.1)
numbers-along ds n first s e = e

numbers-keep : (p : Program) → Ready2 p → ReadsAlong p → ReadsAlong (with_own_numbers p)
numbers-keep p r e = each-along p.declarations p.declarations p.result numbered_loop (λ k at h mask body s e. numbers-along p.declarations h.iterator (above_ifs body) body e) p.body (sound-of p r) e

pub conditions-keep : (p : Program) → Ready2 p → ReadsAlong p → ReadsAlong (with_conditions_apart p)
conditions-keep p r e = by (has_numbered_ifs p)
  where
    by : (o : Bool) → ReadsAlong (cond o (with_saved_conditions p) (with_saved_conditions (with_own_numbers (with_saved_conditions p))))
    by true = saved-keep p r e
    by false =
        let a = with_saved_conditions p in
        let ra = ready-saved p r in
        saved-keep (with_own_numbers a) (ready-numbers a ra) (numbers-keep a ra (saved-keep p r e))

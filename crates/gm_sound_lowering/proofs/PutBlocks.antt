-- In a block of a program's image each global is put by one reduction.
use Rattle.std.proofs.Common.{◌≡◌, ℕ, suc, Bool, true, false, Option, Some, None, List, [], ◌∷◌, ◌++◌, map, length, refl, ap, ◌∙◌, sym, subst, ⊎_elim}
use Rattle.std.specs.Prelude.{◌+◌, nat_le, ◌⊎◌, ◌&&◌, if◌then◌else◌}
use Rattle.std.specs.List.{list_all, flat_map}
use Rattle.std.proofs.lemmas.Bool.{and_from}
use Rattle.gm_value.specs.declared.values.VType.{VType}
use Rattle.gm_value.specs.declared.values.VType.TheVariants as V
use Rattle.gm_value.specs.Numbers.{zero_of}
use Rattle.gm_ast.specs.declared.tree.Declaration.{Declaration}
use Rattle.gm_ast.specs.declared.tree.Head.{Head}
use Rattle.gm_ast.specs.declared.tree.Key.{Key}
use Rattle.gm_ast.specs.declared.tree.Sort.{Sort}
use Rattle.gm_ast.specs.declared.tree.Sort.TheVariants as Sorts
use Rattle.gm_ast.specs.declared.tree.Target.TheVariants as T
use Rattle.gm_ast.specs.Program as S
use Rattle.gm_ast.specs.Program.{Expr, Stmt, Program}
use Rattle.gm_forms.proofs.Named.{both-true}
use Rattle.gm_forms.specs.Sharing.{sights_in, sights_of, with_reads, reads_in, read_anywhere, read_elsewhere, written, deferred, reduced, shared_in, kept_in, disjoint, all_agree, shares_beside, shares, loops_share}
use Rattle.gm_forms.specs.Typing.{has_type, is_typed_in}
use Rattle.gm_forms.specs.Uses.{suits, Use, uses_in, uses_of_head, uses_of}
use Rattle.gm_semantics.specs.Statements.{variable_at}
use Rattle.gm_image.specs.declared.rules.ImageRule.TheVariants.{I9}
use Rattle.gm_image.specs.Soundness.{keeps}
use Rattle.gm_image.specs.Folds.{Reduction, puts_of, is_the_one, all_put}
use Rattle.gm_image.specs.Parts.{slots_of}
use Rattle.gm_image.specs.Program as image
use Rattle.gm_image.specs.Program.{Direction, Line, SetField, Fold, SetRegister, Put, Send, Skip, Each as EachLine, Step, Handler, Block}
use Rattle.gm_image.specs.Rows.{Row, InputRow, OutputRow, KindRow, LineRow, outside, body_rows, block_rows, handled_lines}
use Rattle.gm_image.specs.Term as M
use Rattle.gm_image.specs.Term.{Term}
use Rattle.gm_lowering.specs.Blocks.{body_block, load_term, receiver_env, own_site, each_site, receiver_site, taking_handlers, taking_blocks, direction_of, is_read_first, zero_line, zero_lines, own_loop, each_loop, message_loop, loop}
use Rattle.gm_lowering.specs.Bodies.{under, lines_of}
use Rattle.gm_lowering.specs.Layouts.{Layout, layout, those}
use Rattle.gm_lowering.specs.Lowered.{lowered}
use Rattle.gm_lowering.specs.Lowered as L
use Rattle.gm_lowering.specs.Lowered.{Frame, part, past, lines_on, places_on, deeper, declared_part, test_lines, body_part, start}
use Rattle.gm_lowering.specs.Places.{Segment, segment, spot_at, spots_in, shown_places}
use Rattle.gm_lowering.specs.Plans.{Away, aways, carried, is_here}
use Rattle.gm_lowering.specs.Terms.{term, master_env, own_env, each_env}
use Rattle.gm_sound_lowering.specs.Types.{is_placed}
use Rattle.gm_sound_lowering.proofs.BlockRows.{At, flat_at, each_at, handler_at, LinesPass, flat-rows, each-rows, HandlersPass, body-rows, taking-rows, under-cases}
use Rattle.gm_sound_lowering.proofs.Leaves.{placed-split, body-placed}
use Rattle.gm_sound_lowering.proofs.OneWay.{OneWay}
use Rattle.gm_sound_lowering.proofs.Rowwise.{all-both, all-always, after-always, no-commands, rows-pass}
use Rattle.gm_sound_lowering.specs.Laws.{PutsGoOneWay}
use Rattle.gm_sound_lowering.proofs.Spans.{Stay, lines-stay, under-stays, stay-no_each}
use Rattle.gm_sound_lowering.proofs.PutLines.{puts, joined, puts-both, nothing-behind, is_quiet, quiet-puts, body-one-way}

pub one-way-split : (before xs ys : List Reduction) → OneWay before (xs ++ ys) → OneWay before xs × OneWay (before ++ xs) ys
one-way-split before [] ys h = (tt, subst (λ us. OneWay us ys) (sym (nothing-behind before)) h)
one-way-split before (x ∷ xs) ys h = let r = one-way-split (before ++ x ∷ []) xs ys h.1 in ((h.0, r.0), subst (λ us. OneWay us ys) (sym (joined before (x ∷ []) xs)) r.1)

-- ---- the rule, line by line

module _ (i : image.Program) where
  abbrev f : Row → Bool
  f = all_put i

  puts-last : (earlier : List Line) (l : Line) (rs : List Reduction) → puts_of l ≡ rs → puts (earlier ++ l ∷ []) ≡ puts earlier ++ rs
  puts-last earlier l rs e = puts-both earlier (l ∷ []) ∙ ap (λ us. puts earlier ++ us) (nothing-behind (puts_of l) ∙ e)

  lines-pass : (at : At) → ((b e r : List Line) → (at b e r).earlier ≡ e) → (before earlier ls : List Line) → OneWay (puts earlier) (puts ls) → LinesPass f at before earlier ls
  lines-pass at same before earlier [] h = tt
  lines-pass at same before earlier (l ∷ ls) h = by l h (lines-pass at same (before ++ l ∷ []) (earlier ++ l ∷ []) ls) where
    line : (l : Line) → list_all (is_the_one (puts earlier)) (puts_of l) ≡ true → f (LineRow (at before earlier ls) l) ≡ true
    line l e = ap (λ xs. list_all (is_the_one (flat_map puts_of xs)) (puts_of l)) (same before earlier ls) ∙ e

    quiet : (l : Line) → puts_of l ≡ [] → OneWay (puts earlier) (puts ls) → (OneWay (puts (earlier ++ l ∷ [])) (puts ls) → LinesPass f at (before ++ l ∷ []) (earlier ++ l ∷ []) ls) → LinesPass f at before earlier (l ∷ ls)
    quiet l e h k = (line l (ap (list_all (is_the_one (puts earlier))) e), k (subst (λ xs. OneWay xs (puts ls)) (sym (puts-last earlier l [] e ∙ nothing-behind (puts earlier))) h))

    by : (l : Line) → OneWay (puts earlier) (puts (l ∷ ls)) → (OneWay (puts (earlier ++ l ∷ [])) (puts ls) → LinesPass f at (before ++ l ∷ []) (earlier ++ l ∷ []) ls) → LinesPass f at before earlier (l ∷ ls)
    by (Put r q ts) h k =
        let x : Reduction = record { reduce = r; slots = slots_of ts } in
        (line (Put r q ts) (and_from (is_the_one (puts earlier) x) true h.0 refl), k (subst (λ xs. OneWay xs (puts ls)) (sym (puts-last earlier (Put r q ts) (x ∷ []) refl)) h.1))
    by (SetField g a) h k = quiet (SetField g a) refl h k
    by (Fold r q ts) h k = quiet (Fold r q ts) refl h k
    by (SetRegister r a) h k = quiet (SetRegister r a) refl h k
    by (Send m to vs) h k = quiet (Send m to vs) refl h k
    by (Skip n a) h k = quiet (Skip n a) refl h k
    by (EachLine d n) h k = quiet (EachLine d n) refl h k

  abbrev BlockPuts : Block → Type 0
  BlockPuts b = list_all f (block_rows b) ≡ true

  flat-block : (ls : List Line) → Stay ls → OneWay [] (puts ls) → BlockPuts (body_block ls)
  flat-block ls st h = body-rows f ls refl (flat-rows f [] [] ls (stay-no_each ls st) (lines-pass flat_at (λ b e r. refl) [] [] ls h))

  each-block : (t : Term) (d : Direction) (ls : List Line) → OneWay [] (puts ls) → BlockPuts (body_block (under t (EachLine d (length ls) ∷ ls)))
  each-block t d ls h = body-rows f (under t (EachLine d (length ls) ∷ ls)) refl (by (under-cases t (EachLine d (length ls) ∷ ls))) where
    alone : (earlier : List Line) → puts (earlier ++ EachLine d (length ls) ∷ []) ≡ [] → list_all f (body_rows earlier outside (EachLine d (length ls) ∷ ls)) ≡ true
    alone earlier e = each-rows f d earlier ls refl (lines-pass (each_at d ls) (λ b e r. refl) [] (earlier ++ EachLine d (length ls) ∷ []) ls (subst (λ xs. OneWay xs (puts ls)) (sym e) h))

    by : (under t (EachLine d (length ls) ∷ ls) ≡ EachLine d (length ls) ∷ ls) ⊎ (under t (EachLine d (length ls) ∷ ls) ≡ Skip (suc (length ls)) t ∷ (EachLine d (length ls) ∷ ls))
        → list_all f (body_rows [] outside (under t (EachLine d (length ls) ∷ ls))) ≡ true
    by q = ⊎_elim (λ (e : under t (EachLine d (length ls) ∷ ls) ≡ EachLine d (length ls) ∷ ls). subst (λ ms. list_all f (body_rows [] outside ms) ≡ true) (sym e) (alone [] refl))
        (λ (e : under t (EachLine d (length ls) ∷ ls) ≡ Skip (suc (length ls)) t ∷ (EachLine d (length ls) ∷ ls)).
        subst (λ ms. list_all f (body_rows [] outside ms) ≡ true) (sym e) (alone (Skip (suc (length ls)) t ∷ []) refl)) q

  -- handlers one after another
  abbrev handled : List Handler → List Line
  handled hs = flat_map (λ h. h.lines) hs

  handlers-pass : (all earlier : List Line) (before hs : List Handler) → OneWay (puts earlier) (puts (handled hs)) → HandlersPass f all earlier before hs
  handlers-pass all earlier before [] h = tt
  handlers-pass all earlier before (x ∷ hs) h =
      let split = one-way-split (puts earlier) (puts x.lines) (puts (handled hs)) (subst (OneWay (puts earlier)) (puts-both x.lines (handled hs)) h) in (
        refl,
        lines-pass (handler_at x.kind all) (λ b e r. refl) [] earlier x.lines split.0,
        handlers-pass all (earlier ++ x.lines) (before ++ x ∷ []) hs (subst (λ xs. OneWay xs (puts (handled hs))) (sym (puts-both earlier x.lines)) split.1),
      )

  taking-block : (hs : List Handler) → OneWay [] (puts (handled hs)) → BlockPuts (record { handlers = hs; body = [] })
  taking-block hs h = taking-rows f hs refl (handlers-pass (handled_lines (record { handlers = hs; body = [] })) [] [] hs h)

  abbrev blocks_put : List Block → Bool
  blocks_put bs = list_all (λ b. list_all f (block_rows b)) bs

  takings-put : (c : Layout) (g : Segment) (m : ℕ) (xs : List Away) → blocks_put (taking_blocks c g m xs) ≡ true
  takings-put c g m [] = refl
  takings-put c g m (a ∷ more) = and_from _ true (taking-block (taking_handlers c g m (a ∷ more)) (subst (OneWay []) (sym (none m (a ∷ more))) tt)) refl where
    none : (m : ℕ) (xs : List Away) → puts (handled (taking_handlers c g m xs)) ≡ []
    none m [] = refl
    none m (x ∷ xs) = none (suc m) xs

under-puts : (t : Term) (ls : List Line) → puts (under t ls) ≡ puts ls
under-puts t ls = ⊎_elim (λ (e : under t ls ≡ ls). ap puts e) (λ (e : under t ls ≡ Skip (length ls) t ∷ ls). ap puts e) (under-cases t ls)

-- ---- what loops share

shares-agree : (ds : List Declaration) (elsewhere : List ℕ) (n : ℕ) (test : Expr) (body : Stmt) → shares_beside elsewhere ds n test body ≡ true → all_agree (reduced ds n false body) ≡ true
shares-agree ds elsewhere n test body h =
    let seen = with_reads (sights_in test) (sights_of ds n false body) in
    let all = reduced ds n false body in
    let own = written ds n false body in
    let a = both-true (disjoint (shared_in all) (read_anywhere seen.properties ++ (seen.scalars ++ own))) _ h in
    let b = both-true (disjoint (own ++ kept_in all) elsewhere) _ a.1 in
    let c = both-true (disjoint (deferred body) (own ++ (shared_in all ++ kept_in all))) _ b.1 in
    (both-true (all_agree all) _ c.1).0

-- ---- the blocks of loops

module _ (p : Program) where
  abbrev ds : List Declaration
  ds = p.declarations

  abbrev c : Layout
  c = layout p

  abbrev i : image.Program
  i = lowered p

  abbrev Named : List Use → Type 0
  Named us = list_all (is_placed p) us ≡ true

  abbrev all_blocks : List Block → Bool
  all_blocks bs = list_all (λ b. list_all (all_put i) (block_rows b)) bs

  own-puts : (result : Option VType) (base m n : ℕ) (k : Key) (test : Expr) (body : Stmt) → is_typed_in ds result body ≡ true → Named (uses_of body) → all_agree (reduced ds n false body) ≡ true → all_blocks (own_loop c base m n k test body).blocks ≡ true
  own-puts result base m n k test body h u a =
      let g = (own_loop c base m n k test body).segment in
      let t = term (own_env c g n) k test in
      let ls = lines_of (own_site c g n) m body in
      and_from _ (all_blocks (taking_blocks c g m (aways ds n body)))
      (flat-block i (under t ls) (under-stays t ls (lines-stay (own_site c g n) m body)) (subst (OneWay []) (sym (under-puts t ls)) (body-one-way p n n false (own_env c g n) (n ∷ []) true result m body h u a)))
      (takings-put i c g m (aways ds n body))

  zeros-quiet : (xs : List ℕ) → list_all is_quiet (map (zero_line c) xs) ≡ true
  zeros-quiet [] = refl
  zeros-quiet (x ∷ xs) = zeros-quiet xs

  each-puts : (result : Option VType) (base m n : ℕ) (k : Key) (mask : Expr) (j : Key) (h : Head) (test : Expr) (body : Stmt) → is_typed_in ds result body ≡ true → Named (uses_of body) → all_agree (reduced ds n true body) ≡ true
      → all_blocks (each_loop c base m n k mask j h test body).blocks ≡ true
  each-puts result base m n k mask j h test body y u a =
      let g = (each_loop c base m n k mask j h test body).segment in
      let it = h.iterator in
      let t = term (each_env c g n it) j test in
      let zs = zero_lines c body in
      let ls = lines_of (each_site c g n it) m body in
      let quiet = quiet-puts zs (zeros-quiet (those (is_read_first c body) (length ds))) in
      and_from _ (all_blocks (taking_blocks c g m (aways ds n body)))
      (each-block i (term (own_env c g n) k mask) (direction_of h.domain) (under t (zs ++ ls))
      (subst (OneWay []) (sym (under-puts t (zs ++ ls) ∙ puts-both zs ls ∙ ap (λ us. us ++ puts ls) quiet)) (body-one-way p n n true (each_env c g n it) (n ∷ (it ∷ [])) false result m body y u a)))
      (takings-put i c g m (aways ds n body))

  message-puts : (result : Option VType) (base m n : ℕ) (k : Key) (mask : Expr) (j : Key) (h : Head) (test : Expr) (body : Stmt) → is_typed_in ds result body ≡ true → Named (uses_of body) → all_agree (reduced ds n true body) ≡ true
      → all_blocks (message_loop c base m n k mask j h test body).blocks ≡ true
  message-puts result base m n k mask j h test body y u a =
      let g = (message_loop c base m n k mask j h test body).segment in
      let it = h.iterator in
      let loads = carried n test body in
      let t = term (receiver_env c g n it loads) j test in
      let ls = lines_of (receiver_site c g n it loads) (suc m) body in
      and_from _ _ (each-block i (term (own_env c g n) k mask) (direction_of h.domain) (Send m M.Neighbour (map (load_term c) loads) ∷ []) tt)
      (and_from _ (all_blocks (taking_blocks c g (suc m) (aways ds it body)))
      (taking-block i (record { kind = m; lines = under t ls } ∷ [])
      (subst (OneWay []) (sym (ap puts (nothing-left (under t ls)) ∙ under-puts t ls)) (body-one-way p n it true (receiver_env c g n it loads) (n ∷ (it ∷ [])) false result (suc m) body y u a)))
      (takings-put i c g (suc m) (aways ds it body))) where
        nothing-left : (xs : List Line) → xs ++ [] ≡ xs
        nothing-left [] = refl
        nothing-left (x ∷ xs) = ap (λ us. x ∷ us) (nothing-left xs)

  loop-puts : (result : Option VType) (base m n : ℕ) (k : Key) (test : Expr) (body : Stmt) → is_typed_in ds result body ≡ true → Named (uses_of body) → shares ds n test body ≡ true → all_blocks (loop c base m n k test body).blocks ≡ true
  loop-puts result base m n k mask (S.Foreach j at h test body) y u s =
      let y2 = both-true (has_type ds V.Flag test) (is_typed_in ds result body) y in
      let u2 = placed-split p (uses_in test) (uses_of body) (placed-split p (uses_of_head h) (uses_in test ++ uses_of body) u).1 in
      let a = shares-agree ds (read_elsewhere n (reads_in mask ++ (sights_of ds n false (S.Foreach j at h test body)).properties)) n mask (S.Foreach j at h test body) s in by (is_here ds n h test body) y2.1 u2.1 a where
        by : (b : Bool) → is_typed_in ds result body ≡ true → Named (uses_of body) → all_agree (reduced ds n true body) ≡ true
            → all_blocks (if b then each_loop c base m n k mask j h test body else message_loop c base m n k mask j h test body).blocks ≡ true
        by true y u a = each-puts result base m n k mask j h test body y u a
        by false y u a = message-puts result base m n k mask j h test body y u a
  loop-puts result base m n k test body y u s =
      own-puts result base m n k test body y u (shares-agree ds (read_elsewhere n (reads_in test ++ (sights_of ds n false body).properties)) n test body s)

  -- ---- the blocks of statements

  module _ (finish : ℕ) where
    abbrev w : Frame
    w = record { layout = c; finish = finish }

    declared-puts : (at : L.At) (s : Sort) (t : VType) (x : ℕ) → all_blocks (declared_part w at s t x).blocks ≡ true
    declared-puts at Sorts.NodeProperty t x = by (w.layout.is_kept x) where
      by : (b : Bool) → all_blocks (if b then record { commands = Step at.block ∷ []; blocks = body_block (SetField (w.layout.field x) (M.Const (zero_of t)) ∷ []) ∷ []; places = [] } else L.no_part).blocks ≡ true
      by true = refl
      by false = refl
    declared-puts at Sorts.Scalar t x = refl
    declared-puts at Sorts.Graph t x = refl
    declared-puts at Sorts.Iterator t x = refl
    declared-puts at Sorts.Edge t x = refl
    declared-puts at Sorts.EdgeProperty t x = refl

    part-puts : (result : Option VType) (s : Stmt) (at : L.At) → is_typed_in ds result s ≡ true → Named (uses_of s) → loops_share ds s ≡ true → all_blocks (part w s at).blocks ≡ true
    part-puts result (S.Then a b) at h u s =
        let x = part w a at in
        let next = past w at a x in
        let h2 = both-true (is_typed_in ds result a) (is_typed_in ds result b) h in
        let u2 = placed-split p (uses_of a) (uses_of b) u in
        let s2 = both-true (loops_share ds a) (loops_share ds b) s in
        all-both (λ b. list_all (all_put i) (block_rows b)) x.blocks (part w b next).blocks (part-puts result a at h2.0 u2.0 s2.0) (part-puts result b next h2.1 u2.1 s2.1)
    part-puts result (S.Declare k x None) at h u s = let v = variable_at ds x in declared-puts at v.sort v.vtype x
    part-puts result (S.Declare k x (Some e)) at h u s = refl
    part-puts result (S.Assign k (T.Scalar x place) e) at h u s = refl
    part-puts result (S.Assign k (T.Property x q place) e) at h u s = refl
    part-puts result (S.Combine k total r ts es) at h u s = refl
    part-puts result (S.Foreach k place head test body) at h u s =
        let h2 = both-true (has_type ds V.Flag test) (is_typed_in ds result body) h in
        let u2 = placed-split p (uses_in test) (uses_of body) (placed-split p (uses_of_head head) (uses_in test ++ uses_of body) u).1 in
        loop-puts result at.place at.kind head.iterator k test body h2.1 u2.1 s
    part-puts result (S.Return k place None) at h u s = refl
    part-puts result (S.Return k place (Some e)) at h u s = refl
    part-puts result (S.If k e a b) at h u s =
        let g = segment at.place (spots_in e k) in
        let start = lines_on 1 (places_on (shown_places g) at) in
        let x = part w a start in
        let other = lines_on 1 (past w start a x) in
        let h2 = both-true (is_typed_in ds result a) (is_typed_in ds result b) (both-true (has_type ds V.Flag e) (is_typed_in ds result a && is_typed_in ds result b) h).1 in
        let u2 = placed-split p (uses_of a) (uses_of b) (placed-split p (uses_in e) (uses_of a ++ uses_of b) u).1 in
        let s2 = both-true (loops_share ds a) (loops_share ds b) s in
        all-both (λ b. list_all (all_put i) (block_rows b)) x.blocks (part w b other).blocks (part-puts result a start h2.0 u2.0 s2.0) (part-puts result b other h2.1 u2.1 s2.1)
    part-puts result (S.While k place e body) at h u s =
        let g = segment at.place (spots_in e k) in
        part-puts result body (lines_on 1 (places_on (shown_places g) at)) (both-true (has_type ds V.Flag e) (is_typed_in ds result body) h).1 (placed-split p (uses_in e) (uses_of body) u).1 s
    part-puts result (S.Do k place body e) at h u s =
        let g = segment at.place (spots_in e k) in
        part-puts result body (lines_on 3 (deeper (places_on (shown_places g) at))) (both-true (is_typed_in ds result body) (has_type ds V.Flag e) h).0 (placed-split p (uses_of body) (uses_in e) u).0 s
    part-puts result (S.For k place head e body) at h u s =
        let g = segment at.place (spot_at k place ∷ spots_in e k) in
        let tests = length (test_lines 0 (term (master_env c g) k e)) in
        part-puts result body (lines_on (4 + tests) (deeper (places_on (shown_places g) at))) (both-true (has_type ds V.Flag e) (is_typed_in ds result body) h).1
        (placed-split p (uses_in e) (uses_of body) (placed-split p (uses_of_head head) (uses_in e ++ uses_of body) u).1).1 s
    part-puts result S.Skip at h u s = refl
    part-puts result (S.DeclareEdge x y place) at h u s = refl
    part-puts result (S.Defer k t e) at h u s = refl
    part-puts result (S.Group k place x y e) at h u s = refl
    part-puts result (S.InBfs k place how test body) at h u s = refl
    part-puts result (S.InBfsBoth k place how test body back_key back_test back) at h u s = refl

pub puts-go-one-way : PutsGoOneWay
puts-go-one-way p typed named free =
    let i = lowered p in
    let f : Row → Bool = λ row. keeps i row I9 in
    let u = both-true (nat_le (p.inputs + p.outputs) (length p.declarations)) (list_all (suits p.declarations) (uses_of p.body)) named in
    rows-pass f i (record {
      plain = refl;
      name = refl;
      inputs = after-always f InputRow (λ b i. refl) [] i.inputs;
      outputs = after-always f OutputRow (λ b i. refl) [] i.outputs;
      result = refl;
      columns = refl;
      kinds = all-always (λ k. f (KindRow k)) (λ k. refl) i.kinds;
      blocks = part-puts p (length (body_part p 0).commands) p.result p.body start typed (body-placed p u.1) free;
      list = refl;
      commands = no-commands f (λ j c. refl) 0 i.master;
    })

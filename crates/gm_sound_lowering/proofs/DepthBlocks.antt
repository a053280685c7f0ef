-- How deep the expressions of a program's image are, block by block and statement by statement.
use Rattle.std.proofs.Common.{◌≡◌, ◌≤◌, inl, inr, ℕ, suc, Bool, true, false, Some, None, List, [], ◌∷◌, ◌++◌, map, length, refl, ap, ◌∙◌, sym, subst, arith, ⊎_elim}
use Rattle.std.specs.Prelude.{◌+◌, ◌⊎◌, ◌&&◌, nat_eq, if◌then◌else◌}
use Rattle.std.specs.List.{list_all}
use Rattle.std.proofs.lemmas.Bool.{and_from}
use Rattle.gm_base.specs.declared.places.Place.{Place}
use Rattle.gm_value.specs.declared.values.VType.{VType}
use Rattle.gm_value.specs.declared.values.Value.TheVariants.{Flag}
use Rattle.gm_value.specs.Numbers.{zero_of}
use Rattle.gm_ast.specs.declared.tree.Declaration.{Declaration}
use Rattle.gm_ast.specs.declared.tree.Direction.{Direction}
use Rattle.gm_ast.specs.declared.tree.Direction.TheVariants as D
use Rattle.gm_ast.specs.declared.tree.Head.{Head}
use Rattle.gm_ast.specs.declared.tree.Key.{Key}
use Rattle.gm_ast.specs.declared.tree.Sort.{Sort}
use Rattle.gm_ast.specs.declared.tree.Sort.TheVariants as Sorts
use Rattle.gm_ast.specs.declared.tree.Target.{Target}
use Rattle.gm_ast.specs.declared.tree.Target.TheVariants as T
use Rattle.gm_ast.specs.Program as S
use Rattle.gm_ast.specs.Program.{Expr, Stmt, Program}
use Rattle.gm_depth.specs.Depths.{is_within, all_within}
use Rattle.gm_forms.proofs.Named.{both-true}
use Rattle.gm_semantics.specs.Levels.{numbers_from}
use Rattle.gm_semantics.specs.Statements.{variable_at}
use Rattle.gm_image.specs.Parts.{depth, is_shallow, command_terms, terms_of}
use Rattle.gm_image.specs.Program.{Line, SetField, Send, Skip, Each as EachLine, Fold, Handler, Block, Command, SetGlobal, Step, Jump, Test, Turn, Back, Finish}
use Rattle.gm_image.specs.Rows.{Row, InputRow, OutputRow, KindRow, Around, outside, body_rows, handler_rows, handlers_rows, handled_lines, block_rows, command_rows}
use Rattle.gm_image.specs.Term as M
use Rattle.gm_image.specs.Term.{Term}
use Rattle.gm_lowering.specs.Blocks.{body_block, load_term, message_value, message_values, receiver_env, own_site, each_site, receiver_site, taking_handler, taking_handlers, taking_blocks, direction_of, is_read_first, zero_line, zero_lines, own_loop, each_loop, message_loop, loop}
use Rattle.gm_lowering.specs.Bodies.{under, lines_of, image_targets, kept_lines, with_types}
use Rattle.gm_lowering.specs.Layouts.{Layout, layout, those, is_register, is_global}
use Rattle.gm_lowering.specs.Lowered.{lowered}
use Rattle.gm_lowering.specs.Lowered as L
use Rattle.gm_lowering.specs.Lowered.{Frame, Part, part, past, lines_on, places_on, deeper, steps_from, declared_part, choice, test_lines, counts, next_count, body_part, start}
use Rattle.gm_lowering.specs.Places.{Segment, segment, spot_at, spots_in, spots_in_all, shown_places, total_index}
use Rattle.gm_lowering.specs.Plans.{Away, aways, carried, is_here, Load, SenderItself, SenderProperty, SenderDegree, EdgeValue}
use Rattle.gm_lowering.specs.Terms.{Env, term, master_env, own_env, each_env, own_degree, vertex_scalar, phase_scalar}
use Rattle.gm_sound_lowering.specs.Entries.{keeps_few, loop_keeps_few, phase_keeps_few}
use Rattle.gm_sound_lowering.specs.Laws.{is_shallow_row, ImagesAreShallow}
use Rattle.gm_sound_lowering.proofs.BlockRows.{under-cases}
use Rattle.gm_sound_lowering.proofs.Depths.{one-low, is_low, IsFlatEnv, term-low, all-low, low-term, kept-low, few-kept, held-low, lines-low}
use Rattle.gm_sound_lowering.proofs.Rowwise.{all-both, all-mapped, all-always, after-always, rows-pass}

-- ---- rows

abbrev is_low_handler : Handler → Bool
is_low_handler h = list_all is_low h.lines

abbrev is_low_block : Block → Bool
is_low_block b = list_all is_low_handler b.handlers && list_all is_low b.body

abbrev is_low_command : Command → Bool
is_low_command c = list_all is_shallow (command_terms c)

body-low : (earlier : List Line) (a : Around) (ls : List Line) → list_all is_low ls ≡ true → list_all is_shallow_row (body_rows earlier a ls) ≡ true
body-low earlier a [] h = refl
body-low earlier a (l ∷ ls) h = let b = both-true (is_low l) (list_all is_low ls) h in and_from (is_low l) _ b.0 (body-low (earlier ++ l ∷ []) _ ls b.1)

handler-low : (all : List Line) (kind : ℕ) (earlier ls : List Line) → list_all is_low ls ≡ true → list_all is_shallow_row (handler_rows all kind earlier ls) ≡ true
handler-low all kind earlier [] h = refl
handler-low all kind earlier (l ∷ ls) h = let b = both-true (is_low l) (list_all is_low ls) h in and_from (is_low l) _ b.0 (handler-low all kind (earlier ++ l ∷ []) ls b.1)

handlers-low : (all earlier : List Line) (before hs : List Handler) → list_all is_low_handler hs ≡ true → list_all is_shallow_row (handlers_rows all earlier before hs) ≡ true
handlers-low all earlier before [] h = refl
handlers-low all earlier before (x ∷ hs) h =
    let b = both-true (is_low_handler x) (list_all is_low_handler hs) h in
    all-both is_shallow_row (handler_rows all x.kind earlier x.lines) (handlers_rows all (earlier ++ x.lines) (before ++ x ∷ []) hs) (handler-low all x.kind earlier x.lines b.0) (handlers-low all (earlier ++ x.lines) (before ++ x ∷ []) hs b.1)

block-low : (b : Block) → is_low_block b ≡ true → list_all is_shallow_row (block_rows b) ≡ true
block-low b h =
    let q = both-true (list_all is_low_handler b.handlers) (list_all is_low b.body) h in
    all-both is_shallow_row (handlers_rows (handled_lines b) [] [] b.handlers) _ (handlers-low (handled_lines b) [] [] b.handlers q.0) (body-low (handled_lines b) outside b.body q.1)

blocks-low : (bs : List Block) → list_all is_low_block bs ≡ true → list_all (λ b. list_all is_shallow_row (block_rows b)) bs ≡ true
blocks-low [] h = refl
blocks-low (b ∷ bs) h = let q = both-true (is_low_block b) (list_all is_low_block bs) h in and_from (list_all is_shallow_row (block_rows b)) _ (block-low b q.0) (blocks-low bs q.1)

commands-low : (j : ℕ) (cs : List Command) → list_all is_low_command cs ≡ true → list_all is_shallow_row (command_rows j cs) ≡ true
commands-low j [] h = refl
commands-low j (c ∷ cs) h = let b = both-true (is_low_command c) (list_all is_low_command cs) h in and_from (is_low_command c) (list_all is_shallow_row (command_rows (suc j) cs)) b.0 (commands-low (suc j) cs b.1)

-- ---- environments

leaf-one : (a b : Term) (x : Bool) → depth a ≤ 1 → depth b ≤ 1 → depth (if x then a else b) ≤ 1
leaf-one a b true h k = h
leaf-one a b false h k = k

module _ (c : Layout) (g : Segment) where
  phase-leaf : (x : ℕ) → depth (phase_scalar c x) ≤ 1
  phase-leaf x = leaf-one (M.Global (c.global x)) (M.Const (zero_of (variable_at c.declarations x).vtype)) (is_global (variable_at c.declarations x)) (omega arith) (omega arith)

  vertex-leaf : (x : ℕ) → depth (vertex_scalar c x) ≤ 1
  vertex-leaf x = leaf-one (M.Register (c.register x)) (phase_scalar c x) (is_register (variable_at c.declarations x)) (omega arith) (phase-leaf x)

  degree-leaf : (d : Direction) → depth (own_degree d) ≤ 1
  degree-leaf D.Out = omega arith
  degree-leaf D.In = omega arith

  master-flat : IsFlatEnv (master_env c g)
  master-flat = record { scalar = phase-leaf; property = λ x q. omega arith; degree = λ d x. degree-leaf d; edge = λ q. omega arith }

  own-leaf : (n x : ℕ) → depth ((own_env c g n).scalar x) ≤ 1
  own-leaf n x = leaf-one M.Self (vertex_scalar c x) (nat_eq x n) (omega arith) (vertex-leaf x)

  own-flat : (n : ℕ) → IsFlatEnv (own_env c g n)
  own-flat n = record { scalar = own-leaf n; property = λ x q. omega arith; degree = λ d x. degree-leaf d; edge = λ q. omega arith }

  each-flat : (n it : ℕ) → IsFlatEnv (each_env c g n it)
  each-flat n it = record {
    scalar = λ x. leaf-one M.Neighbour ((own_env c g n).scalar x) (nat_eq x it) (omega arith) (own-leaf n x);
    property = λ x q. omega arith;
    degree = λ d x. degree-leaf d;
    edge = λ q. omega arith;
  }

  receiver-flat : (n it : ℕ) (loads : List Load) → IsFlatEnv (receiver_env c g n it loads)
  receiver-flat n it loads = record {
    scalar = λ x. leaf-one (message_value loads SenderItself) ((own_env c g it).scalar x) (nat_eq x n) (omega arith) (own-leaf it x);
    property = λ x q. leaf-one (message_value loads (SenderProperty q)) (M.Field (c.field q)) (nat_eq x n) (omega arith) (omega arith);
    degree = λ d x. leaf-one (message_value loads (SenderDegree d)) (own_degree d) (nat_eq x n) (omega arith) (degree-leaf d);
    edge = λ q. omega arith;
  }

load-leaf : (c : Layout) (l : Load) → is_shallow (load_term c l) ≡ true
load-leaf c SenderItself = refl
load-leaf c (SenderProperty q) = refl
load-leaf c (SenderDegree D.Out) = refl
load-leaf c (SenderDegree D.In) = refl
load-leaf c (EdgeValue q) = refl

-- ---- the blocks of loops

under-low : (t : Term) (ls : List Line) → is_shallow t ≡ true → list_all is_low ls ≡ true → list_all is_low (under t ls) ≡ true
under-low t ls h k =
    ⊎_elim (λ (e : under t ls ≡ ls). subst (λ xs. list_all is_low xs ≡ true) (sym e) k)
    (λ (e : under t ls ≡ Skip (length ls) t ∷ ls). subst (λ xs. list_all is_low xs ≡ true) (sym e) (and_from (is_low (Skip (length ls) t)) (list_all is_low ls) (and_from (is_shallow t) true h refl) k)) (under-cases t ls)

module _ (limit : ℕ) (room : limit + 3 ≤ 1024) (p : Program) where
  abbrev ds : List Declaration
  ds = p.declarations

  abbrev c : Layout
  c = layout p

  abbrev all_low : List Block → Bool
  all_low bs = list_all is_low_block bs

  takings-low : (g : Segment) (m : ℕ) (xs : List Away) → all_low (taking_blocks c g m xs) ≡ true
  takings-low g m [] = refl
  takings-low g m (a ∷ more) = and_from (is_low_block (record { handlers = taking_handlers c g m (a ∷ more); body = [] })) true (and_from (list_all is_low_handler (taking_handlers c g m (a ∷ more))) true (handlers m (a ∷ more)) refl) refl where
    terms : (j : ℕ) (ts : List Target) → list_all is_shallow (terms_of (image_targets c ts (message_values j ts))) ≡ true
    terms j [] = refl
    terms j (t ∷ ts) = terms (suc j) ts

    handlers : (m : ℕ) (xs : List Away) → list_all is_low_handler (taking_handlers c g m xs) ≡ true
    handlers m [] = refl
    handlers m (a ∷ more) =
        and_from (is_low_handler (taking_handler c g m a)) (list_all is_low_handler (taking_handlers c g (suc m) more))
        (and_from (is_low (Fold a.reduce (total_index g a.total) (image_targets c a.targets (message_values 0 a.targets)))) true (terms 0 a.targets) refl) (handlers (suc m) more)

  zeros-low : (xs : List ℕ) → list_all is_low (map (zero_line c) xs) ≡ true
  zeros-low [] = refl
  zeros-low (x ∷ xs) = zeros-low xs

  shallow : (v : Env) → IsFlatEnv v → (k : Key) (e : Expr) → is_within limit e ≡ true → is_shallow (term v k e) ≡ true
  shallow v h k e w = low-term limit room (term v k e) (term-low limit v h k e w)

  own-low : (base m n : ℕ) (k : Key) (test : Expr) (body : Stmt) → is_within limit test ≡ true → all_within limit body ≡ true → keeps_few ds n body ≡ true → all_low (own_loop c base m n k test body).blocks ≡ true
  own-low base m n k test body w u f =
      let g = (own_loop c base m n k test body).segment in
      let t = term (own_env c g n) k test in
      let ls = lines_of (own_site c g n) m body in
      and_from (list_all is_low (under t ls)) (all_low (taking_blocks c g m (aways ds n body))) (under-low t ls (shallow (own_env c g n) (own-flat c g n) k test w) (lines-low limit room (own_site c g n) (own-flat c g n) m body u f))
      (takings-low g m (aways ds n body))

  each-low : (base m n : ℕ) (k : Key) (mask : Expr) (j : Key) (h : Head) (test : Expr) (body : Stmt) → is_within limit mask ≡ true → is_within limit test ≡ true → all_within limit body ≡ true → keeps_few ds n body ≡ true
      → all_low (each_loop c base m n k mask j h test body).blocks ≡ true
  each-low base m n k mask j h test body wm w u f =
      let g = (each_loop c base m n k mask j h test body).segment in
      let it = h.iterator in
      let t = term (each_env c g n it) j test in
      let zs = zero_lines c body in
      let ls = lines_of (each_site c g n it) m body in
      let lines = under t (zs ++ ls) in
      let outer = term (own_env c g n) k mask in
      let all = EachLine (direction_of h.domain) (length lines) ∷ lines in
      and_from (list_all is_low (under outer all)) (all_low (taking_blocks c g m (aways ds n body)))
      (under-low outer all (shallow (own_env c g n) (own-flat c g n) k mask wm)
      (under-low t (zs ++ ls) (shallow (each_env c g n it) (each-flat c g n it) j test w)
      (all-both is_low zs ls (zeros-low (those (is_read_first c body) (length ds))) (lines-low limit room (each_site c g n it) (each-flat c g n it) m body u f))))
      (takings-low g m (aways ds n body))

  message-low : (base m n : ℕ) (k : Key) (mask : Expr) (j : Key) (h : Head) (test : Expr) (body : Stmt) → is_within limit mask ≡ true → is_within limit test ≡ true → all_within limit body ≡ true → keeps_few ds h.iterator body ≡ true
      → all_low (message_loop c base m n k mask j h test body).blocks ≡ true
  message-low base m n k mask j h test body wm w u f =
      let g = (message_loop c base m n k mask j h test body).segment in
      let it = h.iterator in
      let loads = carried n test body in
      let t = term (receiver_env c g n it loads) j test in
      let ls = lines_of (receiver_site c g n it loads) (suc m) body in
      let lines = under t ls in
      let outer = term (own_env c g n) k mask in
      let send = Send m M.Neighbour (map (load_term c) loads) in
      let all = EachLine (direction_of h.domain) 1 ∷ (send ∷ []) in
      let handler : Handler = record { kind = m; lines = lines } in
      let more = taking_blocks c g (suc m) (aways ds it body) in
      let sent : list_all is_low (send ∷ []) ≡ true = and_from (is_low send) true (all-mapped is_shallow (load_term c) loads (all-always (λ l. is_shallow (load_term c l)) (load-leaf c) loads)) refl in
      and_from (list_all is_low (under outer all)) (all_low (record { handlers = handler ∷ []; body = [] } ∷ more)) (under-low outer all (shallow (own_env c g n) (own-flat c g n) k mask wm) sent)
      (and_from (is_low_block (record { handlers = handler ∷ []; body = [] })) (all_low more)
      (and_from (list_all is_low_handler (handler ∷ [])) true
      (and_from (is_low_handler handler) true
      (under-low t ls (shallow (receiver_env c g n it loads) (receiver-flat c g n it loads) j test w) (lines-low limit room (receiver_site c g n it loads) (receiver-flat c g n it loads) (suc m) body u f)) refl) refl)
      (takings-low g (suc m) (aways ds it body)))

  loop-low : (base m n : ℕ) (k : Key) (test : Expr) (body : Stmt) → is_within limit test ≡ true → all_within limit body ≡ true → loop_keeps_few ds n body ≡ true → all_low (loop c base m n k test body).blocks ≡ true
  loop-low base m n k mask (S.Foreach j at h test body) wm w f =
      let w2 = both-true (is_within limit test) (all_within limit body) w in by (is_here ds n h test body) f w2.0 w2.1 where
        by : (b : Bool) → keeps_few ds (if b then n else h.iterator) body ≡ true → is_within limit test ≡ true → all_within limit body ≡ true
            → all_low (if b then each_loop c base m n k mask j h test body else message_loop c base m n k mask j h test body).blocks ≡ true
        by true f w u = each-low base m n k mask j h test body wm w u f
        by false f w u = message-low base m n k mask j h test body wm w u f
  loop-low base m n k test body wm w f = own-low base m n k test body wm w f

  -- ---- statements

  record IsLowPart (x : Part) : Type 0 where
    commands : list_all is_low_command x.commands ≡ true
    blocks : all_low x.blocks ≡ true

  module _ (finish : ℕ) where
    abbrev w : Frame
    w = record { layout = c; finish = finish }

    abbrev Is : Part → Type 0
    Is x = IsLowPart x

    set-global : (t : Target) (a : Term) → depth a ≤ 1024 → is_low_command (L.set_global c t a) ≡ true
    set-global (T.Scalar x at) a h = one-low a h
    set-global (T.Property x q at) a h = one-low a h

    one : (cs : List Command) (places : List Place) → list_all is_low_command cs ≡ true → Is (L.commands_with cs places)
    one cs places h = record { commands = h; blocks = refl }

    choice-low : (t : Term) (behind : ℕ) (a b : List Command) → is_shallow t ≡ true → list_all is_low_command a ≡ true → list_all is_low_command b ≡ true → list_all is_low_command (choice t behind a b) ≡ true
    choice-low t behind a [] h k l = and_from (is_low_command (Test behind t)) (list_all is_low_command a) (and_from (is_shallow t) true h refl) k
    choice-low t behind a (m ∷ ms) h k l =
        and_from (is_low_command (Test (suc behind) t)) _ (and_from (is_shallow t) true h refl) (all-both is_low_command a (Jump (suc behind + length (m ∷ ms)) ∷ (m ∷ ms)) k l)

    tests-low : (to : ℕ) (t : Term) → is_shallow t ≡ true → list_all is_low_command (test_lines to t) ≡ true
    tests-low to t h = ⊎_elim (λ (e : test_lines to t ≡ []). ap (list_all is_low_command) e) (λ (e : test_lines to t ≡ Test to t ∷ []). ap (list_all is_low_command) e ∙ and_from (is_low_command (Test to t)) true (and_from (is_shallow t) true h refl) refl) (cases t) where
      cases : (t : Term) → (test_lines to t ≡ []) ⊎ (test_lines to t ≡ Test to t ∷ [])
      cases (M.Const (Flag true)) = inl refl
      cases t = inr refl

    declared-low : (at : L.At) (s : Sort) (t : VType) (x : ℕ) → Is (declared_part w at s t x)
    declared-low at Sorts.NodeProperty t x = by (w.layout.is_kept x) where
      by : (b : Bool) → Is (if b then record { commands = Step at.block ∷ []; blocks = body_block (SetField (w.layout.field x) (M.Const (zero_of t)) ∷ []) ∷ []; places = [] } else L.no_part)
      by true = record { commands = refl; blocks = refl }
      by false = record { commands = refl; blocks = refl }
    declared-low at Sorts.Scalar t x = record { commands = refl; blocks = refl }
    declared-low at Sorts.Graph t x = record { commands = refl; blocks = refl }
    declared-low at Sorts.Iterator t x = record { commands = refl; blocks = refl }
    declared-low at Sorts.Edge t x = record { commands = refl; blocks = refl }
    declared-low at Sorts.EdgeProperty t x = record { commands = refl; blocks = refl }

    master-term : (at : L.At) (k : Key) (e : Expr) (g : Segment) → is_within limit e ≡ true → is_shallow (term (master_env c g) k e) ≡ true
    master-term at k e g h = shallow (master_env c g) (master-flat c g) k e h

    part-low : (s : Stmt) (at : L.At) → all_within limit s ≡ true → phase_keeps_few ds s ≡ true → Is (part w s at)
    part-low (S.Then a b) at h f =
        let x = part w a at in
        let next = past w at a x in
        let h2 = both-true (all_within limit a) (all_within limit b) h in
        let f2 = both-true (phase_keeps_few ds a) (phase_keeps_few ds b) f in
        let pa = part-low a at h2.0 f2.0 in
        let pb = part-low b next h2.1 f2.1 in
        record { commands = all-both is_low_command x.commands (part w b next).commands pa.commands pb.commands; blocks = all-both is_low_block x.blocks (part w b next).blocks pa.blocks pb.blocks }
    part-low (S.Declare k x None) at h f = let v = variable_at ds x in declared-low at v.sort v.vtype x
    part-low (S.Declare k x (Some e)) at h f =
        let g = segment at.place (spots_in e k) in
        one (SetGlobal (w.layout.global x) (term (master_env c g) k e) ∷ []) (shown_places g) (and_from (is_low_command (SetGlobal (w.layout.global x) (term (master_env c g) k e))) true (and_from (is_shallow (term (master_env c g) k e)) true (master-term at k e g h) refl) refl)
    part-low (S.Assign k (T.Scalar x place) e) at h f =
        let g = segment at.place (spots_in e k) in
        one (SetGlobal (w.layout.global x) (term (master_env c g) k e) ∷ []) (shown_places g) (and_from (is_low_command (SetGlobal (w.layout.global x) (term (master_env c g) k e))) true (and_from (is_shallow (term (master_env c g) k e)) true (master-term at k e g h) refl) refl)
    part-low (S.Assign k (T.Property x q place) e) at h f = record { commands = refl; blocks = refl }
    part-low (S.Combine k total r ts es) at h f =
        let g = segment at.place (spots_in_all es k) in
        let v = master_env c g in
        one (kept_lines (L.keeping c v) r (with_types c ts) (map (term v k) es)) (shown_places g)
        (kept-low limit room (L.keeping c v) is_low_command set-global (λ i t a l. one-low a l) (held-low limit room v (master-flat c g)) (λ i t. omega arith) r (with_types c ts) (map (term v k) es) (few-kept limit room c ts f)
        (all-low limit v (master-flat c g) k es h))
    part-low (S.Foreach k place head test body) at h f =
        let h2 = both-true (is_within limit test) (all_within limit body) h in
        let l = loop c at.place at.kind head.iterator k test body in
        record {
          commands = all-mapped is_low_command Step (numbers_from at.block (length l.blocks)) (all-always (λ _. true) (λ _. refl) (numbers_from at.block (length l.blocks)));
          blocks = loop-low at.place at.kind head.iterator k test body h2.0 h2.1 f;
        }
    part-low (S.Return k place None) at h f = record { commands = refl; blocks = refl }
    part-low (S.Return k place (Some e)) at h f =
        let g = segment at.place (spots_in e k) in
        let t = term (master_env c g) k e in
        one (SetGlobal w.layout.result t ∷ (Jump w.finish ∷ [])) (shown_places g) (and_from (is_low_command (SetGlobal w.layout.result t)) true (and_from (is_shallow t) true (master-term at k e g h) refl) refl)
    part-low (S.If k e a b) at h f =
        let g = segment at.place (spots_in e k) in
        let start = lines_on 1 (places_on (shown_places g) at) in
        let x = part w a start in
        let behind = past w start a x in
        let other = lines_on 1 behind in
        let h2 = both-true (is_within limit e) (all_within limit a && all_within limit b) h in
        let h3 = both-true (all_within limit a) (all_within limit b) h2.1 in
        let f2 = both-true (phase_keeps_few ds a) (phase_keeps_few ds b) f in
        let pa = part-low a start h3.0 f2.0 in
        let pb = part-low b other h3.1 f2.1 in
        record {
          commands = choice-low (term (master_env c g) k e) behind.line x.commands (part w b other).commands (master-term at k e g h2.0) pa.commands pb.commands;
          blocks = all-both is_low_block x.blocks (part w b other).blocks pa.blocks pb.blocks;
        }
    part-low (S.While k place e body) at h f =
        let g = segment at.place (spots_in e k) in
        let start = lines_on 1 (places_on (shown_places g) at) in
        let x = part w body start in
        let t = term (master_env c g) k e in
        let h2 = both-true (is_within limit e) (all_within limit body) h in
        let pb = part-low body start h2.1 f in
        record {
          commands = and_from (is_low_command (Turn (start.line + length x.commands + 1) t)) _ (and_from (is_shallow t) true (master-term at k e g h2.0) refl) (all-both is_low_command x.commands (Back at.line ∷ []) pb.commands refl);
          blocks = pb.blocks;
        }
    part-low (S.Do k place body e) at h f =
        let g = segment at.place (spots_in e k) in
        let start = lines_on 3 (deeper (places_on (shown_places g) at)) in
        let x = part w body start in
        let t = term (master_env c g) k e in
        let h2 = both-true (all_within limit body) (is_within limit e) h in
        let pb = part-low body start h2.0 f in
        let or = M.Or (M.Global (c.flag at.depth)) t in
        let l = term-low limit (master_env c g) (master-flat c g) k e h2.1 in
        record {
          commands = and_from (is_low_command (Turn (start.line + length x.commands + 1) or)) _ (one-low or (omega (arith, l, room))) (all-both is_low_command x.commands (Back (suc at.line) ∷ []) pb.commands refl);
          blocks = pb.blocks;
        }
    part-low (S.For k place head e body) at h f =
        let g = segment at.place (spot_at k place ∷ spots_in e k) in
        let t = term (master_env c g) k e in
        let tests = length (test_lines 0 t) in
        let start = lines_on (4 + tests) (deeper (places_on (shown_places g) at)) in
        let x = part w body start in
        let end = start.line + length x.commands in
        let h2 = both-true (is_within limit e) (all_within limit body) h in
        let pb = part-low body start h2.1 f in
        record {
          commands = all-both is_low_command (test_lines end t) (x.commands ++ Back (suc at.line) ∷ []) (tests-low end t (master-term at k e g h2.0)) (all-both is_low_command x.commands (Back (suc at.line) ∷ []) pb.commands refl);
          blocks = pb.blocks;
        }
    part-low S.Skip at h f = record { commands = refl; blocks = refl }
    part-low (S.DeclareEdge x y place) at h f = record { commands = refl; blocks = refl }
    part-low (S.Defer k t e) at h f = record { commands = refl; blocks = refl }
    part-low (S.Group k place x y e) at h f = record { commands = refl; blocks = refl }
    part-low (S.InBfs k place how test body) at h f = record { commands = refl; blocks = refl }
    part-low (S.InBfsBoth k place how test body back_key back_test back) at h f = record { commands = refl; blocks = refl }

pub images-are-shallow : ImagesAreShallow
images-are-shallow limit p room within few =
    let i = lowered p in
    let f : Row → Bool = is_shallow_row in
    let x = part-low limit room p (length (body_part p 0).commands) p.body start within few in
    rows-pass f i (record {
      plain = refl;
      name = refl;
      inputs = after-always f InputRow (λ b i. refl) [] i.inputs;
      outputs = after-always f OutputRow (λ b i. refl) [] i.outputs;
      result = refl;
      columns = refl;
      kinds = all-always (λ k. f (KindRow k)) (λ k. refl) i.kinds;
      blocks = blocks-low i.blocks x.blocks;
      list = refl;
      commands = commands-low 0 i.master (all-both is_low_command (L.whole p).commands (Finish ∷ []) x.commands refl);
    })

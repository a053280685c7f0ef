-- `skip` and `each` stay within their lists.
use Rattle.std.proofs.Common.{◌≡◌, ◌≤◌, ℕ, zero, suc, Bool, true, false, Option, Some, None, List, [], ◌∷◌, ◌++◌, length, map, refl, ap, ◌∙◌, sym, subst, arith, length-append, ⊎_elim}
use Rattle.std.specs.Prelude.{◌+◌, ◌⊎◌, nat_lt, nat_le, nat_eq, if◌then◌else◌}
use Rattle.std.specs.List.{list_all}
use Rattle.std.proofs.lemmas.Bool.{both_ways, lt-ltb, le-leb, leb-true, and_from, ne_eqb}
use Rattle.gm_forms.proofs.Named.{both-true}
use Rattle.gm_value.specs.declared.reductions.Reduce.{Reduce}
use Rattle.gm_value.specs.declared.values.VType.{VType}
use Rattle.gm_value.specs.declared.values.VType.TheVariants as V
use Rattle.gm_value.specs.Numbers.{zero_of}
use Rattle.gm_ast.specs.declared.tree.Head.{Head}
use Rattle.gm_ast.specs.declared.tree.Key.{Key}
use Rattle.gm_ast.specs.declared.tree.Sort.{Sort}
use Rattle.gm_ast.specs.declared.tree.Sort.TheVariants as Sorts
use Rattle.gm_ast.specs.declared.tree.Target.{Target}
use Rattle.gm_ast.specs.declared.tree.Target.TheVariants as T
use Rattle.gm_ast.specs.declared.tree.TotalKey.{TotalKey}
use Rattle.gm_ast.specs.Program as S
use Rattle.gm_ast.specs.Program.{Expr, Stmt}
use Rattle.gm_semantics.specs.Statements.{variable_at}
use Rattle.gm_image.specs.Program.{Program, Step, Direction, Line, SetField, Fold, SetRegister, Put, Send, Skip, Each, Handler, Block}
use Rattle.gm_image.specs.Rows.{Row, InputRow, OutputRow, KindRow, LineRow, outside, block_rows, body_rows, handled_lines}
use Rattle.gm_image.specs.Spans.{left_past, skips_whole, line_stays, all_stay}
use Rattle.gm_image.specs.declared.rules.ImageRule.TheVariants.{I6}
use Rattle.gm_image.specs.Soundness.{keeps}
use Rattle.gm_image.specs.Term as M
use Rattle.gm_image.specs.Term.{Term}
use Rattle.gm_lowering.specs.Blocks.{body_block, load_term, receiver_env, own_site, each_site, receiver_site, taking_handlers, taking_blocks, direction_of, is_read_first, zero_line, zero_lines, own_loop, each_loop, message_loop, loop}
use Rattle.gm_lowering.specs.Bodies as B
use Rattle.gm_lowering.specs.Bodies.{Keeping, under, else_lines, choice_by, set_line, kept_lines, save_lines, take_lines, paired, replacing, compared, better, saved_pairs, with_types, reduce_lines, lines_of}
use Rattle.gm_lowering.specs.Layouts.{Layout, layout, those}
use Rattle.gm_lowering.specs.Lowered as L
use Rattle.gm_lowering.specs.Lowered.{Frame, part, past, lines_on, places_on, deeper, declared_part, test_lines, body_part, start, lowered}
use Rattle.gm_lowering.specs.Places.{Segment, segment, spot_at, spots_in, shown_places}
use Rattle.gm_lowering.specs.Plans.{Way, Puts, Folds, Sends, Picks, Away, way_of, aways, carried, is_here}
use Rattle.gm_lowering.specs.Terms.{term, master_env, own_env, each_env}
use Rattle.gm_sound_lowering.proofs.Rowwise.{all-both, all-always, after-always, no-commands, rows-pass}
use Rattle.gm_sound_lowering.specs.Laws.{SpansStay}
use Rattle.gm_sound_lowering.proofs.BlockRows.{is_no_each, flat_at, each_at, handler_at, LinesPass, flat-rows, each-rows, HandlersPass, body-rows, taking-rows, under-cases}

-- whether a line stays among so many behind it, and is no each
abbrev pub stays : Line → ℕ → Bool
stays (Skip n a) m = nat_le n m
stays (Each d n) m = false
stays l m = true

-- some lines do
abbrev pub Stay : List Line → Type 0
Stay [] = Unit {0}
Stay (l ∷ ls) = (stays l (length ls) ≡ true) × Stay ls

stays-more : (l : Line) (m n : ℕ) → m ≤ n → stays l m ≡ true → stays l n ≡ true
stays-more (Skip k a) m n le h = let e = leb-true k m h in le-leb k n (omega (arith, e, le))
stays-more (Each d k) m n le h = absurd (both_ways false refl h)
stays-more (SetField f a) m n le h = refl
stays-more (Fold r q ts) m n le h = refl
stays-more (SetRegister r a) m n le h = refl
stays-more (Put r q ts) m n le h = refl
stays-more (Send k to vs) m n le h = refl

pub stay-both : (xs ys : List Line) → Stay xs → Stay ys → Stay (xs ++ ys)
stay-both [] ys h k = k
stay-both (x ∷ xs) ys h k = let l = length-append xs ys in (stays-more x (length xs) (length (xs ++ ys)) (omega (arith, l)) h.0, stay-both xs ys h.1 k)

pub stay-no_each : (ls : List Line) → Stay ls → list_all is_no_each ls ≡ true
stay-no_each [] h = refl
stay-no_each (l ∷ ls) h = and_from (is_no_each l) (list_all is_no_each ls) (by l h.0) (stay-no_each ls h.1) where
  by : (l : Line) → stays l (length ls) ≡ true → is_no_each l ≡ true
  by (Skip n a) e = refl
  by (Each d n) e = absurd (both_ways false refl e)
  by (SetField f a) e = refl
  by (Fold r q ts) e = refl
  by (SetRegister r a) e = refl
  by (Put r q ts) e = refl
  by (Send k to vs) e = refl

-- lines that are neither a skip nor an each
abbrev pub is_step : Line → Bool
is_step (Skip n a) = false
is_step (Each d n) = false
is_step l = true

pub steps-stay : (ls : List Line) → list_all is_step ls ≡ true → Stay ls
steps-stay [] h = tt
steps-stay (l ∷ ls) h = let b = both-true (is_step l) (list_all is_step ls) h in (by l b.0, steps-stay ls b.1) where
  by : (l : Line) → is_step l ≡ true → stays l (length ls) ≡ true
  by (Skip n a) e = absurd (both_ways false refl e)
  by (Each d n) e = absurd (both_ways false refl e)
  by (SetField f a) e = refl
  by (Fold r q ts) e = refl
  by (SetRegister r a) e = refl
  by (Put r q ts) e = refl
  by (Send k to vs) e = refl

-- ---- the lines of a body

sets-step : (c : Layout) (t : Target) (a : Term) → is_step (set_line c t a) ≡ true
sets-step c (T.Scalar x at) a = refl
sets-step c (T.Property x p at) a = refl

module _ (s : B.Site) where
  abbrev k : Keeping Line
  k = B.keeping s

  saves-step : (i : ℕ) (vs : List (VType × Term)) → list_all is_step (save_lines k i vs) ≡ true
  saves-step i [] = refl
  saves-step i (v ∷ vs) = saves-step (suc i) vs

  takes-step : (b : Term) (i : ℕ) (ts : List (VType × Target)) → list_all is_step (take_lines k b i ts) ≡ true
  takes-step b i [] = refl
  takes-step b i (t ∷ ts) =
      let v = M.Choose b (k.saved i t.0) (k.held t.1) in
      and_from (is_step (set_line s.layout t.1 v)) (list_all is_step (take_lines k b (suc i) ts)) (sets-step s.layout t.1 v) (takes-step b (suc i) ts)

  tuples-step : (r : Reduce) (ts : List (VType × Target)) (values : List Term) →
      list_all is_step (save_lines k 0 (paired (map (λ t. t.0) ts) values) ++ (k.save (length ts) V.Flag (replacing (better r) (saved_pairs k 0 ts)) ∷ take_lines k (k.saved (length ts) V.Flag) 0 ts)) ≡ true
  tuples-step r ts values = all-both is_step (save_lines k 0 (paired (map (λ t. t.0) ts) values)) (k.save (length ts) V.Flag (replacing (better r) (saved_pairs k 0 ts)) ∷ take_lines k (k.saved (length ts) V.Flag) 0 ts) (saves-step 0 (paired (map (λ t. t.0) ts) values)) (takes-step (k.saved (length ts) V.Flag) 0 ts)

  kept-step : (r : Reduce) (ts : List (VType × Target)) (values : List Term) → list_all is_step (kept_lines k r ts values) ≡ true
  kept-step r [] values = tuples-step r [] values
  kept-step r (t ∷ []) [] = tuples-step r (t ∷ []) []
  kept-step r (t ∷ []) (a ∷ []) =
      let v = M.Choose (compared (better r) a (k.held t.1)) a (k.held t.1) in and_from (is_step (set_line s.layout t.1 v)) true (sets-step s.layout t.1 v) refl
  kept-step r (t ∷ []) (a ∷ (b ∷ values)) = tuples-step r (t ∷ []) (a ∷ (b ∷ values))
  kept-step r (t ∷ (u ∷ ts)) values = tuples-step r (t ∷ (u ∷ ts)) values

  reduce-step : (kind : ℕ) (way : Way) (key : Key) (total : TotalKey) (r : Reduce) (ts : List Target) (values : List Term) → list_all is_step (reduce_lines s kind way key total r ts values) ≡ true
  reduce-step kind Puts key total r ts values = refl
  reduce-step kind Folds key total r ts values = refl
  reduce-step kind Sends key total r ts values = refl
  reduce-step kind Picks key total r ts values = kept-step r (with_types s.layout ts) values

  choice-stays : (t : Term) (xs ys : List Line) → Stay xs → Stay ys → Stay (choice_by t xs ys)
  choice-stays t xs [] h k = (le-leb (length xs) (length xs) (omega arith), h)
  choice-stays t xs (y ∷ ys) h k =
      let rest = else_lines (y ∷ ys) in
      let l = length-append xs rest in
      let n : length rest ≡ suc (length (y ∷ ys)) = refl in (
        le-leb (suc (length xs)) (length (xs ++ rest)) (omega (arith, l, n)),
        stay-both xs rest h (le-leb (length (y ∷ ys)) (length (y ∷ ys)) (omega arith), k),
      )

  pub lines-stay : (kind : ℕ) (st : Stmt) → Stay (lines_of s kind st)
  lines-stay kind (S.Then a b) =
      let next = kind + length (aways s.layout.declarations s.node a) in stay-both (lines_of s kind a) (lines_of s next b) (lines-stay kind a) (lines-stay next b)
  lines-stay kind (S.Declare key x e) = (refl, tt)
  lines-stay kind (S.Assign key t e) =
      let a = term s.env key e in steps-stay (set_line s.layout t a ∷ []) (and_from (is_step (set_line s.layout t a)) true (sets-step s.layout t a) refl)
  lines-stay kind (S.Combine key total r ts es) =
      let way = way_of s.layout.declarations s.node ts in
      let values = map (term s.env key) es in
      steps-stay (reduce_lines s kind way key total r ts values) (reduce-step kind way key total r ts values)
  lines-stay kind (S.If key c a b) =
      let next = kind + length (aways s.layout.declarations s.node a) in choice-stays (term s.env key c) (lines_of s kind a) (lines_of s next b) (lines-stay kind a) (lines-stay next b)
  lines-stay kind _ = tt

pub under-stays : (t : Term) (ls : List Line) → Stay ls → Stay (under t ls)
under-stays t ls h = ⊎_elim (λ (e : under t ls ≡ ls). subst Stay (sym e) h) (λ (e : under t ls ≡ Skip (length ls) t ∷ ls). subst Stay (sym e) (le-leb (length ls) (length ls) (omega arith), h)) (under-cases t ls)

-- ---- what the rule asks of them

passed-none : (n : ℕ) (ls : List Line) → list_all is_no_each ls ≡ true → left_past 0 n ls ≡ 0
passed-none zero ls h = refl
passed-none (suc n) [] h = refl
passed-none (suc n) (l ∷ ls) h = let b = both-true (is_no_each l) (list_all is_no_each ls) h in by l b.0 (passed-none n ls b.1) where
  by : (l : Line) → is_no_each l ≡ true → left_past 0 n ls ≡ 0 → left_past 0 (suc n) (l ∷ ls) ≡ 0
  by (Skip m a) e k = k
  by (Each d m) e k = absurd (both_ways false refl e)
  by (SetField f a) e k = k
  by (Fold r q ts) e k = k
  by (SetRegister r a) e k = k
  by (Put r q ts) e k = k
  by (Send m to vs) e k = k

whole-skips : (n : ℕ) (ls : List Line) → n ≤ length ls → list_all is_no_each ls ≡ true → skips_whole n ls ≡ true
whole-skips n ls le h = and_from (nat_le n (length ls)) (nat_eq (left_past 0 n ls) 0) (le-leb n (length ls) le) (ap (λ m. nat_eq m 0) (passed-none n ls h))

-- outside of eaches, in a body or in a handler
outer-stays : (kind : Option ℕ) (before earlier later : List Line) (l : Line) → stays l (length later) ≡ true → list_all is_no_each later ≡ true
    → line_stays (record { kind = kind; around = record { each = None; left = 0; lines = before; before = earlier }; earlier = earlier; later = later }) l ≡ true
outer-stays kind before earlier later (Skip n a) e h = whole-skips n later (leb-true n (length later) e) h
outer-stays kind before earlier later (Each d n) e h = absurd (both_ways false refl e)
outer-stays kind before earlier later (SetField g a) e h = refl
outer-stays kind before earlier later (Fold r q ts) e h = refl
outer-stays kind before earlier later (SetRegister r a) e h = refl
outer-stays kind before earlier later (Put r q ts) e h = refl
outer-stays kind before earlier later (Send k to vs) e h = refl

flat-stays : (earlier later : List Line) (l : Line) → stays l (length later) ≡ true → list_all is_no_each later ≡ true → line_stays (flat_at [] earlier later) l ≡ true
flat-stays earlier later (Skip n a) e h = whole-skips n later (leb-true n (length later) e) h
flat-stays earlier later (Each d n) e h = absurd (both_ways false refl e)
flat-stays earlier later (SetField g a) e h = refl
flat-stays earlier later (Fold r q ts) e h = refl
flat-stays earlier later (SetRegister r a) e h = refl
flat-stays earlier later (Put r q ts) e h = refl
flat-stays earlier later (Send k to vs) e h = refl

inner-stays : (d : Direction) (all before earlier later : List Line) (l : Line) → stays l (length later) ≡ true → line_stays (each_at d all before earlier later) l ≡ true
inner-stays d all before earlier later (Skip n a) e =
    let le = leb-true n (length later) e in
    ap (λ b. if b then skips_whole n later else nat_lt n (suc (length later))) (ne_eqb (suc (length later)) 0 (λ e. absurd (omega (arith, e)))) ∙ lt-ltb n (suc (length later)) (omega (arith, le))
inner-stays d all before earlier later (Each g n) e = absurd (both_ways false refl e)
inner-stays d all before earlier later (SetField g a) e = refl
inner-stays d all before earlier later (Fold r q ts) e = refl
inner-stays d all before earlier later (SetRegister r a) e = refl
inner-stays d all before earlier later (Put r q ts) e = refl
inner-stays d all before earlier later (Send m to vs) e = refl

module _ (p : Program) where
  abbrev f : Row → Bool
  f = all_stay p

  flat-pass : (before earlier ls : List Line) → Stay ls → LinesPass f flat_at before earlier ls
  flat-pass before earlier [] h = tt
  flat-pass before earlier (l ∷ ls) h = (flat-stays earlier ls l h.0 (stay-no_each ls h.1), flat-pass (before ++ l ∷ []) (earlier ++ l ∷ []) ls h.1)

  inner-pass : (d : Direction) (all before earlier ls : List Line) → Stay ls → LinesPass f (each_at d all) before earlier ls
  inner-pass d all before earlier [] h = tt
  inner-pass d all before earlier (l ∷ ls) h = (inner-stays d all before earlier ls l h.0, inner-pass d all (before ++ l ∷ []) (earlier ++ l ∷ []) ls h.1)

  handler-pass : (kind : ℕ) (all before earlier ls : List Line) → Stay ls → LinesPass f (handler_at kind all) before earlier ls
  handler-pass kind all before earlier [] h = tt
  handler-pass kind all before earlier (l ∷ ls) h =
      (outer-stays (Some kind) all earlier ls l h.0 (stay-no_each ls h.1), handler-pass kind all (before ++ l ∷ []) (earlier ++ l ∷ []) ls h.1)

  abbrev HandlersStay : List Handler → Type 0
  HandlersStay [] = Unit {0}
  HandlersStay (h ∷ hs) = Stay h.lines × HandlersStay hs

  handlers-pass : (all earlier : List Line) (before hs : List Handler) → HandlersStay hs → HandlersPass f all earlier before hs
  handlers-pass all earlier before [] k = tt
  handlers-pass all earlier before (h ∷ hs) k = (refl, handler-pass h.kind all [] earlier h.lines k.0, handlers-pass all (earlier ++ h.lines) (before ++ h ∷ []) hs k.1)

  -- a body of own statements
  pub flat-block : (ls : List Line) → Stay ls → list_all f (block_rows (body_block ls)) ≡ true
  flat-block ls h = body-rows f ls refl (flat-rows f [] [] ls (stay-no_each ls h) (flat-pass [] [] ls h))

  -- handlers alone
  pub taking-block : (hs : List Handler) → HandlersStay hs → list_all f (block_rows (record { handlers = hs; body = [] })) ≡ true
  taking-block hs h = taking-rows f hs refl (handlers-pass (handled_lines (record { handlers = hs; body = [] })) [] [] hs h)

  -- an each under a condition
  pub each-block : (t : Term) (d : Direction) (ls : List Line) → Stay ls → list_all f (block_rows (body_block (under t (Each d (length ls) ∷ ls)))) ≡ true
  each-block t d ls h = body-rows f (under t (Each d (length ls) ∷ ls)) refl (by (under-cases t (Each d (length ls) ∷ ls))) where
    alone : (earlier : List Line) → list_all f (body_rows earlier outside (Each d (length ls) ∷ ls)) ≡ true
    alone earlier = each-rows f d earlier ls (le-leb (length ls) (length ls) (omega arith)) (inner-pass d ls [] (earlier ++ Each d (length ls) ∷ []) ls h)

    passed : (ms : List Line) → left_past (length ms) (length ms) ms ≡ 0
    passed [] = refl
    passed (m ∷ ms) = passed ms

    all-skipped : skips_whole (suc (length ls)) (Each d (length ls) ∷ ls) ≡ true
    all-skipped = and_from (nat_le (suc (length ls)) (suc (length ls))) (nat_eq (left_past (length ls) (length ls) ls) 0) (le-leb (suc (length ls)) (suc (length ls)) (omega arith)) (ap (λ m. nat_eq m 0) (passed ls))

    by : (under t (Each d (length ls) ∷ ls) ≡ Each d (length ls) ∷ ls) ⊎ (under t (Each d (length ls) ∷ ls) ≡ Skip (suc (length ls)) t ∷ (Each d (length ls) ∷ ls))
        → list_all f (body_rows [] outside (under t (Each d (length ls) ∷ ls))) ≡ true
    by q = ⊎_elim (λ (e : under t (Each d (length ls) ∷ ls) ≡ Each d (length ls) ∷ ls). subst (λ ms. list_all f (body_rows [] outside ms) ≡ true) (sym e) (alone []))
        (λ (e : under t (Each d (length ls) ∷ ls) ≡ Skip (suc (length ls)) t ∷ (Each d (length ls) ∷ ls)).
        subst (λ ms. list_all f (body_rows [] outside ms) ≡ true) (sym e) (and_from (f (LineRow (flat_at [] [] (Each d (length ls) ∷ ls)) (Skip (suc (length ls)) t))) _ all-skipped (alone (Skip (suc (length ls)) t ∷ [])))) q

  -- ---- the blocks of loops

  takings-stay : (c : Layout) (g : Segment) (kind : ℕ) (sends : List Away) → HandlersStay (taking_handlers c g kind sends)
  takings-stay c g kind [] = tt
  takings-stay c g kind (a ∷ more) = ((refl, tt), takings-stay c g (suc kind) more)

  abbrev pub blocks_stay : List Block → Bool
  blocks_stay bs = list_all (λ b. list_all f (block_rows b)) bs

  takings-blocks : (c : Layout) (g : Segment) (kind : ℕ) (sends : List Away) → blocks_stay (taking_blocks c g kind sends) ≡ true
  takings-blocks c g kind [] = refl
  takings-blocks c g kind (a ∷ more) = and_from _ true (taking-block (taking_handlers c g kind (a ∷ more)) (takings-stay c g kind (a ∷ more))) refl

  zeros-step : (c : Layout) (xs : List ℕ) → list_all is_step (map (zero_line c) xs) ≡ true
  zeros-step c [] = refl
  zeros-step c (x ∷ xs) = zeros-step c xs

  own-stays : (c : Layout) (base kind n : ℕ) (k : Key) (test : Expr) (body : Stmt) → blocks_stay (own_loop c base kind n k test body).blocks ≡ true
  own-stays c base kind n k test body =
      let g = (own_loop c base kind n k test body).segment in
      let t = term (own_env c g n) k test in
      let ls = lines_of (own_site c g n) kind body in
      and_from _ (blocks_stay (taking_blocks c g kind (aways c.declarations n body))) (flat-block (under t ls) (under-stays t ls (lines-stay (own_site c g n) kind body)))
      (takings-blocks c g kind (aways c.declarations n body))

  each-stays : (c : Layout) (base kind n : ℕ) (k : Key) (mask : Expr) (j : Key) (h : Head) (test : Expr) (body : Stmt) → blocks_stay (each_loop c base kind n k mask j h test body).blocks ≡ true
  each-stays c base kind n k mask j h test body =
      let g = (each_loop c base kind n k mask j h test body).segment in
      let i = h.iterator in
      let t = term (each_env c g n i) j test in
      let ls = zero_lines c body ++ lines_of (each_site c g n i) kind body in
      and_from _ (blocks_stay (taking_blocks c g kind (aways c.declarations n body)))
      (each-block (term (own_env c g n) k mask) (direction_of h.domain) (under t ls)
      (under-stays t ls (stay-both (zero_lines c body) (lines_of (each_site c g n i) kind body) (steps-stay (zero_lines c body) (zeros-step c (those (is_read_first c body) (length c.declarations)))) (lines-stay (each_site c g n i) kind body))))
      (takings-blocks c g kind (aways c.declarations n body))

  message-stays : (c : Layout) (base kind n : ℕ) (k : Key) (mask : Expr) (j : Key) (h : Head) (test : Expr) (body : Stmt) → blocks_stay (message_loop c base kind n k mask j h test body).blocks ≡ true
  message-stays c base kind n k mask j h test body =
      let g = (message_loop c base kind n k mask j h test body).segment in
      let i = h.iterator in
      let loads = carried n test body in
      let t = term (receiver_env c g n i loads) j test in
      let ls = lines_of (receiver_site c g n i loads) (suc kind) body in
      and_from _ _ (each-block (term (own_env c g n) k mask) (direction_of h.domain) (Send kind M.Neighbour (map (load_term c) loads) ∷ []) (refl, tt))
      (and_from _ (blocks_stay (taking_blocks c g (suc kind) (aways c.declarations i body)))
      (taking-block (record { kind = kind; lines = under t ls } ∷ []) (under-stays t ls (lines-stay (receiver_site c g n i loads) (suc kind) body), tt))
      (takings-blocks c g (suc kind) (aways c.declarations i body)))

  loop-stays : (c : Layout) (base kind n : ℕ) (k : Key) (mask : Expr) (body : Stmt) → blocks_stay (loop c base kind n k mask body).blocks ≡ true
  loop-stays c base kind n k mask (S.Foreach j at h test body) = by (is_here c.declarations n h test body) where
    by : (b : Bool) → blocks_stay (if b then each_loop c base kind n k mask j h test body else message_loop c base kind n k mask j h test body).blocks ≡ true
    by true = each-stays c base kind n k mask j h test body
    by false = message-stays c base kind n k mask j h test body
  loop-stays c base kind n k mask body = own-stays c base kind n k mask body

  -- ---- the blocks of statements

  blocks-stay : (w : Frame) (s : Stmt) (at : L.At) → blocks_stay (part w s at).blocks ≡ true
  blocks-stay w (S.Then a b) at =
      let x = part w a at in
      let next = past w at a x in
      all-both (λ b. list_all f (block_rows b)) x.blocks (part w b next).blocks (blocks-stay w a at) (blocks-stay w b next)
  blocks-stay w (S.Declare k x None) at = let v = variable_at w.layout.declarations x in declared-stays w at v.sort v.vtype x where
    declared-stays : (w : Frame) (at : L.At) (s : Sort) (t : VType) (x : ℕ) → blocks_stay (declared_part w at s t x).blocks ≡ true
    declared-stays w at Sorts.NodeProperty t x = by (w.layout.is_kept x) where
      by : (b : Bool) → blocks_stay (if b then record { commands = Step at.block ∷ []; blocks = body_block (SetField (w.layout.field x) (M.Const (zero_of t)) ∷ []) ∷ []; places = [] } else L.no_part).blocks ≡ true
      by true = refl
      by false = refl
    declared-stays w at Sorts.Scalar t x = refl
    declared-stays w at Sorts.Graph t x = refl
    declared-stays w at Sorts.Iterator t x = refl
    declared-stays w at Sorts.Edge t x = refl
    declared-stays w at Sorts.EdgeProperty t x = refl
  blocks-stay w (S.Declare k x (Some e)) at = refl
  blocks-stay w (S.Assign k (T.Scalar x place) e) at = refl
  blocks-stay w (S.Assign k (T.Property x q place) e) at = refl
  blocks-stay w (S.Combine k total r ts es) at = refl
  blocks-stay w (S.Foreach k place h test body) at = loop-stays w.layout at.place at.kind h.iterator k test body
  blocks-stay w (S.Return k place None) at = refl
  blocks-stay w (S.Return k place (Some e)) at = refl
  blocks-stay w (S.If k test a b) at =
      let g = segment at.place (spots_in test k) in
      let start = lines_on 1 (places_on (shown_places g) at) in
      let x = part w a start in
      let other = lines_on 1 (past w start a x) in
      all-both (λ b. list_all f (block_rows b)) x.blocks (part w b other).blocks (blocks-stay w a start) (blocks-stay w b other)
  blocks-stay w (S.While k place test body) at = let g = segment at.place (spots_in test k) in blocks-stay w body (lines_on 1 (places_on (shown_places g) at))
  blocks-stay w (S.Do k place body test) at = let g = segment at.place (spots_in test k) in blocks-stay w body (lines_on 3 (deeper (places_on (shown_places g) at)))
  blocks-stay w (S.For k place h test body) at =
      let g = segment at.place (spot_at k place ∷ spots_in test k) in
      let tests = length (test_lines 0 (term (master_env w.layout g) k test)) in
      blocks-stay w body (lines_on (4 + tests) (deeper (places_on (shown_places g) at)))
  blocks-stay w S.Skip at = refl
  blocks-stay w (S.DeclareEdge x y place) at = refl
  blocks-stay w (S.Defer k t e) at = refl
  blocks-stay w (S.Group k place graph q e) at = refl
  blocks-stay w (S.InBfs k place how test body) at = refl
  blocks-stay w (S.InBfsBoth k place how test body back_key back_test back) at = refl

pub spans-stay : SpansStay
spans-stay p =
    let image = lowered p in
    let stay : Row → Bool = λ row. keeps image row I6 in
    rows-pass stay image (record {
      plain = refl;
      name = refl;
      inputs = after-always stay InputRow (λ b i. refl) [] image.inputs;
      outputs = after-always stay OutputRow (λ b i. refl) [] image.outputs;
      result = refl;
      columns = refl;
      kinds = all-always (λ k. stay (KindRow k)) (λ k. refl) image.kinds;
      blocks = blocks-stay image (record { layout = layout p; finish = length (body_part p 0).commands }) p.body start;
      list = refl;
      commands = no-commands stay (λ j c. refl) 0 image.master;
    })

-- In a block of a sound image each global is put by one reduction, so what the vertices put may be taken in any order.
use Rattle.std.proofs.Common.{◌≡◌, ◌<◌, ℕ, zero, suc, Bool, true, false, cond, nat_eq, Option, Some, None, Result, Ok, Err, List, [], ◌∷◌, ◌++◌, map, find, take, length, refl, sym, ap, subst, ◌∙◌, arith, append_assoc}
use Rattle.std.specs.Prelude.{IsTrue, slice_index_or}
use Rattle.std.specs.List.{list_all, flat_map}
use Rattle.std.proofs.lemmas.List.Concat.{flat_map-append}
use Rattle.gm_value.specs.declared.values.Value.{Value}
use Rattle.gm_value.specs.declared.reductions.Reduce.{Reduce}
use Rattle.gm_value.specs.declared.reductions.Reduce.TheVariants as reduce
use Rattle.gm_value.specs.Bag.{SameBag, same_nil, same_cons, same_swap, same_trans}
use Rattle.gm_model.specs.Graphs.{Step}
use Rattle.gm_image.specs.declared.rules.ImageRule.TheVariants.{I9}
use Rattle.gm_image.specs.Program.{Program, Block, Handler, Line, SetField, Fold, SetRegister, Put, Send, Skip, Each}
use Rattle.gm_image.specs.Parts.{slots_of}
use Rattle.gm_image.specs.Rows.{Row, Plain, HandlerRow, LineRow, Around, block_rows, handlers_rows, handler_rows, handled_lines, body_rows, outside, in_handlers, around_next}
use Rattle.gm_image.specs.Folds.{Reduction, puts_of, has_slot, is_the_one, puts_one_way}
use Rattle.gm_image.specs.Soundness.{keeps, keeps_all, image_rules, is_sound}
use Rattle.gm_machine.specs.declared.faults.Fault.{Fault}
use Rattle.gm_machine.specs.Faults.{lesser}
use Rattle.gm_machine.specs.Expressions.{value, values}
use Rattle.gm_machine.specs.Taking.{Contribution, settled, Settled}
use Rattle.gm_machine.specs.Vertex.{Message, VertexContext, VertexState, After, view, gives, line_ends, leaves, line_after, go_by, lines_after, turns_after, steps, ended, folded, each_after, body_line_after, body_after, handler_lines, lines_of, handler_run, gathered, begun, handled, vertex_after}
use Rattle.gm_machine.specs.Machine.{block_at, no_block}
use Rattle.gm_machine.specs.Laws.{AreReducedBy}
use Rattle.gm_machine.proofs.OrderLaws.{AreBy, AreBy-append, IfGiven, gives-by, settled-permuted}
use Rattle.gm_machine.proofs.SoundFolds.{reduction_or, slots-by}
use Rattle.gm_machine.proofs.SoundHandlers.{all_front, all_back, all_first, all_rest, all_at, blocks_pass}

pub AreBy-permuted : (reduction : ℕ → Reduction) {cs ds : List Contribution} → SameBag cs ds → (AreBy reduction cs → AreBy reduction ds) × (AreBy reduction ds → AreBy reduction cs)
AreBy-permuted reduction same_nil = (λ h. h, λ h. h)
AreBy-permuted reduction (same_cons c s) = let both = AreBy-permuted reduction s in (λ h. (h.0, both.0 h.1), λ h. (h.0, both.1 h.1))
AreBy-permuted reduction (same_swap c e cs) = (λ h. (h.1.0, (h.0, h.1.1)), λ h. (h.1.0, (h.0, h.1.1)))
AreBy-permuted reduction (same_trans s t) =
    let first = AreBy-permuted reduction s in
    let second = AreBy-permuted reduction t in
    (λ h. second.0 (first.0 h), λ h. first.1 (second.1 h))

AreBy-each : {A : Type 0} (reduction : ℕ → Reduction) (f : A → List Contribution) (xs : List A) → ((x : A) → AreBy reduction (f x)) → AreBy reduction (flat_map f xs)
AreBy-each reduction f [] each = tt
AreBy-each reduction f (x ∷ xs) each = AreBy-append reduction (f x) (flat_map f xs) (each x) (AreBy-each reduction f xs each)

-- lines that put each global by the global's reduction
abbrev pub LinePutsBy : (ℕ → Reduction) → Line → Type 0
LinePutsBy reduction (Put r place ts) = AreReducedBy reduction (record { reduce = r; slots = slots_of ts }) (slots_of ts)
LinePutsBy reduction (SetField f a) = Unit {0}
LinePutsBy reduction (Fold r place ts) = Unit {0}
LinePutsBy reduction (SetRegister r a) = Unit {0}
LinePutsBy reduction (Send kind to ts) = Unit {0}
LinePutsBy reduction (Skip n a) = Unit {0}
LinePutsBy reduction (Each d n) = Unit {0}

abbrev pub LinesPutBy : (ℕ → Reduction) → List Line → Type 0
LinesPutBy reduction [] = Unit {0}
LinesPutBy reduction (l ∷ ls) = LinePutsBy reduction l × LinesPutBy reduction ls

abbrev pub HandlersPutBy : (ℕ → Reduction) → List Handler → Type 0
HandlersPutBy reduction [] = Unit {0}
HandlersPutBy reduction (h ∷ hs) = LinesPutBy reduction h.lines × HandlersPutBy reduction hs

module _ (reduction : ℕ → Reduction) where
  abbrev PutsBy : After → Type 0
  PutsBy a = AreBy reduction a.state.puts

  ends-by : {A : Type 0} (w : VertexState) (r : Result A Fault) (go : A → After) → AreBy reduction w.puts → ((x : A) → PutsBy (go x)) → PutsBy (line_ends w r go)
  ends-by w (Ok x) go is each = each x
  ends-by w (Err f) go is each = is

  line-by : (s : VertexContext) (l : Line) (w : VertexState) → LinePutsBy reduction l → AreBy reduction w.puts → PutsBy (line_after s l w)
  line-by s (SetField f a) w by is = ends-by w (value (view s w) a) _ is (λ x. is)
  line-by s (Fold r place ts) w by is = ends-by w (gives (view s w) r place ts) _ is (λ x. is)
  line-by s (SetRegister r a) w by is = ends-by w (value (view s w) a) _ is (λ x. is)
  line-by s (Put r place ts) w by is = given (gives (view s w) r place ts) (gives-by reduction (view s w) r place ts by) where
    given : (g : Result (List Contribution) Fault) → IfGiven reduction g → PutsBy (line_ends w g (λ cs. leaves (record w { puts = w.puts ++ cs })))
    given (Ok cs) all = AreBy-append reduction w.puts cs is all
    given (Err f) all = is
  line-by s (Send kind to ts) w by is = ends-by w (value (view s w) to) _ is (λ t. ends-by w (values (view s w) ts) _ is (λ x. is))
  line-by s (Skip n a) w by is = ends-by w (value (view s w) a) _ is (λ x. is)
  line-by s (Each d n) w by is = is

  goes-by : (f : Option Fault) (a : After) (go : ℕ → VertexState → After) → PutsBy a → ((k : ℕ) (w : VertexState) → AreBy reduction w.puts → PutsBy (go k w)) → PutsBy (go_by f a go)
  goes-by None a go is each = each a.skip a.state is
  goes-by (Some f) a go is each = is

  lines-by : (s : VertexContext) (ls : List Line) (k : ℕ) (w : VertexState) → LinesPutBy reduction ls → AreBy reduction w.puts → PutsBy (lines_after s ls k w)
  lines-by s [] k w by is = is
  lines-by s (l ∷ ls) (suc k) w by is = lines-by s ls k w by.1 is
  lines-by s (l ∷ ls) zero w by is =
      goes-by (line_after s l w).fault (line_after s l w) (λ k u. lines_after s ls k u) (line-by s l w by.0 is) (λ k u h. lines-by s ls k u by.1 h)

  take-by : (n : ℕ) (ls : List Line) → LinesPutBy reduction ls → LinesPutBy reduction (take n ls)
  take-by zero ls by = tt
  take-by (suc n) [] by = tt
  take-by (suc n) (l ∷ ls) by = (by.0, take-by n ls by.1)

  turns-by : (s : VertexContext) (ls : List Line) (es : List Step) (w : VertexState) (f : Option Fault) → LinesPutBy reduction ls → AreBy reduction w.puts → PutsBy (turns_after s ls es w f)
  turns-by s ls [] w f by is = is
  turns-by s ls (e ∷ es) w f by is =
      let one : After = lines_after (record s { near = e }) ls 0 w in
      turns-by s ls es one.state (lesser f one.fault) by (lines-by (record s { near = e }) ls 0 w by is)

  ended-by : (w : VertexState) (f : Option Fault) (k : ℕ) → AreBy reduction w.puts → PutsBy (ended w f k)
  ended-by w None k is = is
  ended-by w (Some f) k is = is

  folded-by : (places : ℕ) (a : After) → PutsBy a → PutsBy (folded places a)
  folded-by places a is =
      let after : Settled = settled places a.state.folds a.state.fields in
      ended-by (record (a.state) { folds = []; fields = after.values }) (lesser a.fault after.fault) a.skip is

  body_line-by : (places : ℕ) (s : VertexContext) (l : Line) (ls : List Line) (w : VertexState) → LinePutsBy reduction l → LinesPutBy reduction ls → AreBy reduction w.puts → PutsBy (body_line_after places s l ls w)
  body_line-by places s (Each d n) ls w by more is =
      folded-by places (each_after s d n ls w) (turns-by s (take n ls) (steps d s.graph s.node) w None (take-by n ls more) is)
  body_line-by places s (Fold r place ts) ls w by more is = folded-by places (line_after s (Fold r place ts) w) (line-by s (Fold r place ts) w by is)
  body_line-by places s (SetField f a) ls w by more is = line-by s (SetField f a) w by is
  body_line-by places s (SetRegister r a) ls w by more is = line-by s (SetRegister r a) w by is
  body_line-by places s (Put r place ts) ls w by more is = line-by s (Put r place ts) w by is
  body_line-by places s (Send kind to ts) ls w by more is = line-by s (Send kind to ts) w by is
  body_line-by places s (Skip n a) ls w by more is = line-by s (Skip n a) w by is

  body-by : (places : ℕ) (s : VertexContext) (ls : List Line) (k : ℕ) (w : VertexState) → LinesPutBy reduction ls → AreBy reduction w.puts → PutsBy (body_after places s ls k w)
  body-by places s [] k w by is = is
  body-by places s (l ∷ ls) (suc k) w by is = body-by places s ls k w by.1 is
  body-by places s (l ∷ ls) zero w by is =
      goes-by (body_line_after places s l ls w).fault (body_line_after places s l ls w) (λ k u. body_after places s ls k u) (body_line-by places s l ls w by.0 by.1 is) (λ k u h. body-by places s ls k u by.1 h)

  handler-by : (hs : List Handler) (kind : ℕ) → HandlersPutBy reduction hs → LinesPutBy reduction (handler_lines hs kind)
  handler-by [] kind by = tt
  handler-by (h ∷ hs) kind by = one (nat_eq h.kind kind) (handler-by hs kind by.1) where
    one : (b : Bool) → LinesPutBy reduction (handler_lines hs kind) → LinesPutBy reduction (lines_of (cond b (Some h) (find (λ g. nat_eq g.kind kind) hs)))
    one true rest = by.0
    one false rest = rest

  runs-by : (run : Message → After) (ms : List Message) → ((m : Message) → PutsBy (run m)) → AreBy reduction (flat_map (λ a. a.state.puts) (map run ms))
  runs-by run [] each = tt
  runs-by run (m ∷ ms) each = AreBy-append reduction (run m).state.puts (flat_map (λ a. a.state.puts) (map run ms)) (each m) (runs-by run ms each)

  -- what a vertex puts
  pub vertex-by : (p : Program) (b : Block) (s : VertexContext) (inbox : List Message) (fields : List Value) → HandlersPutBy reduction b.handlers → LinesPutBy reduction b.body →
      PutsBy (vertex_after p b s inbox fields)
  vertex-by p b s inbox fields handlers body =
      let start : VertexState = begun p.registers fields in
      let run : Message → After = handler_run s b.handlers start in
      let first : After = handled (length p.places) p.registers s b.handlers inbox fields in
      goes-by first.fault first (λ k w. body_after (length p.places) s b.body 0 w)
      (folded-by (length p.places) (gathered start (map run inbox))
      (runs-by run inbox (λ m. lines-by (record s { message = m.values }) (handler_lines b.handlers m.kind) 0 start (handler-by b.handlers m.kind handlers) tt)))
      (λ k w is. body-by (length p.places) s b.body 0 w body is)

-- contributions that are reduced by their slots' reductions may be taken in any order
pub settled-bags : (reduction : ℕ → Reduction) (places : ℕ) (held : List Value) {cs ds : List Contribution} → AreBy reduction ds → SameBag cs ds →
    settled places cs held ≡ settled places ds held
settled-bags reduction places held also same = settled-permuted reduction places held ((AreBy-permuted reduction same).1 also) also same

-- the reduction of the first put to a slot
abbrev pub put_reduction : List Line → ℕ → Reduction
put_reduction all slot = reduction_or (find (has_slot slot) (flat_map puts_of all))

-- one line puts by the reductions of all lines
put-by : (earlier rest : List Line) (l : Line) → puts_one_way earlier l ≡ true → LinePutsBy (put_reduction (earlier ++ l ∷ rest)) l
put-by earlier rest (SetField f a) one = tt
put-by earlier rest (Fold r place ts) one = tt
put-by earlier rest (SetRegister r a) one = tt
put-by earlier rest (Put r place ts) one =
    let own : Reduction = record { reduce = r; slots = slots_of ts } in
    let before : List Reduction = flat_map puts_of earlier in
    let later : List Reduction = flat_map puts_of rest in
    let parts : flat_map puts_of (earlier ++ Put r place ts ∷ rest) ≡ before ++ own ∷ later = flat_map-append puts_of earlier (Put r place ts ∷ rest) in
    let held : AreReducedBy (λ slot. reduction_or (find (has_slot slot) (before ++ own ∷ later))) own (slots_of ts) =
    slots-by own before later (slots_of ts) (λ slot h. h) (all_first (is_the_one before) own [] one) in
    subst (λ rs. AreReducedBy (λ slot. reduction_or (find (has_slot slot) rs)) own (slots_of ts)) (sym parts) held
put-by earlier rest (Send kind to ts) one = tt
put-by earlier rest (Skip n a) one = tt
put-by earlier rest (Each d n) one = tt

module _ (p : Program) where
  row-by : (row : Row) → keeps_all p row ≡ true → keeps p row I9 ≡ true
  row-by row h = let nine : 8 < length image_rules = omega arith in all_at (keeps p row) image_rules 8 I9 nine h

  -- the lines of one handler: all lines are those before, these and those behind
  own-by : (all around : List Line) (kind : ℕ) (earlier ls behind : List Line) → all ≡ earlier ++ (ls ++ behind) → list_all (keeps_all p) (handler_rows around kind earlier ls) ≡ true →
      LinesPutBy (put_reduction all) ls
  own-by all around kind earlier [] behind is h = tt
  own-by all around kind earlier (l ∷ ls) behind is h =
      let row : Row = LineRow (record { kind = Some kind; around = in_handlers around earlier; earlier = earlier; later = ls }) l in
      let more : List Row = handler_rows around kind (earlier ++ l ∷ []) ls in
      let one : puts_one_way earlier l ≡ true = row-by row (all_first (keeps_all p) row more h) in
      let moved : all ≡ (earlier ++ l ∷ []) ++ (ls ++ behind) = is ∙ sym (append_assoc earlier (l ∷ []) (ls ++ behind)) in (
        subst (λ xs. LinePutsBy (put_reduction xs) l) (sym is) (put-by earlier (ls ++ behind) l one),
        own-by all around kind (earlier ++ l ∷ []) ls behind moved (all_rest (keeps_all p) row more h),
      )

  body-puts : (all : List Line) (a : Around) (earlier ls : List Line) → all ≡ earlier ++ ls → list_all (keeps_all p) (body_rows earlier a ls) ≡ true → LinesPutBy (put_reduction all) ls
  body-puts all a earlier [] is h = tt
  body-puts all a earlier (l ∷ ls) is h =
      let row : Row = LineRow (record { kind = None; around = a; earlier = earlier; later = ls }) l in
      let more : List Row = body_rows (earlier ++ l ∷ []) (around_next a l ls) ls in
      let one : puts_one_way earlier l ≡ true = row-by row (all_first (keeps_all p) row more h) in
      let moved : all ≡ (earlier ++ l ∷ []) ++ ls = is ∙ sym (append_assoc earlier (l ∷ []) ls) in (
        subst (λ xs. LinePutsBy (put_reduction xs) l) (sym is) (put-by earlier ls l one),
        body-puts all (around_next a l ls) (earlier ++ l ∷ []) ls moved (all_rest (keeps_all p) row more h),
      )

  handlers-put : (all around earlier behind : List Line) (before hs : List Handler) → all ≡ earlier ++ (flat_map (λ h. h.lines) hs ++ behind) →
      list_all (keeps_all p) (handlers_rows around earlier before hs) ≡ true → HandlersPutBy (put_reduction all) hs
  handlers-put all around earlier behind before [] is h = tt
  handlers-put all around earlier behind before (g ∷ hs) is h =
      let own : List Row = handler_rows around g.kind earlier g.lines in
      let more : List Row = handlers_rows around (earlier ++ g.lines) (before ++ g ∷ []) hs in
      let both : list_all (keeps_all p) (own ++ more) ≡ true = all_rest (keeps_all p) (HandlerRow before g) (own ++ more) h in
      let rest : List Line = flat_map (λ x. x.lines) hs in
      let first : all ≡ earlier ++ (g.lines ++ (rest ++ behind)) = is ∙ ap (λ l. earlier ++ l) (append_assoc g.lines rest behind) in
      let moved : all ≡ (earlier ++ g.lines) ++ (rest ++ behind) = first ∙ sym (append_assoc earlier g.lines (rest ++ behind)) in (
        own-by all around g.kind earlier g.lines (rest ++ behind) first (all_front (keeps_all p) own more both),
        handlers-put all around (earlier ++ g.lines) behind (before ++ g ∷ []) hs moved (all_back (keeps_all p) own more both),
      )

  abbrev pub PutsOneWay : Block → Type 0
  PutsOneWay b = HandlersPutBy (put_reduction (handled_lines b ++ b.body)) b.handlers × LinesPutBy (put_reduction (handled_lines b ++ b.body)) b.body

  block-puts : (b : Block) → list_all (keeps_all p) (block_rows b) ≡ true → PutsOneWay b
  block-puts b h =
      let of_handlers : List Row = handlers_rows (handled_lines b) [] [] b.handlers in
      let of_body : List Row = Plain ∷ body_rows (handled_lines b) outside b.body in
      let both : list_all (keeps_all p) (of_handlers ++ of_body) ≡ true = all_rest (keeps_all p) Plain (of_handlers ++ of_body) h in (
        handlers-put (handled_lines b ++ b.body) (handled_lines b) [] b.body [] b.handlers refl (all_front (keeps_all p) of_handlers of_body both),
        body-puts (handled_lines b ++ b.body) outside (handled_lines b) b.body refl (all_rest (keeps_all p) Plain (body_rows (handled_lines b) outside b.body) (all_back (keeps_all p) of_handlers of_body both)),
      )

  blocks-put : (blocks : List Block) → list_all (keeps_all p) (flat_map block_rows blocks) ≡ true → (q : ℕ) → PutsOneWay (slice_index_or blocks q no_block)
  blocks-put [] h q = (tt, tt)
  blocks-put (b ∷ blocks) h zero = block-puts b (all_front (keeps_all p) (block_rows b) (flat_map block_rows blocks) h)
  blocks-put (b ∷ blocks) h (suc q) = blocks-put blocks (all_back (keeps_all p) (block_rows b) (flat_map block_rows blocks) h) q

  pub sound-puts : IsTrue (is_sound p) → (q : ℕ) → PutsOneWay (block_at p q)
  sound-puts sound q = blocks-put p.blocks (blocks_pass p sound) q

-- what the steps of nodes with a block of a sound image put may be taken in any order
pub steps-settle : {A : Type 0} (p : Program) (q : ℕ) → IsTrue (is_sound p) → (context : A → VertexContext) (box : A → List Message) (fields : A → List Value) (xs : List A) (ps : List Contribution) (held : List Value) →
    SameBag ps (flat_map (λ x. (vertex_after p (block_at p q) (context x) (box x) (fields x)).state.puts) xs) →
    settled (length p.places) ps held ≡ settled (length p.places) (flat_map (λ x. (vertex_after p (block_at p q) (context x) (box x) (fields x)).state.puts) xs) held
steps-settle p q sound context box fields xs ps held same =
    let reduction : ℕ → Reduction = put_reduction (handled_lines (block_at p q) ++ (block_at p q).body) in
    let one : PutsOneWay p (block_at p q) = sound-puts p sound q in
    settled-bags reduction (length p.places) held
    (AreBy-each reduction (λ x. (vertex_after p (block_at p q) (context x) (box x) (fields x)).state.puts) xs (λ x. vertex-by reduction p (block_at p q) (context x) (box x) (fields x) one.0 one.1))
    same

-- A vertex's step depends on its inbox as a bag alone.
use Rattle.std.proofs.Common.{◌≡◌, ℕ, zero, suc, Bool, true, false, cond, nat_eq, Option, Some, None, Result, Ok, Err, List, [], ◌∷◌, ◌++◌, map, find, length, refl, sym, ap, ◌∙◌, subst, ⊎_elim}
use Rattle.std.specs.List.{flat_map, enumerate_from, list_any}
use Rattle.std.specs.Option.{option_map}
use Rattle.std.specs.Prelude.{◌==◌, ◌||◌}
use Rattle.std.proofs.lemmas.Bool.{cases_eq, cases_Bool, ne_eqb}
use Rattle.std.proofs.lemmas.List.{append-nil}
use Rattle.gm_value.specs.declared.values.Value.{Value}
use Rattle.gm_value.specs.declared.reductions.Reduce.{Reduce}
use Rattle.gm_value.specs.Numbers.{zero_of}
use Rattle.gm_value.specs.Bag.{SameBag}
use Rattle.gm_value.specs.Taking.{TakesBags}
use Rattle.gm_image.specs.Parts.{terms_of, slots_of, is_among}
use Rattle.gm_image.specs.Folds.{Reduction, same_numbers}
use Rattle.gm_value.proofs.BagLaws.{SameBag-append_right, SameBag-filter, SameBag-map, SameBag-folded}
use Rattle.gm_value.proofs.TakingLaws.{taken-bags}
use Rattle.gm_value.proofs.TupleLaws.{slots-permuted}
use Rattle.gm_image.specs.Program.{Program, Block, Handler, Line, Target, SetField, Fold, SetRegister, Put, Send, Skip, Each}
use Rattle.gm_machine.specs.declared.faults.Fault.{Fault}
use Rattle.gm_machine.specs.Faults.{lesser, least_from, then_go}
use Rattle.gm_machine.specs.Expressions.{View, value, values, value_at}
use Rattle.gm_machine.specs.Taking.{Contribution, contributed, has_slot, reduction_of, first_reduction, to_target, closed, overflow_at, entry_of, slot_by, slot_after, value_or, fault_of, value_after, fault_after, settled, Settled}
use Rattle.gm_machine.specs.Vertex.{Message, VertexContext, VertexState, After, view, gives, line_ends, leaves, line_after, go_by, goes_on, lines_after, ended, handler_lines, lines_of, handler_run, gathered, begun, body_after, vertex_after}
use Rattle.gm_machine.specs.VertexViews.{after_behind}
use Rattle.gm_machine.specs.Laws.{AreReducedBy, LineFoldsBy, LinesFoldBy, HandlersFoldBy, SameStep}
use Rattle.gm_machine.proofs.Behind.{body-behind}
use Rattle.gm_machine.proofs.LeastLaws.{least-permuted}
use Rattle.gm_machine.proofs.BagLemmas.{flat_map-permuted}

-- contributions that are reduced by the reduction of their slots
abbrev pub AreBy : (ℕ → Reduction) → List Contribution → Type 0
AreBy reduction [] = Unit {0}
AreBy reduction (c ∷ cs) = AreReducedBy reduction (reduction_of c) c.slots × AreBy reduction cs

pub AreBy-append : (reduction : ℕ → Reduction) (cs ds : List Contribution) → AreBy reduction cs → AreBy reduction ds → AreBy reduction (cs ++ ds)
AreBy-append reduction [] ds a b = b
AreBy-append reduction (c ∷ cs) ds a b = (a.0, AreBy-append reduction cs ds a.1 b)

-- what one line gives
abbrev pub IfGiven : (ℕ → Reduction) → Result (List Contribution) Fault → Type 0
IfGiven reduction (Ok given) = AreBy reduction given
IfGiven reduction (Err f) = Unit {0}

contributed-by : (reduction : ℕ → Reduction) (r : Reduce) (place : ℕ) (slots : List ℕ) (vs : List Value) → AreReducedBy reduction (record { reduce = r; slots = slots }) slots →
    AreBy reduction (contributed place r slots vs)
contributed-by reduction r place [] vs by = tt
contributed-by reduction r place (slot ∷ slots) vs by = (by, tt)

pub gives-by : (reduction : ℕ → Reduction) (w : View) (r : Reduce) (place : ℕ) (ts : List Target) → AreReducedBy reduction (record { reduce = r; slots = slots_of ts }) (slots_of ts) →
    IfGiven reduction (gives w r place ts)
gives-by reduction w r place ts by = given (values w (terms_of ts)) where
  given : (vs : Result (List Value) Fault) → IfGiven reduction (then_go vs (λ us. Ok (contributed place r (slots_of ts) us)))
  given (Ok vs) = contributed-by reduction r place (slots_of ts) vs by
  given (Err f) = tt

-- an end of a line whose folds are by their reductions
ends-by : (reduction : ℕ → Reduction) {A : Type 0} (w : VertexState) (r : Result A Fault) (go : A → After) → AreBy reduction w.folds → ((x : A) → AreBy reduction (go x).state.folds) → AreBy reduction (line_ends w r go).state.folds
ends-by reduction w (Ok x) go is each = each x
ends-by reduction w (Err f) go is each = is

pub line-by : (reduction : ℕ → Reduction) (s : VertexContext) (l : Line) (w : VertexState) → LineFoldsBy reduction l → AreBy reduction w.folds → AreBy reduction (line_after s l w).state.folds
line-by reduction s (SetField f a) w by is = ends-by reduction w (value (view s w) a) _ is (λ x. is)
line-by reduction s (Fold r place ts) w by is = given (gives (view s w) r place ts) (gives-by reduction (view s w) r place ts by) where
  given : (g : Result (List Contribution) Fault) → IfGiven reduction g → AreBy reduction (line_ends w g (λ cs. leaves (record w { folds = w.folds ++ cs }))).state.folds
  given (Ok cs) all = AreBy-append reduction w.folds cs is all
  given (Err f) all = is
line-by reduction s (SetRegister r a) w by is = ends-by reduction w (value (view s w) a) _ is (λ x. is)
line-by reduction s (Put r place ts) w by is = ends-by reduction w (gives (view s w) r place ts) _ is (λ x. is)
line-by reduction s (Send kind to ts) w by is = ends-by reduction w (value (view s w) to) _ is (λ t. ends-by reduction w (values (view s w) ts) _ is (λ x. is))
line-by reduction s (Skip n a) w by is = ends-by reduction w (value (view s w) a) _ is (λ x. is)
line-by reduction s (Each d n) w by is = is

pub lines-by : (reduction : ℕ → Reduction) (s : VertexContext) (ls : List Line) (k : ℕ) (w : VertexState) → LinesFoldBy reduction ls → AreBy reduction w.folds → AreBy reduction (lines_after s ls k w).state.folds
lines-by reduction s [] k w by is = is
lines-by reduction s (l ∷ ls) (suc k) w by is = lines-by reduction s ls k w by.1 is
lines-by reduction s (l ∷ ls) zero w by is =
    let a : After = line_after s l w in
    goes a.fault (λ k u h. lines-by reduction s ls k u by.1 h)
  where
    goes : (f : Option Fault) → ((k : ℕ) (u : VertexState) → AreBy reduction u.folds → AreBy reduction (lines_after s ls k u).state.folds) →
        AreBy reduction (go_by f (line_after s l w) (λ k u. lines_after s ls k u)).state.folds
    goes None rest = rest (line_after s l w).skip (line_after s l w).state (line-by reduction s l w by.0 is)
    goes (Some f) rest = line-by reduction s l w by.0 is

pub handler-by : (reduction : ℕ → Reduction) (hs : List Handler) (kind : ℕ) → HandlersFoldBy reduction hs → LinesFoldBy reduction (handler_lines hs kind)
handler-by reduction [] kind by = tt
handler-by reduction (h ∷ hs) kind by = one (nat_eq h.kind kind) (handler-by reduction hs kind by.1) where
  one : (b : Bool) → LinesFoldBy reduction (handler_lines hs kind) → LinesFoldBy reduction (lines_of (cond b (Some h) (find (λ g. nat_eq g.kind kind) hs)))
  one true rest = by.0
  one false rest = rest

-- a closing depends on its contributions as a bag alone
pub closed-bags : (r : Reduce) → TakesBags (closed r)
closed-bags r held some other same = slots-permuted r held (map (λ c. c.values) some) (map (λ c. c.values) other) (SameBag-map (λ c. c.values) same)

-- what runs fold
pub runs-by : (reduction : ℕ → Reduction) (run : Message → After) (ms : List Message) → ((m : Message) → AreBy reduction (run m).state.folds) → AreBy reduction (flat_map (λ a. a.state.folds) (map run ms))
runs-by reduction run [] each = tt
runs-by reduction run (m ∷ ms) each = AreBy-append reduction (run m).state.folds (flat_map (λ a. a.state.folds) (map run ms)) (each m) (runs-by reduction run ms each)

-- a slot of a reduction
own-by : (reduction : ℕ → Reduction) (r : Reduction) (slot : ℕ) (slots : List ℕ) → is_among slot slots ≡ true → AreReducedBy reduction r slots → r ≡ reduction slot
own-by reduction r slot [] has by = cc
own-by reduction r slot (s ∷ slots) has by =
    ⊎_elim
    (λ (here : s ≡ slot). by.0 ∙ ap reduction here)
    (λ (differs : s ≡ slot → ⊥). own-by reduction r slot slots (sym (ap (λ b. b || list_any (λ m. m == slot) slots) (ne_eqb s slot differs)) ∙ has) by.1)
    (cases_eq s slot)

-- the first reduction of a slot is the slot's, where there is one
pub first-by : (reduction : ℕ → Reduction) (slot : ℕ) (cs : List Contribution) → AreBy reduction cs →
    first_reduction slot cs ≡ cond (list_any (has_slot slot) cs) (Some (reduction slot)) None
first-by reduction slot [] by = refl
first-by reduction slot (c ∷ cs) by =
    ⊎_elim
    (λ (has : has_slot slot c ≡ true).
    ap (λ b. option_map reduction_of (cond b (Some c) (find (has_slot slot) cs))) has
    ∙ ap Some (own-by reduction (reduction_of c) slot c.slots has by.0)
    ∙ sym (ap (λ b. cond (b || list_any (has_slot slot) cs) (Some (reduction slot)) None) has))
    (λ (lacks : has_slot slot c ≡ false).
    ap (λ b. option_map reduction_of (cond b (Some c) (find (has_slot slot) cs))) lacks
    ∙ first-by reduction slot cs by.1
    ∙ sym (ap (λ b. cond (b || list_any (has_slot slot) cs) (Some (reduction slot)) None) lacks))
    (cases_Bool (has_slot slot c))

-- then the slot is one of the reduction's
pub slot-among : (reduction : ℕ → Reduction) (slot : ℕ) (cs : List Contribution) → AreBy reduction cs → list_any (has_slot slot) cs ≡ true → is_among slot (reduction slot).slots ≡ true
slot-among reduction slot [] by any = cc
slot-among reduction slot (c ∷ cs) by any =
    ⊎_elim
    (λ (has : has_slot slot c ≡ true). ap (λ (r : Reduction). is_among slot r.slots) (sym (own-by reduction (reduction_of c) slot c.slots has by.0)) ∙ has)
    (λ (lacks : has_slot slot c ≡ false). slot-among reduction slot cs by.1 (sym (ap (λ b. b || list_any (has_slot slot) cs) lacks) ∙ any))
    (cases_Bool (has_slot slot c))

or-exchange : (a b c : Bool) → a || (b || c) ≡ b || (a || c)
or-exchange true true c = refl
or-exchange true false c = refl
or-exchange false b c = refl

pub any-permuted : {A : Type 0} (test : A → Bool) {xs ys : List A} → SameBag xs ys → list_any test xs ≡ list_any test ys
any-permuted test = SameBag-folded (list_any test) (λ x b. test x || b) (λ x rest. refl) (λ x y b. or-exchange (test x) (test y) b)

-- what a slot holds after its contributions does not depend on their order
pub slot-permuted : (reduction : ℕ → Reduction) (places slot : ℕ) (held : List Value) {cs ds : List Contribution} → AreBy reduction cs → AreBy reduction ds → SameBag cs ds →
    slot_after places cs held slot ≡ slot_after places ds held slot
slot-permuted reduction places slot held {cs} {ds} by also same =
    ap (slot_by places cs held slot) (first-by reduction slot cs by)
    ∙ each (list_any (has_slot slot) cs)
    ∙ ap (λ b. slot_by places ds held slot (cond b (Some (reduction slot)) None)) (any-permuted (has_slot slot) same)
    ∙ sym (ap (slot_by places ds held slot) (first-by reduction slot ds also))
  where
    each : (b : Bool) → slot_by places cs held slot (cond b (Some (reduction slot)) None) ≡ slot_by places ds held slot (cond b (Some (reduction slot)) None)
    each true =
        ap (λ r. then_go (overflow_at r) (λ vs. Ok (entry_of slot (reduction slot).slots vs (value_at held slot))))
        (taken-bags (λ c. c.place) (closed (reduction slot).reduce) (closed-bags (reduction slot).reduce) places (map (value_at held) (reduction slot).slots)
        (to_target (reduction slot).slots cs) (to_target (reduction slot).slots ds) (SameBag-filter (λ c. same_numbers c.slots (reduction slot).slots) same))
    each false = refl

pub map-each : {A B : Type 0} (f g : A → B) (xs : List A) → ((x : A) → f x ≡ g x) → map f xs ≡ map g xs
map-each f g [] same = refl
map-each f g (x ∷ xs) same = ap (λ y. y ∷ map f xs) (same x) ∙ ap (λ ys. g x ∷ ys) (map-each f g xs same)

pub settled-permuted : (reduction : ℕ → Reduction) (places : ℕ) (held : List Value) {cs ds : List Contribution} → AreBy reduction cs → AreBy reduction ds → SameBag cs ds →
    settled places cs held ≡ settled places ds held
settled-permuted reduction places held {cs} {ds} by also same =
    let made : List Value → List (Option Fault) → Settled = λ vs fs. record { values = vs; fault = least_from None fs } in
    ap (λ vs. made vs (map (fault_after places cs held) (enumerate_from 0 held)))
    (map-each (value_after places cs held) (value_after places ds held) (enumerate_from 0 held) (λ at. ap (value_or at.1) (slot-permuted reduction places at.0 held by also same)))
    ∙ ap (made (map (value_after places ds held) (enumerate_from 0 held)))
    (map-each (fault_after places cs held) (fault_after places ds held) (enumerate_from 0 held) (λ at. ap fault_of (slot-permuted reduction places at.0 held by also same)))

-- a state without folds
abbrev pub idle : List Value → List Value → List Message → List Contribution → VertexState
idle fields registers ms ps = record { fields = fields; registers = registers; messages = ms; puts = ps; folds = [] }

-- a body comes to the same behind messages and contributions in another order
body-permuted : (places : ℕ) (s : VertexContext) (ls : List Line) (fields registers : List Value) (ms ns : List Message) (ps qs : List Contribution) → SameBag ms ns → SameBag ps qs →
    SameStep (body_after places s ls 0 (idle fields registers ms ps)) (body_after places s ls 0 (idle fields registers ns qs))
body-permuted places s ls fields registers ms ns ps qs same_ms same_ps =
    let x : After = body_after places s ls 0 (idle fields registers [] []) in
    let e : body_after places s ls 0 (idle fields registers ms ps) ≡ after_behind ms ps [] x = at ms ps in
    let e' : body_after places s ls 0 (idle fields registers ns qs) ≡ after_behind ns qs [] x = at ns qs in
    record {
      fields = ap (λ a. a.state.fields) e ∙ sym (ap (λ a. a.state.fields) e');
      fault = ap (λ a. a.fault) e ∙ sym (ap (λ a. a.fault) e');
      puts =
          subst (λ l. SameBag l (body_after places s ls 0 (idle fields registers ns qs)).state.puts) (sym (ap (λ a. a.state.puts) e))
          (subst (λ l. SameBag (ps ++ x.state.puts) l) (sym (ap (λ a. a.state.puts) e')) (SameBag-append_right x.state.puts same_ps));
      messages =
          subst (λ l. SameBag l (body_after places s ls 0 (idle fields registers ns qs)).state.messages) (sym (ap (λ a. a.state.messages) e))
          (subst (λ l. SameBag (ms ++ x.state.messages) l) (sym (ap (λ a. a.state.messages) e')) (SameBag-append_right x.state.messages same_ms));
    }
  where
    at : (xs : List Message) (ys : List Contribution) → body_after places s ls 0 (idle fields registers xs ys) ≡ after_behind xs ys [] (body_after places s ls 0 (idle fields registers [] []))
    at xs ys =
        ap (λ l. body_after places s ls 0 (idle fields registers l ys)) (sym (append-nil xs))
        ∙ ap (λ l. body_after places s ls 0 (idle fields registers (xs ++ []) l)) (sym (append-nil ys))
        ∙ body-behind xs ys places s ls 0 (idle fields registers [] [])

-- the end of the handlers, and what follows
pub goes-permuted : (places : ℕ) (s : VertexContext) (ls : List Line) (fields registers : List Value) (ms ns : List Message) (ps qs : List Contribution) (f : Option Fault) → SameBag ms ns → SameBag ps qs →
    SameStep
    (goes_on (ended (idle fields registers ms ps) f 0) (λ k w. body_after places s ls 0 w))
    (goes_on (ended (idle fields registers ns qs) f 0) (λ k w. body_after places s ls 0 w))
goes-permuted places s ls fields registers ms ns ps qs None same_ms same_ps = body-permuted places s ls fields registers ms ns ps qs same_ms same_ps
goes-permuted places s ls fields registers ms ns ps qs (Some f) same_ms same_ps = record { fields = refl; fault = refl; puts = same_ps; messages = same_ms }

pub vertex-permuted : (p : Program) (b : Block) (s : VertexContext) (inbox other : List Message) (fields : List Value) (reduction : ℕ → Reduction) →
    HandlersFoldBy reduction b.handlers → SameBag inbox other →
    SameStep (vertex_after p b s inbox fields) (vertex_after p b s other fields)
vertex-permuted p b s inbox other fields reduction by same =
    let start : VertexState = begun p.registers fields in
    let run : Message → After = handler_run s b.handlers start in
    let runs : SameBag (map run inbox) (map run other) = SameBag-map run same in
    let some : VertexState = (gathered start (map run inbox)).state in
    let more : VertexState = (gathered start (map run other)).state in
    let folds_by : (m : Message) → AreBy reduction (run m).state.folds = λ m. lines-by reduction (record s { message = m.values }) (handler_lines b.handlers m.kind) 0 start (handler-by reduction b.handlers m.kind by) tt in
    let settles : settled (length p.places) some.folds fields ≡ settled (length p.places) more.folds fields =
    settled-permuted reduction (length p.places) fields (runs-by reduction run inbox folds_by) (runs-by reduction run other folds_by) (flat_map-permuted (λ a. a.state.folds) runs) in
    let faults : least_from None (map (λ a. a.fault) (map run inbox)) ≡ least_from None (map (λ a. a.fault) (map run other)) = least-permuted (SameBag-map (λ a. a.fault) runs) in
    let first : Settled = settled (length p.places) some.folds fields in
    let second : Settled = settled (length p.places) more.folds fields in
    let ends_as : List Message → List Contribution → Settled → Option Fault → After = λ ms ps t f. goes_on (ended (idle t.values (map zero_of p.registers) ms ps) (lesser f t.fault) 0) (λ k w. body_after (length p.places) s b.body 0 w) in
    subst (λ a. SameStep a (vertex_after p b s other fields))
    (sym (ap (λ t. ends_as some.messages some.puts t (least_from None (map (λ a. a.fault) (map run inbox)))) settles ∙ ap (ends_as some.messages some.puts second) faults))
    (goes-permuted (length p.places) s b.body second.values (map zero_of p.registers) some.messages more.messages some.puts more.puts (lesser (least_from None (map (λ a. a.fault) (map run other))) second.fault)
    (flat_map-permuted (λ a. a.state.messages) runs)
    (flat_map-permuted (λ a. a.state.puts) runs))

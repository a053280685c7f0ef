-- Walks over the handlers of a block.
use Rattle.std.proofs.Common.{◌≡◌, ◌+◌, ◌<◌, ◌≤◌, ℕ, suc, Bool, true, cond, Option, None, Ok, Err, List, [], ◌∷◌, ◌++◌, length, map, take, drop, get_or, refl, sym, ap, subst, ◌∙◌, arith, length-append}
use Rattle.std.specs.Prelude.{nat_eq, ◌==◌, ◌||◌}
use Rattle.std.specs.List.{list_any, flat_map}
use Rattle.std.specs.HashSet.{HashSet, contains}
use Rattle.std.proofs.lemmas.List.{append-nil, length-map}
use Rattle.std.proofs.lemmas.Grind.{flat_map-append}
use Rattle.gm_image.specs.declared.images.Handler as H
use Rattle.gm_image.specs.declared.rules.ImageRule.{ImageRule}
use Rattle.gm_image.specs.Program.{Program, Line, Handler}
use Rattle.gm_image.specs.Views.{line, handler}
use Rattle.gm_image.specs.Rows.{Row, HandlerRow, in_handlers, handler_rows, handlers_rows}
use Rattle.gm_image.specs.Soundness.{broken_rule}
use Rattle.gm_verify.specs.declared.firsts.Firsts.{Firsts}
use Rattle.gm_verify.specs.declared.scopes.Scope.{Scope}
use Rattle.gm_verify.specs.declared.stops.VerifyStop.{VerifyStop}
use Rattle.gm_verify.specs.Checks.{Steps, Checks, Walks, all_handlers_rows}
use Rattle.gm_verify.specs.Scopes.{ShowsScope, ShowsPuts}
use Rattle.gm_verify.proofs.Lists.{any-push, nothing-left, taken-all}
use Rattle.gm_verify.proofs.Declared.{rest-at, before-at}
use Rattle.gm_verify.proofs.Differing.{cond-or}
use Rattle.gm_verify.proofs.Walking.{walks-start, walks-next, walks-stop, walks-section, walks-broken, walks-end}

-- the lines of some handlers
abbrev pub lines_in : List Handler → List Line
lines_in hs = flat_map (λ (h : Handler). h.lines) hs

-- the lines of the handlers that are left, with their headers
abbrev pub rest_rows : List H.Handler → ℕ → List Row
rest_rows hs i = handlers_rows (lines_in (map handler hs)) (lines_in (map handler (take i hs))) (map handler (take i hs)) (map handler (drop i hs))

-- the handlers of a block so far break no rule, and the code shows them
pub record Groups {S : Type 0} (p : Program) (n : ℕ) (hs : List H.Handler) (i next : ℕ) (kinds : HashSet ℕ S) (scope : Scope) (first puts : Firsts) : Type 0 where
  pub count : n + length (all_handlers_rows (map handler hs)) ≡ next + length (rest_rows hs i)
  pub members : (k : ℕ) → contains nat_eq kinds k ≡ list_any (λ (h : Handler). h.kind == k) (map handler (take i hs))
  pub scoped : ShowsScope scope (in_handlers (lines_in (map handler hs)) (lines_in (map handler (take i hs))))
  pub walked : ShowsPuts first [] → Walks p n (all_handlers_rows (map handler hs)) next (rest_rows hs i)
  pub shown : ShowsPuts first [] → ShowsPuts puts (lines_in (map handler (take i hs)))

pub groups-start : {S : Type 0} (p : Program) (n : ℕ) (hs : List H.Handler) (kinds : HashSet ℕ S) (scope : Scope) (first : Firsts) → kinds.keys ≡ []
    → ShowsScope scope (in_handlers (lines_in (map handler hs)) []) → Groups p n hs 0 n kinds scope first first
groups-start p n hs kinds scope first empty s = record {
  count = refl;
  members = λ k. ap (λ (ks : List ℕ). list_any (nat_eq k) ks) empty;
  scoped = s;
  walked = λ t. walks-start p n (all_handlers_rows (map handler hs));
  shown = λ t. t;
}

lines-push : (hs : List Handler) (h : Handler) → lines_in hs ++ h.lines ≡ lines_in (hs ++ h ∷ [])
lines-push hs h = ap (λ (ls : List Line). lines_in hs ++ ls) (sym (append-nil h.lines)) ∙ sym (flat_map-append (λ (g : Handler). g.lines) hs (h ∷ []))

pub lines-at : (hs : List H.Handler) (i : ℕ) (x : H.Handler) → i < length hs → x ≡ get_or hs i x → lines_in (map handler (take i hs)) ++ map line x.lines ≡ lines_in (map handler (take (i + 1) hs))
lines-at hs i x lt is = lines-push (map handler (take i hs)) (handler x) ∙ ap lines_in (before-at handler hs i x lt is)

-- the next handler with its lines, and those after it
pub rows-at : (hs : List H.Handler) (i : ℕ) (x : H.Handler) → i < length hs → x ≡ get_or hs i x
    → rest_rows hs i ≡ HandlerRow (map handler (take i hs)) (handler x) ∷ (handler_rows (lines_in (map handler hs)) x.kind (lines_in (map handler (take i hs))) (map line x.lines) ++ rest_rows hs (i + 1))
rows-at hs i x lt is =
    let all = lines_in (map handler hs) in
    let earlier = lines_in (map handler (take i hs)) in
    let before = map handler (take i hs) in
    let later = map handler (drop (i + 1) hs) in
    ap (λ (gs : List Handler). handlers_rows all earlier before gs) (rest-at handler hs i x lt is)
    ∙ ap (λ (ls : List Line). HandlerRow before (handler x) ∷ (handler_rows all x.kind earlier (map line x.lines) ++ handlers_rows all ls (before ++ handler x ∷ []) later)) (lines-at hs i x lt is)
    ∙ ap (λ (gs : List Handler). HandlerRow before (handler x) ∷ (handler_rows all x.kind earlier (map line x.lines) ++ handlers_rows all (lines_in (map handler (take (i + 1) hs))) gs later))
    (before-at handler hs i x lt is)

pub length-handler_rows : (all : List Line) (kind : ℕ) (ls earlier : List Line) → length (handler_rows all kind earlier ls) ≡ length ls
length-handler_rows all kind [] earlier = refl
length-handler_rows all kind (l ∷ ls) earlier = ap suc (length-handler_rows all kind ls (earlier ++ l ∷ []))

-- how many lines are left from a handler on
pub length-at : (hs : List H.Handler) (i : ℕ) (x : H.Handler) → i < length hs → x ≡ get_or hs i x → length (rest_rows hs i) ≡ 1 + length x.lines + length (rest_rows hs (i + 1))
length-at hs i x lt is =
    let own = handler_rows (lines_in (map handler hs)) x.kind (lines_in (map handler (take i hs))) (map line x.lines) in
    let rest = rest_rows hs (i + 1) in
    let here : length (rest_rows hs i) ≡ suc (length (own ++ rest)) = ap length (rows-at hs i x lt is) in
    let long : length own ≡ length x.lines = length-handler_rows (lines_in (map handler hs)) x.kind (map line x.lines) (lines_in (map handler (take i hs))) ∙ length-map x.lines line in
    omega (arith, here, length-append own rest, long)

-- one more handler, which breaks no rule
pub groups-next : {S : Type 0} (p : Program) (n : ℕ) (hs : List H.Handler) (i next mid after : ℕ) (kinds added : HashSet ℕ S) (scope new : Scope) (first puts more : Firsts) (x : H.Handler) (rule : Option ImageRule)
    → Groups p n hs i next kinds scope first puts → i < length hs → x ≡ get_or hs i x
    → rule ≡ broken_rule p (HandlerRow (map handler (take i hs)) (handler x)) → rule ≡ None → mid ≡ next + 1 → after ≡ mid + length x.lines
    → ((k : ℕ) → contains nat_eq added k ≡ cond (nat_eq x.kind k) true (contains nat_eq kinds k))
    → ((all before : List Line) → ShowsScope scope (in_handlers all before) → ShowsScope new (in_handlers all (before ++ map line x.lines)))
    → ((before : List Line) → ShowsPuts puts before → ShowsPuts more (before ++ map line x.lines))
    → ((all before : List Line) → ShowsScope scope (in_handlers all before) → ShowsPuts puts before → Checks p mid (handler_rows all x.kind before (map line x.lines)) (Ok after))
    → Groups p n hs (i + 1) after added new first more
groups-next p n hs i next mid after kinds added scope new first puts more x rule g lt is ruled none at long puts-kind scopes adds checks =
    let all = lines_in (map handler hs) in
    let earlier = lines_in (map handler (take i hs)) in
    let before = map handler (take i hs) in
    let own = handler_rows all x.kind earlier (map line x.lines) in
    let rest = rest_rows hs (i + 1) in
    let total = all_handlers_rows (map handler hs) in
    record {
      count =
          let count : n + length total ≡ next + length (rest_rows hs i) = g.count in
          let here : length (rest_rows hs i) ≡ 1 + length x.lines + length rest = length-at hs i x lt is in
          omega (arith, count, here, at, long);
      members = λ k.
          puts-kind k ∙ cond-or (nat_eq x.kind k) (contains nat_eq kinds k) ∙ ap (λ (b : Bool). x.kind == k || b) (g.members k)
          ∙ sym (any-push (λ (h : Handler). h.kind == k) before (handler x)) ∙ ap (list_any (λ (h : Handler). h.kind == k)) (before-at handler hs i x lt is);
      scoped = subst (λ (ls : List Line). ShowsScope new (in_handlers all ls)) (lines-at hs i x lt is) (scopes all earlier g.scoped);
      walked = λ t.
          let here = subst (λ (rs : List Row). Walks p n total next rs) (rows-at hs i x lt is) (g.walked t) in
          walks-section p n total mid after own rest (walks-next p n total next mid (HandlerRow before (handler x)) (own ++ rest) rule here ruled none at)
          (checks all earlier g.scoped (g.shown t));
      shown = λ t. subst (λ (ls : List Line). ShowsPuts more ls) (lines-at hs i x lt is) (adds earlier (g.shown t));
    }

-- a header that breaks a rule
pub groups-stop : {S : Type 0} (p : Program) (n : ℕ) (hs : List H.Handler) (i next : ℕ) (kinds : HashSet ℕ S) (scope : Scope) (first puts : Firsts) (x : H.Handler) (rule : Option ImageRule)
    → Groups p n hs i next kinds scope first puts → i < length hs → x ≡ get_or hs i x
    → rule ≡ broken_rule p (HandlerRow (map handler (take i hs)) (handler x)) → (e : VerifyStop) → Steps rule next (Err e)
    → ShowsPuts first [] → Checks p n (all_handlers_rows (map handler hs)) (Err e)
groups-stop p n hs i next kinds scope first puts x rule g lt is ruled e stops t =
    let all = lines_in (map handler hs) in
    let earlier = lines_in (map handler (take i hs)) in
    let before = map handler (take i hs) in
    let total = all_handlers_rows (map handler hs) in
    walks-stop p n total next (HandlerRow before (handler x)) (handler_rows all x.kind earlier (map line x.lines) ++ rest_rows hs (i + 1)) rule
    (subst (λ (rs : List Row). Walks p n total next rs) (rows-at hs i x lt is) (g.walked t)) ruled e stops

-- a line of a handler that breaks a rule
pub groups-broken : {S : Type 0} (p : Program) (n : ℕ) (hs : List H.Handler) (i next mid : ℕ) (kinds : HashSet ℕ S) (scope : Scope) (first puts : Firsts) (x : H.Handler) (rule : Option ImageRule)
    → Groups p n hs i next kinds scope first puts → i < length hs → x ≡ get_or hs i x
    → rule ≡ broken_rule p (HandlerRow (map handler (take i hs)) (handler x)) → rule ≡ None → mid ≡ next + 1 → (e : VerifyStop)
    → ((all before : List Line) → ShowsScope scope (in_handlers all before) → ShowsPuts puts before → Checks p mid (handler_rows all x.kind before (map line x.lines)) (Err e))
    → ShowsPuts first [] → Checks p n (all_handlers_rows (map handler hs)) (Err e)
groups-broken p n hs i next mid kinds scope first puts x rule g lt is ruled none at e checks t =
    let all = lines_in (map handler hs) in
    let earlier = lines_in (map handler (take i hs)) in
    let before = map handler (take i hs) in
    let own = handler_rows all x.kind earlier (map line x.lines) in
    let rest = rest_rows hs (i + 1) in
    let total = all_handlers_rows (map handler hs) in
    let here = subst (λ (rs : List Row). Walks p n total next rs) (rows-at hs i x lt is) (g.walked t) in
    walks-broken p n total mid own rest (walks-next p n total next mid (HandlerRow before (handler x)) (own ++ rest) rule here ruled none at) e
    (checks all earlier g.scoped (g.shown t))

-- no handler is left
pub groups-end : {S : Type 0} (p : Program) (n : ℕ) (hs : List H.Handler) (i next : ℕ) (kinds : HashSet ℕ S) (scope : Scope) (first puts : Firsts) → Groups p n hs i next kinds scope first puts → length hs ≤ i
    → ShowsPuts first [] → Checks p n (all_handlers_rows (map handler hs)) (Ok next)
groups-end p n hs i next kinds scope first puts g end t =
    let total = all_handlers_rows (map handler hs) in
    walks-end p n total next
    (subst (λ (gs : List H.Handler). Walks p n total next (handlers_rows (lines_in (map handler hs)) (lines_in (map handler (take i hs))) (map handler (take i hs)) (map handler gs))) (nothing-left hs i end) (g.walked t))

pub groups-puts : {S : Type 0} (p : Program) (n : ℕ) (hs : List H.Handler) (i next : ℕ) (kinds : HashSet ℕ S) (scope : Scope) (first puts : Firsts) → Groups p n hs i next kinds scope first puts → length hs ≤ i
    → ShowsPuts first [] → ShowsPuts puts (lines_in (map handler hs))
groups-puts p n hs i next kinds scope first puts g end t = subst (λ (gs : List H.Handler). ShowsPuts puts (lines_in (map handler gs))) (taken-all hs i end) (g.shown t)

-- the number of a handler's header, and the room for its lines
pub groups-room : {S : Type 0} (p : Program) (n : ℕ) (hs : List H.Handler) (i next : ℕ) (kinds : HashSet ℕ S) (scope : Scope) (first puts : Firsts) (x : H.Handler)
    → Groups p n hs i next kinds scope first puts → i < length hs → x ≡ get_or hs i x → n + length (all_handlers_rows (map handler hs)) ≤ 4294967296
    → next + 1 + length x.lines ≤ 4294967296
groups-room p n hs i next kinds scope first puts x g lt is room =
    let count : n + length (all_handlers_rows (map handler hs)) ≡ next + length (rest_rows hs i) = g.count in
    let here : length (rest_rows hs i) ≡ 1 + length x.lines + length (rest_rows hs (i + 1)) = length-at hs i x lt is in
    omega (arith, count, here, room)

-- Walks over the lines of a handler.
use Rattle.std.proofs.Common.{◌≡◌, ◌+◌, ◌<◌, ◌≤◌, ℕ, suc, Bool, Option, Some, None, Ok, Err, List, [], ◌∷◌, ◌++◌, length, map, take, drop, get_or, refl, sym, ap, subst, ◌∙◌, arith}
use Rattle.std.specs.Prelude.{nat_eq, option_map}
use Rattle.std.specs.HashSet.{contains}
use Rattle.std.proofs.lemmas.List.{append-nil, append_assoc}
use Rattle.gm_image.specs.declared.lines.VertexLine.{VertexLine}
use Rattle.gm_image.specs.declared.rules.ImageRule.{ImageRule}
use Rattle.gm_image.specs.Program.{Program, Line}
use Rattle.gm_image.specs.Views.{line}
use Rattle.gm_image.specs.Rows.{Site, LineRow, in_handlers, handler_rows, left_after}
use Rattle.gm_image.specs.Spans.{left_past}
use Rattle.gm_image.specs.Soundness.{broken_rule}
use Rattle.gm_verify.specs.declared.firsts.Firsts.{Firsts}
use Rattle.gm_verify.specs.declared.scopes.Scope.{Scope}
use Rattle.gm_verify.specs.declared.lines.Spot.{Spot}
use Rattle.gm_verify.specs.declared.stops.VerifyStop.{VerifyStop}
use Rattle.gm_verify.specs.Checks.{Steps, Checks, Walks}
use Rattle.gm_image.specs.Items.{direction_of}
use Rattle.gm_verify.specs.Scopes.{ShowsScope, ShowsFolds, ShowsPuts}
use Rattle.gm_verify.specs.Sites.{ShowsInsides, ShowsSite}
use Rattle.gm_verify.proofs.Lists.{nothing-left, taken-all}
use Rattle.gm_verify.proofs.Declared.{rest-at, before-at}
use Rattle.gm_verify.proofs.Insides.{left_past-next}
use Rattle.gm_verify.proofs.Placed.{shows-site, no-each}
use Rattle.gm_verify.proofs.Walking.{walks-start, walks-next, walks-stop, walks-end}

-- where a line of a handler stands
abbrev pub handler_site : List Line → ℕ → List Line → List Line → Site
handler_site all kind earlier later = record { kind = Some kind; around = in_handlers all earlier; earlier = earlier; later = later }

-- the lines of a handler so far break no rule, and the code shows them
pub record Handles (p : Program) (n : ℕ) (xs : List VertexLine) (kind i next : ℕ) (old now : Scope) (first puts : Firsts) : Type 0 where
  pub at : next ≡ n + i
  pub scoped : (all before : List Line) → ShowsScope old (in_handlers all before) → ShowsScope now (in_handlers all (before ++ map line (take i xs)))
  pub shown : (before : List Line) → ShowsPuts first before → ShowsPuts puts (before ++ map line (take i xs))
  pub walked : (all before : List Line) → ShowsScope old (in_handlers all before) → ShowsPuts first before
      → Walks p n (handler_rows all kind before (map line xs)) next (handler_rows all kind (before ++ map line (take i xs)) (map line (drop i xs)))
  pub outside : (all before : List Line) → ShowsScope old (in_handlers all before) → ShowsPuts first before → left_past 0 i (map line xs) ≡ 0

pub handles-start : (p : Program) (n : ℕ) (xs : List VertexLine) (kind : ℕ) (old : Scope) (first : Firsts) → Handles p n xs kind 0 n old old first first
handles-start p n xs kind old first = record {
  at = omega arith;
  scoped = λ all before s. subst (λ (b : List Line). ShowsScope old (in_handlers all b)) (sym (append-nil before)) s;
  shown = λ before s. subst (λ (b : List Line). ShowsPuts first b) (sym (append-nil before)) s;
  walked = λ all before s t. subst (λ (b : List Line). Walks p n (handler_rows all kind before (map line xs)) n (handler_rows all kind b (map line xs))) (sym (append-nil before))
      (walks-start p n (handler_rows all kind before (map line xs)));
  outside = λ all before s t. refl;
}

-- the lines before a line, and it
pub push-at : (before : List Line) (xs : List VertexLine) (i : ℕ) (x : VertexLine) → i < length xs → x ≡ get_or xs i x
    → before ++ map line (take i xs) ++ line x ∷ [] ≡ before ++ map line (take (i + 1) xs)
push-at before xs i x lt is = append_assoc before (map line (take i xs)) (line x ∷ []) ∙ ap (λ (ls : List Line). before ++ ls) (before-at line xs i x lt is)

-- the rule that is found is the one that the line breaks
pub handles-rule : (p : Program) (n : ℕ) (xs : List VertexLine) (kind i next : ℕ) (old now : Scope) (first puts : Firsts) (x : VertexLine) (rule : Option ImageRule) (v : List Bool) (spot : Spot)
    → Handles p n xs kind i next old now first puts → i < length xs → x ≡ get_or xs i x → ShowsInsides v (map line xs)
    → ((s : Site) → ShowsSite spot s (line x) → ShowsScope now s.around → ShowsPuts puts s.earlier → rule ≡ broken_rule p (LineRow s (line x)))
    → spot.insides.now ≡ drop (i + 1) v → spot.kind ≡ Some kind
    → (all before : List Line) → ShowsScope old (in_handlers all before) → ShowsPuts first before
    → rule ≡ broken_rule p (LineRow (handler_site all kind (before ++ map line (take i xs)) (map line (drop (i + 1) xs))) (line x))
handles-rule p n xs kind i next old now first puts x rule v spot h lt is inside ruled cut of all before s t =
    let site = handler_site all kind (before ++ map line (take i xs)) (map line (drop (i + 1) xs)) in
    ruled site (shows-site v xs i x spot site inside lt is cut (sym of) refl (λ _. h.outside all before s t)) (h.scoped all before s) (h.shown before t)

handles-here : (p : Program) (n : ℕ) (xs : List VertexLine) (kind i next : ℕ) (old now : Scope) (first puts : Firsts) (x : VertexLine)
    → Handles p n xs kind i next old now first puts → i < length xs → x ≡ get_or xs i x → (all before : List Line) → ShowsScope old (in_handlers all before) → ShowsPuts first before
    → Walks p n (handler_rows all kind before (map line xs)) next (handler_rows all kind (before ++ map line (take i xs)) (line x ∷ map line (drop (i + 1) xs)))
handles-here p n xs kind i next old now first puts x h lt is all before s t =
    subst (λ (ls : List Line). Walks p n (handler_rows all kind before (map line xs)) next (handler_rows all kind (before ++ map line (take i xs)) ls)) (rest-at line xs i x lt is) (h.walked all before s t)

-- a scope with one more reduction of fields
pub scope-more : (now new : Scope) (l : Line) → new.each ≡ now.each → new.left ≡ now.left → new.folded ≡ now.folded
    → ((before : List Line) → ShowsFolds now.firsts before → ShowsFolds new.firsts (before ++ l ∷ []))
    → (all before : List Line) → ShowsScope now (in_handlers all before) → ShowsScope new (in_handlers all (before ++ l ∷ []))
scope-more now new l each left folded adds all before s = record {
  each = s.each ∙ ap (λ o. option_map direction_of o) (sym each);
  left = s.left ∙ sym left;
  folded = λ n. ap (λ f. contains nat_eq f n) folded ∙ s.folded n;
  before = adds before s.before;
}

-- one more line, which breaks no rule
pub handles-next : (p : Program) (n : ℕ) (xs : List VertexLine) (kind i next after : ℕ) (old now new : Scope) (first puts more : Firsts) (x : VertexLine) (rule : Option ImageRule)
    → Handles p n xs kind i next old now first puts → i < length xs → x ≡ get_or xs i x
    → ((all before : List Line) → ShowsScope old (in_handlers all before) → ShowsPuts first before
    → rule ≡ broken_rule p (LineRow (handler_site all kind (before ++ map line (take i xs)) (map line (drop (i + 1) xs))) (line x)))
    → rule ≡ None → after ≡ next + 1
    → ((all before : List Line) → ShowsScope now (in_handlers all before) → ShowsScope new (in_handlers all (before ++ line x ∷ [])))
    → ((before : List Line) → ShowsPuts puts before → ShowsPuts more (before ++ line x ∷ []))
    → Handles p n xs kind (i + 1) after old new first more
handles-next p n xs kind i next after old now new first puts more x rule h lt is ruled none at scopes adds = record {
  at = let was : next ≡ n + i = h.at in omega (arith, was, at);
  scoped = λ all before s. subst (λ (b : List Line). ShowsScope new (in_handlers all b)) (push-at before xs i x lt is) (scopes all (before ++ map line (take i xs)) (h.scoped all before s));
  shown = λ before t. subst (λ (b : List Line). ShowsPuts more b) (push-at before xs i x lt is) (adds (before ++ map line (take i xs)) (h.shown before t));
  walked = λ all before s t.
      let earlier = before ++ map line (take i xs) in
      let later = map line (drop (i + 1) xs) in
      let rows = handler_rows all kind before (map line xs) in
      subst (λ (b : List Line). Walks p n rows after (handler_rows all kind b later)) (push-at before xs i x lt is)
      (walks-next p n rows next after (LineRow (handler_site all kind earlier later) (line x)) (handler_rows all kind (earlier ++ line x ∷ []) later) rule
      (handles-here p n xs kind i next old now first puts x h lt is all before s t) (ruled all before s t) none at);
  outside = λ all before s t.
      let site = handler_site all kind (before ++ map line (take i xs)) (map line (drop (i + 1) xs)) in
      let step : i + 1 ≡ suc i = omega arith in
      left_past-next xs i (i + 1) 0 x step lt is ∙ ap (λ (m : ℕ). left_after m (line x)) (h.outside all before s t)
      ∙ no-each p site kind (line x) refl (sym (ruled all before s t) ∙ none);
}

-- a line that breaks a rule
pub handles-stop : (p : Program) (n : ℕ) (xs : List VertexLine) (kind i next : ℕ) (old now : Scope) (first puts : Firsts) (x : VertexLine) (rule : Option ImageRule)
    → Handles p n xs kind i next old now first puts → i < length xs → x ≡ get_or xs i x
    → ((all before : List Line) → ShowsScope old (in_handlers all before) → ShowsPuts first before
    → rule ≡ broken_rule p (LineRow (handler_site all kind (before ++ map line (take i xs)) (map line (drop (i + 1) xs))) (line x)))
    → (e : VerifyStop) → Steps rule next (Err e)
    → (all before : List Line) → ShowsScope old (in_handlers all before) → ShowsPuts first before → Checks p n (handler_rows all kind before (map line xs)) (Err e)
handles-stop p n xs kind i next old now first puts x rule h lt is ruled e stops all before s t =
    let earlier = before ++ map line (take i xs) in
    let later = map line (drop (i + 1) xs) in
    walks-stop p n (handler_rows all kind before (map line xs)) next (LineRow (handler_site all kind earlier later) (line x)) (handler_rows all kind (earlier ++ line x ∷ []) later) rule
    (handles-here p n xs kind i next old now first puts x h lt is all before s t) (ruled all before s t) e stops

-- no line is left
pub handles-end : (p : Program) (n : ℕ) (xs : List VertexLine) (kind i next : ℕ) (old now : Scope) (first puts : Firsts) → Handles p n xs kind i next old now first puts → length xs ≤ i
    → (all before : List Line) → ShowsScope old (in_handlers all before) → ShowsPuts first before → Checks p n (handler_rows all kind before (map line xs)) (Ok next)
handles-end p n xs kind i next old now first puts h end all before s t =
    let rows = handler_rows all kind before (map line xs) in
    walks-end p n rows next
    (subst (λ (ls : List VertexLine). Walks p n rows next (handler_rows all kind (before ++ map line (take i xs)) (map line ls))) (nothing-left xs i end) (h.walked all before s t))

pub handles-scope : (p : Program) (n : ℕ) (xs : List VertexLine) (kind i next : ℕ) (old now : Scope) (first puts : Firsts) → Handles p n xs kind i next old now first puts → length xs ≤ i
    → (all before : List Line) → ShowsScope old (in_handlers all before) → ShowsScope now (in_handlers all (before ++ map line xs))
handles-scope p n xs kind i next old now first puts h end all before s =
    subst (λ (ls : List VertexLine). ShowsScope now (in_handlers all (before ++ map line ls))) (taken-all xs i end) (h.scoped all before s)

pub handles-puts : (p : Program) (n : ℕ) (xs : List VertexLine) (kind i next : ℕ) (old now : Scope) (first puts : Firsts) → Handles p n xs kind i next old now first puts → length xs ≤ i
    → (before : List Line) → ShowsPuts first before → ShowsPuts puts (before ++ map line xs)
handles-puts p n xs kind i next old now first puts h end before t =
    subst (λ (ls : List VertexLine). ShowsPuts puts (before ++ map line ls)) (taken-all xs i end) (h.shown before t)

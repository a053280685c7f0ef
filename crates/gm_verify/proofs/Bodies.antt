-- Walks over the lines of a body.
use Rattle.std.proofs.Common.{◌≡◌, ◌+◌, ◌<◌, ◌≤◌, ℕ, suc, Bool, Option, None, Ok, Err, List, [], ◌∷◌, ◌++◌, length, map, take, drop, get_or, refl, sym, ap, subst, ◌∙◌, arith}
use Rattle.std.proofs.lemmas.List.{append-nil}
use Rattle.gm_image.specs.declared.lines.VertexLine.{VertexLine}
use Rattle.gm_image.specs.declared.rules.ImageRule.{ImageRule}
use Rattle.gm_image.specs.Program.{Program, Line}
use Rattle.gm_image.specs.Views.{line}
use Rattle.gm_image.specs.Rows.{Site, LineRow, Around, outside, around_next, body_rows, left_after}
use Rattle.gm_image.specs.Spans.{left_past}
use Rattle.gm_image.specs.Soundness.{broken_rule}
use Rattle.gm_verify.specs.declared.firsts.Firsts.{Firsts}
use Rattle.gm_verify.specs.declared.scopes.Scope.{Scope}
use Rattle.gm_verify.specs.declared.lines.Spot.{Spot}
use Rattle.gm_verify.specs.declared.stops.VerifyStop.{VerifyStop}
use Rattle.gm_verify.specs.Checks.{Steps, Checks, Walks}
use Rattle.gm_verify.specs.Scopes.{ShowsScope, ShowsPuts}
use Rattle.gm_verify.specs.Sites.{ShowsInsides, ShowsSite}
use Rattle.gm_verify.proofs.Lists.{nothing-left}
use Rattle.gm_verify.proofs.Declared.{rest-at}
use Rattle.gm_verify.proofs.Insides.{left_past-next}
use Rattle.gm_verify.proofs.Moving.{left-next}
use Rattle.gm_verify.proofs.Placed.{shows-site}
use Rattle.gm_verify.proofs.Handled.{push-at}
use Rattle.gm_verify.proofs.Walking.{walks-start, walks-next, walks-stop, walks-end}

-- where a line of a body stands
abbrev pub body_site : List Line → Around → List Line → Site
body_site earlier a later = record { kind = None; around = a; earlier = earlier; later = later }

-- the lines of a body so far break no rule, and the code shows them
pub record Bodies (p : Program) (n : ℕ) (xs : List VertexLine) (i next : ℕ) (now : Scope) (puts : Firsts) (earlier : List Line) : Type 0 where
  pub around : Around
  pub walked : Walks p n (body_rows earlier outside (map line xs)) next (body_rows (earlier ++ map line (take i xs)) around (map line (drop i xs)))
  pub scoped : ShowsScope now around
  pub shown : ShowsPuts puts (earlier ++ map line (take i xs))
  pub left : around.left ≡ left_past 0 i (map line xs)

pub bodies-start : (p : Program) (n : ℕ) (xs : List VertexLine) (now : Scope) (puts : Firsts) (earlier : List Line) → ShowsScope now outside → ShowsPuts puts earlier → Bodies p n xs 0 n now puts earlier
bodies-start p n xs now puts earlier s t = record {
  around = outside;
  walked = subst (λ (b : List Line). Walks p n (body_rows earlier outside (map line xs)) n (body_rows b outside (map line xs))) (sym (append-nil earlier))
      (walks-start p n (body_rows earlier outside (map line xs)));
  scoped = s;
  shown = subst (λ (b : List Line). ShowsPuts puts b) (sym (append-nil earlier)) t;
  left = refl;
}

-- the rule that is found is the one that the line breaks
pub bodies-rule : (p : Program) (n : ℕ) (xs : List VertexLine) (i next : ℕ) (now : Scope) (puts : Firsts) (earlier : List Line) (x : VertexLine) (rule : Option ImageRule) (v : List Bool) (spot : Spot)
    (b : Bodies p n xs i next now puts earlier) → i < length xs → x ≡ get_or xs i x → ShowsInsides v (map line xs)
    → ((s : Site) → ShowsSite spot s (line x) → ShowsScope now s.around → ShowsPuts puts s.earlier → rule ≡ broken_rule p (LineRow s (line x)))
    → spot.insides.now ≡ drop (i + 1) v → spot.kind ≡ None
    → rule ≡ broken_rule p (LineRow (body_site (earlier ++ map line (take i xs)) b.around (map line (drop (i + 1) xs))) (line x))
bodies-rule p n xs i next now puts earlier x rule v spot b lt is inside ruled cut of =
    let site = body_site (earlier ++ map line (take i xs)) b.around (map line (drop (i + 1) xs)) in
    ruled site (shows-site v xs i x spot site inside lt is cut (sym of) refl (λ none. sym b.left ∙ none)) b.scoped b.shown

bodies-here : (p : Program) (n : ℕ) (xs : List VertexLine) (i next : ℕ) (now : Scope) (puts : Firsts) (earlier : List Line) (x : VertexLine)
    (b : Bodies p n xs i next now puts earlier) → i < length xs → x ≡ get_or xs i x
    → Walks p n (body_rows earlier outside (map line xs)) next (body_rows (earlier ++ map line (take i xs)) b.around (line x ∷ map line (drop (i + 1) xs)))
bodies-here p n xs i next now puts earlier x b lt is =
    subst (λ (ls : List Line). Walks p n (body_rows earlier outside (map line xs)) next (body_rows (earlier ++ map line (take i xs)) b.around ls)) (rest-at line xs i x lt is) b.walked

-- one more line, which breaks no rule
pub bodies-next : (p : Program) (n : ℕ) (xs : List VertexLine) (i next after : ℕ) (now new : Scope) (puts more : Firsts) (earlier : List Line) (x : VertexLine) (rule : Option ImageRule)
    (b : Bodies p n xs i next now puts earlier) → i < length xs → x ≡ get_or xs i x
    → rule ≡ broken_rule p (LineRow (body_site (earlier ++ map line (take i xs)) b.around (map line (drop (i + 1) xs))) (line x)) → rule ≡ None → after ≡ next + 1
    → ((a : Around) → ShowsScope now a → ShowsScope new (around_next a (line x) (map line (drop (i + 1) xs))))
    → ((before : List Line) → ShowsPuts puts before → ShowsPuts more (before ++ line x ∷ []))
    → Bodies p n xs (i + 1) after new more earlier
bodies-next p n xs i next after now new puts more earlier x rule b lt is ruled none at moves adds =
    let before = earlier ++ map line (take i xs) in
    let later = map line (drop (i + 1) xs) in
    let rows = body_rows earlier outside (map line xs) in
    let around = around_next b.around (line x) later in
    let step : i + 1 ≡ suc i = omega arith in
    record {
      around = around;
      walked = subst (λ (ls : List Line). Walks p n rows after (body_rows ls around later)) (push-at earlier xs i x lt is)
          (walks-next p n rows next after (LineRow (body_site before b.around later) (line x)) (body_rows (before ++ line x ∷ []) around later) rule
          (bodies-here p n xs i next now puts earlier x b lt is) ruled none at);
      scoped = moves b.around b.scoped;
      shown = subst (λ (ls : List Line). ShowsPuts more ls) (push-at earlier xs i x lt is) (adds before b.shown);
      left = left-next b.around (line x) later ∙ ap (λ (m : ℕ). left_after m (line x)) b.left ∙ sym (left_past-next xs i (i + 1) 0 x step lt is);
    }

-- a line that breaks a rule
pub bodies-stop : (p : Program) (n : ℕ) (xs : List VertexLine) (i next : ℕ) (now : Scope) (puts : Firsts) (earlier : List Line) (x : VertexLine) (rule : Option ImageRule)
    (b : Bodies p n xs i next now puts earlier) → i < length xs → x ≡ get_or xs i x
    → rule ≡ broken_rule p (LineRow (body_site (earlier ++ map line (take i xs)) b.around (map line (drop (i + 1) xs))) (line x))
    → (e : VerifyStop) → Steps rule next (Err e) → Checks p n (body_rows earlier outside (map line xs)) (Err e)
bodies-stop p n xs i next now puts earlier x rule b lt is ruled e stops =
    let before = earlier ++ map line (take i xs) in
    let later = map line (drop (i + 1) xs) in
    walks-stop p n (body_rows earlier outside (map line xs)) next (LineRow (body_site before b.around later) (line x)) (body_rows (before ++ line x ∷ []) (around_next b.around (line x) later) later) rule
    (bodies-here p n xs i next now puts earlier x b lt is) ruled e stops

-- no line is left
pub bodies-end : (p : Program) (n : ℕ) (xs : List VertexLine) (i next : ℕ) (now : Scope) (puts : Firsts) (earlier : List Line) → Bodies p n xs i next now puts earlier → length xs ≤ i
    → Checks p n (body_rows earlier outside (map line xs)) (Ok next)
bodies-end p n xs i next now puts earlier b end =
    let rows = body_rows earlier outside (map line xs) in
    walks-end p n rows next
    (subst (λ (ls : List VertexLine). Walks p n rows next (body_rows (earlier ++ map line (take i xs)) b.around (map line ls))) (nothing-left xs i end) b.walked)

-- A part of a text: its lines spell it, and it is read from them and from no others. Where reading fails, the lines
-- before the first bad one begin a part, and with that line none.
use Rattle.std.proofs.Common.{◌≡◌, List, [], ◌∷◌, ◌++◌, ap, sym, ◌∙◌, subst, append_assoc}
use Rattle.std.specs.Prelude.{Result, Ok, Err, ⊤}
use Rattle.std.specs.List.{AllByRecursion}
use Rattle.gm_image_text.specs.Lines.{Line}
use Rattle.gm_image_text.specs.Sections.{◌>>=◌, Reads, dep_at, mapped}
use Rattle.gm_image_text.proofs.Spelled.{IsLine, lines_both}
use Rattle.gm_image_text.proofs.Binds.{bind_ok, bind_err, ok_is, Fails}

-- what is read so far, and a bad line behind it, are not read whatever follows
abbrev pub IsStuck : {X : Type 0} → Reads X → List Line → List Line → Type 0
IsStuck read front [] = ⊤
IsStuck read front (l ∷ ls) = (more : List Line) → read (front ++ l ∷ more) ≡ Err (l ∷ more)

-- what a failure says
pub record Stops {X : Type 0} (F : X → Type 0) (lines : X → List Line) (read : Reads X) (ls rest : List Line) : Type 0 where
  pub front : List Line
  pub split : ls ≡ front ++ rest
  pub whole : X
  pub fits : F whole
  pub more : List Line
  pub begins : lines whole ≡ front ++ more
  pub stuck : IsStuck read front rest

pub record PartLaw {X : Type 0} (F : X → Type 0) (lines : X → List Line) (read : Reads X) : Type 0 where
  pub some : X
  pub some_fits : F some
  pub ok : (ls rest : List Line) (x : X) → read ls ≡ Ok (x, rest) → F x × (ls ≡ lines x ++ rest)
  pub again : (x : X) (rest : List Line) → F x → read (lines x ++ rest) ≡ Ok (x, rest)
  pub fault : (ls rest : List Line) → read ls ≡ Err rest → Stops F lines read ls rest
  pub ended : (x : X) → F x → AllByRecursion IsLine (lines x)

-- one part, and behind it another that it says how to read
module _ {X Y : Type 0} (F : X → Type 0) (lines : X → List Line) (read : Reads X) (law : PartLaw F lines read) (G : X → Y → Type 0) (more : X → Y → List Line) (next : X → Reads Y) (next_law : (x : X) → F x → PartLaw (G x) (more x) (next x)) where
  abbrev pub Both : X × Y → Type 0
  Both z = F z.0 × G z.0 z.1

  abbrev pub both : X × Y → List Line
  both z = lines z.0 ++ more z.0 z.1

  abbrev with_second : X → Y × List Line → Result ((X × Y) × List Line) (List Line)
  with_second x y = Ok ((x, y.0), y.1)

  abbrev behind_first : X × List Line → Result ((X × Y) × List Line) (List Line)
  behind_first x = next x.0 x.1 >>= with_second x.0

  both_again : (z : X × Y) (rest : List Line) → Both z → dep_at read next (both z ++ rest) ≡ Ok (z, rest)
  both_again z rest h =
      let regrouped : both z ++ rest ≡ lines z.0 ++ (more z.0 z.1 ++ rest) = append_assoc (lines z.0) (more z.0 z.1) rest in
      let first : read (both z ++ rest) ≡ Ok (z.0, more z.0 z.1 ++ rest) = ap read regrouped ∙ law.again z.0 (more z.0 z.1 ++ rest) h.0 in
      let second : next z.0 (more z.0 z.1 ++ rest) ≡ Ok (z.1, rest) = (next_law z.0 h.0).again z.1 rest h.1 in
      ap (λ r. r >>= behind_first) first ∙ ap (λ r. r >>= with_second z.0) second

  both_ok : (ls rest : List Line) (z : X × Y) → dep_at read next ls ≡ Ok (z, rest) → Both z × (ls ≡ both z ++ rest)
  both_ok ls rest z e =
      let one = bind_ok (read ls) behind_first (z, rest) e in
      let x : X = one.0.0 in
      let mid : List Line = one.0.1 in
      let two = bind_ok (next x mid) (with_second x) (z, rest) one.2 in
      let y : Y = two.0.0 in
      let first : F x × (ls ≡ lines x ++ mid) = law.ok ls mid x one.1 in
      let second : G x y × (mid ≡ more x y ++ two.0.1) = (next_law x first.0).ok mid two.0.1 y two.1 in
      let pair : ((x, y), two.0.1) ≡ (z, rest) = ok_is ((x, y), two.0.1) (z, rest) two.2 in
      let P : (X × Y) × List Line → Type 0 = λ v. Both v.0 × (ls ≡ both v.0 ++ v.1) in
      subst P pair (
        (first.0, second.0),
        first.1 ∙ ap (λ v. lines x ++ v) second.1 ∙ sym (append_assoc (lines x) (more x y) two.0.1),
      )

  stuck_first : (front rest : List Line) → IsStuck read front rest → IsStuck (dep_at read next) front rest
  stuck_first front [] h = h
  stuck_first front (l ∷ ls) h = λ tail. ap (λ r. r >>= behind_first) (h tail)

  stuck_second : (x : X) (front rest : List Line) → F x → IsStuck (next x) front rest → IsStuck (dep_at read next) (lines x ++ front) rest
  stuck_second x front [] f h = h
  stuck_second x front (l ∷ ls) f h = λ tail.
      let regrouped : (lines x ++ front) ++ l ∷ tail ≡ lines x ++ (front ++ l ∷ tail) = append_assoc (lines x) front (l ∷ tail) in
      ap (dep_at read next) regrouped
      ∙ ap (λ r. r >>= behind_first) (law.again x (front ++ l ∷ tail) f)
      ∙ ap (λ r. r >>= with_second x) (h tail)

  both_stops : (ls rest : List Line) → Fails (read ls) behind_first rest → Stops Both both (dep_at read next) ls rest
  both_stops ls rest (Fails.here is) =
      let s : Stops F lines read ls rest = law.fault ls rest is in
      let other : PartLaw (G s.whole) (more s.whole) (next s.whole) = next_law s.whole s.fits in
      record {
        front = s.front;
        split = s.split;
        whole = (s.whole, other.some);
        fits = (s.fits, other.some_fits);
        more = s.more ++ more s.whole other.some;
        begins = ap (λ v. v ++ more s.whole other.some) s.begins ∙ append_assoc s.front s.more (more s.whole other.some);
        stuck = stuck_first s.front rest s.stuck;
      }
  both_stops ls rest (Fails.later x was is) = later_stops x was (bind_err (next x.0 x.1) (with_second x.0) rest is) where
    later_stops : (x : X × List Line) → read ls ≡ Ok x → Fails (next x.0 x.1) (with_second x.0) rest → Stops Both both (dep_at read next) ls rest
    later_stops x was (Fails.here is) =
        let first : F x.0 × (ls ≡ lines x.0 ++ x.1) = law.ok ls x.1 x.0 was in
        let s : Stops (G x.0) (more x.0) (next x.0) x.1 rest = (next_law x.0 first.0).fault x.1 rest is in
        record {
          front = lines x.0 ++ s.front;
          split = first.1 ∙ ap (λ v. lines x.0 ++ v) s.split ∙ sym (append_assoc (lines x.0) s.front rest);
          whole = (x.0, s.whole);
          fits = (first.0, s.fits);
          more = s.more;
          begins = ap (λ v. lines x.0 ++ v) s.begins ∙ sym (append_assoc (lines x.0) s.front s.more);
          stuck = stuck_second x.0 s.front rest first.0 s.stuck;
        }
    later_stops x was (Fails.later y got is) = cc

  pub dep_law : PartLaw Both both (dep_at read next)
  dep_law =
      let first : PartLaw (G law.some) (more law.some) (next law.some) = next_law law.some law.some_fits in
      record {
        some = (law.some, first.some);
        some_fits = (law.some_fits, first.some_fits);
        ok = both_ok;
        again = both_again;
        fault = λ ls rest e. both_stops ls rest (bind_err (read ls) behind_first rest e);
        ended = λ z h. lines_both (lines z.0) (more z.0 z.1) (law.ended z.0 h.0) ((next_law z.0 h.0).ended z.1 h.1);
      }

-- what is made of a part: `make` and `unmake` go there and back
pub record Recasts {X Y : Type 0} (F : X → Type 0) (lines : X → List Line) (G : Y → Type 0) (spelled : Y → List Line) (make : X → Y) (unmake : Y → X) : Type 0 where
  pub there : (x : X) → F x → G (make x) × (lines x ≡ spelled (make x))
  pub back : (y : Y) → G y → F (unmake y) × (make (unmake y) ≡ y)

module _ {X Y : Type 0} (F : X → Type 0) (lines : X → List Line) (read : Reads X) (law : PartLaw F lines read) (G : Y → Type 0) (spelled : Y → List Line) (make : X → Y) (unmake : Y → X) (recasts : Recasts F lines G spelled make unmake) where
  abbrev made : X × List Line → Result (Y × List Line) (List Line)
  made x = Ok (make x.0, x.1)

  made_ok : (ls rest : List Line) (y : Y) → mapped make read ls ≡ Ok (y, rest) → G y × (ls ≡ spelled y ++ rest)
  made_ok ls rest y e =
      let one = bind_ok (read ls) made (y, rest) e in
      let first : F one.0.0 × (ls ≡ lines one.0.0 ++ one.0.1) = law.ok ls one.0.1 one.0.0 one.1 in
      let there : G (make one.0.0) × (lines one.0.0 ≡ spelled (make one.0.0)) = recasts.there one.0.0 first.0 in
      let pair : (make one.0.0, one.0.1) ≡ (y, rest) = ok_is (make one.0.0, one.0.1) (y, rest) one.2 in
      let P : Y × List Line → Type 0 = λ v. G v.0 × (ls ≡ spelled v.0 ++ v.1) in
      subst P pair (there.0, first.1 ∙ ap (λ v. v ++ one.0.1) there.1)

  made_again : (y : Y) (rest : List Line) → G y → mapped make read (spelled y ++ rest) ≡ Ok (y, rest)
  made_again y rest g =
      let back : F (unmake y) × (make (unmake y) ≡ y) = recasts.back y g in
      let same : spelled y ≡ lines (unmake y) = sym ((recasts.there (unmake y) back.0).1 ∙ ap spelled back.1) in
      ap (λ v. mapped make read (v ++ rest)) same ∙ ap (λ r. r >>= made) (law.again (unmake y) rest back.0) ∙ ap (λ v. Ok (v, rest)) back.1

  made_stuck : (front rest : List Line) → IsStuck read front rest → IsStuck (mapped make read) front rest
  made_stuck front [] h = h
  made_stuck front (l ∷ ls) h = λ tail. ap (λ r. r >>= made) (h tail)

  made_stops : (ls rest : List Line) → Fails (read ls) made rest → Stops G spelled (mapped make read) ls rest
  made_stops ls rest (Fails.here is) =
      let s : Stops F lines read ls rest = law.fault ls rest is in
      let there : G (make s.whole) × (lines s.whole ≡ spelled (make s.whole)) = recasts.there s.whole s.fits in
      record {
        front = s.front;
        split = s.split;
        whole = make s.whole;
        fits = there.0;
        more = s.more;
        begins = sym there.1 ∙ s.begins;
        stuck = made_stuck s.front rest s.stuck;
      }
  made_stops ls rest (Fails.later x was is) = cc

  made_ended : (y : Y) → G y → AllByRecursion IsLine (spelled y)
  made_ended y g =
      let back : F (unmake y) × (make (unmake y) ≡ y) = recasts.back y g in
      let P : List Line → Type 0 = AllByRecursion IsLine in
      subst P ((recasts.there (unmake y) back.0).1 ∙ ap spelled back.1) (law.ended (unmake y) back.0)

  pub mapped_law : PartLaw G spelled (mapped make read)
  mapped_law = record {
    some = make law.some;
    some_fits = (recasts.there law.some law.some_fits).0;
    ok = made_ok;
    again = made_again;
    fault = λ ls rest e. made_stops ls rest (bind_err (read ls) made rest e);
    ended = made_ended;
  }

-- Reading the lines of a text: something and the lines behind it, or the lines from the first bad one on. A line
-- is judged by what is wanted where it stands.
use Rattle.std.specs.Prelude.{ℕ, zero, suc, List, [], ◌∷◌, Option, Some, None, Result, Ok, Err, codes}
use Rattle.gm_base.specs.declared.places.Place.{Place}
use Rattle.gm_value.specs.declared.values.VType.{VType}
use Rattle.gm_image.specs.declared.images.Kind.{Kind}
use Rattle.gm_image.specs.Program as P
use Rattle.gm_image.specs.Program.{Program, Item, Command, Handler, Block}
use Rattle.gm_image_text.specs.declared.heads.Version.{Version}
use Rattle.gm_image_text.specs.Lines.{Word, Line}
use Rattle.gm_image_text.specs.Reading as rows

infixl 10 ◌>>=◌
abbrev pub ◌>>=◌ : {A B : Type 0} → Result A (List Line) → (A → Result B (List Line)) → Result B (List Line)
(Ok x) >>= f = f x
(Err e) >>= f = Err e

abbrev pub Reads : Type 0 → Type 0
Reads X = List Line → Result (X × List Line) (List Line)

-- what one line was read as
abbrev pub judged : {X : Type 0} → List Line → List Line → Option X → Result (X × List Line) (List Line)
judged ls rest (Some x) = Ok (x, rest)
judged ls rest None = Err ls

-- the first of these lines is read by its words, if it has its end
abbrev pub row_behind : {X : Type 0} → (List Word → Option X) → List Line → Option (List Word × List Line) → Result (X × List Line) (List Line)
row_behind row ls None = Err ls
row_behind row ls (Some cut) = judged ls cut.1 (row cut.0)

-- one line
abbrev pub row_at : {X : Type 0} → (List Word → Option X) → Reads X
row_at row ls = row_behind row ls (rows.cut_at ls)

-- one thing, and behind it another that it says how to read
abbrev pub dep_at : {X Y : Type 0} → Reads X → (X → Reads Y) → Reads (X × Y)
dep_at first second ls = first ls >>= λ x. second x.0 x.1 >>= λ y. Ok ((x.0, y.0), y.1)

-- one thing, and behind it another
abbrev pub then_at : {X Y : Type 0} → Reads X → Reads Y → Reads (X × Y)
then_at first second ls = dep_at first (λ x. second) ls

-- what is made of a thing
abbrev pub mapped : {X Y : Type 0} → (X → Y) → Reads X → Reads Y
mapped make read ls = read ls >>= λ x. Ok (make x.0, x.1)

-- so many of them
abbrev pub times_at : {X : Type 0} → Reads X → ℕ → Reads (List X)
times_at read zero ls = Ok ([], ls)
times_at read (suc n) ls = mapped (λ z. z.0 ∷ z.1) (then_at read (λ ms. times_at read n ms)) ls

-- a header with a count, and so many of them
abbrev pub listed_at : {X : Type 0} → Word → Reads X → Reads (List X)
listed_at word read ls = mapped (λ z. z.1) (dep_at (row_at (rows.count_row word)) (λ n ms. times_at read n ms)) ls

abbrev pub handler_of : (ℕ × ℕ) × List P.Line → Handler
handler_of z = record { kind = z.0.0; lines = z.1 }

abbrev pub vertex_at : Version → Reads P.Line
vertex_at v ls = row_at (rows.vertex_row v) ls

abbrev pub handler_at : Version → Reads Handler
handler_at v ls = mapped handler_of (dep_at (row_at rows.on_row) (λ on ms. times_at (vertex_at v) on.1 ms)) ls

abbrev pub block_of : List Handler × List P.Line → Block
block_of b = record { handlers = b.0; body = b.1 }

abbrev pub block_at : Version → Reads Block
block_at v ls = mapped block_of (then_at (listed_at (codes "block") (handler_at v)) (listed_at (codes "body") (vertex_at v))) ls

-- the lines up to the result's
abbrev pub Opening : Type 0
Opening = Version × (List ℕ × (List Item × (List Item × Option (VType × ℕ))))

unfoldable pub opening_at : Reads Opening
opening_at ls =
    then_at (row_at rows.first_row) (
    then_at (row_at rows.name_row) (
    then_at (listed_at (codes "inputs") (row_at rows.input_row)) (
    then_at (listed_at (codes "outputs") (row_at rows.output_row)) (row_at rows.result_row)
    )
    )
    ) ls

-- the lines from there to the places
abbrev pub Middle : Type 0
Middle = List VType × (List VType × (List VType × (List VType × (List Kind × List Place))))

abbrev pub types_at : Word → Reads (List VType)
types_at word ls = listed_at word (row_at rows.type_row) ls

unfoldable pub middle_at : Reads Middle
middle_at ls =
    then_at (types_at (codes "globals")) (
    then_at (types_at (codes "fields")) (
    then_at (types_at (codes "registers")) (
    then_at (types_at (codes "columns")) (
    then_at (listed_at (codes "kinds") (row_at rows.kind_row)) (listed_at (codes "places") (row_at rows.place_row))
    )
    )
    )
    ) ls

-- the lines from there to the last
abbrev pub Closing : Type 0
Closing = List Block × List Command

unfoldable pub closing_at : Version → Reads Closing
closing_at v ls = then_at (listed_at (codes "blocks") (block_at v)) (listed_at (codes "master") (row_at rows.master_row)) ls

abbrev pub program_of : Opening × (Middle × Closing) → Program
program_of x = record {
  name = x.0.1.0;
  inputs = x.0.1.1.0;
  outputs = x.0.1.1.1.0;
  result = x.0.1.1.1.1;
  globals = x.1.0.0;
  fields = x.1.0.1.0;
  registers = x.1.0.1.1.0;
  columns = x.1.0.1.1.1.0;
  kinds = x.1.0.1.1.1.1.0;
  places = x.1.0.1.1.1.1.1;
  blocks = x.1.1.0;
  master = x.1.1.1;
}

abbrev pub image_of : Opening × (Middle × Closing) → Version × Program
image_of x = (x.0.0, program_of x)

-- a version and an image, and the lines behind it
abbrev pub image_at : Reads (Version × Program)
image_at ls = mapped image_of (dep_at opening_at (λ o ms. then_at middle_at (closing_at o.0) ms)) ls

-- nothing stands behind the image
abbrev pub all_read : Program → List Line → Result Program (List Line)
all_read p [] = Ok p
all_read p (l ∷ ls) = Err (l ∷ ls)

-- an image of all lines, or the lines from the first bad one on
abbrev pub whole_at : List Line → Result Program (List Line)
whole_at ls = image_at ls >>= λ x. all_read x.0.1 x.1

-- The lines of statements are read as those statements.
use Rattle.std.proofs.Common.{◌≡◌, Bool, true, false, List, [], ◌∷◌, ◌++◌, refl, sym, ap, ◌∙◌}
use Rattle.std.proofs.lemmas.List.{append_assoc, append-nil}
use Rattle.c_subset.specs.Trees.{Block}
use Rattle.c_subset.specs.Trees as c
use Rattle.c_subset.specs.Lines.{Line, Set, Store, StoreAt, Call, Select, If, Else, While, Close, Return, else_lines}
use Rattle.c_subset.specs.Lines.{lines_of}
use Rattle.c_trees.specs.Blocks.{is_end}
use Rattle.c_trees.specs.Reading.{Open, read_line, read_lines, innermost, statements_of}
use Rattle.c_trees.proofs.Lists.{end-is, else-is, else-none}

-- the last line is read first
pub read-last : (ls : List Line) (l : Line) (opens : List Open)
    → read_lines (ls ++ l ∷ []) opens ≡ read_lines ls (read_line l opens)
unfolding read_lines
read-last [] l opens = refl
read-last (m ∷ ls) l opens = ap (λ (o : List Open). read_line m o) (read-last ls l opens)

abbrev so_far : Block → Bool → Open
so_far b x = record { block = b; has_else = x }

pub reads : (b : Block) (ls : List Line) (opens rest : List Open) (x : Bool)
    → read_lines ls opens ≡ so_far c.End x ∷ rest → read_lines (lines_of b ++ ls) opens ≡ so_far b x ∷ rest
unfolding lines_of read_lines
reads c.End ls opens others x h = h
reads (c.Set t k e rest) ls opens others x h =
    ap (λ (o : List Open). read_line (Set t k e) o) (reads rest ls opens others x h)
reads (c.Store f e rest) ls opens others x h =
    ap (λ (o : List Open). read_line (Store f e) o) (reads rest ls opens others x h)
reads (c.StoreAt a i e rest) ls opens others x h =
    ap (λ (o : List Open). read_line (StoreAt a i e) o) (reads rest ls opens others x h)
reads (c.Call t k f args rest) ls opens others x h =
    ap (λ (o : List Open). read_line (Call t k f args) o) (reads rest ls opens others x h)
reads (c.Select t k e cases args rest) ls opens others x h =
    ap (λ (o : List Open). read_line (Select t k e cases args) o) (reads rest ls opens others x h)
reads (c.If e a b rest) ls opens others x h =
    let tail = Close ∷ (lines_of rest ++ ls) in
    let closed : read_lines tail opens ≡ so_far c.End false ∷ so_far rest x ∷ others =
    ap (λ (o : List Open). so_far c.End false ∷ o) (reads rest ls opens others x h) in
    let second = reads b tail opens (so_far rest x ∷ others) false closed in
    let spread : (((lines_of a ++ else_lines (lines_of b)) ++ (Close ∷ lines_of rest)) ++ ls)
    ≡ lines_of a ++ (else_lines (lines_of b) ++ tail) =
    append_assoc (lines_of a ++ else_lines (lines_of b)) (Close ∷ lines_of rest) ls
    ∙ append_assoc (lines_of a) (else_lines (lines_of b)) tail in
    ap (λ (ls : List Line). read_line (If e) (read_lines ls opens)) spread
    ∙ at (is_end b) refl closed second (λ ls y more h. reads a ls opens more y h)
  where
    at : (q : Bool) → is_end b ≡ q
        → read_lines (Close ∷ (lines_of rest ++ ls)) opens ≡ so_far c.End false ∷ so_far rest x ∷ others
        → read_lines (lines_of b ++ (Close ∷ (lines_of rest ++ ls))) opens ≡ so_far b false ∷ so_far rest x ∷ others
        → ((ls : List Line) (y : Bool) (more : List Open) → read_lines ls opens ≡ so_far c.End y ∷ more
        → read_lines (lines_of a ++ ls) opens ≡ so_far a y ∷ more)
        → read_line (If e) (read_lines (lines_of a ++ (else_lines (lines_of b) ++ (Close ∷ (lines_of rest ++ ls))))
        opens) ≡ so_far (c.If e a b rest) x ∷ others
    at true is closed second first =
        ap (λ (es : List Line). read_line (If e) (read_lines (lines_of a ++ (es ++ (Close ∷ (lines_of rest ++ ls))))
        opens)) (else-none b is)
        ∙ ap (λ (o : List Open). read_line (If e) o)
        (first (Close ∷ (lines_of rest ++ ls)) false (so_far rest x ∷ others) closed)
        ∙ ap (λ (b : Block). so_far (c.If e a b rest) x ∷ others) (sym (end-is b is))
    at false is closed second first =
        ap (λ (es : List Line). read_line (If e) (read_lines (lines_of a ++ (es ++ (Close ∷ (lines_of rest ++ ls))))
        opens)) (else-is b is)
        ∙ ap (λ (o : List Open). read_line (If e) o)
        (first (Else ∷ (lines_of b ++ (Close ∷ (lines_of rest ++ ls)))) true (so_far b false ∷ so_far rest x ∷ others)
        (ap (λ (o : List Open). so_far c.End true ∷ o) second))
reads (c.While e a rest) ls opens others x h =
    let tail = Close ∷ (lines_of rest ++ ls) in
    let closed : read_lines tail opens ≡ so_far c.End false ∷ so_far rest x ∷ others =
    ap (λ (o : List Open). so_far c.End false ∷ o) (reads rest ls opens others x h) in
    ap (λ (ls : List Line). read_line (While e) (read_lines ls opens))
    (append_assoc (lines_of a) (Close ∷ lines_of rest) ls)
    ∙ ap (λ (o : List Open). read_line (While e) o) (reads a tail opens (so_far rest x ∷ others) false closed)
reads (c.Return e) ls opens others x h = ap (λ (o : List Open). read_line (Return e) o) h

-- from nothing
pub reads-all : (b : Block) (opens : List Open) (ls : List Line) → ls ≡ lines_of b
    → read_lines ls (so_far c.End false ∷ opens) ≡ so_far b false ∷ opens
unfolding read_lines
reads-all b opens ls e =
    ap (λ (ls : List Line). read_lines ls (so_far c.End false ∷ opens)) (e ∙ sym (append-nil (lines_of b)))
    ∙ reads b [] (so_far c.End false ∷ opens) opens false refl

-- so lines are read as the statements whose lines they are
pub read-whole : (b : Block) → statements_of (lines_of b) ≡ b
read-whole b = ap innermost (reads-all b [] (lines_of b) refl)

-- what is read of the innermost block, where these are all lines
pub read-is : (b : Block) (ls : List Line) (opens : List Open) → opens ≡ read_lines ls (so_far c.End false ∷ [])
    → ls ≡ lines_of b → innermost opens ≡ b
read-is b ls opens e h = ap innermost (e ∙ reads-all b [] ls h)

-- What both files are made from, and what is known of the functions of the source.
use Rattle.std.specs.Prelude.{◌≡◌, ℕ, ◌||◌, Bool, List, [], ◌∷◌, ◌++◌, map}
use Rattle.code_language.specs.Code.{code_of}
use Rattle.c_subset.specs.Trees.{Function}
use Rattle.c_subset.specs.Lines.{lines_of}
use Rattle.c_text.specs.Labels.{Labels, labels_of}
use Rattle.c_shape.specs.FileShapes.{shape_seen}
use Rattle.c_writer.specs.Functions.{IsShapeOf}
use Rattle.c_readers.specs.Readers.{stores}
use Rattle.c_passes.specs.Passed.{ArePassed, functions_in, written_file}
use Rattle.c_file.specs.declared.made.Made.{Made}
use Rattle.c_file.specs.declared.known.Uses.{Uses}
use Rattle.c_file.specs.declared.order.Order.{Order}
use Rattle.c_file.specs.Comments.{AreOfChart}
use Rattle.c_file.specs.Calls.{calls_in, calls_from}
use Rattle.c_file.specs.Order.{IsOrder, declared_in}
use Rattle.c_file.specs.Reached.{AreReached, outside_of}
use Rattle.c_file.specs.Changing.{AreChanging, first_changes}
use Rattle.c_file.specs.Uses.{is_wide}

-- the name is that in the names of the file, the parts and the tags of procedures are those of the chart, the shape is
-- that of the code, and the functions are what passes make of those of its file
pub record IsMade (made : Made) : Type 0 where
  pub named : (labels_of made.labels).chart ≡ made.name.now
  pub parts : AreOfChart made.said
  pub shape : IsShapeOf (shape_seen made.shape) (code_of made.code.now)
  pub passed : ArePassed (shape_seen made.shape) (written_file (shape_seen made.shape) (code_of made.code.now))
      made.functions.items

-- the functions of the file
unfoldable pub functions_of : Made → List Function
functions_of made = functions_in made.functions.items

-- one more function, which has that number: its calls, whether it names a type of 128 bits, and whether it stores in the
-- struct or is called from outside
pub record HasUses (L : Labels) (f : ℕ) (g : Function) (old new : Uses) : Type 0 where
  pub reached : new.reached.items ≡ old.reached.items
  pub calls : new.calls.items ≡ old.calls.items ++ calls_in f (lines_of g.body)
  pub wide : new.wide.items ≡ old.wide.items ++ is_wide g ∷ []
  pub changing : new.changing.items ≡ old.changing.items ++ (outside_of L f || stores g) ∷ []

-- the calls of functions, which of them name a type of 128 bits, and which store in the struct or are called from outside
pub record AreCalls (L : Labels) (functions : List Function) (start uses : Uses) : Type 0 where
  pub reached : uses.reached.items ≡ start.reached.items
  pub calls : uses.calls.items ≡ start.calls.items ++ calls_from 0 functions
  pub wide : uses.wide.items ≡ start.wide.items ++ map is_wide functions
  pub changing : uses.changing.items ≡ start.changing.items ++ first_changes L 0 functions

-- each function that is reached stands in the order once, and those are declared that are called before they stand
pub record IsOrderOf (L : Labels) (functions : List Function) (written : List Bool) (order : Order) : Type 0 where
  pub is : IsOrder written order.functions.items
  pub declared : order.declared.items ≡ declared_in L functions order.functions.items

-- which functions are reached, what calls what, which name a type of 128 bits, and which may change the struct
pub record AreUses (L : Labels) (functions : List Function) (uses : Uses) : Type 0 where
  pub reached : AreReached L functions uses.reached.items
  pub calls : uses.calls.items ≡ calls_from 0 functions
  pub wide : uses.wide.items ≡ map is_wide functions
  pub changing : AreChanging L functions uses.changing.items

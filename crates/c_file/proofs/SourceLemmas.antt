-- What both files of a chart are made from is that of the chart, and so are their texts.
use Rattle.std.proofs.Common.{◌≡◌, ℕ, Bool, List, sym, ap, ◌∙◌, subst}
use Rattle.flow_base.specs.declared.bounds.Bounds.{Bounds}
use Rattle.active_config.specs.Tree.{Tree}
use Rattle.actions.specs.Names.{Names}
use Rattle.checked_chart.specs.Chart.{Chart}
use Rattle.code_language.specs.Code.{Code, code_of}
use Rattle.c_subset.specs.Trees.{Function, File}
use Rattle.c_functions.specs.Plans.{Shape, Tests}
use Rattle.c_functions.specs.Files.{shape_of}
use Rattle.c_functions.specs.Starts.{file_of}
use Rattle.c_functions.specs.Writer.{plans_of}
use Rattle.c_text.specs.Labels.{Labels, labels_for, labels_of}
use Rattle.c_shape.specs.FileShapes.{shape_seen, tests_seen}
use Rattle.c_file.specs.declared.made.Made.{Made}
use Rattle.c_file.specs.declared.written.Written.{Written}
use Rattle.c_lines.specs.Wrapped.{IsInLines}
use Rattle.c_header.specs.declared.facts.SourceFacts.{SourceFacts}
use Rattle.c_header.specs.declared.identity.Identity.{Identity}
use Rattle.c_header.specs.Header.{calls_number, header_text}
use Rattle.c_file.specs.Comments.{said_of}
use Rattle.c_file.specs.Facts.{AreFacts}
use Rattle.c_passes.specs.Passed.{IsPassed, written_file}
use Rattle.c_passes.proofs.FunctionLemmas.{functions_are}
use Rattle.c_file.specs.Made.{functions_of}
use Rattle.c_file.specs.Changing.{AreChanging}
use Rattle.c_file.specs.Source.{source_text}
use Rattle.c_file.specs.Files.{chart_name, names_in, comments_in, IsMadeFor, header_for, source_for}

-- names are made of what the chart declares, and of how many procedures the code has
pub names_are : (c : Chart) (T : Tests) (limits : Bounds) (room : ℕ) (k : Code) (K : Shape)
    → K ≡ shape_of k T limits room → (labels : Labels) (name : List ℕ) (names : Names) (t : Tree)
    → labels ≡ labels_for name names t K.procs → name ≡ chart_name c → names ≡ c.names → t ≡ c.tree
    → labels ≡ names_in c k
names_are c T limits room k K shape_is labels name names t are name_is names_is tree_is =
    are
    ∙ ap (λ (x : List ℕ). labels_for x names t K.procs) name_is
    ∙ ap (λ (x : Names). labels_for (chart_name c) x t K.procs) names_is
    ∙ ap (λ (x : Tree). labels_for (chart_name c) c.names x K.procs) tree_is
    ∙ ap (λ (S : Shape). labels_for (chart_name c) c.names c.tree S.procs) shape_is

-- the shape of code is that of its own tests, bounds and room
pub own_shape : (k : Code) (T : Tests) (limits : Bounds) (room : ℕ) (K : Shape) → K ≡ shape_of k T limits room
    → K ≡ shape_of k K.tests K.bounds K.outputs
own_shape k T limits room K is =
    is ∙ ap (λ (S : Shape). shape_of k S.tests S.bounds S.outputs) (sym is)

module _ {c : Chart} {w : Written} {made : Made} (is : IsMadeFor c w made) where
  -- the file that passes make, and that its functions are those
  abbrev pub file_made : File
  file_made = is.is_made.passed.made

  functions_made : functions_of made ≡ file_made.functions
  unfolding functions_of
  functions_made = functions_are made.functions.items file_made.functions is.is_made.passed.are

  -- they make it of the file of the code
  pub passed : IsPassed (shape_of (code_of w.code) (tests_seen w.tests) w.limits w.outputs)
      (file_of (code_of w.code) (tests_seen w.tests) w.limits w.outputs (plans_of (code_of w.code))) file_made
  passed =
      subst (λ (S : Shape). IsPassed S (written_file S (code_of w.code)) file_made) is.shape
      (subst (λ (k : Code). IsPassed (shape_seen made.shape) (written_file (shape_seen made.shape) k) file_made) is.code
      is.is_made.passed.passed)

  -- what holds of them holds of the functions of that file
  pub facts_hold : (written : List Bool) (facts : SourceFacts)
      → AreFacts (labels_of made.labels) (functions_of made) written facts
      → AreFacts (names_in c (code_of w.code)) file_made.functions written facts
  facts_hold written facts hold =
      subst (λ (L : Labels). AreFacts L file_made.functions written facts) is.names
      (subst (λ (fs : List Function). AreFacts (labels_of made.labels) fs written facts) functions_made hold)

  -- and so do those that may change the struct
  pub may_change : (changing : List Bool) → AreChanging (labels_of made.labels) (functions_of made) changing
      → AreChanging (names_in c (code_of w.code)) file_made.functions changing
  may_change changing are =
      subst (λ (L : Labels). AreChanging L file_made.functions changing) is.names
      (subst (λ (fs : List Function). AreChanging (labels_of made.labels) fs changing) functions_made are)

  -- their source is that for the code
  pub source_is : (written changing : List Bool) (order : List ℕ) (facts : SourceFacts) (identity : Identity)
      → source_text (labels_of made.labels) (said_of made.said) identity made.shape.bounds made.shape.outputs
      made.shape.notes (calls_number facts.calls) (functions_of made) written changing order
      ≡ source_for c (tests_seen w.tests) w.limits w.outputs (code_of w.code) w.origins.items w.tags.items facts
      file_made.functions written changing order identity
  source_is written changing order facts identity =
      let k : Code = code_of w.code in
      let n : ℕ = calls_number facts.calls in
      ap (λ (L : Labels). source_text L (said_of made.said) identity made.shape.bounds made.shape.outputs
      made.shape.notes n (functions_of made) written changing order) is.names
      ∙ ap (λ (xs : List (List ℕ)). source_text (names_in c k) xs identity made.shape.bounds made.shape.outputs
      made.shape.notes n (functions_of made) written changing order) is.said
      ∙ ap (λ (fs : List Function). source_text (names_in c k) (comments_in c w.origins.items w.tags.items) identity
      made.shape.bounds made.shape.outputs made.shape.notes n fs written changing order) functions_made
      ∙ ap (λ (S : Shape). source_text (names_in c k) (comments_in c w.origins.items w.tags.items) identity
      S.bounds S.outputs S.notes n file_made.functions written changing order) is.shape

  -- and so is their header
  pub header_is : (facts : SourceFacts) (identity : Identity)
      → header_text made.name.now (shape_seen made.shape) facts identity
      ≡ header_for c (tests_seen w.tests) w.limits w.outputs (code_of w.code) facts identity
  header_is facts identity =
      ap (λ (x : List ℕ). header_text x (shape_seen made.shape) facts identity)
      (sym is.is_made.named ∙ ap (λ (L : Labels). L.chart) is.names)
      ∙ ap (λ (S : Shape). header_text (names_in c (code_of w.code)).chart S facts identity) is.shape

-- what is in lines is so of an equal text
pub same_lines : (text other made : List ℕ) → text ≡ other → IsInLines text made → IsInLines other made
same_lines text other made e is = subst (λ (x : List ℕ). IsInLines x made) e is

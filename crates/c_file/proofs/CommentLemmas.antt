-- What is said of the functions of a file.
use Rattle.std.proofs.Common.{◌≡◌, ◌-◌, ◌<◌, ◌≤◌, ℕ, List, [], length, get_or, slice_index_or, sym, ap, ◌∙◌, arith}
use Rattle.std.proofs.lemmas.List.{get_or-map, get_or_past, length-map}
use Rattle.active_config.specs.Tree.{Tree}
use Rattle.actions.specs.Names.{Names}
use Rattle.chart_parts.specs.declared.part.Part.{Part}
use Rattle.code_passes.specs.declared.tag.Tag.{Tag}
use Rattle.c_file.specs.Comments.{words_for, comments_for}
use Rattle.c_file.specs.Source.{comment_of, other_comments}

module _ (t : Tree) (n : Names) (parts : List Part) (origins : List ℕ) (tags : List Tag) (f : ℕ) where
  -- of a procedure, the words for its tag
  pub comment_of_procedure : (tag : Tag) → f < length tags → tag ≡ get_or tags f tag
      → comment_of (comments_for t n parts origins tags) f ≡ words_for t n parts origins tag
  unfolding comment_of
  comment_of_procedure tag within is =
      get_or-map (words_for t n parts origins) tags f tag _ within ∙ ap (words_for t n parts origins) (sym is)

  -- of another function, what it is
  pub comment_of_other : length tags ≤ f
      → comment_of (comments_for t n parts origins tags) f ≡ slice_index_or other_comments (f - length tags) []
  unfolding comment_of
  comment_of_other past =
      get_or_past (comments_for t n parts origins tags) f _
      (omega (arith, past, length-map tags (words_for t n parts origins)))
      ∙ ap (λ (k : ℕ). slice_index_or other_comments (f - k) []) (length-map tags (words_for t n parts origins))

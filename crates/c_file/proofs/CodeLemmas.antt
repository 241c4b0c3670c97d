-- The smaller code of a chart, and the code that is written, declare what the chart does.
use Rattle.std.proofs.Common.{◌≡◌, ◌<◌, ℕ, List, length, refl, sym, ◌∙◌, subst}
use Rattle.std.specs.List.{All}
use Rattle.std.proofs.lemmas.List.Elements.{All-weaker}
use Rattle.flow_base.specs.declared.bounds.Bounds.{Bounds}
use Rattle.active_config.specs.Tree.{Tree, state_count}
use Rattle.actions.specs.Names.{Names}
use Rattle.checked_chart.specs.Chart.{Chart}
use Rattle.code_language.specs.Code.{Code}
use Rattle.chart_code.specs.Bodies.{code_of_chart}
use Rattle.code_language.specs.WellFormed.{IsCode}
use Rattle.code_shrink.specs.RunsAlike.{RunAlike}
use Rattle.code_shrink.proofs.RunsAlike.{alike_both}
use Rattle.code_copies.specs.SameRuns.{HasSameRuns}
use Rattle.code_copies.proofs.SameRunsLemmas.{same_shrunk, same_both}
use Rattle.code_passes.specs.declared.tag.Tag.{Tag}
use Rattle.code_passes.specs.Tags.{IsTag}
use Rattle.code_passes.proofs.PassedLemmas.{passed_same, passed_told}
use Rattle.code_depths.proofs.SameRuns.{cut_same_runs}
use Rattle.c_runs.specs.Claims.{FitsChart}
use Rattle.c_file.specs.Comments.{IsTagOf}
use Rattle.c_file.specs.Files.{IsCodeFor, IsWritten}
use Rattle.c_file.proofs.CutLemmas.{cut_names, cut_tree, cut_results, results_both}

module _ {c : Chart} {k : Code} {origins : List ℕ} where
  pub same_names : {n : Names} → n ≡ c.names → IsCodeFor c k origins → n ≡ k.names
  unfolding code_of_chart
  same_names is code = is ∙ sym code.shrunk.names

  pub same_tree : {t : Tree} → t ≡ c.tree → IsCodeFor c k origins → t ≡ k.tree
  unfolding code_of_chart
  same_tree is code = is ∙ sym code.shrunk.tree

module _ {c : Chart} {b : Bounds} {k : Code} {tags : List Tag} {origins : List ℕ} where
  -- the faster code has the runs of the smaller code
  runs_smaller : (w : IsWritten c b k tags origins) → HasSameRuns w.smaller w.faster
  runs_smaller w = passed_same w.smaller w.faster tags w.is_code.shrunk.well_formed w.is_faster.passed

  -- and so those of the chart's code
  runs_chart : (w : IsWritten c b k tags origins) → HasSameRuns (code_of_chart c) w.faster
  runs_chart w =
      same_both (code_of_chart c) w.smaller w.faster (same_shrunk (code_of_chart c) w.smaller w.is_code.shrunk)
      (runs_smaller w)

  -- the code that is written declares the same
  pub written_names : {n : Names} → n ≡ c.names → IsWritten c b k tags origins → n ≡ k.names
  written_names is w =
      same_names is w.is_code ∙ sym (runs_smaller w).names ∙ sym (cut_names b.depth w.faster k w.is_cut)

  pub written_tree : {t : Tree} → t ≡ c.tree → IsWritten c b k tags origins → t ≡ k.tree
  written_tree is w =
      same_tree is w.is_code ∙ sym (runs_smaller w).tree ∙ sym (cut_tree b.depth w.faster k w.is_cut)

  -- its tags are those of the chart
  pub written_tags : IsWritten c b k tags origins → All (IsTagOf c) tags
  unfolding code_of_chart
  written_tags w =
      All-weaker (IsTag w.smaller) (IsTagOf c)
      (λ tag is. record {
        home = λ s e. subst (λ t. s < state_count t) w.is_code.shrunk.tree (is.home s e);
        event = λ s e. subst (λ (n : Names). s < length n.events) w.is_code.shrunk.names (is.event s e);
      }) tags (passed_told w.smaller w.faster tags w.is_faster.passed)

  -- where it is well formed it fits the chart
  pub written_fits : IsWritten c b k tags origins → IsCode k → FitsChart c k
  written_fits w well =
      let names : c.names ≡ k.names = written_names refl w in
      let tree : c.tree ≡ k.tree = written_tree refl w in
      record {
        well_formed = well;
        tree = sym tree;
        names = sym names;
        results =
            results_both (code_of_chart c).procedures w.faster.procedures k.procedures (runs_chart w).results
            (cut_results b.depth w.faster k w.is_cut);
      }

  -- and under the bounds it runs as the chart's code, whatever the first values of the data are
  pub written_alike : IsWritten c b k tags origins → IsCode k → RunAlike b (code_of_chart c) k
  written_alike w well =
      alike_both b (code_of_chart c) w.faster k ((runs_chart w).runs b)
      (cut_same_runs w.faster k b well w.is_cut).runs

-- all code that is written for a chart declares the same
module _ {c : Chart} {b b' : Bounds} {k k' : Code} {tags tags' : List Tag} {origins origins' : List ℕ}
    (one : IsWritten c b k tags origins) (two : IsWritten c b' k' tags' origins') where
  pub same_trees : k'.tree ≡ k.tree
  same_trees =
      let first : c.tree ≡ k.tree = written_tree refl one in
      let second : c.tree ≡ k'.tree = written_tree refl two in sym second ∙ first

  pub same_names_of : k'.names ≡ k.names
  same_names_of =
      let first : c.names ≡ k.names = written_names refl one in
      let second : c.names ≡ k'.names = written_names refl two in sym second ∙ first

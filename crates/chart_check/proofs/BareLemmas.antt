-- A net is valid where it is valid without its places.
use Rattle.std.proofs.Common.{List, map, option_map, sym, ap, ◌∙◌, subst, arith}
use Rattle.std.proofs.lemmas.List.{length-map}
use Rattle.active_config.specs.Tree.{state_count}
use Rattle.checked_chart.specs.declared.parts.ListKind.TheVariants.{Default}
use Rattle.chart_structure.specs.declared.net.Arrow.{Arrow}
use Rattle.chart_structure.specs.Net.{Net, nowhere, list_of, junction_list}
use Rattle.chart_structure.specs.Valid.{Closes, IsValid}
use Rattle.chart_structure.specs.Erased.{erase, erased}
use Rattle.chart_structure.proofs.ErasedLemmas.{words_same, history_same, lists_same, junctions_same, image}
use Rattle.chart_structure.proofs.LinkLemmas.{kind_reached_on, kind_meets_on, below_on}
use Rattle.chart_structure.proofs.MapLemmas.{into_map, map_empty}

-- a list closes where it does without its places
closes_back : (list : List Arrow) → Closes (map erase list) → Closes list
closes_back list c = record {
  some = λ e. c.some (ap (map erase) e);
  last = λ a l. c.last (erase a) (l.0, l.1 ∙ sym (length-map list erase), into_map erase list l.0 a l.2);
}

module _ (n : Net) where
  pub valid_by_erased : IsValid (erased n) → IsValid n
  valid_by_erased v = record {
    words = λ s lt. sym (words_same n s) ∙ v.words s lt;
    children = v.children;
    no_default = λ s lt ne.
        map_empty erase (list_of n s Default) (sym (lists_same n s Default) ∙ v.no_default s lt ne);
    default = λ s lt e. closes_back (list_of n s Default) (subst Closes (lists_same n s Default) (v.default s lt e));
    junctions = λ s j lt r.
        let reached = kind_reached_on (image n) s Default j lt r in
        closes_back (junction_list n j) (subst Closes (junctions_same n j) (v.junctions s j lt reached));
    history = λ s at lt is. v.history s nowhere lt (history_same n s ∙ ap (option_map (λ _. nowhere)) is);
    leads = λ s kind list a d lt m l.
        let met = kind_meets_on (image n) s kind list lt m in
        v.leads s kind (map erase list) (erase a) d lt met
        (record { has = (l.has.0, into_map erase list l.has.0 a l.has.1); to = l.to });
    pairs = λ count are. v.pairs count (below_on (image n) (state_count n.tree) count (omega arith) are);
  }

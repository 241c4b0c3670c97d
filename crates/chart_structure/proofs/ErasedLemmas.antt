-- A valid net is valid without its places.
use Rattle.std.proofs.Common.{◌≡◌, ℕ, zero, suc, List, [], ◌∷◌, map, get_or, Option, Some, None}
use Rattle.std.proofs.Common.{refl, sym, ap, ◌∙◌, subst, arith}
use Rattle.std.specs.Prelude.{slice_get}
use Rattle.std.specs.Option.{option_map}
use Rattle.std.proofs.lemmas.List.{length-map}
use Rattle.token_grammar.specs.declared.token.Span.{Span}
use Rattle.active_config.specs.Tree.{state_count}
use Rattle.checked_chart.specs.declared.parts.ListKind.{ListKind}
use Rattle.checked_chart.specs.declared.parts.ListKind.TheVariants.{Outer, Inner, Default}
use Rattle.chart_structure.specs.declared.net.Arrow.{Arrow}
use Rattle.chart_structure.specs.Net.{Node, JunctionNode, Net, nowhere, no_node, no_junction, node_list, word_of}
use Rattle.chart_structure.specs.Net.{history_of, list_of, junction_count, junction_list}
use Rattle.chart_structure.specs.Reached.{links_of, NetPairs}
use Rattle.chart_structure.specs.Valid.{Closes, IsValid}
use Rattle.chart_structure.specs.Erased.{erase, erase_node, erase_junction, erased}
use Rattle.chart_structure.proofs.MapLemmas.{Comes, from_map, map_empty}
use Rattle.chart_structure.proofs.LinkLemmas.{IsImage, kind_reached_back, kind_meets_back, below_back}

-- ---- look-ups

-- a place of an erased word comes from one
place_back : (o : Option Span) (at : Span) → option_map (λ _. nowhere) o ≡ Some at → (x : Span) × (o ≡ Some x)
place_back None at e = absurd cc
place_back (Some x) at e = (x, refl)

pub node_at : (ns : List Node) (s : ℕ) → get_or (map erase_node ns) s no_node ≡ erase_node (get_or ns s no_node)
node_at [] s = refl
node_at (x ∷ xs) zero = refl
node_at (x ∷ xs) (suc s) = node_at xs s

junction_at : (ps : List JunctionNode) (j : ℕ)
    → get_or (map erase_junction ps) j no_junction ≡ erase_junction (get_or ps j no_junction)
junction_at [] j = refl
junction_at (x ∷ xs) zero = refl
junction_at (x ∷ xs) (suc j) = junction_at xs j

node_list_at : (x : Node) (kind : ListKind) → node_list (erase_node x) kind ≡ map erase (node_list x kind)
node_list_at x Outer = refl
node_list_at x Inner = refl
node_list_at x Default = refl

module _ (n : Net) where
  pub words_same : (s : ℕ) → word_of (erased n) s ≡ word_of n s
  unfolding word_of
  words_same s = ap (λ x. x.word) (node_at n.nodes s)

  pub history_same : (s : ℕ) → history_of (erased n) s ≡ option_map (λ _. nowhere) (history_of n s)
  unfolding history_of
  history_same s = ap (λ x. x.history) (node_at n.nodes s)

  pub lists_same : (s : ℕ) (kind : ListKind) → list_of (erased n) s kind ≡ map erase (list_of n s kind)
  unfolding list_of
  lists_same s kind = ap (λ x. node_list x kind) (node_at n.nodes s) ∙ node_list_at (get_or n.nodes s no_node) kind

  pub junctions_same : (j : ℕ) → junction_list (erased n) j ≡ map erase (junction_list n j)
  unfolding junction_list
  junctions_same j = ap (λ x. x.list) (junction_at n.junctions j)

  count_same : junction_count (erased n) ≡ junction_count n
  unfolding junction_count
  count_same = length-map n.junctions erase_junction

  -- the transitions of the net without places come from those of the net
  pub image : IsImage erase (links_of n) (links_of (erased n)) (state_count n.tree)
  image = record {
    dests = λ a. refl;
    each = junctions_same;
    count = count_same;
    lists = λ s kind lt. lists_same s kind;
  }

  closes_on : (list : List Arrow) → Closes list → Closes (map erase list)
  closes_on list c = record {
    some = λ e. c.some (map_empty erase list e);
    last = λ a l.
        let r = from_map erase list l.0 a l.2 in
        sym (ap (λ (x : Arrow). x.«open») r.same) ∙ c.last r.item (l.0, l.1 ∙ length-map list erase, r.is);
  }

  -- the pairs of the net without places are those of the net
  pub pairs_back : (count : ℕ) → NetPairs (erased n) count → NetPairs n count
  pairs_back count are = below_back image (state_count n.tree) count (omega arith) are

  pub erased_valid : IsValid n → IsValid (erased n)
  erased_valid v = record {
    words = λ s lt. words_same s ∙ v.words s lt;
    children = v.children;
    no_default = λ s lt ne. lists_same s Default ∙ ap (map erase) (v.no_default s lt ne);
    default = λ s lt e. subst Closes (sym (lists_same s Default)) (closes_on (list_of n s Default) (v.default s lt e));
    junctions = λ s j lt r.
        let reached = kind_reached_back image s Default j lt r in
        subst Closes (sym (junctions_same j)) (closes_on (junction_list n j) (v.junctions s j lt reached));
    history = λ s at lt is.
        let b = place_back (history_of n s) at (sym (history_same s) ∙ is) in v.history s b.0 lt b.1;
    leads = λ s kind list a d lt m l.
        let b = kind_meets_back image s kind list lt m in
        let r = from_map erase b.own l.has.0 a (subst (λ x. slice_get x l.has.0 ≡ Some a) b.same l.has.1) in
        v.leads s kind b.own r.item d lt b.met
        (record { has = (l.has.0, r.is); to = ap (λ (x : Arrow). x.to) r.same ∙ l.to });
    pairs = λ count are. v.pairs count (pairs_back count are);
  }

-- Transitions, counted state by state and junction by junction.
use Rattle.std.proofs.Common.{◌≡◌, ℕ, ◌+◌, ◌<◌, ◌≤◌, List, [], ◌++◌, append_assoc, codes}
use Rattle.std.proofs.Common.{length, take, get_or, sym, ap, subst, ◌∙◌, arith, refl}
use Rattle.std.specs.Prelude.{sum_by, decimal}
use Rattle.std.proofs.Math.Seq.{take-length}
use Rattle.std.proofs.lemmas.List.{length-map}
use Rattle.std.proofs.lemmas.List.Sums.{get_or-le-sum_by, sum_by_more, sum_by_more_le}
use Rattle.active_config.specs.Tree.{state_count}
use Rattle.checked_chart.specs.declared.parts.ListKind.TheVariants.{Outer, Inner, Default}
use Rattle.checked_chart.specs.declared.parts.Trans.{Trans as Kept}
use Rattle.checked_chart.specs.Chart.{Chart, Trans, node, no_node, list_of, junction, junction_count}
use Rattle.checked_chart.specs.Counts.{node_transitions, transition_count}
use Rattle.checked_chart.specs.Valid.{IsValid}
use Rattle.checked_chart.specs.Views.{list_seen, trans_seen}
use Rattle.commands.specs.Check.{counts_text, counts_line}

-- the transitions of a state are no more than a chart may have
pub node_few : (c : Chart) → IsValid c → (s : ℕ) → s < state_count c.tree → node_transitions (node c s) ≤ 8192
unfolding node
node_few c v s lt =
    let within : s < length c.nodes = subst (λ (n : ℕ). s < n) (sym v.nodes_sized) lt in
    let one = get_or-le-sum_by node_transitions c.nodes s no_node within in
    let all = v.limits.transitions in
    omega (arith, one, all)

-- the lists of the code have the transitions of the state
pub seen_count : (c : Chart) (s : ℕ) (outer inner default : List Kept)
    → list_seen outer ≡ list_of c s Outer → list_seen inner ≡ list_of c s Inner → list_seen default ≡ list_of c s Default
    → length outer + length inner + length default ≡ node_transitions (node c s)
seen_count c s outer inner default o i d =
    let a = sym (length-map outer trans_seen) ∙ ap length o in
    let b = sym (length-map inner trans_seen) ∙ ap length i in
    let e = sym (length-map default trans_seen) ∙ ap length d in
    rw (a, b, e) refl

-- the transitions of all states are no more than a chart may have
pub states_few : (c : Chart) → IsValid c → sum_by node_transitions c.nodes + sum_by (λ (list : List Trans). length list) c.junctions ≤ 8192
states_few c v = v.limits.transitions

-- one more state is counted
pub state_more : (c : Chart) → IsValid c → (s count more : ℕ) → s < state_count c.tree
    → count ≡ sum_by node_transitions (take s c.nodes) → more ≡ node_transitions (node c s)
    → (count + more ≡ sum_by node_transitions (take (s + 1) c.nodes)) × (count + more ≤ 8192)
unfolding node
state_more c v s count more lt e m =
    let within : s < length c.nodes = subst (λ (n : ℕ). s < n) (sym v.nodes_sized) lt in
    let next = sum_by_more node_transitions c.nodes s no_node within in
    let part = sum_by_more_le node_transitions c.nodes s no_node within in
    let all = v.limits.transitions in
    (rw (e, m) (sym next), rw (e, m) (omega (arith, part, all)))

-- one more junction is counted
pub junction_more : (c : Chart) → IsValid c → (j count : ℕ) (list : List Kept) → j < junction_count c
    → count ≡ sum_by (λ (list : List Trans). length list) (take j c.junctions) → list_seen list ≡ junction c j
    → (count + length list ≡ sum_by (λ (list : List Trans). length list) (take (j + 1) c.junctions)) × (count + length list ≤ 8192)
unfolding junction junction_count
junction_more c v j count list lt e is =
    let f : List Trans → ℕ = λ (list : List Trans). length list in
    let next = sum_by_more f c.junctions j [] lt in
    let part = sum_by_more_le f c.junctions j [] lt in
    let all = v.limits.transitions in
    let m : length list ≡ length (get_or c.junctions j []) = sym (length-map list trans_seen) ∙ ap (λ (l : List Trans). length l) is in
    (rw (e, m) (sym next), rw (e, m) (omega (arith, part, all)))

-- all states are counted
pub states_counted : (c : Chart) → IsValid c → (s count : ℕ) → s ≡ state_count c.tree
    → count ≡ sum_by node_transitions (take s c.nodes) → count ≡ sum_by node_transitions c.nodes
states_counted c v s count e h =
    h ∙ ap (λ (n : ℕ). sum_by node_transitions (take n c.nodes)) (e ∙ sym v.nodes_sized) ∙ ap (sum_by node_transitions) (take-length c.nodes)

-- all junctions are counted
pub junctions_counted : (c : Chart) → (j count : ℕ) → j ≡ junction_count c
    → count ≡ sum_by (λ (list : List Trans). length list) (take j c.junctions) → count ≡ sum_by (λ (list : List Trans). length list) c.junctions
unfolding junction_count
junctions_counted c j count e h =
    let f : List Trans → ℕ = λ (list : List Trans). length list in
    h ∙ ap (λ (n : ℕ). sum_by f (take n c.junctions)) e ∙ ap (sum_by f) (take-length c.junctions)

-- the line of counts that are those of a chart
pub counts_are : (c : Chart) (states junctions transitions pairs : ℕ) → states ≡ state_count c.tree → junctions ≡ junction_count c
    → transitions ≡ transition_count c → counts_text states junctions transitions pairs ≡ counts_line c pairs
counts_are c states junctions transitions pairs s j t =
    ap (λ (n : ℕ). counts_text n junctions transitions pairs) s ∙ ap (λ (n : ℕ). counts_text (state_count c.tree) n transitions pairs) j
    ∙ ap (λ (n : ℕ). counts_text (state_count c.tree) (junction_count c) n pairs) t

-- nine pieces
nine : (a b c d e f g h i : List ℕ) → a ++ (b ++ (c ++ (d ++ (e ++ (f ++ (g ++ (h ++ i))))))) ≡ a ++ b ++ c ++ d ++ e ++ f ++ g ++ h ++ i
nine a b c d e f g h i =
    sym (append_assoc (a ++ b ++ c ++ d ++ e ++ f ++ g) h i ∙ append_assoc (a ++ b ++ c ++ d ++ e ++ f) g (h ++ i)
    ∙ append_assoc (a ++ b ++ c ++ d ++ e) f (g ++ (h ++ i)) ∙ append_assoc (a ++ b ++ c ++ d) e (f ++ (g ++ (h ++ i)))
    ∙ append_assoc (a ++ b ++ c) d (e ++ (f ++ (g ++ (h ++ i)))) ∙ append_assoc (a ++ b) c (d ++ (e ++ (f ++ (g ++ (h ++ i)))))
    ∙ append_assoc a b (c ++ (d ++ (e ++ (f ++ (g ++ (h ++ i)))))))

-- the line of counts, put piece by piece
pub counts_in_pieces : (states junctions transitions pairs : ℕ)
    → codes "ok " ++ (decimal states ++ (codes " states " ++ (decimal junctions ++ (codes " junctions " ++ (decimal transitions
    ++ (codes " transitions " ++ (decimal pairs ++ codes " pairs\n")))))))
    ≡ counts_text states junctions transitions pairs
counts_in_pieces states junctions transitions pairs =
    nine (codes "ok ") (decimal states) (codes " states ") (decimal junctions) (codes " junctions ") (decimal transitions) (codes " transitions ")
    (decimal pairs) (codes " pairs\n")

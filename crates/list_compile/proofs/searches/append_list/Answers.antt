use Rattle.std.proofs.Common.{◌≡◌, ◌∙◌, ℕ, List, [], ◌∷◌, ◌++◌, length, map, refl, ap, arith, append_assoc}
use Rattle.checked_chart.specs.declared.parts.ListKind.{ListKind}
use Rattle.checked_chart.specs.Chart.{Chart, list_of}
use Rattle.code_language.specs.Instrs.{Instr}
use Rattle.chart_code.specs.Bodies.{body}
use Rattle.chart_code.specs.Keys.{ListOf, JunctionOf, search_keys}
use Rattle.chart_code.specs.Places.{reached_count}
use Rattle.chart_code.specs.ReachedJunctions.{reached}
use Rattle.list_compile.specs.Drafts.{procs_of}
use Rattle.list_compile.specs.Numberings.{chart_in}
use Rattle.list_compile.proofs.FrontLemmas.{on_err, front_same, front_then}
use Rattle.list_compile.proofs.Limits.{reached_count_low}
use Rattle.list_compile.proofs.searches.append_list.Goals as goal

-- the procedure of a list and those of its junctions are those of the search
search_done : (c : Chart) (s : ℕ) (kind : ListKind) (old one new : List (List Instr)) (found : List ℕ)
    → found ≡ reached c (list_of c s kind) → one ≡ old ++ body c (ListOf s kind) ∷ []
    → new ≡ one ++ map (body c) (map (λ j. JunctionOf s kind j) found) → new ≡ old ++ map (body c) (search_keys c s kind)
unfolding search_keys
search_done c s kind old one new found e first rest =
    rest ∙ ap (λ l. l ++ map (body c) (map (λ j. JunctionOf s kind j) found)) first
    ∙ append_assoc old (body c (ListOf s kind) ∷ []) (map (body c) (map (λ j. JunctionOf s kind j) found))
    ∙ ap (λ xs. old ++ (body c (ListOf s kind) ∷ map (body c) (map (λ j. JunctionOf s kind j) xs))) e

pub append_first-requires : goal.append_first-requires
unfolding reached_count
append_first-requires c =
    let chart = chart_in c.args.numbering.now in
    let found =
    c.items-found.ensures ∙ c.in_ok-junctions.ensures.reached ∙ ap (reached chart) c.list-list.ensures.list in
    record {
      state = c.requires;
      first = c.list-first.ensures.list;
      found = found;
      few =
          omega (
            arith,
            ap (λ xs. length xs) found,
            reached_count_low chart c.states.ensures.valid c.args.state c.args.kind,
          );
      low = omega (arith, c.list-first.ensures.low);
    }

pub append_junctions-requires-clause-search : goal.append_junctions-requires-clause-search
unfolding reached_count
append_junctions-requires-clause-search c =
    let chart = chart_in c.args.numbering.now in
    let found =
    c.items-found.ensures ∙ c.in_ok-junctions.ensures.reached ∙ ap (reached chart) c.list-list.ensures.list in
    record {
      state = c.requires;
      first = c.list-first.ensures.list;
      found = found;
      few =
          omega (
            arith,
            ap (λ xs. length xs) found,
            reached_count_low chart c.states.ensures.valid c.args.state c.args.kind,
          );
      low = omega (arith, c.list-first.ensures.low);
    }

pub returns-clause-ok : goal.returns-clause-ok
returns-clause-ok c =
    let chart = chart_in c.args.numbering.now in
    search_done chart c.args.state c.args.kind (procs_of c.args.draft.now) (procs_of c.append_first.new.draft) _
    c.items-found.result.now
    (c.items-found.ensures ∙ c.in_ok-junctions.ensures.reached ∙ ap (reached chart) c.list-list.ensures.list)
    c.in_ok-append_first.ensures.ok c.in_ok-append_junctions.ensures.ok

-- ---- after an error

pub returns-in_err-junctions-clause-err : goal.returns-in_err-junctions-clause-err
returns-in_err-junctions-clause-err c = on_err _ (front_same (procs_of c.args.draft.now) _ refl)

pub returns-in_err-append_first-clause-err : goal.returns-in_err-append_first-clause-err
returns-in_err-append_first-clause-err c =
    on_err _ (front_same (procs_of c.args.draft.now) _ c.in_err-append_first.ensures.err)

pub returns-in_err-append_junctions-clause-err : goal.returns-in_err-append_junctions-clause-err
returns-in_err-append_junctions-clause-err c =
    on_err _ (front_then (procs_of c.args.draft.now) (procs_of c.append_first.new.draft) _ _ c.in_ok-append_first.ensures.ok
    c.in_err-append_junctions.ensures.err)

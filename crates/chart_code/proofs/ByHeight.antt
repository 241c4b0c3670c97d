-- The induction on the height: each kind at a height from all kinds at every lower one.
use Rattle.std.proofs.Common.{◌≡◌, ℕ, zero, suc, ◌<◌, subst, arith, ⊎_elim}
use Rattle.std.proofs.lemmas.Bool.{cases_lt}
use Rattle.flow_base.specs.declared.bounds.Bounds.{Bounds}
use Rattle.checked_chart.specs.Chart.{Chart}
use Rattle.checked_chart.specs.Valid.{IsValid}
use Rattle.sos_rules.specs.Rules.{upto}
use Rattle.sos_rules.proofs.Keeps.{Consistent, consistent_closed, upto_keep}
use Rattle.code_language.specs.Code.{Procedures}
use Rattle.code_language.specs.Machine.{Program}
use Rattle.code_language.proofs.Joins.{meets_unfinished}
use Rattle.chart_code.specs.Numbers.{Numbers}
use Rattle.chart_code.specs.Kinds.{DoesBlock, DoesSearch, AllDo, program}
use Rattle.chart_code.specs.Compiled.{Compiled}
use Rattle.chart_code.proofs.Exits.{does_exit, does_exit_each}
use Rattle.chart_code.proofs.Enters.{does_enter, does_enter_each}
use Rattle.chart_code.proofs.Plays.{does_play}
use Rattle.chart_code.proofs.Takes.{does_take, does_defaults}
use Rattle.chart_code.proofs.Processes.{does_process, does_process_each}
use Rattle.chart_code.proofs.Blocks.{does_block, does_send}

-- the contract of the searches: where blocks do their work at every lower height, the lists' procedures do the searches
pub record SearchesDo (c : Chart) (b : Bounds) (k : Procedures) (N : Numbers) : Type 0 where
  pub by : (n : ℕ) → ((m : ℕ) → m < n → DoesBlock (program c b k) N (upto c b m))
      → DoesSearch (program c b k) c N (upto c b n)

module _ (c : Chart) (b : Bounds) (k : Procedures) (N : Numbers) (valid : IsValid c) (K : Compiled c k N)
    (searches : SearchesDo c b k N) where
  -- the chart's code under these bounds
  abbrev C : Program
  C = program c b k

  -- all kinds at every lower height
  abbrev Below : ℕ → Type 0
  Below n = (m : ℕ) → m < n → AllDo C c N (upto c b m)

  -- all kinds at a height, from all kinds at every lower one
  at_height : (n : ℕ) → Below n → AllDo C c N (upto c b n)
  at_height zero lower = record {
    block = record { by = λ _ _ _ _ _ _ _ _ _ _ _ _ _ _. meets_unfinished };
    send = record { chart = λ _ _ _ _ _ _ _ _ _. meets_unfinished; state = λ _ _ _ _ _ _ _ _ _ _. meets_unfinished };
    search = record { by = λ _ _ _ _ _ _ _ _ _ _ _. meets_unfinished };
    exit = record { by = λ _ _ _ _ _ _ _ _ _ _ _. meets_unfinished };
    exit_each = record { by = λ _ _ _ _ _ _ _ _ _ _ _ _ _. meets_unfinished };
    enter = record { by = λ _ _ _ _ _ _ _ _ _ _ _. meets_unfinished };
    enter_each = record { by = λ _ _ _ _ _ _ _ _ _ _ _ _ _ _. meets_unfinished };
    defaults = record { by = λ _ _ _ _ _ _ _ _ _ _ _ _. meets_unfinished };
    play = record { by = λ _ _ _ _ _ _ _ _ _ _ _ _. meets_unfinished };
    take = record { by = λ _ _ _ _ _ _ _ _ _ _ _ _ _ _. meets_unfinished };
    process = record { by = λ _ _ _ _ _ _ _ _ _ _ _ _. meets_unfinished };
    process_each = record { by = λ _ _ _ _ _ _ _ _ _ _ _ _ _ _. meets_unfinished };
  }
  at_height (suc n) lower =
      let low = lower n (omega arith) in
      let keep = upto_keep c valid.tree b (Consistent c) (consistent_closed c b) n in
      record {
        block = does_block c b k N valid K (upto c b n) keep low;
        send = does_send c b k N valid K (upto c b n) keep low;
        search = searches.by (suc n) (λ m lt. (lower m lt).block);
        exit = does_exit c b k N valid K (upto c b n) keep low;
        exit_each = does_exit_each c b k N valid K (upto c b n) keep low;
        enter = does_enter c b k N valid K (upto c b n) keep low;
        enter_each = does_enter_each c b k N valid K (upto c b n) keep low;
        defaults = does_defaults c b k N valid K (upto c b n) keep low;
        play = does_play c b k N valid K (upto c b n) keep low;
        take = does_take c b k N valid K (upto c b n) keep low;
        process = does_process c b k N valid K (upto c b n) keep low;
        process_each = does_process_each c b k N valid K (upto c b n) keep low;
      }

  -- all kinds at every height below one
  below : (n : ℕ) → Below n
  below zero m lt = absurd (omega arith)
  below (suc n) m lt =
      ⊎_elim (λ less. below n m less) (λ ge. let e : n ≡ m = omega arith in subst (λ x. AllDo C c N (upto c b x)) e
      (at_height n (below n))) (cases_lt m n)

  -- all kinds at every height
  pub all_do : (n : ℕ) → AllDo C c N (upto c b n)
  all_do n = at_height n (below n)

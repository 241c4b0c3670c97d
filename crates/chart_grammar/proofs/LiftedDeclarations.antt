-- Types and declarations, where some limits don't count.
-- `lifted_x` compares the production x under the usual limits with x under limits of which some don't count. `eased_x`
-- says so too, and that x has a spelling. `starts_x` says that each token of a set begins x, and `expects_x` that no
-- other does.
use Rattle.std.proofs.Common.{◌≡◌, ℕ, Bool, true, false, Option, Some, None, refl, subst}
use Rattle.fixed_point.specs.declared.fitting.Mode.TheVariants as modes
use Rattle.token_grammar.specs.declared.token.Kind.TheVariants as kinds
use Rattle.token_grammar.specs.declared.token.Span.{Span}
use Rattle.token_grammar.specs.declared.fault.TokenFault.{TokenFault}
use Rattle.token_grammar.specs.declared.fault.TokenFault.TheVariants as faults
use Rattle.token_grammar.specs.declared.fault.Thing.TheVariants as things
use Rattle.token_grammar.specs.Token.{Lexeme}
use Rattle.token_grammar.specs.Grammar.{Grammar, is, token, allowed, unless_lifted as unless_out}
use Rattle.token_grammar.proofs.Good.{Set}
use Rattle.token_grammar.proofs.Lifted.{Lifted, Eased, eased_token, lifted_one_of, eased_one_of, eased_give}
use Rattle.token_grammar.proofs.Lifted.{lifted_then, eased_then, eased_either}
use Rattle.token_grammar.proofs.LiftedLimits.{lifted_allowed, lifted_allowed_kept}
use Rattle.token_grammar.proofs.Starts.{starts_token, starts_one_of}
use Rattle.chart_tree.specs.declared.sort.InitText.TheVariants as inits
use Rattle.chart_tree.specs.Trees.{Sort, FlagSort, NumberSort}
use Rattle.chart_grammar.specs.Limits.{Limits, usual, Counts, event_refused, variable_refused, lifts_from}
use Rattle.chart_grammar.specs.Words.{lit_of}
use Rattle.chart_grammar.specs.Types.{TypeWord, FlagWord, ScaleWord, type_word, no_type, type_refused, named_type}
use Rattle.chart_grammar.specs.Types.{type_name, mode_heads, mode_word, mode, maybe_mode, mode_of_type, sort}
use Rattle.chart_grammar.specs.Declarations.{kind_heads, event_word, event, plain_init, positive_init, negative_init}
use Rattle.chart_grammar.specs.Declarations.{flag_heads, flag_init, init, given_init, missing_init, maybe_init}
use Rattle.chart_grammar.specs.Declarations.{var_word, variable}
use Rattle.chart_grammar.proofs.TypeLaws.{fine_word}
use Rattle.chart_grammar.proofs.LimitLaws.{Comparison, expected, item_alike}
use Rattle.chart_grammar.proofs.LiftedWords.{eased_name, eased_number}

-- ---- a test whose only fault is Expected

-- no fault of the test is lifted, where none but Expected is
expected_alone : (lifts : TokenFault → Bool) → lifts faults.Expected ≡ false → (said : Option TokenFault)
    → ((f : TokenFault) → said ≡ Some f → faults.Expected ≡ f) → said ≡ unless_out lifts said
expected_alone lifts kept None only = refl
expected_alone lifts kept (Some f) only = rw (subst (λ z. lifts z ≡ false) (only f refl) kept) refl

-- a test whose only fault is Expected lifts no limit
pub lifted_expected : {X : Type 0} {k : ℕ} {l : Limits} {g g' : Grammar X} → Comparison k l
    → (set : Set) (test : Lexeme → Option TokenFault)
    → ((t : Lexeme) (f : TokenFault) → test t ≡ Some f → faults.Expected ≡ f) → Lifted (lifts_from k) g g'
    → Lifted (lifts_from k) (allowed set test g) (allowed set test g')
lifted_expected {X} {k} c set test only a =
    lifted_allowed_kept set test test a (λ t there. expected_alone (lifts_from k) (expected c) (test t) (only t))
    (λ t f said. subst (λ z. lifts_from k z ≡ false) (only t f said) (expected c))

-- ---- types

-- a word that names no type is Expected
only_expected : (word : Option TypeWord) (f : TokenFault) → no_type word ≡ Some f → faults.Expected ≡ f
only_expected None f said = cc
only_expected (Some word) f said = absurd cc

module _ {k : ℕ} {l : Limits} (c : Comparison k l) where
  eased_word : Eased (lifts_from k) (allowed (is kinds.Name) type_refused (token kinds.Name))
      (allowed (is kinds.Name) type_refused (token kinds.Name))
  eased_word = record {
    lifted =
        lifted_expected c (is kinds.Name) type_refused (λ t. only_expected (type_word t.text))
        (eased_token (expected c) kinds.Name).lifted;
    sample = fine_word.sample;
  }

  eased_type_name : Eased (lifts_from k) type_name type_name
  unfolding type_name
  eased_type_name = eased_then eased_word (λ t. eased_give (named_type (type_word t.text)))

  eased_mode : Eased (lifts_from k) mode mode
  unfolding mode
  eased_mode = eased_then (eased_one_of (expected c) mode_heads kinds.Wrap refl) (λ t. eased_give (mode_word t.kind))

  eased_maybe_mode : Eased (lifts_from k) maybe_mode maybe_mode
  unfolding maybe_mode
  eased_maybe_mode = eased_either mode_heads eased_mode.lifted (eased_give modes.Saturate)

  eased_mode_of_type : (word : TypeWord) → Eased (lifts_from k) (mode_of_type word) (mode_of_type word)
  eased_mode_of_type FlagWord = eased_give FlagSort
  eased_mode_of_type (ScaleWord scale) = eased_then eased_maybe_mode (λ mode. eased_give (NumberSort scale mode))

  pub eased_sort : Eased (lifts_from k) sort sort
  unfolding sort
  eased_sort = eased_then eased_type_name eased_mode_of_type

  -- ---- events

  pub lifted_event : (n : Counts) → Lifted (lifts_from k) (event usual n) (event l n)
  unfolding event
  lifted_event n =
      lifted_then
      (lifted_allowed (is kinds.Event) (λ t. event_refused usual n) (λ t. event_refused l n)
      (eased_token (expected c) kinds.Event).lifted
      (λ t there. item_alike c things.Events n.events n) (starts_token kinds.Event)) (λ _.
      eased_then (eased_one_of (expected c) kind_heads kinds.Input refl) (λ t.
      eased_then (eased_name c) (λ name.
      eased_then (eased_token (expected c) kinds.Semicolon) (λ _.
      eased_give (record { kind = event_word t.kind; name = name })))))

  -- ---- first values

  eased_positive_init : Eased (lifts_from k) (positive_init usual) (positive_init l)
  unfolding positive_init
  eased_positive_init = eased_then (eased_number c) (λ t. eased_give (plain_init false (lit_of t.text) t.at))

  eased_negative_init : Eased (lifts_from k) (negative_init usual) (negative_init l)
  unfolding negative_init
  eased_negative_init =
      eased_then (eased_token (expected c) kinds.Minus) (λ sign.
      eased_then (eased_number c) (λ t.
      eased_give (plain_init true (lit_of t.text) sign.at)))

  eased_flag_init : Eased (lifts_from k) flag_init flag_init
  unfolding flag_init
  eased_flag_init =
      eased_then (eased_one_of (expected c) flag_heads kinds.True refl) (λ t.
      eased_give (inits.Flag (is kinds.True t.kind) t.at))

  eased_init : Eased (lifts_from k) (init usual) (init l)
  unfolding init
  eased_init =
      eased_either (is kinds.Minus) eased_negative_init.lifted
      (eased_either (is kinds.Number) eased_positive_init.lifted eased_flag_init)

  eased_given_init : Eased (lifts_from k) (given_init usual) (given_init l)
  unfolding given_init
  eased_given_init = eased_then (eased_token (expected c) kinds.Assign) (λ _. eased_init)

  eased_maybe_init : (sort : Sort) (at : Span) → Eased (lifts_from k) (maybe_init usual sort at) (maybe_init l sort at)
  unfolding maybe_init
  eased_maybe_init sort at = eased_either (is kinds.Assign) eased_given_init.lifted (eased_give (missing_init sort at))

  -- ---- data

  pub lifted_variable : (n : Counts) → Lifted (lifts_from k) (variable usual n) (variable l n)
  unfolding variable
  lifted_variable n =
      lifted_then
      (lifted_allowed kind_heads (λ t. variable_refused usual n) (λ t. variable_refused l n)
      (lifted_one_of (expected c) kind_heads)
      (λ t there. item_alike c things.Variables n.variables n) (starts_one_of kind_heads)) (λ t.
      eased_then (eased_name c) (λ name.
      eased_then (eased_token (expected c) kinds.Colon) (λ _.
      eased_then eased_sort (λ sort.
      eased_then (eased_maybe_init sort name.at) (λ init.
      eased_then (eased_token (expected c) kinds.Semicolon) (λ _.
      eased_give (record { kind = var_word t.kind; name = name; sort = sort; init = init })))))))

use Rattle.std.proofs.Common.{List, ℕ, sym, subst}
use Rattle.std.specs.List.{AllPass}
use Rattle.std.specs.Char.{is_ascii_digit}
use Rattle.fixed_point.specs.Reading.{without, after_whole}
use Rattle.fixed_point.proofs.Values.{AllPass-leading, AllPass-behind}
use Rattle.statechart_tokens.proofs.numbers.literal_of.Goals as goal

pub literal_told-requires-clause-whole : goal.literal_told-requires-clause-whole
literal_told-requires-clause-whole c =
    subst (λ (ds : List ℕ). AllPass is_ascii_digit ds) (sym c.in-Some.ensures.whole_is)
    (AllPass-leading (without 45 c.args.text.now))

pub literal_told-requires-clause-behind : goal.literal_told-requires-clause-behind
literal_told-requires-clause-behind c =
    subst (λ (ds : List ℕ). AllPass is_ascii_digit ds) (sym c.in-Some.ensures.behind_is)
    (AllPass-behind (after_whole c.args.text.now))

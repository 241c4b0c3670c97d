use Rattle.std.proofs.Common.{◌≡◌, ◌∙◌, refl, ap, Option, Some, None}
use Rattle.std.specs.Prelude.{option_and_then}
use Rattle.std.specs.Str.Parse.{ExplainsUnsignedError, HasUnsignedDigitsIfOk}
use Rattle.clap.specs.Words.{found_of, one_text}
use Rattle.clap.proofs.WalkLemmas.{one_text-rows}
use Rattle.command_words.specs.Numbers.{Text}
use Rattle.command_words.specs.Asked.{number_in}
use Rattle.command_words.proofs.NumberLemmas.{reads}
use Rattle.command_words.proofs.arguments.number_in.Goals as goal

-- the number of the text that the row has
pub returns : goal.returns
returns c = go (one_text (found_of c.args.given.now) c.args.id.now) refl
    ∙ ap (option_and_then number_in) (one_text-rows (found_of c.args.given.now) c.args.id.now)
  where
    go : (o : Option Text) → one_text (found_of c.args.given.now) c.args.id.now ≡ o
        → c.get_one.result ≡ option_and_then number_in o
    go None e = c.get_one.ensures.none e
    go (Some t) e =
        reads (λ bs r. ExplainsUnsignedError 10 bs r) (λ bs r. HasUnsignedDigitsIfOk bs r) t c.get_one.result
        (c.get_one.ensures.value t e)

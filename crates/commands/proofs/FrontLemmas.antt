-- Proper prefixes of a text that is written piece by piece.
use Rattle.std.proofs.Common.{◌≡◌, ℕ, ◌+◌, List, ◌++◌, length, take, Option, Result, Ok, Err, OnErr}
use Rattle.std.proofs.Common.{subst, sym, ap, ◌∙◌, arith}
use Rattle.std.specs.Io.KnownBytes.{append_known}
use Rattle.std.proofs.lemmas.List.{length-append, take-append-le}
use Rattle.std.proofs.Math.Seq.{take-append-add}
use Rattle.flow_base.specs.Bytes.{AppendsProperFront}
use Rattle.flow_base.proofs.Pieces.{append_known-append}

-- a proper prefix of the first piece is one of the whole
pub front_first : (wrote after : Option (List ℕ)) (text more : List ℕ) → AppendsProperFront wrote after text
    → AppendsProperFront wrote after (text ++ more)
front_first wrote after text more f = record {
  count = f.count;
  proper = omega (arith, f.proper, length-append text more);
  bytes = f.bytes ∙ ap (append_known wrote) (sym (take-append-le f.count text more (omega (arith, f.proper))));
}

-- a proper prefix of the last piece, after the others, is one of the whole
pub front_after : (wrote now after : Option (List ℕ)) (text more : List ℕ) → now ≡ append_known wrote text
    → AppendsProperFront now after more → AppendsProperFront wrote after (text ++ more)
front_after wrote now after text more is f = record {
  count = length text + f.count;
  proper = omega (arith, f.proper, length-append text more);
  bytes = f.bytes ∙ ap (λ (z : Option (List ℕ)). append_known z (take f.count more)) is
      ∙ append_known-append wrote text (take f.count more)
      ∙ ap (append_known wrote) (sym (take-append-add text more f.count));
}

-- one piece was written, and another
pub written_after : (wrote now after : Option (List ℕ)) (text more : List ℕ) → now ≡ append_known wrote text
    → after ≡ append_known now more → after ≡ append_known wrote (text ++ more)
written_after wrote now after text more first second =
    second ∙ ap (λ (z : Option (List ℕ)). append_known z more) first ∙ append_known-append wrote text more

-- the piece that was written is that text
pub written_as : (wrote after : Option (List ℕ)) (piece text : List ℕ) → piece ≡ text → after ≡ append_known wrote piece
    → after ≡ append_known wrote text
written_as wrote after piece text same is = is ∙ ap (append_known wrote) same

-- the piece of which a proper prefix was written is that text
pub front_as : (wrote after : Option (List ℕ)) (piece text : List ℕ) → piece ≡ text
    → AppendsProperFront wrote after piece → AppendsProperFront wrote after text
front_as wrote after piece text same f = subst (AppendsProperFront wrote after) same f

-- what an exit of `?` leaves
pub at_exit : {T E P : Type 0} (result : Result T E) → P → OnErr result P
at_exit (Ok done) p = tt
at_exit (Err failed) p = p

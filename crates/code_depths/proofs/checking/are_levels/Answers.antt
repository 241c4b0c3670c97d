use Rattle.code_language.specs.Code.{code_of}
use Rattle.code_depths.specs.Depths.{NamesWithin, level_of}
use Rattle.code_depths.proofs.Cuts.{at_places}
use Rattle.code_depths.proofs.checking.are_levels.Goals as goal

-- the start and a reaction have level 0, and what each procedure names is within its level
pub returns-then-begins_at_zero : goal.returns-then-begins_at_zero
returns-then-begins_at_zero c h =
    let levels = c.args.levels.now in
    record {
      start = c.begins_at_zero.ensures.start c.if-begins_at_zero.true;
      react = c.begins_at_zero.ensures.react c.if-begins_at_zero.true;
      named = at_places (λ p. NamesWithin levels (level_of levels p)) (code_of c.args.code.now).procedures
          (c.all_within.ensures h);
    }

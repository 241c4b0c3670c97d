use Rattle.chart_code.specs.Bodies.{code_of_chart}
use Rattle.chart_compile.proofs.WellFormed.{is_code}
use Rattle.chart_compile.proofs.laws.the_code_of_a_chart_is_well_formed.Goals as goal

pub returns : goal.returns
returns c chart valid =
    let sound = c.the_code_of_a_chart_is_sound.ensures in
    is_code (code_of_chart chart) (sound.few chart valid) (sound.table chart valid) (sound.starts chart valid)
    (sound.no_fault chart valid) (c.the_code_of_a_chart_is_low.ensures.none_over chart valid)
    (c.the_code_of_a_chart_has_little_work.ensures.none_over chart valid)

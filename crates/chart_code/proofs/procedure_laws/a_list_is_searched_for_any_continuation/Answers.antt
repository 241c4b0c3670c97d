use Rattle.chart_code.proofs.Lists.{searches_from}
use Rattle.chart_code.proofs.procedure_laws.a_list_is_searched_for_any_continuation.Goals as goal

pub returns : goal.returns
returns x c b k S told height proc list numbers junction_numbers h =
    searches_from c b k S told height proc list numbers junction_numbers h

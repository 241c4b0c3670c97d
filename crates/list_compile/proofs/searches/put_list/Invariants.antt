use Rattle.std.proofs.Common.{◌≡◌, ◌+◌, ◌++◌, drop}
use Rattle.checked_chart.specs.Views.{list_seen}
use Rattle.chart_code.specs.ListProcedures.{list_code}
use Rattle.chart_code.specs.Places.{parts_numbers, parts_size}
use Rattle.list_compile.specs.Drafts.{code_seen}
use Rattle.list_compile.specs.Numberings.{chart_in}
use Rattle.list_compile.specs.Searches.{search_seen}
use Rattle.list_compile.proofs.searches.put_list.Given as goal

-- what is written and what is left are what was there and the whole list; the number is that of the next part
abbrev pub invariant-loop-trans : goal.invariant-loop-trans
invariant-loop-trans l = record {
  code :
      code_seen l.code
      ++ list_code (search_seen (chart_in l.numbering) l.search) (list_seen (drop l.trans-index l.list))
      (parts_numbers l.number (list_seen (drop l.trans-index l.list)))
      ≡ code_seen l.initial.code
      ++ list_code (search_seen (chart_in l.numbering) l.search) (list_seen l.list)
      (parts_numbers l.first (list_seen l.list));
  number :
      l.number + parts_size (list_seen (drop l.trans-index l.list)) ≡ l.first + parts_size (list_seen l.list);
}

-- Functions that passes make are those of a file that is made by passes.
use Rattle.std.proofs.Common.{◌≡◌, Bool, false, List, map, refl, arith}
use Rattle.c_subset.specs.declared.trees.Function as declared
use Rattle.c_subset.specs.Trees.{Function, File}
use Rattle.c_functions.specs.Plans.{Shape, react_function}
use Rattle.c_decided.specs.Decided.{Plan}
use Rattle.c_decided.specs.Made as decided
use Rattle.c_decided_runs.specs.Runs.{IsBetween}
use Rattle.c_loops.specs.Loops.{loops_from, with_loops}
use Rattle.c_bare.specs.Needs.{is_bare}
use Rattle.c_bare.specs.Bare.{AreFunctions, AreNeedless, bared_from, with_bare}
use Rattle.c_unread.specs.Unread.{trimmed_of, with_trimmed}
use Rattle.c_pruned.specs.Pruned.{pruned_of, with_pruned}
use Rattle.c_inlined.specs.Files.{IsInlinedFile, AsItIs as NoneIsInlined, Further, AreInlined}
use Rattle.c_passes.specs.Passed.{ArePassed, IsPassed, AsItIs, Decided, Looped, Bared, Trimmed, Pruned, Inlined}

-- the functions that are written, as loops where they may be
pub as_looped : (K : Shape) (file : File) (written made : List declared.Function) → AreFunctions written file.functions
    → ((gs : List Function) → AreFunctions written gs → AreFunctions made (loops_from 0 K.procs gs))
    → ArePassed K file made
as_looped K file written made are loop = record {
  made = with_loops K.procs file;
  passed = Looped K.procs file AsItIs (omega arith);
  are = loop file.functions are;
}

module _ (K : Shape) (file : File) (fs made : List declared.Function) (before : ArePassed K file fs) where
  -- tests are decided
  pub as_decided : (P : Plan) → IsBetween K P
      → ((gs : List Function) → decided.AreFunctions fs gs → decided.AreMadeFunctions P gs made) → ArePassed K file made
  as_decided P between makes =
      let first = before.made in
      let are : decided.AreMadeFunctions P first.functions made =
      makes first.functions (record { count = before.are.count; each = before.are.each }) in
      let after : File = record first { functions = are.functions } in record {
        made = after;
        passed =
            Decided P first after before.passed
            (record { fields = refl; rows = refl; count = are.count; each = are.each }) between;
        are = record { count = are.are.count; each = are.are.each };
      }

  -- functions that need no parameter have none
  pub as_bared : (flags : List Bool) → ((gs : List Function) → AreFunctions fs gs → AreNeedless flags gs)
      → is_bare flags (react_function K) ≡ false
      → ((gs : List Function) → AreFunctions fs gs → AreFunctions made (bared_from flags 0 gs)) → ArePassed K file made
  as_bared flags needless reaction bares =
      let first = before.made in record {
        made = with_bare flags first;
        passed = Bared flags first before.passed (needless first.functions before.are) reaction;
        are = bares first.functions before.are;
      }

  -- sets that nothing reads are gone
  pub as_trimmed : ((gs : List Function) → AreFunctions fs gs → AreFunctions made (map trimmed_of gs))
      → ArePassed K file made
  as_trimmed trims = record {
    made = with_trimmed before.made;
    passed = Trimmed before.made before.passed;
    are = trims before.made.functions before.are;
  }

  -- so is what nobody needs of an `if`
  pub as_pruned : ((gs : List Function) → AreFunctions fs gs → AreFunctions made (map pruned_of gs))
      → ArePassed K file made
  as_pruned prunes = record {
    made = with_pruned before.made;
    passed = Pruned before.made before.passed;
    are = prunes before.made.functions before.are;
  }

  -- calls are replaced in one function after the other
  inlined_after : (last : File) → IsInlinedFile before.made last → IsPassed K file last
  inlined_after _ NoneIsInlined = before.passed
  inlined_after _ (Further p f next more is) = Inlined p f next (inlined_after next more) is

  pub as_inlined : ((other : File) → AreFunctions fs other.functions → AreInlined other made)
      → ArePassed K file made
  as_inlined inlines =
      let next : AreInlined before.made made = inlines before.made before.are in record {
        made = next.made;
        passed = inlined_after next.made next.inlined;
        are = next.are;
      }

-- That one of both files is a file of the chart's C.
use Rattle.std.proofs.Common.{◌≡◌, List, ℕ, sym, subst}
use Rattle.std.specs.Prelude.{String, string_bytes}
use Rattle.std.specs.declared.alloc.Global.{Global}
use Rattle.checked_chart.specs.Chart.{Chart}
use Rattle.c_header.specs.declared.identity.Identity.{Identity}
use Rattle.c_file.specs.declared.file.CFiles.{CFiles}
use Rattle.c_file.specs.Files.{IsC}
use Rattle.c_program.specs.declared.files.CFile.{CFile}
use Rattle.c_program.specs.declared.files.CFile.TheVariants.{Header, Source}
use Rattle.c_program.specs.Texts.{IsFileOf, chosen}

-- each of both files is one of the C, beside the other one
pub chosen_is : (file : CFile) (c : Chart) (identity : Identity) (made : CFiles) (text : String Global)
    → text ≡ chosen file made → IsC c identity (string_bytes made.header) (string_bytes made.source)
    → IsFileOf file c identity (string_bytes text)
chosen_is Header c identity made text is both =
    subst (λ (t : String Global). IsFileOf Header c identity (string_bytes t)) (sym is)
    (string_bytes made.source, both)
chosen_is Source c identity made text is both =
    subst (λ (t : String Global). IsFileOf Source c identity (string_bytes t)) (sym is)
    (string_bytes made.header, both)

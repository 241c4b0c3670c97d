use Rattle.c_file.proofs.OneText.{one_text}
use Rattle.c_file.proofs.laws.the_source_for_code_is_one.Goals as goal

pub returns : goal.returns
returns c chart tests limits room code origins tags identity facts facts' functions written written' changing changing' order =
    one_text _ functions _ identity _ _ _ facts facts' written written' changing changing' order

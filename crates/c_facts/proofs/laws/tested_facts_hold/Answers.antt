use Rattle.c_facts.proofs.Testing.{tested-hold}
use Rattle.c_facts.proofs.laws.tested_facts_hold.Goals as goal

pub returns : goal.returns
returns c int known e way s l x h m t = tested-hold int s l e way known x m t h

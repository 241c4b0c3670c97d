use Rattle.std.proofs.Common.{subst}
use Rattle.code_language.proofs.Notes.{IsHead, noted_head}
use Rattle.code_language.proofs.simulation_laws.play_finds_the_pending_notes.Goals as goal

pub returns-clause-none : goal.returns-clause-none
returns-clause-none x k frames e = subst (IsHead k frames) e (noted_head k frames)

pub returns-clause-first : goal.returns-clause-first
returns-clause-first x k i p frames e = subst (IsHead k frames) e (noted_head k frames)

use Rattle.code_language.proofs.AssignLemmas.{can_assign, can_test}
use Rattle.code_language.proofs.MomentLemmas.{step_sound, ahead_sound, top_instr}
use Rattle.code_language.proofs.StartLemmas.{written_named, can_react, start_moment, reaction_moment}
use Rattle.code_language.proofs.cost_laws.moments_are_sound.Goals as goal

pub returns-clause-written : goal.returns-clause-written
returns-clause-written c raw = written_named raw

pub returns-clause-start : goal.returns-clause-start
returns-clause-start c k b is named = start_moment k b is named

pub returns-clause-reaction : goal.returns-clause-reaction
returns-clause-reaction c k b w e is fits event = reaction_moment k b is w e fits event

pub returns-clause-events : goal.returns-clause-events
returns-clause-events c n e can = can_react n e can

pub returns-clause-step : goal.returns-clause-step
returns-clause-step c k b m is h = step_sound k b is m h

pub returns-clause-moments : goal.returns-clause-moments
returns-clause-moments c k b n m is h = ahead_sound k b is n m h

pub returns-clause-instruction : goal.returns-clause-instruction
returns-clause-instruction c k b m f fs is h e = top_instr k b is m f fs h e

pub returns-clause-assign : goal.returns-clause-assign
returns-clause-assign c k b w v e ok h = can_assign k b w ok v e h

pub returns-clause-test : goal.returns-clause-test
returns-clause-test c k b w j e ok h = can_test k b w ok j e h

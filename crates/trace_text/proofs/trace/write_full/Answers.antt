use Rattle.trace_text.proofs.PieceLemmas.{put_first, ends_written, ends_front, ends_cause}
use Rattle.trace_text.proofs.trace.write_full.Goals as goal

pub returns-clause-ok : goal.returns-clause-ok
returns-clause-ok g c =
    ends_written _ _ _ _ _ c.finish.result
    (c.finish.ensures.written _ _ _ (put_first _ _ _ _ _ _ _ c.new-pieces.ensures c.put_full.ensures))

pub returns-clause-failed : goal.returns-clause-failed
returns-clause-failed g c =
    ends_front _ _ _ _ _ c.finish.result
    (c.finish.ensures.written _ _ _ (put_first _ _ _ _ _ _ _ c.new-pieces.ensures c.put_full.ensures))

pub returns-clause-cause : goal.returns-clause-cause
returns-clause-cause g c =
    ends_cause _ _ _ _ _ c.finish.result
    (c.finish.ensures.written _ _ _ (put_first _ _ _ _ _ _ _ c.new-pieces.ensures c.put_full.ensures))

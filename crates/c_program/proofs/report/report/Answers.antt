use Rattle.c_program.proofs.report.report.Goals as goal

-- the line of `Usage`
pub returns-in-Usage-clause-ok : goal.returns-in-Usage-clause-ok
returns-in-Usage-clause-ok g c = rw c.in-Usage.is c.write_all.ensures.ok

-- the line of `Usage`, where a write fails
pub returns-in-Usage-clause-failed : goal.returns-in-Usage-clause-failed
returns-in-Usage-clause-failed g c = rw c.in-Usage.is c.write_all.ensures.failed

-- the line of `Read`
pub returns-in-Read-clause-ok : goal.returns-in-Read-clause-ok
returns-in-Read-clause-ok g c = rw c.in-Read.is c.write_all-in-Read.ensures.ok

-- the line of `Read`, where a write fails
pub returns-in-Read-clause-failed : goal.returns-in-Read-clause-failed
returns-in-Read-clause-failed g c = rw c.in-Read.is c.write_all-in-Read.ensures.failed

-- the line of `Write`
pub returns-in-Write-clause-ok : goal.returns-in-Write-clause-ok
returns-in-Write-clause-ok g c = rw c.in-Write.is c.write_all-in-Write.ensures.ok

-- the line of `Write`, where a write fails
pub returns-in-Write-clause-failed : goal.returns-in-Write-clause-failed
returns-in-Write-clause-failed g c = rw c.in-Write.is c.write_all-in-Write.ensures.failed

-- the line of `Memory`
pub returns-in-Memory-clause-ok : goal.returns-in-Memory-clause-ok
returns-in-Memory-clause-ok g c = rw c.in-Memory.is c.write_all-in-Memory.ensures.ok

-- the line of `Memory`, where a write fails
pub returns-in-Memory-clause-failed : goal.returns-in-Memory-clause-failed
returns-in-Memory-clause-failed g c = rw c.in-Memory.is c.write_all-in-Memory.ensures.failed

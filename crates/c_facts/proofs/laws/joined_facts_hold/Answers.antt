use Rattle.c_facts.proofs.Holding.{joined-holds-first, joined-holds-second, covers-holds, never-holds}
use Rattle.c_facts.proofs.laws.joined_facts_hold.Goals as goal

pub returns-clause-either : goal.returns-clause-either
returns-clause-either c a b = (λ s h. joined-holds-first s a b h, λ s h. joined-holds-second s a b h)

pub returns-clause-follows : goal.returns-clause-follows
returns-clause-follows c a b e s h = covers-holds s a b e h

pub returns-clause-never : goal.returns-clause-never
returns-clause-never c a e s h = never-holds s a e h

-- `due_of` goes by the number.
use borrow.Author.Tests.{ne_eqb}
use Rattle.shurtenbo.specs.Records.{due_of}
use Rattle.shurtenbo.proofs.records.due_of.Goals as goal

pub returns-in-0 : goal.returns-in-0
unfolding due_of
returns-in-0 c = rw c.in-0.is

pub returns-in-1 : goal.returns-in-1
unfolding due_of
returns-in-1 c = rw c.in-1.is

pub returns-in-2 : goal.returns-in-2
unfolding due_of
returns-in-2 c = rw c.in-2.is

pub returns-in_default : goal.returns-in_default
unfolding due_of
returns-in_default c = let r = c.in_default.in_default-own.rest in
    rw (ne_eqb _ 0 r.0.0.1, ne_eqb _ 1 r.0.1, ne_eqb _ 2 r.1)

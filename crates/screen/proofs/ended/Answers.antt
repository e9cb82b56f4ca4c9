-- `ended` goes by the end of the paths.
use Rattle.screen.specs.Parts.{ended_of}
use Rattle.screen.proofs.ended.Goals as goal

pub returns-in-Inside : goal.returns-in-Inside
unfolding ended_of
returns-in-Inside c = rw c.in-Inside.is

pub returns-in-Past : goal.returns-in-Past
unfolding ended_of
returns-in-Past c = rw c.in-Past.is

pub returns-in-NotRun : goal.returns-in-NotRun
unfolding ended_of
returns-in-NotRun c = rw c.in-NotRun.is

-- The wait is found, its part resumed, then come the statements behind it. Assumes nothing.
use Rattle.std.proofs.Common.{arith}
use Rattle.direct_statements.proofs.ResumeLaws.{nowhere, waited_stands, within_stands}
use Rattle.direct_statements.proofs.blocks.+resume.Goals as goal

pub resume-r-requires : goal.resume-r-requires
resume-r-requires t c =
    let u = rw c.in-Part.is at c.inside-p.ensures.inside_rows in
    (omega arith, (omega arith, omega arith))

pub returns-in-Nothing-clause-resumes : goal.returns-in-Nothing-clause-resumes
returns-in-Nothing-clause-resumes t c = nowhere _ _ _ _ _ _ _ _ _ _ c.inside-p.ensures.resumes_at _ c.in-Nothing.is

pub returns-in-Wait-clause-resumes : goal.returns-in-Wait-clause-resumes
returns-in-Wait-clause-resumes t c =
    waited_stands _ _ _ _ _ _ _ _ _ _ c.inside-p.ensures.resumes_at _ _ _ _ c.in-Wait.is c.start.ensures.starts

pub returns-in-Part-clause-resumes : goal.returns-in-Part-clause-resumes
returns-in-Part-clause-resumes t c =
    within_stands _ _ _ _ _ _ _ _ _ _ c.inside-p.ensures.resumes_at _ _ _ _ _ _ _ _ _ c.in-Part.is c.resume-r.ensures.resumes
    c.go_on.ensures.goes_on

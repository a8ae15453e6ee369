use Rattle.words.proofs.cell.three_of.Goals as goal

pub returns-in-Absent : goal.returns-in-Absent
returns-in-Absent c = cc

pub returns-in-Range : goal.returns-in-Range
returns-in-Range c = cc

pub returns-in-Unknown : goal.returns-in-Unknown
returns-in-Unknown c = cc

use Rattle.start.specs.Inputs.{ChunksDeclared}
use Rattle.start.proofs.declare.Given as goal

abbrev pub invariant-loop-c : goal.invariant-loop-c
invariant-loop-c l = ChunksDeclared l.s l.initial.ws l.ws l.c

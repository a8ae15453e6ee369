use Rattle.start.specs.Inputs.{InputsIn}
use Rattle.start.proofs.declare_inputs.Given as goal

abbrev pub invariant-loop-k : goal.invariant-loop-k
invariant-loop-k l = InputsIn l.s l.initial.ws l.ws l.c l.k

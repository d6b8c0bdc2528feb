use Rattle.vimtrosh.specs.States.{SameSizes, HandedBack}
use Rattle.vimtrosh.proofs.running.run_commands.Given as goal

abbrev pub invariant-loop : goal.invariant-loop
invariant-loop g l = SameSizes l.fn.state l.state × HandedBack l.fn.m l.m
